-- The places that a toggle, a change of blocks and a wrapping name are there.
use Rattle.std.proofs.Common.{◌≡◌, ◌≢◌, ℕ, ◌+◌, ◌-◌, ◌≤◌, Bool, true, false, not, ◌&&◌, if◌then◌else◌, cond, List, [], ◌∷◌, ◌++◌, map, filter, length, Option}
use Rattle.std.proofs.Common.{Some, None, is_some, unwrap_or, option_map, slice_get, refl, sym, ap, ◌∙◌, arith}
use Rattle.std.proofs.lemmas.List.{length-map}
use Rattle.std.proofs.lemmas.List.FromFn.{length-range_with_len}
use Rattle.std.specs.Option.{option_map_or}
use Rattle.std.specs.List.{flat_map, range_with_len, prefix_len, last_or, list_all}
use Rattle.std.specs.Str.{bytes_eq}
use Rattle.ck_base.specs.declared.value.Value.{Value as AttributeValue}
use Rattle.item_definitions.specs.Item.{Item, Attributes}
use Rattle.item_definitions.specs.Children.{parent_of, offset_of, child_count, item_at, walk}
use Rattle.item_definitions.specs.Position.{Range, behind, holds, not_after}
use Rattle.item_definitions.specs.Shift.{forward}
use Rattle.item_definitions.proofs.Paths.{path-joined}
use Rattle.item_definitions.proofs.Minimal.{not_after-trans}
use Rattle.operation_definitions.proofs.Names.{same_numbers, numbers_same}
use Rattle.schema_definitions.specs.Allowed.{Rules}
use Rattle.breach_definitions.specs.Breach.{item_name}
use Rattle.document_definitions.specs.Selection.{same_position}
use Rattle.document_definitions.specs.Document.{State}
use Rattle.edit_definitions.specs.declared.edit.Edit.TheVariants.{SetAttribute, Rename, Wrap as WrapRun, Unwrap}
use Rattle.edit_definitions.specs.declared.edit.Target.TheVariants.{Element as OfElement}
use Rattle.edit_definitions.specs.Places.{is_there, is_range, is_element}
use Rattle.edit_definitions.specs.Performed.{all_performed}
use Rattle.edit_definitions.proofs.Reached.{found, one-there}
use Rattle.edit_definitions.proofs.Stay.{element-part}
use Rattle.command_definitions.specs.Places.{allows, allows_key, is_before_it}
use Rattle.command_definitions.specs.Fitting.{is_in_text, fits, fitting, from_here_on, run_from, longest_runs}
use Rattle.command_definitions.specs.Blocks.{has_name, elements, is_selected_block, selected_blocks, are_neighbours, may_stand_in, may_be_wrapped, are_wrapped}
use Rattle.command_definitions.specs.Table.{given, block_made, blocks_wrapped}
use Rattle.command_definitions.specs.Finding.{FindsPlaces}
use Rattle.command_definitions.proofs.Carets.{forward-is}
use Rattle.command_definitions.proofs.Finding.{last-finds, wrap-finds, unwrap-finds}
use Rattle.command_definitions.proofs.AtCaret.{named-element, element-range, element-position, offsets-range}
use Rattle.command_definitions.proofs.Still.{AreStillEdits, still-edits-append}

-- what holds of each path of a list
abbrev pub Each : (List ℕ → Type 0) → List (List ℕ) → Type 0
Each P [] = Unit {0}
Each P (path ∷ paths) = P path × Each P paths

each-filtered : (P : List ℕ → Type 0) (test : List ℕ → Bool) (paths : List (List ℕ)) → Each P paths → Each P (filter test paths)
each-filtered P test [] h = tt
each-filtered P test (path ∷ paths) h = go (test path) (each-filtered P test paths h.1)
  where
    go : (t : Bool) → Each P (filter test paths) → Each P (cond t (path ∷ filter test paths) (filter test paths))
    go true rest = (h.0, rest)
    go false rest = rest

pub each-passes : (P : List ℕ → Type 0) (test : List ℕ → Bool) → ((path : List ℕ) → test path ≡ true → P path) → (paths : List (List ℕ))
    → Each P (filter test paths)
each-passes P test h [] = tt
each-passes P test h (path ∷ paths) = go (test path) refl (each-passes P test h paths)
  where
    go : (t : Bool) → test path ≡ t → Each P (filter test paths) → Each P (cond t (path ∷ filter test paths) (filter test paths))
    go true e rest = (h path e, rest)
    go false e rest = rest

pub each-also : (P Q : List ℕ → Type 0) (test : List ℕ → Bool) → ((path : List ℕ) → P path → test path ≡ true → Q path) → (paths : List (List ℕ)) → Each P paths
    → Each Q (filter test paths)
each-also P Q test h [] k = tt
each-also P Q test h (path ∷ paths) k = go (test path) refl (each-also P Q test h paths k.1)
  where
    go : (t : Bool) → test path ≡ t → Each Q (filter test paths) → Each Q (cond t (path ∷ filter test paths) (filter test paths))
    go true e rest = (h path k.0 e, rest)
    go false e rest = rest

-- ---- runs

-- an item stands at a path
abbrev pub Stands : List Item → List ℕ → Type 0
Stands items path = is_some (item_at path items) ≡ true

pub fit-stands : (rules : Rules) (key : List ℕ) (items : List Item) (range : Range) (path : List ℕ) → fits rules key items range path ≡ true → Stands items path
fit-stands rules key items range path e = go (holds range path) (item_at path items) e
  where
    go : (t : Bool) (o : Option Item) → (t && option_map_or (λ item. is_in_text rules item && allows_key rules items path (item_name item) key) o false)
        ≡ true → is_some o ≡ true
    go true None e = absurd cc
    go true (Some item) e = refl
    go false o e = absurd cc

prefix-fits : (test : List ℕ → Bool) (paths : List (List ℕ)) → prefix_len test paths ≤ length paths
prefix-fits test [] = omega arith
prefix-fits test (path ∷ paths) = go (test path) (prefix-fits test paths)
  where
    go : (t : Bool) → prefix_len test paths ≤ length paths → cond t (1 + prefix_len test paths) 0 ≤ length (path ∷ paths)
    go true rest = omega (arith, rest)
    go false rest = omega arith

run-there : (test : List ℕ → Bool) (items : List Item) (path : List ℕ) → Stands items path
    → is_range items (run_from test items path).start (run_from test items path).end ≡ true
run-there test items path e = go (item_at path items) refl e
  where
    whole : (item : Item) → item_at path items ≡ Some item → is_range items path (forward (prefix_len test (from_here_on items path)) path) ≡ true
    whole item here =
        let f = found path items item here in
        let parent = parent_of path in
        let offset = offset_of path in
        let joined = path-joined path f.some in
        let count = prefix_len test (from_here_on items path) in
        let room = (one-there offset f.level item f.here).0 in
        let children : unwrap_or (child_count items parent) 0 ≡ length f.level = ap (λ (o : Option (List Item)). unwrap_or (option_map length o) 0) f.there in
        let long : length (from_here_on items path) ≡ length f.level - offset =
        length-map (range_with_len offset (unwrap_or (child_count items parent) 0 - offset)) (λ n. parent ++ n ∷ [])
        ∙ length-range_with_len offset (unwrap_or (child_count items parent) 0 - offset)
        ∙ ap (λ n. n - offset) children in
        let most = prefix-fits test (from_here_on items path) in
        (λ t. is_range items (joined t) (forward count (joined t))) ∙ ap (is_range items (parent ++ offset ∷ [])) (forward-is count parent offset)
        ∙ offsets-range items parent offset (offset + count) f.level f.there (omega arith) (omega (arith, most, long, room))

    go : (o : Option Item) → item_at path items ≡ o → is_some o ≡ true → is_range items path (forward (prefix_len test (from_here_on items path)) path) ≡ true
    go None here e = absurd cc
    go (Some item) here e = whole item here

given-runs : (items : List Item) (test : List ℕ → Bool) (key : List ℕ) (value : Option AttributeValue) (paths : List (List ℕ)) → Each (Stands items) paths
    → AreStillEdits items (map (given key value) (map (run_from test items) paths))
given-runs items test key value [] h = tt
given-runs items test key None (path ∷ paths) h = (run-there test items path h.0, given-runs items test key None paths h.1)
given-runs items test key (Some value) (path ∷ paths) h = (run-there test items path h.0, given-runs items test key (Some value) paths h.1)

pub runs-still : (rules : Rules) (key : List ℕ) (items : List Item) (range : Range) (value : Option AttributeValue)
    → AreStillEdits items (map (given key value) (longest_runs (fits rules key items range) items (fitting rules key items range)))
runs-still rules key items range value =
    given-runs items (fits rules key items range) key value (filter (λ path. not (is_before_it (fits rules key items range) path))
    (fitting rules key items range))
    (each-filtered (Stands items) (λ path. not (is_before_it (fits rules key items range) path)) (fitting rules key items range)
    (each-passes (Stands items) (fits rules key items range) (fit-stands rules key items range) (map (λ entry. entry.0) (walk items))))

-- ---- blocks

-- the root, or an element
abbrev IsRootOrElement : List Item → List ℕ → Type 0
IsRootOrElement items path = path ≢ [] → is_element items path ≡ true

each-element : (items : List Item) → Each (IsRootOrElement items) (elements items)
each-element items = (
  (λ some. absurd (some refl)),
  each-passes (IsRootOrElement items) (is_element items) (λ path e some. e)
      (map (λ entry. entry.0) (walk items)),
)

blocks-elements : (rules : Rules) (items : List Item) (range : Range) → Each (IsRootOrElement items) (selected_blocks rules items range)
blocks-elements rules items range = each-filtered (IsRootOrElement items) (is_selected_block rules items range) (elements items) (each-element items)

allowed-some : (rules : Rules) (items : List Item) (name path : List ℕ) → allows rules items path name ≡ true → path ≢ []
allowed-some rules items name [] e = absurd cc
allowed-some rules items name (index ∷ path) e = λ same. cc

made-still : (items : List Item) (name path : List ℕ) (attributes : Attributes) → is_element items path ≡ true
    → AreStillEdits items (block_made items name attributes path)
made-still items name path attributes e =
    still-edits-append items (if has_name items name path then [] else Rename path name ∷ [])
    (map (λ entry. SetAttribute (OfElement path) entry.0 entry.1) attributes) (first (has_name items name path)) (rest attributes)
  where
    first : (t : Bool) → AreStillEdits items (if t then [] else Rename path name ∷ [])
    first true = tt
    first false = (e, tt)

    rest : (attributes : Attributes) → AreStillEdits items (map (λ entry. SetAttribute (OfElement path) entry.0 entry.1) attributes)
    rest [] = tt
    rest (entry ∷ attributes) = (e, rest attributes)

all-made : (items : List Item) (name : List ℕ) (attributes : Attributes) (paths : List (List ℕ)) → Each (λ path. is_element items path ≡ true) paths
    → AreStillEdits items (flat_map (block_made items name attributes) paths)
all-made items name attributes [] h = tt
all-made items name attributes (path ∷ paths) h =
    still-edits-append items (block_made items name attributes path) (flat_map (block_made items name attributes) paths)
    (made-still items name path attributes h.0) (all-made items name attributes paths h.1)

pub blocks-still : (rules : Rules) (items : List Item) (range : Range) (name : List ℕ) (attributes : Attributes)
    → AreStillEdits items (flat_map (block_made items name attributes) (filter (λ path. allows rules items path name) (selected_blocks rules items range)))
blocks-still rules items range name attributes =
    all-made items name attributes (filter (λ path. allows rules items path name) (selected_blocks rules items range))
    (each-also (IsRootOrElement items) (λ path. is_element items path ≡ true) (λ path. allows rules items path name)
    (λ path h e. h (allowed-some rules items name path e)) (selected_blocks rules items range)
    (blocks-elements rules items range))

-- ---- wrapping

both : (a b : Bool) → (a && b) ≡ true → (a ≡ true) × (b ≡ true)
both true b e = (refl, e)
both false b e = absurd cc

three-of : (a b c : Bool) → (a && b && c) ≡ true → (a ≡ true) × (b ≡ true) × (c ≡ true)
three-of true true c e = (refl, refl, e)
three-of true false c e = absurd cc
three-of false b c e = absurd cc

behind-some : (path : List ℕ) → path ≢ [] → behind path ≢ []
behind-some [] some = absurd (some refl)
behind-some (index ∷ []) some = λ same. cc
behind-some (index ∷ next ∷ path) some = λ same. cc

-- neighbours are a flat range from the first to behind the last
record IsRunOf (items : List Item) (start end : List ℕ) : Type 0 where
  pub range : is_range items start end ≡ true
  pub one : parent_of start ≡ parent_of end

run-of : (items : List Item) (path : List ℕ) (paths : List (List ℕ)) → path ≢ [] → Each (IsRootOrElement items) (path ∷ paths)
    → are_neighbours (path ∷ paths) ≡ true
    → IsRunOf items path (behind (unwrap_or (last_or (Some path) paths) []))
run-of items path [] some h e =
    let part = element-part items path (h.0 some) in
    record { range = element-range items path (h.0 some); one = part.flat }
run-of items path (next ∷ paths) some h e =
    let n = both (same_position next (behind path)) (are_neighbours (next ∷ paths)) e in
    let same : next ≡ behind path = same_numbers next (behind path) n.0 in
    let rest = run-of items next paths (λ none. behind-some path some (sym same ∙ none)) h.1 n.1 in
    let end = behind (unwrap_or (last_or (Some next) paths) []) in
    let part = element-part items path (h.0 some) in
    let parts = three-of (is_there items next) (is_there items end) (not_after next end) rest.range in
    record {
      range = (λ t. element-position items path (h.0 some) t && parts.1 t && not_after-trans path next end (ap (not_after path) same ∙ part.ordered) parts.2 t);
      one = part.flat ∙ ap parent_of (sym same) ∙ rest.one;
    }

module _ (registered : List ℕ → Bool) (number : ℕ) (state : State) where
  pub wrapped-finds : (rules : Rules) (range : Range) (name : List ℕ)
      → may_be_wrapped rules state.document.items name (selected_blocks rules state.document.items range) ≡ true
      → FindsPlaces (all_performed registered number (blocks_wrapped name (selected_blocks rules state.document.items range)) state)
  wrapped-finds rules range name e = go (selected_blocks rules state.document.items range) (blocks-elements rules state.document.items range) e
    where
      go : (blocks : List (List ℕ)) → Each (IsRootOrElement state.document.items) blocks → may_be_wrapped rules state.document.items name blocks ≡ true
          → FindsPlaces (all_performed registered number (blocks_wrapped name blocks) state)
      go [] h e = absurd cc
      go (path ∷ paths) h e =
          let p = three-of (are_neighbours (path ∷ paths)) (allows rules state.document.items path name)
          (list_all (may_stand_in rules state.document.items name) (path ∷ paths)) e in
          let end = behind (unwrap_or (last_or (Some path) paths) []) in
          let run = run-of state.document.items path paths (allowed-some rules state.document.items name path p.1) h p.0 in
          last-finds registered number (WrapRun path end name []) state
          (wrap-finds registered number state path end name [] (λ t. run.range t && numbers_same (parent_of path) (parent_of end) run.one t))

  pub unwrapped-finds : (name : List ℕ) (blocks : List (List ℕ)) → are_wrapped state.document.items name blocks ≡ true
      → FindsPlaces (all_performed registered number (Unwrap (parent_of (unwrap_or (slice_get blocks 0) [])) ∷ []) state)
  unwrapped-finds name [] e = absurd cc
  unwrapped-finds name (path ∷ paths) e =
      last-finds registered number (Unwrap (parent_of path)) state
      (unwrap-finds registered number state (parent_of path) (named-element (bytes_eq name) state.document.items (parent_of path) e))
