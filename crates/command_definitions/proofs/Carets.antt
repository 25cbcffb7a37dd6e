-- What goes at a caret is there, and so is what a neighbour is reached by.
use Rattle.std.proofs.Common.{◌≡◌, ◌≢◌, ℕ, zero, suc, ◌+◌, ◌<◌, ◌≤◌, Bool, true, false, not, ◌&&◌, ◌==◌, nat_lt, if◌then◌else◌, List, [], ◌∷◌, ◌++◌, length}
use Rattle.std.proofs.Common.{drop, Option, Some, None, unwrap_or, option_and_then, slice_get, refl, sym, ap, ◌∙◌, arith, length-drop}
use Rattle.std.proofs.lemmas.Bool.Decides.{nat_tests}
use Rattle.std.specs.Option.{option_or}
use Rattle.std.specs.Str.{all_scalars}
use Rattle.item_definitions.specs.Item.{Item, Attributes, character, element}
use Rattle.item_definitions.specs.Children.{parent_of, offset_of}
use Rattle.item_definitions.specs.Position.{behind, path_before}
use Rattle.item_definitions.specs.Shift.{forward}
use Rattle.item_definitions.proofs.Paths.{path-joined}
use Rattle.schema_definitions.specs.Allowed.{Rules, is_block, is_limit, is_object}
use Rattle.model_tree.proofs.Shown.{item_last}
use Rattle.document_definitions.specs.Selection.{before}
use Rattle.document_definitions.specs.Document.{State}
use Rattle.edit_definitions.specs.declared.edit.Edit.{Edit}
use Rattle.edit_definitions.specs.declared.edit.Edit.TheVariants.{Remove, Merge}
use Rattle.edit_definitions.specs.Places.{is_there, is_range, is_element}
use Rattle.edit_definitions.specs.Performed.{all_performed}
use Rattle.edit_definitions.proofs.Reached.{has-room}
use Rattle.command_definitions.specs.Places.{is_object_at, is_plain_block_at, is_before_it, backward}
use Rattle.command_definitions.specs.Clusters.{leading, text_before, text_behind, first_cluster, last_cluster, HaveScalars}
use Rattle.command_definitions.specs.Deleting.{when, item_selected, neighbour_reached, starts_block, ends_block, is_character_at, deleted_backward}
use Rattle.command_definitions.specs.Deleting.{deleted_forward}
use Rattle.command_definitions.specs.Finding.{FindsPlaces}
use Rattle.command_definitions.proofs.ClusterSizes.{first-fits}
use Rattle.command_definitions.proofs.Finding.{last-finds, remove-finds, merge-finds, select-finds}
use Rattle.command_definitions.proofs.AtCaret.{named-element, element-range, element-position, behind-before, behind-offset, offsets-range, backward-range}

-- the edits of a case, where it holds
abbrev pub CaseFinds : (List ℕ → Bool) → State → Option (List Edit) → Type 0
CaseFinds registered state None = Unit {0}
CaseFinds registered state (Some edits) = FindsPlaces (all_performed registered 1 edits state)

-- ---- the first cluster behind a caret

pub forward-is : (count : ℕ) (parent : List ℕ) (offset : ℕ) → forward count (parent ++ offset ∷ []) ≡ parent ++ (offset + count) ∷ []
forward-is count [] offset = refl
forward-is count (step ∷ []) offset = refl
forward-is count (step ∷ next ∷ parent) offset = ap (λ path. step ∷ path) (forward-is count (next ∷ parent) offset)

get-drop : (offset index : ℕ) (xs : List Item) → slice_get (drop offset xs) index ≡ slice_get xs (offset + index)
get-drop zero index xs = ap (slice_get xs) (same index)
  where
    same : (n : ℕ) → n ≡ 0 + n
    same n = omega arith
get-drop (suc offset) index [] = refl
get-drop (suc offset) index (x ∷ xs) = get-drop offset index xs ∙ ap (slice_get (x ∷ xs)) (next offset index)
  where
    next : (a b : ℕ) → suc (a + b) ≡ suc a + b
    next a b = omega arith

-- each character of a list is a scalar value
abbrev AreScalars : List Item → Type 0
AreScalars items = (index scalar : ℕ) (attributes : Attributes) → slice_get items index ≡ Some (character scalar attributes) → all_scalars (scalar ∷ []) ≡ true

leading-scalars : (items : List Item) → AreScalars items → all_scalars (leading items) ≡ true
leading-scalars [] h = refl
leading-scalars (character scalar attributes ∷ items) h = joined _ (all_scalars (leading items)) (h 0 scalar attributes refl)
    (leading-scalars items (λ index. h (suc index)))
  where
    joined : (a b : Bool) → (a && true) ≡ true → b ≡ true → (a && b) ≡ true
    joined true b e f = f
    joined false b e f = e
leading-scalars (element id name attributes children ∷ items) h = refl

leading-fits : (items : List Item) → length (leading items) ≤ length items
leading-fits [] = omega arith
leading-fits (character scalar attributes ∷ items) = (let rest = leading-fits items in omega (arith, rest))
leading-fits (element id name attributes children ∷ items) = omega arith

cluster-range : (items : List Item) (caret : List ℕ) → HaveScalars items → is_there items caret ≡ true
    → is_range items caret (forward (first_cluster (text_behind items caret)) caret) ≡ true
cluster-range items caret scalars there =
    let r = has-room items caret there in
    let parent = parent_of caret in
    let offset = offset_of caret in
    let whole = path-joined caret r.some in
    let text = leading (drop offset r.level) in
    let same : text_behind items caret ≡ text = ap (λ (o : Option (List Item)). leading (drop offset (unwrap_or o []))) r.there in
    let each : AreScalars (drop offset r.level) =
    λ index scalar attributes e. scalars (parent ++ (offset + index) ∷ []) scalar attributes
    (sym (item_last parent (offset + index) (parent ++ (offset + index) ∷ []) items r.level refl r.there) ∙ sym (get-drop offset index r.level) ∙ e) in
    let short = first-fits text (leading-scalars (drop offset r.level) each) in
    let most = leading-fits (drop offset r.level) in
    let room = r.room in
    (λ t. is_range items (whole t) (forward (first_cluster (same t)) (whole t)))
    ∙ ap (is_range items (parent ++ offset ∷ [])) (forward-is (first_cluster text) parent offset)
    ∙ offsets-range items parent offset (offset + first_cluster text) r.level r.there (omega arith)
    (omega (arith, short, most, room, length-drop offset r.level))

module _ (registered : List ℕ → Bool) (state : State) where
  or-finds : (a b : Option (List Edit)) → CaseFinds registered state a → CaseFinds registered state b → CaseFinds registered state (option_or a b)
  or-finds None b h k = k
  or-finds (Some edits) b h k = h

  when-finds : (t : Bool) (edits : List Edit) → (t ≡ true → FindsPlaces (all_performed registered 1 edits state)) → CaseFinds registered state (when t edits)
  when-finds true edits h = h refl
  when-finds false edits h = tt

  -- an element other than the first is merged into the one before
  merged-finds : (path : List ℕ) → path ≢ [] → (0 < offset_of path) → is_element state.document.items (path_before path) ≡ true
      → is_element state.document.items path ≡ true
      → FindsPlaces (all_performed registered 1 (Merge path ∷ []) state)
  merged-finds path some second left right =
      last-finds registered 1 (Merge path) state
      (merge-finds registered 1 state path (element-position state.document.items path right) (λ t. positive (offset_of path) second t && left t && right t))
    where
      positive : (n : ℕ) → 0 < n → nat_lt 0 n ≡ true
      positive n h = grind (arith, nat_tests)

  -- a neighbour is reached
  reached-finds : (rules : Rules) (neighbour merged_at : List ℕ)
      → (is_plain_block_at rules state.document.items neighbour ≡ true → FindsPlaces (all_performed registered 1 (Merge merged_at ∷ []) state))
      → CaseFinds registered state (neighbour_reached rules state.document.items neighbour merged_at)
  reached-finds rules neighbour merged_at h = go (is_object_at rules state.document.items neighbour) refl
    where
      go : (t : Bool) → is_object_at rules state.document.items neighbour ≡ t
          → CaseFinds registered state (if t then Some (item_selected neighbour ∷ []) else when (is_plain_block_at rules state.document.items neighbour)
          (Merge merged_at ∷ []))
      go true e =
          last-finds registered 1 (item_selected neighbour) state
          (select-finds registered 1 state neighbour (behind neighbour) false
          (element-range state.document.items neighbour (named-element (is_object rules) state.document.items neighbour e)))
      go false e = when-finds (is_plain_block_at rules state.document.items neighbour) (Merge merged_at ∷ []) h

  plain-element : (rules : Rules) (path : List ℕ) → is_plain_block_at rules state.document.items path ≡ true → is_element state.document.items path ≡ true
  plain-element rules path e = named-element (λ name. is_block rules name && not (is_limit rules name)) state.document.items path e

  both : (a b : Bool) → (a && b) ≡ true → b ≡ true
  both true b e = e
  both false b e = absurd cc

  -- what goes from before a caret
  pub backward-finds : (rules : Rules) (caret : List ℕ) → is_there state.document.items caret ≡ true
      → CaseFinds registered state (deleted_backward rules state.document.items caret)
  backward-finds rules caret there =
      let items = state.document.items in
      let cluster = backward (last_cluster (text_before items caret)) caret in
      let third : Option (List Edit) = if starts_block rules items caret
      then option_and_then (λ neighbour. neighbour_reached rules items neighbour (parent_of caret)) (before (parent_of caret)) else None in
      let removed : (count : ℕ) → FindsPlaces (all_performed registered 1 (Remove (backward count caret) caret ∷ []) state) =
      λ count. last-finds registered 1 (Remove (backward count caret) caret) state
      (remove-finds registered 1 state (backward count caret) caret (backward-range items caret count there)) in
      or-finds (when (is_before_it (is_character_at items) caret) (Remove cluster caret ∷ []))
      (option_or (when (is_before_it (is_object_at rules items) caret) (Remove (backward 1 caret) caret ∷ [])) third)
      (when-finds (is_before_it (is_character_at items) caret) (Remove cluster caret ∷ []) (λ e. removed (last_cluster (text_before items caret))))
      (or-finds (when (is_before_it (is_object_at rules items) caret) (Remove (backward 1 caret) caret ∷ [])) third
      (when-finds (is_before_it (is_object_at rules items) caret) (Remove (backward 1 caret) caret ∷ []) (λ e. removed 1))
      (start (starts_block rules items caret) refl))
    where
      neighbour : (parent : List ℕ) → is_element state.document.items parent ≡ true → (t : Bool) → (offset_of parent == 0) ≡ t
          → CaseFinds registered state (option_and_then (λ neighbour. neighbour_reached rules state.document.items neighbour parent)
          (if t then None else Some (path_before parent)))
      neighbour parent here true e = tt
      neighbour parent here false e =
          reached-finds rules (path_before parent) parent
          (λ plain. merged-finds parent (λ same. absurd (cc-offset (offset_of parent) (ap offset_of same) e)) (positive (offset_of parent) e)
          (plain-element rules (path_before parent) plain) here)
        where
          cc-offset : (n : ℕ) → n ≡ 0 → (n == 0) ≡ false → ⊥
          cc-offset n same e = go n same e
            where
              go : (n : ℕ) → n ≡ 0 → (n == 0) ≡ false → ⊥
              go n same e = grind (arith, nat_tests)

          positive : (n : ℕ) → (n == 0) ≡ false → 0 < n
          positive n e = grind (arith, nat_tests)

      start : (t : Bool) → starts_block rules state.document.items caret ≡ t
          → CaseFinds registered state (if t then option_and_then (λ neighbour. neighbour_reached rules state.document.items neighbour (parent_of caret))
          (before (parent_of caret)) else None)
      start true e =
          neighbour (parent_of caret) (plain-element rules (parent_of caret)
          (both (offset_of caret == 0) (is_plain_block_at rules state.document.items (parent_of caret)) e)) (offset_of (parent_of caret) == 0) refl
      start false e = tt

  -- what goes from behind a caret
  pub forward-finds : (rules : Rules) (caret : List ℕ) → HaveScalars state.document.items → is_there state.document.items caret ≡ true
      → CaseFinds registered state (deleted_forward rules state.document.items caret)
  forward-finds rules caret scalars there =
      let items = state.document.items in
      let cluster = forward (first_cluster (text_behind items caret)) caret in
      let third : Option (List Edit) = if ends_block rules items caret then neighbour_reached rules items (behind (parent_of caret))
      (behind (parent_of caret)) else None in
      or-finds (when (is_character_at items caret) (Remove caret cluster ∷ []))
      (option_or (when (is_object_at rules items caret) (Remove caret (behind caret) ∷ [])) third)
      (when-finds (is_character_at items caret) (Remove caret cluster ∷ [])
      (λ e. last-finds registered 1 (Remove caret cluster) state (remove-finds registered 1 state caret cluster (cluster-range items caret scalars there))))
      (or-finds (when (is_object_at rules items caret) (Remove caret (behind caret) ∷ [])) third
      (when-finds (is_object_at rules items caret) (Remove caret (behind caret) ∷ [])
      (λ e. last-finds registered 1 (Remove caret (behind caret)) state
      (remove-finds registered 1 state caret (behind caret) (element-range items caret (named-element (is_object rules) items caret e)))))
      (end (ends_block rules items caret) refl))
    where
      block : (path : List ℕ) → is_element state.document.items path ≡ true
          → CaseFinds registered state (neighbour_reached rules state.document.items (behind path) (behind path))
      block [] here = absurd cc
      block (index ∷ path) here =
          let some : (index ∷ path) ≢ [] = λ same. cc in
          let offset = behind-offset (index ∷ path) some in
          reached-finds rules (behind (index ∷ path)) (behind (index ∷ path))
          (λ plain. merged-finds (behind (index ∷ path)) (λ same. absurd (omega (arith, offset, ap offset_of same))) (omega (arith, offset))
          (ap (is_element state.document.items) (behind-before (index ∷ path) some) ∙ here) (plain-element rules (behind (index ∷ path)) plain))

      end : (t : Bool) → ends_block rules state.document.items caret ≡ t
          → CaseFinds registered state (if t then neighbour_reached rules state.document.items (behind (parent_of caret)) (behind (parent_of caret)) else None)
      end true e = block (parent_of caret) (plain-element rules (parent_of caret) (both _ (is_plain_block_at rules state.document.items (parent_of caret)) e))
      end false e = tt
