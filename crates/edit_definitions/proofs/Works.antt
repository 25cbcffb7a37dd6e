-- What an edit plans can be made, but for the limits on the tree: one operation at a time.
use Rattle.std.proofs.Common.{◌≡◌, ◌≢◌, ℕ, ◌+◌, ◌-◌, ◌<◌, ◌≤◌, Bool, true, false, nat_eq, nat_le, nat_lt, if◌then◌else◌, List, [], ◌∷◌, ◌++◌, length, take}
use Rattle.std.proofs.Common.{drop, Some, None, ok_or, unwrap_or, option_map, option_and_then, slice_get, Result, Ok, refl, sym, ap, ◌∙◌, subst, arith}
use Rattle.std.proofs.Common.{append_assoc}
use Rattle.std.specs.Cmp.Lexicographic.{pointwise}
use Rattle.std.proofs.lemmas.Bool.Decides.{nat_tests}
use Rattle.item_definitions.specs.Item.{Item, character, element, count_of, depth_of, inner, with_inner}
use Rattle.item_definitions.specs.Children.{parent_of, offset_of, children_at, child_count, item_at, at}
use Rattle.item_definitions.proofs.Paths.{parent_of-push, offset_of-push, path-joined}
use Rattle.operation_definitions.specs.Level.{put_in, one_item, rename_at, renamed, split_at, split_item, merge_at, merge_items}
use Rattle.operation_definitions.specs.Operation.{Fault, no_place, old_differs, found_name, not_neighbours, cell_state, too_large, too_deep, Operation, fresh}
use Rattle.operation_definitions.specs.Operation.{insert, rename, split, merge}
use Rattle.operation_definitions.specs.After.{◌>>=◌, check, most_items, most_levels, effect, limited, is_free, fill, like}
use Rattle.operation_definitions.specs.Reversed.{IsLimited}
use Rattle.operation_definitions.proofs.Steps.{step-some, step-check}
use Rattle.operation_definitions.proofs.Names.{numbers_same}
use Rattle.operation_definitions.proofs.Levels.{most}
use Rattle.operation_definitions.proofs.Stays.{put_in-room}
use Rattle.operation_definitions.proofs.Lifting.{then-some}
use Rattle.document_definitions.specs.Document.{State, changed, all_applied}
use Rattle.edit_definitions.specs.Places.{is_there, is_element}
use Rattle.item_definitions.specs.Position.{path_before}
use Rattle.edit_definitions.specs.Planned.{name_of}
use Rattle.edit_definitions.specs.Applied.{AreApplied}
use Rattle.edit_definitions.proofs.Alike.{next-free}
use Rattle.edit_definitions.proofs.Reached.{reached, entered, children-below, found, has-room, element-there, replace-room, one-there, two-there}

abbrev pub Made : Type 0
Made = List Item × List (List Item)

-- an answer that isn't a refusal
abbrev pub Works : Result Made Fault → Type 0
Works r = (made : Made) × (r ≡ Ok made)

-- an operation that works is applied, or over a limit; and then the others
pub next-applied : (operation : Operation) (operations : List Operation) (state : State) (made : Made)
    → effect state.document.items state.cells operation ≡ Ok made
    → (IsLimited made.0 → AreApplied (all_applied operations (changed operation state made))) → AreApplied (all_applied (operation ∷ operations) state)
next-applied operation operations state made e rest =
    subst (λ (r : Result Made Fault). AreApplied (((r >>= limited) >>= (λ m. Ok (changed operation state m))) >>= all_applied operations)) (sym e)
    (go (nat_le (count_of made.0) most_items) refl (nat_le (depth_of made.0) most_levels) refl)
  where
    within : (a b : ℕ) → nat_le a b ≡ true → a ≤ b
    within a b e = grind (arith, nat_tests)

    go : (few : Bool) → nat_le (count_of made.0) most_items ≡ few → (flat : Bool) → nat_le (depth_of made.0) most_levels ≡ flat
        → AreApplied (((check few (too_large (count_of made.0)) >>= (λ _. check flat (too_deep (depth_of made.0)) >>= (λ _. Ok made)))
        >>= (λ m. Ok (changed operation state m))) >>= all_applied operations)
    go true f true g = rest (within (count_of made.0) most_items f, within (depth_of made.0) most_levels g)
    go true f false g = tt
    go false f flat g = tt

pub one-applied : (operation : Operation) (state : State) → Works (effect state.document.items state.cells operation)
    → AreApplied (all_applied (operation ∷ []) state)
one-applied operation state works = next-applied operation [] state works.0 works.1 (λ _. tt)

-- items come in
pub insert-works : (items : List Item) (cells : List (List Item)) (position : List ℕ) (new : List Item) → is_there items position ≡ true
    → Works (effect items cells (insert position new))
insert-works items cells position new there =
    let r = has-room items position there in
    let put = put_in-room (offset_of position) new r.level r.room in
    let whole = reached (parent_of position) (put_in (offset_of position) new) items r.level put.0.0 put.0.1 r.there put.1 in (
      (whole.whole, cells),
      step-some (at (parent_of position) (put_in (offset_of position) new) items) no_place
          (λ (made : List Item × Unit {0}). Ok (made.0, cells)) (whole.whole, put.0.1) (Ok (whole.whole, cells)) whole.made refl,
    )

-- an element is split
pub split-works : (items : List Item) (cells : List (List Item)) (position : List ℕ) (id : ℕ) → is_there items position ≡ true
    → nat_le 2 (length position) ≡ true → Works (effect items cells (split position (fresh id)))
split-works items cells position id there long =
    let r = has-room items position there in
    let parent = parent_of position in
    let joined = path-joined parent (parent-some position long) in
    let e = entered (parent_of parent) (offset_of parent) items r.level (ap (λ p. children_at p items) (sym joined) ∙ r.there) in
    let cut = split-level e.level e.item r.level (offset_of parent) (offset_of position) (like id) e.here e.holds r.room in
    let whole = reached (parent_of parent) (split_at (offset_of parent) (offset_of position) (like id)) items e.level cut.0 cut.1 e.there cut.2 in (
      (whole.whole, cells),
      step-check (nat_le 2 (length position)) no_place
          (λ _. ok_or (at (parent_of parent) (split_at (offset_of parent) (offset_of position) (like id)) items) no_place
          >>= (λ (m : List Item × Item). Ok (m.0, cells))) (Ok (whole.whole, cells)) long
          (step-some (at (parent_of parent) (split_at (offset_of parent) (offset_of position) (like id)) items) no_place
          (λ (m : List Item × Item). Ok (m.0, cells)) (whole.whole, cut.1) (Ok (whole.whole, cells)) whole.made refl),
    )
  where
    parent-some : (position : List ℕ) → nat_le 2 (length position) ≡ true → parent_of position ≢ []
    parent-some [] long = absurd cc
    parent-some (offset ∷ []) long = absurd cc
    parent-some (index ∷ next ∷ path) long = λ same. cc

    split-level : (level : List Item) (item : Item) (kids : List Item) (index offset : ℕ) (shell : Item → Item) → slice_get level index ≡ Some item
        → inner item ≡ Some kids → offset ≤ length kids
        → (new : List Item) × (r : Item) × (split_at index offset shell level ≡ Some (new, r))
    split-level level item kids index offset shell here holds room =
        let o = one-there index level item here in
        let two = with_inner (take offset kids) item ∷ with_inner (drop offset kids) (shell item) ∷ [] in
        let cut : one_item (λ item. split_item offset (shell item) item) (take 1 (drop index level)) ≡ Some (two, shell item) =
        ap (one_item (λ item. split_item offset (shell item) item)) o.1
        ∙ ap (option_and_then (λ children. if nat_le offset (length children)
        then Some (with_inner (take offset children) item ∷ with_inner (drop offset children) (shell item) ∷ [], shell item) else None)) holds
        ∙ ap (λ t. if t then Some (two, shell item) else None) (most offset (length kids) room) in (
          take index level ++ (two ++ drop (index + 1) level),
          shell item,
          replace-room index 1 (one_item (λ item. split_item offset (shell item) item))
              level two (shell item) o.0 cut,
        )

-- an element gets another name
pub rename-works : (items : List Item) (cells : List (List Item)) (path old new : List ℕ) → option_and_then name_of (item_at path items) ≡ Some old
    → Works (effect items cells (rename path old new))
rename-works items cells path old new named =
    let a = then-some name_of (item_at path items) old named in
    let f = found path items a.0 a.1 in
    let o = one-there (offset_of path) f.level a.0 f.here in
    let r = rename-item a.0 a.2 in
    let level = take (offset_of path) f.level ++ (r.0 ++ drop (offset_of path + 1) f.level) in
    let done = replace-room (offset_of path) 1 (one_item (renamed new)) f.level r.0 old o.0 (ap (one_item (renamed new)) o.1 ∙ r.1) in
    let whole = reached (parent_of path) (rename_at (offset_of path) new) items f.level level old f.there done in
    let last : List Item × List ℕ → Result Made Fault = λ made. check (pointwise nat_eq made.1 old) (old_differs (found_name made.1))
    >>= (λ _. Ok (made.0, cells)) in (
      (whole.whole, cells),
      step-check (nat_le 1 (length path)) no_place (λ _. ok_or (at (parent_of path) (rename_at (offset_of path) new) items) no_place >>= last)
          (Ok (whole.whole, cells)) (long path f.some)
          (step-some (at (parent_of path) (rename_at (offset_of path) new) items) no_place last (whole.whole, old) (Ok (whole.whole, cells)) whole.made
          (step-check (pointwise nat_eq old old) (old_differs (found_name old)) (λ _. Ok (whole.whole, cells)) (Ok (whole.whole, cells))
          (numbers_same old old refl) refl)),
    )
  where
    rename-item : (item : Item) → name_of item ≡ Some old → (made : List Item) × (renamed new item ≡ Some (made, old))
    rename-item (character scalar attributes) e = absurd cc
    rename-item (element id name attributes children) e =
        let same : name ≡ old = cc in
        (element id new attributes children ∷ [], ap (λ n. Some (element id new attributes children ∷ [], n)) same)

    long : (path : List ℕ) → path ≢ [] → nat_le 1 (length path) ≡ true
    long [] some = absurd (some refl)
    long (index ∷ path) some = most 1 (length (index ∷ path)) (omega arith)

-- an element is merged into the one before it
pub merge-works : (items : List Item) (cells : List (List Item)) (at_ : List ℕ) → is_there items at_ ≡ true
    → nat_lt 0 (offset_of at_) ≡ true → is_element items (path_before at_) ≡ true → is_element items at_ ≡ true
    → Works (effect items cells (merge at_ (path_before at_ ++ unwrap_or (child_count items (path_before at_)) 0 ∷ []) (length cells)))
merge-works items cells at_ there second before here =
    let parent = parent_of at_ in
    let index = offset_of at_ in
    let target = path_before at_ ++ unwrap_or (child_count items (path_before at_)) 0 ∷ [] in
    let right = element-there items at_ here in
    let left = element-there items (path_before at_) before in
    let r = found at_ items right.item right.here in
    let l = found (path_before at_) items left.item left.here in
    let same_parent : parent_of (path_before at_) ≡ parent = parent_of-push parent (index - 1) in
    let same_offset : offset_of (path_before at_) ≡ index - 1 = offset_of-push parent (index - 1) in
    let one : Some l.level ≡ Some r.level = sym l.there ∙ ap (λ p. children_at p items) same_parent ∙ r.there in
    let level : l.level ≡ r.level = cc in
    let front_there : slice_get r.level (index - 1) ≡ Some left.item = (λ t. slice_get (sym level t) (sym same_offset t)) ∙ l.here in
    let next : slice_get r.level (index - 1 + 1) ≡ Some right.item = ap (slice_get r.level) (back index second) ∙ r.here in
    let two = two-there (index - 1) r.level left.item right.item front_there next in
    let joined : merge_items (left.item ∷ right.item ∷ [])
    ≡ Some (with_inner (left.kids ++ right.kids) left.item ∷ [], (with_inner [] right.item, length left.kids)) =
    ap (option_and_then (λ front. option_map (λ back. (with_inner (front ++ back) left.item ∷ [], (with_inner [] right.item, length front)))
    (inner right.item))) left.holds
    ∙ ap (option_map (λ back. (with_inner (left.kids ++ back) left.item ∷ [], (with_inner [] right.item, length left.kids)))) right.holds in
    let new = take (index - 1) r.level ++ ((with_inner (left.kids ++ right.kids) left.item ∷ []) ++ drop (index - 1 + 2) r.level) in
    let gave : Item × ℕ = (with_inner [] right.item, length left.kids) in
    let done = replace-room (index - 1) 2 merge_items r.level (with_inner (left.kids ++ right.kids) left.item ∷ []) gave two.0 (ap merge_items two.1
    ∙ joined) in
    let whole = reached parent (merge_at index) items r.level new gave r.there done in
    let kids : children_at (path_before at_) items ≡ Some left.kids = children-below parent (index - 1) items r.level left.kids left.item r.there
    front_there left.holds in
    let count : unwrap_or (child_count items (path_before at_)) 0 ≡ length left.kids = ap (λ o. unwrap_or (option_map length o) 0) kids in
    let end : target ≡ parent ++ (index - 1) ∷ length left.kids ∷ [] = ap (λ n. path_before at_ ++ n ∷ []) count
    ∙ append_assoc parent ((index - 1) ∷ []) (length left.kids ∷ []) in
    let store : List Item × (Item × ℕ) → Result Made Fault = λ m. check (is_free cells (length cells)) (cell_state (length cells))
    >>= (λ _. Ok (m.0, fill cells (length cells) (m.1.0 ∷ []))) in
    let ended : List Item × (Item × ℕ) → Result Made Fault = λ m. check (pointwise nat_eq target (parent ++ (index - 1) ∷ m.1.1 ∷ [])) not_neighbours
    >>= (λ _. store m) in
    let answer : Made = (whole.whole, fill cells (length cells) (with_inner [] right.item ∷ [])) in (
      answer,
      step-check (nat_lt 0 index) not_neighbours (λ _. ok_or (at parent (merge_at index) items) not_neighbours >>= ended) (Ok answer) second
          (step-some (at parent (merge_at index) items) not_neighbours ended (whole.whole, gave) (Ok answer) whole.made
          (step-check (pointwise nat_eq target (parent ++ (index - 1) ∷ length left.kids ∷ [])) not_neighbours (λ _. store (whole.whole, gave))
          (Ok answer) (numbers_same target (parent ++ (index - 1) ∷ length left.kids ∷ []) end)
          (step-check (is_free cells (length cells)) (cell_state (length cells)) (λ _. Ok answer) (Ok answer) (next-free cells) refl))),
    )
  where
    back : (n : ℕ) → nat_lt 0 n ≡ true → n - 1 + 1 ≡ n
    back n e = (let some : 0 < n = grind (arith, nat_tests) in omega (arith, some))
