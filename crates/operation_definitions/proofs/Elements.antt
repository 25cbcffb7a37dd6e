-- The reversals of operations on elements.
use Rattle.std.proofs.Common.{◌≡◌, ℕ, zero, suc, ◌+◌, ◌-◌, ◌<◌, ◌≤◌, take, drop, true, nat_eq, nat_le, nat_lt, ◌==◌, if◌then◌else◌, List, [], ◌∷◌, ◌++◌, length}
use Rattle.std.proofs.Common.{set, Option, Some, None, option_map, option_and_then, ok_or, slice_get, slice_set, Result, Ok, refl, sym, ap, ◌∙◌, subst, arith}
use Rattle.std.proofs.lemmas.Bool.Decides.{nat_tests}
use Rattle.std.specs.Cmp.Lexicographic.{pointwise}
use Rattle.item_definitions.specs.Item.{Item, character, element, none, more, inner, with_inner}
use Rattle.item_definitions.specs.Children.{Change, parent_of, offset_of, item_at, at, at_index, in_item}
use Rattle.item_definitions.specs.Position.{behind}
use Rattle.operation_definitions.specs.Level.{replace, one_item, put_in, rename_at, split_at, split_item, merge_items, merge_at}
use Rattle.operation_definitions.specs.Operation.{Fault, Operation, rename, split, merge, fresh, from_cell, no_place, cell_state, not_neighbours, old_differs}
use Rattle.operation_definitions.specs.Operation.{found_name}
use Rattle.operation_definitions.specs.After.{◌>>=◌, check, effect, in_cell_at, is_free, fill, like, shell_of, room_at}
use Rattle.operation_definitions.specs.Reversed.{IsTakenBack, IsLimited, cell_then}
use Rattle.operation_definitions.proofs.Lifting.{at-back, at-gives, at-also, at-push, map-some, then-some}
use Rattle.operation_definitions.proofs.Levels.{rename-back, split-back, merge-back, item-there, split-some, replaced}
use Rattle.operation_definitions.proofs.Cells.{if-same, free-room, fill-at, emptied-at, emptied-free, refilled-at}
use Rattle.operation_definitions.proofs.Steps.{step-ok, ok_or-some, check-true, step-some, step-check}
use Rattle.operation_definitions.proofs.Names.{same_numbers, numbers_same, next-parent, next-offset, position-is, element-is, target-parent, target-above}
use Rattle.operation_definitions.proofs.Names.{target-index, target-offset, target-long}
use Rattle.operation_definitions.proofs.Simple.{State, taken_back, pair-first, pair-second}

-- a renamed element gets its old name back
pub rename-reversed : (items : List Item) (cells : List (List Item)) (path old new : List ℕ) (made : State) (cell : ℕ) → IsLimited items
    → effect items cells (rename path old new) ≡ Ok made → IsTakenBack items cells (rename path old new) made cell
rename-reversed items cells path old new made cell limits e =
    let tail : List Item × List ℕ → Result State Fault = λ m. check (pointwise nat_eq m.1 old) (old_differs (found_name m.1)) >>= (λ _. Ok (m.0, cells)) in
    let a = step-ok (check (nat_le 1 (length path)) no_place) (λ _. ok_or (at (parent_of path) (rename_at (offset_of path) new) items) no_place
    >>= tail) made e in
    let inside = check-true (nat_le 1 (length path)) no_place a.0 a.1 in
    let b = step-ok (ok_or (at (parent_of path) (rename_at (offset_of path) new) items) no_place) tail made a.2 in
    let there = ok_or-some (at (parent_of path) (rename_at (offset_of path) new) items) no_place b.0 b.1 in
    let c = step-ok (check (pointwise nat_eq b.0.1 old) (old_differs (found_name b.0.1))) (λ _. Ok (b.0.0, cells)) made b.2 in
    let named : b.0.1 ≡ old = same_numbers b.0.1 old (check-true (pointwise nat_eq b.0.1 old) (old_differs (found_name b.0.1)) c.0 c.1) in
    let tree : b.0.0 ≡ made.0 = pair-first (b.0.0, cells) made c.2 in
    let same : cells ≡ made.1 = pair-second (b.0.0, cells) made c.2 in
    let back = at-back (rename_at (offset_of path) new) (rename_at (offset_of path) old) old new (rename-back (offset_of path) old new) (parent_of path)
    items made.0 (there ∙ (λ t. Some (tree t, named t))) in
    let tail2 : List Item × List ℕ → Result State Fault = λ m. check (pointwise nat_eq m.1 new) (old_differs (found_name m.1)) >>= (λ _. Ok (m.0, made.1)) in
    taken_back items cells (rename path old new) made cell limits made.1
    (step-check (nat_le 1 (length path)) no_place (λ _. ok_or (at (parent_of path) (rename_at (offset_of path) old) made.0) no_place >>= tail2)
    (Ok (items, made.1)) inside
    (step-some (at (parent_of path) (rename_at (offset_of path) old) made.0) no_place tail2 (items, new) (Ok (items, made.1)) back
    (step-check (pointwise nat_eq new new) (old_differs (found_name new)) (λ _. Ok (items, made.1)) (Ok (items, made.1)) (numbers_same new new refl) refl)))
    (λ k. ap (λ (cs : List (List Item)). in_cell_at cs k) (sym same))

-- the change of the item at a path's end is that of the item at the path
at-item : {R : Type 0} (path : List ℕ) (index : ℕ) (change : Item → Option (List Item × R)) (xs ys : List Item) (r : R)
    → at path (replace index 1 (one_item change)) xs ≡ Some (ys, r)
    → (item : Item) × (made : List Item) × (item_at (path ++ index ∷ []) xs ≡ Some item) × (change item ≡ Some (made, r))
at-item [] index change xs ys r e = item-there index change xs ys r e
at-item {R = R} (i ∷ []) index change xs ys r e =
    let f = replace index 1 (one_item change) in
    let a = then-some (λ item. option_map (λ (made : Item × R). (slice_set xs i made.0, made.1)) (in_item f item)) (slice_get xs i) (ys, r) e in
    let b = map-some (λ (made : Item × R). (slice_set xs i made.0, made.1)) (in_item f a.0) (ys, r) a.2 in
    let c = then-some (λ items. option_map (λ (made : List Item × R). (with_inner made.0 a.0, made.1)) (f items)) (inner a.0) b.0 b.1 in
    let d = map-some (λ (made : List Item × R). (with_inner made.0 a.0, made.1)) (f c.0) b.0 c.2 in
    let gave : d.0.1 ≡ r = ap (λ (p : Item × R). p.1) d.2 ∙ ap (λ (p : List Item × R). p.1) b.2 in
    let found = item-there index change c.0 d.0.0 d.0.1 d.1 in (
      found.0,
      found.1,
      ap (option_and_then (λ item. option_and_then (item_at (index ∷ [])) (inner item))) a.1 ∙ ap (option_and_then (item_at (index ∷ []))) c.1 ∙ found.2,
      found.3 ∙ ap (λ v. Some (found.1, v)) gave,
    )
at-item {R = R} (i ∷ j ∷ path) index change xs ys r e =
    let f = at (j ∷ path) (replace index 1 (one_item change)) in
    let a = then-some (λ item. option_map (λ (made : Item × R). (slice_set xs i made.0, made.1)) (in_item f item)) (slice_get xs i) (ys, r) e in
    let b = map-some (λ (made : Item × R). (slice_set xs i made.0, made.1)) (in_item f a.0) (ys, r) a.2 in
    let c = then-some (λ items. option_map (λ (made : List Item × R). (with_inner made.0 a.0, made.1)) (f items)) (inner a.0) b.0 b.1 in
    let d = map-some (λ (made : List Item × R). (with_inner made.0 a.0, made.1)) (f c.0) b.0 c.2 in
    let gave : d.0.1 ≡ r = ap (λ (p : Item × R). p.1) d.2 ∙ ap (λ (p : List Item × R). p.1) b.2 in
    let found = at-item (j ∷ path) index change c.0 d.0.0 d.0.1 d.1 in (
      found.0,
      found.1,
      ap (option_and_then (λ item. option_and_then (item_at (j ∷ (path ++ index ∷ []))) (inner item))) a.1
          ∙ ap (option_and_then (item_at (j ∷ (path ++ index ∷ [])))) c.1 ∙ found.2,
      found.3 ∙ ap (λ v. Some (found.1, v)) gave,
    )

like-bare : (id : ℕ) (item : Item) (children : List Item) → inner item ≡ Some children → inner (like id item) ≡ Some []
like-bare id (character scalar attributes) children e = absurd cc
like-bare id (element old name attributes inside) children e = refl

like-empty : (id : ℕ) (item : Item) → with_inner [] (like id item) ≡ like id item
like-empty id (character scalar attributes) = refl
like-empty id (element old name attributes inside) = refl

-- what a merge gives whose steps are known
merged : (items made : List Item) (cells : List (List Item)) (right target above : List ℕ) (index offset number : ℕ) (shell : Item)
    → above ≡ parent_of right → index ≡ offset_of right → 0 < index → target ≡ above ++ (index - 1) ∷ offset ∷ [] → at above (merge_at index) items
    ≡ Some (made, (shell, offset)) → is_free cells number ≡ true
    → effect items cells (merge right target number) ≡ Ok (made, fill cells number (shell ∷ []))
merged items made cells right target above index offset number shell d e less f g free =
    let there : at (parent_of right) (merge_at (offset_of right)) items
    ≡ Some (made, (shell, offset)) = subst (λ p. at p (merge_at (offset_of right)) items ≡ Some (made, (shell, offset))) d
    (subst (λ n. at above (merge_at n) items ≡ Some (made, (shell, offset))) e g) in
    let last : List Item × (Item × ℕ) → Result State Fault = λ m. check (is_free cells number) (cell_state number)
    >>= (λ _. Ok (m.0, fill cells number (m.1.0 ∷ []))) in
    let next : List Item × (Item × ℕ)
    → Result State Fault = λ m. check (pointwise nat_eq target (parent_of right ++ (offset_of right - 1) ∷ m.1.1 ∷ [])) not_neighbours >>= (λ _. last m) in
    step-check (nat_lt 0 (offset_of right)) not_neighbours (λ _. ok_or (at (parent_of right) (merge_at (offset_of right)) items) not_neighbours
    >>= next) (Ok (made, fill cells number (shell ∷ [])))
    (positive (offset_of right) (omega (arith, less, e)))
    (step-some (at (parent_of right) (merge_at (offset_of right)) items) not_neighbours next (made, (shell, offset))
    (Ok (made, fill cells number (shell ∷ []))) there
    (step-check (pointwise nat_eq target (parent_of right ++ (offset_of right - 1) ∷ offset ∷ [])) not_neighbours (λ _. last (made, (shell, offset)))
    (Ok (made, fill cells number (shell ∷ [])))
    (numbers_same target (parent_of right ++ (offset_of right - 1) ∷ offset ∷ []) (f ∙ (λ t. d t ++ (e t - 1) ∷ offset ∷ [])))
    (step-check (is_free cells number) (cell_state number) (λ _. Ok (made, fill cells number (shell ∷ []))) (Ok (made, fill cells number (shell ∷ [])))
    free refl)))
  where
    positive : (n : ℕ) → 0 < n → nat_lt 0 n ≡ true
    positive n h = grind (arith, nat_tests)

two : (n : ℕ) → nat_le 2 n ≡ true → 2 ≤ n
two n h = grind (arith, nat_tests)

-- a split is undone by the merge of the new element
undone : (items made : List Item) (cells : List (List Item)) (position : List ℕ) (shell : Item → Item) (r : Item) (number : ℕ) → 2 ≤ length position
    → ((item : Item) (children : List Item) → inner item ≡ Some children → inner (shell item) ≡ Some []) → with_inner [] r ≡ r
    → at (parent_of (parent_of position)) (split_at (offset_of (parent_of position)) (offset_of position) shell) items ≡ Some (made, r)
    → is_free cells number ≡ true
    → effect made cells (merge (behind (parent_of position)) position number) ≡ Ok (items, fill cells number (r ∷ []))
undone items made cells position shell r number long bare empty e free =
    let above = parent_of (parent_of position) in
    let index = offset_of (parent_of position) in
    let back = at-back (split_at index (offset_of position) shell) (merge_at (index + 1)) r (with_inner [] r, offset_of position)
    (split-back index (offset_of position) shell r bare) above items made e in
    merged made items cells (behind (parent_of position)) position above (index + 1) (offset_of position) number r
    (sym (next-parent position long)) (sym (next-offset position long)) (omega arith)
    (position-is position long ∙ (λ t. next-parent position long t ++ (next-offset position long t - 1) ∷ offset_of position ∷ []))
    (back ∙ ap (λ s. Some (items, (s, offset_of position))) empty) free

-- a split with a new element is taken back
pub fresh-reversed : (items : List Item) (cells : List (List Item)) (position : List ℕ) (id : ℕ) (made : State) (cell : ℕ) → IsLimited items
    → effect items cells (split position (fresh id)) ≡ Ok made → is_free made.1 cell ≡ true → IsTakenBack items cells (split position (fresh id)) made cell
fresh-reversed items cells position id made cell limits e free =
    let above = parent_of (parent_of position) in
    let change = split_at (offset_of (parent_of position)) (offset_of position) (like id) in
    let tail : List Item × Item → Result State Fault = λ m. Ok (m.0, cells) in
    let a = step-ok (check (nat_le 2 (length position)) no_place) (λ _. ok_or (at above change items) no_place >>= tail) made e in
    let long = two (length position) (check-true (nat_le 2 (length position)) no_place a.0 a.1) in
    let b = step-ok (ok_or (at above change items) no_place) tail made a.2 in
    let there = ok_or-some (at above change items) no_place b.0 b.1 in
    let tree : b.0.0 ≡ made.0 = pair-first (b.0.0, cells) made b.2 in
    let same : cells ≡ made.1 = pair-second (b.0.0, cells) made b.2 in
    let item = at-item above (offset_of (parent_of position)) (λ item. split_item (offset_of position) (like id item) item) items b.0.0 b.0.1 there in
    let split = split-some (offset_of position) (like id item.0) item.0 item.1 b.0.1 item.3 in
    let shell : like id item.0 ≡ b.0.1 = split.4 in
    taken_back items cells (Operation.split position (fresh id)) made cell limits (fill made.1 cell (b.0.1 ∷ []))
    (undone items made.0 made.1 position (like id) b.0.1 cell long (like-bare id) (ap (with_inner []) (sym shell) ∙ like-empty id item.0 ∙ shell)
    (there ∙ (λ t. Some (tree t, b.0.1))) free)
    (λ k. fill-at made.1 cell k (b.0.1 ∷ []) (free-room made.1 cell free)
    ∙ ap (λ (cs : List (List Item)). if k == cell then b.0.1 ∷ [] else in_cell_at cs k) (sym same)
    ∙ ap (λ s. if k == cell then s ∷ [] else in_cell_at cells k) (sym shell)
    ∙ ap (λ (o : Option Item). cell_then (option_map (λ item. like id item ∷ []) o) cells cell k)
    (sym (ap (λ p. item_at p items) (element-is position long) ∙ item.2)))

-- an element without children in a cell
shell-is : (xs : List Item) (shell : Item) → shell_of xs ≡ Some shell → (xs ≡ shell ∷ []) × (inner shell ≡ Some []) × (with_inner [] shell ≡ shell)
shell-is [] shell e = absurd cc
shell-is (character scalar attributes ∷ []) shell e = absurd cc
shell-is (element id name attributes none ∷ []) shell e =
    let same : element id name attributes none ≡ shell = cc in
    (ap (λ s. s ∷ []) same, ap inner (sym same), ap (with_inner []) (sym same) ∙ same)
shell-is (element id name attributes (more item items) ∷ []) shell e = absurd cc
shell-is (character scalar attributes ∷ next ∷ rest) shell e = absurd cc
shell-is (element id name attributes none ∷ next ∷ rest) shell e = absurd cc
shell-is (element id name attributes (more item items) ∷ next ∷ rest) shell e = absurd cc

pub cell-there : (cells : List (List Item)) (n : ℕ) (shell : Item) → in_cell_at cells n ≡ shell ∷ [] → n < length cells
cell-there [] n shell e = absurd cc
cell-there (cell ∷ cells) zero shell e = omega arith
cell-there (cell ∷ cells) (suc n) shell e = (let less : n < length cells = cell-there cells n shell e in omega arith)

-- a split with an element from a cell is taken back
pub from_cell-reversed : (items : List Item) (cells : List (List Item)) (position : List ℕ) (number : ℕ) (made : State) (cell : ℕ) → IsLimited items
    → effect items cells (split position (from_cell number)) ≡ Ok made → IsTakenBack items cells (split position (from_cell number)) made cell
from_cell-reversed items cells position number made cell limits e =
    let above = parent_of (parent_of position) in
    let held = in_cell_at cells number in
    let change : Item → Change Item = λ shell. split_at (offset_of (parent_of position)) (offset_of position) (λ _. shell) in
    let last : List Item × Item → Result State Fault = λ m. Ok (m.0, set cells number []) in
    let next : Item → Result State Fault = λ shell. ok_or (at above (change shell) items) no_place >>= last in
    let first : List Item × Unit {0} → Result State Fault = λ _. ok_or (shell_of held) (cell_state number) >>= next in
    let a = step-ok (check (nat_le 2 (length position)) no_place) (λ _. ok_or (room_at items position) no_place >>= first) made e in
    let long = two (length position) (check-true (nat_le 2 (length position)) no_place a.0 a.1) in
    let b = step-ok (ok_or (room_at items position) no_place) first made a.2 in
    let c = step-ok (ok_or (shell_of held) (cell_state number)) next made b.2 in
    let shell = c.0 in
    let bare = shell-is held shell (ok_or-some (shell_of held) (cell_state number) shell c.1) in
    let d = step-ok (ok_or (at above (change shell) items) no_place) last made c.2 in
    let there = ok_or-some (at above (change shell) items) no_place d.0 d.1 in
    let tree : d.0.0 ≡ made.0 = pair-first (d.0.0, set cells number []) made d.2 in
    let emptied : set cells number [] ≡ made.1 = pair-second (d.0.0, set cells number []) made d.2 in
    let item = at-item above (offset_of (parent_of position)) (λ item. split_item (offset_of position) shell item) items d.0.0 d.0.1 there in
    let gave : shell ≡ d.0.1 = (split-some (offset_of position) shell item.0 item.1 d.0.1 item.3).4 in
    let room = cell-there cells number shell bare.0 in
    taken_back items cells (split position (from_cell number)) made cell limits (fill made.1 number (d.0.1 ∷ []))
    (undone items made.0 made.1 position (λ _. shell) d.0.1 number long (λ _ _ _. bare.1) (ap (with_inner []) (sym gave) ∙ bare.2 ∙ gave)
    (there ∙ (λ t. Some (tree t, d.0.1))) (subst (λ (cs : List (List Item)). is_free cs number ≡ true) emptied (emptied-free cells number room)))
    (λ k. (λ t. in_cell_at (fill (sym emptied t) number (sym gave t ∷ [])) k)
    ∙ ap (λ xs. in_cell_at (fill (set cells number []) number xs) k) (sym bare.0)
    ∙ refilled-at cells number k room)

-- where an element is split, its offset stands
stands-there : (index offset : ℕ) (shell : Item) (xs ys : List Item) (r : Item) → split_at index offset (λ _. shell) xs ≡ Some (ys, r)
    → (made : List Item × Unit {0}) × (at_index index (in_item (put_in offset [])) xs ≡ Some made)
stands-there index offset shell xs ys r e =
    let item = item-there index (λ item. split_item offset shell item) xs ys r e in
    let s = split-some offset shell item.0 item.1 r item.3 in
    let p = put s.0 s.2 in (
      (slice_set xs index (with_inner p.0 item.0), tt),
      ap (option_and_then (λ item. option_map (λ (made : Item × Unit {0}). (slice_set xs index made.0, made.1)) (in_item (put_in offset []) item))) item.2
          ∙ ap (option_map (λ (made : Item × Unit {0}). (slice_set xs index made.0, made.1)))
          (ap (option_and_then (λ items. option_map (λ (made : List Item × Unit {0}). (with_inner made.0 item.0, made.1)) (put_in offset [] items))) s.1
          ∙ ap (option_map (λ (made : List Item × Unit {0}). (with_inner made.0 item.0, made.1))) p.1),
    )
  where
    put : (children : List Item) → offset ≤ length children → (made : List Item) × (put_in offset [] children ≡ Some (made, tt))
    put children room = (
      take offset children ++ (([] ++ take 0 (drop offset children)) ++ drop (offset + 0) children),
      ap (λ t. if t then Some (take offset children ++ (([] ++ take 0 (drop offset children)) ++ drop (offset + 0) children), tt) else None)
          (yes (length children) room),
    )
      where
        yes : (n : ℕ) → offset ≤ n → nat_le (offset + 0) n ≡ true
        yes n h = grind (arith, nat_tests)

-- what a merge takes out is an element without children
merged-shell : (xs ys : List Item) (r : Item × ℕ) → merge_items xs ≡ Some (ys, r) → shell_of (r.0 ∷ []) ≡ Some r.0
merged-shell [] ys r e = absurd cc
merged-shell (left ∷ []) ys r e = absurd cc
merged-shell (left ∷ right ∷ []) ys r e =
    let a = then-some (λ front. option_map (λ back. (with_inner (front ++ back) left ∷ [], (with_inner [] right, length front))) (inner right))
    (inner left) (ys, r) e in
    let b = map-some (λ back. (with_inner (a.0 ++ back) left ∷ [], (with_inner [] right, length a.0))) (inner right) (ys, r) a.2 in
    go right b.0 b.1 (ap (λ (p : List Item × (Item × ℕ)). p.1.0) b.2)
  where
    go : (right : Item) (back : List Item) → inner right ≡ Some back → with_inner [] right ≡ r.0 → shell_of (r.0 ∷ []) ≡ Some r.0
    go (character scalar attributes) back e f = absurd cc
    go (element id name attributes children) back e f = ap (λ (s : Item). shell_of (s ∷ [])) (sym f) ∙ ap Some f
merged-shell (left ∷ right ∷ next ∷ rest) ys r e = absurd cc

merge-shell : (index : ℕ) (xs ys : List Item) (r : Item × ℕ) → merge_at index xs ≡ Some (ys, r) → shell_of (r.0 ∷ []) ≡ Some r.0
merge-shell index xs ys r e = (let h = replaced (index - 1) 2 merge_items xs ys r e in merged-shell (take 2 (drop (index - 1) xs)) h.new r h.gives)

-- what a split with an element from a cell gives whose steps are known
parted : (items made : List Item) (cells : List (List Item)) (target above : List ℕ) (index offset number : ℕ) (shell : Item)
    → target ≡ above ++ index ∷ offset ∷ [] → at above (split_at index offset (λ _. shell)) items ≡ Some (made, shell) → in_cell_at cells number
    ≡ shell ∷ [] → shell_of (shell ∷ []) ≡ Some shell
    → effect items cells (split target (from_cell number)) ≡ Ok (made, set cells number [])
parted items made cells target above index offset number shell known e held bare =
    let held_at = in_cell_at cells number in
    let last : List Item × Item → Result State Fault = λ m. Ok (m.0, set cells number []) in
    let change : Item → Change Item = λ shell. split_at (offset_of (parent_of target)) (offset_of target) (λ _. shell) in
    let next : Item → Result State Fault = λ shell. ok_or (at (parent_of (parent_of target)) (change shell) items) no_place >>= last in
    let first : List Item × Unit {0} → Result State Fault = λ _. ok_or (shell_of held_at) (cell_state number) >>= next in
    let result : Result State Fault = Ok (made, set cells number []) in
    let place = at-also (split_at index offset (λ _. shell)) (at_index index (in_item (put_in offset []))) (stands-there index offset shell) above items
    made shell e in
    let there : room_at items target ≡ Some place.0 =
    (λ t. at (target-parent above target index offset known t) (put_in (target-offset above target index offset known t) []) items)
    ∙ at-push above index (put_in offset []) items ∙ place.1 in
    let split : at (parent_of (parent_of target)) (change shell) items ≡ Some (made, shell) =
    (λ t. at (target-above above target index offset known t)
    (split_at (target-index above target index offset known t) (target-offset above target index offset known t) (λ _. shell)) items) ∙ e in
    step-check (nat_le 2 (length target)) no_place (λ _. ok_or (room_at items target) no_place >>= first) result
    (yes (length target) (target-long above target index offset known))
    (step-some (room_at items target) no_place first place.0 result there
    (step-some (shell_of held_at) (cell_state number) next shell result (ap shell_of held ∙ bare)
    (step-some (at (parent_of (parent_of target)) (change shell) items) no_place last (made, shell) result split refl)))
  where
    yes : (n : ℕ) → 2 ≤ n → nat_le 2 n ≡ true
    yes n h = grind (arith, nat_tests)

-- a merge is taken back
pub merge-reversed : (items : List Item) (cells : List (List Item)) (right target : List ℕ) (number : ℕ) (made : State) (cell : ℕ) → IsLimited items
    → effect items cells (merge right target number) ≡ Ok made → IsTakenBack items cells (merge right target number) made cell
merge-reversed items cells right target number made cell limits e =
    let above = parent_of right in
    let change = merge_at (offset_of right) in
    let last : List Item × (Item × ℕ) → Result State Fault = λ m. check (is_free cells number) (cell_state number)
    >>= (λ _. Ok (m.0, fill cells number (m.1.0 ∷ []))) in
    let next : List Item × (Item × ℕ) → Result State Fault = λ m. check (pointwise nat_eq target (above ++ (offset_of right - 1) ∷ m.1.1 ∷ []))
    not_neighbours >>= (λ _. last m) in
    let a = step-ok (check (nat_lt 0 (offset_of right)) not_neighbours) (λ _. ok_or (at above change items) not_neighbours >>= next) made e in
    let b = step-ok (ok_or (at above change items) not_neighbours) next made a.2 in
    let there = ok_or-some (at above change items) not_neighbours b.0 b.1 in
    let shell = b.0.1.0 in
    let offset = b.0.1.1 in
    let c = step-ok (check (pointwise nat_eq target (above ++ (offset_of right - 1) ∷ offset ∷ [])) not_neighbours) (λ _. last b.0) made b.2 in
    let known = same_numbers target (above ++ (offset_of right - 1) ∷ offset ∷ [])
    (check-true (pointwise nat_eq target (above ++ (offset_of right - 1) ∷ offset ∷ [])) not_neighbours c.0 c.1) in
    let d = step-ok (check (is_free cells number) (cell_state number)) (λ _. Ok (b.0.0, fill cells number (shell ∷ []))) made c.2 in
    let free = check-true (is_free cells number) (cell_state number) d.0 d.1 in
    let tree : b.0.0 ≡ made.0 = pair-first (b.0.0, fill cells number (shell ∷ [])) made d.2 in
    let filled : fill cells number (shell ∷ []) ≡ made.1 = pair-second (b.0.0, fill cells number (shell ∷ [])) made d.2 in
    let bare = at-gives (λ (r : Item × ℕ). shell_of (r.0 ∷ []) ≡ Some r.0) change (merge-shell (offset_of right)) above items b.0.0 b.0.1 there in
    let back = at-back change (split_at (offset_of right - 1) offset (λ _. shell)) (shell, offset) shell (merge-back (offset_of right) offset shell)
    above items b.0.0 there in
    taken_back items cells (merge right target number) made cell limits (set made.1 number [])
    (parted made.0 items made.1 target above (offset_of right - 1) offset number shell known
    (subst (λ t. at above (split_at (offset_of right - 1) offset (λ _. shell)) t ≡ Some (items, shell)) tree back)
    (subst (λ (cs : List (List Item)). in_cell_at cs number ≡ shell ∷ []) filled (fill-at cells number number (shell ∷ []) (free-room cells number free)
    ∙ if-same number number (shell ∷ []) (in_cell_at cells number) refl))
    bare)
    (λ k. ap (λ (cs : List (List Item)). in_cell_at (set cs number []) k) (sym filled) ∙ emptied-at cells number k (shell ∷ []) free)
