-- The numbers of a reversal keep to the limits, where its operation isn't refused.
use Rattle.std.proofs.Common.{◌≡◌, ℕ, zero, suc, ◌+◌, ◌-◌, ◌<◌, ◌≤◌, ◌^◌, true, nat_eq, nat_le, nat_lt, not, List, [], ◌∷◌, ◌++◌, length, set, All, Option}
use Rattle.std.proofs.Common.{Some, None, option_map, ok_or, slice_get, Result, Ok, refl, sym, ap, ◌∙◌, subst, arith}
use Rattle.std.specs.Prelude.{is_some}
use Rattle.std.specs.Cmp.Lexicographic.{pointwise}
use Rattle.std.proofs.lemmas.Bool.Decides.{nat_tests}
use Rattle.std.proofs.lemmas.List.Elements.{All-cons}
use Rattle.item_definitions.specs.Item.{Item, inner, item_count, count_of, item_depth, depth_of}
use Rattle.item_definitions.specs.Children.{parent_of, offset_of, children_at, at, at_index, in_item}
use Rattle.item_definitions.specs.Position.{behind, path_before}
use Rattle.item_definitions.specs.Shift.{IsWithinLimits, to_next, carry_insert, carry_remove}
use Rattle.operation_definitions.specs.Level.{put_in, take_out, one_item, split_item, split_at, merge_at}
use Rattle.operation_definitions.specs.Operation.{Fault, Operation, in_tree, in_cell, fresh, from_cell, insert, move, attribute, rename, split, merge, marker}
use Rattle.operation_definitions.specs.Operation.{no_place, into_itself, not_neighbours, cell_state}
use Rattle.operation_definitions.specs.After.{◌>>=◌, check, effect, after, room_at, shell_of, in_cell_at, is_free, fill, holds_count, is_in_run, like}
use Rattle.operation_definitions.specs.Back.{back}
use Rattle.operation_definitions.proofs.Lifting.{map-some, at-also, at-back, at-push}
use Rattle.operation_definitions.proofs.Levels.{replaced, take_out-back, item-there, split-some}
use Rattle.operation_definitions.proofs.Moves.{put}
use Rattle.operation_definitions.proofs.Stays.{Is, put_in-room, put_in-fits, stays}
use Rattle.operation_definitions.proofs.Names.{same_numbers, next-parent, next-offset, element-is}
use Rattle.operation_definitions.proofs.Steps.{step-ok, ok_or-some, check-true}
use Rattle.operation_definitions.proofs.Simple.{State, after-effect, pair-first, run-long}
use Rattle.operation_definitions.proofs.Cells.{holds-long}
use Rattle.model_tree.specs.Limits.{IsTree}
use Rattle.model_tree.proofs.AtPaths.{inside, at-through, set_in, with_in}
use Rattle.item_definitions.proofs.Sizes.{within-item, length-count}
use Rattle.model_tree.proofs.Limited.{take_out_counts, take_out_stays}
use Rattle.model_tree.proofs.Room.{put_in_count}
use Rattle.model_tree.proofs.Removed.{place_there, carried_in}
use Rattle.model_ops.specs.Limits.{IsWithin, SplitsElement}
use Rattle.model_ops.proofs.Limiting.{after_tree}
use Rattle.model_ops.proofs.Merging.{left-count, end-joined}

-- what is in an element of a list is smaller than the list
within-list : (xs : List Item) (index : ℕ) (item : Item) (items : List Item) → slice_get xs index ≡ Some item → inner item ≡ Some items
    → (depth_of items + 1 ≤ depth_of xs) × (count_of items + 1 ≤ count_of xs) × (index < length xs)
within-list [] index item items e h = absurd cc
within-list (x ∷ xs) zero item items e h =
    let same : x ≡ item = cc in
    let w = within-item item items h in
    (omega (arith, w.0, ap item_depth same), omega (arith, w.1, ap item_count same), omega arith)
within-list (x ∷ xs) (suc index) item items e h = (let w = within-list xs index item items e h in (omega (arith, w.0), omega (arith, w.1), omega (arith, w.2)))

-- the numbers of a position that is there, and how many there are
bounds : (position : List ℕ) (xs : List Item) → count_of xs < 2 ^ 32 → Is (room_at xs position) → (length position ≤ depth_of xs + 1)
    × All (λ n. n < 2 ^ 32) position
bounds [] xs few h = (omega arith, λ k d less. absurd (omega arith))
bounds (o ∷ []) xs few h = (
  omega arith,
  All-cons (λ n. n < 2 ^ 32) o [] (omega (arith, put_in-fits o [] xs h, length-count xs, few))
      (λ k d less. absurd (omega arith)),
)
bounds (i ∷ next ∷ path) xs few h =
    let a = inside xs i (at (parent_of (next ∷ path)) (put_in (offset_of (next ∷ path)) [])) h.0.0 tt h.1 in
    let w = within-list xs i a.item a.children a.there a.here in
    let rest = bounds (next ∷ path) a.children (omega (arith, w.1, few)) ((a.new, tt), a.made) in
    (omega (arith, w.0, rest.0), All-cons (λ n. n < 2 ^ 32) i (next ∷ path) (omega (arith, w.2, length-count xs, few)) rest.1)

place-within : (xs : List Item) (position : List ℕ) → IsTree xs → Is (room_at xs position) → IsWithinLimits position
place-within xs position tree h = (let b = bounds position xs tree.few h in (omega (arith, b.0, tree.flat), b.1))

-- where items are put in, a run is taken out, or an element is split, there is a place
place-put : (offset : ℕ) (new xs ys : List Item) (r : Unit {0}) → put_in offset new xs ≡ Some (ys, r) → Is (put_in offset [] xs)
place-put offset new xs ys r e = put_in-room offset [] xs (put_in-fits offset new xs ((ys, r), e))

place-run : (offset count : ℕ) (xs ys run : List Item) → take_out offset count xs ≡ Some (ys, run) → Is (put_in offset [] xs)
place-run offset count xs ys run e = (let r = replaced offset count (λ run. Some ([], run)) xs ys run e in put_in-room offset [] xs (omega (arith, r.room)))

place-next : (index offset : ℕ) (shell : Item → Item) (xs ys : List Item) (r : Item) → split_at index offset shell xs ≡ Some (ys, r)
    → Is (put_in (index + 1) [] xs)
place-next index offset shell xs ys r e = (let s = replaced index 1 (one_item (λ item. split_item offset (shell item) item)) xs ys r e
    in put_in-room (index + 1) [] xs s.room)

place-in : (index offset : ℕ) (shell : Item → Item) (xs ys : List Item) (r : Item) → split_at index offset shell xs ≡ Some (ys, r)
    → Is (at_index index (in_item (put_in offset [])) xs)
place-in index offset shell xs ys r e =
    let item = item-there index (λ item. split_item offset (shell item) item) xs ys r e in
    let s = split-some offset (shell item.0) item.0 item.1 r item.3 in
    let p = put_in-room offset [] s.0 s.2 in (
      set_in xs index (with_in item.0 p.0),
      at-through (put_in offset []) xs index item.0 s.0 item.2 s.1
          ∙ ap (λ (o : Option (List Item × Unit {0})). option_map (set_in xs index) (option_map (with_in item.0) o)) p.1,
    )

two : (n : ℕ) → nat_le 2 n ≡ true → 2 ≤ n
two n h = grind (arith, nat_tests)

some-is : {X : Type 0} (o : Option X) → is_some o ≡ true → Is o
some-is None e = absurd cc
some-is (Some x) e = (x, refl)

module _ (items : List Item) (cells : List (List Item)) (made : State) (tree : IsTree items) (new_tree : IsTree made.0) where
  insert-within : (position : List ℕ) (new : List Item) → effect items cells (insert position new) ≡ Ok made → IsWithinLimits position × (length new < 2 ^ 32)
  insert-within position new e =
      let change = put_in (offset_of position) new in
      let last : List Item × Unit {0} → Result State Fault = λ m. Ok (m.0, cells) in
      let a = step-ok (ok_or (at (parent_of position) change items) no_place) last made e in
      let there = ok_or-some (at (parent_of position) change items) no_place a.0 a.1 in
      let same : a.0.0 ≡ made.0 = pair-first (a.0.0, cells) made a.2 in
      let counts = put_in_count (parent_of position) (offset_of position) new items a.0.0 a.0.1 there in (
        place-within items position tree (at-also change (put_in (offset_of position) []) (place-put (offset_of position) new) (parent_of position)
            items a.0.0 a.0.1 there),
        omega (arith, counts, ap count_of same, new_tree.few, length-count new),
      )

  -- the run that a move takes out of the tree
  run-within : (from : List ℕ) (count : ℕ) (left run : List Item) → at (parent_of from) (take_out (offset_of from) count) items ≡ Some (left, run)
      → IsWithinLimits from × (count < 2 ^ 32)
  run-within from count left run taken =
      let counts = take_out_counts (parent_of from) (offset_of from) count items left run taken in (
        place-within items from tree (at-also (take_out (offset_of from) count) (put_in (offset_of from) []) (place-run (offset_of from) count)
            (parent_of from) items left run taken),
        omega (arith, counts, run-long items left run from count taken, tree.few, length-count run),
      )

  store-within : (from : List ℕ) (count number : ℕ) → effect items cells (move (in_tree from) count (in_cell number)) ≡ Ok made → IsWithinLimits from
      × (count < 2 ^ 32)
  store-within from count number e =
      let next : List Item × List Item → Result State Fault = λ taken. check (is_free cells number) (cell_state number)
      >>= (λ _. Ok (taken.0, fill cells number taken.1)) in
      let a = step-ok (ok_or (at (parent_of from) (take_out (offset_of from) count) items) no_place) next made e in
      run-within from count a.0.0 a.0.1 (ok_or-some (at (parent_of from) (take_out (offset_of from) count) items) no_place a.0 a.1)

  fetch-within : (number count : ℕ) (to : List ℕ) → effect items cells (move (in_cell number) count (in_tree to)) ≡ Ok made → IsWithinLimits to
      × (count < 2 ^ 32)
  fetch-within number count to e =
      let held = in_cell_at cells number in
      let change = put_in (offset_of to) held in
      let last : List Item × Unit {0} → Result State Fault = λ m. Ok (m.0, set cells number []) in
      let a = step-ok (check (holds_count cells number count) (cell_state number)) (λ _. ok_or (at (parent_of to) change items) no_place >>= last) made e in
      let long = holds-long cells number count (check-true (holds_count cells number count) (cell_state number) a.0 a.1) in
      let b = step-ok (ok_or (at (parent_of to) change items) no_place) last made a.2 in
      let there = ok_or-some (at (parent_of to) change items) no_place b.0 b.1 in
      let same : b.0.0 ≡ made.0 = pair-first (b.0.0, set cells number []) made b.2 in
      let counts = put_in_count (parent_of to) (offset_of to) held items b.0.0 b.0.1 there in (
        place-within items to tree (at-also change (put_in (offset_of to) []) (place-put (offset_of to) held) (parent_of to) items b.0.0 b.0.1 there),
        omega (arith, counts, ap count_of same, new_tree.few, length-count held, long),
      )

  move-within : (from : List ℕ) (count : ℕ) (to : List ℕ) → effect items cells (move (in_tree from) count (in_tree to)) ≡ Ok made
      → IsWithinLimits (carry_remove from count to) × (count < 2 ^ 32) × IsWithinLimits (carry_insert (carry_remove from count to) count to_next from)
  move-within from count to e =
      let target = carry_remove from count to in
      let last : List Item × List Item → Result State Fault = λ taken. ok_or (at (parent_of target) (put_in (offset_of target) taken.1) taken.0)
      no_place >>= (λ m. Ok (m.0, cells)) in
      let next : List Item × List Item → Result State Fault = λ taken. ok_or (room_at items to) no_place
      >>= (λ _. check (not (is_in_run from count to)) into_itself >>= (λ _. last taken)) in
      let a = step-ok (ok_or (at (parent_of from) (take_out (offset_of from) count) items) no_place) next made e in
      let left = a.0.0 in
      let run = a.0.1 in
      let taken = ok_or-some (at (parent_of from) (take_out (offset_of from) count) items) no_place a.0 a.1 in
      let b = step-ok (ok_or (room_at items to) no_place) (λ _. check (not (is_in_run from count to)) into_itself >>= (λ _. last (left, run))) made a.2 in
      let there = ok_or-some (room_at items to) no_place b.0 b.1 in
      let c = step-ok (check (not (is_in_run from count to)) into_itself) (λ _. last (left, run)) made b.2 in
      let d = step-ok (ok_or (at (parent_of target) (put_in (offset_of target) run) left) no_place) (λ m. Ok (m.0, cells)) made c.2 in
      let put_there = ok_or-some (at (parent_of target) (put_in (offset_of target) run) left) no_place d.0 d.1 in
      let whole : d.0.0 ≡ made.0 = pair-first (d.0.0, cells) made d.2 in
      let put_again = at-back (take_out (offset_of from) count) (put_in (offset_of from) run) run tt (take_out-back (offset_of from) count run)
      (parent_of from) items left taken in
      let stood = at-also (put_in (offset_of from) run) (put_in (offset_of from) []) (place-put (offset_of from) run) (parent_of from) left items tt
      put_again in
      let stays_there = subst (λ n. Is (room_at made.0 (put (parent_of target) (offset_of target) n from))) (run-long items left run from count taken)
      (subst (λ t. Is (room_at t (put (parent_of target) (offset_of target) (length run) from))) whole
      (stays (parent_of target) (offset_of target) run left d.0.0 from put_there stood)) in (
        place-within left target (take_out_stays (parent_of from) (offset_of from) count items left run taken tree)
            (carried_in (parent_of from) (offset_of from) count items left run to taken (b.0, there)),
        (run-within from count left run taken).1,
        place-within made.0 (carry_insert target count to_next from) new_tree stays_there,
      )

  -- the two elements of a split
  halves-within : (position : List ℕ) (shell : Item → Item) (ys : List Item) (r : Item) → 2 ≤ length position
      → at (parent_of (parent_of position)) (split_at (offset_of (parent_of position)) (offset_of position) shell) items ≡ Some (ys, r)
      → IsWithinLimits (behind (parent_of position)) × IsWithinLimits position
  halves-within position shell ys r long e =
      let above = parent_of (parent_of position) in
      let index = offset_of (parent_of position) in
      let change = split_at index (offset_of position) shell in
      let next = at-also change (put_in (index + 1) []) (place-next index (offset_of position) shell) above items ys r e in
      let here = at-also change (at_index index (in_item (put_in (offset_of position) []))) (place-in index (offset_of position) shell) above items ys r e in (
        place-within items (behind (parent_of position)) tree
            (next.0, (λ t. at (next-parent position long t) (put_in (next-offset position long t) []) items) ∙ next.1),
        place-within items position tree (
          here.0,
          ap (λ p. at p (put_in (offset_of position) []) items) (element-is position long)
              ∙ at-push above index (put_in (offset_of position) []) items ∙ here.1,
        ),
      )

  fresh-within : (position : List ℕ) (id : ℕ) → effect items cells (split position (fresh id)) ≡ Ok made → (2 ≤ length position)
      × (IsWithinLimits (behind (parent_of position)) × IsWithinLimits position)
  fresh-within position id e =
      let change = split_at (offset_of (parent_of position)) (offset_of position) (like id) in
      let whole = at (parent_of (parent_of position)) change items in
      let last : List Item × Item → Result State Fault = λ m. Ok (m.0, cells) in
      let a = step-ok (check (nat_le 2 (length position)) no_place) (λ _. ok_or whole no_place >>= last) made e in
      let long = two (length position) (check-true (nat_le 2 (length position)) no_place a.0 a.1) in
      let b = step-ok (ok_or whole no_place) last made a.2 in
      (long, halves-within position (like id) b.0.0 b.0.1 long (ok_or-some whole no_place b.0 b.1))

  from_cell-within : (position : List ℕ) (number : ℕ) → effect items cells (split position (from_cell number)) ≡ Ok made → (2 ≤ length position)
      × (IsWithinLimits (behind (parent_of position)) × IsWithinLimits position)
  from_cell-within position number e =
      let whole : Item → Option (List Item × Item) = λ shell. at (parent_of (parent_of position))
      (split_at (offset_of (parent_of position)) (offset_of position) (λ _. shell)) items in
      let last : List Item × Item → Result State Fault = λ m. Ok (m.0, set cells number []) in
      let next : Item → Result State Fault = λ shell. ok_or (whole shell) no_place >>= last in
      let first : List Item × Unit {0} → Result State Fault = λ _. ok_or (shell_of (in_cell_at cells number)) (cell_state number) >>= next in
      let a = step-ok (check (nat_le 2 (length position)) no_place) (λ _. ok_or (room_at items position) no_place >>= first) made e in
      let long = two (length position) (check-true (nat_le 2 (length position)) no_place a.0 a.1) in
      let b = step-ok (ok_or (room_at items position) no_place) first made a.2 in
      let c = step-ok (ok_or (shell_of (in_cell_at cells number)) (cell_state number)) next made b.2 in
      let d = step-ok (ok_or (whole c.0) no_place) last made c.2 in
      (long, halves-within position (λ _. c.0) d.0.0 d.0.1 long (ok_or-some (whole c.0) no_place d.0 d.1))

  merge-within : (right target : List ℕ) (number : ℕ) → effect items cells (merge right target number) ≡ Ok made → IsWithinLimits target
  merge-within right target number e =
      let whole = at (parent_of right) (merge_at (offset_of right)) items in
      let last : List Item × (Item × ℕ) → Result State Fault = λ m. check (is_free cells number) (cell_state number)
      >>= (λ _. Ok (m.0, fill cells number (m.1.0 ∷ []))) in
      let next : List Item × (Item × ℕ)
      → Result State Fault = λ m. check (pointwise nat_eq target (parent_of right ++ (offset_of right - 1) ∷ m.1.1 ∷ [])) not_neighbours >>= (λ _. last m) in
      let a = step-ok (check (nat_lt 0 (offset_of right)) not_neighbours) (λ _. ok_or whole not_neighbours >>= next) made e in
      let b = step-ok (ok_or whole not_neighbours) next made a.2 in
      let count = b.0.1.1 in
      let c = step-ok (check (pointwise nat_eq target (parent_of right ++ (offset_of right - 1) ∷ count ∷ [])) not_neighbours) (λ _. last b.0) made b.2 in
      let known = same_numbers target (parent_of right ++ (offset_of right - 1) ∷ count ∷ [])
      (check-true (pointwise nat_eq target (parent_of right ++ (offset_of right - 1) ∷ count ∷ [])) not_neighbours c.0 c.1) in
      let kids = map-some length (children_at (path_before right) items) count
      (left-count right target number items cells b.0 (ok_or-some whole not_neighbours b.0 b.1)) in
      let joined : target ≡ path_before right ++ count ∷ [] = known ∙ end-joined right target number items cells (parent_of right) (offset_of right - 1)
      count in
      place-within items target tree
      (subst (λ p. Is (room_at items p)) (sym joined)
      (some-is (room_at items (path_before right ++ count ∷ [])) (place_there (path_before right) count items kids.0 (sym kids.1) (omega (arith, kids.2)))))

  back-within : (operation : Operation) → effect items cells operation ≡ Ok made → (cell : ℕ) → SplitsElement operation × IsWithin (back operation cell)
  back-within (insert position new) e cell = (let w = insert-within position new e in (tt, (w.0, w.1, tt)))
  back-within (move (in_tree from) count (in_tree to)) e cell = (let w = move-within from count to e in (tt, (w.0, w.1, w.2)))
  back-within (move (in_tree from) count (in_cell number)) e cell = (let w = store-within from count number e in (tt, (tt, w.1, w.0)))
  back-within (move (in_cell number) count (in_tree to)) e cell = (let w = fetch-within number count to e in (tt, (w.0, w.1, tt)))
  back-within (move (in_cell number) count (in_cell other)) e cell = absurd cc
  back-within (attribute range key old new) e cell = (tt, tt)
  back-within (rename path old new) e cell = (tt, tt)
  back-within (split position (fresh id)) e cell = (let w = fresh-within position id e in (w.0, w.1))
  back-within (split position (from_cell number)) e cell = (let w = from_cell-within position number e in (w.0, w.1))
  back-within (merge right target number) e cell = (tt, merge-within right target number e)
  back-within (marker name old new) e cell = (tt, tt)

-- the conditions of a reversal hold behind each operation that isn't refused
pub back_within : (items : List Item) (cells : List (List Item)) (operation : Operation) (made : State) → IsTree items → after items cells operation
    ≡ Ok made → (cell : ℕ) → SplitsElement operation × IsWithin (back operation cell)
back_within items cells operation made tree e cell =
    back-within items cells made tree (after_tree items cells operation made e) operation (after-effect items cells operation made e) cell
