-- The reversals of operations that move items in and out of the tree.
use Rattle.std.proofs.Common.{◌≡◌, ℕ, ◌≤◌, true, nat_le, ◌==◌, if◌then◌else◌, List, [], length, set, Option, Some, ok_or, Result, Ok, refl, sym, ap, ◌∙◌, subst}
use Rattle.std.proofs.Common.{arith}
use Rattle.std.proofs.lemmas.Bool.Decides.{nat_tests}
use Rattle.item_definitions.specs.Item.{Item, count_of, depth_of}
use Rattle.item_definitions.specs.Children.{parent_of, offset_of, at}
use Rattle.item_definitions.specs.Position.{Range}
use Rattle.operation_definitions.specs.Level.{put_in, take_out}
use Rattle.operation_definitions.specs.Operation.{Fault, Operation, insert, move, marker, in_tree, in_cell, no_place, cell_state, too_large, too_deep}
use Rattle.operation_definitions.specs.After.{◌>>=◌, check, after, effect, limited, in_cell_at, is_free, fill, holds_count, most_items, most_levels}
use Rattle.operation_definitions.specs.Back.{back}
use Rattle.operation_definitions.specs.Reversed.{IsTakenBack, IsLimited, cell_then, put_away}
use Rattle.operation_definitions.proofs.Lifting.{at-back, at-gives}
use Rattle.operation_definitions.proofs.Levels.{put_in-back, take_out-back, take_out-long}
use Rattle.operation_definitions.proofs.Cells.{if-same, free-room, fill-at, fill-holds, emptied-at, holds-room, holds-long, emptied-free, refilled-at}
use Rattle.operation_definitions.proofs.Steps.{step-ok, ok_or-some, check-true, step, step-some, step-check}

abbrev pub State : Type 0
State = List Item × List (List Item)

-- a tree within the limits passes
pub limited-ok : (items : List Item) (cells : List (List Item)) → IsLimited items → limited (items, cells) ≡ Ok (items, cells)
limited-ok items cells h =
    step-check (nat_le (count_of items) most_items) (too_large (count_of items))
    (λ _. check (nat_le (depth_of items) most_levels) (too_deep (depth_of items)) >>= (λ _. Ok (items, cells))) (Ok (items, cells))
    (yes (count_of items) most_items h.0)
    (step-check (nat_le (depth_of items) most_levels) (too_deep (depth_of items)) (λ _. Ok (items, cells)) (Ok (items, cells))
    (yes (depth_of items) most_levels h.1) refl)
  where
    yes : (a b : ℕ) → a ≤ b → nat_le a b ≡ true
    yes a b less = grind (arith, nat_tests)

-- what passes the limits is what the effect gave
pub after-effect : (items : List Item) (cells : List (List Item)) (operation : Operation) (made : State) → after items cells operation ≡ Ok made
    → effect items cells operation ≡ Ok made
after-effect items cells operation made e =
    let a = step-ok (effect items cells operation) limited made e in
    let b = step-ok (check (nat_le (count_of a.0.0) most_items) (too_large (count_of a.0.0)))
    (λ _. check (nat_le (depth_of a.0.0) most_levels) (too_deep (depth_of a.0.0)) >>= (λ _. Ok a.0)) made a.2 in
    let c = step-ok (check (nat_le (depth_of a.0.0) most_levels) (too_deep (depth_of a.0.0))) (λ _. Ok a.0) made b.2 in
    a.1 ∙ c.2

-- an effect that gives the items from before takes back
pub taken_back : (items : List Item) (cells : List (List Item)) (operation : Operation) (made : State) (cell : ℕ) → IsLimited items
    → (then_cells : List (List Item)) → effect made.0 made.1 (back operation cell) ≡ Ok (items, then_cells)
    → ((number : ℕ) → in_cell_at then_cells number ≡ cell_then (put_away items operation) cells cell number)
    → IsTakenBack items cells operation made cell
taken_back items cells operation made cell limits then_cells e kept = record {
  then_cells = then_cells;
  reversed = step (effect made.0 made.1 (back operation cell)) limited (items, then_cells) (Ok (items, then_cells)) e (limited-ok items then_cells limits);
  kept = kept;
}

pub pair-first : (a b : State) → ◌≡◌ {A = Result State Fault} (Ok a) (Ok b) → a.0 ≡ b.0
pair-first a b e = (let same : a ≡ b = cc in ap (λ (s : State). s.0) same)

pub pair-second : (a b : State) → ◌≡◌ {A = Result State Fault} (Ok a) (Ok b) → a.1 ≡ b.1
pair-second a b e = (let same : a ≡ b = cc in ap (λ (s : State). s.1) same)

-- what a run that is taken out and put into a cell leaves
pub cut : (items left run : List Item) (cells : List (List Item)) (from : List ℕ) (count number : ℕ)
    → at (parent_of from) (take_out (offset_of from) count) items ≡ Some (left, run) → is_free cells number ≡ true
    → effect items cells (move (in_tree from) count (in_cell number)) ≡ Ok (left, fill cells number run)
cut items left run cells from count number e free =
    step-some (at (parent_of from) (take_out (offset_of from) count) items) no_place
    (λ (taken : List Item × List Item). check (is_free cells number) (cell_state number) >>= (λ _. Ok (taken.0, fill cells number taken.1)))
    (left, run) (Ok (left, fill cells number run)) e
    (step-check (is_free cells number) (cell_state number) (λ _. Ok (left, fill cells number run)) (Ok (left, fill cells number run)) free refl)

-- items that came in are put away again
pub insert-back : (items : List Item) (cells : List (List Item)) (position : List ℕ) (new : List Item) (made : State) (cell : ℕ) → IsLimited items
    → effect items cells (insert position new) ≡ Ok made → is_free made.1 cell ≡ true → IsTakenBack items cells (insert position new) made cell
insert-back items cells position new made cell limits e free =
    let a = step-ok (ok_or (at (parent_of position) (put_in (offset_of position) new) items) no_place) (λ (m : List Item × Unit {0}). Ok (m.0, cells)) made e in
    let there = ok_or-some (at (parent_of position) (put_in (offset_of position) new) items) no_place a.0 a.1 in
    let tree : a.0.0 ≡ made.0 = pair-first (a.0.0, cells) made a.2 in
    let same : cells ≡ made.1 = pair-second (a.0.0, cells) made a.2 in
    let out = at-back (put_in (offset_of position) new) (take_out (offset_of position) (length new)) tt new (put_in-back (offset_of position) new)
    (parent_of position) items a.0.0 there in
    taken_back items cells (insert position new) made cell limits (fill made.1 cell new)
    (cut made.0 items new made.1 position (length new) cell (subst (λ t. at (parent_of position) (take_out (offset_of position) (length new)) t
    ≡ Some (items, new)) tree out) free)
    (λ number. fill-at made.1 cell number new (free-room made.1 cell free)
    ∙ ap (λ (cs : List (List Item)). if number == cell then new else in_cell_at cs number) (sym same))

pub run-long : (items left run : List Item) (from : List ℕ) (count : ℕ) → at (parent_of from) (take_out (offset_of from) count) items ≡ Some (left, run)
    → length run ≡ count
run-long items left run from count e = at-gives (λ (r : List Item). length r ≡ count) (take_out (offset_of from) count)
    (take_out-long (offset_of from) count) (parent_of from) items left run e

-- what the items of a cell give where they come in
paste : (items made : List Item) (cells : List (List Item)) (to : List ℕ) (count number : ℕ) (run : List Item)
    → holds_count cells number count ≡ true → in_cell_at cells number ≡ run → at (parent_of to) (put_in (offset_of to) run) items ≡ Some (made, tt)
    → effect items cells (move (in_cell number) count (in_tree to)) ≡ Ok (made, set cells number [])
paste items made cells to count number run full same e =
    step-check (holds_count cells number count) (cell_state number)
    (λ _. ok_or (at (parent_of to) (put_in (offset_of to) (in_cell_at cells number)) items) no_place
    >>= (λ (m : List Item × Unit {0}). Ok (m.0, set cells number [])))
    (Ok (made, set cells number [])) full
    (step-some (at (parent_of to) (put_in (offset_of to) (in_cell_at cells number)) items) no_place
    (λ (m : List Item × Unit {0}). Ok (m.0, set cells number [])) (made, tt) (Ok (made, set cells number []))
    (ap (λ r. at (parent_of to) (put_in (offset_of to) r) items) same ∙ e) refl)

-- a run that was put into a cell goes back
pub store-back : (items : List Item) (cells : List (List Item)) (from : List ℕ) (count number : ℕ) (made : State) (cell : ℕ) → IsLimited items
    → effect items cells (move (in_tree from) count (in_cell number)) ≡ Ok made → IsTakenBack items cells (move (in_tree from) count (in_cell number)) made cell
store-back items cells from count number made cell limits e =
    let a = step-ok (ok_or (at (parent_of from) (take_out (offset_of from) count) items) no_place)
    (λ (taken : List Item × List Item). check (is_free cells number) (cell_state number) >>= (λ _. Ok (taken.0, fill cells number taken.1))) made e in
    let taken = ok_or-some (at (parent_of from) (take_out (offset_of from) count) items) no_place a.0 a.1 in
    let b = step-ok (check (is_free cells number) (cell_state number)) (λ _. Ok (a.0.0, fill cells number a.0.1)) made a.2 in
    let free = check-true (is_free cells number) (cell_state number) b.0 b.1 in
    let tree : a.0.0 ≡ made.0 = pair-first (a.0.0, fill cells number a.0.1) made b.2 in
    let filled : fill cells number a.0.1 ≡ made.1 = pair-second (a.0.0, fill cells number a.0.1) made b.2 in
    let long : length a.0.1 ≡ count = run-long items a.0.0 a.0.1 from count taken in
    let put = at-back (take_out (offset_of from) count) (put_in (offset_of from) a.0.1) a.0.1 tt (take_out-back (offset_of from) count a.0.1)
    (parent_of from) items a.0.0 taken in
    taken_back items cells (move (in_tree from) count (in_cell number)) made cell limits (set made.1 number [])
    (paste made.0 items made.1 from count number a.0.1
    (subst (λ n. holds_count made.1 number n ≡ true) long (subst (λ (cs : List (List Item)). holds_count cs number (length a.0.1) ≡ true) filled
    (fill-holds cells number a.0.1 free)))
    (subst (λ (cs : List (List Item)). in_cell_at cs number ≡ a.0.1) filled (fill-at cells number number a.0.1 (free-room cells number free)
    ∙ if-same number number a.0.1 (in_cell_at cells number) refl))
    (subst (λ t. at (parent_of from) (put_in (offset_of from) a.0.1) t ≡ Some (items, tt)) tree put))
    (λ k. ap (λ (cs : List (List Item)). in_cell_at (set cs number []) k) (sym filled) ∙ emptied-at cells number k a.0.1 free)

-- items that came from a cell go back into it
pub fetch-back : (items : List Item) (cells : List (List Item)) (to : List ℕ) (count number : ℕ) (made : State) (cell : ℕ) → IsLimited items
    → effect items cells (move (in_cell number) count (in_tree to)) ≡ Ok made → IsTakenBack items cells (move (in_cell number) count (in_tree to)) made cell
fetch-back items cells to count number made cell limits e =
    let run = in_cell_at cells number in
    let a = step-ok (check (holds_count cells number count) (cell_state number))
    (λ _. ok_or (at (parent_of to) (put_in (offset_of to) run) items) no_place >>= (λ (m : List Item × Unit {0}). Ok (m.0, set cells number []))) made e in
    let full = check-true (holds_count cells number count) (cell_state number) a.0 a.1 in
    let b = step-ok (ok_or (at (parent_of to) (put_in (offset_of to) run) items) no_place) (λ (m : List Item × Unit {0}). Ok (m.0, set cells number []))
    made a.2 in
    let there = ok_or-some (at (parent_of to) (put_in (offset_of to) run) items) no_place b.0 b.1 in
    let tree : b.0.0 ≡ made.0 = pair-first (b.0.0, set cells number []) made b.2 in
    let emptied : set cells number [] ≡ made.1 = pair-second (b.0.0, set cells number []) made b.2 in
    let room = holds-room cells number count full in
    let out = at-back (put_in (offset_of to) run) (take_out (offset_of to) (length run)) tt run (put_in-back (offset_of to) run) (parent_of to) items
    b.0.0 there in
    let out_count = subst (λ n. at (parent_of to) (take_out (offset_of to) n) b.0.0 ≡ Some (items, run)) (holds-long cells number count full) out in
    taken_back items cells (move (in_cell number) count (in_tree to)) made cell limits (fill made.1 number run)
    (cut made.0 items run made.1 to count number (subst (λ t. at (parent_of to) (take_out (offset_of to) count) t ≡ Some (items, run)) tree out_count)
    (subst (λ (cs : List (List Item)). is_free cs number ≡ true) emptied (emptied-free cells number room)))
    (λ k. ap (λ (cs : List (List Item)). in_cell_at (fill cs number run) k) (sym emptied) ∙ refilled-at cells number k room)

-- a marker changes neither items nor cells
pub marker-back : (items : List Item) (cells : List (List Item)) (name : List ℕ) (old new : Option Range) (made : State) (cell : ℕ) → IsLimited items
    → effect items cells (marker name old new) ≡ Ok made → IsTakenBack items cells (marker name old new) made cell
marker-back items cells name old new made cell limits e =
    let tree : items ≡ made.0 = pair-first (items, cells) made e in
    let same : cells ≡ made.1 = pair-second (items, cells) made e in
    taken_back items cells (marker name old new) made cell limits cells (λ t. Ok (sym tree t, sym same t)) (λ k. refl)
