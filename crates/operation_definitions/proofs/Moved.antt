-- The reversal of a move in the tree.
use Rattle.std.proofs.Common.{◌≡◌, ◌≢◌, ℕ, Bool, true, false, not, ◌&&◌, List, [], ◌∷◌, ◌++◌, length, Some, ok_or, Result, Ok, refl, sym, ap, ◌∙◌, subst}
use Rattle.item_definitions.specs.Item.{Item}
use Rattle.item_definitions.specs.Children.{parent_of, offset_of, at}
use Rattle.item_definitions.specs.Position.{not_after}
use Rattle.item_definitions.specs.Shift.{to_next, carry_insert, carry_remove, forward}
use Rattle.item_definitions.proofs.Paths.{path-joined}
use Rattle.operation_definitions.specs.Level.{put_in, take_out}
use Rattle.operation_definitions.specs.Operation.{Fault, move, in_tree, no_place, into_itself}
use Rattle.operation_definitions.specs.After.{◌>>=◌, check, effect, in_cell_at, room_at, is_in_run}
use Rattle.operation_definitions.specs.Reversed.{IsTakenBack, IsLimited}
use Rattle.operation_definitions.proofs.Lifting.{at-back, at-also}
use Rattle.operation_definitions.proofs.Levels.{put_in-back, take_out-back}
use Rattle.operation_definitions.proofs.Steps.{step-ok, ok_or-some, check-true, step-some, step-check}
use Rattle.operation_definitions.proofs.Simple.{State, taken_back, pair-first, pair-second, run-long}
use Rattle.operation_definitions.proofs.Moves.{put, put-cut, cut-some, put-outside, cut-outside, forward-is, in_run}
use Rattle.operation_definitions.proofs.Stays.{Is, stays, put_in-room, put_in-fits}

not-true : (b : Bool) → not b ≡ true → b ≡ false
not-true true e = absurd cc
not-true false e = refl

-- the run, by its parent and offset
run-is : (from : List ℕ) (count : ℕ) (position : List ℕ) → from ≢ [] → is_in_run from count position ≡ in_run (parent_of from) (offset_of from) count position
run-is from count position some =
    let e = path-joined from some in
    (λ t. not_after (e t) position && not_after position (forward count (e t)))
    ∙ ap (λ p. not_after (parent_of from ++ offset_of from ∷ []) position && not_after position p) (forward-is count (parent_of from) (offset_of from))

-- a place that can be filled can be left empty
also-empty : (offset : ℕ) (run xs ys : List Item) (r : Unit {0}) → put_in offset run xs ≡ Some (ys, r) → (made : List Item × Unit {0})
    × (put_in offset [] xs ≡ Some made)
also-empty offset run xs ys r e = put_in-room offset [] xs (put_in-fits offset run xs ((ys, r), e))

-- what a move in the tree gives whose steps are known
moved : (items left made run : List Item) (cells : List (List Item)) (from to : List ℕ) (count : ℕ) (there : List Item × Unit {0})
    → at (parent_of from) (take_out (offset_of from) count) items ≡ Some (left, run) → room_at items to ≡ Some there → is_in_run from count to ≡ false
    → at (parent_of (carry_remove from count to)) (put_in (offset_of (carry_remove from count to)) run) left ≡ Some (made, tt)
    → effect items cells (move (in_tree from) count (in_tree to)) ≡ Ok (made, cells)
moved items left made run cells from to count there e f g h =
    let target = carry_remove from count to in
    let last : List Item × List Item → Result State Fault = λ taken. ok_or (at (parent_of target) (put_in (offset_of target) taken.1) taken.0) no_place
    >>= (λ m. Ok (m.0, cells)) in
    let next : List Item × List Item → Result State Fault = λ taken. ok_or (room_at items to) no_place
    >>= (λ _. check (not (is_in_run from count to)) into_itself >>= (λ _. last taken)) in
    let result : Result State Fault = Ok (made, cells) in
    step-some (at (parent_of from) (take_out (offset_of from) count) items) no_place next (left, run) result e
    (step-some (room_at items to) no_place (λ _. check (not (is_in_run from count to)) into_itself >>= (λ _. last (left, run))) there result f
    (step-check (not (is_in_run from count to)) into_itself (λ _. last (left, run)) result (ap not g)
    (step-some (at (parent_of target) (put_in (offset_of target) run) left) no_place (λ m. Ok (m.0, cells)) (made, tt) result h refl)))

-- a move in the tree is taken back
pub move-reversed : (items : List Item) (cells : List (List Item)) (from : List ℕ) (count : ℕ) (to : List ℕ) (made : State) (cell : ℕ) → IsLimited items
    → from ≢ [] → to ≢ []
    → effect items cells (move (in_tree from) count (in_tree to)) ≡ Ok made → IsTakenBack items cells (move (in_tree from) count (in_tree to)) made cell
move-reversed items cells from count to made cell limits some some_to e =
    let target = carry_remove from count to in
    let last : List Item × List Item → Result State Fault = λ taken. ok_or (at (parent_of target) (put_in (offset_of target) taken.1) taken.0) no_place
    >>= (λ m. Ok (m.0, cells)) in
    let next : List Item × List Item → Result State Fault = λ taken. ok_or (room_at items to) no_place
    >>= (λ _. check (not (is_in_run from count to)) into_itself >>= (λ _. last taken)) in
    let a = step-ok (ok_or (at (parent_of from) (take_out (offset_of from) count) items) no_place) next made e in
    let left = a.0.0 in
    let run = a.0.1 in
    let taken = ok_or-some (at (parent_of from) (take_out (offset_of from) count) items) no_place a.0 a.1 in
    let b = step-ok (ok_or (room_at items to) no_place) (λ _. check (not (is_in_run from count to)) into_itself >>= (λ _. last (left, run))) made a.2 in
    let c = step-ok (check (not (is_in_run from count to)) into_itself) (λ _. last (left, run)) made b.2 in
    let out = not-true (is_in_run from count to) (check-true (not (is_in_run from count to)) into_itself c.0 c.1) in
    let d = step-ok (ok_or (at (parent_of target) (put_in (offset_of target) run) left) no_place) (λ m. Ok (m.0, cells)) made c.2 in
    let put_there = ok_or-some (at (parent_of target) (put_in (offset_of target) run) left) no_place d.0 d.1 in
    let tree : d.0.0 ≡ made.0 = pair-first (d.0.0, cells) made d.2 in
    let same : cells ≡ made.1 = pair-second (d.0.0, cells) made d.2 in
    let long : length run ≡ count = run-long items left run from count taken in
    let back_to = carry_insert target count to_next from in
    let some_target : target ≢ [] = cut-some (parent_of from) (offset_of from) count to some_to in
    let whole : target ≡ parent_of target ++ offset_of target ∷ [] = path-joined target some_target in
    let here : from ≡ parent_of from ++ offset_of from ∷ [] = path-joined from some in
    let apart : parent_of target ++ offset_of target ∷ [] ≢ from =
    λ f. cut-outside (parent_of from) (offset_of from) count to (sym (run-is from count to some) ∙ out) (whole ∙ f ∙ here) in
    let take_again = at-back (put_in (offset_of target) run) (take_out (offset_of target) (length run)) tt run (put_in-back (offset_of target) run)
    (parent_of target) left d.0.0 put_there in
    let taken_again = subst (λ n. at (parent_of target) (take_out (offset_of target) n) made.0 ≡ Some (left, run)) long
    (subst (λ t. at (parent_of target) (take_out (offset_of target) (length run)) t ≡ Some (left, run)) tree take_again) in
    let put_again = at-back (take_out (offset_of from) count) (put_in (offset_of from) run) run tt (take_out-back (offset_of from) count run)
    (parent_of from) items left taken in
    let stood = at-also (put_in (offset_of from) run) (put_in (offset_of from) []) (also-empty (offset_of from) run) (parent_of from) left items tt put_again in
    let stays_there = subst (λ n. Is (room_at made.0 (put (parent_of target) (offset_of target) n from))) long
    (subst (λ t. Is (room_at t (put (parent_of target) (offset_of target) (length run) from))) tree
    (stays (parent_of target) (offset_of target) run left d.0.0 from put_there stood)) in
    let home : carry_remove target count back_to ≡ from = put-cut (parent_of target) (offset_of target) count from in
    taken_back items cells (move (in_tree from) count (in_tree to)) made cell limits made.1
    (moved made.0 left items run made.1 target back_to count stays_there.0 taken_again stays_there.1
    (run-is target count back_to some_target ∙ put-outside (parent_of target) (offset_of target) count from apart)
    (subst (λ p. at (parent_of p) (put_in (offset_of p) run) left ≡ Some (items, tt)) (sym home) put_again))
    (λ k. ap (λ (cs : List (List Item)). in_cell_at cs k) (sym same))
