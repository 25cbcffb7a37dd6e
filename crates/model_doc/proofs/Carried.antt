-- What an operation that is done keeps to.
use Rattle.std.proofs.Common.{◌≡◌, ℕ, ◌-◌, ◌<◌, ◌≤◌, nat_lt, nat_le, nat_eq, List, [], ◌∷◌, ◌++◌, length, All, Some, Result, Ok, Err, ok_or, get_or, Bool, true}
use Rattle.std.proofs.Common.{false, refl, sym, ap, subst, arith}
use Rattle.std.specs.Cmp.Lexicographic.{pointwise}
use Rattle.std.proofs.lemmas.Bool.Decides.{nat_tests}
use Rattle.item_definitions.specs.Item.{Item, count_of}
use Rattle.item_definitions.specs.Children.{parent_of, offset_of, at}
use Rattle.item_definitions.specs.Position.{Range, IsRange}
use Rattle.item_definitions.specs.Children.{child_count}
use Rattle.item_definitions.specs.Shift.{IsShift}
use Rattle.operation_definitions.specs.Level.{put_in, merge_at}
use Rattle.operation_definitions.specs.Operation.{Operation, Fault, Source, in_tree, in_cell, fresh, from_cell, insert, move, attribute, rename, split, merge}
use Rattle.operation_definitions.specs.Operation.{marker, no_place, not_neighbours, cell_state}
use Rattle.operation_definitions.specs.After.{◌>>=◌, check, after, effect, is_free, fill}
use Rattle.operation_definitions.specs.Reversed.{HasPlaces}
use Rattle.operation_definitions.proofs.Steps.{step-ok, ok_or-some, check-true}
use Rattle.operation_definitions.proofs.Simple.{State as Both, after-effect, pair-first}
use Rattle.operation_definitions.proofs.Names.{same_numbers, target-parent}
use Rattle.document_definitions.specs.Markers.{Markers}
use Rattle.document_definitions.specs.Selection as selections
use Rattle.document_definitions.specs.Selection.{Selection}
use Rattle.document_definitions.specs.Document.{State, shift_of, markers_after, brought, raised, changed, applied}
use Rattle.document_definitions.specs.Sound.{AreIn, IsSound, IsCarried, IsWelcome}
use Rattle.document_definitions.proofs.Limits.{after-limited, carried_within}
use Rattle.model_tree.proofs.Room.{put_in_count}
use Rattle.item_definitions.proofs.Sizes.{length-count}
use Rattle.document_definitions.proofs.Soundness.{keeps_soundness}
use Rattle.model_ops.specs.declared.fault.OpFault.{OpFault}
use Rattle.model_ops.specs.Effects.{refusal}
use Rattle.model_doc.specs.Parts.{state_of}
use Rattle.model_doc.specs.Conditions.{IsFew}

checked : (b : Bool) (fault : Fault) (next : Unit {0} → Result Both Fault) (made : Both) → (check b fault >>= next) ≡ Ok made → b ≡ true
checked true fault next made e = refl
checked false fault next made e = absurd cc

at-least : (a b : ℕ) → nat_le a b ≡ true → a ≤ b
at-least a b e = grind (arith, nat_tests)

above : (a b : ℕ) → nat_lt a b ≡ true → a < b
above a b e = grind (arith, nat_tests)

-- fewer than 2^32 items come in
pub few_items : (items : List Item) (cells : List (List Item)) (operation : Operation) (made : Both) → after items cells operation ≡ Ok made → IsFew operation
few_items items cells (insert position new) made e =
    let a = step-ok (ok_or (at (parent_of position) (put_in (offset_of position) new) items) no_place) (λ (m : List Item × Unit {0}). Ok (m.0, cells)) made
    (after-effect items cells (insert position new) made e) in
    let there = ok_or-some (at (parent_of position) (put_in (offset_of position) new) items) no_place a.0 a.1 in
    let count = put_in_count (parent_of position) (offset_of position) new items a.0.0 a.0.1 there in
    let same : count_of a.0.0 ≡ count_of made.0 = ap count_of (pair-first (a.0.0, cells) made a.2) in
    let limits = (after-limited items cells (insert position new) made e).0 in
    let long = length-count new in
    omega (arith, count, same, limits, long)
few_items items cells (move from count to) made e = tt
few_items items cells (attribute range key old new) made e = tt
few_items items cells (rename path old new) made e = tt
few_items items cells (split position source) made e = tt
few_items items cells (merge right target cell) made e = tt
few_items items cells (marker name old new) made e = tt

-- what is split isn't the root, and what is merged has an element before it, which ends at the target
split-inside : (items : List Item) (cells : List (List Item)) (position : List ℕ) (source : Source) (made : Both)
    → effect items cells (split position source) ≡ Ok made → 2 ≤ length position
split-inside items cells position (fresh id) made e = at-least 2 (length position) (checked (nat_le 2 (length position)) no_place _ made e)
split-inside items cells position (from_cell number) made e = at-least 2 (length position) (checked (nat_le 2 (length position)) no_place _ made e)

pub is_shift : (items : List Item) (cells : List (List Item)) (operation : Operation) (made : Both) → after items cells operation ≡ Ok made
    → IsShift (shift_of operation)
is_shift items cells (insert position new) made e = tt
is_shift items cells (move (in_tree from) count (in_tree to)) made e = tt
is_shift items cells (move (in_tree from) count (in_cell number)) made e = tt
is_shift items cells (move (in_cell number) count (in_tree to)) made e = tt
is_shift items cells (move (in_cell number) count (in_cell other)) made e = tt
is_shift items cells (attribute range key old new) made e = tt
is_shift items cells (rename path old new) made e = tt
is_shift items cells (split position source) made e = split-inside items cells position source made (after-effect items cells (split position source) made e)
is_shift items cells (merge right target number) made e =
    let last : List Item × (Item × ℕ) → Result Both Fault = λ m. check (is_free cells number) (cell_state number)
    >>= (λ _. Ok (m.0, fill cells number (m.1.0 ∷ []))) in
    let next : List Item × (Item × ℕ) → Result Both Fault = λ m. check (pointwise nat_eq target (parent_of right ++ (offset_of right - 1) ∷ m.1.1 ∷ []))
    not_neighbours >>= (λ _. last m) in
    let a = step-ok (check (nat_lt 0 (offset_of right)) not_neighbours)
    (λ _. ok_or (at (parent_of right) (merge_at (offset_of right)) items) not_neighbours >>= next) made
    (after-effect items cells (merge right target number) made e) in
    let b = step-ok (ok_or (at (parent_of right) (merge_at (offset_of right)) items) not_neighbours) next made a.2 in
    let end_test = checked (pointwise nat_eq target (parent_of right ++ (offset_of right - 1) ∷ b.0.1.1 ∷ [])) not_neighbours (λ _. last b.0) made b.2 in (
      above 0 (offset_of right) (check-true (nat_lt 0 (offset_of right)) not_neighbours a.0 a.1),
      target-parent (parent_of right) target (offset_of right - 1) b.0.1.1
          (same_numbers target (parent_of right ++ (offset_of right - 1) ∷ b.0.1.1 ∷ []) end_test),
    )
is_shift items cells (marker name old new) made e = tt

-- each range is carried to positions within the limits
pub all_carried : (items : List Item) (cells : List (List Item)) (operation : Operation) (made : Both) (markers : Markers) → after items cells operation
    ≡ Ok made → HasPlaces operation
    → AreIn items markers → All (λ (marker : List ℕ × Range). IsCarried (shift_of operation) marker.1) markers
all_carried items cells operation made markers e places h = λ k d less. carried_within items cells operation made (get_or markers k d).1 places e (h k d less)

pub one_carried : (items : List Item) (cells : List (List Item)) (operation : Operation) (made : Both) (range : Range) → after items cells operation
    ≡ Ok made → HasPlaces operation
    → IsRange (child_count items) range → IsCarried (shift_of operation) range
one_carried items cells operation made range e places h = carried_within items cells operation made range places e h

-- what is made of a sound document is sound
pub made_sound : (operation : Operation) (state : State) (items : List Item) (cells : List (List Item)) (markers : Markers) (selection : Selection)
    (next_id : ℕ)
    → IsSound state → IsWelcome operation state → HasPlaces operation → after state.document.items state.cells operation ≡ Ok (items, cells)
    → markers ≡ markers_after operation state.document.markers → selection ≡ selections.carried (shift_of operation) state.document.selection
    → next_id ≡ raised state.document.next_id (brought operation) → IsSound (state_of items cells markers selection next_id)
made_sound operation state items cells markers selection next_id sound welcome places e marked chosen above =
    subst IsSound (sym (λ i. state_of items cells (marked i) (chosen i) (above i)))
    (keeps_soundness operation state (changed operation state (items, cells)) sound places welcome
    (ap (λ (r : Result Both Fault). r >>= (λ made. Ok (changed operation state made))) e))

refused : (r : Result Both Fault) (next : Both → Result State Fault) (fault : OpFault) → refusal r ≡ Some fault → refusal (r >>= next) ≡ Some fault
refused (Ok made) next fault e = absurd cc
refused (Err found) next fault e = e

-- a refusal on the items and the cells is one on the document
pub refused_whole : (operation : Operation) (state : State) (fault : OpFault) → refusal (after state.document.items state.cells operation) ≡ Some fault
    → refusal (applied operation state) ≡ Some fault
refused_whole operation state fault e = refused (after state.document.items state.cells operation) (λ made. Ok (changed operation state made)) fault e
