-- What an edit makes of a document.
use Rattle.std.proofs.Common.{◌≡◌, ◌≢◌, ℕ, ◌-◌, ◌^◌, min, Bool, true, false, List, [], Some, Result, Ok, Err, refl, sym, ap, ◌∙◌, subst}
use Rattle.ck_base.specs.declared.faults.EditFault.{EditFault}
use Rattle.ck_base.specs.declared.faults.EditFault.TheVariants.{BadRange, NoMemory}
use Rattle.item_definitions.specs.Position.{between}
use Rattle.operation_definitions.specs.Operation.{Operation, Fault, no_place, not_flat, into_itself, old_differs, not_neighbours, cell_state, too_large}
use Rattle.operation_definitions.specs.Operation.{too_deep}
use Rattle.document_definitions.specs.Selection.{selected}
use Rattle.document_definitions.specs.Document.{State, with_selection, all_applied}
use Rattle.edit_definitions.specs.declared.edit.Edit.{Edit}
use Rattle.edit_definitions.specs.declared.edit.Edit.TheVariants.{InsertText, InsertElement, Remove, Move, SetAttribute, RemoveAttribute, Rename, Split, Merge}
use Rattle.edit_definitions.specs.declared.edit.Edit.TheVariants.{Wrap, Unwrap, AddMarker, UpdateMarker, RemoveMarker, Select, SelectionAttribute, InsertItems}
use Rattle.document_definitions.specs.Sound.{IsSound}
use Rattle.edit_definitions.specs.Applied.{AreApplied}
use Rattle.edit_definitions.proofs.Planning.{planned_apply}
use Rattle.edit_definitions.specs.Places.{is_range}
use Rattle.edit_definitions.specs.Planned.{◌>>=◌, check, operations_of}
use Rattle.edit_definitions.specs.Performed.{as_step, selecting, performed}
use Rattle.model_ops.specs.declared.fault.OpFault.{OpFault}
use Rattle.model_ops.specs.declared.fault.OpFault.TheVariants as op
use Rattle.model_ops.specs.Effects.{refusal, fault_as}
use Rattle.model_writer.specs.Plans.{IsPlain, IsLimit, limit_of}

-- an edit of the tree or the markers leaves the selection to its operations
plain : (edit : Edit) (state : State) → IsPlain edit → selecting edit state ≡ state
plain (InsertText at text attributes) state h = refl
plain (InsertElement at name attributes) state h = refl
plain (Remove start end) state h = refl
plain (Move start end to) state h = refl
plain (SetAttribute target key value) state h = refl
plain (RemoveAttribute target key) state h = refl
plain (Rename path name) state h = refl
plain (Split at) state h = refl
plain (Merge at) state h = refl
plain (Wrap start end name attributes) state h = refl
plain (Unwrap path) state h = refl
plain (AddMarker name start end) state h = refl
plain (UpdateMarker name start end) state h = refl
plain (RemoveMarker name) state h = refl
plain (Select start end backward) state h = absurd h
plain (SelectionAttribute key value) state h = absurd h
plain (InsertItems at items) state h = refl

-- what follows the operations of an edit
abbrev after : ℕ → Edit → State → List Operation → Result State EditFault
after number edit state operations = as_step number (all_applied operations state) >>= (λ made. Ok (selecting edit made))

pub plain_made : (registered : List ℕ → Bool) (number : ℕ) (edit : Edit) (state new : State) (operations : List Operation) → IsPlain edit
    → operations_of registered number edit state ≡ Ok operations → all_applied operations state ≡ Ok new
    → performed registered number edit state ≡ Ok new
plain_made registered number edit state new operations h planned made =
    ap (λ (r : Result (List Operation) EditFault). r >>= after number edit state) planned
    ∙ ap (λ (r : Result State Fault). as_step number r >>= (λ made. Ok (selecting edit made))) made
    ∙ ap Ok (plain edit new h)

limited : (number : ℕ) (answer : Result State Fault) (fault : OpFault) → refusal answer ≡ Some fault → as_step number answer ≡ Err (limit_of number fault)
limited number (Ok made) fault e = absurd cc
limited number (Err no_place) fault e = (let same : op.NoPlace ≡ fault = cc in ap (λ f. Err (limit_of number f)) same)
limited number (Err not_flat) fault e = (let same : op.NotFlat ≡ fault = cc in ap (λ f. Err (limit_of number f)) same)
limited number (Err into_itself) fault e = (let same : op.IntoItself ≡ fault = cc in ap (λ f. Err (limit_of number f)) same)
limited number (Err (old_differs found)) fault e = (let same : fault_as (old_differs found) ≡ fault = cc in ap (λ f. Err (limit_of number f)) same)
limited number (Err not_neighbours) fault e = (let same : op.NotNeighbours ≡ fault = cc in ap (λ f. Err (limit_of number f)) same)
limited number (Err (cell_state cell)) fault e = (let same : op.CellState cell ≡ fault = cc in ap (λ f. Err (limit_of number f)) same)
limited number (Err (too_large count)) fault e = (let same : op.TooLarge (min count (2 ^ 64 - 1)) ≡ fault = cc in ap (λ f. Err (limit_of number f)) same)
limited number (Err (too_deep depth)) fault e = (let same : op.TooDeep (min depth (2 ^ 32 - 1)) ≡ fault = cc in ap (λ f. Err (limit_of number f)) same)

pub limit_refused : (registered : List ℕ → Bool) (number : ℕ) (edit : Edit) (state : State) (operations : List Operation) (fault : OpFault)
    → operations_of registered number edit state ≡ Ok operations
    → (fault ≢ op.NoMemory → refusal (all_applied operations state) ≡ Some fault) → limit_of number fault ≢ NoMemory
    → performed registered number edit state ≡ Err (limit_of number fault)
limit_refused registered number edit state operations fault planned refused some =
    let told : fault ≢ op.NoMemory = λ e. some (ap (limit_of number) e) in
    ap (λ (r : Result (List Operation) EditFault). r >>= after number edit state) planned
    ∙ ap (λ (r : Result State EditFault). r >>= (λ made. Ok (selecting edit made))) (limited number (all_applied operations state) fault (refused told))

pub plan_refused : (registered : List ℕ → Bool) (number : ℕ) (edit : Edit) (state : State) (fault : EditFault)
    → operations_of registered number edit state ≡ Err fault → performed registered number edit state ≡ Err fault
plan_refused registered number edit state fault refused = ap (λ (r : Result (List Operation) EditFault). r >>= after number edit state) refused

-- a selection
pub selected_made : (registered : List ℕ → Bool) (number : ℕ) (start end : List ℕ) (backward : Bool) (state : State)
    → is_range state.document.items start end ≡ true
    → performed registered number (Select start end backward) state ≡ Ok (with_selection (selected (between start end) backward) state)
selected_made registered number start end backward state there =
    ap (λ t. (check t (BadRange number start end) >>= (λ _. Ok [])) >>= after number (Select start end backward) state) there

pub selected_planned : (registered : List ℕ → Bool) (number : ℕ) (start end : List ℕ) (backward : Bool) (state : State) (operations : List Operation)
    → is_range state.document.items start end ≡ true
    → operations_of registered number (Select start end backward) state ≡ Ok operations → operations ≡ []
selected_planned registered number start end backward state operations there planned =
    let e : ◌≡◌ {A = Result (List Operation) EditFault} (Ok []) (Ok operations) =
    sym (ap (λ t. check t (BadRange number start end) >>= (λ _. Ok [])) there) ∙ planned in
    cc

pub not_selected : (registered : List ℕ → Bool) (number : ℕ) (start end : List ℕ) (backward : Bool) (state : State)
    → is_range state.document.items start end ≡ false
    → performed registered number (Select start end backward) state ≡ Err (BadRange number start end)
not_selected registered number start end backward state gone =
    ap (λ t. (check t (BadRange number start end) >>= (λ _. Ok [])) >>= after number (Select start end backward) state) gone

-- the limits on the tree alone refuse an operation that an edit plans on a sound document
limit-only : (answer : Result State Fault) (fault : OpFault) → AreApplied answer → refusal answer ≡ Some fault → IsLimit fault
limit-only (Ok made) fault applied e = absurd cc
limit-only (Err no_place) fault applied e = absurd applied
limit-only (Err not_flat) fault applied e = absurd applied
limit-only (Err into_itself) fault applied e = absurd applied
limit-only (Err (old_differs found)) fault applied e = absurd applied
limit-only (Err not_neighbours) fault applied e = absurd applied
limit-only (Err (cell_state cell)) fault applied e = absurd applied
limit-only (Err (too_large count)) fault applied e = (let same : op.TooLarge (min count (2 ^ 64 - 1)) ≡ fault = cc in subst IsLimit same tt)
limit-only (Err (too_deep depth)) fault applied e = (let same : op.TooDeep (min depth (2 ^ 32 - 1)) ≡ fault = cc in subst IsLimit same tt)

pub limit_alone : (registered : List ℕ → Bool) (number : ℕ) (edit : Edit) (state : State) (operations : List Operation) (fault : OpFault)
    → IsSound state → operations_of registered number edit state ≡ Ok operations
    → (fault ≢ op.NoMemory → refusal (all_applied operations state) ≡ Some fault) → IsLimit fault
limit_alone registered number edit state operations fault sound planned refused =
    go fault refused (λ told. limit-only (all_applied operations state) fault (planned_apply registered number edit state operations sound planned) told)
  where
    go : (fault : OpFault) → (fault ≢ op.NoMemory → refusal (all_applied operations state) ≡ Some fault)
        → (refusal (all_applied operations state) ≡ Some fault → IsLimit fault) → IsLimit fault
    go op.NoMemory refused told = tt
    go (op.TooLarge count) refused told = tt
    go (op.TooDeep depth) refused told = tt
    go op.NoPlace refused told = told (refused (λ e. cc))
    go op.NotFlat refused told = told (refused (λ e. cc))
    go op.IntoItself refused told = told (refused (λ e. cc))
    go (op.OldDiffers found) refused told = told (refused (λ e. cc))
    go op.NotNeighbours refused told = told (refused (λ e. cc))
    go (op.CellState number) refused told = told (refused (λ e. cc))
