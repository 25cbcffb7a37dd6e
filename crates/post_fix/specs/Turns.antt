-- What the answers of a round mean.
use Rattle.std.specs.Prelude.{◌≡◌, ◌≢◌, ℕ, List, ◌++◌, Bool, true, false, None, Result, Ok, Err}
use Rattle.ck_base.specs.declared.faults.EditFault.{EditFault}
use Rattle.document_definitions.specs.Document.{State}
use Rattle.edit_definitions.specs.declared.edit.Edit.{Edit}
use Rattle.fix_definitions.specs.declared.fault.SettleFault.{SettleFault}
use Rattle.fix_definitions.specs.declared.fault.SettleFault.TheVariants.{NoMemory, FixerRefused}
use Rattle.fix_definitions.specs.Fixes.{Fixing}
use Rattle.fix_definitions.specs.Settling.{Plan, first_plan, fixer_number, round}
use Rattle.model_doc.specs.Held.{Moment}
use Rattle.model_doc.specs.Records.{Done}
use Rattle.record_definitions.specs.Operates.{edits_of_round}
use Rattle.record_definitions.specs.Traced.{IsTracedBy, IsTraced}

-- a plan as it is found: the number of its fixer as faults have it, and its edits
abbrev pub found_plan : Plan → ℕ × List Edit
found_plan plan = (fixer_number plan.fixer, plan.edits)

-- A round: true where a plan was performed, and false where none was wanted; another fault than want of memory is the round's.
abbrev pub Turns : (List ℕ → Bool) → List Fixing → State → State → Result Bool SettleFault → Type 0
Turns registered fixings before now (Ok true) =
    (next : State → Result State SettleFault) → round registered before next (first_plan 1 fixings before.document) ≡ next now
Turns registered fixings before now (Ok false) = (first_plan 1 fixings before.document ≡ None) × (now ≡ before)
Turns registered fixings before now (Err fault) =
    fault ≢ NoMemory → (next : State → Result State SettleFault) → round registered before next (first_plan 1 fixings before.document) ≡ Err fault

-- The edits of a plan, whose fixer has this number in faults: they have made a state, or another fault than want of memory tells which can't
-- be made.
abbrev pub Performs : ℕ → Result State EditFault → State → Result (Unit {0}) SettleFault → Type 0
Performs fixer wanted now (Ok done) = wanted ≡ Ok now
Performs fixer wanted now (Err fault) = fault ≢ NoMemory → (inner : EditFault) × (wanted ≡ Err inner) × (fault ≡ FixerRefused fixer inner)

-- What settling has answered: the state that is wanted, or another fault than want of memory as it is wanted.
abbrev pub Settles : Result State SettleFault → State → Result (Unit {0}) SettleFault → Type 0
Settles wanted now (Ok done) = wanted ≡ Ok now
Settles wanted now (Err fault) = fault ≢ NoMemory → wanted ≡ Err fault

-- The records of a round: true where those of the edits of its plan came behind the batch's, and false where none came; where it is refused, those
-- of some edits came.
abbrev pub TurnTraces : (List ℕ → Bool) → List Fixing → List Done → Moment → List Done → Moment → Result Bool SettleFault → Type 0
TurnTraces registered fixings before moment records now (Ok true) =
    (edits : List (ℕ × Edit)) × IsTracedBy registered edits before moment records now
    × ((next : State → List (ℕ × Edit)) → edits_of_round registered moment.state next (first_plan 1 fixings moment.state.document) ≡ edits ++ next now.state)
TurnTraces registered fixings before moment records now (Ok false) = (records ≡ before) × (now ≡ moment)
TurnTraces registered fixings before moment records now (Err fault) = IsTraced registered before moment records now
