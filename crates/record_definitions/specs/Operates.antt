-- Which edits a change is made of, those of its fixers too, and whether they make any operation.
use Rattle.std.specs.Prelude.{ℕ, zero, suc, List, [], ◌∷◌, ◌++◌, Bool, true, false, ◌||◌, Option, Some, None, Result, Ok, Err}
use Rattle.ck_base.specs.declared.faults.EditFault.{EditFault}
use Rattle.schema_definitions.specs.Allowed.{is_registered}
use Rattle.operation_definitions.specs.Operation.{Operation}
use Rattle.document_definitions.specs.Document.{Document, State}
use Rattle.edit_definitions.specs.declared.edit.Edit.{Edit}
use Rattle.edit_definitions.specs.Planned.{operations_of}
use Rattle.edit_definitions.specs.Performed.{performed, all_performed, apart}
use Rattle.fix_definitions.specs.Fixes.{Fixing}
use Rattle.fix_definitions.specs.Settling.{Plan, first_plan}
use Rattle.step_definitions.specs.Step.{Terms}
use Rattle.record_definitions.specs.Traced.{numbered}

-- the edits that follow on what was made: none where an edit was refused
abbrev pub edits_after : Result State EditFault → (State → List (ℕ × Edit)) → List (ℕ × Edit)
edits_after (Ok state) next = next state
edits_after (Err fault) next = []

-- the edits of a round, each with its number in its plan, and those that follow on them: none where no plan is wanted
abbrev pub edits_of_round : (List ℕ → Bool) → State → (State → List (ℕ × Edit)) → Option Plan → List (ℕ × Edit)
edits_of_round registered state next None = []
edits_of_round registered state next (Some plan) = numbered 1 plan.edits ++ edits_after (all_performed registered 1 plan.edits state) next

-- the edits of at most so many rounds of fixers
abbrev pub edits_of_rounds : (List ℕ → Bool) → List Fixing → ℕ → State → List (ℕ × Edit)
edits_of_rounds registered fixings zero state = []
edits_of_rounds registered fixings (suc left) state =
    edits_of_round registered state (edits_of_rounds registered fixings left) (first_plan 1 fixings state.document)

-- the edits of a change, and then those of the rounds of its fixers
abbrev pub edits_of_change : Terms → List Edit → State → List (ℕ × Edit)
edits_of_change terms edits state =
    numbered 1 edits ++ edits_after (all_performed (is_registered terms.rules) 1 edits state)
    (edits_of_rounds (is_registered terms.rules) terms.fixings terms.rounds)

-- an edit makes an operation
abbrev pub has_operation : Result (List Operation) EditFault → Bool
has_operation (Ok []) = false
has_operation (Ok (operation ∷ operations)) = true
has_operation (Err fault) = false

-- whether what follows on an edit makes any operation: not where the edit is refused
abbrev pub operate_after : Result State EditFault → (State → Bool) → Bool
operate_after (Ok state) next = next state
operate_after (Err fault) next = false

-- whether edits, one after the other, each with its number, make any operation
abbrev pub operate : (List ℕ → Bool) → List (ℕ × Edit) → State → Bool
operate registered [] state = false
operate registered (first ∷ edits) state =
    has_operation (operations_of registered first.0 first.1 state)
    || operate_after (performed registered first.0 first.1 state) (operate registered edits)

-- whether a change makes any operation, by its edits or by its fixers. One that makes none may have changed the selection, and nothing else.
abbrev pub operates : Terms → List Edit → Document → Bool
operates terms edits document = operate (is_registered terms.rules) (edits_of_change terms edits (apart document)) (apart document)
