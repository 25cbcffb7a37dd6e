-- How a document is brought to rest: round by round the plan of the first fixer that wants something is performed, until none wants
-- anything. (After the post-fixers of CKEditor 5's model, which are called until none of them changes anything.)
use Rattle.std.specs.Prelude.{◌≡◌, ℕ, zero, suc, ◌+◌, ◌-◌, ◌^◌, min, List, [], ◌∷◌, Bool, All, Option, Some, None, Result, Ok, Err}
use Rattle.std.specs.Option.{option_or}
use Rattle.ck_base.specs.declared.faults.EditFault.{EditFault}
use Rattle.document_definitions.specs.Document.{Document, State}
use Rattle.edit_definitions.specs.declared.edit.Edit.{Edit}
use Rattle.edit_definitions.specs.Performed.{all_performed, apart}
use Rattle.fix_definitions.specs.declared.fault.SettleFault.{SettleFault}
use Rattle.fix_definitions.specs.declared.fault.SettleFault.TheVariants.{NotSettled, FixerRefused}
use Rattle.fix_definitions.specs.Fixes.{Fixing}

-- a plan that isn't empty, with the number of its fixer
pub record Plan : Type 0 where
  pub fixer : ℕ
  pub edits : List Edit

-- the plan of a fixer on a document
abbrev pub plan_of : Fixing → Document → List Edit
plan_of fixing document = fixing document.items document.markers document.selection

-- edits as the plan of the fixer with this number: None where there are none
abbrev pub plan_by : ℕ → List Edit → Option Plan
plan_by number [] = None
plan_by number (edit ∷ edits) = Some (record { fixer = number; edits = edit ∷ edits })

-- the plan of the first fixer that wants something, of fixers the first of which has this number
abbrev pub first_plan : ℕ → List Fixing → Document → Option Plan
first_plan number [] document = None
first_plan number (fixing ∷ fixings) document = option_or (plan_by number (plan_of fixing document)) (first_plan (number + 1) fixings document)

-- the number of a fixer in a fault: the greatest number of the field's type where it is larger
abbrev pub fixer_number : ℕ → ℕ
fixer_number number = min number (2 ^ 32 - 1)

-- what the edits of a plan have made, and what follows; or which of them can't be made
abbrev pub after_plan : ℕ → Result State EditFault → (State → Result State SettleFault) → Result State SettleFault
after_plan fixer (Ok state) next = next state
after_plan fixer (Err fault) next = Err (FixerRefused (fixer_number fixer) fault)

-- no round is left: the state, where no plan is wanted
abbrev pub at_end : ℕ → State → Option Plan → Result State SettleFault
at_end rounds state None = Ok state
at_end rounds state (Some plan) = Err (NotSettled rounds (fixer_number plan.fixer))

-- a round: the state, where no plan is wanted, or what follows on the first plan
abbrev pub round : (List ℕ → Bool) → State → (State → Result State SettleFault) → Option Plan → Result State SettleFault
round registered state next None = Ok state
round registered state next (Some plan) = after_plan plan.fixer (all_performed registered 1 plan.edits state) next

-- the state after at most so many rounds, of which a number is left
abbrev pub settled_in : (List ℕ → Bool) → List Fixing → ℕ → ℕ → State → Result State SettleFault
settled_in registered fixings rounds zero state = at_end rounds state (first_plan 1 fixings state.document)
settled_in registered fixings rounds (suc left) state = round registered state (settled_in registered fixings rounds left) (first_plan 1 fixings state.document)

-- The state after at most so many rounds of fixers, in which no fixer wants anything; or why there is none. Each round begins with the
-- first fixer again.
abbrev pub settle : (List ℕ → Bool) → List Fixing → ℕ → State → Result State SettleFault
settle registered fixings rounds state = settled_in registered fixings rounds rounds state

-- no fixer wants anything of a document
abbrev pub IsSettled : List Fixing → Document → Type 0
IsSettled fixings document = All (λ fixing. plan_of fixing document ≡ []) fixings

-- the document of a state that is settled, without the cells beside it
abbrev pub document_settled : Result State SettleFault → Result Document SettleFault
document_settled (Ok state) = Ok state.document
document_settled (Err fault) = Err fault

-- the document that settles, or why it doesn't
abbrev pub settled : (List ℕ → Bool) → List Fixing → ℕ → Document → Result Document SettleFault
settled registered fixings rounds document = document_settled (settle registered fixings rounds (apart document))
