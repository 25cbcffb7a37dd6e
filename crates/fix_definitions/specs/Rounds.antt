-- What the rounds of fixers do, each in words of its own.
use Rattle.std.specs.Prelude.{◌≡◌, ◌≢◌, ℕ, zero, suc, ◌+◌, ◌<◌, ◌≤◌, List, [], ◌∷◌, ◌++◌, length, Bool, Some, Ok, Err}
use Rattle.ck_base.specs.declared.faults.EditFault.{EditFault}
use Rattle.document_definitions.specs.Document.{Document, State}
use Rattle.edit_definitions.specs.Performed.{all_performed}
use Rattle.fix_definitions.specs.Fixes.{Fixing}
use Rattle.fix_definitions.specs.Settling.{Plan, plan_of, first_plan, fixer_number, IsSettled}

-- a plan is that of the first fixer that wants something: no fixer before it does, and its number counts from 1
pub record IsFirstPlan (fixings : List Fixing) (document : Document) (plan : Plan) : Type 0 where
  pub before : List Fixing
  pub fixing : Fixing
  pub behind : List Fixing
  pub parts : fixings ≡ before ++ fixing ∷ behind
  pub number : plan.fixer ≡ length before + 1
  pub nothing : IsSettled before document
  pub edits : plan.edits ≡ plan_of fixing document
  pub some : plan.edits ≢ []

-- so many rounds lead from a state to another one: each makes all edits of the plan of the first fixer that wants something
abbrev pub RoundsLead : (List ℕ → Bool) → List Fixing → ℕ → State → State → Type 0
RoundsLead registered fixings zero state last = state ≡ last
RoundsLead registered fixings (suc rounds) state last =
    (plan : Plan) × (next : State) × (first_plan 1 fixings state.document ≡ Some plan) × (all_performed registered 1 plan.edits state ≡ Ok next)
    × RoundsLead registered fixings rounds next last

-- at most so many rounds lead to a state in which no fixer wants anything
pub record ComesToRest (registered : List ℕ → Bool) (fixings : List Fixing) (rounds : ℕ) (state made : State) : Type 0 where
  pub made_rounds : ℕ
  pub within : made_rounds ≤ rounds
  pub lead : RoundsLead registered fixings made_rounds state made
  pub settled : IsSettled fixings made.document

-- so many rounds lead to a state in which this fixer is the first that still wants something
pub record StaysRestless (registered : List ℕ → Bool) (fixings : List Fixing) (rounds : ℕ) (state : State) (fixer : ℕ) : Type 0 where
  pub last : State
  pub plan : Plan
  pub lead : RoundsLead registered fixings rounds state last
  pub wanted : first_plan 1 fixings last.document ≡ Some plan
  pub number : fixer ≡ fixer_number plan.fixer

-- fewer rounds lead to a state in which an edit of this fixer's plan can't be made
pub record IsRefused (registered : List ℕ → Bool) (fixings : List Fixing) (rounds : ℕ) (state : State) (fixer : ℕ) (fault : EditFault) : Type 0 where
  pub made_rounds : ℕ
  pub within : made_rounds < rounds
  pub last : State
  pub plan : Plan
  pub lead : RoundsLead registered fixings made_rounds state last
  pub wanted : first_plan 1 fixings last.document ≡ Some plan
  pub refused : all_performed registered 1 plan.edits last ≡ Err fault
  pub number : fixer ≡ fixer_number plan.fixer
