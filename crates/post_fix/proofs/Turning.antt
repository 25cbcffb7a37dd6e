-- What a round's answers mean, by what its parts have answered.
use Rattle.std.proofs.Common.{◌≡◌, ◌≢◌, ℕ, zero, suc, ◌-◌, ◌<◌, List, ◌++◌, Bool, true, false, Option, Some, None, option_map, Result, Ok, Err, OnOk, refl}
use Rattle.std.proofs.Common.{sym, ap}
use Rattle.std.proofs.Common.{◌∙◌, arith}
use Rattle.ck_base.specs.declared.faults.EditFault.{EditFault}
use Rattle.ck_base.specs.declared.faults.EditFault.TheVariants as edit
use Rattle.document_definitions.specs.Document.{State}
use Rattle.edit_definitions.specs.declared.edit.Edit.{Edit}
use Rattle.edit_definitions.specs.Performed.{all_performed}
use Rattle.fix_definitions.specs.declared.fault.SettleFault.{SettleFault}
use Rattle.fix_definitions.specs.declared.fault.SettleFault.TheVariants.{NoMemory, FixerRefused, NotSettled}
use Rattle.fix_definitions.specs.Fixes.{Fixing}
use Rattle.fix_definitions.specs.Settling.{Plan, first_plan, fixer_number, after_plan, at_end, round, settled_in}
use Rattle.model_doc.specs.Held.{Moment}
use Rattle.model_doc.specs.Records.{Done}
use Rattle.record_definitions.specs.Operates.{edits_after, edits_of_round}
use Rattle.record_definitions.specs.Traced.{numbered, IsTracedBy}
use Rattle.post_fix.specs.Turns.{found_plan, Turns, Performs, Settles, TurnTraces}

-- a fault that isn't want of memory comes from an edit whose fault isn't
pub refused : (fixer : ℕ) (wanted : Result State EditFault) (now : State) (fault : EditFault) (answer : SettleFault)
    → (fault ≢ edit.NoMemory → wanted ≡ Err fault) → (fault ≡ edit.NoMemory → answer ≡ NoMemory) → (fault ≢ edit.NoMemory → answer ≡ FixerRefused fixer fault)
    → Performs fixer wanted now (Err answer)
refused fixer wanted now fault answer w m r some =
    let other : fault ≢ edit.NoMemory = (λ e. some (m e)) in
    (fault, w other, r other)

pub none_wanted : (plan : Option Plan) (edits : List Edit) → option_map (λ (fixer : ℕ). (fixer, edits)) None ≡ option_map found_plan plan → plan ≡ None
none_wanted None edits e = refl
none_wanted (Some plan) edits e = absurd cc

module _ (registered : List ℕ → Bool) (fixings : List Fixing) (before : State) where
  found : (plan : Option Plan) (fixer : ℕ) (edits : List Edit) → Some (fixer, edits) ≡ option_map found_plan plan
      → (found : Plan) × (plan ≡ Some found) × (fixer ≡ fixer_number found.fixer) × (edits ≡ found.edits)
  found None fixer edits e = absurd cc
  found (Some plan) fixer edits e =
      let same : (fixer, edits) ≡ found_plan plan = cc in
      (plan, refl, ap (λ (pair : ℕ × List Edit). pair.0) same, ap (λ (pair : ℕ × List Edit). pair.1) same)

  pub turned : (now : State) (fixer : ℕ) (edits : List Edit) → option_map (λ fixer. (fixer, edits)) (Some fixer)
      ≡ option_map found_plan (first_plan 1 fixings before.document)
      → Performs fixer (all_performed registered 1 edits before) now (Ok tt) → Turns registered fixings before now (Ok true)
  turned now fixer edits e h next =
      let plan = found (first_plan 1 fixings before.document) fixer edits e in
      ap (round registered before next) plan.1
      ∙ ap (λ result. after_plan plan.0.fixer result next) (ap (λ edits. all_performed registered 1 edits before) (sym plan.3) ∙ h)

  pub not_turned : (now : State) (fixer : ℕ) (edits : List Edit) (fault : SettleFault)
      → option_map (λ fixer. (fixer, edits)) (Some fixer) ≡ option_map found_plan (first_plan 1 fixings before.document)
      → Performs fixer (all_performed registered 1 edits before) now (Err fault) → Turns registered fixings before now (Err fault)
  not_turned now fixer edits fault e h some next =
      let plan = found (first_plan 1 fixings before.document) fixer edits e in
      let told = h some in
      ap (round registered before next) plan.1
      ∙ ap (λ result. after_plan plan.0.fixer result next) (ap (λ edits. all_performed registered 1 edits before) (sym plan.3) ∙ told.1)
      ∙ ap (λ n. Err (FixerRefused n told.0)) (sym plan.2) ∙ ap Err (sym told.2)

  -- ---- all rounds

  module _ (rounds : ℕ) where
    one_round : (left : ℕ) → 0 < left
        → settled_in registered fixings rounds left before
        ≡ round registered before (settled_in registered fixings rounds (left - 1)) (first_plan 1 fixings before.document)
    one_round zero some = absurd (omega (arith, some))
    one_round (suc left) some =
        let same : left ≡ suc left - 1 = omega arith in
        ap (λ n. round registered before (settled_in registered fixings rounds n) (first_plan 1 fixings before.document)) same

    pub stepped : (left : ℕ) (now : State) (wanted : Result State SettleFault) → 0 < left → Turns registered fixings before now (Ok true)
        → settled_in registered fixings rounds left before ≡ wanted → settled_in registered fixings rounds (left - 1) now ≡ wanted
    stepped left now wanted some h e = sym (h (settled_in registered fixings rounds (left - 1))) ∙ sym (one_round left some) ∙ e

    pub rested : (left : ℕ) (now : State) (wanted : Result State SettleFault) → 0 < left → Turns registered fixings before now (Ok false)
        → settled_in registered fixings rounds left before ≡ wanted → Settles wanted now (Ok tt)
    rested left now wanted some h e =
        sym e ∙ one_round left some ∙ ap (round registered before (settled_in registered fixings rounds (left - 1))) h.0 ∙ ap Ok (sym h.1)

    pub stopped : (left : ℕ) (now : State) (wanted : Result State SettleFault) (fault : SettleFault) → 0 < left
        → Turns registered fixings before now (Err fault)
        → settled_in registered fixings rounds left before ≡ wanted → Settles wanted now (Err fault)
    stopped left now wanted fault some h e other =
        sym e ∙ one_round left some ∙ h other (settled_in registered fixings rounds (left - 1))

    pub ended : (left : ℕ) (wanted : Result State SettleFault) (answer : Result (Unit {0}) SettleFault) → ¬ (0 < left)
        → settled_in registered fixings rounds left before ≡ wanted → Settles (at_end rounds before (first_plan 1 fixings before.document)) before answer
        → Settles wanted before answer
    ended zero wanted (Ok done) none e h = sym e ∙ h
    ended zero wanted (Err fault) none e h = λ other. sym e ∙ h other
    ended (suc left) wanted answer none e h = absurd (none (omega arith))

  pub still_wanted : (rounds fixer : ℕ) (edits : List Edit) → option_map (λ fixer. (fixer, edits)) (Some fixer)
      ≡ option_map found_plan (first_plan 1 fixings before.document)
      → Settles (at_end rounds before (first_plan 1 fixings before.document)) before (Err (NotSettled rounds fixer))
  still_wanted rounds fixer edits e other =
      let plan = found (first_plan 1 fixings before.document) fixer edits e in
      ap (at_end rounds before) plan.1 ∙ ap (λ n. Err (NotSettled rounds n)) (sym plan.2)

-- ---- the three answers apart

pub made : (wanted : Result State SettleFault) (now : State) (answer : Result (Unit {0}) SettleFault) → Settles wanted now answer
    → OnOk answer (wanted ≡ Ok now)
made wanted now (Ok done) h = h
made wanted now (Err fault) h = tt

pub told_rounds : (wanted : Result State SettleFault) (now : State) (answer : Result (Unit {0}) SettleFault) → Settles wanted now answer
    → (others fixer : ℕ) → answer ≡ Err (NotSettled others fixer) → wanted ≡ Err (NotSettled others fixer)
told_rounds wanted now (Ok done) h others fixer e = absurd cc
told_rounds wanted now (Err fault) h others fixer e =
    let same : fault ≡ NotSettled others fixer = cc in
    h (λ f. (let both = sym same ∙ f in cc)) ∙ ap Err same

pub told_refusal : (wanted : Result State SettleFault) (now : State) (answer : Result (Unit {0}) SettleFault) → Settles wanted now answer
    → (fixer : ℕ) (inner : EditFault) → answer ≡ Err (FixerRefused fixer inner) → wanted ≡ Err (FixerRefused fixer inner)
told_refusal wanted now (Ok done) h fixer inner e = absurd cc
told_refusal wanted now (Err fault) h fixer inner e =
    let same : fault ≡ FixerRefused fixer inner = cc in
    h (λ f. (let both = sym same ∙ f in cc)) ∙ ap Err same

-- ---- the records

-- the edits of a plan were performed
pub plan_traced : (registered : List ℕ → Bool) (fixings : List Fixing) (before records : List Done) (moment now : Moment) (fixer : ℕ) (edits : List Edit)
    → option_map (λ fixer. (fixer, edits)) (Some fixer) ≡ option_map found_plan (first_plan 1 fixings moment.state.document)
    → Performs fixer (all_performed registered 1 edits moment.state) now.state (Ok tt)
    → IsTracedBy registered (numbered 1 edits) before moment records now → TurnTraces registered fixings before moment records now (Ok true)
plan_traced registered fixings before records moment now fixer edits e made traced =
    let plan = found registered fixings moment.state (first_plan 1 fixings moment.state.document) fixer edits e in (
      numbered 1 edits,
      traced,
      λ next. ap (edits_of_round registered moment.state next) plan.1
          ∙ ap (λ edits. numbered 1 edits ++ edits_after (all_performed registered 1 edits moment.state) next) (sym plan.3)
          ∙ ap (λ r. numbered 1 edits ++ edits_after r next) made,
    )
