-- How documents settle, round by round.
use Rattle.std.proofs.Common.{◌≡◌, ◌≢◌, ℕ, zero, suc, ◌+◌, ◌<◌, ◌≤◌, List, [], ◌∷◌, ◌++◌, length, Bool, ◌↔◌, Option, Some, None, Result, Ok, Err, refl, sym, ap}
use Rattle.std.proofs.Common.{◌∙◌, subst, arith}
use Rattle.std.specs.Option.{option_or}
use Rattle.std.proofs.lemmas.List.Elements.{All-nil, All-cons, All-head, All-tail}
use Rattle.ck_base.specs.declared.faults.EditFault.{EditFault}
use Rattle.document_definitions.specs.Document.{Document, State}
use Rattle.edit_definitions.specs.declared.edit.Edit.{Edit}
use Rattle.edit_definitions.specs.Performed.{all_performed, apart, document_made}
use Rattle.edit_definitions.proofs.Apart.{alike}
use Rattle.fix_definitions.specs.declared.fault.SettleFault.TheVariants.{NotSettled, FixerRefused, NoMemory}
use Rattle.fix_definitions.specs.Fixes.{Fixing}
use Rattle.fix_definitions.specs.Settling.{Plan, plan_of, plan_by, first_plan, fixer_number, after_plan, at_end, round, settled_in, settle, IsSettled}
use Rattle.fix_definitions.specs.Settling.{document_settled, settled}
use Rattle.fix_definitions.specs.Rounds.{IsFirstPlan, RoundsLead, ComesToRest, StaysRestless, IsRefused}

-- ---- the first plan

module _ (document : Document) where
  abbrev Wants : Fixing → Type 0
  Wants fixing = plan_of fixing document ≡ []

  pub none_first : (number : ℕ) (fixings : List Fixing) → first_plan number fixings document ≡ None → IsSettled fixings document
  none_first number [] e = All-nil Wants
  none_first number (fixing ∷ fixings) e = go (none_first (number + 1) fixings) (plan_of fixing document) refl e
    where
      go : (first_plan (number + 1) fixings document ≡ None → IsSettled fixings document) → (edits : List Edit) → plan_of fixing document ≡ edits
          → option_or (plan_by number edits) (first_plan (number + 1) fixings document) ≡ None → IsSettled (fixing ∷ fixings) document
      go rest [] p e = All-cons Wants fixing fixings p (rest e)
      go rest (edit ∷ edits) p e = absurd cc

  pub first_none : (number : ℕ) (fixings : List Fixing) → IsSettled fixings document → first_plan number fixings document ≡ None
  first_none number [] h = refl
  first_none number (fixing ∷ fixings) h =
      ap (λ edits. option_or (plan_by number edits) (first_plan (number + 1) fixings document)) (All-head Wants fixing fixings h)
      ∙ first_none (number + 1) fixings (All-tail Wants fixing fixings h)

-- ---- a settled document stays

stays : (registered : List ℕ → Bool) (fixings : List Fixing) (rounds left : ℕ) (state : State) → IsSettled fixings state.document
    → settled_in registered fixings rounds left state ≡ Ok state
stays registered fixings rounds zero state h = ap (at_end rounds state) (first_none state.document 1 fixings h)
stays registered fixings rounds (suc left) state h =
    ap (round registered state (settled_in registered fixings rounds left)) (first_none state.document 1 fixings h)

pub stays_settled : (registered : List ℕ → Bool) (fixings : List Fixing) (rounds : ℕ) (state : State) → IsSettled fixings state.document
    → settle registered fixings rounds state ≡ Ok state
stays_settled registered fixings rounds state h = stays registered fixings rounds rounds state h

-- ---- what is settled is at rest

module _ (registered : List ℕ → Bool) (fixings : List Fixing) (rounds : ℕ) where
  rests_in : (left : ℕ) (state made : State) → settled_in registered fixings rounds left state ≡ Ok made → ComesToRest registered fixings left state made
  rests_in zero state made e = go (first_plan 1 fixings state.document) refl e
    where
      go : (plan : Option Plan) → first_plan 1 fixings state.document ≡ plan → at_end rounds state plan ≡ Ok made
          → ComesToRest registered fixings zero state made
      go None p e =
          (let same : state ≡ made = cc in record {
            made_rounds = 0;
            within = omega arith;
            lead = same;
            settled = subst (λ (state : State). IsSettled fixings state.document) same (none_first state.document 1 fixings p);
          })
      go (Some plan) p e = absurd cc
  rests_in (suc left) state made e = go (rests_in left) (first_plan 1 fixings state.document) refl e
    where
      on : ((next made : State) → settled_in registered fixings rounds left next ≡ Ok made → ComesToRest registered fixings left next made)
          → (plan : Plan) (result : Result State EditFault) → first_plan 1 fixings state.document ≡ Some plan → all_performed registered 1 plan.edits state
          ≡ result
          → after_plan plan.fixer result (settled_in registered fixings rounds left) ≡ Ok made → ComesToRest registered fixings (suc left) state made
      on rest plan (Ok next) p q e =
          (let later = rest next made e in record {
            made_rounds = suc later.made_rounds;
            within = (let least = later.within in omega (arith, least));
            lead = (plan, next, p, q, later.lead);
            settled = later.settled;
          })
      on rest plan (Err fault) p q e = absurd cc

      go : ((next made : State) → settled_in registered fixings rounds left next ≡ Ok made → ComesToRest registered fixings left next made)
          → (plan : Option Plan) → first_plan 1 fixings state.document ≡ plan → round registered state (settled_in registered fixings rounds left) plan
          ≡ Ok made
          → ComesToRest registered fixings (suc left) state made
      go rest None p e =
          (let same : state ≡ made = cc in record {
            made_rounds = 0;
            within = omega arith;
            lead = same;
            settled = subst (λ (state : State). IsSettled fixings state.document) same (none_first state.document 1 fixings p);
          })
      go rest (Some plan) p e = on rest plan (all_performed registered 1 plan.edits state) p refl e

  in_rest : (count left : ℕ) (state made : State) → count ≤ left → RoundsLead registered fixings count state made → IsSettled fixings made.document
      → settled_in registered fixings rounds left state ≡ Ok made
  in_rest zero left state made within lead h =
      stays registered fixings rounds left state (subst (λ (state : State). IsSettled fixings state.document) (sym lead) h) ∙ ap Ok lead
  in_rest (suc count) zero state made within lead h = absurd (omega (arith, within))
  in_rest (suc count) (suc left) state made within lead h =
      ap (round registered state (settled_in registered fixings rounds left)) lead.2
      ∙ ap (λ result. after_plan lead.0.fixer result (settled_in registered fixings rounds left)) lead.3
      ∙ in_rest count left lead.1 made (omega (arith, within)) lead.4 h

  -- ---- a plan is still wanted

  restless_in : (left : ℕ) (state : State) (others fixer : ℕ) → settled_in registered fixings rounds left state ≡ Err (NotSettled others fixer)
      → (others ≡ rounds) × StaysRestless registered fixings left state fixer
  restless_in zero state others fixer e = go (first_plan 1 fixings state.document) refl e
    where
      go : (plan : Option Plan) → first_plan 1 fixings state.document ≡ plan → at_end rounds state plan ≡ Err (NotSettled others fixer)
          → (others ≡ rounds) × StaysRestless registered fixings zero state fixer
      go None p e = absurd cc
      go (Some plan) p e =
          (let bound : others ≡ rounds = cc in
          let number : fixer ≡ fixer_number plan.fixer = cc in
          (bound, record { last = state; plan = plan; lead = refl; wanted = p; number = number }))
  restless_in (suc left) state others fixer e = go (restless_in left) (first_plan 1 fixings state.document) refl e
    where
      on : ((next : State) (others fixer : ℕ) → settled_in registered fixings rounds left next ≡ Err (NotSettled others fixer)
          → (others ≡ rounds) × StaysRestless registered fixings left next fixer)
          → (plan : Plan) (result : Result State EditFault) → first_plan 1 fixings state.document ≡ Some plan → all_performed registered 1 plan.edits state
          ≡ result
          → after_plan plan.fixer result (settled_in registered fixings rounds left) ≡ Err (NotSettled others fixer)
          → (others ≡ rounds) × StaysRestless registered fixings (suc left) state fixer
      on rest plan (Ok next) p q e =
          (let later = rest next others fixer e in (
            later.0,
            record {
              last = later.1.last;
              plan = later.1.plan;
              lead = (plan, next, p, q, later.1.lead);
              wanted = later.1.wanted;
              number = later.1.number;
            },
          ))
      on rest plan (Err fault) p q e = absurd cc

      go : ((next : State) (others fixer : ℕ) → settled_in registered fixings rounds left next ≡ Err (NotSettled others fixer)
          → (others ≡ rounds) × StaysRestless registered fixings left next fixer)
          → (plan : Option Plan) → first_plan 1 fixings state.document ≡ plan
          → round registered state (settled_in registered fixings rounds left) plan ≡ Err (NotSettled others fixer)
          → (others ≡ rounds) × StaysRestless registered fixings (suc left) state fixer
      go rest None p e = absurd cc
      go rest (Some plan) p e = on rest plan (all_performed registered 1 plan.edits state) p refl e

  in_unrest : (left : ℕ) (state last : State) (plan : Plan) → RoundsLead registered fixings left state last → first_plan 1 fixings last.document ≡ Some plan
      → settled_in registered fixings rounds left state ≡ Err (NotSettled rounds (fixer_number plan.fixer))
  in_unrest zero state last plan lead wanted =
      ap (at_end rounds state) (ap (λ (state : State). first_plan 1 fixings state.document) lead ∙ wanted)
  in_unrest (suc left) state last plan lead wanted =
      ap (round registered state (settled_in registered fixings rounds left)) lead.2
      ∙ ap (λ result. after_plan lead.0.fixer result (settled_in registered fixings rounds left)) lead.3
      ∙ in_unrest left lead.1 last plan lead.4 wanted

  -- ---- an edit of a plan can't be made

  refused_in : (left : ℕ) (state : State) (fixer : ℕ) (fault : EditFault) → settled_in registered fixings rounds left state ≡ Err (FixerRefused fixer fault)
      → IsRefused registered fixings left state fixer fault
  refused_in zero state fixer fault e = go (first_plan 1 fixings state.document) e
    where
      go : (plan : Option Plan) → at_end rounds state plan ≡ Err (FixerRefused fixer fault) → IsRefused registered fixings zero state fixer fault
      go None e = absurd cc
      go (Some plan) e = absurd cc
  refused_in (suc left) state fixer fault e = go (refused_in left) (first_plan 1 fixings state.document) refl e
    where
      on : ((next : State) (fixer : ℕ) (fault : EditFault) → settled_in registered fixings rounds left next ≡ Err (FixerRefused fixer fault)
          → IsRefused registered fixings left next fixer fault)
          → (plan : Plan) (result : Result State EditFault) → first_plan 1 fixings state.document ≡ Some plan → all_performed registered 1 plan.edits state
          ≡ result
          → after_plan plan.fixer result (settled_in registered fixings rounds left) ≡ Err (FixerRefused fixer fault)
          → IsRefused registered fixings (suc left) state fixer fault
      on rest plan (Ok next) p q e =
          (let later = rest next fixer fault e in record {
            made_rounds = suc later.made_rounds;
            within = (let least = later.within in omega (arith, least));
            last = later.last;
            plan = later.plan;
            lead = (plan, next, p, q, later.lead);
            wanted = later.wanted;
            refused = later.refused;
            number = later.number;
          })
      on rest plan (Err found) p q e =
          (let same : found ≡ fault = cc in
          let number : fixer ≡ fixer_number plan.fixer = cc in record {
            made_rounds = 0;
            within = omega arith;
            last = state;
            plan = plan;
            lead = refl;
            wanted = p;
            refused = q ∙ ap Err same;
            number = number;
          })

      go : ((next : State) (fixer : ℕ) (fault : EditFault) → settled_in registered fixings rounds left next ≡ Err (FixerRefused fixer fault)
          → IsRefused registered fixings left next fixer fault)
          → (plan : Option Plan) → first_plan 1 fixings state.document ≡ plan
          → round registered state (settled_in registered fixings rounds left) plan ≡ Err (FixerRefused fixer fault)
          → IsRefused registered fixings (suc left) state fixer fault
      go rest None p e = absurd cc
      go rest (Some plan) p e = on rest plan (all_performed registered 1 plan.edits state) p refl e

  in_refusal : (count left : ℕ) (state last : State) (plan : Plan) (fault : EditFault) → count < left → RoundsLead registered fixings count state last
      → first_plan 1 fixings last.document ≡ Some plan → all_performed registered 1 plan.edits last ≡ Err fault
      → settled_in registered fixings rounds left state ≡ Err (FixerRefused (fixer_number plan.fixer) fault)
  in_refusal count zero state last plan fault within lead wanted refused = absurd (omega (arith, within))
  in_refusal zero (suc left) state last plan fault within lead wanted refused =
      ap (round registered state (settled_in registered fixings rounds left)) (ap (λ (state : State). first_plan 1 fixings state.document) lead ∙ wanted)
      ∙ ap (λ result. after_plan plan.fixer result (settled_in registered fixings rounds left)) (ap (all_performed registered 1 plan.edits) lead ∙ refused)
  in_refusal (suc count) (suc left) state last plan fault within lead wanted refused =
      ap (round registered state (settled_in registered fixings rounds left)) lead.2
      ∙ ap (λ result. after_plan lead.0.fixer result (settled_in registered fixings rounds left)) lead.3
      ∙ in_refusal count left lead.1 last plan fault (omega (arith, within)) lead.4 wanted refused

  -- ---- no definition knows of memory

  told_in : (left : ℕ) (state : State) → settled_in registered fixings rounds left state ≢ Err NoMemory
  told_in zero state e = go (first_plan 1 fixings state.document) e
    where
      go : (plan : Option Plan) → at_end rounds state plan ≡ Err NoMemory → ⊥
      go None e = cc
      go (Some plan) e = cc
  told_in (suc left) state e = go (told_in left) (first_plan 1 fixings state.document) e
    where
      on : ((next : State) → settled_in registered fixings rounds left next ≡ Err NoMemory → ⊥) → (fixer : ℕ) (result : Result State EditFault)
          → after_plan fixer result (settled_in registered fixings rounds left) ≡ Err NoMemory → ⊥
      on rest fixer (Ok next) e = rest next e
      on rest fixer (Err fault) e = cc

      go : ((next : State) → settled_in registered fixings rounds left next ≡ Err NoMemory → ⊥) → (plan : Option Plan)
          → round registered state (settled_in registered fixings rounds left) plan ≡ Err NoMemory → ⊥
      go rest None e = cc
      go rest (Some plan) e = on rest plan.fixer (all_performed registered 1 plan.edits state) e

pub settles : (registered : List ℕ → Bool) (fixings : List Fixing) (rounds : ℕ) (state made : State)
    → (settle registered fixings rounds state ≡ Ok made) ↔ ComesToRest registered fixings rounds state made
settles registered fixings rounds state made =
    (rests_in registered fixings rounds rounds state made, λ h. in_rest registered fixings rounds h.made_rounds rounds state made h.within h.lead h.settled)

pub restless : (registered : List ℕ → Bool) (fixings : List Fixing) (rounds : ℕ) (state : State) (others fixer : ℕ)
    → (settle registered fixings rounds state ≡ Err (NotSettled others fixer)) ↔ ((others ≡ rounds) × StaysRestless registered fixings rounds state fixer)
restless registered fixings rounds state others fixer = (
  restless_in registered fixings rounds rounds state others fixer,
  λ h. in_unrest registered fixings rounds rounds state h.1.last h.1.plan h.1.lead h.1.wanted ∙ ap (λ n. Err (NotSettled rounds n)) (sym h.1.number)
      ∙ ap (λ n. Err (NotSettled n fixer)) (sym h.0),
)

pub refused : (registered : List ℕ → Bool) (fixings : List Fixing) (rounds : ℕ) (state : State) (fixer : ℕ) (fault : EditFault)
    → (settle registered fixings rounds state ≡ Err (FixerRefused fixer fault)) ↔ IsRefused registered fixings rounds state fixer fault
refused registered fixings rounds state fixer fault = (
  refused_in registered fixings rounds rounds state fixer fault,
  λ h. in_refusal registered fixings rounds h.made_rounds rounds state h.last h.plan fault h.within h.lead h.wanted h.refused
      ∙ ap (λ n. Err (FixerRefused n fault)) (sym h.number),
)

pub told : (registered : List ℕ → Bool) (fixings : List Fixing) (rounds : ℕ) (state : State) → settle registered fixings rounds state ≢ Err NoMemory
told registered fixings rounds state = told_in registered fixings rounds rounds state

-- ---- whose plan is the first

first_is : (document : Document) (number : ℕ) (fixings : List Fixing) (plan : Plan) → first_plan number fixings document ≡ Some plan
    → (before : List Fixing) × (fixing : Fixing) × (behind : List Fixing) × (fixings ≡ before ++ fixing ∷ behind) × (plan.fixer ≡ number + length before)
    × IsSettled before document × (plan.edits ≡ plan_of fixing document) × (plan.edits ≢ [])
first_is document number [] plan e = absurd cc
first_is document number (fixing ∷ fixings) plan e = go (first_is document (number + 1) fixings plan) (plan_of fixing document) refl e
  where
    go : (first_plan (number + 1) fixings document ≡ Some plan
        → (before : List Fixing) × (first : Fixing) × (behind : List Fixing) × (fixings ≡ before ++ first ∷ behind) × (plan.fixer ≡ number + 1 + length before)
        × IsSettled before document × (plan.edits ≡ plan_of first document) × (plan.edits ≢ []))
        → (edits : List Edit) → plan_of fixing document ≡ edits → option_or (plan_by number edits) (first_plan (number + 1) fixings document) ≡ Some plan
        → (before : List Fixing) × (first : Fixing) × (behind : List Fixing) × (fixing ∷ fixings ≡ before ++ first ∷ behind)
        × (plan.fixer ≡ number + length before)
        × IsSettled before document × (plan.edits ≡ plan_of first document) × (plan.edits ≢ [])
    go rest [] p e =
        (let later = rest e in (
          fixing ∷ later.0,
          later.1,
          later.2,
          ap (λ fs. fixing ∷ fs) later.3,
          later.4
              ∙ omega arith,
          All-cons (Wants document) fixing later.0 p later.5,
          later.6,
          later.7,
        ))
    go rest (edit ∷ edits) p e =
        (let same : record { fixer = number; edits = edit ∷ edits } ≡ plan = cc in (
          [],
          fixing,
          fixings,
          refl,
          ap (λ (plan : Plan). plan.fixer) (sym same) ∙ omega arith,
          All-nil (Wants document),
          ap (λ (plan : Plan). plan.edits) (sym same) ∙ sym p,
          λ f. none_left (ap (λ (plan : Plan). plan.edits) same ∙ f),
        ))
      where
        none_left : edit ∷ edits ≡ [] → ⊥
        none_left e = cc

is_first : (document : Document) (number : ℕ) (before : List Fixing) (fixing : Fixing) (behind : List Fixing) (plan : Plan)
    → plan.fixer ≡ number + length before → IsSettled before document → plan.edits ≡ plan_of fixing document → plan.edits ≢ []
    → first_plan number (before ++ fixing ∷ behind) document ≡ Some plan
is_first document number [] fixing behind plan n h e some = go (plan_of fixing document) refl
  where
    go : (edits : List Edit) → plan_of fixing document ≡ edits → option_or (plan_by number edits) (first_plan (number + 1) behind document) ≡ Some plan
    go [] p = absurd (some (e ∙ p))
    go (edit ∷ edits) p = (let number_is : number ≡ plan.fixer = sym (n ∙ omega arith) in λ i. Some (record { fixer = number_is i; edits = sym (e ∙ p) i }))
is_first document number (first ∷ before) fixing behind plan n h e some =
    ap (λ edits. option_or (plan_by number edits) (first_plan (number + 1) (before ++ fixing ∷ behind) document)) (All-head (Wants document) first before h)
    ∙ is_first document (number + 1) before fixing behind plan (n ∙ omega arith) (All-tail (Wants document) first before h) e some

pub first_plans : (fixings : List Fixing) (document : Document) (plan : Plan) → (first_plan 1 fixings document ≡ Some plan) ↔ IsFirstPlan fixings document plan
first_plans fixings document plan = (there, back)
  where
    there : first_plan 1 fixings document ≡ Some plan → IsFirstPlan fixings document plan
    there e =
        let first = first_is document 1 fixings plan e in
        record {
          before = first.0;
          fixing = first.1;
          behind = first.2;
          parts = first.3;
          number = first.4 ∙ omega arith;
          nothing = first.5;
          edits = first.6;
          some = first.7;
        }

    back : IsFirstPlan fixings document plan → first_plan 1 fixings document ≡ Some plan
    back h =
        ap (λ fs. first_plan 1 fs document) h.parts
        ∙ is_first document 1 h.before h.fixing h.behind plan (h.number ∙ omega arith) h.nothing h.edits h.some

-- ---- the cells

module _ (registered : List ℕ → Bool) (fixings : List Fixing) (rounds : ℕ) where
  alike_in : (left : ℕ) (state other : State) → state.document ≡ other.document
      → document_settled (settled_in registered fixings rounds left state) ≡ document_settled (settled_in registered fixings rounds left other)
  alike_in zero state other e = ap (λ document. document_settled (at_end rounds state (first_plan 1 fixings document))) e
      ∙ go (first_plan 1 fixings other.document)
    where
      go : (plan : Option Plan) → document_settled (at_end rounds state plan) ≡ document_settled (at_end rounds other plan)
      go None = ap Ok e
      go (Some plan) = refl
  alike_in (suc left) state other e =
      ap (λ document. document_settled (round registered state (settled_in registered fixings rounds left) (first_plan 1 fixings document))) e
      ∙ go (alike_in left) (first_plan 1 fixings other.document)
    where
      on : ((next another : State) → next.document ≡ another.document
          → document_settled (settled_in registered fixings rounds left next) ≡ document_settled (settled_in registered fixings rounds left another))
          → (fixer : ℕ) (result twin : Result State EditFault) → document_made result ≡ document_made twin
          → document_settled (after_plan fixer result (settled_in registered fixings rounds left))
          ≡ document_settled (after_plan fixer twin (settled_in registered fixings rounds left))
      on rest fixer (Ok next) (Ok another) h = (let same : next.document ≡ another.document = cc in rest next another same)
      on rest fixer (Ok next) (Err fault) h = absurd cc
      on rest fixer (Err fault) (Ok next) h = absurd cc
      on rest fixer (Err fault) (Err other) h = (let same : fault ≡ other = cc in ap (λ fault. Err (FixerRefused (fixer_number fixer) fault)) same)

      go : ((next another : State) → next.document ≡ another.document
          → document_settled (settled_in registered fixings rounds left next) ≡ document_settled (settled_in registered fixings rounds left another))
          → (plan : Option Plan) → document_settled (round registered state (settled_in registered fixings rounds left) plan)
          ≡ document_settled (round registered other (settled_in registered fixings rounds left) plan)
      go rest None = ap Ok e
      go rest (Some plan) =
          on rest plan.fixer (all_performed registered 1 plan.edits state) (all_performed registered 1 plan.edits other)
          (alike registered 1 plan.edits state other e)

pub reads_no_cells : (registered : List ℕ → Bool) (fixings : List Fixing) (rounds : ℕ) (state : State)
    → document_settled (settle registered fixings rounds state) ≡ settled registered fixings rounds state.document
reads_no_cells registered fixings rounds state = alike_in registered fixings rounds rounds state (apart state.document) refl
