-- Which records are left by edits, one after the other.
use Rattle.std.proofs.Common.{◌≡◌, ℕ, ◌+◌, ◌<◌, ◌-◌, zero, suc, Bool, List, [], ◌∷◌, ◌++◌, length, reverse, Option, Some, None, Result, Ok, Err, refl, sym}
use Rattle.std.proofs.Common.{ap, ◌∙◌, subst, append_assoc, append-nil}
use Rattle.ck_base.specs.declared.faults.EditFault.{EditFault}
use Rattle.operation_definitions.specs.Operation.{Operation}
use Rattle.document_definitions.specs.Document.{State, all_applied}
use Rattle.edit_definitions.specs.declared.edit.Edit.{Edit}
use Rattle.edit_definitions.specs.Planned.{◌>>=◌, operations_of}
use Rattle.edit_definitions.specs.Performed.{as_step, selecting, performed}
use Rattle.model_doc.specs.Held.{Moment}
use Rattle.model_doc.specs.Records.{Done, records_of}
use Rattle.undo_stack.specs.Chains.{IsFrom, LedBack}
use Rattle.undo_stack.proofs.Moments.{from_self, from_on}
use Rattle.record_definitions.specs.Brought.{BringsInOrder}
use Rattle.record_definitions.specs.Traced.{IsFit, IsOneEdit, numbered, Lead, IsTracedBy, IsTraced, Traces, IsPartway}
use Rattle.record_definitions.proofs.Orders.{KeepsOrder}
use Rattle.record_definitions.proofs.Leading.{edit_leads, edit_fits, nothing_recorded}

module _ (registered : List ℕ → Bool) where
  pub lead_on : (edits others : List (ℕ × Edit)) (moment mid now : Moment) (records more : List Done) → Lead registered edits moment records mid
      → Lead registered others mid more now → Lead registered (edits ++ others) moment (records ++ more) now
  lead_on [] others moment mid now records more h g =
      subst (λ m. Lead registered others m (records ++ more) now) h.1 (subst (λ rs. Lead registered others mid (rs ++ more) now) (sym h.0) g)
  lead_on (first ∷ edits) others moment mid now records more h g = (
    h.0,
    h.1 ++ more,
    h.2,
    ap (λ rs. rs ++ more) h.3 ∙ append_assoc h.0 h.1 more,
    h.4,
    lead_on edits others h.2 mid now h.1 more h.5 g,
  )

  pub traced_on : (edits others : List (ℕ × Edit)) (before mid records : List Done) (start moment now : Moment)
      → IsTracedBy registered edits before start mid moment → IsTracedBy registered others mid moment records now
      → IsTracedBy registered (edits ++ others) before start records now
  traced_on edits others before mid records start moment now h g = (
    h.0 ++ g.0,
    g.1 ∙ ap (λ rs. rs ++ g.0) h.1 ∙ append_assoc before h.0 g.0,
    lead_on edits others start moment now h.0 g.0 h.2 g.2,
  )

  pub none_traced : (before records : List Done) (moment now : Moment) → records ≡ before → now ≡ moment → IsTracedBy registered [] before moment records now
  none_traced before records moment now r n = ([], r ∙ sym (append-nil before), (refl, n))

  -- at the beginning all are left, and at the end none is
  pub begins : (all : List (ℕ × Edit)) (before : List Done) (moment : Moment) → IsPartway registered all all before moment before moment
  begins all before moment = ([], refl, none_traced before before moment moment refl refl)

  pub ends : (all : List (ℕ × Edit)) (before records : List Done) (moment now : Moment) → IsPartway registered all [] before moment records now
      → IsTracedBy registered all before moment records now
  ends all before records moment now h =
      subst (λ edits. IsTracedBy registered edits before moment records now) (sym (append-nil h.0) ∙ h.1) h.2

  -- some edits more
  pub goes_on : (all edits left : List (ℕ × Edit)) (before mid records : List Done) (start moment now : Moment)
      → IsPartway registered all (edits ++ left) before start mid moment → IsTracedBy registered edits mid moment records now
      → IsPartway registered all left before start records now
  goes_on all edits left before mid records start moment now h g = (
    h.0 ++ edits,
    append_assoc h.0 edits left ∙ h.1,
    traced_on h.0 edits before mid records start moment now h.2 g,
  )

  -- an edit is refused, and nothing has changed
  pub stops : (all left : List (ℕ × Edit)) (before mid records : List Done) (start moment now : Moment)
      → IsPartway registered all left before start mid moment → records ≡ mid → now ≡ moment → IsTraced registered before start records now
  stops all left before mid records start moment now h r n =
      (h.0, subst (λ rs. IsTracedBy registered h.0 before start rs now) (sym r) (subst (λ m. IsTracedBy registered h.0 before start mid m) (sym n) h.2))

  -- some edits more, and then one is refused
  pub stops_behind : (all left : List (ℕ × Edit)) (before mid records : List Done) (start moment now : Moment)
      → IsPartway registered all left before start mid moment → IsTraced registered mid moment records now → IsTraced registered before start records now
  stops_behind all left before mid records start moment now h g =
      (h.0 ++ g.0, traced_on h.0 g.0 before mid records start moment now h.2 g.1)

  planned : (number : ℕ) (edit : Edit) (state made : State) → performed registered number edit state ≡ Ok made
      → (operations : List Operation) × (operations_of registered number edit state ≡ Ok operations)
  planned number edit state made e = go (operations_of registered number edit state) refl e
    where
      go : (result : Result (List Operation) EditFault) → operations_of registered number edit state ≡ result
          → (result >>= (λ operations. as_step number (all_applied operations state) >>= (λ made. Ok (selecting edit made)))) ≡ Ok made
          → (operations : List Operation) × (operations_of registered number edit state ≡ Ok operations)
      go (Ok operations) o e = (operations, o)
      go (Err fault) o e = absurd cc

  one_traced : (number : ℕ) (edit : Edit) (before records : List Done) (moment now : Moment) → BringsInOrder edit
      → performed registered number edit moment.state ≡ Ok now.state
      → ((operations : List Operation) → operations_of registered number edit moment.state ≡ Ok operations
      → records ≡ before ++ records_of operations moment.state moment.mark)
      → ((operations : List Operation) → operations_of registered number edit moment.state ≡ Ok operations → now.mark ≡ moment.mark + length operations)
      → IsTracedBy registered ((number, edit) ∷ []) before moment records now
  one_traced number edit before records moment now orderly e r m =
      let plan = planned number edit moment.state now.state e in
      let added = records_of plan.0 moment.state moment.mark in (
        added,
        r plan.0 plan.1,
        (
          added,
          [],
          now,
          sym (append-nil added),
          record { operations = plan.0; planned = plan.1; made = e; left = refl; mark = m plan.0 plan.1; orderly = orderly },
          (refl, refl),
        ),
      )

  -- one edit more of a plan
  pub goes_on_by_one : (all : List (ℕ × Edit)) (number : ℕ) (edit : Edit) (edits : List Edit) (before mid records : List Done) (start moment now : Moment)
      → IsPartway registered all (numbered number (edit ∷ edits)) before start mid moment → BringsInOrder edit
      → performed registered number edit moment.state ≡ Ok now.state
      → ((operations : List Operation) → operations_of registered number edit moment.state ≡ Ok operations
      → records ≡ mid ++ records_of operations moment.state moment.mark)
      → ((operations : List Operation) → operations_of registered number edit moment.state ≡ Ok operations → now.mark ≡ moment.mark + length operations)
      → IsPartway registered all (numbered (number + 1) edits) before start records now
  goes_on_by_one all number edit edits before mid records start moment now h orderly e r m =
      goes_on all ((number, edit) ∷ []) (numbered (number + 1) edits) before mid records start moment now h
      (one_traced number edit mid records moment now orderly e r m)

  -- ---- they lead back

  module _ (keeps_order : KeepsOrder) where
    all_lead : (edits : List (ℕ × Edit)) (start : Moment) (before records : List Done) (old new : Moment) → IsFit old.state
        → Lead registered edits old records new
        → LedBack start (reverse before) old → LedBack start (reverse (before ++ records)) new × IsFit new.state
    all_lead [] start before records old new fit lead led = (
      subst (λ rs. LedBack start (reverse (before ++ rs)) new) (sym lead.0)
          (subst (λ rs. LedBack start (reverse rs) new) (sym (append-nil before)) (subst (LedBack start (reverse before)) (sym lead.1) led)),
      subst (λ (m : Moment). IsFit m.state) (sym lead.1) fit,
    )
    all_lead (first ∷ edits) start before records old new fit lead led =
        let one = edit_leads keeps_order registered first.0 first.1 start before lead.0 old lead.2 fit lead.4 led in
        let here = edit_fits keeps_order registered first.0 first.1 lead.0 old lead.2 fit lead.4 in
        let rest = all_lead edits start (before ++ lead.0) lead.1 lead.2 new here lead.5 one in
        let all : (before ++ lead.0) ++ lead.1 ≡ before ++ records = append_assoc before lead.0 lead.1 ∙ ap (λ rs. before ++ rs) (sym lead.3) in
        (subst (λ rs. LedBack start (reverse rs) new) all rest.0, rest.1)

    pub traced_back : (start : Moment) (before records : List Done) (old new : Moment) → IsFit old.state → IsTraced registered before old records new
        → LedBack start (reverse before) old → LedBack start (reverse records) new
    traced_back start before records old new fit traced led =
        subst (λ rs. LedBack start (reverse rs) new) (sym traced.1.1) (all_lead traced.0 start before traced.1.0 old new fit traced.1.2 led).0

    pub traced_fit : (before records : List Done) (old new : Moment) → IsFit old.state → IsTraced registered before old records new → IsFit new.state
    traced_fit before records old new fit traced = (all_lead traced.0 old [] traced.1.0 old new fit traced.1.2 (from_self old)).1

  nothing-append : (a b : List Done) → a ++ b ≡ [] → (a ≡ []) × (b ≡ [])
  nothing-append [] b e = (refl, e)
  nothing-append (x ∷ a) b e = absurd cc

  -- edits that leave no records
  pub none_lead : (edits : List (ℕ × Edit)) (old new : Moment) (records : List Done) → records ≡ [] → Lead registered edits old records new → IsFrom old new
  none_lead [] old new records none lead = subst (IsFrom old) (sym lead.1) (from_self old)
  none_lead (first ∷ edits) old new records none lead =
      let both = nothing-append lead.0 lead.1 (sym lead.3 ∙ none) in
      from_on old lead.2 new
      (nothing_recorded registered first.0 first.1 old lead.2 (subst (λ rs. IsOneEdit registered first.0 first.1 old rs lead.2) both.0 lead.4))
      (none_lead edits lead.2 new lead.1 both.1 lead.5)

  pub none_changed : (old new : Moment) → IsTraced registered [] old [] new → IsFrom old new
  none_changed old new traced = none_lead traced.0 old new traced.1.0 (sym traced.1.1) traced.1.2
