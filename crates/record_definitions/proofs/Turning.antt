-- The edits of a round, and those of all rounds.
use Rattle.std.proofs.Common.{◌≡◌, ℕ, zero, suc, ◌<◌, ◌-◌, Bool, List, [], ◌∷◌, ◌++◌, Option, Some, None, Result, Ok, Err, refl, sym, ap, ◌∙◌, subst, arith}
use Rattle.ck_base.specs.declared.faults.EditFault.{EditFault}
use Rattle.document_definitions.specs.Document.{State}
use Rattle.edit_definitions.specs.declared.edit.Edit.{Edit}
use Rattle.edit_definitions.specs.Performed.{all_performed}
use Rattle.fix_definitions.specs.Fixes.{Fixing}
use Rattle.fix_definitions.specs.Settling.{Plan, first_plan}
use Rattle.model_doc.specs.Held.{Moment}
use Rattle.model_doc.specs.Records.{Done}
use Rattle.record_definitions.specs.Traced.{numbered, IsTracedBy, IsTraced, IsPartway}
use Rattle.record_definitions.specs.Operates.{edits_after, edits_of_round, edits_of_rounds}
use Rattle.record_definitions.proofs.Tracing.{goes_on, none_traced, ends}

module _ (registered : List ℕ → Bool) (fixings : List Fixing) where
  one_round : (left : ℕ) (state : State) → 0 < left
      → edits_of_rounds registered fixings left state
      ≡ edits_of_round registered state (edits_of_rounds registered fixings (left - 1)) (first_plan 1 fixings state.document)
  one_round zero state some = absurd (omega (arith, some))
  one_round (suc left) state some =
      let same : left ≡ suc left - 1 = omega arith in
      ap (λ n. edits_of_round registered state (edits_of_rounds registered fixings n) (first_plan 1 fixings state.document)) same

  -- a round whose plan was performed
  pub goes_on_by_a_round : (all edits : List (ℕ × Edit)) (left : ℕ) (before mid records : List Done) (start moment now : Moment)
      → IsPartway registered all (edits_of_rounds registered fixings left moment.state) before start mid moment → 0 < left
      → ((next : State → List (ℕ × Edit)) → edits_of_round registered moment.state next (first_plan 1 fixings moment.state.document) ≡ edits ++ next now.state)
      → IsTracedBy registered edits mid moment records now
      → IsPartway registered all (edits_of_rounds registered fixings (left - 1) now.state) before start records now
  goes_on_by_a_round all edits left before mid records start moment now h some round traced =
      goes_on registered all edits (edits_of_rounds registered fixings (left - 1) now.state) before mid records start moment now
      (subst (λ edits. IsPartway registered all edits before start mid moment)
      (one_round left moment.state some ∙ round (edits_of_rounds registered fixings (left - 1))) h) traced

  -- a round in which no plan is wanted
  pub ends_at_rest : (all : List (ℕ × Edit)) (left : ℕ) (before mid records : List Done) (start moment now : Moment)
      → IsPartway registered all (edits_of_rounds registered fixings left moment.state) before start mid moment → 0 < left
      → first_plan 1 fixings moment.state.document ≡ None → records ≡ mid → now ≡ moment → IsTracedBy registered all before start records now
  ends_at_rest all left before mid records start moment now h some none r n =
      let here = ends registered all before mid start moment
      (subst (λ edits. IsPartway registered all edits before start mid moment)
      (one_round left moment.state some
      ∙ ap (edits_of_round registered moment.state (edits_of_rounds registered fixings (left - 1))) none) h) in
      subst (λ rs. IsTracedBy registered all before start rs now) (sym r)
      (subst (λ m. IsTracedBy registered all before start mid m) (sym n) here)

  -- no round is left
  pub ends_with_rounds : (all : List (ℕ × Edit)) (left : ℕ) (before records : List Done) (start now : Moment)
      → IsPartway registered all (edits_of_rounds registered fixings left now.state) before start records now → ¬ (0 < left)
      → IsTracedBy registered all before start records now
  ends_with_rounds all zero before records start now h none = ends registered all before records start now h
  ends_with_rounds all (suc left) before records start now h none = absurd (none (omega arith))
