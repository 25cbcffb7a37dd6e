use Rattle.std.proofs.Common.{rules, ◌≡◌, ◌+◌, List, ◌∷◌, drop, Result, sym, ap, ◌∙◌, subst}
use Rattle.std.proofs.lemmas.List.{drop_more}
use Rattle.ck_base.specs.declared.faults.EditFault.{EditFault}
use Rattle.schema_definitions.specs.Allowed.{is_registered}
use Rattle.document_definitions.specs.Document.{State}
use Rattle.edit_definitions.specs.declared.edit.Edit.{Edit}
use Rattle.edit_definitions.specs.Planned.{◌>>=◌}
use Rattle.edit_definitions.specs.Performed.{all_performed}
use Rattle.model_doc.specs.Held.{present}
use Rattle.record_definitions.specs.Traced.{numbered, IsPartway}
use Rattle.record_definitions.proofs.Tracing.{goes_on_by_one}
use Rattle.post_fix.proofs.performing.perform_all.Goals as goal

-- the edit was the first of those that were left
pub loop-index-preserved : goal.loop-index-preserved
loop-index-preserved c =
    let registered = is_registered c.args.schema.now in
    let number = c.loop-index.index + 1 in
    let edit : Edit = c.index-edits-index.result in
    let rest : List Edit = drop number c.args.edits.now in
    let here : drop c.loop-index.index c.args.edits.now ≡ edit ∷ rest =
    drop_more c.args.edits.now c.loop-index.index edit c.loop-index-test.true ∙ ap (λ edit. edit ∷ rest) (sym c.index-edits-index.is) in
    record {
      going = sym (ap (λ left. all_performed registered number left c.loop-index.document.state) here
          ∙ ap (λ (made : Result State EditFault). made >>= all_performed registered (number + 1) rest) c.in_ok-perform.ensures.ok)
          ∙ c.loop-index.invariant.going;
      traced = goes_on_by_one registered (numbered 1 c.args.edits.now) number edit rest c.args.batch.now.records c.loop-index.batch.records
          c.perform.new.batch.records (present c.args.document.now) (present c.loop-index.document) (present c.perform.new.document)
          (subst (λ left. IsPartway registered (numbered 1 c.args.edits.now) (numbered number left) c.args.batch.now.records (present c.args.document.now)
          c.loop-index.batch.records (present c.loop-index.document)) here c.loop-index.invariant.traced)
          c.read_order.ensures c.in_ok-perform.ensures.ok c.in_ok-perform.ensures.records c.in_ok-perform.ensures.mark;
      selection = c.in_ok-perform.ensures.selection ∙ c.loop-index.invariant.selection;
      kept = c.in_ok-perform.ensures.kept ∙ c.loop-index.invariant.kept;
    }
