use Rattle.std.proofs.Common.{◌≡◌, ◌+◌, drop}
use Rattle.schema_definitions.specs.Allowed.{is_registered}
use Rattle.edit_definitions.specs.Performed.{all_performed}
use Rattle.model_doc.specs.Held.{present}
use Rattle.record_definitions.specs.Traced.{numbered, IsPartway}
use Rattle.post_fix.proofs.performing.perform_all.Given as goal

-- all edits make of the document from before what the edits to come make of the present one, and those before them have left the new records
abbrev pub invariant-loop-index : goal.invariant-loop-index
invariant-loop-index l = record {
  going : all_performed (is_registered l.schema) (l.index + 1) (drop l.index l.edits) l.document.state
      ≡ all_performed (is_registered l.schema) 1 l.edits l.initial.document.state;
  traced : IsPartway (is_registered l.schema) (numbered 1 l.edits) (numbered (l.index + 1) (drop l.index l.edits)) l.initial.batch.records
      (present l.initial.document) l.batch.records (present l.document);
  selection : l.batch.selection ≡ l.initial.batch.selection;
  kept : l.document.kept ≡ l.initial.document.kept;
}
