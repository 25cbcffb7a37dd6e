use Rattle.schema_definitions.specs.Allowed.{is_registered}
use Rattle.editor_core.proofs.Made.{made_ok, made_err}
use Rattle.editor_core.proofs.changing.make_edits.Goals as goal

pub returns-clause-ok : goal.returns-clause-ok
returns-clause-ok c =
    made_ok (is_registered c.args.schema.now) c.args.edits.now c.args.document.now.state c.perform_all.new.document.state c.perform_all.result
    c.perform_all.ensures.ok

pub returns-clause-refused : goal.returns-clause-refused
returns-clause-refused c =
    made_err (is_registered c.args.schema.now) c.args.edits.now c.args.document.now.state c.perform_all.new.document.state c.perform_all.result
    c.perform_all.ensures.refused
