use Rattle.std.proofs.Common.{List, ap, ◌∙◌, subst}
use Rattle.document_definitions.specs.Document.{with_selection}
use Rattle.document_definitions.specs.Selection.{Selection}
use Rattle.model_doc.specs.Held.{in_state}
use Rattle.model_doc.specs.Records.{Done}
use Rattle.undo_stack.specs.Replays.{ComesOn}
use Rattle.undo_stack.proofs.Holding.{made_anew}
use Rattle.undo_stack.proofs.replay.make_batch_anew.Goals as goal

pub returns-clause-on : goal.returns-clause-on
returns-clause-on c =
    let middle = c.make_anew.new.document in
    made_anew (record { batch = c.args.batch.now; selection = c.args.selection.now }) c.in_ok-made.made c.args.document.now middle c.put_selection.new.self
    (subst (λ (records : List Done). ComesOn records c.in_ok-made.made.records c.args.document.now middle) c.records.ensures c.in_ok-made.ensures.on)
    c.in_ok-made.ensures.selection
    (c.put_selection.ensures ∙ ap (λ (s : Selection). in_state (with_selection s middle.state) middle) c.in_ok-after.ensures)
    c.tree-sound.ensures.sound
