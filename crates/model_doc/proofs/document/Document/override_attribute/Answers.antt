use Rattle.model_doc.proofs.Empty.{override_keeps}
use Rattle.model_doc.proofs.document.Document.override_attribute.Goals as goal

pub invariant_of-self-inside : goal.invariant_of-self-inside
invariant_of-self-inside c =
    override_keeps c.self-inside.inside.0.0.tree c.self-inside.inside.0.0.cells c.self-inside.inside.0.0.markers c.self-inside.inside.0.0.selection
    c.override_attribute.new.self c.self-inside.inside.0.0.next_id
    c.args.key c.args.value c.override_attribute.result c.self-inside.invariant c.override_attribute.ensures.ok c.override_attribute.ensures.err
