use Rattle.std.proofs.Common.{◌≡◌, true, sym, ◌∙◌}
use Rattle.schema_definitions.specs.Allowed.{is_registered}
use Rattle.edit_definitions.specs.Places.{is_known}
use Rattle.model_tree.specs.Nodes.{items_in}
use Rattle.model_writer.proofs.Unknown.{known_element}
use Rattle.model_writer.proofs.numbering.+names.Goals as goal

pub unknown_at-returns-then-is_known : goal.unknown_at-returns-then-is_known
unknown_at-returns-then-is_known t c =
    let known : is_known (is_registered c.args.schema.now) c.in-Element.head.name ≡ true = cc in
    c.unknown_among.ensures ∙ sym (known_element (is_registered c.args.schema.now) c.args.node.now c.in-Element.head c.in-Element.children
    (items_in c.nodes.result.now.items) c.in-Element.is known c.nodes.ensures.items)
