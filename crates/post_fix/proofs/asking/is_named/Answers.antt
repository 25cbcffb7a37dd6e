use Rattle.std.proofs.Common.{sym, ap, ◌∙◌}
use Rattle.std.specs.List.{list_any}
use Rattle.model_tree.specs.Nodes.{items_at}
use Rattle.fix_definitions.specs.Wanted.{is_named}
use Rattle.post_fix.proofs.Same.{no_character}
use Rattle.post_fix.proofs.asking.is_named.Goals as goal

pub returns-in-Run : goal.returns-in-Run
returns-in-Run c =
    sym (ap (λ node. list_any (is_named c.args.name.now) (items_at node)) c.in-Run.is
    ∙ no_character c.args.name.now c.in-Run.field-0.scalars c.in-Run.field-0.attributes)
