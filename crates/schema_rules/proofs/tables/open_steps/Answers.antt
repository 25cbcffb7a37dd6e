use Rattle.std.proofs.Common.{replicate, [], ap, ◌∙◌}
use Rattle.schema_rules.proofs.Drawing.{drawn_open}
use Rattle.schema_rules.proofs.tables.open_steps.Goals as goal

pub returns : goal.returns
returns c = drawn_open c.args.names.now c.args.entries.now c.args.flag c.in_ok-left.left c.in_ok-graph.graph c.add_entries.new.graph
    c.in_ok-left.ensures.left (c.in_ok-graph.ensures ∙ ap (λ n. replicate n []) c.len.ensures.count) c.in_ok-add_entries.ensures
