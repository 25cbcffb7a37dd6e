use Rattle.std.proofs.Common.{replicate, true, [], ap, ◌∙◌}
use Rattle.schema_rules.proofs.Drawing.{drawn_steps}
use Rattle.schema_rules.proofs.tables.steps_of.Goals as goal

pub returns : goal.returns
returns c = drawn_steps c.args.names.now c.args.entries.now c.args.property c.args.direction c.in_ok-all.all c.in_ok-graph.graph c.add_entries.new.graph
    (c.in_ok-all.ensures ∙ ap (λ n. replicate n true) c.len.ensures.count) (c.in_ok-graph.ensures ∙ ap (λ n. replicate n []) c.len-2.ensures.count)
    c.in_ok-add_entries.ensures
