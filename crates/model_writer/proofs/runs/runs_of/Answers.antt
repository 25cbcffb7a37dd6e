use Rattle.std.specs.Prelude.{option_copied}
use Rattle.edit_definitions.specs.Runs.{runs_of}
use Rattle.model_writer.proofs.Joined.{partway_more}
use Rattle.model_writer.proofs.runs.runs_of.Goals as goal

pub nodes-preserved : goal.nodes-preserved
nodes-preserved c =
    partway_more c.args.key.now (option_copied c.args.new) (option_copied c.value_in.result) c.args.start c.nodes.end c.start_of-from.result
    c.nodes.rest.now c.in-Some.before.now c.in-Some.node.now c.nodes.runs.items c.put_before.new.runs.items
    (runs_of c.args.key.now (option_copied c.args.new) c.args.start c.args.items.now) c.nodes.invariant c.in-Some.ensures.cases.0
    c.start_of-from.ensures c.value_in.ensures c.in_ok-put_before.ensures
