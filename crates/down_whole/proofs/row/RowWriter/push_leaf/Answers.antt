use Rattle.std.proofs.Common.{ap}
use Rattle.std.specs.Prelude.{option_map}
use Rattle.down_whole.proofs.Writing.{leaf_written}
use Rattle.down_whole.proofs.row.RowWriter.push_leaf.Goals as goal

pub returns-clause-written : goal.returns-clause-written
returns-clause-written c =
    leaf_written _ _ c.flush.new.self.layers.items c.join.new.self.layers.items c.flush.new.self.text.items c.join.new.self.text.items c.args.node
    c.flush.new.self.nodes.nodes c.join.new.self.nodes.nodes _
    c.in_ok-flush.ensures.written c.in_ok-flush.ensures.text (ap (option_map (λ list. list.nodes)) c.in_ok-join.ensures.front)
    (ap (λ v. v.items) c.in_ok-join.ensures.text) c.in_ok-join.ensures.nodes
