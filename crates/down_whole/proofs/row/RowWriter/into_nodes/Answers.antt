use Rattle.down_whole.proofs.Writing.{all_written}
use Rattle.down_whole.proofs.row.RowWriter.into_nodes.Goals as goal

pub returns : goal.returns
returns c =
    all_written _ c.flush.new.self.layers.items c.flush.new.self.text.items c.flush.new.self.nodes.nodes _ c.in_ok-flush.ensures.written
    c.in_ok-flush.ensures.text
