use Rattle.std.proofs.Common.{ap, ◌∙◌}
use Rattle.down_whole.proofs.Writing.{caret_written}
use Rattle.down_whole.proofs.row.RowWriter.push_caret.Goals as goal

pub returns-clause-written : goal.returns-clause-written
returns-clause-written c =
    caret_written _ c.flush.new.self.layers.items c.flush.new.self.text.items c.flush.new.self.nodes.nodes c.replace-front.result.nodes
    c.replace-front.new.dest.nodes _ c.in_ok-flush.ensures.written c.in_ok-flush.ensures.text
    (ap (λ list. list.nodes) c.replace-front.ensures.value) (ap (λ list. list.nodes) c.replace-front.ensures.after ∙ c.new.ensures)
