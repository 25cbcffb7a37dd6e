use Rattle.down_whole.proofs.Writing.{character_written}
use Rattle.down_whole.proofs.row.RowWriter.push_character.Goals as goal

pub returns-clause-written : goal.returns-clause-written
returns-clause-written c =
    character_written _ c.args.self.now.layers.items c.args.self.now.text.items c.push.new.self.items c.args.scalar c.args.self.now.nodes.nodes
    c.in_ok-push.ensures.items
