use Rattle.std.proofs.Common.{sym, ◌∙◌}
use Rattle.down_whole.proofs.Seams.{texts_meet}
use Rattle.down_whole.proofs.between.join_texts.Goals as goal

pub returns-in_ok-append-in-Some : goal.returns-in_ok-append-in-Some
returns-in_ok-append-in-Some c =
    texts_meet c.args.left.now.nodes c.args.right.nodes c.drop_last.new.nodes.nodes c.push.new.self.nodes c.drop_first.new.nodes.nodes
    c.append.new.self.nodes c.in-Some.text _ _
    (sym c.in-Some.is ∙ c.in_ok-text.ensures) c.last_text.ensures c.first_text.ensures c.drop_last.ensures c.drop_first.ensures
    c.in_ok-push-in-Some.ensures.ok c.in_ok-append-in-Some.ensures.ok
