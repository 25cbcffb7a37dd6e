use Rattle.std.proofs.Common.{◌≡◌, true, false, ap, ◌∙◌}
use Rattle.down_whole.specs.Written.{in_layers}
use Rattle.down_whole.proofs.Writing.{flushed}
use Rattle.down_whole.proofs.row.RowWriter.flush.Goals as goal

pub returns-clause-written : goal.returns-clause-written
returns-clause-written c =
    flushed _ c.args.self.now.layers.items c.args.self.now.text.items c.replace-scalars.result.items c.replace-scalars.new.dest.items
    c.args.self.now.nodes.nodes c.join_at.new.left.nodes c.in_ok-nodes.nodes.nodes c.in_ok-node.node
    (λ e. absurd (let t : c.is_flushed.result ≡ true = c.is_flushed.ensures.1 e in let f : c.is_flushed.result ≡ false = c.if-is_flushed.false in cc))
    (ap (λ v. v.items) c.replace-scalars.ensures.value) (ap (λ v. v.items) c.replace-scalars.ensures.after ∙ c.new.ensures.items) c.in_ok-node.ensures
    (c.in_ok-nodes.ensures ∙ ap (λ layers. in_layers layers c.in_ok-node.node) c.as_slice.ensures.value) c.in_ok-join_at.ensures.joined
