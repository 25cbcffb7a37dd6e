use Rattle.std.proofs.Common.{ap, sym, ◌∙◌, ◌+◌, drop, arith}
use Rattle.serde_json.specs.View.{view, items_view}
use Rattle.json_names.proofs.Fronts.{with_front}
use Rattle.converter_definitions.specs.Parts.{shape_of, shapes_of}
use Rattle.converter_forms.specs.ShapeForm.{nodes_at, node_at, behind, behind_all}
use Rattle.converter_read.proofs.Counts.{shapes_more, one_more, behind_more, left_from}
use Rattle.converter_read.proofs.shapes.+nodes.Goals as goal

pub nodes_at-loop-index-preserved : goal.nodes_at-loop-index-preserved
nodes_at-loop-index-preserved t c =
    let made = ap shapes_of c.in_ok-push.ensures.items ∙ shapes_more c.loop-index.nodes.items c.in_ok-node_at.field-0 in
    record {
      reads =
          ap (λ forms. with_front forms (nodes_at (node_at c.args.indexes c.args.spot.levels) c.args.spot.parent c.node_at.new.before c.args.path.now
          (c.loop-index.index + 1) (items_view (drop (c.loop-index.index + 1) c.args.items.now.items)))) made
          ∙ one_more (node_at c.args.indexes c.args.spot.levels) c.args.spot.parent c.loop-index.before c.node_at.new.before c.args.path.now c.loop-index.index
          (view c.item-item.result) (items_view (drop (c.loop-index.index + 1) c.args.items.now.items)) (shapes_of c.loop-index.nodes.items)
          (shape_of c.in_ok-node_at.field-0)
          (ap (λ place. node_at c.args.indexes c.args.spot.levels c.args.spot.parent c.loop-index.before place (view c.item-item.result))
          (sym c.in_ok-place.ensures) ∙ c.in_ok-node_at.ensures.reads)
          c.in_ok-node_at.ensures.counted
          ∙ ap (λ rows. with_front (shapes_of c.loop-index.nodes.items)
          (nodes_at (node_at c.args.indexes c.args.spot.levels) c.args.spot.parent c.loop-index.before c.args.path.now c.loop-index.index (items_view rows)))
          (left_from c.deref-item-items.result.now c.args.items.now.items c.loop-index.index c.item-item.result c.deref-item-items.ensures.value
          (omega arith) c.item-item.is)
          ∙ c.loop-index.invariant.reads;
      counted =
          c.in_ok-node_at.ensures.counted
          ∙ ap (behind (shape_of c.in_ok-node_at.field-0)) c.loop-index.invariant.counted
          ∙ behind_more (shapes_of c.loop-index.nodes.items) (shape_of c.in_ok-node_at.field-0) c.args.before.now
          ∙ ap (λ forms. behind_all forms c.args.before.now) (sym made);
    }
