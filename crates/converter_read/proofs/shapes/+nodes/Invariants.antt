use Rattle.std.proofs.Common.{◌≡◌, ◌+◌, ◌*◌, drop}
use Rattle.serde_json.specs.View.{items_view}
use Rattle.json_names.proofs.Fronts.{with_front}
use Rattle.converter_definitions.specs.Parts.{shapes_of}
use Rattle.converter_forms.specs.ShapeForm.{nodes_at, node_at, behind_all}
use Rattle.converter_read.proofs.shapes.+nodes.Given as goal

abbrev pub decreases-element_at : goal.decreases-element_at
decreases-element_at l = 6 * l.spot.levels

abbrev pub decreases-object_node_at : goal.decreases-object_node_at
decreases-object_node_at l = 6 * l.spot.levels + 1

abbrev pub decreases-node_of : goal.decreases-node_of
decreases-node_of l = 6 * l.spot.levels + 2

abbrev pub decreases-node_at : goal.decreases-node_at
decreases-node_at l = 6 * l.spot.levels + 3

abbrev pub decreases-nodes_at : goal.decreases-nodes_at
decreases-nodes_at l = 6 * l.spot.levels + 4

abbrev pub decreases-children_at : goal.decreases-children_at
decreases-children_at l = 6 * l.spot.levels + 5

-- the nodes so far and those of what is left, and what comes before these
abbrev pub invariant-nodes_at-loop-index : goal.invariant-nodes_at-loop-index
invariant-nodes_at-loop-index l = record {
  reads : with_front (shapes_of l.nodes.items) (nodes_at (node_at l.indexes l.spot.levels) l.spot.parent l.before l.path l.index
      (items_view (drop l.index l.items.items)))
      ≡ nodes_at (node_at l.indexes l.spot.levels) l.spot.parent l.initial.before l.path 0 (items_view l.items.items);
  counted : l.before ≡ behind_all (shapes_of l.nodes.items) l.initial.before;
}
