use Rattle.std.proofs.Common.{◌≡◌, drop}
use Rattle.downcast_definitions.specs.Scene.{ends_at}
use Rattle.down_whole.specs.Written.{with_row}
use Rattle.down_whole.specs.Viewed.{written}
use Rattle.down_whole.specs.Scenes.{marked, chosen_leaves}
use Rattle.down_whole.proofs.scene.Scene.push_ends.Given as goal

abbrev pub invariant-loop-one : goal.invariant-loop-one
invariant-loop-one l =
    (with_row (chosen_leaves (ends_at l.fn.position) (marked (drop l.one-index l.one-items))) (written l.row)
    ≡ with_row (chosen_leaves (ends_at l.fn.position) (marked l.one-items)) (written l.initial.row))
    × (l.row.layers ≡ l.initial.row.layers)
