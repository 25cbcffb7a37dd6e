use Rattle.std.proofs.Common.{◌≡◌, ◌+◌, take}
use Rattle.std.specs.Prelude.{option_map}
use Rattle.conv_rules.specs.Listed.{conversion_of}
use Rattle.downcast_definitions.specs.Scene.{Numbers}
use Rattle.down_whole.specs.Written.{with_row}
use Rattle.down_whole.specs.Viewed.{written}
use Rattle.down_whole.specs.Scenes.{scene_with, HasLayers}
use Rattle.down_whole.specs.Made.{run_row}
use Rattle.down_whole.proofs.content.push_run.Given as goal

-- the characters so far are written, and the layers that are set are those of the markers that are known
abbrev pub invariant-loop-scalar : goal.invariant-loop-scalar
invariant-loop-scalar g l =
    ((numbers : Numbers) → written l.row
    ≡ with_row (run_row (scene_with (conversion_of (λ b. (goal.Converter-dyn g (b.vtable, b.value)).gives b.value) l.fn.list) l.fn.scene numbers)
    l.fn.path l.fn.offset l.fn.text.attributes (take l.scalar-index l.scalar-items)) (written l.initial.row))
    × (l.offset ≡ l.fn.offset + l.scalar-index)
    × HasLayers (conversion_of (λ b. (goal.Converter-dyn g (b.vtable, b.value)).gives b.value) l.fn.list) l.fn.text.attributes
    (option_map (λ names. names.items) l.known) l.row.layers.items
