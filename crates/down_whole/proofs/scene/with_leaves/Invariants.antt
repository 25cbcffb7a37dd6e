use Rattle.std.proofs.Common.{◌≡◌, ◌++◌}
use Rattle.conv_rules.specs.Listed.{conversion_of}
use Rattle.down_whole.specs.Scenes.{marked, with_leaves}
use Rattle.down_whole.proofs.scene.with_leaves.Given as goal

abbrev pub invariant-loop-name : goal.invariant-loop-name
invariant-loop-name g l =
    (marked l.leaves.items ++ with_leaves (conversion_of (λ b. (goal.Converter-dyn g (b.vtable, b.value)).gives b.value) l.fn.list) l.name-iterator
    ≡ with_leaves (conversion_of (λ b. (goal.Converter-dyn g (b.vtable, b.value)).gives b.value) l.fn.list) l.fn.markers)
