use Rattle.std.proofs.Common.{◌≡◌, ◌++◌}
use Rattle.downcast_definitions.specs.Scene.{strictly_around}
use Rattle.down_whole.proofs.caret.strictly_around.Given as goal

abbrev pub invariant-loop-name : goal.invariant-loop-name
invariant-loop-name l = (l.names.items ++ strictly_around l.fn.at l.name-iterator ≡ strictly_around l.fn.at l.fn.markers)
