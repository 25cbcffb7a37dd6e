use Rattle.std.proofs.Common.{◌≡◌, ◌++◌, take}
use Rattle.converter_definitions.specs.Facts.{attribute_keys}
use Rattle.conv_rules.proofs.consumables.push_keys.Given as goal

abbrev pub invariant-loop-name : goal.invariant-loop-name
invariant-loop-name l = l.keys.items ≡ l.initial.keys.items ++ attribute_keys (take l.name-index l.fn.entries)
