use Rattle.std.proofs.Common.{◌≡◌, take}
use Rattle.std.specs.List.{filter}
use Rattle.schema_definitions.specs.Allowed.{is_inline_object}
use Rattle.schema_rules.proofs.schema.Schema.inline_objects.Given as goal

-- the objects among the names so far
abbrev pub invariant-loop-name : goal.invariant-loop-name
invariant-loop-name l = l.objects.items ≡ filter (is_inline_object l.self) (take l.name-index l.name-items)
