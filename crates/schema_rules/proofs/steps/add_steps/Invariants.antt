use Rattle.std.proofs.Common.{◌&&◌, ◌==◌, take}
use Rattle.schema_definitions.specs.Names.{has}
use Rattle.schema_rules.specs.Numbering.{named}
use Rattle.schema_rules.specs.Steps.{IsGrown}
use Rattle.schema_rules.proofs.steps.add_steps.Given as goal

-- the steps of the names so far
abbrev pub invariant-loop-name : goal.invariant-loop-name
invariant-loop-name l = IsGrown l.names l.direction l.initial.graph l.graph (λ node other. (l.item == node)
    && has (take l.name-index l.listed) (named l.names other))
