use Rattle.std.proofs.Common.{◌&&◌, take}
use Rattle.schema_definitions.specs.Entries.{lists}
use Rattle.schema_rules.specs.Graph.{is_marked}
use Rattle.schema_rules.specs.Numbering.{named}
use Rattle.schema_rules.specs.Steps.{IsGrown}
use Rattle.schema_rules.proofs.steps.add_entries.Given as goal

-- the steps of the entries so far
abbrev pub invariant-loop-entry : goal.invariant-loop-entry
invariant-loop-entry l = IsGrown l.names l.direction l.initial.graph l.graph (λ node other. is_marked l.subjects node
    && lists (take l.entry-index l.entries) l.property (named l.names node) (named l.names other))
