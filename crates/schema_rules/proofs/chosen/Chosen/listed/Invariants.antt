use Rattle.std.proofs.Common.{◌≡◌, ℕ, List, take}
use Rattle.std.specs.List.{list_any}
use Rattle.breach_definitions.specs.Spots.{lists_path}
use Rattle.schema_rules.specs.Chosen.{lists_near}
use Rattle.schema_rules.proofs.chosen.Chosen.listed.Given as goal

-- what is made of the spots so far lists what they list
abbrev pub invariant-loop-spot : goal.invariant-loop-spot
invariant-loop-spot l = (path : List ℕ) → list_any (λ near. lists_near near path) l.nears.items
    ≡ list_any (λ spot. lists_path spot path) (take l.spot-index l.spots)
