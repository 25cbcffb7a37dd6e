use Rattle.std.proofs.Common.{◌≡◌, ℕ, List, ◌∷◌, take}
use Rattle.std.specs.List.{list_any}
use Rattle.schema_rules.specs.Chosen.{lists_near}
use Rattle.schema_rules.proofs.chosen.inside.Given as goal

-- so far the narrowed spots list inside the item what the spots list there
abbrev pub invariant-loop-near : goal.invariant-loop-near
invariant-loop-near l =
    (next : ℕ) (rest : List ℕ) → list_any (λ near. lists_near near (next ∷ rest)) l.inner.items
    ≡ list_any (λ near. lists_near near (l.index ∷ next ∷ rest)) (take l.near-index l.nears.items)
