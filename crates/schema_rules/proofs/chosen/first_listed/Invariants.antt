use Rattle.std.proofs.Common.{◌≡◌, ℕ, ◌≤◌, ◌<◌, [], ◌∷◌, take, true, false}
use Rattle.std.specs.List.{list_any}
use Rattle.schema_rules.specs.Chosen.{lists_near}
use Rattle.schema_rules.proofs.chosen.first_listed.Given as goal

-- none of the spots so far lists an item before the first one, and one of them lists that
abbrev pub invariant-loop-near : goal.invariant-loop-near
invariant-loop-near l = record {
  within : (l.from ≤ l.first) × (l.first ≤ l.to);
  before : (index : ℕ) → l.from ≤ index → index < l.first → list_any (λ near. lists_near near (index ∷ [])) (take l.near-index l.nears.items) ≡ false;
  there : l.first < l.to → list_any (λ near. lists_near near (l.first ∷ [])) (take l.near-index l.nears.items) ≡ true;
}
