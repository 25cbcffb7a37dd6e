-- A rule put in at its place.
use Rattle.std.proofs.Common.{◌≡◌, List, [], ◌∷◌, suc, Bool, true, false, if◌then◌else◌, refl, ap}
use Rattle.std.specs.Prelude.{int_lt}
use Rattle.std.specs.List.{insert}
use Rattle.upcast_definitions.specs.declared.rule.UpcastRule.{UpcastRule}
use Rattle.upcast_definitions.specs.Order.{priority_of, place_behind, added}

-- put in behind all of equal or higher priority
pub added_there : (rule : UpcastRule) (rules : List UpcastRule) → insert rules (place_behind (priority_of rule) rules) rule ≡ added rule rules
added_there rule [] = refl
added_there rule (other ∷ rest) = go (int_lt (priority_of other) (priority_of rule)) (added_there rule rest)
  where
    go : (test : Bool) → insert rest (place_behind (priority_of rule) rest) rule ≡ added rule rest
        → insert (other ∷ rest) (if test then 0 else suc (place_behind (priority_of rule) rest)) rule
        ≡ (if test then rule ∷ other ∷ rest else other ∷ added rule rest)
    go true e = refl
    go false e = ap (λ rules. other ∷ rules) e
