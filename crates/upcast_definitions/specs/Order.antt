-- The order of rules: those of a higher priority first, and of one priority in the order in which they were added.
use Rattle.std.specs.Prelude.{ℕ, suc, ℤ, List, [], ◌∷◌, int_lt, if◌then◌else◌}
use Rattle.upcast_definitions.specs.declared.rule.UpcastRule.{UpcastRule}
use Rattle.upcast_definitions.specs.declared.rule.UpcastRule.TheVariants.{Element, Key, Attribute}

-- how early a rule is tried
abbrev pub priority_of : UpcastRule → ℤ
priority_of (Element view with element set priority) = priority
priority_of (Key view with key value priority) = priority
priority_of (Attribute attribute view key priority) = priority

-- a rule more, behind all of equal or higher priority
abbrev pub added : UpcastRule → List UpcastRule → List UpcastRule
added rule [] = rule ∷ []
added rule (other ∷ rest) = if int_lt (priority_of other) (priority_of rule) then rule ∷ other ∷ rest else other ∷ added rule rest

-- the place behind all rules of equal or higher priority
abbrev pub place_behind : ℤ → List UpcastRule → ℕ
place_behind priority [] = 0
place_behind priority (other ∷ rest) = if int_lt (priority_of other) priority then 0 else suc (place_behind priority rest)
