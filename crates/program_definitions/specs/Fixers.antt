-- What settings hold changes to: their schema, and their fixers in the order of the file, where a product's fixer is the first that was handed in by
-- its name.
use Rattle.std.specs.Prelude.{ℕ, List, [], map, unwrap_or}
use Rattle.schema_definitions.specs.Allowed.{Rules}
use Rattle.fix_definitions.specs.Fixes.{Fixing, Fixer, stock, boxed, fixing_of}
use Rattle.fix_definitions.specs.declared.plan.FixerPlan.{FixerPlan}
use Rattle.fix_definitions.specs.declared.plan.FixerPlan.TheVariants.{Stock, Boxed}
use Rattle.step_definitions.specs.Step.{Terms}
use Rattle.program_definitions.specs.Product.{first_named}

-- a fixer of the settings, where these of a product are handed in; one that wasn't handed in would plan nothing
abbrev pub fixer_by : List (List ℕ × Fixing) → FixerPlan → Fixer
fixer_by handed_in (Stock fixer) = stock fixer
fixer_by handed_in (Boxed name) = boxed (unwrap_or (first_named handed_in name) (λ items markers selection. []))

-- what changes are held to by these rules, fixers and rounds
abbrev pub terms_by : List (List ℕ × Fixing) → Rules → List FixerPlan → ℕ → Terms
terms_by handed_in rules plans rounds = record {
  rules = rules;
  fixings = map (λ plan. fixing_of rules (fixer_by handed_in plan)) plans;
  rounds = rounds;
}
