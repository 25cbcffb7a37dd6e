-- What the worked examples hold changes to.
use Rattle.std.specs.Prelude.{ℕ, List, map}
use Rattle.schema_definitions.specs.Sample.{sample}
use Rattle.fix_definitions.specs.declared.stock.StockFixer.{StockFixer}
use Rattle.fix_definitions.specs.Fixes.{fixes}
use Rattle.step_definitions.specs.Step.{Terms}

-- the sample's schema, with these fixers and so many rounds
abbrev pub terms : List StockFixer → ℕ → Terms
terms fixers rounds = record { rules = sample; fixings = map (fixes sample) fixers; rounds = rounds }
