-- The steps that entries make between the numbers of names.
use Rattle.std.specs.Prelude.{◌≡◌, ℕ, ◌<◌, List, Bool, ◌||◌, length}
use Rattle.schema_rules.specs.declared.steps.Direction.{Direction}
use Rattle.schema_rules.specs.declared.steps.Direction.TheVariants.{FromItem, ToItem}
use Rattle.schema_rules.specs.Graph.{goes, IsGraph}

-- whether there is the step that an entry of the one makes where it lists the other
abbrev pub joins : Direction → List (List ℕ) → ℕ → ℕ → Bool
joins FromItem graph item other = goes graph item other
joins ToItem graph item other = goes graph other item

-- the new graph has the steps of the old one, and those of the test
pub record IsGrown (names : List (List ℕ)) (direction : Direction) (old new : List (List ℕ)) (test : ℕ → ℕ → Bool) : Type 0 where
  pub size : length new ≡ length old
  pub kept : IsGraph old → IsGraph new
  pub steps : (item other : ℕ) → item < length names → other < length names → joins direction new item other
      ≡ (joins direction old item other || test item other)
