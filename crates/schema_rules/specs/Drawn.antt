-- Graphs over the numbers of names whose steps are pairs of names.
use Rattle.std.specs.Prelude.{◌≡◌, ℕ, ◌<◌, List, Bool, true, length}
use Rattle.schema_definitions.specs.Names.{has}
use Rattle.schema_rules.specs.Graph.{among, goes, IsGraph}
use Rattle.schema_rules.specs.Numbering.{named}

-- the steps between the names' numbers are those that the test tells
pub record IsDrawn (names : List (List ℕ)) (graph : List (List ℕ)) (test : List ℕ → List ℕ → Bool) : Type 0 where
  pub size : length graph ≡ length names
  pub inner : IsGraph graph
  pub steps : (from to : ℕ) → from < length names → to < length names → goes graph from to ≡ test (named names from) (named names to)

-- the test tells of no other names
abbrev pub IsWithin : List (List ℕ) → (List ℕ → List ℕ → Bool) → Type 0
IsWithin names test = (from to : List ℕ) → test from to ≡ true → (has names from ≡ true) × (has names to ≡ true)

-- the nodes are the numbers of these names
pub record AreNumbers (names : List (List ℕ)) (nodes : List ℕ) (chosen : List (List ℕ)) : Type 0 where
  pub inside : (node : ℕ) → among nodes node ≡ true → node < length names
  pub same : (node : ℕ) → node < length names → among nodes node ≡ has chosen (named names node)
  pub known : (name : List ℕ) → has chosen name ≡ true → has names name ≡ true
