-- The numbers of view elements that elements of a document have.
use Rattle.std.specs.Prelude.{◌≡◌, ℕ, ◌==◌, List, Some, is_some}
use Rattle.std.specs.List.{list_any}
use Rattle.downcast_definitions.specs.Scene.{Numbers}

-- that exactly the elements with these ids have a number, and no two the same
pub record AreNumbered (numbers : Numbers) (ids : List ℕ) : Type 0 where
  pub each : (id : ℕ) → is_some (numbers id) ≡ list_any (λ other. other == id) ids
  pub apart : (id other number : ℕ) → numbers id ≡ Some number → numbers other ≡ Some number → id ≡ other
