-- Where two texts first differ.
use Rattle.std.specs.Prelude.{◌≡◌, ◌≢◌, ℕ, List, take, slice_get}

-- they begin with so many bytes in common, and not with one more
pub record Differs (wanted got : List ℕ) (at : ℕ) : Type 0 where
  pub common : take at wanted ≡ take at got
  pub apart : slice_get wanted at ≢ slice_get got at
