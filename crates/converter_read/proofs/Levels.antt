-- The readers of nodes by the levels that are left.
use Rattle.std.proofs.Common.{◌≡◌, ◌<◌, ◌-◌, ℕ, zero, suc, List, Bool, Option, refl, arith}
use Rattle.serde_json.specs.Data.{Data}
use Rattle.converter_definitions.specs.declared.kind.ShapeKind.{ShapeKind}
use Rattle.converter_forms.specs.declared.parts.Before.{Before}
use Rattle.converter_forms.specs.ShapeForm.{node_of, node_at, below}

-- a node is read by the reader of the next level
pub node_level : (indexes : Bool) (levels : ℕ) (parent : Option ShapeKind) (before : Before) (path : List ℕ) (d : Data)
    → node_at indexes levels parent before path d ≡ node_of indexes (below indexes levels) levels parent before path d
unfolding node_at below
node_level indexes zero parent before path d = refl
node_level indexes (suc levels) parent before path d = refl

-- which is that of one level less
pub below_level : (indexes : Bool) (levels : ℕ) → 0 < levels → below indexes levels ≡ node_at indexes (levels - 1)
unfolding below
below_level indexes zero some = absurd (omega (arith, some))
below_level indexes (suc levels) some = let less : suc levels - 1 ≡ levels = omega arith in rw less refl
