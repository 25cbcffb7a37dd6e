-- Each node counts.
use Rattle.std.specs.Prelude.{◌≤◌}
use Rattle.std.proofs.Common.{arith}
use Rattle.converter_definitions.specs.Form.{Form, slot, text, element}
use Rattle.converter_definitions.specs.Shape.{form_count}

pub one_node : {A : Type 0} → (form : Form A) → 1 ≤ form_count form
one_node slot = omega arith
one_node (text scalars) = omega arith
one_node (element kind name attributes children) = omega arith
