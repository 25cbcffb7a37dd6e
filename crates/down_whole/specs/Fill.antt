-- What is left of an element's content when a part of its shape is filled.
use Rattle.std.specs.Prelude.{ℕ, zero, suc, List, []}
use Rattle.view_definitions.specs.Node.{ViewNode}

-- the first of so many slots takes it
abbrev pub left_of : ℕ → List ViewNode → List ViewNode
left_of zero content = content
left_of (suc count) content = []
