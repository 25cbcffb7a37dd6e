-- The count of a number among children is that in their list.
use Rattle.std.proofs.Common.{◌≡◌, ℕ, List, [], ◌∷◌, refl, ap}
use Rattle.std.specs.Option.{option_or}
use Rattle.view_definitions.specs.Node.{ViewNode, nodes_of}
use Rattle.view_definitions.specs.Place.{changes_in, changes_inner, changes_of}

pub changes_inner_is : (number : ℕ) (nodes : List ViewNode) → changes_inner number (nodes_of nodes) ≡ changes_of number nodes
changes_inner_is number [] = refl
changes_inner_is number (node ∷ nodes) = ap (option_or (changes_in number node)) (changes_inner_is number nodes)
