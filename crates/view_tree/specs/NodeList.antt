-- A list of nodes outside a view, and a node's parts.
use Rattle.std.specs.Prelude.{ℕ, List, refl}
use Rattle.std.specs.Coded.{Coded, code_by, coded×, coded_ℕ}
use Rattle.view_definitions.specs.Node.{ViewNode}
use Rattle.view_definitions.specs.NodeCode.{coded_nodes}

-- the nodes, and how many more go in without memory
pub record NodeList : Type 0 where
  pub nodes : List ViewNode
  pub spare : ℕ

-- a code for lists of nodes
abbrev pub coded_node_list : Coded NodeList
coded_node_list =
    code_by (List ViewNode × ℕ) (coded× coded_nodes coded_ℕ) (λ list. (list.nodes, list.spare)) (λ parts. record { nodes = parts.0; spare = parts.1 })
    (λ _. refl)
