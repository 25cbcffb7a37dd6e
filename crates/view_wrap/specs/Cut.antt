-- Nodes cut in two before an entry of the row that they are nested from.
use Rattle.std.specs.Prelude.{ℕ, suc, Bool, true, false, ◌-◌, List, [], ◌∷◌, ◌++◌, length, take, drop, nat_le, nat_eq, is_some, if◌then◌else◌, Option, Some}
use Rattle.std.specs.Prelude.{None, ◌+◌}
use Rattle.view_definitions.specs.Node.{Head, ViewNode, ViewNodes, text, element, none, more, list_of, nodes_of}
use Rattle.view_definitions.specs.Layer.{Layer, layer_of, in_layer}

abbrev mutual
  -- for how many entries a node stands: each character of a text is one, and so is an element that is no layer
  pub entries_in : ViewNode → ℕ
  entries_in (text scalars) = length scalars
  entries_in (element head children) = if is_some (layer_of head) then entries_inner children else 1

  -- and all nodes in a list, as an element has it
  pub entries_inner : ViewNodes → ℕ
  entries_inner none = 0
  entries_inner (more node nodes) = entries_in node + entries_inner nodes

-- and all nodes of a list
abbrev pub entries_of : List ViewNode → ℕ
entries_of [] = 0
entries_of (node ∷ nodes) = entries_in node + entries_of nodes

-- two lists of nodes, the second behind the first
abbrev pub Parts : Type 0
Parts = List ViewNode × List ViewNode

-- an element in two, each around a part of its children: the second is one that its layer makes. One that is no layer stays whole
abbrev pub cut_element : Option Layer → Head → ViewNodes → Parts → Parts
cut_element None head children parts = (element head children ∷ [], [])
cut_element (Some layer) head children parts = (element head (nodes_of parts.0) ∷ [], in_layer layer parts.1 ∷ [])

-- a node and those behind it, cut: it goes whole where its entries all stand before the place, and stays whole where the place is at its
-- start
abbrev pub cut_before : Bool → Bool → ViewNode → List ViewNode → Parts → Parts → Parts
cut_before true starts node nodes halves rest = (node ∷ rest.0, rest.1)
cut_before false true node nodes halves rest = ([], node ∷ nodes)
cut_before false false node nodes halves rest = (halves.0, halves.1 ++ nodes)

abbrev mutual
  -- a node in two, before an entry that is in it and isn't its first
  pub cut_node : ℕ → ViewNode → Parts
  cut_node at (text scalars) = (text (take at scalars) ∷ [], text (drop at scalars) ∷ [])
  cut_node at (element head children) = cut_element (layer_of head) head children (cut_inner at children)

  -- nodes as an element has them, broken so
  pub cut_inner : ℕ → ViewNodes → Parts
  cut_inner at none = ([], [])
  cut_inner at (more node nodes) =
      cut_before (nat_le (entries_in node) at) (nat_eq at 0) node (list_of nodes) (cut_node at node) (cut_inner (at - entries_in node) nodes)

-- what stands before an entry, and the rest. Before an entry behind the last stands all
abbrev pub cut : ℕ → List ViewNode → Parts
cut at [] = ([], [])
cut at (node ∷ nodes) = cut_before (nat_le (entries_in node) at) (nat_eq at 0) node nodes (cut_node at node) (cut (at - entries_in node) nodes)

-- what is left of a number behind so many entries: None where it is less than these
abbrev pub left_behind : ℕ → ℕ → Option ℕ
left_behind count at = if nat_le count at then Some (at - count) else None

-- how many nodes stand as a whole before an entry, and how many entries stand behind them before it
abbrev pub place_before : Bool → ℕ → ℕ × ℕ → ℕ × ℕ
place_before true at rest = (suc rest.0, rest.1)
place_before false at rest = (0, at)

-- how many nodes of a list stand as a whole before an entry, and how many entries stand behind them before it
abbrev pub place_of : ℕ → List ViewNode → ℕ × ℕ
place_of at [] = (0, at)
place_of at (node ∷ nodes) = place_before (nat_le (entries_in node) at) at (place_of (at - entries_in node) nodes)
