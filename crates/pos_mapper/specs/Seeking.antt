-- Where nodes of a view show a position, read from the nodes and the slots of the view elements with numbers.
use Rattle.std.specs.Prelude.{ℕ, ◌+◌, ◌-◌, zero, suc, nat_lt, nat_le, ◌==◌, List, [], ◌∷◌, ◌++◌, length, Bool, true, false, Option, Some, None, option_and_then}
use Rattle.std.specs.Prelude.{slice_get, if◌then◌else◌}
use Rattle.std.specs.Option.{option_map_or}
use Rattle.view_definitions.specs.Node.{Kind, container, attribute, empty, ui, ViewNode, ViewNodes, text, element, none, more, list_of, nodes_of, children_of}
use Rattle.downcast_definitions.specs.Meant.{model_length}
use Rattle.downcast_definitions.specs.Among.{by_around, place_among, item_among, seen_among}
use Rattle.item_definitions.specs.Children.{parent_of, offset_of}
use Rattle.view_tree.specs.Changes.{number_of}
use Rattle.pos_mapper.specs.Bindings.{Slot}
use Rattle.pos_mapper.specs.Reading.{Slots, content_of}

-- the rest of the caret's position behind an index, if it leads there
abbrev pub below_index : ℕ → Option (List ℕ) → Option (List ℕ)
below_index index None = None
below_index index (Some []) = None
below_index index (Some (first ∷ rest)) = if first == index then Some rest else None

-- whether nothing is left of the caret's position
abbrev pub is_here : Option (List ℕ) → Bool
is_here None = false
is_here (Some []) = true
is_here (Some (index ∷ rest)) = false

-- the caret's place among these nodes
abbrev pub caret_among : List ℕ → List ViewNode → ℕ → List ℕ
caret_among [] nodes base = []
caret_among (index ∷ rest) nodes base = if nat_le index (length nodes) then (base + index) ∷ rest else []

-- where a boundary is seen, from the rest of the caret's position and the caret's place
abbrev pub seen_at : Option (List ℕ) → List ℕ → ℕ → List ViewNode → ℕ → List ℕ
seen_at caret place base nodes offset = if is_here (below_index offset caret) then caret_among place nodes base else seen_among (nodes_of nodes) offset base

-- the nodes in the slot to which this way leads: None where it leads nowhere
abbrev pub inside : List ℕ → ℕ → List ViewNode → Option (List ViewNode)
inside [] behind nodes = None
inside (base ∷ []) behind nodes = Some (content_of base behind nodes)
inside (step ∷ next ∷ way) behind nodes =
    option_and_then (λ node. option_and_then (λ children. inside (next ∷ way) behind children) (children_of node)) (slice_get nodes step)

-- the slot of a view element, if it has one
abbrev pub slot_at : Slots → Option ViewNode → Option Slot
slot_at slots node = option_and_then (λ node. option_and_then slots (number_of node)) node

-- the children of a node, if it is there and is an element
abbrev pub children_at : Option ViewNode → List ViewNode
children_at node = option_map_or (λ children. children) (option_and_then children_of node) []

-- in an element with a slot, in its content; else at the boundary before the element
abbrev pub in_content : (ℕ → List ViewNode → List ℕ) → List ℕ → List ℕ → List ℕ → Option (List ViewNode) → List ℕ
in_content further outside place way None = outside
in_content further outside place way (Some inner) = place ++ (parent_of way ++ further (offset_of way) inner)

-- where a position in an item is seen: at the boundary before it where it has no slot
abbrev pub in_item : (ℕ → List ViewNode → List ℕ) → List ℕ → List ℕ → List ViewNode → Option Slot → List ℕ
in_item further outside place children None = outside
in_item further outside place children (Some slot) = in_content further outside place slot.place (inside slot.place slot.behind children)

-- where a position is seen among these nodes
abbrev pub shown_at : Slots → Option (List ℕ) → List ℕ → ℕ → List ViewNode → List ℕ → List ℕ
shown_at slots caret place base nodes [] = []
shown_at slots caret place base nodes (offset ∷ []) = seen_at caret place base nodes offset
shown_at slots caret place base nodes (index ∷ next ∷ rest) =
    in_item (λ first inner. shown_at slots (below_index index caret) place first inner (next ∷ rest)) (seen_at caret place base nodes index)
    (place_among 0 (nodes_of nodes) index base) (children_at (item_among (nodes_of nodes) index)) (slot_at slots (item_among (nodes_of nodes) index))

-- the children of an attribute element: None for any other node
abbrev pub around : ViewNode → Option (List ViewNode)
around (text scalars) = None
around (element head children) = by_around head.kind (Some (list_of children)) None

-- the index of the node in which the item of a number stands, the item's number in there, and the node; the first of the nodes has this index
abbrev pub holder : List ViewNode → ℕ → ℕ → Option (ℕ × (ℕ × ViewNode))
holder [] number index = None
holder (node ∷ nodes) number index =
    if nat_lt number (model_length node) then Some (index, (number, node)) else holder nodes (number - model_length node) (index + 1)
