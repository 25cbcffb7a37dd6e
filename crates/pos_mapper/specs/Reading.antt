-- What a place means, read from the nodes of a view and the slots of the view elements with numbers.
use Rattle.std.specs.Prelude.{ℕ, ◌+◌, ◌-◌, ◌^◌, ◌==◌, nat_le, nat_lt, List, [], ◌∷◌, length, take, drop, Option, Some, None, option_map, option_and_then}
use Rattle.std.specs.Prelude.{slice_get, if◌then◌else◌}
use Rattle.std.specs.List.{find}
use Rattle.view_definitions.specs.Node.{ViewNode, text, element, list_of, nodes_of, children_of}
use Rattle.downcast_definitions.specs.Meant.{by_kind, inner_length}
use Rattle.pos_mapper.specs.Bindings.{Slot, Binding}

-- the slot of the view element with a number
abbrev pub Slots : Type 0
Slots = ℕ → Option Slot

-- the slots of these bindings, by the numbers of their view elements
abbrev pub slots_in : List Binding → Slots
slots_in bindings number = option_and_then (λ binding. binding.slot) (find (λ binding. binding.number == number) bindings)

-- how many items nodes show
abbrev pub lengths : List ViewNode → ℕ
lengths nodes = inner_length (nodes_of nodes)

-- a number that a position may have
abbrev pub in_position : ℕ → Option ℕ
in_position number = if nat_lt number (2 ^ 32) then Some number else None

-- how many items are shown before the node at an index, where so many are shown before the list
abbrev pub before_node : ℕ → ℕ → List ViewNode → Option ℕ
before_node offset index nodes = in_position (offset + lengths (take index nodes))

-- the position with this number alone
abbrev pub only_number : Option ℕ → Option (List ℕ)
only_number number = option_map (λ offset. offset ∷ []) number

-- a place between nodes
abbrev pub between_nodes : ℕ → List ViewNode → ℕ → Option (List ℕ)
between_nodes offset nodes index = if nat_le index (length nodes) then only_number (before_node offset index nodes) else None

-- a place in a text of so many characters
abbrev pub in_text : ℕ → ℕ → List ℕ → ℕ → Option (List ℕ)
in_text offset scalars [] last = if nat_le last scalars then only_number (in_position (offset + last)) else None
in_text offset scalars (index ∷ path) last = None

-- the nodes of a list from a base on, but for so many behind them
abbrev pub content_of : ℕ → ℕ → List ViewNode → List ViewNode
content_of base behind nodes = take (length nodes - base - behind) (drop base nodes)

-- what the rest of a place means in a list of nodes, below so many levels of the model, by the way from there to the slot, how many nodes are
-- behind the content, and how many items are shown before the list. Without a way the list is the content
abbrev pub Below : Type 0
Below = ℕ → List ℕ → ℕ → ℕ → List ViewNode → Option (List ℕ)

-- a position has 65 numbers at most
abbrev pub in_slot : Below → ℕ → ℕ → List ViewNode → Option Slot → Option (List ℕ)
in_slot below depth offset children None = None
in_slot below depth offset children (Some slot) =
    if nat_lt depth 64 then option_map (λ position. offset ∷ position) (below (depth + 1) slot.place slot.behind 0 children) else None

-- what a place in a node means, by what places below mean
abbrev pub in_node : Slots → Below → ℕ → List ℕ → ℕ → ℕ → ViewNode → Option (List ℕ)
in_node slots below depth path last offset (text scalars) = in_text offset (length scalars) path last
in_node slots below depth path last offset (element head children) =
    by_kind head.kind (below depth [] 0 offset (list_of children)) (in_slot below depth offset (list_of children) (option_and_then slots head.number))

-- what a place in the node with this index means
abbrev pub in_nodes : Slots → Below → ℕ → List ℕ → ℕ → ℕ → List ViewNode → ℕ → Option (List ℕ)
in_nodes slots below depth path last offset nodes index =
    option_and_then (λ node. option_and_then (λ before. in_node slots below depth path last before node) (before_node offset index nodes))
    (slice_get nodes index)

-- one step on the way: to the children of the node at this index
abbrev pub at_step : {A : Type 0} → ℕ → List ViewNode → ℕ → (List ViewNode → Option A) → Option A
at_step step nodes index further =
    if step == index then option_and_then (λ node. option_and_then further (children_of node)) (slice_get nodes index) else None

-- at an index of a list: where the list is the content, where the content begins in it, and where the way goes on
abbrev pub on_way : {A : Type 0} → List ℕ → ℕ → List ViewNode → ℕ → (List ViewNode → ℕ → Option A) → (List ℕ → List ViewNode → Option A) → Option A
on_way [] behind nodes index here further = here nodes index
on_way (base ∷ []) behind nodes index here further = if nat_le base index then here (content_of base behind nodes) (index - base) else None
on_way (step ∷ next ∷ way) behind nodes index here further = at_step step nodes index (further (next ∷ way))

-- the position that a place means: a path of indices from these nodes on, and a last offset
abbrev pub read : Slots → ℕ → List ℕ → ℕ → ℕ → List ViewNode → List ℕ → ℕ → Option (List ℕ)
read slots depth way behind offset nodes [] last = on_way way behind nodes last (between_nodes offset) (λ further inner. None)
read slots depth way behind offset nodes (index ∷ path) last =
    on_way way behind nodes index
    (in_nodes slots (λ levels further more start inner. read slots levels further more start inner path last) depth path last offset)
    (λ further inner. read slots depth further behind offset inner path last)

-- what places mean whose first index is taken off
abbrev pub reads : Slots → List ℕ → ℕ → Below
reads slots path last depth way behind offset nodes = read slots depth way behind offset nodes path last

-- the position that a place means whose first index is a step on the way
abbrev pub read_step : Slots → ℕ → ℕ → List ℕ → ℕ → List ViewNode → List ℕ → ℕ → Option (List ℕ)
read_step slots depth step way behind nodes [] last = None
read_step slots depth step way behind nodes (index ∷ path) last = at_step step nodes index (λ inner. read slots depth way behind 0 inner path last)
