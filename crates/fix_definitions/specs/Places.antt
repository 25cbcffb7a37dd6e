-- The places of a document that fixers are asked at: its items in document order, with what stands round each.
use Rattle.std.specs.Prelude.{ℕ, ◌+◌, List, [], ◌∷◌, map, drop, Option, None, option_and_then, unwrap_or, codes}
use Rattle.item_definitions.specs.Item.{Item, element, items_of, inner}
use Rattle.item_definitions.specs.Children.{parent_of, offset_of, children_at, item_at}
use Rattle.document_definitions.specs.Selection.{before}
use Rattle.breach_definitions.specs.Breach.{Placed, placed_items}

-- An item where it stands: the names of its ancestors, from the root on; its path; the item directly before it in its parent; the item
-- itself; and the items behind it in its parent.
pub record Place : Type 0 where
  pub ancestors : List (List ℕ)
  pub path : List ℕ
  pub left : Option Item
  pub item : Item
  pub right : List Item

-- the root as an element: its id is 0 and its name `$root`, and it has no attributes
abbrev pub root_of : List Item → Item
root_of items = element 0 (codes "$root") [] (items_of items)

-- the item directly before the one at a path, in the same parent
abbrev pub left_of : List Item → List ℕ → Option Item
left_of items path = option_and_then (λ other. item_at other items) (before path)

-- the items behind the one at a path, in the same parent
abbrev pub right_of : List Item → List ℕ → List Item
right_of items path = drop (offset_of path + 1) (unwrap_or (children_at (parent_of path) items) [])

-- an item of a document with what stands round it
abbrev pub place_of : List Item → Placed → Place
place_of items placed = record {
  ancestors = placed.ancestors;
  path = placed.path;
  left = left_of items placed.path;
  item = placed.item;
  right = right_of items placed.path;
}

-- the root, which has no ancestors and no neighbours
abbrev pub root_place : List Item → Place
root_place items = record { ancestors = []; path = []; left = None; item = root_of items; right = [] }

-- all places of a document, in document order: the root, and then each item
abbrev pub places : List Item → List Place
places items = root_place items ∷ map (place_of items) (placed_items items)

-- the items in an element; a character has none
abbrev pub children_in : Item → List Item
children_in item = unwrap_or (inner item) []
