-- What an edit of an attribute leaves: which items it reaches, what attributes these have then, and that all else is as it was.
use Rattle.std.specs.Prelude.{◌≡◌, ℕ, List, [], map, Bool, true, false, ◌&&◌, nat_le, nat_lt, Option, Some, None}
use Rattle.std.specs.List.{list_any}
use Rattle.ck_base.specs.declared.value.Value.{Value as AttributeValue}
use Rattle.ck_base.specs.Entries.{ChangesOnly}
use Rattle.item_definitions.specs.Item.{Item, Items, character, element, none, more, Attributes, attributes_of}
use Rattle.item_definitions.specs.Children.{parent_of, offset_of, child_count, item_at}
use Rattle.item_definitions.specs.Position.{Range, between}
use Rattle.item_definitions.specs.FlatParts.{flat_parts}
use Rattle.document_definitions.specs.Selection.{same_position}
use Rattle.document_definitions.specs.Document.{State}
use Rattle.edit_definitions.specs.declared.edit.Edit.{Edit}
use Rattle.edit_definitions.specs.declared.edit.Edit.TheVariants.{SetAttribute, RemoveAttribute}
use Rattle.edit_definitions.specs.declared.edit.Target.{Target}
use Rattle.edit_definitions.specs.declared.edit.Target.TheVariants.{Range as InRange, Element as OfElement}

-- the edit that gives the items of a target this value of a key, or takes the key from them
abbrev pub attribute_edit : Target → List ℕ → Option AttributeValue → Edit
attribute_edit target key (Some value) = SetAttribute target key value
attribute_edit target key None = RemoveAttribute target key

-- the item at a path is one of those of a flat range: it stands in the range's parent, from the start on and before the end
abbrev pub is_of : List ℕ → Range → Bool
is_of path range = same_position (parent_of range.start) (parent_of path) && (nat_le (offset_of range.start) (offset_of path)
    && nat_lt (offset_of path) (offset_of range.end))

-- a target has the item at a path: that is one of the items of the flat ranges that make up a range, or the element itself
abbrev pub is_reached : List Item → Target → List ℕ → Bool
is_reached items (InRange start end) path = list_any (is_of path) (flat_parts (child_count items) (between start end))
is_reached items (OfElement place) path = same_position place path

-- attributes that have the new value of the key (or lack it, where there is none) and are otherwise as before; and all as before, where
-- the item isn't reached
abbrev pub IsGiven : Bool → List ℕ → Option AttributeValue → Attributes → Attributes → Type 0
IsGiven true key new old made = ChangesOnly old made key new
IsGiven false key new old made = made ≡ old

-- an item stands at a path, with attributes that are so given
pub record HasGiven (reached : Bool) (key : List ℕ) (new : Option AttributeValue) (old : Attributes) (items : List Item) (path : List ℕ) : Type 0 where
  pub item : Item
  pub there : item_at path items ≡ Some item
  pub given : IsGiven reached key new old (attributes_of item)

-- each item that stands in the one document stands in the other with attributes that are so given
abbrev pub EachIsGiven : Target → List ℕ → Option AttributeValue → State → State → Type 0
EachIsGiven target key new state made =
    (path : List ℕ) (item : Item) → item_at path state.document.items ≡ Some item
    → HasGiven (is_reached state.document.items target path) key new (attributes_of item) made.document.items path

abbrev mutual
  -- an item without its attributes, and without those of all that is in it
  pub item_without_attributes : Item → Item
  item_without_attributes (character scalar attributes) = character scalar []
  item_without_attributes (element id name attributes children) = element id name [] (inner_without_attributes children)

  -- the same of the items in an element
  pub inner_without_attributes : Items → Items
  inner_without_attributes none = none
  inner_without_attributes (more item items) = more (item_without_attributes item) (inner_without_attributes items)

-- a state without the attributes of the items in its tree: it tells these items, the markers, the selection, the next id and the cells
abbrev pub without_attributes : State → State
without_attributes state = record {
  document = record {
    items = map item_without_attributes state.document.items;
    markers = state.document.markers;
    selection = state.document.selection;
    next_id = state.document.next_id;
  };
  cells = state.cells;
}
