-- What is read of an item.
use Rattle.std.specs.Prelude.{ℕ, length}
use Rattle.item_definitions.specs.Item.{Attributes, Item, character, element, list_of}
use Rattle.model_tree.specs.Parts.{HeadParts}
use Rattle.model_tree.specs.declared.reading.ItemRef.{ItemRef}
use Rattle.model_tree.specs.declared.reading.ItemRef.TheVariants.{Character, Element}

-- a character with its attributes, or what an element is and how many items it has
pub data Shown : Type 0 where
  shown_character : ℕ → Attributes → Shown
  shown_element : HeadParts → ℕ → Shown

-- what is read of an item
abbrev pub shown_of : Item → Shown
shown_of (character scalar attributes) = shown_character scalar attributes
shown_of (element id name attributes children) = shown_element (record { id = id; name = name; attributes = attributes }) (length (list_of children))

-- what a view on an item shows
abbrev pub shown_in : ItemRef → Shown
shown_in (Character scalar attrs) = shown_character scalar attrs.now
shown_in (Element id name attrs count) = shown_element (record { id = id; name = name.now; attributes = attrs.now }) count
