-- What each stock fixer wants at a place: the edits that are made there, or none. A place is asked alone, with what stands round it.
use Rattle.std.specs.Prelude.{ℕ, ◌+◌, List, [], ◌∷◌, ◌++◌, map, length, Bool, true, false, not, ◌&&◌, if◌then◌else◌, Option, Some, None}
use Rattle.std.specs.List.{list_any, filter, prefix_len}
use Rattle.std.specs.Option.{option_map_or}
use Rattle.std.specs.Map.{keys_of}
use Rattle.std.specs.Str.{bytes_eq}
use Rattle.item_definitions.specs.Item.{Item, Attributes, character, element, none, more, attributes_of}
use Rattle.item_definitions.specs.Position.{behind}
use Rattle.item_definitions.specs.Shift.{forward}
use Rattle.document_definitions.specs.Selection.{of_character}
use Rattle.print_definitions.specs.ModelText.{same_attributes, goes_on}
use Rattle.schema_definitions.specs.Allowed.{Rules, check_attribute}
use Rattle.breach_definitions.specs.Breach.{item_name}
use Rattle.edit_definitions.specs.declared.edit.Edit.{Edit}
use Rattle.edit_definitions.specs.declared.edit.Edit.TheVariants.{InsertElement, Remove, RemoveAttribute, Merge}
use Rattle.edit_definitions.specs.declared.edit.Target.{Target}
use Rattle.edit_definitions.specs.declared.edit.Target.TheVariants.{Range as InRange, Element as OfElement}
use Rattle.fix_definitions.specs.declared.stock.StockFixer.{StockFixer}
use Rattle.fix_definitions.specs.declared.stock.StockFixer.TheVariants.{DropAttributes, Fill, JoinNeighbours, RemoveEmpty, Require, SelectionPlace}
use Rattle.fix_definitions.specs.Places.{Place, children_in}

-- an edit, where a test holds
abbrev pub edit_if : Bool → Edit → List Edit
edit_if true edit = edit ∷ []
edit_if false edit = []

-- an element of this name; a character has no name
abbrev pub is_named : List ℕ → Item → Bool
is_named name (character scalar attributes) = false
is_named name (element id other attributes children) = bytes_eq other name

-- an element without children
abbrev pub is_childless : Item → Bool
is_childless (character scalar attributes) = false
is_childless (element id name attributes none) = true
is_childless (element id name attributes (more item items)) = false

-- some item in an element is an element of this name
abbrev pub has_child : List ℕ → Item → Bool
has_child name item = list_any (is_named name) (children_in item)

-- the place is that of the root
abbrev pub is_root : List ℕ → Bool
is_root [] = true
is_root (offset ∷ path) = false

-- the keys of an item that the schema denies it behind these ancestors, in their order
abbrev pub denied_keys : Rules → List (List ℕ) → Item → List (List ℕ)
denied_keys rules ancestors item = filter (λ key. not (check_attribute rules ancestors (item_name item) key)) (keys_of (attributes_of item))

-- a character of these attributes: it is in one run with a character of these attributes directly before it
abbrev pub is_alike : Attributes → Item → Bool
is_alike attributes item = goes_on (of_character item) attributes

-- The run of characters that begins at a place: the longest one of neighbouring characters with these attributes. None where the character
-- before is in that run too.
abbrev pub run_from : Attributes → Place → Option Target
run_from attributes place =
    if option_map_or (is_alike attributes) place.left false then None
    else Some (InRange place.path (forward (1 + prefix_len (is_alike attributes) place.right) place.path))

-- the items that are asked for their attributes at a place: an element, or a run of characters at its first one
abbrev pub target_at : Place → Item → Option Target
target_at place (character scalar attributes) = run_from attributes place
target_at place (element id name attributes children) = Some (OfElement place.path)

-- each denied key goes from the items that are asked at the place
abbrev pub dropped : Rules → Place → List Edit
dropped rules place =
    option_map_or (λ target. map (RemoveAttribute target) (denied_keys rules place.ancestors place.item)) (target_at place place.item) []

-- an element goes into the one directly before it, where both have this name and equal attributes
abbrev pub joins : List ℕ → Item → Item → Bool
joins name left item = is_named name left && is_named name item && same_attributes (attributes_of left) (attributes_of item)

-- what a fixer wants at a place
abbrev pub wanted : Rules → StockFixer → Place → List Edit
wanted rules DropAttributes place = dropped rules place
wanted rules (Fill parent child) place = edit_if (is_named parent place.item && is_childless place.item) (InsertElement (place.path ++ 0 ∷ []) child [])
wanted rules (JoinNeighbours name) place = edit_if (option_map_or (λ left. joins name left place.item) place.left false) (Merge place.path)
wanted rules (RemoveEmpty name) place =
    edit_if (is_named name place.item && is_childless place.item && not (is_root place.path)) (Remove place.path (behind place.path))
wanted rules (Require parent child) place =
    edit_if (is_named parent place.item && not (has_child child place.item)) (InsertElement (place.path ++ length (children_in place.item) ∷ []) child [])
wanted rules SelectionPlace place = []
