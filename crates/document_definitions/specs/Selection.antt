-- The selection of a document, and the attributes that text typed there gets. (After `DocumentSelection` of CKEditor 5's model; what
-- the selection's own attributes are, and when they go, is this engine's own rule.)
use Rattle.std.specs.Prelude.{ℕ, List, [], ◌∷◌, Bool, true, false, ◌&&◌, not, ◌==◌, if◌then◌else◌, nat_eq, Option, Some, None, find, fold, option_and_then}
use Rattle.std.specs.Prelude.{unwrap_or}
use Rattle.std.specs.Option.{option_or}
use Rattle.std.specs.Cmp.Lexicographic.{pointwise}
use Rattle.ck_base.specs.declared.value.Value.{Value as AttributeValue}
use Rattle.ck_base.specs.Entries.{with_value}
use Rattle.item_definitions.specs.Item.{Item, character, element, Attributes}
use Rattle.item_definitions.specs.Children.{offset_of, item_at, walk}
use Rattle.item_definitions.specs.Position.{Range, path_before, holds}
use Rattle.item_definitions.specs.Shift.{Shift, carry_range}
use Rattle.operation_definitions.specs.Level.{with_key}

-- keys with the value that each is overridden with, or without one, in the order of the keys' bytes
abbrev pub Overrides : Type 0
Overrides = List (List ℕ × Option AttributeValue)

-- a range; whether its focus is at its start; and what overrides the attributes that the text around it gives
pub record Selection : Type 0 where
  pub range : Range
  pub backward : Bool
  pub overrides : Overrides

-- the two positions are one (after `Position.isEqual` of CKEditor 5's model)
abbrev pub same_position : List ℕ → List ℕ → Bool
same_position = pointwise nat_eq

-- a range starts where it ends (after `Range.isCollapsed`)
abbrev pub is_collapsed : Range → Bool
is_collapsed range = same_position range.start range.end

-- the two ranges are one (after `Range.isEqual`)
abbrev pub same_range : Range → Range → Bool
same_range range other = same_position range.start other.start && same_position range.end other.end

-- the selection of a range, without overrides; that of a collapsed one is forward
abbrev pub selected : Range → Bool → Selection
selected range backward = record { range = range; backward = backward && not (is_collapsed range); overrides = [] }

-- The selection where its range goes when the tree changes. The overrides go exactly where the range changes.
abbrev pub carried : Shift → Selection → Selection
carried shift selection =
    let range = carry_range shift selection.range in
    if same_range range selection.range then selection else selected range selection.backward

-- the selection with an override of a key: by a value, or by none
abbrev pub with_override : List ℕ → Option AttributeValue → Selection → Selection
with_override key value selection =
    record { range = selection.range; backward = selection.backward; overrides = with_value key value selection.overrides }

-- the attributes of a character: None for an element
abbrev pub of_character : Item → Option Attributes
of_character (character scalar attributes) = Some attributes
of_character (element id name attributes children) = None

-- an item is a character
abbrev pub is_character : Item → Bool
is_character (character scalar attributes) = true
is_character (element id name attributes children) = false

-- the attributes of the item at a path, where that is a character
abbrev pub character_at : List Item → List ℕ → Option Attributes
character_at items path = option_and_then of_character (item_at path items)

-- the path of the item directly before a position in the same parent: None at the parent's start
abbrev pub before : List ℕ → Option (List ℕ)
before position = if offset_of position == 0 then None else Some (path_before position)

-- the attributes of the first character that is wholly in a range
abbrev pub first_in : List Item → Range → Option Attributes
first_in items range = option_and_then (λ entry. of_character entry.1) (find (λ entry. is_character entry.1 && holds range entry.0) (walk items))

-- the attributes of the character directly before a position, or else of the one directly behind it
abbrev pub around : List Item → List ℕ → Option Attributes
around items position = option_or (option_and_then (character_at items) (before position)) (character_at items position)

-- the attributes that the text gives the selection, without its overrides
abbrev pub natural : List Item → Selection → Attributes
natural items selection =
    unwrap_or (if is_collapsed selection.range then around items selection.range.start else first_in items selection.range) []

-- attributes with each override: its value, or no value
abbrev pub overridden : Overrides → Attributes → Attributes
overridden overrides attributes = fold (λ made entry. with_key entry.0 entry.1 made) attributes overrides

-- the attributes of the selection
abbrev pub attributes : List Item → Selection → Attributes
attributes items selection = overridden selection.overrides (natural items selection)
