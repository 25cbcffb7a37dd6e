-- The place that the fixer of the selection looks for, level by level: the first position not before a start where text may stand, and the last
-- one before it.
use Rattle.std.specs.Prelude.{◌≡◌, ℕ, ◌+◌, ◌≤◌, nat_le, nat_lt, List, [], ◌∷◌, ◌++◌, length, Bool, if◌then◌else◌, Option, Some, None, slice_get, codes}
use Rattle.std.specs.Prelude.{option_and_then}
use Rattle.std.specs.Option.{option_or}
use Rattle.item_definitions.specs.Item.{Item, Items, character, element, none, more, list_of, items_of}
use Rattle.model_tree.specs.Parts.{HeadParts}
use Rattle.model_tree.specs.Places.{parts_of}
use Rattle.schema_definitions.specs.Allowed.{Rules, check_child}
use Rattle.breach_definitions.specs.Obeys.{names_on}
use Rattle.post_fix.specs.declared.placing.Element.{Element}

-- an element that was read: what it is, and its items
abbrev pub parts_in : Element → HeadParts × List Item
parts_in shown = (shown.head.now, shown.children.now)

-- text may stand in the last of these names
abbrev pub allows : Rules → List (List ℕ) → Bool
allows rules names = check_child rules names (codes "$text")

-- text may stand at a position among the items in the last of these names
abbrev pub may_hold : Rules → List (List ℕ) → List Item → List ℕ → Bool
may_hold rules names items position = check_child rules (names ++ names_on position items) (codes "$text")

-- what the element at an index is, and its items: None where none stands there
abbrev pub element_parts : List Item → ℕ → Option (HeadParts × List Item)
element_parts items index = option_and_then parts_of (slice_get items index)

-- a position is among items: all numbers but the last lead through elements, and the last is an offset there
abbrev pub Stands : List ℕ → List Item → Type 0
Stands [] items = ⊥
Stands (offset ∷ []) items = offset ≤ length items
Stands (index ∷ next ∷ rest) items =
    (parts : HeadParts × List Item) × (element_parts items index ≡ Some parts) × Stands (next ∷ rest) parts.1

abbrev mutual
  -- the first position in an item where text may stand
  pub first_in : Rules → List (List ℕ) → List ℕ → Item → Option (List ℕ)
  first_in rules names path (character scalar attributes) = None
  first_in rules names path (element id name attributes children) =
      if allows rules (names ++ name ∷ []) then Some (path ++ 0 ∷ []) else first_behind rules (names ++ name ∷ []) path 0 0 children

  -- the first one in the items from an offset on, of items of which the first has the other offset
  pub first_behind : Rules → List (List ℕ) → List ℕ → ℕ → ℕ → Items → Option (List ℕ)
  first_behind rules names path from offset none = None
  first_behind rules names path from offset (more item items) =
      option_or (if nat_le from offset then first_in rules names (path ++ offset ∷ []) item else None) (first_behind rules names path from (offset + 1) items)

-- the first one from an offset on in the element at a path
abbrev pub first_here : Rules → List (List ℕ) → List ℕ → ℕ → List Item → Option (List ℕ)
first_here rules names path from items =
    if allows rules names then Some (path ++ from ∷ []) else first_behind rules names path from 0 (items_of items)

-- the first one not before a start in the element at a path
abbrev pub first_from : Rules → List (List ℕ) → List ℕ → List ℕ → List Item → Option (List ℕ)
first_from rules names path [] items = None
first_from rules names path (index ∷ []) items = first_here rules names path index items
first_from rules names path (index ∷ next ∷ rest) items =
    option_or (option_and_then (λ (parts : HeadParts × List Item). first_from rules (names ++ parts.0.name ∷ []) (path ++ index ∷ []) (next ∷ rest) parts.1)
    (element_parts items index))
    (first_here rules names path (index + 1) items)

abbrev mutual
  -- the last position in an item where text may stand
  pub last_in : Rules → List (List ℕ) → List ℕ → Item → Option (List ℕ)
  last_in rules names path (character scalar attributes) = None
  last_in rules names path (element id name attributes children) =
      if allows rules (names ++ name ∷ []) then Some (path ++ length (list_of children) ∷ [])
      else last_ahead rules (names ++ name ∷ []) path (length (list_of children)) 0 children

  -- the last one in the items before an offset, of items of which the first has the other offset
  pub last_ahead : Rules → List (List ℕ) → List ℕ → ℕ → ℕ → Items → Option (List ℕ)
  last_ahead rules names path upto offset none = None
  last_ahead rules names path upto offset (more item items) =
      option_or (last_ahead rules names path upto (offset + 1) items) (if nat_lt offset upto then last_in rules names (path ++ offset ∷ []) item else None)

-- the last one up to an offset in the element at a path
abbrev pub last_here : Rules → List (List ℕ) → List ℕ → ℕ → List Item → Option (List ℕ)
last_here rules names path upto items =
    if allows rules names then Some (path ++ upto ∷ []) else last_ahead rules names path upto 0 (items_of items)

-- the last one before a start in the element at a path, where text may stand in none of the elements that the start is in
abbrev pub last_before : Rules → List (List ℕ) → List ℕ → List ℕ → List Item → Option (List ℕ)
last_before rules names path [] items = None
last_before rules names path (index ∷ []) items = last_ahead rules names path index 0 (items_of items)
last_before rules names path (index ∷ next ∷ rest) items =
    option_or (option_and_then (λ (parts : HeadParts × List Item). last_before rules (names ++ parts.0.name ∷ []) (path ++ index ∷ []) (next ∷ rest) parts.1)
    (element_parts items index))
    (last_ahead rules names path index 0 (items_of items))
