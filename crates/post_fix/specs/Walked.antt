-- What the fixers of elements want of a document, level by level: of an element by its head, its items, and the head of the element directly before
-- it, if that is one.
use Rattle.std.specs.Prelude.{ℕ, ◌+◌, ◌<◌, ◌≤◌, ◌^◌, List, [], ◌∷◌, ◌++◌, length, Bool, true, false, not, ◌&&◌, Option, Some, None, codes}
use Rattle.std.specs.List.{list_any}
use Rattle.std.specs.Option.{option_map_or, option_and_then}
use Rattle.std.specs.Str.{bytes_eq}
use Rattle.item_definitions.specs.Item.{Item, Items, character, element, none, more, list_of, count_of, depth_of}
use Rattle.item_definitions.specs.Position.{behind}
use Rattle.print_definitions.specs.ModelText.{same_attributes}
use Rattle.model_tree.specs.declared.items.Node.{Node}
use Rattle.model_tree.specs.declared.items.Node.TheVariants.{Run, Element}
use Rattle.model_tree.specs.Parts.{HeadParts}
use Rattle.edit_definitions.specs.declared.edit.Edit.{Edit}
use Rattle.edit_definitions.specs.declared.edit.Edit.TheVariants.{InsertElement, Remove, Merge}
use Rattle.fix_definitions.specs.declared.stock.StockFixer.{StockFixer}
use Rattle.fix_definitions.specs.declared.stock.StockFixer.TheVariants.{DropAttributes, Fill, JoinNeighbours, RemoveEmpty, Require, SelectionPlace}
use Rattle.fix_definitions.specs.Wanted.{edit_if, is_named}

-- items of the element at a path, from an offset on, are those of a tree
pub record AreBelow (path : List ℕ) (offset : ℕ) (items : List Item) : Type 0 where
  pub few : offset + count_of items < 2 ^ 32
  pub flat : length path + depth_of items ≤ 64

-- a list has no items
abbrev pub is_bare : List Item → Bool
is_bare [] = true
is_bare (item ∷ items) = false

-- the head of an element; a character has none
abbrev pub head_in : Item → Option HeadParts
head_in (character scalar attributes) = None
head_in (element id name attributes children) = Some (record { id = id; name = name; attributes = attributes })

-- the head of a node that is an element
abbrev pub node_head : Node → Option HeadParts
node_head (Run text) = None
node_head (Element head children) = Some head

-- two elements have this name and equal attributes
abbrev pub are_alike : List ℕ → HeadParts → HeadParts → Bool
are_alike name left head = bytes_eq left.name name && bytes_eq head.name name && same_attributes left.attributes head.attributes

-- what a fixer of elements wants of the element at a path
abbrev pub asked : StockFixer → List ℕ → Option HeadParts → HeadParts → List Item → List Edit
asked DropAttributes path left head children = []
asked (Fill parent child) path left head children = edit_if (bytes_eq head.name parent && is_bare children) (InsertElement (path ++ 0 ∷ []) child [])
asked (JoinNeighbours name) path left head children = edit_if (option_map_or (λ left. are_alike name left head) left false) (Merge path)
asked (RemoveEmpty name) path left head children = edit_if (bytes_eq head.name name && is_bare children) (Remove path (behind path))
asked (Require parent child) path left head children =
    edit_if (bytes_eq head.name parent && not (list_any (is_named child) children)) (InsertElement (path ++ length children ∷ []) child [])
asked SelectionPlace path left head children = []

abbrev mutual
  -- what it wants of an item at a path, behind an element of this head, and of all that is in it
  pub wanted_in : StockFixer → List ℕ → Option HeadParts → Item → List Edit
  wanted_in fixer path left (character scalar attributes) = []
  wanted_in fixer path left (element id name attributes children) =
      asked fixer path left (record { id = id; name = name; attributes = attributes }) (list_of children) ++ wanted_from fixer path 0 None children

  -- what it wants of items of the element at a path, from an offset on
  pub wanted_from : StockFixer → List ℕ → ℕ → Option HeadParts → Items → List Edit
  wanted_from fixer path offset left none = []
  wanted_from fixer path offset left (more item items) =
      wanted_in fixer (path ++ offset ∷ []) left item ++ wanted_from fixer path (offset + 1) (head_in item) items

-- what is seen of an item as the left neighbour of another one: the head of an element
abbrev pub seen_left : Option Item → Option HeadParts
seen_left left = option_and_then head_in left

-- what a fixer of elements wants of the root
abbrev pub root_wanted : StockFixer → List Item → List Edit
root_wanted DropAttributes items = []
root_wanted (Fill parent child) items = edit_if (bytes_eq (codes "$root") parent && is_bare items) (InsertElement (0 ∷ []) child [])
root_wanted (JoinNeighbours name) items = []
root_wanted (RemoveEmpty name) items = []
root_wanted (Require parent child) items =
    edit_if (bytes_eq (codes "$root") parent && not (list_any (is_named child) items)) (InsertElement (length items ∷ []) child [])
root_wanted SelectionPlace items = []

-- the fixer asks elements, and not attributes
abbrev pub IsOfElements : StockFixer → Type 0
IsOfElements DropAttributes = ⊥
IsOfElements (Fill parent child) = Unit {0}
IsOfElements (JoinNeighbours name) = Unit {0}
IsOfElements (RemoveEmpty name) = Unit {0}
IsOfElements (Require parent child) = Unit {0}
IsOfElements SelectionPlace = Unit {0}
