-- Reading and changing the items of the element at a path.
use Rattle.std.specs.Prelude.{◌≡◌, ℕ, List, [], ◌∷◌, take, drop, Option, Some, None, option_map, is_some, true, Result, Ok, Err}
use Rattle.item_definitions.specs.Item.{Item, character, element, list_of, items_of}
use Rattle.item_definitions.specs.Children.{Change, at}
use Rattle.operation_definitions.specs.Level.{replace}
use Rattle.model_tree.specs.Parts.{HeadParts}
use Rattle.model_tree.specs.declared.paths.Element.{Element}
use Rattle.model_tree.specs.declared.fault.TreeFault.{TreeFault}
use Rattle.model_tree.specs.declared.fault.TreeFault.TheVariants.{NoPlace, NoMemory}

-- what an element is, and the items in it: None for a character
abbrev pub parts_of : Item → Option (HeadParts × List Item)
parts_of (character scalar attributes) = None
parts_of (element id name attributes children) = Some (record { id = id; name = name; attributes = attributes }, list_of children)

-- an element of a head and items
abbrev pub element_of : HeadParts → List Item → Item
element_of head children = element head.id head.name head.attributes (items_of children)

-- two elements: one with the items before an offset, and one with those behind it
abbrev pub halves : HeadParts → HeadParts → ℕ → List Item → List Item
halves head shell offset children = element_of head (take offset children) ∷ element_of shell (drop offset children) ∷ []

-- the same of an element that was read
abbrev pub parts_in : Element → HeadParts × List Item
parts_in shown = (shown.head.now, shown.children.now)

-- the change of a list that leaves these items
abbrev pub only : List Item → Change (Unit {0})
only new items = Some (new, tt)

-- the items with these in place of the `count` behind an offset in the element at a path: None where no element, or fewer items, stand there
abbrev pub put_run : List ℕ → ℕ → ℕ → List Item → List Item → Option (List Item)
put_run path offset count new items = option_map (λ made. made.0) (at path (replace offset count (only new)) items)

-- The result is what is wanted, and `NoPlace` exactly where nothing is. Nothing is said of when memory runs out, but that something is
-- wanted then.
abbrev pub Gives : {A : Type 0} → Option A → Result A TreeFault → Type 0
Gives wanted (Ok made) = wanted ≡ Some made
Gives wanted (Err NoPlace) = wanted ≡ None
Gives wanted (Err NoMemory) = is_some wanted ≡ true
