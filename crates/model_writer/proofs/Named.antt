-- The name of the element at a path.
use Rattle.std.proofs.Common.{◌≡◌, ℕ, List, [], ◌∷◌, true, false, nat_eq, if◌then◌else◌, Option, Some, None, option_map, option_and_then, refl, sym, ap}
use Rattle.std.specs.Cmp.Lexicographic.{pointwise}
use Rattle.item_definitions.specs.Item.{Attributes, Item, character, element}
use Rattle.item_definitions.specs.Children.{item_at}
use Rattle.operation_definitions.specs.Operation.{rename}
use Rattle.model_tree.specs.Parts.{HeadParts}
use Rattle.model_tree.specs.Reading.{shown_character, shown_element, shown_of}
use Rattle.edit_definitions.specs.Planned.{name_of, renaming}

pub name_there : (items : List Item) (path : List ℕ) (head : HeadParts) (count : ℕ) → Some (shown_element head count)
    ≡ option_map shown_of (item_at path items) → option_and_then name_of (item_at path items) ≡ Some head.name
name_there items path head count e = go (item_at path items) e
  where
    go : (o : Option Item) → Some (shown_element head count) ≡ option_map shown_of o → option_and_then name_of o ≡ Some head.name
    go None e = absurd cc
    go (Some (character scalar attributes)) e = absurd cc
    go (Some (element id name attributes children)) e = (let same : head ≡ record { id = id; name = name; attributes = attributes } = cc
        in ap (λ (h : HeadParts). Some h.name) (sym same))

pub name_character : (items : List Item) (path : List ℕ) (scalar : ℕ) (attributes : Attributes) → Some (shown_character scalar attributes)
    ≡ option_map shown_of (item_at path items) → option_and_then name_of (item_at path items) ≡ None
name_character items path scalar attributes e = go (item_at path items) e
  where
    go : (o : Option Item) → Some (shown_character scalar attributes) ≡ option_map shown_of o → option_and_then name_of o ≡ None
    go None e = refl
    go (Some (character scalar attributes)) e = refl
    go (Some (element id name attributes children)) e = absurd cc

pub name_nowhere : (items : List Item) (path : List ℕ) → None ≡ option_map shown_of (item_at path items) → option_and_then name_of (item_at path items) ≡ None
name_nowhere items path e = go (item_at path items) e
  where
    go : (o : Option Item) → None ≡ option_map shown_of o → option_and_then name_of o ≡ None
    go None e = refl
    go (Some item) e = absurd cc

pub same_name : (path old new : List ℕ) → pointwise nat_eq old new ≡ true → renaming path old new ≡ []
same_name path old new e = ap (λ t. if t then [] else rename path old new ∷ []) e

pub other_name : (path old new : List ℕ) → pointwise nat_eq old new ≡ false → renaming path old new ≡ rename path old new ∷ []
other_name path old new e = ap (λ t. if t then [] else rename path old new ∷ []) e
