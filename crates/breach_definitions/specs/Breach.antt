-- The first item of a document that breaks a schema. A document obeys the schema where there is none.
use Rattle.std.specs.Prelude.{ℕ, ◌+◌, List, [], ◌∷◌, ◌++◌, not, Option, Some, None, option_map, map, if◌then◌else◌, codes}
use Rattle.std.specs.Option.{option_or}
use Rattle.std.specs.List.{find}
use Rattle.ck_base.specs.declared.faults.Rule.{Rule}
use Rattle.ck_base.specs.declared.faults.Rule.TheVariants.{Child, Attribute}
use Rattle.item_definitions.specs.Item.{Item, character, element, Items, none, more, items_of, attributes_of}
use Rattle.schema_definitions.specs.Allowed.{Rules, check_child, check_attribute}

-- the name by which a schema knows an item: each character is `$text`
abbrev pub item_name : Item → List ℕ
item_name (character scalar attributes) = codes "$text"
item_name (element id name attributes children) = name

-- an item with the names of its ancestors, from the root on, and its path
pub record Placed : Type 0 where
  pub ancestors : List (List ℕ)
  pub path : List ℕ
  pub item : Item

abbrev mutual
  -- an item and all that is in it, in document order: an element stands before its items
  pub placed_item : List (List ℕ) → List ℕ → Item → List Placed
  placed_item ancestors path (character scalar attributes) = record { ancestors = ancestors; path = path; item = character scalar attributes } ∷ []
  placed_item ancestors path (element id name attributes children) =
      record { ancestors = ancestors; path = path; item = element id name attributes children } ∷ placed_inner (ancestors ++ name ∷ []) path 0 children

  -- the items of a list from this index on, each with all that is in it
  pub placed_inner : List (List ℕ) → List ℕ → ℕ → Items → List Placed
  placed_inner ancestors path index none = []
  placed_inner ancestors path index (more item items) = placed_item ancestors (path ++ index ∷ []) item ++ placed_inner ancestors path (index + 1) items

-- all items under the root
abbrev pub placed_items : List Item → List Placed
placed_items items = placed_inner (codes "$root" ∷ []) [] 0 (items_of items)

-- the last of some names
abbrev pub last_name : List (List ℕ) → List ℕ
last_name [] = []
last_name (name ∷ []) = name
last_name (name ∷ next ∷ names) = last_name (next ∷ names)

-- the first key, in order, that an item may not have there
abbrev pub denied_key : Rules → Placed → Option (List ℕ)
denied_key rules placed = find (λ key. not (check_attribute rules placed.ancestors (item_name placed.item) key))
    (map (λ entry. entry.0) (attributes_of placed.item))

-- the rule that an item breaks first: that it may not stand there, or that it may not have a key
unfoldable pub broken_rule : Rules → Placed → Option Rule
broken_rule rules placed = if check_child rules placed.ancestors (item_name placed.item)
    then option_map (λ key. Attribute key (item_name placed.item)) (denied_key rules placed)
    else Some (Child (item_name placed.item) (last_name placed.ancestors))

-- the rule with the item's path
abbrev pub breach_of : Rules → Placed → Option (Rule × List ℕ)
breach_of rules placed = option_map (λ rule. (rule, placed.path)) (broken_rule rules placed)

-- what is there for the first of a list for which there is something
abbrev pub first_some : {A B : Type 0} → (A → Option B) → List A → Option B
first_some f [] = None
first_some f (x ∷ xs) = option_or (f x) (first_some f xs)

-- the first breach in document order
unfoldable pub breach : Rules → List Item → Option (Rule × List ℕ)
breach rules items = first_some (breach_of rules) (placed_items items)
