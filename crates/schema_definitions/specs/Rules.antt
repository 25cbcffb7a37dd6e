-- The relations as tests, by what can be reached along pairs; the laws in proofs/Least say that the tests are the relations.
use Rattle.std.specs.Prelude.{ℕ, List, [], ◌∷◌, ◌++◌, Bool, map}
use Rattle.std.specs.List.{filter}
use Rattle.schema_definitions.specs.declared.file.Entry.{Entry}
use Rattle.schema_definitions.specs.declared.file.Property.TheVariants.{AllowIn, AllowChildren, AllowAttributes, AllowWhere, AllowContentOf, AllowAttributesOf}
use Rattle.schema_definitions.specs.declared.file.Property.TheVariants.{InheritTypesFrom}
use Rattle.schema_definitions.specs.declared.file.Flag.{Flag}
use Rattle.schema_definitions.specs.Names.{has, turned, targets}
use Rattle.schema_definitions.specs.Reachable.{reachable}
use Rattle.schema_definitions.specs.Entries.{item_of, pairs, writes_yes, leaves_open}

-- each parent with each item that its own or the item's entries place in it
abbrev pub placements : List Entry → List (List ℕ × List ℕ)
placements entries = turned (pairs entries AllowIn) ++ pairs entries AllowChildren

-- the items that may stand in a parent: from the parents whose content it has, their items, and those that may stand where these may
unfoldable pub children_of : List Entry → List ℕ → List (List ℕ)
children_of entries parent = reachable (turned (pairs entries AllowWhere))
    (targets (placements entries) (reachable (pairs entries AllowContentOf) (parent ∷ [])))

-- whether an item may stand in a parent, by the entries alone
abbrev pub stands_in : List Entry → List ℕ → List ℕ → Bool
stands_in entries item parent = has (children_of entries parent) item

-- the attributes that an item may have: those of all items whose attributes it has
unfoldable pub keys_of : List Entry → List ℕ → List (List ℕ)
keys_of entries item = targets (pairs entries AllowAttributes) (reachable (pairs entries AllowAttributesOf) (item ∷ []))

-- whether an item may have an attribute, by the entries alone
abbrev pub may_have : List Entry → List ℕ → List ℕ → Bool
may_have entries key item = has (keys_of entries item) key

-- each item that leaves the flag open, with each item from which it inherits
abbrev pub open_pairs : List Entry → Flag → List (List ℕ × List ℕ)
open_pairs entries flag = filter (λ pair. leaves_open entries flag pair.0) (pairs entries InheritTypesFrom)

-- the items for which a flag is set: those that write it, and all that inherit it
unfoldable pub items_with : List Entry → Flag → List (List ℕ)
items_with entries flag = reachable (turned (open_pairs entries flag)) (map item_of (filter (writes_yes flag) entries))

-- whether a flag is set for an item
abbrev pub has_flag : List Entry → Flag → List ℕ → Bool
has_flag entries flag item = has (items_with entries flag) item
