-- The relations that the entries make, each the least one with its rules.
use Rattle.std.specs.Prelude.{ℕ, List, IsTrue}
use Rattle.schema_definitions.specs.declared.file.Entry.{Entry}
use Rattle.schema_definitions.specs.declared.file.Property.TheVariants.{AllowIn, AllowChildren, AllowAttributes, AllowWhere, AllowContentOf, AllowAttributesOf}
use Rattle.schema_definitions.specs.declared.file.Property.TheVariants.{InheritTypesFrom}
use Rattle.schema_definitions.specs.declared.file.Flag.{Flag}
use Rattle.schema_definitions.specs.Entries.{lists, sets, leaves_open}

-- An item may stand in a parent.
pub data StandsIn (entries : List Entry) : List ℕ → List ℕ → Type 0 where
  -- the item's `allowIn` has the parent
  allowed_in : {item parent : List ℕ} → IsTrue (lists entries AllowIn item parent) → StandsIn entries item parent
  -- the parent's `allowChildren` has the item
  allowed_child : {item parent : List ℕ} → IsTrue (lists entries AllowChildren parent item) → StandsIn entries item parent
  -- the item's `allowWhere` has another that may stand there
  like_another : {item other parent : List ℕ} → IsTrue (lists entries AllowWhere item other) → StandsIn entries other parent → StandsIn entries item parent
  -- the parent's `allowContentOf` has another in which the item may stand
  content_of : {item other parent : List ℕ} → IsTrue (lists entries AllowContentOf parent other) → StandsIn entries item other → StandsIn entries item parent

-- An item may have an attribute.
pub data MayHave (entries : List Entry) (key : List ℕ) : List ℕ → Type 0 where
  -- the item's `allowAttributes` has it
  allowed : {item : List ℕ} → IsTrue (lists entries AllowAttributes item key) → MayHave entries key item
  -- the item's `allowAttributesOf` has another that may have it
  attributes_of : {item other : List ℕ} → IsTrue (lists entries AllowAttributesOf item other) → MayHave entries key other → MayHave entries key item

-- A flag is set for an item.
pub data HasFlag (entries : List Entry) (flag : Flag) : List ℕ → Type 0 where
  -- an entry of the item writes it true
  writes_it : {item : List ℕ} → IsTrue (sets entries flag item) → HasFlag entries flag item
  -- no entry of the item writes it, and it is set for one of the item's `inheritTypesFrom`
  inherits_it : {item other : List ℕ} → IsTrue (leaves_open entries flag item) → IsTrue (lists entries InheritTypesFrom item other)
      → HasFlag entries flag other → HasFlag entries flag item
