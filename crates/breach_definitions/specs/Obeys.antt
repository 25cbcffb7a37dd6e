-- What it is that a document obeys a schema, item by item as they are found at their paths, and which item is the first that doesn't.
-- (After `Schema.checkChild` and `Schema.checkAttribute` of CKEditor 5's engine.)
use Rattle.std.specs.Prelude.{◌≡◌, ℕ, List, [], ◌∷◌, ◌++◌, false, IsTrue, All, Some, codes, slice_get}
use Rattle.std.specs.Option.{option_map_or}
use Rattle.ck_base.specs.declared.faults.Rule.{Rule}
use Rattle.ck_base.specs.declared.faults.Rule.TheVariants.{Child, Attribute}
use Rattle.ck_base.specs.declared.value.Value.{Value as AttributeValue}
use Rattle.item_definitions.specs.Item.{Item, Attributes, inner, attributes_of}
use Rattle.item_definitions.specs.Children.{item_at}
use Rattle.item_definitions.specs.Position.{is_before}
use Rattle.schema_definitions.specs.Allowed.{Rules, check_child, check_attribute}
use Rattle.breach_definitions.specs.declared.spot.Spot.{Spot}
use Rattle.breach_definitions.specs.Breach.{Placed, placed_items, item_name, last_name}
use Rattle.breach_definitions.specs.Spots.{is_listed}

-- the names of the elements that a path leads through, the outermost first
abbrev pub names_on : List ℕ → List Item → List (List ℕ)
names_on [] items = []
names_on (index ∷ []) items = []
names_on (index ∷ next ∷ path) items =
    option_map_or (λ item. item_name item ∷ option_map_or (names_on (next ∷ path)) (inner item) []) (slice_get items index) []

-- the names of the ancestors of the item at a path, from the root on
abbrev pub ancestors_at : List ℕ → List Item → List (List ℕ)
ancestors_at path items = codes "$root" ∷ names_on path items

-- an item may have these attributes behind these ancestors: the schema allows each key
abbrev pub MayHaveAll : Rules → List (List ℕ) → Item → Attributes → Type 0
MayHaveAll rules ancestors item attributes =
    All (λ (entry : List ℕ × AttributeValue). IsTrue (check_attribute rules ancestors (item_name item) entry.0)) attributes

-- an item may stand behind these ancestors, and may have each of its keys there
pub record IsAllowed (rules : Rules) (ancestors : List (List ℕ)) (item : Item) : Type 0 where
  pub stands : IsTrue (check_child rules ancestors (item_name item))
  pub has : MayHaveAll rules ancestors item (attributes_of item)

-- the rule that an item breaks first: it may not stand there; or it may, and one of its keys is the first that it may not have
pub data Breaks (rules : Rules) (ancestors : List (List ℕ)) (item : Item) : Rule → Type 0 where
  may_not_stand : check_child rules ancestors (item_name item) ≡ false → Breaks rules ancestors item (Child (item_name item) (last_name ancestors))
  may_not_have : (before behind : Attributes) (key : List ℕ) (value : AttributeValue) → IsTrue (check_child rules ancestors (item_name item))
      → attributes_of item ≡ before ++ (key, value) ∷ behind → MayHaveAll rules ancestors item before
      → check_attribute rules ancestors (item_name item) key ≡ false → Breaks rules ancestors item (Attribute key (item_name item))

-- a document obeys: each item that is found at a path is allowed under the names on the path
abbrev pub Obeys : Rules → List Item → Type 0
Obeys rules items = (path : List ℕ) (item : Item) → item_at path items ≡ Some item → IsAllowed rules (ancestors_at path items) item

-- the item at a path breaks this rule, and each item that comes before it in document order is allowed
pub record IsFirstBreach (rules : Rules) (items : List Item) (rule : Rule) (path : List ℕ) : Type 0 where
  pub item : Item
  pub found : item_at path items ≡ Some item
  pub breaks : Breaks rules (ancestors_at path items) item rule
  pub first : (other : List ℕ) (earlier : Item) → item_at other items ≡ Some earlier → IsTrue (is_before other path)
      → IsAllowed rules (ancestors_at other items) earlier

-- an item of a document, with its path and the names of its ancestors
pub record IsPlaced (items : List Item) (placed : Placed) : Type 0 where
  pub found : item_at placed.path items ≡ Some placed.item
  pub under : placed.ancestors ≡ ancestors_at placed.path items

-- each item of the document that the spots don't list breaks no rule
abbrev pub OthersObey : Rules → List Item → List Spot → Type 0
OthersObey rules items spots = All (λ placed. is_listed spots placed ≡ false → IsAllowed rules placed.ancestors placed.item) (placed_items items)
