-- What a document is like of which a stock fixer wants nothing: in the words of its items at their paths, of its schema and of its selection.
use Rattle.std.specs.Prelude.{◌≡◌, ◌≢◌, ℕ, ◌+◌, List, [], ◌∷◌, ◌++◌, false, IsTrue, ◌⊎◌, Option, Some}
use Rattle.std.specs.List.{Any}
use Rattle.item_definitions.specs.Item.{Item, attributes_of}
use Rattle.item_definitions.specs.Children.{item_at}
use Rattle.item_definitions.specs.Position.{Range, IsIn, behind}
use Rattle.schema_definitions.specs.Allowed.{Rules}
use Rattle.breach_definitions.specs.Obeys.{ancestors_at, MayHaveAll}
use Rattle.fix_definitions.specs.Places.{Place, root_of, root_place, place_of, children_in}
use Rattle.fix_definitions.specs.Wanted.{is_named}
use Rattle.fix_definitions.specs.Selecting.{may_hold_text, is_selectable_item}

-- the item at a path, the root at the empty one
abbrev pub item_or_root : List ℕ → List Item → Option Item
item_or_root [] items = Some (root_of items)
item_or_root (index ∷ path) items = item_at (index ∷ path) items

-- the item that is found at a path, with what stands round it
abbrev pub place_at : List Item → List ℕ → Item → Place
place_at items path item = place_of items (record { ancestors = ancestors_at path items; path = path; item = item })

-- a place of a document: that of the root, or of an item that is found at a path
abbrev pub IsPlaceOf : List Item → Place → Type 0
IsPlaceOf items place =
    (place ≡ root_place items) ⊎ ((path : List ℕ) × (item : Item) × (item_at path items ≡ Some item) × (place ≡ place_at items path item))

-- the schema allows each item all of its attributes where it stands
abbrev pub MayHaveTheirs : Rules → List Item → Type 0
MayHaveTheirs rules items =
    (path : List ℕ) (item : Item) → item_at path items ≡ Some item → MayHaveAll rules (ancestors_at path items) item (attributes_of item)

-- each element of a name, the root among them, has children
abbrev pub AreFilled : List ℕ → List Item → Type 0
AreFilled parent items =
    (path : List ℕ) (item : Item) → item_or_root path items ≡ Some item → IsTrue (is_named parent item) → children_in item ≢ []

-- no two neighbours of a name have equal attributes
abbrev pub AreApart : List ℕ → List Item → Type 0
AreApart name items = (parent : List ℕ) (offset : ℕ) (left right : Item)
    → item_at (parent ++ offset ∷ []) items ≡ Some left → item_at (parent ++ (offset + 1) ∷ []) items ≡ Some right
    → IsTrue (is_named name left) → IsTrue (is_named name right) → attributes_of left ≢ attributes_of right

-- each element of a name, but for the root, has children
abbrev pub NoneIsEmpty : List ℕ → List Item → Type 0
NoneIsEmpty name items = (path : List ℕ) (item : Item) → item_at path items ≡ Some item → IsTrue (is_named name item) → children_in item ≢ []

-- some child of an element is an element of this name
abbrev pub HasChild : List ℕ → Item → Type 0
HasChild name item = Any (λ child. IsTrue (is_named name child)) (children_in item)

-- each element of a name, the root among them, has a child of another name
abbrev pub HaveChild : List ℕ → List ℕ → List Item → Type 0
HaveChild parent name items =
    (path : List ℕ) (item : Item) → item_or_root path items ≡ Some item → IsTrue (is_named parent item) → HasChild name item

-- text may stand at both ends of a range
abbrev pub AreInText : Rules → List Item → Range → Type 0
AreInText rules items range = IsTrue (may_hold_text rules items range.start) × IsTrue (may_hold_text rules items range.end)

-- a range is round one element that can be selected
abbrev pub IsRoundOne : Rules → List Item → Range → Type 0
IsRoundOne rules items range =
    (item : Item) × (item_at range.start items ≡ Some item) × IsTrue (is_selectable_item rules item) × (range.end ≡ behind range.start)

-- text may stand at no position of the document
abbrev pub HasNoText : Rules → List Item → Type 0
HasNoText rules items = (position : List ℕ) → IsIn items position → may_hold_text rules items position ≡ false

-- Both ends of the range that is selected stand where text may, or it is round one element that can be selected. In a document where text may
-- stand nowhere any range may be selected.
abbrev pub IsWellSelected : Rules → List Item → Range → Type 0
IsWellSelected rules items range = AreInText rules items range ⊎ IsRoundOne rules items range ⊎ HasNoText rules items
