-- Which positions of a document the view shows, and documents whose elements stand as shapes.
use Rattle.std.specs.Prelude.{◌≡◌, ◌≢◌, ℕ, ◌+◌, List, [], ◌∷◌, true, Option, Some, None, slice_get, codes}
use Rattle.item_definitions.specs.Item.{Item, Items, items_of, list_of}
use Rattle.item_definitions.specs.Item as items
use Rattle.document_definitions.specs.Document.{Document}
use Rattle.converter_definitions.specs.Shape.{is_shape, slot_in}
use Rattle.converter_definitions.specs.Gives.{Conversion}
use Rattle.downcast_definitions.specs.Rows.{elements_in, shape_at}
use Rattle.downcast_definitions.specs.Seen.{elements_before}

abbrev mutual
  -- that an element with this parent, before which this many elements stand, becomes a shape, as all elements in it do
  pub HasShape : Conversion → List ℕ → ℕ → Item → Type 0
  HasShape conversion parent before (items.character scalar attributes) = Unit {0}
  HasShape conversion parent before (items.element id name attributes children) =
      (is_shape (shape_at conversion parent before name attributes).form ≡ true) × HaveShapes conversion name 0 children

  -- that each element in these items does, before the first of which this many elements stand
  pub HaveShapes : Conversion → List ℕ → ℕ → Items → Type 0
  HaveShapes conversion parent before items.none = Unit {0}
  HaveShapes conversion parent before (items.more item rest) =
      HasShape conversion parent before item × HaveShapes conversion parent (before + elements_in item) rest

-- that each element of a document becomes a shape
abbrev pub HasShapes : Conversion → Document → Type 0
HasShapes conversion document = HaveShapes conversion (codes "$root") 0 (items_of document.items)

-- an element on the way to a position has a slot, and so has each further one
abbrev pub IsShownInside : Conversion → List ℕ → ℕ → (List ℕ → List Item → Type 0) → Option Item → Type 0
IsShownInside conversion parent before inner None = Unit {0}
IsShownInside conversion parent before inner (Some (items.character scalar attributes)) = Unit {0}
IsShownInside conversion parent before inner (Some (items.element id name attributes children)) =
    (slot_in (shape_at conversion parent before name attributes).form ≢ None) × inner name (list_of children)

-- that a position in these items is in none without a slot
abbrev pub IsShownIn : Conversion → List ℕ → List Item → List ℕ → Type 0
IsShownIn conversion parent list [] = Unit {0}
IsShownIn conversion parent list (offset ∷ []) = Unit {0}
IsShownIn conversion parent list (index ∷ next ∷ rest) =
    IsShownInside conversion parent (elements_before list index) (λ name inner. IsShownIn conversion name inner (next ∷ rest)) (slice_get list index)

-- that a position of a document is in no element without a slot
abbrev pub IsShown : Conversion → Document → List ℕ → Type 0
IsShown conversion document position = IsShownIn conversion (codes "$root") document.items position
