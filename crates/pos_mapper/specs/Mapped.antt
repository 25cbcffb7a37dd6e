-- When a mapper is that of a view and a document.
use Rattle.std.specs.Prelude.{◌≡◌, ℕ, ◌+◌, List, [], ◌∷◌, length, IsSomeAnd, map, Option, Some, None, option_map, codes}
use Rattle.item_definitions.specs.Item.{Item, Items, items_of}
use Rattle.item_definitions.specs.Item as items
use Rattle.item_definitions.specs.Position.{IsIn}
use Rattle.document_definitions.specs.Document.{Document}
use Rattle.view_definitions.specs.Node.{ViewNode, uncounted}
use Rattle.converter_definitions.specs.Form.{Form, Forms, slot, text, element, none, more, list_of}
use Rattle.converter_definitions.specs.Shape.{slot_in}
use Rattle.converter_definitions.specs.Gives.{Conversion}
use Rattle.downcast_definitions.specs.Scene.{Scene, scene_of, caret_of}
use Rattle.downcast_definitions.specs.Rows.{elements_in, shape_at, numbered_downcast}
use Rattle.downcast_definitions.specs.Seen.{content_place, seen}
use Rattle.downcast_definitions.specs.Shown.{HasShapes}
use Rattle.downcast_definitions.specs.Meant.{meant}
use Rattle.model_tree.specs.Limits.{IsTree}
use Rattle.pos_mapper.specs.Bindings.{Slot, CaretPlace, Mapper, bound_id, bound_number, numbers_of}

-- one of three, by where the slot of a node is: nowhere in it, the node itself, or in it
abbrev pub by_slot : {A : Type 0} → Option (List ℕ) → A → A → A → A
by_slot None nowhere itself inside = nowhere
by_slot (Some []) nowhere itself inside = itself
by_slot (Some (index ∷ place)) nowhere itself inside = inside

abbrev mutual
  -- how many nodes stand behind the slot in its list, 0 where there is no slot
  pub behind_slot : {A : Type 0} → Form A → ℕ
  behind_slot slot = 0
  behind_slot (text scalars) = 0
  behind_slot (element kind name attributes children) = behind_among children

  -- how many nodes stand behind the slot among these nodes
  pub behind_among : {A : Type 0} → Forms A → ℕ
  behind_among none = 0
  behind_among (more form forms) = by_slot (slot_in form) (behind_among forms) (length (list_of forms)) (behind_slot form)

-- the slot of a shape
abbrev pub slot_of : {A : Type 0} → Form A → Option Slot
slot_of form = option_map (λ place. record { place = place; behind = behind_slot form }) (slot_in form)

abbrev mutual
  -- whether an item is bound, if it is an element, to a view element with the slot of its shape, and so is each element in it
  pub IsBound : Mapper → Scene → List ℕ → ℕ → Item → Type 0
  IsBound mapper scene parent before (items.character scalar attributes) = Unit {0}
  IsBound mapper scene parent before (items.element id name attributes children) =
      IsSomeAnd (bound_id id mapper) (λ binding. option_map (λ bound. bound.slot) (bound_number binding.number mapper)
      ≡ Some (slot_of (shape_at scene.conversion parent before name attributes).form))
      × AreBound mapper scene name 0 children

  -- each of these items is bound so
  pub AreBound : Mapper → Scene → List ℕ → ℕ → Items → Type 0
  AreBound mapper scene parent before items.none = Unit {0}
  AreBound mapper scene parent before (items.more item rest) =
      IsBound mapper scene parent before item × AreBound mapper scene parent (before + elements_in item) rest

-- where the caret of a document is seen
abbrev pub caret_place : Conversion → Document → Option CaretPlace
caret_place conversion document =
    option_map (λ here. record { at = here.at; place = content_place conversion document here.at }) (caret_of conversion document)

-- That these nodes are the view of a document, and that the mapper tells where things stand in them
pub record IsMapped (conversion : Conversion) (document : Document) (mapper : Mapper) (nodes : List ViewNode) : Type 0 where
  -- the nodes are the document's view, its elements with the numbers that the mapper has bound, whatever their counts of changes
  pub view : uncounted nodes ≡ uncounted (numbered_downcast (numbers_of mapper) conversion document)
  -- each element is bound, with the slot of the shape that it becomes
  pub bound : AreBound mapper (scene_of conversion document) (codes "$root") 0 (items_of document.items)
  -- what the elements become are shapes
  pub shapes : HasShapes conversion document
  -- the mapper knows where the caret is seen
  pub caret : mapper.caret ≡ caret_place conversion document

-- That a place of the view means this, in each document that a mapper and the view's nodes are of: None where it means no position
abbrev pub Means : Mapper → List ViewNode → List ℕ → Option (List ℕ) → Type 0
Means mapper nodes place position =
    (conversion : Conversion) (document : Document) → IsMapped conversion document mapper nodes → IsTree document.items
    → meant conversion document place ≡ position

-- That a position is seen at this place, in each document that a mapper and the view's nodes are of and that has the position
abbrev pub Shows : Mapper → List ViewNode → List ℕ → List ℕ → Type 0
Shows mapper nodes position place =
    (conversion : Conversion) (document : Document) → IsMapped conversion document mapper nodes → IsIn document.items position
    → seen conversion document position ≡ place
