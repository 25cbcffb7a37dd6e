-- The position of the document that a place of the view means. (After `Mapper.toModelPosition` and `getModelLength` of CKEditor 5.)
use Rattle.std.specs.Prelude.{ℕ, ◌+◌, ◌-◌, ◌==◌, zero, suc, nat_le, List, [], ◌∷◌, ◌++◌, length, Option, Some, None, option_map, option_and_then, slice_get}
use Rattle.std.specs.Prelude.{if◌then◌else◌, codes}
use Rattle.item_definitions.specs.Item.{Item, Items, items_of}
use Rattle.item_definitions.specs.Item as items
use Rattle.document_definitions.specs.Document.{Document}
use Rattle.view_definitions.specs.Node.{Kind, container, attribute, empty, ui, ViewNode, ViewNodes, text, element, none, more, nodes_of}
use Rattle.view_definitions.specs.Row.{nest}
use Rattle.converter_definitions.specs.Shape.{slot_in}
use Rattle.converter_definitions.specs.Gives.{Conversion}
use Rattle.downcast_definitions.specs.Scene.{Scene, scene_of}
use Rattle.downcast_definitions.specs.Rows.{elements_in, row_of, inner_row, shape_at}

-- how many items an element of this kind shows, in which so many are shown. (After `getModelLength` of CKEditor 5's `Mapper`.)
abbrev pub length_by_kind : Kind → ℕ → ℕ
length_by_kind container inner = 1
length_by_kind (attribute priority id) inner = inner
length_by_kind empty inner = 1
length_by_kind ui inner = 0

abbrev mutual
  -- how many items of the model a node of a content shows: a text its characters, a UI element none, an attribute element what is in it, and
  -- any other element one
  pub model_length : ViewNode → ℕ
  model_length (text scalars) = length scalars
  model_length (element head children) = length_by_kind head.kind (inner_length children)

  -- how many items the nodes of a list show
  pub inner_length : ViewNodes → ℕ
  inner_length none = 0
  inner_length (more node nodes) = model_length node + inner_length nodes

-- for each item, what a place in its node means in it
abbrev pub Inners : Type 0
Inners = List (List ℕ → Option (List ℕ))

-- what a place in an element means: in an attribute element it goes on in the same content; in a UI element it means nothing
abbrev pub by_kind : Kind → Option (List ℕ) → Option (List ℕ) → Option (List ℕ)
by_kind container around inside = inside
by_kind (attribute priority id) around inside = around
by_kind empty around inside = inside
by_kind ui around inside = None

-- what a place in a text of this length means, before which so many items are shown: None where the place is in no text, or behind its end
abbrev pub in_text : ℕ → ℕ → List ℕ → Option (List ℕ)
in_text offset scalars [] = None
in_text offset scalars (index ∷ []) = if nat_le index scalars then Some ((offset + index) ∷ []) else None
in_text offset scalars (index ∷ next ∷ rest) = None

-- what a place in the node of the item at an offset means
abbrev pub in_item : Inners → ℕ → List ℕ → Option (List ℕ)
in_item inners offset place = option_map (λ position. offset ∷ position) (option_and_then (λ inner. inner place) (slice_get inners offset))

abbrev mutual
  -- the position that a place in a node means, before which this many items are shown
  pub meant_in_node : Inners → ℕ → ViewNode → List ℕ → Option (List ℕ)
  meant_in_node inners offset (text scalars) place = in_text offset (length scalars) place
  meant_in_node inners offset (element head children) place =
      by_kind head.kind (meant_in inners offset children place) (in_item inners offset place)

  -- the position that a place in a list of nodes means
  pub meant_in : Inners → ℕ → ViewNodes → List ℕ → Option (List ℕ)
  meant_in inners offset nodes [] = None
  meant_in inners offset none (zero ∷ []) = Some (offset ∷ [])
  meant_in inners offset none (zero ∷ next ∷ rest) = None
  meant_in inners offset none (suc index ∷ rest) = None
  meant_in inners offset (more node nodes) (zero ∷ []) = Some (offset ∷ [])
  meant_in inners offset (more node nodes) (zero ∷ next ∷ rest) = meant_in_node inners offset node (next ∷ rest)
  meant_in inners offset (more node nodes) (suc index ∷ rest) = meant_in inners (offset + model_length node) nodes (index ∷ rest)

-- a place in an element as one in the content of its slot
abbrev pub out_of_slot : List ℕ → List ℕ → Option (List ℕ)
out_of_slot [] place = None
out_of_slot (index ∷ slot) [] = None
out_of_slot (base ∷ []) (index ∷ place) = if nat_le base index then Some ((index - base) ∷ place) else None
out_of_slot (index ∷ next ∷ slot) (other ∷ place) = if index == other then out_of_slot (next ∷ slot) place else None

abbrev mutual
  -- the position in an element that a place in its node means
  pub meant_in_element : Scene → List ℕ → List ℕ → ℕ → Item → List ℕ → Option (List ℕ)
  meant_in_element scene parent path before (items.character scalar attributes) place = None
  meant_in_element scene parent path before (items.element id name attributes children) place =
      option_and_then (meant_in (inners_of scene name path 0 0 children) 0 (nodes_of (nest (inner_row scene name path 0 0 children))))
      (option_and_then (λ slot. out_of_slot slot place) (slot_in (shape_at scene.conversion parent before name attributes).form))

  -- the same for each of these items, the first of which has this offset
  pub inners_of : Scene → List ℕ → List ℕ → ℕ → ℕ → Items → Inners
  inners_of scene parent path offset before items.none = []
  inners_of scene parent path offset before (items.more item rest) =
      meant_in_element scene parent (path ++ offset ∷ []) before item ∷ inners_of scene parent path (offset + 1) (before + elements_in item) rest

-- the position that a place of the view means: None where the place isn't there, or is not in the content of the root or of a slot
abbrev pub meant : Conversion → Document → List ℕ → Option (List ℕ)
meant conversion document place =
    let scene = scene_of conversion document in
    meant_in (inners_of scene (codes "$root") [] 0 0 (items_of document.items)) 0 (nodes_of (nest (row_of scene (codes "$root") [] document.items))) place
