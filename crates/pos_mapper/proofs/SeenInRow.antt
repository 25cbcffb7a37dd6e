-- A position is seen among the nodes of a document's row where it is seen.
use Rattle.std.proofs.Common.{◌≡◌, ◌≢◌, ℕ, zero, suc, ◌+◌, ◌<◌, ◌≤◌, List, [], ◌∷◌, ◌++◌, length, Bool, true, false, Option, Some, None, option_map}
use Rattle.std.proofs.Common.{option_and_then, refl, sym, ap, ◌∙◌, subst, arith}
use Rattle.std.proofs.lemmas.Option.{slice_get_within}
use Rattle.std.specs.Prelude.{IsSomeAnd, slice_get, if◌then◌else◌, codes}
use Rattle.std.specs.Option.{option_map_or}
use Rattle.item_definitions.specs.Item.{Item, items_of, list_of, inner}
use Rattle.item_definitions.specs.Item as items
use Rattle.item_definitions.specs.Children.{parent_of, offset_of, children_at, child_count}
use Rattle.item_definitions.specs.Position.{IsIn}
use Rattle.document_definitions.specs.Document.{Document}
use Rattle.document_definitions.specs.Markers.{Markers}
use Rattle.view_definitions.specs.Node.{ViewNode, nodes_of}
use Rattle.view_definitions.specs.Row.{Entry, nest}
use Rattle.converter_definitions.specs.Shape.{slot_in, is_shape}
use Rattle.converter_definitions.specs.Gives.{Conversion, Converted}
use Rattle.downcast_definitions.specs.Scene.{unnumbered, Scene, Caret, has_caret, caret_of, scene_of}
use Rattle.downcast_definitions.specs.Rows.{elements_in, shape_at, element_node, inner_row, row_of}
use Rattle.downcast_definitions.specs.Seen.{elements_before, boundary_place, node_place, into_slot, in_slot, in_element, seen_in, seen, content_place}
use Rattle.downcast_definitions.specs.Shown.{HasShape, HaveShapes}
use Rattle.downcast_definitions.proofs.Items.{shape-at, shape-outermost, boundary-seen}
use Rattle.downcast_definitions.proofs.Numbering.{numbered, boundary-place-plain}
use Rattle.item_definitions.specs.Children.{parent_of, offset_of}
use Rattle.downcast_definitions.proofs.Inverse.{same-items}
use Rattle.pos_mapper.specs.Bindings.{CaretPlace, Mapper, numbers_of}
use Rattle.pos_mapper.specs.Mapped.{behind_slot, slot_of, IsBound, AreBound, IsMapped, Shows}
use Rattle.pos_mapper.specs.Reading.{Slots, slots_in}
use Rattle.pos_mapper.specs.Seeking as seeking
use Rattle.downcast_definitions.specs.Among.{seen_among, place_among}
use Rattle.pos_mapper.specs.Seeking.{below_index, is_here, caret_among, seen_at, inside, slot_at, in_content, in_item, shown_at}
use Rattle.pos_mapper.proofs.Documents.{bound-slot}
use Rattle.pos_mapper.proofs.Unique.{node-found}
use Rattle.pos_mapper.proofs.Shifted.{shift, NotEmpty, seen-shifted, place-shifted, shift-front, shift-none, boundary-some, node-some}
use Rattle.pos_mapper.proofs.PlainNodes.{row-seen, row-place, row-content, shown-uncounted}
use Rattle.pos_mapper.proofs.Inside.{inside-shape, children-are-inner, slot-of-node, way-there, way-into}
use Rattle.downcast_definitions.proofs.Found.{boundary-shown}
use Rattle.downcast_definitions.proofs.RowItems.{item-element}
use Rattle.pos_mapper.proofs.Carets.{CaretBelow, caret-inside, here-is, here-some, caret-fits}

front-some : (front back : List ℕ) → NotEmpty front → NotEmpty (front ++ back)
front-some [] back h = absurd h
front-some (index ∷ front) back h = tt

-- the element at an index is bound
bound-at : (mapper : Mapper) (scene : Scene) (parent : List ℕ) (list : List Item) (before index : ℕ) (of : Item)
    → AreBound mapper scene parent before (items_of list)
    → slice_get list index ≡ Some of → IsBound mapper scene parent (before + elements_before list index) of
bound-at mapper scene parent [] before index of h e = cc
bound-at mapper scene parent (first ∷ list) before zero of h e =
    let same : first ≡ of = cc in
    let n : before ≡ before + 0 = omega arith in
    subst (IsBound mapper scene parent (before + 0)) same (subst (λ m. IsBound mapper scene parent m first) n h.0)
bound-at mapper scene parent (first ∷ list) before (suc index) of h e =
    subst (λ n. IsBound mapper scene parent n of) (omega arith) (bound-at mapper scene parent list (before + elements_in first) index of h.1 e)

-- that what is found is the place from a base on, and the place isn't empty
abbrev IsSeen : List ℕ → ℕ → List ℕ → Type 0
IsSeen found base place = (found ≡ shift base place) × NotEmpty place

module _ (mapper : Mapper) (conversion : Conversion) (markers : Markers) (there : Option Caret) where
  abbrev scene : Scene
  scene = numbered conversion markers there unnumbered

  abbrev full : Scene
  full = numbered conversion markers there (numbers_of mapper)

  abbrev slots : Slots
  slots = slots_in mapper.bindings

  abbrev nodes_at : List ℕ → List ℕ → List Item → List ViewNode
  nodes_at parent path list = nest (row_of full parent path list)

  -- a boundary
  seen-here : (parent path : List ℕ) (list : List Item) (caret : Option (List ℕ)) (place : List ℕ) (base offset : ℕ)
      → HaveShapes conversion parent 0 (items_of list) → offset ≤ length list
      → CaretBelow scene parent path list caret place → seen_at caret place base (nodes_at parent path list) offset
      ≡ shift base (boundary_place scene parent path list offset)
  seen-here parent path list caret place base offset s h c = go (is_here (below_index offset caret)) refl
    where
      go : (b : Bool) → is_here (below_index offset caret) ≡ b
          → (if b then caret_among place (nodes_at parent path list) base else seen_among (nodes_of (nodes_at parent path list)) offset base)
          ≡ shift base (boundary_place scene parent path list offset)
      go true e =
          let plain = boundary-place-plain conversion markers there (numbers_of mapper) parent path list offset in
          ap (λ p. caret_among p (nodes_at parent path list) base) (c.at offset [] (here-some caret offset e) ∙ sym plain)
          ∙ caret-fits [] 0 (nodes_at parent path list) base (boundary_place full parent path list offset) (offset ∷ [])
          (boundary-seen full parent path list offset [] s h)
          ∙ ap (shift base) plain
      go false e =
          row-seen (nodes_at parent path list) (nest (row_of scene parent path list)) offset base
          (row-content scene (numbers_of mapper) parent path (items_of list))
          ∙ seen-shifted (nodes_of (nest (row_of scene parent path list))) offset base
          ∙ ap (shift base) (boundary-shown scene parent path list offset s h (c.is (offset ∷ []) ∙ sym (here-is caret offset) ∙ e))

  -- what is seen in an element, from the place of its node and what is seen in its content
  in-shape : (parent path : List ℕ) (list : List Item) (caret : Option (List ℕ)) (place : List ℕ) (base index id : ℕ) (made : Converted) (row : List Entry)
      → (further : ℕ → List ViewNode → List ℕ) (outside inner : List ℕ) → HaveShapes conversion parent 0 (items_of list) → is_shape made.form ≡ true
      → (found : List ℕ) → found ≡ shift base (node_place scene parent path list index)
      → outside ≡ shift base (boundary_place scene parent path list index)
      → ((first : ℕ) → IsSeen (further first (nest row)) first inner)
      → (slot : Option (List ℕ)) → slot_in made.form ≡ slot
      → IsSeen (in_item further outside found (seeking.children_at (Some (element_node (numbers_of mapper id) made row)))
      (option_map (λ place. record { place = place; behind = behind_slot made.form }) slot)) base
      (in_slot (boundary_place scene parent path list index) (node_place scene parent path list index) inner slot)
  in-shape parent path list caret place base index id made row further outside inner s shaped found n o ih None e =
      (o, boundary-some scene parent path list index)
  in-shape parent path list caret place base index id made row further outside inner s shaped found n o ih (Some way) e =
      let content = ih (offset_of way) in
      let some : NotEmpty (node_place scene parent path list index) = node-some scene parent path list index in (
        ap (in_content further outside found way)
            (ap (inside way (behind_slot made.form)) (children-are-inner (element_node (numbers_of mapper id) made row))
            ∙ inside-shape made (numbers_of mapper id) row way shaped e)
            ∙ (λ i. n i ++ (parent_of way ++ content.0 i))
            ∙ ap (λ p. shift base (node_place scene parent path list index) ++ p)
            (way-into way inner (way-there made.form way e (shape-outermost made.form shaped)) content.1)
            ∙ shift-front base (node_place scene parent path list index) (into_slot way inner) some,
        front-some (node_place scene parent path list index) (into_slot way inner) some,
      )

  -- that a position in whatever items is seen so
  abbrev Shown : List ℕ → Type 0
  Shown position =
      (parent path : List ℕ) (list : List Item) (caret : Option (List ℕ)) (place : List ℕ) (base : ℕ) → AreBound mapper scene parent 0 (items_of list)
      → HaveShapes conversion parent 0 (items_of list)
      → IsSomeAnd (child_count list (parent_of position)) (λ count. offset_of position ≤ count) → CaretBelow scene parent path list caret place
      → IsSeen (shown_at slots caret place base (nodes_at parent path list) position) base (seen_in scene parent path list position)

  inside-shown : (parent path : List ℕ) (list : List Item) (caret : Option (List ℕ)) (place : List ℕ) (base index next : ℕ) (rest : List ℕ)
      → AreBound mapper scene parent 0 (items_of list)
      → HaveShapes conversion parent 0 (items_of list) → CaretBelow scene parent path list caret place → Shown (next ∷ rest) → (of : Option Item)
      → slice_get list index ≡ of
      → IsSomeAnd (option_map length (option_and_then (λ of. option_and_then (children_at (parent_of (next ∷ rest))) (inner of)) of))
      (λ count. offset_of (next ∷ rest) ≤ count)
      → IsSeen (shown_at slots caret place base (nodes_at parent path list) (index ∷ next ∷ rest)) base
      (in_element scene parent path list index (λ name inner. seen_in scene name (path ++ index ∷ []) inner (next ∷ rest)) of)
  inside-shown parent path list caret place base index next rest bound s c ih None e h = absurd h
  inside-shown parent path list caret place base index next rest bound s c ih (Some (items.character scalar attributes)) e h = absurd h
  inside-shown parent path list caret place base index next rest bound s c ih (Some (items.element id name attributes children)) e h =
      let made = shape_at conversion parent (elements_before list index) name attributes in
      let row = inner_row full name (path ++ index ∷ []) 0 0 children in
      let node = element_node (numbers_of mapper id) made row in
      let further : ℕ → List ViewNode → List ℕ = λ first inner. shown_at slots (below_index index caret) place first inner (next ∷ rest) in
      let same = same-items children in
      let more : 0 + elements_before list index ≡ elements_before list index = omega arith in
      let within = slice_get_within list index (items.element id name attributes children) e in
      let shape = subst (λ n. HasShape conversion parent n (items.element id name attributes children)) more
      (shape-at conversion parent list 0 index (items.element id name attributes children) s e) in
      let binding = subst (λ n. IsBound mapper scene parent n (items.element id name attributes children)) more
      (bound-at mapper scene parent list 0 index (items.element id name attributes children) bound e) in
      let outside = seen_at caret place base (nodes_at parent path list) index in
      let inner = seen_in scene name (path ++ index ∷ []) (list_of children) (next ∷ rest) in
      let item = item-element full parent path list index id name attributes children s e in
      let seen_inside = in-shape parent path list caret place base index id made row further outside inner s shape.0
      (place_among 0 (nodes_of (nodes_at parent path list)) index base)
      (row-place 0 (nodes_at parent path list) (nest (row_of scene parent path list)) index base
      (row-content scene (numbers_of mapper) parent path (items_of list))
      ∙ place-shifted 0 (nodes_of (nest (row_of scene parent path list))) index base
      ∙ ap (shift base) (node-found scene parent path list index id name attributes children s e))
      (seen-here parent path list caret place base index s (omega (arith, within)) c)
      (λ first. subst (λ list. IsSeen (further first (nest (inner_row full name (path ++ index ∷ []) 0 0 list))) first inner) same
      (ih name (path ++ index ∷ []) (list_of children) (below_index index caret) place first
      (subst (AreBound mapper scene name 0) (sym same) binding.1) (subst (HaveShapes conversion name 0) (sym same) shape.1) h
      (caret-inside scene parent path list caret place index id name attributes children e c)))
      (slot_in made.form) refl in (
        ap (λ found. in_item further outside (place_among 0 (nodes_of (nodes_at parent path list)) index base) (seeking.children_at found)
            (slot_at slots found)) item
            ∙ ap (in_item further outside (place_among 0 (nodes_of (nodes_at parent path list)) index base) (seeking.children_at (Some node)))
            (slot-of-node slots made (numbers_of mapper id) row (shape-outermost made.form shape.0) ∙ bound-slot mapper id (slot_of made.form) binding.0)
            ∙ seen_inside.0,
        seen_inside.1,
      )

  -- where a position is seen among the nodes of a row
  pub shown : (position : List ℕ) → position ≢ [] → Shown position
  shown [] some = absurd (some refl)
  shown (offset ∷ []) some = λ parent path list caret place base bound s h c.
      (seen-here parent path list caret place base offset s h c, boundary-some scene parent path list offset)
  shown (index ∷ next ∷ rest) some = λ parent path list caret place base bound s h c.
      inside-shown parent path list caret place base index next rest bound s c (shown (next ∷ rest) (λ e. cc)) (slice_get list index) refl h

-- ---- documents

-- the caret that a mapper knows
abbrev pub caret_at : Mapper → Option (List ℕ)
caret_at mapper = option_map (λ caret. caret.at) mapper.caret

abbrev pub caret_place_of : Mapper → List ℕ
caret_place_of mapper = option_map_or (λ caret. caret.place) mapper.caret []

-- the caret as a mapper keeps it
abbrev known_of : Conversion → Document → Option Caret → Option CaretPlace
known_of conversion document here = option_map (λ caret. record { at = caret.at; place = content_place conversion document caret.at }) here

known-caret : (conversion : Conversion) (document : Document) (here : Option Caret) → here ≡ caret_of conversion document
    → CaretBelow (scene_of conversion document) (codes "$root") [] document.items (option_map (λ caret. caret.at) (known_of conversion document here))
    (option_map_or (λ caret. caret.place) (known_of conversion document here) [])
known-caret conversion document None e = record {
  is = λ position. λ i. has_caret (sym e i) position;
  at = λ first rest f. cc;
}
known-caret conversion document (Some here) e = record {
  is = λ position. λ i. has_caret (sym e i) position;
  at = λ first rest f.
      let same : here.at ≡ first ∷ rest = cc in
      ap (content_place conversion document) same;
}

root-caret : (conversion : Conversion) (document : Document) (known : Option CaretPlace) → known ≡ known_of conversion document (caret_of conversion document)
    → CaretBelow (scene_of conversion document) (codes "$root") [] document.items (option_map (λ caret. caret.at) known)
    (option_map_or (λ caret. caret.place) known [])
root-caret conversion document known k =
    subst (λ known. CaretBelow (scene_of conversion document) (codes "$root") [] document.items (option_map (λ caret. caret.at) known)
    (option_map_or (λ caret. caret.place) known [])) (sym k)
    (known-caret conversion document (caret_of conversion document) refl)

-- a position of a document is found where it is seen
found-seen : (conversion : Conversion) (document : Document) (mapper : Mapper) (nodes : List ViewNode) (position : List ℕ)
    → IsMapped conversion document mapper nodes → IsIn document.items position
    → (shown_at (slots_in mapper.bindings) (caret_at mapper) (caret_place_of mapper) 0 nodes position ≡ seen conversion document position)
    × NotEmpty (seen conversion document position)
found-seen conversion document mapper nodes position mapped within =
    let slots = slots_in mapper.bindings in
    let row = nest (row_of (numbered conversion document.markers (caret_of conversion document) (numbers_of mapper)) (codes "$root") [] document.items) in
    let made = shown mapper conversion document.markers (caret_of conversion document) position within.0 (codes "$root") [] document.items
    (caret_at mapper) (caret_place_of mapper) 0 mapped.bound mapped.shapes within.1
    (root-caret conversion document mapper.caret mapped.caret) in (
      sym (shown-uncounted slots (caret_at mapper) (caret_place_of mapper) 0 nodes position)
          ∙ ap (λ shown. shown_at slots (caret_at mapper) (caret_place_of mapper) 0 shown position) mapped.view
          ∙ shown-uncounted slots (caret_at mapper) (caret_place_of mapper) 0 row position
          ∙ made.0 ∙ shift-none (seen conversion document position),
      made.1,
    )

some-length : (place found : List ℕ) → NotEmpty place → found ≡ place → 0 < length found
some-length [] found h e = absurd h
some-length (index ∷ place) found h e = (let l : length found ≡ suc (length place) = ap length e in omega (arith, l))

-- what the code finds for a position, as a place of the view
pub all-shown : (mapper : Mapper) (nodes : List ViewNode) (position path : List ℕ) (offset : ℕ) (found : List ℕ)
    → (0 < length found → path ++ offset ∷ [] ≡ found)
    → found ≡ shown_at (slots_in mapper.bindings) (caret_at mapper) (caret_place_of mapper) 0 nodes position → Shows mapper nodes position (path ++ offset ∷ [])
all-shown mapper nodes position path offset found h e = λ conversion document mapped within.
    let made = found-seen conversion document mapper nodes position mapped within in
    sym (e ∙ made.0) ∙ sym (h (some-length (seen conversion document position) found made.1 (e ∙ made.0)))
