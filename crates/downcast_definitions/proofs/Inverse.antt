-- The place where a position is seen means the position.
use Rattle.std.proofs.Common.{◌≡◌, ◌≢◌, ℕ, ◌+◌, ◌≤◌, List, [], ◌∷◌, ◌++◌, length, Option, Some, None, refl, sym, ap, ◌∙◌, subst, arith}
use Rattle.std.specs.Prelude.{IsSomeAnd, slice_get, option_map, option_and_then, codes}
use Rattle.item_definitions.specs.Item.{Item, Items, items_of, list_of, inner}
use Rattle.item_definitions.specs.Item as items
use Rattle.item_definitions.specs.Children.{parent_of, offset_of, children_at, child_count}
use Rattle.item_definitions.specs.Position.{IsPlace}
use Rattle.document_definitions.specs.Document.{Document}
use Rattle.view_definitions.specs.Node.{nodes_of}
use Rattle.view_definitions.specs.Row.{nest}
use Rattle.converter_definitions.specs.Shape.{slot_in}
use Rattle.converter_definitions.specs.Gives.{Conversion}
use Rattle.downcast_definitions.specs.Scene.{Scene, scene_of}
use Rattle.downcast_definitions.specs.Rows.{inner_row, shape_at}
use Rattle.downcast_definitions.specs.Seen.{elements_before, boundary_place, node_place, into_slot, in_slot, in_element, seen_in, seen}
use Rattle.downcast_definitions.specs.Meant.{in_item, out_of_slot, meant_in, meant_in_element, inners_of, meant}
use Rattle.downcast_definitions.specs.Shown.{HaveShapes, HasShapes, IsShownInside, IsShownIn, IsShown}
use Rattle.downcast_definitions.proofs.Slots.{out-of-into, into-some, slot-inside}
use Rattle.downcast_definitions.proofs.Items.{shape-outermost, shape-at, inners-at, boundary-seen, node-seen}

pub same-items : (children : Items) → items_of (list_of children) ≡ children
same-items items.none = refl
same-items (items.more of children) = ap (λ rest. items.more of rest) (same-items children)

-- what a place in the content of a parent means
abbrev pub meant_here : Scene → List ℕ → List ℕ → Items → List ℕ → Option (List ℕ)
meant_here scene parent path children place = meant_in (inners_of scene parent path 0 0 children) 0
    (nodes_of (nest (inner_row scene parent path 0 0 children))) place

-- that a position is a place in these items
abbrev pub IsWithin : List Item → List ℕ → Type 0
IsWithin list position = IsSomeAnd (child_count list (parent_of position)) (λ count. offset_of position ≤ count)

-- that the place of a position in whatever items means the position
abbrev Means : Scene → List ℕ → Type 0
Means scene position =
    (parent path : List ℕ) (list : List Item) → HaveShapes scene.conversion parent 0 (items_of list) → IsWithin list position
    → IsShownIn scene.conversion parent list position
    → meant_here scene parent path (items_of list) (seen_in scene parent path list position) ≡ Some position

-- a place in a slot of an element is taken out of the slot
slot-means : (scene : Scene) (parent path : List ℕ) (before id : ℕ) (name : List ℕ) (attributes : items.Attributes) (children : Items) (base : ℕ)
    (slot : List ℕ) (index : ℕ) (place position : List ℕ)
    → slot_in (shape_at scene.conversion parent before name attributes).form ≡ Some (base ∷ slot)
    → meant_here scene name path children (index ∷ place) ≡ Some position
    → meant_in_element scene parent path before (items.element id name attributes children) (into_slot (base ∷ slot) (index ∷ place)) ≡ Some position
slot-means scene parent path before id name attributes children base slot index place position e h =
    ap (λ there. option_and_then (meant_here scene name path children) (option_and_then (λ s. out_of_slot s (into_slot (base ∷ slot) (index ∷ place))) there)) e
    ∙ ap (option_and_then (meant_here scene name path children)) (out-of-into base slot index place)
    ∙ h

-- a place in the node of an element is one in the element
element-means : (scene : Scene) (parent path : List ℕ) (list : List Item) (index id : ℕ) (name : List ℕ) (attributes : items.Attributes)
    (children : Items) (position : List ℕ) (place : List ℕ)
    → HaveShapes scene.conversion parent 0 (items_of list) → slice_get list index ≡ Some (items.element id name attributes children)
    → ((P : List ℕ → Type 0) → ((first : ℕ) (others : List ℕ) → P (first ∷ others)) → P place)
    → meant_in_element scene parent (path ++ index ∷ []) (0 + elements_before list index) (items.element id name attributes children) place ≡ Some position
    → meant_here scene parent path (items_of list) (node_place scene parent path list index ++ place) ≡ Some (index ∷ position)
element-means scene parent path list index id name attributes children position place s e some h =
    some (λ p. meant_here scene parent path (items_of list) (node_place scene parent path list index ++ p)
    ≡ in_item (inners_of scene parent path 0 0 (items_of list)) index p)
    (λ first others. node-seen scene parent path list index id name attributes children (inners_of scene parent path 0 0 (items_of list)) first others s e)
    ∙ ap (λ inner. option_map (λ p. index ∷ p) (option_and_then (λ f. f place) inner))
    (inners-at scene parent path list 0 0 index index (items.element id name attributes children) (omega arith) e)
    ∙ ap (option_map (λ p. index ∷ p)) h

-- the place in an element with this slot
in-slot-means : (scene : Scene) (parent path : List ℕ) (list : List Item) (index id : ℕ) (name : List ℕ) (attributes : items.Attributes)
    (children : Items) (position : List ℕ) (inside : List ℕ) (slot : Option (List ℕ))
    → HaveShapes scene.conversion parent 0 (items_of list) → slice_get list index ≡ Some (items.element id name attributes children)
    → slot_in (shape_at scene.conversion parent (0 + elements_before list index) name attributes).form ≡ slot → slot ≢ None → slot ≢ Some []
    → meant_here scene name (path ++ index ∷ []) children inside ≡ Some position
    → meant_here scene parent path (items_of list) (in_slot (boundary_place scene parent path list index) (node_place scene parent path list index)
    inside slot) ≡ Some (index ∷ position)
in-slot-means scene parent path list index id name attributes children position inside None s e k n m h = absurd (n refl)
in-slot-means scene parent path list index id name attributes children position inside (Some []) s e k n m h = absurd (m refl)
in-slot-means scene parent path list index id name attributes children position [] (Some (base ∷ slot)) s e k n m h = cc
in-slot-means scene parent path list index id name attributes children position (first ∷ place) (Some (base ∷ slot)) s e k n m h =
    element-means scene parent path list index id name attributes children position (into_slot (base ∷ slot) (first ∷ place)) s e
    (into-some base slot first place)
    (slot-means scene parent (path ++ index ∷ []) (0 + elements_before list index) id name attributes children base slot first place position k h)

-- the place in the item at an index, if there is one
inside-means : (scene : Scene) (parent path : List ℕ) (list : List Item) (index next : ℕ) (rest : List ℕ) (there : Option Item) → Means scene (next ∷ rest)
    → HaveShapes scene.conversion parent 0 (items_of list) → slice_get list index ≡ there
    → IsSomeAnd (option_map length (option_and_then (λ of. option_and_then (children_at (parent_of (next ∷ rest))) (inner of)) there))
    (λ count. offset_of (next ∷ rest) ≤ count)
    → IsShownInside scene.conversion parent (elements_before list index) (λ name inner. IsShownIn scene.conversion name inner (next ∷ rest)) there
    → meant_here scene parent path (items_of list)
    (in_element scene parent path list index (λ name inner. seen_in scene name (path ++ index ∷ []) inner (next ∷ rest)) there) ≡ Some (index ∷ next ∷ rest)
inside-means scene parent path list index next rest None ih s e h k = absurd h
inside-means scene parent path list index next rest (Some (items.character scalar attributes)) ih s e h k = absurd h
inside-means scene parent path list index next rest (Some (items.element id name attributes children)) ih s e h k =
    let shape = shape-at scene.conversion parent list 0 index (items.element id name attributes children) s e in
    let same = same-items children in
    let zero_more : 0 + elements_before list index ≡ elements_before list index = omega arith in
    let slot = slot_in (shape_at scene.conversion parent (elements_before list index) name attributes).form in
    in-slot-means scene parent path list index id name attributes children (next ∷ rest)
    (seen_in scene name (path ++ index ∷ []) (list_of children) (next ∷ rest)) slot s e
    (ap (λ n. slot_in (shape_at scene.conversion parent n name attributes).form) zero_more) k.0
    (λ none. slot-inside (shape_at scene.conversion parent (0 + elements_before list index) name attributes).form (shape-outermost _ shape.0)
    (ap (λ n. slot_in (shape_at scene.conversion parent n name attributes).form) zero_more ∙ none))
    (subst (λ inside. meant_here scene name (path ++ index ∷ []) inside (seen_in scene name (path ++ index ∷ []) (list_of children) (next ∷ rest))
    ≡ Some (next ∷ rest)) same
    (ih name (path ++ index ∷ []) (list_of children) (subst (HaveShapes scene.conversion name 0) (sym same) shape.1) h k.1))

-- Where each element stands as a shape, the place where a position is seen that is in no element without a slot means the position
pub seen-in-means : (scene : Scene) (position : List ℕ) → position ≢ [] → Means scene position
seen-in-means scene [] some = absurd (some refl)
seen-in-means scene (offset ∷ []) some = λ parent path list s h k. boundary-seen scene parent path list offset
    (inners_of scene parent path 0 0 (items_of list)) s h
seen-in-means scene (index ∷ next ∷ rest) some = λ parent path list s h k.
    inside-means scene parent path list index next rest (slice_get list index) (seen-in-means scene (next ∷ rest) (λ e. cc)) s refl h k

pub seen-means : (conversion : Conversion) (document : Document) (position : List ℕ) → HasShapes conversion document
    → IsPlace (child_count document.items) position → IsShown conversion document position
    → meant conversion document (seen conversion document position) ≡ Some position
seen-means conversion document position s h k = seen-in-means (scene_of conversion document) position h.0 (codes "$root") [] document.items s h.1 k
