-- Where a position of a document is seen in the content of its own parent.
use Rattle.std.proofs.Common.{◌≡◌, ℕ, List, [], ◌∷◌, ◌++◌, Option, Some, None, refl, sym, ap, ◌∙◌, subst, append_assoc, append-nil}
use Rattle.std.specs.Prelude.{slice_get, codes}
use Rattle.item_definitions.specs.Item.{Item, items_of, list_of}
use Rattle.item_definitions.specs.Item as items
use Rattle.item_definitions.specs.Children.{parent_of, offset_of}
use Rattle.document_definitions.specs.Document.{Document}
use Rattle.converter_definitions.specs.Gives.{Conversion}
use Rattle.downcast_definitions.specs.Scene.{Scene, scene_of}
use Rattle.downcast_definitions.specs.Seen.{boundary_place, in_children, place_in, content_place}
use Rattle.downcast_definitions.specs.Shown.{HaveShapes, HasShapes}
use Rattle.downcast_definitions.specs.Rule.{in_parent, parent_in, parent_at}
use Rattle.downcast_definitions.proofs.Inverse.{same-items}
use Rattle.downcast_definitions.proofs.Items.{shape-at}

-- that the elements of a parent have shapes, and a position in it is seen at its boundary's place
abbrev IsSeenIn : Scene → List ℕ → List ℕ → List ℕ → List ℕ → List Item → Type 0
IsSeenIn scene path position place name list =
    HaveShapes scene.conversion name 0 (items_of list) × (place ≡ boundary_place scene name (path ++ parent_of position) list (offset_of position))

in-item : (scene : Scene) (parent path : List ℕ) (list : List Item) (index next : ℕ) (rest name : List ℕ) (inner : List Item) (of : Option Item)
    → HaveShapes scene.conversion parent 0 (items_of list)
    → slice_get list index ≡ of → in_parent (λ own children. parent_in own children (next ∷ rest)) of ≡ Some (name, inner)
    → ((own : List ℕ) (children : List Item) → HaveShapes scene.conversion own 0 (items_of children) → parent_in own children (next ∷ rest) ≡ Some (name, inner)
    → IsSeenIn scene (path ++ index ∷ []) (next ∷ rest) (place_in scene own (path ++ index ∷ []) children (next ∷ rest)) name inner)
    → IsSeenIn scene path (index ∷ next ∷ rest) (in_children (λ own children. place_in scene own (path ++ index ∷ []) children (next ∷ rest)) of) name inner
in-item scene parent path list index next rest name inner None s f e ih = cc
in-item scene parent path list index next rest name inner (Some (items.character scalar attributes)) s f e ih = cc
in-item scene parent path list index next rest name inner (Some (items.element id own attributes children)) s f e ih =
    let shape = shape-at scene.conversion parent list 0 index (items.element id own attributes children) s f in
    let made = ih own (list_of children) (subst (HaveShapes scene.conversion own 0) (sym (same-items children)) shape.1) e in
    (made.0, made.1 ∙ ap (λ p. boundary_place scene name p inner (offset_of (next ∷ rest))) (append_assoc path (index ∷ []) (parent_of (next ∷ rest))))

in-parent : (scene : Scene) (parent path : List ℕ) (list : List Item) (position name : List ℕ) (inner : List Item)
    → HaveShapes scene.conversion parent 0 (items_of list)
    → parent_in parent list position ≡ Some (name, inner) → IsSeenIn scene path position (place_in scene parent path list position) name inner
in-parent scene parent path list [] name inner s e = cc
in-parent scene parent path list (offset ∷ []) name inner s e =
    let pair : (parent, list) ≡ (name, inner) = cc in
    let names : parent ≡ name = ap (λ (p : List ℕ × List Item). p.0) pair in
    let lists : list ≡ inner = ap (λ (p : List ℕ × List Item). p.1) pair in
    subst (λ n. IsSeenIn scene path (offset ∷ []) (boundary_place scene parent path list offset) n inner) names
    (subst (IsSeenIn scene path (offset ∷ []) (boundary_place scene parent path list offset) parent) lists
    (s, ap (λ p. boundary_place scene parent p list offset) (sym (append-nil path))))
in-parent scene parent path list (index ∷ next ∷ rest) name inner s e =
    in-item scene parent path list index next rest name inner (slice_get list index) s refl e
    (λ own children h k. in-parent scene own (path ++ index ∷ []) children (next ∷ rest) name inner h k)

pub in-document : (conversion : Conversion) (document : Document) (position name : List ℕ) (list : List Item) → HasShapes conversion document
    → parent_at document position ≡ Some (name, list)
    → HaveShapes conversion name 0 (items_of list)
    × (content_place conversion document position ≡ boundary_place (scene_of conversion document) name (parent_of position) list (offset_of position))
in-document conversion document position name list s e =
    let made = in-parent (scene_of conversion document) (codes "$root") [] document.items position name list s e in
    (made.0, made.1)
