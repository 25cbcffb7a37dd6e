-- Where the caret of a document is found.
use Rattle.std.proofs.Common.{◌≡◌, ◌≢◌, ℕ, ◌+◌, ◌≤◌, zero, suc, List, [], ◌∷◌, ◌++◌, length, Bool, true, false, not, ◌&&◌, if◌then◌else◌, Option, Some, None}
use Rattle.std.proofs.Common.{IfSome, refl, sym, ap, ◌∙◌, append_assoc, arith}
use Rattle.std.proofs.lemmas.List.{append_cancel_left}
use Rattle.std.specs.Prelude.{IsSomeAnd, slice_get, option_map, option_and_then, codes}
use Rattle.item_definitions.specs.Item.{Item, Items, items_of, list_of, inner}
use Rattle.item_definitions.specs.Item as items
use Rattle.item_definitions.specs.Children.{parent_of, offset_of, children_at}
use Rattle.item_definitions.specs.Position.{IsIn}
use Rattle.item_definitions.proofs.Paths.{offset_of-push}
use Rattle.document_definitions.specs.Document.{Document}
use Rattle.document_definitions.specs.Selection.{is_collapsed, attributes, natural}
use Rattle.view_definitions.specs.Layer.{Layer}
use Rattle.converter_definitions.specs.Gives.{Conversion}
use Rattle.downcast_definitions.specs.Scene.{Numbers, Scene, Caret, typed_layers, same_layers, caret_of, numbered_scene}
use Rattle.downcast_definitions.specs.Seen.{boundary_place, in_children, place_in}
use Rattle.downcast_definitions.proofs.Inverse.{same-items, IsWithin}
use Rattle.downcast_definitions.proofs.Numbering.{place-in-plain}
use Rattle.pos_mapper.specs.Bindings.{CaretPlace}
use Rattle.pos_mapper.specs.Mapped.{caret_place}
use Rattle.down_whole.specs.Found.{is_in_content, found_here, found_in_item, found_among}
use Rattle.down_whole.proofs.WholeRow.{has_in_content, offset-in, content-offset, found-out, found-in}

-- that a position is neither in the content of the element at a path nor in an element in it
abbrev Outside : List ℕ → List ℕ → Type 0
Outside path position = (rest : List ℕ) → position ≢ path ++ rest

abbrev first_of : List ℕ → ℕ
first_of [] = 0
first_of (index ∷ path) = index

-- a position in the item at an index is outside the one at another
other-item : (path : List ℕ) (number index : ℕ) (rest position : List ℕ) → position ≡ path ++ number ∷ rest → number ≢ index
    → Outside (path ++ index ∷ []) position
other-item path number index rest position e d others k =
    d (ap first_of (append_cancel_left path (number ∷ rest) (index ∷ others) (sym e ∙ k ∙ append_assoc path (index ∷ []) others)))

-- and not directly in the content
deeper : (path : List ℕ) (count index next : ℕ) (rest position : List ℕ) → position ≡ path ++ index ∷ next ∷ rest → position ≢ []
    → is_in_content path count position ≡ false
deeper path count index next rest position e d =
    elim (is_in_content path count position) as (λ b. is_in_content path count position ≡ b → b ≡ false) [
      | true ↦ λ t.
          let same : index ∷ next ∷ rest ≡ offset_of position ∷ [] =
          append_cancel_left path (index ∷ next ∷ rest) (offset_of position ∷ []) (sym e ∙ (content-offset path count position d t).0) in
          let long : length (index ∷ next ∷ rest) ≡ 1 = ap length same in
          absurd (omega (arith, long))
      | false ↦ λ t. refl
    ] refl

module _ (scene : Scene) (here : Caret) (is : scene.caret ≡ Some here) (some : here.at ≢ []) where
  out-of : (path : List ℕ) (count : ℕ) → Outside path here.at → has_in_content scene.caret path count ≡ false
  out-of path count o =
      ap (λ c. has_in_content c path count) is
      ∙ elim (is_in_content path count here.at) as (λ b. is_in_content path count here.at ≡ b → b ≡ false) [
        | true ↦ λ t. absurd (o (offset_of here.at ∷ []) (content-offset path count here.at some t).0)
        | false ↦ λ t. refl
      ] refl

  mutual
    item-outside : (path : List ℕ) (of : Item) (found : Option CaretPlace) → Outside path here.at → found_in_item scene path of found ≡ found
    item-outside path (items.character scalar attributes) found o = refl
    item-outside path (items.element id name attributes children) found o =
        found-out scene name path (list_of children) scene.caret (found_among scene path 0 children found) (out-of path (length (list_of children)) o)
        ∙ items-outside path 0 children found (λ index h rest k. o (index ∷ rest) (k ∙ append_assoc path (index ∷ []) rest))

    items-outside : (path : List ℕ) (offset : ℕ) (list : Items) (found : Option CaretPlace)
        → ((index : ℕ) → offset ≤ index → Outside (path ++ index ∷ []) here.at) → found_among scene path offset list found ≡ found
    items-outside path offset items.none found o = refl
    items-outside path offset (items.more of rest) found o =
        ap (found_among scene path (offset + 1) rest) (item-outside (path ++ offset ∷ []) of found (o offset (omega arith)))
        ∙ items-outside path (offset + 1) rest found (λ index h. o index (omega (arith, h)))

  -- what is found in the item that the position is in
  among-at : (path : List ℕ) (list : List Item) (offset index number : ℕ) (rest : List ℕ) (of : Item) (result : Option CaretPlace)
      → number ≡ offset + index → slice_get list index ≡ Some of
      → here.at ≡ path ++ number ∷ rest → ((found : Option CaretPlace) → found_in_item scene (path ++ number ∷ []) of found ≡ result)
      → (found : Option CaretPlace) → found_among scene path offset (items_of list) found ≡ result
  among-at path [] offset index number rest of result n e k h found = absurd cc
  among-at path (first ∷ list) offset zero number rest of result n e k h found =
      let same : first ≡ of = cc in
      let at : offset ≡ number = omega (arith, n) in
      items-outside path (offset + 1) (items_of list) (found_in_item scene (path ++ offset ∷ []) first found)
      (λ index b. other-item path number index rest here.at k (λ m. omega (arith, b, m, at)))
      ∙ (λ i. found_in_item scene (path ++ at i ∷ []) (same i) found) ∙ h found
  among-at path (first ∷ list) offset (suc index) number rest of result n e k h found =
      among-at path list (offset + 1) index number rest of result (omega (arith, n)) e k h (found_in_item scene (path ++ offset ∷ []) first found)

  -- that the caret is found in whatever content it is in, at this position there
  abbrev IsFound : List ℕ → Type 0
  IsFound position =
      (name path : List ℕ) (list : List Item) → IsWithin list position → here.at ≡ path ++ position → (found : Option CaretPlace)
      → found_here scene name path list scene.caret (found_among scene path 0 (items_of list) found)
      ≡ Some (record { at = here.at; place = place_in scene name path list position })

  inside : (path : List ℕ) (list : List Item) (index next : ℕ) (rest : List ℕ) (there : Option Item) (found : Option CaretPlace) → IsFound (next ∷ rest)
      → slice_get list index ≡ there
      → IsSomeAnd (option_map length (option_and_then (λ of. option_and_then (children_at (parent_of (next ∷ rest))) (inner of)) there))
      (λ count. offset_of (next ∷ rest) ≤ count)
      → here.at ≡ path ++ index ∷ next ∷ rest
      → found_among scene path 0 (items_of list) found
      ≡ Some (record { at = here.at; place = in_children (λ name inner. place_in scene name (path ++ index ∷ []) inner (next ∷ rest)) there })
  inside path list index next rest None found ih e h k = absurd h
  inside path list index next rest (Some (items.character scalar attributes)) found ih e h k = absurd h
  inside path list index next rest (Some (items.element id name attributes children)) found ih e h k =
      let result : Option CaretPlace = Some (record { at = here.at; place = place_in scene name (path ++ index ∷ []) (list_of children) (next ∷ rest) }) in
      among-at path list 0 index index (next ∷ rest) (items.element id name attributes children) result (omega arith) e k
      (λ found. ap (λ all. found_here scene name (path ++ index ∷ []) (list_of children) scene.caret
      (found_among scene (path ++ index ∷ []) 0 all found)) (sym (same-items children))
      ∙ ih name (path ++ index ∷ []) (list_of children) h (k ∙ sym (append_assoc path (index ∷ []) (next ∷ rest))) found)
      found

  found-inside : (position : List ℕ) → position ≢ [] → IsFound position
  found-inside [] d = absurd (d refl)
  found-inside (offset ∷ []) d = λ name path list h k found.
      found-in scene name path list scene.caret here (found_among scene path 0 (items_of list) found) is
      (ap (is_in_content path (length list)) k ∙ offset-in path (length list) offset h)
      ∙ ap (λ n. Some (record { at = here.at; place = boundary_place scene name path list n })) (ap offset_of k ∙ offset_of-push path offset)
  found-inside (index ∷ next ∷ rest) d = λ name path list h k found.
      found-out scene name path list scene.caret (found_among scene path 0 (items_of list) found)
      (ap (λ c. has_in_content c path (length list)) is ∙ deeper path (length list) index next rest here.at k some)
      ∙ inside path list index next rest (slice_get list index) found (found-inside (next ∷ rest) (λ e. cc)) refl h k

-- where no caret is, none is found
module _ (scene : Scene) (is : scene.caret ≡ None) where
  mutual
    none-in : (path : List ℕ) (of : Item) (found : Option CaretPlace) → found_in_item scene path of found ≡ found
    none-in path (items.character scalar attributes) found = refl
    none-in path (items.element id name attributes children) found =
        ap (λ c. found_here scene name path (list_of children) c (found_among scene path 0 children found)) is ∙ none-among path 0 children found

    none-among : (path : List ℕ) (offset : ℕ) (list : Items) (found : Option CaretPlace) → found_among scene path offset list found ≡ found
    none-among path offset items.none found = refl
    none-among path offset (items.more of rest) found =
        ap (found_among scene path (offset + 1) rest) (none-in (path ++ offset ∷ []) of found) ∙ none-among path (offset + 1) rest found

-- the caret is found in the items where it is seen
pub found-all : (scene : Scene) (name : List ℕ) (list : List Item) (there : Option Caret) → scene.caret ≡ there → IfSome there (λ here. IsIn list here.at)
    → found_here scene name [] list scene.caret (found_among scene [] 0 (items_of list) None)
    ≡ option_map (λ (here : Caret). record { at = here.at; place = place_in scene name [] list here.at }) there
found-all scene name list None e h =
    ap (λ c. found_here scene name [] list c (found_among scene [] 0 (items_of list) None)) e ∙ none-among scene e [] 0 (items_of list) None
found-all scene name list (Some here) e h = found-inside scene here e h.0 here.at h.0 name [] list h.1 refl None

-- the caret stands at the start of the selection
pub caret-in : (conversion : Conversion) (document : Document) → IsIn document.items document.selection.range.start
    → IfSome (caret_of conversion document) (λ here. IsIn document.items here.at)
caret-in conversion document h =
    let at = document.selection.range.start in
    let layers = typed_layers conversion document.markers at (attributes document.items document.selection) in
    let plain = typed_layers conversion document.markers at (natural document.items document.selection) in
    go (is_collapsed document.selection.range && not (same_layers layers plain)) layers
  where
    go : (t : Bool) (layers : List Layer) → IfSome (if t then Some (record { at = document.selection.range.start; layers = layers }) else None)
        (λ (here : Caret). IsIn document.items here.at)
    go true layers = h
    go false layers = tt

-- a position in items isn't the empty one
pub caret-some : (conversion : Conversion) (document : Document) → IsIn document.items document.selection.range.start
    → IfSome (caret_of conversion document) (λ here. here.at ≢ [])
caret-some conversion document h = go (caret_of conversion document) (caret-in conversion document h)
  where
    go : (there : Option Caret) → IfSome there (λ here. IsIn document.items here.at) → IfSome there (λ here. here.at ≢ [])
    go None k = k
    go (Some here) k = k.0

-- the caret that is found in a document is where it is seen, whatever the numbers of the view elements are
pub found-root : (scene : Scene) (numbers : Numbers) (conversion : Conversion) (document : Document) → scene ≡ numbered_scene numbers conversion document
    → IsIn document.items document.selection.range.start
    → found_here scene (codes "$root") [] document.items scene.caret (found_among scene [] 0 (items_of document.items) None) ≡ caret_place conversion document
found-root scene numbers conversion document e h =
    ap (λ s. found_here s (codes "$root") [] document.items s.caret (found_among s [] 0 (items_of document.items) None)) e
    ∙ found-all (numbered_scene numbers conversion document) (codes "$root") document.items (caret_of conversion document) refl (caret-in conversion document h)
    ∙ ap (λ (place : List ℕ → List ℕ). option_map (λ (here : Caret). record { at = here.at; place = place here.at }) (caret_of conversion document))
    (λ i at. place-in-plain conversion document.markers (caret_of conversion document) numbers (codes "$root") [] document.items at i)
