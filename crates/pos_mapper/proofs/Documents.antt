-- The view of a document with numbers, and the same without them.
use Rattle.std.proofs.Common.{◌≡◌, ℕ, suc, ◌+◌, ◌^◌, ◌<◌, ◌≤◌, max, List, [], ◌∷◌, ◌++◌, length, Bool, true, false, ◌&&◌, Option, Some, None, option_map}
use Rattle.std.proofs.Common.{option_and_then, refl, sym, ap, ◌∙◌, subst, arith}
use Rattle.std.proofs.lemmas.Bool.Decides.{nat_tests}
use Rattle.std.specs.Prelude.{IsSomeAnd, slice_get, if◌then◌else◌, nat_le, codes}
use Rattle.std.specs.List.{filter_map, cons_option}
use Rattle.item_definitions.specs.Item.{Item, Items, items_of, inner_count, inner_depth, item_count, item_depth, count_of, depth_of}
use Rattle.item_definitions.specs.Item as items
use Rattle.item_definitions.specs.Position.{Range}
use Rattle.document_definitions.specs.Document.{Document}
use Rattle.document_definitions.specs.Markers.{Markers}
use Rattle.document_definitions.specs.Selection.{same_position}
use Rattle.model_tree.specs.Limits.{IsTree}
use Rattle.view_definitions.specs.Node.{ViewAttributes, ui, ViewNode, nodes_of, list_of}
use Rattle.view_definitions.specs.Node as nodes
use Rattle.view_definitions.specs.NodeCode.{list_of-nodes_of}
use Rattle.view_definitions.specs.Row.{Content, leaf, item, character, caret, Entry, nest}
use Rattle.view_tree.specs.Changes.{inner_of}
use Rattle.converter_definitions.specs.declared.kind.ShapeKind.TheVariants.{Container, Empty, Ui}
use Rattle.converter_definitions.specs.declared.stock.Leaf.{Leaf}
use Rattle.converter_definitions.specs.Form.{Form, slot, text, element, form_depth}
use Rattle.converter_definitions.specs.Shape.{slot_in, slot_count, is_shape, is_outermost, fits, form_count}
use Rattle.converter_definitions.specs.Views.{filled_inner}
use Rattle.converter_definitions.specs.Gives.{Conversion, Converted}
use Rattle.converter_definitions.specs.Layers.{leaf_of}
use Rattle.downcast_definitions.specs.Scene.{Scene, Caret, leaf_entry, leaves, carets, boundary, caret_entry, scene_of, ends_at, starts_at}
use Rattle.downcast_definitions.specs.Rows.{elements_in, entry_of, inner_row, shape_at, element_node}
use Rattle.downcast_definitions.specs.Meant.{Inners, out_of_slot, meant_in, meant_in_element, inners_of, meant}
use Rattle.pos_mapper.specs.Bindings.{Slot, Binding, Mapper, bound_id, bound_number, numbers_of}
use Rattle.downcast_definitions.specs.Shown.{HasShape, HaveShapes}
use Rattle.ck_base.proofs.Common.{first as first_true, second as second_true, below}
use Rattle.pos_mapper.specs.Mapped.{slot_of, behind_slot, IsBound, AreBound, IsMapped, Means}
use Rattle.pos_mapper.specs.Reading.{Slots, slots_in, in_slot, read, reads}
use Rattle.pos_mapper.proofs.Uncounted.{read-uncounted}
use Rattle.pos_mapper.proofs.Filled as filled
use Rattle.pos_mapper.proofs.Walk.{IsRead, walk}
use Rattle.pos_mapper.proofs.Rows.{counted, row_items, MatchItem, MatchContent, MatchRow, match-nest, nest-counts}
use Rattle.downcast_definitions.proofs.Items.{shape-outermost}

-- ---- boundaries

-- leaves and carets
abbrev IsBare : Content → Type 0
IsBare (leaf (nodes.text scalars)) = ⊥
IsBare (leaf (nodes.element head children)) = head.kind ≡ ui
IsBare (item node) = ⊥
IsBare (character scalar) = ⊥
IsBare caret = Unit {0}

abbrev AreBare : List Entry → Type 0
AreBare [] = Unit {0}
AreBare (entry ∷ row) = IsBare entry.content × AreBare row

bare-append : (row others : List Entry) → AreBare row → AreBare others → AreBare (row ++ others)
bare-append [] others h k = k
bare-append (entry ∷ row) others h k = (h.0, bare-append row others h.1 k)

bare-leaf : (test : Bool) (view : Option Leaf) (row : List Entry) → AreBare row → AreBare (cons_option (if test then option_map leaf_entry view else None) row)
bare-leaf true None row h = h
bare-leaf true (Some view) row h = (refl, h)
bare-leaf false view row h = h

bare-leaves : (scene : Scene) (test : Range → Bool) (markers : Markers)
    → AreBare (filter_map (λ marker. if test marker.1 then option_map leaf_entry (leaf_of scene.conversion.converters marker.0) else None) markers)
bare-leaves scene test [] = tt
bare-leaves scene test (marker ∷ markers) = bare-leaf (test marker.1) (leaf_of scene.conversion.converters marker.0) _ (bare-leaves scene test markers)

bare-caret : (here : Option Caret) (position : List ℕ) → AreBare (carets here position)
bare-caret None position = tt
bare-caret (Some here) position =
    elim (same_position here.at position) as (λ b. AreBare (if b then caret_entry here ∷ [] else [])) [
      | true ↦ (tt, tt)
      | false ↦ tt
    ]

bare-boundary : (scene : Scene) (position : List ℕ) → AreBare (boundary scene position)
bare-boundary scene position =
    bare-append (leaves scene (ends_at position)) _ (bare-leaves scene (ends_at position) scene.markers)
    (bare-append (leaves scene (starts_at position)) _ (bare-leaves scene (starts_at position) scene.markers) (bare-caret scene.caret position))

bare-items : (row others : List Entry) → AreBare row → row_items (row ++ others) ≡ row_items others
bare-items [] others h = refl
bare-items (entry ∷ row) others h = one entry.content h.0 (bare-items row others h.1)
  where
    one : (content : Content) → IsBare content → row_items (row ++ others) ≡ row_items others → counted content + row_items (row ++ others) ≡ row_items others
    one (leaf node) b ih = omega (arith, ih)
    one (item node) b ih = absurd b
    one (character scalar) b ih = absurd b
    one caret b ih = omega (arith, ih)

module _ (slots : Slots) (inners : Inners) (depth : ℕ) where
  bare-front : (offset : ℕ) (front row others : List Entry) → AreBare front → MatchRow slots inners depth offset row others
      → MatchRow slots inners depth offset (front ++ row) (front ++ others)
  bare-front offset [] row others h m = m
  bare-front offset (entry ∷ front) row others h m = (refl, content entry.content h.0, rest entry.content h.0 (bare-front offset front row others h.1 m))
    where
      content : (own : Content) → IsBare own → MatchContent slots inners depth offset own own
      content (leaf (nodes.text scalars)) b = absurd b
      content (leaf (nodes.element head children)) b = (refl, b)
      content (item node) b = absurd b
      content (character scalar) b = absurd b
      content caret b = tt

      rest : (own : Content) → IsBare own → MatchRow slots inners depth offset (front ++ row) (front ++ others)
          → MatchRow slots inners depth (offset + counted own) (front ++ row) (front ++ others)
      rest (leaf node) b ih = subst (λ n. MatchRow slots inners depth n (front ++ row) (front ++ others)) (omega arith) ih
      rest (item node) b ih = absurd b
      rest (character scalar) b ih = absurd b
      rest caret b ih = subst (λ n. MatchRow slots inners depth n (front ++ row) (front ++ others)) (omega arith) ih

  bare-self : (offset : ℕ) (row : List Entry) → AreBare row → MatchRow slots inners depth offset row row
  bare-self offset [] h = tt
  bare-self offset (entry ∷ row) h = one entry.content h.0 (bare-self offset row h.1)
    where
      one : (own : Content) → IsBare own → MatchRow slots inners depth offset row row
          → MatchRow slots inners depth offset (record entry { content = own } ∷ row) (record entry { content = own } ∷ row)
      one (leaf (nodes.text scalars)) b ih = absurd b
      one (leaf (nodes.element head children)) b ih = (refl, (refl, b), subst (λ n. MatchRow slots inners depth n row row) (omega arith) ih)
      one (item node) b ih = absurd b
      one (character scalar) b ih = absurd b
      one caret b ih = (refl, tt, subst (λ n. MatchRow slots inners depth n row row) (omega arith) ih)

-- ---- shapes

is_within : (x y : ℕ) → nat_le x y ≡ true → x ≤ y
is_within x y t = grind (arith, nat_tests)

pub one_slot : (form : Form ViewAttributes) → is_shape form ≡ true → slot_count form ≤ 1
one_slot form e =
    let a = first_true (is_outermost form && fits form && nat_le (slot_count form) 1 && nat_le (form_count form) 32) (nat_le (form_depth form) 8) e in
    let b = first_true (is_outermost form && fits form && nat_le (slot_count form) 1) (nat_le (form_count form) 32) a in
    is_within (slot_count form) 1 (second_true (is_outermost form && fits form) (nat_le (slot_count form) 1) b)

-- an element of a shape, with a number and without
match-shape : (slots : Slots) (inners : Inners) (depth offset : ℕ) (made : Converted) (number other : Option ℕ) (row others : List Entry)
    → is_outermost made.form ≡ true
    → IsRead slots inners depth offset (inner_of (element_node number made row)) number
    → MatchItem slots inners depth offset (element_node number made row) (element_node other made others)
match-shape slots inners depth offset made number other row others e r = go made.form e r
  where
    go : (form : Form ViewAttributes) → is_outermost form ≡ true
        → IsRead slots inners depth offset (inner_of (element_node number (record made { form = form }) row)) number
        → MatchItem slots inners depth offset (element_node number (record made { form = form }) row) (element_node other (record made { form = form }) others)
    go slot e r = cc
    go (text scalars) e r = cc
    go (element Container name attributes children) e r = (refl, refl, r)
    go (element Empty name attributes children) e r = (refl, refl, r)
    go (element Ui name attributes children) e r = cc

-- a place in the node of an element
read-shape : (slots : Slots) (depth offset : ℕ) (made : Converted) (number : Option ℕ) (row : List Entry) (means : List ℕ → Option (List ℕ))
    → depth < 64 → is_shape made.form ≡ true
    → ((path : List ℕ) (last : ℕ) → read slots (depth + 1) [] 0 0 (nest row) path last ≡ means (path ++ last ∷ [])) → (path : List ℕ) (last : ℕ)
    → in_slot (reads slots path last) depth offset (inner_of (element_node number made row)) (slot_of made.form)
    ≡ option_map (λ position. offset ∷ position) (option_and_then means (option_and_then (λ way. out_of_slot way (path ++ last ∷ [])) (slot_in made.form)))
read-shape slots depth offset made number row means d e h path last = go made.form e (slot_in made.form) refl
  where
    go : (form : Form ViewAttributes) → is_shape form ≡ true → (o : Option (List ℕ)) → slot_in form ≡ o
        → in_slot (reads slots path last) depth offset (inner_of (element_node number (record made { form = form }) row))
        (option_map (λ place. record { place = place; behind = behind_slot form }) o)
        ≡ option_map (λ position. offset ∷ position) (option_and_then means (option_and_then (λ way. out_of_slot way (path ++ last ∷ [])) o))
    go form e None f = refl
    go slot e (Some way) f = cc
    go (text scalars) e (Some way) f = cc
    go (element kind name attributes children) e (Some way) f =
        ap (λ t. if t then option_map (λ position. offset ∷ position) (read slots (depth + 1) way (behind_slot (element kind name attributes children))
        0 (list_of (nodes_of (filled_inner (nest row) children))) path last) else None)
        (below depth 64 d)
        ∙ ap (option_map (λ position. offset ∷ position))
        (ap (λ list. read slots (depth + 1) way (behind_slot (element kind name attributes children)) 0 list path last)
        (list_of-nodes_of (filled_inner (nest row) children))
        ∙ filled.among slots (depth + 1) (nest row) means h children [] 0 way refl f (one_slot (element kind name attributes children) e) path last)

-- the slot of an element is found by the number of its view element
pub bound-slot : (mapper : Mapper) (id : ℕ) (wanted : Option Slot)
    → IsSomeAnd (bound_id id mapper) (λ binding. option_map (λ bound. bound.slot) (bound_number binding.number mapper) ≡ Some wanted)
    → option_and_then (slots_in mapper.bindings) (numbers_of mapper id) ≡ wanted
bound-slot mapper id wanted h = go (bound_id id mapper) h
  where
    inside : (o : Option Binding) → option_map (λ bound. bound.slot) o ≡ Some wanted → option_and_then (λ bound. bound.slot) o ≡ wanted
    inside None e = cc
    inside (Some bound) e = cc

    go : (o : Option Binding) → IsSomeAnd o (λ binding. option_map (λ bound. bound.slot) (bound_number binding.number mapper) ≡ Some wanted)
        → option_and_then (slots_in mapper.bindings) (option_map (λ binding. binding.number) o) ≡ wanted
    go None k = absurd k
    go (Some binding) k = inside (bound_number binding.number mapper) k

-- ---- rows

bare-none : (row : List Entry) → AreBare row → row_items row ≡ 0
bare-none [] h = refl
bare-none (entry ∷ row) h = one entry.content h.0 (bare-none row h.1)
  where
    one : (content : Content) → IsBare content → row_items row ≡ 0 → counted content + row_items row ≡ 0
    one (leaf node) b ih = omega (arith, ih)
    one (item node) b ih = absurd b
    one (character scalar) b ih = absurd b
    one caret b ih = omega (arith, ih)

counted-entry : (scene : Scene) (parent path : List ℕ) (before : ℕ) (item : Item) → counted (entry_of scene parent path before item).content ≡ 1
counted-entry scene parent path before (items.character scalar attributes) = refl
counted-entry scene parent path before (items.element id name attributes children) = refl

counted-item : (item : Item) → 1 ≤ item_count item
counted-item (items.character scalar attributes) = omega arith
counted-item (items.element id name attributes children) = omega arith

rows-small : (scene : Scene) (items : Items) (parent path : List ℕ) (offset before : ℕ) → row_items (inner_row scene parent path offset before items)
    ≤ inner_count items
rows-small scene items.none parent path offset before =
    (let e : row_items (boundary scene (path ++ offset ∷ []))
    ≡ 0 = bare-none (boundary scene (path ++ offset ∷ [])) (bare-boundary scene (path ++ offset ∷ [])) in omega (arith, e))
rows-small scene (items.more first rest) parent path offset before =
    let later = inner_row scene parent path (offset + 1) (before + elements_in first) rest in
    let all = bare-items (boundary scene (path ++ offset ∷ [])) (entry_of scene parent (path ++ offset ∷ []) before first ∷ later)
    (bare-boundary scene (path ++ offset ∷ [])) in
    let one = counted-entry scene parent (path ++ offset ∷ []) before first in
    let few = rows-small scene rest parent path (offset + 1) (before + elements_in first) in
    omega (arith, all, one, few, counted-item first)

-- the same scene with the numbers of a mapper
abbrev numbered : Mapper → Scene → Scene
numbered mapper scene = record scene { numbers = numbers_of mapper }

same-layers : (mapper : Mapper) (scene : Scene) (parent path : List ℕ) (before : ℕ) (item : Item)
    → (entry_of (numbered mapper scene) parent path before item).layers ≡ (entry_of scene parent path before item).layers
same-layers mapper scene parent path before (items.character scalar attributes) = refl
same-layers mapper scene parent path before (items.element id name attributes children) = refl

mutual
  match-item : (mapper : Mapper) (scene : Scene) (item : Item) (parent path : List ℕ) (offset before depth : ℕ) (inners : Inners)
      → IsBound mapper scene parent before item
      → HasShape scene.conversion parent before item → depth + item_depth item ≤ 64 → item_count item < 2 ^ 32 → slice_get inners offset
      ≡ Some (meant_in_element scene parent path before item)
      → MatchContent (slots_in mapper.bindings) inners depth offset (entry_of (numbered mapper scene) parent path before item).content
      (entry_of scene parent path before item).content
  match-item mapper scene (items.character scalar attributes) parent path offset before depth inners bound shaped deep few got = refl
  match-item mapper scene (items.element id name attributes children) parent path offset before depth inners bound shaped deep few got =
      let slots = slots_in mapper.bindings in
      let made = shape_at scene.conversion parent before name attributes in
      let row = inner_row (numbered mapper scene) name path 0 0 children in
      let plain = inner_row scene name path 0 0 children in
      let inside = inners_of scene name path 0 0 children in
      let means = meant_in inside 0 (nodes_of (nest plain)) in
      let m = match-items mapper scene children name path 0 0 (depth + 1) inside bound.1 shaped.1 (omega (arith, deep)) (omega (arith, few))
      (λ k. ap (slice_get inside) (omega arith)) in
      let counts = nest-counts slots inside (depth + 1) 0 row plain m in
      let small = rows-small scene children name path 0 0 in
      match-shape slots inners depth offset made (numbers_of mapper id) (scene.numbers id) row plain (shape-outermost made.form shaped.0)
      (λ rest last.
      ap (in_slot (reads slots rest last) depth offset (inner_of (element_node (numbers_of mapper id) made row)))
      (bound-slot mapper id (slot_of made.form) bound.0)
      ∙ read-shape slots depth offset made (numbers_of mapper id) row means (omega (arith, deep)) shaped.0
      (λ rest last.
      ap (λ list. read slots (depth + 1) [] 0 0 list rest last) (sym (list_of-nodes_of (nest row)))
      ∙ walk slots inside (depth + 1) rest last 0 (nodes_of (nest row)) (nodes_of (nest plain)) (match-nest slots inside (depth + 1) 0 row plain m)
      (omega (arith, counts, small, few)))
      rest last
      ∙ sym (ap (λ found. option_map (λ position. offset ∷ position) (option_and_then (λ inner. inner (rest ++ last ∷ [])) found)) got))

  match-items : (mapper : Mapper) (scene : Scene) (items : Items) (parent path : List ℕ) (offset before depth : ℕ) (inners : Inners)
      → AreBound mapper scene parent before items
      → HaveShapes scene.conversion parent before items → depth + inner_depth items ≤ 64 → inner_count items < 2 ^ 32
      → ((k : ℕ) → slice_get inners (offset + k) ≡ slice_get (inners_of scene parent path offset before items) k)
      → MatchRow (slots_in mapper.bindings) inners depth offset (inner_row (numbered mapper scene) parent path offset before items)
      (inner_row scene parent path offset before items)
  match-items mapper scene items.none parent path offset before depth inners bound shaped deep few got =
      bare-self (slots_in mapper.bindings) inners depth offset (boundary scene (path ++ offset ∷ [])) (bare-boundary scene (path ++ offset ∷ []))
  match-items mapper scene (items.more first rest) parent path offset before depth inners bound shaped deep few got =
      let slots = slots_in mapper.bindings in
      let here = path ++ offset ∷ [] in
      let later = inner_row scene parent path (offset + 1) (before + elements_in first) rest in
      let numbered_later = inner_row (numbered mapper scene) parent path (offset + 1) (before + elements_in first) rest in
      bare-front slots inners depth offset (boundary scene here) (entry_of (numbered mapper scene) parent here before first ∷ numbered_later)
      (entry_of scene parent here before first ∷ later)
      (bare-boundary scene here) (
        same-layers mapper scene parent here before first,
        match-item mapper scene first parent here offset before depth inners bound.0 shaped.0 (omega (arith, deep)) (omega (arith, few))
            (ap (slice_get inners) (omega arith) ∙ got 0),
        subst (λ n. MatchRow slots inners depth (offset + n) numbered_later later) (sym (counted-entry scene parent here before first))
            (match-items mapper scene rest parent path (offset + 1) (before + elements_in first) depth inners bound.1 shaped.1 (omega (arith, deep))
            (omega (arith, few))
            (λ k. ap (slice_get inners) (omega arith) ∙ got (suc k))),
      )

-- ---- documents

count-items_of : (list : List Item) → inner_count (items_of list) ≡ count_of list
count-items_of [] = refl
count-items_of (first ∷ list) = ap (λ n. item_count first + n) (count-items_of list)

depth-items_of : (list : List Item) → inner_depth (items_of list) ≡ depth_of list
depth-items_of [] = refl
depth-items_of (first ∷ list) = ap (max (item_depth first)) (depth-items_of list)

-- what is read of a place in the view of a document is what it means
read-means : (conversion : Conversion) (document : Document) (mapper : Mapper) (nodes : List ViewNode) → IsMapped conversion document mapper nodes
    → IsTree document.items → (path : List ℕ) (last : ℕ)
    → read (slots_in mapper.bindings) 0 [] 0 0 nodes path last ≡ meant conversion document (path ++ last ∷ [])
read-means conversion document mapper nodes mapped limits path last =
    let slots = slots_in mapper.bindings in
    let scene = scene_of conversion document in
    let list = items_of document.items in
    let row = inner_row (numbered mapper scene) (codes "$root") [] 0 0 list in
    let plain = inner_row scene (codes "$root") [] 0 0 list in
    let inners = inners_of scene (codes "$root") [] 0 0 list in
    let few = count-items_of document.items in
    let deep = depth-items_of document.items in
    let m = match-items mapper scene list (codes "$root") [] 0 0 0 inners mapped.bound mapped.shapes (omega (arith, deep, limits.flat))
    (omega (arith, few, limits.few)) (λ k. ap (slice_get inners) (omega arith)) in
    let counts = nest-counts slots inners 0 0 row plain m in
    let small = rows-small scene list (codes "$root") [] 0 0 in
    sym (read-uncounted slots 0 [] 0 0 nodes path last)
    ∙ ap (λ shown. read slots 0 [] 0 0 shown path last) mapped.view
    ∙ read-uncounted slots 0 [] 0 0 (nest row) path last
    ∙ ap (λ shown. read slots 0 [] 0 0 shown path last) (sym (list_of-nodes_of (nest row)))
    ∙ walk slots inners 0 path last 0 (nodes_of (nest row)) (nodes_of (nest plain)) (match-nest slots inners 0 0 row plain m)
    (omega (arith, counts, small, few, limits.few))

same-option : (o : Option (List ℕ)) → option_map (λ position. [] ++ position) o ≡ o
same-option None = refl
same-option (Some position) = refl

-- what the code reads of a place, with nothing before it
pub all-read : (mapper : Mapper) (nodes : List ViewNode) (path : List ℕ) (last : ℕ) {bindings : List Binding} {made : List ℕ} {list : List ViewNode}
    {way : List ℕ} {result : Option (List ℕ)}
    → bindings ≡ mapper.bindings → made ≡ [] → list ≡ nodes → way ≡ path
    → result ≡ option_map (λ position. made ++ position) (read (slots_in bindings) (length made) [] 0 0 list way last)
    → Means mapper nodes (path ++ last ∷ []) result
all-read mapper nodes path last {result = result} b m l w e = λ conversion document mapped limits.
    sym (read-means conversion document mapper nodes mapped limits path last)
    ∙ sym (same-option (read (slots_in mapper.bindings) 0 [] 0 0 nodes path last))
    ∙ sym (e ∙ (λ i. option_map (λ position. m i ++ position) (read (slots_in (b i)) (length (m i)) [] 0 0 (l i) (w i) last)))
