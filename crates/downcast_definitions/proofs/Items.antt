-- Where the items of a parent stand in its row.
use Rattle.std.proofs.Common.{◌≡◌, ℕ, ◌+◌, ◌≤◌, zero, suc, List, [], ◌∷◌, ◌++◌, take, length, Bool, true, false, ◌&&◌, if◌then◌else◌, Option, Some, None, refl}
use Rattle.std.proofs.Common.{sym, ap, ◌∙◌, subst, append_assoc, append-nil, arith, length-append}
use Rattle.std.proofs.lemmas.List.{map-append, length-map}
use Rattle.std.proofs.lemmas.Option.{slice_get_within}
use Rattle.std.specs.Prelude.{slice_get, nat_le, option_map}
use Rattle.std.specs.List.{filter_map, cons_option}
use Rattle.item_definitions.specs.Position.{Range}
use Rattle.item_definitions.specs.Item.{Item, Items, items_of}
use Rattle.item_definitions.specs.Item as items
use Rattle.document_definitions.specs.Markers.{Markers}
use Rattle.document_definitions.specs.Selection.{same_position}
use Rattle.view_definitions.specs.Node.{ViewNode, ViewAttributes, nodes_of}
use Rattle.view_definitions.specs.Row.{caret, Entry, nest, is_item_kind, is_element}
use Rattle.converter_definitions.specs.declared.kind.ShapeKind.TheVariants.{Container, Empty, Ui}
use Rattle.converter_definitions.specs.declared.stock.Leaf.{Leaf}
use Rattle.converter_definitions.specs.Form.{Form, slot, text, element, form_depth}
use Rattle.converter_definitions.specs.Shape.{is_outermost, fits, slot_count, form_count, is_shape}
use Rattle.converter_definitions.specs.Views.{filled}
use Rattle.converter_definitions.specs.Gives.{Conversion, Converter}
use Rattle.converter_definitions.specs.Layers.{leaf_of}
use Rattle.downcast_definitions.specs.Scene.{Scene, Caret, leaves, leaf_entry, ends_at, starts_at, has_caret, carets, caret_entry, boundary}
use Rattle.downcast_definitions.specs.Rows.{elements_in, shape_at, only, with_number, element_node, entry_of, inner_row, row_of}
use Rattle.downcast_definitions.specs.Meant.{Inners, in_item, meant_in, meant_in_element, inners_of}
use Rattle.downcast_definitions.specs.Seen.{entries_before, elements_before, boundary_place, node_place}
use Rattle.downcast_definitions.specs.Shown.{HasShape, HaveShapes}
use Rattle.downcast_definitions.proofs.Entries.{may_stand, AllStand, counted, items_in, contents_of, stand-append, items-append, get-rest, take-rest}
use Rattle.downcast_definitions.proofs.Means.{node-means}
use Rattle.downcast_definitions.proofs.Boundaries.{CaretLast, boundary-means}
use Rattle.ck_base.proofs.Common.{first as first_true}

-- entries of which none shows an item
abbrev Quiet : List Entry → Type 0
Quiet row = AllStand (contents_of row) × (items_in (contents_of row) ≡ 0)

pub contents-append : (row other : List Entry) → contents_of (row ++ other) ≡ contents_of row ++ contents_of other
contents-append row other = map-append (λ (entry : Entry). entry.content) row other

quiet-append : (row other : List Entry) → Quiet row → Quiet other → Quiet (row ++ other)
quiet-append row other h k =
    let both : items_in (contents_of row ++ contents_of other) ≡ 0 =
    (let e : items_in (contents_of row ++ contents_of other) ≡ items_in (contents_of row) + items_in (contents_of other) =
    items-append (contents_of row) (contents_of other) in
    let a = h.1 in
    let b = k.1 in
    omega (arith, e, a, b)) in (
      subst AllStand (sym (contents-append row other)) (stand-append (contents_of row) (contents_of other) h.0 k.0),
      ap items_in
          (contents-append row other) ∙ both,
    )

leaf-quiet : (test : Bool) (view : Option Leaf) (row : List Entry) → Quiet row → Quiet (cons_option (if test then option_map leaf_entry view else None) row)
leaf-quiet true None row h = h
leaf-quiet true (Some view) row h = let a = h.1 in ((refl, h.0), omega (arith, a))
leaf-quiet false view row h = h

leaves-quiet : (converters : List Converter) (test : Range → Bool) (markers : Markers)
    → Quiet (filter_map (λ marker. if test marker.1 then option_map leaf_entry (leaf_of converters marker.0) else None) markers)
leaves-quiet converters test [] = (tt, refl)
leaves-quiet converters test (marker ∷ markers) = leaf-quiet (test marker.1) (leaf_of converters marker.0) _ (leaves-quiet converters test markers)

if-quiet : (test : Bool) (here : Caret) → Quiet (if test then caret_entry here ∷ [] else [])
if-quiet true here = ((refl, tt), refl)
if-quiet false here = (tt, refl)

carets-quiet : (there : Option Caret) (position : List ℕ) → Quiet (carets there position)
carets-quiet None position = (tt, refl)
carets-quiet (Some here) position = if-quiet (same_position here.at position) here

-- what stands at a position shows no item
pub boundary-quiet : (scene : Scene) (position : List ℕ) → AllStand (contents_of (boundary scene position))
    × (items_in (contents_of (boundary scene position)) ≡ 0)
boundary-quiet scene position =
    quiet-append (leaves scene (ends_at position)) (leaves scene (starts_at position) ++ carets scene.caret position)
    (leaves-quiet scene.conversion.converters (ends_at position) scene.markers)
    (quiet-append (leaves scene (starts_at position)) (carets scene.caret position)
    (leaves-quiet scene.conversion.converters (starts_at position) scene.markers) (carets-quiet scene.caret position))

last-caret : (row other : List Entry) (there : Option Caret) (position : List ℕ) → has_caret there position ≡ true
    → CaretLast (contents_of (row ++ (other ++ carets there position)))
last-caret row other None position e = cc
last-caret row other (Some here) position e = record {
  leaves = contents_of row ++ contents_of other;
  is =
      ap (λ b. contents_of (row ++ (other ++ (if b then caret_entry here ∷ [] else [])))) e
      ∙ contents-append row (other ++ caret_entry here ∷ [])
      ∙ ap (λ cs. contents_of row ++ cs) (contents-append other (caret_entry here ∷ []))
      ∙ sym (append_assoc (contents_of row) (contents_of other) (caret ∷ []));
}

-- the caret is the last of it
pub boundary-caret : (scene : Scene) (position : List ℕ) → has_caret scene.caret position ≡ true → CaretLast (contents_of (boundary scene position))
boundary-caret scene position e = last-caret (leaves scene (ends_at position)) (leaves scene (starts_at position)) scene.caret position e

pub shape-outermost : (form : Form ViewAttributes) → is_shape form ≡ true → is_outermost form ≡ true
shape-outermost form e =
    first_true (is_outermost form) (fits form)
    (first_true (is_outermost form && fits form) (nat_le (slot_count form) 1)
    (first_true (is_outermost form && fits form && nat_le (slot_count form) 1) (nat_le (form_count form) 32)
    (first_true (is_outermost form && fits form && nat_le (slot_count form) 1 && nat_le (form_count form) 32) (nat_le (form_depth form) 8) e)))

-- a shape is an element that may stand for an item
outermost-item : (number : Option ℕ) (content : List ViewNode) (form : Form ViewAttributes) → is_outermost form ≡ true
    → is_element is_item_kind (with_number number (only (filled content form))) ≡ true
outermost-item number content slot e = cc
outermost-item number content (text scalars) e = cc
outermost-item number content (element Container name attributes children) e = refl
outermost-item number content (element Empty name attributes children) e = refl
outermost-item number content (element Ui name attributes children) e = cc

-- the entry of an item may stand there
pub entry-stands : (scene : Scene) (parent path : List ℕ) (before : ℕ) (of : Item) → HasShape scene.conversion parent before of
    → may_stand (entry_of scene parent path before of).content ≡ true
entry-stands scene parent path before (items.character scalar attributes) h = refl
entry-stands scene parent path before (items.element id name attributes children) h =
    let form = (shape_at scene.conversion parent before name attributes).form in
    outermost-item (scene.numbers id) (nest (inner_row scene name path 0 0 children)) form (shape-outermost form h.0)

pub entry-counts : (scene : Scene) (parent path : List ℕ) (before : ℕ) (of : Item) → counted (entry_of scene parent path before of).content ≡ 1
entry-counts scene parent path before (items.character scalar attributes) = refl
entry-counts scene parent path before (items.element id name attributes children) = refl

-- each entry of a row is what may stand there
pub row-stands : (scene : Scene) (parent path : List ℕ) (from before : ℕ) (list : Items) → HaveShapes scene.conversion parent before list
    → AllStand (contents_of (inner_row scene parent path from before list))
row-stands scene parent path from before items.none h = (boundary-quiet scene (path ++ from ∷ [])).0
row-stands scene parent path from before (items.more of rest) h =
    subst AllStand (sym (contents-append (boundary scene (path ++ from ∷ [])) _))
    (stand-append (contents_of (boundary scene (path ++ from ∷ []))) _ (boundary-quiet scene (path ++ from ∷ [])).0
    (entry-stands scene parent (path ++ from ∷ []) before of h.0, row-stands scene parent path (from + 1) (before + elements_in of) rest h.1))

-- that an entry is the first of these
pub record Leads (entry : Entry) (row : List Entry) : Type 0 where
  pub rest : List Entry
  pub is : row ≡ entry ∷ rest

-- A row of items from an offset on, around the boundary that lies behind so many of them
pub record Around (scene : Scene) (parent path : List ℕ) (from before : ℕ) (list : List Item) (count at : ℕ) : Type 0 where
  pub front : List Entry
  pub behind : List Entry
  pub row_is : inner_row scene parent path from before (items_of list) ≡ front ++ (boundary scene (path ++ at ∷ []) ++ behind)
  pub items_are : items_in (contents_of front) ≡ count
  pub entries_are : entries_before scene path at ≡ entries_before scene path from + length front
  pub item_is : (of : Item) → slice_get list count ≡ Some of → Leads (entry_of scene parent (path ++ at ∷ []) (before + elements_before list count) of) behind

around-here : (scene : Scene) (parent path : List ℕ) (list : List Item) (from before : ℕ) → Around scene parent path from before list 0 from
around-here scene parent path [] from before = record {
  front = [];
  behind = [];
  row_is = sym (append-nil (boundary scene (path ++ from ∷ [])));
  items_are = refl;
  entries_are = omega arith;
  item_is = λ of e. cc;
}
around-here scene parent path (first ∷ list) from before = record {
  front = [];
  behind = entry_of scene parent (path ++ from ∷ []) before first ∷ inner_row scene parent path (from + 1) (before + elements_in first) (items_of list);
  row_is = refl;
  items_are = refl;
  entries_are = omega arith;
  item_is = λ of e. record {
    rest = inner_row scene parent path (from + 1) (before + elements_in first) (items_of list);
    is =
        let same : first ≡ of = cc in
        let n : before ≡ before + 0 = omega arith in
        λ i. entry_of scene parent (path ++ from ∷ []) (n i) (same i) ∷ inner_row scene parent path (from + 1) (before + elements_in first) (items_of list);
  };
}

items-more : (here front : List Entry) (entry : Entry) (count : ℕ) → items_in (contents_of here) ≡ 0 → counted entry.content ≡ 1
    → items_in (contents_of front) ≡ count → items_in (contents_of (here ++ (entry ∷ front))) ≡ suc count
items-more here front entry count q o f =
    let all : items_in (contents_of (here ++ (entry ∷ front))) ≡ items_in (contents_of here) + (counted entry.content + items_in (contents_of front)) =
    (ap items_in (contents-append here (entry ∷ front)) ∙ items-append (contents_of here) (contents_of (entry ∷ front))) in
    omega (arith, all, q, o, f)

entries-more : (scene : Scene) (path : List ℕ) (from at : ℕ) (front : List Entry) (entry : Entry) → entries_before scene path at
    ≡ entries_before scene path (from + 1) + length front
    → entries_before scene path at ≡ entries_before scene path from + length (boundary scene (path ++ from ∷ []) ++ (entry ∷ front))
entries-more scene path from at front entry e =
    let next : entries_before scene path (from + 1) ≡ entries_before scene path from + length (boundary scene (path ++ from ∷ [])) + 1 =
    ap (entries_before scene path) (let k : from + 1 ≡ suc from = omega arith in k) in
    let long : length (boundary scene (path ++ from ∷ []) ++ (entry ∷ front)) ≡ length (boundary scene (path ++ from ∷ [])) + suc (length front) =
    length-append (boundary scene (path ++ from ∷ [])) (entry ∷ front) in
    omega (arith, e, next, long)

around-next : (scene : Scene) (parent path : List ℕ) (first : Item) (list : List Item) (from before count at : ℕ)
    → Around scene parent path (from + 1) (before + elements_in first) list count at → Around scene parent path from before (first ∷ list) (suc count) at
around-next scene parent path first list from before count at ih = record {
  front = boundary scene (path ++ from ∷ []) ++ (entry_of scene parent (path ++ from ∷ []) before first ∷ ih.front);
  behind = ih.behind;
  row_is =
      ap (λ r. boundary scene (path ++ from ∷ []) ++ (entry_of scene parent (path ++ from ∷ []) before first ∷ r)) ih.row_is
      ∙ sym (append_assoc (boundary scene (path ++ from ∷ [])) (entry_of scene parent (path ++ from ∷ []) before first ∷ ih.front)
      (boundary scene (path ++ at ∷ []) ++ ih.behind));
  items_are = items-more (boundary scene (path ++ from ∷ [])) ih.front (entry_of scene parent (path ++ from ∷ []) before first) count
      (boundary-quiet scene (path ++ from ∷ [])).1 (entry-counts scene parent (path ++ from ∷ []) before first) ih.items_are;
  entries_are = entries-more scene path from at ih.front (entry_of scene parent (path ++ from ∷ []) before first) ih.entries_are;
  item_is = λ of k.
      subst (λ n. Leads (entry_of scene parent (path ++ at ∷ []) n of) ih.behind) (omega arith) (ih.item_is of k);
}

-- each boundary up to the end of the items has its place in the row
pub around : (scene : Scene) (parent path : List ℕ) (list : List Item) (from before count at : ℕ) → at ≡ from + count → count ≤ length list
    → Around scene parent path from before list count at
around scene parent path list from before zero at e h = subst (λ n. Around scene parent path from before list 0 n) (omega (arith, e))
    (around-here scene parent path list from before)
around scene parent path [] from before (suc count) at e h = absurd (omega (arith, h))
around scene parent path (first ∷ list) from before (suc count) at e h =
    around-next scene parent path first list from before count at
    (around scene parent path list (from + 1) (before + elements_in first) count at (omega (arith, e)) (omega (arith, h)))

-- the shape of the element at an index
pub shape-at : (conversion : Conversion) (parent : List ℕ) (list : List Item) (before index : ℕ) (of : Item)
    → HaveShapes conversion parent before (items_of list)
    → slice_get list index ≡ Some of → HasShape conversion parent (before + elements_before list index) of
shape-at conversion parent [] before index of h e = cc
shape-at conversion parent (first ∷ list) before zero of h e =
    let same : first ≡ of = cc in
    let n : before ≡ before + 0 = omega arith in
    subst (HasShape conversion parent (before + 0)) same (subst (λ m. HasShape conversion parent m first) n h.0)
shape-at conversion parent (first ∷ list) before (suc index) of h e =
    subst (λ n. HasShape conversion parent n of) (omega arith) (shape-at conversion parent list (before + elements_in first) index of h.1 e)

-- what places in the node of the item at an index mean
pub inners-at : (scene : Scene) (parent path : List ℕ) (list : List Item) (from before index at : ℕ) (of : Item) → at ≡ from + index
    → slice_get list index ≡ Some of
    → slice_get (inners_of scene parent path from before (items_of list)) index
    ≡ Some (meant_in_element scene parent (path ++ at ∷ []) (before + elements_before list index) of)
inners-at scene parent path [] from before index at of k e = cc
inners-at scene parent path (first ∷ list) from before zero at of k e =
    let same : first ≡ of = cc in
    let n : before ≡ before + 0 = omega arith in
    let m : from ≡ at = omega (arith, k) in
    λ i. Some (meant_in_element scene parent (path ++ m i ∷ []) (n i) (same i))
inners-at scene parent path (first ∷ list) from before (suc index) at of k e =
    inners-at scene parent path list (from + 1) (before + elements_in first) index at of (omega (arith, k)) e
    ∙ ap (λ n. Some (meant_in_element scene parent (path ++ at ∷ []) n of)) (omega arith)

boundary-contents : (scene : Scene) (parent path : List ℕ) (list : List Item) (count : ℕ) (a : Around scene parent path 0 0 list count count)
    → contents_of (row_of scene parent path list) ≡ contents_of a.front ++ (contents_of (boundary scene (path ++ count ∷ [])) ++ contents_of a.behind)
boundary-contents scene parent path list count a =
    ap contents_of a.row_is
    ∙ contents-append a.front (boundary scene (path ++ count ∷ []) ++ a.behind)
    ∙ ap (λ cs. contents_of a.front ++ cs) (contents-append (boundary scene (path ++ count ∷ [])) a.behind)

pub contents-length : (row : List Entry) → length (contents_of row) ≡ length row
contents-length row = length-map row (λ (entry : Entry). entry.content)

start-is : (scene : Scene) (parent path : List ℕ) (list : List Item) (count : ℕ) (a : Around scene parent path 0 0 list count count)
    → entries_before scene path count ≡ length (contents_of a.front)
start-is scene parent path list count a =
    let k : entries_before scene path count ≡ 0 + length a.front = a.entries_are in
    k ∙ (let l : 0 + length a.front ≡ length a.front = omega arith in l) ∙ sym (contents-length a.front)

-- the place where a boundary is seen means the position there
pub boundary-seen : (scene : Scene) (parent path : List ℕ) (list : List Item) (offset : ℕ) (inners : Inners)
    → HaveShapes scene.conversion parent 0 (items_of list) → offset ≤ length list
    → meant_in inners 0 (nodes_of (nest (row_of scene parent path list))) (boundary_place scene parent path list offset) ≡ Some (offset ∷ [])
boundary-seen scene parent path list offset inners s h =
    let a = around scene parent path list 0 0 offset offset (omega arith) h in
    boundary-means inners (row_of scene parent path list) (contents_of a.front) (contents_of (boundary scene (path ++ offset ∷ []))) (contents_of a.behind)
    (entries_before scene path offset) (entries_before scene path offset + length (boundary scene (path ++ offset ∷ [])))
    (has_caret scene.caret (path ++ offset ∷ []))
    (row-stands scene parent path 0 0 (items_of list) s)
    (boundary-contents scene parent path list offset a)
    (start-is scene parent path list offset a)
    (ap (λ n. entries_before scene path offset + n) (sym (contents-length (boundary scene (path ++ offset ∷ [])))))
    (boundary-quiet scene (path ++ offset ∷ [])).1
    (boundary-caret scene (path ++ offset ∷ []))
    ∙ ap (λ n. Some (n ∷ [])) a.items_are

-- the node of an element in its row
abbrev pub node_of : Scene → List ℕ → List ℕ → ℕ → ℕ → List ℕ → items.Attributes → Items → ViewNode
node_of scene parent path before id name attributes children =
    element_node (scene.numbers id) (shape_at scene.conversion parent before name attributes) (inner_row scene name path 0 0 children)

-- a place that goes on in the node of an element is one in the element
pub node-seen : (scene : Scene) (parent path : List ℕ) (list : List Item) (index id : ℕ) (name : List ℕ) (attributes : items.Attributes)
    (children : Items) (inners : Inners) (next : ℕ) (rest : List ℕ)
    → HaveShapes scene.conversion parent 0 (items_of list) → slice_get list index ≡ Some (items.element id name attributes children)
    → meant_in inners 0 (nodes_of (nest (row_of scene parent path list))) (node_place scene parent path list index ++ (next ∷ rest))
    ≡ in_item inners index (next ∷ rest)
node-seen scene parent path list index id name attributes children inners next rest s e =
    let below = slice_get_within list index (items.element id name attributes children) e in
    let a = around scene parent path list 0 0 index index (omega arith) (omega (arith, below)) in
    let lead = a.item_is (items.element id name attributes children) e in
    let here = contents_of (boundary scene (path ++ index ∷ [])) in
    let number = entries_before scene path index + length (boundary scene (path ++ index ∷ [])) in
    let start : entries_before scene path index ≡ length (contents_of a.front) = start-is scene parent path list index a in
    let size : length (contents_of (boundary scene (path ++ index ∷ []))) ≡ length (boundary scene (path ++ index ∷ [])) =
    contents-length (boundary scene (path ++ index ∷ [])) in
    let at : number ≡ length (contents_of a.front) + length (contents_of (boundary scene (path ++ index ∷ []))) = omega (arith, start, size) in
    let all = boundary-contents scene parent path list index a in
    let quiet : items_in (contents_of (boundary scene (path ++ index ∷ []))) ≡ 0 = (boundary-quiet scene (path ++ index ∷ [])).1 in
    let counts : items_in (contents_of a.front) ≡ index = a.items_are in
    node-means inners (node_of scene parent (path ++ index ∷ []) (0 + elements_before list index) id name attributes children) next rest
    (row_of scene parent path list) number
    (row-stands scene parent path 0 0 (items_of list) s)
    (entry-stands scene parent (path ++ index ∷ []) (0 + elements_before list index) (items.element id name attributes children)
    (shape-at scene.conversion parent list 0 index _ s e))
    (ap (λ cs. slice_get cs number) all
    ∙ get-rest (contents_of a.front) (here ++ contents_of a.behind) (length here) number at
    ∙ get-rest here (contents_of a.behind) 0 (length here) (omega arith)
    ∙ ap (λ row. slice_get (contents_of row) 0) lead.is)
    ∙ ap (λ n. in_item inners n (next ∷ rest))
    (ap (λ cs. items_in (take number cs)) all
    ∙ ap items_in (take-rest (contents_of a.front) (here ++ contents_of a.behind) (length here) number at)
    ∙ ap (λ cs. items_in (contents_of a.front ++ cs)) (take-rest here (contents_of a.behind) 0 (length here) (omega arith) ∙ append-nil here)
    ∙ items-append (contents_of a.front) here
    ∙ (let k : items_in (contents_of a.front) + items_in (contents_of (boundary scene (path ++ index ∷ []))) ≡ index = omega (arith, quiet, counts) in k))
