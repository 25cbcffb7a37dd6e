-- What is written of a whole row is what it nests to, and the caret is found where it is seen.
use Rattle.std.proofs.Common.{◌≡◌, ◌≢◌, ℕ, ◌+◌, ◌-◌, ◌≤◌, zero, suc, List, [], ◌∷◌, ◌++◌, length, Bool, true, false, ◌&&◌, if◌then◌else◌, Option, Some, None}
use Rattle.std.proofs.Common.{IfSome, refl, sym, ap, ◌∙◌, subst, append_assoc, append-nil, arith, length-append}
use Rattle.std.proofs.lemmas.Bool.Decides.{nat_tests}
use Rattle.std.specs.Prelude.{nat_le, option_map}
use Rattle.std.specs.Cmp.Lexicographic.{same_text, other_text}
use Rattle.std.specs.List.{filter_map, cons_option}
use Rattle.item_definitions.specs.Item.{Item, items_of}
use Rattle.item_definitions.specs.Item as items
use Rattle.item_definitions.specs.Children.{parent_of, offset_of}
use Rattle.item_definitions.specs.Position.{Range}
use Rattle.item_definitions.proofs.Paths.{parent_of-push, offset_of-push, path-joined}
use Rattle.document_definitions.specs.Markers.{Markers}
use Rattle.document_definitions.specs.Selection.{same_position}
use Rattle.view_definitions.specs.Node.{ViewNode}
use Rattle.view_definitions.specs.Layer.{Layer}
use Rattle.view_definitions.specs.Row.{Content, leaf, item, character, caret, Entry, pieces_of, shown, nest, join, is_plain, IsPlainRow}
use Rattle.view_definitions.proofs.Joins.{join-none, join-assoc, nest-cons, plain-append, plain-pieces}
use Rattle.converter_definitions.specs.declared.stock.Leaf.{Leaf}
use Rattle.converter_definitions.specs.Gives.{Converter}
use Rattle.converter_definitions.specs.Layers.{leaf_of}
use Rattle.downcast_definitions.specs.Place.{as_place, in_pieces, none_passed}
use Rattle.downcast_definitions.specs.Scene.{Scene, Caret, leaves, leaf_entry, ends_at, starts_at, has_caret, carets, caret_entry, boundary}
use Rattle.downcast_definitions.specs.Rows.{elements_in, entry_of, inner_row, row_of}
use Rattle.downcast_definitions.specs.Seen.{entries_before, mark_at, place_of, boundary_place}
use Rattle.downcast_definitions.specs.Shown.{HasShape, HaveShapes}
use Rattle.downcast_definitions.proofs.Items.{entry-stands}
use Rattle.pos_mapper.specs.Bindings.{CaretPlace}
use Rattle.down_whole.specs.Between.{between, caret_at}
use Rattle.down_whole.specs.Found.{is_in_content, found_here}
use Rattle.down_whole.specs.Written.{Written, nothing_written, with_content, with_row}
use Rattle.down_whole.proofs.CaretInRow.{caret_in, pieces-around, shown-around}
use Rattle.down_whole.proofs.Found.{row-size, caret-found}
use Rattle.down_whole.proofs.Rows.{with_row-append}

-- ---- rows without the caret, and around it

content-written : (content : Content) (entry : Entry) (written : Written) → is_plain content ≡ true → with_content content entry written
    ≡ record written { nodes = join written.nodes (nest (entry ∷ [])) }
content-written (leaf node) entry written p = refl
content-written (item node) entry written p = refl
content-written (character scalar) entry written p = refl
content-written caret entry written p = absurd cc

-- a row without the caret is joined to what is written
pub written-plain : (row : List Entry) (front : Option (List ViewNode)) (nodes : List ViewNode) → IsPlainRow row
    → with_row row (record { front = front; nodes = nodes }) ≡ record { front = front; nodes = join nodes (nest row) }
written-plain [] front nodes p = ap (λ nodes. record { front = front; nodes = nodes }) (sym (join-none nodes))
written-plain (entry ∷ row) front nodes p =
    ap (with_row row) (content-written entry.content entry (record { front = front; nodes = nodes }) p.0)
    ∙ written-plain row front (join nodes (nest (entry ∷ []))) p.1
    ∙ ap (λ nodes. record { front = front; nodes = nodes })
    (sym (join-assoc nodes (nest (entry ∷ [])) (nest row)) ∙ ap (join nodes) (sym (nest-cons entry row p)))

-- a row with the caret in it is written in two parts
written-around : (row : List Entry) (layers : List Layer) (other : List Entry) → IsPlainRow row → IsPlainRow other
    → with_row (row ++ caret_in layers ∷ other) nothing_written ≡ record { front = Some (nest row); nodes = nest other }
written-around row layers other p q =
    with_row-append row (caret_in layers ∷ other) nothing_written
    ∙ ap (with_row (caret_in layers ∷ other)) (written-plain row None [] p)
    ∙ written-plain other (Some (nest row)) [] q

-- and nests to these parts with the caret between them
nest-around : (row : List Entry) (layers : List Layer) (other : List Entry) → IsPlainRow row → IsPlainRow other
    → between (nest row) layers (nest other) ≡ nest (row ++ caret_in layers ∷ other)
nest-around row layers other p q =
    sym (ap shown (pieces-around row layers other) ∙ shown-around (pieces_of row) layers (pieces_of other) (plain-pieces row p) (plain-pieces other q))

-- the caret is found between them
place-around : (row : List Entry) (layers : List Layer) (other : List Entry) → IsPlainRow row → IsPlainRow other
    → caret_at (nest row) layers (nest other) ≡ in_pieces as_place (pieces_of (row ++ caret_in layers ∷ other)) (length row) none_passed
place-around row layers other p q =
    sym (caret-found layers (pieces_of row) (pieces_of other) (plain-pieces row p) (plain-pieces other q))
    ∙ (λ i. in_pieces as_place (sym (pieces-around row layers other) i) (row-size row i) none_passed)

-- ---- boundaries

leaf-plain : (test : Bool) (view : Option Leaf) (row : List Entry) → IsPlainRow row
    → IsPlainRow (cons_option (if test then option_map leaf_entry view else None) row)
leaf-plain true None row h = h
leaf-plain true (Some view) row h = (refl, h)
leaf-plain false view row h = h

leaves-plain : (converters : List Converter) (test : Range → Bool) (markers : Markers)
    → IsPlainRow (filter_map (λ marker. if test marker.1 then option_map leaf_entry (leaf_of converters marker.0) else None) markers)
leaves-plain converters test [] = tt
leaves-plain converters test (marker ∷ markers) = leaf-plain (test marker.1) (leaf_of converters marker.0) _ (leaves-plain converters test markers)

-- the leaves at a position
abbrev leaves_at : Scene → List ℕ → List Entry
leaves_at scene position = leaves scene (ends_at position) ++ leaves scene (starts_at position)

leaves_at-plain : (scene : Scene) (position : List ℕ) → IsPlainRow (leaves_at scene position)
leaves_at-plain scene position =
    plain-append (leaves scene (ends_at position)) (leaves scene (starts_at position))
    (leaves-plain scene.conversion.converters (ends_at position) scene.markers) (leaves-plain scene.conversion.converters (starts_at position) scene.markers)

boundary-is : (scene : Scene) (position : List ℕ) → boundary scene position ≡ leaves_at scene position ++ carets scene.caret position
boundary-is scene position = sym (append_assoc (leaves scene (ends_at position)) (leaves scene (starts_at position)) (carets scene.caret position))

no-carets : (there : Option Caret) (position : List ℕ) → has_caret there position ≡ false → carets there position ≡ []
no-carets None position e = refl
no-carets (Some here) position e = ap (λ b. if b then caret_entry here ∷ [] else []) e

-- a boundary without the caret
boundary-plain : (scene : Scene) (position : List ℕ) → has_caret scene.caret position ≡ false → IsPlainRow (boundary scene position)
boundary-plain scene position e =
    subst IsPlainRow (sym (boundary-is scene position ∙ ap (λ row. leaves_at scene position ++ row) (no-carets scene.caret position e)
    ∙ append-nil (leaves_at scene position)))
    (leaves_at-plain scene position)

-- and with it
boundary-around : (scene : Scene) (here : Caret) (position : List ℕ) → scene.caret ≡ Some here → same_position here.at position ≡ true
    → boundary scene position ≡ leaves_at scene position ++ caret_in here.layers ∷ []
boundary-around scene here position e t =
    boundary-is scene position
    ∙ ap (λ there. leaves_at scene position ++ carets there position) e
    ∙ ap (λ b. leaves_at scene position ++ (if b then caret_entry here ∷ [] else [])) t

-- ---- the entries of items

entry-plain : (scene : Scene) (parent path : List ℕ) (before : ℕ) (of : Item) → HasShape scene.conversion parent before of
    → is_plain (entry_of scene parent path before of).content ≡ true
entry-plain scene parent path before (items.character scalar attributes) h = refl
entry-plain scene parent path before (items.element id name attributes children) h = entry-stands scene parent path before
    (items.element id name attributes children) h

-- a row at whose boundaries no caret stands
pub row-plain : (scene : Scene) (parent path : List ℕ) (offset before : ℕ) (list : List Item) → HaveShapes scene.conversion parent before (items_of list)
    → ((at : ℕ) → offset ≤ at → at ≤ offset + length list → has_caret scene.caret (path ++ at ∷ []) ≡ false)
    → IsPlainRow (inner_row scene parent path offset before (items_of list))
row-plain scene parent path offset before [] s h = boundary-plain scene (path ++ offset ∷ []) (h offset (omega arith) (omega arith))
row-plain scene parent path offset before (of ∷ list) s h =
    plain-append (boundary scene (path ++ offset ∷ [])) _ (boundary-plain scene (path ++ offset ∷ []) (h offset (omega arith) (omega arith))) (
      entry-plain scene parent (path ++ offset ∷ []) before of s.0,
      row-plain scene parent path (offset + 1) (before + elements_in of) list s.1 (λ at a b. h at (omega (arith, a)) (omega (arith, b))),
    )

-- ---- a row with one boundary at which the caret stands

record Parted (scene : Scene) (parent path : List ℕ) (offset before : ℕ) (list : List Item) (at : ℕ) : Type 0 where
  front : List Entry
  behind : List Entry
  row_is : inner_row scene parent path offset before (items_of list) ≡ front ++ (boundary scene (path ++ at ∷ []) ++ behind)
  entries_are : entries_before scene path at ≡ entries_before scene path offset + length front
  front_plain : IsPlainRow front
  behind_plain : IsPlainRow behind

parted-here : (scene : Scene) (parent path : List ℕ) (offset before : ℕ) (list : List Item) → HaveShapes scene.conversion parent before (items_of list)
    → ((other : ℕ) → other ≢ offset → has_caret scene.caret (path ++ other ∷ []) ≡ false)
    → Parted scene parent path offset before list offset
parted-here scene parent path offset before [] s h = record {
  front = [];
  behind = [];
  row_is = sym (append-nil (boundary scene (path ++ offset ∷ [])));
  entries_are = omega arith;
  front_plain = tt;
  behind_plain = tt;
}
parted-here scene parent path offset before (of ∷ list) s h = record {
  front = [];
  behind = entry_of scene parent (path ++ offset ∷ []) before of ∷ inner_row scene parent path (offset + 1) (before + elements_in of) (items_of list);
  row_is = refl;
  entries_are = omega arith;
  front_plain = tt;
  behind_plain = (
    entry-plain scene parent (path ++ offset ∷ []) before of s.0,
    row-plain scene parent path (offset + 1) (before + elements_in of) list s.1 (λ at a b. h at (λ e. omega (arith, a, e))),
  );
}

entries-more : (scene : Scene) (path : List ℕ) (offset at : ℕ) (front : List Entry) (entry : Entry) → entries_before scene path at
    ≡ entries_before scene path (offset + 1) + length front
    → entries_before scene path at ≡ entries_before scene path offset + length (boundary scene (path ++ offset ∷ []) ++ (entry ∷ front))
entries-more scene path offset at front entry e =
    let next : entries_before scene path (offset + 1) ≡ entries_before scene path offset + length (boundary scene (path ++ offset ∷ [])) + 1 =
    ap (entries_before scene path) (let k : offset + 1 ≡ suc offset = omega arith in k) in
    let long : length (boundary scene (path ++ offset ∷ []) ++ (entry ∷ front)) ≡ length (boundary scene (path ++ offset ∷ [])) + suc (length front) =
    length-append (boundary scene (path ++ offset ∷ [])) (entry ∷ front) in
    omega (arith, e, next, long)

parted : (scene : Scene) (parent path : List ℕ) (list : List Item) (offset before count at : ℕ) → at ≡ offset + count → count ≤ length list
    → HaveShapes scene.conversion parent before (items_of list)
    → ((other : ℕ) → other ≢ at → has_caret scene.caret (path ++ other ∷ []) ≡ false)
    → Parted scene parent path offset before list at
parted scene parent path list offset before zero at e l s h =
    let same : offset ≡ at = omega (arith, e) in
    subst (λ n. Parted scene parent path offset before list n) same
    (parted-here scene parent path offset before list s (λ other d. h other (λ k. d (k ∙ sym same))))
parted scene parent path [] offset before (suc count) at e l s h = absurd (omega (arith, l))
parted scene parent path (of ∷ list) offset before (suc count) at e l s h =
    let ih = parted scene parent path list (offset + 1) (before + elements_in of) count at (omega (arith, e)) (omega (arith, l)) s.1 h in
    let here = boundary scene (path ++ offset ∷ []) in
    let entry = entry_of scene parent (path ++ offset ∷ []) before of in
    let apart : offset ≢ at = λ k. omega (arith, e, k) in
    record {
      front = boundary scene (path ++ offset ∷ []) ++ (entry_of scene parent (path ++ offset ∷ []) before of ∷ ih.front);
      behind = ih.behind;
      row_is =
          ap (λ row. boundary scene (path ++ offset ∷ []) ++ (entry_of scene parent (path ++ offset ∷ []) before of ∷ row)) ih.row_is
          ∙ sym (append_assoc here (entry ∷ ih.front) (boundary scene (path ++ at ∷ []) ++ ih.behind));
      entries_are = entries-more scene path offset at ih.front entry ih.entries_are;
      front_plain =
          plain-append here (entry ∷ ih.front) (boundary-plain scene (path ++ offset ∷ []) (h offset apart))
          (entry-plain scene parent (path ++ offset ∷ []) before of s.0, ih.front_plain);
      behind_plain = ih.behind_plain;
    }

-- ---- where the caret is

and-both : (a b : Bool) → (a && b) ≡ true → (a ≡ true) × (b ≡ true)
and-both true b e = (refl, e)
and-both false b e = absurd cc

is_at_most : (a b : ℕ) → nat_le a b ≡ true → a ≤ b
is_at_most a b e = grind (arith, nat_tests)

at_most_is : (a b : ℕ) → a ≤ b → nat_le a b ≡ true
at_most_is a b e = grind (arith, nat_tests)

position-itself : (position : List ℕ) → same_position position position ≡ true
position-itself position =
    elim (same_position position position) as (λ b. same_position position position ≡ b → b ≡ true) [
      | true ↦ λ e. refl
      | false ↦ λ e. absurd (other_text position position (sym e) refl)
    ] refl

-- the position at an offset is in the content
pub offset-in : (path : List ℕ) (count at : ℕ) → at ≤ count → is_in_content path count (path ++ at ∷ []) ≡ true
offset-in path count at h =
    (λ i. same_position (parent_of-push path at i) path && nat_le (offset_of-push path at i) count)
    ∙ ap (λ b. b && nat_le at count) (position-itself path)
    ∙ at_most_is at count h

-- and each one in it is at an offset
pub content-offset : (path : List ℕ) (count : ℕ) (position : List ℕ) → position ≢ [] → is_in_content path count position ≡ true
    → (position ≡ path ++ offset_of position ∷ []) × (offset_of position ≤ count)
content-offset path count position d h =
    let both = and-both (same_position (parent_of position) path) (nat_le (offset_of position) count) h in (
      path-joined position d ∙ ap (λ parent. parent ++ offset_of position ∷ []) (same_text (parent_of position) path (sym both.0)),
      is_at_most (offset_of position) count both.1,
    )

-- whether the caret is in the content of the element at a path
abbrev pub has_in_content : Option Caret → List ℕ → ℕ → Bool
has_in_content None path count = false
has_in_content (Some here) path count = is_in_content path count here.at

nowhere : (there : Option Caret) (path : List ℕ) (count at : ℕ) → has_in_content there path count ≡ false → at ≤ count
    → has_caret there (path ++ at ∷ []) ≡ false
nowhere None path count at e h = refl
nowhere (Some here) path count at e h =
    elim (same_position here.at (path ++ at ∷ [])) as (λ b. same_position here.at (path ++ at ∷ []) ≡ b → b ≡ false) [
      | true ↦ λ t.
          let in_it : is_in_content path count here.at ≡ true = ap (is_in_content path count) (same_text here.at (path ++ at ∷ []) (sym t))
          ∙ offset-in path count at h in
          sym in_it ∙ e
      | false ↦ λ t. refl
    ] refl

elsewhere : (position path : List ℕ) (at other : ℕ) → position ≡ path ++ at ∷ [] → other ≢ at → same_position position (path ++ other ∷ []) ≡ false
elsewhere position path at other e d =
    elim (same_position position (path ++ other ∷ [])) as (λ b. same_position position (path ++ other ∷ []) ≡ b → b ≡ false) [
      | true ↦ λ t. absurd (d (sym (offset_of-push path other) ∙ ap offset_of (sym (same_text position (path ++ other ∷ []) (sym t)) ∙ e)
          ∙ offset_of-push path at))
      | false ↦ λ t. refl
    ] refl

-- ---- whole rows

-- without the caret in it
pub whole-plain : (scene : Scene) (parent path : List ℕ) (list : List Item) → HaveShapes scene.conversion parent 0 (items_of list)
    → has_in_content scene.caret path (length list) ≡ false
    → with_row (row_of scene parent path list) nothing_written ≡ record { front = None; nodes = nest (row_of scene parent path list) }
whole-plain scene parent path list s e =
    written-plain (row_of scene parent path list) None []
    (row-plain scene parent path 0 0 list s (λ at a b. nowhere scene.caret path (length list) at e (omega (arith, b))))

-- with the caret in it: what is written before it and behind it
pub record Met (scene : Scene) (parent path : List ℕ) (list : List Item) (here : Caret) : Type 0 where
  pub left : List ViewNode
  pub right : List ViewNode
  pub written_is : with_row (row_of scene parent path list) nothing_written ≡ record { front = Some left; nodes = right }
  pub nest_is : between left here.layers right ≡ nest (row_of scene parent path list)
  pub place_is : caret_at left here.layers right ≡ boundary_place scene parent path list (offset_of here.at)

met-at : (scene : Scene) (parent path : List ℕ) (list : List Item) (here : Caret) (at : ℕ) → scene.caret ≡ Some here
    → same_position here.at (path ++ at ∷ []) ≡ true → offset_of here.at ≡ at
    → Parted scene parent path 0 0 list at → Met scene parent path list here
met-at scene parent path list here at e t o p =
    let front = p.front in
    let behind = p.behind in
    let there = leaves_at scene (path ++ at ∷ []) in
    let left = front ++ there in
    let here_is : boundary scene (path ++ at ∷ []) ≡ leaves_at scene (path ++ at ∷ []) ++ caret_in here.layers ∷ [] =
    boundary-around scene here (path ++ at ∷ []) e t in
    let row_is : row_of scene parent path list ≡ (p.front ++ leaves_at scene (path ++ at ∷ [])) ++ caret_in here.layers ∷ p.behind =
    p.row_is
    ∙ ap (λ row. p.front ++ (row ++ p.behind)) here_is
    ∙ ap (λ row. p.front ++ row) (append_assoc there (caret_in here.layers ∷ []) behind)
    ∙ sym (append_assoc front there (caret_in here.layers ∷ behind)) in
    let left_plain : IsPlainRow (p.front ++ leaves_at scene (path ++ at ∷ [])) = plain-append front there p.front_plain
    (leaves_at-plain scene (path ++ at ∷ [])) in
    let has : has_caret scene.caret (path ++ at ∷ []) ≡ true = ap (λ c. has_caret c (path ++ at ∷ [])) e ∙ t in
    let start : entries_before scene path at ≡ 0 + length p.front = p.entries_are in
    let size : length (boundary scene (path ++ at ∷ [])) ≡ length (leaves_at scene (path ++ at ∷ [])) + 1 = ap length here_is
    ∙ length-append there (caret_in here.layers ∷ []) in
    let long : length (p.front ++ leaves_at scene (path ++ at ∷ [])) ≡ length p.front + length (leaves_at scene (path ++ at ∷ [])) =
    length-append front there in
    let number : length (p.front ++ leaves_at scene (path ++ at ∷ [])) ≡ (entries_before scene path at + length (boundary scene (path ++ at ∷ []))) -
    1 = omega (arith, start, size, long) in
    record {
      left = nest (p.front ++ leaves_at scene (path ++ at ∷ []));
      right = nest p.behind;
      written_is = ap (λ row. with_row row nothing_written) row_is ∙ written-around left here.layers behind left_plain p.behind_plain;
      nest_is = nest-around left here.layers behind left_plain p.behind_plain ∙ ap nest (sym row_is);
      place_is =
          place-around left here.layers behind left_plain p.behind_plain
          ∙ (λ i. in_pieces as_place (pieces_of (sym row_is i)) (number i) none_passed)
          ∙ ap (λ b. place_of as_place (mark_at (row_of scene parent path list) (entries_before scene path at)
          (entries_before scene path at + length (boundary scene (path ++ at ∷ []))) b)) (sym has)
          ∙ ap (boundary_place scene parent path list) (sym o);
    }

pub whole-met : (scene : Scene) (parent path : List ℕ) (list : List Item) (here : Caret) → HaveShapes scene.conversion parent 0 (items_of list)
    → scene.caret ≡ Some here → here.at ≢ []
    → is_in_content path (length list) here.at ≡ true → Met scene parent path list here
whole-met scene parent path list here s e d t =
    let place = content-offset path (length list) here.at d t in
    let at = offset_of here.at in
    let here_is : same_position here.at (path ++ offset_of here.at ∷ []) ≡ true = ap (same_position here.at) (sym place.0) ∙ position-itself here.at in
    let count : offset_of here.at ≤ length list = place.1 in
    met-at scene parent path list here at e here_is refl
    (parted scene parent path list 0 0 at at (omega arith) place.1 s
    (λ other k. ap (λ c. has_caret c (path ++ other ∷ [])) e ∙ elsewhere here.at path (offset_of here.at) other place.0 k))

-- ---- what was found in the content

pub found-out : (scene : Scene) (parent path : List ℕ) (list : List Item) (there : Option Caret) (found : Option CaretPlace)
    → has_in_content there path (length list) ≡ false
    → found_here scene parent path list there found ≡ found
found-out scene parent path list None found e = refl
found-out scene parent path list (Some here) found e =
    ap (λ b. if b then Some (record { at = here.at; place = boundary_place scene parent path list (offset_of here.at) }) else found) e

pub found-in : (scene : Scene) (parent path : List ℕ) (list : List Item) (there : Option Caret) (here : Caret) (found : Option CaretPlace)
    → there ≡ Some here → is_in_content path (length list) here.at ≡ true
    → found_here scene parent path list there found ≡ Some (record { at = here.at; place = boundary_place scene parent path list (offset_of here.at) })
found-in scene parent path list there here found k e =
    ap (λ c. found_here scene parent path list c found) k
    ∙ ap (λ b. if b then Some (record { at = here.at; place = boundary_place scene parent path list (offset_of here.at) }) else found) e

-- ---- at the end of a row

-- no caret was written
none-written : (scene : Scene) (parent path : List ℕ) (list : List Item) (nodes : List ViewNode) (there : Option Caret) → scene.caret ≡ there
    → HaveShapes scene.conversion parent 0 (items_of list) → IfSome there (λ here. here.at ≢ [])
    → with_row (row_of scene parent path list) nothing_written ≡ record { front = None; nodes = nodes }
    → has_in_content there path (length list) ≡ false
none-written scene parent path list nodes None e s d w = refl
none-written scene parent path list nodes (Some here) e s d w =
    elim (is_in_content path (length list) here.at) as (λ b. is_in_content path (length list) here.at ≡ b → b ≡ false) [
      | true ↦ λ t.
          let met = whole-met scene parent path list here s e d t in
          let k : None ≡ Some met.left = ap (λ (written : Written). written.front) (sym w ∙ met.written_is) in
          absurd cc
      | false ↦ λ t. refl
    ] refl

-- so the nodes are those of the row,
pub finish-none : (scene : Scene) (parent path : List ℕ) (list : List Item) (nodes : List ViewNode)
    → HaveShapes scene.conversion parent 0 (items_of list) → IfSome scene.caret (λ here. here.at ≢ [])
    → with_row (row_of scene parent path list) nothing_written ≡ record { front = None; nodes = nodes }
    → nodes ≡ nest (row_of scene parent path list)
finish-none scene parent path list nodes s d w =
    ap (λ (written : Written). written.nodes) (sym w ∙ whole-plain scene parent path list s (none-written scene parent path list nodes scene.caret refl s d w))

-- and the caret isn't in this content
pub finish-kept : (scene : Scene) (parent path : List ℕ) (list : List Item) (nodes : List ViewNode) (found : Option CaretPlace)
    → HaveShapes scene.conversion parent 0 (items_of list) → IfSome scene.caret (λ here. here.at ≢ [])
    → with_row (row_of scene parent path list) nothing_written ≡ record { front = None; nodes = nodes }
    → found_here scene parent path list scene.caret found ≡ found
finish-kept scene parent path list nodes found s d w =
    found-out scene parent path list scene.caret found (none-written scene parent path list nodes scene.caret refl s d w)

-- where there is no caret, none is written
pub finish-nowhere : (scene : Scene) (parent path : List ℕ) (list : List Item) (front : Option (List ViewNode)) (nodes : List ViewNode)
    → HaveShapes scene.conversion parent 0 (items_of list) → scene.caret ≡ None
    → with_row (row_of scene parent path list) nothing_written ≡ record { front = front; nodes = nodes }
    → front ≡ None
finish-nowhere scene parent path list front nodes s e w =
    ap (λ (written : Written). written.front) (sym w ∙ whole-plain scene parent path list s (ap (λ c. has_in_content c path (length list)) e))

-- the caret was written: it is in this content,
pub finish-in : (scene : Scene) (parent path : List ℕ) (list : List Item) (here : Caret) (front nodes : List ViewNode)
    → HaveShapes scene.conversion parent 0 (items_of list) → scene.caret ≡ Some here
    → with_row (row_of scene parent path list) nothing_written ≡ record { front = Some front; nodes = nodes }
    → is_in_content path (length list) here.at ≡ true
finish-in scene parent path list here front nodes s e w =
    elim (is_in_content path (length list) here.at) as (λ b. is_in_content path (length list) here.at ≡ b → b ≡ true) [
      | true ↦ λ t. refl
      | false ↦ λ t.
          let k : Some front ≡ None =
          ap (λ (written : Written). written.front) (sym w ∙ whole-plain scene parent path list s (ap (λ c. has_in_content c path (length list)) e ∙ t)) in
          absurd cc
    ] refl

met-here : (scene : Scene) (parent path : List ℕ) (list : List Item) (here : Caret) (layers : List Layer) (front nodes : List ViewNode)
    → here.layers ≡ layers → with_row (row_of scene parent path list) nothing_written ≡ record { front = Some front; nodes = nodes }
    → Met scene parent path list here
    → (between front layers nodes ≡ nest (row_of scene parent path list))
    × (caret_at front layers nodes ≡ boundary_place scene parent path list (offset_of here.at))
met-here scene parent path list here layers front nodes l w m =
    let some : Some front ≡ Some m.left = ap (λ (written : Written). written.front) (sym w ∙ m.written_is) in
    let before : front ≡ m.left = cc in
    let behind : nodes ≡ m.right = ap (λ (written : Written). written.nodes) (sym w ∙ m.written_is) in
    ((λ i. between (before i) (sym l i) (behind i)) ∙ m.nest_is, (λ i. caret_at (before i) (sym l i) (behind i)) ∙ m.place_is)

-- the nodes with the caret between them are those of the row,
pub finish-some : (scene : Scene) (parent path : List ℕ) (list : List Item) (here : Caret) (layers : List Layer) (front nodes : List ViewNode)
    → HaveShapes scene.conversion parent 0 (items_of list) → scene.caret ≡ Some here → here.at ≢ [] → here.layers ≡ layers
    → with_row (row_of scene parent path list) nothing_written ≡ record { front = Some front; nodes = nodes }
    → between front layers nodes ≡ nest (row_of scene parent path list)
finish-some scene parent path list here layers front nodes s e d l w =
    (met-here scene parent path list here layers front nodes l w
    (whole-met scene parent path list here s e d (finish-in scene parent path list here front nodes s e w))).0

-- and it is found there
finish-place : (scene : Scene) (parent path : List ℕ) (list : List Item) (here : Caret) (layers : List Layer) (front nodes : List ViewNode)
    → HaveShapes scene.conversion parent 0 (items_of list) → scene.caret ≡ Some here → here.at ≢ [] → here.layers ≡ layers
    → with_row (row_of scene parent path list) nothing_written ≡ record { front = Some front; nodes = nodes }
    → caret_at front layers nodes ≡ boundary_place scene parent path list (offset_of here.at)
finish-place scene parent path list here layers front nodes s e d l w =
    (met-here scene parent path list here layers front nodes l w
    (whole-met scene parent path list here s e d (finish-in scene parent path list here front nodes s e w))).1

pub finish-found : (scene : Scene) (parent path : List ℕ) (list : List Item) (here : Caret) (layers : List Layer) (front nodes : List ViewNode)
    (found : Option CaretPlace)
    → HaveShapes scene.conversion parent 0 (items_of list) → scene.caret ≡ Some here → here.at ≢ [] → here.layers ≡ layers
    → with_row (row_of scene parent path list) nothing_written ≡ record { front = Some front; nodes = nodes }
    → found_here scene parent path list scene.caret found ≡ Some (record { at = here.at; place = caret_at front layers nodes })
finish-found scene parent path list here layers front nodes found s e d l w =
    found-in scene parent path list scene.caret here found e (finish-in scene parent path list here front nodes s e w)
    ∙ ap (λ place. Some (record { at = here.at; place = place })) (sym (finish-place scene parent path list here layers front nodes s e d l w))
