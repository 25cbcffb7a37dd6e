-- Where no caret stands, a position is seen by the rule.
use Rattle.std.proofs.Common.{◌≡◌, ℕ, zero, suc, ◌+◌, ◌≤◌, List, [], ◌∷◌, ◌++◌, length, Bool, true, false, Some, refl, sym, ap, ◌∙◌, subst, append_assoc}
use Rattle.std.proofs.Common.{length-append, arith}
use Rattle.std.proofs.lemmas.List.{length-map}
use Rattle.std.proofs.lemmas.Option.{slice_get_within}
use Rattle.std.specs.Prelude.{slice_get, if◌then◌else◌}
use Rattle.item_definitions.specs.Item.{Item, Attributes, items_of}
use Rattle.item_definitions.specs.Item as items
use Rattle.view_definitions.specs.Node.{ViewNode, nodes_of}
use Rattle.view_definitions.specs.NodeCode.{list_of-nodes_of}
use Rattle.view_definitions.specs.Place.{node_at}
use Rattle.view_definitions.specs.Row.{caret, Entry, pieces_of, nest}
use Rattle.downcast_definitions.specs.Scene.{Scene, has_caret, boundary}
use Rattle.downcast_definitions.specs.Place.{as_place}
use Rattle.downcast_definitions.specs.Rows.{row_of}
use Rattle.downcast_definitions.specs.Meant.{meant_in}
use Rattle.downcast_definitions.specs.Seen.{entries_before, place_of, boundary_place, mark_at, character_before, character_layers_at}
use Rattle.downcast_definitions.specs.Shown.{HaveShapes}
use Rattle.downcast_definitions.specs.Among.{place_among, item_among, gap_among, is_character, before_item, seen_among}
use Rattle.downcast_definitions.specs.Rule.{content_nodes, item_before, IsNoCharacter, IsCharacterAt, IsBehindCharacter, IsBeforeCharacter, text_before}
use Rattle.downcast_definitions.specs.Rule.{text_behind, kind_at, kind_of, caret_number}
use Rattle.downcast_definitions.proofs.Marks.{between-nest}
use Rattle.downcast_definitions.proofs.Entries.{AllStand, contents_of, contents-row, get-rest}
use Rattle.downcast_definitions.proofs.Items.{contents-append, around, boundary-caret, row-stands}
use Rattle.downcast_definitions.proofs.Boundaries.{CaretLast}
use Rattle.downcast_definitions.proofs.PlaceKinds.{mark-kind}
use Rattle.downcast_definitions.proofs.Found.{boundary-shown, no-character}
use Rattle.downcast_definitions.proofs.Characters.{Placed, placed, scalar-there}

-- the character that is placed
at-place : (nodes : List ViewNode) (offset scalar : ℕ) (p : Placed (nodes_of nodes) 0 0 offset scalar) (index : ℕ) → p.index ≡ index
    → IsCharacterAt nodes offset scalar (p.at ∷ p.front) index
at-place nodes offset scalar p index e = record {
  scalars = p.scalars;
  there = ap (node_at (p.at ∷ p.front)) (sym (list_of-nodes_of nodes)) ∙ p.there;
  is = ap (slice_get p.scalars) (sym e) ∙ p.is;
  means = λ inners. subst (λ n. meant_in inners 0 (nodes_of nodes) (p.at ∷ (p.front ++ n ∷ [])) ≡ Some (offset ∷ [])) e (p.means inners
      ∙ ap (λ n. Some (n ∷ [])) (omega arith));
}

module _ (scene : Scene) (parent path : List ℕ) (list : List Item) (s : HaveShapes scene.conversion parent 0 (items_of list)) where
  abbrev nodes : List ViewNode
  nodes = content_nodes scene parent path list

  pub behind-character : (offset scalar : ℕ) (attributes : Attributes) → has_caret scene.caret (path ++ suc offset ∷ []) ≡ false → slice_get list offset
      ≡ Some (items.character scalar attributes)
      → IsBehindCharacter (content_nodes scene parent path list) offset scalar (boundary_place scene parent path list (suc offset))
  behind-character offset scalar attributes has e =
      let p = placed (nodes_of nodes) 0 0 offset scalar (scalar-there scene parent path list offset scalar attributes s e) in
      let within = slice_get_within list offset (items.character scalar attributes) e in
      let z : 0 + p.at ≡ p.at = omega arith in
      record {
        in_text = p.at ∷ p.front;
        index = p.index;
        at = at-place nodes offset scalar p p.index refl;
        is =
            sym (boundary-shown scene parent path list (suc offset) s (omega (arith, within)) has)
            ∙ ap (λ b. if b then place_among 1 (nodes_of nodes) offset 0 else before_item (nodes_of nodes) (suc offset) 0) p.one
            ∙ p.behind ∙ ap (λ n. n ∷ (p.front ++ (p.index + 1) ∷ [])) z;
      }

  -- where no character stands before a boundary, it is seen by the item behind it
  by-item-behind : (offset : ℕ) → IsNoCharacter (item_before list offset) → seen_among (nodes_of nodes) offset 0 ≡ before_item (nodes_of nodes) offset 0
  by-item-behind zero n = refl
  by-item-behind (suc offset) n =
      ap (λ b. if b then place_among 1 (nodes_of nodes) offset 0 else before_item (nodes_of nodes) (suc offset) 0)
      (no-character scene parent path list offset (slice_get list offset) s refl n)

  -- a character behind an item that is none is the first of its text
  first-of-text : (offset index : ℕ) → IsNoCharacter (item_before list offset)
      → ((less : ℕ) → index ≡ suc less → (before : ℕ) × (offset ≡ suc before) × (is_character (item_among (nodes_of nodes) before) ≡ true)) → index ≡ 0
  first-of-text offset zero n earlier = refl
  first-of-text offset (suc less) n earlier =
      let there = earlier less refl in
      let none_there : IsNoCharacter (slice_get list there.0) = subst (λ m. IsNoCharacter (item_before list m)) there.1 n in
      let not_one : is_character (item_among (nodes_of nodes) there.0) ≡ false = no-character scene parent path list there.0 (slice_get list there.0) s
      refl none_there in
      let one : is_character (item_among (nodes_of nodes) there.0) ≡ true = there.2 in
      absurd (both (is_character (item_among (nodes_of nodes) there.0)) one not_one)
    where
      both : (b : Bool) → b ≡ true → b ≡ false → ⊥
      both true e f = cc
      both false e f = cc

  pub before-character : (offset scalar : ℕ) (attributes : Attributes) → has_caret scene.caret (path ++ offset ∷ []) ≡ false
      → IsNoCharacter (item_before list offset)
      → slice_get list offset ≡ Some (items.character scalar attributes)
      → IsBeforeCharacter (content_nodes scene parent path list) offset scalar (boundary_place scene parent path list offset)
  before-character offset scalar attributes has n e =
      let p = placed (nodes_of nodes) 0 0 offset scalar (scalar-there scene parent path list offset scalar attributes s e) in
      let within = slice_get_within list offset (items.character scalar attributes) e in
      let z : 0 + p.at ≡ p.at = omega arith in
      let start : p.index ≡ 0 = first-of-text offset p.index n p.earlier in
      record {
        in_text = p.at ∷ p.front;
        at = at-place nodes offset scalar p 0 start;
        is =
            sym (boundary-shown scene parent path list offset s (omega (arith, within)) has)
            ∙ by-item-behind offset n
            ∙ ap (λ b. if b then place_among 0 (nodes_of nodes) offset 0 else gap_among (nodes_of nodes) offset 0) p.one
            ∙ p.here ∙ (λ i. z i ∷ (p.front ++ start i ∷ []));
      }

  pub between-items : (offset : ℕ) → offset ≤ length list → has_caret scene.caret (path ++ offset ∷ []) ≡ false
      → IsNoCharacter (item_before list offset) → IsNoCharacter (slice_get list offset)
      → boundary_place scene parent path list offset ≡ gap_among (nodes_of (content_nodes scene parent path list)) offset 0
  between-items offset h has n m =
      sym (boundary-shown scene parent path list offset s h has)
      ∙ by-item-behind offset n
      ∙ ap (λ b. if b then place_among 0 (nodes_of nodes) offset 0 else gap_among (nodes_of nodes) offset 0)
      (no-character scene parent path list offset (slice_get list offset) s refl m)

-- the mark that finds a place leaves the nodes as they are
pub mark-is-no-node : (row : List Entry) (start end : ℕ) (caret_here : Bool) → nest (mark_at row start end caret_here).row ≡ nest row
mark-is-no-node row start end true = refl
mark-is-no-node row start end false = between-nest row start end (character_before row start) (character_layers_at row end) refl refl

-- the caret is the last entry of its boundary
caret-there : (scene : Scene) (parent path : List ℕ) (list : List Item) (offset : ℕ) → offset ≤ length list → has_caret scene.caret (path ++ offset ∷ []) ≡ true
    → slice_get (contents_of (row_of scene parent path list)) (caret_number scene path offset) ≡ Some caret
caret-there scene parent path list offset h has =
    let a = around scene parent path list 0 0 offset offset (omega arith) h in
    let here = boundary scene (path ++ offset ∷ []) in
    let last : CaretLast (contents_of (boundary scene (path ++ offset ∷ []))) = boundary-caret scene (path ++ offset ∷ []) has in
    let leaves = last.leaves in
    let start : entries_before scene path offset ≡ 0 + length a.front = a.entries_are in
    let long : length (boundary scene (path ++ offset ∷ [])) ≡ length last.leaves + 1 =
    (sym (length-map (boundary scene (path ++ offset ∷ [])) (λ (entry : Entry). entry.content)) ∙ ap length last.is ∙ length-append last.leaves (caret ∷ [])) in
    let front : length (contents_of a.front) ≡ length a.front = length-map a.front (λ (entry : Entry). entry.content) in
    let all : contents_of (row_of scene parent path list) ≡ contents_of a.front ++ (last.leaves ++ (caret ∷ contents_of a.behind)) =
    (ap contents_of a.row_is
    ∙ contents-append a.front (here ++ a.behind)
    ∙ ap (λ cs. contents_of a.front ++ cs) (contents-append here a.behind ∙ ap (λ cs. cs ++ contents_of a.behind) last.is
    ∙ append_assoc leaves (caret ∷ []) (contents_of a.behind))) in
    let place : caret_number scene path offset ≡ length (contents_of a.front) + length last.leaves = omega (arith, start, long, front) in
    ap (λ cs. slice_get cs (caret_number scene path offset)) all
    ∙ get-rest (contents_of a.front) (leaves ++ (caret ∷ contents_of a.behind)) (length leaves) (caret_number scene path offset) place
    ∙ get-rest leaves (caret ∷ contents_of a.behind) 0 (length leaves) (omega arith)

-- the caret is seen by what stands directly before and behind it in its list
pub caret-kind : (scene : Scene) (parent path : List ℕ) (list : List Item) (offset : ℕ) → HaveShapes scene.conversion parent 0 (items_of list)
    → offset ≤ length list → has_caret scene.caret (path ++ offset ∷ []) ≡ true
    → kind_at (nodes_of (content_nodes scene parent path list)) (boundary_place scene parent path list offset)
    ≡ kind_of (text_before false (pieces_of (row_of scene parent path list)) (caret_number scene path offset))
    (text_behind (pieces_of (row_of scene parent path list)) (caret_number scene path offset))
caret-kind scene parent path list offset s h has =
    let row = row_of scene parent path list in
    let start = entries_before scene path offset in
    let end = entries_before scene path offset + length (boundary scene (path ++ offset ∷ [])) in
    ap (λ b. kind_at (nodes_of (nest row)) (place_of as_place (mark_at row start end b))) has
    ∙ mark-kind (pieces_of row) (caret_number scene path offset)
    (subst AllStand (sym (contents-row row)) (row-stands scene parent path 0 0 (items_of list) s))
    (ap (λ cs. slice_get cs (caret_number scene path offset)) (contents-row row) ∙ caret-there scene parent path list offset h has)
