-- Where a boundary of a row is seen among the nodes that the row nests to.
use Rattle.std.proofs.Common.{◌≡◌, ℕ, zero, suc, ◌≤◌, List, [], ◌∷◌, length, take, false, Some, refl, sym, ap, ◌∙◌, subst}
use Rattle.std.specs.Prelude.{slice_get, if◌then◌else◌}
use Rattle.view_definitions.specs.Node.{nodes_of}
use Rattle.view_definitions.specs.Layer.{Layer}
use Rattle.view_definitions.specs.Row.{Entry, pieces_of, nest}
use Rattle.downcast_definitions.specs.Place.{as_place}
use Rattle.downcast_definitions.specs.Seen.{common, layers_at, layers_before, character_before, character_layers_at, marked, place_of}
use Rattle.downcast_definitions.proofs.Entries.{AllStand, items_in, contents_of, contents-row}
use Rattle.downcast_definitions.proofs.Marks.{mark-behind-nest, mark-before-nest, mark-between-nest}
use Rattle.downcast_definitions.proofs.Boundaries.{marked-get, marked-take, marked-stand, marked-means}
use Rattle.downcast_definitions.specs.Among.{item_among, is_character, place_among, before_item, gap_among, seen_among}
use Rattle.downcast_definitions.specs.Rule.{kind_of}
use Rattle.downcast_definitions.specs.Rule.{text_behind}
use Rattle.downcast_definitions.proofs.Marked.{row-behind, row-before}
use Rattle.downcast_definitions.proofs.TextPlaces.{full-nest}
use Rattle.downcast_definitions.proofs.SeenTexts.{seen-behind, seen-before, marked-kind}
use Rattle.downcast_definitions.proofs.Apart.{NodeBefore, mark-apart}
use Rattle.downcast_definitions.proofs.Gaps.{mark-gap}
use Rattle.downcast_definitions.proofs.Fits.{Between, row-fits, row-clear}

-- behind a character
pub shown-behind : (row : List Entry) (start items : ℕ) (layers : List Layer) → AllStand (contents_of row) → start ≤ length row
    → items_in (take start (contents_of row)) ≡ items
    → character_before row start ≡ Some layers → seen_among (nodes_of (nest row)) items 0 ≡ place_of as_place (marked row start layers)
shown-behind row zero items layers s h i e = cc
shown-behind row (suc start) items layers s h i e =
    let kept = mark-behind-nest row (suc start) layers e in
    seen-behind [] (nodes_of (nest row)) (place_of as_place (marked row (suc start) layers)) items (full-nest row s)
    (marked-kind row (suc start) layers (marked-stand row (suc start) layers s) (marked-get row (suc start) layers h) kept
    ∙ ap (λ b. kind_of b (text_behind (pieces_of (marked row (suc start) layers).row) (suc start))) (row-behind row start layers e))
    (marked-means [] row (suc start) layers s h kept ∙ ap (λ n. Some (n ∷ [])) i)

-- else before a character
pub shown-before : (row : List Entry) (end items : ℕ) (layers : List Layer) → AllStand (contents_of row) → end ≤ length row
    → items_in (take end (contents_of row)) ≡ items
    → character_layers_at row end ≡ Some layers → NodeBefore row end
    → ((one_less : ℕ) → items ≡ suc one_less → is_character (item_among (nodes_of (nest row)) one_less) ≡ false)
    → seen_among (nodes_of (nest row)) items 0 ≡ place_of as_place (marked row end layers)
shown-before row end items layers s h i e n c =
    let kept = mark-before-nest row end layers e in
    seen-before [] (nodes_of (nest row)) (place_of as_place (marked row end layers)) items (full-nest row s)
    (marked-kind row end layers (marked-stand row end layers s) (marked-get row end layers h) kept
    ∙ (λ j. kind_of (mark-apart row end layers n j) (row-before row end layers e j)))
    (marked-means [] row end layers s h kept ∙ ap (λ n. Some (n ∷ [])) i) c

no-character-before : (row : List Entry) (number items : ℕ)
    → ((one_less : ℕ) → items ≡ suc one_less → is_character (item_among (nodes_of (nest row)) one_less) ≡ false)
    → seen_among (nodes_of (nest row)) items 0 ≡ before_item (nodes_of (nest row)) items 0
no-character-before row number zero c = refl
no-character-before row number (suc items) c = ap (λ b. if b then place_among 1 (nodes_of (nest row)) items 0
    else before_item (nodes_of (nest row)) (suc items) 0) (c items refl)

-- else between the nodes
pub shown-between : (row : List Entry) (end items : ℕ) → AllStand (contents_of row) → end ≤ length row → items_in (take end (contents_of row)) ≡ items
    → NodeBefore row end → Between row end → ((one_less : ℕ) → items ≡ suc one_less → is_character (item_among (nodes_of (nest row)) one_less) ≡ false)
    → is_character (item_among (nodes_of (nest row)) items) ≡ false
    → seen_among (nodes_of (nest row)) items 0 ≡ place_of as_place (marked row end (common (layers_before row end) (layers_at row end)))
shown-between row end items s h i n b c o =
    let layers = common (layers_before row end) (layers_at row end) in
    let pieces = pieces_of (marked row end (common (layers_before row end) (layers_at row end))).row in
    no-character-before row end items c
    ∙ ap (λ t. if t then place_among 0 (nodes_of (nest row)) items 0 else gap_among (nodes_of (nest row)) items 0) o
    ∙ sym (mark-gap pieces end (subst AllStand (sym (contents-row (marked row end layers).row)) (marked-stand row end layers s))
    (ap (λ cs. slice_get cs end) (contents-row (marked row end layers).row) ∙ marked-get row end layers h)
    (row-fits row end b) (mark-apart row end layers n) (row-clear row end b)
    ∙ (λ j. gap_among (nodes_of (mark-between-nest row end j))
    ((ap (λ cs. items_in (take end cs)) (contents-row (marked row end layers).row) ∙ ap items_in (marked-take row end layers h) ∙ i) j) 0))
