-- What stands at a position, written entry by entry.
use Rattle.std.proofs.Common.{◌≡◌, ℕ, List, [], ◌∷◌, ◌++◌, Bool, true, false, if◌then◌else◌, Option, Some, None, refl, sym, ap, ◌∙◌}
use Rattle.std.specs.Prelude.{option_map}
use Rattle.std.specs.List.{filter_map, cons_option}
use Rattle.item_definitions.specs.Position.{Range}
use Rattle.document_definitions.specs.Markers.{Markers}
use Rattle.view_definitions.specs.Row.{Entry}
use Rattle.converter_definitions.specs.declared.stock.Leaf.{Leaf}
use Rattle.converter_definitions.specs.Layers.{leaf_of}
use Rattle.downcast_definitions.specs.Scene.{leaf_entry, leaves, ends_at, starts_at, carets, boundary}
use Rattle.downcast_definitions.specs.Scene as scene
use Rattle.down_whole.specs.Scenes.{with_leaves, chosen_leaves}
use Rattle.down_whole.specs.Written.{Written, with_row}
use Rattle.down_whole.proofs.Rows.{with_row-append}

one-chosen : (test : Bool) (range : Range) (found : Option Leaf) (entries : List Entry) (rest : List (Range × Leaf)) (chosen : (Range → Bool))
    → chosen range ≡ test → entries ≡ chosen_leaves chosen rest
    → cons_option (if test then option_map leaf_entry found else None) entries
    ≡ chosen_leaves chosen (cons_option (option_map (λ view. (range, view)) found) rest)
one-chosen true range None entries rest chosen t e = e
one-chosen false range None entries rest chosen t e = e
one-chosen true range (Some view) entries rest chosen t e = ap (λ list. leaf_entry view ∷ list) e
    ∙ sym (ap (λ b. if b then leaf_entry view ∷ chosen_leaves chosen rest else chosen_leaves chosen rest) t)
one-chosen false range (Some view) entries rest chosen t e = e
    ∙ sym (ap (λ b. if b then leaf_entry view ∷ chosen_leaves chosen rest else chosen_leaves chosen rest) t)

-- the leaves of the markers that pass a test are chosen among those that have one
pub leaves-chosen : (of : scene.Scene) (test : Range → Bool) (markers : Markers) → of.markers ≡ markers
    → leaves of test ≡ chosen_leaves test (with_leaves of.conversion markers)
leaves-chosen of test markers e =
    ap (λ markers. filter_map (λ marker. if test marker.1 then option_map leaf_entry (leaf_of of.conversion.converters marker.0) else None) markers) e
    ∙ go markers
  where
    go : (markers : Markers) → filter_map (λ marker. if test marker.1 then option_map leaf_entry (leaf_of of.conversion.converters marker.0) else None)
        markers ≡ chosen_leaves test (with_leaves of.conversion markers)
    go [] = refl
    go (marker ∷ markers) = one-chosen (test marker.1) marker.1 (leaf_of of.conversion.converters marker.0) _ (with_leaves of.conversion markers) test
        refl (go markers)

-- all that stands at a position is written
pub boundary_written : (of : scene.Scene) (position : List ℕ) (marked : List (Range × Leaf)) (start ends starts end : Written)
    → marked ≡ with_leaves of.conversion of.markers → ends ≡ with_row (chosen_leaves (ends_at position) marked) start
    → starts ≡ with_row (chosen_leaves (starts_at position) marked) ends
    → end ≡ with_row (carets of.caret position) starts → end ≡ with_row (boundary of position) start
boundary_written of position marked start ends starts end m e s c =
    let first = leaves of (ends_at position) in
    let second = leaves of (starts_at position) in
    let is-first : chosen_leaves (ends_at position) marked ≡ first = ap (chosen_leaves (ends_at position)) m
    ∙ sym (leaves-chosen of (ends_at position) of.markers refl) in
    let is-second : chosen_leaves (starts_at position) marked ≡ second = ap (chosen_leaves (starts_at position)) m
    ∙ sym (leaves-chosen of (starts_at position) of.markers refl) in
    c
    ∙ ap (with_row (carets of.caret position)) (s ∙ (λ i. with_row (is-second i) ((e ∙ ap (λ row. with_row row start) is-first) i)))
    ∙ sym (with_row-append second (carets of.caret position) (with_row first start))
    ∙ sym (with_row-append first (second ++ carets of.caret position) start)
