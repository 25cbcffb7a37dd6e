-- What an edit of an attribute leaves as it was: all but the attributes of items.
use Rattle.std.proofs.Common.{◌≡◌, ℕ, zero, suc, ◌+◌, ◌-◌, Bool, true, not, ◌&&◌, if◌then◌else◌, List, [], ◌∷◌, ◌++◌, map, take, drop, Option, Some, option_map}
use Rattle.std.proofs.Common.{slice_get, slice_set, Ok, refl, sym, ap, ◌∙◌}
use Rattle.std.specs.Option.{option_map_or}
use Rattle.std.proofs.lemmas.List.{map-append}
use Rattle.std.proofs.lemmas.List.Elements.{All-head, All-tail}
use Rattle.ck_base.specs.declared.value.Value.{Value as AttributeValue}
use Rattle.item_definitions.specs.Item.{Item, Items, character, element, none, more, list_of, items_of, inner, with_inner}
use Rattle.item_definitions.specs.Children.{parent_of, offset_of, child_count, at, in_item}
use Rattle.item_definitions.specs.Position.{Range, between, IsRange, not_after}
use Rattle.item_definitions.specs.Shift.{stay, carry_range}
use Rattle.operation_definitions.specs.Level.{give, given}
use Rattle.operation_definitions.proofs.Levels.{replaced}
use Rattle.ck_base.proofs.Common.{in_three}
use Rattle.operation_definitions.proofs.Lifting.{map-some, then-some}
use Rattle.operation_definitions.proofs.Names.{numbers_same}
use Rattle.operation_definitions.proofs.Steps.{step-ok}
use Rattle.document_definitions.specs.Markers.{Markers}
use Rattle.document_definitions.specs.Markers as markers
use Rattle.document_definitions.specs.Selection.{Selection, same_position, same_range, selected}
use Rattle.document_definitions.specs.Selection as selections
use Rattle.document_definitions.specs.Document.{State, applied, all_applied}
use Rattle.document_definitions.specs.Sound.{IsSound, AreIn}
use Rattle.edit_definitions.specs.declared.edit.Target.{Target}
use Rattle.edit_definitions.specs.Performed.{performed}
use Rattle.edit_definitions.specs.Given.{attribute_edit, item_without_attributes, inner_without_attributes, without_attributes}
use Rattle.edit_definitions.proofs.Attributed.{Spot, spots_of, change_at}
use Rattle.edit_definitions.proofs.Given.{one-changed}
use Rattle.edit_definitions.proofs.Reaching.{planned_edit}

-- one item with another attribute, or with other items that are the same but for theirs
given-bare : (key : List ℕ) (new : Option AttributeValue) (run : List Item) → map item_without_attributes (given key new run) ≡ map item_without_attributes run
given-bare key new [] = refl
given-bare key new (character scalar attributes ∷ run) = ap (λ rest. item_without_attributes (character scalar attributes) ∷ rest) (given-bare key new run)
given-bare key new (element id name attributes children ∷ run) = ap (λ rest. item_without_attributes (element id name attributes children)
    ∷ rest) (given-bare key new run)

inner-bare : (items : Items) → inner_without_attributes items ≡ items_of (map item_without_attributes (list_of items))
inner-bare none = refl
inner-bare (more item items) = ap (more (item_without_attributes item)) (inner-bare items)

listed-bare : (items : List Item) → inner_without_attributes (items_of items) ≡ items_of (map item_without_attributes items)
listed-bare [] = refl
listed-bare (item ∷ items) = ap (more (item_without_attributes item)) (listed-bare items)

inside-bare : (item : Item) (items new : List Item) → inner item ≡ Some items → map item_without_attributes new ≡ map item_without_attributes items
    → item_without_attributes (with_inner new item) ≡ item_without_attributes item
inside-bare (character scalar attributes) items new e f = refl
inside-bare (element id name attributes children) items new e f =
    let same : list_of children ≡ items = cc in
    ap (element id name []) (listed-bare new ∙ ap items_of (f ∙ ap (map item_without_attributes) (sym same)) ∙ sym (inner-bare children))

set-bare : (xs : List Item) (index : ℕ) (x y : Item) → slice_get xs index ≡ Some x → item_without_attributes y ≡ item_without_attributes x
    → map item_without_attributes (slice_set xs index y) ≡ map item_without_attributes xs
set-bare [] index x y e f = absurd cc
set-bare (z ∷ xs) zero x y e f = (let same : z ≡ x = cc in ap (λ a. a ∷ map item_without_attributes xs) (f ∙ ap item_without_attributes (sym same)))
set-bare (z ∷ xs) (suc index) x y e f = ap (λ rest. item_without_attributes z ∷ rest) (set-bare xs index x y e f)

give-bare : (offset count : ℕ) (key : List ℕ) (new : Option AttributeValue) (xs ys run : List Item) → give offset count key new xs ≡ Some (ys, run)
    → map item_without_attributes ys ≡ map item_without_attributes xs
give-bare offset count key new xs ys run e =
    let r = replaced offset count (λ run. Some (given key new run, run)) xs ys run e in
    let a = take offset xs in
    let b = take count (drop offset xs) in
    let c = drop (offset + count) xs in
    let put : given key new b ≡ r.new = ap (λ (o : Option (List Item × List Item)). option_map_or (λ (m : List Item × List Item). m.0) o []) r.gives in
    ap (map item_without_attributes) (sym r.result ∙ ap (λ n. a ++ (n ++ c)) (sym put)) ∙ parts a (given key new b) c
    ∙ ap (λ m. map item_without_attributes a ++ (m ++ map item_without_attributes c)) (given-bare key new b) ∙ sym (parts a b c)
    ∙ ap (map item_without_attributes) (in_three offset count xs)
  where
    parts : (a b c : List Item) → map item_without_attributes (a ++ (b ++ c)) ≡ map item_without_attributes a
        ++ (map item_without_attributes b ++ map item_without_attributes c)
    parts a b c = map-append item_without_attributes a (b ++ c) ∙ ap (λ m. map item_without_attributes a ++ m) (map-append item_without_attributes b c)

tree-bare : (path : List ℕ) (offset count : ℕ) (key : List ℕ) (new : Option AttributeValue) (xs ys run : List Item) → at path (give offset count key new) xs
    ≡ Some (ys, run)
    → map item_without_attributes ys ≡ map item_without_attributes xs
tree-bare [] offset count key new xs ys run e = give-bare offset count key new xs ys run e
tree-bare (first ∷ path) offset count key new xs ys run e =
    let f = give offset count key new in
    let a = then-some (λ item. option_map (λ (made : Item × List Item). (slice_set xs first made.0, made.1)) (in_item (at path f) item)) (slice_get xs first)
    (ys, run) e in
    let b = map-some (λ (made : Item × List Item). (slice_set xs first made.0, made.1)) (in_item (at path f) a.0) (ys, run) a.2 in
    let c = then-some (λ items. option_map (λ (made : List Item × List Item). (with_inner made.0 a.0, made.1)) (at path f items)) (inner a.0) b.0 b.1 in
    let d = map-some (λ (made : List Item × List Item). (with_inner made.0 a.0, made.1)) (at path f c.0) b.0 c.2 in
    let whole : slice_set xs first (with_inner d.0.0 a.0) ≡ ys = ap (slice_set xs first) (ap (λ (p : Item × List Item). p.0) d.2)
    ∙ ap (λ (p : List Item × List Item). p.0) b.2 in
    ap (map item_without_attributes) (sym whole)
    ∙ set-bare xs first a.0 (with_inner d.0.0 a.0) a.1 (inside-bare a.0 c.0 d.0.0 c.1 (tree-bare path offset count key new c.0 d.0.0 d.0.1 d.1))

-- ranges where nothing moves
range-stays : (range : Range) → not_after range.start range.end ≡ true → carry_range stay range ≡ range
range-stays range ordered = ap (λ b. if not b then between range.start range.start else range) ordered

markers-stay : (items : List Item) (all : Markers) → AreIn items all → markers.carried stay all ≡ all
markers-stay items [] h = refl
markers-stay items (entry ∷ all) h =
    let first = All-head (λ (e : List ℕ × Range). IsRange (child_count items) e.1) entry all h in
    (λ t. (entry.0, range-stays entry.1 first.2 t) ∷ markers-stay items all (All-tail (λ (e : List ℕ × Range). IsRange (child_count items) e.1) entry all h) t)

selection-stays : (selection : Selection) → not_after selection.range.start selection.range.end ≡ true → selections.carried stay selection ≡ selection
selection-stays selection ordered =
    ap (λ r. if same_range r selection.range then selection else selected r selection.backward) (range-stays selection.range ordered)
    ∙ ap (λ b. if b && same_position selection.range.end selection.range.end then selection else selected selection.range selection.backward)
    (numbers_same selection.range.start selection.range.start refl)
    ∙ ap (λ b. if b then selection else selected selection.range selection.backward) (numbers_same selection.range.end selection.range.end refl)

-- so one change after the other
pub rest-stays : (key : List ℕ) (new : Option AttributeValue) (spots : List Spot) (state made : State) → markers.carried stay state.document.markers
    ≡ state.document.markers
    → selections.carried stay state.document.selection ≡ state.document.selection → all_applied (map (change_at key new) spots) state ≡ Ok made
    → without_attributes made ≡ without_attributes state
rest-stays key new [] state made marked selected e = (let same : state ≡ made = cc in ap without_attributes (sym same))
rest-stays key new (spot ∷ spots) state made marked selected e =
    let a = step-ok (applied (change_at key new spot) state) (all_applied (map (change_at key new) spots)) made e in
    let one = one-changed key new spot state a.0 a.1 in
    let markers_are : a.0.document.markers ≡ state.document.markers = ap (λ (s : State). s.document.markers) (sym one.is) ∙ marked in
    let selection_is : a.0.document.selection ≡ state.document.selection = ap (λ (s : State). s.document.selection) (sym one.is) ∙ selected in
    let bare_are = tree-bare (parent_of spot.range.start) (offset_of spot.range.start) (offset_of spot.range.end - offset_of spot.range.start) key new
    state.document.items one.whole one.run one.tree in
    rest-stays key new spots a.0 made (ap (markers.carried stay) markers_are ∙ marked ∙ sym markers_are) (ap (selections.carried stay) selection_is ∙ selected
    ∙ sym selection_is) a.2
    ∙ ap without_attributes (sym one.is)
    ∙ (λ t. record {
      document = record { items = bare_are t; markers = marked t; selection = selected t; next_id = state.document.next_id };
      cells = state.cells;
    })

pub rest_as_before : (registered : List ℕ → Bool) (edit : ℕ) (target : Target) (key : List ℕ) (new : Option AttributeValue) (state made : State) → IsSound state
    → performed registered edit (attribute_edit target key new) state ≡ Ok made → without_attributes made ≡ without_attributes state
rest_as_before registered edit target key new state made sound e =
    let p = planned_edit registered edit target key new state made e in
    rest-stays key new (spots_of key new state.document.items p.parts) state made (markers-stay state.document.items state.document.markers sound.markers)
    (selection-stays state.document.selection sound.selection.0.2) p.done
