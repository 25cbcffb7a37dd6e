-- What a document is like of which the fixers of elements want nothing.
use Rattle.std.proofs.Common.{◌≡◌, ◌≢◌, ℕ, ◌+◌, List, [], ◌∷◌, ◌++◌, length, Bool, true, false, not, ◌&&◌, IsTrue, All, ◌↔◌, Option, Some, None, refl, sym, ap}
use Rattle.std.proofs.Common.{◌∙◌, subst}
use Rattle.std.specs.Option.{option_map_or}
use Rattle.std.proofs.lemmas.List.Folds.{Any-from_list_any, list_any-from_Any}
use Rattle.ck_base.proofs.Common.{and_false}
use Rattle.item_definitions.specs.Item.{Item, character, element, none, more, attributes_of}
use Rattle.item_definitions.specs.Children.{item_at}
use Rattle.item_definitions.specs.Position.{behind}
use Rattle.edit_definitions.specs.declared.edit.Edit.TheVariants.{InsertElement, Remove, Merge}
use Rattle.edit_definitions.proofs.Reached.{found}
use Rattle.print_definitions.specs.ModelText.{same_attributes}
use Rattle.print_definitions.proofs.Runs.{own_attributes, equal_attributes}
use Rattle.schema_definitions.specs.Allowed.{Rules}
use Rattle.fix_definitions.specs.declared.stock.StockFixer.TheVariants.{Fill, JoinNeighbours, RemoveEmpty, Require}
use Rattle.fix_definitions.specs.Places.{root_of, left_of, places, children_in}
use Rattle.fix_definitions.specs.Wanted.{edit_if, is_named, is_childless, has_child, is_root, joins, wanted}
use Rattle.fix_definitions.specs.AtRest.{item_or_root, AreFilled, AreApart, NoneIsEmpty, HasChild, HaveChild}
use Rattle.fix_definitions.proofs.Plans.{no_edit, not_tested}
use Rattle.fix_definitions.proofs.Neighbours.{left_is, Neighbours, neighbours}
use Rattle.fix_definitions.proofs.Found.{everywhere, at_all}

-- ---- children

-- an element of a name has no children exactly where it is childless
childless : (name : List ℕ) (item : Item) → IsTrue (is_named name item) → (is_named name item && is_childless item) ≡ false → children_in item ≢ []
childless name (character scalar attributes) n h e = cc
childless name (element id other attributes none) n h e = (let f = ap (λ b. b && true) (sym n) ∙ h in cc)
childless name (element id other attributes (more item items)) n h e = cc

with_children : (name : List ℕ) (item : Item) → (IsTrue (is_named name item) → children_in item ≢ []) → (is_named name item && is_childless item) ≡ false
with_children name (character scalar attributes) h = refl
with_children name (element id other attributes none) h = go (is_named name (element id other attributes none)) refl
  where
    go : (b : Bool) → is_named name (element id other attributes none) ≡ b → (b && true) ≡ false
    go true e = absurd (h e refl)
    go false e = refl
with_children name (element id other attributes (more item items)) h = and_false (is_named name (element id other attributes (more item items)))

-- an item at a path is one at the path or the root
or_root : (items : List Item) (path : List ℕ) (item : Item) → item_at path items ≡ Some item → item_or_root path items ≡ Some item
or_root items [] item e = absurd cc
or_root items (index ∷ path) item e = e

-- ---- elements that are filled

pub filled : (rules : Rules) (parent child : List ℕ) (items : List Item) → All (λ place. wanted rules (Fill parent child) place ≡ []) (places items)
    ↔ AreFilled parent items
filled rules parent child items = (there, back)
  where
    there : All (λ place. wanted rules (Fill parent child) place ≡ []) (places items) → AreFilled parent items
    there h [] item e n =
        (let same : root_of items ≡ item = cc in
        childless parent item n (subst (λ item. (is_named parent item && is_childless item) ≡ false) same
        (no_edit (is_named parent (root_of items) && is_childless (root_of items)) (InsertElement ([] ++ 0 ∷ []) child [])
        (everywhere (λ place. wanted rules (Fill parent child) place ≡ []) items h).0)))
    there h (index ∷ path) item e n =
        childless parent item n (no_edit (is_named parent item && is_childless item) (InsertElement ((index ∷ path) ++ 0 ∷ []) child [])
        ((everywhere (λ place. wanted rules (Fill parent child) place ≡ []) items h).1 (index ∷ path) item e))

    back : AreFilled parent items → All (λ place. wanted rules (Fill parent child) place ≡ []) (places items)
    back h =
        at_all (λ place. wanted rules (Fill parent child) place ≡ []) items (
          not_tested (is_named parent (root_of items) && is_childless (root_of items)) (InsertElement ([] ++ 0 ∷ []) child [])
              (with_children parent (root_of items) (h [] (root_of items) refl)),
          λ path item e. not_tested (is_named parent item && is_childless item) (InsertElement (path ++ 0 ∷ []) child [])
              (with_children parent item (h path item (or_root items path item e))),
        )

-- ---- elements that aren't empty

first_two : (a b c : Bool) → (a && b && c) ≡ false → c ≡ true → (a && b) ≡ false
first_two true true true e f = cc
first_two true true false e f = cc
first_two true false c e f = refl
first_two false b c e f = refl

all_three : (a b c : Bool) → (a && b) ≡ false → (a && b && c) ≡ false
all_three true true c e = absurd cc
all_three true false c e = refl
all_three false b c e = refl

none_of : (a b c : Bool) → c ≡ false → (a && b && c) ≡ false
none_of true true c e = e
none_of true false c e = refl
none_of false b c e = refl

pub not_empty : (rules : Rules) (name : List ℕ) (items : List Item) → All (λ place. wanted rules (RemoveEmpty name) place ≡ []) (places items)
    ↔ NoneIsEmpty name items
not_empty rules name items = (there, back)
  where
    there : All (λ place. wanted rules (RemoveEmpty name) place ≡ []) (places items) → NoneIsEmpty name items
    there h [] item e n = absurd cc
    there h (index ∷ path) item e n =
        childless name item n (first_two (is_named name item) (is_childless item) true
        (no_edit (is_named name item && is_childless item && true) (Remove (index ∷ path) (behind (index ∷ path)))
        ((everywhere (λ place. wanted rules (RemoveEmpty name) place ≡ []) items h).1 (index ∷ path) item e)) refl)

    back : NoneIsEmpty name items → All (λ place. wanted rules (RemoveEmpty name) place ≡ []) (places items)
    back h =
        at_all (λ place. wanted rules (RemoveEmpty name) place ≡ []) items (
          not_tested (is_named name (root_of items) && is_childless (root_of items) && false) (Remove [] (behind []))
              (none_of (is_named name (root_of items)) (is_childless (root_of items)) false refl),
          λ path item e. not_tested (is_named name item && is_childless item && not (is_root path)) (Remove path (behind path))
              (all_three (is_named name item) (is_childless item) (not (is_root path)) (with_children name item (h path item e))),
        )

-- ---- elements with what they have to have

both_hold : (a b : Bool) → a ≡ true → (a && not b) ≡ false → b ≡ true
both_hold true true e f = refl
both_hold true false e f = absurd cc
both_hold false b e f = absurd cc

either_fails : (a b : Bool) → (a ≡ true → b ≡ true) → (a && not b) ≡ false
either_fails true b h = ap not (h refl)
either_fails false b h = refl

pub have_child : (rules : Rules) (parent child : List ℕ) (items : List Item) → All (λ place. wanted rules (Require parent child) place ≡ []) (places items)
    ↔ HaveChild parent child items
have_child rules parent child items = (there, back)
  where
    has : (path : List ℕ) (item : Item) → edit_if (is_named parent item && not (has_child child item))
        (InsertElement (path ++ length (children_in item) ∷ []) child []) ≡ []
        → IsTrue (is_named parent item) → HasChild child item
    has path item e n =
        Any-from_list_any (is_named child) (children_in item) (both_hold (is_named parent item) (has_child child item) n
        (no_edit (is_named parent item && not (has_child child item)) (InsertElement (path ++ length (children_in item) ∷ []) child []) e))

    there : All (λ place. wanted rules (Require parent child) place ≡ []) (places items) → HaveChild parent child items
    there h [] item e n =
        (let same : root_of items ≡ item = cc in
        has [] item (subst (λ item. edit_if (is_named parent item && not (has_child child item))
        (InsertElement ([] ++ length (children_in item) ∷ []) child []) ≡ []) same
        (everywhere (λ place. wanted rules (Require parent child) place ≡ []) items h).0) n)
    there h (index ∷ path) item e n =
        has (index ∷ path) item ((everywhere (λ place. wanted rules (Require parent child) place ≡ []) items h).1 (index ∷ path) item e) n

    wants_none : (path : List ℕ) (item : Item) → (IsTrue (is_named parent item) → HasChild child item)
        → edit_if (is_named parent item && not (has_child child item)) (InsertElement (path ++ length (children_in item) ∷ []) child []) ≡ []
    wants_none path item h =
        not_tested (is_named parent item && not (has_child child item)) (InsertElement (path ++ length (children_in item) ∷ []) child [])
        (either_fails (is_named parent item) (has_child child item) (λ n. list_any-from_Any (is_named child) (children_in item) (h n)))

    back : HaveChild parent child items → All (λ place. wanted rules (Require parent child) place ≡ []) (places items)
    back h =
        at_all (λ place. wanted rules (Require parent child) place ≡ []) items
        (wants_none [] (root_of items) (h [] (root_of items) refl), λ path item e. wants_none path item (h path item (or_root items path item e)))

-- ---- elements that are joined

joined_parts : (a b c : Bool) → (a && b && c) ≡ true → (a ≡ true) × (b ≡ true) × (c ≡ true)
joined_parts true true true e = (refl, refl, refl)
joined_parts true true false e = absurd cc
joined_parts true false c e = absurd cc
joined_parts false b c e = absurd cc

pub apart : (rules : Rules) (name : List ℕ) (items : List Item) → All (λ place. wanted rules (JoinNeighbours name) place ≡ []) (places items)
    ↔ AreApart name items
apart rules name items = (there, back)
  where
    there : All (λ place. wanted rules (JoinNeighbours name) place ≡ []) (places items) → AreApart name items
    there h parent offset left right e f n m same =
        let none = no_edit (option_map_or (λ left. joins name left right) (left_of items (parent ++ (offset + 1) ∷ [])) false)
        (Merge (parent ++ (offset + 1) ∷ []))
        ((everywhere (λ place. wanted rules (JoinNeighbours name) place ≡ []) items h).1 (parent ++ (offset + 1) ∷ []) right f) in
        let left_of_it = left_is items parent offset ∙ e in
        let joins_not : joins name left right ≡ false = sym (ap (λ o. option_map_or (λ left. joins name left right) o false) left_of_it) ∙ none in
        let joins_all : joins name left right ≡ true =
        (λ i. n i && m i && (ap (same_attributes (attributes_of left)) (sym same) ∙ own_attributes (attributes_of left)) i) in
        (let both = sym joins_all ∙ joins_not in cc)

    wants_none : (path : List ℕ) (item : Item) (o : Option Item) → AreApart name items → item_at path items ≡ Some item → left_of items path ≡ o
        → option_map_or (λ left. joins name left item) o false ≡ false
    wants_none path item None h e l = refl
    wants_none path item (Some left) h e l = go (joins name left item) refl
      where
        at : Neighbours items path left
        at = neighbours items path left (found path items item e).some l

        go : (b : Bool) → joins name left item ≡ b → b ≡ false
        go true j =
            (let parts = joined_parts (is_named name left) (is_named name item) (same_attributes (attributes_of left) (attributes_of item)) j in
            absurd (h at.parent at.offset left item at.there (sym (ap (λ p. item_at p items) at.here) ∙ e) parts.0 parts.1
            (equal_attributes (attributes_of left) (attributes_of item) parts.2)))
        go false j = refl

    back : AreApart name items → All (λ place. wanted rules (JoinNeighbours name) place ≡ []) (places items)
    back h =
        at_all (λ place. wanted rules (JoinNeighbours name) place ≡ []) items (
          refl,
          λ path item e. not_tested (option_map_or (λ left. joins name left item) (left_of items path) false) (Merge path)
              (wants_none path item (left_of items path) h e refl),
        )
