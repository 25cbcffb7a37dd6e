-- What fixers of elements want of a document, place by place and level by level.
use Rattle.std.proofs.Common.{◌≡◌, ◌≢◌, ℕ, suc, ◌+◌, List, [], ◌∷◌, ◌++◌, map, length, Bool, true, false, not, ◌&&◌, Option, Some, None, slice_get, codes}
use Rattle.std.proofs.Common.{refl, sym, ap, ◌∙◌, arith, append_assoc, append-nil}
use Rattle.std.specs.List.{list_any, flat_map}
use Rattle.std.specs.Option.{option_map_or, option_and_then}
use Rattle.std.specs.Str.{bytes_eq}
use Rattle.item_definitions.specs.Item.{Item, Items, Attributes, character, element, none, more, inner, list_of, items_of}
use Rattle.item_definitions.specs.Children.{children_at, item_at}
use Rattle.item_definitions.specs.Position.{behind}
use Rattle.item_definitions.proofs.Paths.{push-some}
use Rattle.operation_definitions.proofs.Lifting.{list_of-items_of, then-some}
use Rattle.schema_definitions.specs.Allowed.{Rules}
use Rattle.breach_definitions.specs.Breach.{Placed, placed_item, placed_inner}
use Rattle.edit_definitions.specs.declared.edit.Edit.{Edit}
use Rattle.edit_definitions.specs.declared.edit.Edit.TheVariants.{InsertElement, Remove, Merge}
use Rattle.edit_definitions.proofs.Reached.{children-below}
use Rattle.fix_definitions.specs.declared.stock.StockFixer.{StockFixer}
use Rattle.fix_definitions.specs.declared.stock.StockFixer.TheVariants.{DropAttributes, Fill, JoinNeighbours, RemoveEmpty, Require, SelectionPlace}
use Rattle.fix_definitions.specs.Places.{Place, root_of, root_place, left_of, place_of, places}
use Rattle.fix_definitions.specs.Wanted.{edit_if, is_named, is_childless, is_root, joins, wanted}
use Rattle.fix_definitions.proofs.Neighbours.{left_is, no_left}
use Rattle.post_fix.specs.Walked.{is_bare, are_alike, asked, wanted_in, wanted_from, seen_left, root_wanted, IsOfElements}

-- ---- one place

bare_is : (children : Items) (id : ℕ) (name : List ℕ) (attributes : Attributes) → is_childless (element id name attributes children)
    ≡ is_bare (list_of children)
bare_is none id name attributes = refl
bare_is (more item items) id name attributes = refl

and_yes : (a b c : Bool) → c ≡ true → (a && b && c) ≡ (a && b)
and_yes true true c e = e
and_yes true false c e = refl
and_yes false b c e = refl

and_no : (a b c : Bool) → c ≡ false → (a && b && c) ≡ false
and_no true true c e = e
and_no true false c e = refl
and_no false b c e = refl

no_second : (a c : Bool) → (a && false && c) ≡ false
no_second true c = refl
no_second false c = refl

not_root : (path : List ℕ) → path ≢ [] → not (is_root path) ≡ true
not_root [] some = absurd (some refl)
not_root (index ∷ path) some = refl

joined_is : (name : List ℕ) (left : Option Item) (id : ℕ) (other : List ℕ) (attributes : Attributes) (children : Items)
    → option_map_or (λ left. joins name left (element id other attributes children)) left false
    ≡ option_map_or (λ left. are_alike name left (record { id = id; name = other; attributes = attributes })) (seen_left left) false
joined_is name None id other attributes children = refl
joined_is name (Some (character scalar others)) id other attributes children = refl
joined_is name (Some (element left_id left_name others items)) id other attributes children = refl

module _ (rules : Rules) (whole : List Item) where
  abbrev at : List (List ℕ) → List ℕ → Item → Place
  at ancestors path item = place_of whole (record { ancestors = ancestors; path = path; item = item })

  element_is : (fixer : StockFixer) → IsOfElements fixer
      → (ancestors : List (List ℕ)) (path : List ℕ) (id : ℕ) (name : List ℕ) (attributes : Attributes) (children : Items) → path ≢ []
      → wanted rules fixer (at ancestors path (element id name attributes children))
      ≡ asked fixer path (seen_left (left_of whole path)) (record { id = id; name = name; attributes = attributes }) (list_of children)
  element_is DropAttributes h ancestors path id name attributes children some = absurd h
  element_is (Fill parent child) h ancestors path id name attributes children some =
      ap (λ b. edit_if (bytes_eq name parent && b) (InsertElement (path ++ 0 ∷ []) child [])) (bare_is children id name attributes)
  element_is (JoinNeighbours wanted_name) h ancestors path id name attributes children some =
      ap (λ b. edit_if b (Merge path)) (joined_is wanted_name (left_of whole path) id name attributes children)
  element_is (RemoveEmpty wanted_name) h ancestors path id name attributes children some =
      ap (λ b. edit_if b (Remove path (behind path)))
      (and_yes (bytes_eq name wanted_name) (is_childless (element id name attributes children)) (not (is_root path)) (not_root path some)
      ∙ ap (λ b. bytes_eq name wanted_name && b) (bare_is children id name attributes))
  element_is (Require parent child) h ancestors path id name attributes children some = refl
  element_is SelectionPlace h ancestors path id name attributes children some = refl

  joins_none : (name : List ℕ) (left : Option Item) (scalar : ℕ) (attributes : Attributes)
      → option_map_or (λ left. joins name left (character scalar attributes)) left false ≡ false
  joins_none name None scalar attributes = refl
  joins_none name (Some left) scalar attributes = no_second (is_named name left) _

  character_is : (fixer : StockFixer) → IsOfElements fixer → (ancestors : List (List ℕ)) (path : List ℕ) (scalar : ℕ) (attributes : Attributes)
      → wanted rules fixer (at ancestors path (character scalar attributes)) ≡ []
  character_is DropAttributes h ancestors path scalar attributes = absurd h
  character_is (Fill parent child) h ancestors path scalar attributes = refl
  character_is (JoinNeighbours name) h ancestors path scalar attributes = ap (λ b. edit_if b (Merge path))
      (joins_none name (left_of whole path) scalar attributes)
  character_is (RemoveEmpty name) h ancestors path scalar attributes = refl
  character_is (Require parent child) h ancestors path scalar attributes = refl
  character_is SelectionPlace h ancestors path scalar attributes = refl

  -- ---- all places below a path

  pub level_item : (path : List ℕ) (index : ℕ) (items level : List Item) → children_at path items ≡ Some level → item_at (path ++ index ∷ []) items
      ≡ slice_get level index
  level_item [] index items level e = (let same : items ≡ level = cc in ap (λ is. slice_get is index) same)
  level_item (step ∷ []) index items level e =
      let a = then-some (λ item. option_and_then (children_at []) (inner item)) (slice_get items step) level e in
      let b = then-some (children_at []) (inner a.0) level a.2 in
      ap (option_and_then (λ item. option_and_then (item_at (index ∷ [])) (inner item))) a.1 ∙ ap (option_and_then (item_at (index ∷ []))) b.1
      ∙ level_item [] index b.0 level b.2
  level_item (step ∷ next ∷ path) index items level e =
      let a = then-some (λ item. option_and_then (children_at (next ∷ path)) (inner item)) (slice_get items step) level e in
      let b = then-some (children_at (next ∷ path)) (inner a.0) level a.2 in
      ap (option_and_then (λ item. option_and_then (item_at (next ∷ path ++ index ∷ [])) (inner item))) a.1
      ∙ ap (option_and_then (item_at (next ∷ path ++ index ∷ []))) b.1
      ∙ level_item (next ∷ path) index b.0 level b.2

  pub at_front : (front : List Item) (item : Item) (rest : List Item) → slice_get (front ++ item ∷ rest) (length front) ≡ Some item
  at_front [] item rest = refl
  at_front (first ∷ front) item rest = at_front front item rest

  pub length_next : (front : List Item) (item : Item) → length (front ++ item ∷ []) ≡ length front + 1
  length_next [] item = refl
  length_next (first ∷ front) item = ap suc (length_next front item) ∙ omega arith

  module _ (fixer : StockFixer) (h : IsOfElements fixer) where
    abbrev of_placed : List Placed → List Edit
    of_placed placed = flat_map (wanted rules fixer) (map (place_of whole) placed)

    of_placed-append : (xs ys : List Placed) → of_placed (xs ++ ys) ≡ of_placed xs ++ of_placed ys
    of_placed-append [] ys = refl
    of_placed-append (x ∷ xs) ys =
        ap (λ t. wanted rules fixer (place_of whole x) ++ t) (of_placed-append xs ys)
        ∙ sym (append_assoc (wanted rules fixer (place_of whole x)) (of_placed xs) (of_placed ys))

    mutual
      item_is : (ancestors : List (List ℕ)) (path : List ℕ) (item : Item) → path ≢ []
          → ((kids : List Item) → inner item ≡ Some kids → children_at path whole ≡ Some kids)
          → of_placed (placed_item ancestors path item) ≡ wanted_in fixer path (seen_left (left_of whole path)) item
      item_is ancestors path (character scalar attributes) some below = append-nil _ ∙ character_is fixer h ancestors path scalar attributes
      item_is ancestors path (element id name attributes children) some below =
          let inside = inner_is (ancestors ++ name ∷ []) path [] children (below (list_of children) refl)
          ∙ ap (λ left. wanted_from fixer path 0 (seen_left left) children) (no_left whole path) in
          (λ i. element_is fixer h ancestors path id name attributes children some i ++ inside i)

      inner_is : (ancestors : List (List ℕ)) (path : List ℕ) (front : List Item) (items : Items) → children_at path whole ≡ Some (front ++ list_of items)
          → of_placed (placed_inner ancestors path (length front) items)
          ≡ wanted_from fixer path (length front) (seen_left (left_of whole (path ++ length front ∷ []))) items
      inner_is ancestors path front none e = refl
      inner_is ancestors path front (more item items) e =
          let here : item_at (path ++ length front ∷ []) whole ≡ Some item = level_item path (length front) whole (front ++ item ∷ list_of items) e
          ∙ at_front front item (list_of items) in
          let next : length (front ++ item ∷ []) ≡ length front + 1 = length_next front item in
          of_placed-append (placed_item ancestors (path ++ length front ∷ []) item) (placed_inner ancestors path (length front + 1) items)
          ∙ (λ i. item_is ancestors (path ++ length front ∷ []) item (push-some path (length front))
          (λ kids f. children-below path (length front) whole (front ++ item ∷ list_of items) kids item e (at_front front item (list_of items)) f) i
          ++ (ap (λ n. of_placed (placed_inner ancestors path n items)) (sym next)
          ∙ inner_is ancestors path (front ++ item ∷ []) items (e ∙ ap Some (sym (append_assoc front (item ∷ []) (list_of items))))
          ∙ ap (λ n. wanted_from fixer path n (seen_left (left_of whole (path ++ n ∷ []))) items) next
          ∙ ap (λ left. wanted_from fixer path (length front + 1) (seen_left left) items) (left_is whole path (length front) ∙ here)) i)

  root_is : (fixer : StockFixer) → IsOfElements fixer → wanted rules fixer (root_place whole) ≡ root_wanted fixer whole
  root_is DropAttributes h = absurd h
  root_is (Fill parent child) h =
      ap (λ b. edit_if (bytes_eq (codes "$root") parent && b) (InsertElement (0 ∷ []) child []))
      (bare_is (items_of whole) 0 (codes "$root") [] ∙ ap is_bare (list_of-items_of whole))
  root_is (JoinNeighbours name) h = refl
  root_is (RemoveEmpty name) h =
      ap (λ b. edit_if b (Remove [] (behind []))) (and_no (bytes_eq (codes "$root") name) (is_childless (root_of whole)) false refl)
  root_is (Require parent child) h =
      ap (λ items. edit_if (bytes_eq (codes "$root") parent && not (list_any (is_named child) items)) (InsertElement (length items ∷ []) child []))
      (list_of-items_of whole)
  root_is SelectionPlace h = refl

  -- what is wanted of all places
  pub all_is : (fixer : StockFixer) → IsOfElements fixer → flat_map (wanted rules fixer) (places whole)
      ≡ root_wanted fixer whole ++ wanted_from fixer [] 0 None (items_of whole)
  all_is fixer h =
      λ i. root_is fixer h i ++ (inner_is fixer h (codes "$root" ∷ []) [] [] (items_of whole) (ap Some (sym (list_of-items_of whole)))
      ∙ ap (λ left. wanted_from fixer [] 0 (seen_left left) (items_of whole)) (no_left whole [])) i
