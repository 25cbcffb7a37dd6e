-- Changes of the list of items at a path.
use Rattle.std.proofs.Common.{◌≡◌, ℕ, ◌+◌, Bool, true, false, nat_le, if◌then◌else◌, List, [], ◌∷◌, ◌++◌, length, take, drop, Option, Some, None, option_map}
use Rattle.std.proofs.Common.{option_and_then, slice_get, slice_set, refl, sym, ap, ◌∙◌}
use Rattle.item_definitions.specs.Item.{Item, inner, with_inner}
use Rattle.item_definitions.specs.Children.{Change, children_at, at, at_index, in_item}
use Rattle.operation_definitions.specs.Level.{replace}
use Rattle.operation_definitions.proofs.Lifting.{map-some, then-some}
use Rattle.model_tree.specs.Places.{only, put_run}

-- what a change of an item, of what is in an item, and of a run make of the whole
abbrev pub set_in : {R : Type 0} → List Item → ℕ → Item × R → List Item × R
set_in xs index made = (slice_set xs index made.0, made.1)

abbrev pub with_in : {R : Type 0} → Item → List Item × R → Item × R
with_in item made = (with_inner made.0 item, made.1)

abbrev put_in_place : {R : Type 0} → ℕ → ℕ → List Item → List Item × R → List Item × R
put_in_place offset count xs made = (take offset xs ++ (made.0 ++ drop (offset + count) xs), made.1)

abbrev first_of_both : {R : Type 0} → List Item × R → List Item
first_of_both made = made.0

abbrev pair_with : {R : Type 0} → R → List Item → List Item × R
pair_with r ys = (ys, r)

-- the item that a path goes through, and what is in it
pub record Through (xs : List Item) (index : ℕ) (path : List ℕ) (level : List Item) : Type 0 where
  pub item : Item
  pub children : List Item
  pub there : slice_get xs index ≡ Some item
  pub here : inner item ≡ Some children
  pub below : children_at path children ≡ Some level

pub through : (xs : List Item) (index : ℕ) (path : List ℕ) (level : List Item) → children_at (index ∷ path) xs ≡ Some level → Through xs index path level
through xs index path level e =
    let a = then-some (λ item. option_and_then (children_at path) (inner item)) (slice_get xs index) level e in
    let b = then-some (children_at path) (inner a.0) level a.2 in
    record { item = a.0; children = b.0; there = a.1; here = b.1; below = b.2 }

-- a change at an index is that of what is in the item there
pub at-through : {R : Type 0} (f : Change R) (xs : List Item) (index : ℕ) (item : Item) (children : List Item) → slice_get xs index ≡ Some item
    → inner item ≡ Some children
    → at_index index (in_item f) xs ≡ option_map (set_in xs index) (option_map (with_in item) (f children))
at-through {R = R} f xs index item children e h =
    ap (option_and_then (λ item. option_map (set_in xs index) (in_item f item))) e
    ∙ ap (option_map (set_in xs index))
    (ap (option_and_then (λ items. option_map (with_in item) (f items))) h)

-- nothing can be changed where no element stands
pub at-nowhere : {R : Type 0} (f : Change R) (path : List ℕ) (xs : List Item) → children_at path xs ≡ None → at path f xs ≡ None
at-nowhere f [] xs e = absurd cc
at-nowhere {R = R} f (index ∷ path) xs e = at_item (λ children h. at-nowhere f path children h) (slice_get xs index) e
  where
    in_some : ((children : List Item) → children_at path children ≡ None → at path f children ≡ None) → (item : Item) (o : Option (List Item))
        → option_and_then (children_at path) o ≡ None
        → option_map (set_in xs index) (option_and_then (λ items. option_map (with_in item) (at path f items)) o) ≡ None
    in_some below item None e = refl
    in_some below item (Some children) e =
        ap (λ o. option_map (set_in xs index) (option_map (with_in item) o)) (below children e)

    at_item : ((children : List Item) → children_at path children ≡ None → at path f children ≡ None) → (o : Option Item)
        → option_and_then (λ item. option_and_then (children_at path) (inner item)) o ≡ None
        → option_and_then (λ item. option_map (set_in xs index) (in_item (at path f) item)) o ≡ None
    at_item below None e = refl
    at_item below (Some item) e = in_some below item (inner item) e

-- nor where the change of the list there fails
pub at-fails : {R : Type 0} (f : Change R) (path : List ℕ) (xs level : List Item) → children_at path xs ≡ Some level → f level ≡ None → at path f xs ≡ None
at-fails f [] xs level e h = (let same : xs ≡ level = cc in ap f same ∙ h)
at-fails {R = R} f (index ∷ path) xs level e h =
    let t = through xs index path level e in
    at-through (at path f) xs index t.item t.children t.there t.here
    ∙ ap (λ o. option_map (set_in xs index) (option_map (with_in t.item) o)) (at-fails f path t.children level t.below h)

abbrev unit : Unit {0}
unit = tt

abbrev Put : Type 0
Put = Option (List Item × Unit {0})

-- a change of a run is that by which the items that it makes of the run stand in its place
pub at-run : {R : Type 0} (f : Change R) (offset count : ℕ) (path : List ℕ) (xs level new : List Item) (r : R) → children_at path xs ≡ Some level
    → f (take count (drop offset level)) ≡ Some (new, r)
    → at path (replace offset count f) xs ≡ option_map (pair_with r) (put_run path offset count new xs)
at-run {R = R} f offset count [] xs level new r e h =
    let same : level ≡ xs = cc in
    let run : f (take count (drop offset xs)) ≡ Some (new, r) = ap (λ l. f (take count (drop offset l))) (sym same) ∙ h in
    ap (λ o. if nat_le (offset + count) (length xs) then option_map (put_in_place offset count xs) o else None) run
    ∙ split (nat_le (offset + count) (length xs))
  where
    split : (t : Bool) → (if t then Some (put_in_place offset count xs (new, r)) else None)
        ≡ option_map (pair_with r) (option_map first_of_both (if t then Some (put_in_place offset count xs (new, unit)) else None))
    split true = refl
    split false = refl
at-run {R = R} f offset count (index ∷ path) xs level new r e h =
    let t = through xs index path level e in
    let g : Change (Unit {0}) = replace offset count (only new) in
    at-through (at path (replace offset count f)) xs index t.item t.children t.there t.here
    ∙ ap (λ o. option_map (set_in xs index) (option_map (with_in t.item) o)) (at-run f offset count path t.children level new r t.below h)
    ∙ split t.item (at path g t.children)
    ∙ ap (λ (o : Put). option_map (pair_with r) (option_map first_of_both o)) (sym (at-through (at path g) xs index t.item t.children t.there t.here))
  where
    split : (item : Item) (o : Put) → option_map (set_in xs index) (option_map (with_in item) (option_map (pair_with r) (option_map first_of_both o)))
        ≡ option_map (pair_with r) (option_map first_of_both (option_map (set_in xs index) (option_map (with_in item) o)))
    split item None = refl
    split item (Some made) = refl

-- what a change at a path went through
pub record Inside {R : Type 0} (xs : List Item) (index : ℕ) (f : Change R) (ys : List Item) (r : R) : Type 0 where
  pub item : Item
  pub children : List Item
  pub new : List Item
  pub there : slice_get xs index ≡ Some item
  pub here : inner item ≡ Some children
  pub made : f children ≡ Some (new, r)
  pub whole : slice_set xs index (with_inner new item) ≡ ys

pub inside : {R : Type 0} (xs : List Item) (index : ℕ) (f : Change R) (ys : List Item) (r : R) → at_index index (in_item f) xs ≡ Some (ys, r)
    → Inside xs index f ys r
inside {R = R} xs index f ys r e =
    let a = then-some (λ item. option_map (set_in xs index) (in_item f item)) (slice_get xs index) (ys, r) e in
    let b = map-some (set_in xs index) (in_item f a.0) (ys, r) a.2 in
    let c = then-some (λ items. option_map (with_in a.0) (f items)) (inner a.0) b.0 b.1 in
    let d = map-some (with_in a.0) (f c.0) b.0 c.2 in
    record {
      item = a.0;
      children = c.0;
      new = d.0.0;
      there = a.1;
      here = c.1;
      made = d.1 ∙ ap (λ v. Some (d.0.0, v)) (ap (λ (p : Item × R). p.1) d.2 ∙ ap (λ (p : List Item × R). p.1) b.2);
      whole = ap (slice_set xs index) (ap (λ (p : Item × R). p.0) d.2) ∙ ap (λ (p : List Item × R). p.0) b.2;
    }
