-- The places of a document are the root and each item that is found at a path.
use Rattle.std.proofs.Common.{◌≡◌, ℕ, List, [], ◌∷◌, map, All, AllPairs, Contains, IsTrue, ◌↔◌, inl, inr, Some, refl, sym, subst, arith}
use Rattle.std.proofs.lemmas.List.Elements.{All-nil, All-cons, All-head, All-tail, All-contains, All-contains_itself}
use Rattle.std.proofs.lemmas.List.Kept.{AllPairs-cons}
use Rattle.item_definitions.specs.Item.{Item}
use Rattle.item_definitions.specs.Children.{item_at}
use Rattle.item_definitions.specs.Position.{is_before}
use Rattle.breach_definitions.specs.Breach.{Placed, placed_items}
use Rattle.breach_definitions.specs.Obeys.{ancestors_at, IsPlaced}
use Rattle.breach_definitions.proofs.Placed.{pairs-head, pairs-behind, all_contained, members_are_placed, members_in_order}
use Rattle.fix_definitions.specs.Places.{Place, place_of, root_place, places}
use Rattle.fix_definitions.specs.AtRest.{place_at, IsPlaceOf}

module _ {A B : Type 0} (P : B → Type 0) (f : A → B) where
  of_each : (xs : List A) → All P (map f xs) → All (λ x. P (f x)) xs
  of_each [] h = All-nil (λ x. P (f x))
  of_each (x ∷ xs) h = All-cons (λ x. P (f x)) x xs (All-head P (f x) (map f xs) h) (of_each xs (All-tail P (f x) (map f xs) h))

  each_of : (xs : List A) → All (λ x. P (f x)) xs → All P (map f xs)
  each_of [] h = All-nil P
  each_of (x ∷ xs) h = All-cons P (f x) (map f xs) (All-head (λ x. P (f x)) x xs h) (each_of xs (All-tail (λ x. P (f x)) x xs h))

-- what holds at the root and at each item that is found at a path
abbrev pub HoldsEverywhere : (Place → Type 0) → List Item → Type 0
HoldsEverywhere P items = P (root_place items) × ((path : List ℕ) (item : Item) → item_at path items ≡ Some item → P (place_at items path item))

pub everywhere : (P : Place → Type 0) (items : List Item) → All P (places items) → HoldsEverywhere P items
everywhere P items h = (
  All-head P (root_place items) (map (place_of items) (placed_items items)) h,
  λ path item e. All-contains (λ placed. P (place_of items placed)) (placed_items items)
      (record { ancestors = ancestors_at path items; path = path; item = item })
      (of_each P (place_of items) (placed_items items) (All-tail P (root_place items) (map (place_of items) (placed_items items)) h))
      ((members_are_placed items (record { ancestors = ancestors_at path items; path = path; item = item })).1 (record { found = e; under = refl })),
)

pub at_all : (P : Place → Type 0) (items : List Item) → HoldsEverywhere P items → All P (places items)
at_all P items h =
    All-cons P (root_place items) (map (place_of items) (placed_items items)) h.0
    (each_of P (place_of items) (placed_items items)
    (all_contained (λ placed. P (place_of items placed)) (placed_items items) (λ placed c. found placed ((members_are_placed items placed).0 c))))
  where
    found : (placed : Placed) → IsPlaced items placed → P (place_of items placed)
    found placed at =
        subst (λ names. P (place_of items (record { ancestors = names; path = placed.path; item = placed.item }))) (sym at.under)
        (h.1 placed.path placed.item at.found)

pub members : (items : List Item) (place : Place) → Contains (places items) place ↔ IsPlaceOf items place
members items place = (there, back)
  where
    there : Contains (places items) place → IsPlaceOf items place
    there h =
        All-contains (IsPlaceOf items) (places items) place
        (at_all (IsPlaceOf items) items (inl refl, λ path item e. inr (path, item, e, refl))) h

    back : IsPlaceOf items place → Contains (places items) place
    back (inl e) = subst (Contains (places items)) (sym e) (everywhere (Contains (places items)) items (All-contains_itself (places items))).0
    back (inr found) =
        subst (Contains (places items)) (sym found.3)
        ((everywhere (Contains (places items)) items (All-contains_itself (places items))).1 found.0 found.1 found.2)

map_pairs : {A B : Type 0} (R : B → B → Type 0) (f : A → B) (xs : List A) → AllPairs (λ x y. R (f x) (f y)) xs → AllPairs R (map f xs)
map_pairs R f [] h = λ i j d less short. absurd (omega (arith, less, short))
map_pairs R f (x ∷ xs) h =
    AllPairs-cons R (f x) (map f xs) (each_of (R (f x)) f xs (pairs-head (λ x y. R (f x) (f y)) x xs h))
    (map_pairs R f xs (pairs-behind (λ x y. R (f x) (f y)) (x ∷ []) xs h))

abbrev Before : Place → Place → Type 0
Before earlier later = IsTrue (is_before earlier.path later.path)

pub in_order : (items : List Item) → AllPairs (λ earlier later. IsTrue (is_before earlier.path later.path)) (places items)
in_order items =
    AllPairs-cons Before (root_place items) (map (place_of items) (placed_items items))
    (each_of (Before (root_place items)) (place_of items) (placed_items items)
    (all_contained (λ placed. Before (root_place items) (place_of items placed)) (placed_items items)
    (λ placed c. behind_root placed.path placed.item ((members_are_placed items placed).0 c).found)))
    (map_pairs Before (place_of items) (placed_items items) (members_in_order items))
  where
    behind_root : (path : List ℕ) (item : Item) → item_at path items ≡ Some item → IsTrue (is_before [] path)
    behind_root [] item e = absurd cc
    behind_root (index ∷ path) item e = refl
