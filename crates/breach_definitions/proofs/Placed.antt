-- The items of a document with their paths are exactly those that are found at paths, in document order.
use Rattle.std.proofs.Common.{◌≡◌, ℕ, zero, suc, ◌+◌, ◌<◌, List, [], ◌∷◌, ◌++◌, Bool, true, ◌&&◌, ◌||◌, ◌==◌, nat_lt, not, IsTrue, All, Contains, AllPairs}
use Rattle.std.proofs.Common.{Option, Some, None, codes, ◌↔◌, inl, inr, refl, sym, ap, ◌∙◌, subst, arith, append_assoc, append-nil, option_and_then, get_or}
use Rattle.std.proofs.lemmas.Bool.Decides.{nat_tests}
use Rattle.std.specs.Option.{option_map_or}
use Rattle.std.proofs.lemmas.List.Elements.{All-nil, All-append, Contains-get_or, Contains-push_cases, Contains-append_left, Contains-append_right}
use Rattle.std.proofs.lemmas.List.Elements.{Contains-append_cases}
use Rattle.item_definitions.specs.Item.{Item, Items, character, element, none, more, inner, list_of, items_of}
use Rattle.item_definitions.specs.Children.{item_at}
use Rattle.item_definitions.specs.Position.{is_before, not_after}
use Rattle.item_definitions.proofs.Order.{not_after-cons, not_after-parent}
use Rattle.breach_definitions.specs.Breach.{Placed, placed_item, placed_inner, placed_items, item_name}
use Rattle.breach_definitions.specs.Obeys.{names_on, ancestors_at, IsPlaced}

abbrev standing : List (List ℕ) → List ℕ → Item → Placed
standing names path item = record { ancestors = names; path = path; item = item }

no_element : {X : Type 0} (x : X) → Contains [] x → ⊥
no_element x h = let lt = h.1 in omega (arith, lt)

pub only : {X : Type 0} (x y : X) → Contains (x ∷ []) y → x ≡ y
only x y h = elim (Contains-push_cases [] x y h) [ inl c ↦ absurd (no_element y c) | inr e ↦ e ]

pub first : {X : Type 0} (x : X) (xs : List X) → Contains (x ∷ xs) x
first x xs = (0, omega arith, refl)

-- what stands at a path of its own in an item, and the names from the item down to there
abbrev item_in : List ℕ → Item → Option Item
item_in [] item = Some item
item_in (index ∷ path) item = option_and_then (item_at (index ∷ path)) (inner item)

abbrev names_in : List ℕ → Item → List (List ℕ)
names_in [] item = []
names_in (index ∷ path) item = item_name item ∷ option_map_or (names_on (index ∷ path)) (inner item) []

item-first : (rest : List ℕ) (item : Item) (items : List Item) → item_at (0 ∷ rest) (item ∷ items) ≡ item_in rest item
item-first [] item items = refl
item-first (index ∷ rest) item items = refl

names-first : (rest : List ℕ) (item : Item) (items : List Item) → names_on (0 ∷ rest) (item ∷ items) ≡ names_in rest item
names-first [] item items = refl
names-first (index ∷ rest) item items = refl

item-later : (place : ℕ) (rest : List ℕ) (item : Item) (items : List Item) → item_at (suc place ∷ rest) (item ∷ items) ≡ item_at (place ∷ rest) items
item-later place [] item items = refl
item-later place (index ∷ rest) item items = refl

names-later : (place : ℕ) (rest : List ℕ) (item : Item) (items : List Item) → names_on (suc place ∷ rest) (item ∷ items) ≡ names_on (place ∷ rest) items
names-later place [] item items = refl
names-later place (index ∷ rest) item items = refl

item-nowhere : (place : ℕ) (rest : List ℕ) → item_at (place ∷ rest) [] ≡ None
item-nowhere place [] = refl
item-nowhere place (index ∷ rest) = refl

-- where an item of an item, and one of a list from an index on, are found
record IsInItem (names : List (List ℕ)) (path : List ℕ) (item : Item) (placed : Placed) : Type 0 where
  rest : List ℕ
  leads : placed.path ≡ path ++ rest
  found : item_in rest item ≡ Some placed.item
  under : placed.ancestors ≡ names ++ names_in rest item

record IsAmongItems (names : List (List ℕ)) (path : List ℕ) (index : ℕ) (items : List Item) (placed : Placed) : Type 0 where
  place : ℕ
  rest : List ℕ
  leads : placed.path ≡ path ++ (index + place) ∷ rest
  found : item_at (place ∷ rest) items ≡ Some placed.item
  under : placed.ancestors ≡ names ++ names_on (place ∷ rest) items

itself : (names : List (List ℕ)) (path : List ℕ) (item : Item) (placed : Placed) → standing names path item ≡ placed → IsInItem names path item placed
itself names path item placed e = subst (IsInItem names path item) e
    (record { rest = []; leads = sym (append-nil path); found = refl; under = sym (append-nil names) })

mutual
  found_in_item : (names : List (List ℕ)) (path : List ℕ) (item : Item) (placed : Placed) → Contains (placed_item names path item) placed
      → IsInItem names path item placed
  found_in_item names path (character scalar attributes) placed h = itself names path (character scalar attributes) placed (only _ placed h)
  found_in_item names path (element id name attributes children) placed h =
      elim (Contains-append_cases (standing names path (element id name attributes children) ∷ []) (placed_inner (names ++ name ∷ []) path 0 children)
      placed h) [
        | inl c ↦ itself names path (element id name attributes children) placed (only _ placed c)
        | inr c ↦ (let deep = found_among (names ++ name ∷ []) path 0 children placed c in record {
          rest = deep.place ∷ deep.rest;
          leads = deep.leads ∙ (let same : 0 + deep.place ≡ deep.place = omega arith in ap (λ n. path ++ n ∷ deep.rest) same);
          found = deep.found;
          under = deep.under ∙ append_assoc names (name ∷ []) (names_on (deep.place ∷ deep.rest) (list_of children));
        })
      ]

  found_among : (names : List (List ℕ)) (path : List ℕ) (index : ℕ) (items : Items) (placed : Placed)
      → Contains (placed_inner names path index items) placed → IsAmongItems names path index (list_of items) placed
  found_among names path index none placed h = absurd (no_element placed h)
  found_among names path index (more item items) placed h =
      elim (Contains-append_cases (placed_item names (path ++ index ∷ []) item) (placed_inner names path (index + 1) items) placed h) [
        | inl c ↦ (let here = found_in_item names (path ++ index ∷ []) item placed c in record {
          place = 0;
          rest = here.rest;
          leads = here.leads ∙ append_assoc path (index ∷ []) here.rest ∙ (let same : index ≡ index + 0 = omega arith in ap (λ n. path ++ n ∷ here.rest) same);
          found = item-first here.rest item (list_of items) ∙ here.found;
          under = here.under ∙ ap (λ ns. names ++ ns) (sym (names-first here.rest item (list_of items)));
        })
        | inr c ↦ (let later = found_among names path (index + 1) items placed c in record {
          place = suc later.place;
          rest = later.rest;
          leads = later.leads ∙ (let same : index + 1 + later.place ≡ index + suc later.place = omega arith in ap (λ n. path ++ n ∷ later.rest) same);
          found = item-later later.place later.rest item (list_of items) ∙ later.found;
          under = later.under ∙ ap (λ ns. names ++ ns) (sym (names-later later.place later.rest item (list_of items)));
        })
      ]

-- the record of what is found at a path of its own in an item, and in a list from an index on
abbrev placed_in : List (List ℕ) → List ℕ → Item → List ℕ → Item → Placed
placed_in names path item rest found = standing (names ++ names_in rest item) (path ++ rest) found

abbrev placed_among : List (List ℕ) → List ℕ → ℕ → List Item → ℕ → List ℕ → Item → Placed
placed_among names path index items place rest found = standing (names ++ names_on (place ∷ rest) items) (path ++ (index + place) ∷ rest) found

same_placed : (names names' : List (List ℕ)) (path path' : List ℕ) (item item' : Item) → names ≡ names' → path ≡ path' → item ≡ item'
    → standing names path item ≡ standing names' path' item'
same_placed names names' path path' item item' e f g =
    ap (λ ns. standing ns path item) e ∙ ap (λ p. standing names' p item) f ∙ ap (standing names' path') g

mutual
  listed_in_item : (names : List (List ℕ)) (path : List ℕ) (item : Item) (rest : List ℕ) (found : Item) → item_in rest item ≡ Some found
      → Contains (placed_item names path item) (placed_in names path item rest found)
  listed_in_item names path (character scalar attributes) [] found e =
      subst (Contains (placed_item names path (character scalar attributes)))
      (same_placed names (names ++ []) path (path ++ []) (character scalar attributes) found (sym (append-nil names)) (sym (append-nil path)) cc)
      (first _ [])
  listed_in_item names path (character scalar attributes) (index ∷ rest) found e = cc
  listed_in_item names path (element id name attributes children) [] found e =
      subst (Contains (placed_item names path (element id name attributes children)))
      (same_placed names (names ++ []) path (path ++ []) (element id name attributes children) found (sym (append-nil names)) (sym (append-nil path)) cc)
      (first _ (placed_inner (names ++ name ∷ []) path 0 children))
  listed_in_item names path (element id name attributes children) (index ∷ rest) found e =
      subst (Contains (placed_item names path (element id name attributes children)))
      (same_placed ((names ++ name ∷ []) ++ names_on (index ∷ rest) (list_of children))
      (names ++ names_in (index ∷ rest) (element id name attributes children)) (path ++ (0 + index) ∷ rest) (path ++ index ∷ rest) found found
      (append_assoc names (name ∷ []) (names_on (index ∷ rest) (list_of children))) (let same : 0 + index ≡ index = omega arith
      in ap (λ n. path ++ n ∷ rest) same) refl)
      (Contains-append_right (standing names path (element id name attributes children) ∷ []) (placed_inner (names ++ name ∷ []) path 0 children) _
      (listed_among (names ++ name ∷ []) path 0 children index rest found e))

  listed_among : (names : List (List ℕ)) (path : List ℕ) (index : ℕ) (items : Items) (place : ℕ) (rest : List ℕ) (found : Item)
      → item_at (place ∷ rest) (list_of items) ≡ Some found
      → Contains (placed_inner names path index items) (placed_among names path index (list_of items) place rest found)
  listed_among names path index none place rest found e = absurd (let n = sym (item-nowhere place rest) ∙ e in cc)
  listed_among names path index (more item items) zero rest found e =
      subst (Contains (placed_inner names path index (more item items)))
      (same_placed (names ++ names_in rest item) (names ++ names_on (0 ∷ rest) (item ∷ list_of items)) ((path ++ index ∷ []) ++ rest)
      (path ++ (index + 0) ∷ rest) found found
      (ap (λ ns. names ++ ns) (sym (names-first rest item (list_of items)))) (append_assoc path (index ∷ []) rest
      ∙ (let same : index ≡ index + 0 = omega arith in ap (λ n. path ++ n ∷ rest) same)) refl)
      (Contains-append_left (placed_item names (path ++ index ∷ []) item) (placed_inner names path (index + 1) items) _
      (listed_in_item names (path ++ index ∷ []) item rest found (sym (item-first rest item (list_of items)) ∙ e)))
  listed_among names path index (more item items) (suc place) rest found e =
      subst (Contains (placed_inner names path index (more item items)))
      (same_placed (names ++ names_on (place ∷ rest) (list_of items)) (names ++ names_on (suc place ∷ rest) (item ∷ list_of items))
      (path ++ (index + 1 + place) ∷ rest) (path ++ (index + suc place) ∷ rest) found found
      (ap (λ ns. names ++ ns) (sym (names-later place rest item (list_of items)))) (let same : index + 1 + place ≡ index + suc place = omega arith
      in ap (λ n. path ++ n ∷ rest) same) refl)
      (Contains-append_right (placed_item names (path ++ index ∷ []) item) (placed_inner names path (index + 1) items) _
      (listed_among names path (index + 1) items place rest found (sym (item-later place rest item (list_of items)) ∙ e)))

list_of-items_of : (items : List Item) → list_of (items_of items) ≡ items
list_of-items_of [] = refl
list_of-items_of (item ∷ items) = ap (λ rest. item ∷ rest) (list_of-items_of items)

pub members_are_placed : (items : List Item) (placed : Placed) → Contains (placed_items items) placed ↔ IsPlaced items placed
members_are_placed items placed = (there, back)
  where
    there : Contains (placed_items items) placed → IsPlaced items placed
    there h =
        let at = found_among (codes "$root" ∷ []) [] 0 (items_of items) placed h in
        let same = list_of-items_of items in
        record {
          found = ap (λ p. item_at p items) at.leads ∙ (let bare : 0 + at.place ≡ at.place = omega arith in ap (λ n. item_at (n ∷ at.rest) items) bare)
              ∙ sym (ap (item_at (at.place ∷ at.rest)) same) ∙ at.found;
          under = at.under ∙ ap (λ xs. codes "$root" ∷ names_on (at.place ∷ at.rest) xs) same
              ∙ (let bare : at.place ≡ 0 + at.place = omega arith in ap (λ n. ancestors_at (n ∷ at.rest) items) bare)
              ∙ sym (ap (λ p. ancestors_at p items) at.leads);
        }

    listed : (path : List ℕ) → item_at path items ≡ Some placed.item → Contains (placed_items items) (standing (ancestors_at path items) path placed.item)
    listed [] e = cc
    listed (index ∷ rest) e =
        let same = list_of-items_of items in
        subst (Contains (placed_items items)) (ap (λ xs. placed_among (codes "$root" ∷ []) [] 0 xs index rest placed.item) same
        ∙ (let bare : 0 + index ≡ index = omega arith in ap (λ n. standing (ancestors_at (index ∷ rest) items) (n ∷ rest) placed.item) bare))
        (listed_among (codes "$root" ∷ []) [] 0 (items_of items) index rest placed.item (ap (item_at (index ∷ rest)) same ∙ e))

    back : IsPlaced items placed → Contains (placed_items items) placed
    back h = subst (λ ns. Contains (placed_items items) (standing ns placed.path placed.item)) (sym h.under) (listed placed.path h.found)

-- one item comes before another in document order
abbrev pub Earlier : Placed → Placed → Type 0
Earlier earlier later = IsTrue (is_before earlier.path later.path)

module _ {X : Type 0} (R : X → X → Type 0) where
  pairs-nil : AllPairs R []
  pairs-nil i j d less short = absurd (omega (arith, less, short))

  pairs-cons : (x : X) (xs : List X) → All (R x) xs → AllPairs R xs → AllPairs R (x ∷ xs)
  pairs-cons x xs first rest zero zero d less short = absurd (omega (arith, less))
  pairs-cons x xs first rest zero (suc j) d less short = first j d (omega (arith, short))
  pairs-cons x xs first rest (suc i) zero d less short = absurd (omega (arith, less))
  pairs-cons x xs first rest (suc i) (suc j) d less short = rest i j d (omega (arith, less)) (omega (arith, short))

  pub pairs-head : (x : X) (xs : List X) → AllPairs R (x ∷ xs) → All (R x) xs
  pairs-head x xs h k d lt = h 0 (suc k) d (omega arith) (omega (arith, lt))

  pairs-tail : (x : X) (xs : List X) → AllPairs R (x ∷ xs) → AllPairs R xs
  pairs-tail x xs h i j d less short = h (suc i) (suc j) d (omega (arith, less)) (omega (arith, short))

  pub pairs-behind : (xs ys : List X) → AllPairs R (xs ++ ys) → AllPairs R ys
  pairs-behind [] ys h = h
  pairs-behind (x ∷ xs) ys h = pairs-behind xs ys (pairs-tail x (xs ++ ys) h)

  pairs-append : (xs ys : List X) → AllPairs R xs → AllPairs R ys → ((x : X) → Contains xs x → All (R x) ys) → AllPairs R (xs ++ ys)
  pairs-append [] ys h g across = g
  pairs-append (x ∷ xs) ys h g across =
      pairs-cons x (xs ++ ys) (All-append (R x) xs ys (pairs-head x xs h) (across x (first x xs)))
      (pairs-append xs ys (pairs-tail x xs h) g (λ y c. across y (Contains-append_right (x ∷ []) xs y c)))

pub all_contained : {X : Type 0} (P : X → Type 0) (xs : List X) → ((x : X) → Contains xs x → P x) → All P xs
all_contained P xs h k d lt = h (get_or xs k d) (Contains-get_or xs k d lt)

above : (path : List ℕ) (index : ℕ) (rest : List ℕ) → is_before path (path ++ index ∷ rest) ≡ true
above path index rest = ap (λ p. not (not_after (path ++ index ∷ rest) p)) (sym (append-nil path)) ∙ ap not (not_after-parent path (index ∷ rest) [])

before : (path : List ℕ) (index later : ℕ) (rest other : List ℕ) → index < later → is_before (path ++ index ∷ rest) (path ++ later ∷ other) ≡ true
before path index later rest other less =
    ap not (not_after-parent path (later ∷ other) (index ∷ rest) ∙ not_after-cons later index other rest) ∙ step index later (not_after other rest) less
  where
    step : (i k : ℕ) (b : Bool) → i < k → not (nat_lt k i || (k == i && b)) ≡ true
    step i k b less = grind (arith, nat_tests)

mutual
  order_in_item : (names : List (List ℕ)) (path : List ℕ) (item : Item) → AllPairs Earlier (placed_item names path item)
  order_in_item names path (character scalar attributes) = pairs-cons Earlier (standing names path (character scalar attributes)) []
      (All-nil (Earlier (standing names path (character scalar attributes)))) (pairs-nil Earlier)
  order_in_item names path (element id name attributes children) =
      pairs-cons Earlier (standing names path (element id name attributes children)) (placed_inner (names ++ name ∷ []) path 0 children)
      (all_contained (Earlier (standing names path (element id name attributes children))) (placed_inner (names ++ name ∷ []) path 0 children) (λ placed c.
      let at = found_among (names ++ name ∷ []) path 0 children placed c in ap (is_before path) at.leads ∙ above path (0 + at.place) at.rest))
      (order_among (names ++ name ∷ []) path 0 children)

  order_among : (names : List (List ℕ)) (path : List ℕ) (index : ℕ) (items : Items) → AllPairs Earlier (placed_inner names path index items)
  order_among names path index none = pairs-nil Earlier
  order_among names path index (more item items) =
      pairs-append Earlier (placed_item names (path ++ index ∷ []) item) (placed_inner names path (index + 1) items)
      (order_in_item names (path ++ index ∷ []) item) (order_among names path (index + 1) items)
      (λ placed c. all_contained (Earlier placed) (placed_inner names path (index + 1) items) (λ other d.
      let here = found_in_item names (path ++ index ∷ []) item placed c in
      let at = found_among names path (index + 1) items other d in
      ap (λ p. is_before p other.path) (here.leads ∙ append_assoc path (index ∷ []) here.rest) ∙ ap (is_before (path ++ index ∷ here.rest)) at.leads
      ∙ before path index (index + 1 + at.place) here.rest at.rest (omega arith)))

pub members_in_order : (items : List Item) → AllPairs (λ earlier later. IsTrue (is_before earlier.path later.path)) (placed_items items)
members_in_order items = order_among (codes "$root" ∷ []) [] 0 (items_of items)
