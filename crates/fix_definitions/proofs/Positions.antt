-- The positions of a document that a walk finds are those that are in it, in document order.
use Rattle.std.proofs.Common.{◌≡◌, ℕ, zero, suc, ◌+◌, ◌<◌, ◌≤◌, List, [], ◌∷◌, ◌++◌, length, Bool, true, ◌&&◌, ◌||◌, ◌==◌, nat_lt, not, IsTrue, All, AllPairs}
use Rattle.std.proofs.Common.{Contains, ◌↔◌, inl, inr, Option, Some, None, IsSomeAnd, option_map, slice_get, refl, sym, ap, ◌∙◌, subst, arith, append_assoc}
use Rattle.std.proofs.Common.{append-nil}
use Rattle.std.specs.Option.{option_and_then}
use Rattle.std.proofs.lemmas.Bool.Decides.{nat_tests}
use Rattle.std.proofs.lemmas.List.Elements.{All-append, All-nil, Contains-append_left, Contains-append_right, Contains-append_cases}
use Rattle.std.proofs.lemmas.List.Kept.{AllPairs-cons}
use Rattle.item_definitions.specs.Item.{Item, Items, character, element, none, more, inner, list_of, items_of}
use Rattle.operation_definitions.proofs.Lifting.{list_of-items_of}
use Rattle.item_definitions.specs.Children.{parent_of, offset_of, children_at}
use Rattle.item_definitions.specs.Position.{IsIn, is_before, not_after}
use Rattle.item_definitions.proofs.Order.{not_after-cons, not_after-parent}
use Rattle.breach_definitions.proofs.Placed.{only, first, pairs-head, pairs-behind, all_contained}
use Rattle.fix_definitions.specs.Selecting.{positions_in, positions_from, positions}

-- ---- a position in items, level by level

abbrev Stands : List ℕ → List Item → Type 0
Stands [] items = ⊥
Stands (offset ∷ []) items = offset ≤ length items
Stands (index ∷ next ∷ rest) items =
    (item : Item) × (kids : List Item) × (slice_get items index ≡ Some item) × (inner item ≡ Some kids) × Stands (next ∷ rest) kids

in_stands : (position : List ℕ) (items : List Item) → IsIn items position → Stands position items
in_stands [] items h = absurd (h.0 refl)
in_stands (offset ∷ []) items h = h.1
in_stands (index ∷ next ∷ rest) items h = go (in_stands (next ∷ rest)) (slice_get items index) refl h.1
  where
    inside : ((kids : List Item) → IsIn kids (next ∷ rest) → Stands (next ∷ rest) kids) → (item : Item) → slice_get items index ≡ Some item
        → (o : Option (List Item)) → inner item ≡ o
        → IsSomeAnd (option_map length (option_and_then (children_at (parent_of (next ∷ rest))) o)) (λ count. offset_of (next ∷ rest) ≤ count)
        → Stands (index ∷ next ∷ rest) items
    inside deeper item e None f h = absurd h
    inside deeper item e (Some kids) f h = (item, kids, e, f, deeper kids ((λ e. cc), h))

    go : ((kids : List Item) → IsIn kids (next ∷ rest) → Stands (next ∷ rest) kids) → (o : Option Item) → slice_get items index ≡ o
        → IsSomeAnd (option_map length (option_and_then (λ item. option_and_then (children_at (parent_of (next ∷ rest))) (inner item)) o))
        (λ count. offset_of (next ∷ rest) ≤ count)
        → Stands (index ∷ next ∷ rest) items
    go deeper None e h = absurd h
    go deeper (Some item) e h = inside deeper item e (inner item) refl h

stands_in : (position : List ℕ) (items : List Item) → Stands position items → IsIn items position
stands_in [] items h = absurd h
stands_in (offset ∷ []) items h = ((λ e. cc), h)
stands_in (index ∷ next ∷ rest) items h = (
  (λ e. cc),
  subst (λ o. IsSomeAnd (option_map length (option_and_then (λ item. option_and_then (children_at (parent_of (next ∷ rest))) (inner item)) o))
      (λ count. offset_of (next ∷ rest) ≤ count)) (sym h.2)
      (subst (λ o. IsSomeAnd (option_map length (option_and_then (children_at (parent_of (next ∷ rest))) o)) (λ count. offset_of (next ∷ rest) ≤ count))
      (sym h.3) (stands_in (next ∷ rest) h.1 h.4).1),
)

stands-later : (place : ℕ) (rest : List ℕ) (item : Item) (items : List Item) → Stands (place ∷ rest) items → Stands (suc place ∷ rest) (item ∷ items)
stands-later place [] item items h = omega (arith, h)
stands-later place (next ∷ rest) item items h = h

stands-before : (place : ℕ) (rest : List ℕ) (item : Item) (items : List Item) → Stands (suc place ∷ rest) (item ∷ items) → Stands (place ∷ rest) items
stands-before place [] item items h = omega (arith, h)
stands-before place (next ∷ rest) item items h = h

-- ---- what the walk finds

-- where a position in an item, and one among items from an offset on, is found
record IsInside (path : List ℕ) (item : Item) (position : List ℕ) : Type 0 where
  next : ℕ
  rest : List ℕ
  kids : List Item
  leads : position ≡ path ++ next ∷ rest
  holds : inner item ≡ Some kids
  stands : Stands (next ∷ rest) kids

record IsAmong (path : List ℕ) (offset : ℕ) (items : List Item) (position : List ℕ) : Type 0 where
  place : ℕ
  rest : List ℕ
  leads : position ≡ path ++ (offset + place) ∷ rest
  stands : Stands (place ∷ rest) items

nothing_in : {X : Type 0} (x : X) → Contains [] x → ⊥
nothing_in x h = (let lt = h.1 in omega (arith, lt))

here_among : (path : List ℕ) (offset : ℕ) (items : List Item) (position : List ℕ) → path ++ offset ∷ [] ≡ position → IsAmong path offset items position
here_among path offset items position e = record {
  place = 0;
  rest = [];
  leads = sym e ∙ (let same : offset ≡ offset + 0 = omega arith in ap (λ n. path ++ n ∷ []) same);
  stands = omega arith;
}

mutual
  found_inside : (path : List ℕ) (item : Item) (position : List ℕ) → Contains (positions_in path item) position → IsInside path item position
  found_inside path (character scalar attributes) position h = absurd (nothing_in position h)
  found_inside path (element id name attributes children) position h =
      let deep = found_among path 0 children position h in record {
        next = deep.place;
        rest = deep.rest;
        kids = list_of children;
        leads = deep.leads ∙ (let same : 0 + deep.place ≡ deep.place = omega arith in ap (λ n. path ++ n ∷ deep.rest) same);
        holds = refl;
        stands = deep.stands;
      }

  found_among : (path : List ℕ) (offset : ℕ) (items : Items) (position : List ℕ) → Contains (positions_from path offset items) position
      → IsAmong path offset (list_of items) position
  found_among path offset none position h = here_among path offset [] position (only (path ++ offset ∷ []) position h)
  found_among path offset (more item items) position h =
      elim (Contains-append_cases ((path ++ offset ∷ []) ∷ []) (positions_in (path ++ offset ∷ []) item ++ positions_from path (offset + 1) items) position h) [
        | inl c ↦ here_among path offset (item ∷ list_of items) position (only (path ++ offset ∷ []) position c)
        | inr c ↦ elim (Contains-append_cases (positions_in (path ++ offset ∷ []) item) (positions_from path (offset + 1) items) position c) [
          | inl d ↦ (let inside = found_inside (path ++ offset ∷ []) item position d in record {
            place = 0;
            rest = inside.next ∷ inside.rest;
            leads = inside.leads ∙ append_assoc path (offset ∷ []) (inside.next ∷ inside.rest)
                ∙ (let same : offset ≡ offset + 0 = omega arith in ap (λ n. path ++ n ∷ inside.next ∷ inside.rest) same);
            stands = (item, inside.kids, refl, inside.holds, inside.stands);
          })
          | inr d ↦ (let later = found_among path (offset + 1) items position d in record {
            place = suc later.place;
            rest = later.rest;
            leads = later.leads ∙ (let same : offset + 1 + later.place ≡ offset + suc later.place = omega arith in ap (λ n. path ++ n ∷ later.rest) same);
            stands = stands-later later.place later.rest item (list_of items) later.stands;
          })
        ]
      ]

mutual
  listed_inside : (path : List ℕ) (item : Item) (next : ℕ) (rest : List ℕ) (kids : List Item) → inner item ≡ Some kids → Stands (next ∷ rest) kids
      → Contains (positions_in path item) (path ++ next ∷ rest)
  listed_inside path (character scalar attributes) next rest kids e h = absurd cc
  listed_inside path (element id name attributes children) next rest kids e h =
      let same : list_of children ≡ kids = cc in
      subst (λ n. Contains (positions_from path 0 children) (path ++ n ∷ rest)) (omega arith)
      (listed_among path 0 children next rest (subst (Stands (next ∷ rest)) (sym same) h))

  listed_among : (path : List ℕ) (offset : ℕ) (items : Items) (place : ℕ) (rest : List ℕ) → Stands (place ∷ rest) (list_of items)
      → Contains (positions_from path offset items) (path ++ (offset + place) ∷ rest)
  listed_among path offset none place [] h =
      subst (λ n. Contains (positions_from path offset none) (path ++ n ∷ [])) (omega (arith, h)) (first (path ++ offset ∷ []) [])
  listed_among path offset none place (next ∷ rest) h = absurd (let e = h.2 in cc)
  listed_among path offset (more item items) zero [] h =
      subst (λ n. Contains (positions_from path offset (more item items)) (path ++ n ∷ [])) (omega arith)
      (first (path ++ offset ∷ []) (positions_in (path ++ offset ∷ []) item ++ positions_from path (offset + 1) items))
  listed_among path offset (more item items) zero (next ∷ rest) h =
      let same : item ≡ h.0 = (let e = h.2 in cc) in
      subst (Contains (positions_from path offset (more item items)))
      (append_assoc path (offset ∷ []) (next ∷ rest) ∙ (let bare : offset ≡ offset + 0 = omega arith in ap (λ n. path ++ n ∷ next ∷ rest) bare))
      (Contains-append_right ((path ++ offset ∷ []) ∷ []) (positions_in (path ++ offset ∷ []) item ++ positions_from path (offset + 1) items)
      ((path ++ offset ∷ []) ++ next ∷ rest)
      (Contains-append_left (positions_in (path ++ offset ∷ []) item) (positions_from path (offset + 1) items) ((path ++ offset ∷ []) ++ next ∷ rest)
      (listed_inside (path ++ offset ∷ []) item next rest h.1 (ap inner same ∙ h.3) h.4)))
  listed_among path offset (more item items) (suc place) rest h =
      subst (λ n. Contains (positions_from path offset (more item items)) (path ++ n ∷ rest)) (omega arith)
      (Contains-append_right ((path ++ offset ∷ []) ∷ []) (positions_in (path ++ offset ∷ []) item ++ positions_from path (offset + 1) items)
      (path ++ (offset + 1 + place) ∷ rest)
      (Contains-append_right (positions_in (path ++ offset ∷ []) item) (positions_from path (offset + 1) items) (path ++ (offset + 1 + place) ∷ rest)
      (listed_among path (offset + 1) items place rest (stands-before place rest item (list_of items) h))))

pub members : (items : List Item) (position : List ℕ) → Contains (positions items) position ↔ IsIn items position
members items position = (there, back position)
  where
    there : Contains (positions items) position → IsIn items position
    there h =
        let at = found_among [] 0 (items_of items) position h in
        let bare : 0 + at.place ≡ at.place = omega arith in
        subst (IsIn items) (sym (at.leads ∙ ap (λ n. n ∷ at.rest) bare))
        (stands_in (at.place ∷ at.rest) items (subst (Stands (at.place ∷ at.rest)) (list_of-items_of items) at.stands))

    back : (position : List ℕ) → IsIn items position → Contains (positions items) position
    back [] h = absurd (h.0 refl)
    back (place ∷ rest) h =
        subst (λ n. Contains (positions items) (n ∷ rest)) (omega arith)
        (listed_among [] 0 (items_of items) place rest (subst (Stands (place ∷ rest)) (sym (list_of-items_of items)) (in_stands (place ∷ rest) items h)))

-- ---- document order

abbrev Before : List ℕ → List ℕ → Type 0
Before position other = IsTrue (is_before position other)

above : (path : List ℕ) (next : ℕ) (rest : List ℕ) → is_before path (path ++ next ∷ rest) ≡ true
above path next rest = ap (λ p. not (not_after (path ++ next ∷ rest) p)) (sym (append-nil path)) ∙ ap not (not_after-parent path (next ∷ rest) [])

ahead : (path : List ℕ) (index later : ℕ) (rest other : List ℕ) → index < later → is_before (path ++ index ∷ rest) (path ++ later ∷ other) ≡ true
ahead path index later rest other less =
    ap not (not_after-parent path (later ∷ other) (index ∷ rest) ∙ not_after-cons later index other rest) ∙ step index later (not_after other rest) less
  where
    step : (i k : ℕ) (b : Bool) → i < k → not (nat_lt k i || (k == i && b)) ≡ true
    step i k b less = grind (arith, nat_tests)

no_pairs : {X : Type 0} (R : X → X → Type 0) → AllPairs R []
no_pairs R i j d less short = absurd (omega (arith, less, short))

pairs_joined : {X : Type 0} (R : X → X → Type 0) (xs ys : List X) → AllPairs R xs → AllPairs R ys → ((x : X) → Contains xs x → All (R x) ys)
    → AllPairs R (xs ++ ys)
pairs_joined R [] ys h g across = g
pairs_joined R (x ∷ xs) ys h g across =
    AllPairs-cons R x (xs ++ ys) (All-append (R x) xs ys (pairs-head R x xs h) (across x (first x xs)))
    (pairs_joined R xs ys (pairs-behind R (x ∷ []) xs h) g (λ y c. across y (Contains-append_right (x ∷ []) xs y c)))

mutual
  order_inside : (path : List ℕ) (item : Item) → AllPairs Before (positions_in path item)
  order_inside path (character scalar attributes) = no_pairs Before
  order_inside path (element id name attributes children) = order_among path 0 children

  order_among : (path : List ℕ) (offset : ℕ) (items : Items) → AllPairs Before (positions_from path offset items)
  order_among path offset none = AllPairs-cons Before (path ++ offset ∷ []) [] (All-nil (Before (path ++ offset ∷ []))) (no_pairs Before)
  order_among path offset (more item items) =
      let inside = positions_in (path ++ offset ∷ []) item in
      let later = positions_from path (offset + 1) items in
      AllPairs-cons Before (path ++ offset ∷ []) (inside ++ later)
      (All-append (Before (path ++ offset ∷ [])) inside later
      (all_contained (Before (path ++ offset ∷ [])) inside (λ position c.
      let at = found_inside (path ++ offset ∷ []) item position c in ap (is_before (path ++ offset ∷ [])) at.leads
      ∙ above (path ++ offset ∷ []) at.next at.rest))
      (all_contained (Before (path ++ offset ∷ [])) later (λ position c.
      let at = found_among path (offset + 1) items position c in
      ap (is_before (path ++ offset ∷ [])) at.leads ∙ ahead path offset (offset + 1 + at.place) [] at.rest (omega arith))))
      (pairs_joined Before inside later (order_inside (path ++ offset ∷ []) item) (order_among path (offset + 1) items)
      (λ position c. all_contained (Before position) later (λ other d.
      let here = found_inside (path ++ offset ∷ []) item position c in
      let at = found_among path (offset + 1) items other d in
      ap (λ p. is_before p other) (here.leads ∙ append_assoc path (offset ∷ []) (here.next ∷ here.rest))
      ∙ ap (is_before (path ++ offset ∷ here.next ∷ here.rest)) at.leads
      ∙ ahead path offset (offset + 1 + at.place) (here.next ∷ here.rest) at.rest (omega arith))))

pub in_order : (items : List Item) → AllPairs (λ position other. IsTrue (is_before position other)) (positions items)
in_order items = order_among [] 0 (items_of items)
