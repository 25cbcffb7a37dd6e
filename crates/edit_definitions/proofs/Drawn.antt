-- Ids that are drawn one after the other.
use Rattle.std.proofs.Common.{◌≡◌, ℕ, zero, suc, ◌+◌, ◌<◌, ◌≤◌, ◌^◌, false, nat_eq, ◌==◌, List, [], ◌∷◌, ◌++◌, map, length, All, refl, sym, ap, ◌∙◌, arith}
use Rattle.std.specs.List.{IsDistinct, AllByRecursion, range_with_len}
use Rattle.std.proofs.lemmas.Bool.Decides.{nat_tests}
use Rattle.std.proofs.lemmas.List.{length-append}
use Rattle.std.proofs.lemmas.List.Elements.{All-cons, All-head, All-tail}
use Rattle.item_definitions.specs.Item.{Item, Items, character, element, none, more}
use Rattle.document_definitions.specs.Document.{ids_of, ids_of_item, ids_of_inner}
use Rattle.edit_definitions.specs.Runs.{item_with_ids, inner_with_ids, with_ids, item_without_ids, inner_without_ids}

-- the number behind those of items
mutual
  pub next-item : (next : ℕ) (item : Item) → (item_with_ids next item).1 ≡ next + length (ids_of_item item)
  next-item next (character scalar attributes) = omega arith
  next-item next (element id name attributes children) = (let a = next-inner (next + 1) children in omega (arith, a))

  pub next-inner : (next : ℕ) (items : Items) → (inner_with_ids next items).1 ≡ next + length (ids_of_inner items)
  next-inner next none = omega arith
  next-inner next (more item items) =
      let a = next-item next item in
      let b = next-inner (item_with_ids next item).1 items in
      let c = length-append (ids_of_item item) (ids_of_inner items) in
      omega (arith, a, b, c)

numbers-append : (next a b : ℕ) → range_with_len next (a + b) ≡ range_with_len next a ++ range_with_len (next + a) b
numbers-append next zero b = λ i. range_with_len (at i) (same i)
  where
    at : next ≡ next + zero
    at = omega arith

    same : zero + b ≡ b
    same = omega arith
numbers-append next (suc a) b =
    let sum : suc a + b ≡ suc (a + b) = omega arith in
    let at : next + 1 + a ≡ next + suc a = omega arith in
    ap (range_with_len next) sum ∙ ap (λ xs. next ∷ xs) (numbers-append (next + 1) a b ∙ ap (λ n. range_with_len (next + 1) a ++ range_with_len n b) at)

joined-ids : (next : ℕ) (front back : List ℕ) → range_with_len next (length front) ++ range_with_len (next + length front) (length back)
    ≡ range_with_len next (length (front ++ back))
joined-ids next front back = sym (numbers-append next (length front) (length back)) ∙ ap (range_with_len next) (sym (length-append front back))

mutual
  item-ids : (next : ℕ) (item : Item) → ids_of_item (item_with_ids next item).0 ≡ range_with_len next (length (ids_of_item item))
  item-ids next (character scalar attributes) = refl
  item-ids next (element id name attributes children) = ap (λ ids. next ∷ ids) (inner-ids (next + 1) children)

  inner-ids : (next : ℕ) (items : Items) → ids_of_inner (inner_with_ids next items).0 ≡ range_with_len next (length (ids_of_inner items))
  inner-ids next none = refl
  inner-ids next (more item items) =
      (λ i. item-ids next item i ++ inner-ids (item_with_ids next item).1 items i)
      ∙ ap (λ n. range_with_len next (length (ids_of_item item)) ++ range_with_len n (length (ids_of_inner items))) (next-item next item)
      ∙ joined-ids next (ids_of_item item) (ids_of_inner items)

-- new ids are drawn in document order
pub ids-numbered : (next : ℕ) (items : List Item) → ids_of (with_ids next items) ≡ range_with_len next (length (ids_of items))
ids-numbered next [] = refl
ids-numbered next (item ∷ items) =
    (λ i. item-ids next item i ++ ids-numbered (item_with_ids next item).1 items i)
    ∙ ap (λ n. range_with_len next (length (ids_of_item item)) ++ range_with_len n (length (ids_of items))) (next-item next item)
    ∙ joined-ids next (ids_of_item item) (ids_of items)

-- and nothing but ids changes
mutual
  item-as-before : (next : ℕ) (item : Item) → item_without_ids (item_with_ids next item).0 ≡ item_without_ids item
  item-as-before next (character scalar attributes) = refl
  item-as-before next (element id name attributes children) = ap (element 0 name attributes) (inner-as-before (next + 1) children)

  inner-as-before : (next : ℕ) (items : Items) → inner_without_ids (inner_with_ids next items).0 ≡ inner_without_ids items
  inner-as-before next none = refl
  inner-as-before next (more item items) = (λ t. more (item-as-before next item t) (inner-as-before (item_with_ids next item).1 items t))

pub as-before : (next : ℕ) (items : List Item) → map item_without_ids (with_ids next items) ≡ map item_without_ids items
as-before next [] = refl
as-before next (item ∷ items) = (λ t. item-as-before next item t ∷ as-before (item_with_ids next item).1 items t)

differs : (id other : ℕ) → id < other → (id == other) ≡ false
differs id other less = grind (arith, nat_tests)

differs-back : (id other : ℕ) → other < id → (id == other) ≡ false
differs-back id other less = grind (arith, nat_tests)

apart-append : (id : ℕ) (front back : List ℕ) → AllByRecursion (λ other. nat_eq id other ≡ false) front
    → AllByRecursion (λ other. nat_eq id other ≡ false) back → AllByRecursion (λ other. nat_eq id other ≡ false) (front ++ back)
apart-append id [] back h k = k
apart-append id (other ∷ front) back h k = (h.0, apart-append id front back h.1 k)

apart-later : (id next count : ℕ) → id < next → AllByRecursion (λ other. nat_eq id other ≡ false) (range_with_len next count)
apart-later id next zero less = tt
apart-later id next (suc count) less = (differs id next less, apart-later id (next + 1) count (omega arith))

apart-earlier : (id : ℕ) (ids : List ℕ) → All (λ other. (1 ≤ other) × (other < id)) ids → AllByRecursion (λ other. nat_eq id other ≡ false) ids
apart-earlier id [] h = tt
apart-earlier id (other ∷ ids) h =
    let first = All-head (λ other. (1 ≤ other) × (other < id)) other ids h in
    (differs-back id other first.1, apart-earlier id ids (All-tail (λ other. (1 ≤ other) × (other < id)) other ids h))

pub distinct-from : (next count : ℕ) (ids : List ℕ) → All (λ id. (1 ≤ id) × (id < next)) ids → IsDistinct nat_eq ids
    → IsDistinct nat_eq (range_with_len next count ++ ids)
unfolding IsDistinct
distinct-from next zero ids drawn h = h
distinct-from next (suc count) ids drawn h = (
  apart-append next (range_with_len (next + 1) count) ids (apart-later next (next + 1) count (omega arith)) (apart-earlier next ids drawn),
  distinct-from (next + 1) count ids (λ k d less. (let r = drawn k d less in (r.0, omega (arith, r.1)))) h,
)

pub known-from : (next count : ℕ) → 1 ≤ next → next + count ≤ 2 ^ 63 → All (λ id. (1 ≤ id) × (id < 2 ^ 63)) (range_with_len next count)
known-from next zero some most = λ k d less. absurd (omega arith)
known-from next (suc count) some most =
    All-cons (λ id. (1 ≤ id) × (id < 2 ^ 63)) next (range_with_len (next + 1) count) (some, omega (arith, most))
    (known-from (next + 1) count (omega arith) (omega (arith, most)))
