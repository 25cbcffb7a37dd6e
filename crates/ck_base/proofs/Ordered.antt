-- Lists of pairs in the order of their names stay so, and a name has its value where its place is.
use Rattle.std.proofs.Common.{◌≡◌, ℕ, suc, ◌+◌, ◌<◌, length, slice_index_or, arith, List, [], ◌∷◌, true, Some, None, Result, Ok, Err, refl, ap, subst}
use Rattle.std.specs.Ordering.{match_ordering, is_lt}
use Rattle.std.specs.declared.cmp.Ordering.TheVariants.{Less, Equal, Greater}
use Rattle.std.specs.Cmp.Lexicographic.{nat_list_cmp_total}
use Rattle.std.specs.FinMap.Entries.{is_sorted-put, below_all}
use Rattle.ck_base.specs.Entries.{name_cmp, IsOrdered, value_of, with_value, without, place_from}
use Rattle.ck_base.proofs.Common.{both, first, second, is_T, is_true, less}

same_ok : (n i : ℕ) → ◌≡◌ {A = Result ℕ ℕ} (Ok n) (Ok i) → i ≡ n + 0
same_ok n i q = let e : n ≡ i = cc in omega (arith, e)

module _ {V : Type 0} where
  -- a new value keeps the order
  pub ordered_with_value : (key : List ℕ) (value : V) (entries : List (List ℕ × V)) → IsOrdered entries → IsOrdered (with_value key value entries)
  ordered_with_value key value entries h = is_true _ (is_sorted-put name_cmp nat_list_cmp_total key value entries (is_T _ h))

  below-without : (x key : List ℕ) (entries : List (List ℕ × V)) → below_all name_cmp x entries ≡ true → below_all name_cmp x (without key entries) ≡ true
  below-without x key [] h = refl
  below-without x key (e ∷ rest) h =
      elim (name_cmp key e.0) as (λ o. below_all name_cmp x (match_ordering o (e ∷ rest) rest (e ∷ without key rest)) ≡ true) [
        | Less ↦ h
        | Equal ↦ second _ _ h
        | Greater ↦ both _ _ (first _ _ h) (below-without x key rest (second _ _ h))
      ]

  -- taking a name out keeps the order
  pub ordered_without : (key : List ℕ) (entries : List (List ℕ × V)) → IsOrdered entries → IsOrdered (without key entries)
  ordered_without key [] h = refl
  ordered_without key (e ∷ rest) h =
      elim (name_cmp key e.0) as (λ o. IsOrdered (match_ordering o (e ∷ rest) rest (e ∷ without key rest))) [
        | Less ↦ h
        | Equal ↦ second _ _ h
        | Greater ↦ both _ _ (below-without e.0 key rest (first _ _ h)) (ordered_without key rest (second _ _ h))
      ]

  -- a name before all names has no value
  pub none_before : (key : List ℕ) (entries : List (List ℕ × V)) → below_all name_cmp key entries ≡ true → value_of key entries ≡ None
  none_before key [] h = refl
  none_before key (e ∷ rest) h =
      let before : name_cmp key e.0 ≡ Less = less (name_cmp key e.0) (first (is_lt (name_cmp key e.0)) (below_all name_cmp key rest) h) in
      rw before (none_before key rest (second (is_lt (name_cmp key e.0)) (below_all name_cmp key rest) h))

  pub before_all : (key x : List ℕ) (entries : List (List ℕ × V)) → name_cmp key x ≡ Less → below_all name_cmp x entries ≡ true → below_all name_cmp key entries
      ≡ true
  before_all key x [] p h = refl
  before_all key x (e ∷ rest) p h =
      let next : name_cmp x e.0 ≡ Less = less (name_cmp x e.0) (first (is_lt (name_cmp x e.0)) (below_all name_cmp x rest) h) in
      let before : name_cmp key e.0 ≡ Less = nat_list_cmp_total.trans key x e.0 p next in
      both (is_lt (name_cmp key e.0)) (below_all name_cmp key rest) (ap is_lt before)
      (before_all key x rest p (second (is_lt (name_cmp x e.0)) (below_all name_cmp x rest) h))

  -- what is known of a name's value where its place was looked for
  abbrev ValueAt : List (List ℕ × V) → List ℕ → Result ℕ ℕ → Type 0
  ValueAt entries key (Ok i) = Unit {0}
  ValueAt entries key (Err i) = value_of key entries ≡ None

  value_later : (key : List ℕ) (e : List ℕ × V) (rest : List (List ℕ × V)) → name_cmp key e.0 ≡ Greater → (place : Result ℕ ℕ) → ValueAt rest key place
      → ValueAt (e ∷ rest) key place
  value_later key e rest p (Ok i) h = tt
  value_later key e rest p (Err i) h = rw p h

  value_from : (key : List ℕ) (n : ℕ) (entries : List (List ℕ × V)) → IsOrdered entries → ValueAt entries key (place_from key n entries)
  value_from key n [] h = refl
  value_from key n (e ∷ rest) h =
      elim (name_cmp key e.0) as (λ o. name_cmp key e.0 ≡ o → ValueAt (e ∷ rest) key (match_ordering o (Err n) (Ok n) (place_from key (n + 1) rest))) [
        | Less ↦ λ p. rw p (none_before key rest (before_all key e.0 rest p (first _ _ h)))
        | Equal ↦ λ p. tt
        | Greater ↦ λ p. value_later key e rest p _ (value_from key (n + 1) rest (second _ _ h))
      ] refl

  -- a name without a place has no value
  pub value_absent : (key : List ℕ) (entries : List (List ℕ × V)) (i : ℕ) → IsOrdered entries → place_from key 0 entries ≡ Err i → value_of key entries ≡ None
  value_absent key entries i h e = let v = value_from key 0 entries h in subst (ValueAt entries key) e v

  found_from : (key : List ℕ) (n : ℕ) (entries : List (List ℕ × V)) (i : ℕ) → place_from key n entries ≡ Ok i → (k : ℕ) × (i ≡ n + k) × (k < length entries)
      × ((x : List ℕ × V) → value_of key entries ≡ Some (slice_index_or entries k x).1)
  found_from key n [] i h = cc
  found_from key n (e ∷ rest) i h =
      elim (name_cmp key e.0) as (λ o. name_cmp key e.0 ≡ o → match_ordering o (Err n) (Ok n) (place_from key (n + 1) rest) ≡ Ok i → (k : ℕ) × (i ≡ n + k)
      × (k < length (e ∷ rest)) × ((x : List ℕ × V) → value_of key (e ∷ rest) ≡ Some (slice_index_or (e ∷ rest) k x).1)) [
        | Less ↦ λ p q. cc
        | Equal ↦ λ p q. (0, same_ok n i q, omega arith, λ x. rw p refl)
        | Greater ↦ λ p q. let f = found_from key (n + 1) rest i q in (suc f.0, omega (arith, f.1), omega (arith, f.2), λ x. rw p (f.3 x))
      ] refl h

  -- a name has the value at its place
  pub value_found : (key : List ℕ) (entries : List (List ℕ × V)) (i : ℕ) (x : List ℕ × V) → place_from key 0 entries ≡ Ok i → value_of key entries
      ≡ Some (slice_index_or entries i x).1
  value_found key entries i x h =
      let f = found_from key 0 entries i h in
      let same : f.0 ≡ i = omega (arith, f.1) in
      subst (λ j. value_of key entries ≡ Some (slice_index_or entries j x).1) same (f.3 x)
