-- A table whose names are in order, as a map.
use Rattle.std.proofs.Common.{◌≡◌, ℕ, zero, suc, ◌+◌, slice_index_or, arith, List, [], ◌∷◌, ◌++◌, Bool, true, false, cond, ◌&&◌, T, Some, None, nat_eq, refl}
use Rattle.std.proofs.Common.{sym, ap, ◌∙◌, subst}
use Rattle.std.specs.Ordering.{is_lt, is_eq, eq_by_cmp, ordering_reverse, match_ordering}
use Rattle.std.specs.declared.cmp.Ordering.{Ordering}
use Rattle.std.specs.declared.cmp.Ordering.TheVariants.{Less, Equal, Greater}
use Rattle.std.specs.Cmp.Lexicographic.{pointwise, texts_ties, nat_list_cmp_total}
use Rattle.std.specs.List.{IsDistinct}
use Rattle.std.specs.List.Sorted.{IsSorted}
use Rattle.std.specs.Map.{keys_of, lookup, remove_entry, set_value}
use Rattle.std.specs.FinMap.Entries.{below_all, same_entries, find-put}
use Rattle.ck_base.specs.Entries.{name_cmp, IsOrdered, value_of, with_value, without}
use Rattle.ck_base.proofs.Common.{first, second, less, both}
use Rattle.ck_base.proofs.Ordered.{before_all, none_before, ordered_with_value}
use Rattle.ck_base.proofs.Places.{same_name}
use Rattle.item_definitions.specs.Position.{behind}
use Rattle.item_definitions.proofs.Order.{behind-push}

-- the first of two names comes before the second
reversed : (o : Ordering) → o ≡ Less → is_lt (ordering_reverse o) ≡ false
reversed Less e = refl
reversed Equal e = cc
reversed Greater e = cc

neither : (o : Ordering) → is_eq o ≡ false → is_lt (ordering_reverse o) ≡ false → o ≡ Less
neither Less e f = refl
neither Equal e f = cc
neither Greater e f = cc

turned : (o : Ordering) → is_eq (ordering_reverse o) ≡ is_eq o
turned Less = refl
turned Equal = refl
turned Greater = refl

is_T : (b : Bool) → b ≡ true → T b
is_T b e = subst T (sym e) tt

-- the same name either way round
either : (x y : List ℕ) → eq_by_cmp name_cmp x y ≡ pointwise nat_eq y x
either x y = ap is_eq (nat_list_cmp_total.antisymm x y) ∙ turned (name_cmp y x) ∙ sym (texts_ties y x)

-- the position behind the last item of a path
pub behind_last : (parent : List ℕ) (k : ℕ) → behind (parent ++ k ∷ []) ≡ parent ++ (k + 1) ∷ []
behind_last = behind-push

module _ {V : Type 0} where
  -- a look-up by name is the map's
  pub looked_up : (name : List ℕ) (entries : List (List ℕ × V)) → lookup (pointwise nat_eq name) entries ≡ value_of name entries
  looked_up name [] = refl
  looked_up name (e ∷ rest) = λ t. cond (texts_ties name e.0 t) (Some e.1) (looked_up name rest t)

  -- names in order are sorted
  pub sorted_keys : (entries : List (List ℕ × V)) → IsOrdered entries → IsSorted name_cmp (keys_of entries)
  sorted_keys [] h k d low high = absurd (omega arith)
  sorted_keys (e ∷ []) h k d low high = absurd (omega arith)
  sorted_keys (e ∷ f ∷ rest) h zero d low high =
      let below : name_cmp e.0 f.0 ≡ Less =
      less (name_cmp e.0 f.0) (first (is_lt (name_cmp e.0 f.0)) (below_all name_cmp e.0 rest) (first (below_all name_cmp e.0 (f ∷ rest)) _ h)) in
      ap is_lt (nat_list_cmp_total.antisymm f.0 e.0) ∙ reversed (name_cmp e.0 f.0) below
  sorted_keys (e ∷ f ∷ rest) h (suc k) d low high =
      let next : suc k + 1 ≡ suc (k + 1) = omega arith in
      subst (λ m. is_lt (name_cmp (slice_index_or (keys_of (e ∷ f ∷ rest)) m d) (slice_index_or (keys_of (e ∷ f ∷ rest)) (suc k) d)) ≡ false) (sym next)
      (sorted_keys (f ∷ rest) (second (below_all name_cmp e.0 (f ∷ rest)) _ h) k d (omega arith) (omega arith))

  later : (e : List ℕ × V) (entries : List (List ℕ × V)) → IsSorted name_cmp (keys_of (e ∷ entries)) → IsSorted name_cmp (keys_of entries)
  later e entries sorted k d low high =
      let next : suc k + 1 ≡ suc (k + 1) = omega arith in
      subst (λ m. is_lt (name_cmp (slice_index_or (keys_of (e ∷ entries)) m d) (slice_index_or (keys_of (e ∷ entries)) (suc k) d)) ≡ false) next
      (sorted (suc k) d (omega arith) (omega arith))

  -- names that are sorted and distinct are in order
  pub ordered_from : (entries : List (List ℕ × V)) → IsSorted name_cmp (keys_of entries) → IsDistinct (pointwise nat_eq) (keys_of entries) → IsOrdered entries
  unfolding IsDistinct
  ordered_from [] sorted distinct = refl
  ordered_from (e ∷ []) sorted distinct = refl
  ordered_from (e ∷ f ∷ rest) sorted distinct =
      let inner : IsOrdered (f ∷ rest) = ordered_from (f ∷ rest) (later e (f ∷ rest) sorted) distinct.1 in
      let below : name_cmp e.0 f.0 ≡ Less =
      neither (name_cmp e.0 f.0) (sym (texts_ties e.0 f.0) ∙ distinct.0.0)
      (ap is_lt (sym (nat_list_cmp_total.antisymm f.0 e.0)) ∙ sorted 0 e.0 (omega arith) (omega arith)) in
      both (below_all name_cmp e.0 (f ∷ rest)) _
      (both (is_lt (name_cmp e.0 f.0)) _ (ap is_lt below) (before_all e.0 f.0 rest below (first (below_all name_cmp f.0 rest) _ inner))) inner

  -- a table that has this value at a name, and else what another one has, is that other one with the value
  pub put : (old new : List (List ℕ × V)) (key : List ℕ) (value : V) → IsOrdered old → IsOrdered new
      → ((q : List ℕ) → lookup (pointwise nat_eq q) new ≡ cond (pointwise nat_eq key q) (Some value) (lookup (pointwise nat_eq q) old))
      → new ≡ with_value key value old
  put old new key value ordered made updates =
      same_entries name_cmp nat_list_cmp_total same_name new (with_value key value old) (is_T _ made) (is_T _ (ordered_with_value key value old ordered))
      (λ q. sym (looked_up q new) ∙ updates q ∙ (λ t. cond (sym (either q key) t) (Some value) (looked_up q old t))
      ∙ sym (find-put name_cmp nat_list_cmp_total q key value old))

  absent : (key : List ℕ) (entries : List (List ℕ × V)) → below_all name_cmp key entries ≡ true → remove_entry (pointwise nat_eq key) entries ≡ entries
  absent key [] h = refl
  absent key (e ∷ rest) h =
      let before : name_cmp key e.0 ≡ Less = less (name_cmp key e.0) (first (is_lt (name_cmp key e.0)) (below_all name_cmp key rest) h) in
      let other : pointwise nat_eq key e.0 ≡ false = texts_ties key e.0 ∙ ap is_eq before in
      ap (λ b. cond b rest (e ∷ remove_entry (pointwise nat_eq key) rest)) other
      ∙ ap (λ es. e ∷ es) (absent key rest (second (is_lt (name_cmp key e.0)) (below_all name_cmp key rest) h))

  -- a name taken out
  pub taken : (key : List ℕ) (entries : List (List ℕ × V)) → IsOrdered entries → remove_entry (pointwise nat_eq key) entries ≡ without key entries
  taken key [] h = refl
  taken key (e ∷ rest) h =
      ap (λ b. cond b rest (e ∷ remove_entry (pointwise nat_eq key) rest)) (texts_ties key e.0)
      ∙ elim (name_cmp key e.0) as (λ o. name_cmp key e.0 ≡ o → cond (is_eq o) rest (e ∷ remove_entry (pointwise nat_eq key) rest)
      ≡ match_ordering o (e ∷ rest) rest (e ∷ without key rest)) [
        | Less ↦ λ p. ap (λ es. e ∷ es) (absent key rest (before_all key e.0 rest p (first _ _ h)))
        | Equal ↦ λ p. refl
        | Greater ↦ λ p. ap (λ es. e ∷ es) (taken key rest (second _ _ h))
      ] refl

  -- a name that is there with another value
  pub written : (key : List ℕ) (value old : V) (entries : List (List ℕ × V)) → IsOrdered entries → value_of key entries ≡ Some old
      → set_value (pointwise nat_eq key) entries value ≡ with_value key value entries
  written key value old [] h there = cc
  written key value old (e ∷ rest) h there =
      ap (λ b. cond b ((e.0, value) ∷ rest) (e ∷ set_value (pointwise nat_eq key) rest value)) (texts_ties key e.0)
      ∙ go (name_cmp key e.0) refl (written key value old rest (second _ _ h))
    where
      go : (o : Ordering) → name_cmp key e.0 ≡ o → (value_of key rest ≡ Some old → set_value (pointwise nat_eq key) rest value ≡ with_value key value rest)
          → cond (is_eq o) ((e.0, value) ∷ rest) (e ∷ set_value (pointwise nat_eq key) rest value) ≡ with_value key value (e ∷ rest)
      go Less p rec =
          let none : value_of key rest ≡ None = none_before key rest (before_all key e.0 rest p (first _ _ h)) in
          let here : value_of key (e ∷ rest) ≡ None = rw p none in cc
      go Equal p rec = rw p refl
      go Greater p rec =
          let there_too : value_of key rest ≡ Some old = (let f : value_of key (e ∷ rest) ≡ value_of key rest = rw p refl in sym f ∙ there) in
          rw p (ap (λ es. e ∷ es) (rec there_too))
