-- A key that gets its old value again makes the attributes what they were.
use Rattle.std.proofs.Common.{◌≡◌, ℕ, List, [], ◌∷◌, ◌&&◌, cond, Option, Some, None, refl, sym, ap, ◌∙◌}
use Rattle.std.specs.Ordering.{is_lt, is_eq}
use Rattle.std.specs.declared.cmp.Ordering.TheVariants.{Less, Equal, Greater}
use Rattle.std.specs.Cmp.Lexicographic.{nat_list_cmp_total}
use Rattle.std.specs.FinMap.Entries.{is_sorted, below_all, find-put}
use Rattle.std.proofs.lemmas.Cmp.{tied_itself}
use Rattle.ck_base.specs.declared.value.Value.{Value as AttributeValue}
use Rattle.ck_base.specs.Entries.{name_cmp, IsOrdered, value_of, with_value, without}
use Rattle.ck_base.proofs.Places.{same_name}
use Rattle.ck_base.proofs.Common.{first, second, less}
use Rattle.ck_base.proofs.Ordered.{none_before, before_all}
use Rattle.ck_base.proofs.Lookups.{gone}
use Rattle.operation_definitions.specs.Level.{with_key}

module _ {V : Type 0} where
  -- a key before the first one has no value
  absent : (key : List ℕ) (e : List ℕ × V) (rest : List (List ℕ × V)) → IsOrdered (e ∷ rest) → name_cmp key e.0 ≡ Less → value_of key rest ≡ None
  absent key e rest h p = none_before key rest (before_all key e.0 rest p (first (below_all name_cmp e.0 rest) (is_sorted name_cmp rest) h))

  -- the first key is before all others
  in_front : (key : List ℕ) (value : V) (e : List ℕ × V) (rest : List (List ℕ × V)) → IsOrdered (e ∷ rest) → name_cmp key e.0 ≡ Equal
      → with_value key value rest ≡ (e.0, value) ∷ rest
  in_front key value e [] h p = ap (λ k. (k, value) ∷ []) (same_name key e.0 p)
  in_front key value e (x ∷ rest) h p =
      let same = same_name key e.0 p in
      let sorted = first (below_all name_cmp e.0 (x ∷ rest)) (is_sorted name_cmp (x ∷ rest)) h in
      let before : name_cmp e.0 x.0 ≡ Less = less (name_cmp e.0 x.0) (first (is_lt (name_cmp e.0 x.0)) (below_all name_cmp e.0 rest) sorted) in
      let key_before : name_cmp key x.0 ≡ Less = ap (λ k. name_cmp k x.0) same ∙ before in
      rw key_before (ap (λ k. (k, value) ∷ x ∷ rest) same)

  put-put : (key : List ℕ) (v w : V) (entries : List (List ℕ × V)) → IsOrdered entries → value_of key entries ≡ Some w
      → with_value key w (with_value key v entries) ≡ entries
  put-put key v w [] h g = absurd cc
  put-put key v w (e ∷ rest) h g =
      elim (name_cmp key e.0) as (λ o. name_cmp key e.0 ≡ o → with_value key w (with_value key v (e ∷ rest)) ≡ e ∷ rest) [
        | Less ↦ λ p. (let f : None ≡ Some w = sym (absent key e rest h p) ∙ (rw p at g) in absurd cc)
        | Equal ↦ λ p. (let f : Some e.1 ≡ Some w = rw p at g in let same : w ≡ e.1 = cc in rw (p, p) (ap (λ x. (e.0, x) ∷ rest) same))
        | Greater ↦ λ p. (let f : value_of key rest ≡ Some w = rw p at g
            in rw (p, p) (ap (λ r. e ∷ r) (put-put key v w rest (second (below_all name_cmp e.0 rest) (is_sorted name_cmp rest) h) f)))
      ] refl

  without-put : (key : List ℕ) (v : V) (entries : List (List ℕ × V)) → IsOrdered entries → value_of key entries ≡ None
      → without key (with_value key v entries) ≡ entries
  without-put key v [] h g = rw (tied_itself nat_list_cmp_total key)
  without-put key v (e ∷ rest) h g =
      elim (name_cmp key e.0) as (λ o. name_cmp key e.0 ≡ o → without key (with_value key v (e ∷ rest)) ≡ e ∷ rest) [
        | Less ↦ λ p. rw (p, tied_itself nat_list_cmp_total key) refl
        | Equal ↦ λ p. (let f : Some e.1 ≡ None = rw p at g in absurd cc)
        | Greater ↦ λ p. (let f : value_of key rest ≡ None = rw p at g
            in rw (p, p) (ap (λ r. e ∷ r) (without-put key v rest (second (below_all name_cmp e.0 rest) (is_sorted name_cmp rest) h) f)))
      ] refl

  put-without : (key : List ℕ) (w : V) (entries : List (List ℕ × V)) → IsOrdered entries → value_of key entries ≡ Some w
      → with_value key w (without key entries) ≡ entries
  put-without key w [] h g = absurd cc
  put-without key w (e ∷ rest) h g =
      elim (name_cmp key e.0) as (λ o. name_cmp key e.0 ≡ o → with_value key w (without key (e ∷ rest)) ≡ e ∷ rest) [
        | Less ↦ λ p. (let f : None ≡ Some w = sym (absent key e rest h p) ∙ (rw p at g) in absurd cc)
        | Equal ↦ λ p. (let f : Some e.1 ≡ Some w = rw p at g in let same : w ≡ e.1 = cc in rw p (in_front key w e rest h p ∙ ap (λ x. (e.0, x) ∷ rest) same))
        | Greater ↦ λ p. (let f : value_of key rest ≡ Some w = rw p at g
            in rw (p, p) (ap (λ r. e ∷ r) (put-without key w rest (second (below_all name_cmp e.0 rest) (is_sorted name_cmp rest) h) f)))
      ] refl

  without-without : (key : List ℕ) (entries : List (List ℕ × V)) → IsOrdered entries → value_of key entries ≡ None → without key (without key entries) ≡ entries
  without-without key [] h g = refl
  without-without key (e ∷ rest) h g =
      elim (name_cmp key e.0) as (λ o. name_cmp key e.0 ≡ o → without key (without key (e ∷ rest)) ≡ e ∷ rest) [
        | Less ↦ λ p. rw (p, p) refl
        | Equal ↦ λ p. (let f : Some e.1 ≡ None = rw p at g in absurd cc)
        | Greater ↦ λ p. (let f : value_of key rest ≡ None = rw p at g
            in rw (p, p) (ap (λ r. e ∷ r) (without-without key rest (second (below_all name_cmp e.0 rest) (is_sorted name_cmp rest) h) f)))
      ] refl

-- the old value again
pub with_key-again : (key : List ℕ) (old new : Option AttributeValue) (attributes : List (List ℕ × AttributeValue)) → IsOrdered attributes
    → value_of key attributes ≡ old
    → with_key key old (with_key key new attributes) ≡ attributes
with_key-again key None None attributes h g = without-without key attributes h g
with_key-again key None (Some v) attributes h g = without-put key v attributes h g
with_key-again key (Some w) None attributes h g = put-without key w attributes h g
with_key-again key (Some w) (Some v) attributes h g = put-put key v w attributes h g

-- the new value is there
pub with_key-value : (key : List ℕ) (new : Option AttributeValue) (attributes : List (List ℕ × AttributeValue)) → IsOrdered attributes
    → value_of key (with_key key new attributes) ≡ new
with_key-value key None attributes h = gone key attributes h
with_key-value key (Some v) attributes h =
    find-put name_cmp nat_list_cmp_total key key v attributes ∙ ap (λ o. cond (is_eq o) (Some v) (value_of key attributes)) (tied_itself nat_list_cmp_total key)
