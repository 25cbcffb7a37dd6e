-- What a write and a removal leave at each name, and that a name has a value exactly where it is one of the keys.
use Rattle.std.proofs.Common.{◌≡◌, ◌≢◌, ◌↔◌, ℕ, List, [], ◌∷◌, true, false, cond, Option, Some, None, refl, sym, ap, ◌∙◌, subst, Bor}
use Rattle.std.specs.Ordering.{match_ordering, is_eq, eq_by_cmp}
use Rattle.std.specs.declared.cmp.Ordering.TheVariants.{Less, Equal, Greater}
use Rattle.std.specs.Cmp.Lexicographic.{nat_list_cmp_total}
use Rattle.std.specs.FinMap.Entries.{find-put, below_all}
use Rattle.std.specs.List.{Contains}
use Rattle.std.specs.Map.{keys_of, lookup}
use Rattle.std.specs.Option.{IsSome, option_copied}
use Rattle.std.proofs.lemmas.Cmp.{tied_itself, eq_by_cmp_equiv}
use Rattle.std.proofs.lemmas.Map.Views.{Contains-keys_from_lookup, IsSome-lookup_from_Contains}
use Rattle.ck_base.specs.Entries.{name_cmp, IsOrdered, value_of, with_value, without, ChangesOnly}
use Rattle.ck_base.proofs.Places.{same_name}
use Rattle.ck_base.proofs.Common.{first, second}
use Rattle.ck_base.proofs.Ordered.{none_before, before_all}

-- other names compare apart
apart : (other key : List ℕ) → other ≢ key → is_eq (name_cmp other key) ≡ false
apart other key d =
    elim (name_cmp other key) as (λ o. name_cmp other key ≡ o → is_eq o ≡ false) [
      | Less ↦ λ p. refl
      | Equal ↦ λ p. absurd (d (same_name other key p))
      | Greater ↦ λ p. refl
    ] refl

tells : (x y : List ℕ) → eq_by_cmp name_cmp x y ≡ true → x ≡ y
tells x y h =
    elim (name_cmp x y) as (λ o. name_cmp x y ≡ o → is_eq o ≡ true → x ≡ y) [
      | Less ↦ λ p q. cc
      | Equal ↦ λ p q. same_name x y p
      | Greater ↦ λ p q. cc
    ] refl h

module _ {V : Type 0} where
  -- a write changes what its name has, and no other
  pub written : (key : List ℕ) (value : V) (entries : List (List ℕ × V)) → ChangesOnly entries (with_value key value entries) key (Some value)
  written key value entries = record {
    changed = find-put name_cmp nat_list_cmp_total key key value entries ∙ ap (λ o. cond (is_eq o) (Some value) (value_of key entries))
        (tied_itself nat_list_cmp_total key);
    others = λ other d. find-put name_cmp nat_list_cmp_total other key value entries ∙ ap (λ b. cond b (Some value) (value_of other entries))
        (apart other key d);
  }

  pub gone : (key : List ℕ) (entries : List (List ℕ × V)) → IsOrdered entries → value_of key (without key entries) ≡ None
  gone key [] h = refl
  gone key (e ∷ rest) h =
      elim (name_cmp key e.0) as (λ o. name_cmp key e.0 ≡ o → value_of key (match_ordering o (e ∷ rest) rest (e ∷ without key rest)) ≡ None) [
        | Less ↦ λ p. rw p (none_before key rest (before_all key e.0 rest p (first _ _ h)))
        | Equal ↦ λ p. none_before key rest (subst (λ k. below_all name_cmp k rest ≡ true) (sym (same_name key e.0 p)) (first _ _ h))
        | Greater ↦ λ p. rw p (gone key rest (second _ _ h))
      ] refl

  kept : (key other : List ℕ) (entries : List (List ℕ × V)) → other ≢ key → value_of other (without key entries) ≡ value_of other entries
  kept key other [] d = refl
  kept key other (e ∷ rest) d =
      elim (name_cmp key e.0) as (λ o. name_cmp key e.0 ≡ o → value_of other (match_ordering o (e ∷ rest) rest (e ∷ without key rest))
      ≡ value_of other (e ∷ rest)) [
        | Less ↦ λ p. refl
        | Equal ↦ λ p. let q : is_eq (name_cmp other e.0) ≡ false = apart other e.0 (λ s. d (s ∙ sym (same_name key e.0 p))) in rw q refl
        | Greater ↦ λ p. ap (cond (is_eq (name_cmp other e.0)) (Some e.1)) (kept key other rest d)
      ] refl

  -- a removal changes what its name has, and no other
  pub removed : (key : List ℕ) (entries : List (List ℕ × V)) → IsOrdered entries → ChangesOnly entries (without key entries) key None
  removed key entries h = record {
    changed = gone key entries h;
    others = λ other d. kept key other entries d;
  }

  looks_up : (key : List ℕ) (entries : List (List ℕ × V)) → lookup (eq_by_cmp name_cmp key) entries ≡ value_of key entries
  looks_up key [] = refl
  looks_up key (e ∷ rest) = ap (cond (is_eq (name_cmp key e.0)) (Some e.1)) (looks_up key rest)

  -- a name has a value exactly where it is one of the keys
  pub has_value : (key : List ℕ) (entries : List (List ℕ × V)) → IsSome (value_of key entries) ↔ Contains (keys_of entries) key
  has_value key entries = subst (λ o. IsSome o ↔ Contains (keys_of entries) key) (looks_up key entries) (
    Contains-keys_from_lookup tells key entries,
    IsSome-lookup_from_Contains (eq_by_cmp_equiv nat_list_cmp_total) key entries,
  )

  -- so a look-up finds one exactly there
  pub is_there : (key : List ℕ) (entries : List (List ℕ × V)) (found : Option V) → found ≡ value_of key entries → IsSome found ↔ Contains (keys_of entries) key
  is_there key entries found e = subst (λ o. IsSome o ↔ Contains (keys_of entries) key) (sym e) (has_value key entries)

  pub is_there_behind : (key : List ℕ) (entries : List (List ℕ × V)) (found : Option (Bor V)) → option_copied found ≡ value_of key entries → IsSome found
      ↔ Contains (keys_of entries) key
  is_there_behind key entries None e = is_there key entries None e
  is_there_behind key entries (Some x) e = is_there key entries (Some x.now) e
