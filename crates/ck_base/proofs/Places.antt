-- Where a name stands in a sorted list of pairs, and what a write there makes of the list.
use Rattle.std.proofs.Common.{◌≡◌, ℕ, ◌+◌, List, [], ◌∷◌, ◌++◌, Result, Ok, Err, MatchResult, length, refl, sym, ap, subst, ◌∙◌, append_assoc, set, insert}
use Rattle.std.proofs.Common.{remove, length-append}
use Rattle.std.specs.Ordering.{match_ordering}
use Rattle.std.specs.declared.cmp.Ordering.TheVariants.{Less, Equal, Greater}
use Rattle.std.specs.FinMap.{slice_cmp-IsAntisymmetric, nat_cmp-IsAntisymmetric}
use Rattle.std.proofs.Math.Seq.{set-append_seam, take-append_seam, drop-append_seam}
use Rattle.ck_base.specs.Entries.{name_cmp, place_from, with_value, without}

-- names that compare alike are one
pub same_name : (a b : List ℕ) → name_cmp a b ≡ Equal → a ≡ b
same_name a b e = slice_cmp-IsAntisymmetric nat_cmp-IsAntisymmetric a b e

module _ {V : Type 0} where
  -- what a write at the place that was found makes of the list
  abbrev PutsAt : List ℕ → V → List (List ℕ × V) → List (List ℕ × V) → Result ℕ ℕ → Type 0
  PutsAt key value all made place = MatchResult place (λ i. made ≡ set all i (key, value)) (λ i. made ≡ insert all i (key, value))

  insert_seam : (front rest : List (List ℕ × V)) (x : List ℕ × V) → front ++ (x ∷ rest) ≡ insert (front ++ rest) (length front) x
  insert_seam front rest x = sym (rw (take-append_seam, drop-append_seam))

  -- a pair that stands before the place may be counted to the front
  on_rest : (key : List ℕ) (value : V) (front : List (List ℕ × V)) (e : List ℕ × V) (rest : List (List ℕ × V))
      → PutsAt key value ((front ++ (e ∷ [])) ++ rest) ((front ++ (e ∷ [])) ++ with_value key value rest) (place_from key (length (front ++ (e ∷ []))) rest)
      → PutsAt key value (front ++ (e ∷ rest)) (front ++ (e ∷ with_value key value rest)) (place_from key (length front + 1) rest)
  on_rest key value front e rest h =
      let counted : length (front ++ (e ∷ [])) ≡ length front + 1 = length-append front (e ∷ []) in
      let all : (front ++ (e ∷ [])) ++ rest ≡ front ++ (e ∷ rest) = append_assoc front (e ∷ []) rest in
      let made : (front ++ (e ∷ [])) ++ with_value key value rest ≡ front ++ (e ∷ with_value key value rest) = append_assoc front (e
      ∷ []) (with_value key value rest) in
      subst (λ n. PutsAt key value (front ++ (e ∷ rest)) (front ++ (e ∷ with_value key value rest)) (place_from key n rest)) counted
      (subst (λ xs. PutsAt key value xs (front ++ (e ∷ with_value key value rest)) (place_from key (length (front ++ (e ∷ []))) rest)) all
      (subst (λ xs. PutsAt key value ((front ++ (e ∷ [])) ++ rest) xs (place_from key (length (front ++ (e ∷ []))) rest)) made h))

  puts_from : (key : List ℕ) (value : V) (front rest : List (List ℕ × V)) → PutsAt key value (front ++ rest) (front ++ with_value key value rest)
      (place_from key (length front) rest)
  puts_from key value front [] = insert_seam front [] (key, value)
  puts_from key value front (e ∷ rest) =
      elim (name_cmp key e.0) as (λ o. name_cmp key e.0 ≡ o → PutsAt key value (front ++ (e ∷ rest)) (front
      ++ match_ordering o ((key, value) ∷ e ∷ rest) ((e.0, value) ∷ rest) (e ∷ with_value key value rest))
      (match_ordering o (Err (length front)) (Ok (length front)) (place_from key (length front + 1) rest))) [
        | Less ↦ λ _. insert_seam front (e ∷ rest) (key, value)
        | Equal ↦ λ same. ap (λ k. front ++ ((k, value) ∷ rest)) (sym (same_name key e.0 same)) ∙ sym (set-append_seam front e rest (key, value))
        | Greater ↦ λ _. on_rest key value front e rest (puts_from key value (front ++ (e ∷ [])) rest)
      ] refl

  -- a name that is there keeps its place, with the new value
  pub put_found : (key : List ℕ) (value : V) (all : List (List ℕ × V)) (i : ℕ) → place_from key 0 all ≡ Ok i → with_value key value all ≡ set all i (key, value)
  put_found key value all i e = let h = puts_from key value [] all in subst (PutsAt key value all (with_value key value all)) e h

  -- a name that isn't there goes in at its place
  pub put_absent : (key : List ℕ) (value : V) (all : List (List ℕ × V)) (i : ℕ) → place_from key 0 all ≡ Err i → with_value key value all
      ≡ insert all i (key, value)
  put_absent key value all i e = let h = puts_from key value [] all in subst (PutsAt key value all (with_value key value all)) e h

  -- what taking out at the place that was found makes of the list
  abbrev TakesAt : List (List ℕ × V) → List (List ℕ × V) → Result ℕ ℕ → Type 0
  TakesAt all left place = MatchResult place (λ i. left ≡ remove all i) (λ i. left ≡ all)

  remove_seam : (front rest : List (List ℕ × V)) (x : List ℕ × V) → front ++ rest ≡ remove (front ++ (x ∷ rest)) (length front)
  remove_seam [] rest x = refl
  remove_seam (y ∷ front) rest x = ap (λ xs. y ∷ xs) (remove_seam front rest x)

  takes_from : (key : List ℕ) (front rest : List (List ℕ × V)) → TakesAt (front ++ rest) (front ++ without key rest) (place_from key (length front) rest)
  takes_from key front [] = refl
  takes_from key front (e ∷ rest) =
      elim (name_cmp key e.0) as (λ o. TakesAt (front ++ (e ∷ rest)) (front ++ match_ordering o (e ∷ rest) rest (e ∷ without key rest))
      (match_ordering o (Err (length front)) (Ok (length front)) (place_from key (length front + 1) rest))) [
        | Less ↦ refl
        | Equal ↦ remove_seam front rest e
        | Greater ↦ taken_on_rest key front e rest (takes_from key (front ++ (e ∷ [])) rest)
      ]
    where
      taken_on_rest : (key : List ℕ) (front : List (List ℕ × V)) (e : List ℕ × V) (rest : List (List ℕ × V))
          → TakesAt ((front ++ (e ∷ [])) ++ rest) ((front ++ (e ∷ [])) ++ without key rest) (place_from key (length (front ++ (e ∷ []))) rest)
          → TakesAt (front ++ (e ∷ rest)) (front ++ (e ∷ without key rest)) (place_from key (length front + 1) rest)
      taken_on_rest key front e rest h =
          let counted : length (front ++ (e ∷ [])) ≡ length front + 1 = length-append front (e ∷ []) in
          let all : (front ++ (e ∷ [])) ++ rest ≡ front ++ (e ∷ rest) = append_assoc front (e ∷ []) rest in
          let left : (front ++ (e ∷ [])) ++ without key rest ≡ front ++ (e ∷ without key rest) = append_assoc front (e ∷ []) (without key rest) in
          subst (λ n. TakesAt (front ++ (e ∷ rest)) (front ++ (e ∷ without key rest)) (place_from key n rest)) counted
          (subst (λ xs. TakesAt xs (front ++ (e ∷ without key rest)) (place_from key (length (front ++ (e ∷ []))) rest)) all
          (subst (λ xs. TakesAt ((front ++ (e ∷ [])) ++ rest) xs (place_from key (length (front ++ (e ∷ []))) rest)) left h))

  -- a name that is there is taken out at its place
  pub removed_found : (key : List ℕ) (all : List (List ℕ × V)) (i : ℕ) → place_from key 0 all ≡ Ok i → without key all ≡ remove all i
  removed_found key all i e = let h = takes_from key [] all in subst (TakesAt all (without key all)) e h

  -- without a name that isn't there nothing changes
  pub removed_absent : (key : List ℕ) (all : List (List ℕ × V)) (i : ℕ) → place_from key 0 all ≡ Err i → without key all ≡ all
  removed_absent key all i e = let h = takes_from key [] all in subst (TakesAt all (without key all)) e h
