-- A finite map that is copied entry by entry, in the order of the names.
use Rattle.std.proofs.Common.{◌≡◌, ℕ, List, [], ◌∷◌, ◌++◌, true, ◌&&◌, refl, sym, ap, ◌∙◌, subst}
use Rattle.std.specs.Ordering.{is_lt, ordering_reverse}
use Rattle.std.specs.declared.cmp.Ordering.{Ordering}
use Rattle.std.specs.declared.cmp.Ordering.TheVariants.{Less, Equal, Greater}
use Rattle.std.specs.Cmp.Lexicographic.{nat_list_cmp_total}
use Rattle.std.specs.FinMap.Entries.{below_all}
use Rattle.std.proofs.lemmas.List.{append_assoc}
use Rattle.ck_base.specs.Entries.{name_cmp, IsOrdered, with_value}
use Rattle.ck_base.proofs.Common.{first, second, both, less}

module _ {V : Type 0} where
  -- a name behind all others goes last
  pub last : (entries : List (List ℕ × V)) (key : List ℕ) (value : V) → IsOrdered (entries ++ (key, value) ∷ []) → with_value key value entries
      ≡ entries ++ (key, value) ∷ []
  last [] key value h = refl
  last (e ∷ rest) key value h =
      let behind : name_cmp key e.0 ≡ Greater = greater (name_cmp key e.0) (below rest (first _ _ h)) in
      rw behind (ap (λ es. e ∷ es) (last rest key value (second _ _ h)))
    where
      below : (rest : List (List ℕ × V)) → below_all name_cmp e.0 (rest ++ (key, value) ∷ []) ≡ true → ordering_reverse (name_cmp key e.0) ≡ Less
      below [] h = sym (nat_list_cmp_total.antisymm e.0 key) ∙ less (name_cmp e.0 key) (first _ _ h)
      below (f ∷ rest) h = below rest (second (is_lt (name_cmp e.0 f.0)) _ h)

      greater : (o : Ordering) → ordering_reverse o ≡ Less → o ≡ Greater
      greater Less e = cc
      greater Equal e = cc
      greater Greater e = refl

  front : (done rest : List (List ℕ × V)) → IsOrdered (done ++ rest) → IsOrdered done
  front [] rest h = refl
  front (e ∷ done) rest h = both (below_all name_cmp e.0 done) _ (below done (first _ _ h)) (front done rest (second _ _ h))
    where
      below : (done : List (List ℕ × V)) → below_all name_cmp e.0 (done ++ rest) ≡ true → below_all name_cmp e.0 done ≡ true
      below [] h = refl
      below (f ∷ done) h = both (is_lt (name_cmp e.0 f.0)) _ (first _ _ h) (below done (second (is_lt (name_cmp e.0 f.0)) _ h))

  -- the next of some entries in order goes last
  pub next : (done rest all : List (List ℕ × V)) (key : List ℕ) (value : V) → IsOrdered all → done ++ (key, value) ∷ rest ≡ all
      → with_value key value done ≡ done ++ (key, value) ∷ []
  next done rest all key value h e =
      let split : (done ++ (key, value) ∷ []) ++ rest ≡ all = append_assoc done ((key, value) ∷ []) rest ∙ e in
      last done key value (front (done ++ (key, value) ∷ []) rest (subst IsOrdered (sym split) h))

  -- a table with one more of all entries, before those that are left
  pub next_copied : (done rest all made : List (List ℕ × V)) (key : List ℕ) (value : V) → IsOrdered all → done ++ (key, value) ∷ rest ≡ all
      → made ≡ with_value key value done → made ++ rest ≡ all
  next_copied done rest all made key value h e with_next =
      ap (λ es. es ++ rest) (with_next ∙ next done rest all key value h e) ∙ append_assoc done ((key, value) ∷ []) rest ∙ e
