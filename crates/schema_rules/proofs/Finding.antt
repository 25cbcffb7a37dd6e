-- What a search finds in lists that are joined.
use Rattle.std.proofs.Common.{◌≡◌, ℕ, ◌+◌, ◌<◌, List, ◌++◌, Bool, Option, Some, None, length, slice_index_or, drop, refl, sym, ap, ◌∙◌}
use Rattle.std.specs.List.{find, flat_map}
use Rattle.std.proofs.lemmas.List.{drop_more}
use Rattle.std.specs.Option.{option_or}
use Rattle.std.proofs.lemmas.List.Folds.{find-append}

module _ {A : Type 0} (p : A → Bool) where
  -- what is found in front
  pub find_front : (xs ys : List A) (x : A) → find p xs ≡ Some x → find p (xs ++ ys) ≡ Some x
  find_front xs ys x e = find-append p xs ys ∙ ap (λ found. option_or found (find p ys)) e

  -- what is found behind
  pub find_behind : (xs ys : List A) → find p xs ≡ None → find p (xs ++ ys) ≡ find p ys
  find_behind xs ys e = find-append p xs ys ∙ ap (λ found. option_or found (find p ys)) e

  or_assoc : (x y z : Option A) → option_or (option_or x y) z ≡ option_or x (option_or y z)
  or_assoc None y z = refl
  or_assoc (Some x) y z = refl

  -- two lists in which nothing else was found before
  pub find_both : (found : Option A) (xs ys : List A) → option_or (option_or found (find p xs)) (find p ys) ≡ option_or found (find p (xs ++ ys))
  find_both found xs ys = or_assoc found (find p xs) (find p ys) ∙ ap (option_or found) (sym (find-append p xs ys))

  -- eight lists, one after the other
  pub find_eight : (a b c d e f g h : List A)
      → option_or (option_or (option_or (option_or (option_or (option_or (option_or (find p a) (find p b)) (find p c)) (find p d)) (find p e)) (find p f))
      (find p g)) (find p h) ≡ find p (a ++ (b ++ (c ++ (d ++ (e ++ (f ++ (g ++ h)))))))
  find_eight a b c d e f g h =
      let ab : Option A = option_or (find p a) (find p b) in
      let abc : Option A = option_or ab (find p c) in
      let abcd : Option A = option_or abc (find p d) in
      let abcde : Option A = option_or abcd (find p e) in
      find_both (option_or abcde (find p f)) g h ∙ find_both abcde f (g ++ h) ∙ find_both abcd e (f ++ (g ++ h))
      ∙ find_both abc d (e ++ (f ++ (g ++ h))) ∙ find_both ab c (d ++ (e ++ (f ++ (g ++ h))))
      ∙ find_both (find p a) b (c ++ (d ++ (e ++ (f ++ (g ++ h))))) ∙ sym (find-append p a (b ++ (c ++ (d ++ (e ++ (f ++ (g ++ h)))))))

  module _ {E : Type 0} (f : E → List A) (es : List E) (k : ℕ) (e : E) (inside : k < length es) (is : e ≡ slice_index_or es k e) where
    at_hand : flat_map f (drop k es) ≡ f e ++ flat_map f (drop (k + 1) es)
    at_hand = ap (flat_map f) (drop_more es k e inside) ∙ ap (λ x. f x ++ flat_map f (drop (k + 1) es)) (sym is)

    -- what is found now is what all have first
    pub found_now : (x : A) → Some x ≡ find p (f e) → find p (flat_map f (drop k es)) ≡ find p (flat_map f es) → Some x ≡ find p (flat_map f es)
    found_now x here all = sym (find_front (f e) (flat_map f (drop (k + 1) es)) x (sym here)) ∙ ap (find p) (sym at_hand) ∙ all

    -- what isn't found now comes later
    pub found_later : None ≡ find p (f e) → find p (flat_map f (drop k es)) ≡ find p (flat_map f es) → find p (flat_map f (drop (k + 1) es))
        ≡ find p (flat_map f es)
    found_later here all = sym (find_behind (f e) (flat_map f (drop (k + 1) es)) (sym here)) ∙ ap (find p) (sym at_hand) ∙ all
