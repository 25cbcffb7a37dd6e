-- Lists that end with others.
use Rattle.std.proofs.Common.{◌≡◌, ℕ, ◌-◌, List, [], ◌∷◌, ◌++◌, Bool, true, false, ◌&&◌, length, drop, reverse, refl, sym, ap, ◌∙◌, arith}
use Rattle.std.specs.List.{ends_with}
use Rattle.std.specs.Str.{bytes_eq}
use Rattle.std.specs.Cmp.Lexicographic.{pointwise}
use Rattle.std.proofs.lemmas.List.{drop-append-le, drop_all, length_push, reverse-append, reverse-reverse}

and_false : (a : Bool) → (a && false) ≡ false
and_false true = refl
and_false false = refl

and_swap : (a b c : Bool) → (a && (b && c)) ≡ (b && (a && c))
and_swap true b c = refl
and_swap false b c = sym (and_false b)

module _ {A : Type 0} (eq : A → A → Bool) where
  longer : (x : A) (xs : List A) → pointwise eq [] (xs ++ x ∷ []) ≡ false
  longer x [] = refl
  longer x (z ∷ xs) = refl

  shorter : (y : A) (ys : List A) → pointwise eq (ys ++ y ∷ []) [] ≡ false
  shorter y [] = refl
  shorter y (z ∷ ys) = refl

  -- one element more on both sides
  pointwise_last : (ys xs : List A) (y x : A) → pointwise eq (ys ++ y ∷ []) (xs ++ x ∷ []) ≡ (eq y x && pointwise eq ys xs)
  pointwise_last [] [] y x = refl
  pointwise_last [] (z ∷ xs) y x = ap (λ b. eq y z && b) (longer x xs) ∙ and_false (eq y z) ∙ sym (and_false (eq y x))
  pointwise_last (w ∷ ys) [] y x = ap (λ b. eq w x && b) (shorter y ys) ∙ and_false (eq w x) ∙ sym (and_false (eq y x))
  pointwise_last (w ∷ ys) (z ∷ xs) y x = ap (λ b. eq w z && b) (pointwise_last ys xs y x) ∙ and_swap (eq w z) (eq y x) (pointwise eq ys xs)

-- one name more on both sides
pub ends_with_last : (xs ys : List (List ℕ)) (x y : List ℕ) → ends_with bytes_eq (xs ++ x ∷ []) (ys ++ y ∷ []) ≡ (bytes_eq y x && ends_with bytes_eq xs ys)
ends_with_last xs ys x y =
    let count : length (xs ++ x ∷ []) - length (ys ++ y ∷ []) ≡ length xs - length ys = omega (arith, length_push xs x, length_push ys y) in
    ap (λ n. pointwise bytes_eq (ys ++ y ∷ []) (drop n (xs ++ x ∷ []))) count
    ∙ ap (pointwise bytes_eq (ys ++ y ∷ [])) (drop-append-le (length xs - length ys) xs (x ∷ []) (omega arith))
    ∙ pointwise_last bytes_eq ys (drop (length xs - length ys) xs) y x

-- every list ends with none
pub ends_with_none : (xs : List (List ℕ)) → ends_with bytes_eq xs [] ≡ true
ends_with_none xs = ap (λ rest. pointwise bytes_eq [] rest) (drop_all (length xs - 0) xs (omega arith))

-- the other way round, the last comes first
pub reverse_last : (xs : List (List ℕ)) (x : List ℕ) → reverse (xs ++ x ∷ []) ≡ x ∷ reverse xs
reverse_last xs x = reverse-append xs (x ∷ [])

-- twice the other way round is as it was
pub reverse_twice : (xs : List (List ℕ)) → reverse (reverse xs) ≡ xs
reverse_twice xs = reverse-reverse xs
