-- What joined tests, tests of numbers and parts of lists say: lemmas that stand under many proofs.
use Rattle.std.proofs.Common.{◌≡◌, ℕ, zero, suc, ◌+◌, ◌<◌, ◌≤◌, ◌==◌, nat_lt, nat_le, arith, List, [], ◌∷◌, ◌++◌, take, drop, Bool, true, false, not, ◌&&◌}
use Rattle.std.proofs.Common.{◌||◌, T, refl, sym, ap, ◌∙◌, subst}
use Rattle.std.proofs.lemmas.Bool.Decides.{nat_tests}
use Rattle.std.proofs.lemmas.List.{take-append-drop}
use Rattle.std.specs.Ordering.{is_lt}
use Rattle.std.specs.declared.cmp.Ordering.{Ordering}
use Rattle.std.specs.declared.cmp.Ordering.TheVariants.{Less, Equal, Greater}

-- ---- joined tests

pub both : (a b : Bool) → a ≡ true → b ≡ true → (a && b) ≡ true
both true b p q = q
both false b p q = p

pub first : (a b : Bool) → (a && b) ≡ true → a ≡ true
first true b p = refl
first false b p = p

pub second : (a b : Bool) → (a && b) ≡ true → b ≡ true
second true b p = p
second false b p = cc

pub first_and_second : (a b : Bool) → (a && b) ≡ true → (a ≡ true) × (b ≡ true)
first_and_second a b p = (first a b p, second a b p)

pub and_false : (a : Bool) → (a && false) ≡ false
and_false true = refl
and_false false = refl

pub and_swapped : (a b : Bool) → (a && b) ≡ (b && a)
and_swapped true true = refl
and_swapped true false = refl
and_swapped false true = refl
and_swapped false false = refl

pub and_either : (a b c : Bool) → ((a && b) || (a && c)) ≡ (a && (b || c))
and_either true b c = refl
and_either false b c = refl

pub or_true : (a : Bool) → (a || true) ≡ true
or_true true = refl
or_true false = refl

pub not_true : (b : Bool) → not b ≡ true → b ≡ false
not_true true e = cc
not_true false e = refl

pub is_T : (b : Bool) → b ≡ true → T b
is_T b e = subst T (sym e) tt

pub is_true : (b : Bool) → T b → b ≡ true
is_true true h = refl
is_true false h = absurd h

pub less : (o : Ordering) → is_lt o ≡ true → o ≡ Less
less Less e = refl
less Equal e = cc
less Greater e = cc

-- ---- tests of numbers

pub is_below : (n m : ℕ) → nat_lt n m ≡ true → n < m
is_below n m e = grind (arith, nat_tests)

pub not_below : (n m : ℕ) → nat_lt n m ≡ false → m ≤ n
not_below n m e = grind (arith, nat_tests)

pub below : (n m : ℕ) → n < m → nat_lt n m ≡ true
below n m e = grind (arith, nat_tests)

pub above : (n m : ℕ) → m ≤ n → nat_lt n m ≡ false
above n m e = grind (arith, nat_tests)

pub is_at_most : (n m : ℕ) → nat_le n m ≡ true → n ≤ m
is_at_most n m e = grind (arith, nat_tests)

pub at_most : (n m : ℕ) → n ≤ m → nat_le n m ≡ true
at_most n m e = grind (arith, nat_tests)

pub not_zero : (n : ℕ) → (suc n == 0) ≡ false
not_zero n = grind (arith, nat_tests)

pub suc_first : (n m : ℕ) → suc n + m ≡ suc (n + m)
suc_first n m = omega arith

-- ---- parts of lists

module _ {X : Type 0} where
  pub drop_none : (n : ℕ) → drop {A = X} n [] ≡ []
  drop_none zero = refl
  drop_none (suc n) = refl

  pub drop_add : (offset count : ℕ) (xs : List X) → drop (offset + count) xs ≡ drop count (drop offset xs)
  drop_add zero count xs = (let e : 0 + count ≡ count = omega arith in ap (λ n. drop n xs) e)
  drop_add (suc offset) count [] = drop_none (suc offset + count) ∙ sym (drop_none count)
  drop_add (suc offset) count (x ∷ xs) = (let e : suc offset + count ≡ suc (offset + count) = omega arith in ap (λ n. drop n (x ∷ xs)) e
      ∙ drop_add offset count xs)

  -- a list in three: what is before a run, the run, and what is behind it
  pub in_three : (offset count : ℕ) (xs : List X) → take offset xs ++ (take count (drop offset xs) ++ drop (offset + count) xs) ≡ xs
  in_three offset count xs =
      ap (λ rest. take offset xs ++ (take count (drop offset xs) ++ rest)) (drop_add offset count xs)
      ∙ ap (λ rest. take offset xs ++ rest) (take-append-drop count (drop offset xs)) ∙ take-append-drop offset xs
