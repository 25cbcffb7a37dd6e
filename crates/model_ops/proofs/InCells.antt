-- What is in cells.
use Rattle.std.proofs.Common.{◌≡◌, ℕ, zero, suc, ◌-◌, ◌<◌, ◌≤◌, ◌^◌, min, Bool, true, false, ◌&&◌, nat_lt, nat_le, ◌==◌, if◌then◌else◌, List, [], ◌∷◌, ◌++◌}
use Rattle.std.proofs.Common.{length, get_or, set, Some, None, slice_get, refl, sym, ap, ◌∙◌, arith}
use Rattle.std.proofs.lemmas.Option.{slice_get_within, get_or_from_slice_get}
use Rattle.std.proofs.lemmas.Bool.Decides.{nat_tests}
use Rattle.item_definitions.specs.Item.{Item}
use Rattle.operation_definitions.specs.After.{in_cell_at, is_empty, is_free, fill, holds_count}

pub get-past : {X : Type 0} (xs : List X) (n : ℕ) (d : X) → length xs ≤ n → get_or xs n d ≡ d
get-past [] n d h = refl
get-past (x ∷ xs) zero d h = absurd (omega arith)
get-past (x ∷ xs) (suc n) d h = get-past xs n d (omega arith)

pub none-past : {X : Type 0} (xs : List X) (n : ℕ) → None ≡ slice_get xs n → length xs ≤ n
none-past [] n e = omega arith
none-past (x ∷ xs) zero e = absurd cc
none-past (x ∷ xs) (suc n) e = omega (arith, none-past xs n e)

module _ (cells : List (List Item)) (number : ℕ) where
  pub inside : (xs : List Item) → Some xs ≡ slice_get cells number → in_cell_at cells number ≡ xs
  inside xs e = get_or_from_slice_get cells number xs [] (sym e)

  pub within : (xs : List Item) → Some xs ≡ slice_get cells number → number < length cells
  within xs e = slice_get_within cells number xs (sym e)

  pub free_there : (xs : List Item) (long : ℕ) → Some xs ≡ slice_get cells number → long ≡ min (length xs) (2 ^ 64 - 1) → (long == 0) ≡ is_free cells number
  free_there xs long e l =
      let less = within xs e in
      let yes : nat_le number (length cells) ≡ true = grind (arith, nat_tests) in
      empty xs long l ∙ sym ((λ i. yes i && is_empty (inside xs e i)))
    where
      empty : (xs : List Item) (long : ℕ) → long ≡ min (length xs) (2 ^ 64 - 1) → (long == 0) ≡ is_empty xs
      empty [] long l = (let same : long ≡ 0 = omega arith in ap (λ n. n == 0) same)
      empty (x ∷ xs) long l = (let more : 0 < long = omega arith in grind (arith, nat_tests))

  pub free_none : None ≡ slice_get cells number → (number == length cells) ≡ is_free cells number
  free_none e =
      let most = none-past cells number e in
      let none : in_cell_at cells number ≡ [] = get-past cells number [] most in
      next (number == length cells) (nat_le number (length cells)) refl refl ∙ sym (ap (λ xs. nat_le number (length cells) && is_empty xs) none)
    where
      next : (t u : Bool) → t ≡ (number == length cells) → u ≡ nat_le number (length cells) → t ≡ (u && true)
      next true true t u = refl
      next false false t u = refl
      next true false t u = absurd (let same : number ≡ length cells = grind (arith, nat_tests) in let more : length cells
          < number = grind (arith, nat_tests) in omega arith)
      next false true t u = absurd (let less : number ≤ length cells = grind (arith, nat_tests) in let most = none-past cells number e
          in let same : number ≡ length cells = omega arith in let f : (number == length cells) ≡ true = grind (arith, nat_tests) in cc)

  pub holds_there : (xs : List Item) (long count : ℕ) → Some xs ≡ slice_get cells number → long ≡ min (length xs) (2 ^ 64 - 1) → count < 2 ^ 32
      → (long == count) ≡ holds_count cells number count
  holds_there xs long count e l small =
      let less = within xs e in
      let yes : nat_lt number (length cells) ≡ true = grind (arith, nat_tests) in
      many (long == count) (length xs == count) refl refl ∙ sym ((λ i. yes i && (length (inside xs e i) == count)))
    where
      many : (t u : Bool) → t ≡ (long == count) → u ≡ (length xs == count) → t ≡ u
      many true true t u = refl
      many false false t u = refl
      many true false t u = absurd (let same : long ≡ count = grind (arith, nat_tests) in let also : length xs ≡ count = omega (arith, same, l, small)
          in let f : (length xs == count) ≡ true = grind (arith, nat_tests) in cc)
      many false true t u = absurd (let same : length xs ≡ count = grind (arith, nat_tests) in let also : long ≡ count = omega (arith, same, l, small)
          in let f : (long == count) ≡ true = grind (arith, nat_tests) in cc)

  pub holds_none : (count : ℕ) → None ≡ slice_get cells number → false ≡ holds_count cells number count
  holds_none count e =
      let most = none-past cells number e in
      let no : nat_lt number (length cells) ≡ false = grind (arith, nat_tests) in
      sym (ap (λ t. t && (length (in_cell_at cells number) == count)) no)

  pub fill_there : (items : List Item) → number < length cells → set cells number items ≡ fill cells number items
  fill_there items less = (let yes : nat_lt number (length cells) ≡ true = grind (arith, nat_tests)
      in sym (ap (λ t. if t then set cells number items else cells ++ items ∷ []) yes))

  pub fill_next : (items : List Item) → length cells ≤ number → cells ++ items ∷ [] ≡ fill cells number items
  fill_next items most = (let no : nat_lt number (length cells) ≡ false = grind (arith, nat_tests)
      in sym (ap (λ t. if t then set cells number items else cells ++ items ∷ []) no))

-- a cell that isn't there can't be emptied
pub set_none : (cells : List (List Item)) (number : ℕ) (items : List Item) → length cells ≤ number → cells ≡ set cells number items
set_none [] number items most = refl
set_none (cell ∷ cells) zero items most = absurd (omega arith)
set_none (cell ∷ cells) (suc number) items most = ap (λ rest. cell ∷ rest) (set_none cells number items (omega arith))
