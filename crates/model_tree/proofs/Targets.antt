-- Where positions are once items are gone.
use Rattle.std.proofs.Common.{◌≡◌, ℕ, suc, ◌+◌, ◌-◌, ◌<◌, ◌≤◌, Bool, true, false, nat_le, ◌==◌, if◌then◌else◌, List, [], ◌∷◌, ◌++◌, length, get_or, set, take}
use Rattle.std.proofs.Common.{drop, Option, Some, None, refl, sym, ap, ◌∙◌, arith, drop-cons}
use Rattle.std.specs.Prelude.{is_some}
use Rattle.std.specs.Option.{option_map_or}
use Rattle.std.proofs.lemmas.List.{drop_all}
use Rattle.std.proofs.lemmas.Bool.Decides.{nat_tests}
use Rattle.item_definitions.specs.Shift.{rest_behind, within, rule_remove, carry_remove}
use Rattle.item_definitions.proofs.Paths.{parent_of-push, offset_of-push}

-- the removal as its parent sees it
remove-is : (parent : List ℕ) (offset count : ℕ) (path : List ℕ) → carry_remove (parent ++ offset ∷ []) count path
    ≡ within parent (rule_remove offset count) path
remove-is parent offset count path = λ i. within (parent_of-push parent offset i) (rule_remove (offset_of-push parent offset i) count) path

-- a position that is neither in nor below the parent
pub elsewhere : (parent : List ℕ) (offset count : ℕ) (path : List ℕ) → is_some (rest_behind parent path) ≡ false
    → path ≡ carry_remove (parent ++ offset ∷ []) count path
elsewhere parent offset count path e = sym (remove-is parent offset count path ∙ go (rest_behind parent path) e)
  where
    go : (o : Option (List ℕ)) → is_some o ≡ false → option_map_or (λ rest. parent ++ rule_remove offset count rest) o path ≡ path
    go None e = refl
    go (Some rest) e = absurd cc

-- one that begins with the parent's path goes on with what is behind that
record Below (parent path : List ℕ) : Type 0 where
  rest : rest_behind parent path ≡ Some (drop (length parent) path)
  whole : path ≡ parent ++ drop (length parent) path

below : (parent path : List ℕ) → is_some (rest_behind parent path) ≡ true → Below parent path
below [] path e = record { rest = refl; whole = refl }
below (step ∷ parent) [] e = absurd cc
below (step ∷ parent) (index ∷ path) e = go (λ h. below parent path h) (step == index) refl e
  where
    go : (is_some (rest_behind parent path) ≡ true → Below parent path) → (t : Bool) → t ≡ (step == index)
        → is_some (if t then rest_behind parent path else None) ≡ true → Below (step ∷ parent) (index ∷ path)
    go deep true t e =
        let b = deep e in
        let same : step ≡ index = grind (arith, nat_tests) in
        record { rest = ap (λ u. if u then rest_behind parent path else None) (sym t) ∙ b.rest; whole = λ i. sym same i ∷ b.whole i }
    go deep false t e = absurd cc

within-is : (parent : List ℕ) (offset count : ℕ) (path : List ℕ) → is_some (rest_behind parent path) ≡ true
    → carry_remove (parent ++ offset ∷ []) count path ≡ parent ++ rule_remove offset count (drop (length parent) path)
within-is parent offset count path e =
    let b = below parent path e in
    remove-is parent offset count path ∙ ap (λ o. option_map_or (λ rest. parent ++ rule_remove offset count rest) o path) b.rest

-- the parent's own position
pub at_parent : (parent : List ℕ) (offset count : ℕ) (path : List ℕ) → is_some (rest_behind parent path) ≡ true → length path ≤ length parent
    → path ≡ carry_remove (parent ++ offset ∷ []) count path
at_parent parent offset count path e most =
    let b = below parent path e in
    let none : drop (length parent) path ≡ [] = drop_all (length parent) path (omega arith) in
    b.whole ∙ ap (λ rest. parent ++ rest) none ∙ sym (within-is parent offset count path e ∙ ap (λ rest. parent ++ rule_remove offset count rest) none)

module _ (parent : List ℕ) (offset count : ℕ) (path : List ℕ) (number : ℕ) (e : is_some (rest_behind parent path) ≡ true) (less : length parent
    < length path) (is : number ≡ get_or path (length parent) number) where
  rest : List ℕ
  rest = drop (suc (length parent)) path

  behind-is : drop (length parent) path ≡ number ∷ drop (suc (length parent)) path
  behind-is = drop-cons path (length parent) number less ∙ ap (λ n. n ∷ drop (suc (length parent)) path) (sym is)

  whole-is : path ≡ parent ++ (number ∷ drop (suc (length parent)) path)
  whole-is = (below parent path e).whole ∙ ap (λ xs. parent ++ xs) behind-is

  carried-is : carry_remove (parent ++ offset ∷ []) count path
      ≡ parent ++ (if nat_le (offset + count) number then (number - count) ∷ drop (suc (length parent)) path
      else (if nat_le offset number then offset ∷ [] else number ∷ drop (suc (length parent)) path))
  carried-is = within-is parent offset count path e ∙ ap (λ xs. parent ++ rule_remove offset count xs) behind-is

  set-behind : (parent tail : List ℕ) (number new : ℕ) → set (parent ++ (number ∷ tail)) (length parent) new ≡ parent ++ (new ∷ tail)
  set-behind [] tail number new = refl
  set-behind (x ∷ parent) tail number new = ap (λ xs. x ∷ xs) (set-behind parent tail number new)

  pub behind_run : (made : List ℕ) → offset + count ≤ number → made ≡ set path (length parent) (number - count)
      → made ≡ carry_remove (parent ++ offset ∷ []) count path
  behind_run made least m =
      let yes : nat_le (offset + count) number ≡ true = grind (arith, nat_tests) in
      m ∙ ap (λ xs. set xs (length parent) (number - count)) whole-is ∙ set-behind parent (drop (suc (length parent)) path) number (number - count)
      ∙ sym (carried-is ∙ ap (λ t. parent ++ (if t then (number - count) ∷ drop (suc (length parent)) path
      else (if nat_le offset number then offset ∷ [] else number ∷ drop (suc (length parent)) path))) yes)

  pub in_run : (cut made : List ℕ) → number < offset + count → offset ≤ number → cut ≡ take (length parent) path → made ≡ cut ++ offset ∷ []
      → made ≡ carry_remove (parent ++ offset ∷ []) count path
  in_run cut made most least c m =
      let no : nat_le (offset + count) number ≡ false = grind (arith, nat_tests) in
      let yes : nat_le offset number ≡ true = grind (arith, nat_tests) in
      m ∙ ap (λ xs. xs ++ offset ∷ []) (c ∙ ap (take (length parent)) whole-is ∙ front parent (number ∷ drop (suc (length parent)) path))
      ∙ sym (carried-is ∙ (λ i. parent ++ (if no i then (number - count) ∷ drop (suc (length parent)) path
      else (if yes i then offset ∷ [] else number ∷ drop (suc (length parent)) path))))
    where
      front : (xs ys : List ℕ) → take (length xs) (xs ++ ys) ≡ xs
      front [] ys = refl
      front (x ∷ xs) ys = ap (λ zs. x ∷ zs) (front xs ys)

  pub before_run : number < offset + count → number < offset → path ≡ carry_remove (parent ++ offset ∷ []) count path
  before_run most less =
      let no : nat_le (offset + count) number ≡ false = grind (arith, nat_tests) in
      let not : nat_le offset number ≡ false = grind (arith, nat_tests) in
      whole-is ∙ sym (carried-is ∙ (λ i. parent ++ (if no i then (number - count) ∷ drop (suc (length parent)) path
      else (if not i then offset ∷ [] else number ∷ drop (suc (length parent)) path))))
