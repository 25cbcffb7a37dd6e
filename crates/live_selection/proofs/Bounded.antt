-- Which items of one list lie between two bounds.
use Rattle.std.proofs.Common.{◌≡◌, ℕ, zero, suc, ◌+◌, ◌<◌, ◌≤◌, max, List, [], ◌∷◌, Bool, true, false, ◌&&◌, ◌||◌, ◌==◌, nat_le, nat_lt, Option, Some, None}
use Rattle.std.proofs.Common.{refl, sym, ap, ◌∙◌, arith}
use Rattle.std.proofs.lemmas.Bool.Decides.{nat_tests}
use Rattle.item_definitions.specs.Position.{not_after, behind}
use Rattle.item_definitions.proofs.Order.{not_after-cons}
use Rattle.live_selection.specs.Within.{ends_by, any_from}

past : (last : ℕ) (ends : List ℕ) (next : ℕ) → last < next → (path : List ℕ) → not_after (next ∷ path) (last ∷ ends) ≡ false
past last ends next less path = not_after-cons next last path ends ∙ settled next last (not_after path ends) less
  where
    settled : (next last : ℕ) (b : Bool) → last < next → (nat_lt next last || (next == last && b)) ≡ false
    settled next last b less = grind (arith, nat_tests)

-- an item is past an upper bound whose first number is below the item's
behind-past : (last : ℕ) (ends : List ℕ) (next : ℕ) (rest : List ℕ) → last < next → not_after (behind (next ∷ rest)) (last ∷ ends) ≡ false
behind-past last ends next [] less = past last ends (next + 1) (omega arith) []
behind-past last ends next (other ∷ rest) less = past last ends next less (behind (other ∷ rest))

and-false : (b : Bool) → (b && false) ≡ false
and-false true = refl
and-false false = refl

pub behind_end : (low : Bool) (last : ℕ) (ends : List ℕ) (next : ℕ) (rest : List ℕ) → last < next
    → (low && not_after (behind (next ∷ rest)) (last ∷ ends)) ≡ false
behind_end low last ends next rest less = ap (λ b. low && b) (behind-past last ends next rest less) ∙ and-false low

behind-none : (next : ℕ) (rest : List ℕ) → not_after (behind (next ∷ rest)) [] ≡ false
behind-none next [] = refl
behind-none next (other ∷ rest) = refl

pub no_end : (low : Bool) (next : ℕ) (rest : List ℕ) → (low && not_after (behind (next ∷ rest)) []) ≡ false
no_end low next rest = ap (λ b. low && b) (behind-none next rest) ∙ and-false low

-- an item behind one that ends past the upper bound also does
later-past : (end : Option (List ℕ)) (index : ℕ) → ends_by end ((index + 1) ∷ []) ≡ false → ends_by end ((index + 1 + 1) ∷ []) ≡ false
later-past None index h = absurd cc
later-past (Some []) index h = refl
later-past (Some (last ∷ ends)) index h =
    not_after-cons (index + 1 + 1) last [] ends ∙ settled index last (not_after [] ends) (sym (not_after-cons (index + 1) last [] ends) ∙ h)
  where
    settled : (index last : ℕ) (b : Bool) → (nat_lt (index + 1) last || (index + 1 == last && b)) ≡ false
        → (nat_lt (index + 1 + 1) last || (index + 1 + 1 == last && b)) ≡ false
    settled index last b h = grind (arith, nat_tests)

-- one of the items from an index on lies between bounds exactly where the first one does that isn't before the lower bound
module _ (low : ℕ) (ends : ℕ → Bool) (later : (index : ℕ) → ends index ≡ false → ends (index + 1) ≡ false) where
  settled : (here next some : Bool) → (here ≡ false → next ≡ false) → (here || (some && next)) ≡ here
  settled true next some h = refl
  settled false next some h = ap (λ b. some && b) (h refl) ∙ and-false some

  any-is : (index count : ℕ) → any_from (λ i. nat_le low i && ends i) index count ≡ (nat_lt (max low index) (index + count) && ends (max low index))
  any-is index zero =
      let none : nat_lt (max low index) (index + zero) ≡ false = grind (arith, nat_tests) in
      sym (ap (λ b. b && ends (max low index)) none)
  any-is index (suc count) = go (nat_le low index) refl (any-is (index + 1) count)
    where
      go : (t : Bool) → t ≡ nat_le low index
          → any_from (λ i. nat_le low i && ends i) (index + 1) count ≡ (nat_lt (max low (index + 1)) (index + 1 + count) && ends (max low (index + 1)))
          → ((nat_le low index && ends index) || any_from (λ i. nat_le low i && ends i) (index + 1) count)
          ≡ (nat_lt (max low index) (index + suc count) && ends (max low index))
      go true e rest =
          let least : low ≤ index = grind (arith, nat_tests) in
          let here : max low index ≡ index = omega arith in
          let next : max low (index + 1) ≡ index + 1 = omega arith in
          let less : nat_lt index (index + suc count) ≡ true = grind (arith, nat_tests) in
          (λ i. (sym e i && ends index) || rest i)
          ∙ (λ i. ends index || (nat_lt (next i) (index + 1 + count) && ends (next i)))
          ∙ settled (ends index) (ends (index + 1)) (nat_lt (index + 1) (index + 1 + count)) (later index)
          ∙ sym ((λ i. nat_lt (here i) (index + suc count) && ends (here i)) ∙ ap (λ b. b && ends index) less)
      go false e rest =
          let more : index < low = grind (arith, nat_tests) in
          let here : max low index ≡ low = omega arith in
          let next : max low (index + 1) ≡ low = omega arith in
          let same : index + 1 + count ≡ index + suc count = omega arith in
          (λ i. (sym e i && ends index) || rest i)
          ∙ (λ i. nat_lt (next i) (same i) && ends (next i))
          ∙ sym (λ i. nat_lt (here i) (index + suc count) && ends (here i))

  pub one_from : (start : List ℕ) → ((index : ℕ) → not_after start (index ∷ []) ≡ nat_le low index) → (index count : ℕ)
      → any_from (λ i. not_after start (i ∷ []) && ends i) index count ≡ (nat_lt (max low index) (index + count) && ends (max low index))
  one_from start h index count = ap (λ (test : ℕ → Bool). any_from (λ i. test i && ends i) index count) (λ t i. h i t) ∙ any-is index count

-- the same for the code's calls
pub some_from : (low : ℕ) (start : List ℕ) (end : Option (List ℕ)) (index count first : ℕ) → ((i : ℕ) → not_after start (i ∷ []) ≡ nat_le low i)
    → first ≡ max low index → first < index + count
    → ends_by end ((first + 1) ∷ []) ≡ any_from (λ i. not_after start (i ∷ []) && ends_by end ((i + 1) ∷ [])) index count
some_from low start end index count first h is less =
    let has : nat_lt first (index + count) ≡ true = grind (arith, nat_tests) in
    sym (one_from low (λ i. ends_by end ((i + 1) ∷ [])) (later-past end) start h index count
    ∙ (λ t. nat_lt (sym is t) (index + count) && ends_by end ((sym is t + 1) ∷ []))
    ∙ ap (λ b. b && ends_by end ((first + 1) ∷ [])) has)

pub none_from : (low : ℕ) (start : List ℕ) (end : Option (List ℕ)) (index count first : ℕ) → ((i : ℕ) → not_after start (i ∷ []) ≡ nat_le low i)
    → first ≡ max low index → index + count ≤ first
    → nat_lt first (index + count) ≡ any_from (λ i. not_after start (i ∷ []) && ends_by end ((i + 1) ∷ [])) index count
none_from low start end index count first h is least =
    let none : nat_lt first (index + count) ≡ false = grind (arith, nat_tests) in
    none
    ∙ sym (one_from low (λ i. ends_by end ((i + 1) ∷ [])) (later-past end) start h index count
    ∙ (λ t. nat_lt (sym is t) (index + count) && ends_by end ((sym is t + 1) ∷ []))
    ∙ ap (λ b. b && ends_by end ((first + 1) ∷ [])) none)
