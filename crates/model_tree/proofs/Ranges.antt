-- Parts of a list that is put together from lists.
use Rattle.std.proofs.Common.{◌≡◌, ℕ, zero, suc, ◌<◌, ◌≤◌, ◌+◌, ◌-◌, min, List, [], ◌∷◌, ◌++◌, map, length, take, drop, refl, sym, ap, ◌∙◌, arith, append_assoc}
use Rattle.std.proofs.Common.{append-nil, length-drop}
use Rattle.std.proofs.lemmas.List.{take_all, drop-append-le}
use Rattle.std.proofs.Math.Seq.{drop-append-add}
use Rattle.model_tree.specs.Parts.{TextParts}
use Rattle.model_tree.specs.Nodes.{characters}
use Rattle.item_definitions.specs.Item.{character}

module _ {X : Type 0} where
  -- no items
  pub nothing : (front items : List X) (count : ℕ) → count ≡ 0 → front ≡ front ++ take count items
  nothing front items count e = sym (ap (λ n. front ++ take n items) e ∙ append-nil front)

  -- the first list is passed over whole
  pub passed_over : (front first rest whole : List X) (skip left : ℕ) → length first ≤ skip → front ++ take left (drop skip (first ++ rest)) ≡ whole
      → front ++ take left (drop (skip - length first) rest) ≡ whole
  passed_over front first rest whole skip left most h =
      let same : length first + (skip - length first) ≡ skip = omega arith in
      ap (λ items. front ++ take left items) (sym (ap (λ n. drop n (first ++ rest)) (sym same) ∙ drop-append-add first rest (skip - length first))) ∙ h

  take-both : (first rest : List X) (left n : ℕ) → n ≡ min left (length first) → take left (first ++ rest) ≡ take n first ++ take (left - n) rest
  take-both first rest zero n e = (let none : n ≡ 0 = omega arith in sym (ap (λ m. take m first ++ take (0 - m) rest) none))
  take-both [] rest (suc left) n e =
      let none : n ≡ 0 = omega arith in
      let all : suc left - 0 ≡ suc left = omega arith in
      sym (ap (λ m. take {A = X} m [] ++ take (suc left - m) rest) none ∙ ap (λ m. take m rest) all)
  take-both (x ∷ first) rest (suc left) n e =
      let one : n ≡ suc (n - 1) = omega arith in
      let less : suc left - suc (n - 1) ≡ left - (n - 1) = omega arith in
      ap (λ items. x ∷ items) (take-both first rest left (n - 1) (omega arith))
      ∙ ap (λ m. (x ∷ take (n - 1) first) ++ take m rest) (sym less) ∙ ap (λ m. take m (x ∷ first) ++ take (suc left - m) rest) (sym one)

  -- part of the first list is taken, and the rest of what is to be taken is at the start of the others
  pub taken : (front first rest whole made : List X) (skip left n : ℕ) → skip < length first → n ≡ min left (length first - skip)
      → made ≡ front ++ take n (drop skip first) → front ++ take left (drop skip (first ++ rest)) ≡ whole → made ++ take (left - n) (drop 0 rest) ≡ whole
  taken front first rest whole made skip left n less e m h =
      let long : length (drop skip first) ≡ length first - skip = length-drop skip first in
      ap (λ items. items ++ take (left - n) rest) m ∙ append_assoc front (take n (drop skip first)) (take (left - n) rest)
      ∙ ap (λ items. front ++ items)
      (sym (ap (take left) (drop-append-le skip first rest (omega arith)) ∙ take-both (drop skip first) rest left n (e ∙ ap (min left) (sym long)))) ∙ h

  -- no more is to be taken
  pub all_taken : (front items whole : List X) (left : ℕ) → front ++ take left items ≡ whole → left ≡ 0 → front ≡ whole
  all_taken front items whole left h e = sym (append-nil front) ∙ ap (λ n. front ++ take n items) (sym e) ∙ h

  drop-none : (n : ℕ) → drop {A = X} n [] ≡ []
  drop-none zero = refl
  drop-none (suc n) = refl

  take-none : (n : ℕ) → take {A = X} n [] ≡ []
  take-none zero = refl
  take-none (suc n) = refl

  -- there are no more
  pub at_end : (front items whole : List X) (left skip : ℕ) → front ++ take left (drop skip items) ≡ whole → items ≡ [] → front ≡ whole
  at_end front items whole left skip h e =
      let none : take left (drop skip items) ≡ [] = ap (λ xs. take left (drop skip xs)) e ∙ ap (take left) (drop-none skip) ∙ take-none left in
      sym (append-nil front) ∙ ap (λ xs. front ++ xs) (sym none) ∙ h

  -- there are no more of the rest
  pub nothing_left : (front items whole : List X) (skip : ℕ) → front ++ drop skip items ≡ whole → items ≡ [] → front ≡ whole
  nothing_left front items whole skip h e =
      let none : drop skip items ≡ [] = ap (drop skip) e ∙ drop-none skip in
      sym (append-nil front) ∙ ap (λ xs. front ++ xs) (sym none) ∙ h

  -- the rest of the first list is passed over whole
  pub rest_over : (front first rest whole : List X) (skip : ℕ) → length first ≤ skip → front ++ drop skip (first ++ rest) ≡ whole
      → front ++ drop (skip - length first) rest ≡ whole
  rest_over front first rest whole skip most h =
      let same : length first + (skip - length first) ≡ skip = omega arith in
      ap (λ items. front ++ items) (sym (ap (λ n. drop n (first ++ rest)) (sym same) ∙ drop-append-add first rest (skip - length first))) ∙ h

  -- all that is left of the first list is taken
  pub rest_taken : (front first rest whole made : List X) (skip n : ℕ) → skip < length first → n ≡ length first - skip
      → made ≡ front ++ take n (drop skip first) → front ++ drop skip (first ++ rest) ≡ whole → made ++ drop 0 rest ≡ whole
  rest_taken front first rest whole made skip n less e m h =
      let all : take n (drop skip first) ≡ drop skip first = take_all n (drop skip first) (omega (arith, length-drop skip first)) in
      ap (λ items. items ++ rest) (m ∙ ap (λ items. front ++ items) all) ∙ append_assoc front (drop skip first) rest
      ∙ ap (λ items. front ++ items) (sym (drop-append-le skip first rest (omega arith))) ∙ h

  -- a list put together from the start of one, another one and the rest of the first
  pub three : (a b c first second third : List X) (offset : ℕ) → a ≡ [] ++ take offset (drop 0 first) → b ≡ a ++ drop 0 second → c ≡ b ++ third
      → c ≡ take offset first ++ (second ++ third)
  three a b c first second third offset e f g = g ∙ ap (λ items. items ++ third) (f ∙ ap (λ items. items ++ second) e)
      ∙ append_assoc (take offset first) second third

  -- all of a list of one
  pub whole : (x : X) (offset count : ℕ) → 0 < count → offset + count ≤ 1 → x ∷ [] ≡ take count (drop offset (x ∷ []))
  whole x offset count some most =
      let first : offset ≡ 0 = omega arith in
      let one : count ≡ 1 = omega arith in
      sym (ap (λ n. take count (drop n (x ∷ []))) first ∙ ap (λ n. take n (x ∷ [])) one)

take-map : {X Y : Type 0} (f : X → Y) (n : ℕ) (xs : List X) → take n (map f xs) ≡ map f (take n xs)
take-map f zero xs = refl
take-map f (suc n) [] = refl
take-map f (suc n) (x ∷ xs) = ap (λ ys. f x ∷ ys) (take-map f n xs)

drop-map : {X Y : Type 0} (f : X → Y) (n : ℕ) (xs : List X) → drop n (map f xs) ≡ map f (drop n xs)
drop-map f zero xs = refl
drop-map f (suc n) [] = refl
drop-map f (suc n) (x ∷ xs) = drop-map f n xs

-- the characters of a part of a text
pub part_of_text : (text part : TextParts) (offset count : ℕ) → part.scalars ≡ take count (drop offset text.scalars) → part.attributes ≡ text.attributes
    → characters part ≡ take count (drop offset (characters text))
part_of_text text part offset count s a =
    (λ i. map (λ scalar. character scalar (a i)) (s i))
    ∙ sym (ap (take count) (drop-map (λ scalar. character scalar text.attributes) offset text.scalars)
    ∙ take-map (λ scalar. character scalar text.attributes) count (drop offset text.scalars))
