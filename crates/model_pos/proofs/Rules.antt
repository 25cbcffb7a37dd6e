-- How a position that is known in parts is carried.
use Rattle.std.proofs.Common.{◌≡◌, ℕ, suc, ◌+◌, ◌-◌, ◌<◌, ◌≤◌, ◌^◌, Bool, true, false, nat_lt, ◌==◌, if◌then◌else◌, List, [], ◌∷◌, ◌++◌, length, Some, None}
use Rattle.std.proofs.Common.{All, refl, sym, ap, ◌∙◌, subst, arith, rules, Fits, w32, length-append, append_assoc}
use Rattle.std.specs.Option.{option_map_or}
use Rattle.std.proofs.lemmas.Bool.Decides.{nat_tests}
use Rattle.item_definitions.specs.Shift.{IsWithinLimits, Stick, rest_behind, within, rule_remove, rule_cut, rule_split, rule_join, rule_merge, comes_before}
use Rattle.model_pos.specs.Untouched.{Untouched}

-- a position behind a parent's path is that path and the rest
pub rest_behind-joined : (parent position rest : List ℕ) → rest_behind parent position ≡ Some rest → position ≡ parent ++ rest
rest_behind-joined [] position rest e = cc
rest_behind-joined (step ∷ parent) [] rest e = absurd cc
rest_behind-joined (step ∷ parent) (index ∷ path) rest e = go (step == index) refl e (rest_behind-joined parent path rest)
  where
    go : (t : Bool) → t ≡ (step == index) → (if t then rest_behind parent path else None) ≡ Some rest
        → (rest_behind parent path ≡ Some rest → path ≡ parent ++ rest) → index ∷ path ≡ step ∷ (parent ++ rest)
    go true t e joined =
        let same : index ≡ step = grind (arith, nat_tests) in
        let tail : path ≡ parent ++ rest = joined e in
        cc
    go false t e joined = absurd cc

untouched-empty : (parent position : List ℕ) → rest_behind parent position ≡ Some [] → Untouched parent position
untouched-empty parent position e rule r =
    ap (λ rest. option_map_or (λ rest. parent ++ rule rest) rest position) e ∙ ap (λ rest. parent ++ rest) r ∙ sym (rest_behind-joined parent position [] e)

-- a rule acts on what is behind the parent's path
pub within-rest : (parent position rest : List ℕ) (rule : List ℕ → List ℕ) → rest_behind parent position ≡ Some rest → within parent rule position
    ≡ parent ++ rule rest
within-rest parent position rest rule e = ap (λ rest. option_map_or (λ rest. parent ++ rule rest) rest position) e

-- a number in a position within the limits is below 2^32
limit-at : (parent path : List ℕ) (number : ℕ) → IsWithinLimits (parent ++ number ∷ path) → number < 2 ^ 32
limit-at parent path number h = go parent path number h.1
  where
    go : (parent path : List ℕ) (number : ℕ) → All (λ n. n < 2 ^ 32) (parent ++ number ∷ path) → number < 2 ^ 32
    go [] path number h = h 0 0 (omega arith)
    go (step ∷ parent) path number h = go parent path number (λ k d less. h (suc k) d (omega (arith, less)))

pub untouched-end : (parent position slice rest : List ℕ) → slice ≡ position → Some rest ≡ rest_behind parent slice → length rest ≡ 0
    → Untouched parent position
untouched-end parent position slice [] e f g = untouched-empty parent position (sym (f ∙ ap (rest_behind parent) e))
untouched-end parent position slice (x ∷ rest) e f g = absurd (omega arith)

pub fits-at : (parent path : List ℕ) (number : ℕ) → IsWithinLimits (parent ++ number ∷ path) → Fits w32 number
fits-at parent path number h = let below : number < 2 ^ 32 = limit-at parent path number h in search rules

pub fits-second : (parent : List ℕ) (first number : ℕ) (path : List ℕ) → IsWithinLimits (parent ++ first ∷ number ∷ path) → Fits w32 number
fits-second parent first number path h = fits-at (parent ++ first ∷ []) path number
    (subst IsWithinLimits (sym (append_assoc parent (first ∷ []) (number ∷ path))) h)

-- a position that is a parent's path, a number and a path has as many numbers as these
pub short-joined : (parent position slice rest path : List ℕ) (number : ℕ) → slice ≡ position → Some rest ≡ rest_behind parent slice
    → rest ≡ number ∷ path → length slice ≤ 65 → length parent + (1 + length path) ≤ 65
short-joined parent position slice rest path number e f g most =
    let whole : slice ≡ parent ++ number ∷ path = rest_behind-joined parent slice (number ∷ path) (sym f ∙ ap Some g) in
    omega (arith, most, ap length whole, length-append parent (number ∷ path))

module _ (parent position path : List ℕ) (number : ℕ) (known : rest_behind parent position ≡ Some (number ∷ path)) where
  -- a position that a rule leaves alone
  pub stays : (rule : List ℕ → List ℕ) → rule (number ∷ path) ≡ number ∷ path → within parent rule position ≡ position
  stays rule e = within-rest parent position (number ∷ path) rule known ∙ ap (λ rest. parent ++ rest) e
      ∙ sym (rest_behind-joined parent position (number ∷ path) known)

  -- a position that a rule changes
  pub goes : (rule : List ℕ → List ℕ) (rest : List ℕ) → rule (number ∷ path) ≡ rest → within parent rule position ≡ parent ++ rest
  goes rule rest e = within-rest parent position (number ∷ path) rule known ∙ ap (λ rest. parent ++ rest) e

pub remove-before : (at count number : ℕ) (path : List ℕ) → number < at → rule_remove at count (number ∷ path) ≡ number ∷ path
remove-before at count number path less = grind (arith, nat_tests)

pub split-before : (element at number : ℕ) (stick : Stick) (path : List ℕ) → number < element → rule_split element at stick (number ∷ path) ≡ number ∷ path
split-before element at number stick path less = pick (number == element) (nat_lt element number) refl refl
  where
    pick : (same more : Bool) → same ≡ (number == element) → more ≡ nat_lt element number
        → (if same then rule_cut element at stick path else (if more then number + 1 else number) ∷ path) ≡ number ∷ path
    pick true more e f = absurd (grind (arith, nat_tests))
    pick false true e f = absurd (grind (arith, nat_tests))
    pick false false e f = refl

pub split-behind : (element at number : ℕ) (stick : Stick) (path : List ℕ) → element < number → rule_split element at stick (number ∷ path)
    ≡ (number + 1) ∷ path
split-behind element at number stick path less = pick (number == element) (nat_lt element number) refl refl
  where
    pick : (same more : Bool) → same ≡ (number == element) → more ≡ nat_lt element number
        → (if same then rule_cut element at stick path else (if more then number + 1 else number) ∷ path) ≡ (number + 1) ∷ path
    pick true more e f = absurd (grind (arith, nat_tests))
    pick false true e f = refl
    pick false false e f = absurd (grind (arith, nat_tests))

split-at : (element at number : ℕ) (stick : Stick) (path : List ℕ) → number ≡ element → rule_split element at stick (number ∷ path)
    ≡ rule_cut element at stick path
split-at element at number stick path e = pick (number == element) refl
  where
    pick : (same : Bool) → same ≡ (number == element)
        → (if same then rule_cut element at stick path else (if nat_lt element number then number + 1 else number) ∷ path) ≡ rule_cut element at stick path
    pick true f = refl
    pick false f = absurd (grind (arith, nat_tests))

pub split-end : (element at number : ℕ) (stick : Stick) (path : List ℕ) → number ≡ element → length path ≡ 0
    → rule_split element at stick (number ∷ path) ≡ number ∷ path
split-end element at number stick [] e f = split-at element at number stick [] e ∙ ap (λ n. n ∷ []) (sym e)
split-end element at number stick (inner ∷ path) e f = absurd (omega arith)

pub split-stays : (element at number inner : ℕ) (stick : Stick) (path rest : List ℕ) (before : Bool) → number ≡ element → path ≡ inner ∷ rest
    → before ≡ comes_before at stick inner rest → before ≡ false → rule_split element at stick (number ∷ path) ≡ number ∷ path
split-stays element at number inner stick path rest before e f g h =
    split-at element at number stick path e ∙ ap (rule_cut element at stick) f
    ∙ ap (λ b. if b then (element + 1) ∷ (inner - at) ∷ rest else element ∷ inner ∷ rest) (sym g ∙ h) ∙ (λ t. sym e t ∷ sym f t)

pub split-goes : (element at number inner : ℕ) (stick : Stick) (path rest : List ℕ) (before : Bool) → number ≡ element → path ≡ inner ∷ rest
    → before ≡ comes_before at stick inner rest → before ≡ true → rule_split element at stick (number ∷ path) ≡ (element + 1) ∷ (inner - at) ∷ rest
split-goes element at number inner stick path rest before e f g h =
    split-at element at number stick path e ∙ ap (rule_cut element at stick) f
    ∙ ap (λ b. if b then (element + 1) ∷ (inner - at) ∷ rest else element ∷ inner ∷ rest) (sym g ∙ h)

pub merge-before : (right count number : ℕ) (path : List ℕ) → number < right → rule_merge right count (number ∷ path) ≡ number ∷ path
merge-before right count number path less = pick (number == right) (nat_lt right number) refl refl
  where
    pick : (same more : Bool) → same ≡ (number == right) → more ≡ nat_lt right number
        → (if same then (right - 1) ∷ rule_join count path else (if more then number - 1 else number) ∷ path) ≡ number ∷ path
    pick true more e f = absurd (grind (arith, nat_tests))
    pick false true e f = absurd (grind (arith, nat_tests))
    pick false false e f = refl

merge-at : (right count number : ℕ) (path : List ℕ) → number ≡ right → rule_merge right count (number ∷ path) ≡ (right - 1) ∷ rule_join count path
merge-at right count number path e = pick (number == right) refl
  where
    pick : (same : Bool) → same ≡ (number == right)
        → (if same then (right - 1) ∷ rule_join count path else (if nat_lt right number then number - 1 else number) ∷ path)
        ≡ (right - 1) ∷ rule_join count path
    pick true f = refl
    pick false f = absurd (grind (arith, nat_tests))

pub merge-in : (right count number inner : ℕ) (path rest : List ℕ) → number ≡ right → path ≡ inner ∷ rest → rule_merge right count (number ∷ path)
    ≡ (right - 1) ∷ (count + inner) ∷ rest
merge-in right count number inner path rest e f = merge-at right count number path e ∙ ap (λ p. (right - 1) ∷ rule_join count p) f
