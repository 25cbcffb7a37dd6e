-- The flat parts of a range have exactly its items.
use Rattle.std.proofs.Common.{◌≡◌, ℕ, ◌+◌, ◌<◌, Bool, true, false, ◌&&◌, ◌||◌, nat_lt, nat_le, ◌==◌, if◌then◌else◌, List, [], ◌∷◌, ◌++◌, map, Option, Some}
use Rattle.std.proofs.Common.{None, IsSome, IsSomeAnd, unwrap_or, refl, sym, ap, ◌∙◌, arith}
use Rattle.std.specs.List.{list_any}
use Rattle.std.proofs.lemmas.Bool.{false≢true}
use Rattle.std.proofs.lemmas.Bool.Decides.{nat_tests}
use Rattle.std.proofs.lemmas.List.Folds.{list_any-append}
use Rattle.ck_base.proofs.Common.{and_either}
use Rattle.item_definitions.specs.Position.{Range, between, not_after}
use Rattle.item_definitions.specs.FlatParts.{under, run, next_offset, counts_under, parts_behind, parts_before, parts_between}
use Rattle.item_definitions.proofs.Order.{not_after-cons, not_after-none, has, apart, inside}

-- an index below the number of items of a parent
abbrev pub At : (List ℕ → Option ℕ) → List ℕ → ℕ → Type 0
At counts parent index = IsSomeAnd (counts parent) (λ count. index < count)

-- elements stand in elements alone
abbrev pub Coherent : (List ℕ → Option ℕ) → Type 0
Coherent counts = (above : List ℕ) (index : ℕ) (path : List ℕ) → IsSome (counts (above ++ index ∷ path)) → index < unwrap_or (counts above) 0

-- some of the ranges has the item at an index of a parent
abbrev pub any_has : List Range → List ℕ → ℕ → Bool
any_has parts parent index = list_any (λ part. has part.start part.end parent index) parts

at-below : (o : Option ℕ) (index : ℕ) → IsSomeAnd o (λ count. index < count) → index < unwrap_or o 0
at-below None index h = absurd h
at-below (Some count) index h = h

pub at-some : (o : Option ℕ) (index : ℕ) → IsSomeAnd o (λ count. index < count) → IsSome o
at-some None index h = absurd h
at-some (Some count) index h = refl

pub has-here : (i j k : ℕ) (p q : List ℕ) → has (i ∷ p) (j ∷ q) [] k
    ≡ ((nat_lt i k || (i == k && not_after p [])) && (nat_lt (k + 1) j || (k + 1 == j && not_after [] q)))
has-here i j k p q = λ t. not_after-cons i k p [] t && not_after-cons (k + 1) j [] q t

pub has-below : (i j y k : ℕ) (p q parent : List ℕ) → has (i ∷ p) (j ∷ q) (y ∷ parent) k
    ≡ ((nat_lt i y || (i == y && not_after p (parent ++ k ∷ []))) && (nat_lt y j || (y == j && not_after (parent ++ (k + 1) ∷ []) q)))
has-below i j y k p q parent = λ t. not_after-cons i y p (parent ++ k ∷ []) t && not_after-cons y j (parent ++ (k + 1) ∷ []) q t

pub not_after-push : (parent : List ℕ) (k : ℕ) → not_after (parent ++ k ∷ []) [] ≡ false
not_after-push [] k = refl
not_after-push (x ∷ parent) k = refl

under-here : (i k : ℕ) (parts : List Range) → any_has (map (under i) parts) [] k ≡ false
under-here i k [] = refl
under-here i k (part ∷ parts) =
    λ t. (has-here i i k part.start part.end ∙ apart i k (not_after part.start []) (not_after [] part.end)) t || under-here i k parts t

under-below : (i y k : ℕ) (parent : List ℕ) (parts : List Range) → any_has (map (under i) parts) (y ∷ parent) k ≡ (i == y && any_has parts parent k)
under-below i y k parent [] = grind (arith, nat_tests)
under-below i y k parent (part ∷ parts) =
    (λ t. (has-below i i y k part.start part.end parent
    ∙ inside i y (not_after part.start (parent ++ k ∷ [])) (not_after (parent ++ (k + 1) ∷ []) part.end)) t || under-below i y k parent parts t)
    ∙ and_either (i == y) (has part.start part.end parent k) (any_has parts parent k)

run-here : (a b k : ℕ) → any_has (run a b) [] k ≡ (nat_le a k && nat_lt k b)
run-here a b k = go (nat_lt a b) refl
  where
    go : (t : Bool) → t ≡ nat_lt a b → any_has (if t then between (a ∷ []) (b ∷ []) ∷ [] else []) [] k ≡ (nat_le a k && nat_lt k b)
    go true e = (λ t. has-here a b k [] [] t || false) ∙ grind (arith, nat_tests)
    go false e = grind (arith, nat_tests)

run-below : (a b y k : ℕ) (parent : List ℕ) → any_has (run a b) (y ∷ parent) k ≡ (nat_le a y && nat_lt y b)
run-below a b y k parent = go (nat_lt a b) refl
  where
    go : (t : Bool) → t ≡ nat_lt a b → any_has (if t then between (a ∷ []) (b ∷ []) ∷ [] else []) (y ∷ parent) k ≡ (nat_le a y && nat_lt y b)
    go true e = (λ t. has-below a b y k [] [] parent t || false)
        ∙ (λ t. ((nat_lt a y || (a == y && not_after-none (parent ++ k ∷ []) t)) && (nat_lt y b || (y == b && not_after-push parent (k + 1) t))) || false)
        ∙ grind (arith, nat_tests)
    go false e = grind (arith, nat_tests)

-- the items that stand behind a position are those that don't come before it
pub behind-has : (counts : List ℕ → Option ℕ) (i : ℕ) (p parent : List ℕ) (k : ℕ) → Coherent counts → At counts parent k
    → any_has (parts_behind counts (i ∷ p)) parent k ≡ not_after (i ∷ p) (parent ++ k ∷ [])
behind-has counts i [] [] k tree at =
    let below : k < unwrap_or (counts []) 0 = at-below (counts []) k at in
    run-here i (unwrap_or (counts []) 0) k ∙ grind (arith, nat_tests) ∙ sym (not_after-cons i k [] [])
behind-has counts i [] (y ∷ parent) k tree at =
    let below : y < unwrap_or (counts []) 0 = tree [] y parent (at-some (counts (y ∷ parent)) k at) in
    run-below i (unwrap_or (counts []) 0) y k parent ∙ grind (arith, nat_tests)
    ∙ sym (not_after-cons i y [] (parent ++ k ∷ []) ∙ ap (λ b. nat_lt i y || (i == y && b)) (not_after-none (parent ++ k ∷ [])))
behind-has counts i (next ∷ p) [] k tree at =
    let below : k < unwrap_or (counts []) 0 = at-below (counts []) k at in
    let inner = parts_behind (counts_under i counts) (next ∷ p) in
    list_any-append (λ part. has part.start part.end [] k) (map (under i) inner) (run (i + 1) (unwrap_or (counts []) 0))
    ∙ (λ t. under-here i k inner t || run-here (i + 1) (unwrap_or (counts []) 0) k t)
    ∙ grind (arith, nat_tests) ∙ sym (not_after-cons i k (next ∷ p) [])
behind-has counts i (next ∷ p) (y ∷ parent) k tree at =
    let below : y < unwrap_or (counts []) 0 = tree [] y parent (at-some (counts (y ∷ parent)) k at) in
    let inner = parts_behind (counts_under i counts) (next ∷ p) in
    let same : i ≡ y → any_has inner parent k ≡ not_after (next ∷ p) (parent ++ k ∷ []) =
    λ e. behind-has (counts_under i counts) next p parent k (λ above. tree (i ∷ above)) (rw e at) in
    list_any-append (λ part. has part.start part.end (y ∷ parent) k) (map (under i) inner) (run (i + 1) (unwrap_or (counts []) 0))
    ∙ (λ t. under-below i y k parent inner t || run-below (i + 1) (unwrap_or (counts []) 0) y k parent t)
    ∙ step i y (unwrap_or (counts []) 0) (any_has inner parent k) (not_after (next ∷ p) (parent ++ k ∷ [])) same below
    ∙ sym (not_after-cons i y (next ∷ p) (parent ++ k ∷ []))
  where
    step : (i y count : ℕ) (a b : Bool) → (i ≡ y → a ≡ b) → y < count → ((i == y && a) || (nat_le (i + 1) y && nat_lt y count)) ≡ (nat_lt i y || (i == y && b))
    step i y count a b same below = grind (arith, nat_tests)

-- the items that stand before a position are those that end not behind it
pub before-has : (q parent : List ℕ) (k : ℕ) → any_has (parts_before q) parent k ≡ not_after (parent ++ (k + 1) ∷ []) q
before-has [] parent k = sym (not_after-push parent (k + 1))
before-has (j ∷ q) [] k =
    list_any-append (λ part. has part.start part.end [] k) (run 0 j) (map (under j) (parts_before q))
    ∙ (λ t. run-here 0 j k t || under-here j k (parts_before q) t)
    ∙ grind (arith, nat_tests) ∙ sym (not_after-cons (k + 1) j [] q ∙ ap (λ b. nat_lt (k + 1) j || (k + 1 == j && b)) (not_after-none q))
before-has (j ∷ q) (y ∷ parent) k =
    list_any-append (λ part. has part.start part.end (y ∷ parent) k) (run 0 j) (map (under j) (parts_before q))
    ∙ (λ t. run-below 0 j y k parent t || (under-below j y k parent (parts_before q) ∙ ap (λ b. j == y && b) (before-has q parent k)) t)
    ∙ step j y (not_after (parent ++ (k + 1) ∷ []) q) ∙ sym (not_after-cons y j (parent ++ (k + 1) ∷ []) q)
  where
    step : (j y : ℕ) (b : Bool) → ((nat_le 0 y && nat_lt y j) || (j == y && b)) ≡ (nat_lt y j || (y == j && b))
    step j y b = grind (arith, nat_tests)

-- the items that stand behind the start in the item that it is in, and those that stand between that one and the end's
from_start : (counts : List ℕ → Option ℕ) (i j : ℕ) (p parent : List ℕ) (k : ℕ) → Coherent counts → At counts parent k → i < j
    → any_has (map (under i) (parts_behind (counts_under i counts) p) ++ run (next_offset i p) j) parent k
    ≡ (not_after (i ∷ p) (parent ++ k ∷ []) && not_after (parent ++ (k + 1) ∷ []) (j ∷ []))
from_start counts i j [] [] k tree at less = run-here i j k ∙ grind (arith, nat_tests) ∙ sym (has-here i j k [] [])
from_start counts i j [] (y ∷ parent) k tree at less =
    run-below i j y k parent ∙ grind (arith, nat_tests)
    ∙ sym (has-below i j y k [] [] parent
    ∙ (λ t. (nat_lt i y || (i == y && not_after-none (parent ++ k ∷ []) t)) && (nat_lt y j || (y == j && not_after-push parent (k + 1) t))))
from_start counts i j (next ∷ p) [] k tree at less =
    let inner = parts_behind (counts_under i counts) (next ∷ p) in
    list_any-append (λ part. has part.start part.end [] k) (map (under i) inner) (run (i + 1) j)
    ∙ (λ t. under-here i k inner t || run-here (i + 1) j k t)
    ∙ grind (arith, nat_tests) ∙ sym (has-here i j k (next ∷ p) [])
from_start counts i j (next ∷ p) (y ∷ parent) k tree at less =
    let inner = parts_behind (counts_under i counts) (next ∷ p) in
    let same : i ≡ y → any_has inner parent k ≡ not_after (next ∷ p) (parent ++ k ∷ []) =
    λ e. behind-has (counts_under i counts) next p parent k (λ above. tree (i ∷ above)) (rw e at) in
    list_any-append (λ part. has part.start part.end (y ∷ parent) k) (map (under i) inner) (run (i + 1) j)
    ∙ (λ t. under-below i y k parent inner t || run-below (i + 1) j y k parent t)
    ∙ step i y j (any_has inner parent k) (not_after (next ∷ p) (parent ++ k ∷ [])) same less
    ∙ sym (has-below i j y k (next ∷ p) [] parent
    ∙ (λ t. (nat_lt i y || (i == y && not_after (next ∷ p) (parent ++ k ∷ []))) && (nat_lt y j || (y == j && not_after-push parent (k + 1) t))))
  where
    step : (i y j : ℕ) (a b : Bool) → (i ≡ y → a ≡ b) → i < j → ((i == y && a) || (nat_le (i + 1) y && nat_lt y j))
        ≡ ((nat_lt i y || (i == y && b)) && (nat_lt y j || (y == j && false)))
    step i y j a b same less = grind (arith, nat_tests)

pub or-assoc : (a b c : Bool) → ((a || b) || c) ≡ (a || (b || c))
or-assoc true b c = refl
or-assoc false b c = refl

module _ (counts : List ℕ → Option ℕ) (i j : ℕ) (p q : List ℕ) (k : ℕ) (tree : Coherent counts) (ordered : (nat_lt i j || (i == j && not_after p q))
    ≡ true) where
  -- the step at the first numbers of both positions
  between-step : (t : Bool) → t ≡ (i == j)
      → ((y : ℕ) (parent : List ℕ) → At counts (y ∷ parent) k → i ≡ j → i ≡ y → any_has (parts_between (counts_under i counts) p q) parent k ≡ has p q parent k)
      → (parent : List ℕ) → At counts parent k
      → any_has (if t then map (under i) (parts_between (counts_under i counts) p q)
      else map (under i) (parts_behind (counts_under i counts) p) ++ (run (next_offset i p) j ++ map (under j) (parts_before q))) parent k
      ≡ has (i ∷ p) (j ∷ q) parent k
  between-step true e deep [] at =
      let same : i ≡ j = grind (arith, nat_tests) in
      under-here i k (parts_between (counts_under i counts) p q)
      ∙ sym (has-here i j k p q ∙ ap (λ m. (nat_lt i k || (i == k && not_after p [])) && (nat_lt (k + 1) m || (k + 1 == m && not_after [] q)))
      (sym same) ∙ apart i k (not_after p []) (not_after [] q))
  between-step true e deep (y ∷ parent) at =
      let same : i ≡ j = grind (arith, nat_tests) in
      under-below i y k parent (parts_between (counts_under i counts) p q)
      ∙ step i y (any_has (parts_between (counts_under i counts) p q) parent k) (has p q parent k) (deep y parent at same)
      ∙ sym (has-below i j y k p q parent
      ∙ ap (λ m. (nat_lt i y || (i == y && not_after p (parent ++ k ∷ []))) && (nat_lt y m || (y == m && not_after (parent ++ (k + 1) ∷ []) q)))
      (sym same) ∙ inside i y (not_after p (parent ++ k ∷ [])) (not_after (parent ++ (k + 1) ∷ []) q))
    where
      step : (i y : ℕ) (a b : Bool) → (i ≡ y → a ≡ b) → (i == y && a) ≡ (i == y && b)
      step i y a b same = grind (arith, nat_tests)
  between-step false e deep parent at =
      let front = map (under i) (parts_behind (counts_under i counts) p) in
      let middle = run (next_offset i p) j in
      let back = map (under j) (parts_before q) in
      let test = λ (part : Range). has part.start part.end parent k in
      let less : i < j = grind (arith, nat_tests) in
      list_any-append test front (middle ++ back)
      ∙ ap (λ b. list_any test front || b) (list_any-append test middle back)
      ∙ sym (or-assoc (list_any test front) (list_any test middle) (list_any test back))
      ∙ ap (λ b. b || list_any test back) (sym (list_any-append test front middle) ∙ from_start counts i j p parent k tree at less)
      ∙ last parent less
    where
      step : (i y j : ℕ) (b c : Bool) → i < j → (((nat_lt i y || (i == y && b)) && (nat_lt y j || (y == j && false))) || (j == y && c))
          ≡ ((nat_lt i y || (i == y && b)) && (nat_lt y j || (y == j && c)))
      step i y j b c less = grind (arith, nat_tests)

      none : (a b : Bool) → a ≡ b → (a || false) ≡ b
      none true b e = e
      none false b e = e

      last : (parent : List ℕ) → i < j
          → ((not_after (i ∷ p) (parent ++ k ∷ []) && not_after (parent ++ (k + 1) ∷ []) (j ∷ [])) || any_has (map (under j) (parts_before q)) parent k)
          ≡ has (i ∷ p) (j ∷ q) parent k
      last [] less =
          ap (λ b. has (i ∷ p) (j ∷ []) [] k || b) (under-here j k (parts_before q))
          ∙ none (has (i ∷ p) (j ∷ []) [] k) (has (i ∷ p) (j ∷ q) [] k)
          (has-here i j k p [] ∙ ap (λ b. (nat_lt i k || (i == k && not_after p [])) && (nat_lt (k + 1) j || (k + 1 == j && b)))
          (sym (not_after-none q)) ∙ sym (has-here i j k p q))
      last (y ∷ parent) less =
          (λ t. (has-below i j y k p [] parent
          ∙ (λ s. (nat_lt i y || (i == y && not_after p (parent ++ k ∷ []))) && (nat_lt y j || (y == j && not_after-push parent (k + 1) s)))) t
          || (under-below j y k parent (parts_before q) ∙ ap (λ b. j == y && b) (before-has q parent k)) t)
          ∙ step i y j (not_after p (parent ++ k ∷ [])) (not_after (parent ++ (k + 1) ∷ []) q) less
          ∙ sym (has-below i j y k p q parent)

-- the items between two positions are those of the parts between them
pub between-has : (counts : List ℕ → Option ℕ) (p q parent : List ℕ) (k : ℕ) → Coherent counts → At counts parent k → not_after p q ≡ true
    → any_has (parts_between counts p q) parent k ≡ has p q parent k
between-has counts [] q parent k tree at below =
    before-has q parent k ∙ ap (λ b. b && not_after (parent ++ (k + 1) ∷ []) q) (sym (not_after-none (parent ++ k ∷ [])))
between-has counts (i ∷ p) [] parent k tree at below = absurd (false≢true below)
between-has counts (i ∷ p) (j ∷ q) parent k tree at below =
    let ordered : (nat_lt i j || (i == j && not_after p q)) ≡ true = sym (not_after-cons i j p q) ∙ below in
    between-step counts i j p q k tree ordered (i == j) refl
    (λ y inner there e f. between-has (counts_under i counts) p q inner k (λ above. tree (i ∷ above)) (rw f there)
    (later i j (not_after p q) ordered e)) parent at
  where
    later : (i j : ℕ) (b : Bool) → (nat_lt i j || (i == j && b)) ≡ true → i ≡ j → b ≡ true
    later i j b h e = grind (arith, nat_tests)
