-- There are no fewer flat ranges than the flat parts that have exactly a range's items: each part has a parent of its own, and a flat
-- range that reached into two of these parents would have an item that the range doesn't have.
use Rattle.std.proofs.Common.{◌≡◌, ℕ, ◌+◌, ◌<◌, ◌≤◌, Bool, true, false, ◌&&◌, ◌||◌, nat_lt, ◌==◌, if◌then◌else◌, List, [], ◌∷◌, ◌++◌, map, Option, Some, None}
use Rattle.std.proofs.Common.{IsSomeAnd, unwrap_or, ◌⊎◌, inl, inr, refl, sym, ap, ◌∙◌, subst, arith}
use Rattle.std.proofs.lemmas.Bool.{false≢true}
use Rattle.std.proofs.lemmas.Bool.Decides.{nat_tests}
use Rattle.ck_base.proofs.Common.{both}
use Rattle.item_definitions.specs.Children.{parent_of}
use Rattle.item_definitions.specs.Position.{not_after}
use Rattle.item_definitions.specs.FlatParts.{next_offset, counts_under}
use Rattle.item_definitions.proofs.Order.{not_after-cons, not_after-none, has, apart, inside}
use Rattle.item_definitions.proofs.Covers.{At, has-here, has-below, not_after-push}
use Rattle.item_definitions.proofs.Distinct.{Among, Distinct, among-join, among-left, among-right, among-map, distinct-join, distinct-map}

-- the root, where there is anything between the two offsets
abbrev pub spot : ℕ → ℕ → List (List ℕ)
spot from to = if nat_lt from to then [] ∷ [] else []

-- the parents of the parts
abbrev pub homes_behind : (List ℕ → Option ℕ) → List ℕ → List (List ℕ)
homes_behind counts [] = []
homes_behind counts (i ∷ p) = map (λ home. i ∷ home) (homes_behind (counts_under i counts) p) ++ spot (next_offset i p) (unwrap_or (counts []) 0)

abbrev pub homes_before : List ℕ → List (List ℕ)
homes_before [] = []
homes_before (j ∷ q) = spot 0 j ++ map (λ home. j ∷ home) (homes_before q)

abbrev pub homes_between : (List ℕ → Option ℕ) → List ℕ → List ℕ → List (List ℕ)
homes_between counts [] q = homes_before q
homes_between counts (i ∷ p) [] = []
homes_between counts (i ∷ p) (j ∷ q) =
    if i == j then map (λ home. i ∷ home) (homes_between (counts_under i counts) p q)
    else map (λ home. i ∷ home) (homes_behind (counts_under i counts) p) ++ (spot (next_offset i p) j ++ map (λ home. j ∷ home) (homes_before q))

among-spot : (home : List ℕ) (a b : ℕ) → Among home (spot a b) → (home ≡ []) × (a < b)
among-spot home a b = go (nat_lt a b) refl
  where
    go : (t : Bool) → t ≡ nat_lt a b → Among home (if t then [] ∷ [] else []) → (home ≡ []) × (a < b)
    go true e h = elim h [ inl same ↦ (same, grind (arith, nat_tests)) | inr m ↦ absurd m ]
    go false e h = absurd h

distinct-spot : (a b : ℕ) → Distinct (spot a b)
distinct-spot a b = go (nat_lt a b)
  where
    go : (t : Bool) → Distinct {X = List ℕ} (if t then [] ∷ [] else [])
    go true = (λ m. m, tt)
    go false = tt

-- no item on the way to a parent is between the two positions
abbrev NoneAbove : List ℕ → List ℕ → List ℕ → Type 0
NoneAbove p q home = (x : List ℕ) (y : ℕ) (z : List ℕ) → home ≡ x ++ y ∷ z → has p q x y ≡ false

-- a parent that has an item between the two positions, but none on the way to it
abbrev pub Good : (List ℕ → Option ℕ) → List ℕ → List ℕ → List ℕ → Type 0
Good counts p q home = (k : ℕ) × At counts home k × (has p q home k ≡ true) × NoneAbove p q home

-- every number of a position is at most the number of items of its parent
abbrev pub Fits : (List ℕ → Option ℕ) → List ℕ → Type 0
Fits counts [] = Unit {0}
Fits counts (j ∷ q) = (j ≤ unwrap_or (counts []) 0) × Fits (counts_under j counts) q

pub below-at : (o : Option ℕ) (k : ℕ) → k < unwrap_or o 0 → IsSomeAnd o (λ count. k < count)
below-at None k h = absurd (omega arith)
below-at (Some count) k h = h

no_cut : (x : List ℕ) (y : ℕ) (z : List ℕ) → [] ≡ x ++ y ∷ z → ⊥
no_cut [] y z e = cc
no_cut (w ∷ x) y z e = cc

apart-spot : (i : ℕ) (homes : List (List ℕ)) (m n : ℕ) (a : List ℕ) → Among a (map (λ home. i ∷ home) homes) → Among a (spot m n) → ⊥
apart-spot i homes m n a l r =
    let below = among-map (λ home. i ∷ home) a homes l in
    let root = among-spot a m n r in
    no_cut [] i below.0 (sym root.0 ∙ below.1)

apart-maps : (i j : ℕ) (homes others : List (List ℕ)) → ¬ (i ≡ j) → (a : List ℕ) → Among a (map (λ home. i ∷ home) homes)
    → Among a (map (λ home. j ∷ home) others) → ⊥
apart-maps i j homes others differ a l r =
    let one = among-map (λ home. i ∷ home) a homes l in
    let two = among-map (λ home. j ∷ home) a others r in
    let same : i ∷ one.0 ≡ j ∷ two.0 = sym one.1 ∙ two.1 in
    differ cc

distinct-behind : (counts : List ℕ → Option ℕ) (p : List ℕ) → Distinct (homes_behind counts p)
distinct-behind counts [] = tt
distinct-behind counts (i ∷ p) =
    distinct-join (map (λ home. i ∷ home) (homes_behind (counts_under i counts) p)) (spot (next_offset i p) (unwrap_or (counts []) 0))
    (distinct-map (λ home. i ∷ home) (homes_behind (counts_under i counts) p) (λ a b e. cc) (distinct-behind (counts_under i counts) p))
    (distinct-spot (next_offset i p) (unwrap_or (counts []) 0))
    (λ a l r. apart-spot i (homes_behind (counts_under i counts) p) (next_offset i p) (unwrap_or (counts []) 0) a l r)

distinct-before : (q : List ℕ) → Distinct (homes_before q)
distinct-before [] = tt
distinct-before (j ∷ q) =
    distinct-join (spot 0 j) (map (λ home. j ∷ home) (homes_before q)) (distinct-spot 0 j)
    (distinct-map (λ home. j ∷ home) (homes_before q) (λ a b e. cc) (distinct-before q))
    (λ a l r. apart-spot j (homes_before q) 0 j a r l)

pub distinct-between : (counts : List ℕ → Option ℕ) (p q : List ℕ) → Distinct (homes_between counts p q)
distinct-between counts [] q = distinct-before q
distinct-between counts (i ∷ p) [] = tt
distinct-between counts (i ∷ p) (j ∷ q) = go (i == j) refl (distinct-between (counts_under i counts) p q)
  where
    go : (t : Bool) → t ≡ (i == j) → Distinct (homes_between (counts_under i counts) p q)
        → Distinct (if t then map (λ home. i ∷ home) (homes_between (counts_under i counts) p q)
        else map (λ home. i ∷ home) (homes_behind (counts_under i counts) p) ++ (spot (next_offset i p) j ++ map (λ home. j ∷ home) (homes_before q)))
    go true e inner = distinct-map (λ home. i ∷ home) (homes_between (counts_under i counts) p q) (λ a b e. cc) inner
    go false e inner =
        let behind = homes_behind (counts_under i counts) p in
        let differ : ¬ (i ≡ j) = λ f. grind (arith, nat_tests) in
        distinct-join (map (λ home. i ∷ home) behind) (spot (next_offset i p) j ++ map (λ home. j ∷ home) (homes_before q))
        (distinct-map (λ home. i ∷ home) behind (λ a b e. cc) (distinct-behind (counts_under i counts) p))
        (distinct-join (spot (next_offset i p) j) (map (λ home. j ∷ home) (homes_before q)) (distinct-spot (next_offset i p) j)
        (distinct-map (λ home. j ∷ home) (homes_before q) (λ a b e. cc) (distinct-before q))
        (λ a l r. apart-spot j (homes_before q) (next_offset i p) j a r l))
        (λ a l r. elim (among-join a (spot (next_offset i p) j) (map (λ home. j ∷ home) (homes_before q)) r) [
          | inl m ↦ apart-spot i behind (next_offset i p) j a l m
          | inr m ↦ apart-maps i j behind (homes_before q) differ a l m
        ])

under-same : (i k : ℕ) (p q home : List ℕ) → has p q home k ≡ true → has (i ∷ p) (i ∷ q) (i ∷ home) k ≡ true
under-same i k p q home h = has-below i i i k p q home ∙ step i (not_after p (home ++ k ∷ [])) (not_after (home ++ (k + 1) ∷ []) q) h
  where
    step : (i : ℕ) (a b : Bool) → (a && b) ≡ true → ((nat_lt i i || (i == i && a)) && (nat_lt i i || (i == i && b))) ≡ true
    step i a b h = grind (arith, nat_tests)

under-none : (i k : ℕ) (p q home : List ℕ) → has p q home k ≡ false → has (i ∷ p) (i ∷ q) (i ∷ home) k ≡ false
under-none i k p q home h = has-below i i i k p q home ∙ step i (not_after p (home ++ k ∷ [])) (not_after (home ++ (k + 1) ∷ []) q) h
  where
    step : (i : ℕ) (a b : Bool) → (a && b) ≡ false → ((nat_lt i i || (i == i && a)) && (nat_lt i i || (i == i && b))) ≡ false
    step i a b h = grind (arith, nat_tests)

pub not_after-same : (i : ℕ) (p q : List ℕ) (b : Bool) → not_after p q ≡ b → not_after (i ∷ p) (i ∷ q) ≡ b
not_after-same i p q b h = not_after-cons i i p q ∙ step i (not_after p q) b h
  where
    step : (i : ℕ) (a b : Bool) → a ≡ b → (nat_lt i i || (i == i && a)) ≡ b
    step i a b h = grind (arith, nat_tests)

-- the parents of the parts behind a position lead to it
above-behind : (counts : List ℕ → Option ℕ) (p home : List ℕ) → Among home (homes_behind counts p)
    → (x : List ℕ) (y : ℕ) (z : List ℕ) → home ≡ x ++ y ∷ z → not_after p (x ++ y ∷ []) ≡ false
above-behind counts [] home m x y z e = absurd m
above-behind counts (i ∷ p) home m x y z e =
    elim (among-join home (map (λ inner. i ∷ inner) (homes_behind (counts_under i counts) p)) (spot (next_offset i p) (unwrap_or (counts []) 0)) m) [
      | inl l ↦ (let r = among-map (λ inner. i ∷ inner) home (homes_behind (counts_under i counts) p) l in
          cut p r.0 r.2 (above-behind (counts_under i counts) p r.0 r.2) x y z (sym r.1 ∙ e))
      | inr r ↦ absurd (no_cut x y z (sym (among-spot home (next_offset i p) (unwrap_or (counts []) 0) r).0 ∙ e))
    ]
  where
    cut : (p inner : List ℕ) → Among inner (homes_behind (counts_under i counts) p)
        → ((x : List ℕ) (y : ℕ) (z : List ℕ) → inner ≡ x ++ y ∷ z → not_after p (x ++ y ∷ []) ≡ false)
        → (x : List ℕ) (y : ℕ) (z : List ℕ) → i ∷ inner ≡ x ++ y ∷ z → not_after (i ∷ p) (x ++ y ∷ []) ≡ false
    cut [] inner m rest x y z e = absurd m
    cut (next ∷ p) inner m rest [] y z e = let same : i ≡ y = cc
        in subst (λ w. not_after (i ∷ next ∷ p) (w ∷ []) ≡ false) same (not_after-same i (next ∷ p) [] false refl)
    cut (next ∷ p) inner m rest (w ∷ x) y z e =
        let same : i ≡ w = cc in
        subst (λ v. not_after (i ∷ next ∷ p) (v ∷ (x ++ y ∷ [])) ≡ false) same (not_after-same i (next ∷ p) (x ++ y ∷ []) false (rest x y z cc))

-- the parents of the parts before a position lead to it
above-before : (q home : List ℕ) → Among home (homes_before q)
    → (x : List ℕ) (y : ℕ) (z : List ℕ) → home ≡ x ++ y ∷ z → not_after (x ++ (y + 1) ∷ []) q ≡ false
above-before [] home m x y z e = absurd m
above-before (j ∷ q) home m x y z e =
    elim (among-join home (spot 0 j) (map (λ inner. j ∷ inner) (homes_before q)) m) [
      | inl l ↦ absurd (no_cut x y z (sym (among-spot home 0 j l).0 ∙ e))
      | inr r ↦ (let r = among-map (λ inner. j ∷ inner) home (homes_before q) r in
          cut r.0 (above-before q r.0 r.2) x y z (sym r.1 ∙ e))
    ]
  where
    cut : (inner : List ℕ) → ((x : List ℕ) (y : ℕ) (z : List ℕ) → inner ≡ x ++ y ∷ z → not_after (x ++ (y + 1) ∷ []) q ≡ false)
        → (x : List ℕ) (y : ℕ) (z : List ℕ) → j ∷ inner ≡ x ++ y ∷ z → not_after (x ++ (y + 1) ∷ []) (j ∷ q) ≡ false
    cut inner rest [] y z e = let same : j ≡ y = cc in not_after-cons (y + 1) j [] q ∙ step j y (not_after [] q) same
      where
        step : (j y : ℕ) (b : Bool) → j ≡ y → (nat_lt (y + 1) j || (y + 1 == j && b)) ≡ false
        step j y b same = grind (arith, nat_tests)
    cut inner rest (w ∷ x) y z e =
        let same : j ≡ w = cc in
        subst (λ v. not_after (v ∷ (x ++ (y + 1) ∷ [])) (j ∷ q) ≡ false) same (not_after-same j (x ++ (y + 1) ∷ []) q false (rest x y z cc))

next-after : (i : ℕ) (p : List ℕ) → not_after (i ∷ p) (next_offset i p ∷ []) ≡ true
next-after i [] = not_after-same i [] [] true refl
next-after i (step ∷ p) = not_after-cons i (i + 1) (step ∷ p) [] ∙ grind (arith, nat_tests)

-- each of the parents of the parts behind a position has an item behind it
witness-behind : (counts : List ℕ → Option ℕ) (p home : List ℕ) → Among home (homes_behind counts p)
    → (k : ℕ) × At counts home k × (not_after p (home ++ k ∷ []) ≡ true)
witness-behind counts [] home m = absurd m
witness-behind counts (i ∷ p) home m =
    elim (among-join home (map (λ inner. i ∷ inner) (homes_behind (counts_under i counts) p)) (spot (next_offset i p) (unwrap_or (counts []) 0)) m) [
      | inl l ↦ (let r = among-map (λ inner. i ∷ inner) home (homes_behind (counts_under i counts) p) l in
          let w = witness-behind (counts_under i counts) p r.0 r.2 in (
            w.0,
            subst (λ h. At counts h w.0) (sym r.1) w.1,
            subst (λ h. not_after (i ∷ p) (h ++ w.0 ∷ []) ≡ true) (sym r.1)
                (not_after-same i p (r.0 ++ w.0 ∷ []) true w.2),
          ))
      | inr r ↦ (let s = among-spot home (next_offset i p) (unwrap_or (counts []) 0) r in (
        next_offset i p,
        subst (λ h. At counts h (next_offset i p)) (sym s.0) (below-at (counts []) (next_offset i p) s.1),
        subst (λ h. not_after (i ∷ p) (h ++ next_offset i p ∷ []) ≡ true) (sym s.0) (next-after i p),
      ))
    ]

witness-before : (counts : List ℕ → Option ℕ) (q home : List ℕ) → Fits counts q → Among home (homes_before q)
    → (k : ℕ) × At counts home k × (not_after (home ++ (k + 1) ∷ []) q ≡ true)
witness-before counts [] home fits m = absurd m
witness-before counts (j ∷ q) home fits m =
    elim (among-join home (spot 0 j) (map (λ inner. j ∷ inner) (homes_before q)) m) [
      | inl l ↦ (let s = among-spot home 0 j l in
          let low : 0 < unwrap_or (counts []) 0 = omega (arith, s.1, fits.0) in (
            0,
            subst (λ h. At counts h 0) (sym s.0) (below-at (counts []) 0 low),
            subst (λ h. not_after (h ++ 1 ∷ []) (j ∷ q) ≡ true) (sym s.0) (not_after-cons 1 j [] q ∙ first j (not_after [] q) s.1 (not_after-none q)),
          ))
      | inr r ↦ (let r = among-map (λ inner. j ∷ inner) home (homes_before q) r in
          let w = witness-before (counts_under j counts) q r.0 fits.1 r.2 in (
            w.0,
            subst (λ h. At counts h w.0) (sym r.1) w.1,
            subst (λ h. not_after (h ++ (w.0 + 1) ∷ []) (j ∷ q) ≡ true) (sym r.1)
                (not_after-same j (r.0 ++ (w.0 + 1) ∷ []) q true w.2),
          ))
    ]
  where
    first : (j : ℕ) (b : Bool) → 0 < j → b ≡ true → (nat_lt 1 j || (1 == j && b)) ≡ true
    first j b h e = grind (arith, nat_tests)

and-none : (a : Bool) → (a && false) ≡ false
and-none true = refl
and-none false = refl

-- what is behind the start in the item that it is in, or between that item and the end's
good-front : (counts : List ℕ → Option ℕ) (i j : ℕ) (p q home : List ℕ) → i < j → Fits counts (j ∷ q)
    → Among home (map (λ inner. i ∷ inner) (homes_behind (counts_under i counts) p)) → Good counts (i ∷ p) (j ∷ q) home
good-front counts i j p q home less fits m =
    let r = among-map (λ inner. i ∷ inner) home (homes_behind (counts_under i counts) p) m in
    let w = witness-behind (counts_under i counts) p r.0 r.2 in
    let all = map (λ inner. i ∷ inner) (homes_behind (counts_under i counts) p) in (
      w.0,
      subst (λ h. At counts h w.0) (sym r.1) w.1,
      subst (λ h. has (i ∷ p) (j ∷ q) h w.0 ≡ true) (sym r.1)
          (both (not_after (i ∷ p) (i ∷ (r.0 ++ w.0 ∷ []))) (not_after (i ∷ (r.0 ++ (w.0 + 1) ∷ [])) (j ∷ q))
          (not_after-same i p (r.0 ++ w.0 ∷ []) true w.2)
          (not_after-cons i j (r.0 ++ (w.0 + 1) ∷ []) q ∙ grind (arith, nat_tests))),
      λ x y z e. ap (λ b. b && not_after (x ++ (y + 1) ∷ []) (j ∷ q))
          (above-behind counts (i ∷ p) home (among-left home all (spot (next_offset i p) (unwrap_or (counts []) 0)) m) x y z e),
    )

good-middle : (counts : List ℕ → Option ℕ) (i j : ℕ) (p q home : List ℕ) → i < j → Fits counts (j ∷ q)
    → Among home (spot (next_offset i p) j) → Good counts (i ∷ p) (j ∷ q) home
good-middle counts i j p q home less fits m =
    let s = among-spot home (next_offset i p) j m in
    let low : next_offset i p < unwrap_or (counts []) 0 = omega (arith, s.1, fits.0) in (
      next_offset i p,
      subst (λ h. At counts h (next_offset i p)) (sym s.0) (below-at (counts []) (next_offset i p) low),
      subst (λ h. has (i ∷ p) (j ∷ q) h (next_offset i p) ≡ true) (sym s.0)
          (both (not_after (i ∷ p) (next_offset i p ∷ [])) (not_after ((next_offset i p + 1) ∷ []) (j ∷ q)) (next-after i p)
          (not_after-cons (next_offset i p + 1) j [] q ∙ step (next_offset i p) j (not_after [] q) s.1 (not_after-none q))),
      λ x y z e. absurd (no_cut x y z (sym s.0 ∙ e)),
    )
  where
    step : (k j : ℕ) (b : Bool) → k < j → b ≡ true → (nat_lt (k + 1) j || (k + 1 == j && b)) ≡ true
    step k j b h e = grind (arith, nat_tests)

good-back : (counts : List ℕ → Option ℕ) (i j : ℕ) (p q home : List ℕ) → i < j → Fits counts (j ∷ q)
    → Among home (map (λ inner. j ∷ inner) (homes_before q)) → Good counts (i ∷ p) (j ∷ q) home
good-back counts i j p q home less fits m =
    let r = among-map (λ inner. j ∷ inner) home (homes_before q) m in
    let w = witness-before (counts_under j counts) q r.0 fits.1 r.2 in (
      w.0,
      subst (λ h. At counts h w.0) (sym r.1) w.1,
      subst (λ h. has (i ∷ p) (j ∷ q) h w.0 ≡ true) (sym r.1)
          (both (not_after (i ∷ p) (j ∷ (r.0 ++ w.0 ∷ []))) (not_after (j ∷ (r.0 ++ (w.0 + 1) ∷ [])) (j ∷ q))
          (not_after-cons i j p (r.0 ++ w.0 ∷ []) ∙ grind (arith, nat_tests))
          (not_after-same j (r.0 ++ (w.0 + 1) ∷ []) q true w.2)),
      λ x y z e. ap (λ b. not_after (i ∷ p) (x ++ y ∷ []) && b)
          (above-before (j ∷ q) home (among-right home (spot 0 j) (map (λ inner. j ∷ inner) (homes_before q)) m) x y z e)
          ∙ and-none (not_after (i ∷ p) (x ++ y ∷ [])),
    )

good-inner : (counts : List ℕ → Option ℕ) (i : ℕ) (p q inner home : List ℕ) → home ≡ i ∷ inner → Good (counts_under i counts) p q inner
    → Good counts (i ∷ p) (i ∷ q) home
good-inner counts i p q inner home e good = (
  good.0,
  subst (λ h. At counts h good.0) (sym e) good.1,
  subst (λ h. has (i ∷ p) (i ∷ q) h good.0 ≡ true) (sym e) (under-same i good.0 p q inner good.2),
  λ x y z f. cut x y z (sym e ∙ f),
)
  where
    cut : (x : List ℕ) (y : ℕ) (z : List ℕ) → i ∷ inner ≡ x ++ y ∷ z → has (i ∷ p) (i ∷ q) x y ≡ false
    cut [] y z f = has-here i i y p q ∙ apart i y (not_after p []) (not_after [] q)
    cut (w ∷ x) y z f =
        let same : i ≡ w = cc in
        let rest : inner ≡ x ++ y ∷ z = cc in
        subst (λ v. has (i ∷ p) (i ∷ q) (v ∷ x) y ≡ false) same (under-none i y p q x (good.3 x y z rest))

-- each of the parents of the parts between two positions is good
pub good-between : (counts : List ℕ → Option ℕ) (p q home : List ℕ) → Fits counts q → not_after p q ≡ true
    → Among home (homes_between counts p q) → Good counts p q home
good-between counts [] q home fits below m =
    let w = witness-before counts q home fits m in (
      w.0,
      w.1,
      both (not_after [] (home ++ w.0 ∷ [])) (not_after (home ++ (w.0 + 1) ∷ []) q) (not_after-none (home ++ w.0 ∷ [])) w.2,
      λ x y z e. ap (λ b. not_after [] (x ++ y ∷ []) && b) (above-before q home m x y z e) ∙ and-none (not_after [] (x ++ y ∷ [])),
    )
good-between counts (i ∷ p) [] home fits below m = absurd m
good-between counts (i ∷ p) (j ∷ q) home fits below m =
    go (i == j) refl (λ e inner n. good-between (counts_under i counts) p q inner (subst (λ v. Fits (counts_under v counts) q) (sym e) fits.1)
    (later i j (not_after p q) ordered e) n) m
  where
    ordered : (nat_lt i j || (i == j && not_after p q)) ≡ true
    ordered = sym (not_after-cons i j p q) ∙ below

    later : (i j : ℕ) (b : Bool) → (nat_lt i j || (i == j && b)) ≡ true → i ≡ j → b ≡ true
    later i j b h e = grind (arith, nat_tests)

    go : (t : Bool) → t ≡ (i == j)
        → (i ≡ j → (inner : List ℕ) → Among inner (homes_between (counts_under i counts) p q) → Good (counts_under i counts) p q inner)
        → Among home (if t then map (λ inner. i ∷ inner) (homes_between (counts_under i counts) p q)
        else map (λ inner. i ∷ inner) (homes_behind (counts_under i counts) p) ++ (spot (next_offset i p) j ++ map (λ inner. j ∷ inner) (homes_before q)))
        → Good counts (i ∷ p) (j ∷ q) home
    go true e inner m =
        let same : i ≡ j = grind (arith, nat_tests) in
        let r = among-map (λ inner. i ∷ inner) home (homes_between (counts_under i counts) p q) m in
        subst (λ v. Good counts (i ∷ p) (v ∷ q) home) same (good-inner counts i p q r.0 home r.1 (inner same r.0 r.2))
    go false e inner m =
        let less : i < j = grind (arith, nat_tests, ordered) in
        elim (among-join home (map (λ inner. i ∷ inner) (homes_behind (counts_under i counts) p))
        (spot (next_offset i p) j ++ map (λ inner. j ∷ inner) (homes_before q)) m) [
          | inl l ↦ good-front counts i j p q home less fits l
          | inr r ↦ (elim (among-join home (spot (next_offset i p) j) (map (λ inner. j ∷ inner) (homes_before q)) r) [
            | inl l ↦ good-middle counts i j p q home less fits l
            | inr b ↦ good-back counts i j p q home less fits b
          ])
        ]

-- A flat range that has an item of a parent is in that parent, or it has an item on the way there.
pub reach : (p q parent : List ℕ) (k : ℕ) → parent_of p ≡ parent_of q → has p q parent k ≡ true
    → (parent_of p ≡ parent) ⊎ ((x : List ℕ) × (y : ℕ) × (z : List ℕ) × (parent ≡ x ++ y ∷ z) × (has p q x y ≡ true))
reach [] [] parent k e h = absurd
    (false≢true (sym (ap (λ b. not_after [] (parent ++ k ∷ []) && b) (not_after-push parent (k + 1)) ∙ and-none (not_after [] (parent ++ k ∷ []))) ∙ h))
reach [] (b ∷ []) [] k e h = inl refl
reach [] (b ∷ []) (y ∷ z) k e h = inr (
  [],
  y,
  z,
  refl,
  ap (λ t. true && t) (not_after-cons (y + 1) b [] [])
      ∙ step y b (not_after (y ∷ (z ++ (k + 1) ∷ [])) (b ∷ [])) (not_after-cons y b (z ++ (k + 1) ∷ []) []
      ∙ ap (λ t. nat_lt y b || (y == b && t)) (not_after-push z (k + 1))) h,
)
  where
    step : (y b : ℕ) (c : Bool) → c ≡ (nat_lt y b || (y == b && false)) → (true && c) ≡ true → (nat_lt (y + 1) b || (y + 1 == b && true)) ≡ true
    step y b c e h = grind (arith, nat_tests)
reach [] (b ∷ d ∷ q) parent k e h = absurd cc
reach (a ∷ []) [] parent k e h =
    absurd (false≢true (sym (ap (λ b. not_after (a ∷ []) (parent ++ k ∷ []) && b) (not_after-push parent (k + 1))
    ∙ and-none (not_after (a ∷ []) (parent ++ k ∷ []))) ∙ h))
reach (a ∷ []) (b ∷ []) [] k e h = inl refl
reach (a ∷ []) (b ∷ []) (y ∷ z) k e h =
    inr (
      [],
      y,
      z,
      refl,
      has-here a b y [] [] ∙ step a b y (not_after [] (z ++ k ∷ [])) (not_after (z ++ (k + 1) ∷ []) []) (not_after-push z (k + 1))
          (sym (has-below a b y k [] [] z) ∙ h),
    )
  where
    step : (a b y : ℕ) (c d : Bool) → d ≡ false → ((nat_lt a y || (a == y && c)) && (nat_lt y b || (y == b && d))) ≡ true
        → ((nat_lt a y || (a == y && true)) && (nat_lt (y + 1) b || (y + 1 == b && true))) ≡ true
    step a b y c d e h = grind (arith, nat_tests)
reach (a ∷ []) (b ∷ d ∷ q) parent k e h = absurd cc
reach (a ∷ c ∷ p) [] parent k e h = absurd cc
reach (a ∷ c ∷ p) (b ∷ []) parent k e h = absurd cc
reach (a ∷ c ∷ p) (b ∷ d ∷ q) [] k e h =
    let same : a ≡ b = cc in
    absurd (false≢true (sym (has-here a a k (c ∷ p) (d ∷ q) ∙ apart a k (not_after (c ∷ p) []) (not_after [] (d ∷ q)))
    ∙ subst (λ v. has (a ∷ c ∷ p) (v ∷ d ∷ q) [] k ≡ true) (sym same) h))
reach (a ∷ c ∷ p) (b ∷ d ∷ q) (y ∷ z) k e h =
    let same : a ≡ b = cc in
    let rest : parent_of (c ∷ p) ≡ parent_of (d ∷ q) = cc in
    let inner = below a y (has (c ∷ p) (d ∷ q) z k)
    (sym (has-below a a y k (c ∷ p) (d ∷ q) z ∙ inside a y (not_after (c ∷ p) (z ++ k ∷ [])) (not_after (z ++ (k + 1) ∷ []) (d ∷ q)))
    ∙ subst (λ v. has (a ∷ c ∷ p) (v ∷ d ∷ q) (y ∷ z) k ≡ true) (sym same) h) in
    elim (reach (c ∷ p) (d ∷ q) z k rest inner.1) [
      | inl f ↦ inl (let g : a ≡ y = inner.0 in cc)
      | inr r ↦ inr (
        a ∷ r.0,
        r.1,
        r.2,
        (let g : a ≡ y = inner.0 in let w : z ≡ r.0 ++ r.1 ∷ r.2 = r.3 in cc),
        subst (λ v. has (a ∷ c ∷ p) (v ∷ d ∷ q) (a ∷ r.0) r.1 ≡ true) same (under-same a r.1 (c ∷ p) (d ∷ q) r.0 r.4),
      )
    ]
  where
    below : (a y : ℕ) (b : Bool) → (a == y && b) ≡ true → (a ≡ y) × (b ≡ true)
    below a y b h = (grind (arith, nat_tests), grind (arith, nat_tests))
