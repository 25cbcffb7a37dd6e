-- Lists without repetition, and that a list which has all their elements is no shorter.
use Rattle.std.proofs.Common.{◌≡◌, suc, ◌≤◌, List, [], ◌∷◌, ◌++◌, map, length, ◌⊎◌, inl, inr, refl, sym, ap, ◌∙◌, subst, arith}

-- an element of a list
abbrev pub Among : {X : Type 0} → X → List X → Type 0
Among a [] = ⊥
Among a (x ∷ xs) = (a ≡ x) ⊎ Among a xs

-- no element comes again
abbrev pub Distinct : {X : Type 0} → List X → Type 0
Distinct [] = Unit {0}
Distinct (x ∷ xs) = ¬ (Among x xs) × Distinct xs

pub among-join : {X : Type 0} (a : X) (xs ys : List X) → Among a (xs ++ ys) → Among a xs ⊎ Among a ys
among-join a [] ys h = inr h
among-join a (x ∷ xs) ys h = elim h [ inl e ↦ inl (inl e) | inr m ↦ (elim (among-join a xs ys m) [ inl l ↦ inl (inr l) | inr r ↦ inr r ]) ]

pub among-left : {X : Type 0} (a : X) (xs ys : List X) → Among a xs → Among a (xs ++ ys)
among-left a [] ys h = absurd h
among-left a (x ∷ xs) ys h = elim h [ inl e ↦ inl e | inr m ↦ inr (among-left a xs ys m) ]

pub among-right : {X : Type 0} (a : X) (xs ys : List X) → Among a ys → Among a (xs ++ ys)
among-right a [] ys h = h
among-right a (x ∷ xs) ys h = inr (among-right a xs ys h)

pub among-map : {X Y : Type 0} (f : X → Y) (b : Y) (xs : List X) → Among b (map f xs) → (a : X) × (b ≡ f a) × Among a xs
among-map f b [] h = absurd h
among-map f b (x ∷ xs) h = elim h [ inl e ↦ (x, e, inl refl) | inr m ↦ (let r = among-map f b xs m in (r.0, r.1, inr r.2)) ]

pub distinct-join : {X : Type 0} (xs ys : List X) → Distinct xs → Distinct ys → ((a : X) → Among a xs → Among a ys → ⊥) → Distinct (xs ++ ys)
distinct-join [] ys d e apart = e
distinct-join (x ∷ xs) ys d e apart =
    (λ m. elim (among-join x xs ys m) [ inl l ↦ d.0 l | inr r ↦ apart x (inl refl) r ], distinct-join xs ys d.1 e (λ a l r. apart a (inr l) r))

pub distinct-map : {X Y : Type 0} (f : X → Y) (xs : List X) → ((a b : X) → f a ≡ f b → a ≡ b) → Distinct xs → Distinct (map f xs)
distinct-map f [] same d = tt
distinct-map f (x ∷ xs) same d =
    (λ m. let r = among-map f (f x) xs m in d.0 (subst (λ a. Among a xs) (sym (same x r.0 r.1)) r.2), distinct-map f xs same d.1)

-- the list without one of its elements
taken : {X : Type 0} (a : X) (xs : List X) → Among a xs → (ys : List X) × (length xs ≡ suc (length ys)) × ((b : X) → ¬ (b ≡ a) → Among b xs → Among b ys)
taken a [] h = absurd h
taken a (x ∷ xs) h =
    elim h [
      | inl e ↦ (xs, refl, λ b other m. elim m [ inl f ↦ absurd (other (f ∙ sym e)) | inr r ↦ r ])
      | inr m ↦ (let r = taken a xs m in (x ∷ r.0, ap suc r.1, λ b other n. elim n [ inl f ↦ inl f | inr s ↦ inr (r.2 b other s) ]))
    ]

-- a list that has all elements of a list without repetition is no shorter
pub no_fewer : {X : Type 0} (xs ys : List X) → Distinct xs → ((a : X) → Among a xs → Among a ys) → length xs ≤ length ys
no_fewer [] ys d all = omega arith
no_fewer (x ∷ xs) ys d all =
    let r = taken x ys (all x (inl refl)) in
    let rest : length xs ≤ length r.0 = no_fewer xs r.0 d.1 (λ a m. r.2 a (λ e. d.0 (subst (λ b. Among b xs) e m)) (all a (inr m))) in
    omega (arith, r.1)
