-- One step from a name, and how many pairs still lead to names that weren't seen.
use Rattle.std.proofs.Common.{◌≡◌, ℕ, suc, ◌+◌, ◌≤◌, List, [], ◌∷◌, ◌++◌, Bool, true, false, ◌&&◌, not, cond, length, refl, sym, ap, ◌∙◌, subst, inl, inr}
use Rattle.std.proofs.Common.{append_assoc, arith, rules}
use Rattle.std.proofs.lemmas.Bool.{or_cases, or_left, and_parts, and_from, and_cases, not-true, not-false}
use Rattle.std.specs.Str.{bytes_eq}
use Rattle.schema_definitions.specs.Names.{has, leads}
use Rattle.schema_definitions.specs.Reachable.{fresh}
use Rattle.schema_definitions.proofs.Members.{same_name, has_left, has_right, has_first, leads_first, leads_later}

-- whether a step along the pair is new
abbrev is_new : List ℕ × List ℕ → List ℕ → List (List ℕ) → Bool
is_new pair from seen = bytes_eq pair.0 from && not (has seen pair.1)

-- a new name is one that a pair leads to
pub fresh_leads : (pairs : List (List ℕ × List ℕ)) (from : List ℕ) (seen : List (List ℕ)) (to : List ℕ) → has (fresh pairs from seen) to ≡ true
    → leads pairs from to ≡ true
fresh_leads [] from seen to h = h
fresh_leads (p ∷ ps) from seen to h =
    elim (is_new p from seen) as (λ b. is_new p from seen ≡ b → has (cond b (p.1 ∷ fresh ps from (seen ++ p.1 ∷ [])) (fresh ps from seen)) to ≡ true
    → leads (p ∷ ps) from to ≡ true) [
      | true ↦ λ e g. elim (or_cases (bytes_eq p.1 to) (has (fresh ps from (seen ++ p.1 ∷ [])) to) g) [
        | inl same ↦ or_left (bytes_eq p.0 from && bytes_eq p.1 to) (leads ps from to)
            (and_from (bytes_eq p.0 from) (bytes_eq p.1 to) (and_parts (bytes_eq p.0 from) (not (has seen p.1)) e).0 same)
        | inr later ↦ leads_later p ps from to (fresh_leads ps from (seen ++ p.1 ∷ []) to later)
      ]
      | false ↦ λ e g. leads_later p ps from to (fresh_leads ps from seen to g)
    ] refl h

-- each name that a pair leads to was seen or is new
pub fresh_all : (pairs : List (List ℕ × List ℕ)) (from : List ℕ) (seen : List (List ℕ)) (to : List ℕ) → leads pairs from to ≡ true
    → has (seen ++ fresh pairs from seen) to ≡ true
fresh_all [] from seen to h = cc
fresh_all (p ∷ ps) from seen to h =
    elim (is_new p from seen) as (λ b. is_new p from seen ≡ b → has (seen ++ cond b (p.1 ∷ fresh ps from (seen ++ p.1 ∷ [])) (fresh ps from seen)) to ≡ true) [
      | true ↦ λ e. let regrouped : (seen ++ p.1 ∷ []) ++ fresh ps from (seen ++ p.1 ∷ []) ≡ seen ++ (p.1 ∷ fresh ps from (seen ++ p.1 ∷ [])) =
          append_assoc seen (p.1 ∷ []) (fresh ps from (seen ++ p.1 ∷ [])) in
          elim (or_cases (bytes_eq p.0 from && bytes_eq p.1 to) (leads ps from to) h) [
            | inl head ↦ has_right seen (p.1 ∷ fresh ps from (seen ++ p.1 ∷ [])) to
                (or_left (bytes_eq p.1 to) (has (fresh ps from (seen ++ p.1 ∷ [])) to) (and_parts (bytes_eq p.0 from) (bytes_eq p.1 to) head).1)
            | inr later ↦ ap (λ names. has names to) (sym regrouped) ∙ fresh_all ps from (seen ++ p.1 ∷ []) to later
          ]
      | false ↦ λ e. elim (or_cases (bytes_eq p.0 from && bytes_eq p.1 to) (leads ps from to) h) [
        | inl head ↦ let parts : (bytes_eq p.0 from ≡ true) × (bytes_eq p.1 to ≡ true) = and_parts (bytes_eq p.0 from) (bytes_eq p.1 to) head in
            elim (and_cases (bytes_eq p.0 from) (not (has seen p.1)) e) [
              | inl apart ↦ cc
              | inr there ↦ has_left seen (fresh ps from seen) to
                  (subst (λ name. has seen name ≡ true) (same_name p.1 to parts.1) (not-false (has seen p.1) there))
            ]
        | inr later ↦ fresh_all ps from seen to later
      ]
    ] refl

-- how many pairs lead to a name that wasn't seen
abbrev pub unseen : List (List ℕ × List ℕ) → List (List ℕ) → ℕ
unseen [] seen = 0
unseen (pair ∷ pairs) seen = cond (has seen pair.1) (unseen pairs seen) (suc (unseen pairs seen))

-- at most as many as there are
pub unseen_bound : (pairs : List (List ℕ × List ℕ)) (seen : List (List ℕ)) → unseen pairs seen ≤ length pairs
unseen_bound [] seen = omega arith
unseen_bound (p ∷ ps) seen =
    elim (has seen p.1) as (λ b. cond b (unseen ps seen) (suc (unseen ps seen)) ≤ suc (length ps)) [
      | true ↦ omega (arith, unseen_bound ps seen)
      | false ↦ omega (arith, unseen_bound ps seen)
    ]

-- one more name seen leaves no more of them
unseen_less : (pairs : List (List ℕ × List ℕ)) (seen : List (List ℕ)) (name : List ℕ) → unseen pairs (seen ++ name ∷ []) ≤ unseen pairs seen
unseen_less [] seen name = omega arith
unseen_less (p ∷ ps) seen name =
    elim (has seen p.1) as (λ b. has seen p.1 ≡ b
    → cond (has (seen ++ name ∷ []) p.1) (unseen ps (seen ++ name ∷ [])) (suc (unseen ps (seen ++ name ∷ [])))
    ≤ cond b (unseen ps seen) (suc (unseen ps seen))) [
      | true ↦ λ e. subst (λ b. cond b (unseen ps (seen ++ name ∷ [])) (suc (unseen ps (seen ++ name ∷ []))) ≤ unseen ps seen)
          (sym (has_left seen (name ∷ []) p.1 e)) (unseen_less ps seen name)
      | false ↦ λ e. elim (has (seen ++ name ∷ []) p.1) as (λ b. cond b (unseen ps (seen ++ name ∷ [])) (suc (unseen ps (seen ++ name ∷ [])))
          ≤ suc (unseen ps seen)) [
            | true ↦ omega (arith, unseen_less ps seen name)
            | false ↦ omega (arith, unseen_less ps seen name)
          ]
    ] refl

-- and at least one less where a pair leads to it
unseen_falls : (pairs : List (List ℕ × List ℕ)) (seen : List (List ℕ)) (from name : List ℕ) → leads pairs from name ≡ true → has seen name ≡ false
    → suc (unseen pairs (seen ++ name ∷ [])) ≤ unseen pairs seen
unseen_falls [] seen from name h n = cc
unseen_falls (p ∷ ps) seen from name h n =
    elim (or_cases (bytes_eq p.0 from && bytes_eq p.1 name) (leads ps from name) h) [
      | inl head ↦
          let same : p.1 ≡ name = same_name p.1 name (and_parts (bytes_eq p.0 from) (bytes_eq p.1 name) head).1 in
          let now : has (seen ++ name ∷ []) p.1
          ≡ true = subst (λ x. has (seen ++ name ∷ []) x ≡ true) (sym same) (has_right seen (name ∷ []) name (has_first name [])) in
          let before : has seen p.1 ≡ false = subst (λ x. has seen x ≡ false) (sym same) n in
          rw (now, before) (omega (arith, unseen_less ps seen name))
      | inr later ↦
          let falls : suc (unseen ps (seen ++ name ∷ [])) ≤ unseen ps seen = unseen_falls ps seen from name later n in
          elim (has seen p.1) as (λ b. has seen p.1 ≡ b
          → suc (cond (has (seen ++ name ∷ []) p.1) (unseen ps (seen ++ name ∷ [])) (suc (unseen ps (seen ++ name ∷ []))))
          ≤ cond b (unseen ps seen) (suc (unseen ps seen))) [
            | true ↦ λ e. subst (λ b. suc (cond b (unseen ps (seen ++ name ∷ [])) (suc (unseen ps (seen ++ name ∷ [])))) ≤ unseen ps seen)
                (sym (has_left seen (name ∷ []) p.1 e)) falls
            | false ↦ λ e. elim (has (seen ++ name ∷ []) p.1) as
                (λ b. suc (cond b (unseen ps (seen ++ name ∷ [])) (suc (unseen ps (seen ++ name ∷ [])))) ≤ suc (unseen ps seen)) [
                  | true ↦ omega (arith, falls)
                  | false ↦ omega (arith, falls)
                ]
          ] refl
    ]

-- the new names of a step are paid for by the pairs that lead to names seen now
pub fresh_falls : (all pairs : List (List ℕ × List ℕ)) (from : List ℕ) (seen : List (List ℕ))
    → ((a b : List ℕ) → leads pairs a b ≡ true → leads all a b ≡ true) → length (fresh pairs from seen) + unseen all (seen ++ fresh pairs from seen)
    ≤ unseen all seen
fresh_falls all [] from seen part = subst (λ names. 0 + unseen all names ≤ unseen all seen) (sym (append_nil seen)) (omega arith) where
  append_nil : (xs : List (List ℕ)) → xs ++ [] ≡ xs
  append_nil xs = search rules
fresh_falls all (p ∷ ps) from seen part =
    let rest : (a b : List ℕ) → leads ps a b ≡ true → leads all a b ≡ true = λ a b h. part a b (leads_later p ps a b h) in
    elim (is_new p from seen) as (λ b. is_new p from seen ≡ b → length (cond b (p.1 ∷ fresh ps from (seen ++ p.1 ∷ [])) (fresh ps from seen))
    + unseen all (seen ++ cond b (p.1 ∷ fresh ps from (seen ++ p.1 ∷ [])) (fresh ps from seen)) ≤ unseen all seen) [
      | true ↦ λ e.
          let more : List (List ℕ) = fresh ps from (seen ++ p.1 ∷ []) in
          let falls : suc (unseen all (seen ++ p.1 ∷ [])) ≤ unseen all seen = unseen_falls all seen p.0 p.1 (part p.0 p.1 (leads_first p ps))
          (not-true (has seen p.1) (and_parts (bytes_eq p.0 from) (not (has seen p.1)) e).1) in
          subst (λ names. suc (length more) + unseen all names ≤ unseen all seen) (append_assoc seen (p.1 ∷ []) more)
          (omega (arith, falls, fresh_falls all ps from (seen ++ p.1 ∷ []) rest))
      | false ↦ λ e. fresh_falls all ps from seen rest
    ] refl
