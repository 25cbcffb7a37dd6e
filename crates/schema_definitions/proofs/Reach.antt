-- What can be reached along pairs is the least list that has the start and that no pair leads out of.
use Rattle.std.proofs.Common.{◌≡◌, ℕ, zero, suc, ◌+◌, ◌≤◌, List, [], ◌∷◌, ◌++◌, true, length, sym, ap, ◌∙◌, subst, inl, inr, append_assoc, arith, length-append}
use Rattle.schema_definitions.specs.Names.{has, leads}
use Rattle.schema_definitions.specs.Reachable.{fresh, followed, reachable}
use Rattle.schema_definitions.proofs.Members.{has_left, has_right, has_cases, has_first, has_only}
use Rattle.schema_definitions.proofs.Steps.{fresh_leads, fresh_all, unseen, unseen_bound, fresh_falls}

-- a name among those done, the one at hand and those waiting, in the two orders
regrouped : (done : List (List ℕ)) (name : List ℕ) (waiting more : List (List ℕ)) → (done ++ name ∷ []) ++ (waiting ++ more) ≡ (done ++ name ∷ waiting) ++ more
regrouped done name waiting more = append_assoc done (name ∷ []) (waiting ++ more) ∙ sym (append_assoc done (name ∷ waiting) more)

module _ (pairs : List (List ℕ × List ℕ)) where
  -- each list with the start that no pair leads out of has all that is reached
  least_from : (P : List ℕ → Type 0) → ((a b : List ℕ) → leads pairs a b ≡ true → P a → P b) → (steps : ℕ) (done waiting : List (List ℕ))
      → ((name : List ℕ) → has (done ++ waiting) name ≡ true → P name) → (name : List ℕ) → has (followed pairs steps done waiting) name ≡ true → P name
  least_from P closed steps done [] all name h = all name (has_left done [] name h)
  least_from P closed zero done (x ∷ waiting) all name h = all name (has_left done (x ∷ waiting) name h)
  least_from P closed (suc steps) done (x ∷ waiting) all name h =
      let seen : List (List ℕ) = done ++ x ∷ waiting in
      let more : List (List ℕ) = fresh pairs x seen in
      least_from P closed steps (done ++ x ∷ []) (waiting ++ more) (λ other g.
      elim (has_cases seen more other (ap (λ names. has names other) (sym (regrouped done x waiting more)) ∙ g)) [
        | inl before ↦ all other before
        | inr new ↦ closed x other (fresh_leads pairs x seen other new) (all x (has_right done (x ∷ waiting) x (has_first x waiting)))
      ]) name h

  -- what is done and waiting is reached
  kept : (steps : ℕ) (done waiting : List (List ℕ)) (name : List ℕ) → length waiting + unseen pairs (done ++ waiting) ≤ steps
      → has (done ++ waiting) name ≡ true → has (followed pairs steps done waiting) name ≡ true
  kept steps done [] name fuel h = elim (has_cases done [] name h) [ inl e ↦ e | inr n ↦ cc ]
  kept zero done (x ∷ waiting) name fuel h = absurd (omega arith)
  kept (suc steps) done (x ∷ waiting) name fuel h =
      let seen : List (List ℕ) = done ++ x ∷ waiting in
      let more : List (List ℕ) = fresh pairs x seen in
      kept steps (done ++ x ∷ []) (waiting ++ more) name
      (subst (λ names. length (waiting ++ more) + unseen pairs names ≤ steps) (sym (regrouped done x waiting more))
      (omega (arith, length-append waiting more, fresh_falls pairs pairs x seen (λ a b g. g))))
      (ap (λ names. has names name) (regrouped done x waiting more) ∙ has_left seen more name h)

  -- no pair leads out
  closed_from : (steps : ℕ) (done waiting : List (List ℕ)) → length waiting + unseen pairs (done ++ waiting) ≤ steps
      → ((a b : List ℕ) → has done a ≡ true → leads pairs a b ≡ true → has (done ++ waiting) b ≡ true) → (a b : List ℕ)
      → has (followed pairs steps done waiting) a ≡ true → leads pairs a b ≡ true → has (followed pairs steps done waiting) b ≡ true
  closed_from steps done [] fuel closed a b h l = elim (has_cases done [] b (closed a b h l)) [ inl e ↦ e | inr n ↦ cc ]
  closed_from zero done (x ∷ waiting) fuel closed a b h l = absurd (omega arith)
  closed_from (suc steps) done (x ∷ waiting) fuel closed a b h l =
      let seen : List (List ℕ) = done ++ x ∷ waiting in
      let more : List (List ℕ) = fresh pairs x seen in
      closed_from steps (done ++ x ∷ []) (waiting ++ more)
      (subst (λ names. length (waiting ++ more) + unseen pairs names ≤ steps) (sym (regrouped done x waiting more))
      (omega (arith, length-append waiting more, fresh_falls pairs pairs x seen (λ c d g. g))))
      (λ c d g k. ap (λ names. has names d) (regrouped done x waiting more) ∙ elim (has_cases done (x ∷ []) c g) [
        | inl before ↦ has_left seen more d (closed c d before k)
        | inr now ↦ fresh_all pairs x seen d (subst (λ from. leads pairs from d ≡ true) (sym (has_only x c now)) k)
      ]) a b h l

  fuel_enough : (start : List (List ℕ)) → length start + unseen pairs start ≤ length start + length pairs
  fuel_enough start = omega (arith, unseen_bound pairs start)

  -- the start is reached
  pub reachable_start : (start : List (List ℕ)) (name : List ℕ) → has start name ≡ true → has (reachable pairs start) name ≡ true
  unfolding reachable
  reachable_start start name h = kept (length start + length pairs) [] start name (fuel_enough start) h

  -- what a pair leads to from a name that is reached is reached
  pub reachable_step : (start : List (List ℕ)) (a b : List ℕ) → leads pairs a b ≡ true → has (reachable pairs start) a ≡ true
      → has (reachable pairs start) b ≡ true
  unfolding reachable
  reachable_step start a b l h = closed_from (length start + length pairs) [] start (fuel_enough start) (λ c d g k. cc) a b h l

  -- nothing else is reached
  pub reachable_least : (start : List (List ℕ)) (P : List ℕ → Type 0) → ((name : List ℕ) → has start name ≡ true → P name)
      → ((a b : List ℕ) → leads pairs a b ≡ true → P a → P b) → (name : List ℕ) → has (reachable pairs start) name ≡ true → P name
  unfolding reachable
  reachable_least start P begins closed name h = least_from P closed (length start + length pairs) [] start begins name h
