-- What is reached along steps between numbers is what is reached along pairs of names.
use Rattle.std.proofs.Common.{◌≡◌, ℕ, zero, suc, ◌<◌, List, [], ◌∷◌, Bool, true, false, ◌==◌, ◌||◌, cond, All, length, slice_index_or, refl, sym, ap, ◌∙◌}
use Rattle.std.proofs.Common.{subst, inl, inr, arith}
use Rattle.std.proofs.lemmas.Bool.{cases_lt, cases_eq, or_cases, or_left, or_right, true≢false, eqb-true}
use Rattle.std.proofs.lemmas.List.{get_or_past}
use Rattle.std.proofs.lemmas.List.Folds.{list_any-append}
use Rattle.std.proofs.lemmas.List.Elements.{All-head, All-tail}
use Rattle.std.specs.Str.{bytes_eq}
use Rattle.schema_definitions.specs.Names.{has, leads, targets}
use Rattle.schema_definitions.specs.Reachable.{reachable}
use Rattle.schema_definitions.proofs.Members.{has_only}
use Rattle.schema_definitions.proofs.Reach.{reachable_start, reachable_step, reachable_least}
use Rattle.schema_definitions.proofs.Pairs.{targets_found, targets_all}
use Rattle.schema_rules.specs.Graph.{among, goes, is_marked, targets_below, AreReached}
use Rattle.schema_rules.specs.Numbering.{named}
use Rattle.schema_rules.specs.Drawn.{IsDrawn, IsWithin, AreNumbers}
use Rattle.schema_rules.proofs.Numbered.{number_of, has_named}

-- two tests that hold together are one
pub both_ways : (a b : Bool) → (a ≡ true → b ≡ true) → (b ≡ true → a ≡ true) → a ≡ b
both_ways true b f g = sym (f refl)
both_ways false true f g = g refl
both_ways false false f g = refl

-- what all nodes have, one among them has
among_all : (P : ℕ → Type 0) (nodes : List ℕ) (node : ℕ) → All P nodes → among nodes node ≡ true → P node
among_all P [] node h a = cc
among_all P (n ∷ ns) node h a = elim (or_cases (n == node) (among ns node) a) [
  | inl here ↦ subst P (eqb-true n node here) (All-head P n ns h)
  | inr later ↦ among_all P ns node (All-tail P n ns h) later
]

module _ (names : List (List ℕ)) where
  module _ (graph : List (List ℕ)) (test : List ℕ → List ℕ → Bool) (drawn : IsDrawn names graph test) where
    -- a step comes from a node
    pub step_from : (from to : ℕ) → goes graph from to ≡ true → from < length names
    step_from from to g = elim (cases_lt from (length names)) [
      | inl inside ↦ inside
      | inr past ↦ absurd (true≢false (sym g ∙ ap (λ nodes. among nodes to) (get_or_past graph from [] (omega (arith, past, drawn.size)))))
    ]

    -- and leads to one
    pub step_to : (from to : ℕ) → goes graph from to ≡ true → to < length names
    step_to from to g = let below : to < length graph = among_all (λ n. n < length graph) (slice_index_or graph from []) to (drawn.inner from) g
        in omega (arith, below, drawn.size)

  module _ (pairs : List (List ℕ × List ℕ)) (graph : List (List ℕ)) (drawn : IsDrawn names graph (leads pairs)) (within : IsWithin names (leads pairs))
      (start : List ℕ) (from : List (List ℕ)) (starts : AreNumbers names start from) (marks : List Bool) (reached : AreReached graph start marks) where
    only_reached : (node : ℕ) → is_marked marks node ≡ true → has (reachable pairs from) (named names node) ≡ true
    only_reached = reached.least (λ node. has (reachable pairs from) (named names node))
        (λ node s. reachable_start pairs from (named names node) (sym (starts.same node (starts.inside node s)) ∙ s))
        (λ a b g h. let in_a = step_from graph (leads pairs) drawn a b g in let in_b = step_to graph (leads pairs) drawn a b g
        in reachable_step pairs from (named names a) (named names b) (sym (drawn.steps a b in_a in_b) ∙ g) h)

    all_reached : (name : List ℕ) → has (reachable pairs from) name ≡ true → (node : ℕ) → node < length names → named names node ≡ name
        → is_marked marks node ≡ true
    all_reached = reachable_least pairs from (λ name. (node : ℕ) → node < length names → named names node ≡ name → is_marked marks node ≡ true)
        (λ name s node inside is. reached.started node (starts.same node inside ∙ subst (λ n. has from n ≡ true) (sym is) s))
        (λ a b l marked node inside is.
        let first = number_of names a (within a b l).0 in
        reached.closed first.0 node (drawn.steps first.0 node first.1 inside
        ∙ subst (λ n. leads pairs n (named names node) ≡ true) (sym first.2) (subst (λ n. leads pairs a n ≡ true) (sym is) l))
        (marked first.0 first.1 first.2))

    -- the marked nodes are the numbers of the names that are reached
    pub reached_names : (node : ℕ) → node < length names → is_marked marks node ≡ has (reachable pairs from) (named names node)
    reached_names node inside = both_ways (is_marked marks node) (has (reachable pairs from) (named names node)) (only_reached node)
        (λ h. all_reached (named names node) h node inside refl)

-- what marked nodes lead to
below_found : (graph : List (List ℕ)) (marks : List Bool) (bound to : ℕ) → among (targets_below graph marks bound) to ≡ true → (from : ℕ)
    × (from < bound) × (is_marked marks from ≡ true) × (goes graph from to ≡ true)
below_found graph marks zero to h = cc
below_found graph marks (suc n) to h =
    elim (or_cases (among (targets_below graph marks n) to) (among (cond (is_marked marks n) (slice_index_or graph n []) []) to)
    (sym (list_any-append (λ other. other == to) (targets_below graph marks n) (cond (is_marked marks n) (slice_index_or graph n []) [])) ∙ h)) [
      | inl before ↦ let f = below_found graph marks n to before in (f.0, omega (arith, f.1), f.2, f.3)
      | inr now ↦ elim (is_marked marks n) as (λ b. is_marked marks n ≡ b → among (cond b (slice_index_or graph n []) []) to ≡ true → (from : ℕ)
          × (from < suc n) × (is_marked marks from ≡ true) × (goes graph from to ≡ true)) [
            | true ↦ λ e g. (n, omega arith, e, g)
            | false ↦ λ e g. cc
          ] refl now
    ]

below_all : (graph : List (List ℕ)) (marks : List Bool) (bound from to : ℕ) → from < bound → is_marked marks from ≡ true → goes graph from to ≡ true
    → among (targets_below graph marks bound) to ≡ true
below_all graph marks zero from to inside m g = absurd (omega (arith, inside))
below_all graph marks (suc n) from to inside m g =
    list_any-append (λ other. other == to) (targets_below graph marks n) (cond (is_marked marks n) (slice_index_or graph n []) []) ∙ elim (cases_eq from n) [
      | inl same ↦ or_right (among (targets_below graph marks n) to) (among (cond (is_marked marks n) (slice_index_or graph n []) []) to)
          (subst (λ b. among (cond b (slice_index_or graph n []) []) to ≡ true) (sym (subst (λ x. is_marked marks x ≡ true) same m))
          (subst (λ x. goes graph x to ≡ true) same g))
      | inr apart ↦ or_left (among (targets_below graph marks n) to) (among (cond (is_marked marks n) (slice_index_or graph n []) []) to)
          (below_all graph marks n from to (omega (arith, inside, apart)) m g)
    ]

-- from the numbers of names to the numbers of the names to which pairs lead from them
pub targets_numbers : (names : List (List ℕ)) (pairs : List (List ℕ × List ℕ)) (graph : List (List ℕ)) (marks : List Bool) (chosen : List (List ℕ))
    → IsDrawn names graph (leads pairs) → IsWithin names (leads pairs)
    → ((node : ℕ) → node < length names → is_marked marks node ≡ has chosen (named names node))
    → AreNumbers names (targets_below graph marks (length graph)) (targets pairs chosen)
targets_numbers names pairs graph marks chosen drawn within same = record {
  inside = λ node h. let f = below_found graph marks (length graph) node h in step_to names graph (leads pairs) drawn f.0 node f.3;
  same = λ node inside. both_ways (among (targets_below graph marks (length graph)) node) (has (targets pairs chosen) (named names node))
      (λ h. let f = below_found graph marks (length graph) node h in let in_from = step_from names graph (leads pairs) drawn f.0 node f.3 in
      targets_all pairs chosen (named names f.0) (named names node) (sym (same f.0 in_from) ∙ f.2) (sym (drawn.steps f.0 node in_from inside) ∙ f.3))
      (λ h. let f = targets_found pairs chosen (named names node) h in let first = number_of names f.0 (within f.0 (named names node) f.1.1).0 in
      below_all graph marks (length graph) first.0 node (omega (arith, first.1, drawn.size)) (same first.0 first.1
      ∙ subst (λ n. has chosen n ≡ true) (sym first.2) f.1.0) (drawn.steps first.0 node first.1 inside
      ∙ subst (λ n. leads pairs n (named names node) ≡ true) (sym first.2) f.1.1));
  known = λ name h. let f = targets_found pairs chosen name h in (within f.0 name f.1.1).1;
}

-- the number of one name
pub one_number : (names : List (List ℕ)) (node : ℕ) → node < length names
    → ((other : ℕ) → other < length names → (node == other) ≡ bytes_eq (named names node) (named names other))
    → AreNumbers names (node ∷ []) (named names node ∷ [])
one_number names node inside alone = record {
  inside = λ other h. elim (or_cases (node == other) false h) [ inl e ↦ subst (λ n. n < length names) (eqb-true node other e) inside | inr n ↦ cc ];
  same = λ other o. ap (λ b. b || false) (alone other o);
  known = λ name h. subst (λ n. has names n ≡ true) (has_only (named names node) name h) (has_named names node inside);
}
