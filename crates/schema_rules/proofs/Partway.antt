-- A search through a graph, partway: what is marked, and what waits to be followed.
use Rattle.std.proofs.Common.{◌≡◌, ℕ, ◌+◌, ◌<◌, List, [], ◌∷◌, ◌++◌, Bool, true, false, ◌&&◌, ◌||◌, not, cond, Some, ◌==◌, length, slice_index_or, slice_set}
use Rattle.std.proofs.Common.{replicate, All, refl, sym, ap, ◌∙◌, subst, inl, inr, arith}
use Rattle.std.proofs.lemmas.Bool.{cases_Bool, cases_lt, or_cases, or_left, or_right, or_from, or_parts, and_parts, and_from, not_from_false, eqb-true, eq-eqb}
use Rattle.std.proofs.lemmas.Bool.{true≢false}
use Rattle.std.proofs.lemmas.List.{get_or-replicate, get_or_past, length_push, length-replicate}
use Rattle.std.proofs.lemmas.List.Elements.{All-head, All-tail, All-push, All-pop, All-nil}
use Rattle.std.proofs.lemmas.List.Folds.{list_any-append}
use Rattle.schema_rules.specs.Graph.{among, goes, IsGraph, is_marked, visited, unmarked, AreReached}
use Rattle.schema_rules.proofs.Visit.{Within, size-visited, marks-visited, waiting-visited, count-visited}

pub record IsPartway (graph : List (List ℕ)) (start : List ℕ) (marks : List Bool) (waiting : List ℕ) : Type 0 where
  pub size : length marks ≡ length graph
  pub waits : (node : ℕ) → among waiting node ≡ true → is_marked marks node ≡ true
  pub within : All (λ node. node < length graph) waiting
  pub started : (node : ℕ) → among start node ≡ true → is_marked marks node ≡ true
  pub followed : (from to : ℕ) → goes graph from to ≡ true → is_marked marks from ≡ true → among waiting from ≡ false → is_marked marks to ≡ true
  pub least : (test : ℕ → Bool) → ((node : ℕ) → among start node ≡ true → test node ≡ true)
      → ((from to : ℕ) → goes graph from to ≡ true → test from ≡ true → test to ≡ true) → (node : ℕ) → is_marked marks node ≡ true → test node ≡ true

none_marked : (n node : ℕ) → is_marked (replicate n false) node ≡ false
none_marked n node = elim (cases_lt node n) [
  | inl inside ↦ get_or-replicate n node false false inside
  | inr past ↦ get_or_past (replicate n false) node false (omega (arith, past, length-replicate n false))
]

within_visited : (bound : ℕ) (nodes : List ℕ) (marks : List Bool) (waiting : List ℕ) → All (λ node. node < bound) nodes
    → All (λ node. node < bound) waiting → All (λ node. node < bound) (visited nodes marks waiting).1
within_visited bound [] marks waiting h w = w
within_visited bound (n ∷ ns) marks waiting h w =
    let rest = All-tail (λ node. node < bound) n ns h in
    elim (is_marked marks n) as (λ b. All (λ node. node < bound)
    (cond b (visited ns marks waiting) (visited ns (slice_set marks n true) (waiting ++ n ∷ []))).1) [
      | true ↦ within_visited bound ns marks waiting rest w
      | false ↦ within_visited bound ns (slice_set marks n true) (waiting ++ n ∷ []) rest
          (All-push (λ node. node < bound) waiting n w (All-head (λ node. node < bound) n ns h))
    ]

module _ (graph : List (List ℕ)) (start : List ℕ) where
  -- at first the start waits
  begun : All (λ node. node < length graph) start
      → IsPartway graph start (visited start (replicate (length graph) false) []).0 (visited start (replicate (length graph) false) []).1
  begun h =
      let none : List Bool = replicate (length graph) false in
      let inside : Within none start = subst (λ n. All (λ node. node < n) start) (sym (length-replicate (length graph) false)) h in
      let marked : (node : ℕ) → is_marked (visited start none []).0 node ≡ among start node = λ node. marks-visited start none [] node inside
      ∙ ap (λ b. b || among start node) (none_marked (length graph) node) in
      let waits : (node : ℕ) → among (visited start none []).1 node ≡ (among start node && true) = λ node. waiting-visited start none [] node inside
      ∙ ap (λ b. among start node && not b) (none_marked (length graph) node) in
      record {
        size = size-visited start none [] ∙ length-replicate (length graph) false;
        waits = λ node w. marked node ∙ (and_parts (among start node) true (sym (waits node) ∙ w)).0;
        within = within_visited (length graph) start none [] h (All-nil (λ node. node < length graph));
        started = λ node s. marked node ∙ s;
        followed = λ from to g m w. absurd (true≢false (sym (waits from ∙ and_from (among start from) true (sym (marked from) ∙ m) refl) ∙ w));
        least = λ test s c node m. s node (sym (marked node) ∙ m);
      }

  pub partway_begun : (marks : List Bool) (waiting : List ℕ) → All (λ node. node < length graph) start
      → (marks, waiting) ≡ visited start (replicate (length graph) false) [] → IsPartway graph start marks waiting
  partway_begun marks waiting h e = let P : List Bool × List ℕ → Type 0 = λ p. IsPartway graph start p.0 p.1 in subst P (sym e) (begun h)

  module _ (marks : List Bool) (left : List ℕ) (node : ℕ) (g : IsGraph graph) (p : IsPartway graph start marks (left ++ node ∷ [])) where
    abbrev after : List Bool × List ℕ
    after = visited (slice_index_or graph node []) marks left

    inside : Within marks (slice_index_or graph node [])
    inside = subst (λ n. All (λ to. to < n) (slice_index_or graph node [])) (sym p.size) (g node)

    waited : (other : ℕ) → among (left ++ node ∷ []) other ≡ (among left other || ((node == other) || false))
    waited other = list_any-append (λ x. x == other) left (node ∷ [])

    marked : (other : ℕ) → is_marked after.0 other ≡ (is_marked marks other || among (slice_index_or graph node []) other)
    marked other = marks-visited (slice_index_or graph node []) marks left other inside

    waits_now : (other : ℕ) → among after.1 other ≡ (among left other || (among (slice_index_or graph node []) other && not (is_marked marks other)))
    waits_now other = waiting-visited (slice_index_or graph node []) marks left other inside

    at_hand : is_marked marks node ≡ true
    at_hand = p.waits node (waited node ∙ or_right (among left node) ((node == node) || false) (or_left (node == node) false (eq-eqb node node refl)))

    -- a step from a node that was marked before
    old_step : (from to : ℕ) → goes graph from to ≡ true → is_marked marks from ≡ true → among left from ≡ false → is_marked after.0 to ≡ true
    old_step from to s m l = elim (cases_Bool (node == from)) [
      | inl same ↦ marked to ∙ or_right (is_marked marks to) (among (slice_index_or graph node []) to)
          (subst (λ x. goes graph x to ≡ true) (sym (eqb-true node from same)) s)
      | inr apart ↦ marked to ∙ or_left (is_marked marks to) (among (slice_index_or graph node []) to)
          (p.followed from to s m (waited from ∙ or_from (among left from) ((node == from) || false) l (or_from (node == from) false apart refl)))
    ]

    steps : (from to : ℕ) → goes graph from to ≡ true → is_marked after.0 from ≡ true → among after.1 from ≡ false → is_marked after.0 to ≡ true
    steps from to s m w =
        let parts = or_parts (among left from) (among (slice_index_or graph node []) from && not (is_marked marks from)) (sym (waits_now from) ∙ w) in
        elim (cases_Bool (is_marked marks from)) [
          | inl was ↦ old_step from to s was parts.0
          | inr new ↦ elim (or_cases (is_marked marks from) (among (slice_index_or graph node []) from) (sym (marked from) ∙ m)) [
            | inl was ↦ old_step from to s was parts.0
            | inr there ↦ absurd (true≢false
                (sym (and_from (among (slice_index_or graph node []) from) (not (is_marked marks from)) there (not_from_false (is_marked marks from) new))
                ∙ parts.1))
          ]
        ]

    -- one that waited is followed
    followed : IsPartway graph start after.0 after.1
    followed = record {
      size = size-visited (slice_index_or graph node []) marks left ∙ p.size;
      waits = λ other w. elim (or_cases (among left other) (among (slice_index_or graph node []) other && not (is_marked marks other))
          (sym (waits_now other) ∙ w)) [
            | inl before ↦ marked other ∙ or_left (is_marked marks other) (among (slice_index_or graph node []) other)
                (p.waits other (waited other ∙ or_left (among left other) ((node == other) || false) before))
            | inr now ↦ marked other ∙ or_right (is_marked marks other) (among (slice_index_or graph node []) other)
                (and_parts (among (slice_index_or graph node []) other) (not (is_marked marks other)) now).0
          ];
      within = within_visited (length graph) (slice_index_or graph node []) marks left (g node)
          (All-pop (λ n. n < length graph) (left ++ node ∷ []) left (Some node) refl p.within).0;
      started = λ other s. marked other ∙ or_left (is_marked marks other) (among (slice_index_or graph node []) other) (p.started other s);
      followed = steps;
      least = λ test s c other m. elim (or_cases (is_marked marks other) (among (slice_index_or graph node []) other) (sym (marked other) ∙ m)) [
        | inl before ↦ p.least test s c other before
        | inr now ↦ c node other now (p.least test s c node at_hand)
      ];
    }

    -- and fewer are left
    falls : unmarked after.0 + length after.1 < unmarked marks + length (left ++ node ∷ [])
    falls = omega (arith, count-visited (slice_index_or graph node []) marks left inside, length_push left node)

  pub partway_followed : (marks more : List Bool) (waiting left rest : List ℕ) (node : ℕ) → IsGraph graph → IsPartway graph start marks waiting
      → waiting ≡ left ++ node ∷ [] → (more, rest) ≡ visited (slice_index_or graph node []) marks left → IsPartway graph start more rest
  partway_followed marks more waiting left rest node g p w e = let P : List Bool × List ℕ → Type 0 = λ p. IsPartway graph start p.0 p.1
      in subst P (sym e) (followed marks left node g (subst (λ x. IsPartway graph start marks x) w p))

  pub partway_falls : (marks more : List Bool) (waiting left rest : List ℕ) (node : ℕ) → IsGraph graph → IsPartway graph start marks waiting
      → waiting ≡ left ++ node ∷ [] → (more, rest) ≡ visited (slice_index_or graph node []) marks left → unmarked more + length rest
      < unmarked marks + length waiting
  partway_falls marks more waiting left rest node g p w e =
      let P : List Bool × List ℕ → Type 0 = λ p. unmarked p.0 + length p.1 < unmarked marks + length waiting in
      subst P (sym e) (subst (λ x. unmarked (visited (slice_index_or graph node []) marks left).0
      + length (visited (slice_index_or graph node []) marks left).1 < unmarked marks + length x) (sym w)
      (falls marks left node g (subst (λ x. IsPartway graph start marks x) w p)))

  -- at the end nothing waits
  partway_ended : (marks : List Bool) → IsPartway graph start marks [] → AreReached graph start marks
  partway_ended marks p = record { size = p.size; started = p.started; closed = λ from to g m. p.followed from to g m refl; least = p.least }

-- the node that is taken out of the waiting ones
pub last_below : (bound : ℕ) (waiting left : List ℕ) (node : ℕ) → waiting ≡ left ++ node ∷ [] → All (λ n. n < bound) waiting → node < bound
last_below bound waiting left node w h = (All-pop (λ n. n < bound) waiting left (Some node) w h).1

-- where none can be taken out, all was followed
pub nothing_left : (graph : List (List ℕ)) (start : List ℕ) (marks made : List Bool) (waiting : List ℕ) → waiting ≡ [] → made ≡ marks
    → IsPartway graph start marks waiting → AreReached graph start made
nothing_left graph start marks made waiting none same p = subst (λ m. AreReached graph start m) (sym same)
    (partway_ended graph start marks (subst (λ w. IsPartway graph start marks w) none p))
