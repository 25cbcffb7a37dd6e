-- What visiting nodes does to the marks and to the nodes that wait.
use Rattle.std.proofs.Common.{◌≡◌, ℕ, zero, suc, ◌+◌, ◌<◌, List, [], ◌∷◌, ◌++◌, Bool, true, false, ◌&&◌, ◌||◌, not, cond, ◌==◌, length, slice_set, All, refl}
use Rattle.std.proofs.Common.{sym, ap, ◌∙◌, subst, inl, inr, arith}
use Rattle.std.proofs.lemmas.Bool.{cases_eq, eqb-true, eq-eqb, ne_eqb}
use Rattle.std.proofs.lemmas.List.{get_or-set_same, get_or-set_other, length-set, length_push}
use Rattle.std.proofs.lemmas.List.Elements.{All-head, All-tail}
use Rattle.std.proofs.lemmas.List.Folds.{list_any-append}
use Rattle.schema_rules.specs.Graph.{among, is_marked, visited, unmarked}

-- the nodes are among those that are marked
abbrev pub Within : List Bool → List ℕ → Type 0
Within marks nodes = All (λ node. node < length marks) nodes

or_true : (a : Bool) → (a || true) ≡ true
or_true true = refl
or_true false = refl

or_false : (a : Bool) → (a || false) ≡ a
or_false true = refl
or_false false = refl

-- a mark more
set_marks : (marks : List Bool) (node other : ℕ) → node < length marks → is_marked (slice_set marks node true) other
    ≡ (is_marked marks other || (node == other))
set_marks marks node other h = elim (cases_eq other node) [
  | inl same ↦ let here : is_marked (slice_set marks node true) other ≡ true = subst (λ o. is_marked (slice_set marks node true) o ≡ true) (sym same)
      (get_or-set_same marks node true false h) in
      here ∙ sym (ap (λ b. is_marked marks other || b) (eq-eqb node other (sym same)) ∙ or_true (is_marked marks other))
  | inr apart ↦ get_or-set_other marks node other true false apart ∙ sym (ap (λ b. is_marked marks other || b) (ne_eqb node other (λ e. apart (sym e)))
      ∙ or_false (is_marked marks other))
]

set_within : (marks : List Bool) (node : ℕ) (nodes : List ℕ) → Within marks nodes → Within (slice_set marks node true) nodes
set_within marks node nodes h = subst (λ n. All (λ x. x < n) nodes) (sym (length-set marks node true)) h

-- there are as many marks as before
pub size-visited : (nodes : List ℕ) (marks : List Bool) (waiting : List ℕ) → length (visited nodes marks waiting).0 ≡ length marks
size-visited [] marks waiting = refl
size-visited (n ∷ ns) marks waiting =
    elim (is_marked marks n) as (λ b. length (cond b (visited ns marks waiting) (visited ns (slice_set marks n true) (waiting ++ n ∷ []))).0 ≡ length marks) [
      | true ↦ size-visited ns marks waiting
      | false ↦ size-visited ns (slice_set marks n true) (waiting ++ n ∷ []) ∙ length-set marks n true
    ]

-- a case of a test that decides whether a node is the same as another
marked_more : (was here later : Bool) → ((was || here) || later) ≡ (was || (here || later))
marked_more true here later = refl
marked_more false here later = refl

marked_same : (was here later : Bool) → (here ≡ true → was ≡ true) → (was || later) ≡ (was || (here || later))
marked_same true here later h = refl
marked_same false true later h = cc (h refl)
marked_same false false later h = refl

-- what is marked then: what was marked, and the nodes
pub marks-visited : (nodes : List ℕ) (marks : List Bool) (waiting : List ℕ) (node : ℕ) → Within marks nodes
    → is_marked (visited nodes marks waiting).0 node ≡ (is_marked marks node || among nodes node)
marks-visited [] marks waiting node h = sym (or_false (is_marked marks node))
marks-visited (n ∷ ns) marks waiting node h =
    let rest : Within marks ns = All-tail (λ x. x < length marks) n ns h in
    elim (is_marked marks n) as (λ b. is_marked marks n ≡ b
    → is_marked (cond b (visited ns marks waiting) (visited ns (slice_set marks n true) (waiting ++ n ∷ []))).0 node
    ≡ (is_marked marks node || ((n == node) || among ns node))) [
      | true ↦ λ e. marks-visited ns marks waiting node rest
          ∙ marked_same (is_marked marks node) (n == node) (among ns node) (λ g. subst (λ x. is_marked marks x ≡ true) (eqb-true n node g) e)
      | false ↦ λ e. marks-visited ns (slice_set marks n true) (waiting ++ n ∷ []) node (set_within marks n ns rest)
          ∙ ap (λ b. b || among ns node) (set_marks marks n node (All-head (λ x. x < length marks) n ns h))
          ∙ marked_more (is_marked marks node) (n == node) (among ns node)
    ] refl

-- a node waits that waited, that was there
waits_same : (waits was here later : Bool) → (here ≡ true → was ≡ true) → (waits || (later && not was)) ≡ (waits || ((here || later) && not was))
waits_same waits true true later h = ap (λ b. waits || b) (none later) where
  none : (b : Bool) → (b && false) ≡ false
  none true = refl
  none false = refl
waits_same waits true false later h = refl
waits_same waits false true later h = cc (h refl)
waits_same waits false false later h = refl

waits_more : (waits was here later : Bool) → (here ≡ true → was ≡ false) → ((waits || (here || false)) || (later && not (was || here)))
    ≡ (waits || ((here || later) && not was))
waits_more true was here later h = refl
waits_more false true true later h = cc (h refl)
waits_more false true false true h = refl
waits_more false true false false h = refl
waits_more false false true true h = refl
waits_more false false true false h = refl
waits_more false false false true h = refl
waits_more false false false false h = refl

-- what waits then: what waited, and the nodes that weren't marked
pub waiting-visited : (nodes : List ℕ) (marks : List Bool) (waiting : List ℕ) (node : ℕ) → Within marks nodes
    → among (visited nodes marks waiting).1 node ≡ (among waiting node || (among nodes node && not (is_marked marks node)))
waiting-visited [] marks waiting node h = sym (or_false (among waiting node))
waiting-visited (n ∷ ns) marks waiting node h =
    let rest : Within marks ns = All-tail (λ x. x < length marks) n ns h in
    elim (is_marked marks n) as (λ b. is_marked marks n ≡ b
    → among (cond b (visited ns marks waiting) (visited ns (slice_set marks n true) (waiting ++ n ∷ []))).1 node
    ≡ (among waiting node || (((n == node) || among ns node) && not (is_marked marks node)))) [
      | true ↦ λ e. waiting-visited ns marks waiting node rest ∙ waits_same (among waiting node) (is_marked marks node) (n == node) (among ns node)
          (λ g. subst (λ x. is_marked marks x ≡ true) (eqb-true n node g) e)
      | false ↦ λ e. waiting-visited ns (slice_set marks n true) (waiting ++ n ∷ []) node (set_within marks n ns rest)
          ∙ ap (λ b. b || (among ns node && not (is_marked (slice_set marks n true) node))) (list_any-append (λ other. other == node) waiting (n ∷ []))
          ∙ ap (λ b. (among waiting node || ((n == node) || false)) || (among ns node && not b))
          (set_marks marks n node (All-head (λ x. x < length marks) n ns h))
          ∙ waits_more (among waiting node) (is_marked marks node) (n == node) (among ns node)
          (λ g. subst (λ x. is_marked marks x ≡ false) (eqb-true n node g) e)
    ] refl

set_unmarked : (marks : List Bool) (node : ℕ) → node < length marks → is_marked marks node ≡ false → suc (unmarked (slice_set marks node true)) ≡ unmarked marks
set_unmarked [] node h e = absurd (omega arith)
set_unmarked (m ∷ marks) zero h e = rw e refl
set_unmarked (true ∷ marks) (suc node) h e = set_unmarked marks node (omega (arith, h)) e
set_unmarked (false ∷ marks) (suc node) h e = ap suc (set_unmarked marks node (omega (arith, h)) e)

-- each node that waits from now on is marked now
pub count-visited : (nodes : List ℕ) (marks : List Bool) (waiting : List ℕ) → Within marks nodes
    → unmarked (visited nodes marks waiting).0 + length (visited nodes marks waiting).1 ≡ unmarked marks + length waiting
count-visited [] marks waiting h = refl
count-visited (n ∷ ns) marks waiting h =
    let rest : Within marks ns = All-tail (λ x. x < length marks) n ns h in
    elim (is_marked marks n) as (λ b. is_marked marks n ≡ b
    → unmarked (cond b (visited ns marks waiting) (visited ns (slice_set marks n true) (waiting ++ n ∷ []))).0
    + length (cond b (visited ns marks waiting) (visited ns (slice_set marks n true) (waiting ++ n ∷ []))).1 ≡ unmarked marks + length waiting) [
      | true ↦ λ e. count-visited ns marks waiting rest
      | false ↦ λ e. let there = set_unmarked marks n (All-head (λ x. x < length marks) n ns h) e in
          let more = count-visited ns (slice_set marks n true) (waiting ++ n ∷ []) (set_within marks n ns rest) in
          omega (arith, there, more, length_push waiting n)
    ] refl
