-- Graphs over numbered nodes, as the list of the nodes to which each node leads, and which nodes are marked.
use Rattle.std.specs.Prelude.{◌≡◌, ℕ, zero, suc, ◌<◌, List, [], ◌∷◌, ◌++◌, Bool, true, false, ◌==◌, if◌then◌else◌, length, slice_index_or, slice_set, All}
use Rattle.std.specs.List.{list_any}

-- whether a node is in a list
abbrev pub among : List ℕ → ℕ → Bool
among nodes node = list_any (λ other. other == node) nodes

-- whether a node leads to another in one step
abbrev pub goes : List (List ℕ) → ℕ → ℕ → Bool
goes graph from to = among (slice_index_or graph from []) to

-- each step leads to a node
abbrev pub IsGraph : List (List ℕ) → Type 0
IsGraph graph = (from : ℕ) → All (λ to. to < length graph) (slice_index_or graph from [])

-- whether a node is marked; what is beyond the marks isn't
abbrev pub is_marked : List Bool → ℕ → Bool
is_marked marks node = slice_index_or marks node false

-- the marks, and the nodes that wait, once these nodes are visited: each that isn't marked is marked, and waits
abbrev pub visited : List ℕ → List Bool → List ℕ → List Bool × List ℕ
visited [] marks waiting = (marks, waiting)
visited (node ∷ nodes) marks waiting = if is_marked marks node then visited nodes marks waiting
    else visited nodes (slice_set marks node true) (waiting ++ node ∷ [])

-- the marked nodes are the least set that has the start and that no step leads out of
pub record AreReached (graph : List (List ℕ)) (start : List ℕ) (marks : List Bool) : Type 0 where
  pub size : length marks ≡ length graph
  pub started : (node : ℕ) → among start node ≡ true → is_marked marks node ≡ true
  pub closed : (from to : ℕ) → goes graph from to ≡ true → is_marked marks from ≡ true → is_marked marks to ≡ true
  pub least : (test : ℕ → Bool) → ((node : ℕ) → among start node ≡ true → test node ≡ true)
      → ((from to : ℕ) → goes graph from to ≡ true → test from ≡ true → test to ≡ true) → (node : ℕ) → is_marked marks node ≡ true → test node ≡ true

-- how many nodes aren't marked
abbrev pub unmarked : List Bool → ℕ
unmarked [] = 0
unmarked (true ∷ marks) = unmarked marks
unmarked (false ∷ marks) = suc (unmarked marks)

-- the nodes to which the marked ones of the first so many nodes lead
abbrev pub targets_below : List (List ℕ) → List Bool → ℕ → List ℕ
targets_below graph marks zero = []
targets_below graph marks (suc node) = targets_below graph marks node ++ (if is_marked marks node then slice_index_or graph node [] else [])
