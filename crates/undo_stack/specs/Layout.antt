-- The stacks' fields as their lists.
use Rattle.std.specs.Prelude.{◌≤◌, ℕ, List, [], ◌∷◌, reverse, Option, Some, None}
use Rattle.model_doc.specs.Batched.{Batched}
use Rattle.undo_stack.specs.declared.stacks.Last.{Last}
use Rattle.undo_stack.specs.declared.stacks.Last.TheVariants.{Other, Undo, Redo}
use Rattle.undo_stack.specs.Stacked.{Undone, Lists}

-- the lists in which what was put last stands first
abbrev pub lists_of : List Batched → List Undone → Lists
lists_of earlier undone = record { earlier = reverse earlier; undone = reverse undone }

-- without the first
abbrev pub rest_of : {A : Type 0} → List A → List A
rest_of [] = []
rest_of (first ∷ rest) = rest

-- the lists before an undo
abbrev pub before_undo : List Batched → List Undone → Option Lists
before_undo earlier [] = None
before_undo earlier (undone ∷ rest) = Some (record { earlier = undone.batch ∷ earlier; undone = rest })

-- the lists before the last call, where it can be taken back
abbrev pub lists_before : Last → Lists → Option Lists
lists_before Other lists = None
lists_before Undo lists = before_undo lists.earlier lists.undone
lists_before (Redo undone) lists = Some (record { earlier = rest_of lists.earlier; undone = undone ∷ lists.undone })

-- there is memory for taking the last call back
abbrev pub HasRoom : Last → ℕ → ℕ → Type 0
HasRoom Other earlier undone = Unit {0}
HasRoom Undo earlier undone = 1 ≤ earlier
HasRoom (Redo last) earlier undone = 1 ≤ undone
