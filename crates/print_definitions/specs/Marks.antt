-- The marks of a selection in a printed text.
use Rattle.std.specs.Prelude.{ℕ, ◌+◌, List, [], ◌∷◌, ◌++◌, ◌==◌, nat_eq, if◌then◌else◌, Option, Some, None, codes}
use Rattle.std.specs.Cmp.Lexicographic.{pointwise}
use Rattle.machine_definitions.specs.Texts.{printed_scalar}

-- where a selection starts and where it ends: what is left of each place below what is printed, and nothing where it lies elsewhere
pub record Ends : Type 0 where
  pub start : List ℕ
  pub end : List ℕ

-- those that are wanted, or none
abbrev pub wanted : Option Ends → Ends
wanted None = record { start = []; end = [] }
wanted (Some ends) = ends

-- what is left of a place in what stands at an index
abbrev pub behind : ℕ → List ℕ → List ℕ
behind index [] = []
behind index (first ∷ rest) = if first == index then rest else []

-- the same of both places
abbrev pub inside : ℕ → Ends → Ends
inside index ends = record { start = behind index ends.start; end = behind index ends.end }

-- a mark at an index
abbrev pub mark_at : List ℕ → List ℕ → ℕ → List ℕ
mark_at mark place index = if pointwise nat_eq place (index ∷ []) then mark else []

-- the marks between items or nodes: the opening one where the selection starts, then the closing one where it ends
abbrev pub outer_marks : Ends → ℕ → List ℕ
outer_marks ends index = mark_at (codes "[") ends.start index ++ mark_at (codes "]") ends.end index

-- the marks in a text of a view
abbrev pub inner_marks : Ends → ℕ → List ℕ
inner_marks ends index = mark_at (codes "{") ends.start index ++ mark_at (codes "}") ends.end index

-- characters from an offset on, with the marks before each
abbrev pub marked : (ℕ → List ℕ) → ℕ → List ℕ → List ℕ
marked marks offset [] = []
marked marks offset (scalar ∷ scalars) = marks offset ++ (printed_scalar scalar ++ marked marks (offset + 1) scalars)
