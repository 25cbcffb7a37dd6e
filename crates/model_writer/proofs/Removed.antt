-- Ranges that go into cells, one after the other.
use Rattle.std.proofs.Common.{◌≡◌, ℕ, ◌+◌, ◌<◌, List, [], ◌∷◌, ◌++◌, length, take, get_or, sym, ap, ◌∙◌, arith}
use Rattle.std.proofs.lemmas.List.{take_more, length-take-le}
use Rattle.item_definitions.specs.Position.{Range}
use Rattle.operation_definitions.specs.Operation.{Operation, in_tree, in_cell, move}
use Rattle.edit_definitions.specs.Planned.{removals, count_in}

pub removals-push : (cell : ℕ) (parts : List Range) (part : Range) → removals cell (parts ++ part ∷ [])
    ≡ removals cell parts ++ move (in_tree part.start) (count_in part.start part.end) (in_cell (cell + length parts)) ∷ []
removals-push cell [] part = ap (λ n. move (in_tree part.start) (count_in part.start part.end) (in_cell n) ∷ []) (omega arith)
removals-push cell (first ∷ parts) part =
    ap (λ rest. move (in_tree first.start) (count_in first.start first.end) (in_cell cell) ∷ rest) (removals-push (cell + 1) parts part
    ∙ ap (λ n. removals (cell + 1) parts ++ move (in_tree part.start) (count_in part.start part.end) (in_cell n) ∷ []) (let e : cell + 1 + length parts
    ≡ cell + length (first ∷ parts) = omega arith in e))

pub next_removal : (cell index number : ℕ) (all : List Range) (part : Range) (operation : Operation) (made new : List Operation)
    → removals cell (take index all) ≡ made → index < length all → part ≡ get_or all index part → number ≡ cell + index
    → operation ≡ move (in_tree part.start) (count_in part.start part.end) (in_cell number) → new ≡ made ++ operation ∷ []
    → removals cell (take (index + 1) all) ≡ new
next_removal cell index number all part operation made new before less here next meant after =
    ap (removals cell) (take_more all index part less ∙ ap (λ p. take index all ++ p ∷ []) (sym here))
    ∙ removals-push cell (take index all) part
    ∙ ap (λ xs. xs ++ move (in_tree part.start) (count_in part.start part.end) (in_cell (cell + length (take index all))) ∷ []) before
    ∙ ap (λ n. made ++ move (in_tree part.start) (count_in part.start part.end) (in_cell n) ∷ [])
    (same (length (take index all)) (length-take-le index all (omega arith)))
    ∙ ap (λ o. made ++ o ∷ []) (sym meant) ∙ sym after
  where
    same : (n : ℕ) → n ≡ index → cell + n ≡ number
    same n long = omega (arith, long, next)
