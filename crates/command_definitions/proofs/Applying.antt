-- One operation that is applied to a document.
use Rattle.std.proofs.Common.{◌≡◌, List, [], ◌∷◌, Result, Ok, ap, ◌∙◌}
use Rattle.item_definitions.specs.Item.{Item}
use Rattle.operation_definitions.specs.Operation.{Fault, Operation}
use Rattle.operation_definitions.specs.After.{◌>>=◌, after}
use Rattle.operation_definitions.proofs.Steps.{step-ok}
use Rattle.document_definitions.specs.Document.{State, changed, applied, all_applied}

-- items and cells
abbrev pub Tree : Type 0
Tree = List Item × List (List Item)

-- what an operation made of the items and the cells
pub record Applied (operation : Operation) (state new : State) : Type 0 where
  pub made : Tree
  pub effect : after state.document.items state.cells operation ≡ Ok made
  pub result : changed operation state made ≡ new

same-state : (a b : State) → ◌≡◌ {A = Result State Fault} (Ok a) (Ok b) → a ≡ b
same-state a b e = cc

pub one-applied : (operation : Operation) (state new : State) → all_applied (operation ∷ []) state ≡ Ok new → Applied operation state new
one-applied operation state new e =
    let a = step-ok (applied operation state) (all_applied []) new e in
    let b = step-ok (after state.document.items state.cells operation) (λ (made : Tree). Ok (changed operation state made)) a.0 a.1 in
    record { made = b.0; effect = b.1; result = same-state (changed operation state b.0) a.0 b.2 ∙ same-state a.0 new a.2 }

pub applied-one : (operation : Operation) (state : State) (made : Tree) → after state.document.items state.cells operation ≡ Ok made
    → all_applied (operation ∷ []) state ≡ Ok (changed operation state made)
applied-one operation state made e = ap (λ (r : Result Tree Fault). (r >>= (λ m. Ok (changed operation state m))) >>= all_applied []) e
