-- After each operation that an edit plans the keys of the items in the tree are in order, whatever is in the cells beside it.
use Rattle.std.proofs.Common.{◌≡◌, ℕ, ◌+◌, Bool, List, [], ◌∷◌, ◌++◌, length, Result, Ok, Err, refl, sym, ap, ◌∙◌, subst, append_assoc}
use Rattle.ck_base.specs.declared.faults.EditFault.{EditFault}
use Rattle.operation_definitions.specs.Operation.{Fault, Operation, in_tree, in_cell, insert, move, attribute, rename, split, merge, marker}
use Rattle.operation_definitions.specs.After.{◌>>=◌}
use Rattle.operation_definitions.specs.Reversed.{AreOrdered}
use Rattle.operation_definitions.proofs.Steps.{step-ok}
use Rattle.document_definitions.specs.Document.{Document, State, applied, all_applied}
use Rattle.document_definitions.specs.Sound.{IsKeyed, BringsOrdered}
use Rattle.edit_definitions.specs.declared.edit.Edit.{Edit}
use Rattle.edit_definitions.specs.Planned.{operations_of}
use Rattle.edit_definitions.specs.Performed.{apart}
use Rattle.edit_definitions.proofs.Cells.{numbered, filled, numbered_from, AreOutward, AreTwins, plans-twins}
use Rattle.edit_definitions.proofs.Alike.{document_in, all-same}
use Rattle.record_definitions.specs.Brought.{BringsInOrder}
use Rattle.record_definitions.proofs.Brings.{Fits, AllBring, planned_brings}

-- an operation keeps the keys of items in order, in the tree and in the cells
abbrev pub KeepsOrder : Type 0
KeepsOrder = (operation : Operation) (state new : State) → IsKeyed state → BringsOrdered operation → applied operation state ≡ Ok new → IsKeyed new

-- an operation brings the same, whatever the number of its cell
numbered-brings : (number : ℕ) (operation : Operation) → Fits operation → Fits (numbered number operation)
numbered-brings number (insert position new) h = h
numbered-brings number (move (in_tree from) count (in_cell cell)) h = (tt, tt)
numbered-brings number (move (in_cell from) count (in_cell cell)) h = (tt, tt)
numbered-brings number (move from count (in_tree to)) h = h
numbered-brings number (attribute range key old new) h = (tt, tt)
numbered-brings number (rename path old new) h = (tt, tt)
numbered-brings number (split position source) h = (tt, tt)
numbered-brings number (merge right target cell) h = (tt, tt)
numbered-brings number (marker name old new) h = (tt, tt)

all-numbered-bring : (number : ℕ) (operations : List Operation) → AllBring operations → AllBring (numbered_from number operations)
all-numbered-bring number [] h = tt
all-numbered-bring number (operation ∷ operations) h =
    (numbered-brings number operation h.0, all-numbered-bring (number + filled operation) operations h.1)

-- a document alone, whose items have their keys in order
alone-keyed : (document : Document) → AreOrdered document.items → IsKeyed (apart document)
alone-keyed document h = record { items = h; cells = λ number. tt }

made-in : (answer : Result State Fault) (document : Document) → document_in answer ≡ Ok document
    → (made : State) × (answer ≡ Ok made) × (made.document ≡ document)
made-in (Ok made) document e = (made, refl, cc)
made-in (Err fault) document e = absurd cc

-- so does each beginning of a plan
first-numbered : (number : ℕ) (front back : List Operation) → front ++ back ≡ numbered_from number (front ++ back) → front ≡ numbered_from number front
first-numbered number [] back e = refl
first-numbered number (operation ∷ front) back e =
    let one : operation ≡ numbered number operation = cc in
    let rest : front ++ back ≡ numbered_from (number + filled operation) (front ++ back) = cc in
    λ i. one i ∷ first-numbered (number + filled operation) front back rest i

first-outward : (front back : List Operation) → AreOutward (front ++ back) → AreOutward front
first-outward [] back h = tt
first-outward (operation ∷ front) back h = (h.0, first-outward front back h.1)

first-brings : (front back : List Operation) → AllBring (front ++ back) → AllBring front
first-brings [] back h = tt
first-brings (operation ∷ front) back h = (h.0, first-brings front back h.1)

one-more : (front : List Operation) (operation : Operation) (start state made : State) → all_applied front start ≡ Ok state
    → applied operation state ≡ Ok made → all_applied (front ++ operation ∷ []) start ≡ Ok made
one-more [] operation start state made e f =
    let same : start ≡ state = cc in
    ap (λ (state : State). applied operation state >>= all_applied []) same ∙ ap (λ (r : Result State Fault). r >>= all_applied []) f
one-more (first ∷ front) operation start state made e f =
    let one = step-ok (applied first start) (all_applied front) state e in
    ap (λ (r : Result State Fault). r >>= all_applied (front ++ operation ∷ [])) one.1 ∙ one-more front operation one.0 state made one.2 f

-- the keys are in order before each operation, and after all of them
abbrev pub AreInOrder : List Operation → State → Type 0
AreInOrder [] state = AreOrdered state.document.items
AreInOrder (operation ∷ operations) state =
    AreOrdered state.document.items × ((made : State) → applied operation state ≡ Ok made → AreInOrder operations made)

module _ (operations : List Operation) (start : State)
    (after : (front back : List Operation) (state : State) → front ++ back ≡ operations → all_applied front start ≡ Ok state
    → AreOrdered state.document.items) where
  go-on : (front back : List Operation) (state : State) → front ++ back ≡ operations → all_applied front start ≡ Ok state → AreInOrder back state
  go-on front [] state e made = after front [] state e made
  go-on front (operation ∷ back) state e made = (
    after front (operation ∷ back) state e made,
    λ then f. go-on (front ++ operation ∷ []) back then (append_assoc front (operation ∷ []) back ∙ e) (one-more front operation start state then made f),
  )

module _ (keeps_order : KeepsOrder) where
  all-keyed : (operations : List Operation) (state made : State) → IsKeyed state → AllBring operations → all_applied operations state ≡ Ok made → IsKeyed made
  all-keyed [] state made keyed brings e = (let same : state ≡ made = cc in subst IsKeyed same keyed)
  all-keyed (operation ∷ operations) state made keyed brings e =
      let one = step-ok (applied operation state) (all_applied operations) made e in
      all-keyed operations one.0 made (keeps_order operation state one.0 keyed brings.0.0 one.1) brings.1 one.2

  -- operations that fill the next cells keep the order
  outward-ordered : (operations : List Operation) (state made : State) → AreOutward operations → AllBring operations → AreOrdered state.document.items
      → operations ≡ numbered_from (length state.cells) operations → all_applied operations state ≡ Ok made → AreOrdered made.document.items
  outward-ordered operations state made outward brings ordered these e =
      let twin = made-in (all_applied (numbered_from 0 operations) (apart state.document)) made.document
      (sym (all-same operations outward (length state.cells) 0 state.document state.cells [] refl refl)
      ∙ ap (λ all. document_in (all_applied all state)) (sym these) ∙ ap document_in e) in
      subst (λ (document : Document). AreOrdered document.items) twin.2
      (all-keyed (numbered_from 0 operations) (apart state.document) twin.0 (alone-keyed state.document ordered)
      (all-numbered-bring 0 operations brings) twin.1).items

  pub planned_in_order : (registered : List ℕ → Bool) (number : ℕ) (edit : Edit) (state : State) (operations : List Operation) → BringsInOrder edit
      → AreOrdered state.document.items → operations_of registered number edit state ≡ Ok operations → AreInOrder operations state
  planned_in_order registered number edit state operations orderly ordered planned =
      go (operations_of registered number edit state) (operations_of registered number edit (apart state.document)) planned
      (plans-twins registered number edit state.document state.cells [])
    where
      go : (r twin : Result (List Operation) EditFault) → r ≡ Ok operations → AreTwins (length state.cells) 0 r twin → AreInOrder operations state
      go (Err fault) twin e h = absurd cc
      go (Ok all) (Err fault) e h = absurd h
      go (Ok all) (Ok twins) e h =
          let same : all ≡ operations = cc in
          let brings = planned_brings registered number edit state operations orderly planned in
          let these : operations ≡ numbered_from (length state.cells) operations = subst (λ all. all ≡ numbered_from (length state.cells) all) same h.these in
          let outward = subst AreOutward same h.outward in
          go-on operations state (λ front back made e f. outward-ordered front state made (first-outward front back (subst AreOutward (sym e) outward))
          (first-brings front back (subst AllBring (sym e) brings)) ordered
          (first-numbered (length state.cells) front back (subst (λ all. all ≡ numbered_from (length state.cells) all) (sym e) these)) f)
          [] operations state refl refl
