-- Which records edits leave that are performed, and where they lead.
use Rattle.std.specs.Prelude.{◌≡◌, ℕ, ◌+◌, List, [], ◌∷◌, ◌++◌, length, Bool, Result, Ok, Err}
use Rattle.operation_definitions.specs.Operation.{Operation}
use Rattle.operation_definitions.specs.Reversed.{AreOrdered}
use Rattle.document_definitions.specs.Document.{State}
use Rattle.document_definitions.specs.Sound.{IsSound}
use Rattle.edit_definitions.specs.declared.edit.Edit.{Edit}
use Rattle.edit_definitions.specs.Planned.{operations_of}
use Rattle.edit_definitions.specs.Performed.{performed}
use Rattle.model_doc.specs.Held.{Moment}
use Rattle.model_doc.specs.Records.{Done, records_of}
use Rattle.record_definitions.specs.Brought.{BringsInOrder}

-- a state is sound, and the keys of the items in its tree are in order
pub record IsFit (state : State) : Type 0 where
  pub sound : IsSound state
  pub ordered : AreOrdered state.document.items

-- an edit, which has this number in its plan, leads from a moment to a next one, and its operations leave these records
pub record IsOneEdit (registered : List ℕ → Bool) (number : ℕ) (edit : Edit) (moment : Moment) (records : List Done) (next : Moment) : Type 0 where
  pub operations : List Operation
  pub planned : operations_of registered number edit moment.state ≡ Ok operations
  pub made : performed registered number edit moment.state ≡ Ok next.state
  pub left : records ≡ records_of operations moment.state moment.mark
  pub mark : next.mark ≡ moment.mark + length operations
  pub orderly : BringsInOrder edit

-- edits with their numbers in their plan, of which the first has this one
abbrev pub numbered : ℕ → List Edit → List (ℕ × Edit)
numbered number [] = []
numbered number (edit ∷ edits) = (number, edit) ∷ numbered (number + 1) edits

-- edits, one after the other, each with its number, lead from a moment to a later one and leave these records
abbrev pub Lead : (List ℕ → Bool) → List (ℕ × Edit) → Moment → List Done → Moment → Type 0
Lead registered [] moment records now = (records ≡ []) × (now ≡ moment)
Lead registered (first ∷ edits) moment records now =
    (left : List Done) × (rest : List Done) × (next : Moment) × (records ≡ left ++ rest) × IsOneEdit registered first.0 first.1 moment left next
    × Lead registered edits next rest now

-- behind the records of a batch came exactly those of these edits, which led from a moment to the present one
abbrev pub IsTracedBy : (List ℕ → Bool) → List (ℕ × Edit) → List Done → Moment → List Done → Moment → Type 0
IsTracedBy registered edits before moment records now = (added : List Done) × (records ≡ before ++ added) × Lead registered edits moment added now

-- behind the records of a batch came exactly those of some edits, which led from a moment to the present one
abbrev pub IsTraced : (List ℕ → Bool) → List Done → Moment → List Done → Moment → Type 0
IsTraced registered before moment records now = (edits : List (ℕ × Edit)) × IsTracedBy registered edits before moment records now

-- The records that came behind those of a batch are exactly those of these edits, and where one was refused, of some edits
abbrev pub Traces : {A E : Type 0} → (List ℕ → Bool) → List (ℕ × Edit) → List Done → Moment → List Done → Moment → Result A E → Type 0
Traces registered edits before moment records now (Ok done) = IsTracedBy registered edits before moment records now
Traces registered edits before moment records now (Err fault) = IsTraced registered before moment records now

-- of all edits, those that are not left have led from a moment to the present one, and left exactly the records that came behind those of a batch
abbrev pub IsPartway : (List ℕ → Bool) → List (ℕ × Edit) → List (ℕ × Edit) → List Done → Moment → List Done → Moment → Type 0
IsPartway registered all left before moment records now =
    (taken : List (ℕ × Edit)) × (taken ++ left ≡ all) × IsTracedBy registered taken before moment records now
