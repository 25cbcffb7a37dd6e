-- The records of a batch, as the way from one moment of a document to a later one.
use Rattle.std.specs.Prelude.{◌≡◌, ◌+◌, List, [], ◌∷◌}
use Rattle.document_definitions.specs.Sound.{IsWelcome}
use Rattle.model_doc.specs.Held.{Moment, returned}
use Rattle.model_doc.specs.Records.{Done, IsReached, Leads}

-- a moment is another one but for the selection and for cells that are empty
pub record IsFrom (moment now : Moment) : Type 0 where
  pub reached : IsReached moment.state now.state
  pub mark : now.mark ≡ moment.mark

-- an operation that might be made at a moment led on to another one, where the selection may have changed since, and has this record
pub record IsStep (moment : Moment) (done : Done) (next : Moment) : Type 0 where
  pub welcome : IsWelcome done.operation moment.state
  pub leads : Leads moment.state done (returned next)
  pub mark : next.mark ≡ moment.mark + 1

-- records, the last first, lead back from a moment to an earlier one
abbrev pub LedBack : Moment → List Done → Moment → Type 0
LedBack start [] now = IsFrom start now
LedBack start (done ∷ records) now = (moment : Moment) × IsStep moment done now × LedBack start records moment

-- records in their order lead on from a moment to a later one
abbrev pub LedOn : Moment → List Done → Moment → Type 0
LedOn start [] last = IsFrom start last
LedOn start (done ∷ records) last = (moment : Moment) × (next : Moment) × IsFrom start moment × IsStep moment done next × LedOn next records last
