-- What is seen of a document.
use Rattle.std.specs.Prelude.{ℕ, Option, Some, None}
use Rattle.document_definitions.specs.Document.{State, empty_state}

-- a state, and how many operations led to it that were not taken back
pub record Moment : Type 0 where
  pub state : State
  pub mark : ℕ

-- the present state, how many operations led to it that were not taken back, and the moment to which the document can return, if one is kept
pub record Held : Type 0 where
  pub state : State
  pub mark : ℕ
  pub kept : Option Moment

-- an empty document, whose first new element gets this id
abbrev pub empty : ℕ → Held
empty first_id = record { state = empty_state first_id; mark = 0; kept = None }

-- the same document in another state
abbrev pub in_state : State → Held → Held
in_state state held = record { state = state; mark = held.mark; kept = held.kept }

-- the present moment
abbrev pub present : Held → Moment
present held = record { state = held.state; mark = held.mark }

-- the same document, from which on it can return to this moment
abbrev pub keeping : Held → Held
keeping held = record { state = held.state; mark = held.mark; kept = Some (present held) }

-- the same document, which keeps nothing
abbrev pub letting_go : Held → Held
letting_go held = record { state = held.state; mark = held.mark; kept = None }

-- the document at a moment, which keeps nothing
abbrev pub returned : Moment → Held
returned moment = record { state = moment.state; mark = moment.mark; kept = None }
