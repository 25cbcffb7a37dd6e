-- How a run ends.
use Rattle.std.specs.Prelude.{◌≡◌, ◌≢◌, ◌⊎◌, ℕ, List, Option, Some, None, IfSome}
use Rattle.std.specs.Io.KnownBytes.{append_known}
use Rattle.ck_io.specs.Rose.{Rose}
use Rattle.program_definitions.specs.Task.{Task, run, check, task_of}
use Rattle.program_definitions.specs.Output.{Outcome, usage}
use Rattle.editor_run.specs.declared.run.Status.{Status}
use Rattle.editor_run.specs.declared.run.Status.TheVariants.{BadWords, NoMemory, NotFetched, NotWritten, TooLarge}
use Rattle.editor_run.specs.Status.{status_code}
use Rattle.editor_run.specs.Sent.{SendsFront}

-- what is told of the files and the sink of a run: what is held, where that is told; how many fetches had failed before it and have behind it; what
-- was written before it and behind it, where that is told; and how many writes had failed before it and have behind it
pub record Calls : Type 0 where
  pub held : Option (List ℕ → Option (List ℕ))
  pub fetches : ℕ
  pub fetches_then : ℕ
  pub written : Option (List ℕ)
  pub written_then : Option (List ℕ)
  pub writes : ℕ
  pub writes_then : ℕ

-- what is told, with these in the order of the fields
abbrev pub calls : Option (List ℕ → Option (List ℕ)) → ℕ → ℕ → Option (List ℕ) → Option (List ℕ) → ℕ → ℕ → Calls
calls held fetches fetches_then written written_then writes writes_then = record {
  held = held;
  fetches = fetches;
  fetches_then = fetches_then;
  written = written;
  written_then = written_then;
  writes = writes;
  writes_then = writes_then;
}

-- it is told what is held
abbrev pub IsTelling : Option (List ℕ → Option (List ℕ)) → Type 0
IsTelling (Some held) = Unit {0}
IsTelling None = ⊥

-- no fetch has failed
abbrev pub IsFetched : Calls → Type 0
IsFetched calls = ¬ Rose calls.fetches calls.fetches_then

-- a write has failed
abbrev pub IsBroken : Calls → Type 0
IsBroken calls = Rose calls.writes calls.writes_then

-- the status is that of the outcome, and its bytes were written
abbrev pub IsOutcome : Option (List ℕ) → Option (List ℕ) → ℕ → Outcome → Type 0
IsOutcome written written_then status outcome = (status ≡ outcome.status) × (written_then ≡ append_known written outcome.bytes)

-- That a run has ended with this status, as it is wanted by what is held: unless memory ran out or a call failed, status and bytes are those of the
-- outcome, and a front of these was written in any case; a file that can't be had and one that is too large end it before anything is written
pub record Ends (calls : Calls) (wanted : (List ℕ → Option (List ℕ)) → Outcome) (status : Status) : Type 0 where
  pub output : IfSome calls.held (λ held. status ≢ NoMemory → status ≢ NotWritten → (status ≡ NotFetched → IsFetched calls)
      → IsOutcome calls.written calls.written_then (status_code status) (wanted held))
  pub part : IfSome calls.held (λ held. SendsFront calls.written calls.written_then (wanted held).bytes)
  pub not_fetched : status ≡ NotFetched → calls.written_then ≡ calls.written
  pub missing : status ≡ NotFetched → IsFetched calls → IsTelling calls.held
  pub not_written : status ≡ NotWritten → IsBroken calls
  pub too_large : status ≡ TooLarge → calls.written_then ≡ calls.written

-- That a text was written behind what was written before, and this status came of it; or a front of the text, where memory ran out or a write has
-- failed
pub record Tells (text : List ℕ) (wanted : Status) (written written_then : Option (List ℕ)) (writes writes_then : ℕ) (status : Status) : Type 0 where
  pub whole : status ≢ NoMemory → status ≢ NotWritten → (status ≡ wanted) × (written_then ≡ append_known written text)
  pub part : SendsFront written written_then text
  pub failed : status ≡ NotWritten → Rose writes writes_then

-- Where it is told what is held: unless memory ran out or a call failed, the status of this number and the bytes are those of the outcome of what is
-- held
abbrev pub IsOutput : Calls → ((List ℕ → Option (List ℕ)) → Outcome) → ℕ → Type 0
IsOutput calls wanted status = IfSome calls.held (λ held. status ≢ 3 → status ≢ 5 → (status ≡ 4 → IsFetched calls)
    → IsOutcome calls.written calls.written_then status (wanted held))

-- where it is told what is held, no call failed and memory didn't run out, they are those of that outcome whatever the status
abbrev pub IsWholeOutput : Calls → ((List ℕ → Option (List ℕ)) → Outcome) → ℕ → Type 0
IsWholeOutput calls wanted status = IfSome calls.held (λ held. IsFetched calls → ¬ IsBroken calls → status ≢ 3
    → IsOutcome calls.written calls.written_then status (wanted held))

-- where it is told what is held, what was written is a front of the bytes of its outcome
abbrev pub IsFront : Calls → ((List ℕ → Option (List ℕ)) → Outcome) → Type 0
IsFront calls wanted = IfSome calls.held (λ held. SendsFront calls.written calls.written_then (wanted held).bytes)

-- the words are of no form, and the usage line was written
abbrev pub ShowsUsage : Option (List ℕ) → Option (List ℕ) → List (List ℕ) → Type 0
ShowsUsage written written_then words = (task_of words ≡ None) × (written_then ≡ append_known written usage)

-- it is told what is held, and the file of a name isn't
abbrev pub IsNotHeld : Option (List ℕ → Option (List ℕ)) → List ℕ → Type 0
IsNotHeld (Some held) name = held name ≡ None
IsNotHeld None name = ⊥

-- it is told what is held, and a file that a task names isn't
abbrev pub IsMissingFor : Option (List ℕ → Option (List ℕ)) → Task → Type 0
IsMissingFor holds (run settings script) = IsNotHeld holds settings ⊎ IsNotHeld holds script
IsMissingFor holds (check settings) = IsNotHeld holds settings

-- it is told what is held, and a file that the words name isn't
abbrev pub IsMissing : Option (List ℕ → Option (List ℕ)) → Option Task → Type 0
IsMissing holds (Some task) = IsMissingFor holds task
IsMissing holds None = ⊥
