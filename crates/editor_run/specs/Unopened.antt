-- How a run ends where no editor is opened.
use Rattle.std.specs.Prelude.{◌≡◌, ◌⊎◌, ℕ, List, Option, Result, Ok, Err, string_bytes}
use Rattle.editor_core.specs.declared.editor.Editor.{Editor}
use Rattle.editor_core.specs.HandedIn.{Meanings}
use Rattle.editor_core.specs.AsMachine.{machine_of, IsCurrent}
use Rattle.program_definitions.specs.Machine.{Machine}
use Rattle.program_definitions.specs.Output.{Outcome, silent, refused}
use Rattle.editor_run.specs.declared.run.Status.{Status}
use Rattle.editor_run.specs.declared.run.Status.TheVariants as statuses
use Rattle.editor_run.specs.Ends.{Tells}
use Rattle.editor_run.specs.declared.opening.Unopened.{Unopened}
use Rattle.editor_run.specs.declared.opening.Unopened.TheVariants.{NoMemory, NotFetched, TooLarge, Refused}

-- that this end, in place of a machine, is the one that came, unless memory ran out
abbrev pub IsEnd : Unopened → Result Machine Outcome → Type 0
IsEnd NoMemory wanted = Unit {0}
IsEnd NotFetched wanted = wanted ≡ Err (silent 4)
IsEnd TooLarge wanted = wanted ≡ Err (silent 6)
IsEnd (Refused text) wanted = wanted ≡ Err (refused (string_bytes text))

-- what was written of an end, and its status
abbrev pub IsTold : Unopened → Option (List ℕ) → Option (List ℕ) → ℕ → ℕ → Status → Type 0
IsTold NoMemory written written_then writes writes_then status = (status ≡ statuses.NoMemory) × (written_then ≡ written)
IsTold NotFetched written written_then writes writes_then status = (status ≡ statuses.NotFetched) × (written_then ≡ written)
IsTold TooLarge written written_then writes writes_then status = (status ≡ statuses.TooLarge) × (written_then ≡ written)
IsTold (Refused text) written written_then writes writes_then status =
    Tells (string_bytes text) statuses.Refused written written_then writes writes_then status × ((status ≡ statuses.Refused) ⊎ (status ≡ statuses.NotWritten))

-- an editor is opened where a machine is wanted, is that, and has the view of its document; else the end is the one that is wanted
abbrev pub Opens : {X Z : Type 0} {Y : X → Type 0} {W : Z → Type 0} → Meanings X Z Y W → Result Machine Outcome
    → Result (Editor X Z Y W) Unopened → Type 0
Opens meanings wanted (Ok editor) = (wanted ≡ Ok (machine_of meanings editor)) × IsCurrent meanings editor
Opens meanings wanted (Err fault) = IsEnd fault wanted
