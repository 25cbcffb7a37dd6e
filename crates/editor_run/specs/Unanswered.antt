-- What was written of an answer that was not written whole.
use Rattle.std.specs.Prelude.{◌≡◌, ℕ, List, Option, take}
use Rattle.std.specs.Io.KnownBytes.{append_known}
use Rattle.ck_io.specs.Rose.{Rose}
use Rattle.ck_io.specs.Sent.{sent_of}
use Rattle.editor_run.specs.declared.run.Unanswered.{Unanswered}
use Rattle.editor_run.specs.declared.run.Unanswered.TheVariants.{NoMemory, NotWritten}

-- nothing where memory ran out, and else the first bytes that the failed write tells
abbrev pub SendsPart : Unanswered → Option (List ℕ) → Option (List ℕ) → List ℕ → Type 0
SendsPart NoMemory old new text = new ≡ old
SendsPart (NotWritten fault) old new text = new ≡ append_known old (take (sent_of fault) text)

-- a write failed, if it is that
abbrev pub Fails : Unanswered → ℕ → ℕ → Type 0
Fails NoMemory before now = Unit {0}
Fails (NotWritten fault) before now = Rose before now
