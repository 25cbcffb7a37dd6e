-- What the answer to a line is, in the words of the machine.
use Rattle.std.specs.Prelude.{◌≡◌, Result, Ok, Err, String, string_bytes}
use Rattle.std.specs.Global.{Global}
use Rattle.editor_core.specs.declared.editor.Editor.{Editor}
use Rattle.editor_core.specs.HandedIn.{Meanings}
use Rattle.editor_core.specs.AsMachine.{machine_of}
use Rattle.program_definitions.specs.Machine.{Machine, Answered}

-- the text is the one that is wanted, and so is the machine then
abbrev pub IsAnswered : {E : Type 0} → Answered → Machine → Result (String Global) E → Type 0
IsAnswered wanted machine (Ok text) = (string_bytes text ≡ wanted.text) × (machine ≡ wanted.machine)
IsAnswered wanted machine (Err fault) = Unit {0}

-- the same of the machine that an editor is, by how it is answered
abbrev pub IsAnsweredBy : {X Z : Type 0} {Y : X → Type 0} {W : Z → Type 0} {E : Type 0} → Meanings X Z Y W → (Machine → Answered)
    → Editor X Z Y W → Editor X Z Y W → Result (String Global) E → Type 0
IsAnsweredBy meanings answer old new result = IsAnswered (answer (machine_of meanings old)) (machine_of meanings new) result
