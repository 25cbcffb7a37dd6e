-- The whole output of the program: the bytes that it writes and its status, from its words and the files that are held.
use Rattle.std.specs.Prelude.{ℕ, List, [], ◌++◌, nat_lt, Option, Some, None, Result, Ok, Err, if◌then◌else◌, codes, length}
use Rattle.ck_base.specs.declared.faults.Refusal.{Refusal}
use Rattle.settings_definitions.specs.Texts.{settings_text}
use Rattle.document_definitions.specs.Document.{Document}
use Rattle.machine_definitions.specs.Lines.{lines_of}
use Rattle.machine_definitions.specs.Refusals.{refusal_text}
use Rattle.settings_definitions.specs.Settings.{Settings, settings_of}
use Rattle.settings_definitions.specs.declared.fault.SettingsFault.{SettingsFault}
use Rattle.step_definitions.specs.Step.{opened}
use Rattle.program_definitions.specs.Product.{Product, names_of}
use Rattle.program_definitions.specs.Converters.{conversion_of}
use Rattle.program_definitions.specs.Fixers.{terms_by}
use Rattle.program_definitions.specs.Machine.{Config, Machine, beginning, answers}
use Rattle.program_definitions.specs.Task.{Task, run, check, settings_name, task_of}

-- what the program writes, and its status
pub record Outcome : Type 0 where
  pub bytes : List ℕ
  pub status : ℕ

-- nothing is written
abbrev pub silent : ℕ → Outcome
silent status = record { bytes = []; status = status }

-- the settings are refused, and this is written
abbrev pub refused : List ℕ → Outcome
refused text = record { bytes = text; status = 1 }

-- what is written where the words are of no form
unfoldable pub usage : List ℕ
usage = codes "usage: ckcore run SETTINGS " ++ codes "SCRIPT | check SETTINGS\n"

-- what is written where the settings are accepted by `check`
unfoldable pub accepted_settings : List ℕ
accepted_settings = codes "settings ok\n"

-- what is written where the settings are refused
unfoldable pub refused_settings : SettingsFault → List ℕ
refused_settings fault = codes "settings refused " ++ (settings_text fault ++ codes "\n")

-- what is written where the document that the settings start with is refused
unfoldable pub refused_start : Refusal → List ℕ
refused_start refusal = codes "settings refused " ++ (codes "BadStart " ++ (refusal_text refusal ++ codes "\n"))

-- the most bytes that a settings file may have
abbrev pub most_settings_bytes : ℕ
most_settings_bytes = 1048576

-- the most bytes that a script may have
abbrev pub most_script_bytes : ℕ
most_script_bytes = 67108864

-- the answers to a script on an opened document: a script that isn't held gives 4, and one over its limit 6
abbrev pub script_outcome : Machine → Option (List ℕ) → Outcome
script_outcome machine None = silent 4
script_outcome machine (Some script) = if nat_lt most_script_bytes (length script) then silent 6
    else record { bytes = answers machine 1 (lines_of script); status = 0 }

-- what is done with an opened document
abbrev pub done : (List ℕ → Option (List ℕ)) → Task → Machine → Outcome
done held (run settings script) machine = script_outcome machine (held script)
done held (check settings) machine = record { bytes = accepted_settings; status = 0 }

-- what settings say of a document's editing and showing, where a product adds this
abbrev pub config_of : Product → Settings → Config
config_of product settings = record {
  terms = terms_by product.fixers settings.rules settings.fixers settings.rounds;
  conversion = conversion_of product.converters settings;
}

-- the machine on the document that is opened, or how the run ends where that is refused
abbrev pub begun : Config → Result Document Refusal → Result Machine Outcome
begun config (Ok document) = Ok (beginning config document)
begun config (Err refusal) = Err (refused (refused_start refusal))

-- the machine of settings, or how the run ends where these are refused
abbrev pub machine_of : Product → Result Settings SettingsFault → Result Machine Outcome
machine_of product (Ok settings) = begun (config_of product settings) (opened (config_of product settings).terms settings.start)
machine_of product (Err fault) = Err (refused (refused_settings fault))

-- the settings of a file's bytes, where a product adds this
abbrev pub settings_in : Product → List ℕ → Result Settings SettingsFault
settings_in product bytes = settings_of (names_of product.converters) (names_of product.fixers) bytes

-- the machine of the bytes of a settings file: one that isn't held gives 4, and one over its limit 6
abbrev pub machine_from : Product → Option (List ℕ) → Result Machine Outcome
machine_from product None = Err (silent 4)
machine_from product (Some bytes) =
    if nat_lt most_settings_bytes (length bytes) then Err (silent 6) else machine_of product (settings_in product bytes)

-- a task on a machine, or the end of the run that has none
abbrev pub finished : (List ℕ → Option (List ℕ)) → Task → Result Machine Outcome → Outcome
finished held task (Ok machine) = done held task machine
finished held task (Err outcome) = outcome

-- a task with the files that are held so
abbrev pub task_outcome : Product → (List ℕ → Option (List ℕ)) → Task → Outcome
task_outcome product held task = finished held task (machine_from product (held (settings_name task)))

-- words of no form are answered by the usage line and 2, others by what their task gives
abbrev pub outcome_of : Product → (List ℕ → Option (List ℕ)) → Option Task → Outcome
outcome_of product held None = record { bytes = usage; status = 2 }
outcome_of product held (Some task) = task_outcome product held task

-- the output of the program on these words, where a product adds this and files are held so
abbrev pub output : Product → List (List ℕ) → (List ℕ → Option (List ℕ)) → Outcome
output product words held = outcome_of product held (task_of words)
