-- Why a run ends with a status of its own.
use Rattle.std.proofs.Common.{◌≡◌, ◌≢◌, ◌⊎◌, inl, inr, ℕ, List, length, Bool, true, false, if◌then◌else◌, Option, Some, None, Result, Ok, Err, IfSome, nat_lt}
use Rattle.std.proofs.Common.{refl, sym, ap, ◌∙◌, arith}
use Rattle.ck_base.specs.declared.faults.Refusal.{Refusal}
use Rattle.document_definitions.specs.Document.{Document}
use Rattle.settings_definitions.specs.Settings.{Settings}
use Rattle.settings_definitions.specs.declared.fault.SettingsFault.{SettingsFault}
use Rattle.step_definitions.specs.Step.{opened}
use Rattle.program_definitions.specs.Product.{Product}
use Rattle.program_definitions.specs.Task.{Task, run, check, task_of}
use Rattle.program_definitions.specs.Machine.{Config, Machine, answers}
use Rattle.program_definitions.specs.Output.{silent, finished, done, script_outcome, begun, machine_of, machine_from, config_of, outcome_of, output}
use Rattle.program_definitions.specs.Output.{most_script_bytes, most_settings_bytes, settings_in}
use Rattle.machine_definitions.specs.Lines.{lines_of}
use Rattle.editor_run.specs.declared.run.Status.{Status}
use Rattle.editor_run.specs.declared.run.Status.TheVariants.{Finished, Refused, BadWords, NoMemory, NotFetched, NotWritten, TooLarge}
use Rattle.editor_run.specs.Status.{status_code}
use Rattle.editor_run.specs.Ends.{Calls, IsFetched, IsOutcome, Ends, IsMissing, IsTelling}

-- a script ends with 4 only where it isn't held
script_four : (machine : Machine) (found : Option (List ℕ)) → (script_outcome machine found).status ≡ 4 → found ≡ None
script_four machine None e = refl
script_four machine (Some script) e = go (nat_lt most_script_bytes (length script)) e
  where
    go : (large : Bool) → (if large then silent 6 else record { bytes = answers machine 1 (lines_of script); status = 0 }).status ≡ 4 → Some script ≡ None
    go true e = absurd (omega (arith, e))
    go false e = absurd (omega (arith, e))

module _ (product : Product) (held : List ℕ → Option (List ℕ)) (task : Task) where
  abbrev IsDone : Type 0
  IsDone = (machine : Machine) × ((done held task machine).status ≡ 4)

  begun_four : (config : Config) (made : Result Document Refusal) → (finished held task (begun config made)).status ≡ 4 → IsDone
  begun_four config (Ok document) e = (_, e)
  begun_four config (Err refusal) e = absurd (omega (arith, e))

  settings_four : (read : Result Settings SettingsFault) → (finished held task (machine_of product read)).status ≡ 4 → IsDone
  settings_four (Ok settings) e = begun_four (config_of product settings) (opened (config_of product settings).terms settings.start) e
  settings_four (Err fault) e = absurd (omega (arith, e))

  bytes_four : (found : Option (List ℕ)) → (finished held task (machine_from product found)).status ≡ 4 → (found ≡ None) ⊎ IsDone
  bytes_four None e = inl refl
  bytes_four (Some bytes) e = go (nat_lt most_settings_bytes (length bytes)) e
    where
      go : (large : Bool) → (finished held task (if large then Err (silent 6) else machine_of product (settings_in product bytes))).status
          ≡ 4 → (Some bytes ≡ None) ⊎ IsDone
      go true e = absurd (omega (arith, e))
      go false e = inr (settings_four (settings_in product bytes) e)

-- a run ends with 4 only where a file that the words name isn't held
four_missing : (product : Product) (held : List ℕ → Option (List ℕ)) (asked : Option Task) → (outcome_of product held asked).status ≡ 4
    → IsMissing (Some held) asked
four_missing product held None e = absurd (omega (arith, e))
four_missing product held (Some (run settings script)) e = go (bytes_four product held (run settings script) (held settings) e)
  where
    go : (held settings ≡ None) ⊎ IsDone product held (run settings script) → IsMissing (Some held) (Some (run settings script))
    go (inl none) = inl none
    go (inr machine) = inr (script_four machine.0 (held script) machine.1)
four_missing product held (Some (check settings)) e = go (bytes_four product held (check settings) (held settings) e)
  where
    go : (held settings ≡ None) ⊎ IsDone product held (check settings) → IsMissing (Some held) (Some (check settings))
    go (inl none) = none
    go (inr machine) = absurd (omega (arith, machine.1))

-- the status by its code
pub fetched_four : (status : Status) → status_code status ≡ 4 → status ≡ NotFetched
fetched_four NotFetched e = refl
fetched_four Finished e = absurd (omega (arith, e))
fetched_four Refused e = absurd (omega (arith, e))
fetched_four BadWords e = absurd (omega (arith, e))
fetched_four NoMemory e = absurd (omega (arith, e))
fetched_four NotWritten e = absurd (omega (arith, e))
fetched_four TooLarge e = absurd (omega (arith, e))

no_memory : NotFetched ≢ NoMemory
no_memory e = absurd cc

not_written : NotFetched ≢ NotWritten
not_written e = absurd cc

-- and so a run whose fetches have not failed
pub run_missing : (calls : Calls) (product : Product) (words : List (List ℕ)) (status : Status) → Ends calls (λ held. output product words held) status
    → status ≡ NotFetched → IsFetched calls → IsMissing calls.held (task_of words)
run_missing calls product words status ends e calm = go calls.held ends.output (ends.missing e calm)
  where
    go : (holds : Option (List ℕ → Option (List ℕ)))
        → IfSome holds (λ held. status ≢ NoMemory → status ≢ NotWritten → (status ≡ NotFetched → IsFetched calls)
        → IsOutcome calls.written calls.written_then (status_code status) (output product words held))
        → IsTelling holds → IsMissing holds (task_of words)
    go None out told = absurd told
    go (Some held) out told =
        four_missing product held (task_of words)
        (sym (out (λ m. absurd (no_memory (sym e ∙ m))) (λ w. absurd (not_written (sym e ∙ w))) (λ f. calm)).0 ∙ ap status_code e)
