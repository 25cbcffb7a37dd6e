-- The statuses of the program.
use Rattle.std.specs.Prelude.{ℕ, Bool, nat_le}
use Rattle.editor_run.specs.declared.run.Status.{Status}
use Rattle.editor_run.specs.declared.run.Status.TheVariants.{Finished, Refused, BadWords, NoMemory, NotFetched, NotWritten, TooLarge}

-- the number of each status, with which the process ends
abbrev pub status_code : Status → ℕ
status_code Finished = 0
status_code Refused = 1
status_code BadWords = 2
status_code NoMemory = 3
status_code NotFetched = 4
status_code NotWritten = 5
status_code TooLarge = 6

-- the numbers that a run may end with
abbrev pub is_status : ℕ → Bool
is_status status = nat_le status 6
