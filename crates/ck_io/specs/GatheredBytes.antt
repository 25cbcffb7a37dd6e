-- A sink in memory.
use Rattle.std.specs.Prelude.{ℕ, List, Bool}
use Rattle.ck_io.specs.PlannedCalls.{PlannedCalls}

-- how many bytes it takes in a call at most, what it has taken, the calls, and whether the last one found no memory
pub record GatheredBytes : Type 0 where
  pub most : ℕ
  pub bytes : List ℕ
  pub calls : PlannedCalls
  pub ran_out : Bool
