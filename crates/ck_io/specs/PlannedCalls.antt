-- The calls of a fake, of which some are to fail.
use Rattle.std.specs.Prelude.{◌==◌, ℕ, ◌+◌, ◌-◌, ◌^◌, min, Bool, List, if◌then◌else◌}
use Rattle.std.specs.List.{list_any}

-- the numbers, from 1, of the calls that are to fail; how many calls were made, and how many of them failed
pub record PlannedCalls : Type 0 where
  pub failing : List ℕ
  pub made : ℕ
  pub failed : ℕ

-- a count after one more, which stops at 2 ^ 64 - 1
abbrev pub one_more : ℕ → ℕ
one_more count = min (count + 1) (2 ^ 64 - 1)

-- whether the next call is to fail
abbrev pub next_fails : PlannedCalls → Bool
next_fails calls = list_any (λ number. number == one_more calls.made) calls.failing

-- one more call was made, and failed or not
abbrev pub after_call : PlannedCalls → Bool → PlannedCalls
after_call calls fails = record calls {
  made = one_more calls.made;
  failed = if fails then one_more calls.failed else calls.failed;
}
