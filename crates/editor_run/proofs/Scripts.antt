-- The outcome of a script, by what is held under its name.
use Rattle.std.proofs.Common.{◌≡◌, ℕ, ◌<◌, ◌≤◌, List, length, Bool, true, false, if◌then◌else◌, Option, Some, None, IfSome, IsSomeAnd, nat_lt, sym, ap, ◌∙◌}
use Rattle.std.proofs.Common.{arith}
use Rattle.std.proofs.lemmas.Bool.Decides.{nat_tests}
use Rattle.machine_definitions.specs.Lines.{lines_of}
use Rattle.program_definitions.specs.Machine.{Machine, answers}
use Rattle.program_definitions.specs.Output.{Outcome, silent, script_outcome, most_script_bytes}

abbrev by_size : Machine → List ℕ → Bool → Outcome
by_size machine script large = if large then silent 6 else record { bytes = answers machine 1 (lines_of script); status = 0 }

-- one that is held and isn't over its limit
fits_so : (machine : Machine) (script : List ℕ) → length script ≤ most_script_bytes → script_outcome machine (Some script)
    ≡ record { bytes = answers machine 1 (lines_of script); status = 0 }
fits_so machine script few =
    let small : nat_lt most_script_bytes (length script) ≡ false = grind (arith, nat_tests) in
    ap (by_size machine script) small

pub script_fits : (machine : Machine) (script name : List ℕ) (holds : Option (List ℕ → Option (List ℕ))) → length script ≤ most_script_bytes
    → IfSome holds (λ held. held name ≡ Some script)
    → IfSome holds (λ held. script_outcome machine (held name) ≡ record { bytes = answers machine 1 (lines_of script); status = 0 })
script_fits machine script name None few found = tt
script_fits machine script name (Some held) few found = ap (script_outcome machine) found ∙ fits_so machine script few

-- one that is held and is over it
large_so : (machine : Machine) (found : Option (List ℕ)) → IsSomeAnd found (λ script. most_script_bytes < length script) → script_outcome machine found
    ≡ silent 6
large_so machine (Some script) many =
    let large : nat_lt most_script_bytes (length script) ≡ true = grind (arith, nat_tests) in
    ap (by_size machine script) large
large_so machine None many = absurd many

pub script_large : (machine : Machine) (name : List ℕ) (holds : Option (List ℕ → Option (List ℕ)))
    → IfSome holds (λ held. IsSomeAnd (held name) (λ script. most_script_bytes < length script))
    → IfSome holds (λ held. script_outcome machine (held name) ≡ silent 6)
script_large machine name None many = tt
script_large machine name (Some held) many = large_so machine (held name) many

-- and one that isn't held
pub script_missing : (machine : Machine) (name : List ℕ) (holds : Option (List ℕ → Option (List ℕ))) (Calm : Type 0)
    → IfSome holds (λ held. Calm → held name ≡ None) → IfSome holds (λ held. Calm → script_outcome machine (held name) ≡ silent 4)
script_missing machine name None Calm none = tt
script_missing machine name (Some held) Calm none = λ calm. ap (script_outcome machine) (none calm)
