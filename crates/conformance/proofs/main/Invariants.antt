use Rattle.conformance.proofs.main.Given as goal

-- the ledger's tokens are those of the blank
abbrev pub ghosts-run_real : goal.ghosts-run_real
ghosts-run_real a = record { name = a.blank.name; parts = a.blank.parts }
