use Rattle.editor_program.proofs.main.Given as goal

-- the ledger's tokens are those of the blank
abbrev pub ghosts-run_words : goal.ghosts-run_words
ghosts-run_words a = record { name = a.blank.name; parts = a.blank.parts }
