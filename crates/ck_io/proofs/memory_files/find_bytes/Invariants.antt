use Rattle.std.proofs.Common.{◌≡◌, drop}
use Rattle.ck_io.specs.HeldFiles.{held_as, files_of}
use Rattle.ck_io.proofs.memory_files.find_bytes.Given as goal

-- none of the files so far has the name
abbrev pub invariant-loop-key : goal.invariant-loop-key
invariant-loop-key l = held_as (files_of (drop l.key-index l.held)) l.name ≡ held_as (files_of l.held) l.name
