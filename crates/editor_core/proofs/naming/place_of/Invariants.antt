use Rattle.std.proofs.Common.{◌≡◌, drop}
use Rattle.editor_core.specs.HandedIn.{place_from}
use Rattle.editor_core.proofs.naming.place_of.Given as goal

abbrev pub invariant-loop-place : goal.invariant-loop-place
invariant-loop-place g l = place_from l.place l.fn.name (drop l.place l.fn.objects) ≡ place_from 0 l.fn.name l.fn.objects
