use Rattle.std.proofs.Common.{◌≡◌, map, take}
use Rattle.editor_run.proofs.opening.names_of.Given as goal

-- the names of those so far
abbrev pub invariant-loop-named : goal.invariant-loop-named
invariant-loop-named g l = l.names.items ≡ map (λ named. named.name) (take l.named-index l.objects)
