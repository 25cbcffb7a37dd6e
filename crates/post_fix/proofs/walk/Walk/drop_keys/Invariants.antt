use Rattle.std.proofs.Common.{◌≡◌, ◌++◌, drop}
use Rattle.post_fix.specs.Dropped.{keys_dropped}
use Rattle.post_fix.proofs.walk.Walk.drop_keys.Given as goal

-- what was put down, and what is dropped of the keys to come, is what is dropped of all
abbrev pub invariant-loop-entry : goal.invariant-loop-entry
invariant-loop-entry l =
    l.out.items ++ keys_dropped l.self.schema.now l.names l.name (drop l.entry-index l.entry-items) l.target
    ≡ l.initial.out.items ++ keys_dropped l.self.schema.now l.names l.name l.attrs l.target
