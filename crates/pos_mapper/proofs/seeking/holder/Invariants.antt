use Rattle.std.proofs.Common.{◌≡◌, drop}
use Rattle.pos_mapper.specs.Seeking.{holder}
use Rattle.pos_mapper.proofs.seeking.holder.Given as goal

-- the node is the one among those still to come
abbrev pub invariant-loop-index : goal.invariant-loop-index
invariant-loop-index l = holder (drop l.index l.fn.nodes) l.number l.index ≡ holder l.fn.nodes l.initial.number 0
