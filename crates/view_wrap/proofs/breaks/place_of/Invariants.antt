use Rattle.std.proofs.Common.{◌≡◌, ◌+◌, drop}
use Rattle.view_wrap.specs.Cut.{place_of}
use Rattle.view_wrap.proofs.breaks.place_of.Given as goal

-- the place is that in the nodes still to come, behind those that were passed
abbrev pub invariant-loop-node : goal.invariant-loop-node
invariant-loop-node l =
    record {
      index : l.index ≡ l.node-index;
      place : place_of l.initial.rest l.node-items
          ≡ (l.node-index + (place_of l.rest (drop l.node-index l.node-items)).0, (place_of l.rest (drop l.node-index l.node-items)).1);
    }
