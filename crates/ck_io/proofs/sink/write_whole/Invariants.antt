use Rattle.std.proofs.Common.{length, ◌-◌, ◌≡◌, ◌≤◌, take}
use Rattle.std.specs.Io.KnownBytes.{append_known}
use Rattle.ck_io.proofs.sink.write_whole.Given as goal

-- the first `sent` bytes were taken, and no write failed
abbrev pub invariant-loop-sent : goal.invariant-loop-sent
invariant-loop-sent g l =
    let sink = g.S.Sink in
    record {
      within : l.sent ≤ length l.bytes;
      grown : sink.written l.out ≡ append_known (sink.written l.fn.out) (take l.sent l.bytes);
      unfailed : sink.faults l.out ≡ sink.faults l.fn.out;
    }

abbrev pub decreases-loop-sent : goal.decreases-loop-sent
decreases-loop-sent g l = length l.bytes - l.sent
