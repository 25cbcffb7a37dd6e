-- How much of a piece a sink took before it failed.
use Rattle.std.specs.Prelude.{ℕ}
use Rattle.ck_io.specs.declared.sink.WholeFault.{WholeFault}
use Rattle.ck_io.specs.declared.sink.WholeFault.TheVariants.{Failed}

-- how many first bytes of the piece were sent
abbrev pub sent_of : WholeFault → ℕ
sent_of (Failed sent) = sent
