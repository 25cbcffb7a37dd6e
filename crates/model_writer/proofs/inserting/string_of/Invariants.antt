use Rattle.std.proofs.Common.{◌≡◌, take, string_bytes, true}
use Rattle.std.specs.Prelude.{encode_utf8_all}
use Rattle.std.specs.Str.{all_scalars}
use Rattle.model_writer.proofs.inserting.string_of.Given as goal

abbrev pub invariant-loop-scalar : goal.invariant-loop-scalar
invariant-loop-scalar l = record {
  bytes : string_bytes l.string ≡ encode_utf8_all (take l.scalar-index l.scalars);
  fit : all_scalars (take l.scalar-index l.scalars) ≡ true;
}
