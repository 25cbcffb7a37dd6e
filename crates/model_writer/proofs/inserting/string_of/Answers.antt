use Rattle.std.proofs.Common.{string_bytes, take}
use Rattle.std.proofs.lemmas.List.{take_all}
use Rattle.model_writer.proofs.Spelled.{next_bytes, next_scalar, read_again}
use Rattle.model_writer.proofs.inserting.string_of.Goals as goal

pub loop-scalar-preserved : goal.loop-scalar-preserved
loop-scalar-preserved c =
    let all = c.args.scalars.now in
    record {
      bytes = next_bytes all c.loop-scalar.scalar-index c.scalar-item.result (string_bytes c.loop-scalar.string) (string_bytes c.push_scalar.new.string)
          c.loop-scalar-test.true c.scalar-item.is c.loop-scalar.invariant.bytes c.in_ok-push_scalar.ensures.bytes;
      fit = next_scalar all c.loop-scalar.scalar-index c.scalar-item.result c.loop-scalar-test.true c.scalar-item.is c.push_scalar.ensures.scalar
          c.loop-scalar.invariant.fit;
    }

pub returns : goal.returns
returns c =
    let all = c.args.scalars.now in
    read_again (string_bytes c.loop-scalar.string) (take c.loop-scalar.scalar-index all) all c.loop-scalar.invariant.bytes c.loop-scalar.invariant.fit
    (take_all c.loop-scalar.scalar-index all c.loop-scalar-test.false)
