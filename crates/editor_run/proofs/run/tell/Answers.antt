use Rattle.std.proofs.Common.{rules, refl}
use Rattle.editor_run.proofs.Sending.{front_of, whole_front}
use Rattle.editor_run.proofs.run.tell.Goals as goal

pub returns-in-Ok-clause-tells : goal.returns-in-Ok-clause-tells
returns-in-Ok-clause-tells g c = record {
  whole = λ memory other. (refl, c.in-Ok.ensures.whole);
  part = whole_front (g.S.Sink.written c.args.out.now) (g.S.Sink.written c.write_whole.new.out) c.args.text.now c.in-Ok.ensures.whole;
  failed = λ e. absurd (c.requires e);
}

pub returns-in-Err-clause-tells : goal.returns-in-Err-clause-tells
returns-in-Err-clause-tells g c = record {
  whole = λ memory other. absurd (other refl);
  part = front_of (g.S.Sink.written c.args.out.now) (g.S.Sink.written c.write_whole.new.out) c.args.text.now _ c.in-Err.ensures.part;
  failed = search rules;
}
