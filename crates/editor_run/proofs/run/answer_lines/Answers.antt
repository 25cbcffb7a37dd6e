use Rattle.std.proofs.Common.{◌≡◌, ◌+◌, length, refl, subst, sym, ◌∙◌, arith}
use Rattle.ck_io.specs.Rose.{Rose}
use Rattle.std.proofs.lemmas.Bool.Decides.{nat_tests}
use Rattle.ck_io.specs.Sent.{sent_of}
use Rattle.machine_definitions.specs.Lines.{lines_of}
use Rattle.editor_core.specs.AsMachine.{machine_of}
use Rattle.program_definitions.specs.Machine.{answer, answers}
use Rattle.editor_run.specs.Sent.{SendsUpTo, SendsFront}
use Rattle.editor_run.proofs.Sending.{sends_answer, sends_part_of_answer, sends_to_end, sends_so_far}
use Rattle.editor_core.specs.HandedIn.{meanings}
use Rattle.editor_run.proofs.run.answer_lines.Goals as goal

pub returns-in-Err-NotWritten-clause-tells : goal.returns-in-Err-NotWritten-clause-tells
returns-in-Err-NotWritten-clause-tells g c =
    let l = c.loop-rest in
    let begin = machine_of (meanings (λ b. (goal.Converter-dyn g (b.vtable, b.value)).gives b.value)
    (λ b. (goal.Fixer-dyn g (b.vtable, b.value)).fixes b.value)) c.args.editor.now in
    let machine = machine_of (meanings (λ b. (goal.Converter-dyn g (b.vtable, b.value)).gives b.value)
    (λ b. (goal.Fixer-dyn g (b.vtable, b.value)).fixes b.value)) l.editor in
    let written = g.S.Sink.written in
    let line = c.split_line.result.0.now in
    record {
      whole = λ memory other. absurd (other refl);
      part = sends_part_of_answer (written c.args.out.now) (written l.out) (written c.answer_line.new.out)
          (answers begin 1 (lines_of c.args.script.now)) machine l.number l.rest.now
          line c.split_line.result.1.now (answer machine l.number line).text (sent_of c.in-Err-NotWritten.field-0-0)
          c.split_line.ensures.lines l.invariant.sends refl (rw c.in-Err-NotWritten.field-0-is at c.in-Err-NotWritten.ensures.part);
      failed = λ e. subst (λ before. Rose before (g.S.Sink.faults c.answer_line.new.out)) l.invariant.calm
          (rw c.in-Err-NotWritten.field-0-is at c.in-Err-NotWritten.ensures.failed);
    }

pub returns-in-Err-NoMemory-clause-tells : goal.returns-in-Err-NoMemory-clause-tells
returns-in-Err-NoMemory-clause-tells g c =
    let l = c.loop-rest in
    let written = g.S.Sink.written in
    let all = answers (machine_of (meanings (λ b. (goal.Converter-dyn g (b.vtable, b.value)).gives b.value)
    (λ b. (goal.Fixer-dyn g (b.vtable, b.value)).fixes b.value)) c.args.editor.now) 1 (lines_of c.args.script.now) in
    record {
      whole = λ memory other. absurd (memory refl);
      part = subst (λ new. SendsFront (written c.args.out.now) new all) (sym (rw c.in-Err-NoMemory.field-0-is at c.in-Err-NoMemory.ensures.part))
          (sends_so_far (written c.args.out.now) (written l.out) all
          (answers (machine_of (meanings (λ b. (goal.Converter-dyn g (b.vtable, b.value)).gives b.value)
          (λ b. (goal.Fixer-dyn g (b.vtable, b.value)).fixes b.value)) l.editor) l.number (lines_of l.rest.now)) l.invariant.sends);
      failed = λ e. absurd cc;
    }

pub loop-rest-preserved : goal.loop-rest-preserved
loop-rest-preserved g c =
    let l = c.loop-rest in
    let begin = machine_of (meanings (λ b. (goal.Converter-dyn g (b.vtable, b.value)).gives b.value)
    (λ b. (goal.Fixer-dyn g (b.vtable, b.value)).fixes b.value)) c.args.editor.now in
    let machine = machine_of (meanings (λ b. (goal.Converter-dyn g (b.vtable, b.value)).gives b.value)
    (λ b. (goal.Fixer-dyn g (b.vtable, b.value)).fixes b.value)) l.editor in
    let written = g.S.Sink.written in
    let line = c.split_line.result.0.now in
    let all = answers begin 1 (lines_of c.args.script.now) in
    record {
      sends = subst (λ machine. SendsUpTo (written c.args.out.now) (written c.answer_line.new.out) all
          (answers machine (l.number + 1) (lines_of c.split_line.result.1.now)))
          (sym c.in-Ok.ensures.machine)
          (sends_answer (written c.args.out.now) (written l.out) (written c.answer_line.new.out) all machine l.number l.rest.now line c.split_line.result.1.now
          (answer machine l.number line).text c.split_line.ensures.lines l.invariant.sends refl c.in-Ok.ensures.written);
      current = c.answer_line.ensures.current;
      calm = c.in-Ok.ensures.calm ∙ l.invariant.calm;
      numbered = omega arith;
    }

pub returns-clause-tells : goal.returns-clause-tells
returns-clause-tells g c =
    let l = c.loop-rest in
    let begin = machine_of (meanings (λ b. (goal.Converter-dyn g (b.vtable, b.value)).gives b.value)
    (λ b. (goal.Fixer-dyn g (b.vtable, b.value)).fixes b.value)) c.args.editor.now in
    let machine = machine_of (meanings (λ b. (goal.Converter-dyn g (b.vtable, b.value)).gives b.value)
    (λ b. (goal.Fixer-dyn g (b.vtable, b.value)).fixes b.value)) l.editor in
    let written = g.S.Sink.written in
    let none : length l.rest.now ≡ 0 = grind (arith, nat_tests) in
    let all = answers begin 1 (lines_of c.args.script.now) in
    record {
      whole = λ memory other. (refl, sends_to_end (written c.args.out.now) (written l.out) all machine l.number l.rest.now none l.invariant.sends);
      part = sends_so_far (written c.args.out.now) (written l.out) all (answers machine l.number (lines_of l.rest.now)) l.invariant.sends;
      failed = λ e. absurd cc;
    }
