use Rattle.std.proofs.Common.{◌≡◌, ◌≤◌, ◌+◌, length}
use Rattle.machine_definitions.specs.Lines.{lines_of}
use Rattle.editor_core.specs.AsMachine.{machine_of, IsCurrent}
use Rattle.program_definitions.specs.Machine.{answers}
use Rattle.editor_run.specs.Sent.{SendsUpTo}
use Rattle.editor_core.specs.HandedIn.{meanings}
use Rattle.editor_run.proofs.run.answer_lines.Given as goal

-- all answers were written but those to the lines that are left, and no write has failed
abbrev pub invariant-loop-rest : goal.invariant-loop-rest
invariant-loop-rest g l = record {
  sends : SendsUpTo (g.S.Sink.written l.initial.out) (g.S.Sink.written l.out)
      (answers (machine_of (meanings (λ b. (goal.Converter-dyn g (b.vtable, b.value)).gives b.value)
      (λ b. (goal.Fixer-dyn g (b.vtable, b.value)).fixes b.value)) l.initial.editor) 1 (lines_of l.script))
      (answers (machine_of (meanings (λ b. (goal.Converter-dyn g (b.vtable, b.value)).gives b.value)
      (λ b. (goal.Fixer-dyn g (b.vtable, b.value)).fixes b.value)) l.editor) l.number (lines_of l.rest));
  current : IsCurrent (meanings (λ b. (goal.Converter-dyn g (b.vtable, b.value)).gives b.value) (λ b. (goal.Fixer-dyn g (b.vtable, b.value)).fixes b.value))
      l.editor;
  calm : g.S.Sink.faults l.out ≡ g.S.Sink.faults l.initial.out;
  numbered : l.number + length l.rest ≤ length l.script + 1;
}

abbrev pub decreases-loop-rest : goal.decreases-loop-rest
decreases-loop-rest g l = length l.rest
