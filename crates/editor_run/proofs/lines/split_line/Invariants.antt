use Rattle.std.proofs.Common.{◌≡◌, take, drop}
use Rattle.machine_definitions.specs.Lines.{lines_of}
use Rattle.editor_run.proofs.FirstLine.{in_front}
use Rattle.editor_run.proofs.lines.split_line.Given as goal

-- no line feed so far
abbrev pub invariant-loop-index : goal.invariant-loop-index
invariant-loop-index l = in_front (take l.index l.text) (lines_of (drop l.index l.text)) ≡ lines_of l.text
