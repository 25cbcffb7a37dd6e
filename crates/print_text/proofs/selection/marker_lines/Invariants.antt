use Rattle.std.proofs.Common.{◌≡◌, ◌++◌, string_bytes}
use Rattle.print_definitions.specs.SelectionText.{marker_lines}
use Rattle.print_text.proofs.selection.marker_lines.Given as goal

-- the lines so far and those still to come are all
abbrev pub invariant-loop-name : goal.invariant-loop-name
invariant-loop-name l = (string_bytes l.text ++ marker_lines l.fn.number l.name-iterator ≡ marker_lines l.fn.number l.fn.markers)
