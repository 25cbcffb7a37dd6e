use Rattle.std.proofs.Common.{◌≡◌, ◌++◌, ◌+◌, drop, string_bytes}
use Rattle.print_definitions.specs.Marks.{marked}
use Rattle.print_text.specs.Ends.{places_of, marks_in}
use Rattle.print_text.proofs.marks.Marks.push_marked.Given as goal

-- what is there and what is still to come are the whole
abbrev pub invariant-loop-scalar : goal.invariant-loop-scalar
invariant-loop-scalar l = record {
  offset : l.offset ≡ l.initial.offset + l.scalar-index;
  text : string_bytes l.out ++ marked (marks_in l.brackets (places_of l.self)) l.offset (drop l.scalar-index l.scalars)
      ≡ string_bytes l.initial.out ++ marked (marks_in l.brackets (places_of l.self)) l.initial.offset l.scalars;
}
