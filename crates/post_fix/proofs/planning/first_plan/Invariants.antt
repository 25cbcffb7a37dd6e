use Rattle.std.proofs.Common.{◌≡◌, ◌+◌, drop, []}
use Rattle.fix_definitions.specs.Settling.{first_plan}
use Rattle.post_fix.specs.Listed.{fixings_in}
use Rattle.post_fix.proofs.planning.first_plan.Given as goal

-- no edits were put down yet, and the first plan is that of the fixers that are left
abbrev pub invariant-loop-index : goal.invariant-loop-index
invariant-loop-index g l = record {
  none : l.out.items ≡ [];
  going : first_plan (l.index + 1)
      (fixings_in l.fn.schema (λ b. (goal.Fixer-dyn g (b.vtable, b.value)).fixes b.value) (drop l.index l.fn.entries)) l.fn.document.state.document
      ≡ first_plan 1 (fixings_in l.fn.schema (λ b. (goal.Fixer-dyn g (b.vtable, b.value)).fixes b.value) l.fn.entries) l.fn.document.state.document;
}
