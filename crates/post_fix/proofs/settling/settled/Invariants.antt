use Rattle.std.proofs.Common.{◌≡◌}
use Rattle.schema_definitions.specs.Allowed.{is_registered}
use Rattle.fix_definitions.specs.Settling.{settled_in, settle}
use Rattle.model_doc.specs.Held.{present}
use Rattle.record_definitions.specs.Operates.{edits_of_rounds}
use Rattle.record_definitions.specs.Traced.{IsPartway}
use Rattle.post_fix.specs.Listed.{fixings_of}
use Rattle.post_fix.proofs.settling.settled.Given as goal

-- the rounds that are left make of the present state what all make of the first one, and those before them have left the new records
abbrev pub invariant-loop-left : goal.invariant-loop-left
invariant-loop-left g l = record {
  going : settled_in (is_registered l.fn.schema)
      (fixings_of l.fn.schema (λ b. (goal.Fixer-dyn g (b.vtable, b.value)).fixes b.value) l.fn.fixers) l.fn.rounds l.left l.document.state
      ≡ settle (is_registered l.fn.schema)
      (fixings_of l.fn.schema (λ b. (goal.Fixer-dyn g (b.vtable, b.value)).fixes b.value) l.fn.fixers) l.fn.rounds l.initial.document.state;
  traced : IsPartway (is_registered l.fn.schema)
      (edits_of_rounds (is_registered l.fn.schema) (fixings_of l.fn.schema (λ b. (goal.Fixer-dyn g (b.vtable, b.value)).fixes b.value) l.fn.fixers)
      l.fn.rounds l.initial.document.state)
      (edits_of_rounds (is_registered l.fn.schema) (fixings_of l.fn.schema (λ b. (goal.Fixer-dyn g (b.vtable, b.value)).fixes b.value) l.fn.fixers)
      l.left l.document.state)
      l.initial.batch.records (present l.initial.document) l.batch.records (present l.document);
  selection : l.batch.selection ≡ l.initial.batch.selection;
  kept : l.document.kept ≡ l.initial.document.kept;
}

-- each round leaves one less
abbrev pub decreases-loop-left : goal.decreases-loop-left
decreases-loop-left g l = l.left
