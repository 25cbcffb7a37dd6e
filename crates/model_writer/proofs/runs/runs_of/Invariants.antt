use Rattle.std.proofs.Common.{length}
use Rattle.std.specs.Prelude.{option_copied}
use Rattle.edit_definitions.specs.Runs.{runs_of}
use Rattle.model_writer.proofs.Joined.{IsPartway}
use Rattle.model_writer.proofs.runs.runs_of.Given as goal

-- what is left makes the runs of all
abbrev pub invariant-nodes : goal.invariant-nodes
invariant-nodes l = IsPartway l.key (option_copied l.new) l.start l.end l.rest l.runs.items (runs_of l.key (option_copied l.new) l.start l.items)

abbrev pub decreases-nodes : goal.decreases-nodes
decreases-nodes l = length l.rest
