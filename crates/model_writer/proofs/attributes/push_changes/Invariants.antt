use Rattle.std.proofs.Common.{◌≡◌, ◌++◌, take}
use Rattle.std.specs.Prelude.{option_copied}
use Rattle.edit_definitions.specs.Runs.{attribute_runs}
use Rattle.model_writer.specs.Plans.{operations_in}
use Rattle.model_writer.proofs.attributes.push_changes.Given as goal

-- the changes of the runs so far stand behind the other operations
abbrev pub invariant-loop-run : goal.invariant-loop-run
invariant-loop-run l = operations_in l.operations ≡ operations_in l.initial.operations ++ attribute_runs l.parent l.key (option_copied l.new)
    (take l.run-index l.runs)
