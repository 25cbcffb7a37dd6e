use Rattle.std.proofs.Common.{◌≡◌, take}
use Rattle.std.specs.List.{flat_map}
use Rattle.std.specs.Prelude.{option_copied}
use Rattle.edit_definitions.specs.Runs.{give_in}
use Rattle.model_writer.specs.Plans.{operations_in}
use Rattle.model_writer.proofs.attributes.give_all.Given as goal

-- the operations of the flat ranges so far
abbrev pub invariant-loop-part : goal.invariant-loop-part
invariant-loop-part l = flat_map (give_in l.tree l.key (option_copied l.new)) (take l.part-index l.parts) ≡ operations_in l.operations
