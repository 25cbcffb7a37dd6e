use Rattle.converter_definitions.proofs.Groups.{goes-on-to-its-group}
use Rattle.converter_definitions.proofs.laws.group_goes_on_behind_a_colon.Goals as goal

pub returns : goal.returns
returns c = goes-on-to-its-group
