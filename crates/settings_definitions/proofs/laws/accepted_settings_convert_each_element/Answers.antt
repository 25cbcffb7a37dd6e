use Rattle.settings_definitions.proofs.Accepted.{accepted_convert}
use Rattle.settings_definitions.proofs.laws.accepted_settings_convert_each_element.Goals as goal

pub returns : goal.returns
returns c = accepted_convert
