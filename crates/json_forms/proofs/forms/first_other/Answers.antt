use Rattle.json_forms.proofs.OtherFields.{first_other_found}
use Rattle.json_forms.proofs.forms.first_other.Goals as goal

pub returns : goal.returns
returns c = first_other_found c.args.names.now c.args.members.now.entries c.unnamed_key.result c.unnamed_key.ensures
