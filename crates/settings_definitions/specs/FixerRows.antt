-- What is read of a JSON text, for worked rows.
use Rattle.std.specs.Prelude.{ℕ, List, [], Result}
use Rattle.serde_json.specs.Find.{as_array}
use Rattle.json_forms.specs.declared.fault.FormFault.{FormFault}
use Rattle.json_forms.specs.Form.{◌>>=◌, or_bad, json_of}
use Rattle.fix_definitions.specs.declared.plan.FixerPlan.{FixerPlan}
use Rattle.settings_definitions.specs.FixerForm.{fixers_at}

-- a list of fixers
abbrev pub fixers_in : List ℕ → Result (List FixerPlan) FormFault
fixers_in text = do
  d ← json_of text
  items ← or_bad [] (as_array d)
  fixers_at [] 0 items
