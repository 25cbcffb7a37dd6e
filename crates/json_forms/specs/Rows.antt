-- A word for worked rows.
use Rattle.std.specs.Prelude.{ℕ, List, Result}
use Rattle.serde_json.specs.Data.{Data}
use Rattle.json_forms.specs.declared.fault.FormFault.{FormFault}
use Rattle.json_forms.specs.Form.{◌>>=◌, json_of}

-- what a reader makes of the JSON value of a line
abbrev pub read_by : {A : Type 0} → (Data → Result A FormFault) → List ℕ → Result A FormFault
read_by reader line = json_of line >>= reader
