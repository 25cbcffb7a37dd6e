-- What the JSON value of a line is, from what the reader of texts says.
use Rattle.std.proofs.Common.{◌≡◌, ℕ, List, true, false, Some, None, Ok, Err, cond, refl, ap}
use Rattle.std.specs.Str.{IsUtf8, is_utf8}
use Rattle.std.proofs.lemmas.Str.{is_utf8-from_IsUtf8, IsUtf8-from_is_utf8}
use Rattle.serde_json.specs.Data.{Data}
use Rattle.serde_json.specs.Read.{read}
use Rattle.json_forms.specs.declared.fault.FormFault.TheVariants.{NotJson}
use Rattle.json_forms.specs.Form.{json_of, or_not_json}

pub json_found : (line : List ℕ) (d : Data) → IsUtf8 line → read line ≡ Some d → json_of line ≡ Ok d
unfolding json_of
json_found line d u e = rw (is_utf8-from_IsUtf8 line u) (ap or_not_json e)

pub json_absent : (line : List ℕ) → (IsUtf8 line → read line ≡ None) → json_of line ≡ Err NotJson
unfolding json_of
json_absent line none =
    elim (is_utf8 line) as (λ b. is_utf8 line ≡ b → cond b (or_not_json (read line)) (Err NotJson) ≡ Err NotJson) [
      | true ↦ λ u. ap or_not_json (none (IsUtf8-from_is_utf8 line u))
      | false ↦ λ _. refl
    ] refl
