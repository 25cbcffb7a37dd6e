-- A position that is read isn't empty.
use Rattle.std.proofs.Common.{◌≡◌, ◌≢◌, ℕ, List, [], ◌∷◌, Bool, true, false, Some, Result, Ok, Err, length, arith, if◌then◌else◌, refl, ◌∙◌, option_and_then}
use Rattle.serde_json.specs.Data.{Data, Items}
use Rattle.serde_json.specs.View.{items_view}
use Rattle.serde_json.specs.declared.value.Value.{Value}
use Rattle.json_values.specs.Values.{is_empty_list}
use Rattle.serde_json.specs.Find.{get, as_array}
use Rattle.json_forms.specs.declared.fault.FormFault.{FormFault}
use Rattle.json_forms.specs.declared.fault.FormFault.TheVariants.{BadField}
use Rattle.json_forms.specs.Form.{◌>>=◌, or_bad, offsets_at, position_length_at, position_field, field_path, is_position_length}

-- what a step that gives something went through
step : {A B : Type 0} (r : Result A FormFault) (next : A → Result B FormFault) (b : B) → (r >>= next) ≡ Ok b → (a : A) × (next a ≡ Ok b)
step (Ok a) next b e = (a, e)
step (Err fault) next b e = absurd cc

length_some : (path numbers read : List ℕ) → position_length_at path numbers ≡ Ok read → read ≢ []
unfolding position_length_at
length_some path [] read e f = absurd cc
length_some path (n ∷ numbers) read e f = go (is_position_length (n ∷ numbers)) e
  where
    go : (t : Bool) → (if t then Ok (n ∷ numbers) else Err (BadField path)) ≡ Ok read → ⊥
    go true e = (let same : n ∷ numbers ≡ read = cc in let none : n ∷ numbers ≡ [] = same ∙ f in cc)
    go false e = absurd cc

pub position_some : (path name : List ℕ) (d : Data) (read : List ℕ) → position_field path name d ≡ Ok read → read ≢ []
unfolding position_field
position_some path name d read e =
    let a = step (or_bad (field_path path name) (option_and_then as_array (get name d))) (λ (items : Items). offsets_at (field_path path name) 0 items
    >>= position_length_at (field_path path name)) read e in
    let b = step (offsets_at (field_path path name) 0 a.0) (position_length_at (field_path path name)) read a.1 in
    length_some (field_path path name) b.0 read b.1

-- whether a list of values is empty
pub empty_view : (values : List Value) → length values ≡ 0 → is_empty_list (Some (items_view values)) ≡ true
empty_view [] e = refl
empty_view (value ∷ values) e = absurd (omega (arith, e))

pub full_view : (values : List Value) → length values ≢ 0 → is_empty_list (Some (items_view values)) ≡ false
full_view [] some = absurd (some refl)
full_view (value ∷ values) some = refl
