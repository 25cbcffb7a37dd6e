-- The first key among an object's members that isn't named is the first of its keys that a search finds.
use Rattle.std.proofs.Common.{◌≡◌, ℕ, List, [], ◌∷◌, true, false, not, cond, Option, Some, None, option_map, map, String, string_bytes, Global, refl, sym, ap}
use Rattle.std.proofs.Common.{◌∙◌, find, ◌||◌}
use Rattle.std.specs.Option.{option_copied}
use Rattle.std.specs.Borrow.{Bor}
use Rattle.std.specs.Str.{bytes_eq}
use Rattle.std.specs.List.{list_any}
use Rattle.serde_json.specs.declared.value.Value.{Value}
use Rattle.serde_json.specs.View.{members_view}
use Rattle.json_forms.specs.Form.{first_other}
use Rattle.json_forms.specs.OtherFields.{is_other}

any_named : (names : List (Bor (List ℕ))) (key : List ℕ) → list_any (λ name. bytes_eq name key) (map (λ name. name.now) names)
    ≡ list_any (λ name. bytes_eq name.now key) names
any_named [] key = refl
any_named (name ∷ names) key = ap (λ b. bytes_eq name.now key || b) (any_named names key)

-- what the search over the keys finds
other_key : (names : List (Bor (List ℕ))) (entries : List (String Global × Value)) → first_other (map (λ name. name.now) names) (members_view entries)
    ≡ option_map string_bytes (find (is_other names) (map (λ entry. entry.0) entries))
other_key names [] = refl
other_key names (e ∷ rest) =
    ap (λ b. cond b (first_other (map (λ name. name.now) names) (members_view rest)) (Some (string_bytes e.0))) (any_named names (string_bytes e.0))
    ∙ elim (list_any (λ name. bytes_eq name.now (string_bytes e.0)) names) as (λ b. cond b (first_other (map (λ name. name.now) names) (members_view rest))
    (Some (string_bytes e.0)) ≡ option_map string_bytes (cond (not b) (Some e.0) (find (is_other names) (map (λ entry. entry.0) rest)))) [
      | true ↦ other_key names rest
      | false ↦ refl
    ]

read_copied : (found : Option (Bor (String Global))) → option_map (λ key. string_bytes key.now) found ≡ option_map string_bytes (option_copied found)
read_copied None = refl
read_copied (Some key) = refl

pub first_other_found : (names : List (Bor (List ℕ))) (entries : List (String Global × Value)) (found : Option (Bor (String Global))) → option_copied found
    ≡ find (is_other names) (map (λ entry. entry.0) entries) → option_map (λ key. string_bytes key.now) found
    ≡ first_other (map (λ name. name.now) names) (members_view entries)
first_other_found names entries found e = read_copied found ∙ ap (option_map string_bytes) e ∙ sym (other_key names entries)
