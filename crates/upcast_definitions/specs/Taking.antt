-- What the rules make of an element of the view. Each element has its name and each of its attributes once for the rules to take. (After `ViewConsumable`
-- and `UpcastHelpers` of CKEditor 5.)
use Rattle.std.specs.Prelude.{ℕ, List, [], ◌∷◌, map, Bool, true, false, ◌&&◌, not, Option, Some, None, option_and_then, if◌then◌else◌, encode_utf8_all}
use Rattle.std.specs.Option.{option_map_or}
use Rattle.std.specs.List.{fold, filter, list_all}
use Rattle.std.specs.Str.{bytes_eq}
use Rattle.ck_base.specs.declared.value.Value.{Value as AttributeValue}
use Rattle.ck_base.specs.declared.value.Value.TheVariants.{Text as TextValue}
use Rattle.ck_base.specs.Entries.{value_of, with_value}
use Rattle.ck_base.specs.Text.{is_within_text_limit}
use Rattle.item_definitions.specs.Item.{Attributes}
use Rattle.view_definitions.specs.Node.{ViewAttributes}
use Rattle.schema_definitions.specs.Allowed.{Rules}
use Rattle.schema_definitions.specs.Names.{has}
use Rattle.upcast_definitions.specs.declared.rule.Source.{Source}
use Rattle.upcast_definitions.specs.declared.rule.Source.TheVariants.{Value, From}
use Rattle.upcast_definitions.specs.declared.rule.UpcastRule.{UpcastRule}
use Rattle.upcast_definitions.specs.declared.rule.UpcastRule.TheVariants.{Element, Key, Attribute}
use Rattle.upcast_definitions.specs.Places.{Place, place_of}

-- attributes of the model, each with where its value comes from
abbrev pub Sources : Type 0
Sources = List (List ℕ × Source)

-- what an element of the view is: passed over, placed as an element of the model by its name and what is set, or a key with its value for what is in it
pub data Made : Type 0 where
  passed : Made
  placed : Place → List ℕ → Sources → Made
  keyed : List ℕ → AttributeValue → Made

-- what the rules have taken so far: what is made, the attributes that are left, and what rules for attributes add to an element that is made
pub record Taken : Type 0 where
  pub made : Made
  pub left : List (List ℕ)
  pub added : Attributes

-- before any rule
abbrev pub untaken : ViewAttributes → Taken
untaken attributes = record { made = passed; left = map (λ entry. entry.0) attributes; added = [] }

-- the name is there for a rule to take
abbrev pub is_passed : Made → Bool
is_passed passed = true
is_passed (placed place name set) = false
is_passed (keyed key value) = false

-- a text as a value, where it is within the limit on these
abbrev pub short_text : List ℕ → Option AttributeValue
short_text scalars = if is_within_text_limit (encode_utf8_all scalars) then Some (TextValue scalars) else None

-- the text of a view attribute as a value
abbrev pub text_at : ViewAttributes → List ℕ → Option AttributeValue
text_at attributes key = option_and_then short_text (value_of key attributes)

-- the value that a source gives
abbrev pub value_from : ViewAttributes → Source → Option AttributeValue
value_from attributes (Value value) = Some value
value_from attributes (From key) = text_at attributes key

-- the view element has all these attributes, and they are left
abbrev pub has_with : ViewAttributes → List (List ℕ) → ViewAttributes → Bool
has_with attributes left with =
    list_all (λ entry. has left entry.0 && option_map_or (bytes_eq entry.1) (value_of entry.0 attributes) false) with

-- the attributes that are left when these are taken
abbrev pub without_keys : List (List ℕ) → List (List ℕ) → List (List ℕ)
without_keys keys left = filter (λ key. not (has keys key)) left

-- a rule that takes the name and these attributes makes something of the element; or it does nothing, and takes nothing
abbrev pub making : Option Made → ViewAttributes → Taken → Taken
making None with taken = taken
making (Some made) with taken = record taken { made = made; left = without_keys (map (λ entry. entry.0) with) taken.left }

-- a key with a value; one that is there stays
abbrev pub with_absent : List ℕ → AttributeValue → Attributes → Attributes
with_absent key value attributes = option_map_or (λ _. attributes) (value_of key attributes) (with_value key value attributes)

-- a rule for an attribute takes it, and adds its text under a key; where there is no text it does nothing
abbrev pub adding : Option AttributeValue → List ℕ → List ℕ → Taken → Taken
adding None attribute key taken = taken
adding (Some value) attribute key taken =
    record taken { left = without_keys (attribute ∷ []) taken.left; added = with_absent key value taken.added }

-- what an element of this name and these attributes is by one rule more, behind these ancestors
unfoldable pub tried : Rules → List (List ℕ) → List ℕ → ViewAttributes → Taken → UpcastRule → Taken
tried rules names name attributes taken (Element view with element set priority) =
    if is_passed taken.made && (bytes_eq view name && has_with attributes taken.left with)
    then making (option_map_or (λ place. Some (placed place element set)) (place_of rules names element) None) with taken else taken
tried rules names name attributes taken (Key view with key value priority) =
    if is_passed taken.made && (bytes_eq view name && has_with attributes taken.left with)
    then making (option_map_or (λ found. Some (keyed key found)) (value_from attributes value) None) with taken else taken
tried rules names name attributes taken (Attribute attribute view key priority) =
    if option_map_or (λ only. bytes_eq only name) view true && has taken.left attribute
    then adding (text_at attributes attribute) attribute key taken else taken

-- what it is by all rules, in the order in which they are tried
abbrev pub taken_by : Rules → List UpcastRule → List (List ℕ) → List ℕ → ViewAttributes → Taken
taken_by rules upcast names name attributes = fold (tried rules names name attributes) (untaken attributes) upcast
