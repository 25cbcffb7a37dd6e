-- Tables over the numbers of names.
use Rattle.std.specs.Prelude.{◌≡◌, ℕ, List, Bool, true, map}
use Rattle.std.specs.Str.{bytes_eq}
use Rattle.std.specs.List.{list_any}
use Rattle.schema_definitions.specs.declared.file.Entry.{Entry}
use Rattle.schema_definitions.specs.declared.file.Property.{Property}
use Rattle.schema_definitions.specs.declared.file.Flag.{Flag}
use Rattle.schema_definitions.specs.Names.{has, turned}
use Rattle.schema_definitions.specs.Entries.{item_of, lists, pairs}
use Rattle.schema_definitions.specs.Rules.{stands_in, may_have, has_flag}
use Rattle.schema_rules.specs.declared.steps.Direction.{Direction}
use Rattle.schema_rules.specs.declared.steps.Direction.TheVariants.{FromItem, ToItem}

-- pairs as they are, or the other way round
abbrev pub along : Direction → List (List ℕ × List ℕ) → List (List ℕ × List ℕ)
along FromItem pairs = pairs
along ToItem pairs = turned pairs

-- each item of the entries, and each name that they list, is among the names
pub record AreKnown (names : List (List ℕ)) (entries : List Entry) : Type 0 where
  pub items : (item : List ℕ) → list_any (λ entry. bytes_eq (item_of entry) item) entries ≡ true → has names item ≡ true
  pub listed : (property : Property) (item name : List ℕ) → lists entries property item name ≡ true → has names name ≡ true

-- which of the names may stand in each of them
abbrev pub children_rows : List (List ℕ) → List Entry → List (List ℕ) → List (List Bool)
children_rows names entries parents = map (λ parent. map (λ item. stands_in entries item parent) names) parents

-- which of the names each of them may have as an attribute
abbrev pub key_rows : List (List ℕ) → List Entry → List (List ℕ) → List (List Bool)
key_rows names entries items = map (λ item. map (λ key. may_have entries key item) names) items

-- for which of the names a flag is set
abbrev pub flag_row : List (List ℕ) → List Entry → Flag → List Bool
flag_row names entries flag = map (λ item. has_flag entries flag item) names
