-- What a schema allows: its rules are the entries, the predefined ones among them, and the checks. Ancestors are given from the
-- root on.
use Rattle.std.specs.Prelude.{ℕ, List, [], ◌∷◌, ◌++◌, Bool, true, false, ◌&&◌, ◌||◌, if◌then◌else◌, Option, Some, None, option_map, unwrap_or, map, reverse}
use Rattle.std.specs.Prelude.{length}
use Rattle.std.specs.List.{filter, find, ends_with}
use Rattle.std.specs.Str.{bytes_eq}
use Rattle.schema_definitions.specs.declared.file.Entry.{Entry}
use Rattle.schema_definitions.specs.declared.file.Check.{Check}
use Rattle.schema_definitions.specs.declared.file.Check.TheVariants.{Child, Attribute}
use Rattle.schema_definitions.specs.declared.file.Flag.TheVariants.{Block, Inline, Limit, Object, Selectable, Content}
use Rattle.schema_definitions.specs.Names.{has, in_order}
use Rattle.schema_definitions.specs.Entries.{item_of, registers}
use Rattle.schema_definitions.specs.Rules.{stands_in, may_have, has_flag}

-- what a schema is made from: all entries, the predefined ones among them, and the checks. (After `Schema.register`, `extend`, `addChildCheck` and
-- `addAttributeCheck` of CKEditor 5's engine.)
pub record Rules : Type 0 where
  pub entries : List Entry
  pub checks : List Check

-- the items that are registered, in the order of the entries, and in the order of their bytes
abbrev pub registrations : List Entry → List (List ℕ)
registrations entries = map item_of (filter registers entries)

-- whether an item is registered. (After `Schema.isRegistered`.)
abbrev pub is_registered : Rules → List ℕ → Bool
is_registered rules name = has (registrations rules.entries) name

-- the registered items in the order of their bytes, each once
unfoldable pub registered : Rules → List (List ℕ)
registered rules = in_order (registrations rules.entries)

-- what an item is: a limit, selectable and content together make an object, and an object is each of the three
abbrev pub is_block : Rules → List ℕ → Bool
is_block rules item = has_flag rules.entries Block item

-- whether an item is inline. (After `Schema.isInline`.)
abbrev pub is_inline : Rules → List ℕ → Bool
is_inline rules item = has_flag rules.entries Inline item

-- whether an item is an object: its flag is set, or it is a limit, selectable and content. (After `Schema.isObject`.)
abbrev pub is_object : Rules → List ℕ → Bool
is_object rules item = has_flag rules.entries Object item
    || (has_flag rules.entries Limit item && has_flag rules.entries Selectable item && has_flag rules.entries Content item)

-- whether an item is a limit: its flag is set, or it is an object. (After `Schema.isLimit`.)
abbrev pub is_limit : Rules → List ℕ → Bool
is_limit rules item = has_flag rules.entries Limit item || is_object rules item

-- whether an item is selectable: its flag is set, or it is an object. (After `Schema.isSelectable`.)
abbrev pub is_selectable : Rules → List ℕ → Bool
is_selectable rules item = has_flag rules.entries Selectable item || is_object rules item

-- whether an item is content: its flag is set, or it is an object. (After `Schema.isContent`.)
abbrev pub is_content : Rules → List ℕ → Bool
is_content rules item = has_flag rules.entries Content item || is_object rules item

-- whether an item is an object in the text
abbrev pub is_inline_object : Rules → List ℕ → Bool
is_inline_object rules item = is_inline rules item && is_object rules item

-- the registered items that are inline and an object, in the order of their bytes
unfoldable pub inline_objects : Rules → List (List ℕ)
inline_objects rules = filter (is_inline_object rules) (registered rules)

-- whether a check is about this item behind these ancestors
abbrev pub is_about_child : List (List ℕ) → List ℕ → Check → Bool
is_about_child ancestors item (Child child last answer) = bytes_eq child item && ends_with bytes_eq ancestors last
is_about_child ancestors item (Attribute key last answer) = false

-- whether a check is about this attribute on the last of these names
abbrev pub is_about_attribute : List (List ℕ) → List ℕ → Check → Bool
is_about_attribute names key (Child child last answer) = false
is_about_attribute names key (Attribute attribute last answer) = bytes_eq attribute key && ends_with bytes_eq names last

-- what a check answers
abbrev pub answer_of : Check → Bool
answer_of (Child child last answer) = answer
answer_of (Attribute attribute last answer) = answer

-- what the first such check answers
unfoldable pub child_answer : List Check → List (List ℕ) → List ℕ → Option Bool
child_answer checks ancestors item = option_map answer_of (find (is_about_child ancestors item) checks)

-- what the first check answers that is about this attribute on the last of these names
unfoldable pub attribute_answer : List Check → List (List ℕ) → List ℕ → Option Bool
attribute_answer checks names key = option_map answer_of (find (is_about_attribute names key) checks)

-- behind these ancestors, the innermost first: the first check decides; else the item is in its parent, which passes itself. The
-- root passes.
abbrev pub passes : Rules → List ℕ → List (List ℕ) → Bool
passes rules item [] = true
passes rules item (parent ∷ above) = unwrap_or (child_answer rules.checks (reverse (parent ∷ above)) item) (stands_in rules.entries item parent
    && passes rules parent above)

-- whether an item may stand behind these ancestors; without any, nothing may
unfoldable pub check_child : Rules → List (List ℕ) → List ℕ → Bool
check_child rules [] item = false
check_child rules (root ∷ ancestors) item = passes rules item (reverse (root ∷ ancestors))

-- whether an item behind these ancestors may have an attribute: the first check decides; else the key is on the item
unfoldable pub check_attribute : Rules → List (List ℕ) → List ℕ → List ℕ → Bool
check_attribute rules ancestors item key = unwrap_or (attribute_answer rules.checks (ancestors ++ item ∷ []) key) (may_have rules.entries key item)

-- from the innermost ancestor upwards: how many remain with the first that allows the item; a limit that doesn't is the last tried
abbrev pub allowed_above : Rules → List ℕ → List (List ℕ) → Option ℕ
allowed_above rules item [] = None
allowed_above rules item (parent ∷ above) = if check_child rules (reverse (parent ∷ above)) item then Some (length (parent ∷ above))
    else (if is_limit rules parent then None else allowed_above rules item above)

-- how many of the ancestors remain, counted from the root, with the innermost that allows the item, or a limit below it. (After `Schema.findAllowedParent`.)
unfoldable pub allowed_parent : Rules → List (List ℕ) → List ℕ → Option ℕ
allowed_parent rules ancestors item = allowed_above rules item (reverse ancestors)
