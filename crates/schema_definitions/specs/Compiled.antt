-- The rules that a schema file makes, or why it makes none.
use Rattle.std.specs.Prelude.{ℕ, ◌+◌, ◌-◌, ◌^◌, min, List, [], ◌∷◌, ◌++◌, Bool, true, false, not, if◌then◌else◌, Option, Some, None, option_map, Result, Ok}
use Rattle.std.specs.Prelude.{Err, codes, position}
use Rattle.std.specs.Option.{option_or}
use Rattle.std.specs.List.{find, flat_map}
use Rattle.schema_definitions.specs.declared.file.Entry.{Entry}
use Rattle.schema_definitions.specs.declared.file.Subject.{Subject}
use Rattle.schema_definitions.specs.declared.file.Subject.TheVariants.{Item, Extend}
use Rattle.schema_definitions.specs.declared.file.Check.{Check}
use Rattle.schema_definitions.specs.declared.file.Check.TheVariants.{Child, Attribute}
use Rattle.schema_definitions.specs.declared.file.SchemaFile.{SchemaFile}
use Rattle.schema_definitions.specs.declared.fault.SchemaFault.{SchemaFault}
use Rattle.schema_definitions.specs.declared.fault.SchemaFault.TheVariants.{TwiceRegistered, UnknownItem, BadCheck}
use Rattle.schema_definitions.specs.Names.{has}
use Rattle.schema_definitions.specs.Allowed.{Rules, registrations, is_registered}

-- an entry that says nothing of its item
abbrev pub bare : Subject → Entry
bare subject = record {
  subject = subject;
  allow_in = [];
  allow_children = [];
  allow_attributes = [];
  allow_where = [];
  allow_content_of = [];
  allow_attributes_of = [];
  inherit_types_from = [];
  inherit_all_from = [];
  is_block = None;
  is_inline = None;
  is_limit = None;
  is_object = None;
  is_selectable = None;
  is_content = None;
}

-- the items that are registered from the start
abbrev pub root_entry : Entry
root_entry = record (bare (Item (codes "$root"))) { is_limit = Some true }

-- what holds blocks: it may stand in the root and in itself
abbrev pub container_entry : Entry
container_entry = record (bare (Item (codes "$container"))) { allow_in = codes "$root" ∷ codes "$container" ∷ [] }

-- a block: it may stand in the root and in containers
abbrev pub block_entry : Entry
block_entry = record (bare (Item (codes "$block"))) { allow_in = codes "$root" ∷ codes "$container" ∷ []; is_block = Some true }

-- each character of a document
abbrev pub text_entry : Entry
text_entry = record (bare (Item (codes "$text"))) { allow_in = codes "$block" ∷ []; is_inline = Some true; is_content = Some true }

-- an object that stands where blocks do
abbrev pub block_object_entry : Entry
block_object_entry = record (bare (Item (codes "$blockObject"))) { allow_where = codes "$block" ∷ []; is_block = Some true; is_object = Some true }

-- an object that stands where text does, with the text's attributes
abbrev pub inline_object_entry : Entry
inline_object_entry = record (bare (Item (codes "$inlineObject"))) {
  allow_where = codes "$text" ∷ [];
  allow_attributes_of = codes "$text" ∷ [];
  is_inline = Some true;
  is_object = Some true;
}

-- all of these. (After "Generic items" of the schema guide of CKEditor 5's framework documentation.)
unfoldable pub predefined : List Entry
predefined = root_entry ∷ container_entry ∷ block_entry ∷ text_entry ∷ block_object_entry ∷ inline_object_entry ∷ []

-- the rules of a file: a predefined item's own entry is an entry like any other
abbrev pub rules_of : SchemaFile → Rules
rules_of file = record { entries = predefined ++ file.entries.items; checks = file.checks.items }

-- the first name that stands before
abbrev pub first_repeated : List (List ℕ) → List (List ℕ) → Option (List ℕ)
first_repeated before [] = None
first_repeated before (name ∷ names) = if has before name then Some name else first_repeated (before ++ name ∷ []) names

-- the item that an entry extends
abbrev pub extended : Subject → List (List ℕ)
extended (Item name) = []
extended (Extend name) = name ∷ []

-- the names of an entry and of a check that have to be items, in the order in which they are written: attributes are no items
abbrev pub needed_by : Entry → List (List ℕ)
needed_by entry = extended entry.subject
    ++ (entry.allow_in ++ (entry.allow_children
    ++ (entry.allow_where ++ (entry.allow_content_of ++ (entry.allow_attributes_of ++ (entry.inherit_types_from ++ entry.inherit_all_from))))))

-- and those of a check: its item, and the names that ancestors end with
abbrev pub needed_by_check : Check → List (List ℕ)
needed_by_check (Child child last answer) = child ∷ last
needed_by_check (Attribute attribute last answer) = last

-- the names of all rules that have to be items: those of the entries in order, and then those of the checks
abbrev pub needed : Rules → List (List ℕ)
needed rules = flat_map needed_by rules.entries ++ flat_map needed_by_check rules.checks

-- the first of them that isn't registered
unfoldable pub first_unknown : Rules → Option (List ℕ)
first_unknown rules = find (λ name. not (is_registered rules name)) (needed rules)

-- a check without ancestors
abbrev pub is_empty_list : List (List ℕ) → Bool
is_empty_list [] = true
is_empty_list (name ∷ names) = false

-- whether no name of an ancestor stands in a check
abbrev pub has_no_ancestors : Check → Bool
has_no_ancestors (Child child last answer) = is_empty_list last
has_no_ancestors (Attribute attribute last answer) = is_empty_list last

-- the number of the first such check, from 1, or the greatest number of 32 bits
unfoldable pub first_bad_check : List Check → Option ℕ
first_bad_check checks = option_map (λ index. min (index + 1) (2 ^ 32 - 1)) (position has_no_ancestors checks)

-- why rules make no schema, the first in this order
unfoldable pub refusal : Rules → Option SchemaFault
refusal rules = option_or (option_map TwiceRegistered (first_repeated [] (registrations rules.entries)))
    (option_or (option_map UnknownItem (first_unknown rules))
    (option_map BadCheck (first_bad_check rules.checks)))

-- the rules, unless they are refused
abbrev pub unless_refused : Rules → Option SchemaFault → Result Rules SchemaFault
unless_refused rules None = Ok rules
unless_refused rules (Some fault) = Err fault

-- the rules of a file, or why it makes none
unfoldable pub compiled : SchemaFile → Result Rules SchemaFault
compiled file = unless_refused (rules_of file) (refusal (rules_of file))
