-- What entries write of items.
use Rattle.std.specs.Prelude.{ℕ, List, ◌++◌, Bool, true, false, ◌&&◌, ◌||◌, not, is_none, Option, Some, None, map}
use Rattle.std.specs.List.{list_any, list_all, flat_map}
use Rattle.std.specs.Str.{bytes_eq}
use Rattle.schema_definitions.specs.declared.file.Entry.{Entry}
use Rattle.schema_definitions.specs.declared.file.Subject.{Subject}
use Rattle.schema_definitions.specs.declared.file.Subject.TheVariants.{Item, Extend}
use Rattle.schema_definitions.specs.declared.file.Property.{Property}
use Rattle.schema_definitions.specs.declared.file.Property.TheVariants.{AllowIn, AllowChildren, AllowAttributes, AllowWhere, AllowContentOf, AllowAttributesOf}
use Rattle.schema_definitions.specs.declared.file.Property.TheVariants.{InheritTypesFrom}
use Rattle.schema_definitions.specs.declared.file.Flag.{Flag}
use Rattle.schema_definitions.specs.declared.file.Flag.TheVariants.{Block, Inline, Limit, Object, Selectable, Content}
use Rattle.schema_definitions.specs.Names.{has}

-- the item's name
abbrev pub subject_name : Subject → List ℕ
subject_name (Item name) = name
subject_name (Extend name) = name

-- the name of the item that an entry is about
abbrev pub item_of : Entry → List ℕ
item_of entry = subject_name entry.subject

-- whether the item is registered by this entry
abbrev pub registers : Entry → Bool
registers entry = registering entry.subject where
  registering : Subject → Bool
  registering (Item name) = true
  registering (Extend name) = false

-- the names that an entry lists; `inheritAllFrom` stands for four properties
abbrev pub listed : Property → Entry → List (List ℕ)
listed AllowIn entry = entry.allow_in
listed AllowChildren entry = entry.allow_children
listed AllowAttributes entry = entry.allow_attributes
listed AllowWhere entry = entry.allow_where ++ entry.inherit_all_from
listed AllowContentOf entry = entry.allow_content_of ++ entry.inherit_all_from
listed AllowAttributesOf entry = entry.allow_attributes_of ++ entry.inherit_all_from
listed InheritTypesFrom entry = entry.inherit_types_from ++ entry.inherit_all_from

-- what an entry writes of a flag
abbrev pub written : Flag → Entry → Option Bool
written Block entry = entry.is_block
written Inline entry = entry.is_inline
written Limit entry = entry.is_limit
written Object entry = entry.is_object
written Selectable entry = entry.is_selectable
written Content entry = entry.is_content

-- some entry of the item lists the name
abbrev pub lists : List Entry → Property → List ℕ → List ℕ → Bool
lists entries property item name = list_any (λ entry. bytes_eq (item_of entry) item && has (listed property entry) name) entries

-- each item with each name that its entries list
abbrev pub pairs : List Entry → Property → List (List ℕ × List ℕ)
pairs entries property = flat_map (λ entry. map (λ name. (item_of entry, name)) (listed property entry)) entries

-- whether true is written
abbrev pub is_yes : Option Bool → Bool
is_yes None = false
is_yes (Some answer) = answer

-- an entry that writes the flag true
abbrev pub writes_yes : Flag → Entry → Bool
writes_yes flag entry = is_yes (written flag entry)

-- some entry of the item writes the flag true
abbrev pub sets : List Entry → Flag → List ℕ → Bool
sets entries flag item = list_any (λ entry. bytes_eq (item_of entry) item && writes_yes flag entry) entries

-- no entry of the item writes the flag
abbrev pub leaves_open : List Entry → Flag → List ℕ → Bool
leaves_open entries flag item = list_all (λ entry. not (bytes_eq (item_of entry) item) || is_none (written flag entry)) entries
