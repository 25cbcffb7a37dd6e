-- The schema of a settings file, with the first place that breaks its form. An entry is
--     {"item":NAME} or {"extend":NAME}, with allowIn, allowChildren, allowAttributes, allowWhere, allowContentOf, allowAttributesOf,
--     inheritTypesFrom, inheritAllFrom, each a NAME or a list of them, and isBlock, isInline, isLimit, isObject, isSelectable, isContent, each
--     a truth value; all but the first are optional.
-- A check is {"child":NAME,"endsWith":[NAME,..],"answer":TRUTH} or {"attribute":NAME,"endsWith":[NAME,..],"answer":TRUTH}.
-- An object is tested field by field in that order, and then for fields that aren't named. (After `SchemaItemDefinition`, `addChildCheck` and
-- `addAttributeCheck` of CKEditor 5's engine.)
use Rattle.std.specs.Prelude.{ℕ, ◌+◌, List, [], ◌∷◌, Bool, true, is_none, Option, Some, None, Result, Ok, Err, if◌then◌else◌, codes, ⊤}
use Rattle.serde_json.specs.Data.{Data, Items, no_items, item}
use Rattle.serde_json.specs.Find.{get}
use Rattle.json_forms.specs.declared.fault.FormFault.{FormFault}
use Rattle.json_forms.specs.declared.fault.FormFault.TheVariants.{BadField}
use Rattle.json_forms.specs.Form.{◌>>=◌, object_at, only_fields, field_path, index_path}
use Rattle.json_names.specs.Names.{name_at, name_field, name_list_field, names_field, truth_field, optional_truth}
use Rattle.schema_definitions.specs.declared.file.Entry.{Entry}
use Rattle.schema_definitions.specs.declared.file.Subject.{Subject}
use Rattle.schema_definitions.specs.declared.file.Subject.TheVariants.{Item, Extend}
use Rattle.schema_definitions.specs.declared.file.Check.{Check}
use Rattle.schema_definitions.specs.declared.file.Check.TheVariants.{Child, Attribute}
use Rattle.schema_definitions.specs.declared.file.Flag.{Flag}
use Rattle.schema_definitions.specs.declared.file.Flag.TheVariants.{Block, Inline, Limit, Object, Selectable, Content}
use Rattle.settings_definitions.specs.declared.parts.EntryList.{EntryList}
use Rattle.settings_definitions.specs.declared.parts.EntryList.TheVariants.{AllowIn, AllowChildren, AllowAttributes, AllowWhere, AllowContentOf}
use Rattle.settings_definitions.specs.declared.parts.EntryList.TheVariants.{AllowAttributesOf, InheritTypesFrom, InheritAllFrom}
use Rattle.settings_definitions.specs.declared.parts.Places.{Places}
use Rattle.settings_definitions.specs.declared.parts.Sources.{Sources}
use Rattle.settings_definitions.specs.declared.parts.Flags.{Flags}

-- exactly one of `item` and `extend`, and a name: both or none is refused at `item`
abbrev pub subject_from : List ℕ → Option Data → Option Data → Result Subject FormFault
subject_from path (Some found) None = name_at (field_path path (codes "item")) found >>= λ name. Ok (Item name)
subject_from path None (Some found) = name_at (field_path path (codes "extend")) found >>= λ name. Ok (Extend name)
subject_from path None None = Err (BadField (field_path path (codes "item")))
subject_from path (Some found) (Some other) = Err (BadField (field_path path (codes "item")))

-- the item that an entry is about, by one of the fields `item` and `extend`
unfoldable pub subject_at : List ℕ → Data → Result Subject FormFault
subject_at path d = subject_from path (get (codes "item") d) (get (codes "extend") d)

-- the names of an entry's lists and flags in the file
unfoldable pub list_name : EntryList → List ℕ
list_name AllowIn = codes "allowIn"
list_name AllowChildren = codes "allowChildren"
list_name AllowAttributes = codes "allowAttributes"
list_name AllowWhere = codes "allowWhere"
list_name AllowContentOf = codes "allowContentOf"
list_name AllowAttributesOf = codes "allowAttributesOf"
list_name InheritTypesFrom = codes "inheritTypesFrom"
list_name InheritAllFrom = codes "inheritAllFrom"

-- the name of the field of a flag. (After `SchemaItemDefinition` of CKEditor 5's engine.)
unfoldable pub flag_name : Flag → List ℕ
flag_name Block = codes "isBlock"
flag_name Inline = codes "isInline"
flag_name Limit = codes "isLimit"
flag_name Object = codes "isObject"
flag_name Selectable = codes "isSelectable"
flag_name Content = codes "isContent"

-- a list: a name or a list of names; none where it isn't there
unfoldable pub list_at : List ℕ → EntryList → Data → Result (List (List ℕ)) FormFault
list_at path list d = names_field path (list_name list) d

-- a flag, where it is there
unfoldable pub flag_at : List ℕ → Flag → Data → Result (Option Bool) FormFault
flag_at path flag d = optional_truth path (flag_name flag) d

-- where the item may stand, what may stand in it, and its attributes
unfoldable pub places_at : List ℕ → Data → Result Places FormFault
places_at path d = do
  allow_in ← list_at path AllowIn d
  allow_children ← list_at path AllowChildren d
  allow_attributes ← list_at path AllowAttributes d
  Ok (record { allow_in = allow_in; allow_children = allow_children; allow_attributes = allow_attributes })

-- the items from which it has something
unfoldable pub sources_at : List ℕ → Data → Result Sources FormFault
sources_at path d = do
  allow_where ← list_at path AllowWhere d
  allow_content_of ← list_at path AllowContentOf d
  allow_attributes_of ← list_at path AllowAttributesOf d
  inherit_types_from ← list_at path InheritTypesFrom d
  inherit_all_from ← list_at path InheritAllFrom d
  Ok (record {
    allow_where = allow_where;
    allow_content_of = allow_content_of;
    allow_attributes_of = allow_attributes_of;
    inherit_types_from =
        inherit_types_from;
    inherit_all_from = inherit_all_from;
  })

-- its flags
unfoldable pub flags_at : List ℕ → Data → Result Flags FormFault
flags_at path d = do
  is_block ← flag_at path Block d
  is_inline ← flag_at path Inline d
  is_limit ← flag_at path Limit d
  is_object ← flag_at path Object d
  is_selectable ← flag_at path Selectable d
  is_content ← flag_at path Content d
  Ok (record { is_block = is_block; is_inline = is_inline; is_limit = is_limit; is_object = is_object; is_selectable = is_selectable; is_content = is_content })

-- the entry of these parts
unfoldable pub entry_of : Subject → Places → Sources → Flags → Entry
entry_of subject places sources flags = record {
  subject = subject;
  allow_in = places.allow_in;
  allow_children = places.allow_children;
  allow_attributes = places.allow_attributes;
  allow_where = sources.allow_where;
  allow_content_of = sources.allow_content_of;
  allow_attributes_of = sources.allow_attributes_of;
  inherit_types_from = sources.inherit_types_from;
  inherit_all_from = sources.inherit_all_from;
  is_block = flags.is_block;
  is_inline = flags.is_inline;
  is_limit = flags.is_limit;
  is_object = flags.is_object;
  is_selectable = flags.is_selectable;
  is_content = flags.is_content;
}

-- the fields that an entry may have
abbrev pub entry_fields : List (List ℕ)
entry_fields = codes "item" ∷ codes "extend" ∷ codes "allowIn" ∷ codes "allowChildren" ∷ codes "allowAttributes" ∷ codes "allowWhere"
    ∷ codes "allowContentOf" ∷ codes "allowAttributesOf" ∷ codes "inheritTypesFrom" ∷ codes "inheritAllFrom" ∷ codes "isBlock" ∷ codes "isInline"
    ∷ codes "isLimit" ∷ codes "isObject" ∷ codes "isSelectable" ∷ codes "isContent" ∷ []

-- that it has no others
unfoldable pub only_entry_fields : List ℕ → Data → Result ⊤ FormFault
only_entry_fields path d = only_fields path entry_fields d

-- an entry: its fields in order, and then any other
unfoldable pub entry_at : List ℕ → Data → Result Entry FormFault
entry_at path d = do
  _ ← object_at path d
  subject ← subject_at path d
  places ← places_at path d
  sources ← sources_at path d
  flags ← flags_at path d
  _ ← only_entry_fields path d
  Ok (entry_of subject places sources flags)

-- entries, from this index of a list on
unfoldable pub entries_at : List ℕ → ℕ → Items → Result (List Entry) FormFault
entries_at path index no_items = Ok []
entries_at path index (item d rest) = do
  entry ← entry_at (index_path path index) d
  more ← entries_at path (index + 1) rest
  Ok (entry ∷ more)

-- a check of an item
unfoldable pub child_check_at : List ℕ → Data → Result Check FormFault
child_check_at path d = do
  child ← name_field path (codes "child") d
  last ← name_list_field path (codes "endsWith") d
  answer ← truth_field path (codes "answer") d
  _ ← only_fields path (codes "child" ∷ codes "endsWith" ∷ codes "answer" ∷ []) d
  Ok (Child child last answer)

-- a check of an attribute
unfoldable pub attribute_check_at : List ℕ → Data → Result Check FormFault
attribute_check_at path d = do
  key ← name_field path (codes "attribute") d
  last ← name_list_field path (codes "endsWith") d
  answer ← truth_field path (codes "answer") d
  _ ← only_fields path (codes "attribute" ∷ codes "endsWith" ∷ codes "answer" ∷ []) d
  Ok (Attribute key last answer)

-- the first form is tested where `child` is there or `attribute` isn't
abbrev pub is_child_form : Option Data → Option Data → Bool
is_child_form (Some child) attribute = true
is_child_form None attribute = is_none attribute

-- a check, of an item where the field `child` is there and else of an attribute
unfoldable pub check_at : List ℕ → Data → Result Check FormFault
check_at path d = do
  _ ← object_at path d
  if is_child_form (get (codes "child") d) (get (codes "attribute") d) then child_check_at path d else attribute_check_at path d

-- checks, from this index of a list on
unfoldable pub checks_at : List ℕ → ℕ → Items → Result (List Check) FormFault
checks_at path index no_items = Ok []
checks_at path index (item d rest) = do
  check ← check_at (index_path path index) d
  more ← checks_at path (index + 1) rest
  Ok (check ∷ more)
