-- The shapes of a settings file, with the first place that breaks their form. A node is {"slot":true}, a text, or
--     {"name":NAME,"type":"container", "empty" or "ui","attributes":PATTERNS,"children":[NODE,..]}
-- of which all but the name are optional; without a type it is a container. The nodes are read in document order: of each its own fields first,
-- then whether it may stand there, then its children, then whether it has further fields. The outermost node is a container. A slot stands in a
-- container, a text in a UI element, and a UI element holds texts and UI elements alone; an empty element has no children. There are at most 32
-- nodes on at most 8 levels, and at most one slot. What stands where it must not is refused at its own place. (After the creators of
-- `elementToStructure` of CKEditor 5.)
use Rattle.std.specs.Prelude.{ℕ, zero, suc, ◌+◌, List, [], ◌∷◌, Bool, true, false, ◌&&◌, ◌==◌, nat_lt, is_some, Option, Some, None, Result, Ok, Err}
use Rattle.std.specs.Prelude.{if◌then◌else◌, codes, option_and_then, ⊤}
use Rattle.std.specs.Str.{chars, bytes_eq}
use Rattle.serde_json.specs.Data.{Data, null, boolean, number, string, array, object, Items, no_items, item}
use Rattle.serde_json.specs.Find.{get, as_str, as_array}
use Rattle.json_forms.specs.declared.fault.FormFault.{FormFault}
use Rattle.json_forms.specs.declared.fault.FormFault.TheVariants.{BadField}
use Rattle.json_forms.specs.Form.{◌>>=◌, or_bad, only_fields, field_path, index_path}
use Rattle.json_names.specs.Names.{name_field, truth_field}
use Rattle.converter_definitions.specs.declared.kind.ShapeKind.{ShapeKind}
use Rattle.converter_definitions.specs.declared.kind.ShapeKind.TheVariants.{Container, Empty, Ui}
use Rattle.converter_definitions.specs.Form.{Form, slot, text, element, forms_of}
use Rattle.converter_definitions.specs.Pattern.{Patterns}
use Rattle.converter_definitions.specs.Shape.{may_hold, may_hold_slot, may_hold_text, form_count, inner_count, slot_count, inner_slots}
use Rattle.converter_forms.specs.declared.parts.Before.{Before}
use Rattle.converter_forms.specs.declared.parts.Head.{Head}
use Rattle.converter_forms.specs.PatternForm.{patterns_field}

-- what may stand in an element of this kind, or without a parent as the outermost node
abbrev pub takes_slot : Option ShapeKind → Bool
takes_slot None = false
takes_slot (Some parent) = may_hold_slot parent

-- whether a text may stand there
abbrev pub takes_text : Option ShapeKind → Bool
takes_text None = false
takes_text (Some parent) = may_hold_text parent

-- whether an element of this kind may stand there
abbrev pub takes_element : Option ShapeKind → ShapeKind → Bool
takes_element None Container = true
takes_element None Empty = false
takes_element None Ui = false
takes_element (Some parent) kind = may_hold parent kind

-- a node may stand where its parent takes it, where a level is left, and where fewer than 32 nodes come before it
abbrev pub stands : List ℕ → Bool → ℕ → Before → Result ⊤ FormFault
stands path taken levels before = if taken && nat_lt 0 levels && nat_lt before.nodes 32 then Ok tt else Err (BadField path)

-- how many nodes and slots come before what stands behind a node, behind a list of them, and before the first child of an element
unfoldable pub behind : Form Patterns → Before → Before
behind form before = record { nodes = before.nodes + form_count form; slots = before.slots + slot_count form }

-- behind a list of nodes
unfoldable pub behind_all : List (Form Patterns) → Before → Before
behind_all forms before = record { nodes = before.nodes + inner_count (forms_of forms); slots = before.slots + inner_slots (forms_of forms) }

-- before the first child of an element
unfoldable pub inside : Before → Before
inside before = record { nodes = before.nodes + 1; slots = before.slots }

-- what reads a node of a parent behind so many nodes and slots
abbrev pub Reader : Type 0
Reader = Option ShapeKind → Before → List ℕ → Data → Result (Form Patterns) FormFault

-- the nodes of a list, from this index on
unfoldable pub nodes_at : Reader → Option ShapeKind → Before → List ℕ → ℕ → Items → Result (List (Form Patterns)) FormFault
nodes_at reader parent before path index no_items = Ok []
nodes_at reader parent before path index (item d rest) = do
  form ← reader parent before (index_path path index) d
  others ← nodes_at reader parent (behind form before) path (index + 1) rest
  Ok (form ∷ others)

-- the children of an element by the field `children`: none where it isn't there
abbrev pub children_if : Reader → Option ShapeKind → Before → List ℕ → Option Data → Result (List (Form Patterns)) FormFault
children_if reader parent before path None = Ok []
children_if reader parent before path (Some found) = or_bad path (as_array found) >>= nodes_at reader parent before path 0

-- the children of an element
unfoldable pub children_at : Reader → Option ShapeKind → Before → List ℕ → Data → Result (List (Form Patterns)) FormFault
children_at reader parent before path d = children_if reader parent before (field_path path (codes "children")) (get (codes "children") d)

-- the one form of a slot
unfoldable pub slot_field : List ℕ → Data → Result ⊤ FormFault
slot_field path d = do
  truth ← truth_field path (codes "slot") d
  if truth then Ok tt else Err (BadField (field_path path (codes "slot")))

-- a slot
unfoldable pub slot_at : ℕ → Option ShapeKind → Before → List ℕ → Data → Result (Form Patterns) FormFault
slot_at levels parent before path d = do
  _ ← slot_field path d
  _ ← stands path (takes_slot parent && before.slots == 0) levels before
  _ ← only_fields path (codes "slot" ∷ []) d
  Ok slot

-- a text
unfoldable pub text_at : ℕ → Option ShapeKind → Before → List ℕ → List ℕ → Result (Form Patterns) FormFault
text_at levels parent before path scalars = do
  _ ← stands path (takes_text parent) levels before
  Ok (text scalars)

-- the kind that the word of a type means
abbrev pub kind_of_type : List ℕ → Option ShapeKind
kind_of_type word = if bytes_eq word (codes "container") then Some Container
    else (if bytes_eq word (codes "empty") then Some Empty
    else (if bytes_eq word (codes "ui") then Some Ui else None))

-- the field `type` of a node: a container where it isn't there
unfoldable pub type_field : List ℕ → Data → Result ShapeKind FormFault
type_field path d = type_if (get (codes "type") d) where
  type_if : Option Data → Result ShapeKind FormFault
  type_if None = Ok Container
  type_if (Some found) = or_bad (field_path path (codes "type")) (option_and_then kind_of_type (as_str found))

-- an element's own fields
unfoldable pub head_at : Bool → List ℕ → Data → Result Head FormFault
head_at indexes path d = do
  name ← name_field path (codes "name") d
  kind ← type_field path d
  attributes ← patterns_field indexes path (codes "attributes") d
  Ok (record { kind = kind; name = name; attributes = attributes })

-- an element: its own fields, then its place, then its children, and then any other field
unfoldable pub element_at : Bool → Reader → ℕ → Option ShapeKind → Before → List ℕ → Data → Result (Form Patterns) FormFault
element_at indexes reader levels parent before path d = do
  head ← head_at indexes path d
  _ ← stands path (takes_element parent head.kind) levels before
  children ← children_at reader (Some head.kind) (inside before) path d
  _ ← only_fields path (codes "name" ∷ codes "type" ∷ codes "attributes" ∷ codes "children" ∷ []) d
  Ok (element head.kind head.name head.attributes (forms_of children))

-- an object is a slot where `slot` is there, else an element
unfoldable pub object_node_at : Bool → Reader → ℕ → Option ShapeKind → Before → List ℕ → Data → Result (Form Patterns) FormFault
object_node_at indexes reader levels parent before path d =
    if is_some (get (codes "slot") d) then slot_at levels parent before path d else element_at indexes reader levels parent before path d

-- a node on the first of so many levels that are left; the reader is that of a node on the next level
unfoldable pub node_of : Bool → Reader → ℕ → Reader
node_of indexes reader levels parent before path null = Err (BadField path)
node_of indexes reader levels parent before path (boolean truth) = Err (BadField path)
node_of indexes reader levels parent before path (number n) = Err (BadField path)
node_of indexes reader levels parent before path (string scalars) = text_at levels parent before path (chars scalars)
node_of indexes reader levels parent before path (array items) = Err (BadField path)
node_of indexes reader levels parent before path (object fields) = object_node_at indexes reader levels parent before path (object fields)

-- where no level is left, there is no next one
abbrev pub no_reader : Reader
no_reader parent before path d = Err (BadField path)

-- a node on a level below which so many are left
unfoldable pub node_at : Bool → ℕ → Reader
node_at indexes zero = node_of indexes no_reader 0
node_at indexes (suc levels) = node_of indexes (node_at indexes levels) (suc levels)

-- the reader of a node on the next level
unfoldable pub below : Bool → ℕ → Reader
below indexes zero = no_reader
below indexes (suc levels) = node_at indexes levels

-- a shape by its outermost node, which is on the first of 8 levels and which nothing comes before
unfoldable pub shape_at : Bool → List ℕ → Data → Result (Form Patterns) FormFault
shape_at indexes path d = node_at indexes 8 None (record { nodes = 0; slots = 0 }) path d
