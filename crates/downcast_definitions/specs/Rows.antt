-- The rows of a document, and the view that they nest to.
use Rattle.std.specs.Prelude.{ℕ, ◌+◌, List, [], ◌∷◌, ◌++◌, Option, Some, None, unwrap_or, if◌then◌else◌, codes}
use Rattle.item_definitions.specs.Item.{Item, Items, Attributes, items_of}
use Rattle.item_definitions.specs.Item as items
use Rattle.document_definitions.specs.Document.{Document}
use Rattle.document_definitions.specs.Markers.{covering}
use Rattle.schema_definitions.specs.Names.{has}
use Rattle.view_definitions.specs.Node.{ViewNode}
use Rattle.view_definitions.specs.Node as nodes
use Rattle.view_definitions.specs.Layer.{Layer}
use Rattle.view_definitions.specs.Row.{Entry, item, character, nest}
use Rattle.converter_definitions.specs.declared.kind.ShapeKind.TheVariants.{Container}
use Rattle.converter_definitions.specs.declared.facts.Facts.{Facts}
use Rattle.converter_definitions.specs.Form.{slot, element, none, more}
use Rattle.converter_definitions.specs.Views.{filled}
use Rattle.converter_definitions.specs.Gives.{Conversion, Converted, converted}
use Rattle.converter_definitions.specs.Layers.{character_layers, object_layers}
use Rattle.downcast_definitions.specs.Scene.{Numbers, Scene, numbered_scene, scene_of, boundary}

-- an element counts among the elements of its parent, a character doesn't
abbrev pub elements_in : Item → ℕ
elements_in (items.character scalar attributes) = 0
elements_in (items.element id name attributes children) = 1

-- what converters look at of an element with this parent, before which this many elements stand
abbrev pub facts_of : Conversion → List ℕ → ℕ → List ℕ → Attributes → Facts
facts_of conversion parent before name attributes =
    record { name = name; attributes = attributes; parent = parent; index = if has conversion.indexed name then Some before else None }

-- an element that no converter makes a shape of would be a container of its own name; a document of a checked schema has none
abbrev pub unconverted : List ℕ → Converted
unconverted name = record { form = element Container name [] (more slot none); layers = [] }

-- what an element becomes
abbrev pub shape_at : Conversion → List ℕ → ℕ → List ℕ → Attributes → Converted
shape_at conversion parent before name attributes = unwrap_or (converted conversion (facts_of conversion parent before name attributes)) (unconverted name)

-- the layers of an element: only objects in the text have some
abbrev pub element_layers : Scene → List ℕ → List ℕ → List Layer → List Layer
element_layers scene path name own =
    if has scene.conversion.objects name then object_layers scene.conversion own (covering path scene.markers) else []

-- the first of the nodes that a shape is
abbrev pub only : List ViewNode → ViewNode
only [] = nodes.text []
only (node ∷ rest) = node

-- an element with this number; a text stays
abbrev pub with_number : Option ℕ → ViewNode → ViewNode
with_number number (nodes.text scalars) = nodes.text scalars
with_number number (nodes.element head children) = nodes.element (record head { number = number }) children

-- the node of an element as this shape, with its own row in the slot
abbrev pub element_node : Option ℕ → Converted → List Entry → ViewNode
element_node number made row = with_number number (only (filled (nest row) made.form))

-- its entry
abbrev pub element_entry : Scene → List ℕ → ℕ → List ℕ → Converted → List Entry → Entry
element_entry scene path id name made row =
    record { content = item (element_node (scene.numbers id) made row); layers = element_layers scene path name made.layers }

abbrev mutual
  -- the entry of the item at a path
  pub entry_of : Scene → List ℕ → List ℕ → ℕ → Item → Entry
  entry_of scene parent path before (items.character scalar attributes) =
      record { content = character scalar; layers = character_layers scene.conversion attributes (covering path scene.markers) }
  entry_of scene parent path before (items.element id name attributes children) =
      element_entry scene path id name (shape_at scene.conversion parent before name attributes) (inner_row scene name path 0 0 children)

  -- the row of items from an offset on, before the first of which this many elements stand: each boundary, and behind it the item
  pub inner_row : Scene → List ℕ → List ℕ → ℕ → ℕ → Items → List Entry
  inner_row scene parent path offset before items.none = boundary scene (path ++ offset ∷ [])
  inner_row scene parent path offset before (items.more first rest) =
      boundary scene (path ++ offset ∷ []) ++ (entry_of scene parent (path ++ offset ∷ []) before first
      ∷ inner_row scene parent path (offset + 1) (before + elements_in first) rest)

-- the row of the items of the element at a path
abbrev pub row_of : Scene → List ℕ → List ℕ → List Item → List Entry
row_of scene parent path list = inner_row scene parent path 0 0 (items_of list)

-- the view of a document whose view elements have these numbers
abbrev pub numbered_downcast : Numbers → Conversion → Document → List ViewNode
numbered_downcast numbers conversion document =
    nest (row_of (numbered_scene numbers conversion document) (codes "$root") [] document.items)

-- the view of a document, without numbers and counts of changes
abbrev pub downcast : Conversion → Document → List ViewNode
downcast conversion document = nest (row_of (scene_of conversion document) (codes "$root") [] document.items)
