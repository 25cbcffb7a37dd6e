-- What of a document the view shows beside its items: the markers, and the caret.
use Rattle.std.specs.Prelude.{ℕ, List, [], ◌∷◌, ◌++◌, Bool, false, ◌&&◌, not, Option, Some, None, option_map, if◌then◌else◌}
use Rattle.std.specs.List.{filter, filter_map}
use Rattle.std.specs.Map.{keys_of}
use Rattle.std.specs.Cmp.Lexicographic.{pointwise}
use Rattle.item_definitions.specs.Item.{Attributes}
use Rattle.item_definitions.specs.Position.{Range, is_before}
use Rattle.document_definitions.specs.Document.{Document}
use Rattle.document_definitions.specs.Markers.{Markers}
use Rattle.document_definitions.specs.Selection.{same_position, is_collapsed, attributes, natural}
use Rattle.view_definitions.specs.Node.{ViewNode, ui, element, none}
use Rattle.view_definitions.specs.Layer.{Layer, same_layer}
use Rattle.view_definitions.specs.Row.{Entry, leaf, caret}
use Rattle.converter_definitions.specs.declared.stock.Leaf.{Leaf}
use Rattle.converter_definitions.specs.Gives.{Conversion}
use Rattle.converter_definitions.specs.Layers.{character_layers, leaf_of}

-- where the caret stands, and the layers that it is in
pub record Caret : Type 0 where
  pub at : List ℕ
  pub layers : List Layer

-- the number of the view element of an element of the document, by the element's id: None where it has none
abbrev pub Numbers : Type 0
Numbers = ℕ → Option ℕ

-- no numbers
abbrev pub unnumbered : Numbers
unnumbered id = None

-- the converters, the markers, the caret, if there is one, and the numbers of view elements
pub record Scene : Type 0 where
  pub conversion : Conversion
  pub markers : Markers
  pub caret : Option Caret
  pub numbers : Numbers

-- the names of the markers that start before a position and end behind it
abbrev pub strictly_around : List ℕ → Markers → List (List ℕ)
strictly_around position markers = keys_of (filter (λ marker. is_before marker.1.start position && is_before position marker.1.end) markers)

-- the layers of a character with these attributes that would be typed at a position
abbrev pub typed_layers : Conversion → Markers → List ℕ → Attributes → List Layer
typed_layers conversion markers position attributes = character_layers conversion attributes (strictly_around position markers)

-- whether two lists of layers are equal
abbrev pub same_layers : List Layer → List Layer → Bool
same_layers = pointwise same_layer

-- The caret: it stands at a collapsed selection exactly where a character with the selection's attributes has other layers there than one with
-- the attributes that the text gives.
abbrev pub caret_of : Conversion → Document → Option Caret
caret_of conversion document =
    let at = document.selection.range.start in
    let layers = typed_layers conversion document.markers at (attributes document.items document.selection) in
    let plain = typed_layers conversion document.markers at (natural document.items document.selection) in
    if is_collapsed document.selection.range && not (same_layers layers plain) then Some (record { at = at; layers = layers }) else None

-- a document with its view elements numbered
abbrev pub numbered_scene : Numbers → Conversion → Document → Scene
numbered_scene numbers conversion document =
    record { conversion = conversion; markers = document.markers; caret = caret_of conversion document; numbers = numbers }

-- a document without numbers
abbrev pub scene_of : Conversion → Document → Scene
scene_of conversion document = numbered_scene unnumbered conversion document

-- the UI element of a marker's end
abbrev pub leaf_node : Leaf → ViewNode
leaf_node view = element (record { kind = ui; name = view.name; attributes = view.attrs; number = None; changes = 0 }) none

-- its entry, without layers
abbrev pub leaf_entry : Leaf → Entry
leaf_entry view = record { content = leaf (leaf_node view); layers = [] }

-- the leaves of the markers whose ranges pass a test, by name
abbrev pub leaves : Scene → (Range → Bool) → List Entry
leaves scene test = filter_map (λ marker. if test marker.1 then option_map leaf_entry (leaf_of scene.conversion.converters marker.0) else None) scene.markers

-- a collapsed range only starts
abbrev pub ends_at : List ℕ → Range → Bool
ends_at position range = same_position range.end position && not (is_collapsed range)

-- whether a range starts at a position
abbrev pub starts_at : List ℕ → Range → Bool
starts_at position range = same_position range.start position

-- whether the caret stands at a position
abbrev pub has_caret : Option Caret → List ℕ → Bool
has_caret None position = false
has_caret (Some here) position = same_position here.at position

-- the entry of the caret, in its layers
abbrev pub caret_entry : Caret → Entry
caret_entry here = record { content = caret; layers = here.layers }

-- the entry of the caret, where it stands at a position
abbrev pub carets : Option Caret → List ℕ → List Entry
carets None position = []
carets (Some here) position = if same_position here.at position then caret_entry here ∷ [] else []

-- what stands at a position: the leaves that end there, those that start there, and the caret
abbrev pub boundary : Scene → List ℕ → List Entry
boundary scene position = leaves scene (ends_at position) ++ (leaves scene (starts_at position) ++ carets scene.caret position)
