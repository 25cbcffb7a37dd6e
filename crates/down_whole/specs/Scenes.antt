-- What of a document the program shows beside its items.
use Rattle.std.specs.Prelude.{◌≡◌, ℕ, List, [], ◌∷◌, map, Bool, Option, Some, None, option_map, if◌then◌else◌}
use Rattle.std.specs.List.{filter_map}
use Rattle.item_definitions.specs.Position.{Range}
use Rattle.document_definitions.specs.Markers.{Markers}
use Rattle.view_definitions.specs.Row.{Entry}
use Rattle.converter_definitions.specs.declared.stock.Leaf.{Leaf}
use Rattle.converter_definitions.specs.Gives.{Conversion}
use Rattle.converter_definitions.specs.Layers.{leaf_of, character_layers}
use Rattle.view_definitions.specs.Layer.{Layer}
use Rattle.item_definitions.specs.Item.{Attributes}
use Rattle.downcast_definitions.specs.Scene as scene
use Rattle.downcast_definitions.specs.Scene.{Numbers, leaf_entry}
use Rattle.down_whole.specs.declared.scene.MarkerLeaf.{MarkerLeaf}
use Rattle.down_whole.specs.declared.scene.Scene.{Scene}
use Rattle.down_whole.specs.Viewed.{caret_view}

-- the markers that have a leaf, each with its range
abbrev pub with_leaves : Conversion → Markers → List (Range × Leaf)
with_leaves conversion markers = filter_map (λ marker. option_map (λ view. (marker.1, view)) (leaf_of conversion.converters marker.0)) markers

-- the leaves of those whose ranges pass a test
abbrev pub chosen_leaves : (Range → Bool) → List (Range × Leaf) → List Entry
chosen_leaves test [] = []
chosen_leaves test (marked ∷ rest) = if test marked.0 then leaf_entry marked.1 ∷ chosen_leaves test rest else chosen_leaves test rest

-- the leaves that a scene has, each with its range
abbrev pub marked : List MarkerLeaf → List (Range × Leaf)
marked leaves = map (λ one. (one.range.now, one.view.now)) leaves

-- its caret
abbrev pub scene_caret : Scene → Option scene.Caret
scene_caret scene = option_map (λ here. caret_view here.now) scene.caret

-- the scene by these converters, its view elements numbered so
abbrev pub scene_with : Conversion → Scene → Numbers → scene.Scene
scene_with conversion scene numbers =
    record { conversion = conversion; markers = scene.markers.now; caret = scene_caret scene; numbers = numbers }

-- whether a scene has the leaves that these converters give its markers
abbrev pub HasLeaves : Conversion → Scene → Type 0
HasLeaves conversion scene = marked scene.leaves.items ≡ with_leaves conversion scene.markers.now

-- whether these are the layers of a character with these attributes that these markers cover, if they are known
abbrev pub HasLayers : Conversion → Attributes → Option (List (List ℕ)) → List Layer → Type 0
HasLayers conversion attributes None layers = Unit {0}
HasLayers conversion attributes (Some covering) layers = layers ≡ character_layers conversion attributes covering
