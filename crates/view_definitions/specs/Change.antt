-- What one layer more or less makes of lists of layers, of entries and of rows.
use Rattle.std.specs.Prelude.{◌≡◌, ℕ, ◌-◌, List, [], ◌∷◌, ◌++◌, map, take, drop, Bool, true, false, not, if◌then◌else◌}
use Rattle.std.specs.List.{filter, list_any}
use Rattle.std.specs.declared.cmp.Ordering.{Ordering}
use Rattle.std.specs.declared.cmp.Ordering.TheVariants.{Less, Equal, Greater}
use Rattle.view_definitions.specs.Layer.{Layer, layer_cmp, same_layer}
use Rattle.view_definitions.specs.Row.{Content, leaf, item, character, caret, Entry}

-- one of three, by how two things compare
abbrev pub by_order : {A : Type 0} → Ordering → A → A → A → A
by_order Less less equal greater = less
by_order Equal less equal greater = equal
by_order Greater less equal greater = greater

-- whether this layer stands outside each of these
abbrev pub IsOutside : Layer → List Layer → Type 0
IsOutside layer [] = Unit {0}
IsOutside layer (other ∷ layers) = (layer_cmp layer other ≡ Less) × IsOutside layer layers

-- layers in their order, the outermost first, equal ones once
abbrev pub IsInOrder : List Layer → Type 0
IsInOrder [] = Unit {0}
IsInOrder (layer ∷ layers) = IsOutside layer layers × IsInOrder layers

-- whether a layer is among these
abbrev pub has_layer : Layer → List Layer → Bool
has_layer layer layers = list_any (same_layer layer) layers

-- these layers with one more at its place in their order; where it is among them they stay
abbrev pub with_layer : Layer → List Layer → List Layer
with_layer layer [] = layer ∷ []
with_layer layer (other ∷ layers) =
    by_order (layer_cmp other layer) (other ∷ with_layer layer layers) (other ∷ layers) (layer ∷ other ∷ layers)

-- these layers without one
abbrev pub without_layer : Layer → List Layer → List Layer
without_layer layer layers = filter (λ other. not (same_layer layer other)) layers

-- whether an entry stands for an item of the model: a character or an element
abbrev pub is_item : Content → Bool
is_item (leaf node) = false
is_item (item node) = true
is_item (character scalar) = true
is_item caret = false

-- an entry in one layer more, if it is an item
abbrev pub entry_with : Layer → Entry → Entry
entry_with layer entry = if is_item entry.content then record entry { layers = with_layer layer entry.layers } else entry

-- an entry without a layer
abbrev pub entry_without : Layer → Entry → Entry
entry_without layer entry = record entry { layers = without_layer layer entry.layers }

-- leaves have no layers
abbrev pub IsBareLeaf : Content → List Layer → Type 0
IsBareLeaf (leaf node) layers = layers ≡ []
IsBareLeaf (item node) layers = Unit {0}
IsBareLeaf (character scalar) layers = Unit {0}
IsBareLeaf caret layers = Unit {0}

-- in a whole row
abbrev pub HasBareLeaves : List Entry → Type 0
HasBareLeaves [] = Unit {0}
HasBareLeaves (entry ∷ row) = IsBareLeaf entry.content entry.layers × HasBareLeaves row

-- a row with this change of each entry from a start on and before an end
abbrev pub changed_range : (Entry → Entry) → ℕ → ℕ → List Entry → List Entry
changed_range change start end row = take start row ++ (map change (take (end - start) (drop start row)) ++ drop end row)
