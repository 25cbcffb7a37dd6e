-- Where the caret is found while the contents of elements are made.
use Rattle.std.specs.Prelude.{ℕ, ◌+◌, List, [], ◌∷◌, ◌++◌, length, nat_le, ◌&&◌, Bool, Option, Some, None, if◌then◌else◌}
use Rattle.item_definitions.specs.Item.{Item, Items, character, element, none, more, list_of}
use Rattle.item_definitions.specs.Children.{parent_of, offset_of}
use Rattle.document_definitions.specs.Selection.{same_position}
use Rattle.downcast_definitions.specs.Scene.{Caret, Scene}
use Rattle.downcast_definitions.specs.Seen.{boundary_place}
use Rattle.pos_mapper.specs.Bindings.{CaretPlace}

-- whether a position is in the content of the element at a path, which has so many items
abbrev pub is_in_content : List ℕ → ℕ → List ℕ → Bool
is_in_content path count position = same_position (parent_of position) path && nat_le (offset_of position) count

-- the caret in the content of the element at a path, if it is there, or else this place
abbrev pub found_here : Scene → List ℕ → List ℕ → List Item → Option Caret → Option CaretPlace → Option CaretPlace
found_here scene name path list None found = found
found_here scene name path list (Some here) found =
    if is_in_content path (length list) here.at then Some (record { at = here.at; place = boundary_place scene name path list (offset_of here.at) }) else found

abbrev mutual
  -- the caret in the element at a path and those in it, or else this place
  pub found_in_item : Scene → List ℕ → Item → Option CaretPlace → Option CaretPlace
  found_in_item scene path (character scalar attributes) found = found
  found_in_item scene path (element id name attributes children) found =
      found_here scene name path (list_of children) scene.caret (found_among scene path 0 children found)

  -- the same for items from an offset on
  pub found_among : Scene → List ℕ → ℕ → Items → Option CaretPlace → Option CaretPlace
  found_among scene path offset none found = found
  found_among scene path offset (more item rest) found =
      found_among scene path (offset + 1) rest (found_in_item scene (path ++ offset ∷ []) item found)
