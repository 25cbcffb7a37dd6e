-- What is made of items: their entries in the row, and the bindings of the elements among them and in them.
use Rattle.std.specs.Prelude.{◌≡◌, ℕ, ◌+◌, List, [], ◌∷◌, ◌++◌, length, Option, Some, None}
use Rattle.item_definitions.specs.Item.{Item, Attributes, items_of}
use Rattle.document_definitions.specs.Markers.{covering}
use Rattle.view_definitions.specs.Node.{ViewNode}
use Rattle.view_definitions.specs.Row.{Entry, nest}
use Rattle.converter_definitions.specs.Layers.{character_layers}
use Rattle.downcast_definitions.specs.Scene.{Scene, Caret, boundary}
use Rattle.downcast_definitions.specs.Rows.{row_of}
use Rattle.pos_mapper.specs.Bindings.{CaretPlace, Mapper}
use Rattle.down_whole.specs.Between.{between, caret_at}
use Rattle.down_whole.specs.Written.{Written, with_row, character_in}
use Rattle.down_whole.specs.Front.{elements_within, front_row}
use Rattle.down_whole.specs.Bound.{elements_among, bindings_among, Agree, with_bindings}
use Rattle.down_whole.specs.Found.{found_here, found_among}

-- characters of the same attributes, each behind what stands before it
abbrev pub run_row : Scene → List ℕ → ℕ → Attributes → List ℕ → List Entry
run_row scene path offset attributes [] = []
run_row scene path offset attributes (scalar ∷ scalars) =
    boundary scene (path ++ offset ∷ [])
    ++ (character_in (character_layers scene.conversion attributes (covering (path ++ offset ∷ []) scene.markers)) scalar
    ∷ run_row scene path (offset + 1) attributes scalars)

-- items of a parent, from an offset on, before which so many elements stand in it, where so many numbers were drawn
pub record Stretch : Type 0 where
  pub parent : List ℕ
  pub path : List ℕ
  pub offset : ℕ
  pub before : ℕ
  pub drawn : ℕ

-- what stands behind items of it
abbrev pub behind_items : Stretch → List Item → Stretch
behind_items at list = record at {
  offset = at.offset + length list;
  before = at.before + elements_within list;
  drawn = at.drawn + elements_among (items_of list);
}

-- all that is in an element with this name and at this path, where so many numbers were drawn
abbrev pub whole : List ℕ → List ℕ → ℕ → Stretch
whole parent path drawn = record { parent = parent; path = path; offset = 0; before = 0; drawn = drawn }

-- what is written of the row and bound, before or after items
pub record Stage : Type 0 where
  pub row : Written
  pub mapper : Mapper

-- the stage after items
abbrev pub after_items : Scene → Stretch → List Item → Stage → Stage
after_items scene at list stage = record {
  row = with_row (front_row scene at.parent at.path at.offset at.before list) stage.row;
  mapper = record (with_bindings (bindings_among scene.conversion at.parent at.before at.drawn (items_of list)) stage.mapper) {
    caret = found_among scene at.path at.offset (items_of list) stage.mapper.caret;
  };
}

-- The items were made: where the view elements have the numbers that are bound
abbrev pub Made : Scene → Stretch → List Item → Stage → Stage → Type 0
Made scene at list old new =
    Agree scene.numbers (bindings_among scene.conversion at.parent at.before at.drawn (items_of list)) → new ≡ after_items scene at list old

-- the content of an element was made
abbrev pub MadeContent : Scene → List ℕ → List ℕ → ℕ → List Item → List ViewNode → Mapper → Mapper → Type 0
MadeContent scene parent path drawn list nodes old new =
    Agree scene.numbers (bindings_among scene.conversion parent 0 drawn (items_of list))
    → (nodes ≡ nest (row_of scene parent path list))
    × (new ≡ record (with_bindings (bindings_among scene.conversion parent 0 drawn (items_of list)) old) {
      caret = found_here scene parent path list scene.caret (found_among scene path 0 (items_of list) old.caret);
    })

-- the nodes of a row that is written: the caret, if there is one, stands between those before it and those behind it
abbrev pub around_front : Caret → Option (List ViewNode) → List ViewNode → List ViewNode
around_front here None nodes = nodes
around_front here (Some front) nodes = between front here.layers nodes

-- the nodes of a row with or without a caret
abbrev pub finished : Option Caret → Written → List ViewNode
finished None written = written.nodes
finished (Some here) written = around_front here written.front written.nodes

-- where the caret is seen in a row that is written, if it is there, or else this place
abbrev pub place_found : Caret → Option (List ViewNode) → List ViewNode → Option CaretPlace → Option CaretPlace
place_found here None nodes found = found
place_found here (Some front) nodes found = Some (record { at = here.at; place = caret_at front here.layers nodes })

-- the same for a row with or without a caret
abbrev pub caret_found : Option Caret → Written → Option CaretPlace → Option CaretPlace
caret_found None written found = found
caret_found (Some here) written found = place_found here written.front written.nodes found
