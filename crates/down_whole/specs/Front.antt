-- The rows of items in a list, up to the boundary behind them.
use Rattle.std.specs.Prelude.{ℕ, ◌+◌, List, [], ◌∷◌, ◌++◌}
use Rattle.item_definitions.specs.Item.{Item}
use Rattle.view_definitions.specs.Row.{Entry}
use Rattle.downcast_definitions.specs.Scene.{Scene, boundary}
use Rattle.downcast_definitions.specs.Rows.{elements_in, entry_of}

-- how many elements are directly in a list
abbrev pub elements_within : List Item → ℕ
elements_within [] = 0
elements_within (item ∷ list) = elements_in item + elements_within list

-- each boundary from an offset on, and behind it the item
abbrev pub front_row : Scene → List ℕ → List ℕ → ℕ → ℕ → List Item → List Entry
front_row scene parent path offset before [] = []
front_row scene parent path offset before (item ∷ list) =
    boundary scene (path ++ offset ∷ []) ++ (entry_of scene parent (path ++ offset ∷ []) before item
    ∷ front_row scene parent path (offset + 1) (before + elements_in item) list)
