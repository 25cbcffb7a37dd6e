-- What the fixer of the selection wants of it.
use Rattle.std.specs.Prelude.{ℕ, ◌+◌, List, [], ◌∷◌, ◌++◌, reverse, Bool, false, ◌&&◌, ◌||◌, Option, Some, None, find, codes, if◌then◌else◌}
use Rattle.std.specs.Option.{option_or, option_map_or}
use Rattle.item_definitions.specs.Item.{Item, Items, character, element, none, more, items_of}
use Rattle.item_definitions.specs.Children.{item_at}
use Rattle.item_definitions.specs.Position.{Range, behind, not_after, is_before}
use Rattle.document_definitions.specs.Selection.{Selection, same_position}
use Rattle.schema_definitions.specs.Allowed.{Rules, check_child, is_selectable}
use Rattle.breach_definitions.specs.Obeys.{ancestors_at}
use Rattle.edit_definitions.specs.declared.edit.Edit.{Edit}
use Rattle.edit_definitions.specs.declared.edit.Edit.TheVariants.{Select}
use Rattle.fix_definitions.specs.declared.stock.StockFixer.{StockFixer}
use Rattle.fix_definitions.specs.declared.stock.StockFixer.TheVariants.{DropAttributes, Fill, JoinNeighbours, RemoveEmpty, Require, SelectionPlace}

abbrev mutual
  -- the positions in an item, in document order
  pub positions_in : List ℕ → Item → List (List ℕ)
  positions_in path (character scalar attributes) = []
  positions_in path (element id name attributes children) = positions_from path 0 children

  -- the positions from an offset on in the element at a path, in document order: before each of these items those in it follow, and the
  -- last one is behind all items
  pub positions_from : List ℕ → ℕ → Items → List (List ℕ)
  positions_from path offset none = (path ++ offset ∷ []) ∷ []
  positions_from path offset (more item items) = (path ++ offset ∷ []) ∷ positions_in (path ++ offset ∷ []) item ++ positions_from path (offset + 1) items

-- all positions of a document, in document order
abbrev pub positions : List Item → List (List ℕ)
positions items = positions_from [] 0 (items_of items)

-- text may stand at a position
abbrev pub may_hold_text : Rules → List Item → List ℕ → Bool
may_hold_text rules items position = check_child rules (ancestors_at position items) (codes "$text")

-- an element that can be selected
abbrev pub is_selectable_item : Rules → Item → Bool
is_selectable_item rules (character scalar attributes) = false
is_selectable_item rules (element id name attributes children) = is_selectable rules name

-- a range goes from the position before one item to the position behind that same item, and the item is an element that can be selected
abbrev pub is_round_selectable : Rules → List Item → Range → Bool
is_round_selectable rules items range =
    same_position range.end (behind range.start) && option_map_or (is_selectable_item rules) (item_at range.start items) false

-- a range may be selected: text may stand at both ends, or it is round one element that can be selected
abbrev pub may_be_selected : Rules → List Item → Range → Bool
may_be_selected rules items range =
    (may_hold_text rules items range.start && may_hold_text rules items range.end) || is_round_selectable rules items range

-- the first position from a given one on where text may stand, or else the last one before it
abbrev pub nearest_text : Rules → List Item → List ℕ → Option (List ℕ)
nearest_text rules items start =
    option_or (find (λ position. may_hold_text rules items position && not_after start position) (positions items))
    (find (λ position. may_hold_text rules items position && is_before position start) (reverse (positions items)))

-- a position is selected, if there is one
abbrev pub selecting_at : Option (List ℕ) → List Edit
selecting_at None = []
selecting_at (Some position) = Select position position false ∷ []

-- the place of the selection, where the range that is selected may not be
abbrev pub selection_placed : Rules → List Item → Range → List Edit
selection_placed rules items range = if may_be_selected rules items range then [] else selecting_at (nearest_text rules items range.start)

-- what a fixer wants of the selection
abbrev pub selection_wanted : Rules → StockFixer → List Item → Selection → List Edit
selection_wanted rules DropAttributes items selection = []
selection_wanted rules (Fill parent child) items selection = []
selection_wanted rules (JoinNeighbours name) items selection = []
selection_wanted rules (RemoveEmpty name) items selection = []
selection_wanted rules (Require parent child) items selection = []
selection_wanted rules SelectionPlace items selection = selection_placed rules items selection.range
