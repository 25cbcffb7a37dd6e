-- The selected blocks of a document. (After `Selection.getSelectedBlocks` of CKEditor 5.)
use Rattle.std.specs.Prelude.{ℕ, ◌+◌, List, [], ◌∷◌, ◌++◌, map, filter, Bool, true, false, not, ◌&&◌, Option, Some, option_and_then, unwrap_or, slice_get}
use Rattle.std.specs.Prelude.{codes}
use Rattle.std.specs.Option.{option_map_or}
use Rattle.std.specs.List.{list_any, list_all, range_with_len}
use Rattle.std.specs.Str.{bytes_eq}
use Rattle.item_definitions.specs.Item.{Item}
use Rattle.item_definitions.specs.Children.{parent_of, item_at, child_count, walk}
use Rattle.item_definitions.specs.Position.{Range, not_after, behind}
use Rattle.schema_definitions.specs.Allowed.{Rules, check_child, is_block, is_object}
use Rattle.breach_definitions.specs.Obeys.{ancestors_at}
use Rattle.document_definitions.specs.Selection.{same_position}
use Rattle.edit_definitions.specs.Places.{is_element}
use Rattle.edit_definitions.specs.Planned.{name_of}
use Rattle.command_definitions.specs.Places.{is_element_of, allows}

-- the name of the element at a path, which for the empty path is the root's: None where no element stands there
abbrev pub name_at : List Item → List ℕ → Option (List ℕ)
name_at items [] = Some (codes "$root")
name_at items (index ∷ path) = option_and_then name_of (item_at (index ∷ path) items)

-- the element at a path has this name
abbrev pub has_name : List Item → List ℕ → List ℕ → Bool
has_name items name path = option_map_or (bytes_eq name) (name_at items path) false

-- the paths of all elements, the root first, in document order
abbrev pub elements : List Item → List (List ℕ)
elements items = [] ∷ filter (is_element items) (map (λ entry. entry.0) (walk items))

-- all positions whose parent is the element at a path
abbrev pub positions_in : List Item → List ℕ → List (List ℕ)
positions_in items path = map (λ offset. path ++ offset ∷ []) (range_with_len 0 (unwrap_or (child_count items path) 0 + 1))

-- a position is from the start of a range to its end
abbrev pub is_from_start_to_end : Range → List ℕ → Bool
is_from_start_to_end range position = not_after range.start position && not_after position range.end

-- a block that is no object stands at a path, and is the parent of a position from the start of a range to its end
abbrev pub is_selected_block : Rules → List Item → Range → List ℕ → Bool
is_selected_block rules items range path =
    option_map_or (λ name. is_block rules name && not (is_object rules name)) (name_at items path) false
    && list_any (is_from_start_to_end range) (positions_in items path)

-- the paths of the selected blocks, in document order
abbrev pub selected_blocks : Rules → List Item → Range → List (List ℕ)
selected_blocks rules items range = filter (is_selected_block rules items range) (elements items)

-- the first of some blocks passes a test
abbrev pub first_passes : (List ℕ → Bool) → List (List ℕ) → Bool
first_passes test blocks = option_map_or test (slice_get blocks 0) false

-- each of some blocks stands directly behind the one before it, in one parent
abbrev pub are_neighbours : List (List ℕ) → Bool
are_neighbours [] = true
are_neighbours (path ∷ []) = true
are_neighbours (path ∷ next ∷ paths) = same_position next (behind path) && are_neighbours (next ∷ paths)

-- the element at a path may stand in a new element of this name that takes its place
abbrev pub may_stand_in : Rules → List Item → List ℕ → List ℕ → Bool
may_stand_in rules items name path =
    option_map_or (check_child rules (ancestors_at path items ++ name ∷ [])) (name_at items path) false

-- blocks are neighbours in one parent that allows an element of this name, and each may stand in it
abbrev pub may_be_wrapped : Rules → List Item → List ℕ → List (List ℕ) → Bool
may_be_wrapped rules items name blocks =
    are_neighbours blocks && first_passes (λ first. allows rules items first name) blocks && list_all (may_stand_in rules items name) blocks

-- the parent of the first of some blocks is an element other than the root, and has this name
abbrev pub are_wrapped : List Item → List ℕ → List (List ℕ) → Bool
are_wrapped items name blocks = first_passes (λ first. is_element_of (bytes_eq name) items (parent_of first)) blocks
