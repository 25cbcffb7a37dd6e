-- Deletion of the selected content, or of what stands before or behind a caret. (After `Model.deleteContent` and `DeleteCommand` of CKEditor 5.)
use Rattle.std.specs.Prelude.{ℕ, List, [], ◌∷◌, ◌++◌, Bool, true, false, ◌&&◌, nat_lt, ◌==◌, if◌then◌else◌, Option, Some, None, is_some, unwrap_or}
use Rattle.std.specs.Prelude.{option_and_then}
use Rattle.std.specs.Option.{option_or}
use Rattle.item_definitions.specs.Item.{Item}
use Rattle.item_definitions.specs.Children.{parent_of, offset_of, child_count}
use Rattle.item_definitions.specs.Position.{Range, behind}
use Rattle.item_definitions.specs.Shift.{forward}
use Rattle.schema_definitions.specs.Allowed.{Rules}
use Rattle.document_definitions.specs.Selection.{is_collapsed, character_at, before}
use Rattle.edit_definitions.specs.declared.edit.Edit.{Edit}
use Rattle.edit_definitions.specs.declared.edit.Edit.TheVariants.{Remove, Merge, Select}
use Rattle.edit_definitions.specs.Places.{are_in_one}
use Rattle.command_definitions.specs.Places.{is_object_at, is_plain_block_at, is_before_it, backward}
use Rattle.command_definitions.specs.Clusters.{text_before, text_behind, first_cluster, last_cluster}

-- the ends of a range are in two blocks of one parent that are no limits, the start in the one before
abbrev pub joins_blocks : Rules → List Item → Range → Bool
joins_blocks rules items range = are_in_one (parent_of range.start) (parent_of range.end)
    && nat_lt (offset_of (parent_of range.start)) (offset_of (parent_of range.end))
    && is_plain_block_at rules items (parent_of range.start) && is_plain_block_at rules items (parent_of range.end)

-- the content of a range goes; what is left of two such blocks is merged, where their rests are neighbours then
abbrev pub content_deleted : Rules → List Item → Range → List Edit
content_deleted rules items range =
    Remove range.start range.end ∷ (if joins_blocks rules items range then Merge (behind (parent_of range.start)) ∷ [] else [])

-- the same, but nothing where the range is collapsed
abbrev pub selected_deleted : Rules → List Item → Range → List Edit
selected_deleted rules items range = if is_collapsed range then [] else content_deleted rules items range

-- the caret goes to a position
abbrev pub caret_at : List ℕ → Edit
caret_at position = Select position position false

-- the item at a path is selected
abbrev pub item_selected : List ℕ → Edit
item_selected path = Select path (behind path) false

-- edits under a condition
abbrev pub when : Bool → List Edit → Option (List Edit)
when true edits = Some edits
when false edits = None

-- From an end of a block that is no limit its neighbour is reached: an object is selected, and another such block is merged with the block, by the
-- merge at this position. Nothing else is reached.
abbrev pub neighbour_reached : Rules → List Item → List ℕ → List ℕ → Option (List Edit)
neighbour_reached rules items neighbour merged_at =
    if is_object_at rules items neighbour then Some (item_selected neighbour ∷ [])
    else when (is_plain_block_at rules items neighbour) (Merge merged_at ∷ [])

-- the position is at the start of a block that is no limit
abbrev pub starts_block : Rules → List Item → List ℕ → Bool
starts_block rules items caret = (offset_of caret == 0) && is_plain_block_at rules items (parent_of caret)

-- the position is at the end of such a block
abbrev pub ends_block : Rules → List Item → List ℕ → Bool
ends_block rules items caret = (offset_of caret == unwrap_or (child_count items (parent_of caret)) 0) && is_plain_block_at rules items (parent_of caret)

-- a character stands at a path
abbrev pub is_character_at : List Item → List ℕ → Bool
is_character_at items path = is_some (character_at items path)

-- What goes from before a caret: the last cluster of the text there; or an object; or, at the start of a block, its left neighbour is reached.
-- None where there is nothing of the kind.
abbrev pub deleted_backward : Rules → List Item → List ℕ → Option (List Edit)
deleted_backward rules items caret =
    option_or (when (is_before_it (is_character_at items) caret) (Remove (backward (last_cluster (text_before items caret)) caret) caret ∷ []))
    (option_or (when (is_before_it (is_object_at rules items) caret) (Remove (backward 1 caret) caret ∷ []))
    (if starts_block rules items caret
    then option_and_then (λ neighbour. neighbour_reached rules items neighbour (parent_of caret)) (before (parent_of caret)) else None))

-- What goes from behind a caret: the first cluster of the text there; or an object; or, at the end of a block, its right neighbour is reached.
abbrev pub deleted_forward : Rules → List Item → List ℕ → Option (List Edit)
deleted_forward rules items caret =
    option_or (when (is_character_at items caret) (Remove caret (forward (first_cluster (text_behind items caret)) caret) ∷ []))
    (option_or (when (is_object_at rules items caret) (Remove caret (behind caret) ∷ []))
    (if ends_block rules items caret
    then neighbour_reached rules items (behind (parent_of caret)) (behind (parent_of caret)) else None))

-- what a deletion does to a selection, where `at_caret` says what goes at a caret: selected content goes, and the caret is at its start
abbrev pub deletion : (Rules → List Item → List ℕ → Option (List Edit)) → Rules → List Item → Range → Option (List Edit)
deletion at_caret rules items range =
    if is_collapsed range then at_caret rules items range.start
    else Some (content_deleted rules items range ++ caret_at range.start ∷ [])
