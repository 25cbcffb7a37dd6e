-- Where a new element takes the place of the selected content. (After `Model.insertObject` of CKEditor 5.)
use Rattle.std.specs.Prelude.{ℕ, List, [], ◌∷◌, ◌++◌, Bool, ◌&&◌, ◌||◌, ◌==◌, if◌then◌else◌, Option, Some, unwrap_or}
use Rattle.item_definitions.specs.Item.{Item}
use Rattle.item_definitions.specs.Children.{parent_of, offset_of, child_count}
use Rattle.item_definitions.specs.Position.{behind}
use Rattle.schema_definitions.specs.Allowed.{Rules, is_inline_object}
use Rattle.edit_definitions.specs.declared.edit.Edit.{Edit}
use Rattle.edit_definitions.specs.declared.edit.Edit.TheVariants.{InsertElement, Split}
use Rattle.command_definitions.specs.Places.{is_plain_block_at, allows}
use Rattle.command_definitions.specs.Deleting.{item_selected, when}

-- the element comes in at a position, and is selected unless it is an object in the text
abbrev pub placed_here : Rules → List ℕ → List ℕ → List Edit
placed_here rules name at = InsertElement at name [] ∷ (if is_inline_object rules name then [] else item_selected at ∷ [])

-- a position is at the end of its parent
abbrev pub is_at_end : List Item → List ℕ → Bool
is_at_end items at = offset_of at == unwrap_or (child_count items (parent_of at)) 0

-- where the element comes in beside the block that a position is in: before it where the position is at its start, else behind it
abbrev pub beside : List ℕ → List ℕ
beside at = if offset_of at == 0 then parent_of at else behind (parent_of at)

-- the element comes in beside that block, which is split where the position is at neither end, and is selected
abbrev pub placed_beside : List Item → List ℕ → List ℕ → List Edit
placed_beside items name at =
    (if (offset_of at == 0) || is_at_end items at then [] else Split at ∷ []) ++ (InsertElement (beside at) name [] ∷ item_selected (beside at) ∷ [])

-- the element comes in at a position where its parent allows it; else beside that parent, where this is a block and no limit, and the element
-- may stand where it stands. None where it finds no place.
abbrev pub placed : Rules → List Item → List ℕ → List ℕ → Option (List Edit)
placed rules items name at =
    if allows rules items at name then Some (placed_here rules name at)
    else when (is_plain_block_at rules items (parent_of at) && allows rules items (parent_of at) name) (placed_beside items name at)
