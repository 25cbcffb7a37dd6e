-- What a deletion plans at the start of a block that can be merged into the one before.
use Rattle.std.proofs.Common.{◌≡◌, ℕ, Bool, true, false, not, ◌&&◌, ◌||◌, ◌==◌, if◌then◌else◌, List, [], ◌∷◌, ◌++◌, Option, Some, None, is_some, unwrap_or}
use Rattle.std.proofs.Common.{option_and_then, Ok, Err, refl, ap, ◌∙◌}
use Rattle.std.specs.Option.{option_map_or, option_or}
use Rattle.item_definitions.specs.Item.{Item}
use Rattle.item_definitions.specs.Children.{parent_of, offset_of, item_at}
use Rattle.schema_definitions.specs.Allowed.{Rules, is_block, is_limit, is_object}
use Rattle.document_definitions.specs.Selection.{is_collapsed, before}
use Rattle.document_definitions.specs.Document.{Document}
use Rattle.edit_definitions.specs.declared.edit.Edit.{Edit}
use Rattle.edit_definitions.specs.declared.edit.Edit.TheVariants.{Remove, Merge}
use Rattle.edit_definitions.specs.Planned.{name_of}
use Rattle.command_definitions.specs.declared.command.Command.TheVariants.{DeleteBackward}
use Rattle.command_definitions.specs.declared.command.CommandFault.TheVariants.{Disabled}
use Rattle.command_definitions.specs.Places.{is_object_at, is_plain_block_at, backward}
use Rattle.command_definitions.specs.Clusters.{text_before, last_cluster}
use Rattle.command_definitions.specs.Deleting.{when, is_character_at, neighbour_reached, item_selected, content_deleted, caret_at, deleted_backward, deletion}
use Rattle.command_definitions.specs.Table.{plan}

-- a block that is no limit is no object
pub plain-no-object : (rules : Rules) (items : List Item) (path : List ℕ) → is_plain_block_at rules items path ≡ true → is_object_at rules items path ≡ false
plain-no-object rules items path e = go (option_and_then name_of (item_at path items)) e
  where
    tests : (block limit object : Bool) → (block && not (limit || object)) ≡ true → object ≡ false
    tests block limit false e = refl
    tests true true true e = cc
    tests true false true e = cc
    tests false limit true e = cc

    go : (o : Option (List ℕ)) → option_map_or (λ name. is_block rules name && not (is_limit rules name)) o false ≡ true
        → option_map_or (is_object rules) o false ≡ false
    go None e = refl
    go (Some name) e = tests (is_block rules name) _ (is_object rules name) e

module _ (rules : Rules) (items : List Item) (caret parent left : List ℕ) (starts : (offset_of caret == 0) ≡ true) (in_parent : parent_of caret ≡ parent)
    (none_before : before caret ≡ None)
    (neighbour : before parent ≡ Some left) (plain : is_plain_block_at rules items parent ≡ true) (left_plain : is_plain_block_at rules items left ≡ true) where
  reached : neighbour_reached rules items left parent ≡ Some (Merge parent ∷ [])
  reached =
      ap (λ t. if t then Some (item_selected left ∷ []) else when (is_plain_block_at rules items left) (Merge parent ∷ []))
      (plain-no-object rules items left left_plain)
      ∙ ap (λ t. when t (Merge parent ∷ [])) left_plain

  -- the block is merged into its left neighbour
  pub merged-backward : deleted_backward rules items caret ≡ Some (Merge parent ∷ [])
  merged-backward =
      let cluster = Remove (backward (last_cluster (text_before items caret)) caret) caret ∷ [] in
      let object = Remove (backward 1 caret) caret ∷ [] in
      let rest : Option (List Edit) = if (offset_of caret == 0) && is_plain_block_at rules items (parent_of caret)
      then option_and_then (λ neighbour. neighbour_reached rules items neighbour (parent_of caret)) (before (parent_of caret)) else None in
      ap (λ (o : Option (List ℕ)). option_or (when (option_map_or (is_character_at items) o false) cluster)
      (option_or (when (option_map_or (is_object_at rules items) o false) object) rest)) none_before
      ∙ ap (λ t. if t && is_plain_block_at rules items (parent_of caret) then option_and_then
      (λ neighbour. neighbour_reached rules items neighbour (parent_of caret)) (before (parent_of caret)) else None) starts
      ∙ ap (λ p. if is_plain_block_at rules items p then option_and_then (λ neighbour. neighbour_reached rules items neighbour p) (before p) else None)
      in_parent
      ∙ ap (λ t. if t then option_and_then (λ neighbour. neighbour_reached rules items neighbour parent) (before parent) else None) plain
      ∙ ap (option_and_then (λ neighbour. neighbour_reached rules items neighbour parent)) neighbour
      ∙ reached

-- what goes at a caret is the plan of the command
pub planned-backward : (rules : Rules) (document : Document) (edits : List Edit) → is_collapsed document.selection.range ≡ true
    → deleted_backward rules document.items document.selection.range.start ≡ Some edits → plan rules DeleteBackward None document ≡ Ok edits
planned-backward rules document edits collapsed e =
    let range = document.selection.range in
    let whole : deletion deleted_backward rules document.items range ≡ Some edits =
    ap (λ t. if t then deleted_backward rules document.items range.start else Some (content_deleted rules document.items range ++ caret_at range.start ∷ []))
    collapsed ∙ e in
    ap (λ (o : Option (List Edit)). if is_some o then Ok (unwrap_or o []) else Err Disabled) whole
