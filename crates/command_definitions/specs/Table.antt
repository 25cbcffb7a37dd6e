-- What each command says of a document, and the edits that it makes of it, as lists of edits of the document alone. (After the commands of CKEditor
-- 5's features; the table is this engine's own rule.)
use Rattle.std.specs.Prelude.{ℕ, List, [], ◌∷◌, ◌++◌, map, filter, Bool, true, false, not, ◌&&◌, ◌||◌, if◌then◌else◌, Option, Some, None, is_some, unwrap_or}
use Rattle.std.specs.Prelude.{Result, Ok, Err, slice_get, codes}
use Rattle.std.specs.Option.{option_map_or}
use Rattle.std.specs.List.{flat_map, last_or}
use Rattle.ck_base.specs.declared.value.Value.{Value as AttributeValue}
use Rattle.ck_base.specs.Entries.{value_of}
use Rattle.item_definitions.specs.Item.{Item, Attributes}
use Rattle.item_definitions.specs.Children.{parent_of}
use Rattle.item_definitions.specs.Position.{Range, behind}
use Rattle.schema_definitions.specs.Allowed.{Rules}
use Rattle.document_definitions.specs.Selection.{is_collapsed, attributes}
use Rattle.document_definitions.specs.Document.{Document}
use Rattle.edit_definitions.specs.declared.edit.Edit.{Edit}
use Rattle.edit_definitions.specs.declared.edit.Edit.TheVariants.{InsertText, Remove, SetAttribute, RemoveAttribute, Rename, Split, Wrap as WrapRun, Unwrap}
use Rattle.edit_definitions.specs.declared.edit.Edit.TheVariants.{SelectionAttribute}
use Rattle.edit_definitions.specs.declared.edit.Target.TheVariants.{Range as InRange, Element as OfElement}
use Rattle.edit_definitions.specs.Places.{are_in_one}
use Rattle.command_definitions.specs.declared.command.Command.{Command}
use Rattle.command_definitions.specs.declared.command.Command.TheVariants.{Toggle, Block, Enter, DeleteBackward, DeleteForward, TypeText, Object, Wrap}
use Rattle.command_definitions.specs.declared.command.CommandState.{CommandState}
use Rattle.command_definitions.specs.declared.command.CommandFault.{CommandFault}
use Rattle.command_definitions.specs.declared.command.CommandFault.TheVariants.{Unknown, BadArgument, Disabled}
use Rattle.command_definitions.specs.Places.{is_plain_block_at, allows, allows_key}
use Rattle.command_definitions.specs.Fitting.{fits, fitting, first_has_key, longest_runs}
use Rattle.command_definitions.specs.Deleting.{joins_blocks, selected_deleted, caret_at, deleted_backward, deleted_forward, deletion}
use Rattle.command_definitions.specs.Blocks.{has_name, selected_blocks, first_passes, may_be_wrapped, are_wrapped}
use Rattle.command_definitions.specs.Placing.{placed}

-- the range of the selection
abbrev pub range_of : Document → Range
range_of document = document.selection.range

-- a text typed at the selection's start would have these attributes: those of the selection that `$text` may have there
abbrev pub typed_attributes : Rules → Document → Attributes
typed_attributes rules document =
    filter (λ entry. allows_key rules document.items (range_of document).start (codes "$text") entry.0) (attributes document.items document.selection)

-- a toggle's value is there: at a caret the selection has the key, and else the first fitting item
abbrev pub toggle_is_on : Rules → List ℕ → Document → Bool
toggle_is_on rules key document =
    if is_collapsed (range_of document) then is_some (value_of key (attributes document.items document.selection))
    else first_has_key key document.items (fitting rules key document.items (range_of document))

-- text that is typed at a caret may stand there and have the key; or some selected item fits
abbrev pub toggle_is_enabled : Rules → List ℕ → Document → Bool
toggle_is_enabled rules key document =
    if is_collapsed (range_of document)
    then allows rules document.items (range_of document).start (codes "$text") && allows_key rules document.items (range_of document).start (codes "$text") key
    else is_some (slice_get (fitting rules key document.items (range_of document)) 0)

-- the items of a range get this value of a key, or lose the key
abbrev pub given : List ℕ → Option AttributeValue → Range → Edit
given key None range = RemoveAttribute (InRange range.start range.end) key
given key (Some value) range = SetAttribute (InRange range.start range.end) key value

-- the runs of selected items whose attribute a toggle changes
abbrev pub toggled_runs : Rules → List ℕ → Document → List Range
toggled_runs rules key document =
    longest_runs (fits rules key document.items (range_of document)) document.items (fitting rules key document.items (range_of document))

-- what a toggle gives: its value, or none where that is there
abbrev pub toggled_value : Rules → List ℕ → AttributeValue → Document → Option AttributeValue
toggled_value rules key value document = if toggle_is_on rules key document then None else Some value

-- at a caret the selection's own attribute changes, and else that of each run
abbrev pub toggle_edits : Rules → List ℕ → AttributeValue → Document → List Edit
toggle_edits rules key value document =
    if is_collapsed (range_of document) then SelectionAttribute key (toggled_value rules key value document) ∷ []
    else map (given key (toggled_value rules key value document)) (toggled_runs rules key document)

-- the selected blocks
abbrev pub blocks_of : Rules → Document → List (List ℕ)
blocks_of rules document = selected_blocks rules document.items (range_of document)

-- those of them in whose place an element of this name may stand
abbrev pub renamable_blocks : Rules → List ℕ → Document → List (List ℕ)
renamable_blocks rules name document = filter (λ path. allows rules document.items path name) (blocks_of rules document)

-- a block gets a name, where it has another one, and attributes
abbrev pub block_made : List Item → List ℕ → Attributes → List ℕ → List Edit
block_made items name attributes path =
    (if has_name items name path then [] else Rename path name ∷ []) ++ map (λ entry. SetAttribute (OfElement path) entry.0 entry.1) attributes

-- the selection begins in a block that is no limit, and ends in it, or in another one of the same parent behind it
abbrev pub enter_is_enabled : Rules → Document → Bool
enter_is_enabled rules document =
    is_plain_block_at rules document.items (parent_of (range_of document).start)
    && (are_in_one (range_of document).start (range_of document).end || joins_blocks rules document.items (range_of document))

-- the selected content goes, the block is split where the selection was in one, and the caret is at the start of the block behind
abbrev pub enter_edits : Document → List Edit
enter_edits document =
    (if is_collapsed (range_of document) then [] else Remove (range_of document).start (range_of document).end ∷ [])
    ++ ((if are_in_one (range_of document).start (range_of document).end then Split (range_of document).start ∷ [] else [])
    ++ (caret_at (behind (parent_of (range_of document).start) ++ 0 ∷ []) ∷ []))

-- the selected content goes, and the text comes in
abbrev pub type_edits : Rules → List ℕ → Document → List Edit
type_edits rules text document =
    selected_deleted rules document.items (range_of document) ++ InsertText (range_of document).start text (typed_attributes rules document) ∷ []

-- the place that an element finds
abbrev pub object_placed : Rules → List ℕ → Document → Option (List Edit)
object_placed rules name document = placed rules document.items name (range_of document).start

-- the selected content goes, and the element comes in; the places are told by the document from before
abbrev pub object_edits : Rules → List ℕ → Document → List Edit
object_edits rules name document =
    selected_deleted rules document.items (range_of document) ++ unwrap_or (object_placed rules name document) []

-- the first selected block is in such an element
abbrev pub wrap_is_on : Rules → List ℕ → Document → Bool
wrap_is_on rules name document = are_wrapped document.items name (blocks_of rules document)

-- the run of some blocks goes into a new element
abbrev pub blocks_wrapped : List ℕ → List (List ℕ) → List Edit
blocks_wrapped name blocks = WrapRun (unwrap_or (slice_get blocks 0) []) (behind (unwrap_or (last_or None blocks) [])) name [] ∷ []

-- the items of that element take its place; else the selected blocks go into a new one
abbrev pub wrap_edits : Rules → List ℕ → Document → List Edit
wrap_edits rules name document =
    if wrap_is_on rules name document then Unwrap (parent_of (unwrap_or (slice_get (blocks_of rules document) 0) [])) ∷ []
    else blocks_wrapped name (blocks_of rules document)

-- what a command does is done already
abbrev pub is_on : Rules → Command → Document → Bool
is_on rules (Toggle key value) document = toggle_is_on rules key document
is_on rules (Block name attributes) document = first_passes (has_name document.items name) (blocks_of rules document)
is_on rules Enter document = false
is_on rules DeleteBackward document = false
is_on rules DeleteForward document = false
is_on rules TypeText document = false
is_on rules (Object name) document = false
is_on rules (Wrap name) document = wrap_is_on rules name document

-- a command can be executed
abbrev pub is_enabled : Rules → Command → Document → Bool
is_enabled rules (Toggle key value) document = toggle_is_enabled rules key document
is_enabled rules (Block name attributes) document = is_some (slice_get (renamable_blocks rules name document) 0)
is_enabled rules Enter document = enter_is_enabled rules document
is_enabled rules DeleteBackward document = is_some (deletion deleted_backward rules document.items (range_of document))
is_enabled rules DeleteForward document = is_some (deletion deleted_forward rules document.items (range_of document))
is_enabled rules TypeText document = allows rules document.items (range_of document).start (codes "$text")
is_enabled rules (Object name) document = is_some (object_placed rules name document)
is_enabled rules (Wrap name) document = wrap_is_on rules name document || may_be_wrapped rules document.items name (blocks_of rules document)

-- the edits of a command that can be executed, with the text that it types
abbrev pub edits_of : Rules → Command → List ℕ → Document → List Edit
edits_of rules (Toggle key value) text document = toggle_edits rules key value document
edits_of rules (Block name attributes) text document = flat_map (block_made document.items name attributes) (renamable_blocks rules name document)
edits_of rules Enter text document = enter_edits document
edits_of rules DeleteBackward text document = unwrap_or (deletion deleted_backward rules document.items (range_of document)) []
edits_of rules DeleteForward text document = unwrap_or (deletion deleted_forward rules document.items (range_of document)) []
edits_of rules TypeText text document = type_edits rules text document
edits_of rules (Object name) text document = object_edits rules name document
edits_of rules (Wrap name) text document = wrap_edits rules name document

-- the state of a command
abbrev pub state : Rules → Command → Document → CommandState
state rules command document = record { on = is_on rules command document; enabled = is_enabled rules command document }

-- a command types a text
abbrev pub types : Command → Bool
types TypeText = true
types (Toggle key value) = false
types (Block name attributes) = false
types Enter = false
types DeleteBackward = false
types DeleteForward = false
types (Object name) = false
types (Wrap name) = false

-- a text is given exactly where the command types one
abbrev pub is_fitting_argument : Command → Option (List ℕ) → Bool
is_fitting_argument command None = not (types command)
is_fitting_argument command (Some text) = types command

-- the edits of a command with this text, or without one, or why it makes none
abbrev pub plan : Rules → Command → Option (List ℕ) → Document → Result (List Edit) CommandFault
plan rules command text document =
    if not (is_fitting_argument command text) then Err BadArgument
    else (if is_enabled rules command document then Ok (edits_of rules command (unwrap_or text []) document) else Err Disabled)

-- commands by their names
abbrev pub Commands : Type 0
Commands = List (List ℕ × Command)

-- the state of the command of a name, or that there is none
abbrev pub state_of : Rules → Commands → List ℕ → Document → Result CommandState CommandFault
state_of rules commands name document = option_map_or (λ command. Ok (state rules command document)) (value_of name commands) (Err Unknown)

-- the edits of the command of a name, or why there are none
abbrev pub plan_of : Rules → Commands → List ℕ → Option (List ℕ) → Document → Result (List Edit) CommandFault
plan_of rules commands name text document = option_map_or (λ command. plan rules command text document) (value_of name commands) (Err Unknown)
