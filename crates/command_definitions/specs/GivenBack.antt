-- What it means that one command takes another one back.
use Rattle.std.specs.Prelude.{◌≡◌, List, Option, Some, None, Ok}
use Rattle.ck_base.specs.declared.value.Value.{Value as AttributeValue}
use Rattle.schema_definitions.specs.Allowed.{Rules, is_registered}
use Rattle.document_definitions.specs.Selection.{selected}
use Rattle.document_definitions.specs.Document.{Document}
use Rattle.edit_definitions.specs.declared.edit.Edit.{Edit}
use Rattle.edit_definitions.specs.Performed.{edits_made}
use Rattle.command_definitions.specs.declared.command.Command.{Command}
use Rattle.command_definitions.specs.Table.{plan}

-- In the document that was made of another one, the command can be executed, and its edits give back the items of that other one, and its
-- selection; but overrides are gone, as after each change of the selection.
pub record IsGivenBack (rules : Rules) (command : Command) (before after : Document) : Type 0 where
  pub edits : List Edit
  pub made : Document
  pub planned : plan rules command None after ≡ Ok edits
  pub performed : edits_made (is_registered rules) edits after ≡ Ok made
  pub items : made.items ≡ before.items
  pub selection : made.selection ≡ selected before.selection.range before.selection.backward

-- a command was executed: it could be, and its edits were made
pub record IsExecuted (rules : Rules) (command : Command) (before after : Document) : Type 0 where
  pub edits : List Edit
  pub planned : plan rules command None before ≡ Ok edits
  pub performed : edits_made (is_registered rules) edits before ≡ Ok after

-- what a selection has of a key: nothing, or this value
abbrev pub IsNoneOr : AttributeValue → Option AttributeValue → Type 0
IsNoneOr value None = Unit {0}
IsNoneOr value (Some other) = other ≡ value
