-- What edits bring into a document.
use Rattle.ck_base.specs.Entries.{IsOrdered}
use Rattle.operation_definitions.specs.Reversed.{AreOrdered}
use Rattle.edit_definitions.specs.declared.edit.Edit.{Edit}
use Rattle.edit_definitions.specs.declared.edit.Edit.TheVariants.{InsertText, InsertElement, Wrap, InsertItems}

-- the keys of the items that come in by an edit are in order
abbrev pub BringsInOrder : Edit → Type 0
BringsInOrder (InsertText at text attributes) = IsOrdered attributes
BringsInOrder (InsertElement at name attributes) = IsOrdered attributes
BringsInOrder (Wrap start end name attributes) = IsOrdered attributes
BringsInOrder (InsertItems at items) = AreOrdered items
BringsInOrder edit = Unit {0}
