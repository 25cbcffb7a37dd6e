-- The documents between which undo and redo go. (After the undo and redo stacks of CKEditor 5's undo feature; that undo takes back the last
-- change alone, and gives back whole documents, is this engine's own rule.)
use Rattle.std.specs.Prelude.{List, [], ◌∷◌, Option, Some, None}
use Rattle.document_definitions.specs.Document.{Document}

-- A document; the earlier documents, from before each change that stands, the last change first; and the documents that were undone, the
-- last undone first. All are whole: items with ids, markers, selection with overrides, and next id.
pub record History : Type 0 where
  pub earlier : List Document
  pub now : Document
  pub undone : List Document

-- a document that nothing came before
abbrev pub opened : Document → History
opened document = record { earlier = []; now = document; undone = [] }

-- a change made this document: the one from before it is the last earlier one, and none is undone
abbrev pub pushed : Document → History → History
pushed document history = record { earlier = history.now ∷ history.earlier; now = document; undone = [] }

-- the document became another one by itself, as by a change of the selection: both lists stay
abbrev pub replaced : Document → History → History
replaced document history = record { earlier = history.earlier; now = document; undone = history.undone }

-- back to this earlier document, before which these came
abbrev pub back_to : Document → List Document → History → History
back_to document before history = record { earlier = before; now = document; undone = history.now ∷ history.undone }

-- on to this undone document, behind which these are
abbrev pub on_to : Document → List Document → History → History
on_to document behind history = record { earlier = history.now ∷ history.earlier; now = document; undone = behind }

-- back to the first of some earlier documents, if there is one
abbrev back_from : List Document → History → Option History
back_from [] history = None
back_from (document ∷ before) history = Some (back_to document before history)

-- on to the first of some undone documents, if there is one
abbrev on_from : List Document → History → Option History
on_from [] history = None
on_from (document ∷ behind) history = Some (on_to document behind history)

-- undo: the last earlier document, with the present one as the last undone; None where there is no earlier one
abbrev pub undo : History → Option History
undo history = back_from history.earlier history

-- redo: the last undone document, with the present one as the last earlier; None where none is undone
abbrev pub redo : History → Option History
redo history = on_from history.undone history

-- the same document, with both lists empty
abbrev pub cleared : History → History
cleared history = opened history.now
