-- What is seen of the stacks.
use Rattle.std.specs.Prelude.{ℕ, Bool, true, false, List, [], ◌∷◌, Option}
use Rattle.document_definitions.specs.Selection.{Selection}
use Rattle.model_doc.specs.Batched.{Batched}

-- a batch that was undone, and the selection from when it was undone
pub record Undone : Type 0 where
  pub batch : Batched
  pub selection : Selection

-- the batches that stand, the last first, and those that were undone, the last undone first
pub record Lists : Type 0 where
  pub earlier : List Batched
  pub undone : List Undone

-- the lists; the lists from before the last call, where that was an undo or a redo that came about; and how many further batches there is
-- memory for, of those that stand and of those that were undone
pub record Stacked : Type 0 where
  pub lists : Lists
  pub before : Option Lists
  pub spare : ℕ
  pub undone_spare : ℕ

-- a list is empty
abbrev pub is_none_of : {A : Type 0} → List A → Bool
is_none_of [] = true
is_none_of (first ∷ rest) = false

-- no batches
abbrev pub no_lists : Lists
no_lists = record { earlier = []; undone = [] }

-- a batch is put last, and none is undone
abbrev pub with_batch : Batched → Lists → Lists
with_batch batch lists = record { earlier = batch ∷ lists.earlier; undone = [] }

-- the last batch that stands was undone when this was the selection
abbrev pub one_undone : Batched → List Batched → Selection → Lists → Lists
one_undone batch rest selection lists = record { earlier = rest; undone = record { batch = batch; selection = selection } ∷ lists.undone }

-- the last batch that was undone stands again, as this batch
abbrev pub one_redone : Batched → List Undone → Lists → Lists
one_redone batch rest lists = record { earlier = batch ∷ lists.earlier; undone = rest }
