-- What is seen of a batch.
use Rattle.std.specs.Prelude.{ℕ, List}
use Rattle.document_definitions.specs.Selection.{Selection}
use Rattle.model_doc.specs.Records.{Done}

-- the records of a change in order, the selection from when it was begun, and how many further records it has memory for
pub record Batched : Type 0 where
  pub records : List Done
  pub selection : Selection
  pub spare : ℕ
