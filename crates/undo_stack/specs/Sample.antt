-- Documents for the worked examples.
use Rattle.std.specs.Prelude.{[], ◌∷◌, true, Some}
use Rattle.ck_base.specs.declared.value.Value.TheVariants.{Truth}
use Rattle.item_definitions.specs.Item.{character}
use Rattle.item_definitions.specs.Position.{between}
use Rattle.item_definitions.specs.Sample.{paragraph, two_paragraphs}
use Rattle.document_definitions.specs.Document.{Document, State, with_selection}
use Rattle.document_definitions.specs.Selection.{with_override}
use Rattle.document_definitions.specs.Sample.{commented}
use Rattle.model_doc.specs.Batched.{Batched}

-- a paragraph `abcd` with a marker on `bc`
abbrev pub whole : State
whole = commented (paragraph 1 (97 ∷ 98 ∷ 99 ∷ 100 ∷ []) ∷ []) (between (0 ∷ 1 ∷ []) (0 ∷ 3 ∷ [])) 2 []

-- it is split in the middle: the next id is 3, and the marker goes from one paragraph to the other
abbrev pub halves : State
halves = commented two_paragraphs (between (0 ∷ 1 ∷ []) (1 ∷ 1 ∷ [])) 3 []

-- what has the marker is removed: the marker is collapsed, and a cell has the characters
abbrev pub shortened : State
shortened = commented (paragraph 1 (97 ∷ 100 ∷ []) ∷ []) (between (0 ∷ 1 ∷ []) (0 ∷ 1 ∷ [])) 2 ((character 98 [] ∷ character 99 [] ∷ []) ∷ [])

-- the selection overrides the key `b`
abbrev pub overridden : State
overridden = with_selection (with_override (98 ∷ []) (Some (Truth true)) whole.document.selection) whole

-- a batch that these examples don't look into
abbrev pub some_batch : Document → Batched
some_batch document = record { records = []; selection = document.selection; spare = 0 }
