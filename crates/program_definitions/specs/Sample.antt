-- A document for the worked examples, and what it is edited and shown by.
use Rattle.std.specs.Prelude.{[], ◌∷◌, false, codes}
use Rattle.item_definitions.specs.Item.{element, none}
use Rattle.item_definitions.specs.Position.{between}
use Rattle.document_definitions.specs.Selection.{selected}
use Rattle.document_definitions.specs.Document.{Document}
use Rattle.converter_definitions.specs.Sample as converters
use Rattle.step_definitions.specs.Sample.{terms}
use Rattle.program_definitions.specs.Machine.{Config, Machine, beginning}

-- an empty paragraph with the selection in it
abbrev pub one_paragraph : Document
one_paragraph = record {
  items = element 1 (codes "paragraph") [] none ∷ [];
  markers = [];
  selection = selected (between (0 ∷ 0 ∷ []) (0 ∷ 0 ∷ [])) false;
  next_id = 2;
}

-- the sample's schema without fixers, and the sample's converters
abbrev pub config : Config
config = record { terms = terms [] 64; conversion = converters.sample }

-- the machine that has just opened that paragraph
abbrev pub machine : Machine
machine = beginning config one_paragraph
