-- Documents for the worked examples.
use Rattle.std.specs.Prelude.{ℕ, List, [], ◌∷◌, Bool, true, false}
use Rattle.item_definitions.specs.Item.{Item, character, element, items_of}
use Rattle.item_definitions.specs.Sample.{two_paragraphs}
use Rattle.item_definitions.specs.Position.{between}
use Rattle.ck_base.specs.declared.value.Value.TheVariants.{Truth}
use Rattle.document_definitions.specs.Selection.{selected}
use Rattle.document_definitions.specs.Document.{State}

-- a document of these items, without markers, its selection at its start, and with nothing in the cells
abbrev pub plain : List Item → ℕ → State
plain items next = record {
  document = record {
    items = items;
    markers = [];
    selection = selected (between (0 ∷ []) (0 ∷ [])) false;
    next_id = next;
  };
  cells = [];
}

-- every name is registered
abbrev pub all_names : List ℕ → Bool
all_names name = true

-- a paragraph with `abcd`, of which `b` is bold
abbrev pub part_bold : List Item
part_bold =
    element 1 (112 ∷ []) [] (items_of (character 97 [] ∷ character 98 ((98 ∷ [], Truth true) ∷ []) ∷ character 99 [] ∷ character 100 [] ∷ [])) ∷ []

-- `ab` and `cd`, with the marker `m` from `a` to `b`
abbrev pub marked : State
marked = record {
  document = record {
    items = two_paragraphs;
    markers = (109 ∷ [], between (0 ∷ 0 ∷ []) (0 ∷ 2 ∷ [])) ∷ [];
    selection = selected (between (0 ∷ []) (0 ∷ [])) false;
    next_id = 3;
  };
  cells = [];
}
