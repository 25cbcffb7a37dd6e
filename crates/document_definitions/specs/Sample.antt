-- Documents for the worked examples.
use Rattle.std.specs.Prelude.{ℕ, List, [], ◌∷◌, false}
use Rattle.item_definitions.specs.Position.{Range, between}
use Rattle.item_definitions.specs.Item.{Item}
use Rattle.document_definitions.specs.Selection.{selected}
use Rattle.document_definitions.specs.Document.{State}

-- the name `comment`
abbrev pub comment : List ℕ
comment = 99 ∷ 111 ∷ 109 ∷ 109 ∷ 101 ∷ 110 ∷ 116 ∷ []

-- items with the marker `comment` on a range, a selection collapsed at its start, and nothing in the cells but what is given
abbrev pub commented : List Item → Range → ℕ → List (List Item) → State
commented items range next cells = record {
  document = record {
    items = items;
    markers = (comment, range) ∷ [];
    selection = selected (between range.start range.start) false;
    next_id = next;
  };
  cells = cells;
}
