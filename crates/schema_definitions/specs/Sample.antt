-- A sample: paragraphs, headings, quotes, list items, and objects of both kinds.
use Rattle.std.specs.Prelude.{ℕ, List, [], ◌∷◌, ◌++◌, true, false, Some, codes}
use Rattle.schema_definitions.specs.declared.file.Entry.{Entry}
use Rattle.schema_definitions.specs.declared.file.Subject.TheVariants.{Item, Extend}
use Rattle.schema_definitions.specs.declared.file.Check.{Check}
use Rattle.schema_definitions.specs.declared.file.Check.TheVariants.{Child}
use Rattle.schema_definitions.specs.Allowed.{Rules}
use Rattle.schema_definitions.specs.Compiled.{bare, predefined}

-- an item with all that another has, and these attributes
abbrev pub like : List ℕ → List ℕ → List (List ℕ) → Entry
like item other keys = record (bare (Item item)) { inherit_all_from = other ∷ []; allow_attributes = keys }

-- a quote may stand in a quote, and not in a quote in a quote
abbrev pub sample : Rules
sample = record {
  entries = predefined ++ (
      like (codes "paragraph") (codes "$block") []
      ∷ like (codes "heading") (codes "$block") (codes "level" ∷ codes "anchor" ∷ [])
      ∷ like (codes "quote") (codes "$container") []
      ∷ like (codes "listItem") (codes "$container") (codes "indent" ∷ [])
      ∷ like (codes "image") (codes "$blockObject") (codes "source" ∷ [])
      ∷ like (codes "mention") (codes "$inlineObject") (codes "user" ∷ [])
      ∷ record (bare (Extend (codes "$text"))) { allow_attributes = codes "bold" ∷ codes "italic" ∷ codes "link" ∷ [] }
      ∷ []);
  checks = Child (codes "quote") (codes "quote" ∷ codes "quote" ∷ []) false ∷ [];
}

-- the sample with these entries and checks as well
abbrev pub with_more : List Entry → List Check → Rules
with_more entries checks = record { entries = sample.entries ++ entries; checks = sample.checks ++ checks }

-- items that inherit from each other in a circle: what one may do, each may
abbrev pub circle : Rules
circle = with_more (
    record (bare (Item (codes "a"))) {
      allow_where = codes "b" ∷ [];
      allow_content_of = codes "b" ∷ [];
      allow_attributes_of = codes "b" ∷ [];
      inherit_types_from = codes "b" ∷ [];
      allow_attributes = codes "x" ∷ [];
    }
    ∷ record (bare (Item (codes "b"))) { inherit_all_from = codes "c" ∷ []; allow_children = codes "$text" ∷ []; is_block = Some false }
    ∷ record (bare (Item (codes "c"))) { inherit_all_from = codes "a" ∷ []; allow_in = codes "quote" ∷ []; is_block = Some true }
    ∷ []) []

-- an item that is a limit, selectable and content, one that inherits these, and entries that write a flag both ways
abbrev pub flags : Rules
flags = with_more (
    record (bare (Item (codes "box"))) { is_limit = Some true; is_selectable = Some true; is_content = Some true }
    ∷ record (bare (Item (codes "inner"))) { inherit_types_from = codes "image" ∷ [] }
    ∷ record (bare (Item (codes "plain"))) { inherit_all_from = codes "$block" ∷ []; is_block = Some false }
    ∷ record (bare (Extend (codes "$root"))) { is_limit = Some false }
    ∷ []) []
