-- Documents for the worked examples: their elements are those of the sample schema.
use Rattle.std.specs.Prelude.{ℕ, List, [], ◌∷◌, map, false, true, pos, codes}
use Rattle.ck_base.specs.declared.value.Value.TheVariants.{Truth, Whole}
use Rattle.item_definitions.specs.Item.{Item, Attributes, character, element, none, items_of}
use Rattle.item_definitions.specs.Position.{between}
use Rattle.document_definitions.specs.Selection.{selected}
use Rattle.document_definitions.specs.Document.{Document}
use Rattle.command_definitions.specs.declared.command.Command.{Command}
use Rattle.command_definitions.specs.declared.command.Command.TheVariants.{Toggle, Block}

-- a document of these items with a selection from one position to another, and no markers
abbrev pub with_range : List ℕ → List ℕ → List Item → Document
with_range start end items = record { items = items; markers = []; selection = selected (between start end) false; next_id = 9 }

-- the same with a caret
abbrev pub with_caret : List ℕ → List Item → Document
with_caret position items = with_range position position items

-- the key `bold`
abbrev pub bold : List ℕ
bold = codes "bold"

-- bold, and nothing else
abbrev pub bold_only : Attributes
bold_only = (bold, Truth true) ∷ []

-- an element of a name with a text without attributes
abbrev pub with_text : ℕ → List ℕ → List ℕ → Item
with_text id name text = element id name [] (items_of (map (λ scalar. character scalar []) text))

-- a paragraph with a text
abbrev pub paragraph : ℕ → List ℕ → Item
paragraph id text = with_text id (codes "paragraph") text

-- an image
abbrev pub image : ℕ → Item
image id = element id (codes "image") [] none

-- `ab` and `cd`
abbrev pub two : List Item
two = paragraph 1 (codes "ab") ∷ paragraph 2 (codes "cd") ∷ []

-- a mention, which is an object in the text
abbrev pub mention : ℕ → Item
mention id = element id (codes "mention") [] none

-- a paragraph of these items
abbrev pub of_items : ℕ → List Item → Item
of_items id items = element id (codes "paragraph") [] (items_of items)

-- a quote of these items
abbrev pub quote : ℕ → List Item → Item
quote id items = element id (codes "quote") [] (items_of items)

-- `a` without attributes
abbrev pub plain_a : Item
plain_a = character 97 []

-- `b` in bold
abbrev pub bold_b : Item
bold_b = character 98 bold_only

-- the path of the first item of the root, and the position before it
abbrev pub first : List ℕ
first = 0 ∷ []

-- the path of the second item of the root, and the position before it
abbrev pub second : List ℕ
second = 1 ∷ []

-- a position in the first item of the root
abbrev pub in_first : ℕ → List ℕ
in_first offset = 0 ∷ offset ∷ []

-- a position in the second item of the root
abbrev pub in_second : ℕ → List ℕ
in_second offset = 1 ∷ offset ∷ []

-- a command that makes text bold
abbrev pub make_bold : Command
make_bold = Toggle bold (Truth true)

-- a command that makes headings of level 2
abbrev pub make_heading : Command
make_heading = Block (codes "heading") ((codes "level", Whole (pos 2)) ∷ [])
