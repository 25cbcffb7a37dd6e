-- Documents and fixers for the worked examples.
use Rattle.std.specs.Prelude.{ℕ, zero, suc, ◌+◌, List, [], ◌∷◌, map, codes, pos, true, Result, Ok, Err}
use Rattle.ck_base.specs.declared.value.Value.TheVariants.{Whole, Truth}
use Rattle.item_definitions.specs.Item.{Item, Items, Attributes, character, element, none, more}
use Rattle.item_definitions.specs.Position.{Range, between}
use Rattle.document_definitions.specs.Selection.{selected}
use Rattle.document_definitions.specs.Document.{State}
use Rattle.schema_definitions.specs.Allowed.{is_registered}
use Rattle.schema_definitions.specs.Sample.{sample}
use Rattle.edit_definitions.specs.declared.edit.Edit.{Edit}
use Rattle.edit_definitions.specs.Sample.{plain}
use Rattle.fix_definitions.specs.declared.stock.StockFixer.{StockFixer}
use Rattle.fix_definitions.specs.declared.fault.SettleFault.{SettleFault}
use Rattle.fix_definitions.specs.Fixes.{fixes}
use Rattle.fix_definitions.specs.Settling.{settle}

-- an element of a name without attributes
abbrev pub with_name : ℕ → List ℕ → Items → Item
with_name id name children = element id name [] children

-- an element in which nothing is
abbrev pub empty : ℕ → List ℕ → Item
empty id name = with_name id name none

-- the attribute `bold`
abbrev pub bold : Attributes
bold = (codes "bold", Truth true) ∷ []

-- the attribute `level`, which text may not have
abbrev pub level : Attributes
level = (codes "level", Truth true) ∷ []

-- both
abbrev pub bold_level : Attributes
bold_level = (codes "bold", Truth true) ∷ (codes "level", Truth true) ∷ []

-- a paragraph with `a`
abbrev pub one_letter : ℕ → Item
one_letter id = with_name id (codes "paragraph") (more (character 97 []) none)

-- a list item with an indent
abbrev pub indented : ℕ → ℕ → Items → Item
indented id indent children = element id (codes "listItem") ((codes "indent", Whole (pos indent)) ∷ []) children

-- so many list items, one in another, the outermost with this id, and the next ids further in; an item is in the innermost
abbrev pub list_in_list : ℕ → ℕ → Items → Item
list_in_list zero id items = with_name id (codes "listItem") items
list_in_list (suc depth) id items = with_name id (codes "listItem") (more (list_in_list depth (id + 1) items) none)

-- two lists of three list items, one in another, each with a paragraph in the innermost
abbrev pub two_lists : List Item
two_lists = list_in_list 2 1 (more (one_letter 4) none) ∷ list_in_list 2 5 (more (one_letter 8) none) ∷ []

-- one such list with both paragraphs
abbrev pub one_list : List Item
one_list = list_in_list 2 1 (more (one_letter 4) (more (one_letter 8) none)) ∷ []

-- the range at the start of a document
abbrev pub at_start : Range
at_start = between (0 ∷ []) (0 ∷ [])

-- what a stock fixer plans on items with a selection of this range
abbrev pub planned : StockFixer → List Item → Range → List Edit
planned fixer items range = fixes sample fixer items [] (selected range true)

-- the items of a state that settles, or why it doesn't
abbrev pub items_settled : Result State SettleFault → Result (List Item) SettleFault
items_settled (Ok state) = Ok state.document.items
items_settled (Err fault) = Err fault

-- what becomes of items, whose ids are below this one, by stock fixers in at most so many rounds
abbrev pub settled_by : List StockFixer → ℕ → List Item → ℕ → Result (List Item) SettleFault
settled_by fixers rounds items next = items_settled (settle (is_registered sample) (map (fixes sample) fixers) rounds (plain items next))
