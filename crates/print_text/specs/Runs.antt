-- The parts of a printed model that one node of the tree is printed as.
use Rattle.std.specs.Prelude.{ℕ, ◌+◌, List, [], ◌∷◌, ◌++◌, Option, Some, None}
use Rattle.item_definitions.specs.Item.{Item, Attributes}
use Rattle.model_tree.specs.declared.items.Node.{Node}
use Rattle.model_tree.specs.declared.items.Node.TheVariants.{Run, Element}
use Rattle.machine_definitions.specs.Texts.{printed_scalar}
use Rattle.print_definitions.specs.Marks.{Ends, inside, outer_marks, marked}
use Rattle.print_definitions.specs.Values.{attributes_text, open_tag, close_tag}
use Rattle.print_definitions.specs.ModelText.{goes_on, before_character, run_end, items_text}

-- the run that is open behind characters of these attributes
abbrev pub open_behind : Option Attributes → Attributes → List ℕ → Option Attributes
open_behind before attributes [] = before
open_behind before attributes (scalar ∷ scalars) = Some attributes

-- and behind a node
abbrev pub run_behind : Option Attributes → Node → Option Attributes
run_behind before (Run text) = open_behind before text.attributes text.scalars
run_behind before (Element head children) = None

-- characters of equal attributes, behind a run or not
abbrev pub run_text : Ends → ℕ → Option Attributes → Attributes → List ℕ → List ℕ
run_text ends offset before attributes [] = []
run_text ends offset before attributes (scalar ∷ scalars) =
    before_character (goes_on before attributes) before attributes (outer_marks ends offset)
    ++ (printed_scalar scalar ++ marked (outer_marks ends) (offset + 1) scalars)

-- an element with these items in it, behind a run or not
abbrev pub element_text : Ends → ℕ → Option Attributes → List ℕ → Attributes → List Item → List ℕ
element_text ends offset before name attributes children =
    run_end before ++ (outer_marks ends offset
    ++ (open_tag name (attributes_text attributes) ++ (items_text (inside offset ends) 0 None children ++ close_tag name)))

-- a node: a run, or an element
abbrev pub node_text : Ends → ℕ → Option Attributes → Node → List ℕ
node_text ends offset before (Run text) = run_text ends offset before text.attributes text.scalars
node_text ends offset before (Element head children) = element_text ends offset before head.name head.attributes children
