-- The printed model: elements as tags, and each longest run of characters with equal attributes as a text, which stands in `$text` where it
-- has attributes. The marks of a selection stand outside `$text` at its edges, and between its characters inside.
use Rattle.std.specs.Prelude.{ℕ, ◌+◌, List, [], ◌∷◌, ◌++◌, Bool, true, false, ◌&&◌, nat_eq, Option, Some, None, codes}
use Rattle.std.specs.Cmp.Lexicographic.{pointwise}
use Rattle.item_definitions.specs.Item.{Item, Items, character, element, none, more, Attributes}
use Rattle.operation_definitions.specs.After.{same_value}
use Rattle.machine_definitions.specs.Texts.{printed_scalar}
use Rattle.print_definitions.specs.Marks.{Ends, wanted, inside, outer_marks}
use Rattle.print_definitions.specs.Values.{attributes_text, open_tag, close_tag}

-- the same keys with the same values
abbrev pub same_attributes : Attributes → Attributes → Bool
same_attributes [] [] = true
same_attributes [] (entry ∷ rest) = false
same_attributes (entry ∷ rest) [] = false
same_attributes (entry ∷ rest) (other ∷ others) = pointwise nat_eq entry.0 other.0 && same_value (Some entry.1) (Some other.1) && same_attributes rest others

-- the attributes of a run of characters that an item may go on: None where it is an element
abbrev pub run_of : Item → Option Attributes
run_of (character scalar attributes) = Some attributes
run_of (element id name attributes children) = None

-- whether a character of these attributes goes on the run before it
abbrev pub goes_on : Option Attributes → Attributes → Bool
goes_on None attributes = false
goes_on (Some before) attributes = same_attributes before attributes

-- what opens a run: nothing where it has no attributes
abbrev pub run_start : Attributes → List ℕ
run_start [] = []
run_start (entry ∷ attributes) = open_tag (codes "$text") (attributes_text (entry ∷ attributes))

-- what closes the run before, if there is one
abbrev pub run_end : Option Attributes → List ℕ
run_end None = []
run_end (Some []) = []
run_end (Some (entry ∷ attributes)) = close_tag (codes "$text")

-- what stands before a character: only the marks where it goes on the run before it
abbrev pub before_character : Bool → Option Attributes → Attributes → List ℕ → List ℕ
before_character true before attributes marks = marks
before_character false before attributes marks = run_end before ++ (marks ++ run_start attributes)

abbrev mutual
  -- an item at an offset, behind a run or not
  pub item_text : Ends → ℕ → Option Attributes → Item → List ℕ
  item_text ends offset before (character scalar attributes) =
      before_character (goes_on before attributes) before attributes (outer_marks ends offset) ++ printed_scalar scalar
  item_text ends offset before (element id name attributes children) =
      run_end before ++ (outer_marks ends offset
      ++ (open_tag name (attributes_text attributes) ++ (inner_items_text (inside offset ends) 0 None children ++ close_tag name)))

  -- the items in an element from an offset on, behind a run or not, with the marks before each and behind the last
  pub inner_items_text : Ends → ℕ → Option Attributes → Items → List ℕ
  inner_items_text ends offset before none = run_end before ++ outer_marks ends offset
  inner_items_text ends offset before (more item items) = item_text ends offset before item ++ inner_items_text ends (offset + 1) (run_of item) items

-- items of a list, from an offset on, behind a run or not
abbrev pub items_text : Ends → ℕ → Option Attributes → List Item → List ℕ
items_text ends offset before [] = run_end before ++ outer_marks ends offset
items_text ends offset before (item ∷ items) = item_text ends offset before item ++ items_text ends (offset + 1) (run_of item) items

-- the model: the root's items
abbrev pub model_text : Option Ends → List Item → List ℕ
model_text ends items = items_text (wanted ends) 0 None items
