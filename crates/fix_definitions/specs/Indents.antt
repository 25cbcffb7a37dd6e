-- A fixer as a product may add it, for the worked examples: no list item is indented by more than one above the list item before it. An indent
-- that isn't there, or is no whole number, counts as 0. Each whole one below 0 becomes 0, and each above its bound becomes the bound.
use Rattle.std.specs.Prelude.{ℕ, ◌+◌, pos, negsuc, min, List, [], ◌∷◌, ◌++◌, if◌then◌else◌, Option, Some, None, codes}
use Rattle.std.specs.Option.{option_map_or}
use Rattle.std.specs.Ordering.{int_eq}
use Rattle.ck_base.specs.declared.value.Value.{Value as AttributeValue}
use Rattle.ck_base.specs.declared.value.Value.TheVariants.{Whole, Truth, Text}
use Rattle.ck_base.specs.Entries.{value_of}
use Rattle.item_definitions.specs.Item.{Item, Items, character, element, none, more, items_of, attributes_of}
use Rattle.edit_definitions.specs.declared.edit.Edit.{Edit}
use Rattle.edit_definitions.specs.declared.edit.Edit.TheVariants.{SetAttribute}
use Rattle.edit_definitions.specs.declared.edit.Target.TheVariants.{Element as OfElement}
use Rattle.fix_definitions.specs.Wanted.{is_named}
use Rattle.fix_definitions.specs.Fixes.{Fixing}

-- the greatest indent behind an item: 1 more than that of a list item, at most 1000; 0 behind anything else
abbrev pub indent_bound : Option ℕ → ℕ
indent_bound left = option_map_or (λ indent. min (indent + 1) 1000) left 0

-- a written indent within a bound
abbrev pub corrected : ℕ → Option AttributeValue → ℕ
corrected bound None = 0
corrected bound (Some (Whole (pos indent))) = min indent bound
corrected bound (Some (Whole (negsuc indent))) = 0
corrected bound (Some (Truth truth)) = 0
corrected bound (Some (Text text)) = 0

-- the indent of a list item behind another item; any other item has none
abbrev pub indent_of : Option ℕ → Item → Option ℕ
indent_of left item =
    if is_named (codes "listItem") item then Some (corrected (indent_bound left) (value_of (codes "indent") (attributes_of item))) else None

-- the edit that writes an indent, where another whole number is written
abbrev pub rewritten : List ℕ → ℕ → Option AttributeValue → List Edit
rewritten path indent None = []
rewritten path indent (Some (Whole number)) =
    if int_eq number (pos indent) then [] else SetAttribute (OfElement path) (codes "indent") (Whole (pos indent)) ∷ []
rewritten path indent (Some (Truth truth)) = []
rewritten path indent (Some (Text text)) = []

-- what is wanted of an item at a path that has this indent, if it has one
abbrev pub indent_wanted : List ℕ → Option ℕ → Item → List Edit
indent_wanted path indent item =
    option_map_or (λ indent. rewritten path indent (value_of (codes "indent") (attributes_of item))) indent []

abbrev mutual
  -- what is wanted of the items in an item at a path
  pub indents_in : List ℕ → Item → List Edit
  indents_in path (character scalar attributes) = []
  indents_in path (element id name attributes children) = indents_from path 0 None children

  -- what is wanted of items from an offset on, behind an item that has this indent, if it has one
  pub indents_from : List ℕ → ℕ → Option ℕ → Items → List Edit
  indents_from path offset left none = []
  indents_from path offset left (more item items) =
      indent_wanted (path ++ offset ∷ []) (indent_of left item) item ++ indents_in (path ++ offset ∷ []) item
      ++ indents_from path (offset + 1) (indent_of left item) items

-- the fixer of the indents of list items
abbrev pub list_indent : Fixing
list_indent items markers selection = indents_from [] 0 None (items_of items)
