-- The indents of list items, node by node.
use Rattle.std.specs.Prelude.{ℕ, List, [], if◌then◌else◌, Option, Some, None, codes}
use Rattle.std.specs.Option.{option_map_or}
use Rattle.std.specs.Str.{bytes_eq}
use Rattle.ck_base.specs.Entries.{value_of}
use Rattle.model_tree.specs.declared.items.Node.{Node}
use Rattle.model_tree.specs.declared.items.Node.TheVariants.{Run, Element}
use Rattle.model_tree.specs.Parts.{HeadParts}
use Rattle.edit_definitions.specs.declared.edit.Edit.{Edit}
use Rattle.fix_definitions.specs.Indents.{indent_bound, corrected, rewritten}

-- the indent of an element of this head behind an item of that indent; only a list item has one
abbrev pub head_indent : Option ℕ → HeadParts → Option ℕ
head_indent left head =
    if bytes_eq head.name (codes "listItem") then Some (corrected (indent_bound left) (value_of (codes "indent") head.attributes)) else None

-- the indent of a node behind an item of that indent; a text has none
abbrev pub node_indent : Option ℕ → Node → Option ℕ
node_indent left (Run text) = None
node_indent left (Element head children) = head_indent left head

-- what is wanted of an element of this head at a path that has this indent, if it has one
abbrev pub head_wanted : List ℕ → Option ℕ → HeadParts → List Edit
head_wanted path indent head = option_map_or (λ indent. rewritten path indent (value_of (codes "indent") head.attributes)) indent []
