-- What a node is made of, as the code reads it.
use Rattle.std.specs.Prelude.{Option, Some, None}
use Rattle.view_definitions.specs.Node.{Kind, ViewNode, text, element}

-- the kind of an element: None for a text
abbrev pub node_kind : ViewNode → Option Kind
node_kind (text scalars) = None
node_kind (element head children) = Some head.kind
