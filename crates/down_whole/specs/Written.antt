-- A row as it is written from the front on, to the nodes that it nests to.
use Rattle.std.specs.Prelude.{ℕ, List, [], ◌∷◌, map, Option, Some, None}
use Rattle.view_definitions.specs.Node.{ViewNode}
use Rattle.view_definitions.specs.Layer.{Layer, in_layer}
use Rattle.view_definitions.specs.Row.{Content, leaf, item, character, caret, Entry, nest, join}

-- what is written: the nodes before the caret, where it is written, and the nodes behind it, or else all nodes
pub record Written : Type 0 where
  pub front : Option (List ViewNode)
  pub nodes : List ViewNode

-- before the first entry
abbrev pub nothing_written : Written
nothing_written = record { front = None; nodes = [] }

-- an entry more: the caret begins the nodes behind it, and any other one is joined to those before
abbrev pub with_content : Content → Entry → Written → Written
with_content (leaf node) entry written = record written { nodes = join written.nodes (nest (entry ∷ [])) }
with_content (item node) entry written = record written { nodes = join written.nodes (nest (entry ∷ [])) }
with_content (character scalar) entry written = record written { nodes = join written.nodes (nest (entry ∷ [])) }
with_content caret entry written = record { front = Some written.nodes; nodes = [] }

-- an entry more behind what is written
abbrev pub with_entry : Entry → Written → Written
with_entry entry written = with_content entry.content entry written

-- a row more
abbrev pub with_row : List Entry → Written → Written
with_row [] written = written
with_row (entry ∷ row) written = with_row row (with_entry entry written)

-- a node in these layers, the first one outermost
abbrev pub in_layers : List Layer → ViewNode → List ViewNode
in_layers [] node = node ∷ []
in_layers (layer ∷ layers) node = in_layer layer (in_layers layers node) ∷ []

-- a character in these layers
abbrev pub character_in : List Layer → ℕ → Entry
character_in layers scalar = record { content = character scalar; layers = layers }

-- characters in the same layers
abbrev pub run_in : List Layer → List ℕ → List ViewNode
run_in layers scalars = nest (map (character_in layers) scalars)
