-- What shapes are in the view.
use Rattle.std.specs.Prelude.{ℕ, List, [], ◌∷◌, ◌++◌, Bool, true, false, Option, Some, None, fold, codes}
use Rattle.std.specs.Str.{bytes_eq}
use Rattle.ck_base.specs.Entries.{value_of, with_value}
use Rattle.view_definitions.specs.Node as nodes
use Rattle.view_definitions.specs.Node.{ViewAttributes, Kind, container, empty, ui, Head, ViewNode, nodes_of}
use Rattle.converter_definitions.specs.declared.kind.ShapeKind.{ShapeKind}
use Rattle.converter_definitions.specs.declared.kind.ShapeKind.TheVariants.{Container, Empty, Ui}
use Rattle.converter_definitions.specs.Form.{Form, Forms, slot, text, element, none, more}

-- the kind of view element
abbrev pub view_kind : ShapeKind → Kind
view_kind Container = container
view_kind Empty = empty
view_kind Ui = ui

-- a view element without a number
abbrev pub head_of : ShapeKind → List ℕ → ViewAttributes → Head
head_of kind name attributes = record { kind = view_kind kind; name = name; attributes = attributes; number = None; changes = 0 }

abbrev mutual
  -- a node of a shape with these nodes in the slot
  pub filled : List ViewNode → Form ViewAttributes → List ViewNode
  filled content slot = content
  filled content (text scalars) = nodes.text scalars ∷ []
  filled content (element kind name attributes children) = nodes.element (head_of kind name attributes) (nodes_of (filled_inner content children)) ∷ []

  -- nodes of a shape with these nodes in the slot
  pub filled_inner : List ViewNode → Forms ViewAttributes → List ViewNode
  filled_inner content none = []
  filled_inner content (more form forms) = filled content form ++ filled_inner content forms

-- an attribute's text with one more: a class goes behind one blank to the class that is there, and any other text that is there stays
abbrev pub joined_text : Bool → List ℕ → Option (List ℕ) → List ℕ
joined_text is_class more_text None = more_text
joined_text true more_text (Some old) = old ++ (32 ∷ more_text)
joined_text false more_text (Some old) = old

-- attributes with an extra one joined to them
abbrev pub with_extra_text : ViewAttributes → List ℕ × List ℕ → ViewAttributes
with_extra_text attributes entry =
    with_value entry.0 (joined_text (bytes_eq entry.0 (codes "class")) entry.1 (value_of entry.0 attributes)) attributes

-- attributes with extra ones joined to them, in the order of the keys
abbrev pub with_extra : ViewAttributes → ViewAttributes → ViewAttributes
with_extra attributes extra = fold with_extra_text attributes extra
