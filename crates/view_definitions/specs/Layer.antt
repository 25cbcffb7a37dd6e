-- Layers: what an attribute element around a run of items is. (After the attribute elements of CKEditor 5's view, whose priority and id
-- say how they nest and which of them may be one.)
use Rattle.std.specs.Prelude.{ℕ, ℤ, List, [], ◌∷◌, ◌++◌, Bool, Option, Some, None}
use Rattle.std.specs.List.{flat_map}
use Rattle.std.specs.Option.{option_cmp}
use Rattle.std.specs.Ordering.{int_cmp, ordering_then, eq_by_cmp}
use Rattle.std.specs.declared.cmp.Ordering.{Ordering}
use Rattle.std.specs.Cmp.Lexicographic.{slice_cmp}
use Rattle.ck_base.specs.Entries.{name_cmp}
use Rattle.view_definitions.specs.Node.{ViewAttributes, Kind, container, attribute, empty, ui, Head, ViewNode, element, nodes_of}

-- what an attribute element is beside its children: name, attributes, priority and, if it has one, id. (After `AttributeElement` of CKEditor 5's
-- view.)
pub record Layer : Type 0 where
  pub name : List ℕ
  pub attrs : ViewAttributes
  pub priority : ℤ
  pub id : Option (List ℕ)

-- the identity text: the name, and ` KEY="VALUE"` for each attribute in the order of the keys
abbrev pub identity_text : Layer → List ℕ
identity_text layer = layer.name ++ flat_map (λ entry. 32 ∷ (entry.0 ++ 61 ∷ 34 ∷ (entry.1 ++ 34 ∷ []))) layer.attrs

-- the order of pairs of a key and a text, by the key first
abbrev pub pair_cmp : List ℕ × List ℕ → List ℕ × List ℕ → Ordering
pair_cmp pair other = ordering_then (name_cmp pair.0 other.0) (name_cmp pair.1 other.1)

-- the order of layers, the outermost first: the lower priority stands outside; then by identity text; then by id, none first; then by
-- their attributes as a list of keys and texts. Texts compare by their scalar values
abbrev pub layer_cmp : Layer → Layer → Ordering
layer_cmp layer other =
    ordering_then (int_cmp layer.priority other.priority)
    (ordering_then (name_cmp (identity_text layer) (identity_text other))
    (ordering_then (option_cmp name_cmp layer.id other.id) (slice_cmp pair_cmp layer.attrs other.attrs)))

-- whether two layers are equal, in name, attributes, priority and id
abbrev pub same_layer : Layer → Layer → Bool
same_layer = eq_by_cmp layer_cmp

-- the layer that an element is: None where it is no attribute element, or has a number and so shows an element of the model
abbrev pub layer_of_kind : Option ℕ → Kind → List ℕ → ViewAttributes → Option Layer
layer_of_kind (Some number) kind name attributes = None
layer_of_kind None container name attributes = None
layer_of_kind None (attribute priority id) name attributes = Some (record { name = name; attrs = attributes; priority = priority; id = id })
layer_of_kind None empty name attributes = None
layer_of_kind None ui name attributes = None

-- the layer that an element with this head is
abbrev pub layer_of : Head → Option Layer
layer_of head = layer_of_kind head.number head.kind head.name head.attributes

-- the attribute element of a layer around these nodes: it has no number
abbrev pub layer_head : Layer → Head
layer_head layer = record { kind = attribute layer.priority layer.id; name = layer.name; attributes = layer.attrs; number = None; changes = 0 }

-- the attribute element of a layer around these nodes
abbrev pub in_layer : Layer → List ViewNode → ViewNode
in_layer layer nodes = element (layer_head layer) (nodes_of nodes)
