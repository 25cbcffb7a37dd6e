-- Documents and views for the worked examples.
use Rattle.std.specs.Prelude.{ℕ, pos, List, [], ◌∷◌, ◌++◌, map, Bool, true, false, Option, Some, None, codes}
use Rattle.ck_base.specs.declared.value.Value.TheVariants.{Truth}
use Rattle.item_definitions.specs.Item.{Item, Attributes, items_of}
use Rattle.item_definitions.specs.Item as items
use Rattle.item_definitions.specs.Position.{between}
use Rattle.document_definitions.specs.Document.{Document}
use Rattle.document_definitions.specs.Markers.{Markers}
use Rattle.document_definitions.specs.Selection.{Selection, selected, with_override}
use Rattle.view_definitions.specs.Node.{ViewAttributes, Kind, container, ViewNode, element, nodes_of}
use Rattle.view_definitions.specs.Layer.{Layer}

-- characters with these attributes
abbrev pub letters : Attributes → List ℕ → List Item
letters attributes scalars = map (λ scalar. items.character scalar attributes) scalars

-- the attribute `bold`
abbrev pub bold : Attributes
bold = (codes "bold", Truth true) ∷ []

-- the attribute `italic`
abbrev pub italic : Attributes
italic = (codes "italic", Truth true) ∷ []

-- both attributes
abbrev pub both : Attributes
both = bold ++ italic

-- an element of this id and name without attributes
abbrev pub holding : ℕ → List ℕ → List Item → Item
holding id name list = items.element id name [] (items_of list)

-- a paragraph with the id 1
abbrev pub paragraph : List Item → Item
paragraph list = holding 1 (codes "paragraph") list

-- a collapsed selection
abbrev pub at : List ℕ → Selection
at position = selected (between position position) false

-- a document of these items
abbrev pub document : List Item → Markers → Selection → Document
document list markers selection = record { items = list; markers = markers; selection = selection; next_id = 9 }

-- a document of one paragraph, the selection at its start
abbrev pub one_paragraph : List Item → Markers → Document
one_paragraph list markers = document (paragraph list ∷ []) markers (at (0 ∷ 0 ∷ []))

-- a document of one paragraph, with this override of bold at a position
abbrev pub overriding : Option Bool → List Item → Markers → Document
overriding None list markers = document (paragraph list ∷ []) markers (with_override (codes "bold") None (at (0 ∷ 1 ∷ [])))
overriding (Some truth) list markers = document (paragraph list ∷ []) markers (with_override (codes "bold") (Some (Truth truth)) (at (0 ∷ 1 ∷ [])))

-- a marker of this name
abbrev pub marker : List ℕ → List ℕ → List ℕ → Markers
marker name start end = (name, between start end) ∷ []

-- an element of the view
abbrev pub made : Kind → List ℕ → ViewAttributes → List ViewNode → ViewNode
made kind name attributes nodes = element (record { kind = kind; name = name; attributes = attributes; number = None; changes = 0 }) (nodes_of nodes)

-- a container `p`
abbrev pub p : List ViewNode → ViewNode
p nodes = made container (codes "p") [] nodes

-- the layer of `bold`
abbrev pub strong : Layer
strong = record { name = codes "strong"; attrs = []; priority = pos 10; id = None }

-- the layer of `italic`
abbrev pub slanted : Layer
slanted = record { name = codes "i"; attrs = []; priority = pos 10; id = None }

-- the layer of the marker `comment`
abbrev pub comment : Layer
comment = record { name = codes "span"; attrs = (codes "class", codes "comment") ∷ []; priority = pos 10; id = Some (codes "comment") }
