-- What the fixer of attributes wants of a document, node by node.
use Rattle.std.specs.Prelude.{ℕ, ◌+◌, List, [], ◌∷◌, ◌++◌, map, length, not, Option, Some, None, codes}
use Rattle.std.specs.List.{filter}
use Rattle.std.specs.Map.{keys_of}
use Rattle.item_definitions.specs.Item.{Item, Items, Attributes, character, element, none, more, list_of, items_of}
use Rattle.model_tree.specs.declared.items.Node.{Node}
use Rattle.model_tree.specs.declared.items.Node.TheVariants.{Run, Element}
use Rattle.model_tree.specs.Parts.{TextParts}
use Rattle.model_tree.specs.Nodes.{items_at}
use Rattle.schema_definitions.specs.Allowed.{Rules, check_attribute}
use Rattle.edit_definitions.specs.declared.edit.Edit.{Edit}
use Rattle.edit_definitions.specs.declared.edit.Edit.TheVariants.{RemoveAttribute}
use Rattle.edit_definitions.specs.declared.edit.Target.{Target}
use Rattle.edit_definitions.specs.declared.edit.Target.TheVariants.{Range as InRange, Element as OfElement}
use Rattle.fix_definitions.specs.Places.{Place}
use Rattle.fix_definitions.specs.Wanted.{dropped}

-- each key goes from a target that the schema denies an item of this name behind these ancestors
abbrev pub keys_dropped : Rules → List (List ℕ) → List ℕ → Attributes → Target → List Edit
keys_dropped rules names name attributes target = map (RemoveAttribute target) (filter (λ key. not (check_attribute rules names name key)) (keys_of attributes))

-- an item where it stands
abbrev pub standing : List (List ℕ) → List ℕ → Option Item → Item → List Item → Place
standing names path left item right = record { ancestors = names; path = path; left = left; item = item; right = right }

abbrev mutual
  -- what is dropped of an item at a path, and of all that is in it
  pub dropped_in : Rules → List (List ℕ) → List ℕ → Option Item → Item → List Item → List Edit
  dropped_in rules names path left (character scalar attributes) right = dropped rules (standing names path left (character scalar attributes) right)
  dropped_in rules names path left (element id name attributes children) right =
      dropped rules (standing names path left (element id name attributes children) right) ++ dropped_from rules (names ++ name ∷ []) path 0 None children

  -- what is dropped of items of the element at a path, from an offset on
  pub dropped_from : Rules → List (List ℕ) → List ℕ → ℕ → Option Item → Items → List Edit
  dropped_from rules names path offset left none = []
  dropped_from rules names path offset left (more item items) =
      dropped_in rules names (path ++ offset ∷ []) left item (list_of items) ++ dropped_from rules names path (offset + 1) (Some item) items

-- the run that a text is
abbrev pub run_target : List ℕ → ℕ → TextParts → Target
run_target path offset text = InRange (path ++ offset ∷ []) (path ++ (offset + length text.scalars) ∷ [])

-- what is dropped of a node that begins at an offset
abbrev pub node_dropped : Rules → List (List ℕ) → List ℕ → ℕ → Node → List Edit
node_dropped rules names path offset (Run text) = keys_dropped rules names (codes "$text") text.attributes (run_target path offset text)
node_dropped rules names path offset (Element head children) =
    keys_dropped rules names head.name head.attributes (OfElement (path ++ offset ∷ []))
    ++ dropped_from rules (names ++ head.name ∷ []) (path ++ offset ∷ []) 0 None (items_of children)

-- what is dropped of nodes, the first of which begins at an offset
abbrev pub nodes_dropped : Rules → List (List ℕ) → List ℕ → ℕ → List Node → List Edit
nodes_dropped rules names path offset [] = []
nodes_dropped rules names path offset (node ∷ nodes) =
    node_dropped rules names path offset node ++ nodes_dropped rules names path (offset + length (items_at node)) nodes
