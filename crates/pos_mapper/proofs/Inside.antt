-- The nodes in the slot of a shape are those that it was filled with, and the way there leads to them.
use Rattle.std.proofs.Common.{◌≡◌, ℕ, ◌+◌, ◌≤◌, List, [], ◌∷◌, ◌++◌, length, Option, Some, None, option_map, option_and_then, append_assoc, length-append, refl}
use Rattle.std.proofs.Common.{sym, ap, ◌∙◌, subst, arith}
use Rattle.std.specs.Prelude.{slice_get, true}
use Rattle.std.specs.Option.{option_or}
use Rattle.view_definitions.specs.Node.{ViewAttributes, ViewNode, children_of, nodes_of}
use Rattle.view_definitions.specs.Node as nodes
use Rattle.view_definitions.specs.NodeCode.{list_of-nodes_of}
use Rattle.view_definitions.specs.Row.{Entry, nest}
use Rattle.view_tree.specs.Changes.{inner_of}
use Rattle.converter_definitions.specs.Form.{Form, Forms, slot, text, element, none, more, list_of}
use Rattle.converter_definitions.specs.Shape.{slot_in, slot_among, slot_count, inner_slots, is_shape, is_outermost}
use Rattle.converter_definitions.specs.Views.{head_of, filled, filled_inner}
use Rattle.converter_definitions.specs.Gives.{Converted}
use Rattle.downcast_definitions.specs.Rows.{element_node}
use Rattle.downcast_definitions.specs.Seen.{into_slot}
use Rattle.item_definitions.specs.Children.{parent_of, offset_of}
use Rattle.pos_mapper.specs.Mapped.{by_slot, behind_slot, behind_among}
use Rattle.pos_mapper.specs.Reading.{Slots}
use Rattle.pos_mapper.specs.Seeking.{inside, slot_at, children_at}
use Rattle.pos_mapper.proofs.Filled.{get-behind, content-between, one-node, all-nodes, none-in, never}
use Rattle.pos_mapper.proofs.Documents.{one_slot}
use Rattle.pos_mapper.proofs.Shifted.{shift, NotEmpty}

-- one step on the way
one-step : (front back kids : List ViewNode) (head : nodes.Head) (index next : ℕ) (way : List ℕ) (behind : ℕ) → index ≡ length front
    → inside (index ∷ next ∷ way) behind (front ++ nodes.element head (nodes_of kids) ∷ back) ≡ inside (next ∷ way) behind kids
one-step front back kids head index next way behind b =
    ap (option_and_then (λ node. option_and_then (λ children. inside (next ∷ way) behind children) (children_of node)))
    (ap (slice_get (front ++ nodes.element head (nodes_of kids) ∷ back)) b ∙ get-behind front (nodes.element head (nodes_of kids)) back)
    ∙ ap (inside (next ∷ way) behind) (list_of-nodes_of kids)

module _ (content : List ViewNode) where
  -- what is in the slot among the nodes of these shapes
  abbrev Among : Forms ViewAttributes → Type 0
  Among forms =
      (front : List ViewNode) (index : ℕ) (way : List ℕ) → index ≡ length front → slot_among index forms ≡ Some way → inner_slots forms ≤ 1
      → inside way (behind_among forms) (front ++ filled_inner content forms) ≡ Some content

  mutual
    pub inside-among : (forms : Forms ViewAttributes) → Among forms
    inside-among none front index way b e c = cc
    inside-among (more form forms) front index way b e c = among-first form forms (inside-among forms) front index way (slot_in form) refl b e c

    among-first : (form : Form ViewAttributes) (forms : Forms ViewAttributes) → Among forms
        → (front : List ViewNode) (index : ℕ) (way : List ℕ) (o : Option (List ℕ)) → slot_in form ≡ o → index ≡ length front
        → option_or (option_map (λ place. index ∷ place) o) (slot_among (index + 1) forms) ≡ Some way → slot_count form + inner_slots forms ≤ 1
        → inside way (by_slot o (behind_among forms) (length (list_of forms)) (behind_slot form))
        (front ++ (filled content form ++ filled_inner content forms)) ≡ Some content
    among-first form forms rest front index way None f b e c =
        let one : length (filled content form) ≡ 1 = one-node content form (none-in form f) in
        let next : index + 1 ≡ length (front ++ filled content form) = (let l : length (front ++ filled content form)
        ≡ length front + length (filled content form) = length-append front (filled content form) in omega (arith, l, one, b)) in
        ap (inside way (behind_among forms)) (sym (append_assoc front (filled content form) (filled_inner content forms)))
        ∙ rest (front ++ filled content form) (index + 1) way next e (omega (arith, c))
    among-first slot forms rest front index way (Some []) f b e c =
        let same : index ∷ [] ≡ way = cc in
        let none_behind : inner_slots forms ≡ 0 = omega (arith, c) in
        subst (λ w. inside w (length (list_of forms)) (front ++ (content ++ filled_inner content forms)) ≡ Some content) same
        (ap Some (content-between front content (filled_inner content forms) index (length (list_of forms)) b (sym (all-nodes content forms none_behind))))
    among-first (text scalars) forms rest front index way (Some []) f b e c = cc
    among-first (element kind name attributes children) forms rest front index way (Some []) f b e c = absurd (never 0 children f)
    among-first slot forms rest front index way (Some (next ∷ place)) f b e c = cc
    among-first (text scalars) forms rest front index way (Some (next ∷ place)) f b e c = cc
    among-first (element kind name attributes children) forms rest front index way (Some (next ∷ place)) f b e c =
        let same : index ∷ next ∷ place ≡ way = cc in
        subst (λ w. inside w (behind_among children) (front ++ nodes.element (head_of kind name attributes) (nodes_of (filled_inner content children))
        ∷ filled_inner content forms) ≡ Some content) same
        (one-step front (filled_inner content forms) (filled_inner content children) (head_of kind name attributes) index next place (behind_among children) b
        ∙ inside-among children [] 0 (next ∷ place) refl f (omega (arith, c)))

-- in the slot of the node of an element is its own row
pub inside-shape : (made : Converted) (number : Option ℕ) (row : List Entry) (way : List ℕ) → is_shape made.form ≡ true → slot_in made.form ≡ Some way
    → inside way (behind_slot made.form) (inner_of (element_node number made row)) ≡ Some (nest row)
inside-shape made number row way e f = go made.form e f
  where
    go : (form : Form ViewAttributes) → is_shape form ≡ true → slot_in form ≡ Some way
        → inside way (behind_slot form) (inner_of (element_node number (record made { form = form }) row)) ≡ Some (nest row)
    go slot e f = cc
    go (text scalars) e f = cc
    go (element kind name attributes children) e f =
        ap (inside way (behind_among children)) (list_of-nodes_of (filled_inner (nest row) children))
        ∙ inside-among (nest row) children [] 0 way refl f (one_slot (element kind name attributes children) e)

pub children-are-inner : (node : ViewNode) → children_at (Some node) ≡ inner_of node
children-are-inner (nodes.text scalars) = refl
children-are-inner (nodes.element head children) = refl

-- its slot is found by its number
pub slot-of-node : (slots : Slots) (made : Converted) (number : Option ℕ) (row : List Entry) → is_outermost made.form ≡ true
    → slot_at slots (Some (element_node number made row)) ≡ option_and_then slots number
slot-of-node slots made number row e = go made.form e
  where
    go : (form : Form ViewAttributes) → is_outermost form ≡ true → slot_at slots (Some (element_node number (record made { form = form }) row))
        ≡ option_and_then slots number
    go slot e = cc
    go (text scalars) e = cc
    go (element kind name attributes children) e = refl

-- ---- the way to a slot

pub way-there : (form : Form ViewAttributes) (way : List ℕ) → slot_in form ≡ Some way → is_outermost form ≡ true → NotEmpty way
way-there slot way f e = cc
way-there (text scalars) way f e = cc
way-there (element kind name attributes children) [] f e = absurd (never 0 children f)
way-there (element kind name attributes children) (index ∷ way) f e = tt

-- a place in the content of a slot, at the end of the way there
pub way-into : (way inner : List ℕ) → NotEmpty way → NotEmpty inner → parent_of way ++ shift (offset_of way) inner ≡ into_slot way inner
way-into [] inner h k = absurd h
way-into (base ∷ []) [] h k = absurd k
way-into (base ∷ []) (index ∷ inner) h k = refl
way-into (step ∷ next ∷ way) inner h k = ap (λ list. step ∷ list) (way-into (next ∷ way) inner tt k)
