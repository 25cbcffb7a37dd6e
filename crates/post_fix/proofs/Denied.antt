-- What the fixer of attributes wants of a document, place by place, and node by node.
use Rattle.std.proofs.Common.{◌≡◌, ℕ, suc, ◌+◌, ◌<◌, List, [], ◌∷◌, ◌++◌, map, length, drop, get_or, Option, Some, None, unwrap_or, codes, refl, sym, ap}
use Rattle.std.proofs.Common.{◌∙◌, arith, append_assoc, append-nil, drop-cons, add-one}
use Rattle.std.specs.List.{flat_map}
use Rattle.item_definitions.specs.Item.{Item, Items, Attributes, character, element, none, more, inner, list_of, items_of}
use Rattle.item_definitions.specs.Children.{children_at, item_at, parent_of}
use Rattle.item_definitions.proofs.Paths.{parent_of-push, offset_of-push}
use Rattle.operation_definitions.proofs.Lifting.{list_of-items_of}
use Rattle.model_tree.specs.declared.items.Node.{Node}
use Rattle.model_tree.specs.declared.items.Node.TheVariants.{Run, Element}
use Rattle.model_tree.specs.Parts.{HeadParts}
use Rattle.model_tree.specs.Nodes.{items_at, items_in, IsNormal}
use Rattle.schema_definitions.specs.Allowed.{Rules}
use Rattle.breach_definitions.specs.Breach.{Placed, placed_item, placed_inner}
use Rattle.edit_definitions.specs.declared.edit.Edit.{Edit}
use Rattle.edit_definitions.specs.declared.edit.Target.TheVariants.{Element as OfElement}
use Rattle.edit_definitions.proofs.Reached.{children-below}
use Rattle.fix_definitions.specs.declared.stock.StockFixer.TheVariants.{DropAttributes}
use Rattle.fix_definitions.specs.Places.{left_of, right_of, place_of, places}
use Rattle.fix_definitions.specs.Wanted.{dropped, wanted}
use Rattle.fix_definitions.proofs.Neighbours.{left_is, no_left}
use Rattle.post_fix.specs.Dropped.{keys_dropped, standing, dropped_in, dropped_from, node_dropped, nodes_dropped}
use Rattle.post_fix.proofs.Runs.{IsBefore, nodes_are}
use Rattle.post_fix.proofs.Walked.{level_item, at_front, length_next}

behind_front : (front : List Item) (item : Item) (rest : List Item) → drop (length front + 1) (front ++ item ∷ rest) ≡ rest
behind_front [] item rest = refl
behind_front (first ∷ front) item rest =
    (let same : length (first ∷ front) + 1 ≡ suc (length front + 1) = omega arith in ap (λ n. drop n (first ∷ front ++ item ∷ rest)) same)
    ∙ behind_front front item rest

-- ---- place by place

module _ (rules : Rules) (whole : List Item) where
  abbrev of_placed : List Placed → List Edit
  of_placed placed = flat_map (wanted rules DropAttributes) (map (place_of whole) placed)

  of_placed-append : (xs ys : List Placed) → of_placed (xs ++ ys) ≡ of_placed xs ++ of_placed ys
  of_placed-append [] ys = refl
  of_placed-append (x ∷ xs) ys =
      ap (λ t. wanted rules DropAttributes (place_of whole x) ++ t) (of_placed-append xs ys)
      ∙ sym (append_assoc (wanted rules DropAttributes (place_of whole x)) (of_placed xs) (of_placed ys))

  right_is : (path : List ℕ) (front : List Item) (item : Item) (rest : List Item) → children_at path whole ≡ Some (front ++ item ∷ rest)
      → right_of whole (path ++ length front ∷ []) ≡ rest
  right_is path front item rest e =
      ap (λ n. drop (n + 1) (unwrap_or (children_at (parent_of (path ++ length front ∷ [])) whole) [])) (offset_of-push path (length front))
      ∙ ap (λ p. drop (length front + 1) (unwrap_or (children_at p whole) [])) (parent_of-push path (length front))
      ∙ ap (λ o. drop (length front + 1) (unwrap_or o [])) e
      ∙ behind_front front item rest

  mutual
    item_is : (names : List (List ℕ)) (path : List ℕ) (left : Option Item) (item : Item) (right : List Item) → left_of whole path ≡ left
        → right_of whole path ≡ right → ((kids : List Item) → inner item ≡ Some kids → children_at path whole ≡ Some kids)
        → of_placed (placed_item names path item) ≡ dropped_in rules names path left item right
    item_is names path left (character scalar attributes) right l r below =
        append-nil _ ∙ (λ i. dropped rules (standing names path (l i) (character scalar attributes) (r i)))
    item_is names path left (element id name attributes children) right l r below =
        let inside = inner_is (names ++ name ∷ []) path [] children (below (list_of children) refl)
        ∙ ap (λ left. dropped_from rules (names ++ name ∷ []) path 0 left children) (no_left whole path) in
        λ i. dropped rules (standing names path (l i) (element id name attributes children) (r i)) ++ inside i

    inner_is : (names : List (List ℕ)) (path : List ℕ) (front : List Item) (items : Items) → children_at path whole ≡ Some (front ++ list_of items)
        → of_placed (placed_inner names path (length front) items)
        ≡ dropped_from rules names path (length front) (left_of whole (path ++ length front ∷ [])) items
    inner_is names path front none e = refl
    inner_is names path front (more item items) e =
        let here : item_at (path ++ length front ∷ []) whole ≡ Some item = level_item rules whole path (length front) whole (front ++ item ∷ list_of items) e
        ∙ at_front rules whole front item (list_of items) in
        let next : length (front ++ item ∷ []) ≡ length front + 1 = length_next rules whole front item in
        of_placed-append (placed_item names (path ++ length front ∷ []) item) (placed_inner names path (length front + 1) items)
        ∙ (λ i. item_is names (path ++ length front ∷ []) (left_of whole (path ++ length front ∷ [])) item (list_of items) refl
        (right_is path front item (list_of items) e)
        (λ kids f. children-below path (length front) whole (front ++ item ∷ list_of items) kids item e (at_front rules whole front item (list_of items)) f) i
        ++ (ap (λ n. of_placed (placed_inner names path n items)) (sym next)
        ∙ inner_is names path (front ++ item ∷ []) items (e ∙ ap Some (sym (append_assoc front (item ∷ []) (list_of items))))
        ∙ ap (λ n. dropped_from rules names path n (left_of whole (path ++ n ∷ [])) items) next
        ∙ ap (λ left. dropped_from rules names path (length front + 1) left items) (left_is whole path (length front) ∙ here)) i)

  all_is : flat_map (wanted rules DropAttributes) (places whole) ≡ dropped_from rules (codes "$root" ∷ []) [] 0 None (items_of whole)
  all_is =
      inner_is (codes "$root" ∷ []) [] [] (items_of whole) (ap Some (sym (list_of-items_of whole)))
      ∙ ap (λ left. dropped_from rules (codes "$root" ∷ []) [] 0 left (items_of whole)) (no_left whole [])

pub all_dropped : (under rules : Rules) (items whole : List Item) (out new : List Edit) → under ≡ rules → items ≡ whole
    → new ≡ out ++ dropped_from under (codes "$root" ∷ []) [] 0 None (items_of items) → new ≡ out ++ flat_map (wanted rules DropAttributes) (places whole)
all_dropped under rules items whole out new u e n =
    n ∙ (λ i. out ++ dropped_from (u i) (codes "$root" ∷ []) [] 0 None (items_of (e i))) ∙ ap (λ t. out ++ t) (sym (all_is rules whole))

-- ---- node by node

-- as many characters as scalar values
pub long : (scalars : List ℕ) (attributes : Attributes) → length (map (λ scalar. character scalar attributes) scalars) ≡ length scalars
long [] attributes = refl
long (scalar ∷ scalars) attributes = ap suc (long scalars attributes)

module _ (rules : Rules) (names : List (List ℕ)) (path : List ℕ) where
  -- one node more
  pub next_dropped : (nodes : List Node) (index offset next : ℕ) (node : Node) (out put all : List Edit) → index < length nodes
      → node ≡ get_or nodes index node → next ≡ offset + length (items_at node) → put ≡ out ++ node_dropped rules names path offset node
      → out ++ nodes_dropped rules names path offset (drop index nodes) ≡ all
      → put ++ nodes_dropped rules names path next (drop (index + 1) nodes) ≡ all
  next_dropped nodes index offset next node out put all less is n p e =
      let here : drop index nodes ≡ node ∷ drop (index + 1) nodes = drop-cons nodes index node less
      ∙ (λ i. sym is i ∷ drop (sym (add-one index) i) nodes) in
      (λ i. p i ++ nodes_dropped rules names path (n i) (drop (index + 1) nodes))
      ∙ append_assoc out (node_dropped rules names path offset node) (nodes_dropped rules names path (offset + length (items_at node)) (drop (index + 1) nodes))
      ∙ ap (λ nodes. out ++ nodes_dropped rules names path offset nodes) (sym here)
      ∙ e

  before_none : (nodes : List Node) → IsBefore None nodes
  before_none [] = tt
  before_none (Run text ∷ nodes) = refl
  before_none (Element head children ∷ nodes) = tt

  -- all nodes
  pub inside_dropped : (nodes left : List Node) (items : List Item) (offset : ℕ) (out new : List Edit) → left ≡ [] → items_in nodes ≡ items → IsNormal nodes
      → new ++ nodes_dropped rules names path offset left ≡ out ++ nodes_dropped rules names path 0 nodes
      → new ≡ out ++ dropped_from rules names path 0 None (items_of items)
  inside_dropped nodes left items offset out new bare e normal h =
      sym (append-nil new) ∙ ap (λ left. new ++ nodes_dropped rules names path offset left) (sym bare) ∙ h
      ∙ ap (λ t. out ++ t) (sym (nodes_are rules names path nodes 0 None normal (before_none nodes)))
      ∙ ap (λ items. out ++ dropped_from rules names path 0 None (items_of items)) e

  -- an element
  pub element_dropped : (here : List ℕ) (offset : ℕ) (node : Node) (head : HeadParts) (children : List Item) (under : List (List ℕ)) (out mid new : List Edit)
      → node ≡ Element head children → here ≡ path ++ offset ∷ [] → under ≡ names ++ head.name ∷ []
      → mid ≡ out ++ keys_dropped rules names head.name head.attributes (OfElement here)
      → new ≡ mid ++ dropped_from rules under here 0 None (items_of children)
      → new ≡ out ++ node_dropped rules names path offset node
  element_dropped here offset node head children under out mid new e h u m n =
      n ∙ (λ i. m i ++ dropped_from rules (u i) here 0 None (items_of children))
      ∙ append_assoc out (keys_dropped rules names head.name head.attributes (OfElement here)) _
      ∙ ap (λ here. out ++ (keys_dropped rules names head.name head.attributes (OfElement here)
      ++ dropped_from rules (names ++ head.name ∷ []) here 0 None (items_of children))) h
      ∙ ap (λ node. out ++ node_dropped rules names path offset node) (sym e)
