-- The next id, raised above the ids of items.
use Rattle.std.proofs.Common.{◌≡◌, ℕ, ◌+◌, ◌<◌, ◌≤◌, max, List, [], ◌∷◌, ◌++◌, map, length, get_or, drop, refl, sym, ap, ◌∙◌, arith, append_assoc}
use Rattle.std.proofs.lemmas.List.Sums.{fold-append}
use Rattle.live_selection.proofs.Looking.{dropped}
use Rattle.item_definitions.specs.Item.{Item, Attributes, character, items_of, depth_of}
use Rattle.document_definitions.specs.Document.{ids_of, ids_of_item, ids_of_inner, raised}
use Rattle.model_tree.specs.declared.items.Node.{Node}
use Rattle.model_tree.specs.declared.items.Node.TheVariants.{Run, Element}
use Rattle.model_tree.specs.Parts.{TextParts, HeadParts}
use Rattle.model_tree.specs.Nodes.{items_at, items_in}
use Rattle.model_tree.proofs.Counts.{depth-append, depth-inner}
use Rattle.model_tree.proofs.Steps.{from_on}

pub ids-append : (xs ys : List Item) → ids_of (xs ++ ys) ≡ ids_of xs ++ ids_of ys
ids-append [] ys = refl
ids-append (x ∷ xs) ys = ap (λ ids. ids_of_item x ++ ids) (ids-append xs ys) ∙ sym (append_assoc (ids_of_item x) (ids_of xs) (ids_of ys))

pub ids-inner : (items : List Item) → ids_of_inner (items_of items) ≡ ids_of items
ids-inner [] = refl
ids-inner (item ∷ items) = ap (λ ids. ids_of_item item ++ ids) (ids-inner items)

pub ids-characters : (attributes : Attributes) (scalars : List ℕ) → ids_of (map (λ scalar. character scalar attributes) scalars) ≡ []
ids-characters attributes [] = refl
ids-characters attributes (scalar ∷ scalars) = ids-characters attributes scalars

raised-append : (next : ℕ) (xs ys : List ℕ) → raised next (xs ++ ys) ≡ raised (raised next xs) ys
raised-append next xs ys = fold-append (λ above id. max above (id + 1)) next xs ys

raised-more : (next : ℕ) (xs ys : List Item) → raised next (ids_of (xs ++ ys)) ≡ raised (raised next (ids_of xs)) (ids_of ys)
raised-more next xs ys = ap (raised next) (ids-append xs ys) ∙ raised-append next (ids_of xs) (ids_of ys)

-- by a node
pub by_text : (node : Node) (text : TextParts) (next : ℕ) → node ≡ Run text → next ≡ raised next (ids_of (items_at node))
by_text node text next is = sym (ap (λ n. raised next (ids_of (items_at n))) is ∙ ap (raised next) (ids-characters text.attributes text.scalars))

pub by_element : (node : Node) (head : HeadParts) (children : List Item) (next made : ℕ) → node ≡ Element head children
    → made ≡ raised (max next (head.id + 1)) (ids_of children)
    → made ≡ raised next (ids_of (items_at node))
by_element node head children next made is e =
    let above = max next (head.id + 1) in
    let whole : raised next (ids_of (items_at node)) ≡ raised above (ids_of_inner (items_of children) ++ []) = ap (λ n. raised next (ids_of (items_at n))) is in
    e ∙ ap (raised above) (sym (ids-inner children)) ∙ sym (whole ∙ raised-append above (ids_of_inner (items_of children)) [])

-- the node at an index, and then those behind it
pub next_node : (read nodes : List Node) (index : ℕ) (node : Node) (next above made : ℕ) → read ≡ nodes → index < length nodes → node ≡ get_or read index node
    → raised above (ids_of (items_in (drop index nodes))) ≡ next → made ≡ raised above (ids_of (items_at node))
    → raised made (ids_of (items_in (drop (index + 1) nodes))) ≡ next
next_node read nodes index node next above made same less found all e =
    ap (λ n. raised n (ids_of (items_in (drop (index + 1) nodes)))) e
    ∙ sym (ap (λ items. raised above (ids_of items)) (from_on read nodes index node same less found)
    ∙ raised-more above (items_at node) (items_in (drop (index + 1) nodes)))
    ∙ all

pub node_flat : (read nodes : List Node) (index : ℕ) (node : Node) (items : List Item) → read ≡ nodes → index < length nodes
    → node ≡ get_or read index node → items_in nodes ≡ items
    → depth_of (items_at node) ≤ depth_of items
node_flat read nodes index node items same less found whole =
    let a = ap depth_of (from_on read nodes index node same less found) in
    let b = depth-append (items_at node) (items_in (drop (index + 1) nodes)) in
    let c = dropped index nodes in
    let d : depth_of (items_in nodes) ≡ depth_of items = ap depth_of whole in
    omega (arith, a, b, c, d)

pub children_flat : (node : Node) (head : HeadParts) (children : List Item) → node ≡ Element head children → depth_of children < depth_of (items_at node)
children_flat node head children is =
    let a : depth_of (items_at node) ≡ depth_of (items_at (Element head children)) = ap (λ n. depth_of (items_at n)) is in
    let b = depth-inner children in
    omega (arith, a, b)
