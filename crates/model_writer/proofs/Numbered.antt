-- Ids of items, and new ids for them.
use Rattle.std.proofs.Common.{◌≡◌, ◌≢◌, ℕ, zero, suc, ◌+◌, ◌-◌, ◌<◌, ◌≤◌, ◌^◌, min, List, [], ◌∷◌, ◌++◌, map, length, take, drop, get_or, refl, sym, ap, ◌∙◌}
use Rattle.std.proofs.Common.{subst, arith}
use Rattle.std.proofs.lemmas.List.{length-append, append-nil, take-append-drop, take_more, length-drop, length-take}
use Rattle.model_writer.proofs.Joined.{items-push}
use Rattle.model_doc.proofs.NextIds.{ids-inner, ids-characters}
use Rattle.item_definitions.specs.Item.{Item, Attributes, character, element, more, items_of, count_of, depth_of}
use Rattle.document_definitions.specs.Document.{ids_of, ids_of_item, ids_of_inner}
use Rattle.edit_definitions.specs.Runs.{item_with_ids, inner_with_ids, with_ids}
use Rattle.edit_definitions.proofs.Drawn.{next-item}
use Rattle.model_tree.specs.declared.items.Node.{Node}
use Rattle.model_tree.specs.declared.items.Node.TheVariants.{Run, Element}
use Rattle.model_tree.specs.Parts.{TextParts, HeadParts}
use Rattle.model_tree.specs.Nodes.{characters, items_at, items_in, IsNormal}
use Rattle.model_tree.proofs.Counts.{count-append, count-inner, depth-append, depth-inner}
use Rattle.item_definitions.proofs.Sizes.{length-count}

-- how many ids there are
pub ids-append : (front back : List Item) → length (ids_of (front ++ back)) ≡ length (ids_of front) + length (ids_of back)
ids-append [] back = omega arith
ids-append (item ∷ front) back =
    let rest = ids-append front back in
    let a = length-append (ids_of_item item) (ids_of (front ++ back)) in
    let b = length-append (ids_of_item item) (ids_of front) in
    omega (arith, rest, a, b)

pub text_ids : (node : Node) (text : TextParts) → node ≡ Run text → length (ids_of (items_at node)) ≡ 0
text_ids node text is = ap (λ n. length (ids_of (items_at n))) is ∙ ap (λ (ids : List ℕ). length ids) (ids-characters text.attributes text.scalars)

one-element : (id : ℕ) (name : List ℕ) (attributes : Attributes) (children : List Item)
    → length (ids_of (element id name attributes (items_of children) ∷ [])) ≡ 1 + length (ids_of children)
one-element id name attributes children =
    let a = length-append (id ∷ ids_of_inner (items_of children)) [] in
    let b = ap (λ (ids : List ℕ). length ids) (ids-inner children) in
    omega (arith, a, b)

pub element_ids : (node : Node) (head : HeadParts) (children among : List Item) → node ≡ Element head children → among ≡ children
    → length (ids_of (items_at node)) ≡ 1 + length (ids_of among)
element_ids node head children among is same =
    ap (λ n. length (ids_of (items_at n))) is ∙ one-element head.id head.name head.attributes children
    ∙ ap (λ (xs : List Item). 1 + length (ids_of xs)) (sym same)

taken-more : (nodes : List Node) (index : ℕ) (node : Node) → index < length nodes → node ≡ get_or nodes index node → items_in (take (index + 1) nodes)
    ≡ items_in (take index nodes) ++ items_at node
taken-more nodes index node less here =
    ap items_in (take_more nodes index node less ∙ ap (λ n. take index nodes ++ n ∷ []) (sym here)) ∙ items-push (take index nodes) node

pub next_ids : (nodes : List Node) (index : ℕ) (node : Node) (count added : ℕ)
    → count ≡ min (length (ids_of (items_in (take index nodes)))) (2 ^ 64 - 1) → index < length nodes → node ≡ get_or nodes index node
    → added ≡ min (length (ids_of (items_at node))) (2 ^ 64 - 1) → min (count + added) (2 ^ 64 - 1)
    ≡ min (length (ids_of (items_in (take (index + 1) nodes)))) (2 ^ 64 - 1)
next_ids nodes index node count added so_far less here these =
    let a = ap (λ (xs : List Item). length (ids_of xs)) (taken-more nodes index node less here) in
    let b = ids-append (items_in (take index nodes)) (items_at node) in
    omega (arith, a, b, so_far, these)

-- how large a part is
pub node_depth : (nodes : List Node) (index : ℕ) (node : Node) → index < length nodes → node ≡ get_or nodes index node → depth_of (items_at node)
    ≤ depth_of (items_in nodes)
node_depth [] index node less here = absurd (omega arith)
node_depth (first ∷ nodes) zero node less here =
    let same = ap (λ n. depth_of (items_at n)) here in
    let a = depth-append (items_at first) (items_in nodes) in
    omega (arith, same, a)
node_depth (first ∷ nodes) (suc index) node less here =
    let rest = node_depth nodes index node (omega arith) here in
    let a = depth-append (items_at first) (items_in nodes) in
    omega (arith, rest, a)

pub element_depth : (node : Node) (head : HeadParts) (children among : List Item) → node ≡ Element head children → among ≡ children
    → depth_of (items_at node) ≡ 1 + depth_of among
element_depth node head children among is same =
    let a = depth-inner children in
    let b = ap depth_of same in
    let c = ap (λ n. depth_of (items_at n)) is in
    omega (arith, a, b, c)

pub element_count : (node : Node) (head : HeadParts) (children : List Item) → node ≡ Element head children → count_of (items_at node) ≡ 1 + count_of children
element_count node head children is = (let a = count-inner children in let c = ap (λ n. count_of (items_at n)) is in omega (arith, a, c))

split-count : (half : ℕ) (items : List Item) → count_of items ≡ count_of (take half items) + count_of (drop half items)
split-count half items = ap count_of (sym (take-append-drop half items)) ∙ count-append (take half items) (drop half items)

pub front_less : (half : ℕ) (items : List Item) → half < length items → count_of (take half items) < count_of items
front_less half items less =
    let a = split-count half items in
    let b = length-count (drop half items) in
    let c = length-drop half items in
    omega (arith, a, b, c)

pub back_less : (half : ℕ) (items : List Item) → 0 < half → half < length items → count_of (drop half items) < count_of items
back_less half items some less =
    let a = split-count half items in
    let b = length-count (take half items) in
    let c = length-take half items in
    omega (arith, a, b, c)

pub halves_ids : (half : ℕ) (items : List Item) → length (ids_of (take half items)) + length (ids_of (drop half items)) ≡ length (ids_of items)
halves_ids half items = sym (ids-append (take half items) (drop half items)) ∙ ap (λ (xs : List Item). length (ids_of xs)) (take-append-drop half items)

inner-numbered : (next : ℕ) (items : List Item) → (inner_with_ids next (items_of items)).0 ≡ items_of (with_ids next items)
inner-numbered next [] = refl
inner-numbered next (item ∷ items) = ap (more (item_with_ids next item).0) (inner-numbered (item_with_ids next item).1 items)

pub numbered_element : (id next : ℕ) (named name : List ℕ) (given attributes : Attributes) (children numbered made : List Item)
    → made ≡ element id named given (items_of numbered) ∷ [] → id ≡ next → named ≡ name → given ≡ attributes
    → numbered ≡ with_ids (next + 1) children → made ≡ with_ids next (element id name attributes (items_of children) ∷ [])
numbered_element id next named name given attributes children numbered made is same also too e =
    is ∙ (λ i. element (same i) (also i) (too i) (items_of (e i)) ∷ [])
    ∙ ap (λ xs. element next name attributes xs ∷ []) (sym (inner-numbered (next + 1) children))

numbered-append : (next : ℕ) (front back : List Item) → with_ids next (front ++ back) ≡ with_ids next front ++ with_ids (next + length (ids_of front)) back
numbered-append next [] back = ap (λ n. with_ids n back) (let e : next ≡ next + 0 = omega arith in e)
numbered-append next (item ∷ front) back =
    let a = next-item next item in
    let b = length-append (ids_of_item item) (ids_of front) in
    let same : (item_with_ids next item).1 + length (ids_of front) ≡ next + length (ids_of (item ∷ front)) = omega (arith, a, b) in
    ap (λ xs. (item_with_ids next item).0 ∷ xs) (numbered-append (item_with_ids next item).1 front back
    ∙ ap (λ n. with_ids (item_with_ids next item).1 front ++ with_ids n back) same)

pub numbered_halves : (half next then : ℕ) (items made rest : List Item) → made ≡ with_ids next (take half items)
    → then ≡ next + length (ids_of (take half items)) → rest ≡ with_ids then (drop half items)
    → made ++ rest ≡ with_ids next items
numbered_halves half next then items made rest first at second =
    (λ i. first i ++ second i) ∙ ap (λ n. with_ids next (take half items) ++ with_ids n (drop half items)) at
    ∙ sym (numbered-append next (take half items) (drop half items)) ∙ ap (with_ids next) (take-append-drop half items)

text-numbered : (next : ℕ) (attributes : Attributes) (scalars : List ℕ) → with_ids next (map (λ scalar. character scalar attributes) scalars)
    ≡ map (λ scalar. character scalar attributes) scalars
text-numbered next attributes [] = refl
text-numbered next attributes (scalar ∷ scalars) = ap (λ xs. character scalar attributes ∷ xs) (text-numbered next attributes scalars)

-- a list of nodes that has one text or nothing
pub nothing_numbered : (next : ℕ) (nodes : List Node) (items : List Item) → items_in nodes ≡ items → nodes ≡ [] → with_ids next items ≡ items
nothing_numbered next nodes items is none_there = ap (with_ids next) (sym same) ∙ same
  where
    same : [] ≡ items
    same = ap items_in (sym none_there) ∙ is

pub nothing_counted : (nodes : List Node) (items : List Item) → items_in nodes ≡ items → nodes ≡ [] → length (ids_of items) ≡ 0
nothing_counted nodes items is none_there = ap (λ (xs : List Item). length (ids_of xs)) (sym (ap items_in (sym none_there) ∙ is))

pub text_numbered : (next : ℕ) (node : Node) (text : TextParts) (items : List Item) → node ≡ Run text → items_at node ≡ items → with_ids next items ≡ items
text_numbered next node text items is whole =
    let same : characters text ≡ items = ap items_at (sym is) ∙ whole in
    ap (with_ids next) (sym same) ∙ text-numbered next text.attributes text.scalars ∙ same

pub one_node : (nodes : List Node) (node : Node) (items : List Item) → items_in nodes ≡ items → nodes ≡ node ∷ [] → items_at node ≡ items
one_node nodes node items is one = sym (append-nil (items_at node)) ∙ sym (ap items_in one) ∙ is

-- a list of two nodes or more has two items or more
pub two_nodes : (nodes rest : List Node) (node : Node) (items : List Item) → items_in nodes ≡ items → IsNormal nodes → nodes ≡ node ∷ rest → rest ≢ []
    → 2 ≤ length items
two_nodes nodes rest node items is normal split some =
    go rest (subst IsNormal split normal) some (ap (λ (xs : List Item). length xs) (sym (ap items_in split) ∙ is))
  where
    go : (rest : List Node) → IsNormal (node ∷ rest) → rest ≢ [] → length (items_in (node ∷ rest)) ≡ length items → 2 ≤ length items
    go [] normal some long = absurd (some refl)
    go (next ∷ rest) normal some long =
        let a = length-append (items_at node) (items_in (next ∷ rest)) in
        let b = length-append (items_at next) (items_in rest) in
        omega (arith, a, b, long, normal.0, normal.2.0)
