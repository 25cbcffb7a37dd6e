-- The steps of a walk over nodes.
use Rattle.std.proofs.Common.{◌≡◌, ℕ, zero, suc, ◌+◌, ◌<◌, ◌≤◌, ◌^◌, List, [], ◌∷◌, ◌++◌, map, length, drop, get_or, Option, None, refl, sym, ap}
use Rattle.std.proofs.Common.{◌∙◌, subst, arith, append_assoc, append-nil, drop-cons, add-one}
use Rattle.std.proofs.lemmas.List.{length_push}
use Rattle.item_definitions.specs.Item.{Item, character, element, items_of, list_of, count_of, depth_of}
use Rattle.operation_definitions.proofs.Lifting.{list_of-items_of}
use Rattle.model_tree.specs.declared.items.Node.{Node}
use Rattle.model_tree.specs.declared.items.Node.TheVariants.{Run, Element}
use Rattle.model_tree.specs.Parts.{TextParts, HeadParts}
use Rattle.model_tree.specs.Nodes.{items_at, items_in, IsNormal}
use Rattle.model_tree.proofs.Counts.{count-append, depth-append, count-inner, depth-inner}
use Rattle.edit_definitions.specs.declared.edit.Edit.{Edit}
use Rattle.fix_definitions.specs.declared.stock.StockFixer.{StockFixer}
use Rattle.post_fix.specs.Walked.{AreBelow, head_in, node_head, asked, wanted_in, wanted_from}

-- the head of the last of some items, if that is an element; or what stands before them
abbrev left_behind : Option HeadParts → List Item → Option HeadParts
left_behind left [] = left
left_behind left (item ∷ items) = left_behind (head_in item) items

wanted-append : (fixer : StockFixer) (path : List ℕ) (offset : ℕ) (left : Option HeadParts) (xs ys : List Item)
    → wanted_from fixer path offset left (items_of (xs ++ ys))
    ≡ wanted_from fixer path offset left (items_of xs) ++ wanted_from fixer path (offset + length xs) (left_behind left xs) (items_of ys)
wanted-append fixer path offset left [] ys = (let same : offset ≡ offset + 0 = omega arith in ap (λ n. wanted_from fixer path n left (items_of ys)) same)
wanted-append fixer path offset left (x ∷ xs) ys =
    let same : offset + 1 + length xs ≡ offset + length (x ∷ xs) = omega arith in
    ap (λ t. wanted_in fixer (path ++ offset ∷ []) left x ++ t) (wanted-append fixer path (offset + 1) (head_in x) xs ys
    ∙ ap (λ n. wanted_from fixer path (offset + 1) (head_in x) (items_of xs) ++ wanted_from fixer path n (left_behind (head_in x) xs) (items_of ys)) same)
    ∙ sym (append_assoc (wanted_in fixer (path ++ offset ∷ []) left x) (wanted_from fixer path (offset + 1) (head_in x) (items_of xs)) _)

pub run_wants : (fixer : StockFixer) (path : List ℕ) (offset : ℕ) (left : Option HeadParts) (scalars : List ℕ) (text : TextParts)
    → wanted_from fixer path offset left (items_of (map (λ scalar. character scalar text.attributes) scalars)) ≡ []
run_wants fixer path offset left [] text = refl
run_wants fixer path offset left (scalar ∷ scalars) text = run_wants fixer path (offset + 1) None scalars text

behind_run : (scalars : List ℕ) (text : TextParts) → left_behind None (map (λ scalar. character scalar text.attributes) scalars) ≡ None
behind_run [] text = refl
behind_run (scalar ∷ scalars) text = behind_run scalars text

behind_node : (left : Option HeadParts) (node : Node) → 0 < length (items_at node) → left_behind left (items_at node) ≡ node_head node
behind_node left (Run text) some = go text.scalars some
  where
    go : (scalars : List ℕ) → 0 < length (map (λ scalar. character scalar text.attributes) scalars)
        → left_behind left (map (λ scalar. character scalar text.attributes) scalars) ≡ None
    go [] some = absurd (omega (arith, some))
    go (scalar ∷ scalars) some = behind_run scalars text
behind_node left (Element head children) some = refl

pub element_wants : (fixer : StockFixer) (path : List ℕ) (offset : ℕ) (left : Option HeadParts) (head : HeadParts) (children : List Item)
    → wanted_from fixer path offset left (items_of (element head.id head.name head.attributes (items_of children) ∷ []))
    ≡ asked fixer (path ++ offset ∷ []) left head children ++ wanted_from fixer (path ++ offset ∷ []) 0 None (items_of children)
element_wants fixer path offset left head children =
    append-nil (asked fixer (path ++ offset ∷ []) left head (list_of (items_of children)) ++ wanted_from fixer (path ++ offset ∷ []) 0 None (items_of children))
    ∙ ap (λ items. asked fixer (path ++ offset ∷ []) left head items ++ wanted_from fixer (path ++ offset ∷ []) 0 None (items_of children))
    (list_of-items_of children)

-- one node more
pub next_wanted : (fixer : StockFixer) (path : List ℕ) (offset next : ℕ) (left : Option HeadParts) (node : Node) (items rest : List Item)
    (out put all : List Edit)
    → items ≡ items_at node ++ rest → 0 < length (items_at node) → next ≡ offset + length (items_at node)
    → put ≡ out ++ wanted_from fixer path offset left (items_of (items_at node)) → out ++ wanted_from fixer path offset left (items_of items) ≡ all
    → put ++ wanted_from fixer path next (node_head node) (items_of rest) ≡ all
next_wanted fixer path offset next left node items rest out put all parts some n p e =
    ap (λ t. t ++ wanted_from fixer path next (node_head node) (items_of rest)) p
    ∙ append_assoc out (wanted_from fixer path offset left (items_of (items_at node))) _
    ∙ ap (λ t. out ++ (wanted_from fixer path offset left (items_of (items_at node)) ++ t))
    ((λ i. wanted_from fixer path (n i) (sym (behind_node left node some) i) (items_of rest)))
    ∙ ap (λ t. out ++ t) (sym (wanted-append fixer path offset left (items_at node) rest)
    ∙ ap (λ items. wanted_from fixer path offset left (items_of items)) (sym parts))
    ∙ e

-- ---- bounds

long : (items : List Item) → length items ≤ count_of items
long [] = omega arith
long (character scalar attributes ∷ items) = omega (arith, long items)
long (element id name attributes children ∷ items) = omega (arith, long items)

pub dropped : (n : ℕ) (nodes : List Node) → depth_of (items_in (drop n nodes)) ≤ depth_of (items_in nodes)
dropped zero nodes = omega arith
dropped (suc n) [] = omega arith
dropped (suc n) (node ∷ nodes) = omega (arith, dropped n nodes, depth-append (items_at node) (items_in nodes))

-- a node has items, and those behind it are in normal form too
pub normal_next : (nodes : List Node) (index : ℕ) (node : Node) → index < length nodes → node ≡ get_or nodes index node → IsNormal (drop index nodes)
    → (0 < length (items_at node)) × IsNormal (drop (index + 1) nodes)
normal_next nodes index node less is h =
    let same : drop index nodes ≡ node ∷ drop (index + 1) nodes = drop-cons nodes index node less ∙ (λ i. sym is i ∷ drop (sym (add-one index) i) nodes) in
    let parts : IsNormal (node ∷ drop (index + 1) nodes) = subst IsNormal same h in
    (parts.0, parts.2)

pub below_front : (path : List ℕ) (offset : ℕ) (items xs ys : List Item) → items ≡ xs ++ ys → AreBelow path offset items → AreBelow path offset xs
below_front path offset items xs ys e h = record {
  few = (let few = h.few in omega (arith, few, ap count_of e, count-append xs ys));
  flat = (let flat = h.flat in omega (arith, flat, ap depth_of e, depth-append xs ys));
}

pub below_behind : (path : List ℕ) (offset next : ℕ) (items xs ys : List Item) → items ≡ xs ++ ys → next ≡ offset + length xs → AreBelow path offset items
    → AreBelow path next ys
below_behind path offset next items xs ys e n h = record {
  few = (let few = h.few in omega (arith, few, ap count_of e, count-append xs ys, long xs, n));
  flat = (let flat = h.flat in omega (arith, flat, ap depth_of e, depth-append xs ys));
}

pub below_long : (path : List ℕ) (offset : ℕ) (items : List Item) → AreBelow path offset items → offset + length items < 2 ^ 32
below_long path offset items h = (let few = h.few in omega (arith, few, long items))

pub below_inside : (path : List ℕ) (offset : ℕ) (node : Node) (head : HeadParts) (children : List Item) → node ≡ Element head children
    → AreBelow path offset (items_at node) → AreBelow (path ++ offset ∷ []) 0 children
below_inside path offset node head children e h = record {
  few = (let few = h.few in omega (arith, few, ap (λ node. count_of (items_at node)) e, count-inner children));
  flat = (let flat = h.flat in omega (arith, flat, ap (λ node. depth_of (items_at node)) e, depth-inner children, length_push path offset));
}

-- ---- what a node puts down

pub run_puts : (fixer : StockFixer) (path : List ℕ) (offset : ℕ) (left : Option HeadParts) (node : Node) (text : TextParts) (out : List Edit) → node ≡ Run text
    → out ≡ out ++ wanted_from fixer path offset left (items_of (items_at node))
run_puts fixer path offset left node text out e =
    sym (append-nil out)
    ∙ ap (λ t. out ++ t) (sym (ap (λ node. wanted_from fixer path offset left (items_of (items_at node))) e
    ∙ run_wants fixer path offset left text.scalars text))

pub element_puts : (fixer : StockFixer) (path here : List ℕ) (offset : ℕ) (left : Option HeadParts) (node : Node) (head : HeadParts) (children : List Item)
    (out mid : List Edit)
    → node ≡ Element head children → here ≡ path ++ offset ∷ [] → mid ≡ out ++ asked fixer here left head children
    → mid ++ wanted_from fixer here 0 None (items_of children) ≡ out ++ wanted_from fixer path offset left (items_of (items_at node))
element_puts fixer path here offset left node head children out mid e h m =
    ap (λ t. t ++ wanted_from fixer here 0 None (items_of children)) m
    ∙ append_assoc out (asked fixer here left head children) (wanted_from fixer here 0 None (items_of children))
    ∙ ap (λ here. out ++ (asked fixer here left head children ++ wanted_from fixer here 0 None (items_of children))) h
    ∙ ap (λ t. out ++ t) (sym (element_wants fixer path offset left head children))
    ∙ ap (λ node. out ++ wanted_from fixer path offset left (items_of (items_at node))) (sym e)
