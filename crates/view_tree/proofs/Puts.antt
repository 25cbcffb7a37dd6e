-- Putting lists at paths: the last one stays, and what is there may be put again.
use Rattle.std.proofs.Common.{◌≡◌, ℕ, zero, suc, List, [], ◌∷◌, Some, None, refl, sym, ap, ◌∙◌}
use Rattle.std.specs.Prelude.{unwrap_or, slice_get, slice_set, option_and_then}
use Rattle.std.specs.Option.{option_map_or}
use Rattle.view_definitions.specs.Node.{ViewNode, ViewNodes, text, element, none, more, list_of, nodes_of, children_of}
use Rattle.view_definitions.specs.Place.{list_at, at_index, with_inner, put_at}
use Rattle.view_definitions.proofs.Counting.{at_index-twice}
use Rattle.view_tree.proofs.Listed.{listed}

nodes_of-list_of : (nodes : ViewNodes) → nodes_of (list_of nodes) ≡ nodes
nodes_of-list_of none = refl
nodes_of-list_of (more node nodes) = ap (more node) (nodes_of-list_of nodes)

with_inner-twice : (change again : List ViewNode → List ViewNode) (node : ViewNode) → with_inner again (with_inner change node)
    ≡ with_inner (λ nodes. again (change nodes)) node
with_inner-twice change again (text scalars) = refl
with_inner-twice change again (element head children) = ap (λ nodes. element head (nodes_of (again nodes))) (listed (change (list_of children)))

-- of two lists put at one path, the last one is there
pub put_twice : (path : List ℕ) (new other nodes : List ViewNode) → put_at path new (put_at path other nodes) ≡ put_at path new nodes
put_twice [] new other nodes = refl
put_twice (index ∷ path) new other nodes =
    at_index-twice index (with_inner (put_at path other)) (with_inner (put_at path new)) nodes
    ∙ (λ i. at_index index (λ node. (with_inner-twice (put_at path other) (put_at path new) node
    ∙ (λ j. with_inner (λ list. put_twice path new other list j) node)) i) nodes)

set-get : (nodes : List ViewNode) (index : ℕ) (node : ViewNode) → slice_get nodes index ≡ Some node → slice_set nodes index node ≡ nodes
set-get [] index node e = refl
set-get (first ∷ nodes) zero node e = let same : node ≡ first = cc in ap (λ n. n ∷ nodes) same
set-get (first ∷ nodes) (suc index) node e = ap (λ list. first ∷ list) (set-get nodes index node e)

kept-node : (path : List ℕ) (new : List ViewNode) (node : ViewNode)
    → ((nodes : List ViewNode) → put_at path (unwrap_or (list_at path nodes) new) nodes ≡ nodes)
    → with_inner (put_at path (unwrap_or (option_and_then (list_at path) (children_of node)) new)) node ≡ node
kept-node path new (text scalars) h = refl
kept-node path new (element head children) h = ap (λ nodes. element head (nodes_of nodes)) (h (list_of children))
    ∙ ap (element head) (nodes_of-list_of children)

-- the list at a path put there again, or another one where none is, leaves the nodes as they are
pub put_kept : (path : List ℕ) (new nodes : List ViewNode) → put_at path (unwrap_or (list_at path nodes) new) nodes ≡ nodes
put_kept [] new nodes = refl
put_kept (index ∷ path) new nodes =
    elim (slice_get nodes index) as (λ o. slice_get nodes index ≡ o
    → option_map_or (λ node. slice_set nodes index
    (with_inner (put_at path (unwrap_or (option_and_then (λ n. option_and_then (list_at path) (children_of n)) o) new)) node)) o nodes ≡ nodes) [
      | None ↦ λ e. refl
      | Some node ↦ λ e. ap (slice_set nodes index) (kept-node path new node (put_kept path new)) ∙ set-get nodes index node e
    ] refl

pub put_same : (path : List ℕ) (list nodes : List ViewNode) → list_at path nodes ≡ Some list → put_at path list nodes ≡ nodes
put_same path list nodes e = ap (λ o. put_at path (unwrap_or o []) nodes) (sym e) ∙ put_kept path [] nodes

pub put_nowhere : (path : List ℕ) (new nodes : List ViewNode) → list_at path nodes ≡ None → put_at path new nodes ≡ nodes
put_nowhere path new nodes e = ap (λ o. put_at path (unwrap_or o new) nodes) (sym e) ∙ put_kept path new nodes
