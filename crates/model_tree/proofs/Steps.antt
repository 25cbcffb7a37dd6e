-- One node more of a list of nodes.
use Rattle.std.proofs.Common.{◌≡◌, ℕ, zero, suc, arith, ◌≤◌, ◌<◌, ◌+◌, ◌-◌, ◌^◌, min, max, List, [], ◌∷◌, ◌++◌, length, get_or, take, drop, sym, ap, ◌∙◌, subst}
use Rattle.std.proofs.Common.{add-one, drop-cons}
use Rattle.std.proofs.lemmas.List.{take_more}
use Rattle.model_tree.specs.declared.items.Node.{Node}
use Rattle.model_tree.specs.Nodes.{items_at, items_in}
use Rattle.model_tree.specs.Sizes.{AreSizes}
use Rattle.model_tree.proofs.Normal.{items-more}
use Rattle.model_tree.proofs.Counts.{count-append, sizes_append}
use Rattle.item_definitions.specs.Item.{count_of}

-- the items of the nodes up to a next one
pub up_to : (nodes : List Node) (index : ℕ) (node : Node) → index < length nodes → node ≡ get_or nodes index node
    → items_in (take index nodes) ++ items_at node ≡ items_in (take (index + 1) nodes)
up_to nodes index node less is =
    sym (ap items_in (take_more nodes index node less) ∙ ap (λ n. items_in (take index nodes ++ n ∷ [])) (sym is) ∙ items-more (take index nodes) node)

-- the items of the nodes from one on
pub from_on : (read nodes : List Node) (index : ℕ) (node : Node) → read ≡ nodes → index < length nodes → node ≡ get_or read index node
    → items_in (drop index nodes) ≡ items_at node ++ items_in (drop (index + 1) nodes)
from_on read nodes index node same less found =
    let is : node ≡ get_or nodes index node = found ∙ ap (λ xs. get_or xs index node) same in
    ap items_in (drop-cons nodes index node less) ∙ (λ i. items_at (sym is i) ++ items_in (drop (sym (add-one index) i) nodes))

pub next_sizes : (read nodes : List Node) (index : ℕ) (node : Node) → read ≡ nodes → index < length nodes → node ≡ get_or read index node
    → (long count depth long' count' depth' long'' count'' depth'' : ℕ) → AreSizes (items_in (take index nodes)) long count depth
    → AreSizes (items_at node) long' count' depth'
    → long'' ≡ min (long + long') (2 ^ 64 - 1) → count'' ≡ min (count + count') (2 ^ 64 - 1) → depth'' ≡ max depth depth'
    → AreSizes (items_in (take (index + 1) nodes)) long'' count'' depth''
next_sizes read nodes index node same less found long count depth long' count' depth' long'' count'' depth'' f b l c d =
    subst (λ items. AreSizes items long'' count'' depth'') (up_to nodes index node less (found ∙ ap (λ xs. get_or xs index node) same))
    (sizes_append (items_in (take index nodes)) (items_at node) long count depth long' count' depth' long'' count'' depth'' f b l c d)

-- a node has no more items than all have together
pub node_few : (read nodes : List Node) (index : ℕ) (node : Node) → read ≡ nodes → index < length nodes → node ≡ get_or read index node
    → count_of (items_at node) ≤ count_of (items_in nodes)
node_few read nodes index node same less found =
    omega (
      arith,
      ap count_of (from_on read nodes index node same less found),
      count-append (items_at node) (items_in (drop (index + 1) nodes)),
      dropped index nodes,
    )
  where
    dropped : (n : ℕ) (nodes : List Node) → count_of (items_in (drop n nodes)) ≤ count_of (items_in nodes)
    dropped zero nodes = omega arith
    dropped (suc n) [] = omega arith
    dropped (suc n) (x ∷ nodes) = omega (arith, dropped n nodes, count-append (items_at x) (items_in nodes))
