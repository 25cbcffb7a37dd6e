-- The printed text of a node in front of that of other items.
use Rattle.std.proofs.Common.{◌≡◌, ℕ, zero, suc, ◌+◌, ◌≤◌, ◌^◌, List, [], ◌∷◌, ◌++◌, map, length, drop, Bool, true, false, Option, Some, None, refl, sym, ap}
use Rattle.std.proofs.Common.{◌∙◌, append_assoc, arith}
use Rattle.std.specs.Prelude.{IsTrue, ◌↔◌, ◌<◌}
use Rattle.print_definitions.proofs.Runs.{own_attributes, equal_attributes, going, length_run}
use Rattle.item_definitions.specs.Item.{Item, Attributes, character, items_of, depth_of, count_of}
use Rattle.model_tree.specs.declared.items.Node.{Node}
use Rattle.model_tree.specs.declared.items.Node.TheVariants.{Run, Element}
use Rattle.model_tree.specs.Nodes.{items_at, items_in}
use Rattle.model_tree.proofs.Counts.{depth-append, count-append}
use Rattle.machine_definitions.specs.Texts.{printed_scalar}
use Rattle.print_definitions.specs.Marks.{Ends, inside, outer_marks, marked}
use Rattle.print_definitions.specs.Values.{attributes_text, open_tag, close_tag}
use Rattle.print_definitions.specs.ModelText.{same_attributes, goes_on, before_character, run_of, run_end, item_text, inner_items_text, items_text}
use Rattle.print_text.specs.Runs.{open_behind, run_behind, run_text, node_text}

apart : (test : Bool) → test ≡ false → IsTrue test → ⊥
apart test e h = cc

-- a test that tells whether attributes are equal tells whether they are the same
pub same_is : (attributes others : Attributes) (test : Bool) → (IsTrue test ↔ (attributes ≡ others)) → test ≡ same_attributes attributes others
same_is attributes others test h = go test (same_attributes attributes others) refl refl h
  where
    go : (t u : Bool) → t ≡ test → u ≡ same_attributes attributes others → (IsTrue test ↔ (attributes ≡ others)) → test ≡ same_attributes attributes others
    go true true t u h = sym t ∙ u
    go false false t u h = sym t ∙ u
    go true false t u h = (let same : attributes ≡ others = h.0 (sym t) in sym t ∙ sym (ap (same_attributes attributes) (sym same) ∙ own_attributes attributes))
    go false true t u h = (let same : attributes ≡ others = equal_attributes attributes others (sym u) in absurd (apart test (sym t) (h.1 same)))

inner_is : (ends : Ends) (offset : ℕ) (before : Option Attributes) (items : List Item) → inner_items_text ends offset before (items_of items)
    ≡ items_text ends offset before items
inner_is ends offset before [] = refl
inner_is ends offset before (item ∷ items) = ap (λ t. item_text ends offset before item ++ t) (inner_is ends (offset + 1) (run_of item) items)

run_placed : (ends : Ends) (offset : ℕ) (before : Option Attributes) (attributes : Attributes) (scalars : List ℕ) (rest : List Item)
    → items_text ends offset before (map (λ scalar. character scalar attributes) scalars ++ rest) ≡ run_text ends offset before attributes scalars
    ++ items_text ends (offset + length scalars) (open_behind before attributes scalars) rest
run_placed ends offset before attributes [] rest = ap (λ at. items_text ends at before rest) (omega arith)
run_placed ends offset before attributes (scalar ∷ scalars) rest =
    let start = before_character (goes_on before attributes) before attributes (outer_marks ends offset) in
    ap (λ t. (start ++ printed_scalar scalar) ++ t) (going ends (offset + 1) attributes scalars rest)
    ∙ ap (λ at. (start ++ printed_scalar scalar) ++ (marked (outer_marks ends) (offset + 1) scalars ++ items_text ends at (Some attributes) rest)) (omega arith)
    ∙ append_assoc start (printed_scalar scalar) _
    ∙ ap (λ t. start ++ t) (sym (append_assoc (printed_scalar scalar) (marked (outer_marks ends) (offset + 1) scalars) _))
    ∙ sym (append_assoc start (printed_scalar scalar ++ marked (outer_marks ends) (offset + 1) scalars) _)

-- a node in front of other items
pub node_placed : (ends : Ends) (offset : ℕ) (before : Option Attributes) (node : Node) (rest : List Item)
    → items_text ends offset before (items_at node ++ rest) ≡ node_text ends offset before node ++ items_text ends (offset + length (items_at node))
    (run_behind before node) rest
node_placed ends offset before (Run text) rest =
    run_placed ends offset before text.attributes text.scalars rest
    ∙ ap (λ count. run_text ends offset before text.attributes text.scalars ++ items_text ends (offset + count)
    (open_behind before text.attributes text.scalars) rest) (sym (length_run text.attributes text.scalars))
node_placed ends offset before (Element head children) rest =
    ap (λ t. (run_end before ++ (outer_marks ends offset ++ (open_tag head.name (attributes_text head.attributes) ++ (t ++ close_tag head.name))))
    ++ items_text ends (offset + 1) None rest) (inner_is (inside offset ends) 0 None children)

-- what is there and what is still to come, where a node is put last
pub put_node : (ends : Ends) (offset later : ℕ) (before behind : Option Attributes) (node : Node) (old new : List ℕ) (here rest : List Item)
    → new ≡ old ++ node_text ends offset before node → here ≡ items_at node ++ rest → later ≡ offset + length (items_at node) → behind ≡ run_behind before node
    → new ++ items_text ends later behind rest ≡ old ++ items_text ends offset before here
put_node ends offset later before behind node old new here rest put split count run =
    (λ i. put i ++ items_text ends (count i) (run i) rest)
    ∙ append_assoc old (node_text ends offset before node) (items_text ends (offset + length (items_at node)) (run_behind before node) rest)
    ∙ ap (λ t. old ++ t) (sym (node_placed ends offset before node rest))
    ∙ ap (λ items. old ++ items_text ends offset before items) (sym split)

-- nodes from one on are no deeper than all of them
pub dropped : (index : ℕ) (nodes : List Node) → depth_of (items_in (drop index nodes)) ≤ depth_of (items_in nodes)
dropped zero nodes = omega arith
dropped (suc index) [] = omega arith
dropped (suc index) (node ∷ nodes) = omega (arith, dropped index nodes, depth-append (items_at node) (items_in nodes))

counted : (index : ℕ) (nodes : List Node) → count_of (items_in (drop index nodes)) ≤ count_of (items_in nodes)
counted zero nodes = omega arith
counted (suc index) [] = omega arith
counted (suc index) (node ∷ nodes) = omega (arith, counted index nodes, count-append (items_at node) (items_in nodes))

length_both : (front back : List Item) → length (front ++ back) ≡ length front + length back
length_both [] back = omega arith
length_both (item ∷ front) back = omega (arith, length_both front back)

-- the bounds at a node: it has no more items than all, and its offset is no greater than how many there are
pub few_items : (nodes : List Node) (index : ℕ) (node : Node) (rest all : List Item) → items_in (drop index nodes) ≡ items_at node ++ rest
    → items_in nodes ≡ all → count_of all < 2 ^ 32 → count_of (items_at node) < 2 ^ 32
few_items nodes index node rest all next whole few =
    omega (arith, few, ap count_of whole, counted index nodes, ap count_of next, count-append (items_at node) rest)

pub within_all : (here all : List Item) (offset : ℕ) (node : Node) (rest : List Item) → here ≡ items_at node ++ rest → offset + length here ≡ length all
    → offset + length (items_at node) + length rest ≡ length all
within_all here all offset node rest next e = omega (arith, e, ap length next, length_both (items_at node) rest)
