-- A content of which some items are made.
use Rattle.std.proofs.Common.{◌≡◌, ℕ, zero, suc, ◌+◌, ◌*◌, ◌<◌, ◌≤◌, List, [], ◌∷◌, ◌++◌, length, take, get_or, true, sym, ap, ◌∙◌, subst, mul-le-mul_left}
use Rattle.std.proofs.Common.{mul-add, mul-one, arith}
use Rattle.item_definitions.specs.Item.{Item, Items, Attributes, character, element, none, more, items_of, count_of, depth_of, inner_count}
use Rattle.model_tree.specs.declared.items.Node.{Node}
use Rattle.model_tree.specs.declared.items.Node.TheVariants.{Run, Element}
use Rattle.model_tree.specs.Parts.{TextParts, HeadParts}
use Rattle.model_tree.specs.Nodes.{items_at, items_in}
use Rattle.model_tree.proofs.Counts.{count-inner, count-append, count-characters, depth-inner, depth-append}
use Rattle.item_definitions.proofs.Sizes.{length-count}
use Rattle.model_tree.proofs.Steps.{up_to}
use Rattle.converter_definitions.specs.Shape.{is_shape}
use Rattle.converter_definitions.specs.Gives.{Conversion, Converted}
use Rattle.downcast_definitions.specs.Scene.{Numbers, Scene}
use Rattle.downcast_definitions.specs.Rows.{elements_in, shape_at}
use Rattle.downcast_definitions.specs.Shown.{HaveShapes}
use Rattle.pos_mapper.specs.Bindings.{Mapper}
use Rattle.down_whole.specs.Bound.{elements_of, elements_among}
use Rattle.down_whole.specs.Front.{elements_within}
use Rattle.down_whole.specs.Written.{Written, nothing_written}
use Rattle.down_whole.specs.Made.{whole, Made}
use Rattle.down_whole.proofs.Bindings.{among-more}
use Rattle.down_whole.proofs.Rows.{within-append}
use Rattle.down_whole.proofs.Making.{characters, made-step}

pub record Partway (conversion : Conversion) (scene : Numbers → Scene) (parent path : List ℕ) (drawn : ℕ) (list : List Item) (start : Mapper)
    (row : Written) (mapper : Mapper) (offset before number : ℕ) : Type 0 where
  pub made : (numbers : Numbers) → Made (scene numbers) (whole parent path drawn) list (record { row = nothing_written; mapper = start })
      (record { row = row; mapper = mapper })
  pub offset_is : offset ≡ length list
  pub before_is : before ≡ elements_within list
  pub number_is : number ≡ drawn + elements_among (items_of list)
  pub shapes : HaveShapes conversion parent 0 (items_of list)

shapes-append : (conversion : Conversion) (parent : List ℕ) (before : ℕ) (xs ys : List Item) → HaveShapes conversion parent before (items_of xs)
    → HaveShapes conversion parent (before + elements_within xs) (items_of ys) → HaveShapes conversion parent before (items_of (xs ++ ys))
shapes-append conversion parent before [] ys x y =
    let same : before + 0 ≡ before = omega arith in subst (λ n. HaveShapes conversion parent n (items_of ys)) same y
shapes-append conversion parent before (first ∷ xs) ys x y =
    let same : before + (elements_in first + elements_within xs) ≡ before + elements_in first + elements_within xs = omega arith in
    (x.0, shapes-append conversion parent (before + elements_in first) xs ys x.1 (subst (λ n. HaveShapes conversion parent n (items_of ys)) same y))

length-both : (xs ys : List Item) → length (xs ++ ys) ≡ length xs + length ys
length-both [] ys = omega arith
length-both (first ∷ xs) ys = omega (arith, length-both xs ys)

-- a node's items more
pub partway-step : (conversion : Conversion) (scene : Numbers → Scene) (parent path : List ℕ) (drawn : ℕ) (xs ys all : List Item) (start : Mapper)
    (row next_row : Written) (mapper next_mapper : Mapper) (offset next_offset before next_before number next_number : ℕ)
    → Partway conversion scene parent path drawn xs start row mapper offset before number
    → ((numbers : Numbers) → Made (scene numbers) (record { parent = parent; path = path; offset = offset; before = before; drawn = number }) ys
    (record { row = row; mapper = mapper }) (record { row = next_row; mapper = next_mapper }))
    → HaveShapes conversion parent before (items_of ys)
    → next_offset ≡ offset + length ys → next_before ≡ before + elements_within ys → next_number ≡ number + elements_among (items_of ys) → all ≡ xs ++ ys
    → Partway conversion scene parent path drawn all start next_row next_mapper next_offset next_before next_number
partway-step conversion scene parent path drawn xs ys all start row next_row mapper next_mapper offset next_offset before next_before number next_number
    p m s o b n e = record {
      made = λ numbers. made-step (scene numbers) parent path drawn offset before number xs ys all _ (record { row = row; mapper = mapper }) _
          (p.made numbers) p.offset_is p.before_is p.number_is (m numbers) e;
      offset_is = omega (arith, o, p.offset_is, ap length e, length-both xs ys);
      before_is = omega (arith, b, p.before_is, ap elements_within e, within-append xs ys);
      number_is = omega (arith, n, p.number_is, ap (λ list. elements_among (items_of list)) e, among-more xs ys);
      shapes =
          let there : HaveShapes conversion parent (0 + elements_within xs) (items_of ys) =
          (let same : before ≡ 0 + elements_within xs = p.before_is ∙ omega arith in subst (λ n. HaveShapes conversion parent n (items_of ys)) same s) in
          subst (λ list. HaveShapes conversion parent 0 (items_of list)) (sym e) (shapes-append conversion parent 0 xs ys p.shapes there);
    }

-- characters have no shapes
pub run-shapes : (conversion : Conversion) (parent : List ℕ) (before : ℕ) (attributes : Attributes) (scalars : List ℕ)
    → HaveShapes conversion parent before (items_of (characters attributes scalars))
run-shapes conversion parent before attributes [] = tt
run-shapes conversion parent before attributes (scalar ∷ scalars) = (tt, run-shapes conversion parent (before + 0) attributes scalars)

mutual
  -- there are no more elements than items
  few-elements-of : (item : Item) → elements_of item ≤ count_of (item ∷ [])
  few-elements-of (character scalar attributes) = omega arith
  few-elements-of (element id name attributes children) = omega (arith, few-inner children)

  few-inner : (items : Items) → elements_among items ≤ inner_count items
  few-inner none = omega arith
  few-inner (more item rest) = omega (arith, few-elements-of item, few-inner rest)

pub few-elements : (list : List Item) → elements_among (items_of list) ≤ count_of list
few-elements list = omega (arith, few-inner (items_of list), count-inner list)

-- ---- how much room there is for a node's items

taken-count : (count : ℕ) (nodes : List Node) → count_of (items_in (take count nodes)) ≤ count_of (items_in nodes)
taken-count zero nodes = omega arith
taken-count (suc count) [] = omega arith
taken-count (suc count) (node ∷ nodes) = omega (
  arith,
  taken-count count nodes,
  count-append (items_at node) (items_in (take count nodes)),
  count-append (items_at node) (items_in nodes),
)

taken-depth : (count : ℕ) (nodes : List Node) → depth_of (items_in (take count nodes)) ≤ depth_of (items_in nodes)
taken-depth zero nodes = omega arith
taken-depth (suc count) [] = omega arith
taken-depth (suc count) (node ∷ nodes) = omega (
  arith,
  taken-depth count nodes,
  depth-append (items_at node) (items_in (take count nodes)),
  depth-append (items_at node) (items_in nodes),
)

pub within-length : (list : List Item) → elements_within list ≤ length list
within-length [] = omega arith
within-length (character scalar attributes ∷ list) = omega (arith, within-length list)
within-length (element id name attributes children ∷ list) = omega (arith, within-length list)

taken-elements : (count : ℕ) (nodes : List Node) → elements_among (items_of (items_in (take count nodes))) ≤ elements_among (items_of (items_in nodes))
taken-elements zero nodes = omega arith
taken-elements (suc count) [] = omega arith
taken-elements (suc count) (node ∷ nodes) = omega (
  arith,
  taken-elements count nodes,
  among-more (items_at node) (items_in (take count nodes)),
  among-more (items_at node) (items_in nodes),
)

-- what there is of all items of the nodes, where this node is the next one
pub record NextNode (nodes : List Node) (index : ℕ) (node : Node) (all : List Item) : Type 0 where
  pub split : items_in (take (index + 1) nodes) ≡ items_in (take index nodes) ++ items_at node
  pub count : count_of (items_in (take index nodes)) + count_of (items_at node) ≤ count_of all
  pub offset : length (items_in (take index nodes)) ≤ count_of (items_in (take index nodes))
  pub elements : elements_among (items_of (items_in (take index nodes))) + elements_among (items_of (items_at node)) ≤ elements_among (items_of all)
  pub depth : depth_of (items_at node) ≤ depth_of all

pub next-node : (read nodes : List Node) (index : ℕ) (node : Node) (all : List Item) → index < length read → node ≡ get_or read index node
    → read ≡ nodes → items_in nodes ≡ all
    → NextNode read index node all
next-node read nodes index node all less is same whole =
    let there = up_to read index node less is in
    let all_of = ap items_in same ∙ whole in
    let so_far = items_in (take index read) in
    record {
      split = sym there;
      count = omega (arith, taken-count (index + 1) read, ap count_of there, count-append so_far (items_at node), ap count_of all_of);
      offset = length-count so_far;
      elements =
          omega (
            arith,
            taken-elements (index + 1) read,
            ap (λ list. elements_among (items_of list)) there,
            among-more so_far (items_at node),
            ap (λ list. elements_among (items_of list)) all_of,
          );
      depth = omega (arith, taken-depth (index + 1) read, ap depth_of there, depth-append so_far (items_at node), ap depth_of all_of);
    }

-- a text that is next
pub text-room : (nodes : List Node) (index : ℕ) (node : Node) (text : TextParts) (all : List Item) (offset : ℕ) → NextNode nodes index node all
    → node ≡ Run text → offset ≡ length (items_in (take index nodes))
    → offset + length text.scalars ≤ count_of all
text-room nodes index node text all offset n is o =
    omega (arith, n.count, n.offset, ap (λ node. count_of (items_at node)) is, count-characters text.attributes text.scalars, o)

-- an element that is next
pub record ElementRoom (so_far children all : List Item) : Type 0 where
  pub count : count_of so_far + (count_of children + 1) ≤ count_of all
  pub offset : length so_far ≤ count_of so_far
  pub elements : elements_among (items_of so_far) + (elements_among (items_of children) + 1) ≤ elements_among (items_of all)
  pub few_so_far : elements_among (items_of so_far) ≤ count_of so_far
  pub few : elements_among (items_of children) ≤ count_of children
  pub depth : depth_of children + 1 ≤ depth_of all
  pub before : elements_within so_far ≤ length so_far

pub element-room : (nodes : List Node) (index : ℕ) (node : Node) (head : HeadParts) (children all : List Item) → NextNode nodes index node all
    → node ≡ Element head children
    → ElementRoom (items_in (take index nodes)) children all
element-room nodes index node head children all n is =
    let so_far = items_in (take index nodes) in
    record {
      count = omega (arith, n.count, ap (λ node. count_of (items_at node)) is, count-inner children);
      offset = n.offset;
      elements = omega (arith, n.elements, ap (λ node. elements_among (items_of (items_at node))) is);
      few_so_far = few-elements so_far;
      few = few-elements children;
      depth = omega (arith, n.depth, ap (λ node. depth_of (items_at node)) is, depth-inner children);
      before = within-length so_far;
    }

-- ---- how often a product's converters are called

pub calls-so-far : (each start now done all : ℕ) → now ≤ start + each * done → done ≤ all → now ≤ start + each * all
calls-so-far each start now done all n d = omega (arith, mul-le-mul_left each d)

pub calls-more : (each start now after done inner all : ℕ) → now ≤ start + each * done → after ≤ now + each + each * inner → done + (inner + 1) ≤ all
    → after ≤ start + each * all
calls-more each start now after done inner all n a d =
    let least : each * (done + (inner + 1)) ≤ each * all = mul-le-mul_left each d in
    let parts : each * (done + (inner + 1)) ≡ each * done + (each * inner + each * 1) = mul-add each done (inner + 1)
    ∙ ap (λ n. each * done + n) (mul-add each inner 1) in
    omega (arith, least, parts, mul-one each)

-- an element has its shape, and so have those in it
pub element-shapes : (conversion : Conversion) (parent : List ℕ) (before id : ℕ) (name : List ℕ) (attributes : Attributes) (list : List Item)
    (made : Converted) → made ≡ shape_at conversion parent before name attributes → is_shape made.form ≡ true → HaveShapes conversion name 0 (items_of list)
    → HaveShapes conversion parent before (items_of (element id name attributes (items_of list) ∷ []))
element-shapes conversion parent before id name attributes list made m s h = ((sym (ap (λ (made : Converted). is_shape made.form) m) ∙ s, h), tt)
