-- A shape is filled from its front on: the first slot takes the content.
use Rattle.std.proofs.Common.{◌≡◌, ℕ, zero, suc, ◌+◌, ◌≤◌, List, [], ◌∷◌, ◌++◌, refl, ap, ◌∙◌, arith, append_assoc}
use Rattle.view_definitions.specs.Node.{ViewNode, ViewAttributes, nodes_of}
use Rattle.view_definitions.specs.Node as nodes
use Rattle.converter_definitions.specs.Form.{Form, Forms, slot, text, element, none, more}
use Rattle.converter_definitions.specs.Shape.{slot_count, inner_slots}
use Rattle.converter_definitions.specs.Views.{head_of, filled, filled_inner}
use Rattle.down_whole.specs.Fill.{left_of}

mutual
  -- without a slot the content doesn't matter
  unslotted : (content other : List ViewNode) (form : Form ViewAttributes) → slot_count form ≡ 0 → filled content form ≡ filled other form
  unslotted content other slot e = absurd (omega (arith, e))
  unslotted content other (text scalars) e = refl
  unslotted content other (element kind name attributes children) e =
      ap (λ inner. nodes.element (head_of kind name attributes) (nodes_of inner) ∷ []) (unslotted_inner content other children e)

  unslotted_inner : (content other : List ViewNode) (forms : Forms ViewAttributes) → inner_slots forms ≡ 0 → filled_inner content forms
      ≡ filled_inner other forms
  unslotted_inner content other none e = refl
  unslotted_inner content other (more form forms) e =
      let first : slot_count form ≡ 0 = omega (arith, e) in
      let rest : inner_slots forms ≡ 0 = omega (arith, e) in
      λ i. unslotted content other form first i ++ unslotted_inner content other forms rest i

-- what is left behind a node fills the nodes behind it as the content would
pub seam : (content : List ViewNode) (count : ℕ) (forms : Forms ViewAttributes) → count + inner_slots forms ≤ 1
    → filled_inner (left_of count content) forms ≡ filled_inner content forms
seam content zero forms few = refl
seam content (suc count) forms few = unslotted_inner [] content forms (omega (arith, few))

pub left_twice : (content : List ViewNode) (count more_count : ℕ) → left_of more_count (left_of count content) ≡ left_of (count + more_count) content
left_twice content zero more_count = let sum : more_count ≡ zero + more_count = omega arith in ap (λ count. left_of count content) sum
left_twice content (suc count) zero = let sum : suc count ≡ suc count + zero = omega arith in ap (λ count. left_of count content) sum
left_twice content (suc count) (suc more_count) = let sum : suc (count + suc more_count) ≡ suc count + suc more_count = omega arith
    in ap (λ count. left_of count content) sum

-- a node and those behind it are filled
pub both_filled : (old filled_first made content left : List ViewNode) (form : Form ViewAttributes) (forms : Forms ViewAttributes)
    → slot_count form + inner_slots forms ≤ 1
    → filled_first ≡ old ++ filled content form → left ≡ left_of (slot_count form) content → made ≡ filled_first ++ filled_inner left forms
    → made ≡ old ++ filled_inner content (more form forms)
both_filled old filled_first made content left form forms few f l m =
    m ∙ (λ i. f i ++ filled_inner (l i) forms) ∙ append_assoc old (filled content form) (filled_inner (left_of (slot_count form) content) forms)
    ∙ ap (λ nodes. old ++ (filled content form ++ nodes)) (seam content (slot_count form) forms few)
