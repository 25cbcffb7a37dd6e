-- A place in a shape whose slot holds some nodes is one in these nodes.
use Rattle.std.proofs.Common.{◌≡◌, ℕ, ◌+◌, ◌-◌, ◌≤◌, List, [], ◌∷◌, ◌++◌, length, take, drop, true, false, Option, Some, None, option_map, option_and_then}
use Rattle.std.proofs.Common.{append_assoc, length-append, refl, sym, ap, ◌∙◌, subst, arith}
use Rattle.std.proofs.lemmas.Bool.Decides.{nat_tests}
use Rattle.std.specs.Prelude.{slice_get, if◌then◌else◌, nat_le, ◌==◌}
use Rattle.std.specs.Option.{option_or}
use Rattle.view_definitions.specs.Node.{ViewAttributes, ViewNode, children_of, nodes_of}
use Rattle.view_definitions.specs.Node as nodes
use Rattle.view_definitions.specs.NodeCode.{list_of-nodes_of}
use Rattle.converter_definitions.specs.Form.{Form, Forms, slot, text, element, none, more, list_of}
use Rattle.converter_definitions.specs.Shape.{slot_in, slot_among, slot_count, inner_slots}
use Rattle.converter_definitions.specs.Views.{head_of, filled, filled_inner}
use Rattle.downcast_definitions.specs.Meant.{out_of_slot}
use Rattle.pos_mapper.specs.Mapped.{by_slot, behind_slot, behind_among}
use Rattle.pos_mapper.specs.Reading.{Slots, between_nodes, content_of, in_nodes, read}

-- ---- lists

pub get-behind : (front : List ViewNode) (node : ViewNode) (back : List ViewNode) → slice_get (front ++ node ∷ back) (length front) ≡ Some node
get-behind [] node back = refl
get-behind (first ∷ front) node back = get-behind front node back

drop-front : (front back : List ViewNode) → drop (length front) (front ++ back) ≡ back
drop-front [] back = refl
drop-front (first ∷ front) back = drop-front front back

take-front : (front back : List ViewNode) → take (length front) (front ++ back) ≡ front
take-front [] back = refl
take-front (first ∷ front) back = ap (λ list. first ∷ list) (take-front front back)

-- the content is what stands between the nodes before and behind it
pub content-between : (front content back : List ViewNode) (base behind : ℕ) → base ≡ length front → behind ≡ length back
    → content_of base behind (front ++ (content ++ back)) ≡ content
content-between front content back base behind b e =
    let all : length (front ++ (content ++ back)) ≡ length front + (length content + length back) =
    (length-append front (content ++ back) ∙ ap (λ n. length front + n) (length-append content back)) in
    let count : length (front ++ (content ++ back)) - base - behind ≡ length content = omega (arith, all, b, e) in
    (λ i. take (count i) (drop (b i) (front ++ (content ++ back)))) ∙ ap (take (length content)) (drop-front front (content ++ back)) ∙ take-front content back

-- ---- shapes

no-sum : (a b : ℕ) → a + b ≡ 0 → a ≡ 0
no-sum a b e = omega (arith, e)

no-sum-behind : (a b : ℕ) → a + b ≡ 0 → b ≡ 0
no-sum-behind a b e = omega (arith, e)

-- a node of a shape without a slot stands for one node
pub one-node : (content : List ViewNode) (form : Form ViewAttributes) → slot_count form ≡ 0 → length (filled content form) ≡ 1
one-node content slot e = absurd (omega (arith, e))
one-node content (text scalars) e = refl
one-node content (element kind name attributes children) e = refl

pub all-nodes : (content : List ViewNode) (forms : Forms ViewAttributes) → inner_slots forms ≡ 0 → length (filled_inner content forms) ≡ length (list_of forms)
all-nodes content none e = refl
all-nodes content (more form forms) e =
    let one : length (filled content form) ≡ 1 = one-node content form (no-sum _ _ e) in
    let rest : length (filled_inner content forms) ≡ length (list_of forms) = all-nodes content forms (no-sum-behind (slot_count form) _ e) in
    length-append (filled content form) (filled_inner content forms) ∙ omega (arith, one, rest)

mutual
  -- where a slot is, there is one
  pub none-in : (form : Form ViewAttributes) → slot_in form ≡ None → slot_count form ≡ 0
  none-in slot e = cc
  none-in (text scalars) e = refl
  none-in (element kind name attributes children) e = none-among 0 children e

  none-among : (index : ℕ) (forms : Forms ViewAttributes) → slot_among index forms ≡ None → inner_slots forms ≡ 0
  none-among index none e = refl
  none-among index (more form forms) e = go (slot_in form) refl e (none-in form) (none-among (index + 1) forms)
    where
      go : (o : Option (List ℕ)) → slot_in form ≡ o → option_or (option_map (λ place. index ∷ place) o) (slot_among (index + 1) forms) ≡ None
          → (slot_in form ≡ None → slot_count form ≡ 0) → (slot_among (index + 1) forms ≡ None → inner_slots forms ≡ 0)
          → slot_count form + inner_slots forms ≡ 0
      go None f g one rest = (let a : slot_count form ≡ 0 = one f in let b : inner_slots forms ≡ 0 = rest g in omega (arith, a, b))
      go (Some place) f g one rest = cc

mutual
  -- and where there is one, it is counted
  some-in : (form : Form ViewAttributes) (place : List ℕ) → slot_in form ≡ Some place → 1 ≤ slot_count form
  some-in slot place e = omega arith
  some-in (text scalars) place e = cc
  some-in (element kind name attributes children) place e = some-among 0 children place e

  some-among : (index : ℕ) (forms : Forms ViewAttributes) (place : List ℕ) → slot_among index forms ≡ Some place → 1 ≤ inner_slots forms
  some-among index none place e = cc
  some-among index (more form forms) place e = go (slot_in form) refl e (some-in form) (some-among (index + 1) forms place)
    where
      go : (o : Option (List ℕ)) → slot_in form ≡ o → option_or (option_map (λ place. index ∷ place) o) (slot_among (index + 1) forms) ≡ Some place
          → ((place : List ℕ) → slot_in form ≡ Some place → 1 ≤ slot_count form) → (slot_among (index + 1) forms ≡ Some place → 1 ≤ inner_slots forms)
          → 1 ≤ slot_count form + inner_slots forms
      go None f g one rest = (let b : 1 ≤ inner_slots forms = rest g in omega (arith, b))
      go (Some inner) f g one rest = (let a : 1 ≤ slot_count form = one inner f in omega (arith, a))

-- the way to a slot among shapes is not empty
pub never : (index : ℕ) (forms : Forms ViewAttributes) → slot_among index forms ≡ Some [] → ⊥
never index none e = cc
never index (more form forms) e = go (slot_in form) e (never (index + 1) forms)
  where
    go : (o : Option (List ℕ)) → option_or (option_map (λ place. index ∷ place) o) (slot_among (index + 1) forms) ≡ Some []
        → (slot_among (index + 1) forms ≡ Some [] → ⊥) → ⊥
    go None g rest = rest g
    go (Some place) g rest = cc

-- ---- places

is_same : (x y : ℕ) → (x == y) ≡ true → x ≡ y
is_same x y t = grind (arith, nat_tests)

-- what places mean in a content
module _ (slots : Slots) (depth : ℕ) (content : List ViewNode) (means : List ℕ → Option (List ℕ))
    (reads : (path : List ℕ) (last : ℕ) → read slots depth [] 0 0 content path last ≡ means (path ++ last ∷ [])) where
  -- in the list in which the content stands
  in_list : (front back : List ViewNode) (base behind : ℕ) → base ≡ length front → behind ≡ length back → (path : List ℕ) (last : ℕ)
      → read slots depth (base ∷ []) behind 0 (front ++ (content ++ back)) path last ≡ option_and_then means (out_of_slot (base ∷ []) (path ++ last ∷ []))
  in_list front back base behind b e [] last =
      elim (nat_le base last) as (λ t. (if t then between_nodes 0 (content_of base behind (front ++ (content ++ back))) (last - base) else None)
      ≡ option_and_then means (if t then Some ((last - base) ∷ []) else None)) [
        | true ↦ ap (λ list. between_nodes 0 list (last - base)) (content-between front content back base behind b e) ∙ reads [] (last - base)
        | false ↦ refl
      ]
  in_list front back base behind b e (index ∷ path) last =
      elim (nat_le base index) as (λ t. (if t
      then in_nodes slots (λ levels further more start inner. read slots levels further more start inner path last) depth path last 0
      (content_of base behind (front ++ (content ++ back))) (index - base) else None)
      ≡ option_and_then means (if t then Some ((index - base) ∷ (path ++ last ∷ [])) else None)) [
        | true ↦ ap (λ list. in_nodes slots (λ levels further more start inner. read slots levels further more start inner path last) depth path last 0
            list (index - base)) (content-between front content back base behind b e)
            ∙ reads ((index - base) ∷ path) last
        | false ↦ refl
      ]

  -- one step on the way
  one_step : (front back : List ViewNode) (kids : List ViewNode) (head : nodes.Head) (base next : ℕ) (way : List ℕ) (behind : ℕ) → base ≡ length front
      → ((path : List ℕ) (last : ℕ) → read slots depth (next ∷ way) behind 0 kids path last
      ≡ option_and_then means (out_of_slot (next ∷ way) (path ++ last ∷ [])))
      → (path : List ℕ) (last : ℕ)
      → read slots depth (base ∷ next ∷ way) behind 0 (front ++ nodes.element head (nodes_of kids) ∷ back) path last
      ≡ option_and_then means (out_of_slot (base ∷ next ∷ way) (path ++ last ∷ []))
  one_step front back kids head base next way behind b ih [] last =
      elim (base == last) as (λ t. base == last ≡ t
      → (if t then option_and_then (λ node. option_and_then (λ inner. None) (children_of node))
      (slice_get (front ++ nodes.element head (nodes_of kids) ∷ back) last) else None)
      ≡ option_and_then means (if t then out_of_slot (next ∷ way) [] else None)) [
        | true ↦ λ t.
            let same : last ≡ length front = (let k : base ≡ last = is_same base last t in sym k ∙ b) in
            ap (option_and_then (λ node. option_and_then (λ inner. None) (children_of node)))
            (ap (slice_get (front ++ nodes.element head (nodes_of kids) ∷ back)) same ∙ get-behind front _ back)
        | false ↦ λ t. refl
      ] refl
  one_step front back kids head base next way behind b ih (index ∷ path) last =
      elim (base == index) as (λ t. base == index ≡ t
      → (if t then option_and_then (λ node. option_and_then (λ inner. read slots depth (next ∷ way) behind 0 inner path last) (children_of node))
      (slice_get (front ++ nodes.element head (nodes_of kids) ∷ back) index) else None)
      ≡ option_and_then means (if t then out_of_slot (next ∷ way) (path ++ last ∷ []) else None)) [
        | true ↦ λ t.
            let same : index ≡ length front = (let k : base ≡ index = is_same base index t in sym k ∙ b) in
            ap (option_and_then (λ node. option_and_then (λ inner. read slots depth (next ∷ way) behind 0 inner path last) (children_of node)))
            (ap (slice_get (front ++ nodes.element head (nodes_of kids) ∷ back)) same ∙ get-behind front _ back)
            ∙ ap (λ inner. read slots depth (next ∷ way) behind 0 inner path last) (list_of-nodes_of kids)
            ∙ ih path last
        | false ↦ λ t. refl
      ] refl

  -- a place among the nodes of these shapes is one in the content
  abbrev Among : Forms ViewAttributes → Type 0
  Among forms =
      (front : List ViewNode) (index : ℕ) (way : List ℕ) → index ≡ length front → slot_among index forms ≡ Some way → inner_slots forms ≤ 1
      → (path : List ℕ) (last : ℕ)
      → read slots depth way (behind_among forms) 0 (front ++ filled_inner content forms) path last
      ≡ option_and_then means (out_of_slot way (path ++ last ∷ []))

  mutual
    pub among : (forms : Forms ViewAttributes) → Among forms
    among none front index way b e c path last = cc
    among (more form forms) front index way b e c path last = among-first form forms (among forms) front index way (slot_in form) refl b e c path last

    among-first : (form : Form ViewAttributes) (forms : Forms ViewAttributes) → Among forms
        → (front : List ViewNode) (index : ℕ) (way : List ℕ) (o : Option (List ℕ)) → slot_in form ≡ o → index ≡ length front
        → option_or (option_map (λ place. index ∷ place) o) (slot_among (index + 1) forms) ≡ Some way → slot_count form + inner_slots forms ≤ 1
        → (path : List ℕ) (last : ℕ)
        → read slots depth way (by_slot o (behind_among forms) (length (list_of forms)) (behind_slot form)) 0
        (front ++ (filled content form ++ filled_inner content forms)) path last
        ≡ option_and_then means (out_of_slot way (path ++ last ∷ []))
    among-first form forms rest front index way None f b e c path last =
        let one : length (filled content form) ≡ 1 = one-node content form (none-in form f) in
        let next : index + 1 ≡ length (front ++ filled content form) = (let l : length (front ++ filled content form)
        ≡ length front + length (filled content form) = length-append front (filled content form) in omega (arith, l, one, b)) in
        ap (λ list. read slots depth way (behind_among forms) 0 list path last) (sym (append_assoc front (filled content form) (filled_inner content forms)))
        ∙ rest (front ++ filled content form) (index + 1) way next e (omega (arith, c)) path last
    among-first slot forms rest front index way (Some []) f b e c path last =
        let same : index ∷ [] ≡ way = cc in
        let none_behind : inner_slots forms ≡ 0 = omega (arith, c) in
        subst (λ w. read slots depth w (length (list_of forms)) 0 (front ++ (content ++ filled_inner content forms)) path last
        ≡ option_and_then means (out_of_slot w (path ++ last ∷ []))) same
        (in_list front (filled_inner content forms) index (length (list_of forms)) b (sym (all-nodes content forms none_behind)) path last)
    among-first (text scalars) forms rest front index way (Some []) f b e c path last = cc
    among-first (element kind name attributes children) forms rest front index way (Some []) f b e c path last = absurd (never 0 children f)
    among-first slot forms rest front index way (Some (next ∷ place)) f b e c path last = cc
    among-first (text scalars) forms rest front index way (Some (next ∷ place)) f b e c path last = cc
    among-first (element kind name attributes children) forms rest front index way (Some (next ∷ place)) f b e c path last =
        let same : index ∷ next ∷ place ≡ way = cc in
        subst (λ w. read slots depth w (behind_among children) 0
        (front ++ nodes.element (head_of kind name attributes) (nodes_of (filled_inner content children)) ∷ filled_inner content forms) path last
        ≡ option_and_then means (out_of_slot w (path ++ last ∷ []))) same
        (one_step front (filled_inner content forms) (filled_inner content children) (head_of kind name attributes) index next place (behind_among children) b
        (among children [] 0 (next ∷ place) refl f (omega (arith, c))) path last)
