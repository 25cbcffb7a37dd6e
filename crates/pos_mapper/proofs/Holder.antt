-- What is looked for among nodes is in the node that holds it.
use Rattle.std.proofs.Common.{◌≡◌, ℕ, zero, suc, ◌+◌, ◌-◌, ◌≤◌, ◌<◌, List, [], ◌∷◌, ◌++◌, length, Bool, true, false, Some, None, refl, sym, ap, ◌∙◌, arith}
use Rattle.std.specs.Prelude.{nat_lt, if◌then◌else◌}
use Rattle.view_definitions.specs.Node.{Kind, container, attribute, empty, ui, ViewNode, ViewNodes, text, element, list_of, nodes_of, node_depth, depth_of}
use Rattle.view_tree.specs.Changes.{node_text}
use Rattle.downcast_definitions.specs.Meant.{model_length}
use Rattle.item_definitions.specs.Children.{parent_of, offset_of}
use Rattle.downcast_definitions.specs.Among.{by_around, place_in, place_among, item_in, item_among, gap_in, gap_among, is_character, before_item, seen_among}
use Rattle.pos_mapper.specs.Seeking.{around, holder}
use Rattle.pos_mapper.proofs.Nodes.{nodes_of-list_of, list_depth}

abbrev Found : Type 0
Found = ℕ × (ℕ × ViewNode)

same-some : (x y : Found) → Some x ≡ Some y → x ≡ y
same-some x y e = cc

-- the tests of one node of the holder
module _ (node : ViewNode) (nodes : List ViewNode) (further number index at rest start : ℕ) (found : ViewNode) where
  held-place : (b : Bool) → (if b then Some (index, (number, node)) else holder nodes (number - model_length node) (index + 1)) ≡ Some (at, (rest, found))
      → (holder nodes (number - model_length node) (index + 1) ≡ Some (at, (rest, found))
      → place_among further (nodes_of nodes) (number - model_length node) (start + (index + 1)) ≡ (start + at) ∷ place_in further found rest)
      → (if b then (start + index) ∷ place_in further node number
      else place_among further (nodes_of nodes) (number - model_length node) (start + index + 1)) ≡ (start + at) ∷ place_in further found rest
  held-place true e ih =
      let here : index ≡ at = ap (λ (f : Found). f.0) (same-some _ _ e) in
      let left : number ≡ rest = ap (λ (f : Found). f.1.0) (same-some _ _ e) in
      let is : node ≡ found = ap (λ (f : Found). f.1.1) (same-some _ _ e) in
      λ i. (start + here i) ∷ place_in further (is i) (left i)
  held-place false e ih = ap (place_among further (nodes_of nodes) (number - model_length node)) (omega arith) ∙ ih e

  held-gap : (b : Bool) → (if b then Some (index, (number, node)) else holder nodes (number - model_length node) (index + 1)) ≡ Some (at, (rest, found))
      → (holder nodes (number - model_length node) (index + 1) ≡ Some (at, (rest, found))
      → gap_among (nodes_of nodes) (number - model_length node) (start + (index + 1)) ≡ (start + at) ∷ gap_in found rest)
      → (if b then (start + index) ∷ gap_in node number else gap_among (nodes_of nodes) (number - model_length node) (start + index + 1))
      ≡ (start + at) ∷ gap_in found rest
  held-gap true e ih =
      let here : index ≡ at = ap (λ (f : Found). f.0) (same-some _ _ e) in
      let left : number ≡ rest = ap (λ (f : Found). f.1.0) (same-some _ _ e) in
      let is : node ≡ found = ap (λ (f : Found). f.1.1) (same-some _ _ e) in
      λ i. (start + here i) ∷ gap_in (is i) (left i)
  held-gap false e ih = ap (gap_among (nodes_of nodes) (number - model_length node)) (omega arith) ∙ ih e

  held-item : (b : Bool) → (if b then Some (index, (number, node)) else holder nodes (number - model_length node) (index + 1)) ≡ Some (at, (rest, found))
      → (holder nodes (number - model_length node) (index + 1) ≡ Some (at, (rest, found)) → item_among (nodes_of nodes) (number - model_length node)
      ≡ item_in found rest)
      → (if b then item_in node number else item_among (nodes_of nodes) (number - model_length node)) ≡ item_in found rest
  held-item true e ih =
      let left : number ≡ rest = ap (λ (f : Found). f.1.0) (same-some _ _ e) in
      let is : node ≡ found = ap (λ (f : Found). f.1.1) (same-some _ _ e) in
      λ i. item_in (is i) (left i)
  held-item false e ih = ih e

  held-deep : (b : Bool) → (if b then Some (index, (number, node)) else holder nodes (number - model_length node) (index + 1)) ≡ Some (at, (rest, found))
      → (holder nodes (number - model_length node) (index + 1) ≡ Some (at, (rest, found)) → (node_depth found ≤ depth_of nodes)
      × (at < index + 1 + length nodes))
      → (node_depth found ≤ depth_of (node ∷ nodes)) × (at < index + length (node ∷ nodes))
  held-deep true e ih =
      let here : index ≡ at = ap (λ (f : Found). f.0) (same-some _ _ e) in
      let is : node ≡ found = ap (λ (f : Found). f.1.1) (same-some _ _ e) in
      (omega (arith, ap node_depth is), omega (arith, here))
  held-deep false e ih = (let k = ih e in let a = k.0 in let b = k.1 in (omega (arith, a), omega (arith, b)))

place-held : (further : ℕ) (nodes : List ViewNode) (number index at rest start : ℕ) (found : ViewNode) → holder nodes number index
    ≡ Some (at, (rest, found)) → place_among further (nodes_of nodes) number (start + index) ≡ (start + at) ∷ place_in further found rest
place-held further [] number index at rest start found e = cc
place-held further (node ∷ nodes) number index at rest start found e =
    held-place node nodes further number index at rest start found (nat_lt number (model_length node)) e
    (place-held further nodes (number - model_length node) (index + 1) at rest start found)

gap-held : (nodes : List ViewNode) (number index at rest start : ℕ) (found : ViewNode) → holder nodes number index ≡ Some (at, (rest, found))
    → gap_among (nodes_of nodes) number (start + index) ≡ (start + at) ∷ gap_in found rest
gap-held [] number index at rest start found e = cc
gap-held (node ∷ nodes) number index at rest start found e =
    held-gap node nodes 0 number index at rest start found (nat_lt number (model_length node)) e
    (gap-held nodes (number - model_length node) (index + 1) at rest start found)

item-held : (nodes : List ViewNode) (number index at rest : ℕ) (found : ViewNode) → holder nodes number index ≡ Some (at, (rest, found))
    → item_among (nodes_of nodes) number ≡ item_in found rest
item-held [] number index at rest found e = cc
item-held (node ∷ nodes) number index at rest found e =
    held-item node nodes 0 number index at rest 0 found (nat_lt number (model_length node)) e
    (item-held nodes (number - model_length node) (index + 1) at rest found)

-- the node that holds an item is one of these
pub held-within : (nodes : List ViewNode) (number index at rest : ℕ) (found : ViewNode) → Some (at, (rest, found)) ≡ holder nodes number index
    → (node_depth found ≤ depth_of nodes) × (at < index + length nodes)
held-within [] number index at rest found e = cc
held-within (node ∷ nodes) number index at rest found e =
    held-deep node nodes 0 number index at rest 0 found (nat_lt number (model_length node)) (sym e)
    (λ f. held-within nodes (number - model_length node) (index + 1) at rest found (sym f))

none-place : (further : ℕ) (nodes : List ViewNode) (number index start : ℕ) → holder nodes number index ≡ None
    → place_among further (nodes_of nodes) number (start + index) ≡ []
none-place further [] number index start e = refl
none-place further (node ∷ nodes) number index start e = go (nat_lt number (model_length node)) e
    (none-place further nodes (number - model_length node) (index + 1) start)
  where
    go : (b : Bool) → (if b then Some (index, (number, node)) else holder nodes (number - model_length node) (index + 1)) ≡ None
        → (holder nodes (number - model_length node) (index + 1) ≡ None
        → place_among further (nodes_of nodes) (number - model_length node) (start + (index + 1)) ≡ [])
        → (if b then (start + index) ∷ place_in further node number
        else place_among further (nodes_of nodes) (number - model_length node) (start + index + 1)) ≡ []
    go true f ih = cc
    go false f ih = ap (place_among further (nodes_of nodes) (number - model_length node)) (omega arith) ∙ ih f

none-item : (nodes : List ViewNode) (number index : ℕ) → holder nodes number index ≡ None → item_among (nodes_of nodes) number ≡ None
none-item [] number index e = refl
none-item (node ∷ nodes) number index e = go (nat_lt number (model_length node)) e (none-item nodes (number - model_length node) (index + 1))
  where
    go : (b : Bool) → (if b then Some (index, (number, node)) else holder nodes (number - model_length node) (index + 1)) ≡ None
        → (holder nodes (number - model_length node) (index + 1) ≡ None → item_among (nodes_of nodes) (number - model_length node) ≡ None)
        → (if b then item_in node number else item_among (nodes_of nodes) (number - model_length node)) ≡ None
    go true f ih = cc
    go false f ih = ih f

none-gap : (nodes : List ViewNode) (number index start : ℕ) → holder nodes number index ≡ None → gap_among (nodes_of nodes) number (start + index)
    ≡ (start + (index + length nodes)) ∷ []
none-gap [] number index start e = ap (λ n. n ∷ []) (omega arith)
none-gap (node ∷ nodes) number index start e = go (nat_lt number (model_length node)) e (none-gap nodes (number - model_length node) (index + 1) start)
  where
    go : (b : Bool) → (if b then Some (index, (number, node)) else holder nodes (number - model_length node) (index + 1)) ≡ None
        → (holder nodes (number - model_length node) (index + 1) ≡ None → gap_among (nodes_of nodes) (number - model_length node) (start + (index + 1))
        ≡ (start + (index + 1 + length nodes)) ∷ [])
        → (if b then (start + index) ∷ gap_in node number else gap_among (nodes_of nodes) (number - model_length node) (start + index + 1))
        ≡ (start + (index + length (node ∷ nodes))) ∷ []
    go true f ih = cc
    go false f ih = ap (gap_among (nodes_of nodes) (number - model_length node)) (omega arith) ∙ ih f ∙ ap (λ n. n ∷ []) (omega arith)

-- ---- what the code does

-- the index of the holder, and what is in it
pub place_found : (further : ℕ) (nodes : List ViewNode) (number base at rest : ℕ) (found : ViewNode) → Some (at, (rest, found)) ≡ holder nodes number 0
    → place_among further (nodes_of nodes) number base ≡ (base + at) ∷ place_in further found rest
place_found further nodes number base at rest found e = ap (place_among further (nodes_of nodes) number) (omega arith)
    ∙ place-held further nodes number 0 at rest base found (sym e)

pub gap_found : (nodes : List ViewNode) (number base at rest : ℕ) (found : ViewNode) → Some (at, (rest, found)) ≡ holder nodes number 0
    → gap_among (nodes_of nodes) number base ≡ (base + at) ∷ gap_in found rest
gap_found nodes number base at rest found e = ap (gap_among (nodes_of nodes) number) (omega arith) ∙ gap-held nodes number 0 at rest base found (sym e)

pub item_found : (nodes : List ViewNode) (number at rest : ℕ) (found : ViewNode) → Some (at, (rest, found)) ≡ holder nodes number 0
    → item_among (nodes_of nodes) number ≡ item_in found rest
item_found nodes number at rest found e = item-held nodes number 0 at rest found (sym e)

pub place_nowhere : (further : ℕ) (nodes : List ViewNode) (number base : ℕ) → None ≡ holder nodes number 0
    → place_among further (nodes_of nodes) number base ≡ []
place_nowhere further nodes number base e = ap (place_among further (nodes_of nodes) number) (omega arith) ∙ none-place further nodes number 0 base (sym e)

pub item_nowhere : (nodes : List ViewNode) (number : ℕ) → None ≡ holder nodes number 0 → item_among (nodes_of nodes) number ≡ None
item_nowhere nodes number e = none-item nodes number 0 (sym e)

pub gap_nowhere : (nodes : List ViewNode) (number base : ℕ) → None ≡ holder nodes number 0 → gap_among (nodes_of nodes) number base ≡ (base + length nodes) ∷ []
gap_nowhere nodes number base e = ap (gap_among (nodes_of nodes) number) (omega arith) ∙ none-gap nodes number 0 base (sym e) ∙ ap (λ n. n ∷ []) (omega arith)

by-around : {A : Type 0} → (kind : Kind) (children inner : List ViewNode) (there : List ViewNode → A) (elsewhere : A)
    → Some children ≡ by_around kind (Some inner) None → by_around kind (there inner) elsewhere ≡ there children
by-around container children inner there elsewhere e = cc
by-around (attribute priority id) children inner there elsewhere e = (let same : children ≡ inner = cc in ap there (sym same))
by-around empty children inner there elsewhere e = cc
by-around ui children inner there elsewhere e = cc

not-around : {A : Type 0} → (kind : Kind) (inner : List ViewNode) (there elsewhere : A) → None ≡ by_around kind (Some inner) None
    → by_around kind there elsewhere ≡ elsewhere
not-around container inner there elsewhere e = refl
not-around (attribute priority id) inner there elsewhere e = cc
not-around empty inner there elsewhere e = refl
not-around ui inner there elsewhere e = refl

-- in an attribute element, and in another element
pub place_around : (further : ℕ) (node : ViewNode) (children : List ViewNode) (number : ℕ) → Some children ≡ around node → place_in further node number
    ≡ place_among further (nodes_of children) number 0
place_around further (text scalars) children number e = cc
place_around further (element head kids) children number e =
    ap (λ list. by_around head.kind (place_among further list number 0) []) (sym (nodes_of-list_of kids))
    ∙ by-around head.kind children (list_of kids) (λ list. place_among further (nodes_of list) number 0) [] e

pub place_itself : (further : ℕ) (node : ViewNode) (number : ℕ) → None ≡ around node → None ≡ node_text node → place_in further node number ≡ []
place_itself further (text scalars) number e t = cc
place_itself further (element head kids) number e t = not-around head.kind (list_of kids) _ [] e

pub place_text : (further : ℕ) (node : ViewNode) (number : ℕ) (scalars : List ℕ) → Some scalars ≡ node_text node → place_in further node number
    ≡ (number + further) ∷ []
place_text further (text own) number scalars t = refl
place_text further (element head kids) number scalars t = cc

pub item_around : (node : ViewNode) (children : List ViewNode) (number : ℕ) → Some children ≡ around node → item_in node number
    ≡ item_among (nodes_of children) number
item_around (text scalars) children number e = cc
item_around (element head kids) children number e =
    ap (λ list. by_around head.kind (item_among list number) (Some (element head kids))) (sym (nodes_of-list_of kids))
    ∙ by-around head.kind children (list_of kids) (λ list. item_among (nodes_of list) number) (Some (element head kids)) e

pub item_itself : (node : ViewNode) (number : ℕ) → None ≡ around node → item_in node number ≡ Some node
item_itself (text scalars) number e = refl
item_itself (element head kids) number e = not-around head.kind (list_of kids) _ (Some (element head kids)) e

pub gap_around : (node : ViewNode) (children : List ViewNode) (number : ℕ) → Some children ≡ around node → 0 < number → gap_in node number
    ≡ gap_among (nodes_of children) number 0
gap_around (text scalars) children number e h = cc
gap_around (element head kids) children zero e h = absurd (omega (arith, h))
gap_around (element head kids) children (suc number) e h =
    ap (λ list. by_around head.kind (gap_among list (suc number) 0) []) (sym (nodes_of-list_of kids))
    ∙ by-around head.kind children (list_of kids) (λ list. gap_among (nodes_of list) (suc number) 0) [] e

pub gap_itself : (node : ViewNode) (number : ℕ) → None ≡ around node → gap_in node number ≡ []
gap_itself (text scalars) number e = refl
gap_itself (element head kids) zero e = refl
gap_itself (element head kids) (suc number) e = not-around head.kind (list_of kids) _ [] e

pub gap_before : (node : ViewNode) (number : ℕ) → number ≡ 0 → gap_in node number ≡ []
gap_before (text scalars) number e = refl
gap_before (element head kids) zero e = refl
gap_before (element head kids) (suc number) e = absurd (omega (arith, e))

-- the children of an attribute element are its list
pub around_depth : (node : ViewNode) (children : List ViewNode) → Some children ≡ around node → depth_of children < node_depth node
around_depth (text scalars) children e = cc
around_depth (element head kids) children e = list_depth (element head kids) children (go head.kind e)
  where
    go : (kind : Kind) → Some children ≡ by_around kind (Some (list_of kids)) None → Some children ≡ Some (list_of kids)
    go container f = cc
    go (attribute priority id) f = f
    go empty f = cc
    go ui f = cc

pub place_first : (further : ℕ) (nodes : List ViewNode) (number at rest : ℕ) (found : ViewNode) → Some (at, (rest, found)) ≡ holder nodes number 0
    → place_among further (nodes_of nodes) number 0 ≡ at ∷ place_in further found rest
place_first further nodes number at rest found e = place_found further nodes number 0 at rest found e ∙ ap (λ n. n ∷ place_in further found rest) (omega arith)

pub gap_first : (nodes : List ViewNode) (number at rest : ℕ) (found : ViewNode) → Some (at, (rest, found)) ≡ holder nodes number 0
    → gap_among (nodes_of nodes) number 0 ≡ at ∷ gap_in found rest
gap_first nodes number at rest found e = gap_found nodes number 0 at rest found e ∙ ap (λ n. n ∷ gap_in found rest) (omega arith)

pub gap_end : (nodes : List ViewNode) (number : ℕ) → None ≡ holder nodes number 0 → gap_among (nodes_of nodes) number 0 ≡ length nodes ∷ []
gap_end nodes number e = gap_nowhere nodes number 0 e ∙ ap (λ n. n ∷ []) (omega arith)

-- where a boundary is seen
pub seen_first : (nodes : ViewNodes) (number base : ℕ) → number ≡ 0 → seen_among nodes number base ≡ before_item nodes number base
seen_first nodes zero base e = refl
seen_first nodes (suc number) base e = absurd (omega (arith, e))

pub seen_behind : (nodes : ViewNodes) (number base : ℕ) → (number ≡ 0 → ⊥) → is_character (item_among nodes (number - 1)) ≡ true
    → seen_among nodes number base ≡ place_among 1 nodes (number - 1) base
seen_behind nodes zero base e h = absurd (e refl)
seen_behind nodes (suc number) base e h =
    let same : suc number - 1 ≡ number = omega arith in
    ap (λ b. if b then place_among 1 nodes number base else before_item nodes (suc number) base) (ap (λ n. is_character (item_among nodes n)) (sym same) ∙ h)
    ∙ ap (λ n. place_among 1 nodes n base) (sym same)

pub seen_before : (nodes : ViewNodes) (number base : ℕ) → (number ≡ 0 → ⊥) → is_character (item_among nodes (number - 1)) ≡ false
    → seen_among nodes number base ≡ before_item nodes number base
seen_before nodes zero base e h = absurd (e refl)
seen_before nodes (suc number) base e h =
    let same : suc number - 1 ≡ number = omega arith in
    ap (λ b. if b then place_among 1 nodes number base else before_item nodes (suc number) base) (ap (λ n. is_character (item_among nodes n)) (sym same) ∙ h)

-- a way is its front and its last index
pub front_is : (way front : List ℕ) (last : ℕ) → way ≡ front ++ last ∷ [] → parent_of way ≡ front
front_is way front last e = ap parent_of e ∙ go front
  where
    go : (front : List ℕ) → parent_of (front ++ last ∷ []) ≡ front
    go [] = refl
    go (first ∷ []) = refl
    go (first ∷ next ∷ rest) = ap (λ list. first ∷ list) (go (next ∷ rest))

pub last_is : (way front : List ℕ) (last : ℕ) → way ≡ front ++ last ∷ [] → offset_of way ≡ last
last_is way front last e = ap offset_of e ∙ go front
  where
    go : (front : List ℕ) → offset_of (front ++ last ∷ []) ≡ last
    go [] = refl
    go (first ∷ []) = refl
    go (first ∷ next ∷ rest) = go (next ∷ rest)
