-- What is left of the caret's position below a path, and the caret's place among the nodes there.
use Rattle.std.proofs.Common.{◌≡◌, ℕ, zero, suc, ◌+◌, ◌≤◌, List, [], ◌∷◌, ◌++◌, length, Bool, true, false, ◌&&◌, ◌==◌, Option, Some, None, refl, sym, ap, ◌∙◌}
use Rattle.std.proofs.Common.{append_assoc, arith}
use Rattle.std.proofs.lemmas.Bool.Decides.{nat_tests}
use Rattle.std.specs.Prelude.{if◌then◌else◌, nat_le, slice_get}
use Rattle.item_definitions.specs.Item.{Item, Items, Attributes, list_of}
use Rattle.item_definitions.specs.Item as items
use Rattle.document_definitions.specs.Selection.{same_position}
use Rattle.view_definitions.specs.Node.{ViewNode, nodes_of}
use Rattle.downcast_definitions.specs.Scene.{Scene, has_caret}
use Rattle.downcast_definitions.specs.Meant.{model_length, Inners, meant_in}
use Rattle.downcast_definitions.specs.Seen.{in_children, place_in}
use Rattle.pos_mapper.specs.Seeking.{below_index, is_here, caret_among}
use Rattle.pos_mapper.proofs.Shifted.{shift}

-- whether a position is what is left of the caret's
abbrev pub same_rest : Option (List ℕ) → List ℕ → Bool
same_rest None position = false
same_rest (Some rest) position = same_position rest position

first_same : (first index : ℕ) → (first == index) ≡ true → first ≡ index
first_same first index e = grind (arith, nat_tests)

here-by : (b : Bool) (rest : List ℕ) → is_here (if b then Some rest else None) ≡ (b && same_position rest [])
here-by false rest = refl
here-by true [] = refl
here-by true (index ∷ rest) = refl

-- the caret stands at a boundary where nothing is left behind it
pub here-is : (caret : Option (List ℕ)) (offset : ℕ) → is_here (below_index offset caret) ≡ same_rest caret (offset ∷ [])
here-is None offset = refl
here-is (Some []) offset = refl
here-is (Some (first ∷ rest)) offset = here-by (first == offset) rest

here-only : (first offset : ℕ) (rest : List ℕ) (b : Bool) → first == offset ≡ b → is_here (if b then Some rest else None) ≡ true → Some (first ∷ rest)
    ≡ Some (offset ∷ [])
here-only first offset [] true t e = ap (λ n. Some (n ∷ [])) (first_same first offset t)
here-only first offset (index ∷ rest) true t e = cc
here-only first offset rest false t e = cc

pub here-some : (caret : Option (List ℕ)) (offset : ℕ) → is_here (below_index offset caret) ≡ true → caret ≡ Some (offset ∷ [])
here-some None offset e = cc
here-some (Some []) offset e = cc
here-some (Some (first ∷ rest)) offset e = here-only first offset rest (first == offset) refl e

below-by : (b : Bool) (rest position : List ℕ) → same_rest (if b then Some rest else None) position ≡ (b && same_position rest position)
below-by false rest position = refl
below-by true rest position = refl

pub below-is : (caret : Option (List ℕ)) (index : ℕ) (position : List ℕ) → same_rest (below_index index caret) position ≡ same_rest caret (index ∷ position)
below-is None index position = refl
below-is (Some []) index position = refl
below-is (Some (first ∷ rest)) index position = below-by (first == index) rest position

below-only : (first index : ℕ) (rest left : List ℕ) (b : Bool) → first == index ≡ b → (if b then Some rest else None) ≡ Some left → Some (first ∷ rest)
    ≡ Some (index ∷ left)
below-only first index rest left true t e =
    let same : rest ≡ left = cc in
    λ i. Some (first_same first index t i ∷ same i)
below-only first index rest left false t e = cc

pub below-some : (caret : Option (List ℕ)) (index : ℕ) (left : List ℕ) → below_index index caret ≡ Some left → caret ≡ Some (index ∷ left)
below-some None index left e = cc
below-some (Some []) index left e = cc
below-some (Some (first ∷ rest)) index left e = below-only first index rest left (first == index) refl e

-- that this is left of the caret's position below a path, and it is seen at this place in the content of its parent
pub record CaretBelow (scene : Scene) (parent path : List ℕ) (list : List Item) (caret : Option (List ℕ)) (place : List ℕ) : Type 0 where
  pub is : (position : List ℕ) → has_caret scene.caret (path ++ position) ≡ same_rest caret position
  pub at : (first : ℕ) (rest : List ℕ) → caret ≡ Some (first ∷ rest) → place ≡ place_in scene parent path list (first ∷ rest)

-- so it is in the element at an index
pub caret-inside : (scene : Scene) (parent path : List ℕ) (list : List Item) (caret : Option (List ℕ)) (place : List ℕ) (index id : ℕ) (name : List ℕ)
    (attributes : Attributes) (children : Items)
    → slice_get list index ≡ Some (items.element id name attributes children) → CaretBelow scene parent path list caret place
    → CaretBelow scene name (path ++ index ∷ []) (list_of children) (below_index index caret) place
caret-inside scene parent path list caret place index id name attributes children e c = record {
  is = λ position.
      ap (has_caret scene.caret) (append_assoc path (index ∷ []) position)
      ∙ c.is (index ∷ position) ∙ sym (below-is caret index position);
  at = λ first rest left.
      c.at index (first ∷ rest) (below-some caret index (first ∷ rest) left)
      ∙ ap (in_children (λ name inner. place_in scene name (path ++ index ∷ []) inner (first ∷ rest))) e;
}

-- ---- the caret's place

index-within : (inners : Inners) (offset : ℕ) (list : List ViewNode) (index : ℕ) (rest position : List ℕ)
    → meant_in inners offset (nodes_of list) (index ∷ rest) ≡ Some position → index ≤ length list
index-within inners offset list zero rest position e = omega arith
index-within inners offset [] (suc index) rest position e = cc
index-within inners offset (node ∷ list) (suc index) rest position e =
    let within = index-within inners (offset + model_length node) list index rest position e in
    omega (arith, within)

no-place : (inners : Inners) (offset : ℕ) (list : List ViewNode) (position : List ℕ) → meant_in inners offset (nodes_of list) [] ≡ Some position → ⊥
no-place inners offset [] position e = cc
no-place inners offset (node ∷ list) position e = cc

is_within : (x y : ℕ) → x ≤ y → nat_le x y ≡ true
is_within x y h = grind (arith, nat_tests)

-- a place that means a position is among the nodes
pub caret-fits : (inners : Inners) (offset : ℕ) (list : List ViewNode) (base : ℕ) (place position : List ℕ)
    → meant_in inners offset (nodes_of list) place ≡ Some position → caret_among place list base ≡ shift base place
caret-fits inners offset list base [] position e = absurd (no-place inners offset list position e)
caret-fits inners offset list base (index ∷ rest) position e =
    ap (λ b. if b then (base + index) ∷ rest else []) (is_within index (length list) (index-within inners offset list index rest position e))
