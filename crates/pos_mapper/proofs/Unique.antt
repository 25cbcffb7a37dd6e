-- A place that goes on in an item's node is the place of this item.
use Rattle.std.proofs.Common.{◌≡◌, ℕ, zero, suc, ◌+◌, ◌-◌, ◌<◌, List, [], ◌∷◌, ◌++◌, length, Bool, true, false, Option, Some, None, option_map, option_and_then}
use Rattle.std.proofs.Common.{refl, sym, ap, ◌∙◌, subst, arith}
use Rattle.std.proofs.lemmas.List.{append_cancel_right}
use Rattle.std.specs.Prelude.{IfSome, slice_get, nat_le, if◌then◌else◌}
use Rattle.view_definitions.specs.Node.{Kind, container, attribute, empty, ui, Head, ViewNode, ViewNodes, text, element, none, more}
use Rattle.downcast_definitions.specs.Meant.{length_by_kind, model_length, inner_length, Inners, in_text, in_item, by_kind, meant_in, meant_in_node}
use Rattle.item_definitions.specs.Item.{Item, Items, items_of}
use Rattle.item_definitions.specs.Item as items
use Rattle.view_definitions.specs.Node.{nodes_of}
use Rattle.view_definitions.specs.Row.{nest}
use Rattle.downcast_definitions.specs.Scene.{Scene}
use Rattle.downcast_definitions.specs.Rows.{row_of}
use Rattle.downcast_definitions.specs.Seen.{node_place}
use Rattle.downcast_definitions.specs.Shown.{HaveShapes}
use Rattle.downcast_definitions.proofs.Items.{node-seen}
use Rattle.ck_base.proofs.Common.{below, above}
use Rattle.downcast_definitions.specs.Among.{by_around, place_in, place_among}

-- places in items mean themselves
abbrev pub Open : Inners → Type 0
Open inners = (number : ℕ) → IfSome (slice_get inners number) (λ inner. (place : List ℕ) → inner place ≡ Some place)

-- that an item stands where a place begins that goes on in it
pub record Placed (nodes : ViewNodes) (offset base index : ℕ) (rest : List ℕ) (meant next : ℕ) (further : List ℕ) : Type 0 where
  pub number : ℕ
  pub is : meant ≡ offset + number
  pub below : number < inner_length nodes
  pub place : place_among 0 nodes number base ++ (next ∷ further) ≡ (base + index) ∷ rest

module _ (inners : Inners) (open_items : Open inners) where
  inside : (offset : ℕ) (place : List ℕ) (meant next : ℕ) (further : List ℕ) → in_item inners offset place ≡ Some (meant ∷ next ∷ further)
      → (meant ≡ offset) × (place ≡ next ∷ further)
  inside offset place meant next further e = go (slice_get inners offset) (open_items offset) e
    where
      go : (o : Option (List ℕ → Option (List ℕ))) → IfSome o (λ inner. (place : List ℕ) → inner place ≡ Some place)
          → option_map (λ position. offset ∷ position) (option_and_then (λ inner. inner place) o) ≡ Some (meant ∷ next ∷ further) → (meant ≡ offset)
          × (place ≡ next ∷ further)
      go None h f = cc
      go (Some inner) h f =
          let k : Some (offset ∷ place) ≡ Some (meant ∷ next ∷ further) = ap (option_map (λ position. offset ∷ position)) (sym (h place)) ∙ f in
          (cc, cc)

  no_text : (offset scalars : ℕ) (place : List ℕ) (meant next : ℕ) (further : List ℕ) → in_text offset scalars place ≡ Some (meant ∷ next ∷ further) → ⊥
  no_text offset scalars [] meant next further e = cc
  no_text offset scalars (index ∷ []) meant next further e = go (nat_le index scalars) e
    where
      go : (b : Bool) → (if b then Some ((offset + index) ∷ []) else None) ≡ Some (meant ∷ next ∷ further) → ⊥
      go true f = cc
      go false f = cc
  no_text offset scalars (index ∷ after ∷ rest) meant next further e = cc

  -- the first of the nodes holds it
  first-placed : (node : ViewNode) (nodes : ViewNodes) (offset base number : ℕ) (rest : List ℕ) (meant next : ℕ) (further : List ℕ)
      → meant ≡ offset + number → number < model_length node
      → place_in 0 node number ++ (next ∷ further) ≡ rest → Placed (more node nodes) offset base 0 rest meant next further
  first-placed node nodes offset base number rest meant next further e b p = record {
    number = number;
    is = e;
    below = omega (arith, b);
    place =
        ap (λ t. (if t then base ∷ place_in 0 node number else place_among 0 nodes (number - model_length node) (base + 1)) ++ (next ∷ further))
        (below number (model_length node) b)
        ∙ (let z : base ≡ base + 0 = omega arith in λ i. z i ∷ p i);
  }

  -- an element holds it, by its kind
  in_kind : (head : Head) (kind : Kind) → head.kind ≡ kind
      → (children nodes : ViewNodes) (offset base : ℕ) (first : ℕ) (rest : List ℕ) (meant next : ℕ) (further : List ℕ)
      → by_kind kind (meant_in inners offset children (first ∷ rest)) (in_item inners offset (first ∷ rest)) ≡ Some (meant ∷ next ∷ further)
      → (meant_in inners offset children (first ∷ rest) ≡ Some (meant ∷ next ∷ further) → Placed children offset 0 first rest meant next further)
      → Placed (more (element head children) nodes) offset base 0 (first ∷ rest) meant next further
  in_kind head container k children nodes offset base first rest meant next further e ih =
      let i = inside offset (first ∷ rest) meant next further e in
      first-placed (element head children) nodes offset base 0 (first ∷ rest) meant next further (i.0 ∙ omega arith)
      (subst (λ kind. 0 < length_by_kind kind (inner_length children)) (sym k) (omega arith))
      (ap (λ kind. by_around kind (place_among 0 children 0 0) [] ++ (next ∷ further)) k ∙ sym i.1)
  in_kind head (attribute priority id) k children nodes offset base first rest meant next further e ih =
      let p = ih e in
      let z : 0 + first ≡ first = omega arith in
      first-placed (element head children) nodes offset base p.number (first ∷ rest) meant next further p.is
      (subst (λ kind. p.number < length_by_kind kind (inner_length children)) (sym k) p.below)
      (ap (λ kind. by_around kind (place_among 0 children p.number 0) [] ++ (next ∷ further)) k ∙ p.place ∙ ap (λ n. n ∷ rest) z)
  in_kind head empty k children nodes offset base first rest meant next further e ih =
      let i = inside offset (first ∷ rest) meant next further e in
      first-placed (element head children) nodes offset base 0 (first ∷ rest) meant next further (i.0 ∙ omega arith)
      (subst (λ kind. 0 < length_by_kind kind (inner_length children)) (sym k) (omega arith))
      (ap (λ kind. by_around kind (place_among 0 children 0 0) [] ++ (next ∷ further)) k ∙ sym i.1)
  in_kind head ui k children nodes offset base first rest meant next further e ih = cc

  mutual
    -- such a place in a node
    in_node : (node : ViewNode) (nodes : ViewNodes) (offset base : ℕ) (first : ℕ) (rest : List ℕ) (meant next : ℕ) (further : List ℕ)
        → meant_in_node inners offset node (first ∷ rest) ≡ Some (meant ∷ next ∷ further)
        → Placed (more node nodes) offset base 0 (first ∷ rest) meant next further
    in_node (text scalars) nodes offset base first rest meant next further e = absurd (no_text offset (length scalars) (first ∷ rest) meant next further e)
    in_node (element head children) nodes offset base first rest meant next further e =
        in_kind head head.kind refl children nodes offset base first rest meant next further e
        (λ f. placed children offset 0 first rest meant next further f)

    pub placed : (nodes : ViewNodes) (offset base index : ℕ) (rest : List ℕ) (meant next : ℕ) (further : List ℕ)
        → meant_in inners offset nodes (index ∷ rest) ≡ Some (meant ∷ next ∷ further) → Placed nodes offset base index rest meant next further
    placed none offset base zero [] meant next further e = cc
    placed none offset base zero (first ∷ rest) meant next further e = cc
    placed none offset base (suc index) rest meant next further e = cc
    placed (more node nodes) offset base zero [] meant next further e = cc
    placed (more node nodes) offset base zero (first ∷ rest) meant next further e = in_node node nodes offset base first rest meant next further e
    placed (more node nodes) offset base (suc index) rest meant next further e =
        let p = placed nodes (offset + model_length node) (base + 1) index rest meant next further e in
        let is = p.is in
        let below = p.below in
        record {
          number = model_length node + p.number;
          is = is ∙ omega arith;
          below = omega (arith, below);
          place =
              let less : model_length node + p.number - model_length node ≡ p.number = omega arith in
              let far : base + 1 + index ≡ base + suc index = omega arith in
              ap (λ t. (if t then base ∷ place_in 0 node (model_length node + p.number)
              else place_among 0 nodes (model_length node + p.number - model_length node) (base + 1)) ++ (next ∷ further))
              (above (model_length node + p.number) (model_length node) (omega arith))
              ∙ ap (λ n. place_among 0 nodes n (base + 1) ++ (next ∷ further)) less
              ∙ p.place
              ∙ ap (λ n. n ∷ rest) far;
        }

-- ---- the node of an element in a row

-- items that each place means itself in
abbrev opens : ℕ → Inners
opens zero = []
opens (suc count) = (λ place. Some place) ∷ opens count

all-open : (count : ℕ) → Open (opens count)
all-open zero number = tt
all-open (suc count) zero = λ place. refl
all-open (suc count) (suc number) = all-open count number

open-at : (count number : ℕ) (place : List ℕ) → number < count → in_item (opens count) number place ≡ Some (number ∷ place)
open-at count number place h = ap (λ o. option_map (λ position. number ∷ position) (option_and_then (λ inner. inner place) o)) (go count number h)
  where
    go : (count number : ℕ) → number < count → slice_get (opens count) number ≡ Some (λ place. Some place)
    go zero number h = absurd (omega (arith, h))
    go (suc count) zero h = refl
    go (suc count) (suc number) h = go count number (omega (arith, h))

found-place : (nodes : ViewNodes) (index : ℕ) (place : List ℕ) → meant_in (opens (suc index)) 0 nodes (place ++ 0 ∷ []) ≡ Some (index ∷ 0 ∷ [])
    → place_among 0 nodes index 0 ≡ place
found-place none index [] e = cc
found-place (more node nodes) index [] e = cc
found-place nodes index (first ∷ rest) e =
    let p = placed (opens (suc index)) (all-open (suc index)) nodes 0 0 first (rest ++ 0 ∷ []) index 0 [] e in
    let same : p.number ≡ index = (let k = p.is in omega (arith, k)) in
    let z : 0 + first ≡ first = omega arith in
    append_cancel_right (place_among 0 nodes index 0) (first ∷ rest) (0 ∷ [])
    (ap (λ n. place_among 0 nodes n 0 ++ 0 ∷ []) (sym same) ∙ p.place ∙ ap (λ n. n ∷ (rest ++ 0 ∷ [])) z)

-- an element is found among nodes where its node stands
pub node-found : (scene : Scene) (parent path : List ℕ) (list : List Item) (index id : ℕ) (name : List ℕ) (attributes : items.Attributes) (children : Items)
    → HaveShapes scene.conversion parent 0 (items_of list) → slice_get list index ≡ Some (items.element id name attributes children)
    → place_among 0 (nodes_of (nest (row_of scene parent path list))) index 0 ≡ node_place scene parent path list index
node-found scene parent path list index id name attributes children s e =
    found-place (nodes_of (nest (row_of scene parent path list))) index (node_place scene parent path list index)
    (node-seen scene parent path list index id name attributes children (opens (suc index)) 0 [] s e ∙ open-at (suc index) index (0 ∷ []) (omega arith))
