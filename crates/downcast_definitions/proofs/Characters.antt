-- The text of a character among nodes.
use Rattle.std.proofs.Common.{◌≡◌, ℕ, zero, suc, ◌+◌, ◌-◌, ◌<◌, ◌≤◌, List, [], ◌∷◌, ◌++◌, length, Bool, true, false, Option, Some, None, refl, sym, ap, ◌∙◌}
use Rattle.std.proofs.Common.{subst, arith}
use Rattle.std.proofs.lemmas.Bool.{le-leb}
use Rattle.std.specs.Prelude.{slice_get, nat_lt, option_map, if◌then◌else◌}
use Rattle.view_definitions.specs.Node.{Kind, container, attribute, empty, ui, Head, ViewNode, ViewNodes, text, element, none, more, list_of, nodes_of}
use Rattle.item_definitions.specs.Item.{Item, items_of}
use Rattle.item_definitions.specs.Item as items
use Rattle.view_definitions.specs.Layer.{Layer, in_layer}
use Rattle.view_definitions.specs.Place.{node_at}
use Rattle.view_definitions.specs.Row.{Content, leaf, item, character, caret, Entry, Piece, Pieces, nothing, first, bare, wrapped, pieces_of, content_before}
use Rattle.view_definitions.specs.Row.{shown, nest}
use Rattle.downcast_definitions.specs.Meant.{length_by_kind, model_length, inner_length, Inners, by_kind, in_item, meant_in}
use Rattle.downcast_definitions.specs.Scene.{Scene}
use Rattle.downcast_definitions.specs.Rows.{entry_of, row_of}
use Rattle.downcast_definitions.specs.Seen.{elements_before}
use Rattle.downcast_definitions.specs.Shown.{HaveShapes}
use Rattle.downcast_definitions.specs.Among.{by_around, place_in, place_among, item_in, item_among, is_character}
use Rattle.downcast_definitions.proofs.Entries.{may_stand, AllStand, items_in, piece_contents, contents, contents_of, contents-row, stand-front, stand-rest}
use Rattle.downcast_definitions.proofs.Entries.{leaf-counts, item-counts, shown-counts}
use Rattle.downcast_definitions.proofs.RowItems.{nth_item, nth-front, nth-rest, row-items, item-here}
use Rattle.downcast_definitions.proofs.Items.{row-stands}
use Rattle.downcast_definitions.proofs.Marked.{later_below}
use Rattle.ck_base.proofs.Common.{is_below, below, not_below, above}

abbrev mutual
  -- the scalar value of the item of a number in a node: None where it is no character
  pub scalar_in : ViewNode → ℕ → Option ℕ
  scalar_in (text scalars) number = slice_get scalars number
  scalar_in (element head children) number = by_around head.kind (scalar_among children number) None

  pub scalar_among : ViewNodes → ℕ → Option ℕ
  scalar_among none number = None
  scalar_among (more node nodes) number =
      if nat_lt number (model_length node) then scalar_in node number else scalar_among nodes (number - model_length node)

-- Where a character stands among nodes, the first of which has the index `base`, and before which `offset` items are
pub record Placed (nodes : ViewNodes) (offset base number scalar : ℕ) : Type 0 where
  pub at : ℕ
  pub front : List ℕ
  pub index : ℕ
  pub scalars : List ℕ
  pub here : place_among 0 nodes number base ≡ (base + at) ∷ (front ++ index ∷ [])
  pub behind : place_among 1 nodes number base ≡ (base + at) ∷ (front ++ (index + 1) ∷ [])
  pub there : node_at (at ∷ front) (list_of nodes) ≡ Some (text scalars)
  pub is : slice_get scalars index ≡ Some scalar
  pub means : (inners : Inners) → meant_in inners offset nodes (at ∷ (front ++ index ∷ [])) ≡ Some ((offset + number) ∷ [])
  pub one : is_character (item_among nodes number) ≡ true
  pub earlier : (less : ℕ) → index ≡ suc less → (before : ℕ) × (number ≡ suc before) × (is_character (item_among nodes before) ≡ true)

node-later : (at : ℕ) (front : List ℕ) (node : ViewNode) (nodes : List ViewNode) → node_at (suc at ∷ front) (node ∷ nodes) ≡ node_at (at ∷ front) nodes
node-later at [] node nodes = refl
node-later at (next ∷ front) node nodes = refl

get-within : (scalars : List ℕ) (index scalar : ℕ) → slice_get scalars index ≡ Some scalar → index < length scalars
get-within [] index scalar e = cc
get-within (one ∷ scalars) zero scalar e = omega arith
get-within (one ∷ scalars) (suc index) scalar e = let h = get-within scalars index scalar e in omega (arith, h)

-- in the first node
here-is : (further : ℕ) (node : ViewNode) (nodes : ViewNodes) (number base : ℕ) → number < model_length node
    → place_among further (more node nodes) number base ≡ (base + 0) ∷ place_in further node number
here-is further node nodes number base h =
    ap (λ t. if t then base ∷ place_in further node number else place_among further nodes (number - model_length node) (base + 1))
    (below number (model_length node) h)
    ∙ ap (λ n. n ∷ place_in further node number) (omega arith)

text-placed : (scalars : List ℕ) (nodes : ViewNodes) (offset base number scalar : ℕ) → slice_get scalars number ≡ Some scalar
    → Placed (more (text scalars) nodes) offset base number scalar
text-placed scalars nodes offset base number scalar e =
    let h = get-within scalars number scalar e in
    let z : number + 0 ≡ number = omega arith in
    record {
      at = 0;
      front = [];
      index = number;
      scalars = scalars;
      here = here-is 0 (text scalars) nodes number base h ∙ ap (λ n. (base + 0) ∷ n ∷ []) z;
      behind = here-is 1 (text scalars) nodes number base h;
      there = refl;
      is = e;
      means = λ inners. ap (λ b. if b then Some ((offset + number) ∷ []) else None) (le-leb number (length scalars) (omega (arith, h)));
      one = ap is_character (item-here (text scalars) nodes number h);
      earlier = λ less k.
          let b : less < length scalars = omega (arith, h, k) in
          (less, k, ap is_character (item-here (text scalars) nodes less b));
    }

in-element : (head : Head) (children nodes : ViewNodes) (offset base number scalar : ℕ) (kind : Kind) → head.kind ≡ kind
    → number < length_by_kind kind (inner_length children)
    → (scalar_among children number ≡ Some scalar → Placed children offset 0 number scalar) → by_around kind (scalar_among children number) None ≡ Some scalar
    → Placed (more (element head children) nodes) offset base number scalar
in-element head children nodes offset base number scalar container k h ih e = cc
in-element head children nodes offset base number scalar empty k h ih e = cc
in-element head children nodes offset base number scalar ui k h ih e = cc
in-element head children nodes offset base number scalar (attribute priority id) k h ih e =
    let p = ih e in
    let z : 0 + p.at ≡ p.at = omega arith in
    let less : number < length_by_kind head.kind (inner_length children) = subst (λ kind. number < length_by_kind kind (inner_length children)) (sym k) h in
    record {
      at = 0;
      front = p.at ∷ p.front;
      index = p.index;
      scalars = p.scalars;
      here =
          here-is 0 (element head children) nodes number base less
          ∙ ap (λ kind. (base + 0) ∷ by_around kind (place_among 0 children number 0) []) k
          ∙ ap (λ place. (base + 0) ∷ place) (p.here ∙ ap (λ n. n ∷ (p.front ++ p.index ∷ [])) z);
      behind =
          here-is 1 (element head children) nodes number base less
          ∙ ap (λ kind. (base + 0) ∷ by_around kind (place_among 1 children number 0) []) k
          ∙ ap (λ place. (base + 0) ∷ place) (p.behind ∙ ap (λ n. n ∷ (p.front ++ (p.index + 1) ∷ [])) z);
      there = p.there;
      is = p.is;
      means = λ inners. ap (λ kind. by_kind kind (meant_in inners offset children (p.at ∷ (p.front ++ p.index ∷ [])))
          (in_item inners offset (p.at ∷ (p.front ++ p.index ∷ [])))) k ∙ p.means inners;
      one = ap is_character (item-here (element head children) nodes number less)
          ∙ ap (λ kind. is_character (by_around kind (item_among children number) (Some (element head children)))) k ∙ p.one;
      earlier = λ few f.
          let before = p.earlier few f in
          let m : number ≡ suc before.0 = before.1 in
          let b : before.0 < length_by_kind head.kind (inner_length children) = omega (arith, less, m) in (
            before.0,
            before.1,
            ap is_character (item-here (element head children) nodes before.0 b)
                ∙ ap (λ kind. is_character (by_around kind (item_among children before.0) (Some (element head children)))) k ∙ before.2,
          );
    }

later-placed : (node : ViewNode) (nodes : ViewNodes) (offset base number scalar : ℕ) → model_length node ≤ number
    → Placed nodes (offset + model_length node) (base + 1) (number - model_length node) scalar
    → Placed (more node nodes) offset base number scalar
later-placed node nodes offset base number scalar h p =
    let past = above number (model_length node) h in
    let far : base + 1 + p.at ≡ base + suc p.at = omega arith in
    let items : offset + model_length node + (number - model_length node) ≡ offset + number = omega (arith, h) in
    record {
      at = suc p.at;
      front = p.front;
      index = p.index;
      scalars = p.scalars;
      here =
          ap (λ t. if t then base ∷ place_in 0 node number else place_among 0 nodes (number - model_length node) (base + 1)) past
          ∙ p.here ∙ ap (λ n. n ∷ (p.front ++ p.index ∷ [])) far;
      behind =
          ap (λ t. if t then base ∷ place_in 1 node number else place_among 1 nodes (number - model_length node) (base + 1)) past
          ∙ p.behind ∙ ap (λ n. n ∷ (p.front ++ (p.index + 1) ∷ [])) far;
      there = node-later p.at p.front node (list_of nodes) ∙ p.there;
      is = p.is;
      means = λ inners. later-means inners p.front ∙ p.means inners ∙ ap (λ n. Some (n ∷ [])) items;
      one = ap (λ t. is_character (if t then item_in node number else item_among nodes (number - model_length node))) past ∙ p.one;
      earlier = λ few f.
          let before = p.earlier few f in
          let m : number - model_length node ≡ suc before.0 = before.1 in
          let next : number ≡ suc (model_length node + before.0) = omega (arith, h, m) in
          let far_past : nat_lt (model_length node + before.0) (model_length node)
          ≡ false = above (model_length node + before.0) (model_length node) (omega arith) in
          let back : model_length node + before.0 - model_length node ≡ before.0 = omega arith in (
            model_length node + before.0,
            next,
            ap (λ t. is_character (if t then item_in node (model_length node + before.0)
                else item_among nodes (model_length node + before.0 - model_length node))) far_past
                ∙ ap (λ n. is_character (item_among nodes n)) back ∙ before.2,
          );
    }
  where
    later-means : (inners : Inners) (front : List ℕ) → meant_in inners offset (more node nodes) (suc p.at ∷ (front ++ p.index ∷ []))
        ≡ meant_in inners (offset + model_length node) nodes (p.at ∷ (front ++ p.index ∷ []))
    later-means inners [] = refl
    later-means inners (next ∷ front) = refl

by-test : (node : ViewNode) (nodes : ViewNodes) (offset base number scalar : ℕ) (b : Bool) → nat_lt number (model_length node) ≡ b
    → (if b then scalar_in node number else scalar_among nodes (number - model_length node)) ≡ Some scalar
    → (number < model_length node → scalar_in node number ≡ Some scalar → Placed (more node nodes) offset base number scalar)
    → (scalar_among nodes (number - model_length node) ≡ Some scalar → Placed nodes (offset + model_length node) (base + 1) (number - model_length node) scalar)
    → Placed (more node nodes) offset base number scalar
by-test node nodes offset base number scalar true t e here later = here (is_below number (model_length node) t) e
by-test node nodes offset base number scalar false t e here later = later-placed node nodes offset base number scalar
    (not_below number (model_length node) t) (later e)

mutual
  node-placed : (node : ViewNode) (nodes : ViewNodes) (offset base number scalar : ℕ) → number < model_length node → scalar_in node number ≡ Some scalar
      → Placed (more node nodes) offset base number scalar
  node-placed (text scalars) nodes offset base number scalar h e = text-placed scalars nodes offset base number scalar e
  node-placed (element head children) nodes offset base number scalar h e =
      in-element head children nodes offset base number scalar head.kind refl h (λ f. placed children offset 0 number scalar f) e

  -- a character stands in a text
  pub placed : (nodes : ViewNodes) (offset base number scalar : ℕ) → scalar_among nodes number ≡ Some scalar → Placed nodes offset base number scalar
  placed none offset base number scalar e = cc
  placed (more node nodes) offset base number scalar e =
      by-test node nodes offset base number scalar (nat_lt number (model_length node)) refl e
      (λ h f. node-placed node nodes offset base number scalar h f)
      (λ f. placed nodes (offset + model_length node) (base + 1) (number - model_length node) scalar f)

-- ---- the scalar values of a row's characters

scalar-past : (node : ViewNode) (nodes : ViewNodes) (number rest : ℕ) → number ≡ model_length node + rest → scalar_among (more node nodes) number
    ≡ scalar_among nodes rest
scalar-past node nodes number rest e =
    let less : number - model_length node ≡ rest = omega (arith, e) in
    ap (λ t. if t then scalar_in node number else scalar_among nodes (number - model_length node)) (above number (model_length node) (omega (arith, e)))
    ∙ ap (scalar_among nodes) less

scalar-here : (node : ViewNode) (nodes : ViewNodes) (number : ℕ) → number < model_length node → scalar_among (more node nodes) number ≡ scalar_in node number
scalar-here node nodes number h =
    ap (λ t. if t then scalar_in node number else scalar_among nodes (number - model_length node)) (below number (model_length node) h)

scalar-grows : (scalar : ℕ) (scalars : List ℕ) (nodes : ViewNodes) (number : ℕ) → scalar_among (more (text (scalar ∷ scalars)) nodes) (suc number)
    ≡ scalar_among (more (text scalars) nodes) number
scalar-grows scalar scalars nodes number =
    let less : suc number - suc (length scalars) ≡ number - length scalars = omega arith in
    λ i. if later_below number (length scalars) i then slice_get scalars number else scalar_among nodes (less i)

own-scalar : (own scalar : ℕ) → Some (character own) ≡ Some (character scalar) → Some own ≡ Some scalar
own-scalar own scalar e = cc

-- that the characters of these contents are found among these nodes
abbrev AreScalars : List Content → List ViewNode → Type 0
AreScalars all nodes = (number scalar : ℕ) → nth_item all number ≡ Some (character scalar) → scalar_among (nodes_of nodes) number ≡ Some scalar

content-scalar : (content : Content) (rest : List Content) (nodes : List ViewNode) → may_stand content ≡ true → AreScalars rest nodes
    → AreScalars (content ∷ rest) (content_before content nodes)
content-scalar (leaf node) rest nodes s h number scalar e =
    let counts = leaf-counts node s in
    scalar-past node (nodes_of nodes) number number (omega (arith, counts)) ∙ h number scalar e
content-scalar (item node) rest nodes s h zero scalar e = cc
content-scalar (item node) rest nodes s h (suc number) scalar e =
    let counts = item-counts node s in
    scalar-past node (nodes_of nodes) (suc number) number (omega (arith, counts)) ∙ h number scalar e
content-scalar (character own) rest [] s h zero scalar e = scalar-here (text (own ∷ [])) none 0 (omega arith) ∙ own-scalar own scalar e
content-scalar (character own) rest (text scalars ∷ nodes) s h zero scalar e = scalar-here (text (own ∷ scalars)) (nodes_of nodes) 0 (omega arith)
    ∙ own-scalar own scalar e
content-scalar (character own) rest (element head children ∷ nodes) s h zero scalar e =
    scalar-here (text (own ∷ [])) (more (element head children) (nodes_of nodes)) 0 (omega arith) ∙ own-scalar own scalar e
content-scalar (character own) rest [] s h (suc number) scalar e = scalar-past (text (own ∷ [])) none (suc number) number (omega arith) ∙ h number scalar e
content-scalar (character own) rest (text scalars ∷ nodes) s h (suc number) scalar e = scalar-grows own scalars (nodes_of nodes) number ∙ h number scalar e
content-scalar (character own) rest (element head children ∷ nodes) s h (suc number) scalar e =
    scalar-past (text (own ∷ [])) (more (element head children) (nodes_of nodes)) (suc number) number (omega arith) ∙ h number scalar e
content-scalar caret rest nodes s h number scalar e = h number scalar e

within-scalar : (layer : Layer) (inner pieces : Pieces) → AllStand (contents inner ++ contents pieces) → AreScalars (contents inner) (shown inner)
    → AreScalars (contents pieces) (shown pieces)
    → AreScalars (contents inner ++ contents pieces) (in_layer layer (shown inner) ∷ shown pieces)
within-scalar layer inner pieces s h k number scalar e = go (nat_lt number (items_in (contents inner))) refl
  where
    counts : inner_length (nodes_of (shown inner)) ≡ items_in (contents inner)
    counts = shown-counts inner (stand-front (contents inner) (contents pieces) s)

    go : (b : Bool) → nat_lt number (items_in (contents inner)) ≡ b
        → scalar_among (more (in_layer layer (shown inner)) (nodes_of (shown pieces))) number ≡ Some scalar
    go true t =
        let less : number < items_in (contents inner) = is_below number (items_in (contents inner)) t in
        let same : inner_length (nodes_of (shown inner)) ≡ items_in (contents inner) = counts in
        scalar-here (in_layer layer (shown inner)) (nodes_of (shown pieces)) number (omega (arith, less, same))
        ∙ h number scalar (sym (nth-front (contents inner) (contents pieces) number less) ∙ e)
    go false t =
        let past : items_in (contents inner) ≤ number = not_below number (items_in (contents inner)) t in
        let same : inner_length (nodes_of (shown inner)) ≡ items_in (contents inner) = counts in
        scalar-past (in_layer layer (shown inner)) (nodes_of (shown pieces)) number (number - items_in (contents inner)) (omega (arith, past, same))
        ∙ k (number - items_in (contents inner)) scalar
        (sym (nth-rest (contents inner) (contents pieces) (number - items_in (contents inner)) number (omega (arith, past))) ∙ e)

mutual
  scalars-of-piece : (piece : Piece) (pieces : Pieces) → AllStand (contents (first piece pieces)) → AreScalars (contents pieces) (shown pieces)
      → AreScalars (contents (first piece pieces)) (shown (first piece pieces))
  scalars-of-piece (bare content) pieces s rest = content-scalar content (contents pieces) (shown pieces) s.0 rest
  scalars-of-piece (wrapped layer inner) pieces s rest =
      within-scalar layer inner pieces s (scalars-of-pieces inner (stand-front (contents inner) (contents pieces) s)) rest

  scalars-of-pieces : (pieces : Pieces) → AllStand (contents pieces) → AreScalars (contents pieces) (shown pieces)
  scalars-of-pieces nothing s = λ number scalar e. cc
  scalars-of-pieces (first piece pieces) s =
      scalars-of-piece piece pieces s (scalars-of-pieces pieces (stand-rest (piece_contents piece) (contents pieces) s))

scalars-of-row : (row : List Entry) → AllStand (contents_of row) → AreScalars (contents_of row) (nest row)
scalars-of-row row s =
    subst (λ all. AreScalars all (nest row)) (contents-row row) (scalars-of-pieces (pieces_of row) (subst AllStand (sym (contents-row row)) s))

-- a character of a parent's items is found among the nodes of its content
pub scalar-there : (scene : Scene) (parent path : List ℕ) (list : List Item) (index scalar : ℕ) (attributes : items.Attributes)
    → HaveShapes scene.conversion parent 0 (items_of list)
    → slice_get list index ≡ Some (items.character scalar attributes) → scalar_among (nodes_of (nest (row_of scene parent path list))) index ≡ Some scalar
scalar-there scene parent path list index scalar attributes s e =
    scalars-of-row (row_of scene parent path list) (row-stands scene parent path 0 0 (items_of list) s) index scalar
    (row-items scene parent path list 0 0 index index (omega arith)
    ∙ ap (option_map (λ of. (entry_of scene parent (path ++ index ∷ []) (0 + elements_before list index) of).content)) e)
