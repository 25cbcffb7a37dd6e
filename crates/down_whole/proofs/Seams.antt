-- Lists of nodes that meet at the caret.
use Rattle.std.proofs.Common.{◌≡◌, ◌↔◌, IsTrue, ℕ, List, [], ◌∷◌, ◌++◌, drop, Bool, true, false, Option, Some, None, refl, sym, ap, ◌∙◌, append_assoc}
use Rattle.std.specs.Prelude.{option_to_list, unwrap_or}
use Rattle.view_definitions.specs.Node.{ViewNode, text, element}
use Rattle.view_definitions.specs.Layer.{Layer, same_layer, in_layer}
use Rattle.view_definitions.proofs.Layers.{same_layer-true, same_layer-itself}
use Rattle.view_tree.specs.Changes.{removed, node_text, inner_of}
use Rattle.down_whole.specs.Between.{is_in, last_text, first_text, text_of_both, seam_text, without_last, text_before, with_texts_joined, opened_if}
use Rattle.down_whole.specs.Between.{opened_last, opened_first, between}

last_of : (new : List ViewNode) (node : ViewNode) → new ≡ without_last (new ++ node ∷ [])
last_of [] node = refl
last_of (first ∷ []) node = refl
last_of (first ∷ next ∷ rest) node = ap (λ nodes. first ∷ nodes) (last_of (next ∷ rest) node)

pub last_out : (old new : List ViewNode) (popped : Option ViewNode) → old ≡ new ++ option_to_list popped → (popped ≡ None ↔ old ≡ []) → new ≡ without_last old
last_out old [] None e h = ap without_last (sym e)
last_out old (node ∷ new) None e h = absurd (let empty : old ≡ [] = h.0 refl in let some : node ∷ new ++ [] ≡ [] = sym e ∙ empty in cc)
last_out old new (Some node) e h = last_of new node ∙ ap without_last (sym e)

pub first_out : (old new : List ViewNode) (node : ViewNode) → removed 0 old ≡ Some (new, node) → new ≡ drop 1 old
first_out [] new node e = absurd cc
first_out (first ∷ old) new node e = sym (ap (λ (taken : Option (List ViewNode × ViewNode)). (unwrap_or taken (new, node)).0) e)

pub none_out : (old new : List ViewNode) → removed 0 old ≡ None → new ≡ old → new ≡ drop 1 old
none_out [] new e kept = kept
none_out (first ∷ old) new e kept = absurd cc

meet : (node joined : ViewNode) (right : List ViewNode) → Some joined ≡ seam_text (node ∷ []) right → joined ∷ drop 1 right ≡ text_before node right
meet (text scalars) joined [] e = absurd cc
meet (text scalars) joined (text more_scalars ∷ nodes) e = ap (λ (made : Option ViewNode). unwrap_or made joined ∷ nodes) e
meet (text scalars) joined (element head children ∷ nodes) e = absurd cc
meet (element head children) joined right e = absurd cc

meet_all : (left right : List ViewNode) (joined : ViewNode) → Some joined ≡ seam_text left right → (without_last left ++ joined ∷ []) ++ drop 1 right
    ≡ with_texts_joined left right
meet_all [] right joined e = absurd cc
meet_all (node ∷ []) right joined e = meet node joined right e
meet_all (node ∷ next ∷ rest) right joined e = ap (λ nodes. node ∷ nodes) (meet_all (next ∷ rest) right joined e)

-- two texts have met
pub texts_meet : (left right front pushed rest made : List ViewNode) (joined : ViewNode) (one other : Option (List ℕ))
    → Some joined ≡ text_of_both one other → one ≡ last_text left → other ≡ first_text right → front ≡ without_last left → rest ≡ drop 1 right
    → pushed ≡ front ++ joined ∷ [] → made ≡ pushed ++ rest → made ≡ with_texts_joined left right
texts_meet left right front pushed rest made joined one other s o h f r p m =
    m ∙ (λ i. p i ++ r i) ∙ ap (λ nodes. (nodes ++ joined ∷ []) ++ drop 1 right) f ∙ meet_all left right joined (s ∙ (λ i. text_of_both (o i) (h i)))

apart : (node : ViewNode) (right : List ViewNode) → None ≡ seam_text (node ∷ []) right → node ∷ right ≡ text_before node right
apart (text scalars) [] e = refl
apart (text scalars) (text more_scalars ∷ nodes) e = absurd cc
apart (text scalars) (element head children ∷ nodes) e = refl
apart (element head children) right e = refl

apart_all : (left right : List ViewNode) → None ≡ seam_text left right → left ++ right ≡ with_texts_joined left right
apart_all [] right e = refl
apart_all (node ∷ []) right e = apart node right e
apart_all (node ∷ next ∷ rest) right e = ap (λ nodes. node ∷ nodes) (apart_all (next ∷ rest) right e)

-- no two texts meet
pub texts_apart : (left right made : List ViewNode) → None ≡ seam_text left right → made ≡ left ++ right → made ≡ with_texts_joined left right
texts_apart left right made s m = m ∙ apart_all left right s

-- what stands around a layer that the caret is in
pub layer_between : (layer : Layer) (layers : List Layer) (left right front back inner pushed made before behind : List ViewNode)
    → front ≡ (opened_last layer left).0 → before ≡ (opened_last layer left).1 → back ≡ (opened_first layer right).0 → behind ≡ (opened_first layer right).1
    → inner ≡ between before layers behind → pushed ≡ front ++ in_layer layer inner ∷ [] → made ≡ pushed ++ back → made ≡ between left (layer ∷ layers) right
layer_between layer layers left right front back inner pushed made before behind f b k h n p m =
    m ∙ ap (λ nodes. nodes ++ back) p ∙ append_assoc front (in_layer layer inner ∷ []) back
    ∙ (λ i. f i ++ (in_layer layer ((n ∙ (λ j. between (b j) layers (h j))) i) ∷ k i))

opened_end : (layer : Layer) (front : List ViewNode) (node : ViewNode) → opened_last layer (front ++ node ∷ [])
    ≡ opened_if (is_in layer node) front (inner_of node) (front ++ node ∷ [])
opened_end layer [] node = refl
opened_end layer (first ∷ []) node =
    elim (is_in layer node) as (λ b. (first ∷ (opened_if b [] (inner_of node) (node ∷ [])).0, (opened_if b [] (inner_of node) (node ∷ [])).1)
    ≡ opened_if b (first ∷ []) (inner_of node) (first ∷ node ∷ [])) [ true ↦ refl | false ↦ refl ]
opened_end layer (first ∷ next ∷ rest) node =
    ap (λ opened. (first ∷ opened.0, opened.1)) (opened_end layer (next ∷ rest) node)
    ∙ elim (is_in layer node) as (λ b. (
      first ∷ (opened_if b (next ∷ rest) (inner_of node) (next ∷ rest ++ node ∷ [])).0,
      (opened_if b (next ∷ rest) (inner_of node) (next ∷ rest ++ node ∷ [])).1,
    )
    ≡ opened_if b (first ∷ next ∷ rest) (inner_of node) (first ∷ next ∷ rest ++ node ∷ [])) [ true ↦ refl | false ↦ refl ]

-- the last node is the layer
pub last_opened : (layer : Layer) (old front : List ViewNode) (node : ViewNode) → old ≡ front ++ node ∷ [] → is_in layer node ≡ true
    → front ≡ (opened_last layer old).0
last_opened layer old front node e t =
    sym (ap (λ nodes. (opened_last layer nodes).0) e ∙ ap (λ opened. opened.0) (opened_end layer front node)
    ∙ ap (λ b. (opened_if b front (inner_of node) (front ++ node ∷ [])).0) t)

pub last_inner : (layer : Layer) (old front inner : List ViewNode) (node : ViewNode) → old ≡ front ++ node ∷ [] → is_in layer node ≡ true
    → inner ≡ inner_of node → inner ≡ (opened_last layer old).1
last_inner layer old front inner node e t i =
    i ∙ sym (ap (λ nodes. (opened_last layer nodes).1) e ∙ ap (λ opened. opened.1) (opened_end layer front node)
    ∙ ap (λ b. (opened_if b front (inner_of node) (front ++ node ∷ [])).1) t)

-- and it isn't
pub last_stays : (layer : Layer) (old front : List ViewNode) (node : ViewNode) → old ≡ front ++ node ∷ [] → is_in layer node ≡ false
    → front ++ node ∷ [] ≡ (opened_last layer old).0
last_stays layer old front node e t =
    sym (ap (λ nodes. (opened_last layer nodes).0) e ∙ ap (λ opened. opened.0) (opened_end layer front node)
    ∙ ap (λ b. (opened_if b front (inner_of node) (front ++ node ∷ [])).0) t)

pub last_kept : (layer : Layer) (old front : List ViewNode) (node : ViewNode) → old ≡ front ++ node ∷ [] → is_in layer node ≡ false
    → [] ≡ (opened_last layer old).1
last_kept layer old front node e t =
    sym (ap (λ nodes. (opened_last layer nodes).1) e ∙ ap (λ opened. opened.1) (opened_end layer front node)
    ∙ ap (λ b. (opened_if b front (inner_of node) (front ++ node ∷ [])).1) t)

alone : (node : ViewNode) → last_text (node ∷ []) ≡ node_text node
alone (text scalars) = refl
alone (element head children) = refl

at_end : (front : List ViewNode) (node : ViewNode) → last_text (front ++ node ∷ []) ≡ node_text node
at_end [] node = alone node
at_end (first ∷ []) node = alone node
at_end (first ∷ next ∷ rest) node = at_end (next ∷ rest) node

-- the text at the end of nodes
pub last_is : (old front : List ViewNode) (node : ViewNode) (found : Option (List ℕ)) → old ≡ front ++ node ∷ [] → found ≡ node_text node
    → found ≡ last_text old
last_is old front node found e f = f ∙ sym (ap last_text e ∙ at_end front node)

pub none_last : (old : List ViewNode) → old ≡ [] → None ≡ last_text old
none_last old e = sym (ap last_text e)

-- a test whether two layers are one
pub told : (one : Bool) (a b : Layer) → (IsTrue one ↔ (a ≡ b)) → one ≡ same_layer a b
told true a b h = sym (same_layer-itself a) ∙ ap (same_layer a) (h.0 refl)
told false a b h =
    elim (same_layer a b) as (λ t. same_layer a b ≡ t → false ≡ t) [
      | true ↦ λ e. h.1 (same_layer-true a b e)
      | false ↦ λ e. refl
    ] refl
