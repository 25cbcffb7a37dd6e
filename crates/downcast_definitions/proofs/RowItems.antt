-- Which item stands among the nodes of a row.
use Rattle.std.proofs.Common.{◌≡◌, ℕ, zero, suc, ◌+◌, ◌-◌, ◌<◌, ◌≤◌, List, [], ◌∷◌, ◌++◌, length, Bool, true, false, Option, Some, None, refl, sym, ap, ◌∙◌}
use Rattle.std.proofs.Common.{subst, append-nil, arith}
use Rattle.std.specs.Prelude.{slice_get, nat_lt, option_map, if◌then◌else◌}
use Rattle.item_definitions.specs.Item.{Item, Items, items_of}
use Rattle.item_definitions.specs.Item as items
use Rattle.view_definitions.specs.Node.{Kind, container, attribute, empty, ui, ViewNode, ViewNodes, text, element, none, more, nodes_of}
use Rattle.view_definitions.specs.Layer.{Layer, in_layer}
use Rattle.view_definitions.specs.Row.{Content, leaf, item, character, caret, Entry, Piece, Pieces, nothing, first, bare, wrapped, pieces_of, content_before}
use Rattle.view_definitions.specs.Row.{shown, nest, is_item_kind, is_element}
use Rattle.downcast_definitions.specs.Scene.{Scene, boundary}
use Rattle.downcast_definitions.specs.Rows.{elements_in, shape_at, element_node, entry_of, inner_row, row_of}
use Rattle.downcast_definitions.specs.Meant.{model_length, inner_length}
use Rattle.downcast_definitions.specs.Seen.{elements_before}
use Rattle.downcast_definitions.specs.Shown.{HaveShapes}
use Rattle.downcast_definitions.proofs.Entries.{may_stand, AllStand, counted, items_in, contents, contents_of, contents-row, stand-front, stand-rest}
use Rattle.downcast_definitions.proofs.Entries.{leaf-counts, item-counts, shown-counts}
use Rattle.downcast_definitions.proofs.Items.{contents-append, boundary-quiet, entry-counts, row-stands}
use Rattle.ck_base.proofs.Common.{is_below, below, not_below, above}
use Rattle.downcast_definitions.specs.Among.{by_around, item_in, item_among, is_character}

-- the entry that is the item of this number, leaves and carets apart
abbrev pub nth_item : List Content → ℕ → Option Content
nth_item [] number = None
nth_item (leaf node ∷ rest) number = nth_item rest number
nth_item (item node ∷ rest) zero = Some (item node)
nth_item (item node ∷ rest) (suc number) = nth_item rest number
nth_item (character scalar ∷ rest) zero = Some (character scalar)
nth_item (character scalar ∷ rest) (suc number) = nth_item rest number
nth_item (caret ∷ rest) number = nth_item rest number

-- that this is found for the item of an entry: its node, or the text of a character
abbrev pub IsItem : Option Content → Option ViewNode → Type 0
IsItem None found = found ≡ None
IsItem (Some (leaf node)) found = ⊥
IsItem (Some (item node)) found = found ≡ Some node
IsItem (Some (character scalar)) found = is_character found ≡ true
IsItem (Some caret) found = ⊥

both-items : (one other : Option Content) (found same : Option ViewNode) → one ≡ other → found ≡ same → IsItem other same → IsItem one found
both-items one other found same e k h = subst (λ o. IsItem o found) (sym e) (subst (IsItem other) (sym k) h)

-- ---- among entries

abbrev Stands : Option Content → Type 0
Stands None = Unit {0}
Stands (Some content) = may_stand content ≡ true

nth-stands : (all : List Content) (number : ℕ) → AllStand all → Stands (nth_item all number)
nth-stands [] number s = tt
nth-stands (leaf node ∷ rest) number s = nth-stands rest number s.1
nth-stands (item node ∷ rest) zero s = s.0
nth-stands (item node ∷ rest) (suc number) s = nth-stands rest number s.1
nth-stands (character scalar ∷ rest) zero s = refl
nth-stands (character scalar ∷ rest) (suc number) s = nth-stands rest number s.1
nth-stands (caret ∷ rest) number s = nth-stands rest number s.1

pub nth-front : (xs ys : List Content) (number : ℕ) → number < items_in xs → nth_item (xs ++ ys) number ≡ nth_item xs number
nth-front [] ys number h = absurd (omega (arith, h))
nth-front (leaf node ∷ xs) ys number h = nth-front xs ys number (omega (arith, h))
nth-front (item node ∷ xs) ys zero h = refl
nth-front (item node ∷ xs) ys (suc number) h = nth-front xs ys number (omega (arith, h))
nth-front (character scalar ∷ xs) ys zero h = refl
nth-front (character scalar ∷ xs) ys (suc number) h = nth-front xs ys number (omega (arith, h))
nth-front (caret ∷ xs) ys number h = nth-front xs ys number (omega (arith, h))

pub nth-rest : (xs ys : List Content) (number at : ℕ) → at ≡ items_in xs + number → nth_item (xs ++ ys) at ≡ nth_item ys number
nth-rest [] ys number at h = ap (nth_item ys) (omega (arith, h))
nth-rest (leaf node ∷ xs) ys number at h = nth-rest xs ys number at (omega (arith, h))
nth-rest (item node ∷ xs) ys number zero h = absurd (omega (arith, h))
nth-rest (item node ∷ xs) ys number (suc at) h = nth-rest xs ys number at (omega (arith, h))
nth-rest (character scalar ∷ xs) ys number zero h = absurd (omega (arith, h))
nth-rest (character scalar ∷ xs) ys number (suc at) h = nth-rest xs ys number at (omega (arith, h))
nth-rest (caret ∷ xs) ys number at h = nth-rest xs ys number at (omega (arith, h))

-- ---- among nodes

pub item-here : (node : ViewNode) (nodes : ViewNodes) (number : ℕ) → number < model_length node → item_among (more node nodes) number ≡ item_in node number
item-here node nodes number h =
    ap (λ t. if t then item_in node number else item_among nodes (number - model_length node)) (below number (model_length node) h)

item-past : (node : ViewNode) (nodes : ViewNodes) (number rest : ℕ) → number ≡ model_length node + rest → item_among (more node nodes) number
    ≡ item_among nodes rest
item-past node nodes number rest e =
    let less : number - model_length node ≡ rest = omega (arith, e) in
    ap (λ t. if t then item_in node number else item_among nodes (number - model_length node)) (above number (model_length node) (omega (arith, e)))
    ∙ ap (item_among nodes) less

not-around : (kind : Kind) (around elsewhere : Option ViewNode) → is_item_kind kind ≡ true → by_around kind around elsewhere ≡ elsewhere
not-around container around elsewhere e = refl
not-around (attribute priority id) around elsewhere e = cc
not-around empty around elsewhere e = refl
not-around ui around elsewhere e = refl

item-itself : (node : ViewNode) (number : ℕ) → is_element is_item_kind node ≡ true → item_in node number ≡ Some node
item-itself (text scalars) number e = cc
item-itself (element head children) number e = not-around head.kind (item_among children number) (Some (element head children)) e

-- ---- a text with a character more

text-changed : (one : Option Content) (scalars others : List ℕ) → Stands one → IsItem one (Some (text scalars)) → IsItem one (Some (text others))
text-changed None scalars others s h = cc
text-changed (Some (leaf node)) scalars others s h = h
text-changed (Some (item (text own))) scalars others s h = cc
text-changed (Some (item (element head children))) scalars others s h = cc
text-changed (Some (character scalar)) scalars others s h = refl
text-changed (Some caret) scalars others s h = h

text-grows : (scalar : ℕ) (scalars : List ℕ) (nodes : ViewNodes) (one : Option Content) (number : ℕ) → Stands one
    → IsItem one (item_among (more (text scalars) nodes) number)
    → IsItem one (item_among (more (text (scalar ∷ scalars)) nodes) (suc number))
text-grows scalar scalars nodes one number s h = go (nat_lt number (length scalars)) refl h
  where
    go : (b : Bool) → nat_lt number (length scalars) ≡ b → IsItem one (if b then Some (text scalars) else item_among nodes (number - length scalars))
        → IsItem one (item_among (more (text (scalar ∷ scalars)) nodes) (suc number))
    go true t h =
        let less : number < length scalars = is_below number (length scalars) t in
        subst (IsItem one) (sym (item-here (text (scalar ∷ scalars)) nodes (suc number) (omega (arith, less))))
        (text-changed one scalars (scalar ∷ scalars) s h)
    go false t h =
        let past : length scalars ≤ number = not_below number (length scalars) t in
        subst (IsItem one) (sym (item-past (text (scalar ∷ scalars)) nodes (suc number) (number - length scalars) (omega (arith, past)))) h

-- ---- among the nodes of pieces

content-item : (content : Content) (rest : List Content) (nodes : List ViewNode) (number : ℕ) → may_stand content ≡ true → AllStand rest
    → ((place : ℕ) → IsItem (nth_item rest place) (item_among (nodes_of nodes) place))
    → IsItem (nth_item (content ∷ rest) number) (item_among (nodes_of (content_before content nodes)) number)
content-item (leaf node) rest nodes number s t h =
    let counts = leaf-counts node s in
    subst (IsItem (nth_item rest number)) (sym (item-past node (nodes_of nodes) number number (omega (arith, counts)))) (h number)
content-item (item node) rest nodes zero s t h =
    let counts = item-counts node s in
    item-here node (nodes_of nodes) 0 (omega (arith, counts)) ∙ item-itself node 0 s
content-item (item node) rest nodes (suc number) s t h =
    let counts = item-counts node s in
    subst (IsItem (nth_item rest number)) (sym (item-past node (nodes_of nodes) (suc number) number (omega (arith, counts)))) (h number)
content-item (character scalar) rest [] zero s t h = ap is_character (item-here (text (scalar ∷ [])) none 0 (omega arith))
content-item (character scalar) rest (text scalars ∷ nodes) zero s t h = ap is_character (item-here (text (scalar ∷ scalars)) (nodes_of nodes) 0 (omega arith))
content-item (character scalar) rest (element head children ∷ nodes) zero s t h =
    ap is_character (item-here (text (scalar ∷ [])) (more (element head children) (nodes_of nodes)) 0 (omega arith))
content-item (character scalar) rest [] (suc number) s t h =
    subst (IsItem (nth_item rest number)) (sym (item-past (text (scalar ∷ [])) none (suc number) number (omega arith))) (h number)
content-item (character scalar) rest (text scalars ∷ nodes) (suc number) s t h =
    text-grows scalar scalars (nodes_of nodes) (nth_item rest number) number (nth-stands rest number t) (h number)
content-item (character scalar) rest (element head children ∷ nodes) (suc number) s t h =
    subst (IsItem (nth_item rest number))
    (sym (item-past (text (scalar ∷ [])) (more (element head children) (nodes_of nodes)) (suc number) number (omega arith))) (h number)
content-item caret rest nodes number s t h = h number

abbrev Claim : Pieces → Type 0
Claim pieces = (number : ℕ) → AllStand (contents pieces) → IsItem (nth_item (contents pieces) number) (item_among (nodes_of (shown pieces)) number)

inside-item : (layer : Layer) (inner pieces : Pieces) → Claim inner → Claim pieces → Claim (first (wrapped layer inner) pieces)
inside-item layer inner pieces h k number s = go (nat_lt number (items_in (contents inner))) refl
  where
    counts : inner_length (nodes_of (shown inner)) ≡ items_in (contents inner)
    counts = shown-counts inner (stand-front (contents inner) (contents pieces) s)

    go : (b : Bool) → nat_lt number (items_in (contents inner)) ≡ b
        → IsItem (nth_item (contents inner ++ contents pieces) number) (item_among (more (in_layer layer (shown inner)) (nodes_of (shown pieces))) number)
    go true t =
        let less : number < items_in (contents inner) = is_below number (items_in (contents inner)) t in
        let same : inner_length (nodes_of (shown inner)) ≡ items_in (contents inner) = counts in
        both-items _ (nth_item (contents inner) number) _ (item_among (nodes_of (shown inner)) number)
        (nth-front (contents inner) (contents pieces) number less)
        (item-here (in_layer layer (shown inner)) (nodes_of (shown pieces)) number (omega (arith, less, same)))
        (h number (stand-front (contents inner) (contents pieces) s))
    go false t =
        let past : items_in (contents inner) ≤ number = not_below number (items_in (contents inner)) t in
        let same : inner_length (nodes_of (shown inner)) ≡ items_in (contents inner) = counts in
        both-items _ (nth_item (contents pieces) (number - items_in (contents inner))) _
        (item_among (nodes_of (shown pieces)) (number - items_in (contents inner)))
        (nth-rest (contents inner) (contents pieces) (number - items_in (contents inner)) number (omega (arith, past)))
        (item-past (in_layer layer (shown inner)) (nodes_of (shown pieces)) number (number - items_in (contents inner)) (omega (arith, past, same)))
        (k (number - items_in (contents inner)) (stand-rest (contents inner) (contents pieces) s))

mutual
  item-of-piece : (piece : Piece) (pieces : Pieces) → Claim pieces → Claim (first piece pieces)
  item-of-piece (bare content) pieces rest number s = content-item content (contents pieces) (shown pieces) number s.0 s.1 (λ place. rest place s.1)
  item-of-piece (wrapped layer inner) pieces rest number s = inside-item layer inner pieces (item-of-pieces inner) rest number s

  -- the item of a number among the nodes of pieces is that of its entry
  pub item-of-pieces : (pieces : Pieces) (number : ℕ) → AllStand (contents pieces)
      → IsItem (nth_item (contents pieces) number) (item_among (nodes_of (shown pieces)) number)
  item-of-pieces nothing number s = refl
  item-of-pieces (first piece pieces) number s = item-of-piece piece pieces (item-of-pieces pieces) number s

-- and among the nodes of a row
item-of-row : (row : List Entry) (number : ℕ) → AllStand (contents_of row)
    → IsItem (nth_item (contents_of row) number) (item_among (nodes_of (nest row)) number)
item-of-row row number s =
    subst (λ all. IsItem (nth_item all number) (item_among (nodes_of (nest row)) number)) (contents-row row)
    (item-of-pieces (pieces_of row) number (subst AllStand (sym (contents-row row)) s))

-- ---- in the row of a parent

nth-here : (content : Content) (rest : List Content) → counted content ≡ 1 → nth_item (content ∷ rest) 0 ≡ Some content
nth-here (leaf node) rest e = cc
nth-here (item node) rest e = refl
nth-here (character scalar) rest e = refl
nth-here caret rest e = cc

nth-later : (content : Content) (rest : List Content) (number : ℕ) → counted content ≡ 1 → nth_item (content ∷ rest) (suc number) ≡ nth_item rest number
nth-later (leaf node) rest number e = cc
nth-later (item node) rest number e = refl
nth-later (character scalar) rest number e = refl
nth-later caret rest number e = cc

quiet-none : (all : List Content) (number : ℕ) → items_in all ≡ 0 → nth_item all number ≡ None
quiet-none all number e = ap (λ list. nth_item list number) (sym (append-nil all)) ∙ nth-rest all [] number number (omega (arith, e))

-- the items of a row are the entries of the parent's items
pub row-items : (scene : Scene) (parent path : List ℕ) (list : List Item) (from before index at : ℕ) → at ≡ from + index
    → nth_item (contents_of (inner_row scene parent path from before (items_of list))) index
    ≡ option_map (λ of. (entry_of scene parent (path ++ at ∷ []) (before + elements_before list index) of).content) (slice_get list index)
row-items scene parent path [] from before index at e =
    quiet-none (contents_of (boundary scene (path ++ from ∷ []))) index (boundary-quiet scene (path ++ from ∷ [])).1
row-items scene parent path (next ∷ list) from before zero at e =
    let entry = entry_of scene parent (path ++ from ∷ []) before next in
    let row = inner_row scene parent path (from + 1) (before + elements_in next) (items_of list) in
    let quiet : items_in (contents_of (boundary scene (path ++ from ∷ []))) ≡ 0 = (boundary-quiet scene (path ++ from ∷ [])).1 in
    let n : before ≡ before + 0 = omega arith in
    let m : from ≡ at = omega (arith, e) in
    ap (λ all. nth_item all 0) (contents-append (boundary scene (path ++ from ∷ [])) (entry ∷ row))
    ∙ nth-rest (contents_of (boundary scene (path ++ from ∷ []))) (contents_of (entry ∷ row)) 0 0 (omega (arith, quiet))
    ∙ nth-here entry.content (contents_of row) (entry-counts scene parent (path ++ from ∷ []) before next)
    ∙ (λ i. Some (entry_of scene parent (path ++ m i ∷ []) (n i) next).content)
row-items scene parent path (next ∷ list) from before (suc index) at e =
    let entry = entry_of scene parent (path ++ from ∷ []) before next in
    let row = inner_row scene parent path (from + 1) (before + elements_in next) (items_of list) in
    let quiet : items_in (contents_of (boundary scene (path ++ from ∷ []))) ≡ 0 = (boundary-quiet scene (path ++ from ∷ [])).1 in
    ap (λ all. nth_item all (suc index)) (contents-append (boundary scene (path ++ from ∷ [])) (entry ∷ row))
    ∙ nth-rest (contents_of (boundary scene (path ++ from ∷ []))) (contents_of (entry ∷ row)) (suc index) (suc index) (omega (arith, quiet))
    ∙ nth-later entry.content (contents_of row) index (entry-counts scene parent (path ++ from ∷ []) before next)
    ∙ row-items scene parent path list (from + 1) (before + elements_in next) index at (omega (arith, e))
    ∙ ap (λ n. option_map (λ of. (entry_of scene parent (path ++ at ∷ []) n of).content) (slice_get list index)) (omega arith)

-- what is found at an index is the item there
pub item-there : (scene : Scene) (parent path : List ℕ) (list : List Item) (index : ℕ) (of : Option Item)
    → HaveShapes scene.conversion parent 0 (items_of list) → slice_get list index ≡ of
    → IsItem (option_map (λ next. (entry_of scene parent (path ++ index ∷ []) (elements_before list index) next).content) of)
    (item_among (nodes_of (nest (row_of scene parent path list))) index)
item-there scene parent path list index of s e =
    let z : 0 + elements_before list index ≡ elements_before list index = omega arith in
    subst (λ content. IsItem content (item_among (nodes_of (nest (row_of scene parent path list))) index))
    (row-items scene parent path list 0 0 index index (omega arith)
    ∙ (λ i. option_map (λ next. (entry_of scene parent (path ++ index ∷ []) (z i) next).content) (e i)))
    (item-of-row (row_of scene parent path list) index (row-stands scene parent path 0 0 (items_of list) s))

pub item-element : (scene : Scene) (parent path : List ℕ) (list : List Item) (index id : ℕ) (name : List ℕ) (attributes : items.Attributes) (children : Items)
    → HaveShapes scene.conversion parent 0 (items_of list) → slice_get list index ≡ Some (items.element id name attributes children)
    → item_among (nodes_of (nest (row_of scene parent path list))) index
    ≡ Some (element_node (scene.numbers id) (shape_at scene.conversion parent (elements_before list index) name attributes)
    (inner_row scene name (path ++ index ∷ []) 0 0 children))
item-element scene parent path list index id name attributes children s e = item-there scene parent path list index
    (Some (items.element id name attributes children)) s e

pub item-none : (scene : Scene) (parent path : List ℕ) (list : List Item) (index : ℕ) → HaveShapes scene.conversion parent 0 (items_of list)
    → slice_get list index ≡ None
    → item_among (nodes_of (nest (row_of scene parent path list))) index ≡ None
item-none scene parent path list index s e = item-there scene parent path list index None s e
