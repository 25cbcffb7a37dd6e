-- Where nodes show a position doesn't hang on the numbers and counts of changes in them.
use Rattle.std.proofs.Common.{◌≡◌, ℕ, zero, suc, ◌+◌, ◌-◌, List, [], ◌∷◌, ◌++◌, length, Bool, true, false, Option, Some, None, option_map, option_and_then}
use Rattle.std.proofs.Common.{refl, sym, ap, ◌∙◌}
use Rattle.std.proofs.lemmas.List.{length-map}
use Rattle.std.specs.Prelude.{slice_get, nat_lt, nat_le, if◌then◌else◌}
use Rattle.item_definitions.specs.Item.{Items}
use Rattle.view_definitions.specs.Node.{Kind, container, attribute, empty, ui, ViewNode, ViewNodes, text, element, none, more, list_of, nodes_of, children_of}
use Rattle.view_definitions.specs.Node.{plain_head, plain_node, plain_nodes, content}
use Rattle.view_definitions.specs.Row.{nest}
use Rattle.downcast_definitions.specs.Scene.{Numbers, unnumbered, Scene}
use Rattle.downcast_definitions.specs.Rows.{inner_row}
use Rattle.downcast_definitions.specs.Meant.{length_by_kind, model_length, inner_length}
use Rattle.downcast_definitions.proofs.Numbering.{nodes-plain, nest-plain, inner-plain}
use Rattle.item_definitions.specs.Children.{parent_of, offset_of}
use Rattle.pos_mapper.specs.Bindings.{Slot}
use Rattle.view_definitions.specs.Node.{uncounted_node, uncounted_nodes, uncounted}
use Rattle.pos_mapper.specs.Reading.{Slots}
use Rattle.downcast_definitions.specs.Among.{by_around, place_in, place_among, item_in, item_among, gap_in, gap_among, is_character, before_item, seen_among}
use Rattle.pos_mapper.specs.Seeking.{below_index, is_here, caret_among, seen_at, inside, slot_at, children_at, in_content, in_item, shown_at}
use Rattle.pos_mapper.proofs.Uncounted.{node-length, list_of-uncounted, length-uncounted, get-uncounted, content-uncounted}

mutual
  plain-length : (node : ViewNode) → model_length (plain_node node) ≡ model_length node
  plain-length (text scalars) = refl
  plain-length (element head children) = ap (length_by_kind head.kind) (plain-lengths children)

  plain-lengths : (nodes : ViewNodes) → inner_length (plain_nodes nodes) ≡ inner_length nodes
  plain-lengths none = refl
  plain-lengths (more node nodes) = λ i. plain-length node i + plain-lengths nodes i

mutual
  place-in-plain : (further : ℕ) (node : ViewNode) (number : ℕ) → place_in further (plain_node node) number ≡ place_in further node number
  place-in-plain further (text scalars) number = refl
  place-in-plain further (element head children) number = ap (λ inner. by_around head.kind inner []) (place-plain further children number 0)

  pub place-plain : (further : ℕ) (nodes : ViewNodes) (number base : ℕ) → place_among further (plain_nodes nodes) number base
      ≡ place_among further nodes number base
  place-plain further none number base = refl
  place-plain further (more node nodes) number base =
      (λ i. if nat_lt number (plain-length node i) then base ∷ place-in-plain further node number i
      else place_among further (plain_nodes nodes) (number - plain-length node i) (base + 1))
      ∙ ap (λ place. if nat_lt number (model_length node) then base ∷ place_in further node number else place)
      (place-plain further nodes (number - model_length node) (base + 1))

mutual
  gap-in-plain : (node : ViewNode) (number : ℕ) → gap_in (plain_node node) number ≡ gap_in node number
  gap-in-plain (text scalars) number = refl
  gap-in-plain (element head children) zero = refl
  gap-in-plain (element head children) (suc number) = ap (λ inner. by_around head.kind inner []) (gap-plain children (suc number) 0)

  pub gap-plain : (nodes : ViewNodes) (number base : ℕ) → gap_among (plain_nodes nodes) number base ≡ gap_among nodes number base
  gap-plain none number base = refl
  gap-plain (more node nodes) number base =
      (λ i. if nat_lt number (plain-length node i) then base ∷ gap-in-plain node number i
      else gap_among (plain_nodes nodes) (number - plain-length node i) (base + 1))
      ∙ ap (λ place. if nat_lt number (model_length node) then base ∷ gap_in node number else place) (gap-plain nodes (number - model_length node) (base + 1))

-- ---- items

around-map : (change : ViewNode → ViewNode) (kind : Kind) (inner outer : Option ViewNode)
    → by_around kind (option_map change inner) (option_map change outer) ≡ option_map change (by_around kind inner outer)
around-map change container inner outer = refl
around-map change (attribute priority id) inner outer = refl
around-map change empty inner outer = refl
around-map change ui inner outer = refl

if-map : (change : ViewNode → ViewNode) (b : Bool) (one other : Option ViewNode) → (if b then option_map change one else option_map change other)
    ≡ option_map change (if b then one else other)
if-map change true one other = refl
if-map change false one other = refl

mutual
  item-in-plain : (node : ViewNode) (number : ℕ) → item_in (plain_node node) number ≡ option_map plain_node (item_in node number)
  item-in-plain (text scalars) number = refl
  item-in-plain (element head children) number =
      ap (λ inner. by_around head.kind inner (Some (plain_node (element head children)))) (item-plain children number)
      ∙ around-map plain_node head.kind (item_among children number) (Some (element head children))

  pub item-plain : (nodes : ViewNodes) (number : ℕ) → item_among (plain_nodes nodes) number ≡ option_map plain_node (item_among nodes number)
  item-plain none number = refl
  item-plain (more node nodes) number =
      (λ i. if nat_lt number (plain-length node i) then item-in-plain node number i else item_among (plain_nodes nodes) (number - plain-length node i))
      ∙ ap (λ item. if nat_lt number (model_length node) then option_map plain_node (item_in node number) else item)
      (item-plain nodes (number - model_length node))
      ∙ if-map plain_node (nat_lt number (model_length node)) (item_in node number) (item_among nodes (number - model_length node))

plain-character : (item : Option ViewNode) → is_character (option_map plain_node item) ≡ is_character item
plain-character None = refl
plain-character (Some (text scalars)) = refl
plain-character (Some (element head children)) = refl

character-plain : (nodes : ViewNodes) (number : ℕ) → is_character (item_among (plain_nodes nodes) number) ≡ is_character (item_among nodes number)
character-plain nodes number = ap is_character (item-plain nodes number) ∙ plain-character (item_among nodes number)

-- ---- where a boundary is seen

before-plain : (nodes : ViewNodes) (number base : ℕ) → before_item (plain_nodes nodes) number base ≡ before_item nodes number base
before-plain nodes number base = λ i. if character-plain nodes number i then place-plain 0 nodes number base i else gap-plain nodes number base i

pub seen-plain : (nodes : ViewNodes) (number base : ℕ) → seen_among (plain_nodes nodes) number base ≡ seen_among nodes number base
seen-plain nodes zero base = before-plain nodes zero base
seen-plain nodes (suc number) base =
    λ i. if character-plain nodes number i then place-plain 1 nodes number base i else before-plain nodes (suc number) base i

pub seen-content : (list : List ViewNode) (number base : ℕ) → seen_among (nodes_of (content list)) number base ≡ seen_among (nodes_of list) number base
seen-content list number base = ap (λ nodes. seen_among nodes number base) (sym (nodes-plain list)) ∙ seen-plain (nodes_of list) number base

pub place-content : (further : ℕ) (list : List ViewNode) (number base : ℕ) → place_among further (nodes_of (content list)) number base
    ≡ place_among further (nodes_of list) number base
place-content further list number base = ap (λ nodes. place_among further nodes number base) (sym (nodes-plain list))
    ∙ place-plain further (nodes_of list) number base

-- in two lists of the same content
pub row-seen : (list other : List ViewNode) (number base : ℕ) → content list ≡ content other → seen_among (nodes_of list) number base
    ≡ seen_among (nodes_of other) number base
row-seen list other number base e = sym (seen-content list number base) ∙ ap (λ nodes. seen_among (nodes_of nodes) number base) e
    ∙ seen-content other number base

pub row-place : (further : ℕ) (list other : List ViewNode) (number base : ℕ) → content list ≡ content other
    → place_among further (nodes_of list) number base ≡ place_among further (nodes_of other) number base
row-place further list other number base e =
    sym (place-content further list number base) ∙ ap (λ nodes. place_among further (nodes_of nodes) number base) e ∙ place-content further other number base

pub row-length : (list other : List ViewNode) → content list ≡ content other → length list ≡ length other
row-length list other e = sym (length-map list plain_node) ∙ ap length e ∙ length-map other plain_node

-- the nodes of a row have the same content, whatever the numbers
pub row-content : (scene : Scene) (numbers : Numbers) (parent path : List ℕ) (items : Items)
    → content (nest (inner_row (record scene { numbers = numbers }) parent path 0 0 items))
    ≡ content (nest (inner_row (record scene { numbers = unnumbered }) parent path 0 0 items))
row-content scene numbers parent path items = as-unnumbered numbers ∙ sym (as-unnumbered unnumbered)
  where
    as-unnumbered : (numbers : Numbers) → content (nest (inner_row (record scene { numbers = numbers }) parent path 0 0 items))
        ≡ nest (inner_row (record scene { numbers = unnumbered }) parent path 0 0 items)
    as-unnumbered numbers =
        nest-plain (inner_row (record scene { numbers = numbers }) parent path 0 0 items)
        ∙ ap nest (inner-plain scene.conversion scene.markers scene.caret numbers parent path 0 0 items)

-- ---- without the counts of changes alone

mutual
  plain-uncounted : (node : ViewNode) → plain_node (uncounted_node node) ≡ plain_node node
  plain-uncounted (text scalars) = refl
  plain-uncounted (element head children) = ap (element (plain_head head)) (plains-uncounted children)

  plains-uncounted : (nodes : ViewNodes) → plain_nodes (uncounted_nodes nodes) ≡ plain_nodes nodes
  plains-uncounted none = refl
  plains-uncounted (more node nodes) = λ i. more (plain-uncounted node i) (plains-uncounted nodes i)

pub same-content : (list : List ViewNode) → content (uncounted list) ≡ content list
same-content [] = refl
same-content (node ∷ list) = λ i. plain-uncounted node i ∷ same-content list i

mutual
  item-in-uncounted : (node : ViewNode) (number : ℕ) → item_in (uncounted_node node) number ≡ option_map uncounted_node (item_in node number)
  item-in-uncounted (text scalars) number = refl
  item-in-uncounted (element head children) number =
      ap (λ inner. by_around head.kind inner (Some (uncounted_node (element head children)))) (items-uncounted children number)
      ∙ around-map uncounted_node head.kind (item_among children number) (Some (element head children))

  items-uncounted : (nodes : ViewNodes) (number : ℕ) → item_among (uncounted_nodes nodes) number ≡ option_map uncounted_node (item_among nodes number)
  items-uncounted none number = refl
  items-uncounted (more node nodes) number =
      (λ i. if nat_lt number (node-length node i) then item-in-uncounted node number i else item_among (uncounted_nodes nodes) (number - node-length node i))
      ∙ ap (λ item. if nat_lt number (model_length node) then option_map uncounted_node (item_in node number) else item)
      (items-uncounted nodes (number - model_length node))
      ∙ if-map uncounted_node (nat_lt number (model_length node)) (item_in node number) (item_among nodes (number - model_length node))

nodes-uncounted : (list : List ViewNode) → nodes_of (uncounted list) ≡ uncounted_nodes (nodes_of list)
nodes-uncounted [] = refl
nodes-uncounted (node ∷ list) = ap (more (uncounted_node node)) (nodes-uncounted list)

pub item-uncounted : (list : List ViewNode) (number : ℕ) → item_among (nodes_of (uncounted list)) number
    ≡ option_map uncounted_node (item_among (nodes_of list) number)
item-uncounted list number = ap (λ nodes. item_among nodes number) (nodes-uncounted list) ∙ items-uncounted (nodes_of list) number

children-uncounted : (node : Option ViewNode) → children_at (option_map uncounted_node node) ≡ uncounted (children_at node)
children-uncounted None = refl
children-uncounted (Some (text scalars)) = refl
children-uncounted (Some (element head children)) = list_of-uncounted children

slot-uncounted : (slots : Slots) (node : Option ViewNode) → slot_at slots (option_map uncounted_node node) ≡ slot_at slots node
slot-uncounted slots None = refl
slot-uncounted slots (Some (text scalars)) = refl
slot-uncounted slots (Some (element head children)) = refl

caret-uncounted : (place : List ℕ) (base : ℕ) (nodes : List ViewNode) → caret_among place (uncounted nodes) base ≡ caret_among place nodes base
caret-uncounted [] base nodes = refl
caret-uncounted (index ∷ rest) base nodes = ap (λ n. if nat_le index n then (base + index) ∷ rest else []) (length-uncounted nodes)

seen-uncounted : (caret : Option (List ℕ)) (place : List ℕ) (base : ℕ) (nodes : List ViewNode) (offset : ℕ)
    → seen_at caret place base (uncounted nodes) offset ≡ seen_at caret place base nodes offset
seen-uncounted caret place base nodes offset =
    λ i. if is_here (below_index offset caret) then caret-uncounted place base nodes i else row-seen (uncounted nodes) nodes offset base (same-content nodes) i

-- ---- in a slot

step-uncounted : (further : List ViewNode → Option (List ViewNode))
    → ((nodes : List ViewNode) → further (uncounted nodes) ≡ option_map uncounted (further nodes)) → (node : Option ViewNode)
    → option_and_then (λ node. option_and_then further (children_of node)) (option_map uncounted_node node)
    ≡ option_map uncounted (option_and_then (λ node. option_and_then further (children_of node)) node)
step-uncounted further blind None = refl
step-uncounted further blind (Some (text scalars)) = refl
step-uncounted further blind (Some (element head children)) = ap further (list_of-uncounted children) ∙ blind (list_of children)

pub inside-uncounted : (way : List ℕ) (behind : ℕ) (nodes : List ViewNode) → inside way behind (uncounted nodes)
    ≡ option_map uncounted (inside way behind nodes)
inside-uncounted [] behind nodes = refl
inside-uncounted (base ∷ []) behind nodes = ap Some (content-uncounted base behind nodes)
inside-uncounted (step ∷ next ∷ way) behind nodes =
    ap (option_and_then (λ node. option_and_then (inside (next ∷ way) behind) (children_of node))) (get-uncounted nodes step)
    ∙ step-uncounted (inside (next ∷ way) behind) (inside-uncounted (next ∷ way) behind) (slice_get nodes step)

module _ (further : ℕ → List ViewNode → List ℕ) (blind : (first : ℕ) (nodes : List ViewNode) → further first (uncounted nodes) ≡ further first nodes)
    (outside place : List ℕ) where
  content-blind : (way : List ℕ) (inner : Option (List ViewNode)) → in_content further outside place way (option_map uncounted inner)
      ≡ in_content further outside place way inner
  content-blind way None = refl
  content-blind way (Some inner) = ap (λ rest. place ++ (parent_of way ++ rest)) (blind (offset_of way) inner)

  item-blind : (children : List ViewNode) (slot : Option Slot) → in_item further outside place (uncounted children) slot
      ≡ in_item further outside place children slot
  item-blind children None = refl
  item-blind children (Some slot) =
      ap (in_content further outside place slot.place) (inside-uncounted slot.place slot.behind children)
      ∙ content-blind slot.place (inside slot.place slot.behind children)

-- a position is shown at the same place, whatever the counts
pub shown-uncounted : (slots : Slots) (caret : Option (List ℕ)) (place : List ℕ) (base : ℕ) (nodes : List ViewNode) (position : List ℕ)
    → shown_at slots caret place base (uncounted nodes) position ≡ shown_at slots caret place base nodes position
shown-uncounted slots caret place base nodes [] = refl
shown-uncounted slots caret place base nodes (offset ∷ []) = seen-uncounted caret place base nodes offset
shown-uncounted slots caret place base nodes (index ∷ next ∷ rest) =
    let item = item_among (nodes_of nodes) index in
    (λ i. in_item (λ first inner. shown_at slots (below_index index caret) place first inner (next ∷ rest)) (seen-uncounted caret place base nodes index i)
    (row-place 0 (uncounted nodes) nodes index base (same-content nodes) i) ((ap children_at (item-uncounted nodes index) ∙ children-uncounted item) i)
    ((ap (slot_at slots) (item-uncounted nodes index) ∙ slot-uncounted slots item) i))
    ∙ item-blind (λ first inner. shown_at slots (below_index index caret) place first inner (next ∷ rest))
    (λ first inner. shown-uncounted slots (below_index index caret) place first inner (next ∷ rest))
    (seen_at caret place base nodes index) (place_among 0 (nodes_of nodes) index base) (children_at item) (slot_at slots item)
