-- What a place means doesn't hang on the counts of changes.
use Rattle.std.proofs.Common.{◌≡◌, ℕ, zero, suc, ◌+◌, ◌-◌, List, [], ◌∷◌, length, take, drop, Option, Some, None, option_map, option_and_then, refl, ap, ◌∙◌}
use Rattle.std.specs.Prelude.{slice_get, if◌then◌else◌, nat_le, nat_lt, ◌==◌}
use Rattle.view_definitions.specs.Node.{ViewNode, ViewNodes, text, element, none, more, list_of, children_of}
use Rattle.downcast_definitions.specs.Meant.{by_kind, length_by_kind, model_length, inner_length}
use Rattle.pos_mapper.specs.Bindings.{Slot}
use Rattle.view_definitions.specs.Node.{uncounted_node, uncounted_nodes, uncounted}
use Rattle.pos_mapper.specs.Reading.{Slots, Below, lengths, in_position, before_node, only_number, between_nodes, content_of, in_slot, in_node, in_nodes}
use Rattle.pos_mapper.specs.Reading.{at_step, on_way, read}

mutual
  pub node-length : (node : ViewNode) → model_length (uncounted_node node) ≡ model_length node
  node-length (text scalars) = refl
  node-length (element head children) = ap (length_by_kind head.kind) (inner-length children)

  inner-length : (nodes : ViewNodes) → inner_length (uncounted_nodes nodes) ≡ inner_length nodes
  inner-length none = refl
  inner-length (more node nodes) = λ i. node-length node i + inner-length nodes i

pub list_of-uncounted : (nodes : ViewNodes) → list_of (uncounted_nodes nodes) ≡ uncounted (list_of nodes)
list_of-uncounted none = refl
list_of-uncounted (more node nodes) = ap (λ list. uncounted_node node ∷ list) (list_of-uncounted nodes)

lengths-uncounted : (nodes : List ViewNode) → lengths (uncounted nodes) ≡ lengths nodes
lengths-uncounted [] = refl
lengths-uncounted (node ∷ nodes) = λ i. node-length node i + lengths-uncounted nodes i

take-uncounted : (count : ℕ) (nodes : List ViewNode) → take count (uncounted nodes) ≡ uncounted (take count nodes)
take-uncounted zero nodes = refl
take-uncounted (suc count) [] = refl
take-uncounted (suc count) (node ∷ nodes) = ap (λ list. uncounted_node node ∷ list) (take-uncounted count nodes)

drop-uncounted : (count : ℕ) (nodes : List ViewNode) → drop count (uncounted nodes) ≡ uncounted (drop count nodes)
drop-uncounted zero nodes = refl
drop-uncounted (suc count) [] = refl
drop-uncounted (suc count) (node ∷ nodes) = drop-uncounted count nodes

pub length-uncounted : (nodes : List ViewNode) → length (uncounted nodes) ≡ length nodes
length-uncounted [] = refl
length-uncounted (node ∷ nodes) = ap suc (length-uncounted nodes)

pub get-uncounted : (nodes : List ViewNode) (index : ℕ) → slice_get (uncounted nodes) index ≡ option_map uncounted_node (slice_get nodes index)
get-uncounted [] index = refl
get-uncounted (node ∷ nodes) zero = refl
get-uncounted (node ∷ nodes) (suc index) = get-uncounted nodes index

before-uncounted : (offset index : ℕ) (nodes : List ViewNode) → before_node offset index (uncounted nodes) ≡ before_node offset index nodes
before-uncounted offset index nodes = ap (λ n. in_position (offset + n)) (ap lengths (take-uncounted index nodes) ∙ lengths-uncounted (take index nodes))

between-uncounted : (offset : ℕ) (nodes : List ViewNode) (index : ℕ) → between_nodes offset (uncounted nodes) index ≡ between_nodes offset nodes index
between-uncounted offset nodes index =
    λ i. if nat_le index (length-uncounted nodes i) then only_number (before-uncounted offset index nodes i) else None

pub content-uncounted : (base behind : ℕ) (nodes : List ViewNode) → content_of base behind (uncounted nodes) ≡ uncounted (content_of base behind nodes)
content-uncounted base behind nodes =
    (λ i. take (length-uncounted nodes i - base - behind) (drop-uncounted base nodes i)) ∙ take-uncounted (length nodes - base - behind) (drop base nodes)

module _ (slots : Slots) (below : Below) (blind : (depth : ℕ) (way : List ℕ) (behind offset : ℕ) (nodes : List ViewNode)
    → below depth way behind offset (uncounted nodes) ≡ below depth way behind offset nodes)
    (path : List ℕ) (last : ℕ) where
  slot-blind : (depth offset : ℕ) (children : ViewNodes) (slot : Option Slot) → in_slot below depth offset (list_of (uncounted_nodes children)) slot
      ≡ in_slot below depth offset (list_of children) slot
  slot-blind depth offset children None = refl
  slot-blind depth offset children (Some slot) =
      ap (λ inner. if nat_lt depth 64 then option_map (λ position. offset ∷ position) inner else None)
      (ap (below (depth + 1) slot.place slot.behind 0) (list_of-uncounted children) ∙ blind (depth + 1) slot.place slot.behind 0 (list_of children))

  node-blind : (depth offset : ℕ) (node : ViewNode) → in_node slots below depth path last offset (uncounted_node node)
      ≡ in_node slots below depth path last offset node
  node-blind depth offset (text scalars) = refl
  node-blind depth offset (element head children) =
      λ i. by_kind head.kind ((ap (below depth [] 0 offset) (list_of-uncounted children) ∙ blind depth [] 0 offset (list_of children)) i)
      (slot-blind depth offset children (option_and_then slots head.number) i)

  got-blind : (depth : ℕ) (before : Option ℕ) (node : Option ViewNode)
      → option_and_then (λ node. option_and_then (λ offset. in_node slots below depth path last offset node) before) (option_map uncounted_node node)
      ≡ option_and_then (λ node. option_and_then (λ offset. in_node slots below depth path last offset node) before) node
  got-blind depth before None = refl
  got-blind depth None (Some node) = refl
  got-blind depth (Some offset) (Some node) = node-blind depth offset node

  nodes-blind : (depth offset : ℕ) (nodes : List ViewNode) (index : ℕ) → in_nodes slots below depth path last offset (uncounted nodes) index
      ≡ in_nodes slots below depth path last offset nodes index
  nodes-blind depth offset nodes index =
      (λ i. option_and_then (λ node. option_and_then (λ before. in_node slots below depth path last before node)
      (before-uncounted offset index nodes i)) (get-uncounted nodes index i))
      ∙ got-blind depth (before_node offset index nodes) (slice_get nodes index)

step-got : (further : List ViewNode → Option (List ℕ)) → ((nodes : List ViewNode) → further (uncounted nodes) ≡ further nodes) → (node : Option ViewNode)
    → option_and_then (λ node. option_and_then further (children_of node)) (option_map uncounted_node node)
    ≡ option_and_then (λ node. option_and_then further (children_of node)) node
step-got further blind None = refl
step-got further blind (Some (text scalars)) = refl
step-got further blind (Some (element head children)) = ap further (list_of-uncounted children) ∙ blind (list_of children)

step-blind : (further : List ViewNode → Option (List ℕ)) → ((nodes : List ViewNode) → further (uncounted nodes) ≡ further nodes)
    → (step : ℕ) (nodes : List ViewNode) (index : ℕ)
    → at_step step (uncounted nodes) index further ≡ at_step step nodes index further
step-blind further blind step nodes index =
    ap (λ got. if step == index then got else None)
    (ap (option_and_then (λ node. option_and_then further (children_of node))) (get-uncounted nodes index) ∙ step-got further blind (slice_get nodes index))

way-blind : (way : List ℕ) (behind : ℕ) (nodes : List ViewNode) (index : ℕ) (here : List ViewNode → ℕ → Option (List ℕ)) (further : List ℕ
    → List ViewNode → Option (List ℕ))
    → ((nodes : List ViewNode) (index : ℕ) → here (uncounted nodes) index ≡ here nodes index)
    → ((way : List ℕ) (nodes : List ViewNode) → further way (uncounted nodes) ≡ further way nodes)
    → on_way way behind (uncounted nodes) index here further ≡ on_way way behind nodes index here further
way-blind [] behind nodes index here further h f = h nodes index
way-blind (base ∷ []) behind nodes index here further h f =
    ap (λ got. if nat_le base index then got else None)
    (ap (λ list. here list (index - base)) (content-uncounted base behind nodes) ∙ h (content_of base behind nodes) (index - base))
way-blind (step ∷ next ∷ way) behind nodes index here further h f = step-blind (further (next ∷ way)) (f (next ∷ way)) step nodes index

-- a place means the same, whatever the counts
pub read-uncounted : (slots : Slots) (depth : ℕ) (way : List ℕ) (behind offset : ℕ) (nodes : List ViewNode) (path : List ℕ) (last : ℕ)
    → read slots depth way behind offset (uncounted nodes) path last ≡ read slots depth way behind offset nodes path last
read-uncounted slots depth way behind offset nodes [] last =
    way-blind way behind nodes last (between_nodes offset) (λ further inner. None) (between-uncounted offset) (λ further inner. refl)
read-uncounted slots depth way behind offset nodes (index ∷ path) last =
    way-blind way behind nodes index
    (in_nodes slots (λ levels further more start inner. read slots levels further more start inner path last) depth path last offset)
    (λ further inner. read slots depth further behind offset inner path last)
    (nodes-blind slots (λ levels further more start inner. read slots levels further more start inner path last)
    (λ levels further more start inner. read-uncounted slots levels further more start inner path last) path last depth offset)
    (λ further inner. read-uncounted slots depth further behind offset inner path last)
