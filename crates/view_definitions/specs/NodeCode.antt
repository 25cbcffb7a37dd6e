-- A code for nodes and lists of nodes, by which proofs tell them apart: a text as a token, an element as its head, its children and an end.
use Rattle.std.specs.Prelude.{◌≡◌, ℕ, ℤ, Bool, true, false, ◌⊎◌, List, [], ◌∷◌, Option, Some, None, refl}
use Rattle.std.proofs.Common.{inl, inr, ap, ◌∙◌}
use Rattle.std.specs.Coded.{Coded, code_by, coded_ℕ, coded_ℤ, coded_bool, coded_list, coded_option, coded×, coded⊎}
use Rattle.view_definitions.specs.Node.{ViewAttributes, Kind, container, attribute, empty, ui, Head, ViewNode, ViewNodes, text, element, none, more, list_of}
use Rattle.view_definitions.specs.Node.{nodes_of}

abbrev KindParts : Type 0
KindParts = Option Bool ⊎ (ℤ × Option (List ℕ))

abbrev kind_parts : Kind → KindParts
kind_parts container = inl None
kind_parts (attribute priority id) = inr (priority, id)
kind_parts empty = inl (Some true)
kind_parts ui = inl (Some false)

abbrev kind_from : KindParts → Kind
kind_from (inl None) = container
kind_from (inl (Some true)) = empty
kind_from (inl (Some false)) = ui
kind_from (inr parts) = attribute parts.0 parts.1

-- a kind is read back from its parts
pub kind_back : (kind : Kind) → kind_from (kind_parts kind) ≡ kind
kind_back container = refl
kind_back (attribute priority id) = refl
kind_back empty = refl
kind_back ui = refl

-- a code for kinds
abbrev pub coded_kind : Coded Kind
coded_kind = code_by KindParts (coded⊎ (coded_option coded_bool) (coded× coded_ℤ (coded_option (coded_list coded_ℕ)))) kind_parts kind_from kind_back

abbrev HeadParts : Type 0
HeadParts = Kind × (List ℕ × (ViewAttributes × (Option ℕ × ℕ)))

abbrev head_parts : Head → HeadParts
head_parts head = (head.kind, (head.name, (head.attributes, (head.number, head.changes))))

abbrev head_from : HeadParts → Head
head_from parts = record { kind = parts.0; name = parts.1.0; attributes = parts.1.1.0; number = parts.1.1.1.0; changes = parts.1.1.1.1 }

-- a code for heads
abbrev pub coded_head : Coded Head
coded_head =
    code_by HeadParts (coded× coded_kind
    (coded× (coded_list coded_ℕ) (coded× (coded_list (coded× (coded_list coded_ℕ) (coded_list coded_ℕ))) (coded× (coded_option coded_ℕ) coded_ℕ))))
    head_parts head_from (λ _. refl)

-- a text, the head of an element, or the end of one
abbrev Token : Type 0
Token = List ℕ ⊎ (Head ⊎ ℕ)

abbrev mutual
  node_tokens : ViewNode → List Token → List Token
  node_tokens (text scalars) rest = inl scalars ∷ rest
  node_tokens (element head children) rest = inr (inl head) ∷ inner_tokens children (inr (inr 0) ∷ rest)

  inner_tokens : ViewNodes → List Token → List Token
  inner_tokens none rest = rest
  inner_tokens (more node nodes) rest = node_tokens node (inner_tokens nodes rest)

abbrev closed : (ViewNodes → ViewNode) → ViewNodes → List ViewNodes → ViewNodes × List ViewNodes
closed make children [] = (more (make children) none, [])
closed make children (next ∷ open_lists) = (more (make children) next, open_lists)

-- the nodes that a row of tokens begins with, and those of the lists that are open there
abbrev read : List Token → ViewNodes × List ViewNodes
read [] = (none, [])
read (inl scalars ∷ rest) = (more (text scalars) (read rest).0, (read rest).1)
read (inr (inl head) ∷ rest) = closed (element head) (read rest).0 (read rest).1
read (inr (inr end) ∷ rest) = (none, (read rest).0 ∷ (read rest).1)

abbrev joined : ViewNodes → ViewNodes → ViewNodes
joined none nodes = nodes
joined (more node front) nodes = more node (joined front nodes)

joined-none : (nodes : ViewNodes) → joined nodes none ≡ nodes
joined-none none = refl
joined-none (more node nodes) = ap (more node) (joined-none nodes)

mutual
  read-node : (node : ViewNode) (rest : List Token) → read (node_tokens node rest) ≡ (more node (read rest).0, (read rest).1)
  read-node (text scalars) rest = refl
  read-node (element head children) rest =
      ap (λ (r : ViewNodes × List ViewNodes). closed (element head) r.0 r.1) (read-inner children (inr (inr 0) ∷ rest))
      ∙ ap (λ kids. (more (element head kids) (read rest).0, (read rest).1)) (joined-none children)

  read-inner : (nodes : ViewNodes) (rest : List Token) → read (inner_tokens nodes rest) ≡ (joined nodes (read rest).0, (read rest).1)
  read-inner none rest = refl
  read-inner (more node nodes) rest =
      read-node node (inner_tokens nodes rest) ∙ ap (λ (r : ViewNodes × List ViewNodes). (more node r.0, r.1)) (read-inner nodes rest)

-- a list of nodes, as the children of an element and back, is itself
pub list_of-nodes_of : (nodes : List ViewNode) → list_of (nodes_of nodes) ≡ nodes
list_of-nodes_of [] = refl
list_of-nodes_of (node ∷ nodes) = ap (λ rest. node ∷ rest) (list_of-nodes_of nodes)

-- a list of nodes is read back from its tokens
pub nodes_back : (nodes : List ViewNode) → list_of (read (inner_tokens (nodes_of nodes) [])).0 ≡ nodes
nodes_back nodes =
    ap (λ (r : ViewNodes × List ViewNodes). list_of r.0) (read-inner (nodes_of nodes) []) ∙ ap list_of (joined-none (nodes_of nodes)) ∙ list_of-nodes_of nodes

abbrev coded_tokens : Coded (List Token)
coded_tokens = coded_list (coded⊎ (coded_list coded_ℕ) (coded⊎ coded_head coded_ℕ))

-- a code for lists of nodes
abbrev pub coded_nodes : Coded (List ViewNode)
coded_nodes = code_by (List Token) coded_tokens (λ nodes. inner_tokens (nodes_of nodes) []) (λ tokens. list_of (read tokens).0) nodes_back

-- the first of a list of nodes
abbrev first_of : ViewNodes → ViewNode
first_of none = text []
first_of (more node nodes) = node

-- a node is read back from its tokens
pub node_back : (node : ViewNode) → first_of (read (node_tokens node [])).0 ≡ node
node_back node = ap (λ (r : ViewNodes × List ViewNodes). first_of r.0) (read-node node [])

-- a code for nodes
abbrev pub coded_node : Coded ViewNode
coded_node = code_by (List Token) coded_tokens (λ node. node_tokens node []) (λ tokens. first_of (read tokens).0) node_back
