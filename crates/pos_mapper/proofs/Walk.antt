-- A walk through the nodes of a content reads what a place means there.
use Rattle.std.proofs.Common.{◌≡◌, ℕ, zero, suc, ◌+◌, ◌^◌, ◌<◌, ◌≤◌, List, [], ◌∷◌, ◌++◌, length, take, true, false, Option, Some, None, option_and_then, refl}
use Rattle.std.proofs.Common.{sym, ap, ◌∙◌, arith}
use Rattle.std.proofs.lemmas.Bool.Decides.{nat_tests}
use Rattle.std.specs.Prelude.{slice_get, if◌then◌else◌, nat_le}
use Rattle.view_definitions.specs.Node.{Kind, container, attribute, empty, ui, ViewNode, ViewNodes, text, element, none, more, list_of}
use Rattle.downcast_definitions.specs.Meant as meant
use Rattle.downcast_definitions.specs.Meant.{length_by_kind, model_length, inner_length, Inners, by_kind, in_item, meant_in, meant_in_node}
use Rattle.pos_mapper.specs.Reading.{Slots, lengths, in_position, only_number, between_nodes, in_text, in_slot, in_node, in_nodes, read, reads}

fits : (n : ℕ) → n < 2 ^ 32 → in_position n ≡ Some n
fits n h = grind (arith, nat_tests)

is_within : (x y : ℕ) → nat_le x y ≡ true → x ≤ y
is_within x y t = grind (arith, nat_tests)

both_later : (x y : ℕ) → nat_le (suc x) (suc y) ≡ nat_le x y
both_later x y = grind (arith, nat_tests)

none_later : (x : ℕ) → nat_le (suc x) 0 ≡ false
none_later x = grind (arith, nat_tests)

from_first : (y : ℕ) → nat_le 0 y ≡ true
from_first y = grind (arith, nat_tests)

-- what is read inside an element of each kind
abbrev pub ByKind : Kind → Type 0 → Type 0 → Type 0
ByKind container Around Inside = Inside
ByKind (attribute priority id) Around Inside = Around
ByKind empty Around Inside = Inside
ByKind ui Around Inside = Unit {0}

-- in a list of nodes, behind so many levels, with these meanings of places in items
module _ (slots : Slots) (inners : Inners) (depth : ℕ) where
  -- places in a view element are read as those in the item
  abbrev pub IsRead : ℕ → List ViewNode → Option ℕ → Type 0
  IsRead offset children number =
      (path : List ℕ) (last : ℕ) → in_slot (reads slots path last) depth offset children (option_and_then slots number)
      ≡ in_item inners offset (path ++ last ∷ [])

  abbrev mutual
    -- nodes with numbers and nodes without them, before which so many items are shown
    pub MatchNode : ℕ → ViewNode → ViewNode → Type 0
    MatchNode offset (text scalars) (text others) = scalars ≡ others
    MatchNode offset (text scalars) (element other inner) = ⊥
    MatchNode offset (element head children) (text others) = ⊥
    MatchNode offset (element head children) (element other inner) =
        (head.kind ≡ other.kind) × ByKind other.kind (Match offset children inner) (IsRead offset (list_of children) head.number)

    pub Match : ℕ → ViewNodes → ViewNodes → Type 0
    Match offset none none = Unit {0}
    Match offset none (more other others) = ⊥
    Match offset (more node nodes) none = ⊥
    Match offset (more node nodes) (more other others) = MatchNode offset node other × Match (offset + model_length other) nodes others

  kind-length : (offset : ℕ) (kind : Kind) (children inner : ViewNodes) (Inside : Type 0)
      → (Match offset children inner → inner_length children ≡ inner_length inner)
      → ByKind kind (Match offset children inner) Inside → length_by_kind kind (inner_length children) ≡ length_by_kind kind (inner_length inner)
  kind-length offset container children inner Inside ih m = refl
  kind-length offset (attribute priority id) children inner Inside ih m = ih m
  kind-length offset empty children inner Inside ih m = refl
  kind-length offset ui children inner Inside ih m = refl

  mutual
    -- they show as many items
    node-length : (offset : ℕ) (node other : ViewNode) → MatchNode offset node other → model_length node ≡ model_length other
    node-length offset (text scalars) (text others) m = ap length m
    node-length offset (text scalars) (element other inner) m = absurd m
    node-length offset (element head children) (text others) m = absurd m
    node-length offset (element head children) (element other inner) m =
        ap (λ kind. length_by_kind kind (inner_length children)) m.0
        ∙ kind-length offset other.kind children inner (IsRead offset (list_of children) head.number) (match-length offset children inner) m.1

    pub match-length : (offset : ℕ) (nodes others : ViewNodes) → Match offset nodes others → inner_length nodes ≡ inner_length others
    match-length offset none none m = refl
    match-length offset none (more other others) m = absurd m
    match-length offset (more node nodes) none m = absurd m
    match-length offset (more node nodes) (more other others) m =
        λ i. node-length offset node other m.0 i + match-length (offset + model_length other) nodes others m.1 i

  -- ---- a place between nodes

  first-between : (offset : ℕ) (nodes : List ViewNode) → offset < 2 ^ 32 → between_nodes offset nodes 0 ≡ Some (offset ∷ [])
  first-between offset nodes b =
      ap (λ t. if t then only_number (in_position (offset + 0)) else None) (from_first (length nodes))
      ∙ ap only_number (fits (offset + 0) (omega (arith, b)) ∙ ap Some (omega arith))

  between-later : (offset count : ℕ) (node : ViewNode) (nodes : List ViewNode) (index : ℕ) → model_length node ≡ count
      → between_nodes offset (node ∷ nodes) (suc index) ≡ between_nodes (offset + count) nodes index
  between-later offset count node nodes index e =
      let sums : offset + (model_length node + lengths (take index nodes)) ≡ offset + count + lengths (take index nodes) = omega (arith, e) in
      λ i. if both_later index (length nodes) i then only_number (in_position (sums i)) else None

  between : (offset : ℕ) (nodes others : ViewNodes) (index : ℕ) → Match offset nodes others → offset + inner_length others < 2 ^ 32
      → between_nodes offset (list_of nodes) index ≡ meant_in inners offset others (index ∷ [])
  between offset none none zero m b = first-between offset [] (omega (arith, b))
  between offset none none (suc index) m b = ap (λ t. if t then only_number (in_position (offset + 0)) else None) (none_later index)
  between offset none (more other others) index m b = absurd m
  between offset (more node nodes) none index m b = absurd m
  between offset (more node nodes) (more other others) zero m b = first-between offset (list_of (more node nodes)) (omega (arith, b))
  between offset (more node nodes) (more other others) (suc index) m b =
      between-later offset (model_length other) node (list_of nodes) index (node-length offset node other m.0)
      ∙ between (offset + model_length other) nodes others index m.1 (omega (arith, b))

  -- ---- a place in a text

  in_one_text : (offset scalars : ℕ) (path : List ℕ) (last : ℕ) → offset + scalars < 2 ^ 32 → in_text offset scalars path last
      ≡ meant.in_text offset scalars (path ++ last ∷ [])
  in_one_text offset scalars [] last b =
      elim (nat_le last scalars) as (λ t. nat_le last scalars ≡ t → (if t then only_number (in_position (offset + last)) else None)
      ≡ (if t then Some ((offset + last) ∷ []) else None)) [
        | true ↦ λ t. (let w : last ≤ scalars = is_within last scalars t in ap only_number (fits (offset + last) (omega (arith, b, w))))
        | false ↦ λ t. refl
      ] refl
  in_one_text offset scalars (index ∷ []) last b = refl
  in_one_text offset scalars (index ∷ next ∷ path) last b = refl

  -- ---- a place in a node

  -- what is read of a rest of a place in each list
  abbrev Reads : List ℕ → ℕ → Type 0
  Reads path last =
      (offset : ℕ) (nodes others : ViewNodes) → Match offset nodes others → offset + inner_length others < 2 ^ 32
      → read slots depth [] 0 offset (list_of nodes) path last ≡ meant_in inners offset others (path ++ last ∷ [])

  by-kind : (path : List ℕ) (last offset : ℕ) (kind : Kind) (children inner : ViewNodes) (number : Option ℕ) → Reads path last
      → ByKind kind (Match offset children inner) (IsRead offset (list_of children) number) → offset + length_by_kind kind (inner_length inner) < 2 ^ 32
      → by_kind kind (read slots depth [] 0 offset (list_of children) path last)
      (in_slot (reads slots path last) depth offset (list_of children) (option_and_then slots number))
      ≡ by_kind kind (meant_in inners offset inner (path ++ last ∷ [])) (in_item inners offset (path ++ last ∷ []))
  by-kind path last offset container children inner number ih m b = m path last
  by-kind path last offset (attribute priority id) children inner number ih m b = ih offset children inner m b
  by-kind path last offset empty children inner number ih m b = m path last
  by-kind path last offset ui children inner number ih m b = refl

  in_one : (path : List ℕ) (last offset : ℕ) (node other : ViewNode) → Reads path last → MatchNode offset node other → offset + model_length other < 2 ^ 32
      → in_node slots (reads slots path last) depth path last offset node ≡ meant_in_node inners offset other (path ++ last ∷ [])
  in_one path last offset (text scalars) (text others) ih m b =
      ap (λ list. in_text offset (length list) path last) m ∙ in_one_text offset (length others) path last b
  in_one path last offset (text scalars) (element other inner) ih m b = absurd m
  in_one path last offset (element head children) (text others) ih m b = absurd m
  in_one path last offset (element head children) (element other inner) ih m b =
      ap (λ kind. by_kind kind (read slots depth [] 0 offset (list_of children) path last)
      (in_slot (reads slots path last) depth offset (list_of children) (option_and_then slots head.number))) m.0
      ∙ by-kind path last offset other.kind children inner head.number ih m.1 b

  -- ---- a place among nodes

  first-meant : (offset : ℕ) (node : ViewNode) (nodes : ViewNodes) (path : List ℕ) (last : ℕ)
      → meant_in inners offset (more node nodes) (zero ∷ (path ++ last ∷ [])) ≡ meant_in_node inners offset node (path ++ last ∷ [])
  first-meant offset node nodes [] last = refl
  first-meant offset node nodes (index ∷ path) last = refl

  none-meant : (offset index : ℕ) (path : List ℕ) (last : ℕ) → meant_in inners offset none (index ∷ (path ++ last ∷ [])) ≡ None
  none-meant offset zero [] last = refl
  none-meant offset zero (index ∷ path) last = refl
  none-meant offset (suc index) path last = refl

  nodes-later : (path : List ℕ) (last offset count : ℕ) (node : ViewNode) (nodes : List ViewNode) (index : ℕ) → model_length node ≡ count
      → in_nodes slots (reads slots path last) depth path last offset (node ∷ nodes) (suc index)
      ≡ in_nodes slots (reads slots path last) depth path last (offset + count) nodes index
  nodes-later path last offset count node nodes index e =
      ap (λ n. option_and_then (λ node. option_and_then (λ before. in_node slots (reads slots path last) depth path last before node) (in_position n))
      (slice_get nodes index)) (omega (arith, e))

  among : (path : List ℕ) (last offset : ℕ) (nodes others : ViewNodes) (index : ℕ) → Reads path last → Match offset nodes others
      → offset + inner_length others < 2 ^ 32
      → in_nodes slots (reads slots path last) depth path last offset (list_of nodes) index ≡ meant_in inners offset others (index ∷ (path ++ last ∷ []))
  among path last offset none none index ih m b = sym (none-meant offset index path last)
  among path last offset none (more other others) index ih m b = absurd m
  among path last offset (more node nodes) none index ih m b = absurd m
  among path last offset (more node nodes) (more other others) zero ih m b =
      ap (option_and_then (λ before. in_node slots (reads slots path last) depth path last before node)) (fits (offset + 0) (omega (arith, b))
      ∙ ap Some (omega arith))
      ∙ in_one path last offset node other ih m.0 (omega (arith, b))
      ∙ sym (first-meant offset other others path last)
  among path last offset (more node nodes) (more other others) (suc index) ih m b =
      nodes-later path last offset (model_length other) node (list_of nodes) index (node-length offset node other m.0)
      ∙ among path last (offset + model_length other) nodes others index ih m.1 (omega (arith, b))

  -- what a place means in nodes with numbers is what it means in the same without them
  pub walk : (path : List ℕ) (last : ℕ) → Reads path last
  walk [] last offset nodes others m b = between offset nodes others last m b
  walk (index ∷ path) last offset nodes others m b = among path last offset nodes others index (walk path last) m b
