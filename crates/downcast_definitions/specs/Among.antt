-- Where the items of a parent stand among the nodes of its content, and where a boundary between two of them is seen, read from the nodes. Items
-- are counted by their model lengths. (After `getModelLength` and `findPositionIn` of CKEditor 5's `Mapper`.)
use Rattle.std.specs.Prelude.{ℕ, ◌+◌, ◌-◌, zero, suc, nat_lt, List, [], ◌∷◌, Bool, true, false, Option, Some, None, if◌then◌else◌}
use Rattle.view_definitions.specs.Node.{Kind, container, attribute, empty, ui, ViewNode, ViewNodes, text, element, none, more}
use Rattle.downcast_definitions.specs.Meant.{model_length}

-- in an attribute element, or elsewhere
abbrev pub by_around : {A : Type 0} → Kind → A → A → A
by_around container around elsewhere = elsewhere
by_around (attribute priority id) around elsewhere = around
by_around empty around elsewhere = elsewhere
by_around ui around elsewhere = elsewhere

abbrev mutual
  -- where the item of this number stands in a node: a character in its text, or so many characters further; an element as the node
  pub place_in : ℕ → ViewNode → ℕ → List ℕ
  place_in further (text scalars) number = (number + further) ∷ []
  place_in further (element head children) number = by_around head.kind (place_among further children number 0) []

  -- where the item of this number stands among nodes, the first of which has this index
  pub place_among : ℕ → ViewNodes → ℕ → ℕ → List ℕ
  place_among further none number index = []
  place_among further (more node nodes) number index =
      if nat_lt number (model_length node) then index ∷ place_in further node number
      else place_among further nodes (number - model_length node) (index + 1)

abbrev mutual
  -- the node of the item of this number in a node; a character's is its text
  pub item_in : ViewNode → ℕ → Option ViewNode
  item_in (text scalars) number = Some (text scalars)
  item_in (element head children) number = by_around head.kind (item_among children number) (Some (element head children))

  -- the node of the item of this number among nodes
  pub item_among : ViewNodes → ℕ → Option ViewNode
  item_among none number = None
  item_among (more node nodes) number =
      if nat_lt number (model_length node) then item_in node number else item_among nodes (number - model_length node)

abbrev mutual
  -- between the items before and behind a boundary in a node: in an attribute element that goes on across it
  pub gap_in : ViewNode → ℕ → List ℕ
  gap_in (text scalars) number = []
  gap_in (element head children) zero = []
  gap_in (element head children) (suc number) = by_around head.kind (gap_among children (suc number) 0) []

  -- among nodes, behind all that show no item
  pub gap_among : ViewNodes → ℕ → ℕ → List ℕ
  gap_among none number index = index ∷ []
  gap_among (more node nodes) number index =
      if nat_lt number (model_length node) then index ∷ gap_in node number else gap_among nodes (number - model_length node) (index + 1)

-- whether an item is a character
abbrev pub is_character : Option ViewNode → Bool
is_character None = false
is_character (Some (text scalars)) = true
is_character (Some (element head children)) = false

-- before the character behind a boundary, or between the items there; the first of the nodes has this index
abbrev pub before_item : ViewNodes → ℕ → ℕ → List ℕ
before_item nodes number base = if is_character (item_among nodes number) then place_among 0 nodes number base else gap_among nodes number base

-- where a boundary is seen at which the caret doesn't stand
abbrev pub seen_among : ViewNodes → ℕ → ℕ → List ℕ
seen_among nodes zero base = before_item nodes zero base
seen_among nodes (suc number) base =
    if is_character (item_among nodes number) then place_among 1 nodes number base else before_item nodes (suc number) base
