-- What a shape may be made of.
use Rattle.std.specs.Prelude.{ℕ, ◌+◌, nat_le, List, [], ◌∷◌, Bool, true, false, ◌&&◌, Option, Some, None, option_map}
use Rattle.std.specs.Option.{option_or}
use Rattle.converter_definitions.specs.declared.kind.ShapeKind.{ShapeKind}
use Rattle.converter_definitions.specs.declared.kind.ShapeKind.TheVariants.{Container, Empty, Ui}
use Rattle.converter_definitions.specs.Form.{Form, Forms, slot, text, element, none, more, form_depth}

-- whether an element of the kind may be a child: in a container each may, in a UI element another UI element alone, and in an empty element none
abbrev pub may_hold : ShapeKind → ShapeKind → Bool
may_hold Container kind = true
may_hold Empty kind = false
may_hold Ui Container = false
may_hold Ui Empty = false
may_hold Ui Ui = true

-- whether an element of the kind may have a slot in it
abbrev pub may_hold_slot : ShapeKind → Bool
may_hold_slot Container = true
may_hold_slot Empty = false
may_hold_slot Ui = false

-- whether an element of the kind may have a text in it
abbrev pub may_hold_text : ShapeKind → Bool
may_hold_text Container = false
may_hold_text Empty = false
may_hold_text Ui = true

-- whether a node may stand in an element of the kind: a slot in a container, and a text in a UI element
abbrev pub may_stand : {A : Type 0} → ShapeKind → Form A → Bool
may_stand parent slot = may_hold_slot parent
may_stand parent (text scalars) = may_hold_text parent
may_stand parent (element kind name attributes children) = may_hold parent kind

abbrev mutual
  -- whether each node in a node stands where it may
  pub fits : {A : Type 0} → Form A → Bool
  fits slot = true
  fits (text scalars) = true
  fits (element kind name attributes children) = fit_in kind children

  -- each of these nodes may stand in an element of the kind, and what is in them where it stands
  pub fit_in : {A : Type 0} → ShapeKind → Forms A → Bool
  fit_in kind none = true
  fit_in kind (more form forms) = may_stand kind form && fits form && fit_in kind forms

abbrev mutual
  -- how many nodes there are
  pub form_count : {A : Type 0} → Form A → ℕ
  form_count slot = 1
  form_count (text scalars) = 1
  form_count (element kind name attributes children) = 1 + inner_count children

  -- how many nodes there are among these and in them
  pub inner_count : {A : Type 0} → Forms A → ℕ
  inner_count none = 0
  inner_count (more form forms) = form_count form + inner_count forms

abbrev mutual
  -- how many slots there are
  pub slot_count : {A : Type 0} → Form A → ℕ
  slot_count slot = 1
  slot_count (text scalars) = 0
  slot_count (element kind name attributes children) = inner_slots children

  -- how many slots there are among these and in them
  pub inner_slots : {A : Type 0} → Forms A → ℕ
  inner_slots none = 0
  inner_slots (more form forms) = slot_count form + inner_slots forms

-- a container or an empty element
abbrev pub is_outermost : {A : Type 0} → Form A → Bool
is_outermost slot = false
is_outermost (text scalars) = false
is_outermost (element Container name attributes children) = true
is_outermost (element Empty name attributes children) = true
is_outermost (element Ui name attributes children) = false

-- A shape: a container or an empty element, of at most 32 nodes on at most 8 levels, with at most one slot, each node where it may stand
abbrev pub is_shape : {A : Type 0} → Form A → Bool
is_shape form = is_outermost form && fits form && nat_le (slot_count form) 1 && nat_le (form_count form) 32 && nat_le (form_depth form) 8

abbrev mutual
  -- Where the slot is: the indices of children that lead to it, the last among the children of the element that holds it. None where there
  -- is no slot
  pub slot_in : {A : Type 0} → Form A → Option (List ℕ)
  slot_in slot = Some []
  slot_in (text scalars) = None
  slot_in (element kind name attributes children) = slot_among 0 children

  -- the way to the slot among nodes, the first of which has this index
  pub slot_among : {A : Type 0} → ℕ → Forms A → Option (List ℕ)
  slot_among index none = None
  slot_among index (more form forms) = option_or (option_map (λ place. index ∷ place) (slot_in form)) (slot_among (index + 1) forms)

abbrev mutual
  -- the same tree with this made of the attributes of each element
  pub form_with : {A B : Type 0} → (A → B) → Form A → Form B
  form_with change slot = slot
  form_with change (text scalars) = text scalars
  form_with change (element kind name attributes children) = element kind name (change attributes) (forms_with change children)

  -- each of these so
  pub forms_with : {A B : Type 0} → (A → B) → Forms A → Forms B
  forms_with change none = none
  forms_with change (more form forms) = more (form_with change form) (forms_with change forms)

-- the same tree with this made of the attributes of the outermost element alone
abbrev pub with_outer : {A : Type 0} → (A → A) → Form A → Form A
with_outer change slot = slot
with_outer change (text scalars) = text scalars
with_outer change (element kind name attributes children) = element kind name (change attributes) children
