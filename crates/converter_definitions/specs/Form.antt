-- The tree of a shape: what an element of the model becomes. Its slot is where the element's own content goes. What an element of the
-- view has as attributes is open here: texts in a shape, patterns of texts in the settings.
use Rattle.std.specs.Prelude.{ℕ, ◌+◌, max, List, [], ◌∷◌}
use Rattle.converter_definitions.specs.declared.kind.ShapeKind.{ShapeKind}

mutual
  -- the slot, a text by its Unicode scalar values, or an element
  pub data Form (A : Type 0) : Type 0 where
    slot : Form A
    text : List ℕ → Form A
    element : ShapeKind → List ℕ → A → Forms A → Form A

  -- the children of an element
  pub data Forms (A : Type 0) : Type 0 where
    none : Forms A
    more : Form A → Forms A → Forms A

-- the children as a list
abbrev pub list_of : {A : Type 0} → Forms A → List (Form A)
list_of none = []
list_of (more form forms) = form ∷ list_of forms

-- a list as children
abbrev pub forms_of : {A : Type 0} → List (Form A) → Forms A
forms_of [] = none
forms_of (form ∷ forms) = more form (forms_of forms)

abbrev mutual
  -- how many levels of nodes there are from a node down
  pub form_depth : {A : Type 0} → Form A → ℕ
  form_depth slot = 1
  form_depth (text scalars) = 1
  form_depth (element kind name attributes children) = 1 + inner_depth children

  -- how many levels of nodes there are among these
  pub inner_depth : {A : Type 0} → Forms A → ℕ
  inner_depth none = 0
  inner_depth (more form forms) = max (form_depth form) (inner_depth forms)

-- the depth of the deepest node of a list, 0 for the empty list
abbrev pub depth_of : {A : Type 0} → List (Form A) → ℕ
depth_of [] = 0
depth_of (form ∷ forms) = max (form_depth form) (depth_of forms)
