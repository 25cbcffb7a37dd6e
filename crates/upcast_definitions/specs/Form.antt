-- The tree of a view that is read into the model. (After the view documents that `DataController.toModel()` of CKEditor 5 takes.)
use Rattle.std.specs.Prelude.{ℕ, ◌+◌, max, List, [], ◌∷◌}
use Rattle.view_definitions.specs.Node.{ViewAttributes}

mutual
  -- a text by its Unicode scalar values, or an element by its name, its attributes and its children
  pub data Form : Type 0 where
    text : List ℕ → Form
    element : List ℕ → ViewAttributes → Forms → Form

  -- the children of an element
  pub data Forms : Type 0 where
    none : Forms
    more : Form → Forms → Forms

-- the children as a list
abbrev pub list_of : Forms → List Form
list_of none = []
list_of (more form forms) = form ∷ list_of forms

-- a list as children
abbrev pub forms_of : List Form → Forms
forms_of [] = none
forms_of (form ∷ forms) = more form (forms_of forms)

abbrev mutual
  -- how many levels of nodes there are from a node down
  pub form_depth : Form → ℕ
  form_depth (text scalars) = 1
  form_depth (element name attributes children) = 1 + inner_depth children

  -- how many levels of nodes there are among these
  pub inner_depth : Forms → ℕ
  inner_depth none = 0
  inner_depth (more form forms) = max (form_depth form) (inner_depth forms)

-- the depth of the deepest node of a list, 0 for the empty list
abbrev pub depth_of : List Form → ℕ
depth_of [] = 0
depth_of (form ∷ forms) = max (form_depth form) (depth_of forms)
