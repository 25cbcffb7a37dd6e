-- The depth of nodes as the children of an element.
use Rattle.std.specs.Prelude.{◌≡◌, max, List, [], ◌∷◌}
use Rattle.std.proofs.Common.{refl, ap}
use Rattle.upcast_definitions.specs.Form.{Form, forms_of, form_depth, inner_depth, depth_of}

-- as the children of an element nodes have the depth that they have in a list
pub inner_depth-forms_of : (forms : List Form) → inner_depth (forms_of forms) ≡ depth_of forms
inner_depth-forms_of [] = refl
inner_depth-forms_of (form ∷ forms) = ap (max (form_depth form)) (inner_depth-forms_of forms)
