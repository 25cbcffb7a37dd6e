-- A shape stays a shape where its attributes change.
use Rattle.std.specs.Prelude.{◌≡◌, ◌+◌, nat_le, max, List, [], ◌∷◌, map, ◌&&◌}
use Rattle.std.proofs.Common.{refl, ap}
use Rattle.converter_definitions.specs.declared.kind.ShapeKind.{ShapeKind}
use Rattle.converter_definitions.specs.declared.kind.ShapeKind.TheVariants.{Container, Empty, Ui}
use Rattle.converter_definitions.specs.Form.{Form, Forms, slot, text, element, none, more, forms_of, form_depth, inner_depth}
use Rattle.converter_definitions.specs.Shape.{is_shape, is_outermost, may_stand, fits, fit_in, form_count, inner_count, slot_count, inner_slots, form_with}
use Rattle.converter_definitions.specs.Shape.{forms_with, with_outer}

module _ {A B : Type 0} (change : A → B) where
  same_stand : (kind : ShapeKind) (form : Form A) → may_stand kind (form_with change form) ≡ may_stand kind form
  same_stand kind slot = refl
  same_stand kind (text scalars) = refl
  same_stand kind (element inner name attributes children) = refl

  same_outermost : (form : Form A) → is_outermost (form_with change form) ≡ is_outermost form
  same_outermost slot = refl
  same_outermost (text scalars) = refl
  same_outermost (element Container name attributes children) = refl
  same_outermost (element Empty name attributes children) = refl
  same_outermost (element Ui name attributes children) = refl

  mutual
    same_fits : (form : Form A) → fits (form_with change form) ≡ fits form
    same_fits slot = refl
    same_fits (text scalars) = refl
    same_fits (element kind name attributes children) = same_fit_in kind children

    same_fit_in : (kind : ShapeKind) (forms : Forms A) → fit_in kind (forms_with change forms) ≡ fit_in kind forms
    same_fit_in kind none = refl
    same_fit_in kind (more form forms) = λ t. same_stand kind form t && same_fits form t && same_fit_in kind forms t

  mutual
    same_count : (form : Form A) → form_count (form_with change form) ≡ form_count form
    same_count slot = refl
    same_count (text scalars) = refl
    same_count (element kind name attributes children) = λ t. 1 + same_inner_count children t

    same_inner_count : (forms : Forms A) → inner_count (forms_with change forms) ≡ inner_count forms
    same_inner_count none = refl
    same_inner_count (more form forms) = λ t. same_count form t + same_inner_count forms t

  mutual
    same_slots : (form : Form A) → slot_count (form_with change form) ≡ slot_count form
    same_slots slot = refl
    same_slots (text scalars) = refl
    same_slots (element kind name attributes children) = same_inner_slots children

    same_inner_slots : (forms : Forms A) → inner_slots (forms_with change forms) ≡ inner_slots forms
    same_inner_slots none = refl
    same_inner_slots (more form forms) = λ t. same_slots form t + same_inner_slots forms t

  mutual
    same_depth : (form : Form A) → form_depth (form_with change form) ≡ form_depth form
    same_depth slot = refl
    same_depth (text scalars) = refl
    same_depth (element kind name attributes children) = λ t. 1 + same_inner_depth children t

    same_inner_depth : (forms : Forms A) → inner_depth (forms_with change forms) ≡ inner_depth forms
    same_inner_depth none = refl
    same_inner_depth (more form forms) = λ t. max (same_depth form t) (same_inner_depth forms t)

  pub forms_mapped : (forms : List (Form A)) → forms_of (map (form_with change) forms) ≡ forms_with change (forms_of forms)
  forms_mapped [] = refl
  forms_mapped (form ∷ forms) = ap (more (form_with change form)) (forms_mapped forms)

  pub shape_filled : (form : Form A) → is_shape (form_with change form) ≡ is_shape form
  shape_filled form =
      λ t. same_outermost form t && same_fits form t && nat_le (same_slots form t) 1 && nat_le (same_count form t) 32 && nat_le (same_depth form t) 8

pub shape_outer : {A : Type 0} → (change : A → A) (form : Form A) → is_shape (with_outer change form) ≡ is_shape form
shape_outer change slot = refl
shape_outer change (text scalars) = refl
shape_outer change (element Container name attributes children) = refl
shape_outer change (element Empty name attributes children) = refl
shape_outer change (element Ui name attributes children) = refl
