-- A code for lists of nodes of shapes, by which proofs tell them apart: the slot and a text as tokens, an element as its head, its children
-- and an end.
use Rattle.std.specs.Prelude.{◌≡◌, ℕ, zero, suc, ◌⊎◌, List, [], ◌∷◌, refl}
use Rattle.std.proofs.Common.{inl, inr, ap, ◌∙◌}
use Rattle.std.specs.Coded.{Coded, code_by, coded_ℕ, coded_list, coded×, coded⊎}
use Rattle.converter_definitions.specs.declared.kind.ShapeKind.{ShapeKind}
use Rattle.converter_definitions.specs.declared.kind.ShapeKind.TheVariants.{Container, Empty, Ui}
use Rattle.converter_definitions.specs.Form.{Form, Forms, slot, text, element, none, more, list_of, forms_of}

abbrev kind_number : ShapeKind → ℕ
kind_number Container = 0
kind_number Empty = 1
kind_number Ui = 2

abbrev kind_from : ℕ → ShapeKind
kind_from zero = Container
kind_from (suc zero) = Empty
kind_from (suc (suc number)) = Ui

-- a kind is read back from its number
pub kind_back : (kind : ShapeKind) → kind_from (kind_number kind) ≡ kind
kind_back Container = refl
kind_back Empty = refl
kind_back Ui = refl

abbrev coded_kind : Coded ShapeKind
coded_kind = code_by ℕ coded_ℕ kind_number kind_from kind_back

-- a text, the head of an element, the slot, or the end of an element
abbrev Token : Type 0 → Type 0
Token A = List ℕ ⊎ ((ShapeKind × (List ℕ × A)) ⊎ (ℕ ⊎ ℕ))

abbrev mutual
  form_tokens : {A : Type 0} → Form A → List (Token A) → List (Token A)
  form_tokens slot rest = inr (inr (inl 0)) ∷ rest
  form_tokens (text scalars) rest = inl scalars ∷ rest
  form_tokens (element kind name attributes children) rest = inr (inl (kind, (name, attributes))) ∷ inner_tokens children (inr (inr (inr 0)) ∷ rest)

  inner_tokens : {A : Type 0} → Forms A → List (Token A) → List (Token A)
  inner_tokens none rest = rest
  inner_tokens (more form forms) rest = form_tokens form (inner_tokens forms rest)

abbrev closed : {A : Type 0} → (Forms A → Form A) → Forms A → List (Forms A) → Forms A × List (Forms A)
closed make children [] = (more (make children) none, [])
closed make children (next ∷ open_lists) = (more (make children) next, open_lists)

-- the nodes that a row of tokens begins with, and those of the lists that are open there
abbrev read : {A : Type 0} → List (Token A) → Forms A × List (Forms A)
read [] = (none, [])
read (inl scalars ∷ rest) = (more (text scalars) (read rest).0, (read rest).1)
read (inr (inl head) ∷ rest) = closed (element head.0 head.1.0 head.1.1) (read rest).0 (read rest).1
read (inr (inr (inl place)) ∷ rest) = (more slot (read rest).0, (read rest).1)
read (inr (inr (inr end)) ∷ rest) = (none, (read rest).0 ∷ (read rest).1)

abbrev joined : {A : Type 0} → Forms A → Forms A → Forms A
joined none forms = forms
joined (more form front) forms = more form (joined front forms)

joined-none : {A : Type 0} → (forms : Forms A) → joined forms none ≡ forms
joined-none none = refl
joined-none (more form forms) = ap (more form) (joined-none forms)

mutual
  read-form : {A : Type 0} → (form : Form A) (rest : List (Token A)) → read (form_tokens form rest) ≡ (more form (read rest).0, (read rest).1)
  read-form slot rest = refl
  read-form (text scalars) rest = refl
  read-form {A} (element kind name attributes children) rest =
      ap (λ (r : Forms A × List (Forms A)). closed (element kind name attributes) r.0 r.1) (read-inner children (inr (inr (inr 0)) ∷ rest))
      ∙ ap (λ kids. (more (element kind name attributes kids) (read rest).0, (read rest).1)) (joined-none children)

  read-inner : {A : Type 0} → (forms : Forms A) (rest : List (Token A)) → read (inner_tokens forms rest) ≡ (joined forms (read rest).0, (read rest).1)
  read-inner none rest = refl
  read-inner {A} (more form forms) rest =
      read-form form (inner_tokens forms rest) ∙ ap (λ (r : Forms A × List (Forms A)). (more form r.0, r.1)) (read-inner forms rest)

-- a list of nodes, as the children of an element and back, is itself
pub list_of-forms_of : {A : Type 0} → (forms : List (Form A)) → list_of (forms_of forms) ≡ forms
list_of-forms_of [] = refl
list_of-forms_of (form ∷ forms) = ap (λ rest. form ∷ rest) (list_of-forms_of forms)

-- a list of nodes is read back from its tokens
pub forms_back : {A : Type 0} → (forms : List (Form A)) → list_of (read (inner_tokens (forms_of forms) [])).0 ≡ forms
forms_back {A} forms =
    ap (λ (r : Forms A × List (Forms A)). list_of r.0) (read-inner (forms_of forms) []) ∙ ap list_of (joined-none (forms_of forms)) ∙ list_of-forms_of forms

abbrev coded_tokens : {A : Type 0} → Coded A → Coded (List (Token A))
coded_tokens code = coded_list (coded⊎ (coded_list coded_ℕ) (coded⊎ (coded× coded_kind (coded× (coded_list coded_ℕ) code)) (coded⊎ coded_ℕ coded_ℕ)))

-- lists of nodes
abbrev pub coded_forms : {A : Type 0} → Coded A → Coded (List (Form A))
coded_forms {A} code = code_by (List (Token A)) (coded_tokens code) (λ forms. inner_tokens (forms_of forms) []) (λ tokens. list_of (read tokens).0) forms_back

-- the first of a list of nodes
abbrev first_of : {A : Type 0} → Forms A → Form A
first_of none = slot
first_of (more form forms) = form

-- a node is read back from its tokens
pub form_back : {A : Type 0} → (form : Form A) → first_of (read (form_tokens form [])).0 ≡ form
form_back {A} form = ap (λ (r : Forms A × List (Forms A)). first_of r.0) (read-form form [])

-- one node
abbrev pub coded_form : {A : Type 0} → Coded A → Coded (Form A)
coded_form {A} code = code_by (List (Token A)) (coded_tokens code) (λ form. form_tokens form []) (λ tokens. first_of (read tokens).0) form_back
