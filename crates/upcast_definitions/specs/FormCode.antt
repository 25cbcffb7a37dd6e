-- A code for lists of nodes, by which proofs tell them apart: a text as a token, an element as its head, its children and an end.
use Rattle.std.specs.Prelude.{◌≡◌, ℕ, ◌⊎◌, List, [], ◌∷◌, refl}
use Rattle.std.proofs.Common.{inl, inr, ap, ◌∙◌}
use Rattle.std.specs.Coded.{Coded, code_by, coded_ℕ, coded_list, coded×, coded⊎}
use Rattle.view_definitions.specs.Node.{ViewAttributes}
use Rattle.upcast_definitions.specs.Form.{Form, Forms, text, element, none, more, list_of, forms_of}

-- a text, the head of an element, or the end of one
abbrev Token : Type 0
Token = List ℕ ⊎ ((List ℕ × ViewAttributes) ⊎ ℕ)

abbrev mutual
  form_tokens : Form → List Token → List Token
  form_tokens (text scalars) rest = inl scalars ∷ rest
  form_tokens (element name attributes children) rest = inr (inl (name, attributes)) ∷ inner_tokens children (inr (inr 0) ∷ rest)

  inner_tokens : Forms → List Token → List Token
  inner_tokens none rest = rest
  inner_tokens (more form forms) rest = form_tokens form (inner_tokens forms rest)

abbrev closed : (Forms → Form) → Forms → List Forms → Forms × List Forms
closed make children [] = (more (make children) none, [])
closed make children (next ∷ open_lists) = (more (make children) next, open_lists)

-- the nodes that a row of tokens begins with, and those of the lists that are open there
abbrev read : List Token → Forms × List Forms
read [] = (none, [])
read (inl scalars ∷ rest) = (more (text scalars) (read rest).0, (read rest).1)
read (inr (inl head) ∷ rest) = closed (element head.0 head.1) (read rest).0 (read rest).1
read (inr (inr end) ∷ rest) = (none, (read rest).0 ∷ (read rest).1)

abbrev joined : Forms → Forms → Forms
joined none forms = forms
joined (more form front) forms = more form (joined front forms)

joined-none : (forms : Forms) → joined forms none ≡ forms
joined-none none = refl
joined-none (more form forms) = ap (more form) (joined-none forms)

mutual
  read-form : (form : Form) (rest : List Token) → read (form_tokens form rest) ≡ (more form (read rest).0, (read rest).1)
  read-form (text scalars) rest = refl
  read-form (element name attributes children) rest =
      ap (λ (r : Forms × List Forms). closed (element name attributes) r.0 r.1) (read-inner children (inr (inr 0) ∷ rest))
      ∙ ap (λ kids. (more (element name attributes kids) (read rest).0, (read rest).1)) (joined-none children)

  read-inner : (forms : Forms) (rest : List Token) → read (inner_tokens forms rest) ≡ (joined forms (read rest).0, (read rest).1)
  read-inner none rest = refl
  read-inner (more form forms) rest =
      read-form form (inner_tokens forms rest) ∙ ap (λ (r : Forms × List Forms). (more form r.0, r.1)) (read-inner forms rest)

-- a list of nodes, as the children of an element and back, is itself
pub list_of-forms_of : (forms : List Form) → list_of (forms_of forms) ≡ forms
list_of-forms_of [] = refl
list_of-forms_of (form ∷ forms) = ap (λ rest. form ∷ rest) (list_of-forms_of forms)

-- a list of nodes is read back from its tokens
pub forms_back : (forms : List Form) → list_of (read (inner_tokens (forms_of forms) [])).0 ≡ forms
forms_back forms =
    ap (λ (r : Forms × List Forms). list_of r.0) (read-inner (forms_of forms) []) ∙ ap list_of (joined-none (forms_of forms)) ∙ list_of-forms_of forms

-- lists of nodes
abbrev pub coded_forms : Coded (List Form)
coded_forms = code_by (List Token)
    (coded_list (coded⊎ (coded_list coded_ℕ) (coded⊎ (coded× (coded_list coded_ℕ) (coded_list (coded× (coded_list coded_ℕ) (coded_list coded_ℕ)))) coded_ℕ)))
    (λ forms. inner_tokens (forms_of forms) []) (λ tokens. list_of (read tokens).0) forms_back
