-- The slot of a shape is found from its front on.
use Rattle.std.proofs.Common.{◌≡◌, ℕ, suc, ◌+◌, List, [], ◌∷◌, length, Option, Some, None, refl, sym, ap, ◌∙◌}
use Rattle.std.specs.Prelude.{option_map}
use Rattle.std.specs.Option.{option_or}
use Rattle.converter_definitions.specs.Form.{Form, Forms, element, none, more, list_of}
use Rattle.converter_definitions.specs.declared.kind.ShapeKind.{ShapeKind}
use Rattle.converter_definitions.specs.declared.shape.ShapeNode.TheVariants.{Element}
use Rattle.converter_definitions.specs.Shape.{slot_in, slot_among}
use Rattle.converter_definitions.specs.declared.shape.ShapeNode.{ShapeNode}
use Rattle.converter_definitions.specs.Form.{forms_of}
use Rattle.converter_definitions.specs.Parts.{shape_of, shapes_of}
use Rattle.pos_mapper.specs.Bindings.{Slot}
use Rattle.pos_mapper.specs.Mapped.{by_slot, behind_slot, behind_among}
use Rattle.down_whole.specs.Ways.{way_to, way_among, way_below}

first-or : {A : Type 0} (index : ℕ) (form : Form A) (forms : Forms A) (place : Option (List ℕ)) → place ≡ slot_in form
    → option_map (λ found. record { place = found; behind = by_slot place (behind_among forms) (length (list_of forms)) (behind_slot form) })
    (option_or (option_map (λ found. index ∷ found) place) (slot_among (index + 1) forms))
    ≡ option_or (option_map (λ found. record { place = index ∷ found; behind = by_slot (Some found) 0 (length (list_of forms)) (behind_slot form) })
    place) (way_among (index + 1) forms)
first-or index form forms None e = refl
first-or index form forms (Some []) e = refl
first-or index form forms (Some (next ∷ rest)) e = refl

steps : {A : Type 0} (index : ℕ) (form : Form A) (forms : Forms A) → way_among index (more form forms)
    ≡ option_or (way_to (length (list_of forms)) index form) (way_among (index + 1) forms)
steps index form forms = first-or index form forms (slot_in form) refl

rest-length : {A : Type 0} (nodes : List (ShapeNode A)) → length (list_of (forms_of (shapes_of nodes))) ≡ length nodes
rest-length [] = refl
rest-length (node ∷ nodes) = ap suc (rest-length nodes)

-- the slot is the first node or in it
pub in_first : {A : Type 0} (index behind : ℕ) (node : ShapeNode A) (rest all : List (ShapeNode A)) (way : Option Slot) → all ≡ node ∷ rest
    → behind ≡ length rest → way ≡ way_to behind index (shape_of node) → (found : Slot) → Some found ≡ way
    → Some found ≡ way_among index (forms_of (shapes_of all))
in_first index behind node rest all way a b w found f =
    ap (λ found. option_or found (way_among (index + 1) (forms_of (shapes_of rest)))) (f ∙ w
    ∙ ap (λ n. way_to n index (shape_of node)) (b ∙ sym (rest-length rest)))
    ∙ sym (steps index (shape_of node) (forms_of (shapes_of rest))) ∙ sym (ap (λ nodes. way_among index (forms_of (shapes_of nodes))) a)

-- and it isn't
pub in_rest : {A : Type 0} (index behind : ℕ) (node : ShapeNode A) (rest all : List (ShapeNode A)) (way found : Option Slot) → all ≡ node ∷ rest
    → behind ≡ length rest → way ≡ way_to behind index (shape_of node) → None ≡ way → found ≡ way_among (index + 1) (forms_of (shapes_of rest))
    → found ≡ way_among index (forms_of (shapes_of all))
in_rest index behind node rest all way found a b w e h =
    h ∙ ap (λ found. option_or found (way_among (index + 1) (forms_of (shapes_of rest)))) (e ∙ w
    ∙ ap (λ n. way_to n index (shape_of node)) (b ∙ sym (rest-length rest)))
    ∙ sym (steps index (shape_of node) (forms_of (shapes_of rest))) ∙ sym (ap (λ nodes. way_among index (forms_of (shapes_of nodes))) a)

some-way : {A : Type 0} (index : ℕ) (forms : Forms A) (P : Option (List ℕ) → Type 0) → P None → ((next : ℕ) (rest : List ℕ) → P (Some (next ∷ rest)))
    → P (slot_among index forms)
some-way index none P n s = n
some-way index (more form forms) P n s =
    elim (slot_in form) as (λ place. P (option_or (option_map (λ found. index ∷ found) place) (slot_among (index + 1) forms))) [
      | None ↦ some-way (index + 1) forms P n s
      | Some place ↦ s index place
    ]

in-children : {A : Type 0} (index behind : ℕ) (children : Forms A) (kind : ShapeKind) (name : List ℕ) (attributes : A) (way below : Option Slot)
    → below ≡ way_below index way → way ≡ way_among 0 children → below ≡ way_to behind index (element kind name attributes children)
in-children index behind children kind name attributes way below e w =
    e ∙ ap (way_below index) w
    ∙ some-way 0 children (λ place. way_below index (option_map (λ found. record { place = found; behind = behind_among children }) place)
    ≡ option_map (λ found. record { place = index ∷ found; behind = by_slot (Some found) 0 behind (behind_among children) }) place) refl (λ next rest. refl)

-- the slot is in an element
pub in_element : {A : Type 0} (index behind : ℕ) (node : ShapeNode A) (kind : ShapeKind) (name : List ℕ) (attributes : A) (children : List (Form A))
    (slice : List (ShapeNode A)) (way below : Option Slot) → node ≡ Element kind name attributes children → shapes_of slice ≡ children
    → below ≡ way_below index way → way ≡ way_among 0 (forms_of (shapes_of slice)) → below ≡ way_to behind index (shape_of node)
in_element index behind node kind name attributes children slice way below n c e w =
    in-children index behind (forms_of children) kind name attributes way below e (w ∙ ap (λ forms. way_among 0 (forms_of forms)) c)
    ∙ ap (λ node. way_to behind index (shape_of node)) (sym n)
