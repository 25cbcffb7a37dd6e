-- A place in a slot is taken out again as it was put in.
use Rattle.std.proofs.Common.{◌≡◌, ◌≢◌, ℕ, ◌+◌, ◌-◌, List, [], ◌∷◌, true, if◌then◌else◌, Option, Some, None, refl, ap, ◌∙◌, arith}
use Rattle.std.proofs.lemmas.Bool.{le-leb, eq-eqb}
use Rattle.std.specs.Prelude.{nat_le, option_map}
use Rattle.std.specs.Option.{option_or}
use Rattle.converter_definitions.specs.Form.{Form, Forms, slot, text, element, none, more}
use Rattle.converter_definitions.specs.Shape.{slot_in, slot_among, is_outermost}
use Rattle.downcast_definitions.specs.Seen.{into_slot}
use Rattle.downcast_definitions.specs.Meant.{out_of_slot}

based : (base index : ℕ) (place : List ℕ) → (if nat_le base (base + index) then Some (((base + index) - base) ∷ place) else None) ≡ Some (index ∷ place)
based base index place =
    ap (λ b. if b then Some (((base + index) - base) ∷ place) else None) (le-leb base (base + index) (omega arith))
    ∙ ap (λ n. Some (n ∷ place)) (omega arith)

-- a place that went into a slot comes out of it
pub out-of-into : (base : ℕ) (rest : List ℕ) (index : ℕ) (place : List ℕ) → out_of_slot (base ∷ rest) (into_slot (base ∷ rest) (index ∷ place))
    ≡ Some (index ∷ place)
out-of-into base [] index place = based base index place
out-of-into base (next ∷ rest) index place =
    ap (λ b. if b then out_of_slot (next ∷ rest) (into_slot (next ∷ rest) (index ∷ place)) else None) (eq-eqb base base refl)
    ∙ out-of-into next rest index place

-- it isn't the empty one there
pub into-some : (base : ℕ) (rest : List ℕ) (index : ℕ) (place : List ℕ) (P : List ℕ → Type 0) → ((first : ℕ) (others : List ℕ) → P (first ∷ others))
    → P (into_slot (base ∷ rest) (index ∷ place))
into-some base [] index place P h = h _ _
into-some base (next ∷ rest) index place P h = h _ _

slot-first : {A : Type 0} → (index : ℕ) (forms : Forms A) (there : Option (List ℕ)) → slot_among (index + 1) forms ≢ Some []
    → option_or (option_map (λ place. index ∷ place) there) (slot_among (index + 1) forms) ≢ Some []
slot-first index forms None h = h
slot-first index forms (Some place) h = λ e. cc

-- the slot of an element is in a child of it
slot-there : {A : Type 0} → (index : ℕ) (forms : Forms A) → slot_among index forms ≢ Some []
slot-there index none = λ e. cc
slot-there index (more form forms) = slot-first index forms (slot_in form) (slot-there (index + 1) forms)

pub slot-inside : {A : Type 0} → (form : Form A) → is_outermost form ≡ true → slot_in form ≢ Some []
slot-inside slot e = cc
slot-inside (text scalars) e = cc
slot-inside (element kind name attributes children) e = slot-there 0 children
