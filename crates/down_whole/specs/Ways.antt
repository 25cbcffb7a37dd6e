-- The way to the slot of a shape.
use Rattle.std.specs.Prelude.{ℕ, ◌∷◌, Option, Some, None, option_map}
use Rattle.converter_definitions.specs.Form.{Form, Forms}
use Rattle.converter_definitions.specs.Shape.{slot_in, slot_among}
use Rattle.pos_mapper.specs.Bindings.{Slot, Mapper, with_binding}
use Rattle.pos_mapper.specs.Mapped.{by_slot, behind_slot, behind_among}

-- to the slot that a node of this index is or has in it, behind which so many nodes stand in its list
abbrev pub way_to : {A : Type 0} → ℕ → ℕ → Form A → Option Slot
way_to behind index form =
    option_map (λ place. record { place = index ∷ place; behind = by_slot (Some place) 0 behind (behind_slot form) }) (slot_in form)

-- to the slot among nodes, the first of which has this index
abbrev pub way_among : {A : Type 0} → ℕ → Forms A → Option Slot
way_among index forms = option_map (λ place. record { place = place; behind = behind_among forms }) (slot_among index forms)

-- with an index in front
abbrev pub way_below : ℕ → Option Slot → Option Slot
way_below index way = option_map (λ (slot : Slot). record slot { place = index ∷ slot.place }) way

-- a mapper with an element bound to the view element with a number, if there is one
abbrev pub bound_to : Option ℕ → ℕ → Option Slot → Mapper → Mapper
bound_to None id slot mapper = mapper
bound_to (Some number) id slot mapper = with_binding (record { id = id; number = number; slot = slot }) mapper
