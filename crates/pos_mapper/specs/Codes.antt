-- Codes for what a mapper keeps, by which proofs tell such values apart.
use Rattle.std.specs.Prelude.{ℕ, List, Option, refl}
use Rattle.std.specs.Coded.{Coded, code_by, coded_ℕ, coded_list, coded_option, coded×}
use Rattle.pos_mapper.specs.Bindings.{Slot, Binding, CaretPlace, Mapper}

-- a code for slots
abbrev pub coded_slot : Coded Slot
coded_slot =
    code_by (List ℕ × ℕ) (coded× (coded_list coded_ℕ) coded_ℕ) (λ slot. (slot.place, slot.behind))
    (λ parts. record { place = parts.0; behind = parts.1 }) (λ _. refl)

-- a code for bindings
abbrev pub coded_binding : Coded Binding
coded_binding =
    code_by (ℕ × (ℕ × Option Slot)) (coded× coded_ℕ (coded× coded_ℕ (coded_option coded_slot)))
    (λ binding. (binding.id, (binding.number, binding.slot))) (λ parts. record { id = parts.0; number = parts.1.0; slot = parts.1.1 }) (λ _. refl)

-- a code for the caret's place
abbrev pub coded_caret : Coded CaretPlace
coded_caret =
    code_by (List ℕ × List ℕ) (coded× (coded_list coded_ℕ) (coded_list coded_ℕ)) (λ caret. (caret.at, caret.place))
    (λ parts. record { at = parts.0; place = parts.1 }) (λ _. refl)

-- a code for mappers
abbrev pub coded_mapper : Coded Mapper
coded_mapper =
    code_by (List Binding × Option CaretPlace) (coded× (coded_list coded_binding) (coded_option coded_caret))
    (λ mapper. (mapper.bindings, mapper.caret)) (λ parts. record { bindings = parts.0; caret = parts.1 }) (λ _. refl)
