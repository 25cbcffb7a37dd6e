-- Bindings in slots, found by two tables of the slots' keys.
use Rattle.std.specs.Prelude.{◌≡◌, ℕ, List, [], ◌∷◌, ◌++◌, Option, None, IsSomeAnd, option_to_list, slice_index_or}
use Rattle.pos_mapper.specs.Bindings.{Binding}

-- bindings in slots, some of which may be free
abbrev pub Slots : Type 0
Slots = List (Option Binding)

-- the binding at a key
abbrev pub binding_at : Slots → ℕ → Option Binding
binding_at slots key = slice_index_or slots key None

-- the bindings at these keys, in this order
abbrev pub bindings_at : Slots → List (ℕ × ℕ) → List Binding
bindings_at slots [] = []
bindings_at slots (entry ∷ entries) = option_to_list (binding_at slots entry.1) ++ bindings_at slots entries

-- whether each id and each number leads to the key of its binding. Both tables lead to the same keys, in the same order
abbrev pub AreKeys : Slots → List (ℕ × ℕ) → List (ℕ × ℕ) → Type 0
AreKeys slots [] [] = Unit {0}
AreKeys slots [] (number ∷ numbers) = ⊥
AreKeys slots (id ∷ ids) [] = ⊥
AreKeys slots (id ∷ ids) (number ∷ numbers) =
    (number.1 ≡ id.1) × IsSomeAnd (binding_at slots id.1) (λ binding. (binding.id ≡ id.0) × (binding.number ≡ number.0)) × AreKeys slots ids numbers
