-- Items that come in.
use Rattle.std.proofs.Common.{◌≡◌, ℕ, ◌-◌, ◌<◌, ◌^◌, min, List, [], ◌∷◌, length, refl, arith}
use Rattle.item_definitions.specs.Item.{Item}
use Rattle.operation_definitions.specs.Operation.{insert}
use Rattle.edit_definitions.specs.Planned.{insertion}

pub nothing : (at : List ℕ) (items : List Item) → min (length items) (2 ^ 64 - 1) ≡ 0 → insertion at items ≡ []
nothing at [] none = refl
nothing at (item ∷ items) none = absurd (omega (arith, none))

pub something : (at : List ℕ) (items : List Item) → 0 < min (length items) (2 ^ 64 - 1) → insertion at items ≡ insert at items ∷ []
something at [] some = absurd (omega (arith, some))
something at (item ∷ items) some = refl
