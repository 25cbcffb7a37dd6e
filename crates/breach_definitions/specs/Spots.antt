-- The first breach among some items of a document.
use Rattle.std.specs.Prelude.{ℕ, List, [], ◌∷◌, Bool, true, false, ◌&&◌, ◌==◌, nat_le, nat_lt, Option}
use Rattle.std.specs.List.{list_any, filter}
use Rattle.ck_base.specs.declared.faults.Rule.{Rule}
use Rattle.item_definitions.specs.Item.{Item}
use Rattle.schema_definitions.specs.Allowed.{Rules}
use Rattle.breach_definitions.specs.declared.spot.Spot.{Spot}
use Rattle.breach_definitions.specs.declared.spot.Spot.TheVariants.{Run, Subtree}
use Rattle.breach_definitions.specs.Breach.{Placed, placed_items, breach_of, first_some}

-- whether an offset is from one to below another
abbrev pub is_from_to : ℕ → ℕ → ℕ → Bool
is_from_to start end offset = nat_le start offset && nat_lt offset end

-- whether a path leads from an element to one of its items in a run
abbrev pub is_in_run : List ℕ → ℕ → ℕ → List ℕ → Bool
is_in_run [] start end [] = false
is_in_run [] start end (offset ∷ []) = is_from_to start end offset
is_in_run [] start end (offset ∷ next ∷ path) = false
is_in_run (index ∷ parent) start end [] = false
is_in_run (index ∷ parent) start end (offset ∷ path) = (index == offset) && is_in_run parent start end path

-- whether a path leads to an element or into it
abbrev pub is_within : List ℕ → List ℕ → Bool
is_within [] path = true
is_within (index ∷ outer) [] = false
is_within (index ∷ outer) (offset ∷ path) = (index == offset) && is_within outer path

-- whether a spot lists the item at a path
abbrev pub lists_path : Spot → List ℕ → Bool
lists_path (Run parent start end) path = is_in_run parent start end path
lists_path (Subtree outer) path = is_within outer path

-- whether some spot lists an item
abbrev pub is_listed : List Spot → Placed → Bool
is_listed spots placed = list_any (λ spot. lists_path spot placed.path) spots

-- the first breach, in document order, among the listed items
unfoldable pub breach_at : Rules → List Item → List Spot → Option (Rule × List ℕ)
breach_at rules items spots = first_some (breach_of rules) (filter (is_listed spots) (placed_items items))
