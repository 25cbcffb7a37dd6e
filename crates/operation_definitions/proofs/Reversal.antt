-- The law of reversals.
use Rattle.std.proofs.Common.{◌≡◌, ℕ, true, List, Ok}
use Rattle.item_definitions.specs.Item.{Item}
use Rattle.operation_definitions.specs.Operation.{Operation, insert, move, attribute, rename, split, merge, marker, in_tree, in_cell, fresh, from_cell}
use Rattle.operation_definitions.specs.After.{after, effect, is_free}
use Rattle.operation_definitions.specs.Reversed.{IsTakenBack, IsLimited, AreOrdered, HasPlaces}
use Rattle.operation_definitions.proofs.Simple.{State, after-effect, insert-back, store-back, fetch-back, marker-back}
use Rattle.operation_definitions.proofs.Elements.{rename-reversed, fresh-reversed, from_cell-reversed, merge-reversed}
use Rattle.operation_definitions.proofs.Moved.{move-reversed}
use Rattle.operation_definitions.proofs.Values.{attribute-reversed}

by_effect : (items : List Item) (cells : List (List Item)) (operation : Operation) (made : State) (cell : ℕ) → IsLimited items → AreOrdered items
    → HasPlaces operation
    → effect items cells operation ≡ Ok made → is_free made.1 cell ≡ true → IsTakenBack items cells operation made cell
by_effect items cells (insert position new) made cell limits ordered places e free = insert-back items cells position new made cell limits e free
by_effect items cells (move (in_tree from) count (in_tree to)) made cell limits ordered places e free = move-reversed items cells from count to made
    cell limits places.0 places.1 e
by_effect items cells (move (in_tree from) count (in_cell number)) made cell limits ordered places e free = store-back items cells from count number
    made cell limits e
by_effect items cells (move (in_cell number) count (in_tree to)) made cell limits ordered places e free = fetch-back items cells to count number made
    cell limits e
by_effect items cells (move (in_cell number) count (in_cell other)) made cell limits ordered places e free = absurd cc
by_effect items cells (attribute range key old new) made cell limits ordered places e free = attribute-reversed items cells range key old new made cell
    limits ordered e
by_effect items cells (rename path old new) made cell limits ordered places e free = rename-reversed items cells path old new made cell limits e
by_effect items cells (split position (fresh id)) made cell limits ordered places e free = fresh-reversed items cells position id made cell limits e free
by_effect items cells (split position (from_cell number)) made cell limits ordered places e free = from_cell-reversed items cells position number made
    cell limits e
by_effect items cells (merge right target number) made cell limits ordered places e free = merge-reversed items cells right target number made cell limits e
by_effect items cells (marker name old new) made cell limits ordered places e free = marker-back items cells name old new made cell limits e

-- each operation that is not refused is taken back by its reversal
pub reversal : (items : List Item) (cells : List (List Item)) (operation : Operation) (made : State) (cell : ℕ) → IsLimited items → AreOrdered items
    → HasPlaces operation
    → after items cells operation ≡ Ok made → is_free made.1 cell ≡ true → IsTakenBack items cells operation made cell
reversal items cells operation made cell limits ordered places e free =
    by_effect items cells operation made cell limits ordered places (after-effect items cells operation made e) free
