-- The cells that the operations of an edit name: each fills the next new one, and none takes anything out of one.
use Rattle.std.proofs.Common.{◌≡◌, ℕ, ◌+◌, ◌^◌, Bool, true, false, not, nat_le, nat_lt, ◌&&◌, ◌||◌, ◌==◌, if◌then◌else◌, List, [], ◌∷◌, ◌++◌, map, reverse}
use Rattle.std.proofs.Common.{length, Option, Some, None, is_none, option_and_then, unwrap_or, ok_or, Result, Ok, Err, refl, ap, arith}
use Rattle.std.specs.List.{flat_map}
use Rattle.ck_base.specs.declared.value.Value.{Value as AttributeValue}
use Rattle.ck_base.specs.declared.faults.EditFault.{EditFault}
use Rattle.ck_base.specs.declared.faults.EditFault.TheVariants.{NotRegistered, BadPosition, BadRange, BadTarget, MarkerExists, MarkerUnknown, IdsSpent}
use Rattle.ck_base.specs.Entries.{value_of}
use Rattle.item_definitions.specs.Item.{Item, character}
use Rattle.item_definitions.specs.Children.{parent_of, offset_of, child_count, item_at}
use Rattle.item_definitions.specs.Position.{Range, between, behind, path_before}
use Rattle.item_definitions.specs.FlatParts.{flat_parts}
use Rattle.operation_definitions.specs.Operation.{in_tree, in_cell, fresh, from_cell, Operation, insert, move, attribute, rename, split, merge, marker}
use Rattle.document_definitions.specs.Document.{Document, ids_of}
use Rattle.document_definitions.specs.Selection.{same_position, same_range}
use Rattle.edit_definitions.specs.declared.edit.Edit.{Edit}
use Rattle.edit_definitions.specs.declared.edit.Edit.TheVariants.{InsertText, InsertElement, Remove, Move, SetAttribute, RemoveAttribute, Rename, Split, Merge}
use Rattle.edit_definitions.specs.declared.edit.Edit.TheVariants.{Wrap, Unwrap, AddMarker, UpdateMarker, RemoveMarker, Select, SelectionAttribute, InsertItems}
use Rattle.edit_definitions.specs.declared.edit.Target.{Target}
use Rattle.edit_definitions.specs.Places.{is_there, is_range, are_in_one, is_element, is_between, is_known}
use Rattle.edit_definitions.specs.Runs.{Run, attribute_runs, give_in, runs_of, items_of_range, with_ids}
use Rattle.edit_definitions.specs.Planned.{◌>>=◌, check, insertion, empty_element, removals, moved_run, count_in, given_to, parts_of, renaming, name_of}
use Rattle.edit_definitions.specs.Planned.{known_names, unknown_in, operations_of}

-- the operation with this number for the cell that it fills
abbrev pub numbered : ℕ → Operation → Operation
numbered number (move from count (in_cell cell)) = move from count (in_cell number)
numbered number (move from count (in_tree to)) = move from count (in_tree to)
numbered number (merge right target cell) = merge right target number
numbered number (insert position new) = insert position new
numbered number (attribute range key old new) = attribute range key old new
numbered number (rename path old new) = rename path old new
numbered number (split position source) = split position source
numbered number (marker name old new) = marker name old new

-- how many cells an operation fills
abbrev pub filled : Operation → ℕ
filled (move from count (in_cell cell)) = 1
filled (move from count (in_tree to)) = 0
filled (merge right target cell) = 1
filled (insert position new) = 0
filled (attribute range key old new) = 0
filled (rename path old new) = 0
filled (split position source) = 0
filled (marker name old new) = 0

-- nothing is taken out of a cell
abbrev pub IsOutward : Operation → Type 0
IsOutward (move (in_cell number) count to) = ⊥
IsOutward (move (in_tree from) count to) = Unit {0}
IsOutward (split position (from_cell number)) = ⊥
IsOutward (split position (fresh id)) = Unit {0}
IsOutward (insert position new) = Unit {0}
IsOutward (attribute range key old new) = Unit {0}
IsOutward (rename path old new) = Unit {0}
IsOutward (merge right target cell) = Unit {0}
IsOutward (marker name old new) = Unit {0}

-- the operations, whose cells have numbers from this one on
abbrev pub numbered_from : ℕ → List Operation → List Operation
numbered_from number [] = []
numbered_from number (operation ∷ operations) = numbered number operation ∷ numbered_from (number + filled operation) operations

abbrev pub AreOutward : List Operation → Type 0
AreOutward [] = Unit {0}
AreOutward (operation ∷ operations) = IsOutward operation × AreOutward operations

-- two plans are one but for the numbers of the cells, which go from these on
pub record Twins (number other : ℕ) (operations twins : List Operation) : Type 0 where
  pub these : operations ≡ numbered_from number operations
  pub those : twins ≡ numbered_from other operations
  pub outward : AreOutward operations

abbrev pub AreTwins : ℕ → ℕ → Result (List Operation) EditFault → Result (List Operation) EditFault → Type 0
AreTwins number other (Ok operations) (Ok twins) = Twins number other operations twins
AreTwins number other (Ok operations) (Err fault) = ⊥
AreTwins number other (Err fault) (Ok operations) = ⊥
AreTwins number other (Err fault) (Err same) = fault ≡ same

-- the same steps before two plans
pub twin-step : {A : Type 0} (number other : ℕ) (r : Result A EditFault) (next twin : A → Result (List Operation) EditFault)
    → ((a : A) → AreTwins number other (next a) (twin a)) → AreTwins number other (r >>= next) (r >>= twin)
twin-step number other (Ok a) next twin h = h a
twin-step number other (Err fault) next twin h = refl

-- an operation that names no cell
abbrev pub IsCellFree : Operation → Type 0
IsCellFree (move (in_cell number) count to) = ⊥
IsCellFree (move (in_tree from) count (in_cell number)) = ⊥
IsCellFree (move (in_tree from) count (in_tree to)) = Unit {0}
IsCellFree (split position (from_cell number)) = ⊥
IsCellFree (split position (fresh id)) = Unit {0}
IsCellFree (insert position new) = Unit {0}
IsCellFree (attribute range key old new) = Unit {0}
IsCellFree (rename path old new) = Unit {0}
IsCellFree (merge right target cell) = ⊥
IsCellFree (marker name old new) = Unit {0}

abbrev pub AreCellFree : List Operation → Type 0
AreCellFree [] = Unit {0}
AreCellFree (operation ∷ operations) = IsCellFree operation × AreCellFree operations

free-numbered : (number : ℕ) (operation : Operation) → IsCellFree operation → operation ≡ numbered number operation
free-numbered number (move (in_cell cell) count to) h = absurd h
free-numbered number (move (in_tree from) count (in_cell cell)) h = absurd h
free-numbered number (move (in_tree from) count (in_tree to)) h = refl
free-numbered number (split position (from_cell cell)) h = absurd h
free-numbered number (split position (fresh id)) h = refl
free-numbered number (insert position new) h = refl
free-numbered number (attribute range key old new) h = refl
free-numbered number (rename path old new) h = refl
free-numbered number (merge right target cell) h = absurd h
free-numbered number (marker name old new) h = refl

free-outward : (operation : Operation) → IsCellFree operation → IsOutward operation
free-outward (move (in_cell cell) count to) h = absurd h
free-outward (move (in_tree from) count (in_cell cell)) h = absurd h
free-outward (move (in_tree from) count (in_tree to)) h = tt
free-outward (split position (from_cell cell)) h = absurd h
free-outward (split position (fresh id)) h = tt
free-outward (insert position new) h = tt
free-outward (attribute range key old new) h = tt
free-outward (rename path old new) h = tt
free-outward (merge right target cell) h = absurd h
free-outward (marker name old new) h = tt

all-free-numbered : (number : ℕ) (operations : List Operation) → AreCellFree operations → operations ≡ numbered_from number operations
all-free-numbered number [] h = refl
all-free-numbered number (operation ∷ operations) h =
    λ t. free-numbered number operation h.0 t ∷ all-free-numbered (number + filled operation) operations h.1 t

all-free-outward : (operations : List Operation) → AreCellFree operations → AreOutward operations
all-free-outward [] h = tt
all-free-outward (operation ∷ operations) h = (free-outward operation h.0, all-free-outward operations h.1)

free-twins : (number other : ℕ) (operations : List Operation) → AreCellFree operations → Twins number other operations operations
free-twins number other operations h = record {
  these = all-free-numbered number operations h;
  those = all-free-numbered other operations h;
  outward = all-free-outward operations h;
}

free-append : (a b : List Operation) → AreCellFree a → AreCellFree b → AreCellFree (a ++ b)
free-append [] b h k = k
free-append (operation ∷ a) b h k = (h.0, free-append a b h.1 k)

free-if : (t : Bool) (a b : List Operation) → AreCellFree a → AreCellFree b → AreCellFree (if t then a else b)
free-if true a b h k = h
free-if false a b h k = k

insertion-free : (at : List ℕ) (items : List Item) → AreCellFree (insertion at items)
insertion-free at [] = tt
insertion-free at (item ∷ items) = (tt, tt)

runs-free : (parent key : List ℕ) (new : Option AttributeValue) (runs : List Run) → AreCellFree (attribute_runs parent key new runs)
runs-free parent key new [] = tt
runs-free parent key new (run ∷ runs) = (tt, runs-free parent key new runs)

parts-free : (items : List Item) (key : List ℕ) (new : Option AttributeValue) (parts : List Range) → AreCellFree (flat_map (give_in items key new) parts)
parts-free items key new [] = tt
parts-free items key new (part ∷ parts) = free-append (give_in items key new part) (flat_map (give_in items key new) parts)
    (runs-free (parent_of part.start) key new (runs_of key new (offset_of part.start) (items_of_range items part))) (parts-free items key new parts)

removals-numbered : (number other : ℕ) (parts : List Range) → removals other parts ≡ numbered_from other (removals number parts)
removals-numbered number other [] = refl
removals-numbered number other (part ∷ parts) = ap (λ rest. move (in_tree part.start) (count_in part.start part.end) (in_cell other) ∷ rest)
    (removals-numbered (number + 1) (other + 1) parts)

removals-outward : (number : ℕ) (parts : List Range) → AreOutward (removals number parts)
removals-outward number [] = tt
removals-outward number (part ∷ parts) = (tt, removals-outward (number + 1) parts)

removals-twins : (number other : ℕ) (parts : List Range) → Twins number other (removals number parts) (removals other parts)
removals-twins number other parts = record {
  these = removals-numbered number number parts;
  those = removals-numbered number other parts;
  outward = removals-outward number parts;
}

-- an operation that names no cell before one that fills one
unwrapped-twins : (number other : ℕ) (path to : List ℕ) (count : ℕ) (empty : Bool)
    → Twins number other ((if empty then [] else move (in_tree (path ++ 0 ∷ [])) count (in_tree to) ∷ []) ++ move (in_tree path) 1 (in_cell number) ∷ [])
    ((if empty then [] else move (in_tree (path ++ 0 ∷ [])) count (in_tree to) ∷ []) ++ move (in_tree path) 1 (in_cell other) ∷ [])
unwrapped-twins number other path to count true = record { these = refl; those = refl; outward = (tt, tt) }
unwrapped-twins number other path to count false = record {
  these = ap (λ cell. first ∷ move (in_tree path) 1 (in_cell cell) ∷ []) (zero number);
  those = ap (λ cell. first ∷ move (in_tree path) 1 (in_cell cell) ∷ []) (zero other);
  outward = (tt, (tt, tt));
}
  where
    first : Operation
    first = move (in_tree (path ++ 0 ∷ [])) count (in_tree to)

    zero : (n : ℕ) → n ≡ n + 0
    zero n = omega arith

merged-twins : (number other : ℕ) (right target : List ℕ) → Twins number other (merge right target number ∷ []) (merge right target other ∷ [])
merged-twins number other right target = record { these = refl; those = refl; outward = (tt, tt) }

given-twins : (number other edit : ℕ) (items : List Item) (target : Target) (key : List ℕ) (new : Option AttributeValue)
    → AreTwins number other (given_to edit items target key new) (given_to edit items target key new)
given-twins number other edit items target key new =
    twin-step number other (parts_of edit items target) (λ parts. Ok (flat_map (give_in items key new) parts))
    (λ parts. Ok (flat_map (give_in items key new) parts))
    (λ parts. free-twins number other (flat_map (give_in items key new) parts) (parts-free items key new parts))

-- the same premises before two plans
one-check : (number other : ℕ) (a : Bool) (f : EditFault) (r twin : Result (List Operation) EditFault) → AreTwins number other r twin
    → AreTwins number other (check a f >>= (λ _. r)) (check a f >>= (λ _. twin))
one-check number other true f r twin h = h
one-check number other false f r twin h = refl

two-checks : (number other : ℕ) (a : Bool) (f : EditFault) (b : Bool) (g : EditFault) (r twin : Result (List Operation) EditFault)
    → AreTwins number other r twin
    → AreTwins number other (check a f >>= (λ _. check b g >>= (λ _. r))) (check a f >>= (λ _. check b g >>= (λ _. twin)))
two-checks number other true f b g r twin h = one-check number other b g r twin h
two-checks number other false f b g r twin h = refl

three-checks : (number other : ℕ) (a : Bool) (f : EditFault) (b : Bool) (g : EditFault) (c : Bool) (e : EditFault)
    (r twin : Result (List Operation) EditFault) → AreTwins number other r twin
    → AreTwins number other (check a f >>= (λ _. check b g >>= (λ _. check c e >>= (λ _. r))))
    (check a f >>= (λ _. check b g >>= (λ _. check c e >>= (λ _. twin))))
three-checks number other true f b g c e r twin h = two-checks number other b g c e r twin h
three-checks number other false f b g c e r twin h = refl

-- the plans of an edit on one document, beside so many cells each
pub plans-twins : (registered : List ℕ → Bool) (edit : ℕ) (made : Edit) (document : Document) (cells others : List (List Item))
    → AreTwins (length cells) (length others) (operations_of registered edit made record { document = document; cells = cells })
    (operations_of registered edit made record { document = document; cells = others })
plans-twins registered edit (InsertText at text attributes) document cells others =
    let operations = insertion at (map (λ scalar. character scalar attributes) text) in
    one-check (length cells) (length others) (is_there document.items at) (BadPosition edit at) (Ok operations) (Ok operations)
    (free-twins (length cells) (length others) operations (insertion-free at (map (λ scalar. character scalar attributes) text)))
plans-twins registered edit (InsertElement at name attributes) document cells others =
    let operations = insertion at (empty_element document.next_id name attributes) in
    three-checks (length cells) (length others) (is_known registered name) (NotRegistered edit name) (is_there document.items at) (BadPosition edit at)
    (nat_le (document.next_id + 1) (2 ^ 63)) (IdsSpent edit)
    (Ok operations) (Ok operations) (free-twins (length cells) (length others) operations (insertion-free at (empty_element document.next_id name attributes)))
plans-twins registered edit (Remove start end) document cells others =
    let parts = reverse (flat_parts (child_count document.items) (between start end)) in
    one-check (length cells) (length others) (is_range document.items start end) (BadRange edit start end) (Ok (removals (length cells) parts))
    (Ok (removals (length others) parts))
    (removals-twins (length cells) (length others) parts)
plans-twins registered edit (Move start end to) document cells others =
    let operations = moved_run start end to in
    three-checks (length cells) (length others) (is_there document.items to) (BadPosition edit to) (is_range document.items start end
    && are_in_one start end) (BadRange edit start end) (not (is_between start end to)) (BadTarget edit to)
    (Ok operations) (Ok operations)
    (free-twins (length cells) (length others) operations (free-if (same_position start end || same_position to start || same_position to end) []
    (move (in_tree start) (count_in start end) (in_tree to) ∷ []) tt (tt, tt)))
plans-twins registered edit (SetAttribute target key value) document cells others = given-twins (length cells) (length others) edit document.items
    target key (Some value)
plans-twins registered edit (RemoveAttribute target key) document cells others = given-twins (length cells) (length others) edit document.items target key None
plans-twins registered edit (Rename path name) document cells others =
    one-check (length cells) (length others) (is_known registered name) (NotRegistered edit name) (named >>= rename_from) (named >>= rename_from)
    (twin-step (length cells) (length others) named rename_from rename_from
    (λ old. free-twins (length cells) (length others) (renaming path old name) (free-if (same_position old name) [] (rename path old name ∷ []) tt (tt, tt))))
  where
    named : Result (List ℕ) EditFault
    named = ok_or (option_and_then name_of (item_at path document.items)) (BadTarget edit path)

    rename_from : List ℕ → Result (List Operation) EditFault
    rename_from old = Ok (renaming path old name)
plans-twins registered edit (Split at) document cells others =
    let operations = split at (fresh document.next_id) ∷ [] in
    three-checks (length cells) (length others) (is_there document.items at) (BadPosition edit at) (nat_le 2 (length at)) (BadTarget edit at)
    (nat_le (document.next_id + 1) (2 ^ 63)) (IdsSpent edit)
    (Ok operations) (Ok operations) (free-twins (length cells) (length others) operations (tt, tt))
plans-twins registered edit (Merge at) document cells others =
    let target = path_before at ++ unwrap_or (child_count document.items (path_before at)) 0 ∷ [] in
    two-checks (length cells) (length others) (is_there document.items at) (BadPosition edit at)
    (nat_lt 0 (offset_of at) && is_element document.items (path_before at) && is_element document.items at) (BadTarget edit at)
    (Ok (merge at target (length cells) ∷ [])) (Ok (merge at target (length others) ∷ [])) (merged-twins (length cells) (length others) at target)
plans-twins registered edit (Wrap start end name attributes) document cells others =
    let shell = empty_element document.next_id name attributes in
    let rest = (if same_position start end then [] else move (in_tree start) (count_in start end) (in_tree (end ++ 0 ∷ [])) ∷ []) in
    three-checks (length cells) (length others) (is_known registered name) (NotRegistered edit name) (is_range document.items start end
    && are_in_one start end) (BadRange edit start end)
    (nat_le (document.next_id + 1) (2 ^ 63)) (IdsSpent edit) (Ok (insertion end shell ++ rest)) (Ok (insertion end shell ++ rest))
    (free-twins (length cells) (length others) (insertion end shell ++ rest)
    (free-append (insertion end shell) rest (insertion-free end shell)
    (free-if (same_position start end) [] (move (in_tree start) (count_in start end) (in_tree (end ++ 0 ∷ [])) ∷ []) tt (tt, tt))))
plans-twins registered edit (Unwrap path) document cells others =
    let count = unwrap_or (child_count document.items path) 0 in
    let front = (if count == 0 then [] else move (in_tree (path ++ 0 ∷ [])) count (in_tree (behind path)) ∷ []) in
    one-check (length cells) (length others) (is_element document.items path) (BadTarget edit path)
    (Ok (front ++ move (in_tree path) 1 (in_cell (length cells)) ∷ [])) (Ok (front ++ move (in_tree path) 1 (in_cell (length others)) ∷ []))
    (unwrapped-twins (length cells) (length others) path (behind path) count (count == 0))
plans-twins registered edit (AddMarker name start end) document cells others =
    let operations = marker name None (Some (between start end)) ∷ [] in
    two-checks (length cells) (length others) (is_range document.items start end) (BadRange edit start end) (is_none (value_of name document.markers))
    (MarkerExists edit name)
    (Ok operations) (Ok operations) (free-twins (length cells) (length others) operations (tt, tt))
plans-twins registered edit (UpdateMarker name start end) document cells others =
    one-check (length cells) (length others) (is_range document.items start end) (BadRange edit start end) (found >>= change) (found >>= change)
    (twin-step (length cells) (length others) found change change
    (λ old. free-twins (length cells) (length others) (if same_range old (between start end) then []
    else marker name (Some old) (Some (between start end)) ∷ [])
    (free-if (same_range old (between start end)) [] (marker name (Some old) (Some (between start end)) ∷ []) tt (tt, tt))))
  where
    found : Result Range EditFault
    found = ok_or (value_of name document.markers) (MarkerUnknown edit name)

    change : Range → Result (List Operation) EditFault
    change old = Ok (if same_range old (between start end) then [] else marker name (Some old) (Some (between start end)) ∷ [])
plans-twins registered edit (RemoveMarker name) document cells others =
    twin-step (length cells) (length others) (ok_or (value_of name document.markers) (MarkerUnknown edit name))
    (λ old. Ok (marker name (Some old) None ∷ [])) (λ old. Ok (marker name (Some old) None ∷ []))
    (λ old. free-twins (length cells) (length others) (marker name (Some old) None ∷ []) (tt, tt))
plans-twins registered edit (Select start end backward) document cells others =
    one-check (length cells) (length others) (is_range document.items start end) (BadRange edit start end) (Ok []) (Ok [])
    (free-twins (length cells) (length others) [] tt)
plans-twins registered edit (SelectionAttribute key value) document cells others = free-twins (length cells) (length others) [] tt
plans-twins registered edit (InsertItems at items) document cells others =
    twin-step (length cells) (length others) (known_names edit (unknown_in registered items)) (λ _. rest) (λ _. rest) (λ _.
    two-checks (length cells) (length others) (is_there document.items at) (BadPosition edit at)
    (nat_le (document.next_id + length (ids_of items)) (2 ^ 63)) (IdsSpent edit) (Ok operations) (Ok operations)
    (free-twins (length cells) (length others) operations (insertion-free at (with_ids document.next_id items))))
  where
    operations : List Operation
    operations = insertion at (with_ids document.next_id items)

    rest : Result (List Operation) EditFault
    rest = check (is_there document.items at) (BadPosition edit at)
        >>= (λ _. check (nat_le (document.next_id + length (ids_of items)) (2 ^ 63)) (IdsSpent edit) >>= (λ _. Ok operations))
