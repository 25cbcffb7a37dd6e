-- The operations that an edit plans bring what the edit brings, and the places that they name aren't empty.
use Rattle.std.proofs.Common.{◌≡◌, ◌≢◌, ℕ, ◌+◌, ◌^◌, Bool, true, false, not, nat_le, nat_lt, ◌&&◌, ◌||◌, ◌==◌, if◌then◌else◌, List, [], ◌∷◌, ◌++◌, map, reverse}
use Rattle.std.proofs.Common.{length, Option, Some, None, is_none, option_and_then, unwrap_or, ok_or, Result, Ok, Err, refl, subst}
use Rattle.std.specs.List.{flat_map}
use Rattle.ck_base.specs.declared.value.Value.{Value as AttributeValue}
use Rattle.ck_base.specs.declared.faults.EditFault.{EditFault}
use Rattle.ck_base.specs.declared.faults.EditFault.TheVariants.{NotRegistered, BadPosition, BadRange, BadTarget, MarkerExists, MarkerUnknown, IdsSpent}
use Rattle.ck_base.specs.Entries.{IsOrdered, value_of}
use Rattle.ck_base.proofs.Common.{first_and_second}
use Rattle.item_definitions.specs.Item.{Item, Items, character, element, none, more, Attributes}
use Rattle.item_definitions.specs.Children.{parent_of, offset_of, child_count, item_at}
use Rattle.item_definitions.specs.Position.{Range, between, behind, not_after, path_before}
use Rattle.item_definitions.specs.FlatParts.{flat_parts}
use Rattle.operation_definitions.specs.Operation.{in_tree, in_cell, fresh, Operation, move, rename, split, merge, marker}
use Rattle.operation_definitions.specs.Reversed.{IsItemOrdered, IsInnerOrdered, AreOrdered, HasPlaces}
use Rattle.document_definitions.specs.Document.{State, ids_of}
use Rattle.document_definitions.specs.Selection.{same_position, same_range}
use Rattle.document_definitions.specs.Sound.{BringsOrdered}
use Rattle.edit_definitions.specs.declared.edit.Edit.{Edit}
use Rattle.edit_definitions.specs.declared.edit.Edit.TheVariants.{InsertText, InsertElement, Remove, Move, SetAttribute, RemoveAttribute, Rename, Split, Merge}
use Rattle.edit_definitions.specs.declared.edit.Edit.TheVariants.{Wrap, Unwrap, AddMarker, UpdateMarker, RemoveMarker, Select, SelectionAttribute, InsertItems}
use Rattle.edit_definitions.specs.declared.edit.Target.{Target}
use Rattle.edit_definitions.proofs.Stay.{there-place}
use Rattle.edit_definitions.specs.Places.{is_there, is_range, are_in_one, is_element, is_between, is_known}
use Rattle.edit_definitions.specs.Runs.{Run, attribute_runs, give_in, runs_of, items_of_range, item_with_ids, inner_with_ids, with_ids}
use Rattle.edit_definitions.specs.Planned.{◌>>=◌, check, ids_left, insertion, empty_element, removals, moved_run, count_in, given_to, parts_of, renaming}
use Rattle.edit_definitions.specs.Planned.{name_of}
use Rattle.edit_definitions.specs.Planned.{known_names, unknown_in, operations_of}
use Rattle.record_definitions.specs.Brought.{BringsInOrder}

-- what an operation brings is in order, and the places that it names are positions
abbrev pub Fits : Operation → Type 0
Fits operation = BringsOrdered operation × HasPlaces operation

abbrev pub AllBring : List Operation → Type 0
AllBring [] = Unit {0}
AllBring (operation ∷ operations) = Fits operation × AllBring operations

bring-append : (front back : List Operation) → AllBring front → AllBring back → AllBring (front ++ back)
bring-append [] back f b = b
bring-append (operation ∷ front) back f b = (f.0, bring-append front back f.1 b)

bring-if : (t : Bool) (operation : Operation) → Fits operation → AllBring (if t then [] else operation ∷ [])
bring-if true operation h = tt
bring-if false operation h = (h, tt)

insertion-brings : (at : List ℕ) (items : List Item) → AreOrdered items → AllBring (insertion at items)
insertion-brings at [] h = tt
insertion-brings at (item ∷ items) h = ((h, tt), tt)

text-ordered : (text : List ℕ) (attributes : Attributes) → IsOrdered attributes → AreOrdered (map (λ scalar. character scalar attributes) text)
text-ordered [] attributes h = tt
text-ordered (scalar ∷ text) attributes h = (h, text-ordered text attributes h)

mutual
  item-numbered : (next : ℕ) (item : Item) → IsItemOrdered item → IsItemOrdered (item_with_ids next item).0
  item-numbered next (character scalar attributes) h = h
  item-numbered next (element id name attributes children) h = (h.0, inner-numbered (next + 1) children h.1)

  inner-numbered : (next : ℕ) (items : Items) → IsInnerOrdered items → IsInnerOrdered (inner_with_ids next items).0
  inner-numbered next none h = tt
  inner-numbered next (more item items) h = (item-numbered next item h.0, inner-numbered (item_with_ids next item).1 items h.1)

numbered-ordered : (next : ℕ) (items : List Item) → AreOrdered items → AreOrdered (with_ids next items)
numbered-ordered next [] h = tt
numbered-ordered next (item ∷ items) h = (item-numbered next item h.0, numbered-ordered (item_with_ids next item).1 items h.1)

removals-bring : (cell : ℕ) (parts : List Range) → AllBring (removals cell parts)
removals-bring cell [] = tt
removals-bring cell (part ∷ parts) = ((tt, tt), removals-bring (cell + 1) parts)

runs-bring : (parent key : List ℕ) (new : Option AttributeValue) (runs : List Run) → AllBring (attribute_runs parent key new runs)
runs-bring parent key new [] = tt
runs-bring parent key new (run ∷ runs) = ((tt, tt), runs-bring parent key new runs)

parts-bring : (items : List Item) (key : List ℕ) (new : Option AttributeValue) (parts : List Range) → AllBring (flat_map (give_in items key new) parts)
parts-bring items key new [] = tt
parts-bring items key new (part ∷ parts) = bring-append (give_in items key new part) (flat_map (give_in items key new) parts)
    (runs-bring (parent_of part.start) key new (runs_of key new (offset_of part.start) (items_of_range items part))) (parts-bring items key new parts)

-- what is planned, where an edit can be made
abbrev Brings : Result (List Operation) EditFault → Type 0
Brings (Ok operations) = AllBring operations
Brings (Err fault) = Unit {0}

after-step : {A : Type 0} (r : Result A EditFault) (next : A → Result (List Operation) EditFault) → ((a : A) → Brings (next a)) → Brings (r >>= next)
after-step (Ok a) next h = h a
after-step (Err fault) next h = tt

after-check : (b : Bool) (fault : EditFault) (r : Result (List Operation) EditFault) → Brings r → Brings (check b fault >>= (λ _. r))
after-check true fault r h = h
after-check false fault r h = tt

after-true : (b : Bool) (fault : EditFault) (r : Result (List Operation) EditFault) → (b ≡ true → Brings r) → Brings (check b fault >>= (λ _. r))
after-true true fault r h = h refl
after-true false fault r h = tt

-- places that aren't empty
ends-some : (items : List Item) (start end : List ℕ) → (is_range items start end && are_in_one start end) ≡ true → start ≢ []
ends-some items start end e =
    let range = (first_and_second (is_range items start end) (are_in_one start end) e).0 in
    let there = (first_and_second (is_there items start && is_there items end) (not_after start end) range).0 in
    (there-place items start (first_and_second (is_there items start) (is_there items end) there).0).0

pushed-some : (path : List ℕ) (number : ℕ) → path ++ number ∷ [] ≢ []
pushed-some [] number = λ e. cc
pushed-some (first ∷ path) number = λ e. cc

behind-some : (path : List ℕ) → path ≢ [] → behind path ≢ []
behind-some [] some = absurd (some refl)
behind-some (offset ∷ []) some = λ e. cc
behind-some (index ∷ next ∷ path) some = λ e. cc

element-some : (items : List Item) (path : List ℕ) → is_element items path ≡ true → path ≢ []
element-some items [] e = absurd cc
element-some items (index ∷ path) e = λ same. cc

given-brings : (edit : ℕ) (items : List Item) (target : Target) (key : List ℕ) (new : Option AttributeValue) → Brings (given_to edit items target key new)
given-brings edit items target key new = after-step (parts_of edit items target) (λ parts. Ok (flat_map (give_in items key new) parts))
    (λ parts. parts-bring items key new parts)

planned : (registered : List ℕ → Bool) (number : ℕ) (edit : Edit) (state : State) → BringsInOrder edit → Brings (operations_of registered number edit state)
planned registered number (InsertText at text attributes) state h =
    let items = map (λ scalar. character scalar attributes) text in
    after-check (is_there state.document.items at) (BadPosition number at) (Ok (insertion at items))
    (insertion-brings at items (text-ordered text attributes h))
planned registered number (InsertElement at name attributes) state h =
    let items = empty_element state.document.next_id name attributes in
    let all : Result (List Operation) EditFault = Ok (insertion at items) in
    let left : Result (List Operation) EditFault = ids_left number 1 state >>= (λ _. all) in
    let there : Result (List Operation) EditFault = check (is_there state.document.items at) (BadPosition number at) >>= (λ _. left) in
    after-check (is_known registered name) (NotRegistered number name) there
    (after-check (is_there state.document.items at) (BadPosition number at) left
    (after-check (nat_le (state.document.next_id + 1) (2 ^ 63)) (IdsSpent number) all (insertion-brings at items ((h, tt), tt))))
planned registered number (Remove start end) state h =
    let operations = removals (length state.cells) (reverse (flat_parts (child_count state.document.items) (between start end))) in
    after-check (is_range state.document.items start end) (BadRange number start end) (Ok operations)
    (removals-bring (length state.cells) (reverse (flat_parts (child_count state.document.items) (between start end))))
planned registered number (Move start end to) state h =
    let run = move (in_tree start) (count_in start end) (in_tree to) in
    let all : Result (List Operation) EditFault = Ok (moved_run start end to) in
    let outside : Result (List Operation) EditFault = check (not (is_between start end to)) (BadTarget number to) >>= (λ _. all) in
    let flat : Result (List Operation) EditFault =
    check (is_range state.document.items start end && are_in_one start end) (BadRange number start end) >>= (λ _. outside) in
    after-true (is_there state.document.items to) (BadPosition number to) flat (λ there.
    after-true (is_range state.document.items start end && are_in_one start end) (BadRange number start end) outside (λ range.
    after-check (not (is_between start end to)) (BadTarget number to) all
    (bring-if (same_position start end || same_position to start || same_position to end) run
    (tt, (ends-some state.document.items start end range, (there-place state.document.items to there).0)))))
planned registered number (SetAttribute target key value) state h = given-brings number state.document.items target key (Some value)
planned registered number (RemoveAttribute target key) state h = given-brings number state.document.items target key None
planned registered number (Rename path name) state h =
    let old : Result (List ℕ) EditFault = ok_or (option_and_then name_of (item_at path state.document.items)) (BadTarget number path) in
    let all : List ℕ → Result (List Operation) EditFault = λ old. Ok (renaming path old name) in
    after-check (is_known registered name) (NotRegistered number name) (old >>= all)
    (after-step old all (λ old. bring-if (same_position old name) (rename path old name) (tt, tt)))
planned registered number (Split at) state h =
    let all : Result (List Operation) EditFault = Ok (split at (fresh state.document.next_id) ∷ []) in
    let left : Result (List Operation) EditFault = ids_left number 1 state >>= (λ _. all) in
    let inside : Result (List Operation) EditFault = check (nat_le 2 (length at)) (BadTarget number at) >>= (λ _. left) in
    after-check (is_there state.document.items at) (BadPosition number at) inside
    (after-check (nat_le 2 (length at)) (BadTarget number at) left
    (after-check (nat_le (state.document.next_id + 1) (2 ^ 63)) (IdsSpent number) all ((tt, tt), tt)))
planned registered number (Merge at) state h =
    let two = nat_lt 0 (offset_of at) && is_element state.document.items (path_before at) && is_element state.document.items at in
    let only = merge at (path_before at ++ unwrap_or (child_count state.document.items (path_before at)) 0 ∷ []) (length state.cells) in
    let all : Result (List Operation) EditFault = Ok (only ∷ []) in
    let both : Result (List Operation) EditFault = check two (BadTarget number at) >>= (λ _. all) in
    after-check (is_there state.document.items at) (BadPosition number at) both (after-check two (BadTarget number at) all ((tt, tt), tt))
planned registered number (Wrap start end name attributes) state h =
    let items = empty_element state.document.next_id name attributes in
    let run = move (in_tree start) (count_in start end) (in_tree (end ++ 0 ∷ [])) in
    let all : Result (List Operation) EditFault = Ok (insertion end items ++ (if same_position start end then [] else run ∷ [])) in
    let left : Result (List Operation) EditFault = ids_left number 1 state >>= (λ _. all) in
    let flat : Result (List Operation) EditFault =
    check (is_range state.document.items start end && are_in_one start end) (BadRange number start end) >>= (λ _. left) in
    after-check (is_known registered name) (NotRegistered number name) flat
    (after-true (is_range state.document.items start end && are_in_one start end) (BadRange number start end) left (λ range.
    after-check (nat_le (state.document.next_id + 1) (2 ^ 63)) (IdsSpent number) all
    ((((h, tt), tt), tt), bring-if (same_position start end) run (tt, (ends-some state.document.items start end range, pushed-some end 0)))))
planned registered number (Unwrap path) state h =
    let count = unwrap_or (child_count state.document.items path) 0 in
    let items = move (in_tree (path ++ 0 ∷ [])) count (in_tree (behind path)) in
    let shell = move (in_tree path) 1 (in_cell (length state.cells)) in
    after-true (is_element state.document.items path) (BadTarget number path) (Ok ((if count == 0 then [] else items ∷ []) ++ shell ∷ [])) (λ there.
    bring-append (if count == 0 then [] else items ∷ []) (shell ∷ []) (bring-if (count == 0) items
    (tt, (pushed-some path 0, behind-some path (element-some state.document.items path there)))) ((tt, tt), tt))
planned registered number (AddMarker name start end) state h =
    let all : Result (List Operation) EditFault = Ok (marker name None (Some (between start end)) ∷ []) in
    let new : Result (List Operation) EditFault = check (is_none (value_of name state.document.markers)) (MarkerExists number name) >>= (λ _. all) in
    after-check (is_range state.document.items start end) (BadRange number start end) new
    (after-check (is_none (value_of name state.document.markers)) (MarkerExists number name) all ((tt, tt), tt))
planned registered number (UpdateMarker name start end) state h =
    let old : Result Range EditFault = ok_or (value_of name state.document.markers) (MarkerUnknown number name) in
    let all : Range → Result (List Operation) EditFault = λ old. Ok (if same_range old (between start end) then []
    else marker name (Some old) (Some (between start end)) ∷ []) in
    after-check (is_range state.document.items start end) (BadRange number start end) (old >>= all)
    (after-step old all (λ old. bring-if (same_range old (between start end)) (marker name (Some old) (Some (between start end))) (tt, tt)))
planned registered number (RemoveMarker name) state h =
    after-step (ok_or (value_of name state.document.markers) (MarkerUnknown number name)) (λ old. Ok (marker name (Some old) None ∷ [])) (λ old. ((tt, tt), tt))
planned registered number (Select start end backward) state h =
    after-check (is_range state.document.items start end) (BadRange number start end) (Ok []) tt
planned registered number (SelectionAttribute key value) state h = tt
planned registered number (InsertItems at items) state h =
    let new = with_ids state.document.next_id items in
    let all : Result (List Operation) EditFault = Ok (insertion at new) in
    let left : Result (List Operation) EditFault = ids_left number (length (ids_of items)) state >>= (λ _. all) in
    let there : Result (List Operation) EditFault = check (is_there state.document.items at) (BadPosition number at) >>= (λ _. left) in
    after-step (known_names number (unknown_in registered items)) (λ _. there)
    (λ _. after-check (is_there state.document.items at) (BadPosition number at) left
    (after-check (nat_le (state.document.next_id + length (ids_of items)) (2 ^ 63)) (IdsSpent number) all
    (insertion-brings at new (numbered-ordered state.document.next_id items h))))

pub planned_brings : (registered : List ℕ → Bool) (number : ℕ) (edit : Edit) (state : State) (operations : List Operation) → BringsInOrder edit
    → operations_of registered number edit state ≡ Ok operations → AllBring operations
planned_brings registered number edit state operations h e = subst Brings e (planned registered number edit state h)
