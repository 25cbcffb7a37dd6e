-- What an edit plans on a sound document brings new ids alone, and ranges of markers that are in the tree.
use Rattle.std.proofs.Common.{◌≡◌, ◌≢◌, ℕ, ◌+◌, ◌<◌, ◌≤◌, ◌^◌, Bool, true, false, not, nat_eq, nat_le, nat_lt, ◌&&◌, ◌||◌, ◌==◌, if◌then◌else◌, List, [], ◌∷◌}
use Rattle.std.proofs.Common.{◌++◌, map, length, reverse, Option, Some, None, ok_or, option_and_then, unwrap_or, is_none, IsSomeAnd, Result, Ok, Err, All, refl}
use Rattle.std.proofs.Common.{sym, subst, arith}
use Rattle.std.specs.Option.{option_map_or}
use Rattle.std.specs.List.{flat_map, IsDistinct, range_with_len}
use Rattle.std.proofs.lemmas.Bool.Decides.{nat_tests}
use Rattle.ck_base.specs.declared.value.Value.{Value as AttributeValue}
use Rattle.ck_base.specs.declared.faults.EditFault.{EditFault}
use Rattle.ck_base.specs.declared.faults.EditFault.TheVariants.{NotRegistered, BadPosition, BadRange, BadTarget, MarkerExists, MarkerUnknown, IdsSpent}
use Rattle.ck_base.specs.Entries.{value_of}
use Rattle.ck_base.proofs.Common.{first_and_second}
use Rattle.item_definitions.specs.Item.{Item, Attributes, character}
use Rattle.item_definitions.specs.Children.{parent_of, offset_of, child_count, item_at}
use Rattle.item_definitions.specs.Position.{Range, between, behind, not_after, IsPlace, IsRange, path_before}
use Rattle.item_definitions.specs.FlatParts.{flat_parts}
use Rattle.operation_definitions.specs.Operation.{Operation, in_tree, in_cell, fresh, insert, move, attribute, rename, split, merge, marker}
use Rattle.operation_definitions.specs.Reversed.{HasPlaces}
use Rattle.document_definitions.specs.Selection.{same_position, same_range}
use Rattle.document_definitions.specs.Document.{State, ids_of}
use Rattle.document_definitions.specs.Sound.{IsSound, ids_in, IsWelcome}
use Rattle.document_definitions.proofs.Soundness.{keeps_soundness}
use Rattle.edit_definitions.specs.declared.edit.Edit.{Edit}
use Rattle.edit_definitions.specs.declared.edit.Edit.TheVariants.{InsertText, InsertElement, Remove, Move, SetAttribute, RemoveAttribute, Rename, Split, Merge}
use Rattle.edit_definitions.specs.declared.edit.Edit.TheVariants.{Wrap, Unwrap, AddMarker, UpdateMarker, RemoveMarker, Select, SelectionAttribute, InsertItems}
use Rattle.edit_definitions.specs.declared.edit.Target.{Target}
use Rattle.edit_definitions.specs.Places.{is_there, is_range, are_in_one, is_element, is_between, is_known}
use Rattle.edit_definitions.specs.Planned.{◌>>=◌, check, ids_left, count_in, insertion, empty_element, removals, moved_run, parts_of, given_to, name_of}
use Rattle.edit_definitions.specs.Planned.{renaming, unknown_in, known_names, marker_of, operations_of}
use Rattle.edit_definitions.specs.Runs.{Run, runs_of, items_of_range, attribute_runs, give_in, with_ids}
use Rattle.model_doc.specs.Conditions.{AreWelcome}
use Rattle.model_doc.proofs.NextIds.{ids-characters}
use Rattle.edit_definitions.proofs.Drawn.{ids-numbered, distinct-from, known-from}

-- an operation that brings nothing
abbrev IsQuiet : Operation → Type 0
IsQuiet (insert position new) = ids_of new ≡ []
IsQuiet (move from count to) = HasPlaces (move from count to)
IsQuiet (split position source) = ⊥
IsQuiet (marker name old (Some range)) = ⊥
IsQuiet operation = Unit {0}

abbrev AllQuiet : List Operation → Type 0
AllQuiet [] = Unit {0}
AllQuiet (operation ∷ operations) = IsQuiet operation × AllQuiet operations

all-quiet-append : (front back : List Operation) → AllQuiet front → AllQuiet back → AllQuiet (front ++ back)
all-quiet-append [] back h k = k
all-quiet-append (operation ∷ front) back h k = (h.0, all-quiet-append front back h.1 k)

no-ids : All (λ id. (1 ≤ id) × (id < 2 ^ 63)) []
no-ids = λ k d less. absurd (omega arith)

quiet-welcome : (operation : Operation) (state : State) → IsSound state → IsQuiet operation → IsWelcome operation state
quiet-welcome (insert position new) state sound quiet = record {
  fresh = subst (λ ids. IsDistinct nat_eq (ids ++ ids_in state.document.items state.cells)) (sym quiet) sound.distinct;
  known = subst (λ ids. All (λ id. (1 ≤ id) × (id < 2 ^ 63)) ids) (sym quiet) no-ids;
  ranged = tt;
}
quiet-welcome (move from count to) state sound quiet = record { fresh = sound.distinct; known = no-ids; ranged = tt }
quiet-welcome (attribute range key old new) state sound quiet = record { fresh = sound.distinct; known = no-ids; ranged = tt }
quiet-welcome (rename path old new) state sound quiet = record { fresh = sound.distinct; known = no-ids; ranged = tt }
quiet-welcome (split position source) state sound quiet = absurd quiet
quiet-welcome (merge right target cell) state sound quiet = record { fresh = sound.distinct; known = no-ids; ranged = tt }
quiet-welcome (marker name old None) state sound quiet = record { fresh = sound.distinct; known = no-ids; ranged = tt }
quiet-welcome (marker name old (Some range)) state sound quiet = absurd quiet

quiet-places : (operation : Operation) → IsQuiet operation → HasPlaces operation
quiet-places (insert position new) quiet = tt
quiet-places (move from count to) quiet = quiet
quiet-places (attribute range key old new) quiet = tt
quiet-places (rename path old new) quiet = tt
quiet-places (split position source) quiet = absurd quiet
quiet-places (merge right target cell) quiet = tt
quiet-places (marker name old new) quiet = tt

all-quiet : (operations : List Operation) (state : State) → IsSound state → AllQuiet operations → AreWelcome operations state
all-quiet [] state sound quiet = tt
all-quiet (operation ∷ operations) state sound quiet =
    let welcome = quiet-welcome operation state sound quiet.0 in
    (welcome, λ made e. all-quiet operations made (keeps_soundness operation state made sound (quiet-places operation quiet.0) welcome e) quiet.1)

-- a first operation that may bring something, and then others that bring nothing
then-quiet : (operation : Operation) (operations : List Operation) (state : State) → IsSound state → HasPlaces operation → IsWelcome operation state
    → AllQuiet operations → AreWelcome (operation ∷ operations) state
then-quiet operation operations state sound places welcome quiet =
    (welcome, λ made e. all-quiet operations made (keeps_soundness operation state made sound places welcome e) quiet)

-- items that come in with new ids
insert-welcome : (at : List ℕ) (items : List Item) (count : ℕ) (state : State) → IsSound state
    → ids_of items ≡ range_with_len state.document.next_id count → state.document.next_id + count ≤ 2 ^ 63 → IsWelcome (insert at items) state
insert-welcome at items count state sound ids left = record {
  fresh = subst (λ xs. IsDistinct nat_eq (xs ++ ids_in state.document.items state.cells)) (sym ids)
      (distinct-from state.document.next_id count (ids_in state.document.items state.cells) sound.drawn sound.distinct);
  known = subst (λ xs. All (λ id. (1 ≤ id) × (id < 2 ^ 63)) xs) (sym ids) (known-from state.document.next_id count sound.some left);
  ranged = tt;
}

insertion-welcome : (at : List ℕ) (items : List Item) (count : ℕ) (state : State) → IsSound state
    → ids_of items ≡ range_with_len state.document.next_id count → state.document.next_id + count ≤ 2 ^ 63 → AreWelcome (insertion at items) state
insertion-welcome at [] count state sound ids left = tt
insertion-welcome at (item ∷ items) count state sound ids left = then-quiet (insert at (item ∷ items)) [] state sound tt
    (insert-welcome at (item ∷ items) count state sound ids left) tt

-- what is planned, where an edit can be made
abbrev Welcome : State → Result (List Operation) EditFault → Type 0
Welcome state (Ok operations) = AreWelcome operations state
Welcome state (Err fault) = Unit {0}

after-check : (state : State) (b : Bool) (fault : EditFault) (next : Unit {0} → Result (List Operation) EditFault)
    → (b ≡ true → Welcome state (next tt)) → Welcome state (check b fault >>= next)
after-check state true fault next h = h refl
after-check state false fault next h = tt

after-some : {A : Type 0} (state : State) (o : Option A) (fault : EditFault) (next : A → Result (List Operation) EditFault)
    → ((a : A) → o ≡ Some a → Welcome state (next a)) → Welcome state (ok_or o fault >>= next)
after-some state None fault next h = tt
after-some state (Some a) fault next h = h a refl

after-all : {A : Type 0} (state : State) (r : Result A EditFault) (next : A → Result (List Operation) EditFault) → ((a : A) → Welcome state (next a))
    → Welcome state (r >>= next)
after-all state (Ok a) next h = h a
after-all state (Err fault) next h = tt

left-over : (next count : ℕ) → nat_le (next + count) (2 ^ 63) ≡ true → next + count ≤ 2 ^ 63
left-over next count e = grind (arith, nat_tests)

-- places that are there
there-some : (items : List Item) (position : List ℕ) → is_there items position ≡ true → position ≢ []
there-some items [] e = absurd cc
there-some items (number ∷ path) e = λ same. cc

there-place : (items : List Item) (position : List ℕ) → is_there items position ≡ true → IsPlace (child_count items) position
there-place items [] e = absurd cc
there-place items (number ∷ path) e = ((λ same. cc), go (child_count items (parent_of (number ∷ path))) e)
  where
    go : (o : Option ℕ) → option_map_or (λ count. nat_le (offset_of (number ∷ path)) count) o false ≡ true
        → IsSomeAnd o (λ count. offset_of (number ∷ path) ≤ count)
    go None e = absurd cc
    go (Some count) e = grind (arith, nat_tests)

record Ranged (items : List Item) (start end : List ℕ) : Type 0 where
  first : is_there items start ≡ true
  last : is_there items end ≡ true
  order : not_after start end ≡ true

ranged : (items : List Item) (start end : List ℕ) → is_range items start end ≡ true → Ranged items start end
ranged items start end e =
    let a = first_and_second (is_there items start && is_there items end) (not_after start end) e in
    let b = first_and_second (is_there items start) (is_there items end) a.0 in
    record { first = b.0; last = b.1; order = a.1 }

pub range_there : (items : List Item) (start end : List ℕ) → is_range items start end ≡ true → IsRange (child_count items) (between start end)
range_there items start end e = (let r = ranged items start end e in (there-place items start r.first, there-place items end r.last, r.order))

-- the operations of single edits
removals-quiet : (cell : ℕ) (parts : List Range) → AllQuiet (removals cell parts)
removals-quiet cell [] = tt
removals-quiet cell (part ∷ parts) = (tt, removals-quiet (cell + 1) parts)

attribute-quiet : (parent key : List ℕ) (new : Option AttributeValue) (runs : List Run) → AllQuiet (attribute_runs parent key new runs)
attribute-quiet parent key new [] = tt
attribute-quiet parent key new (run ∷ runs) = (tt, attribute-quiet parent key new runs)

given-quiet : (items : List Item) (key : List ℕ) (new : Option AttributeValue) (parts : List Range) → AllQuiet (flat_map (give_in items key new) parts)
given-quiet items key new [] = tt
given-quiet items key new (part ∷ parts) =
    all-quiet-append (give_in items key new part) (flat_map (give_in items key new) parts)
    (attribute-quiet (parent_of part.start) key new (runs_of key new (offset_of part.start) (items_of_range items part))) (given-quiet items key new parts)

if-quiet : (t : Bool) (operation : Operation) → IsQuiet operation → AllQuiet (if t then [] else operation ∷ [])
if-quiet true operation quiet = tt
if-quiet false operation quiet = (quiet, tt)

text-welcome : (at text : List ℕ) (attributes : Attributes) (state : State) → IsSound state
    → AreWelcome (insertion at (map (λ scalar. character scalar attributes) text)) state
text-welcome at text attributes state sound = go (map (λ scalar. character scalar attributes) text) (ids-characters attributes text)
  where
    go : (items : List Item) → ids_of items ≡ [] → AreWelcome (insertion at items) state
    go [] ids = tt
    go (item ∷ items) ids = all-quiet (insert at (item ∷ items) ∷ []) state sound (ids, tt)

pushed-some : (path : List ℕ) (number : ℕ) → path ++ number ∷ [] ≢ []
pushed-some [] number = λ e. cc
pushed-some (first ∷ path) number = λ e. cc

behind-some : (path : List ℕ) → path ≢ [] → behind path ≢ []
behind-some [] some = absurd (some refl)
behind-some (offset ∷ []) some = λ e. cc
behind-some (index ∷ next ∷ path) some = λ e. cc

element-some : (items : List Item) (path : List ℕ) → is_element items path ≡ true → path ≢ []
element-some items [] e = absurd cc
element-some items (index ∷ path) e = λ same. cc

marker-welcome : (name : List ℕ) (old : Option Range) (start end : List ℕ) (state : State) → IsSound state → is_range state.document.items start end
    ≡ true → AreWelcome (marker name old (Some (between start end)) ∷ []) state
marker-welcome name old start end state sound e =
    then-quiet (marker name old (Some (between start end))) [] state sound tt
    (record { fresh = sound.distinct; known = no-ids; ranged = range_there state.document.items start end e }) tt

given-welcome : (edit : ℕ) (target : Target) (key : List ℕ) (new : Option AttributeValue) (state : State) → IsSound state
    → Welcome state (given_to edit state.document.items target key new)
given-welcome edit target key new state sound =
    after-all state (parts_of edit state.document.items target) (λ parts. Ok (flat_map (give_in state.document.items key new) parts))
    (λ parts. all-quiet (flat_map (give_in state.document.items key new) parts) state sound (given-quiet state.document.items key new parts))

planned : (registered : List ℕ → Bool) (number : ℕ) (edit : Edit) (state : State) → IsSound state → Welcome state (operations_of registered number edit state)
planned registered number (InsertText at text attributes) state sound =
    after-check state (is_there state.document.items at) (BadPosition number at)
    (λ _. Ok (insertion at (map (λ scalar. character scalar attributes) text))) (λ _. text-welcome at text attributes state sound)
planned registered number (InsertElement at name attributes) state sound =
    let last : Unit {0} → Result (List Operation) EditFault = λ _. Ok (insertion at (empty_element state.document.next_id name attributes)) in
    let next : Unit {0} → Result (List Operation) EditFault = λ _. ids_left number 1 state >>= last in
    after-check state (is_known registered name) (NotRegistered number name) (λ _. check (is_there state.document.items at) (BadPosition number at) >>= next)
    (λ _. after-check state (is_there state.document.items at) (BadPosition number at) next
    (λ _. after-check state (nat_le (state.document.next_id + 1) (2 ^ 63)) (IdsSpent number) last
    (λ left. insertion-welcome at (empty_element state.document.next_id name attributes) 1 state sound refl (left-over state.document.next_id 1 left))))
planned registered number (Remove start end) state sound =
    after-check state (is_range state.document.items start end) (BadRange number start end)
    (λ _. Ok (removals (length state.cells) (reverse (flat_parts (child_count state.document.items) (between start end)))))
    (λ _. all-quiet (removals (length state.cells) (reverse (flat_parts (child_count state.document.items) (between start end)))) state sound
    (removals-quiet (length state.cells) (reverse (flat_parts (child_count state.document.items) (between start end)))))
planned registered number (Move start end to) state sound =
    let last : Unit {0} → Result (List Operation) EditFault = λ _. Ok (moved_run start end to) in
    let next : Unit {0} → Result (List Operation) EditFault = λ _. check (not (is_between start end to)) (BadTarget number to) >>= last in
    after-check state (is_there state.document.items to) (BadPosition number to)
    (λ _. check (is_range state.document.items start end && are_in_one start end) (BadRange number start end) >>= next)
    (λ there. after-check state (is_range state.document.items start end && are_in_one start end) (BadRange number start end) next
    (λ flat. after-check state (not (is_between start end to)) (BadTarget number to) last
    (λ _. all-quiet (moved_run start end to) state sound
    (if-quiet (same_position start end || same_position to start || same_position to end) (move (in_tree start) (count_in start end) (in_tree to))
    (let r = ranged state.document.items start end (first_and_second (is_range state.document.items start end) (are_in_one start end) flat).0
    in (there-some state.document.items start r.first, there-some state.document.items to there))))))
planned registered number (SetAttribute target key value) state sound = given-welcome number target key (Some value) state sound
planned registered number (RemoveAttribute target key) state sound = given-welcome number target key None state sound
planned registered number (Rename path name) state sound =
    let last : List ℕ → Result (List Operation) EditFault = λ old. Ok (renaming path old name) in
    after-check state (is_known registered name) (NotRegistered number name)
    (λ _. ok_or (option_and_then name_of (item_at path state.document.items)) (BadTarget number path) >>= last)
    (λ _. after-some state (option_and_then name_of (item_at path state.document.items)) (BadTarget number path) last
    (λ old _. all-quiet (renaming path old name) state sound (if-quiet (same_position old name) (rename path old name) tt)))
planned registered number (Split at) state sound =
    let last : Unit {0} → Result (List Operation) EditFault = λ _. Ok (split at (fresh state.document.next_id) ∷ []) in
    let next : Unit {0} → Result (List Operation) EditFault = λ _. ids_left number 1 state >>= last in
    after-check state (is_there state.document.items at) (BadPosition number at) (λ _. check (nat_le 2 (length at)) (BadTarget number at) >>= next)
    (λ _. after-check state (nat_le 2 (length at)) (BadTarget number at) next
    (λ _. after-check state (nat_le (state.document.next_id + 1) (2 ^ 63)) (IdsSpent number) last
    (λ left. then-quiet (split at (fresh state.document.next_id)) [] state sound tt (record {
      fresh = distinct-from state.document.next_id 1 (ids_in state.document.items state.cells) sound.drawn sound.distinct;
      known = known-from state.document.next_id 1 sound.some (left-over state.document.next_id 1 left);
      ranged = tt;
    }) tt)))
planned registered number (Merge at) state sound =
    let two = nat_lt 0 (offset_of at) && is_element state.document.items (path_before at) && is_element state.document.items at in
    let only = merge at (path_before at ++ unwrap_or (child_count state.document.items (path_before at)) 0 ∷ []) (length state.cells) in
    after-check state (is_there state.document.items at) (BadPosition number at) (λ _. check two (BadTarget number at) >>= (λ _. Ok (only ∷ [])))
    (λ _. after-check state two (BadTarget number at) (λ _. Ok (only ∷ [])) (λ _. all-quiet (only ∷ []) state sound (tt, tt)))
planned registered number (Wrap start end name attributes) state sound =
    let items = empty_element state.document.next_id name attributes in
    let run = move (in_tree start) (count_in start end) (in_tree (end ++ 0 ∷ [])) in
    let last : Unit {0} → Result (List Operation) EditFault = λ _. Ok (insertion end items ++ (if same_position start end then [] else run ∷ [])) in
    let next : Unit {0} → Result (List Operation) EditFault = λ _. ids_left number 1 state >>= last in
    after-check state (is_known registered name) (NotRegistered number name)
    (λ _. check (is_range state.document.items start end && are_in_one start end) (BadRange number start end) >>= next)
    (λ _. after-check state (is_range state.document.items start end && are_in_one start end) (BadRange number start end) next
    (λ flat. after-check state (nat_le (state.document.next_id + 1) (2 ^ 63)) (IdsSpent number) last
    (λ left. then-quiet (insert end items) (if same_position start end then [] else run ∷ []) state sound tt
    (insert-welcome end items 1 state sound refl (left-over state.document.next_id 1 left))
    (if-quiet (same_position start end) run
    (let r = ranged state.document.items start end (first_and_second (is_range state.document.items start end) (are_in_one start end) flat).0
    in (there-some state.document.items start r.first, pushed-some end 0))))))
planned registered number (Unwrap path) state sound =
    let count = unwrap_or (child_count state.document.items path) 0 in
    let items = move (in_tree (path ++ 0 ∷ [])) count (in_tree (behind path)) in
    let shell = move (in_tree path) 1 (in_cell (length state.cells)) in
    let all = (if count == 0 then [] else items ∷ []) ++ shell ∷ [] in
    after-check state (is_element state.document.items path) (BadTarget number path) (λ _. Ok all)
    (λ there. all-quiet all state sound
    (all-quiet-append (if count == 0 then [] else items ∷ []) (shell ∷ [])
    (if-quiet (count == 0) items (pushed-some path 0, behind-some path (element-some state.document.items path there))) (tt, tt)))
planned registered number (AddMarker name start end) state sound =
    let last : Unit {0} → Result (List Operation) EditFault = λ _. Ok (marker name None (Some (between start end)) ∷ []) in
    after-check state (is_range state.document.items start end) (BadRange number start end)
    (λ _. check (is_none (value_of name state.document.markers)) (MarkerExists number name) >>= last)
    (λ there. after-check state (is_none (value_of name state.document.markers)) (MarkerExists number name) last
    (λ _. marker-welcome name None start end state sound there))
planned registered number (UpdateMarker name start end) state sound =
    let last : Range → Result (List Operation) EditFault = λ old. Ok (if same_range old (between start end) then []
    else marker name (Some old) (Some (between start end)) ∷ []) in
    after-check state (is_range state.document.items start end) (BadRange number start end) (λ _. marker_of number name state >>= last)
    (λ there. after-some state (value_of name state.document.markers) (MarkerUnknown number name) last
    (λ old _. go (same_range old (between start end)) old there))
  where
    go : (t : Bool) (old : Range) → is_range state.document.items start end ≡ true
        → AreWelcome (if t then [] else marker name (Some old) (Some (between start end)) ∷ []) state
    go true old there = tt
    go false old there = marker-welcome name (Some old) start end state sound there
planned registered number (RemoveMarker name) state sound =
    after-some state (value_of name state.document.markers) (MarkerUnknown number name) (λ old. Ok (marker name (Some old) None ∷ []))
    (λ old _. all-quiet (marker name (Some old) None ∷ []) state sound (tt, tt))
planned registered number (Select start end backward) state sound = after-check state (is_range state.document.items start end)
    (BadRange number start end) (λ _. Ok []) (λ _. tt)
planned registered number (SelectionAttribute key value) state sound = tt
planned registered number (InsertItems at items) state sound =
    let last : Unit {0} → Result (List Operation) EditFault = λ _. Ok (insertion at (with_ids state.document.next_id items)) in
    let next : Unit {0} → Result (List Operation) EditFault = λ _. ids_left number (length (ids_of items)) state >>= last in
    after-all state (known_names number (unknown_in registered items)) (λ _. check (is_there state.document.items at) (BadPosition number at) >>= next)
    (λ _. after-check state (is_there state.document.items at) (BadPosition number at) next
    (λ _. after-check state (nat_le (state.document.next_id + length (ids_of items)) (2 ^ 63)) (IdsSpent number) last
    (λ left. insertion-welcome at (with_ids state.document.next_id items) (length (ids_of items)) state sound
    (ids-numbered state.document.next_id items) (left-over state.document.next_id (length (ids_of items)) left))))

-- so the operations that are planned are welcome
pub planned_welcome : (registered : List ℕ → Bool) (number : ℕ) (edit : Edit) (state : State) (operations : List Operation) → IsSound state
    → operations_of registered number edit state ≡ Ok operations → AreWelcome operations state
planned_welcome registered number edit state operations sound e = subst (Welcome state) e (planned registered number edit state sound)
