-- Each operation keeps a sound document sound.
use Rattle.std.proofs.Common.{◌≡◌, ℕ, zero, suc, ◌+◌, ◌<◌, ◌≤◌, ◌^◌, max, Bool, true, false, not, nat_eq, ◌&&◌, ◌==◌, if◌then◌else◌, List, [], ◌∷◌, ◌++◌, Some}
use Rattle.std.proofs.Common.{None, All, IsTrue, Ok, refl, sym, ap, ◌∙◌, subst, arith}
use Rattle.std.specs.List.{flat_map, IsDistinct, AllByRecursion}
use Rattle.std.specs.Ordering.{is_lt, match_ordering}
use Rattle.std.specs.declared.cmp.Ordering.{Ordering}
use Rattle.std.specs.declared.cmp.Ordering.TheVariants.{Less, Equal, Greater}
use Rattle.std.specs.FinMap.{is_sorted}
use Rattle.std.specs.FinMap.Entries.{below_all, by_order}
use Rattle.std.proofs.lemmas.Bool.Decides.{nat_tests}
use Rattle.std.proofs.lemmas.List.Elements.{All-cons, All-head, All-tail}
use Rattle.ck_base.specs.Entries.{name_cmp, IsOrdered, with_value, without}
use Rattle.ck_base.proofs.Ordered.{ordered_with_value, ordered_without}
use Rattle.ck_base.proofs.Common.{first_and_second}
use Rattle.item_definitions.specs.Item.{Item}
use Rattle.item_definitions.specs.Children.{child_count}
use Rattle.item_definitions.specs.Position.{Range, between, IsRange}
use Rattle.item_definitions.specs.Shift.{Shift, carry_range}
use Rattle.operation_definitions.specs.Operation.{Operation, insert, move, attribute, rename, split, merge, marker}
use Rattle.operation_definitions.specs.After.{after}
use Rattle.operation_definitions.specs.Reversed.{HasPlaces}
use Rattle.operation_definitions.proofs.Steps.{step-ok}
use Rattle.operation_definitions.proofs.Names.{same_numbers}
use Rattle.operation_definitions.proofs.Simple.{after-effect, pair-first}
use Rattle.document_definitions.specs.Markers as markers
use Rattle.document_definitions.specs.Markers.{Markers}
use Rattle.document_definitions.specs.Selection as selections
use Rattle.document_definitions.specs.Selection.{Selection, selected, is_collapsed, same_position, same_range}
use Rattle.document_definitions.specs.Document.{State, ids_of, brought, raised, shift_of, markers_after, changed, applied}
use Rattle.document_definitions.specs.Sound.{ids_in, AreIn, IsSelection, IsSound, IsMarkerIn, IsWelcome}
use Rattle.document_definitions.proofs.Ids.{times, times-append, effect-counts}
use Rattle.document_definitions.proofs.Ranges.{keeps_ranges}
use Rattle.document_definitions.proofs.Limits.{after-limited}

-- distinct ids, by how often each stands there
absent : (id : ℕ) (ids : List ℕ) → AllByRecursion (λ other. nat_eq id other ≡ false) ids → times id ids ≡ 0
absent id [] h = refl
absent id (other ∷ ids) h = (let rest = absent id ids h.1 in ap (λ t. (if t then 1 else 0) + times id ids) h.0 ∙ omega (arith, rest))

apart : (id : ℕ) (ids : List ℕ) → times id ids ≡ 0 → AllByRecursion (λ other. nat_eq id other ≡ false) ids
apart id [] h = tt
apart id (other ∷ ids) h = go (id == other) refl h (apart id ids)
  where
    go : (t : Bool) → (id == other) ≡ t → (if t then 1 else 0) + times id ids ≡ 0 → (times id ids ≡ 0 → AllByRecursion (λ other. nat_eq id other ≡ false) ids)
        → (nat_eq id other ≡ false) × AllByRecursion (λ other. nat_eq id other ≡ false) ids
    go true t h rest = absurd (omega (arith, h))
    go false t h rest = (t, rest (omega (arith, h)))

own : (id : ℕ) → (id == id) ≡ true
own id = grind (arith, nat_tests)

equal : (id other : ℕ) → (id == other) ≡ true → id ≡ other
equal id other e = grind (arith, nat_tests)

counted : (id : ℕ) (ids : List ℕ) → times id (id ∷ ids) ≡ 1 + times id ids
counted id ids = ap (λ t. (if t then 1 else 0) + times id ids) (own id)

at_most_once : (ids : List ℕ) → IsDistinct nat_eq ids → (id : ℕ) → times id ids ≤ 1
unfolding IsDistinct
at_most_once [] h id = omega arith
at_most_once (other ∷ ids) h id = go (id == other) refl (absent other ids h.0) (at_most_once ids h.1 id)
  where
    go : (t : Bool) → (id == other) ≡ t → times other ids ≡ 0 → times id ids ≤ 1 → (if t then 1 else 0) + times id ids ≤ 1
    go true t none rest = (let none_here : times id ids ≡ 0 = ap (λ v. times v ids) (equal id other t) ∙ none in omega (arith, none_here))
    go false t none rest = omega (arith, rest)

distinct_from : (ids : List ℕ) → ((id : ℕ) → times id ids ≤ 1) → IsDistinct nat_eq ids
unfolding IsDistinct
distinct_from [] h = tt
distinct_from (other ∷ ids) h =
    let first = h other in
    let one = counted other ids in
    (apart other ids (omega (arith, first, one)), distinct_from ids (λ id. (let m = h id in omega (arith, m))))

-- what holds of each id that stands in a list
of_each : (P : ℕ → Type 0) (ids : List ℕ) → All P ids → (id : ℕ) → 1 ≤ times id ids → P id
of_each P [] all id h = absurd (omega (arith, h))
of_each P (other ∷ ids) all id h = go (id == other) refl h (of_each P ids (All-tail P other ids all) id)
  where
    go : (t : Bool) → (id == other) ≡ t → 1 ≤ (if t then 1 else 0) + times id ids → (1 ≤ times id ids → P id) → P id
    go true t h rest = subst P (sym (equal id other t)) (All-head P other ids all)
    go false t h rest = rest (omega (arith, h))

each_from : (P : ℕ → Type 0) (ids : List ℕ) → ((id : ℕ) → 1 ≤ times id ids → P id) → All P ids
each_from P [] h = λ k d less. absurd (omega (arith, less))
each_from P (other ∷ ids) h =
    let one = counted other ids in
    All-cons P other ids (h other (omega (arith, one))) (each_from P ids (λ id more. h id (omega (arith, more))))

-- the next id is above all that were drawn
raised-least : (ids : List ℕ) (next : ℕ) → next ≤ raised next ids
raised-least [] next = omega arith
raised-least (id ∷ ids) next = (let rest = raised-least ids (max next (id + 1)) in omega (arith, rest))

raised-above : (ids : List ℕ) (next id : ℕ) → 1 ≤ times id ids → id < raised next ids
raised-above [] next id h = absurd (omega (arith, h))
raised-above (other ∷ ids) next id h = go (id == other) refl h (raised-above ids (max next (other + 1)) id)
  where
    go : (t : Bool) → (id == other) ≡ t → 1 ≤ (if t then 1 else 0) + times id ids → (1 ≤ times id ids → id < raised (max next (other + 1)) ids)
        → id < raised (max next (other + 1)) ids
    go true t h rec = (let same = equal id other t in let rest = raised-least ids (max next (other + 1)) in omega (arith, same, rest))
    go false t h rec = rec (omega (arith, h))

raised-most : (ids : List ℕ) (next : ℕ) → next ≤ 2 ^ 63 → All (λ id. (1 ≤ id) × (id < 2 ^ 63)) ids → raised next ids ≤ 2 ^ 63
raised-most [] next most all = most
raised-most (id ∷ ids) next most all =
    let first = All-head (λ id. (1 ≤ id) × (id < 2 ^ 63)) id ids all in
    raised-most ids (max next (id + 1)) (omega (arith, most, first.1)) (All-tail (λ id. (1 ≤ id) × (id < 2 ^ 63)) id ids all)

-- markers that are carried
carried-in : (shift : Shift) (xs ys : List Item) (all : Markers)
    → ((range : Range) → IsRange (child_count xs) range → IsRange (child_count ys) (carry_range shift range)) → AreIn xs all
    → AreIn ys (markers.carried shift all)
carried-in shift xs ys [] keeps h = λ k d less. absurd (omega (arith, less))
carried-in shift xs ys (entry ∷ all) keeps h =
    All-cons (λ (e : List ℕ × Range). IsRange (child_count ys) e.1) (entry.0, carry_range shift entry.1) (markers.carried shift all)
    (keeps entry.1 (All-head (λ (e : List ℕ × Range). IsRange (child_count xs) e.1) entry all h))
    (carried-in shift xs ys all keeps (All-tail (λ (e : List ℕ × Range). IsRange (child_count xs) e.1) entry all h))

below : (shift : Shift) (name : List ℕ) (all : Markers) → below_all name_cmp name (markers.carried shift all) ≡ below_all name_cmp name all
below shift name [] = refl
below shift name (entry ∷ all) = ap (λ b. is_lt (name_cmp name entry.0) && b) (below shift name all)

still_sorted : (shift : Shift) (all : Markers) → is_sorted name_cmp (markers.carried shift all) ≡ is_sorted name_cmp all
still_sorted shift [] = refl
still_sorted shift (entry ∷ all) = λ t. below shift entry.0 all t && still_sorted shift all t

-- the names of carried markers stay in order
pub carried_ordered : (shift : Shift) (all : Markers) → IsOrdered all → IsOrdered (markers.carried shift all)
carried_ordered shift all h = still_sorted shift all ∙ h

-- a marker with a new range, or taken out
put-in_all : (xs : List Item) (name : List ℕ) (range : Range) (all : Markers) → IsRange (child_count xs) range → AreIn xs all
    → AreIn xs (with_value name range all)
put-in_all xs name range [] there h = All-cons (λ (e : List ℕ × Range). IsRange (child_count xs) e.1) (name, range) [] there h
put-in_all xs name range (entry ∷ all) there h = go (name_cmp name entry.0) (put-in_all xs name range all there (All-tail In entry all h))
  where
    In : List ℕ × Range → Type 0
    In e = IsRange (child_count xs) e.1

    go : (o : Ordering) → AreIn xs (with_value name range all)
        → AreIn xs (by_order o ((name, range) ∷ entry ∷ all) ((entry.0, range) ∷ all) (entry ∷ with_value name range all))
    go Less rest = All-cons In (name, range) (entry ∷ all) there h
    go Equal rest = All-cons In (entry.0, range) all there (All-tail In entry all h)
    go Greater rest = All-cons In entry (with_value name range all) (All-head In entry all h) rest

taken-from_all : (xs : List Item) (name : List ℕ) (all : Markers) → AreIn xs all → AreIn xs (without name all)
taken-from_all xs name [] h = h
taken-from_all xs name (entry ∷ all) h = go (name_cmp name entry.0) (taken-from_all xs name all (All-tail In entry all h))
  where
    In : List ℕ × Range → Type 0
    In e = IsRange (child_count xs) e.1

    go : (o : Ordering) → AreIn xs (without name all) → AreIn xs (match_ordering o (entry ∷ all) all (entry ∷ without name all))
    go Less rest = h
    go Equal rest = All-tail In entry all h
    go Greater rest = All-cons In entry (without name all) (All-head In entry all h) rest

same-range : (range other : Range) → same_range range other ≡ true → range ≡ other
same-range range other e =
    let b = first_and_second (same_position range.start other.start) (same_position range.end other.end) e in
    λ i. between (same_numbers range.start other.start b.0 i) (same_numbers range.end other.end b.1 i)

selected-in : (ys : List Item) (range : Range) (backward : Bool) → IsRange (child_count ys) range → IsSelection ys (selected range backward)
selected-in ys range backward there = (there, λ collapsed. forward (is_collapsed range) collapsed backward)
  where
    forward : (t : Bool) → IsTrue t → (backward : Bool) → (backward && not t) ≡ false
    forward true h true = refl
    forward true h false = refl
    forward false h backward = cc

selection-in : (shift : Shift) (xs ys : List Item) (selection : Selection)
    → (IsRange (child_count xs) selection.range → IsRange (child_count ys) (carry_range shift selection.range))
    → IsSelection xs selection → IsSelection ys (selections.carried shift selection)
selection-in shift xs ys selection keeps h = go (same_range (carry_range shift selection.range) selection.range) refl
  where
    go : (t : Bool) → same_range (carry_range shift selection.range) selection.range ≡ t
        → IsSelection ys (if t then selection else selected (carry_range shift selection.range) selection.backward)
    go true t = (subst (IsRange (child_count ys)) (same-range (carry_range shift selection.range) selection.range t) (keeps h.0), h.1)
    go false t = selected-in ys (carry_range shift selection.range) selection.backward (keeps h.0)

overrides-ordered : (shift : Shift) (selection : Selection) → IsOrdered selection.overrides → IsOrdered (selections.carried shift selection).overrides
overrides-ordered shift selection h = go (same_range (carry_range shift selection.range) selection.range)
  where
    go : (t : Bool) → IsOrdered (if t then selection else selected (carry_range shift selection.range) selection.backward).overrides
    go true = h
    go false = refl

-- the ids of what an operation makes: those from before, and what it brings
made-times : (operation : Operation) (state : State) (made : List Item × List (List Item)) → after state.document.items state.cells operation ≡ Ok made
    → (id : ℕ)
    → times id (ids_in made.0 made.1) ≡ times id (brought operation ++ ids_in state.document.items state.cells)
made-times operation state made e id =
    let a = effect-counts id state.document.items state.cells operation made (after-effect state.document.items state.cells operation made e) in
    let b = times-append id (ids_of made.0) (flat_map ids_of made.1) in
    let c = times-append id (ids_of state.document.items) (flat_map ids_of state.cells) in
    let d = times-append id (brought operation) (ids_in state.document.items state.cells) in
    omega (arith, a, b, c, d)

-- all markers but the one that is named are carried, and none is named by another operation
markers-in : (operation : Operation) (state : State) (made : List Item × List (List Item)) → HasPlaces operation → IsWelcome operation state
    → after state.document.items state.cells operation ≡ Ok made
    → AreIn state.document.items state.document.markers → AreIn made.0 (markers_after operation state.document.markers)
markers-in operation state made places fits e h =
    go operation fits.ranged (λ range there. keeps_ranges state.document.items state.cells operation made range places e there) (same operation e)
  where
    all : Markers
    all = state.document.markers

    -- a marker's operation leaves the items
    Stays : Operation → Type 0
    Stays (marker name old new) = state.document.items ≡ made.0
    Stays operation = Unit {0}

    same : (operation : Operation) → after state.document.items state.cells operation ≡ Ok made → Stays operation
    same (marker name old new) e = pair-first (state.document.items, state.cells) made
        (after-effect state.document.items state.cells (marker name old new) made e)
    same (insert position new) e = tt
    same (move from count to) e = tt
    same (attribute range key old new) e = tt
    same (rename path old new) e = tt
    same (split position source) e = tt
    same (merge right target cell) e = tt

    Keeps : Operation → Type 0
    Keeps operation = (range : Range) → IsRange (child_count state.document.items) range → IsRange (child_count made.0) (carry_range (shift_of operation) range)

    go : (operation : Operation) → IsMarkerIn state.document.items operation → Keeps operation → Stays operation → AreIn made.0 (markers_after operation all)
    go (marker name old None) ranged keeps stays = subst (λ xs. AreIn xs (without name all)) stays (taken-from_all state.document.items name all h)
    go (marker name old (Some range)) ranged keeps stays = subst (λ xs. AreIn xs (with_value name range all)) stays
        (put-in_all state.document.items name range all ranged h)
    go (insert position new) ranged keeps stays = carried-in (shift_of (insert position new)) state.document.items made.0 all keeps h
    go (move from count to) ranged keeps stays = carried-in (shift_of (move from count to)) state.document.items made.0 all keeps h
    go (attribute range key old new) ranged keeps stays = carried-in (shift_of (attribute range key old new)) state.document.items made.0 all keeps h
    go (rename path old new) ranged keeps stays = carried-in (shift_of (rename path old new)) state.document.items made.0 all keeps h
    go (split position source) ranged keeps stays = carried-in (shift_of (split position source)) state.document.items made.0 all keeps h
    go (merge right target cell) ranged keeps stays = carried-in (shift_of (merge right target cell)) state.document.items made.0 all keeps h

markers-named : (operation : Operation) (all : Markers) → IsOrdered all → IsOrdered (markers_after operation all)
markers-named (marker name old None) all h = ordered_without name all h
markers-named (marker name old (Some range)) all h = ordered_with_value name range all h
markers-named (insert position new) all h = carried_ordered (shift_of (insert position new)) all h
markers-named (move from count to) all h = carried_ordered (shift_of (move from count to)) all h
markers-named (attribute range key old new) all h = carried_ordered (shift_of (attribute range key old new)) all h
markers-named (rename path old new) all h = carried_ordered (shift_of (rename path old new)) all h
markers-named (split position source) all h = carried_ordered (shift_of (split position source)) all h
markers-named (merge right target cell) all h = carried_ordered (shift_of (merge right target cell)) all h

changed-sound : (operation : Operation) (state : State) (made : List Item × List (List Item)) → IsSound state → HasPlaces operation
    → IsWelcome operation state → after state.document.items state.cells operation ≡ Ok made
    → IsSound (changed operation state made)
changed-sound operation state made sound places fits e =
    let next = state.document.next_id in
    let old = ids_in state.document.items state.cells in
    let ids = ids_in made.0 made.1 in
    let counts = made-times operation state made e in
    let once = at_most_once (brought operation ++ old) fits.fresh in
    record {
      distinct = distinct_from ids (λ id. (let a = counts id in let b = once id in omega (arith, a, b)));
      drawn = each_from (λ id. (1 ≤ id) × (id < raised next (brought operation))) ids
          (λ id here. known id (let a = counts id in let b = times-append id (brought operation) old in omega (arith, a, b, here)));
      next = raised-most (brought operation) next sound.next fits.known;
      some = (let least = raised-least (brought operation) next in let first = sound.some in omega (arith, least, first));
      markers = markers-in operation state made places fits e sound.markers;
      named = markers-named operation state.document.markers sound.named;
      selection = selection-in (shift_of operation) state.document.items made.0 state.document.selection
          (keeps_ranges state.document.items state.cells operation made state.document.selection.range places e) sound.selection;
      keyed = overrides-ordered (shift_of operation) state.document.selection sound.keyed;
      limited = after-limited state.document.items state.cells operation made e;
    }
  where
    known : (id : ℕ) → 1 ≤ times id (brought operation) + times id (ids_in state.document.items state.cells)
        → (1 ≤ id) × (id < raised state.document.next_id (brought operation))
    known id here = go (times id (brought operation)) refl here
      where
        go : (n : ℕ) → times id (brought operation) ≡ n → 1 ≤ n + times id (ids_in state.document.items state.cells)
            → (1 ≤ id) × (id < raised state.document.next_id (brought operation))
        go zero e here =
            let was = of_each (λ id. (1 ≤ id) × (id < state.document.next_id)) (ids_in state.document.items state.cells) sound.drawn id (omega (arith, here)) in
            let least = raised-least (brought operation) state.document.next_id in
            (was.0, omega (arith, was.1, least))
        go (suc n) e here =
            let came : 1 ≤ times id (brought operation) = omega (arith, e) in (
              (of_each (λ id. (1 ≤ id) × (id < 2 ^ 63)) (brought operation) fits.known id came).0,
              raised-above (brought operation)
                  state.document.next_id id came,
            )

pub keeps_soundness : (operation : Operation) (state new : State) → IsSound state → HasPlaces operation → IsWelcome operation state
    → applied operation state ≡ Ok new → IsSound new
keeps_soundness operation state new sound places fits e =
    let a = step-ok (after state.document.items state.cells operation) (λ made. Ok (changed operation state made)) new e in
    let same : changed operation state a.0 ≡ new = cc in
    subst IsSound same (changed-sound operation state a.0 sound places fits a.1)
