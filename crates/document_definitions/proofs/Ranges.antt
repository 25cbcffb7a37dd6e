-- Each operation carries positions and ranges that are in the tree into the tree that it makes.
use Rattle.std.proofs.Common.{◌≡◌, ◌≢◌, ℕ, ◌-◌, ◌<◌, Bool, true, false, not, nat_eq, nat_lt, nat_le, if◌then◌else◌, List, [], ◌∷◌, ◌++◌, length, set, Some}
use Rattle.std.proofs.Common.{ok_or, Result, Ok, refl, sym, ap, subst, arith}
use Rattle.std.specs.Cmp.Lexicographic.{pointwise}
use Rattle.std.proofs.lemmas.Bool.Decides.{nat_tests}
use Rattle.item_definitions.specs.Item.{Item, character, element, none, more, inner}
use Rattle.item_definitions.specs.Children.{Change, parent_of, offset_of, at, child_count}
use Rattle.item_definitions.specs.Position.{Range, between, IsRange, not_after, is_before}
use Rattle.item_definitions.specs.Shift as shifts
use Rattle.item_definitions.specs.Shift.{Stick, Shift, to_next, to_previous, stay, remove, carry, carry_insert, carry_remove, carried_ends, carry_range, within}
use Rattle.item_definitions.specs.Shift.{rule_insert, rule_remove, rule_split, rule_merge, lies_in_run, with_run}
use Rattle.item_definitions.proofs.Order.{not_after-itself}
use Rattle.operation_definitions.specs.Level.{put_in, take_out, give, rename_at, split_at, merge_at}
use Rattle.operation_definitions.specs.Operation.{Fault, Operation, in_tree, in_cell, fresh, from_cell, insert, move, attribute, rename, split, merge, marker}
use Rattle.operation_definitions.specs.Operation.{no_place, not_flat, into_itself, old_differs, not_neighbours, cell_state, found_name}
use Rattle.operation_definitions.specs.After.{◌>>=◌, check, after, effect, in_cell_at, is_free, fill, holds_count, shell_of, like, room_at, is_in_run}
use Rattle.operation_definitions.specs.After.{have_value}
use Rattle.operation_definitions.specs.Reversed.{HasPlaces}
use Rattle.operation_definitions.proofs.Cells.{holds-long}
use Rattle.operation_definitions.proofs.Steps.{step-ok, ok_or-some, check-true}
use Rattle.operation_definitions.proofs.Names.{same_numbers, target-offset}
use Rattle.operation_definitions.proofs.Simple.{State, after-effect, pair-first, run-long}
use Rattle.document_definitions.specs.Document.{shift_of}
use Rattle.document_definitions.proofs.Inside.{Inside, inside, placed, keeps}
use Rattle.document_definitions.proofs.Kept.{insert-keeps, remove-keeps}
use Rattle.document_definitions.proofs.Halves.{split-keeps, merge-keeps, IsShell}
use Rattle.document_definitions.proofs.Runs.{run-ends, run-goes}
use Rattle.document_definitions.proofs.Same.{within-same_path, give-keeps, rename-keeps}

-- a shift takes each position of a list into another one, with either stick
abbrev Carries : Shift → List Item → List Item → Type 0
Carries shift xs ys = (stick : Stick) (position : List ℕ) → Inside xs position → Inside ys (carry stick shift position)

insert-carries : (at_ : List ℕ) (new xs ys : List Item) (r : Unit {0}) → at (parent_of at_) (put_in (offset_of at_) new) xs ≡ Some (ys, r)
    → Carries (shifts.insert at_ (length new)) xs ys
insert-carries at_ new xs ys r e stick position h =
    keeps (parent_of at_) (put_in (offset_of at_) new) (rule_insert (offset_of at_) (length new) stick) refl r
    (λ xs ys p. insert-keeps (offset_of at_) new stick xs ys r p) xs ys position e h

remove-carries : (at_ : List ℕ) (count : ℕ) (xs ys gone : List Item) → at (parent_of at_) (take_out (offset_of at_) count) xs ≡ Some (ys, gone)
    → Carries (remove at_ count) xs ys
remove-carries at_ count xs ys gone e stick position h =
    keeps (parent_of at_) (take_out (offset_of at_) count) (rule_remove (offset_of at_) count) refl gone
    (λ xs ys p. remove-keeps (offset_of at_) count xs ys gone p) xs ys position e h

stay-carries : {R : Type 0} (path : List ℕ) (change : Change R)
    → ((xs ys : List Item) (r : R) (position : List ℕ) → change xs ≡ Some (ys, r) → Inside xs position → Inside ys position)
    → (xs ys : List Item) (r : R) → at path change xs ≡ Some (ys, r) → Carries stay xs ys
stay-carries path change level xs ys r e stick position h = subst (Inside ys) (within-same_path path position)
    (keeps path change (λ p. p) refl r (λ xs ys p. level xs ys r p) xs ys position e h)

-- the shell of a split is an element
pub like-shell : (id : ℕ) → IsShell (like id)
like-shell id (character scalar attributes) items e = absurd cc
like-shell id (element old name attributes children) items e = ([], refl)

pub shell-inner : (xs : List Item) (shell : Item) → shell_of xs ≡ Some shell → inner shell ≡ Some []
shell-inner [] shell e = absurd cc
shell-inner (character scalar attributes ∷ []) shell e = absurd cc
shell-inner (element id name attributes none ∷ []) shell e = (let same : element id name attributes none ≡ shell = cc in ap inner (sym same))
shell-inner (element id name attributes (more item items) ∷ []) shell e = absurd cc
shell-inner (character scalar attributes ∷ next ∷ rest) shell e = absurd cc
shell-inner (element id name attributes none ∷ next ∷ rest) shell e = absurd cc
shell-inner (element id name attributes (more item items) ∷ next ∷ rest) shell e = absurd cc

split-carries : (position : List ℕ) (shell : Item → Item) → IsShell shell → (xs ys : List Item) (r : Item)
    → at (parent_of (parent_of position)) (split_at (offset_of (parent_of position)) (offset_of position) shell) xs ≡ Some (ys, r)
    → Carries (shifts.split position) xs ys
split-carries position shell bare xs ys r e stick p h =
    keeps (parent_of (parent_of position)) (split_at (offset_of (parent_of position)) (offset_of position) shell)
    (rule_split (offset_of (parent_of position)) (offset_of position) stick) refl r
    (λ xs ys p. split-keeps (offset_of (parent_of position)) (offset_of position) shell bare stick xs ys r p) xs ys p e h

merge-carries : (right target : List ℕ) (xs ys : List Item) (r : Item × ℕ) → 0 < offset_of right → offset_of target ≡ r.1
    → at (parent_of right) (merge_at (offset_of right)) xs ≡ Some (ys, r)
    → Carries (shifts.merge right target) xs ys
merge-carries right target xs ys r some same e stick p h =
    subst (λ n. Inside ys (within (parent_of right) (rule_merge (offset_of right) n) p)) (sym same)
    (keeps (parent_of right) (merge_at (offset_of right)) (rule_merge (offset_of right) r.1) refl r
    (λ xs ys p f. merge-keeps (offset_of right) xs ys r p some f) xs ys p e h)

pub positive : (n : ℕ) → nat_lt 0 n ≡ true → 0 < n
positive n e = grind (arith, nat_tests)

-- both ends of a range where they are carried
abbrev pub EndsIn : Shift → List Item → Range → Type 0
EndsIn shift ys range = Inside ys (carried_ends shift range).start × Inside ys (carried_ends shift range).end

-- a shift that isn't a move carries each end by itself
abbrev IsPlain : Shift → Type 0
IsPlain shift = (range : Range) → carried_ends shift range ≡ between (carry to_next shift range.start) (carry to_previous shift range.end)

plain-ends : (shift : Shift) (xs ys : List Item) (range : Range) → IsPlain shift → Carries shift xs ys → Inside xs range.start → Inside xs range.end
    → EndsIn shift ys range
plain-ends shift xs ys range plain carries start end = (
  subst (λ ends. Inside ys ends.start) (sym (plain range)) (carries to_next range.start start),
  subst (λ ends. Inside ys ends.end) (sym (plain range)) (carries to_previous range.end end),
)

not-true : (b : Bool) → not b ≡ true → b ≡ false
not-true true e = absurd cc
not-true false e = refl

-- a move in the tree
move-ends : (from to : List ℕ) (count : ℕ) (xs left ys run : List Item) (r : Unit {0}) (range : Range) → from ≢ [] → length run ≡ count
    → not_after range.start range.end ≡ true
    → at (parent_of from) (take_out (offset_of from) count) xs ≡ Some (left, run)
    → at (parent_of (carry_remove from count to)) (put_in (offset_of (carry_remove from count to)) run) left ≡ Some (ys, r)
    → Inside xs range.start → Inside xs range.end → EndsIn (shifts.move from count to) ys range
move-ends from to count xs left ys run r range some long ordered e f start end = go (lies_in_run from count range) refl
  where
    apart : Carries (shifts.move from count to) xs ys
    apart stick position h =
        subst (λ n. Inside ys (carry_insert (carry_remove from count to) n stick (carry_remove from count position))) long
        (insert-carries (carry_remove from count to) run left ys r f stick (carry_remove from count position)
        (remove-carries from count xs left run e to_next position h))

    go : (t : Bool) → lies_in_run from count range ≡ t
        → (λ (ends : Range). Inside ys ends.start × Inside ys ends.end)
        (if t then between (with_run from (carry_remove from count to) range.start) (with_run from (carry_remove from count to) range.end)
        else between (carry to_next (shifts.move from count to) range.start) (carry to_previous (shifts.move from count to) range.end))
    go true t =
        let ends = run-ends from count range ordered t in (
          run-goes from (carry_remove from count to) count xs left ys run r range.start some e f ends.0 ends.1 start,
          run-goes from (carry_remove from count to) count xs left ys run r range.end some e f ends.2 ends.3 end,
        )
    go false t = (apart to_next range.start start, apart to_previous range.end end)

-- each operation
pub ends-in : (items : List Item) (cells : List (List Item)) (operation : Operation) (made : State) (range : Range) → HasPlaces operation
    → not_after range.start range.end ≡ true
    → effect items cells operation ≡ Ok made → Inside items range.start → Inside items range.end → EndsIn (shift_of operation) made.0 range
ends-in items cells (insert position new) made range places ordered e start end =
    let a = step-ok (ok_or (at (parent_of position) (put_in (offset_of position) new) items) no_place) (λ (m : List Item × Unit {0}). Ok (m.0, cells)) made e in
    let there = ok_or-some (at (parent_of position) (put_in (offset_of position) new) items) no_place a.0 a.1 in
    subst (λ ys. EndsIn (shifts.insert position (length new)) ys range) (pair-first (a.0.0, cells) made a.2)
    (plain-ends (shifts.insert position (length new)) items a.0.0 range (λ _. refl) (insert-carries position new items a.0.0 a.0.1 there) start end)
ends-in items cells (move (in_tree from) count (in_tree to)) made range places ordered e start end =
    let target = carry_remove from count to in
    let last : List Item × List Item → Result State Fault = λ taken. ok_or (at (parent_of target) (put_in (offset_of target) taken.1) taken.0) no_place
    >>= (λ m. Ok (m.0, cells)) in
    let next : List Item × List Item → Result State Fault = λ taken. ok_or (room_at items to) no_place
    >>= (λ _. check (not (is_in_run from count to)) into_itself >>= (λ _. last taken)) in
    let a = step-ok (ok_or (at (parent_of from) (take_out (offset_of from) count) items) no_place) next made e in
    let taken = ok_or-some (at (parent_of from) (take_out (offset_of from) count) items) no_place a.0 a.1 in
    let b = step-ok (ok_or (room_at items to) no_place) (λ _. check (not (is_in_run from count to)) into_itself >>= (λ _. last a.0)) made a.2 in
    let c = step-ok (check (not (is_in_run from count to)) into_itself) (λ _. last a.0) made b.2 in
    let d = step-ok (ok_or (at (parent_of target) (put_in (offset_of target) a.0.1) a.0.0) no_place) (λ m. Ok (m.0, cells)) made c.2 in
    let put_there = ok_or-some (at (parent_of target) (put_in (offset_of target) a.0.1) a.0.0) no_place d.0 d.1 in
    subst (λ ys. EndsIn (shifts.move from count to) ys range) (pair-first (d.0.0, cells) made d.2)
    (move-ends from to count items a.0.0 d.0.0 a.0.1 d.0.1 range places.0 (run-long items a.0.0 a.0.1 from count taken) ordered taken put_there start end)
ends-in items cells (move (in_tree from) count (in_cell number)) made range places ordered e start end =
    let a = step-ok (ok_or (at (parent_of from) (take_out (offset_of from) count) items) no_place)
    (λ (taken : List Item × List Item). check (is_free cells number) (cell_state number) >>= (λ _. Ok (taken.0, fill cells number taken.1))) made e in
    let taken = ok_or-some (at (parent_of from) (take_out (offset_of from) count) items) no_place a.0 a.1 in
    let b = step-ok (check (is_free cells number) (cell_state number)) (λ _. Ok (a.0.0, fill cells number a.0.1)) made a.2 in
    subst (λ ys. EndsIn (remove from count) ys range) (pair-first (a.0.0, fill cells number a.0.1) made b.2)
    (plain-ends (remove from count) items a.0.0 range (λ _. refl) (remove-carries from count items a.0.0 a.0.1 taken) start end)
ends-in items cells (move (in_cell number) count (in_tree to)) made range places ordered e start end =
    let run = in_cell_at cells number in
    let a = step-ok (check (holds_count cells number count) (cell_state number))
    (λ _. ok_or (at (parent_of to) (put_in (offset_of to) run) items) no_place >>= (λ (m : List Item × Unit {0}). Ok (m.0, set cells number []))) made e in
    let full = check-true (holds_count cells number count) (cell_state number) a.0 a.1 in
    let b = step-ok (ok_or (at (parent_of to) (put_in (offset_of to) run) items) no_place) (λ (m : List Item × Unit {0}). Ok (m.0, set cells number []))
    made a.2 in
    let there = ok_or-some (at (parent_of to) (put_in (offset_of to) run) items) no_place b.0 b.1 in
    subst (λ ys. EndsIn (shifts.insert to count) ys range) (pair-first (b.0.0, set cells number []) made b.2)
    (plain-ends (shifts.insert to count) items b.0.0 range (λ _. refl)
    (subst (λ n. Carries (shifts.insert to n) items b.0.0) (holds-long cells number count full) (insert-carries to run items b.0.0 b.0.1 there)) start end)
ends-in items cells (move (in_cell number) count (in_cell other)) made range places ordered e start end = absurd cc
ends-in items cells (attribute range key old new) made other places ordered e start end =
    let path = parent_of range.start in
    let change = give (offset_of range.start) (offset_of range.end - offset_of range.start) key new in
    let flat_test = pointwise nat_eq path (parent_of range.end) in
    let tail : List Item × List Item → Result State Fault = λ m. have_value key old m.1 >>= (λ _. Ok (m.0, cells)) in
    let a = step-ok (check flat_test not_flat) (λ _. ok_or (at path change items) no_place >>= tail) made e in
    let b = step-ok (ok_or (at path change items) no_place) tail made a.2 in
    let there = ok_or-some (at path change items) no_place b.0 b.1 in
    let c = step-ok (have_value key old b.0.1) (λ _. Ok (b.0.0, cells)) made b.2 in
    subst (λ ys. EndsIn stay ys other) (pair-first (b.0.0, cells) made c.2)
    (plain-ends stay items b.0.0 other (λ _. refl)
    (stay-carries path change (give-keeps (offset_of range.start) (offset_of range.end - offset_of range.start) key new) items b.0.0 b.0.1 there) start end)
ends-in items cells (rename path old new) made range places ordered e start end =
    let change = rename_at (offset_of path) new in
    let tail : List Item × List ℕ → Result State Fault = λ m. check (pointwise nat_eq m.1 old) (old_differs (found_name m.1)) >>= (λ _. Ok (m.0, cells)) in
    let a = step-ok (check (nat_le 1 (length path)) no_place) (λ _. ok_or (at (parent_of path) change items) no_place >>= tail) made e in
    let b = step-ok (ok_or (at (parent_of path) change items) no_place) tail made a.2 in
    let there = ok_or-some (at (parent_of path) change items) no_place b.0 b.1 in
    let c = step-ok (check (pointwise nat_eq b.0.1 old) (old_differs (found_name b.0.1))) (λ _. Ok (b.0.0, cells)) made b.2 in
    subst (λ ys. EndsIn stay ys range) (pair-first (b.0.0, cells) made c.2)
    (plain-ends stay items b.0.0 range (λ _. refl) (stay-carries (parent_of path) change (rename-keeps (offset_of path) new) items b.0.0 b.0.1 there) start end)
ends-in items cells (split position (fresh id)) made range places ordered e start end =
    let above = parent_of (parent_of position) in
    let change = split_at (offset_of (parent_of position)) (offset_of position) (like id) in
    let tail : List Item × Item → Result State Fault = λ m. Ok (m.0, cells) in
    let a = step-ok (check (nat_le 2 (length position)) no_place) (λ _. ok_or (at above change items) no_place >>= tail) made e in
    let b = step-ok (ok_or (at above change items) no_place) tail made a.2 in
    let there = ok_or-some (at above change items) no_place b.0 b.1 in
    subst (λ ys. EndsIn (shifts.split position) ys range) (pair-first (b.0.0, cells) made b.2)
    (plain-ends (shifts.split position) items b.0.0 range (λ _. refl) (split-carries position (like id) (like-shell id) items b.0.0 b.0.1 there) start end)
ends-in items cells (split position (from_cell number)) made range places ordered e start end =
    let above = parent_of (parent_of position) in
    let held = in_cell_at cells number in
    let change : Item → Change Item = λ shell. split_at (offset_of (parent_of position)) (offset_of position) (λ _. shell) in
    let last : List Item × Item → Result State Fault = λ m. Ok (m.0, set cells number []) in
    let next : Item → Result State Fault = λ shell. ok_or (at above (change shell) items) no_place >>= last in
    let first : List Item × Unit {0} → Result State Fault = λ _. ok_or (shell_of held) (cell_state number) >>= next in
    let a = step-ok (check (nat_le 2 (length position)) no_place) (λ _. ok_or (room_at items position) no_place >>= first) made e in
    let b = step-ok (ok_or (room_at items position) no_place) first made a.2 in
    let c = step-ok (ok_or (shell_of held) (cell_state number)) next made b.2 in
    let bare = shell-inner held c.0 (ok_or-some (shell_of held) (cell_state number) c.0 c.1) in
    let d = step-ok (ok_or (at above (change c.0) items) no_place) last made c.2 in
    let there = ok_or-some (at above (change c.0) items) no_place d.0 d.1 in
    subst (λ ys. EndsIn (shifts.split position) ys range) (pair-first (d.0.0, set cells number []) made d.2)
    (plain-ends (shifts.split position) items d.0.0 range (λ _. refl) (split-carries position (λ _. c.0) (λ _ _ _. ([], bare)) items d.0.0 d.0.1 there)
    start end)
ends-in items cells (merge right target number) made range places ordered e start end =
    let change = merge_at (offset_of right) in
    let above = parent_of right in
    let last : List Item × (Item × ℕ) → Result State Fault = λ m. check (is_free cells number) (cell_state number)
    >>= (λ _. Ok (m.0, fill cells number (m.1.0 ∷ []))) in
    let next : List Item × (Item × ℕ) → Result State Fault = λ m. check (pointwise nat_eq target (above ++ (offset_of right - 1) ∷ m.1.1 ∷ []))
    not_neighbours >>= (λ _. last m) in
    let a = step-ok (check (nat_lt 0 (offset_of right)) not_neighbours) (λ _. ok_or (at above change items) not_neighbours >>= next) made e in
    let some = check-true (nat_lt 0 (offset_of right)) not_neighbours a.0 a.1 in
    let b = step-ok (ok_or (at above change items) not_neighbours) next made a.2 in
    let there = ok_or-some (at above change items) not_neighbours b.0 b.1 in
    let end_test = pointwise nat_eq target (above ++ (offset_of right - 1) ∷ b.0.1.1 ∷ []) in
    let c = step-ok (check end_test not_neighbours) (λ _. last b.0) made b.2 in
    let ends_there = same_numbers target (above ++ (offset_of right - 1) ∷ b.0.1.1 ∷ []) (check-true end_test not_neighbours c.0 c.1) in
    let d = step-ok (check (is_free cells number) (cell_state number)) (λ _. Ok (b.0.0, fill cells number (b.0.1.0 ∷ []))) made c.2 in
    subst (λ ys. EndsIn (shifts.merge right target) ys range) (pair-first (b.0.0, fill cells number (b.0.1.0 ∷ [])) made d.2)
    (plain-ends (shifts.merge right target) items b.0.0 range (λ _. refl)
    (merge-carries right target items b.0.0 b.0.1 (positive (offset_of right) some)
    (target-offset above target (offset_of right - 1) b.0.1.1 ends_there) there) start end)
ends-in items cells (marker name old new) made range places ordered e start end =
    subst (λ ys. EndsIn stay ys range) (pair-first (items, cells) made e) (start, end)

-- a range that is carried is in the tree
range-in : (shift : Shift) (ys : List Item) (range : Range) → EndsIn shift ys range → IsRange (child_count ys) (carry_range shift range)
range-in shift ys range ends = go (is_before (carried_ends shift range).end (carried_ends shift range).start) refl
  where
    ordered : (b : Bool) → not b ≡ false → b ≡ true
    ordered true e = refl
    ordered false e = absurd cc

    go : (t : Bool) → is_before (carried_ends shift range).end (carried_ends shift range).start ≡ t
        → IsRange (child_count ys) (if t then between (carried_ends shift range).start (carried_ends shift range).start else carried_ends shift range)
    go true t = (
      placed ys (carried_ends shift range).start ends.0,
      placed ys (carried_ends shift range).start ends.0,
      not_after-itself (carried_ends shift range).start,
    )
    go false t = (
      placed ys (carried_ends shift range).start ends.0,
      placed ys (carried_ends shift range).end ends.1,
      ordered (not_after (carried_ends shift range).start (carried_ends shift range).end) t,
    )

pub carried-ends : (items : List Item) (cells : List (List Item)) (operation : Operation) (made : State) (range : Range) → HasPlaces operation
    → after items cells operation ≡ Ok made
    → IsRange (child_count items) range → EndsIn (shift_of operation) made.0 range
carried-ends items cells operation made range places e h =
    ends-in items cells operation made range places h.2 (after-effect items cells operation made e) (inside items range.start h.0) (inside items range.end h.1)

pub keeps_ranges : (items : List Item) (cells : List (List Item)) (operation : Operation) (made : State) (range : Range) → HasPlaces operation
    → after items cells operation ≡ Ok made
    → IsRange (child_count items) range → IsRange (child_count made.0) (carry_range (shift_of operation) range)
keeps_ranges items cells operation made range places e h = range-in (shift_of operation) made.0 range (carried-ends items cells operation made range places e h)
