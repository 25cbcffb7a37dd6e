-- What an edit plans can be made, but for the limits on the tree: runs that go, the last first.
use Rattle.std.proofs.Common.{◌≡◌, ◌≢◌, ℕ, ◌+◌, ◌-◌, ◌<◌, ◌≤◌, Bool, true, false, not, nat_le, nat_lt, ◌&&◌, ◌||◌, ◌==◌, if◌then◌else◌, inl, inr, List, [], ◌∷◌}
use Rattle.std.proofs.Common.{◌++◌, map, reverse, length, Option, Some, None, unwrap_or, IsSomeAnd, Ok, IsTrue, All, refl, sym, ap, ◌∙◌, subst, arith}
use Rattle.std.proofs.lemmas.List.{reverse-append}
use Rattle.std.proofs.lemmas.List.Elements.{All-head, All-tail}
use Rattle.std.proofs.lemmas.Bool.Decides.{nat_tests}
use Rattle.item_definitions.specs.Item.{Item}
use Rattle.item_definitions.specs.Children.{parent_of, offset_of, child_count}
use Rattle.item_definitions.specs.Position.{Range, between, IsFlat, IsPlace, IsRange, not_after, is_before}
use Rattle.item_definitions.specs.FlatParts.{under, counts_under, run, next_offset, parts_behind, parts_before, parts_between, flat_parts, IsInOrder}
use Rattle.item_definitions.specs.Shift.{remove, carry_remove, carry_range, rule_remove, within}
use Rattle.item_definitions.proofs.Order.{not_after-cons, not_after-same, not_after-none}
use Rattle.item_definitions.proofs.Paths.{path-joined}
use Rattle.item_definitions.proofs.Fewest.{Fits}
use Rattle.item_definitions.proofs.Minimal.{coherent-items, fits-place, not_after-trans, flat_parts-minimal}
use Rattle.operation_definitions.specs.Operation.{in_tree, in_cell, move}
use Rattle.operation_definitions.specs.After.{after, effect, limited, fill}
use Rattle.operation_definitions.proofs.Steps.{step}
use Rattle.operation_definitions.proofs.Simple.{limited-ok}
use Rattle.operation_definitions.proofs.Moves.{decide, within-same, within-other}
use Rattle.document_definitions.specs.Document.{State, changed, all_applied}
use Rattle.document_definitions.proofs.Ranges.{keeps_ranges}
use Rattle.edit_definitions.specs.Places.{is_there, is_range}
use Rattle.edit_definitions.specs.Planned.{count_in, removals}
use Rattle.edit_definitions.specs.Applied.{AreApplied}
use Rattle.edit_definitions.proofs.Alike.{one-more}
use Rattle.edit_definitions.proofs.Works.{next-applied}
use Rattle.edit_definitions.proofs.Stay.{there-place, place-there, flat-run}
use Rattle.ck_base.proofs.Common.{first_and_second}
use Rattle.edit_definitions.proofs.Moved.{store-works}

-- flat ranges of a list of items
abbrev pub AreThere : (List ℕ → Option ℕ) → List Range → Type 0
AreThere counts [] = Unit {0}
AreThere counts (part ∷ parts) = (IsPlace counts part.start × IsPlace counts part.end) × AreThere counts parts

abbrev pub AreFlat : List Range → Type 0
AreFlat [] = Unit {0}
AreFlat (part ∷ parts) = ((parent_of part.start ≡ parent_of part.end) × (not_after part.start part.end ≡ true)) × AreFlat parts

-- each range ends before a position, or there
abbrev AreBefore : List ℕ → List Range → Type 0
AreBefore position [] = Unit {0}
AreBefore position (part ∷ parts) = (not_after part.end position ≡ true) × AreBefore position parts

-- each range starts behind the ends of those that follow
abbrev AreBackward : List Range → Type 0
AreBackward [] = Unit {0}
AreBackward (part ∷ parts) = AreBefore part.start parts × AreBackward parts

-- a position that isn't behind the start of a run that goes stays
rule-before : (o count n : ℕ) (path : List ℕ) → not_after (n ∷ path) (o ∷ []) ≡ true → rule_remove o count (n ∷ path) ≡ n ∷ path
rule-before o count n [] e = go (sym (not_after-cons n o [] []) ∙ e)
  where
    go : (nat_lt n o || (n == o && true)) ≡ true → (if nat_le (o + count) n then (n - count) ∷ [] else (if nat_le o n then o ∷ [] else n ∷ [])) ≡ n ∷ []
    go h = pick (nat_le (o + count) n) refl (nat_le o n) refl
      where
        pick : (t : Bool) → nat_le (o + count) n ≡ t → (u : Bool) → nat_le o n ≡ u → (if t then (n - count) ∷ [] else (if u then o ∷ [] else n ∷ [])) ≡ n ∷ []
        pick true t u s = (let same : n - count ≡ n = grind (arith, nat_tests) in ap (λ m. m ∷ []) same)
        pick false t true s = (let same : o ≡ n = grind (arith, nat_tests) in ap (λ m. m ∷ []) same)
        pick false t false s = refl
rule-before o count n (next ∷ path) e = pick (nat_le (o + count) n) refl (nat_le o n) refl (less (sym (not_after-cons n o (next ∷ path) []) ∙ e))
  where
    less : (nat_lt n o || (n == o && false)) ≡ true → n < o
    less h = grind (arith, nat_tests)

    pick : (t : Bool) → nat_le (o + count) n ≡ t → (u : Bool) → nat_le o n ≡ u → n < o
        → (if t then (n - count) ∷ next ∷ path else (if u then o ∷ [] else n ∷ next ∷ path)) ≡ n ∷ next ∷ path
    pick true t u s l = absurd (grind (arith, nat_tests))
    pick false t true s l = absurd (grind (arith, nat_tests))
    pick false t false s l = refl

within-before : (parent : List ℕ) (o count : ℕ) (position : List ℕ) → not_after position (parent ++ o ∷ []) ≡ true
    → within parent (rule_remove o count) position ≡ position
within-before [] o count [] e = refl
within-before [] o count (n ∷ path) e = rule-before o count n path e
within-before (s ∷ parent) o count [] e = refl
within-before (s ∷ parent) o count (n ∷ path) e =
    elim (decide s n) [
      | inl same ↦ ap (λ v. within (s ∷ parent) (rule_remove o count) (v ∷ path)) (sym same) ∙ within-same s parent path (rule_remove o count)
          ∙ (λ t. same t ∷ within-before parent o count path (sym (not_after-same s path (parent ++ o ∷ []))
          ∙ ap (λ v. not_after (v ∷ path) (s ∷ (parent ++ o ∷ []))) same ∙ e) t)
      | inr apart ↦ within-other s n parent path (rule_remove o count) apart
    ]

carry-before : (at_ : List ℕ) (count : ℕ) (position : List ℕ) → at_ ≢ [] → not_after position at_ ≡ true → carry_remove at_ count position ≡ position
carry-before at_ count position some e = within-before (parent_of at_) (offset_of at_) count position (ap (not_after position) (sym (path-joined at_ some)) ∙ e)

range-before : (at_ : List ℕ) (count : ℕ) (range : Range) → at_ ≢ [] → not_after range.start range.end ≡ true → not_after range.end at_ ≡ true
    → carry_range (remove at_ count) range ≡ range
range-before at_ count range some ordered before =
    let start = carry-before at_ count range.start some (not_after-trans range.start range.end at_ ordered before) in
    let end = carry-before at_ count range.end some before in
    (λ t. if not (not_after (start t) (end t)) then between (start t) (start t) else between (start t) (end t))
    ∙ ap (λ b. if not b then between range.start range.start else range) ordered

-- the ranges that are left are there when the first has gone
still-there : (items : List Item) (cells : List (List Item)) (from : List ℕ) (count number : ℕ) (made : List Item × List (List Item))
    (parts : List Range) → from ≢ []
    → after items cells (move (in_tree from) count (in_cell number)) ≡ Ok made → AreThere (child_count items) parts → AreFlat parts
    → AreBefore from parts → AreThere (child_count made.0) parts
still-there items cells from count number made [] some e there flat before = tt
still-there items cells from count number made (part ∷ parts) some e there flat before =
    let kept = keeps_ranges items cells (move (in_tree from) count (in_cell number)) made part tt e (there.0.0, there.0.1, flat.0.1) in
    let same : IsRange (child_count made.0) part = subst (IsRange (child_count made.0)) (range-before from count part some flat.0.1 before.0) kept in
    ((same.0, same.1), still-there items cells from count number made parts some e there.1 flat.1 before.1)

pub removals-applied : (parts : List Range) (state : State) → AreThere (child_count state.document.items) parts → AreFlat parts → AreBackward parts
    → AreApplied (all_applied (removals (length state.cells) parts) state)
removals-applied [] state there flat backward = tt
removals-applied (part ∷ parts) state there flat backward =
    let items = state.document.items in
    let cells = state.cells in
    let count = count_in part.start part.end in
    let f = flat-run items part.start part.end (place-there items part.start there.0.0) (place-there items part.end there.0.1) flat.0.1 flat.0.0 in
    let s = store-works items cells part.start count f.level f.there f.room in
    let operation = move (in_tree part.start) count (in_cell (length cells)) in
    let made : List Item × List (List Item) = (s.left, fill cells (length cells) s.run) in
    next-applied operation (removals (length cells + 1) parts) state made s.works
    (λ limits.
    let done : after items cells operation ≡ Ok made = step (effect items cells operation) limited made (Ok made) s.works
    (limited-ok s.left (fill cells (length cells) s.run) limits) in
    subst (λ n. AreApplied (all_applied (removals n parts) (changed operation state made))) (one-more cells s.run)
    (removals-applied parts (changed operation state made) (still-there items cells part.start count (length cells) made parts f.some done there.1
    flat.1 backward.0) flat.1 backward.1))

-- the parts of a range are there
place-under : (index : ℕ) (counts : List ℕ → Option ℕ) (position : List ℕ) → IsPlace (counts_under index counts) position → IsPlace counts (index ∷ position)
place-under index counts [] h = absurd (h.0 refl)
place-under index counts (number ∷ path) h = ((λ same. cc), h.1)

under-there : (index : ℕ) (counts : List ℕ → Option ℕ) (parts : List Range) → AreThere (counts_under index counts) parts
    → AreThere counts (map (under index) parts)
under-there index counts [] h = tt
under-there index counts (part ∷ parts) h = (
  (place-under index counts part.start h.0.0, place-under index counts part.end h.0.1),
  under-there index counts parts h.1,
)

there-append : (counts : List ℕ → Option ℕ) (a b : List Range) → AreThere counts a → AreThere counts b → AreThere counts (a ++ b)
there-append counts [] b h k = k
there-append counts (part ∷ a) b h k = (h.0, there-append counts a b h.1 k)

run-there : (counts : List ℕ → Option ℕ) (from to : ℕ) → to ≤ unwrap_or (counts []) 0 → AreThere counts (run from to)
run-there counts from to most = go (nat_lt from to) refl
  where
    ends : (o : Option ℕ) (n : ℕ) → 0 < to → to ≤ unwrap_or o 0 → n ≤ to → IsSomeAnd o (λ count. n ≤ count)
    ends None n some most less = absurd (omega (arith, some, most))
    ends (Some count) n some most less = omega (arith, most, less)

    go : (t : Bool) → nat_lt from to ≡ t → AreThere counts (if t then between (from ∷ []) (to ∷ []) ∷ [] else [])
    go true t =
        let less : from < to = grind (arith, nat_tests) in (
          (
            ((λ same. cc), ends (counts []) from (omega (arith, less)) most (omega (arith, less))),
            ((λ same. cc), ends (counts []) to (omega (arith, less)) most (omega arith)),
          ),
          tt,
        )
    go false t = tt

behind-there : (counts : List ℕ → Option ℕ) (path : List ℕ) → AreThere counts (parts_behind counts path)
behind-there counts [] = tt
behind-there counts (index ∷ path) =
    there-append counts (map (under index) (parts_behind (counts_under index counts) path)) (run (next_offset index path) (unwrap_or (counts []) 0))
    (under-there index counts (parts_behind (counts_under index counts) path) (behind-there (counts_under index counts) path))
    (run-there counts (next_offset index path) (unwrap_or (counts []) 0) (omega arith))

before-there : (counts : List ℕ → Option ℕ) (path : List ℕ) → Fits counts path → AreThere counts (parts_before path)
before-there counts [] fits = tt
before-there counts (index ∷ path) fits =
    there-append counts (run 0 index) (map (under index) (parts_before path)) (run-there counts 0 index fits.0)
    (under-there index counts (parts_before path) (before-there (counts_under index counts) path fits.1))

between-there : (counts : List ℕ → Option ℕ) (start end : List ℕ) → Fits counts end → AreThere counts (parts_between counts start end)
between-there counts [] end fits = before-there counts end fits
between-there counts (index ∷ path) [] fits = tt
between-there counts (index ∷ path) (last ∷ rest) fits = go (index == last) refl (between-there (counts_under index counts) path rest)
  where
    go : (t : Bool) → (index == last) ≡ t
        → (Fits (counts_under index counts) rest → AreThere (counts_under index counts) (parts_between (counts_under index counts) path rest))
        → AreThere counts (if t then map (under index) (parts_between (counts_under index counts) path rest)
        else map (under index) (parts_behind (counts_under index counts) path) ++ (run (next_offset index path) last ++ map (under last) (parts_before rest)))
    go true t within =
        let same : index ≡ last = grind (arith, nat_tests) in
        under-there index counts (parts_between (counts_under index counts) path rest)
        (within (subst (λ n. Fits (counts_under n counts) rest) (sym same) fits.1))
    go false t within =
        there-append counts (map (under index) (parts_behind (counts_under index counts) path))
        (run (next_offset index path) last ++ map (under last) (parts_before rest))
        (under-there index counts (parts_behind (counts_under index counts) path) (behind-there (counts_under index counts) path))
        (there-append counts (run (next_offset index path) last) (map (under last) (parts_before rest)) (run-there counts (next_offset index path) last fits.0)
        (under-there last counts (parts_before rest) (before-there (counts_under last counts) rest fits.1)))

-- the other order
total : (p q : List ℕ) → not_after q p ≡ false → not_after p q ≡ true
total [] q e = not_after-none q
total (x ∷ p) [] e = absurd cc
total (x ∷ p) (y ∷ q) e = not_after-cons x y p q ∙ turn (not_after q p) (not_after p q) (total p q) (sym (not_after-cons y x q p) ∙ e)
  where
    turn : (r s : Bool) → (r ≡ false → s ≡ true) → (nat_lt y x || (y == x && r)) ≡ false → (nat_lt x y || (x == y && s)) ≡ true
    turn true true h e = grind (arith, nat_tests)
    turn true false h e = grind (arith, nat_tests)
    turn false true h e = grind (arith, nat_tests)
    turn false false h e = absurd (let f = h refl in cc)

flat-of : (parts : List Range) → All IsFlat parts → All (λ part. IsTrue (is_before part.start part.end)) parts → AreFlat parts
flat-of [] flat full = tt
flat-of (part ∷ parts) flat full = (
  (
    All-head IsFlat part parts flat,
    total part.start part.end (turned (not_after part.end part.start) (All-head (λ part. IsTrue (is_before part.start part.end)) part parts full)),
  ),
  flat-of parts (All-tail IsFlat part parts flat) (All-tail (λ part. IsTrue (is_before part.start part.end)) part parts full),
)
  where
    turned : (b : Bool) → not b ≡ true → b ≡ false
    turned true e = absurd cc
    turned false e = refl

-- each range starts behind a position, or there
abbrev pub AreLater : List ℕ → List Range → Type 0
AreLater position [] = Unit {0}
AreLater position (part ∷ parts) = (not_after position part.start ≡ true) × AreLater position parts

abbrev pub AreForward : List Range → Type 0
AreForward [] = Unit {0}
AreForward (part ∷ parts) = AreLater part.end parts × AreForward parts

later-of : (position : List ℕ) (parts : List Range) → All (λ later. IsTrue (not_after position later.start)) parts → AreLater position parts
later-of position [] h = tt
later-of position (part ∷ parts) h = (
  All-head (λ later. IsTrue (not_after position later.start)) part parts h,
  later-of position parts (All-tail (λ later. IsTrue (not_after position later.start)) part parts h),
)

forward-of : (parts : List Range) → IsInOrder parts → AreForward parts
forward-of [] h = tt
forward-of (part ∷ parts) h = (later-of part.end parts h.0, forward-of parts h.1)

-- the parts of a range that is there
pub record Parts (items : List Item) (start end : List ℕ) : Type 0 where
  pub there : AreThere (child_count items) (flat_parts (child_count items) (between start end))
  pub flat : AreFlat (flat_parts (child_count items) (between start end))
  pub forward : AreForward (flat_parts (child_count items) (between start end))

pub parts-there : (items : List Item) (start end : List ℕ) → is_range items start end ≡ true → Parts items start end
parts-there items start end e =
    let a = first_and_second (is_there items start && is_there items end) (not_after start end) e in
    let b = first_and_second (is_there items start) (is_there items end) a.0 in
    let first = there-place items start b.0 in
    let last = there-place items end b.1 in
    let minimal = flat_parts-minimal items (between start end) (first, last, a.1) in
    record {
      there = between-there (child_count items) start end (fits-place (child_count items) end (λ above. coherent-items above items) last.1);
      flat = flat-of (flat_parts (child_count items) (between start end)) minimal.cover.flat minimal.full;
      forward = forward-of (flat_parts (child_count items) (between start end)) minimal.ordered;
    }

-- the last first
flat-append : (a b : List Range) → AreFlat a → AreFlat b → AreFlat (a ++ b)
flat-append [] b h k = k
flat-append (part ∷ a) b h k = (h.0, flat-append a b h.1 k)

before-append : (position : List ℕ) (a b : List Range) → AreBefore position a → AreBefore position b → AreBefore position (a ++ b)
before-append position [] b h k = k
before-append position (part ∷ a) b h k = (h.0, before-append position a b h.1 k)

later-append : (position : List ℕ) (a b : List Range) → AreLater position a → AreLater position b → AreLater position (a ++ b)
later-append position [] b h k = k
later-append position (part ∷ a) b h k = (h.0, later-append position a b h.1 k)

backward-push : (a : List Range) (part : Range) → AreBackward a → AreLater part.end a → AreBackward (a ++ part ∷ [])
backward-push [] part h k = (tt, tt)
backward-push (first ∷ a) part h k = (before-append first.start a (part ∷ []) h.0 (k.0, tt), backward-push a part h.1 k.1)

record Turned (counts : List ℕ → Option ℕ) (parts turned : List Range) : Type 0 where
  there : AreThere counts turned
  flat : AreFlat turned
  backward : AreBackward turned
  later : (position : List ℕ) → AreLater position parts → AreLater position turned

turned : (counts : List ℕ → Option ℕ) (parts : List Range) → AreThere counts parts → AreFlat parts → AreForward parts → Turned counts parts (reverse parts)
turned counts [] there flat forward = record { there = tt; flat = tt; backward = tt; later = λ position h. tt }
turned counts (part ∷ parts) there flat forward =
    let rest = turned counts parts there.1 flat.1 forward.1 in
    subst (Turned counts (part ∷ parts)) (sym (reverse-append (part ∷ []) parts))
    (record {
      there = there-append counts (reverse parts) (part ∷ []) rest.there (there.0, tt);
      flat = flat-append (reverse parts) (part ∷ []) rest.flat (flat.0, tt);
      backward = backward-push (reverse parts) part rest.backward (rest.later part.end forward.0);
      later = λ position h. later-append position (reverse parts) (part ∷ []) (rest.later position h.1) (h.0, tt);
    })

-- the items of a range go, the last part first
pub removed-applied : (state : State) (start end : List ℕ) → is_range state.document.items start end ≡ true
    → AreApplied (all_applied (removals (length state.cells) (reverse (flat_parts (child_count state.document.items) (between start end)))) state)
removed-applied state start end e =
    let parts = parts-there state.document.items start end e in
    let t = turned (child_count state.document.items) (flat_parts (child_count state.document.items) (between start end)) parts.there parts.flat
    parts.forward in
    removals-applied (reverse (flat_parts (child_count state.document.items) (between start end))) state t.there t.flat t.backward
