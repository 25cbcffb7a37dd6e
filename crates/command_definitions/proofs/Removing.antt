-- Where positions are when the items of a range have gone.
use Rattle.std.proofs.Common.{◌≡◌, ◌≢◌, ℕ, ◌+◌, ◌-◌, ◌<◌, Bool, true, false, not, ◌&&◌, ◌||◌, ◌==◌, nat_le, nat_lt, if◌then◌else◌, List, [], ◌∷◌, ◌++◌, map}
use Rattle.std.proofs.Common.{reverse, Option, unwrap_or, Result, Ok, refl, sym, ap, subst, ◌∙◌, arith, append_assoc}
use Rattle.std.proofs.lemmas.List.{reverse-append, map-append}
use Rattle.std.proofs.lemmas.Bool.Decides.{nat_tests}
use Rattle.std.specs.Option.{option_map_or}
use Rattle.item_definitions.specs.Children.{offset_of, child_count}
use Rattle.item_definitions.specs.Position.{Range, between, not_after, IsRange}
use Rattle.item_definitions.specs.FlatParts.{under, counts_under, run, next_offset, parts_behind, parts_before, parts_between, flat_parts}
use Rattle.item_definitions.specs.Shift.{remove, within, rule_remove, carry_remove, carry_range}
use Rattle.item_definitions.proofs.Order.{not_after-cons, not_after-same, not_after-none, not_after-itself, not_after-parent}
use Rattle.item_definitions.proofs.Paths.{parent_of-push, offset_of-push}
use Rattle.operation_definitions.specs.Operation.{Fault, in_tree, in_cell, move}
use Rattle.operation_definitions.specs.After.{after}
use Rattle.operation_definitions.proofs.Steps.{step-ok}
use Rattle.operation_definitions.proofs.Moves.{within-same, within-other}
use Rattle.document_definitions.specs.Document.{State, changed, applied, all_applied}
use Rattle.document_definitions.proofs.Ranges.{keeps_ranges}
use Rattle.edit_definitions.specs.Planned.{count_in, removals}
use Rattle.command_definitions.proofs.StaysBefore.{carry-before, range-before}
use Rattle.command_definitions.proofs.Applying.{Tree}
use Rattle.command_definitions.proofs.Returning.{rest-pushed}

-- a range after the items of some parts have gone, one after the other
abbrev pub carried_all : List Range → Range → Range
carried_all [] range = range
carried_all (part ∷ parts) range = carried_all parts (carry_range (remove part.start (count_in part.start part.end)) range)

carried-append : (a b : List Range) (range : Range) → carried_all (a ++ b) range ≡ carried_all b (carried_all a range)
carried-append [] b range = refl
carried-append (part ∷ a) b range = carried-append a b (carry_range (remove part.start (count_in part.start part.end)) range)

same-state : (a b : State) → ◌≡◌ {A = Result State Fault} (Ok a) (Ok b) → a ≡ b
same-state a b e = cc

-- it is there then
pub carried-through : (cell : ℕ) (parts : List Range) (state new : State) → all_applied (removals cell parts) state ≡ Ok new → (range : Range)
    → IsRange (child_count state.document.items) range
    → IsRange (child_count new.document.items) (carried_all parts range)
carried-through cell [] state new e range h = subst (λ (s : State). IsRange (child_count s.document.items) range) (same-state state new e) h
carried-through cell (part ∷ parts) state new e range h =
    let operation = move (in_tree part.start) (count_in part.start part.end) (in_cell cell) in
    let a = step-ok (applied operation state) (all_applied (removals (cell + 1) parts)) new e in
    let b = step-ok (after state.document.items state.cells operation) (λ (made : Tree). Ok (changed operation state made)) a.0 a.1 in
    let kept = keeps_ranges state.document.items state.cells operation b.0 range tt b.1 h in
    carried-through (cell + 1) parts a.0 new a.2 (carry_range (remove part.start (count_in part.start part.end)) range)
    (subst (λ (s : State). IsRange (child_count s.document.items) (carry_range (remove part.start (count_in part.start part.end)) range))
    (same-state (changed operation state b.0) a.0 b.2) kept)

-- ---- a position that no part starts before stays

abbrev AllFrom : List ℕ → List Range → Type 0
AllFrom start [] = Unit {0}
AllFrom start (part ∷ parts) = ((part.start ≢ []) × (not_after start part.start ≡ true)) × AllFrom start parts

from-append : (start : List ℕ) (a b : List Range) → AllFrom start a → AllFrom start b → AllFrom start (a ++ b)
from-append start [] b h k = k
from-append start (part ∷ a) b h k = (h.0, from-append start a b h.1 k)

from-reversed : (start : List ℕ) (parts : List Range) → AllFrom start parts → AllFrom start (reverse parts)
from-reversed start [] h = tt
from-reversed start (part ∷ parts) h = subst (AllFrom start) (sym (reverse-append (part ∷ []) parts))
    (from-append start (reverse parts) (part ∷ []) (from-reversed start parts h.1) (h.0, tt))

stays-put : (start : List ℕ) (parts : List Range) → AllFrom start parts → carried_all parts (between start start) ≡ between start start
stays-put start [] h = refl
stays-put start (part ∷ parts) h =
    ap (carried_all parts) (range-before part.start (count_in part.start part.end) (between start start) h.0.0 (not_after-itself start) h.0.1)
    ∙ stays-put start parts h.1

under-from : (index : ℕ) (start : List ℕ) (parts : List Range) → AllFrom start parts → AllFrom (index ∷ start) (map (under index) parts)
under-from index start [] h = tt
under-from index start (part ∷ parts) h = (((λ same. cc), not_after-same index start part.start ∙ h.0.1), under-from index start parts h.1)

later-from : (index last : ℕ) (path : List ℕ) (parts : List Range) → index < last → AllFrom (index ∷ path) (map (under last) parts)
later-from index last path [] less = tt
later-from index last path (part ∷ parts) less = (
  (
    (λ same. cc),
    not_after-cons index last path part.start
        ∙ first index last (not_after path part.start) less,
  ),
  later-from index last path parts less,
)
  where
    first : (a b : ℕ) (c : Bool) → a < b → (nat_lt a b || (a == b && c)) ≡ true
    first a b c less = grind (arith, nat_tests)

run-from : (index to : ℕ) (path : List ℕ) → AllFrom (index ∷ path) (run (next_offset index path) to)
run-from index to path = go (nat_lt (next_offset index path) to)
  where
    next : (a : ℕ) → (nat_lt a (a + 1) || (a == a + 1 && false)) ≡ true
    next a = grind (arith, nat_tests)

    ordered : (index : ℕ) (path : List ℕ) → not_after (index ∷ path) (next_offset index path ∷ []) ≡ true
    ordered index [] = not_after-itself (index ∷ [])
    ordered index (step ∷ path) = not_after-cons index (index + 1) (step ∷ path) [] ∙ next index

    go : (t : Bool) → AllFrom (index ∷ path) (if t then between (next_offset index path ∷ []) (to ∷ []) ∷ [] else [])
    go true = (((λ same. cc), ordered index path), tt)
    go false = tt

behind-from : (counts : List ℕ → Option ℕ) (position : List ℕ) → AllFrom position (parts_behind counts position)
behind-from counts [] = tt
behind-from counts (index ∷ path) =
    from-append (index ∷ path) (map (under index) (parts_behind (counts_under index counts) path)) (run (next_offset index path) (unwrap_or (counts []) 0))
    (under-from index path (parts_behind (counts_under index counts) path) (behind-from (counts_under index counts) path))
    (run-from index (unwrap_or (counts []) 0) path)

nothing-before : (parts : List Range) (index : ℕ) → AllFrom [] (map (under index) parts)
nothing-before [] index = tt
nothing-before (part ∷ parts) index = (((λ same. cc), not_after-none (index ∷ part.start)), nothing-before parts index)

before-from : (position : List ℕ) → AllFrom [] (parts_before position)
before-from [] = tt
before-from (index ∷ path) = from-append [] (run 0 index) (map (under index) (parts_before path)) (go (nat_lt 0 index))
    (nothing-before (parts_before path) index)
  where
    go : (t : Bool) → AllFrom [] (if t then between (0 ∷ []) (index ∷ []) ∷ [] else [])
    go true = (((λ same. cc), not_after-none (0 ∷ [])), tt)
    go false = tt

between-from : (counts : List ℕ → Option ℕ) (start end : List ℕ) → not_after start end ≡ true → AllFrom start (parts_between counts start end)
between-from counts [] end e = before-from end
between-from counts (index ∷ path) [] e = tt
between-from counts (index ∷ path) (last ∷ rest) e =
    go (index == last) refl (sym (not_after-cons index last path rest) ∙ e) (λ h. between-from (counts_under index counts) path rest h)
  where
    same : (a b : ℕ) (c : Bool) → (a == b) ≡ true → (nat_lt a b || (a == b && c)) ≡ true → c ≡ true
    same a b true t e = refl
    same a b false t e = absurd (grind (arith, nat_tests))

    less : (a b : ℕ) (c : Bool) → (a == b) ≡ false → (nat_lt a b || (a == b && c)) ≡ true → a < b
    less a b c t e = grind (arith, nat_tests)

    go : (t : Bool) → (index == last) ≡ t → (nat_lt index last || (index == last && not_after path rest)) ≡ true
        → (not_after path rest ≡ true → AllFrom path (parts_between (counts_under index counts) path rest))
        → AllFrom (index ∷ path) (if t then map (under index) (parts_between (counts_under index counts) path rest)
        else map (under index) (parts_behind (counts_under index counts) path) ++ (run (next_offset index path) last ++ map (under last) (parts_before rest)))
    go true t e deep = under-from index path (parts_between (counts_under index counts) path rest) (deep (same index last (not_after path rest) t e))
    go false t e deep =
        from-append (index ∷ path) (map (under index) (parts_behind (counts_under index counts) path))
        (run (next_offset index path) last ++ map (under last) (parts_before rest))
        (under-from index path (parts_behind (counts_under index counts) path) (behind-from (counts_under index counts) path))
        (from-append (index ∷ path) (run (next_offset index path) last) (map (under last) (parts_before rest)) (run-from index last path)
        (later-from index last path (parts_before rest) (less index last (not_after path rest) t e)))

-- the start of a range that goes
pub start-stays : (counts : List ℕ → Option ℕ) (start end : List ℕ) → not_after start end ≡ true
    → carried_all (reverse (flat_parts counts (between start end))) (between start start) ≡ between start start
start-stays counts start end e = stays-put start (reverse (flat_parts counts (between start end)))
    (from-reversed start (flat_parts counts (between start end)) (between-from counts start end e))

-- ---- the end of a range from one element to a later one of the same parent

abbrev prefixed_all : List ℕ → List Range → List Range
prefixed_all [] parts = parts
prefixed_all (index ∷ path) parts = map (under index) (prefixed_all path parts)

abbrev counts_all : List ℕ → (List ℕ → Option ℕ) → List ℕ → Option ℕ
counts_all [] counts = counts
counts_all (index ∷ path) counts = counts_all path (counts_under index counts)

itself : (n : ℕ) → (n == n) ≡ true
itself n = grind (arith, nat_tests)

parts-in : (parent : List ℕ) (counts : List ℕ → Option ℕ) (start end : List ℕ)
    → parts_between counts (parent ++ start) (parent ++ end) ≡ prefixed_all parent (parts_between (counts_all parent counts) start end)
parts-in [] counts start end = refl
parts-in (index ∷ parent) counts start end =
    ap (λ t. if t then map (under index) (parts_between (counts_under index counts) (parent ++ start) (parent ++ end))
    else map (under index) (parts_behind (counts_under index counts) (parent ++ start)) ++
    (run (next_offset index (parent ++ start)) index ++ map (under index) (parts_before (parent ++ end)))) (itself index)
    ∙ ap (map (under index)) (parts-in parent (counts_under index counts) start end)

prefixed-append : (parent : List ℕ) (a b : List Range) → prefixed_all parent (a ++ b) ≡ prefixed_all parent a ++ prefixed_all parent b
prefixed-append [] a b = refl
prefixed-append (index ∷ parent) a b = ap (map (under index)) (prefixed-append parent a b)
    ∙ map-append (under index) (prefixed_all parent a) (prefixed_all parent b)

prefixed-one : (parent : List ℕ) (part : Range) → prefixed_all parent (part ∷ []) ≡ between (parent ++ part.start) (parent ++ part.end) ∷ []
prefixed-one [] part = refl
prefixed-one (index ∷ parent) part = ap (map (under index)) (prefixed-one parent part)

prefixed-none : (parent : List ℕ) → prefixed_all parent [] ≡ []
prefixed-none [] = refl
prefixed-none (index ∷ parent) = ap (map (under index)) (prefixed-none parent)

-- a removal in a parent, seen from a position that goes on from that parent, and from one that leaves the path to it
carry-in : (parent : List ℕ) (offset count : ℕ) (rest : List ℕ)
    → carry_remove (parent ++ offset ∷ []) count (parent ++ rest) ≡ parent ++ rule_remove offset count rest
carry-in parent offset count rest =
    (λ t. within (parent_of-push parent offset t) (rule_remove (offset_of-push parent offset t) count) (parent ++ rest))
    ∙ ap (λ o. option_map_or (λ rest. parent ++ rule_remove offset count rest) o (parent ++ rest)) (rest-pushed parent rest)

within-apart : (parent : List ℕ) (index other : ℕ) (rest : List ℕ) (rule : List ℕ → List ℕ) → index ≢ other
    → within (parent ++ index ∷ []) rule (parent ++ other ∷ rest) ≡ parent ++ other ∷ rest
within-apart [] index other rest rule apart = within-other index other [] rest rule apart
within-apart (step ∷ parent) index other rest rule apart =
    within-same step (parent ++ index ∷ []) (parent ++ other ∷ rest) rule ∙ ap (λ path. step ∷ path) (within-apart parent index other rest rule apart)

carry-apart : (parent : List ℕ) (index other offset count : ℕ) (rest : List ℕ) → index ≢ other
    → carry_remove ((parent ++ index ∷ []) ++ offset ∷ []) count (parent ++ other ∷ rest) ≡ parent ++ other ∷ rest
carry-apart parent index other offset count rest apart =
    ap (λ p. within p (rule_remove (offset_of ((parent ++ index ∷ []) ++ offset ∷ [])) count) (parent ++ other ∷ rest))
    (parent_of-push (parent ++ index ∷ []) offset)
    ∙ within-apart parent index other rest (rule_remove (offset_of ((parent ++ index ∷ []) ++ offset ∷ [])) count) apart

-- a range whose ends are known then
carried-range : (from : List ℕ) (count : ℕ) (start end now : List ℕ) → carry_remove from count start ≡ start → carry_remove from count end ≡ now
    → not_after start now ≡ true
    → carry_range (remove from count) (between start end) ≡ between start now
carried-range from count start end now first last ordered =
    (λ t. if not (not_after (first t) (last t)) then between (first t) (first t) else between (first t) (last t))
    ∙ ap (λ t. if not t then between start start else between start now) ordered

module _ (parent : List ℕ) (b o e p : ℕ) (less : b < e) where
  from : List ℕ
  from = parent ++ b ∷ o ∷ []

  ordered : (other : ℕ) (rest : List ℕ) → b < other → not_after (parent ++ b ∷ o ∷ []) (parent ++ other ∷ rest) ≡ true
  ordered other rest later = not_after-parent parent (b ∷ o ∷ []) (other ∷ rest) ∙ not_after-cons b other (o ∷ []) rest
      ∙ first b other (not_after (o ∷ []) rest) later
    where
      first : (a b : ℕ) (c : Bool) → a < b → (nat_lt a b || (a == b && c)) ≡ true
      first a b c less = grind (arith, nat_tests)

  longer : (number : ℕ) (rest : List ℕ) → parent ++ number ∷ rest ≢ []
  longer number rest same = some parent same
    where
      some : (parent : List ℕ) → parent ++ number ∷ rest ≡ [] → ⊥
      some [] same = absurd cc
      some (step ∷ parent) same = absurd cc

  -- what stands before the end in its element goes
  head-gone : carried_all (reverse (prefixed_all parent (map (under e) (parts_before (p ∷ [])))))
      (between (parent ++ b ∷ o ∷ []) (parent ++ e ∷ p ∷ [])) ≡ between (parent ++ b ∷ o ∷ []) (parent ++ e ∷ 0 ∷ [])
  head-gone = go (nat_lt 0 p) refl
    where
      none_there : (p : ℕ) → nat_lt 0 p ≡ false → p ≡ 0
      none_there p t = grind (arith, nat_tests)

      all_gone : (p : ℕ) → rule_remove 0 (p - 0) (p ∷ []) ≡ 0 ∷ []
      all_gone p = ap (λ t. if t then (p - (p - 0)) ∷ [] else (if nat_le 0 p then 0 ∷ [] else p ∷ [])) (fits p) ∙ ap (λ n. n ∷ []) (nothing p)
        where
          fits : (p : ℕ) → nat_le (0 + (p - 0)) p ≡ true
          fits p = grind (arith, nat_tests)

          nothing : (p : ℕ) → p - (p - 0) ≡ 0
          nothing p = omega arith

      go : (t : Bool) → nat_lt 0 p ≡ t
          → carried_all (reverse (prefixed_all parent (map (under e) ((if t then between (0 ∷ []) (p ∷ []) ∷ [] else []) ++ []))))
          (between (parent ++ b ∷ o ∷ []) (parent ++ e ∷ p ∷ []))
          ≡ between (parent ++ b ∷ o ∷ []) (parent ++ e ∷ 0 ∷ [])
      go true t =
          let start = parent ++ e ∷ 0 ∷ [] in
          let count : count_in start (parent ++ e ∷ p ∷ []) ≡ p - 0 = (λ t. offset-last p t - offset-last 0 t) in
          ap (λ parts. carried_all (reverse parts) (between (parent ++ b ∷ o ∷ []) (parent ++ e ∷ p ∷ [])))
          (prefixed-one parent (between (e ∷ 0 ∷ []) (e ∷ p ∷ [])))
          ∙ ap (λ n. carry_range (remove start n) (between (parent ++ b ∷ o ∷ []) (parent ++ e ∷ p ∷ []))) count
          ∙ carried-range start (p - 0) (parent ++ b ∷ o ∷ []) (parent ++ e ∷ p ∷ []) (parent ++ e ∷ 0 ∷ [])
          (carry-before start (p - 0) (parent ++ b ∷ o ∷ []) (longer e (0 ∷ [])) (ordered e (0 ∷ []) less))
          ((λ t. carry_remove (sym (append_assoc parent (e ∷ []) (0 ∷ [])) t) (p - 0) (sym (append_assoc parent (e ∷ []) (p ∷ [])) t))
          ∙ carry-in (parent ++ e ∷ []) 0 (p - 0) (p ∷ [])
          ∙ ap (λ rest. (parent ++ e ∷ []) ++ rest) (all_gone p) ∙ append_assoc parent (e ∷ []) (0 ∷ []))
          (ordered e (0 ∷ []) less)
        where
          offset-last : (n : ℕ) → offset_of (parent ++ e ∷ n ∷ []) ≡ n
          offset-last n = ap offset_of (sym (append_assoc parent (e ∷ []) (n ∷ []))) ∙ offset_of-push (parent ++ e ∷ []) n
      go false t =
          ap (λ parts. carried_all (reverse parts) (between (parent ++ b ∷ o ∷ []) (parent ++ e ∷ p ∷ []))) (prefixed-none parent)
          ∙ ap (λ n. between (parent ++ b ∷ o ∷ []) (parent ++ e ∷ n ∷ [])) (none_there p t)

  -- the elements between go
  middle-gone : carried_all (reverse (prefixed_all parent (run (b + 1) e))) (between (parent ++ b ∷ o ∷ []) (parent ++ e ∷ 0 ∷ [])) ≡ between
      (parent ++ b ∷ o ∷ []) (parent ++ (b + 1) ∷ 0 ∷ [])
  middle-gone = go (nat_lt (b + 1) e) refl
    where
      next : (b : ℕ) → b < b + 1
      next b = omega arith

      none_there : (b e : ℕ) → b < e → nat_lt (b + 1) e ≡ false → e ≡ b + 1
      none_there b e less t = grind (arith, nat_tests)

      moved : (b e : ℕ) → b < e → rule_remove (b + 1) (e - (b + 1)) (e ∷ 0 ∷ []) ≡ (b + 1) ∷ 0 ∷ []
      moved b e less =
          ap (λ t. if t then (e - (e - (b + 1))) ∷ 0 ∷ [] else (if nat_le (b + 1) e then (b + 1) ∷ [] else e ∷ 0 ∷ [])) (fits b e less)
          ∙ ap (λ n. n ∷ 0 ∷ []) (left b e less)
        where
          fits : (b e : ℕ) → b < e → nat_le (b + 1 + (e - (b + 1))) e ≡ true
          fits b e less = (let same : b + 1 + (e - (b + 1)) ≡ e = omega (arith, less) in ap (λ n. nat_le n e) same ∙ own e)
            where
              own : (n : ℕ) → nat_le n n ≡ true
              own n = grind (arith, nat_tests)

          left : (b e : ℕ) → b < e → e - (e - (b + 1)) ≡ b + 1
          left b e less = omega (arith, less)

      go : (t : Bool) → nat_lt (b + 1) e ≡ t
          → carried_all (reverse (prefixed_all parent (if t then between ((b + 1) ∷ []) (e ∷ []) ∷ [] else [])))
          (between (parent ++ b ∷ o ∷ []) (parent ++ e ∷ 0 ∷ []))
          ≡ between (parent ++ b ∷ o ∷ []) (parent ++ (b + 1) ∷ 0 ∷ [])
      go true t =
          let start = parent ++ (b + 1) ∷ [] in
          let count : count_in start (parent ++ e ∷ []) ≡ e - (b + 1) = (λ t. offset_of-push parent e t - offset_of-push parent (b + 1) t) in
          ap (λ parts. carried_all (reverse parts) (between (parent ++ b ∷ o ∷ []) (parent ++ e ∷ 0 ∷ [])))
          (prefixed-one parent (between ((b + 1) ∷ []) (e ∷ [])))
          ∙ ap (λ n. carry_range (remove start n) (between (parent ++ b ∷ o ∷ []) (parent ++ e ∷ 0 ∷ []))) count
          ∙ carried-range start (e - (b + 1)) (parent ++ b ∷ o ∷ []) (parent ++ e ∷ 0 ∷ []) (parent ++ (b + 1) ∷ 0 ∷ [])
          (carry-before start (e - (b + 1)) (parent ++ b ∷ o ∷ []) (longer (b + 1) []) (ordered (b + 1) [] (next b)))
          (carry-in parent (b + 1) (e - (b + 1)) (e ∷ 0 ∷ []) ∙ ap (λ rest. parent ++ rest) (moved b e less))
          (ordered (b + 1) (0 ∷ []) (next b))
      go false t =
          ap (λ parts. carried_all (reverse parts) (between (parent ++ b ∷ o ∷ []) (parent ++ e ∷ 0 ∷ []))) (prefixed-none parent)
          ∙ ap (λ n. between (parent ++ b ∷ o ∷ []) (parent ++ n ∷ 0 ∷ [])) (none_there b e less t)

  -- what stands behind the start in its element goes
  tail-gone : (n : ℕ) → carried_all (reverse (prefixed_all parent (map (under b) (run o n))))
      (between (parent ++ b ∷ o ∷ []) (parent ++ (b + 1) ∷ 0 ∷ [])) ≡ between (parent ++ b ∷ o ∷ []) (parent ++ (b + 1) ∷ 0 ∷ [])
  tail-gone n = go (nat_lt o n)
    where
      next : (b : ℕ) → b < b + 1
      next b = omega arith

      apart : (b : ℕ) → b ≢ b + 1
      apart b same = absurd (omega (arith, same))

      go : (t : Bool) → carried_all (reverse (prefixed_all parent (map (under b) (if t then between (o ∷ []) (n ∷ []) ∷ [] else []))))
          (between (parent ++ b ∷ o ∷ []) (parent ++ (b + 1) ∷ 0 ∷ []))
          ≡ between (parent ++ b ∷ o ∷ []) (parent ++ (b + 1) ∷ 0 ∷ [])
      go true =
          let start = parent ++ b ∷ o ∷ [] in
          let count = count_in start (parent ++ b ∷ n ∷ []) in
          ap (λ parts. carried_all (reverse parts) (between start (parent ++ (b + 1) ∷ 0 ∷ []))) (prefixed-one parent (between (b ∷ o ∷ []) (b ∷ n ∷ [])))
          ∙ carried-range start count start (parent ++ (b + 1) ∷ 0 ∷ []) (parent ++ (b + 1) ∷ 0 ∷ [])
          (carry-before start count start (longer b (o ∷ [])) (not_after-itself start))
          (ap (λ at. carry_remove at count (parent ++ (b + 1) ∷ 0 ∷ [])) (sym (append_assoc parent (b ∷ []) (o ∷ [])))
          ∙ carry-apart parent b (b + 1) o count (0 ∷ []) (apart b))
          (ordered (b + 1) (0 ∷ []) (next b))
      go false = ap (λ parts. carried_all (reverse parts) (between (parent ++ b ∷ o ∷ []) (parent ++ (b + 1) ∷ 0 ∷ []))) (prefixed-none parent)

  -- so the end is at the start of the element behind that of the start
  pub end-after : (counts : List ℕ → Option ℕ) → carried_all (reverse (flat_parts counts (between (parent ++ b ∷ o ∷ []) (parent ++ e ∷ p ∷ []))))
      (between (parent ++ b ∷ o ∷ []) (parent ++ e ∷ p ∷ []))
      ≡ between (parent ++ b ∷ o ∷ []) (parent ++ (b + 1) ∷ 0 ∷ [])
  end-after counts =
      let range = between (parent ++ b ∷ o ∷ []) (parent ++ e ∷ p ∷ []) in
      let n = unwrap_or (counts_under b (counts_all parent counts) []) 0 in
      let tail = map (under b) (run o n) in
      let middle = run (b + 1) e in
      let head = map (under e) (parts_before (p ∷ [])) in
      let whole : flat_parts counts range ≡ prefixed_all parent tail ++ (prefixed_all parent middle ++ prefixed_all parent head) =
      parts-in parent counts (b ∷ o ∷ []) (e ∷ p ∷ [])
      ∙ ap (λ t. prefixed_all parent (if t then map (under b) (parts_between (counts_under b (counts_all parent counts)) (o ∷ []) (p ∷ [])) else tail ++
      (middle ++ head))) (differ b e less)
      ∙ prefixed-append parent tail (middle ++ head) ∙ ap (λ parts. prefixed_all parent tail ++ parts) (prefixed-append parent middle head) in
      let turned : reverse (flat_parts counts range) ≡ (reverse (prefixed_all parent head) ++ reverse (prefixed_all parent middle)) ++ reverse
      (prefixed_all parent tail) =
      ap reverse whole ∙ reverse-append (prefixed_all parent tail) (prefixed_all parent middle ++ prefixed_all parent head)
      ∙ ap (λ parts. parts ++ reverse (prefixed_all parent tail)) (reverse-append (prefixed_all parent middle) (prefixed_all parent head)) in
      ap (λ parts. carried_all parts range) turned
      ∙ carried-append (reverse (prefixed_all parent head) ++ reverse (prefixed_all parent middle)) (reverse (prefixed_all parent tail)) range
      ∙ ap (carried_all (reverse (prefixed_all parent tail))) (carried-append (reverse (prefixed_all parent head)) (reverse (prefixed_all parent middle)) range
      ∙ ap (carried_all (reverse (prefixed_all parent middle))) head-gone ∙ middle-gone)
      ∙ tail-gone n
    where
      differ : (b e : ℕ) → b < e → (b == e) ≡ false
      differ b e less = grind (arith, nat_tests)
