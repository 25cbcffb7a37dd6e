-- Positions in a run of items that moves go with it.
use Rattle.std.proofs.Common.{◌≡◌, ◌≢◌, ℕ, ◌+◌, ◌-◌, ◌<◌, ◌≤◌, ◌⊎◌, inl, inr, Bool, true, false, not, ◌&&◌, ◌||◌, nat_lt, ◌==◌, if◌then◌else◌, List, [], ◌∷◌}
use Rattle.std.proofs.Common.{◌++◌, Some, None, unwrap_or, refl, sym, ap, ◌∙◌, subst, arith}
use Rattle.std.specs.Ordering.{is_le, ordering_reverse}
use Rattle.std.specs.declared.cmp.Ordering.{Ordering}
use Rattle.std.specs.declared.cmp.Ordering.TheVariants.{Less, Equal, Greater}
use Rattle.std.specs.Cmp.Lexicographic.{nat_list_cmp_total}
use Rattle.std.proofs.lemmas.Bool.Decides.{nat_tests}
use Rattle.ck_base.proofs.Common.{first, second}
use Rattle.item_definitions.specs.Item.{Item}
use Rattle.item_definitions.specs.Children.{at, parent_of, offset_of}
use Rattle.item_definitions.specs.Position.{Range, position_cmp, not_after, is_before}
use Rattle.item_definitions.specs.Shift.{rest_behind, forward, lies_in_run, with_run, run_place}
use Rattle.item_definitions.proofs.Order.{not_after-cons}
use Rattle.item_definitions.proofs.Minimal.{not_after-trans}
use Rattle.operation_definitions.specs.Level.{put_in, take_out}
use Rattle.document_definitions.proofs.Inside.{Inside, in_at, inside-at, inside-in, through}
use Rattle.document_definitions.proofs.Parted.{Parted, lengths, room, get-old, get-new}
use Rattle.document_definitions.proofs.Kept.{parted-in, parted-out}
use Rattle.document_definitions.proofs.Halves.{get-some}

-- what is left of a position behind a parent that it is in or below
pub rest-same : (s : ℕ) (parent path rest : List ℕ) → rest_behind (s ∷ parent) (s ∷ path) ≡ Some rest → rest_behind parent path ≡ Some rest
rest-same s parent path rest e = sym (ap (λ t. if t then rest_behind parent path else None) (own s)) ∙ e
  where
    own : (s : ℕ) → (s == s) ≡ true
    own s = grind (arith, nat_tests)

pub rest-first : (s i : ℕ) (parent path rest : List ℕ) → rest_behind (s ∷ parent) (i ∷ path) ≡ Some rest → s ≡ i
rest-first s i parent path rest e = go (s == i) refl e
  where
    go : (t : Bool) → t ≡ (s == i) → (if t then rest_behind parent path else None) ≡ Some rest → s ≡ i
    go true t e = grind (arith, nat_tests)
    go false t e = absurd cc

pub no-rest : (parent : List ℕ) (number : ℕ) (path : List ℕ) → rest_behind parent [] ≢ Some (number ∷ path)
no-rest [] number path e = (let f : [] ≡ number ∷ path = ap (λ o. unwrap_or o []) e in cc)
no-rest (s ∷ parent) number path e = cc

-- a position in a run, or at its ends, is in the items that are taken out
in-gone : (offset count : ℕ) (xs ys gone : List Item) (number : ℕ) (path : List ℕ) → take_out offset count xs ≡ Some (ys, gone) → offset ≤ number
    → not_after (number ∷ path) ((offset + count) ∷ []) ≡ true → Inside xs (number ∷ path) → Inside gone ((number - offset) ∷ path)
in-gone offset count xs ys gone number path e least most h = go path most h (parted-out offset count xs ys gone e)
  where
    upto : (b : Bool) → (nat_lt number (offset + count) || (number == offset + count && b)) ≡ true → number ≤ offset + count
    upto b t = grind (arith, nat_tests)

    before : (nat_lt number (offset + count) || (number == offset + count && false)) ≡ true → number < offset + count
    before t = grind (arith, nat_tests)

    go : (path : List ℕ) → not_after (number ∷ path) ((offset + count) ∷ []) ≡ true → Inside xs (number ∷ path) → Parted offset count xs ys gone []
        → Inside gone ((number - offset) ∷ path)
    go [] most h p =
        let m = p.many in
        let fits : number ≤ offset + count = upto (not_after [] []) (sym (not_after-cons number (offset + count) [] []) ∙ most) in
        omega (arith, fits, least, m)
    go (next ∷ path) most h p =
        let less : number < offset + count = before (sym (not_after-cons number (offset + count) (next ∷ path) []) ∙ most) in
        inside-at xs gone number (number - offset) next path (sym (get-old p number (number - offset) (omega (arith, less, least)) (omega (arith, least)))) h

pub in-taken : (parent : List ℕ) (offset count : ℕ) (xs ys gone : List Item) (position : List ℕ) (number : ℕ) (path : List ℕ)
    → at parent (take_out offset count) xs ≡ Some (ys, gone)
    → rest_behind parent position ≡ Some (number ∷ path) → offset ≤ number → not_after (number ∷ path) ((offset + count) ∷ []) ≡ true
    → Inside xs position → Inside gone ((number - offset) ∷ path)
in-taken [] offset count xs ys gone position number path e rest least most h =
    let same : position ≡ number ∷ path = ap (λ o. unwrap_or o []) rest in
    in-gone offset count xs ys gone number path e least most (subst (Inside xs) same h)
in-taken (s ∷ parent) offset count xs ys gone [] number path e rest least most h = absurd (h tt)
in-taken (s ∷ parent) offset count xs ys gone (i ∷ []) number path e rest least most h =
    let same = rest-first s i parent [] (number ∷ path) rest in
    absurd (no-rest parent number path
    (rest-same s parent [] (number ∷ path) (subst (λ v. rest_behind (s ∷ parent) (v ∷ []) ≡ Some (number ∷ path)) (sym same) rest)))
in-taken (s ∷ parent) offset count xs ys gone (i ∷ next ∷ below) number path e rest least most h =
    let same = rest-first s i parent (next ∷ below) (number ∷ path) rest in
    let inner = rest-same s parent (next ∷ below) (number ∷ path) (subst (λ v. rest_behind (s ∷ parent) (v ∷ next ∷ below) ≡ Some (number ∷ path))
    (sym same) rest) in
    let t = through xs s (at parent (take_out offset count)) ys gone e in
    let items : h.0 ≡ t.items = (let f : Some h.0 ≡ Some t.items = sym h.1 ∙ ap (in_at xs) (sym same) ∙ t.there in cc) in
    in-taken parent offset count t.items t.new gone (next ∷ below) number path t.made inner least most (subst (λ is. Inside is (next ∷ below)) items h.2)

-- a position in items that come in is in the tree
in-new : (offset : ℕ) (new xs ys : List Item) (r : Unit {0}) (number : ℕ) (path : List ℕ) → put_in offset new xs ≡ Some (ys, r)
    → Inside new (number ∷ path) → Inside ys ((offset + number) ∷ path)
in-new offset new xs ys r number path e h = go path h (parted-in offset new xs ys r e)
  where
    go : (path : List ℕ) → Inside new (number ∷ path) → Parted offset 0 xs ys [] new → Inside ys ((offset + number) ∷ path)
    go [] h p = (let l = lengths p in let m = room p in omega (arith, h, l, m))
    go (next ∷ path) h p = inside-at new ys number (offset + number) next path (get-new p (offset + number) number (get-some new number h.0 h.1) refl) h

pub in-put : (parent : List ℕ) (offset : ℕ) (new xs ys : List Item) (r : Unit {0}) (number : ℕ) (path : List ℕ) → at parent (put_in offset new) xs
    ≡ Some (ys, r) → Inside new (number ∷ path)
    → Inside ys (parent ++ (offset + number) ∷ path)
in-put [] offset new xs ys r number path e h = in-new offset new xs ys r number path e h
in-put (s ∷ parent) offset new xs ys r number path e h =
    let t = through xs s (at parent (put_in offset new)) ys r e in
    inside-in ys t.new s (parent ++ (offset + number) ∷ path) t.then_there (in-put parent offset new t.items t.new r number path t.made h)

-- what is left of a position that is between the ends of a run
pub record InRun (from : List ℕ) (count : ℕ) (position : List ℕ) : Type 0 where
  pub number : ℕ
  pub path : List ℕ
  pub rest : rest_behind (parent_of from) position ≡ Some (number ∷ path)
  pub least : offset_of from ≤ number
  pub most : not_after (number ∷ path) ((offset_of from + count) ∷ []) ≡ true

between-same : (s i : ℕ) (a b : Bool) → (nat_lt s i || (s == i && a)) ≡ true → (nat_lt i s || (i == s && b)) ≡ true → s ≡ i
between-same s i a b t u = grind (arith, nat_tests)

same-then : (s : ℕ) (a : Bool) → (nat_lt s s || (s == s && a)) ≡ true → a ≡ true
same-then s a t = grind (arith, nat_tests)

first-least : (o number : ℕ) (a : Bool) → (nat_lt o number || (o == number && a)) ≡ true → o ≤ number
first-least o number a t = grind (arith, nat_tests)

pub in-run : (from : List ℕ) (count : ℕ) (position : List ℕ) → from ≢ [] → not_after from position ≡ true → not_after position (forward count from)
    ≡ true → InRun from count position
in-run [] count position some low high = absurd (some refl)
in-run (o ∷ []) count [] some low high = absurd cc
in-run (o ∷ []) count (number ∷ path) some low high = record {
  number = number;
  path = path;
  rest = refl;
  least = first-least o number (not_after [] path) (sym (not_after-cons o number [] path) ∙ low);
  most = high;
}
in-run (s ∷ next ∷ from) count [] some low high = absurd cc
in-run (s ∷ next ∷ from) count (i ∷ position) some low high =
    let low_is = sym (not_after-cons s i (next ∷ from) position) ∙ low in
    let high_is = sym (not_after-cons i s position (forward count (next ∷ from))) ∙ high in
    let same : s ≡ i = between-same s i (not_after (next ∷ from) position) (not_after position (forward count (next ∷ from))) low_is high_is in
    let inner = in-run (next ∷ from) count position (λ e. cc)
    (same-then s (not_after (next ∷ from) position) (subst (λ v. (nat_lt s v || (s == v && not_after (next ∷ from) position)) ≡ true) (sym same) low_is))
    (same-then s (not_after position (forward count (next ∷ from)))
    (subst (λ v. (nat_lt v s || (v == s && not_after position (forward count (next ∷ from)))) ≡ true) (sym same) high_is)) in
    record {
      number = inner.number;
      path = inner.path;
      rest = ap (λ t. if t then rest_behind (parent_of (next ∷ from)) position else None) (equal s i same) ∙ inner.rest;
      least = inner.least;
      most = inner.most;
    }
  where
    equal : (s i : ℕ) → s ≡ i → (s == i) ≡ true
    equal s i e = grind (arith, nat_tests)

-- document order is total
le-turned : (o : Ordering) → not (is_le (ordering_reverse o)) ≡ true → is_le o ≡ true
le-turned Less e = refl
le-turned Equal e = refl
le-turned Greater e = absurd cc

pub before-not_after : (p q : List ℕ) → is_before p q ≡ true → not_after p q ≡ true
before-not_after p q e = le-turned (position_cmp p q) (ap (λ o. not (is_le o)) (sym (nat_list_cmp_total.antisymm q p)) ∙ e)

le-cases : (o : Ordering) → is_le o ≡ true → (o ≡ Less) ⊎ (o ≡ Equal)
le-cases Less e = inl refl
le-cases Equal e = inr refl
le-cases Greater e = absurd cc

-- both ends of a range that lies in a run are between the ends of the run
pub run-ends : (from : List ℕ) (count : ℕ) (range : Range) → not_after range.start range.end ≡ true → lies_in_run from count range ≡ true
    → (not_after from range.start ≡ true) × (not_after range.start (forward count from) ≡ true) × (not_after from range.end ≡ true)
    × (not_after range.end (forward count from) ≡ true)
run-ends from count range ordered lies = go (is_before range.start range.end) lies
  where
    with_bounds : not_after from range.start ≡ true → not_after range.end (forward count from) ≡ true
        → (not_after from range.start ≡ true) × (not_after range.start (forward count from) ≡ true) × (not_after from range.end ≡ true)
        × (not_after range.end (forward count from) ≡ true)
    with_bounds low high = (
      low,
      not_after-trans range.start range.end (forward count from) ordered high,
      not_after-trans from range.start range.end low
          ordered,
      high,
    )

    go : (t : Bool) → (if t then not_after from range.start && not_after range.end (forward count from) else is_before from range.start
        && is_before range.end (forward count from)) ≡ true
        → (not_after from range.start ≡ true) × (not_after range.start (forward count from) ≡ true) × (not_after from range.end ≡ true)
        × (not_after range.end (forward count from) ≡ true)
    go true e = with_bounds (first _ _ e) (second _ _ e)
    go false e = with_bounds (before-not_after from range.start (first _ _ e)) (before-not_after range.end (forward count from) (second _ _ e))

-- a position in a run that moves is in the tree where it goes
pub run-goes : (from to : List ℕ) (count : ℕ) (xs left ys run : List Item) (r : Unit {0}) (position : List ℕ) → from ≢ []
    → at (parent_of from) (take_out (offset_of from) count) xs ≡ Some (left, run)
    → at (parent_of to) (put_in (offset_of to) run) left ≡ Some (ys, r) → not_after from position ≡ true → not_after position (forward count from)
    ≡ true → Inside xs position
    → Inside ys (with_run from to position)
run-goes from to count xs left ys run r position some e f low high h =
    let i = in-run from count position some low high in
    subst (λ o. Inside ys (run_place to (offset_of from) position (unwrap_or o []))) (sym i.rest)
    (in-put (parent_of to) (offset_of to) run left ys r (i.number - offset_of from) i.path f
    (in-taken (parent_of from) (offset_of from) count xs left run position i.number i.path e i.rest i.least i.most h))
