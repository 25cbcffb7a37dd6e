-- What an edit plans can be made, but for the limits on the tree: runs of items whose attribute changes.
use Rattle.std.proofs.Common.{◌≡◌, ◌≢◌, ℕ, zero, suc, ◌+◌, ◌-◌, ◌≤◌, Bool, true, false, nat_eq, nat_lt, ◌&&◌, ◌||◌, ◌==◌, if◌then◌else◌, inl, inr, List, []}
use Rattle.std.proofs.Common.{◌∷◌, ◌++◌, map, length, take, drop, Option, Some, None, ok_or, unwrap_or, option_map, option_and_then, slice_get, slice_set}
use Rattle.std.proofs.Common.{Result, Ok, refl, sym, ap, ◌∙◌, subst, arith, append_assoc, append-nil, length-append, length-take}
use Rattle.std.specs.List.{flat_map}
use Rattle.std.specs.Option.{option_map_or}
use Rattle.std.specs.Cmp.Lexicographic.{pointwise}
use Rattle.std.proofs.lemmas.List.{map-append, drop-take, length-take-le, length-map, length-drop}
use Rattle.std.proofs.lemmas.Slice.{drop-append-drop}
use Rattle.std.proofs.lemmas.Bool.Decides.{nat_tests}
use Rattle.ck_base.specs.declared.value.Value.{Value as AttributeValue}
use Rattle.ck_base.specs.Entries.{value_of}
use Rattle.ck_base.proofs.Common.{first_and_second, in_three}
use Rattle.item_definitions.specs.Item.{Item, character, element, inner, with_inner, attributes_of, with_attributes}
use Rattle.item_definitions.specs.Children.{parent_of, offset_of, children_at, at, in_item}
use Rattle.item_definitions.specs.Position.{Range, between, not_after}
use Rattle.item_definitions.proofs.Order.{not_after-cons, not_after-parent}
use Rattle.item_definitions.proofs.Paths.{parent_of-push, offset_of-push, path-joined}
use Rattle.operation_definitions.specs.Level.{give, given, with_key}
use Rattle.operation_definitions.specs.Operation.{Fault, no_place, not_flat, Operation, attribute}
use Rattle.operation_definitions.specs.After.{◌>>=◌, effect, have_value, no_other, first_other, same_value}
use Rattle.operation_definitions.proofs.Steps.{step, step-some, step-check}
use Rattle.operation_definitions.proofs.Names.{same_numbers, numbers_same}
use Rattle.operation_definitions.proofs.Levels.{replaced}
use Rattle.operation_definitions.proofs.Lifting.{map-some, then-some, inner-with_inner, get-set}
use Rattle.operation_definitions.proofs.Moves.{decide}
use Rattle.operation_definitions.proofs.Values.{same_value-true, same_value-own}
use Rattle.document_definitions.specs.Document.{State, changed, all_applied}
use Rattle.model_tree.specs.OneValue.{HaveOne}
use Rattle.model_tree.proofs.OneValue.{passed_first}
use Rattle.operation_definitions.proofs.Stays.{get-other}
use Rattle.item_definitions.specs.Children.{child_count}
use Rattle.edit_definitions.specs.Runs.{Run, joined, runs_of, items_of_range, attribute_runs, give_in}
use Rattle.edit_definitions.specs.Applied.{AreApplied}
use Rattle.edit_definitions.proofs.Reached.{reached, replace-room}
use Rattle.edit_definitions.proofs.Works.{Made, next-applied}
use Rattle.edit_definitions.proofs.Stay.{place-there, Flat, flat-run}
use Rattle.edit_definitions.proofs.Removed.{AreThere, AreFlat, AreLater, AreForward}

-- a flat range whose items have this value of a key
pub record Spot : Type 0 where
  pub range : Range
  pub old : Option AttributeValue

abbrev pub change_at : List ℕ → Option AttributeValue → Spot → Operation
change_at key new spot = attribute spot.range key spot.old new

pub record Fits (key : List ℕ) (items : List Item) (spot : Spot) : Type 0 where
  pub flat : parent_of spot.range.start ≡ parent_of spot.range.end
  pub level : List Item
  pub there : children_at (parent_of spot.range.start) items ≡ Some level
  pub low : offset_of spot.range.start ≤ offset_of spot.range.end
  pub room : offset_of spot.range.end ≤ length level
  pub same : HaveOne key spot.old (take (offset_of spot.range.end - offset_of spot.range.start) (drop (offset_of spot.range.start) level))

abbrev pub AllFit : List ℕ → List Item → List Spot → Type 0
AllFit key items [] = Unit {0}
AllFit key items (spot ∷ spots) = Fits key items spot × AllFit key items spots

-- in one parent, the others start behind the end
abbrev pub IsFar : Spot → List Spot → Type 0
IsFar spot [] = Unit {0}
IsFar spot (other ∷ spots) = (parent_of other.range.start ≡ parent_of spot.range.start → offset_of spot.range.end ≤ offset_of other.range.start)
    × IsFar spot spots

abbrev pub AreFar : List Spot → Type 0
AreFar [] = Unit {0}
AreFar (spot ∷ spots) = IsFar spot spots × AreFar spots

-- what a change of an attribute leaves
inner-kept : (key : List ℕ) (value : Option AttributeValue) (items : List Item) → map inner (given key value items) ≡ map inner items
inner-kept key value [] = refl
inner-kept key value (character scalar attributes ∷ items) = ap (λ rest. None ∷ rest) (inner-kept key value items)
inner-kept key value (element id name attributes children ∷ items) = ap (λ rest. inner (element id name attributes children) ∷ rest)
    (inner-kept key value items)

give-inner : (offset count : ℕ) (key : List ℕ) (value : Option AttributeValue) (xs ys run : List Item) → give offset count key value xs ≡ Some (ys, run)
    → map inner ys ≡ map inner xs
give-inner offset count key value xs ys run e =
    let r = replaced offset count (λ run. Some (given key value run, run)) xs ys run e in
    let a = take offset xs in
    let b = take count (drop offset xs) in
    let c = drop (offset + count) xs in
    let new : given key value b ≡ r.new = ap (λ (o : Option (List Item × List Item)). option_map_or (λ (m : List Item × List Item). m.0) o []) r.gives in
    ap (map inner) (sym r.result ∙ ap (λ n. a ++ (n ++ c)) (sym new))
    ∙ parts a (given key value b) c ∙ ap (λ m. map inner a ++ (m ++ map inner c)) (inner-kept key value b) ∙ sym (parts a b c)
    ∙ ap (map inner) (in_three offset count xs)
  where
    parts : (a b c : List Item) → map inner (a ++ (b ++ c)) ≡ map inner a ++ (map inner b ++ map inner c)
    parts a b c = map-append inner a (b ++ c) ∙ ap (λ m. map inner a ++ m) (map-append inner b c)

below-same : (xs ys : List Item) (index : ℕ) (path : List ℕ) → map inner xs ≡ map inner ys → children_at (index ∷ path) xs ≡ children_at (index ∷ path) ys
below-same [] [] index path e = refl
below-same [] (y ∷ ys) index path e = absurd cc
below-same (x ∷ xs) [] index path e = absurd cc
below-same (x ∷ xs) (y ∷ ys) zero path e = (let same : inner x ≡ inner y = cc in ap (option_and_then (children_at path)) same)
below-same (x ∷ xs) (y ∷ ys) (suc index) path e = (let same : map inner xs ≡ map inner ys = cc in below-same xs ys index path same)

set-attributes : (xs : List Item) (index : ℕ) (x y : Item) → slice_get xs index ≡ Some x → attributes_of y ≡ attributes_of x
    → map attributes_of (slice_set xs index y) ≡ map attributes_of xs
set-attributes [] index x y e f = absurd cc
set-attributes (z ∷ xs) zero x y e f = (let same : z ≡ x = cc in ap (λ a. a ∷ map attributes_of xs) (f ∙ ap attributes_of (sym same)))
set-attributes (z ∷ xs) (suc index) x y e f = ap (λ rest. attributes_of z ∷ rest) (set-attributes xs index x y e f)

pub with_inner-attributes : (items : List Item) (item : Item) → attributes_of (with_inner items item) ≡ attributes_of item
with_inner-attributes items (character scalar attributes) = refl
with_inner-attributes items (element id name attributes children) = refl

others-kept : (path other : List ℕ) (offset count : ℕ) (key : List ℕ) (value : Option AttributeValue) (xs ys run : List Item) → other ≢ path
    → at path (give offset count key value) xs ≡ Some (ys, run)
    → option_map (map attributes_of) (children_at other ys) ≡ option_map (map attributes_of) (children_at other xs)
others-kept [] [] offset count key value xs ys run differ e = absurd (differ refl)
others-kept [] (index ∷ other) offset count key value xs ys run differ e = ap (option_map (map attributes_of))
    (below-same ys xs index other (give-inner offset count key value xs ys run e))
others-kept (first ∷ path) other offset count key value xs ys run differ e =
    let f = give offset count key value in
    let a = then-some (λ item. option_map (λ (made : Item × List Item). (slice_set xs first made.0, made.1)) (in_item (at path f) item))
    (slice_get xs first) (ys, run) e in
    let b = map-some (λ (made : Item × List Item). (slice_set xs first made.0, made.1)) (in_item (at path f) a.0) (ys, run) a.2 in
    let c = then-some (λ items. option_map (λ (made : List Item × List Item). (with_inner made.0 a.0, made.1)) (at path f items)) (inner a.0) b.0 b.1 in
    let d = map-some (λ (made : List Item × List Item). (with_inner made.0 a.0, made.1)) (at path f c.0) b.0 c.2 in
    let whole : slice_set xs first (with_inner d.0.0 a.0) ≡ ys = ap (slice_set xs first) (ap (λ (p : Item × List Item). p.0) d.2)
    ∙ ap (λ (p : List Item × List Item). p.0) b.2 in
    subst (λ zs. option_map (map attributes_of) (children_at other zs) ≡ option_map (map attributes_of) (children_at other xs)) whole
    (go (λ below kids new run apart made. others-kept path below offset count key value kids new run apart made) other differ a.0 c.0 d.0.0 d.0.1 a.1 c.1 d.1)
  where
    Below : Type 0
    Below = (below : List ℕ) (kids new run : List Item) → below ≢ path → at path (give offset count key value) kids ≡ Some (new, run)
        → option_map (map attributes_of) (children_at below new) ≡ option_map (map attributes_of) (children_at below kids)

    go : Below → (other : List ℕ) → other ≢ first ∷ path → (item : Item) (kids new run : List Item) → slice_get xs first ≡ Some item
        → inner item ≡ Some kids → at path (give offset count key value) kids ≡ Some (new, run)
        → option_map (map attributes_of) (children_at other (slice_set xs first (with_inner new item))) ≡ option_map (map attributes_of) (children_at other xs)
    go below [] differ item kids new run there holds made = ap Some (set-attributes xs first item (with_inner new item) there (with_inner-attributes new item))
    go below (index ∷ other) differ item kids new run there holds made =
        elim (decide first index) [
          | inl same ↦ (let after : children_at (index ∷ other) (slice_set xs first (with_inner new item)) ≡ children_at other new =
              ap (λ i. children_at (i ∷ other) (slice_set xs first (with_inner new item))) (sym same)
              ∙ ap (option_and_then (λ item. option_and_then (children_at other) (inner item))) (get-set xs first item (with_inner new item) there)
              ∙ ap (option_and_then (children_at other)) (inner-with_inner item kids new holds) in
              let before : children_at (index ∷ other) xs ≡ children_at other kids =
              ap (λ i. children_at (i ∷ other) xs) (sym same) ∙ ap (option_and_then (λ item. option_and_then (children_at other) (inner item))) there
              ∙ ap (option_and_then (children_at other)) holds in
              ap (option_map (map attributes_of)) after
              ∙ below other kids new run (λ e. differ (λ t. sym same t ∷ e t)) made
              ∙ ap (option_map (map attributes_of)) (sym before))
          | inr apart ↦ ap (λ o. option_map (map attributes_of) (option_and_then (λ item. option_and_then (children_at other) (inner item)) o))
              (get-other xs first index (with_inner new item) apart)
        ]

-- values by the attributes alone
one-by-attributes : (key : List ℕ) (value : Option AttributeValue) (xs ys : List Item) (m n : ℕ) → map attributes_of xs ≡ map attributes_of ys
    → HaveOne key value (take n (drop m xs)) → HaveOne key value (take n (drop m ys))
one-by-attributes key value [] [] m n e h = h
one-by-attributes key value [] (y ∷ ys) m n e h = absurd cc
one-by-attributes key value (x ∷ xs) [] m n e h = absurd cc
one-by-attributes key value (x ∷ xs) (y ∷ ys) zero zero e h = tt
one-by-attributes key value (x ∷ xs) (y ∷ ys) zero (suc n) e h =
    let first : attributes_of x ≡ attributes_of y = cc in
    let rest : map attributes_of xs ≡ map attributes_of ys = cc in
    (h.0 ∙ ap (value_of key) first, one-by-attributes key value xs ys zero n rest h.1)
one-by-attributes key value (x ∷ xs) (y ∷ ys) (suc m) n e h = (let rest : map attributes_of xs ≡ map attributes_of ys = cc
    in one-by-attributes key value xs ys m n rest h)

-- a change that fits works
pub record Attributed (key : List ℕ) (new : Option AttributeValue) (items : List Item) (cells : List (List Item)) (spot : Spot) (level : List Item) :
    Type 0 where
  pub whole : List Item
  pub run : List Item
  pub works : effect items cells (change_at key new spot) ≡ Ok (whole, cells)
  pub made : at (parent_of spot.range.start) (give (offset_of spot.range.start) (offset_of spot.range.end - offset_of spot.range.start) key new) items
      ≡ Some (whole, run)
  pub then_level : List Item
  pub there : children_at (parent_of spot.range.start) whole ≡ Some then_level
  pub long : length then_level ≡ length level
  pub rest : (n : ℕ) → offset_of spot.range.end ≤ n → drop n then_level ≡ drop n level

attributed : (key : List ℕ) (new : Option AttributeValue) (items : List Item) (cells : List (List Item)) (spot : Spot) (fits : Fits key items spot)
    → Attributed key new items cells spot fits.level
attributed key new items cells spot fits =
    let parent = parent_of spot.range.start in
    let offset = offset_of spot.range.start in
    let count = offset_of spot.range.end - offset_of spot.range.start in
    let end : offset + count ≡ offset_of spot.range.end = (let low = fits.low in omega (arith, low)) in
    let room : offset + count ≤ length fits.level = (let most = fits.room in omega (arith, most, end)) in
    let run = take count (drop offset fits.level) in
    let then_level = take offset fits.level ++ (given key new run ++ drop (offset + count) fits.level) in
    let whole = reached parent (give offset count key new) items fits.level then_level run fits.there
    (replace-room offset count (λ run. Some (given key new run, run)) fits.level (given key new run) run room refl) in
    let last : List Item × List Item → Result Made Fault = λ made. have_value key spot.old made.1 >>= (λ _. Ok (made.0, cells)) in
    let one : have_value key spot.old run ≡ Ok tt =
    ap (λ r. no_other key (first_other key spot.old r)) (sym (append-nil run))
    ∙ ap (no_other key) (passed_first key spot.old spot.old run [] fits.same (same_value-own spot.old)) in
    let front : length (take offset fits.level ++ given key new run) ≡ offset + count =
    length-append (take offset fits.level) (given key new run)
    ∙ (λ t. length-take-le offset fits.level (few offset count (length fits.level) room) t + changed-long (take count (drop offset fits.level)) t)
    ∙ ap (λ n. offset + n) (run-count offset count fits.level room) in
    let assoc : (take offset fits.level ++ given key new run) ++ drop (offset + count) fits.level
    ≡ then_level = append_assoc (take offset fits.level) (given key new run) (drop (offset + count) fits.level) in
    record {
      whole = whole.whole;
      run = run;
      works = step-check (pointwise nat_eq parent (parent_of spot.range.end)) not_flat
          (λ _. ok_or (at parent (give offset count key new) items) no_place >>= last) (Ok (whole.whole, cells))
          (numbers_same parent (parent_of spot.range.end) fits.flat)
          (step-some (at parent (give offset count key new) items) no_place last (whole.whole, run) (Ok (whole.whole, cells)) whole.made
          (step (have_value key spot.old run) (λ _. Ok (whole.whole, cells)) tt (Ok (whole.whole, cells)) one refl));
      made = whole.made;
      then_level = then_level;
      there = whole.there;
      long = level-long offset count fits.level run (in_three offset count fits.level);
      rest = λ n most. ap (drop n) (sym assoc) ∙ drop-append-drop (offset + count) fits.level (take offset fits.level ++ given key new run) n
          (omega (arith, most, end)) front;
    }
  where
    few : (a b c : ℕ) → a + b ≤ c → a ≤ c
    few a b c h = omega (arith, h)

    changed-long : (items : List Item) → length (given key new items) ≡ length items
    changed-long items = length-map items (λ item. with_attributes (with_key key new (attributes_of item)) item)

    run-count : (offset count : ℕ) (level : List Item) → offset + count ≤ length level → length (take count (drop offset level)) ≡ count
    run-count offset count level room = length-take-le count (drop offset level) (let rest = length-drop offset level in omega (arith, rest, room))

    level-long : (offset count : ℕ) (level run : List Item) → take offset level ++ (run ++ drop (offset + count) level) ≡ level
        → length (take offset level ++ (given key new run ++ drop (offset + count) level)) ≡ length level
    level-long offset count level run e =
        let a = length-append (take offset level) (given key new run ++ drop (offset + count) level) in
        let b = length-append (given key new run) (drop (offset + count) level) in
        let c = length-append (take offset level) (run ++ drop (offset + count) level) in
        let d = length-append run (drop (offset + count) level) in
        let f = ap (λ (xs : List Item). length xs) e in
        let g = changed-long run in
        omega (arith, a, b, c, d, f, g)

still-fits : (key : List ℕ) (new : Option AttributeValue) (items : List Item) (cells : List (List Item)) (spot other : Spot) (fits : Fits key items spot)
    → (made : Attributed key new items cells spot fits.level)
    → (parent_of other.range.start ≡ parent_of spot.range.start → offset_of spot.range.end ≤ offset_of other.range.start) → Fits key items other
    → Fits key made.whole other
still-fits key new items cells spot other fits made far h = go (pointwise nat_eq (parent_of other.range.start) (parent_of spot.range.start)) refl
  where
    differs : (a b : List ℕ) → pointwise nat_eq a b ≡ false → a ≢ b
    differs a b e same = (let f = numbers_same a b same in cc)

    go : (t : Bool) → pointwise nat_eq (parent_of other.range.start) (parent_of spot.range.start) ≡ t → Fits key made.whole other
    go true e =
        let same = same_numbers (parent_of other.range.start) (parent_of spot.range.start) e in
        let one : Some h.level ≡ Some fits.level = sym h.there ∙ ap (λ p. children_at p items) same ∙ fits.there in
        let level : h.level ≡ fits.level = cc in
        record {
          flat = h.flat;
          level = made.then_level;
          there = ap (λ p. children_at p made.whole) same ∙ made.there;
          low = h.low;
          room = (let most = h.room in let long : length made.then_level ≡ length h.level = made.long ∙ ap (λ (xs : List Item). length xs) (sym level)
              in omega (arith, most, long));
          same = subst (λ (xs : List Item). HaveOne key other.old (take (offset_of other.range.end - offset_of other.range.start) xs))
              (ap (drop (offset_of other.range.start)) level ∙ sym (made.rest (offset_of other.range.start) (far same))) h.same;
        }
    go false e =
        let kept = others-kept (parent_of spot.range.start) (parent_of other.range.start) (offset_of spot.range.start)
        (offset_of spot.range.end - offset_of spot.range.start) key new items made.whole made.run
        (differs (parent_of other.range.start) (parent_of spot.range.start) e) made.made in
        let there = map-some (map attributes_of) (children_at (parent_of other.range.start) made.whole) (map attributes_of h.level) (kept
        ∙ ap (option_map (map attributes_of)) h.there) in
        let long : length there.0 ≡ length h.level = sym (length-map there.0 attributes_of) ∙ ap (λ (xs : List _). length xs) there.2
        ∙ length-map h.level attributes_of in
        record {
          flat = h.flat;
          level = there.0;
          there = there.1;
          low = h.low;
          room = (let most = h.room in omega (arith, most, long));
          same = one-by-attributes key other.old h.level there.0 (offset_of other.range.start) (offset_of other.range.end - offset_of other.range.start)
              (sym there.2) h.same;
        }

all-still : (key : List ℕ) (new : Option AttributeValue) (items : List Item) (cells : List (List Item)) (spot : Spot) (fits : Fits key items spot)
    (made : Attributed key new items cells spot fits.level) (spots : List Spot)
    → IsFar spot spots → AllFit key items spots → AllFit key made.whole spots
all-still key new items cells spot fits made [] far h = tt
all-still key new items cells spot fits made (other ∷ spots) far h =
    (still-fits key new items cells spot other fits made far.0 h.0, all-still key new items cells spot fits made spots far.1 h.1)

pub changes-applied : (key : List ℕ) (new : Option AttributeValue) (spots : List Spot) (state : State) → AllFit key state.document.items spots
    → AreFar spots → AreApplied (all_applied (map (change_at key new) spots) state)
changes-applied key new [] state fit far = tt
changes-applied key new (spot ∷ spots) state fit far =
    let made = attributed key new state.document.items state.cells spot fit.0 in
    next-applied (change_at key new spot) (map (change_at key new) spots) state (made.whole, state.cells) made.works
    (λ _. changes-applied key new spots (changed (change_at key new spot) state (made.whole, state.cells))
    (all-still key new state.document.items state.cells spot fit.0 made spots far.0 fit.1) far.1)

-- the runs of items that begin at an offset
pub record IsRunOf (key : List ℕ) (offset : ℕ) (items : List Item) (run : Run) : Type 0 where
  pub first : offset ≤ run.from
  pub low : run.from ≤ run.to
  pub last : run.to ≤ offset + length items
  pub same : HaveOne key run.old (take (run.to - run.from) (drop (run.from - offset) items))

abbrev pub AreRunsOf : List ℕ → ℕ → List Item → List Run → Type 0
AreRunsOf key offset items [] = Unit {0}
AreRunsOf key offset items (run ∷ runs) = IsRunOf key offset items run × AreRunsOf key offset items runs

-- all begin behind an offset, or there
abbrev pub AreBehind : ℕ → List Run → Type 0
AreBehind offset [] = Unit {0}
AreBehind offset (run ∷ runs) = (offset ≤ run.from) × AreBehind offset runs

abbrev pub AreApart : List Run → Type 0
AreApart [] = Unit {0}
AreApart (run ∷ runs) = AreBehind run.to runs × AreApart runs

later-run : (key : List ℕ) (offset : ℕ) (item : Item) (items : List Item) (run : Run) → IsRunOf key (offset + 1) items run
    → IsRunOf key offset (item ∷ items) run
later-run key offset item items run h =
    let first = h.first in
    let last = h.last in
    let next : suc (run.from - (offset + 1)) ≡ run.from - offset = omega (arith, first) in
    record {
      first = omega (arith, first);
      low = h.low;
      last = omega (arith, last);
      same = subst (λ n. HaveOne key run.old (take (run.to - run.from) (drop n (item ∷ items)))) next h.same;
    }

later-runs : (key : List ℕ) (offset : ℕ) (item : Item) (items : List Item) (runs : List Run) → AreRunsOf key (offset + 1) items runs
    → AreRunsOf key offset (item ∷ items) runs
later-runs key offset item items [] h = tt
later-runs key offset item items (run ∷ runs) h = (later-run key offset item items run h.0, later-runs key offset item items runs h.1)

pub all-behind : (key : List ℕ) (offset : ℕ) (items : List Item) (runs : List Run) → AreRunsOf key offset items runs → AreBehind offset runs
all-behind key offset items [] h = tt
all-behind key offset items (run ∷ runs) h = (h.0.first, all-behind key offset items runs h.1)

one-run : (key : List ℕ) (offset : ℕ) (item : Item) (items : List Item)
    → IsRunOf key offset (item ∷ items) (record { from = offset; to = offset + 1; old = value_of key (attributes_of item) })
one-run key offset item items =
    let one : 1 ≡ offset + 1 - offset = omega arith in
    let none : 0 ≡ offset - offset = omega arith in
    record {
      first = omega arith;
      low = omega arith;
      last = omega arith;
      same = subst (λ n. HaveOne key (value_of key (attributes_of item)) (take n (drop (offset - offset) (item ∷ items)))) one
          (subst (λ m. HaveOne key (value_of key (attributes_of item)) (take 1 (drop m (item ∷ items)))) none (refl, tt));
    }

longer-run : (key : List ℕ) (offset : ℕ) (item : Item) (items : List Item) (run : Run) → run.from ≡ offset + 1
    → run.old ≡ value_of key (attributes_of item) → IsRunOf key (offset + 1) items run
    → IsRunOf key offset (item ∷ items) (record { from = offset; to = run.to; old = value_of key (attributes_of item) })
longer-run key offset item items run next old h =
    let low = h.low in
    let last = h.last in
    let more : suc (run.to - run.from) ≡ run.to - offset = omega (arith, next, low) in
    let none : 0 ≡ offset - offset = omega arith in
    let start : run.from - (offset + 1) ≡ 0 = omega (arith, next) in
    let rest : HaveOne key (value_of key (attributes_of item)) (take (run.to - run.from) (drop 0 items)) =
    subst (λ v. HaveOne key v (take (run.to - run.from) (drop 0 items))) old
    (subst (λ m. HaveOne key run.old (take (run.to - run.from) (drop m items))) start h.same) in
    record {
      first = omega arith;
      low = omega (arith, next, low);
      last = omega (arith, last);
      same = subst (λ n. HaveOne key (value_of key (attributes_of item)) (take n (drop (offset - offset) (item ∷ items)))) more
          (subst (λ m. HaveOne key (value_of key (attributes_of item)) (take (suc (run.to - run.from)) (drop m (item ∷ items)))) none (refl, rest));
    }

joined-runs : (key : List ℕ) (offset : ℕ) (item : Item) (items : List Item) (runs : List Run) → AreRunsOf key (offset + 1) items runs → AreApart runs
    → AreRunsOf key offset (item ∷ items) (joined offset (value_of key (attributes_of item)) runs)
    × AreApart (joined offset (value_of key (attributes_of item)) runs)
joined-runs key offset item items [] h apart = ((one-run key offset item items, tt), (tt, tt))
joined-runs key offset item items (run ∷ runs) h apart = go (run.from == offset + 1 && same_value run.old old) refl
  where
    old : Option AttributeValue
    old = value_of key (attributes_of item)

    go : (t : Bool) → (run.from == offset + 1 && same_value run.old old) ≡ t
        → AreRunsOf key offset (item ∷ items) (if t then record { from = offset; to = run.to; old = old } ∷ runs
        else record { from = offset; to = offset + 1; old = old } ∷ run ∷ runs)
        × AreApart (if t then record { from = offset; to = run.to; old = old } ∷ runs else record { from = offset; to = offset + 1; old = old } ∷ run ∷ runs)
    go true e =
        let b = first_and_second (run.from == offset + 1) (same_value run.old old) e in
        let next : run.from ≡ offset + 1 = (let t = b.0 in grind (arith, nat_tests)) in
        ((longer-run key offset item items run next (same_value-true run.old old b.1) h.0, later-runs key offset item items runs h.1), apart)
    go false e = ((one-run key offset item items, later-runs key offset item items (run ∷ runs) h), (all-behind key (offset + 1) items (run ∷ runs) h, apart))

-- each run has one value, and ends before the next begins, or there
pub runs-found : (key : List ℕ) (new : Option AttributeValue) (offset : ℕ) (items : List Item)
    → AreRunsOf key offset items (runs_of key new offset items) × AreApart (runs_of key new offset items)
runs-found key new offset [] = (tt, tt)
runs-found key new offset (item ∷ items) = go (same_value (value_of key (attributes_of item)) new) (runs-found key new (offset + 1) items)
  where
    go : (t : Bool) → AreRunsOf key (offset + 1) items (runs_of key new (offset + 1) items) × AreApart (runs_of key new (offset + 1) items)
        → AreRunsOf key offset (item ∷ items) (if t then runs_of key new (offset + 1) items
        else joined offset (value_of key (attributes_of item)) (runs_of key new (offset + 1) items))
        × AreApart (if t then runs_of key new (offset + 1) items else joined offset (value_of key (attributes_of item)) (runs_of key new (offset + 1) items))
    go true h = (later-runs key offset item items (runs_of key new (offset + 1) items) h.0, h.1)
    go false h = joined-runs key offset item items (runs_of key new (offset + 1) items) h.0 h.1

-- runs of a part of a level are runs of the level
take-less : (n k : ℕ) (xs : List Item) → n ≤ k → take n (take k xs) ≡ take n xs
take-less zero k xs less = refl
take-less (suc n) zero xs less = absurd (omega (arith, less))
take-less (suc n) (suc k) [] less = refl
take-less (suc n) (suc k) (x ∷ xs) less = ap (λ rest. x ∷ rest) (take-less n k xs (omega (arith, less)))

drop-more : (s m : ℕ) (xs : List Item) → drop m (drop s xs) ≡ drop (s + m) xs
drop-more zero m xs = (let same : m ≡ 0 + m = omega arith in ap (λ n. drop n xs) same)
drop-more (suc s) m [] = none m ∙ sym (none (suc s + m))
  where
    none : (n : ℕ) → drop {A = Item} n [] ≡ []
    none zero = refl
    none (suc n) = refl
drop-more (suc s) m (x ∷ xs) = (let same : suc (s + m) ≡ suc s + m = omega arith in drop-more s m xs ∙ ap (λ n. drop n (x ∷ xs)) same)

window : (s k m n : ℕ) (xs : List Item) → m + n ≤ k → take n (drop m (take k (drop s xs))) ≡ take n (drop (s + m) xs)
window s k m n xs less =
    let whole : m + (k - m) ≡ k = omega (arith, less) in
    ap (λ j. take n (drop m (take j (drop s xs)))) (sym whole) ∙ ap (take n) (drop-take m (k - m) (drop s xs))
    ∙ take-less n (k - m) (drop m (drop s xs)) (omega (arith, less))
    ∙ ap (take n) (drop-more s m xs)

-- the runs of a part as flat ranges
abbrev pub spot_of : List ℕ → Run → Spot
spot_of parent run = record { range = between (parent ++ run.from ∷ []) (parent ++ run.to ∷ []); old = run.old }

runs-changed : (parent key : List ℕ) (new : Option AttributeValue) (runs : List Run) → attribute_runs parent key new runs
    ≡ map (change_at key new) (map (spot_of parent) runs)
runs-changed parent key new [] = refl
runs-changed parent key new (run ∷ runs) = ap (λ rest. change_at key new (spot_of parent run) ∷ rest) (runs-changed parent key new runs)

run-fits : (key : List ℕ) (items : List Item) (start end : List ℕ) (run : Run) (f : Flat items start end)
    → IsRunOf key (offset_of start) (take (offset_of end - offset_of start) (drop (offset_of start) f.level)) run
    → Fits key items (spot_of (parent_of start) run)
run-fits key items start end run f h =
    let parent = parent_of start in
    let s = offset_of start in
    let count = offset_of end - s in
    let first = h.first in
    let low = h.low in
    let last = h.last in
    let room = f.room in
    let long = length-take count (drop s f.level) in
    let most : run.to ≤ s + count = omega (arith, last, long) in
    let from_is = offset_of-push parent run.from in
    let to_is = offset_of-push parent run.to in
    let back : s + (run.from - s) ≡ run.from = omega (arith, first) in
    let same : take (run.to - run.from) (drop (run.from - s) (take count (drop s f.level))) ≡ take (run.to - run.from) (drop run.from f.level) =
    window s count (run.from - s) (run.to - run.from) f.level (omega (arith, first, low, most)) ∙ ap (λ n. take (run.to - run.from) (drop n f.level)) back in
    record {
      flat = parent_of-push parent run.from ∙ sym (parent_of-push parent run.to);
      level = f.level;
      there = ap (λ p. children_at p items) (parent_of-push parent run.from) ∙ f.there;
      low = omega (arith, from_is, to_is, low);
      room = omega (arith, to_is, most, room);
      same = subst (HaveOne key run.old) (same ∙ (λ t. take (sym to_is t - sym from_is t) (drop (sym from_is t) f.level))) h.same;
    }

runs-fit : (key : List ℕ) (items : List Item) (start end : List ℕ) (runs : List Run) (f : Flat items start end)
    → AreRunsOf key (offset_of start) (take (offset_of end - offset_of start) (drop (offset_of start) f.level)) runs
    → AllFit key items (map (spot_of (parent_of start)) runs)
runs-fit key items start end [] f h = tt
runs-fit key items start end (run ∷ runs) f h = (run-fits key items start end run f h.0, runs-fit key items start end runs f h.1)

fit-append : (key : List ℕ) (items : List Item) (a b : List Spot) → AllFit key items a → AllFit key items b → AllFit key items (a ++ b)
fit-append key items [] b h k = k
fit-append key items (spot ∷ a) b h k = (h.0, fit-append key items a b h.1 k)

far-append : (spot : Spot) (a b : List Spot) → IsFar spot a → IsFar spot b → IsFar spot (a ++ b)
far-append spot [] b h k = k
far-append spot (other ∷ a) b h k = (h.0, far-append spot a b h.1 k)

-- runs of one parent, and of another one
runs-far : (parent above : List ℕ) (run : Run) (offset : ℕ) (runs : List Run) → (above ≡ parent → run.to ≤ offset) → AreBehind offset runs
    → IsFar (spot_of parent run) (map (spot_of above) runs)
runs-far parent above run offset [] h behind = tt
runs-far parent above run offset (next ∷ runs) h behind = (
  (λ same.
      let one : above ≡ parent = sym (parent_of-push above next.from) ∙ same ∙ parent_of-push parent run.from in
      let less = h one in
      let to_is = offset_of-push parent run.to in
      let from_is = offset_of-push above next.from in
      let first = behind.0 in
      omega (arith, less, to_is, from_is, first)),
  runs-far parent above run offset runs h behind.1,
)

-- the spots of parts
abbrev pub spots_of : List ℕ → Option AttributeValue → List Item → List Range → List Spot
spots_of key new items [] = []
spots_of key new items (part ∷ parts) = map (spot_of (parent_of part.start)) (runs_of key new (offset_of part.start) (items_of_range items part))
    ++ spots_of key new items parts

pub spots-changed : (key : List ℕ) (new : Option AttributeValue) (items : List Item) (parts : List Range) → flat_map (give_in items key new) parts
    ≡ map (change_at key new) (spots_of key new items parts)
spots-changed key new items [] = refl
spots-changed key new items (part ∷ parts) =
    (λ t. runs-changed (parent_of part.start) key new (runs_of key new (offset_of part.start) (items_of_range items part)) t
    ++ spots-changed key new items parts t)
    ∙ sym (map-append (change_at key new) (map (spot_of (parent_of part.start)) (runs_of key new (offset_of part.start) (items_of_range items part)))
    (spots_of key new items parts))

part-flat : (items : List Item) (part : Range) (parts : List Range) → AreThere (child_count items) (part ∷ parts) → AreFlat (part ∷ parts)
    → Flat items part.start part.end
part-flat items part parts there flat = flat-run items part.start part.end (place-there items part.start there.0.0)
    (place-there items part.end there.0.1) flat.0.1 flat.0.0

part-runs : (key : List ℕ) (new : Option AttributeValue) (items : List Item) (start end : List ℕ) (f : Flat items start end)
    → AreRunsOf key (offset_of start) (take (offset_of end - offset_of start) (drop (offset_of start) f.level))
    (runs_of key new (offset_of start) (items_of_range items (between start end)))
    × AreApart (runs_of key new (offset_of start) (items_of_range items (between start end)))
part-runs key new items start end f =
    subst (λ (xs : List Item). AreRunsOf key (offset_of start) (take (offset_of end - offset_of start) (drop (offset_of start) f.level))
    (runs_of key new (offset_of start) xs) × AreApart (runs_of key new (offset_of start) xs))
    (ap (λ o. take (offset_of end - offset_of start) (drop (offset_of start) (unwrap_or o []))) (sym f.there))
    (runs-found key new (offset_of start) (take (offset_of end - offset_of start) (drop (offset_of start) f.level)))

pub spots-fit : (key : List ℕ) (new : Option AttributeValue) (items : List Item) (parts : List Range) → AreThere (child_count items) parts
    → AreFlat parts → AllFit key items (spots_of key new items parts)
spots-fit key new items [] there flat = tt
spots-fit key new items (part ∷ parts) there flat =
    let f = part-flat items part parts there flat in
    let runs = runs_of key new (offset_of part.start) (items_of_range items part) in
    fit-append key items (map (spot_of (parent_of part.start)) runs) (spots_of key new items parts)
    (runs-fit key items part.start part.end runs f (part-runs key new items part.start part.end f).0) (spots-fit key new items parts there.1 flat.1)

parts-far : (key : List ℕ) (new : Option AttributeValue) (items : List Item) (start end : List ℕ) (run : Run) (parts : List Range)
    → parent_of start ≡ parent_of end → end ≢ [] → run.to ≤ offset_of end
    → AreLater end parts → AreThere (child_count items) parts → AreFlat parts → IsFar (spot_of (parent_of start) run) (spots_of key new items parts)
parts-far key new items start end run [] one some most later there flat = tt
parts-far key new items start end run (next ∷ parts) one some most later there flat =
    let runs = runs_of key new (offset_of next.start) (items_of_range items next) in
    let f = part-flat items next parts there flat in
    far-append (spot_of (parent_of start) run) (map (spot_of (parent_of next.start)) runs) (spots_of key new items parts)
    (runs-far (parent_of start) (parent_of next.start) run (offset_of next.start) runs
    (λ same.
    let end_is : end ≡ parent_of start ++ offset_of end ∷ [] = path-joined end some ∙ ap (λ p. p ++ offset_of end ∷ []) (sym one) in
    let next_is : next.start ≡ parent_of start ++ offset_of next.start ∷ [] = path-joined next.start f.some ∙ ap (λ p. p ++ offset_of next.start ∷ []) same in
    let offsets : not_after (offset_of end ∷ []) (offset_of next.start ∷ []) ≡ true =
    sym (not_after-parent (parent_of start) (offset_of end ∷ []) (offset_of next.start ∷ [])) ∙ (λ t. not_after (sym end_is t) (sym next_is t)) ∙ later.0 in
    least run.to (offset_of end) (offset_of next.start) most (sym (not_after-cons (offset_of end) (offset_of next.start) [] []) ∙ offsets))
    (all-behind key (offset_of next.start) (take (offset_of next.end - offset_of next.start) (drop (offset_of next.start) f.level)) runs
    (part-runs key new items next.start next.end f).0))
    (parts-far key new items start end run parts one some most later.1 there.1 flat.1)
  where
    least : (n a b : ℕ) → n ≤ a → (nat_lt a b || (a == b && true)) ≡ true → n ≤ b
    least n a b less e = grind (arith, nat_tests)

abbrev AllFar : List ℕ → List Run → List Spot → Type 0
AllFar parent [] rest = Unit {0}
AllFar parent (run ∷ runs) rest = IsFar (spot_of parent run) rest × AllFar parent runs rest

runs-apart : (parent : List ℕ) (runs : List Run) (rest : List Spot) → AreApart runs → AreFar rest → AllFar parent runs rest
    → AreFar (map (spot_of parent) runs ++ rest)
runs-apart parent [] rest apart far each = far
runs-apart parent (run ∷ runs) rest apart far each = (
  far-append (spot_of parent run) (map (spot_of parent) runs) rest (runs-far parent parent run run.to runs (λ _. omega arith) apart.0) each.0,
  runs-apart parent runs rest apart.1 far each.1,
)

pub spots-far : (key : List ℕ) (new : Option AttributeValue) (items : List Item) (parts : List Range) → AreThere (child_count items) parts
    → AreFlat parts → AreForward parts → AreFar (spots_of key new items parts)
spots-far key new items [] there flat forward = tt
spots-far key new items (part ∷ parts) there flat forward =
    let f = part-flat items part parts there flat in
    let runs = runs_of key new (offset_of part.start) (items_of_range items part) in
    let found = part-runs key new items part.start part.end f in
    runs-apart (parent_of part.start) runs (spots_of key new items parts) found.1 (spots-far key new items parts there.1 flat.1 forward.1) (each runs f found.0)
  where
    each : (runs : List Run) (f : Flat items part.start part.end)
        → AreRunsOf key (offset_of part.start) (take (offset_of part.end - offset_of part.start) (drop (offset_of part.start) f.level)) runs
        → AllFar (parent_of part.start) runs (spots_of key new items parts)
    each [] f h = tt
    each (run ∷ runs) f h =
        let last = h.0.last in
        let low = f.short in
        let long = length-take (offset_of part.end - offset_of part.start) (drop (offset_of part.start) f.level) in
        (parts-far key new items part.start part.end run parts f.one (f.last_some) (omega (arith, last, low, long)) forward.0 there.1 flat.1, each runs f h.1)
