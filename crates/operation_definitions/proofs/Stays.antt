-- A position that is in the tree is in it after items came in elsewhere.
use Rattle.std.proofs.Common.{◌≡◌, ◌≢◌, ℕ, zero, suc, ◌+◌, ◌-◌, ◌<◌, ◌≤◌, inl, inr, Bool, true, false, nat_le, if◌then◌else◌, List, [], ◌∷◌, ◌++◌, length, take}
use Rattle.std.proofs.Common.{drop, Option, Some, None, option_map, option_and_then, slice_get, slice_set, refl, sym, ap, ◌∙◌, subst, arith, length-append}
use Rattle.std.proofs.Common.{length-take, length-set, append-nil}
use Rattle.std.specs.Option.{option_map_or}
use Rattle.std.proofs.lemmas.List.{take-append-drop}
use Rattle.std.proofs.lemmas.Bool.Decides.{nat_tests}
use Rattle.item_definitions.specs.Item.{Item, inner, with_inner}
use Rattle.item_definitions.specs.Children.{Change, parent_of, offset_of, at, at_index, in_item}
use Rattle.item_definitions.specs.Shift.{to_next, rule_insert}
use Rattle.operation_definitions.specs.Level.{put_in}
use Rattle.operation_definitions.specs.After.{room_at}
use Rattle.operation_definitions.proofs.Lifting.{map-some, then-some, inner-with_inner, get-set}
use Rattle.operation_definitions.proofs.Levels.{replaced, most}
use Rattle.operation_definitions.proofs.Moves.{put, decide, insert-is, within-same, within-other}

-- something is there
abbrev pub Is : {X : Type 0} → Option X → Type 0
Is {X} o = (x : X) × (o ≡ Some x)

pub put_in-room : (offset : ℕ) (new xs : List Item) → offset ≤ length xs → Is (put_in offset new xs)
put_in-room offset new xs room = (
  (take offset xs ++ ((new ++ take 0 (drop offset xs)) ++ drop (offset + 0) xs), tt),
  ap (λ t. if t then Some (take offset xs ++ ((new ++ take 0 (drop offset xs)) ++ drop (offset + 0) xs), tt) else None)
      (most (offset + 0) (length xs) (omega arith)),
)

pub put_in-fits : (offset : ℕ) (new xs : List Item) → Is (put_in offset new xs) → offset ≤ length xs
put_in-fits offset new xs h = (let r = replaced offset 0 (λ items. Some (new ++ items, tt)) xs h.0.0 tt h.1 in let room : offset + 0
    ≤ length xs = r.room in omega arith)

pub get-front : (a c : List Item) (i : ℕ) → i < length a → slice_get (a ++ c) i ≡ slice_get a i
get-front [] c i less = absurd (omega arith)
get-front (x ∷ a) c zero less = refl
get-front (x ∷ a) c (suc i) less = get-front a c i (omega arith)

get-back : (a c : List Item) (i : ℕ) → length a ≤ i → slice_get (a ++ c) i ≡ slice_get c (i - length a)
get-back [] c i most = (let same : i ≡ i - 0 = omega arith in ap (slice_get c) same)
get-back (x ∷ a) c zero most = absurd (omega arith)
get-back (x ∷ a) c (suc i) most = (let same : i - length a ≡ suc i - suc (length a) = omega arith in get-back a c i (omega arith) ∙ ap (slice_get c) same)

-- the list before and behind the place where items came in
record Parted (offset : ℕ) (new xs ys : List Item) : Type 0 where
  front : List Item
  back : List Item
  long : length front ≡ offset
  before : xs ≡ front ++ back
  after : ys ≡ front ++ (new ++ back)

parted : (offset : ℕ) (new xs ys : List Item) → put_in offset new xs ≡ Some (ys, tt) → Parted offset new xs ys
parted offset new xs ys e =
    let r = replaced offset 0 (λ items. Some (new ++ items, tt)) xs ys tt e in
    let gave : new ++ [] ≡ r.new = ap (λ (o : Option (List Item × Unit {0})). option_map_or (λ (p : List Item × Unit {0}). p.0) o []) r.gives in
    let room : offset + 0 ≤ length xs = r.room in
    let plain : offset + 0 ≡ offset = omega arith in
    record {
      front = take offset xs;
      back = drop offset xs;
      long = omega (arith, length-take offset xs, room);
      before = sym (take-append-drop offset xs);
      after = sym r.result ∙ (λ t. take offset xs ++ (sym gave t ++ drop (plain t) xs)) ∙ ap (λ n. take offset xs ++ (n ++ drop offset xs)) (append-nil new);
    }

put_in-length : (offset : ℕ) (new xs ys : List Item) → put_in offset new xs ≡ Some (ys, tt) → length ys ≡ length xs + length new
put_in-length offset new xs ys e =
    let p = parted offset new xs ys e in
    omega (arith, ap length p.before, ap length p.after, length-append p.front p.back, length-append p.front (new ++ p.back), length-append new p.back)

get-before : (offset : ℕ) (new xs ys : List Item) (i : ℕ) → put_in offset new xs ≡ Some (ys, tt) → i < offset → slice_get ys i ≡ slice_get xs i
get-before offset new xs ys i e less =
    let p = parted offset new xs ys e in
    let within : i < length p.front = omega (arith, p.long) in
    ap (λ zs. slice_get zs i) p.after ∙ get-front p.front (new ++ p.back) i within
    ∙ sym (ap (λ zs. slice_get zs i) p.before ∙ get-front p.front p.back i within)

get-behind : (offset : ℕ) (new xs ys : List Item) (i : ℕ) → put_in offset new xs ≡ Some (ys, tt) → offset ≤ i → slice_get ys (i + length new) ≡ slice_get xs i
get-behind offset new xs ys i e least =
    let p = parted offset new xs ys e in
    let first : length p.front ≤ i + length new = omega (arith, p.long) in
    let second : length new ≤ i + length new - length p.front = omega (arith, p.long) in
    let same : i + length new - length p.front - length new ≡ i - length p.front = omega (arith, p.long) in
    ap (λ zs. slice_get zs (i + length new)) p.after ∙ get-back p.front (new ++ p.back) (i + length new) first
    ∙ get-back new p.back (i + length new - length p.front) second
    ∙ ap (slice_get p.back) same ∙ sym (ap (λ zs. slice_get zs i) p.before ∙ get-back p.front p.back i (omega (arith, p.long)))

pub get-other : (xs : List Item) (i j : ℕ) (x : Item) → i ≢ j → slice_get (slice_set xs i x) j ≡ slice_get xs j
get-other [] i j x differ = refl
get-other (y ∷ xs) zero zero x differ = absurd (differ refl)
get-other (y ∷ xs) zero (suc j) x differ = refl
get-other (y ∷ xs) (suc i) zero x differ = refl
get-other (y ∷ xs) (suc i) (suc j) x differ = get-other xs i j x (λ e. differ (ap suc e))

-- the change of the item at an index that is there
pub at_index-is : {R : Type 0} (xs : List Item) (i : ℕ) (item : Item) (children : List Item) (change : Change R) → slice_get xs i ≡ Some item
    → inner item ≡ Some children → Is (change children) → Is (at_index i (in_item change) xs)
at_index-is {R = R} xs i item children change e f h = (
  (slice_set xs i (with_inner h.0.0 item), h.0.1),
  ap (option_and_then (λ item. option_map (λ (made : Item × R). (slice_set xs i made.0, made.1)) (in_item change item))) e
      ∙ ap (option_map (λ (made : Item × R). (slice_set xs i made.0, made.1)))
      (ap (option_and_then (λ items. option_map (λ (made : List Item × R). (with_inner made.0 item, made.1)) (change items))) f
      ∙ ap (option_map (λ (made : List Item × R). (with_inner made.0 item, made.1))) h.1),
)

-- and what it went through
record Inside {R : Type 0} (xs : List Item) (i : ℕ) (change : Change R) (ys : List Item) (r : R) : Type 0 where
  item : Item
  children : List Item
  new : List Item
  there : slice_get xs i ≡ Some item
  here : inner item ≡ Some children
  made : change children ≡ Some (new, r)
  whole : slice_set xs i (with_inner new item) ≡ ys

inside : {R : Type 0} (xs : List Item) (i : ℕ) (change : Change R) (ys : List Item) (r : R) → at_index i (in_item change) xs ≡ Some (ys, r)
    → Inside xs i change ys r
inside {R = R} xs i change ys r e =
    let a = then-some (λ item. option_map (λ (made : Item × R). (slice_set xs i made.0, made.1)) (in_item change item)) (slice_get xs i) (ys, r) e in
    let b = map-some (λ (made : Item × R). (slice_set xs i made.0, made.1)) (in_item change a.0) (ys, r) a.2 in
    let c = then-some (λ items. option_map (λ (made : List Item × R). (with_inner made.0 a.0, made.1)) (change items)) (inner a.0) b.0 b.1 in
    let d = map-some (λ (made : List Item × R). (with_inner made.0 a.0, made.1)) (change c.0) b.0 c.2 in
    record {
      item = a.0;
      children = c.0;
      new = d.0.0;
      there = a.1;
      here = c.1;
      made = d.1 ∙ ap (λ v. Some (d.0.0, v)) (ap (λ (p : Item × R). p.1) d.2 ∙ ap (λ (p : List Item × R). p.1) b.2);
      whole = ap (slice_set xs i) (ap (λ (p : Item × R). p.0) d.2) ∙ ap (λ (p : List Item × R). p.0) b.2;
    }

root-stands : (xs : List Item) → Is (room_at xs [])
root-stands xs = put_in-room 0 [] xs (omega arith)

-- a position that goes on below an item
pub stands-below : (xs : List Item) (i : ℕ) (path : List ℕ) → path ≢ [] → room_at xs (i ∷ path)
    ≡ at_index i (in_item (at (parent_of path) (put_in (offset_of path) []))) xs
stands-below xs i [] some = absurd (some refl)
stands-below xs i (next ∷ path) some = refl

put-some : (parent : List ℕ) (offset count next : ℕ) (path : List ℕ) → put parent offset count (next ∷ path) ≢ []
put-some [] offset count next path e = cc
put-some (s ∷ parent) offset count next path e =
    elim (decide s next) [
      | inl same ↦ (let f : s ∷ put parent offset count path ≡ [] = sym (within-same s parent path (rule_insert offset count to_next))
          ∙ ap (λ v. put (s ∷ parent) offset count (v ∷ path)) same ∙ e in cc)
      | inr apart ↦ (let f : next ∷ path ≡ [] = sym (within-other s next parent path (rule_insert offset count to_next) apart) ∙ e in cc)
    ]

-- an offset in the list that holds the changed item
offset-stays : (s offset count o : ℕ) (parent : List ℕ) → put (s ∷ parent) offset count (o ∷ []) ≡ o ∷ []
offset-stays s offset count o parent =
    elim (decide s o) [
      | inl same ↦ ap (λ v. put (s ∷ parent) offset count (v ∷ [])) (sym same) ∙ within-same s parent [] (rule_insert offset count to_next)
          ∙ (λ t. same t ∷ none parent t)
      | inr apart ↦ within-other s o parent [] (rule_insert offset count to_next) apart
    ]
  where
    none : (parent : List ℕ) → put parent offset count [] ≡ []
    none [] = refl
    none (x ∷ parent) = refl

-- a position in the tree stays in it
pub stays : (parent : List ℕ) (offset : ℕ) (new xs ys : List Item) (position : List ℕ) → at parent (put_in offset new) xs ≡ Some (ys, tt)
    → Is (room_at xs position)
    → Is (room_at ys (put parent offset (length new) position))
stays [] offset new xs ys [] e h = root-stands ys
stays [] offset new xs ys (o ∷ []) e h =
    subst (λ p. Is (room_at ys p)) (sym (insert-is offset (length new) o []))
    (put_in-room (if nat_le offset o then o + length new else o) [] ys (room (nat_le offset o) (put_in-fits o [] xs h)))
  where
    room : (t : Bool) → o ≤ length xs → (if t then o + length new else o) ≤ length ys
    room true fits = omega (arith, put_in-length offset new xs ys e)
    room false fits = omega (arith, put_in-length offset new xs ys e)
stays [] offset new xs ys (i ∷ next ∷ path) e h =
    let a = inside xs i (at (parent_of (next ∷ path)) (put_in (offset_of (next ∷ path)) [])) h.0.0 tt h.1 in
    go (nat_le offset i) refl a.item a.children a.there a.here ((a.new, tt), a.made)
  where
    go : (t : Bool) → t ≡ nat_le offset i → (item : Item) (children : List Item) → slice_get xs i ≡ Some item → inner item ≡ Some children
        → Is (at (parent_of (next ∷ path)) (put_in (offset_of (next ∷ path)) []) children)
        → Is (room_at ys ((if t then i + length new else i) ∷ next ∷ path))
    go true t item children there here made =
        at_index-is ys (i + length new) item children (at (parent_of (next ∷ path)) (put_in (offset_of (next ∷ path)) []))
        (get-behind offset new xs ys i e (grind (arith, nat_tests)) ∙ there) here made
    go false t item children there here made =
        at_index-is ys i item children (at (parent_of (next ∷ path)) (put_in (offset_of (next ∷ path)) []))
        (get-before offset new xs ys i e (grind (arith, nat_tests)) ∙ there) here made
stays (s ∷ parent) offset new xs ys [] e h = root-stands ys
stays (s ∷ parent) offset new xs ys (o ∷ []) e h =
    let a = inside xs s (at parent (put_in offset new)) ys tt e in
    subst (λ p. Is (room_at ys p)) (sym (offset-stays s offset (length new) o parent))
    (put_in-room o [] ys (omega (arith, put_in-fits o [] xs h, ap length a.whole, length-set xs s (with_inner a.new a.item))))
stays (s ∷ parent) offset new xs ys (i ∷ next ∷ path) e h =
    let a = inside xs s (at parent (put_in offset new)) ys tt e in
    let b = inside xs i (at (parent_of (next ∷ path)) (put_in (offset_of (next ∷ path)) [])) h.0.0 tt h.1 in
    elim (decide s i) [
      | inl same ↦ (let there : slice_get xs s ≡ Some b.item = ap (slice_get xs) same ∙ b.there in
          let one : b.item ≡ a.item = (let f : Some b.item ≡ Some a.item = sym there ∙ a.there in cc) in
          let kids : b.children ≡ a.children = (let f : Some b.children ≡ Some a.children = sym b.here ∙ ap inner one ∙ a.here in cc) in
          let deep = stays parent offset new a.children a.new (next ∷ path) a.made
          ((b.new, tt), ap (at (parent_of (next ∷ path)) (put_in (offset_of (next ∷ path)) [])) (sym kids) ∙ b.made) in
          let lower = put parent offset (length new) (next ∷ path) in
          subst (λ p. Is (room_at ys p))
          (sym (ap (λ v. put (s ∷ parent) offset (length new) (v ∷ next ∷ path)) (sym same)
          ∙ within-same s parent (next ∷ path) (rule_insert offset (length new) to_next)))
          (subst Is (sym (stands-below ys s lower (put-some parent offset (length new) next path)))
          (at_index-is ys s (with_inner a.new a.item) a.new (at (parent_of lower) (put_in (offset_of lower) []))
          (ap (λ zs. slice_get zs s) (sym a.whole) ∙ get-set xs s a.item (with_inner a.new a.item) a.there)
          (inner-with_inner a.item a.children a.new a.here) deep)))
      | inr apart ↦ subst (λ p. Is (room_at ys p)) (sym (within-other s i parent (next ∷ path) (rule_insert offset (length new) to_next) apart))
          (at_index-is ys i b.item b.children (at (parent_of (next ∷ path)) (put_in (offset_of (next ∷ path)) []))
          (ap (λ zs. slice_get zs i) (sym a.whole) ∙ get-other xs s i (with_inner a.new a.item) apart ∙ b.there) b.here ((b.new, tt), b.made))
    ]
