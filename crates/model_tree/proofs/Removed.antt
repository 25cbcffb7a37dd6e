-- A position that is in the tree is carried into the tree when items are taken out.
use Rattle.std.proofs.Common.{◌≡◌, ◌≢◌, ℕ, zero, suc, ◌+◌, ◌-◌, ◌<◌, ◌≤◌, inl, inr, Bool, true, false, nat_le, if◌then◌else◌, List, [], ◌∷◌, ◌++◌, length, take}
use Rattle.std.proofs.Common.{drop, Option, Some, None, option_map, slice_get, slice_set, refl, sym, ap, ◌∙◌, subst, arith, length-append, length-take}
use Rattle.std.proofs.Common.{length-drop, length-set}
use Rattle.std.specs.Prelude.{is_some}
use Rattle.std.proofs.lemmas.Bool.Decides.{nat_tests}
use Rattle.item_definitions.specs.Item.{Item, inner, with_inner}
use Rattle.item_definitions.specs.Children.{Change, parent_of, offset_of, children_at, at, at_index, in_item}
use Rattle.item_definitions.specs.Shift.{rule_remove}
use Rattle.item_definitions.proofs.Paths.{parent_of-push, offset_of-push}
use Rattle.operation_definitions.specs.Level.{put_in, take_out}
use Rattle.operation_definitions.specs.After.{room_at}
use Rattle.operation_definitions.proofs.Lifting.{inner-with_inner, get-set}
use Rattle.operation_definitions.proofs.Levels.{replaced}
use Rattle.ck_base.proofs.Common.{in_three}
use Rattle.operation_definitions.proofs.Moves.{cut, cut-some, decide, within-same, within-other}
use Rattle.operation_definitions.proofs.Stays.{Is, put_in-room, put_in-fits, get-other, at_index-is, stands-below}
use Rattle.model_tree.proofs.AtPaths.{at-nowhere, at-fails, at-through, inside}
use Rattle.model_tree.proofs.Found.{get-front, get-back}
use Rattle.model_tree.proofs.Puts.{memory}

-- a position is there exactly where its parent has so many items
stands-is : (parent : List ℕ) (offset : ℕ) (xs : List Item) → room_at xs (parent ++ offset ∷ []) ≡ at parent (put_in offset []) xs
stands-is parent offset xs = λ i. at (parent_of-push parent offset i) (put_in (offset_of-push parent offset i) []) xs

pub place_there : (parent : List ℕ) (offset : ℕ) (xs level : List Item) → Some level ≡ children_at parent xs → offset + 0 ≤ length level
    → is_some (room_at xs (parent ++ offset ∷ [])) ≡ true
place_there parent offset xs level e fits =
    ap is_some (stands-is parent offset xs) ∙ memory (λ items. Some ([] ++ items, tt)) parent offset 0 xs level [] tt (sym e) fits refl

pub place_nowhere : (parent : List ℕ) (offset : ℕ) (xs : List Item) → None ≡ children_at parent xs → is_some (room_at xs (parent ++ offset ∷ [])) ≡ false
place_nowhere parent offset xs e = ap is_some (stands-is parent offset xs ∙ at-nowhere (put_in offset []) parent xs (sym e))

pub place_short : (parent : List ℕ) (offset : ℕ) (xs level : List Item) → Some level ≡ children_at parent xs → length level < offset + 0
    → is_some (room_at xs (parent ++ offset ∷ [])) ≡ false
place_short parent offset xs level e less =
    ap is_some (stands-is parent offset xs ∙ at-fails (put_in offset []) parent xs level (sym e) (short (put_in offset [] level) refl))
  where
    short : (o : Option (List Item × Unit {0})) → put_in offset [] level ≡ o → put_in offset [] level ≡ None
    short None e = e
    short (Some made) e = absurd (omega (arith, put_in-fits offset [] level (made, e)))

-- the list before and behind the run
record Parted (offset count : ℕ) (xs ys : List Item) : Type 0 where
  front : List Item
  run : List Item
  back : List Item
  long : length front ≡ offset
  many : length run ≡ count
  before : xs ≡ front ++ (run ++ back)
  after : ys ≡ front ++ back

parted : (offset count : ℕ) (xs ys run : List Item) → take_out offset count xs ≡ Some (ys, run) → Parted offset count xs ys
parted offset count xs ys run e =
    let r = replaced offset count (λ run. Some ([], run)) xs ys run e in
    let p : ◌≡◌ {A = Option (List Item × List Item)} (Some ([], take count (drop offset xs))) (Some (r.new, run)) = r.gives in
    let q : ◌≡◌ {A = List Item × List Item} ([], take count (drop offset xs)) (r.new, run) = cc in
    let none : [] ≡ r.new = ap (λ (both : List Item × List Item). both.0) q in
    record {
      front = take offset xs;
      run = take count (drop offset xs);
      back = drop (offset + count) xs;
      long = omega (arith, length-take offset xs, r.room);
      many = omega (arith, length-take count (drop offset xs), length-drop offset xs, r.room);
      before = sym (in_three offset count xs);
      after = sym r.result ∙ ap (λ new. take offset xs ++ (new ++ drop (offset + count) xs)) (sym none);
    }

out-length : (offset count : ℕ) (xs ys run : List Item) → take_out offset count xs ≡ Some (ys, run) → length ys + count ≡ length xs
out-length offset count xs ys run e =
    let p = parted offset count xs ys run e in
    omega (
      arith,
      ap length p.before,
      ap length p.after,
      p.many,
      length-append p.front (p.run ++ p.back),
      length-append p.run p.back,
      length-append p.front p.back,
    )

out-room : (offset count : ℕ) (xs ys run : List Item) → take_out offset count xs ≡ Some (ys, run) → offset ≤ length ys
out-room offset count xs ys run e =
    let p = parted offset count xs ys run e in
    omega (arith, ap length p.after, p.long, length-append p.front p.back)

get-before : (offset count : ℕ) (xs ys run : List Item) (i : ℕ) → take_out offset count xs ≡ Some (ys, run) → i < offset → slice_get ys i ≡ slice_get xs i
get-before offset count xs ys run i e less =
    let p = parted offset count xs ys run e in
    let within : i < length p.front = omega (arith, p.long) in
    ap (λ zs. slice_get zs i) p.after ∙ get-front p.front p.back i within
    ∙ sym (ap (λ zs. slice_get zs i) p.before ∙ get-front p.front (p.run ++ p.back) i within)

get-behind : (offset count : ℕ) (xs ys run : List Item) (i : ℕ) → take_out offset count xs ≡ Some (ys, run) → offset + count ≤ i
    → slice_get ys (i - count) ≡ slice_get xs i
get-behind offset count xs ys run i e least =
    let p = parted offset count xs ys run e in
    let first : length p.front ≤ i - count = omega (arith, p.long) in
    let second : length p.front ≤ i = omega (arith, p.long) in
    let third : length p.run ≤ i - length p.front = omega (arith, p.long, p.many) in
    let same : i - count - length p.front ≡ i - length p.front - length p.run = omega (arith, p.long, p.many) in
    ap (λ zs. slice_get zs (i - count)) p.after ∙ get-back p.front p.back (i - count) first ∙ ap (slice_get p.back) same
    ∙ sym (ap (λ zs. slice_get zs i) p.before ∙ get-back p.front (p.run ++ p.back) i second ∙ get-back p.run p.back (i - length p.front) third)

root-stands : (xs : List Item) → Is (room_at xs [])
root-stands xs = put_in-room 0 [] xs (omega arith)

offset-stays : (s offset count o : ℕ) (parent : List ℕ) → cut (s ∷ parent) offset count (o ∷ []) ≡ o ∷ []
offset-stays s offset count o parent =
    elim (decide s o) [
      | inl same ↦ ap (λ v. cut (s ∷ parent) offset count (v ∷ [])) (sym same) ∙ within-same s parent [] (rule_remove offset count)
          ∙ (λ t. same t ∷ none parent t)
      | inr apart ↦ within-other s o parent [] (rule_remove offset count) apart
    ]
  where
    none : (parent : List ℕ) → cut parent offset count [] ≡ []
    none [] = refl
    none (x ∷ parent) = refl

-- a position in the tree is carried to one in the tree
pub carried_in : (parent : List ℕ) (offset count : ℕ) (xs ys run : List Item) (position : List ℕ) → at parent (take_out offset count) xs
    ≡ Some (ys, run) → Is (room_at xs position) → Is (room_at ys (cut parent offset count position))
carried_in [] offset count xs ys run [] e h = root-stands ys
carried_in [] offset count xs ys run (o ∷ []) e h = go (nat_le (offset + count) o) (nat_le offset o) refl refl
  where
    go : (t u : Bool) → t ≡ nat_le (offset + count) o → u ≡ nat_le offset o
        → Is (room_at ys (if t then (o - count) ∷ [] else (if u then offset ∷ [] else o ∷ [])))
    go true u t v = put_in-room (o - count) [] ys (omega (arith, put_in-fits o [] xs h, out-length offset count xs ys run e))
    go false true t v = put_in-room offset [] ys (out-room offset count xs ys run e)
    go false false t v = (let less : o < offset = grind (arith, nat_tests) in put_in-room o [] ys (omega (arith, less, out-room offset count xs ys run e)))
carried_in [] offset count xs ys run (i ∷ next ∷ path) e h =
    let a = inside xs i (at (parent_of (next ∷ path)) (put_in (offset_of (next ∷ path)) [])) h.0.0 tt h.1 in
    go (nat_le (offset + count) i) (nat_le offset i) refl refl a.item a.children a.there a.here ((a.new, tt), a.made)
  where
    go : (t u : Bool) → t ≡ nat_le (offset + count) i → u ≡ nat_le offset i → (item : Item) (children : List Item) → slice_get xs i ≡ Some item
        → inner item ≡ Some children
        → Is (at (parent_of (next ∷ path)) (put_in (offset_of (next ∷ path)) []) children)
        → Is (room_at ys (if t then (i - count) ∷ next ∷ path else (if u then offset ∷ [] else i ∷ next ∷ path)))
    go true u t v item children there here made =
        at_index-is ys (i - count) item children (at (parent_of (next ∷ path)) (put_in (offset_of (next ∷ path)) []))
        (get-behind offset count xs ys run i e (grind (arith, nat_tests)) ∙ there) here made
    go false true t v item children there here made = put_in-room offset [] ys (out-room offset count xs ys run e)
    go false false t v item children there here made =
        at_index-is ys i item children (at (parent_of (next ∷ path)) (put_in (offset_of (next ∷ path)) []))
        (get-before offset count xs ys run i e (grind (arith, nat_tests)) ∙ there) here made
carried_in (s ∷ parent) offset count xs ys run [] e h = root-stands ys
carried_in (s ∷ parent) offset count xs ys run (o ∷ []) e h =
    let a = inside xs s (at parent (take_out offset count)) ys run e in
    subst (λ p. Is (room_at ys p)) (sym (offset-stays s offset count o parent))
    (put_in-room o [] ys (omega (arith, put_in-fits o [] xs h, ap length a.whole, length-set xs s (with_inner a.new a.item))))
carried_in (s ∷ parent) offset count xs ys run (i ∷ next ∷ path) e h =
    let a = inside xs s (at parent (take_out offset count)) ys run e in
    let b = inside xs i (at (parent_of (next ∷ path)) (put_in (offset_of (next ∷ path)) [])) h.0.0 tt h.1 in
    elim (decide s i) [
      | inl same ↦ (let there : slice_get xs s ≡ Some b.item = ap (slice_get xs) same ∙ b.there in
          let one : b.item ≡ a.item = (let f : Some b.item ≡ Some a.item = sym there ∙ a.there in cc) in
          let kids : b.children ≡ a.children = (let f : Some b.children ≡ Some a.children = sym b.here ∙ ap inner one ∙ a.here in cc) in
          let deep = carried_in parent offset count a.children a.new run (next ∷ path) a.made
          ((b.new, tt), ap (at (parent_of (next ∷ path)) (put_in (offset_of (next ∷ path)) [])) (sym kids) ∙ b.made) in
          let lower = cut parent offset count (next ∷ path) in
          let some : lower ≢ [] = cut-some parent offset count (next ∷ path) (λ f. cc) in
          subst (λ p. Is (room_at ys p))
          (sym (ap (λ v. cut (s ∷ parent) offset count (v ∷ next ∷ path)) (sym same) ∙ within-same s parent (next ∷ path) (rule_remove offset count)))
          (subst Is (sym (stands-below ys s lower some))
          (at_index-is ys s (with_inner a.new a.item) a.new (at (parent_of lower) (put_in (offset_of lower) []))
          (ap (λ zs. slice_get zs s) (sym a.whole) ∙ get-set xs s a.item (with_inner a.new a.item) a.there)
          (inner-with_inner a.item a.children a.new a.here) deep)))
      | inr apart ↦ subst (λ p. Is (room_at ys p)) (sym (within-other s i parent (next ∷ path) (rule_remove offset count) apart))
          (at_index-is ys i b.item b.children (at (parent_of (next ∷ path)) (put_in (offset_of (next ∷ path)) []))
          (ap (λ zs. slice_get zs i) (sym a.whole) ∙ get-other xs s i (with_inner a.new a.item) apart ∙ b.there) b.here ((b.new, tt), b.made))
    ]
