-- Places that are there, and where they are after a run is taken out.
use Rattle.std.proofs.Common.{◌≡◌, ◌≢◌, ℕ, ◌+◌, ◌-◌, ◌≤◌, Bool, true, false, nat_le, nat_lt, ◌&&◌, ◌||◌, ◌==◌, if◌then◌else◌, List, [], ◌∷◌, ◌++◌, length}
use Rattle.std.proofs.Common.{Option, Some, None, IsSomeAnd, option_map, Ok, refl, sym, ap, ◌∙◌, subst, arith}
use Rattle.std.specs.Option.{option_map_or}
use Rattle.std.proofs.lemmas.Bool.Decides.{nat_tests}
use Rattle.ck_base.proofs.Common.{first_and_second}
use Rattle.item_definitions.specs.Item.{Item, depth_of}
use Rattle.item_definitions.specs.Children.{parent_of, offset_of, children_at, child_count, at}
use Rattle.item_definitions.specs.Position.{between, behind, IsIn, IsRange, not_after, is_before}
use Rattle.item_definitions.specs.Shift.{carry_remove, forward}
use Rattle.item_definitions.proofs.Order.{not_after-cons, not_after-same, not_after-parent, not_after-itself, behind-push}
use Rattle.item_definitions.proofs.Paths.{parent_of-push, offset_of-push, path-joined}
use Rattle.operation_definitions.specs.Level.{take_out}
use Rattle.operation_definitions.specs.Operation.{in_tree, in_cell, move}
use Rattle.operation_definitions.specs.After.{after, effect, limited, fill}
use Rattle.operation_definitions.specs.Reversed.{IsLimited}
use Rattle.operation_definitions.proofs.Steps.{step}
use Rattle.operation_definitions.proofs.Simple.{cut, limited-ok}
use Rattle.operation_definitions.proofs.Names.{same_numbers}
use Rattle.operation_definitions.proofs.Moves.{forward-is}
use Rattle.document_definitions.proofs.Ranges.{keeps_ranges}
use Rattle.model_tree.proofs.Limited.{at-depths, replace-depths, take_out_counts}
use Rattle.edit_definitions.specs.Places.{is_there, is_range, are_in_one, is_element}
use Rattle.edit_definitions.specs.Planned.{count_in}
use Rattle.edit_definitions.proofs.Reached.{has-room, element-there, found, one-there}

pub there-place : (items : List Item) (position : List ℕ) → is_there items position ≡ true → IsIn items position
there-place items [] e = absurd cc
there-place items (number ∷ path) e = ((λ same. cc), go (child_count items (parent_of (number ∷ path))) e)
  where
    go : (o : Option ℕ) → option_map_or (λ count. nat_le (offset_of (number ∷ path)) count) o false ≡ true
        → IsSomeAnd o (λ count. offset_of (number ∷ path) ≤ count)
    go None e = absurd cc
    go (Some count) e = grind (arith, nat_tests)

pub place-there : (items : List Item) (position : List ℕ) → IsIn items position → is_there items position ≡ true
place-there items [] h = absurd (h.0 refl)
place-there items (number ∷ path) h = go (child_count items (parent_of (number ∷ path))) h.1
  where
    go : (o : Option ℕ) → IsSomeAnd o (λ count. offset_of (number ∷ path) ≤ count)
        → option_map_or (λ count. nat_le (offset_of (number ∷ path)) count) o false ≡ true
    go None h = absurd h
    go (Some count) h = grind (arith, nat_tests)

-- an offset of a parent that is there
pub there-from : (items : List Item) (parent : List ℕ) (offset : ℕ) (level : List Item) → children_at parent items ≡ Some level → offset ≤ length level
    → is_there items (parent ++ offset ∷ []) ≡ true
there-from items parent offset level e room = place-there items (parent ++ offset ∷ []) (some parent, count)
  where
    some : (parent : List ℕ) → parent ++ offset ∷ [] ≢ []
    some [] = λ same. cc
    some (step ∷ parent) = λ same. cc

    count : IsSomeAnd (option_map length (children_at (parent_of (parent ++ offset ∷ [])) items)) (λ count. offset_of (parent ++ offset ∷ []) ≤ count)
    count =
        subst (λ p. IsSomeAnd (option_map length (children_at p items)) (λ count. offset_of (parent ++ offset ∷ []) ≤ count))
        (sym (parent_of-push parent offset))
        (subst (λ (o : Option (List Item)). IsSomeAnd (option_map length o) (λ count. offset_of (parent ++ offset ∷ []) ≤ count)) (sym e)
        (subst (λ n. n ≤ length level) (sym (offset_of-push parent offset)) room))

-- what is left of a tree within the limits is within them
left-limited : (path : List ℕ) (offset count : ℕ) (items left run : List Item) → IsLimited items → at path (take_out offset count) items
    ≡ Some (left, run) → IsLimited left
left-limited path offset count items left run limits e =
    let fewer = take_out_counts path offset count items left run e in
    let flatter = at-depths (take_out offset count) (λ xs ys r f. replace-depths (λ run. Some ([], run)) (λ run new r g. none run new r g) offset count
    xs ys r f) path items left run e in
    (omega (arith, fewer, limits.0), omega (arith, flatter, limits.1))
  where
    none : (run new r : List Item) → ◌≡◌ {A = Option (List Item × List Item)} (Some ([], run)) (Some (new, r)) → depth_of new ≤ depth_of run
    none run new r e = (let same : [] ≡ new = ap (λ (o : Option (List Item × List Item)). option_map_or (λ (m : List Item × List Item). m.0) o []) e
        in let zero : 0 ≡ depth_of new = ap depth_of same in omega (arith, zero))

-- a place that is there is carried to one that is there
pub remove-there : (from : List ℕ) (count : ℕ) (items left run : List Item) (to : List ℕ) → IsLimited items
    → at (parent_of from) (take_out (offset_of from) count) items ≡ Some (left, run)
    → is_there items to ≡ true → is_there left (carry_remove from count to) ≡ true
remove-there from count items left run to limits e there =
    let place = there-place items to there in
    let range : IsRange (child_count items) (between to to) = (place, place, not_after-itself to) in
    let done = cut items left run [] from count 0 e refl in
    let made : after items [] (move (in_tree from) count (in_cell 0)) ≡ Ok (left, fill [] 0 run) =
    step (effect items [] (move (in_tree from) count (in_cell 0))) limited (left, fill [] 0 run) (Ok (left, fill [] 0 run)) done
    (limited-ok left (fill [] 0 run) (left-limited (parent_of from) (offset_of from) count items left run limits e)) in
    place-there left (carry_remove from count to)
    (first (is_before (carry_remove from count to) (carry_remove from count to))
    (keeps_ranges items [] (move (in_tree from) count (in_cell 0)) (left, fill [] 0 run) (between to to) tt made range))
  where
    first : (b : Bool) → IsRange (child_count left) (if b then between (carry_remove from count to) (carry_remove from count to)
        else between (carry_remove from count to) (carry_remove from count to)) → IsIn left (carry_remove from count to)
    first true h = h.0
    first false h = h.0

-- two positions of which neither comes after the other are one
pub in-order-both : (p q : List ℕ) → not_after p q ≡ true → not_after q p ≡ true → p ≡ q
in-order-both [] [] e f = refl
in-order-both [] (y ∷ q) e f = absurd cc
in-order-both (x ∷ p) [] e f = absurd cc
in-order-both (x ∷ p) (y ∷ q) e f =
    let a = sym (not_after-cons x y p q) ∙ e in
    let b = sym (not_after-cons y x q p) ∙ f in
    let h = heads x y (not_after p q) (not_after q p) a b in
    λ t. h.0 t ∷ in-order-both p q h.1 h.2 t
  where
    heads : (x y : ℕ) (r s : Bool) → (nat_lt x y || (x == y && r)) ≡ true → (nat_lt y x || (y == x && s)) ≡ true → (x ≡ y) × (r ≡ true) × (s ≡ true)
    heads x y true true e f = (grind (arith, nat_tests), refl, refl)
    heads x y true false e f = absurd (grind (arith, nat_tests))
    heads x y false true e f = absurd (grind (arith, nat_tests))
    heads x y false false e f = absurd (grind (arith, nat_tests))

-- a position in an item comes after the item's
pub in-is-after : (path : List ℕ) (offset : ℕ) → not_after (path ++ offset ∷ []) path ≡ false
in-is-after [] offset = refl
in-is-after (step ∷ path) offset = not_after-same step (path ++ offset ∷ []) path ∙ in-is-after path offset

-- a flat range that is there, as the run of its items
pub record Flat (items : List Item) (start end : List ℕ) : Type 0 where
  pub level : List Item
  pub there : children_at (parent_of start) items ≡ Some level
  pub room : offset_of start + count_in start end ≤ length level
  pub ends : forward (count_in start end) start ≡ end
  pub some : start ≢ []
  pub last : is_there items end ≡ true
  pub last_some : end ≢ []
  pub one : parent_of start ≡ parent_of end
  pub short : offset_of start + count_in start end ≤ offset_of end

pub flat-run : (items : List Item) (start end : List ℕ) → is_there items start ≡ true → is_there items end ≡ true → not_after start end ≡ true
    → parent_of start ≡ parent_of end → Flat items start end
flat-run items start end first last ordered one =
    let s = has-room items start first in
    let e = has-room items end last in
    let start_is = path-joined start s.some in
    let end_is = path-joined end e.some ∙ ap (λ p. p ++ offset_of end ∷ []) (sym one) in
    let offsets : not_after (offset_of start ∷ []) (offset_of end ∷ []) ≡ true =
    sym (not_after-parent (parent_of start) (offset_of start ∷ []) (offset_of end ∷ [])) ∙ (λ t. not_after (sym start_is t) (sym end_is t)) ∙ ordered in
    let less = least (offset_of start) (offset_of end) (sym (not_after-cons (offset_of start) (offset_of end) [] []) ∙ offsets) in
    let plus : offset_of start + (offset_of end - offset_of start) ≡ offset_of end = omega (arith, less) in
    record {
      level = e.level;
      there = ap (λ p. children_at p items) one ∙ e.there;
      room = (let most = e.room in omega (arith, plus, most));
      ends = ap (forward (offset_of end - offset_of start)) start_is ∙ forward-is (offset_of end - offset_of start) (parent_of start) (offset_of start)
          ∙ ap (λ n. parent_of start ++ n ∷ []) plus ∙ sym end_is;
      some = s.some;
      last = last;
      last_some = e.some;
      one = one;
      short = omega (arith, plus);
    }
  where
    least : (a b : ℕ) → (nat_lt a b || (a == b && true)) ≡ true → a ≤ b
    least a b e = grind (arith, nat_tests)

pub flat : (items : List Item) (start end : List ℕ) → (is_range items start end && are_in_one start end) ≡ true → Flat items start end
flat items start end e =
    let a = first_and_second (is_range items start end) (are_in_one start end) e in
    let b = first_and_second (is_there items start && is_there items end) (not_after start end) a.0 in
    let c = first_and_second (is_there items start) (is_there items end) b.0 in
    flat-run items start end c.0 c.1 b.1 (same_numbers (parent_of start) (parent_of end) a.1)

-- the element at a path as a flat range
pub record ElementPart (items : List Item) (path : List ℕ) : Type 0 where
  pub first : IsIn items path
  pub last : IsIn items (behind path)
  pub flat : parent_of path ≡ parent_of (behind path)
  pub ordered : not_after path (behind path) ≡ true

pub element-part : (items : List Item) (path : List ℕ) → is_element items path ≡ true → ElementPart items path
element-part items path e =
    let element = element-there items path e in
    let f = found path items element.item element.here in
    let one = one-there (offset_of path) f.level element.item f.here in
    let whole = path-joined path f.some in
    let next : behind path ≡ parent_of path ++ (offset_of path + 1) ∷ [] = ap behind whole ∙ behind-push (parent_of path) (offset_of path) in
    record {
      first = subst (IsIn items) (sym whole)
          (there-place items (parent_of path ++ offset_of path ∷ []) (there-from items (parent_of path) (offset_of path) f.level f.there (let less = one.0
          in omega (arith, less))));
      last = subst (IsIn items) (sym next)
          (there-place items (parent_of path ++ (offset_of path + 1) ∷ []) (there-from items (parent_of path) (offset_of path + 1) f.level f.there one.0));
      flat = sym (ap parent_of next ∙ parent_of-push (parent_of path) (offset_of path + 1));
      ordered = (λ t. not_after (whole t) (next t)) ∙ not_after-parent (parent_of path) (offset_of path ∷ []) ((offset_of path + 1) ∷ [])
          ∙ not_after-cons (offset_of path) (offset_of path + 1) [] [] ∙ less (offset_of path);
    }
  where
    less : (n : ℕ) → (nat_lt n (n + 1) || (n == n + 1 && true)) ≡ true
    less n = grind (arith, nat_tests)
