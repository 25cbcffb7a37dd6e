-- How each change of one list of items is taken back.
use Rattle.std.proofs.Common.{◌≡◌, ℕ, zero, suc, ◌+◌, ◌-◌, ◌≤◌, Bool, true, false, nat_le, if◌then◌else◌, List, [], ◌∷◌, ◌++◌, length, take, drop, Option, Some}
use Rattle.std.proofs.Common.{None, option_map, option_and_then, slice_get, refl, sym, ap, ◌∙◌, subst, arith, append_assoc, append-nil, length-append}
use Rattle.std.proofs.Common.{length-take, length-drop}
use Rattle.std.specs.Option.{option_map_or}
use Rattle.std.proofs.lemmas.List.{take-append-drop}
use Rattle.std.proofs.lemmas.Bool.Decides.{nat_tests}
use Rattle.ck_base.proofs.Common.{in_three}
use Rattle.item_definitions.specs.Item.{Item, character, element, inner, with_inner}
use Rattle.item_definitions.specs.Children.{Change}
use Rattle.operation_definitions.specs.Level.{replace, put_in, take_out, rename_at, split_at, merge_at, one_item, renamed, split_item, merge_items}
use Rattle.operation_definitions.proofs.Lifting.{TakesBack, map-some, then-some, inner-with_inner, with_inner-again, with_inner-twice}

take-front : {X : Type 0} (a b : List X) → take (length a) (a ++ b) ≡ a
take-front [] b = refl
take-front (x ∷ a) b = ap (λ rest. x ∷ rest) (take-front a b)

drop-front : {X : Type 0} (a b : List X) → drop (length a) (a ++ b) ≡ b
drop-front [] b = refl
drop-front (x ∷ a) b = drop-front a b

drop-both : {X : Type 0} (a b c : List X) → drop (length a + length b) (a ++ (b ++ c)) ≡ c
drop-both a b c = ap (λ n. drop n (a ++ (b ++ c))) (sym (length-append a b)) ∙ ap (drop (length (a ++ b))) (sym (append_assoc a b c)) ∙ drop-front (a ++ b) c

pub most : (a b : ℕ) → a ≤ b → nat_le a b ≡ true
most a b h = grind (arith, nat_tests)

-- what stands in place of a run, between what is before it and behind it
abbrev put_back : {R : Type 0} → ℕ → ℕ → List Item → List Item × R → List Item × R
put_back offset count xs made = (take offset xs ++ (made.0 ++ drop (offset + count) xs), made.1)

-- a replacement that gives something
pub record Replaced {R : Type 0} (offset count : ℕ) (change : Change R) (xs ys : List Item) (r : R) : Type 0 where
  pub room : offset + count ≤ length xs
  pub new : List Item
  pub gives : change (take count (drop offset xs)) ≡ Some (new, r)
  pub result : take offset xs ++ (new ++ drop (offset + count) xs) ≡ ys

pub replaced : {R : Type 0} (offset count : ℕ) (change : Change R) (xs ys : List Item) (r : R) → replace offset count change xs ≡ Some (ys, r)
    → Replaced offset count change xs ys r
replaced {R = R} offset count change xs ys r e = go (nat_le (offset + count) (length xs)) refl e
  where
    go : (t : Bool) → t ≡ nat_le (offset + count) (length xs)
        → (if t then option_map (put_back offset count xs) (change (take count (drop offset xs))) else None) ≡ Some (ys, r)
        → Replaced offset count change xs ys r
    go true t e =
        let a = map-some (put_back offset count xs) (change (take count (drop offset xs))) (ys, r) e in
        record {
          room = grind (arith, nat_tests);
          new = a.0.0;
          gives = a.1 ∙ ap (λ v. Some (a.0.0, v)) (ap (λ (p : List Item × R). p.1) a.2);
          result = ap (λ (p : List Item × R). p.0) a.2;
        }
    go false t e = absurd cc

replace-three : {R : Type 0} (change : Change R) (a b c new : List Item) (r : R) → change b ≡ Some (new, r)
    → replace (length a) (length b) change (a ++ (b ++ c)) ≡ Some (a ++ (new ++ c), r)
replace-three {R = R} change a b c new r e =
    let xs = a ++ (b ++ c) in
    let make : List Item × R → List Item × R = λ made. (take (length a) xs ++ (made.0 ++ drop (length a + length b) xs), made.1) in
    let room : length a + length b ≤ length xs = omega (arith, length-append a (b ++ c), length-append b c) in
    ap (λ t. if t then option_map make (change (take (length b) (drop (length a) xs))) else None) (most (length a + length b) (length xs) room)
    ∙ ap (option_map make) (ap change (ap (take (length b)) (drop-front a (b ++ c)) ∙ take-front b c) ∙ e)
    ∙ (λ t. Some (take-front a (b ++ c) t ++ (new ++ drop-both a b c t), r))

-- what takes a change of a run back also takes it back in the list
pub replace-back : {R S : Type 0} (offset count again : ℕ) (f : Change R) (g : Change S) (r : R) (s : S)
    → ((run new : List Item) → length run ≡ count → f run ≡ Some (new, r) → (length new ≡ again) × (g new ≡ Some (run, s)))
    → TakesBack (replace offset count f) (replace offset again g) r s
replace-back offset count again f g r s back xs ys e =
    let h = replaced offset count f xs ys r e in
    let a = take offset xs in
    let run = take count (drop offset xs) in
    let c = drop (offset + count) xs in
    let front : length a ≡ offset = omega (arith, length-take offset xs, h.room) in
    let middle : length run ≡ count = omega (arith, length-take count (drop offset xs), length-drop offset xs, h.room) in
    let turned = back run h.new middle h.gives in
    subst (λ zs. replace offset again g zs ≡ Some (xs, s)) h.result
    ((λ t. replace (sym front t) (sym turned.0 t) g (a ++ (h.new ++ c))) ∙ replace-three g a h.new c run s turned.1
    ∙ ap (λ zs. Some (zs, s)) (in_three offset count xs))

-- the parts of what an option has
abbrev first : {R : Type 0} → Option (List Item × R) → List Item
first None = []
first (Some made) = made.0

abbrev second : Option (List Item × List Item) → List Item
second None = []
second (Some made) = made.1

-- items that come in go again
pub put_in-back : (offset : ℕ) (new : List Item) → TakesBack (put_in offset new) (take_out offset (length new)) tt new
put_in-back offset new =
    replace-back offset 0 (length new) (λ items. Some (new ++ items, tt)) (λ run. Some ([], run)) tt new turn
  where
    turn : (run made : List Item) → length run ≡ 0 → ◌≡◌ {A = Option (List Item × Unit {0})} (Some (new ++ run, tt)) (Some (made, tt))
        → (length made ≡ length new) × (◌≡◌ {A = Option (List Item × List Item)} (Some ([], made)) (Some (run, new)))
    turn [] made short e =
        let same : made ≡ new = sym (ap first e) ∙ append-nil new in
        (ap length same, ap (λ m. Some ([], m)) same)
    turn (x ∷ run) made short e = absurd (omega arith)

-- items that go come in again
pub take_out-back : (offset count : ℕ) (run : List Item) → TakesBack (take_out offset count) (put_in offset run) run tt
take_out-back offset count run =
    replace-back offset count 0 (λ items. Some ([], items)) (λ items. Some (run ++ items, tt)) run tt turn
  where
    turn : (items made : List Item) → length items ≡ count → ◌≡◌ {A = Option (List Item × List Item)} (Some ([], items)) (Some (made, run))
        → (length made ≡ 0) × (◌≡◌ {A = Option (List Item × Unit {0})} (Some (run ++ made, tt)) (Some (items, tt)))
    turn items made long e =
        let gone : [] ≡ made = ap first e in
        let kept : items ≡ run = ap second e in
        (ap length (sym gone), ap (λ m. Some (run ++ m, tt)) (sym gone) ∙ ap (λ m. Some (m, tt)) (append-nil run ∙ sym kept))

-- what is taken out has as many items as were asked for
pub take_out-long : (offset count : ℕ) (xs ys run : List Item) → take_out offset count xs ≡ Some (ys, run) → length run ≡ count
take_out-long offset count xs ys run e =
    let h = replaced offset count (λ items. Some ([], items)) xs ys run e in
    let kept : take count (drop offset xs) ≡ run = ap second h.gives in
    ap length (sym kept) ∙ omega (arith, length-take count (drop offset xs), length-drop offset xs, h.room)

-- an element gets its old name back
pub rename-back : (index : ℕ) (old new : List ℕ) → TakesBack (rename_at index new) (rename_at index old) old new
rename-back index old new = replace-back index 1 1 (one_item (renamed new)) (one_item (renamed old)) old new turn
  where
    turn : (run made : List Item) → length run ≡ 1 → one_item (renamed new) run ≡ Some (made, old) → (length made ≡ 1)
        × (one_item (renamed old) made ≡ Some (run, new))
    turn [] made long e = absurd cc
    turn (character scalar attributes ∷ []) made long e = absurd cc
    turn (element id name attributes children ∷ []) made long e =
        let same : element id new attributes children ∷ [] ≡ made = ap first e in
        let named : name ≡ old = ap (λ (o : Option (List Item × List ℕ)). option_map_or (λ (p : List Item × List ℕ). p.1) o old) e in
        (ap length (sym same), ap (one_item (renamed old)) (sym same) ∙ ap (λ n. Some (element id n attributes children ∷ [], new)) (sym named))
    turn (item ∷ next ∷ rest) made long e = absurd cc

-- what a split gives: the offset was in the element, and the shell
pub split-some : (offset : ℕ) (shell item : Item) (made : List Item) (r : Item) → split_item offset shell item ≡ Some (made, r)
    → (children : List Item) × (inner item ≡ Some children) × (offset ≤ length children)
    × (with_inner (take offset children) item ∷ with_inner (drop offset children) shell ∷ [] ≡ made) × (shell ≡ r)
split-some offset shell item made r e =
    let a = then-some (λ children. if nat_le offset (length children)
    then Some (with_inner (take offset children) item ∷ with_inner (drop offset children) shell ∷ [], shell) else None) (inner item) (made, r) e in
    go a.0 a.1 (nat_le offset (length a.0)) refl a.2
  where
    go : (children : List Item) → inner item ≡ Some children → (t : Bool) → t ≡ nat_le offset (length children)
        → ◌≡◌ {A = Option (List Item × Item)} (if t
        then Some (with_inner (take offset children) item ∷ with_inner (drop offset children) shell ∷ [], shell) else None) (Some (made, r))
        → (children : List Item) × (inner item ≡ Some children) × (offset ≤ length children)
        × (with_inner (take offset children) item ∷ with_inner (drop offset children) shell ∷ [] ≡ made) × (shell ≡ r)
    go children here true t e = (
      children,
      here,
      grind (arith, nat_tests),
      ap first e,
      ap (λ (o : Option (List Item × Item)). option_map_or (λ (p : List Item × Item). p.1) o r) e,
    )
    go children here false t e = absurd cc

-- a merge of two elements
merge-two : (left right : Item) (front back : List Item) → inner left ≡ Some front → inner right ≡ Some back
    → merge_items (left ∷ right ∷ []) ≡ Some (with_inner (front ++ back) left ∷ [], (with_inner [] right, length front))
merge-two left right front back e f =
    ap (option_and_then (λ front. option_map (λ back. (with_inner (front ++ back) left ∷ [], (with_inner [] right, length front))) (inner right))) e
    ∙ ap (option_map (λ back. (with_inner (front ++ back) left ∷ [], (with_inner [] right, length front)))) f

-- a split element is one again
pub split-back : (index offset : ℕ) (shell : Item → Item) (r : Item)
    → ((item : Item) (children : List Item) → inner item ≡ Some children → inner (shell item) ≡ Some [])
    → TakesBack (split_at index offset shell) (merge_at (index + 1)) r (with_inner [] r, offset)
split-back index offset shell r bare =
    let same : index + 1 - 1 ≡ index = omega arith in
    subst (λ n. TakesBack (split_at index offset shell) (replace n 2 merge_items) r (with_inner [] r, offset)) (sym same)
    (replace-back index 1 2 (one_item (λ item. split_item offset (shell item) item)) merge_items r (with_inner [] r, offset) turn)
  where
    turn : (run made : List Item) → length run ≡ 1 → one_item (λ item. split_item offset (shell item) item) run ≡ Some (made, r) → (length made ≡ 2)
        × (merge_items made ≡ Some (run, (with_inner [] r, offset)))
    turn [] made long e = absurd cc
    turn (item ∷ []) made long e =
        let s = split-some offset (shell item) item made r e in
        let left = with_inner (take offset s.0) item in
        let right = with_inner (drop offset s.0) (shell item) in (
          ap length (sym s.3),
          ap merge_items (sym s.3)
              ∙ merge-two left right (take offset s.0) (drop offset s.0) (inner-with_inner item s.0 (take offset s.0) s.1)
              (inner-with_inner (shell item) [] (drop offset s.0) (bare item s.0 s.1))
              ∙ (λ t. Some (
                with_inner (take-append-drop offset s.0 t) left ∷ [],
                (with_inner-twice (shell item) [] (drop offset s.0) t, length (take offset s.0)),
              ))
              ∙ (λ t. Some (with_inner-again item s.0 (take offset s.0) s.1 t ∷ [], (with_inner [] (s.4 t), taken offset s.0 s.2 t))),
        )
      where
        taken : (offset : ℕ) (children : List Item) → offset ≤ length children → length (take offset children) ≡ offset
        taken offset children room = omega (arith, length-take offset children)
    turn (item ∷ next ∷ rest) made long e = absurd cc

-- merged elements are two again
pub merge-back : (index offset : ℕ) (shell : Item) → TakesBack (merge_at index) (split_at (index - 1) offset (λ _. shell)) (shell, offset) shell
merge-back index offset shell = replace-back (index - 1) 2 1 merge_items (one_item (λ item. split_item offset shell item)) (shell, offset) shell turn
  where
    parted : (left right : Item) (front back : List Item) (shell : Item) (offset : ℕ) → inner left ≡ Some front → inner right ≡ Some back
        → with_inner [] right ≡ shell → length front ≡ offset
        → split_item offset shell (with_inner (front ++ back) left) ≡ Some (left ∷ right ∷ [], shell)
    parted left right front back shell offset e f bare count =
        let whole = with_inner (front ++ back) left in
        let room : nat_le offset (length (front ++ back)) ≡ true = most offset (length (front ++ back)) (omega (arith, length-append front back)) in
        ap (option_and_then (λ children. if nat_le offset (length children)
        then Some (with_inner (take offset children) whole ∷ with_inner (drop offset children) shell ∷ [], shell) else None))
        (inner-with_inner left front (front ++ back) e)
        ∙ ap (λ t. if t then Some (with_inner (take offset (front ++ back)) whole ∷ with_inner (drop offset (front ++ back)) shell ∷ [], shell) else None) room
        ∙ (λ t. Some (with_inner (take (sym count t) (front ++ back)) whole ∷ with_inner (drop (sym count t) (front ++ back)) (sym bare t) ∷ [], shell))
        ∙ (λ t. Some (with_inner (take-front front back t) whole ∷ with_inner (drop-front front back t) (with_inner [] right) ∷ [], shell))
        ∙ (λ t. Some (with_inner-again left front (front ++ back) e t ∷ with_inner-again right back [] f t ∷ [], shell))

    turn : (run made : List Item) → length run ≡ 2 → merge_items run ≡ Some (made, (shell, offset)) → (length made ≡ 1)
        × (one_item (λ item. split_item offset shell item) made ≡ Some (run, shell))
    turn [] made long e = absurd cc
    turn (left ∷ []) made long e = absurd cc
    turn (left ∷ right ∷ []) made long e =
        let a = then-some (λ front. option_map (λ back. (with_inner (front ++ back) left ∷ [], (with_inner [] right, length front))) (inner right))
        (inner left) (made, (shell, offset)) e in
        let b = map-some (λ back. (with_inner (a.0 ++ back) left ∷ [], (with_inner [] right, length a.0))) (inner right) (made, (shell, offset)) a.2 in
        let same : with_inner (a.0 ++ b.0) left ∷ [] ≡ made = ap (λ (p : List Item × (Item × ℕ)). p.0) b.2 in
        let bare : with_inner [] right ≡ shell = ap (λ (p : List Item × (Item × ℕ)). p.1.0) b.2 in
        let count : length a.0 ≡ offset = ap (λ (p : List Item × (Item × ℕ)). p.1.1) b.2 in
        (ap length (sym same), ap (one_item (λ item. split_item offset shell item)) (sym same) ∙ parted left right a.0 b.0 shell offset a.1 b.1 bare count)
    turn (left ∷ right ∷ next ∷ rest) made long e = absurd cc

-- the change of one item is that of the item at the index
pub item-there : {R : Type 0} (index : ℕ) (change : Item → Option (List Item × R)) (xs ys : List Item) (r : R) → replace index 1 (one_item change) xs
    ≡ Some (ys, r)
    → (item : Item) × (made : List Item) × (slice_get xs index ≡ Some item) × (change item ≡ Some (made, r))
item-there {R = R} index change xs ys r e =
    let h = replaced index 1 (one_item change) xs ys r e in
    go (take 1 (drop index xs)) refl h.gives
  where
    found : (zs : List Item) (i : ℕ) (item : Item) → take 1 (drop i zs) ≡ item ∷ [] → slice_get zs i ≡ Some item
    found [] zero item e = absurd cc
    found [] (suc i) item e = absurd cc
    found (z ∷ zs) zero item e = (let same : z ≡ item = cc in ap Some same)
    found (z ∷ zs) (suc i) item e = found zs i item e

    go : {new : List Item} (run : List Item) → take 1 (drop index xs) ≡ run → one_item change run ≡ Some (new, r) → (item : Item) × (made : List Item)
        × (slice_get xs index ≡ Some item) × (change item ≡ Some (made, r))
    go [] same e = absurd cc
    go {new = new} (item ∷ []) same e = (item, new, found xs index item same, e)
    go (item ∷ next ∷ rest) same e = absurd cc
