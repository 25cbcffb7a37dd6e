-- Each operation keeps the keys of items in order.
use Rattle.std.proofs.Common.{◌≡◌, ℕ, zero, suc, ◌-◌, Bool, true, false, not, nat_eq, nat_lt, nat_le, ◌==◌, if◌then◌else◌, List, [], ◌∷◌, ◌++◌, length, take}
use Rattle.std.proofs.Common.{drop, set, Option, Some, None, option_map, slice_get, slice_set, ok_or, Result, Ok, Err, refl, sym, ap, ◌∙◌, subst}
use Rattle.std.specs.Option.{option_map_or}
use Rattle.std.specs.Cmp.Lexicographic.{pointwise}
use Rattle.ck_base.specs.declared.value.Value.{Value as AttributeValue}
use Rattle.ck_base.specs.Entries.{IsOrdered}
use Rattle.ck_base.proofs.Ordered.{ordered_with_value, ordered_without}
use Rattle.item_definitions.specs.Item.{Item, character, element, none, more, inner, with_inner, Attributes, attributes_of, with_attributes}
use Rattle.item_definitions.specs.Children.{Change, parent_of, offset_of, at, in_item}
use Rattle.item_definitions.specs.Shift.{carry_remove}
use Rattle.operation_definitions.specs.Level.{replace, put_in, take_out, give, given, with_key, one_item, renamed, rename_at, split_item, split_at, merge_items}
use Rattle.operation_definitions.specs.Level.{merge_at}
use Rattle.operation_definitions.specs.Operation.{Fault, Operation, in_tree, in_cell, fresh, from_cell, insert, move, attribute, rename, split, merge, marker}
use Rattle.operation_definitions.specs.Operation.{no_place, not_flat, into_itself, old_differs, not_neighbours, cell_state, found_name}
use Rattle.operation_definitions.specs.After.{◌>>=◌, check, after, effect, in_cell_at, is_free, fill, holds_count, shell_of, like, room_at, is_in_run}
use Rattle.operation_definitions.specs.After.{have_value}
use Rattle.operation_definitions.specs.Reversed.{IsItemOrdered, AreOrdered}
use Rattle.operation_definitions.proofs.Lifting.{map-some, then-some}
use Rattle.operation_definitions.proofs.Cells.{free-room, fill-at}
use Rattle.operation_definitions.proofs.Ordered.{below-ordered, with_inner-ordered, get-ordered, set-ordered, take-ordered, drop-ordered, append-ordered}
use Rattle.operation_definitions.proofs.Steps.{step-ok, ok_or-some, check-true}
use Rattle.operation_definitions.proofs.Simple.{State as Both, after-effect}
use Rattle.document_definitions.specs.Document.{State, changed, applied}
use Rattle.document_definitions.specs.Sound.{IsKeyed, BringsOrdered}
use Rattle.document_definitions.proofs.Parted.{replacing}
use Rattle.document_definitions.proofs.Halves.{split-parts, merged-parts}

-- a change keeps the keys in order, and what it gives is good
abbrev KeepsOrder : {R : Type 0} → (R → Type 0) → Change R → Type 0
KeepsOrder {R = R} Good change = (xs ys : List Item) (r : R) → change xs ≡ Some (ys, r) → AreOrdered xs → AreOrdered ys × Good r

-- so it does in the element at a path
at-ordered : {R : Type 0} (Good : R → Type 0) (parent : List ℕ) (change : Change R) → KeepsOrder Good change → KeepsOrder Good (at parent change)
at-ordered Good [] change level xs ys r e h = level xs ys r e h
at-ordered {R = R} Good (i ∷ parent) change level xs ys r e h =
    let f = at parent change in
    let a = then-some (λ item. option_map (λ (made : Item × R). (slice_set xs i made.0, made.1)) (in_item f item)) (slice_get xs i) (ys, r) e in
    let b = map-some (λ (made : Item × R). (slice_set xs i made.0, made.1)) (in_item f a.0) (ys, r) a.2 in
    let c = then-some (λ inside. option_map (λ (made : List Item × R). (with_inner made.0 a.0, made.1)) (f inside)) (inner a.0) b.0 b.1 in
    let d = map-some (λ (made : List Item × R). (with_inner made.0 a.0, made.1)) (f c.0) b.0 c.2 in
    let item = get-ordered xs i a.0 h a.1 in
    let below = at-ordered Good parent change level c.0 d.0.0 d.0.1 d.1 (below-ordered a.0 c.0 item c.1) in
    let gave : d.0.1 ≡ r = ap (λ (p : Item × R). p.1) d.2 ∙ ap (λ (p : List Item × R). p.1) b.2 in
    let whole : slice_set xs i (with_inner d.0.0 a.0) ≡ ys = ap (slice_set xs i) (ap (λ (p : Item × R). p.0) d.2) ∙ ap (λ (p : List Item × R). p.0) b.2 in
    (subst AreOrdered whole (set-ordered xs i (with_inner d.0.0 a.0) h (with_inner-ordered d.0.0 a.0 item below.0)), subst Good gave below.1)

split-ordered : (front back : List Item) → AreOrdered (front ++ back) → AreOrdered front × AreOrdered back
split-ordered [] back h = (tt, h)
split-ordered (item ∷ front) back h = (let rest = split-ordered front back h.1 in ((h.0, rest.0), rest.1))

-- a change of some items that stand next to each other
replace-ordered : {R : Type 0} (Good : R → Type 0) (offset count : ℕ) (change : Change R) → KeepsOrder Good change
    → KeepsOrder Good (replace offset count change)
replace-ordered Good offset count change level xs ys r e h =
    let p = replacing offset count change xs ys r e in
    let q = p.parted in
    let outer = split-ordered q.front (p.run ++ q.back) (subst AreOrdered q.before h) in
    let rest = split-ordered p.run q.back outer.1 in
    let new = level p.run p.new r p.gives rest.0 in
    (subst AreOrdered (sym q.after) (append-ordered q.front (p.new ++ q.back) outer.0 (append-ordered p.new q.back new.0 rest.1)), new.1)

put_in-ordered : (offset : ℕ) (new : List Item) → AreOrdered new → KeepsOrder (λ _. Unit {0}) (put_in offset new)
put_in-ordered offset new fine = replace-ordered (λ _. Unit {0}) offset 0 (λ items. Some (new ++ items, tt)) level
  where
    level : (xs ys : List Item) (r : Unit {0}) → ◌≡◌ {A = Option (List Item × Unit {0})} (Some (new ++ xs, tt)) (Some (ys, r)) → AreOrdered xs
        → AreOrdered ys × Unit {0}
    level xs ys r e h = (
      subst AreOrdered (ap (λ (o : Option (List Item × Unit {0})). option_map_or (λ (m : List Item × Unit {0}). m.0) o []) e)
          (append-ordered new xs fine h),
      tt,
    )

take_out-ordered : (offset count : ℕ) → KeepsOrder AreOrdered (take_out offset count)
take_out-ordered offset count = replace-ordered AreOrdered offset count (λ run. Some ([], run)) level
  where
    level : (xs ys run : List Item) → ◌≡◌ {A = Option (List Item × List Item)} (Some ([], xs)) (Some (ys, run)) → AreOrdered xs → AreOrdered ys × AreOrdered run
    level xs ys run e h = (
      subst AreOrdered (ap (λ (o : Option (List Item × List Item)). option_map_or (λ (m : List Item × List Item). m.0) o []) e) tt,
      subst AreOrdered (ap (λ (o : Option (List Item × List Item)). option_map_or (λ (m : List Item × List Item). m.1) o []) e) h,
    )

keys-ordered : (key : List ℕ) (value : Option AttributeValue) (attributes : Attributes) → IsOrdered attributes → IsOrdered (with_key key value attributes)
keys-ordered key None attributes h = ordered_without key attributes h
keys-ordered key (Some value) attributes h = ordered_with_value key value attributes h

given-ordered : (key : List ℕ) (value : Option AttributeValue) (items : List Item) → AreOrdered items → AreOrdered (given key value items)
given-ordered key value [] h = tt
given-ordered key value (item ∷ items) h = (one item h.0, given-ordered key value items h.1)
  where
    one : (item : Item) → IsItemOrdered item → IsItemOrdered (with_attributes (with_key key value (attributes_of item)) item)
    one (character scalar attributes) h = keys-ordered key value attributes h
    one (element id name attributes children) h = (keys-ordered key value attributes h.0, h.1)

give-ordered : (offset count : ℕ) (key : List ℕ) (value : Option AttributeValue) → KeepsOrder (λ _. Unit {0}) (give offset count key value)
give-ordered offset count key value = replace-ordered (λ _. Unit {0}) offset count (λ run. Some (given key value run, run)) level
  where
    level : (xs ys run : List Item) → ◌≡◌ {A = Option (List Item × List Item)} (Some (given key value xs, xs)) (Some (ys, run)) → AreOrdered xs
        → AreOrdered ys × Unit {0}
    level xs ys run e h = (
      subst AreOrdered (ap (λ (o : Option (List Item × List Item)). option_map_or (λ (m : List Item × List Item). m.0) o []) e)
          (given-ordered key value xs h),
      tt,
    )

rename-ordered : (index : ℕ) (name : List ℕ) → KeepsOrder (λ _. Unit {0}) (rename_at index name)
rename-ordered index name = replace-ordered (λ _. Unit {0}) index 1 (one_item (renamed name)) level
  where
    level : (xs ys : List Item) (old : List ℕ) → one_item (renamed name) xs ≡ Some (ys, old) → AreOrdered xs → AreOrdered ys × Unit {0}
    level [] ys old e h = absurd cc
    level (item ∷ next ∷ run) ys old e h = absurd cc
    level (character scalar attributes ∷ []) ys old e h = absurd cc
    level (element id was attributes children ∷ []) ys old e h =
        (subst AreOrdered (ap (λ (o : Option (List Item × List ℕ)). option_map_or (λ (m : List Item × List ℕ). m.0) o []) e) (h.0, tt), tt)

split_at-ordered : (index offset : ℕ) (shell : Item → Item) → ((item : Item) → IsItemOrdered item → IsItemOrdered (shell item))
    → KeepsOrder (λ _. Unit {0}) (split_at index offset shell)
split_at-ordered index offset shell fine = replace-ordered (λ _. Unit {0}) index 1 (one_item (λ item. split_item offset (shell item) item)) level
  where
    level : (xs ys : List Item) (r : Item) → one_item (λ item. split_item offset (shell item) item) xs ≡ Some (ys, r) → AreOrdered xs → AreOrdered ys × Unit {0}
    level xs ys r e h =
        let s = split-parts offset shell xs ys r e in
        let item = (subst AreOrdered s.one h).0 in
        let inside = below-ordered s.item s.items item s.here in (
          subst AreOrdered (sym s.two) (
            with_inner-ordered (take offset s.items) s.item item (take-ordered offset s.items inside),
            (with_inner-ordered (drop offset s.items) (shell s.item) (fine s.item item) (drop-ordered offset s.items inside), tt),
          ),
          tt,
        )

merge_at-ordered : (index : ℕ) → KeepsOrder (λ (r : Item × ℕ). IsItemOrdered r.0) (merge_at index)
merge_at-ordered index = replace-ordered (λ (r : Item × ℕ). IsItemOrdered r.0) (index - 1) 2 merge_items level
  where
    level : (xs ys : List Item) (r : Item × ℕ) → merge_items xs ≡ Some (ys, r) → AreOrdered xs → AreOrdered ys × IsItemOrdered r.0
    level xs ys r e h =
        let s = merged-parts xs ys r e in
        let both = subst AreOrdered s.two h in (
          subst AreOrdered (sym s.one) (
            with_inner-ordered (s.front ++ s.back) s.left both.0
                (append-ordered s.front s.back (below-ordered s.left s.front both.0 s.first) (below-ordered s.other s.back both.1.0 s.second)),
            tt,
          ),
          subst IsItemOrdered (sym s.emptied) (with_inner-ordered [] s.other both.1.0 tt),
        )

like-ordered : (id : ℕ) (item : Item) → IsItemOrdered item → IsItemOrdered (like id item)
like-ordered id (character scalar attributes) h = h
like-ordered id (element old name attributes children) h = (h.0, tt)

shell-ordered : (xs : List Item) (shell : Item) → shell_of xs ≡ Some shell → AreOrdered xs → IsItemOrdered shell
shell-ordered [] shell e h = absurd cc
shell-ordered (character scalar attributes ∷ []) shell e h = absurd cc
shell-ordered (element id name attributes none ∷ []) shell e h = (let same : element id name attributes none ≡ shell = cc in subst IsItemOrdered same h.0)
shell-ordered (element id name attributes (more item items) ∷ []) shell e h = absurd cc
shell-ordered (character scalar attributes ∷ next ∷ rest) shell e h = absurd cc
shell-ordered (element id name attributes none ∷ next ∷ rest) shell e h = absurd cc
shell-ordered (element id name attributes (more item items) ∷ next ∷ rest) shell e h = absurd cc

-- the items in each cell
abbrev AreKept : List (List Item) → Type 0
AreKept cells = (number : ℕ) → AreOrdered (in_cell_at cells number)

emptied-ordered : (cells : List (List Item)) (number : ℕ) → AreKept cells → AreKept (set cells number [])
emptied-ordered [] number h k = h k
emptied-ordered (cell ∷ cells) zero h zero = tt
emptied-ordered (cell ∷ cells) zero h (suc k) = h (suc k)
emptied-ordered (cell ∷ cells) (suc number) h zero = h zero
emptied-ordered (cell ∷ cells) (suc number) h (suc k) = emptied-ordered cells number (λ j. h (suc j)) k

filled-ordered : (cells : List (List Item)) (number : ℕ) (items : List Item) → is_free cells number ≡ true → AreOrdered items → AreKept cells
    → AreKept (fill cells number items)
filled-ordered cells number items free fine h k = subst AreOrdered (sym (fill-at cells number k items (free-room cells number free))) (go (k == number))
  where
    go : (t : Bool) → AreOrdered (if t then items else in_cell_at cells k)
    go true = fine
    go false = h k

-- what is made of items and cells
abbrev Keyed : Both → Type 0
Keyed made = AreOrdered made.0 × AreKept made.1

is-made : (found made : Both) → ◌≡◌ {A = Result Both Fault} (Ok found) (Ok made) → Keyed found → Keyed made
is-made found made e h = (let same : found ≡ made = cc in subst Keyed same h)

-- each operation
made-ordered : (items : List Item) (cells : List (List Item)) (operation : Operation) (made : Both) → AreOrdered items → AreKept cells
    → BringsOrdered operation → effect items cells operation ≡ Ok made → Keyed made
made-ordered items cells (insert position new) made h kept brings e =
    let a = step-ok (ok_or (at (parent_of position) (put_in (offset_of position) new) items) no_place) (λ (m : List Item × Unit {0}). Ok (m.0, cells)) made e in
    let there = ok_or-some (at (parent_of position) (put_in (offset_of position) new) items) no_place a.0 a.1 in
    is-made (a.0.0, cells) made a.2 (
      (at-ordered (λ _. Unit {0}) (parent_of position) (put_in (offset_of position) new) (put_in-ordered (offset_of position) new brings) items a.0.0
          a.0.1 there h).0,
      kept,
    )
made-ordered items cells (move (in_tree from) count (in_tree to)) made h kept brings e =
    let target = carry_remove from count to in
    let last : List Item × List Item → Result Both Fault = λ taken. ok_or (at (parent_of target) (put_in (offset_of target) taken.1) taken.0) no_place
    >>= (λ m. Ok (m.0, cells)) in
    let next : List Item × List Item → Result Both Fault = λ taken. ok_or (room_at items to) no_place
    >>= (λ _. check (not (is_in_run from count to)) into_itself >>= (λ _. last taken)) in
    let a = step-ok (ok_or (at (parent_of from) (take_out (offset_of from) count) items) no_place) next made e in
    let taken = ok_or-some (at (parent_of from) (take_out (offset_of from) count) items) no_place a.0 a.1 in
    let b = step-ok (ok_or (room_at items to) no_place) (λ _. check (not (is_in_run from count to)) into_itself >>= (λ _. last a.0)) made a.2 in
    let c = step-ok (check (not (is_in_run from count to)) into_itself) (λ _. last a.0) made b.2 in
    let d = step-ok (ok_or (at (parent_of target) (put_in (offset_of target) a.0.1) a.0.0) no_place) (λ m. Ok (m.0, cells)) made c.2 in
    let put_there = ok_or-some (at (parent_of target) (put_in (offset_of target) a.0.1) a.0.0) no_place d.0 d.1 in
    let out = at-ordered AreOrdered (parent_of from) (take_out (offset_of from) count) (take_out-ordered (offset_of from) count) items a.0.0 a.0.1 taken h in
    is-made (d.0.0, cells) made d.2 (
      (at-ordered (λ _. Unit {0}) (parent_of target) (put_in (offset_of target) a.0.1) (put_in-ordered (offset_of target) a.0.1 out.1) a.0.0 d.0.0
          d.0.1 put_there out.0).0,
      kept,
    )
made-ordered items cells (move (in_tree from) count (in_cell number)) made h kept brings e =
    let a = step-ok (ok_or (at (parent_of from) (take_out (offset_of from) count) items) no_place)
    (λ (taken : List Item × List Item). check (is_free cells number) (cell_state number) >>= (λ _. Ok (taken.0, fill cells number taken.1))) made e in
    let taken = ok_or-some (at (parent_of from) (take_out (offset_of from) count) items) no_place a.0 a.1 in
    let b = step-ok (check (is_free cells number) (cell_state number)) (λ _. Ok (a.0.0, fill cells number a.0.1)) made a.2 in
    let free = check-true (is_free cells number) (cell_state number) b.0 b.1 in
    let out = at-ordered AreOrdered (parent_of from) (take_out (offset_of from) count) (take_out-ordered (offset_of from) count) items a.0.0 a.0.1 taken h in
    is-made (a.0.0, fill cells number a.0.1) made b.2 (out.0, filled-ordered cells number a.0.1 free out.1 kept)
made-ordered items cells (move (in_cell number) count (in_tree to)) made h kept brings e =
    let run = in_cell_at cells number in
    let a = step-ok (check (holds_count cells number count) (cell_state number))
    (λ _. ok_or (at (parent_of to) (put_in (offset_of to) run) items) no_place >>= (λ (m : List Item × Unit {0}). Ok (m.0, set cells number []))) made e in
    let b = step-ok (ok_or (at (parent_of to) (put_in (offset_of to) run) items) no_place) (λ (m : List Item × Unit {0}). Ok (m.0, set cells number []))
    made a.2 in
    let there = ok_or-some (at (parent_of to) (put_in (offset_of to) run) items) no_place b.0 b.1 in
    is-made (b.0.0, set cells number []) made b.2 (
      (at-ordered (λ _. Unit {0}) (parent_of to) (put_in (offset_of to) run) (put_in-ordered (offset_of to) run (kept number)) items b.0.0 b.0.1 there
          h).0,
      emptied-ordered cells number kept,
    )
made-ordered items cells (move (in_cell number) count (in_cell other)) made h kept brings e = absurd cc
made-ordered items cells (attribute range key old new) made h kept brings e =
    let parent = parent_of range.start in
    let offset = offset_of range.start in
    let count = offset_of range.end - offset_of range.start in
    let flat_test = pointwise nat_eq parent (parent_of range.end) in
    let tail : List Item × List Item → Result Both Fault = λ m. have_value key old m.1 >>= (λ _. Ok (m.0, cells)) in
    let a = step-ok (check flat_test not_flat) (λ _. ok_or (at parent (give offset count key new) items) no_place >>= tail) made e in
    let b = step-ok (ok_or (at parent (give offset count key new) items) no_place) tail made a.2 in
    let there = ok_or-some (at parent (give offset count key new) items) no_place b.0 b.1 in
    let c = step-ok (have_value key old b.0.1) (λ _. Ok (b.0.0, cells)) made b.2 in
    is-made (b.0.0, cells) made c.2
    ((at-ordered (λ _. Unit {0}) parent (give offset count key new) (give-ordered offset count key new) items b.0.0 b.0.1 there h).0, kept)
made-ordered items cells (rename path old new) made h kept brings e =
    let change = rename_at (offset_of path) new in
    let tail : List Item × List ℕ → Result Both Fault = λ m. check (pointwise nat_eq m.1 old) (old_differs (found_name m.1)) >>= (λ _. Ok (m.0, cells)) in
    let a = step-ok (check (nat_le 1 (length path)) no_place) (λ _. ok_or (at (parent_of path) change items) no_place >>= tail) made e in
    let b = step-ok (ok_or (at (parent_of path) change items) no_place) tail made a.2 in
    let there = ok_or-some (at (parent_of path) change items) no_place b.0 b.1 in
    let c = step-ok (check (pointwise nat_eq b.0.1 old) (old_differs (found_name b.0.1))) (λ _. Ok (b.0.0, cells)) made b.2 in
    is-made (b.0.0, cells) made c.2
    ((at-ordered (λ _. Unit {0}) (parent_of path) change (rename-ordered (offset_of path) new) items b.0.0 b.0.1 there h).0, kept)
made-ordered items cells (split position (fresh id)) made h kept brings e =
    let above = parent_of (parent_of position) in
    let change = split_at (offset_of (parent_of position)) (offset_of position) (like id) in
    let tail : List Item × Item → Result Both Fault = λ m. Ok (m.0, cells) in
    let a = step-ok (check (nat_le 2 (length position)) no_place) (λ _. ok_or (at above change items) no_place >>= tail) made e in
    let b = step-ok (ok_or (at above change items) no_place) tail made a.2 in
    let there = ok_or-some (at above change items) no_place b.0 b.1 in
    is-made (b.0.0, cells) made b.2 (
      (at-ordered (λ _. Unit {0}) above change (split_at-ordered (offset_of (parent_of position)) (offset_of position) (like id) (like-ordered id)) items
          b.0.0 b.0.1 there h).0,
      kept,
    )
made-ordered items cells (split position (from_cell number)) made h kept brings e =
    let above = parent_of (parent_of position) in
    let held = in_cell_at cells number in
    let change : Item → Change Item = λ shell. split_at (offset_of (parent_of position)) (offset_of position) (λ _. shell) in
    let last : List Item × Item → Result Both Fault = λ m. Ok (m.0, set cells number []) in
    let next : Item → Result Both Fault = λ shell. ok_or (at above (change shell) items) no_place >>= last in
    let first : List Item × Unit {0} → Result Both Fault = λ _. ok_or (shell_of held) (cell_state number) >>= next in
    let a = step-ok (check (nat_le 2 (length position)) no_place) (λ _. ok_or (room_at items position) no_place >>= first) made e in
    let b = step-ok (ok_or (room_at items position) no_place) first made a.2 in
    let c = step-ok (ok_or (shell_of held) (cell_state number)) next made b.2 in
    let shell = shell-ordered held c.0 (ok_or-some (shell_of held) (cell_state number) c.0 c.1) (kept number) in
    let d = step-ok (ok_or (at above (change c.0) items) no_place) last made c.2 in
    let there = ok_or-some (at above (change c.0) items) no_place d.0 d.1 in
    is-made (d.0.0, set cells number []) made d.2 (
      (at-ordered (λ _. Unit {0}) above (change c.0) (split_at-ordered (offset_of (parent_of position)) (offset_of position) (λ _. c.0) (λ _ _. shell))
          items d.0.0 d.0.1 there h).0,
      emptied-ordered cells number kept,
    )
made-ordered items cells (merge right target number) made h kept brings e =
    let change = merge_at (offset_of right) in
    let above = parent_of right in
    let last : List Item × (Item × ℕ) → Result Both Fault = λ m. check (is_free cells number) (cell_state number)
    >>= (λ _. Ok (m.0, fill cells number (m.1.0 ∷ []))) in
    let next : List Item × (Item × ℕ) → Result Both Fault = λ m. check (pointwise nat_eq target (above ++ (offset_of right - 1) ∷ m.1.1 ∷ []))
    not_neighbours >>= (λ _. last m) in
    let a = step-ok (check (nat_lt 0 (offset_of right)) not_neighbours) (λ _. ok_or (at above change items) not_neighbours >>= next) made e in
    let b = step-ok (ok_or (at above change items) not_neighbours) next made a.2 in
    let there = ok_or-some (at above change items) not_neighbours b.0 b.1 in
    let c = step-ok (check (pointwise nat_eq target (above ++ (offset_of right - 1) ∷ b.0.1.1 ∷ [])) not_neighbours) (λ _. last b.0) made b.2 in
    let d = step-ok (check (is_free cells number) (cell_state number)) (λ _. Ok (b.0.0, fill cells number (b.0.1.0 ∷ []))) made c.2 in
    let free = check-true (is_free cells number) (cell_state number) d.0 d.1 in
    let out = at-ordered (λ (r : Item × ℕ). IsItemOrdered r.0) above change (merge_at-ordered (offset_of right)) items b.0.0 b.0.1 there h in
    is-made (b.0.0, fill cells number (b.0.1.0 ∷ [])) made d.2 (out.0, filled-ordered cells number (b.0.1.0 ∷ []) free (out.1, tt) kept)
made-ordered items cells (marker name old new) made h kept brings e = is-made (items, cells) made e (h, kept)

pub keeps_order : (operation : Operation) (state new : State) → IsKeyed state → BringsOrdered operation → applied operation state ≡ Ok new → IsKeyed new
keeps_order operation state new keyed brings e = go (after state.document.items state.cells operation) refl e
  where
    go : (r : Result Both Fault) → after state.document.items state.cells operation ≡ r → (r >>= (λ made. Ok (changed operation state made))) ≡ Ok new
        → IsKeyed new
    go (Err fault) f e = absurd cc
    go (Ok made) f e =
        let same : changed operation state made ≡ new = cc in
        let both = made-ordered state.document.items state.cells operation made keyed.items keyed.cells brings
        (after-effect state.document.items state.cells operation made f) in
        subst IsKeyed same (record { items = both.0; cells = both.1 })
