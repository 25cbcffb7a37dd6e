-- How often an id stands in a tree and in the cells beside it, before and after an operation.
use Rattle.std.proofs.Common.{◌≡◌, ℕ, zero, suc, ◌+◌, ◌-◌, ◌<◌, Bool, true, false, nat_eq, nat_lt, nat_le, ◌&&◌, ◌==◌, if◌then◌else◌, not, List, [], ◌∷◌, ◌++◌}
use Rattle.std.proofs.Common.{length, take, drop, set, Option, Some, option_map, slice_get, slice_set, ok_or, Result, Ok, refl, sym, ap, ◌∙◌, arith}
use Rattle.std.specs.List.{flat_map}
use Rattle.std.specs.Option.{option_map_or}
use Rattle.std.specs.Cmp.Lexicographic.{pointwise}
use Rattle.std.proofs.lemmas.List.{take-append-drop}
use Rattle.std.proofs.lemmas.Bool.Decides.{nat_tests}
use Rattle.ck_base.specs.declared.value.Value.{Value as AttributeValue}
use Rattle.item_definitions.specs.Item.{Item, Items, character, element, none, more, list_of, items_of, inner, with_inner}
use Rattle.item_definitions.specs.Children.{Change, parent_of, offset_of, at, in_item}
use Rattle.item_definitions.specs.Shift.{carry_remove}
use Rattle.operation_definitions.specs.Level.{put_in, take_out, give, given, rename_at, renamed, one_item, split_at, split_item, merge_at, merge_items}
use Rattle.operation_definitions.specs.Operation.{Fault, Operation, in_tree, in_cell, fresh, from_cell, insert, move, attribute, rename, split, merge, marker}
use Rattle.operation_definitions.specs.Operation.{no_place, not_flat, into_itself, old_differs, not_neighbours, cell_state, found_name}
use Rattle.operation_definitions.specs.After.{◌>>=◌, check, effect, in_cell_at, is_free, is_empty, fill, holds_count, shell_of, like, room_at, is_in_run}
use Rattle.operation_definitions.specs.After.{have_value}
use Rattle.operation_definitions.proofs.Lifting.{map-some, then-some}
use Rattle.operation_definitions.proofs.Steps.{step-ok, ok_or-some, check-true}
use Rattle.operation_definitions.proofs.Simple.{State, pair-first, pair-second}
use Rattle.operation_definitions.proofs.Elements.{cell-there}
use Rattle.document_definitions.specs.Document.{ids_of, ids_of_item, ids_of_inner, brought}
use Rattle.document_definitions.proofs.Parted.{Parted, replacing}
use Rattle.document_definitions.proofs.Kept.{parted-in, parted-out}
use Rattle.document_definitions.proofs.Halves.{split-parts, merged-parts}
use Rattle.document_definitions.proofs.Ranges.{shell-inner}

-- how often an id stands in a list
abbrev pub times : ℕ → List ℕ → ℕ
times id [] = 0
times id (other ∷ ids) = (if id == other then 1 else 0) + times id ids

pub times-append : (id : ℕ) (xs ys : List ℕ) → times id (xs ++ ys) ≡ times id xs + times id ys
times-append id [] ys = omega arith
times-append id (x ∷ xs) ys = (let rest = times-append id xs ys in omega (arith, rest))

module _ (id : ℕ) where
  -- how often it stands in items
  abbrev pub in_items : List Item → ℕ
  in_items xs = times id (ids_of xs)

  abbrev pub in_one : Item → ℕ
  in_one item = times id (ids_of_item item)

  pub items-append : (xs ys : List Item) → in_items (xs ++ ys) ≡ in_items xs + in_items ys
  items-append [] ys = omega arith
  items-append (x ∷ xs) ys =
      let rest = items-append xs ys in
      let a = times-append id (ids_of_item x) (ids_of (xs ++ ys)) in
      let b = times-append id (ids_of_item x) (ids_of xs) in
      omega (arith, rest, a, b)

  items-cons : (x : Item) (xs : List Item) → in_items (x ∷ xs) ≡ in_one x + in_items xs
  items-cons x xs = times-append id (ids_of_item x) (ids_of xs)

  inner-ids : (children : Items) → ids_of_inner children ≡ ids_of (list_of children)
  inner-ids none = refl
  inner-ids (more item items) = ap (λ ids. ids_of_item item ++ ids) (inner-ids items)

  of-ids : (items : List Item) → ids_of_inner (items_of items) ≡ ids_of items
  of-ids [] = refl
  of-ids (item ∷ items) = ap (λ ids. ids_of_item item ++ ids) (of-ids items)

  -- other items in an element
  exchanged : (item : Item) (items new : List Item) → inner item ≡ Some items → in_one (with_inner new item) + in_items items ≡ in_one item + in_items new
  exchanged (character scalar attributes) items new e = absurd cc
  exchanged (element own name attributes children) items new e =
      let same : list_of children ≡ items = cc in
      let a : times id (ids_of_inner (items_of new)) ≡ in_items new = ap (times id) (of-ids new) in
      let b : times id (ids_of_inner children) ≡ in_items items = ap (times id) (inner-ids children ∙ ap ids_of same) in
      omega (arith, a, b)

  replaced-one : (xs : List Item) (i : ℕ) (x y : Item) → slice_get xs i ≡ Some x → in_items (slice_set xs i y) + in_one x ≡ in_items xs + in_one y
  replaced-one [] i x y e = absurd cc
  replaced-one (z ∷ xs) zero x y e =
      let same : z ≡ x = cc in
      let a = items-cons y xs in
      let b = items-cons z xs in
      let c : in_one z ≡ in_one x = ap in_one same in
      omega (arith, a, b, c)
  replaced-one (z ∷ xs) (suc i) x y e =
      let rest = replaced-one xs i x y e in
      let a = items-cons z (slice_set xs i y) in
      let b = items-cons z xs in
      omega (arith, rest, a, b)

  -- a change of one list takes so many away and adds so many
  abbrev Counts : {R : Type 0} → Change R → R → ℕ → ℕ → Type 0
  Counts change r away added = (xs ys : List Item) → change xs ≡ Some (ys, r) → in_items ys + away ≡ in_items xs + added

  counts-at : {R : Type 0} (change : Change R) (r : R) (away added : ℕ) → Counts change r away added → (path : List ℕ) → Counts (at path change) r away added
  counts-at change r away added level [] xs ys e = level xs ys e
  counts-at {R = R} change r away added level (i ∷ path) xs ys e =
      let deep = at path change in
      let a = then-some (λ item. option_map (λ (made : Item × R). (slice_set xs i made.0, made.1)) (in_item deep item)) (slice_get xs i) (ys, r) e in
      let b = map-some (λ (made : Item × R). (slice_set xs i made.0, made.1)) (in_item deep a.0) (ys, r) a.2 in
      let c = then-some (λ items. option_map (λ (made : List Item × R). (with_inner made.0 a.0, made.1)) (deep items)) (inner a.0) b.0 b.1 in
      let d = map-some (λ (made : List Item × R). (with_inner made.0 a.0, made.1)) (deep c.0) b.0 c.2 in
      let whole : slice_set xs i (with_inner d.0.0 a.0) ≡ ys = ap (slice_set xs i) (ap (λ (p : Item × R). p.0) d.2) ∙ ap (λ (p : List Item × R). p.0) b.2 in
      let gave : d.0.1 ≡ r = ap (λ (p : Item × R). p.1) d.2 ∙ ap (λ (p : List Item × R). p.1) b.2 in
      let inside : in_items d.0.0 + away ≡ in_items c.0 + added = counts-at change r away added level path c.0 d.0.0 (d.1 ∙ ap (λ v. Some (d.0.0, v)) gave) in
      let swapped = exchanged a.0 c.0 d.0.0 c.1 in
      let outer = replaced-one xs i a.0 (with_inner d.0.0 a.0) a.1 in
      let made : in_items (slice_set xs i (with_inner d.0.0 a.0)) ≡ in_items ys = ap in_items whole in
      omega (arith, inside, swapped, outer, made)

  parted-count : (offset count : ℕ) (xs ys run new : List Item) → Parted offset count xs ys run new → in_items ys + in_items run ≡ in_items xs + in_items new
  parted-count offset count xs ys run new p =
      let a : in_items xs ≡ in_items (p.front ++ (run ++ p.back)) = ap in_items p.before in
      let b : in_items ys ≡ in_items (p.front ++ (new ++ p.back)) = ap in_items p.after in
      let c = items-append p.front (run ++ p.back) in
      let d = items-append run p.back in
      let e = items-append p.front (new ++ p.back) in
      let f = items-append new p.back in
      omega (arith, a, b, c, d, e, f)

  put_in-counts : (offset : ℕ) (new : List Item) (r : Unit {0}) → Counts (put_in offset new) r 0 (in_items new)
  put_in-counts offset new r xs ys e = (let c = parted-count offset 0 xs ys [] new (parted-in offset new xs ys r e) in omega (arith, c))

  take_out-counts : (offset count : ℕ) (gone : List Item) → Counts (take_out offset count) gone (in_items gone) 0
  take_out-counts offset count gone xs ys e = (let c = parted-count offset count xs ys gone [] (parted-out offset count xs ys gone e) in omega (arith, c))

  given-count : (key : List ℕ) (value : Option AttributeValue) (run : List Item) → in_items (given key value run) ≡ in_items run
  given-count key value [] = refl
  given-count key value (character scalar attributes ∷ run) = given-count key value run
  given-count key value (element own name attributes children ∷ run) = ap (λ n. (if id == own then 1 else 0) + n)
      (times-append id (ids_of_inner children) (ids_of (given key value run))
      ∙ ap (λ n. times id (ids_of_inner children) + n) (given-count key value run) ∙ sym (times-append id (ids_of_inner children) (ids_of run)))

  give-counts : (offset count : ℕ) (key : List ℕ) (value : Option AttributeValue) (old : List Item) → Counts (give offset count key value) old 0 0
  give-counts offset count key value old xs ys e =
      let p = replacing offset count (λ run. Some (given key value run, run)) xs ys old e in
      let new : given key value p.run ≡ p.new = ap (λ (o : Option (List Item × List Item)). option_map_or (λ (m : List Item × List Item). m.0) o []) p.gives in
      let c = parted-count offset count xs ys p.run p.new p.parted in
      let d : in_items (given key value p.run) ≡ in_items p.new = ap in_items new in
      let g = given-count key value p.run in
      omega (arith, c, d, g)

  renamed-count : (name : List ℕ) (run new : List Item) (old : List ℕ) → one_item (renamed name) run ≡ Some (new, old) → in_items new ≡ in_items run
  renamed-count name [] new old e = absurd cc
  renamed-count name (item ∷ next ∷ run) new old e = absurd cc
  renamed-count name (character scalar attributes ∷ []) new old e = absurd cc
  renamed-count name (element own was attributes children ∷ []) new old e =
      ap (λ (o : Option (List Item × List ℕ)). in_items (option_map_or (λ (m : List Item × List ℕ). m.0) o [])) (sym e)

  rename-counts : (index : ℕ) (name : List ℕ) (old : List ℕ) → Counts (rename_at index name) old 0 0
  rename-counts index name old xs ys e =
      let p = replacing index 1 (one_item (renamed name)) xs ys old e in
      let c = parted-count index 1 xs ys p.run p.new p.parted in
      let g = renamed-count name p.run p.new old p.gives in
      omega (arith, c, g)

  -- a shell brings itself alone
  split-counts : (index offset : ℕ) (shell : Item → Item) (brings : ℕ)
      → ((item : Item) (items : List Item) → inner item ≡ Some items → (inner (shell item) ≡ Some []) × (in_one (shell item) ≡ brings))
      → (r : Item) → Counts (split_at index offset shell) r 0 brings
  split-counts index offset shell brings bare r xs ys e =
      let p = replacing index 1 (one_item (λ item. split_item offset (shell item) item)) xs ys r e in
      let s = split-parts offset shell p.run p.new r p.gives in
      let c = parted-count index 1 xs ys p.run p.new p.parted in
      let run : in_items p.run ≡ in_items (s.item ∷ []) = ap in_items s.one in
      let new : in_items p.new ≡ in_items (with_inner (take offset s.items) s.item ∷ with_inner (drop offset s.items) (shell s.item) ∷ []) =
      ap in_items s.two in
      let a = items-cons s.item [] in
      let b = items-cons (with_inner (take offset s.items) s.item) (with_inner (drop offset s.items) (shell s.item) ∷ []) in
      let d = items-cons (with_inner (drop offset s.items) (shell s.item)) [] in
      let left = exchanged s.item s.items (take offset s.items) s.here in
      let right = exchanged (shell s.item) [] (drop offset s.items) (bare s.item s.items s.here).0 in
      let halves = items-append (take offset s.items) (drop offset s.items) in
      let whole : in_items (take offset s.items ++ drop offset s.items) ≡ in_items s.items = ap in_items (take-append-drop offset s.items) in
      let shell_is = (bare s.item s.items s.here).1 in
      omega (arith, c, run, new, a, b, d, left, right, halves, whole, shell_is)

  merge-counts : (index : ℕ) (r : Item × ℕ) → Counts (merge_at index) r (in_items (r.0 ∷ [])) 0
  merge-counts index r xs ys e =
      let p = replacing (index - 1) 2 merge_items xs ys r e in
      let s = merged-parts p.run p.new r p.gives in
      let c = parted-count (index - 1) 2 xs ys p.run p.new p.parted in
      let run : in_items p.run ≡ in_items (s.left ∷ s.other ∷ []) = ap in_items s.two in
      let new : in_items p.new ≡ in_items (with_inner (s.front ++ s.back) s.left ∷ []) = ap in_items s.one in
      let gone : in_items (r.0 ∷ []) ≡ in_items (with_inner [] s.other ∷ []) = ap (λ item. in_items (item ∷ [])) s.emptied in
      let a = items-cons s.left (s.other ∷ []) in
      let b = items-cons s.other [] in
      let d = items-cons (with_inner (s.front ++ s.back) s.left) [] in
      let f = items-cons (with_inner [] s.other) [] in
      let left = exchanged s.left s.front (s.front ++ s.back) s.first in
      let right = exchanged s.other s.back [] s.second in
      let both = items-append s.front s.back in
      omega (arith, c, run, new, gone, a, b, d, f, left, right, both)

  -- how often it stands in cells
  abbrev pub in_cells : List (List Item) → ℕ
  in_cells cells = times id (flat_map ids_of cells)

  cells-cons : (cell : List Item) (cells : List (List Item)) → in_cells (cell ∷ cells) ≡ in_items cell + in_cells cells
  cells-cons cell cells = times-append id (ids_of cell) (flat_map ids_of cells)

  cells-set : (cells : List (List Item)) (n : ℕ) (items : List Item) → n < length cells → in_cells (set cells n items) + in_items (in_cell_at cells n)
      ≡ in_cells cells + in_items items
  cells-set [] n items less = absurd (omega arith)
  cells-set (cell ∷ cells) zero items less =
      let a = cells-cons items cells in
      let b = cells-cons cell cells in
      omega (arith, a, b)
  cells-set (cell ∷ cells) (suc n) items less =
      let rest = cells-set cells n items (omega arith) in
      let a = cells-cons cell (set cells n items) in
      let b = cells-cons cell cells in
      omega (arith, rest, a, b)

  cells-push : (cells : List (List Item)) (items : List Item) → in_cells (cells ++ items ∷ []) ≡ in_cells cells + in_items items
  cells-push [] items = (let a = cells-cons items [] in omega (arith, a))
  cells-push (cell ∷ cells) items =
      let rest = cells-push cells items in
      let a = cells-cons cell (cells ++ items ∷ []) in
      let b = cells-cons cell cells in
      omega (arith, rest, a, b)

  and-second : (a b : Bool) → (a && b) ≡ true → b ≡ true
  and-second true b e = e
  and-second false b e = absurd cc

  and-first : (a b : Bool) → (a && b) ≡ true → a ≡ true
  and-first true b e = refl
  and-first false b e = absurd cc

  nothing : (xs : List Item) → is_empty xs ≡ true → in_items xs ≡ 0
  nothing [] e = refl
  nothing (x ∷ xs) e = absurd cc

  -- a free cell is filled
  fill-counts : (cells : List (List Item)) (n : ℕ) (items : List Item) → is_free cells n ≡ true → in_cells (fill cells n items)
      ≡ in_cells cells + in_items items
  fill-counts cells n items free = go (nat_lt n (length cells)) refl
    where
      go : (t : Bool) → t ≡ nat_lt n (length cells) → in_cells (if t then set cells n items else cells ++ items ∷ []) ≡ in_cells cells + in_items items
      go true t =
          let less : n < length cells = grind (arith, nat_tests) in
          let a = cells-set cells n items less in
          let b = nothing (in_cell_at cells n) (and-second (nat_le n (length cells)) (is_empty (in_cell_at cells n)) free) in
          omega (arith, a, b)
      go false t = cells-push cells items

  -- a cell that is there is emptied
  empty-counts : (cells : List (List Item)) (n : ℕ) → n < length cells → in_cells (set cells n []) + in_items (in_cell_at cells n) ≡ in_cells cells
  empty-counts cells n less = (let a = cells-set cells n [] less in omega (arith, a))

  -- the tree and the cells beside it
  abbrev pub in_state : List Item → List (List Item) → ℕ
  in_state items cells = in_items items + in_cells cells

  -- so many more, where the tree and the cells are these
  more-by : (brings : ℕ) (items : List Item) (cells : List (List Item)) (there : List Item) (kept : List (List Item)) (made : State)
      → ◌≡◌ {A = Result State Fault} (Ok (there, kept)) (Ok made) → in_items there + in_cells kept ≡ in_state items cells + brings
      → in_state made.0 made.1 ≡ in_state items cells + brings
  more-by brings items cells there kept made e h =
      let a : in_items there ≡ in_items made.0 = ap in_items (pair-first (there, kept) made e) in
      let b : in_cells kept ≡ in_cells made.1 = ap in_cells (pair-second (there, kept) made e) in
      omega (arith, a, b, h)

  like_bare : (new : ℕ) (item : Item) (items : List Item) → inner item ≡ Some items → (inner (like new item) ≡ Some [])
      × (in_one (like new item) ≡ times id (new ∷ []))
  like_bare new (character scalar attributes) items e = absurd cc
  like_bare new (element old name attributes children) items e = (refl, refl)

  shell-held : (held : List Item) (shell : Item) → shell_of held ≡ Some shell → held ≡ shell ∷ []
  shell-held [] shell e = absurd cc
  shell-held (character scalar attributes ∷ []) shell e = absurd cc
  shell-held (element own name attributes none ∷ []) shell e = (let same : element own name attributes none ≡ shell = cc in ap (λ s. s ∷ []) same)
  shell-held (element own name attributes (more item items) ∷ []) shell e = absurd cc
  shell-held (character scalar attributes ∷ next ∷ rest) shell e = absurd cc
  shell-held (element own name attributes none ∷ next ∷ rest) shell e = absurd cc
  shell-held (element own name attributes (more item items) ∷ next ∷ rest) shell e = absurd cc

  less-true : (a b : ℕ) → nat_lt a b ≡ true → a < b
  less-true a b e = grind (arith, nat_tests)

  -- each operation adds what it brings, and nothing goes
  pub effect-counts : (items : List Item) (cells : List (List Item)) (operation : Operation) (made : State) → effect items cells operation ≡ Ok made
      → in_state made.0 made.1 ≡ in_state items cells + times id (brought operation)
  effect-counts items cells (insert position new) made e =
      let a = step-ok (ok_or (at (parent_of position) (put_in (offset_of position) new) items) no_place) (λ (m : List Item × Unit {0}). Ok (m.0, cells))
      made e in
      let there = ok_or-some (at (parent_of position) (put_in (offset_of position) new) items) no_place a.0 a.1 in
      let c = counts-at (put_in (offset_of position) new) a.0.1 0 (in_items new) (put_in-counts (offset_of position) new a.0.1) (parent_of position)
      items a.0.0 there in
      more-by (in_items new) items cells a.0.0 cells made a.2 (omega (arith, c))
  effect-counts items cells (move (in_tree from) count (in_tree to)) made e =
      let target = carry_remove from count to in
      let last : List Item × List Item → Result State Fault = λ taken. ok_or (at (parent_of target) (put_in (offset_of target) taken.1) taken.0)
      no_place >>= (λ m. Ok (m.0, cells)) in
      let next : List Item × List Item → Result State Fault = λ taken. ok_or (room_at items to) no_place
      >>= (λ _. check (not (is_in_run from count to)) into_itself >>= (λ _. last taken)) in
      let a = step-ok (ok_or (at (parent_of from) (take_out (offset_of from) count) items) no_place) next made e in
      let taken = ok_or-some (at (parent_of from) (take_out (offset_of from) count) items) no_place a.0 a.1 in
      let b = step-ok (ok_or (room_at items to) no_place) (λ _. check (not (is_in_run from count to)) into_itself >>= (λ _. last a.0)) made a.2 in
      let c = step-ok (check (not (is_in_run from count to)) into_itself) (λ _. last a.0) made b.2 in
      let d = step-ok (ok_or (at (parent_of target) (put_in (offset_of target) a.0.1) a.0.0) no_place) (λ m. Ok (m.0, cells)) made c.2 in
      let put_there = ok_or-some (at (parent_of target) (put_in (offset_of target) a.0.1) a.0.0) no_place d.0 d.1 in
      let gone = counts-at (take_out (offset_of from) count) a.0.1 (in_items a.0.1) 0 (take_out-counts (offset_of from) count a.0.1) (parent_of from)
      items a.0.0 taken in
      let come = counts-at (put_in (offset_of target) a.0.1) d.0.1 0 (in_items a.0.1) (put_in-counts (offset_of target) a.0.1 d.0.1) (parent_of target)
      a.0.0 d.0.0 put_there in
      more-by 0 items cells d.0.0 cells made d.2 (omega (arith, gone, come))
  effect-counts items cells (move (in_tree from) count (in_cell number)) made e =
      let a = step-ok (ok_or (at (parent_of from) (take_out (offset_of from) count) items) no_place)
      (λ (taken : List Item × List Item). check (is_free cells number) (cell_state number) >>= (λ _. Ok (taken.0, fill cells number taken.1))) made e in
      let taken = ok_or-some (at (parent_of from) (take_out (offset_of from) count) items) no_place a.0 a.1 in
      let b = step-ok (check (is_free cells number) (cell_state number)) (λ _. Ok (a.0.0, fill cells number a.0.1)) made a.2 in
      let free = check-true (is_free cells number) (cell_state number) b.0 b.1 in
      let gone = counts-at (take_out (offset_of from) count) a.0.1 (in_items a.0.1) 0 (take_out-counts (offset_of from) count a.0.1) (parent_of from)
      items a.0.0 taken in
      let kept = fill-counts cells number a.0.1 free in
      more-by 0 items cells a.0.0 (fill cells number a.0.1) made b.2 (omega (arith, gone, kept))
  effect-counts items cells (move (in_cell number) count (in_tree to)) made e =
      let run = in_cell_at cells number in
      let a = step-ok (check (holds_count cells number count) (cell_state number))
      (λ _. ok_or (at (parent_of to) (put_in (offset_of to) run) items) no_place >>= (λ (m : List Item × Unit {0}). Ok (m.0, set cells number []))) made e in
      let full = check-true (holds_count cells number count) (cell_state number) a.0 a.1 in
      let b = step-ok (ok_or (at (parent_of to) (put_in (offset_of to) run) items) no_place)
      (λ (m : List Item × Unit {0}). Ok (m.0, set cells number [])) made a.2 in
      let there = ok_or-some (at (parent_of to) (put_in (offset_of to) run) items) no_place b.0 b.1 in
      let come = counts-at (put_in (offset_of to) run) b.0.1 0 (in_items run) (put_in-counts (offset_of to) run b.0.1) (parent_of to) items b.0.0 there in
      let less = less-true number (length cells) (and-first (nat_lt number (length cells)) (length run == count) full) in
      let kept = empty-counts cells number less in
      more-by 0 items cells b.0.0 (set cells number []) made b.2 (omega (arith, come, kept))
  effect-counts items cells (move (in_cell number) count (in_cell other)) made e = absurd cc
  effect-counts items cells (attribute range key old new) made e =
      let path = parent_of range.start in
      let offset = offset_of range.start in
      let count = offset_of range.end - offset_of range.start in
      let change = give offset count key new in
      let flat_test = pointwise nat_eq path (parent_of range.end) in
      let tail : List Item × List Item → Result State Fault = λ m. have_value key old m.1 >>= (λ _. Ok (m.0, cells)) in
      let a = step-ok (check flat_test not_flat) (λ _. ok_or (at path change items) no_place >>= tail) made e in
      let b = step-ok (ok_or (at path change items) no_place) tail made a.2 in
      let there = ok_or-some (at path change items) no_place b.0 b.1 in
      let c = step-ok (have_value key old b.0.1) (λ _. Ok (b.0.0, cells)) made b.2 in
      let same = counts-at change b.0.1 0 0 (give-counts offset count key new b.0.1) path items b.0.0 there in
      more-by 0 items cells b.0.0 cells made c.2 (omega (arith, same))
  effect-counts items cells (rename path old new) made e =
      let change = rename_at (offset_of path) new in
      let tail : List Item × List ℕ → Result State Fault = λ m. check (pointwise nat_eq m.1 old) (old_differs (found_name m.1)) >>= (λ _. Ok (m.0, cells)) in
      let a = step-ok (check (nat_le 1 (length path)) no_place) (λ _. ok_or (at (parent_of path) change items) no_place >>= tail) made e in
      let b = step-ok (ok_or (at (parent_of path) change items) no_place) tail made a.2 in
      let there = ok_or-some (at (parent_of path) change items) no_place b.0 b.1 in
      let c = step-ok (check (pointwise nat_eq b.0.1 old) (old_differs (found_name b.0.1))) (λ _. Ok (b.0.0, cells)) made b.2 in
      let same = counts-at change b.0.1 0 0 (rename-counts (offset_of path) new b.0.1) (parent_of path) items b.0.0 there in
      more-by 0 items cells b.0.0 cells made c.2 (omega (arith, same))
  effect-counts items cells (split position (fresh new)) made e =
      let above = parent_of (parent_of position) in
      let change = split_at (offset_of (parent_of position)) (offset_of position) (like new) in
      let tail : List Item × Item → Result State Fault = λ m. Ok (m.0, cells) in
      let a = step-ok (check (nat_le 2 (length position)) no_place) (λ _. ok_or (at above change items) no_place >>= tail) made e in
      let b = step-ok (ok_or (at above change items) no_place) tail made a.2 in
      let there = ok_or-some (at above change items) no_place b.0 b.1 in
      let more_of = counts-at change b.0.1 0 (times id (new ∷ []))
      (split-counts (offset_of (parent_of position)) (offset_of position) (like new) (times id (new ∷ [])) (like_bare new) b.0.1) above items b.0.0 there in
      more-by (times id (new ∷ [])) items cells b.0.0 cells made b.2 (omega (arith, more_of))
  effect-counts items cells (split position (from_cell number)) made e =
      let above = parent_of (parent_of position) in
      let held = in_cell_at cells number in
      let change : Item → Change Item = λ shell. split_at (offset_of (parent_of position)) (offset_of position) (λ _. shell) in
      let last : List Item × Item → Result State Fault = λ m. Ok (m.0, set cells number []) in
      let next : Item → Result State Fault = λ shell. ok_or (at above (change shell) items) no_place >>= last in
      let first : List Item × Unit {0} → Result State Fault = λ _. ok_or (shell_of held) (cell_state number) >>= next in
      let a = step-ok (check (nat_le 2 (length position)) no_place) (λ _. ok_or (room_at items position) no_place >>= first) made e in
      let b = step-ok (ok_or (room_at items position) no_place) first made a.2 in
      let c = step-ok (ok_or (shell_of held) (cell_state number)) next made b.2 in
      let found = ok_or-some (shell_of held) (cell_state number) c.0 c.1 in
      let bare = shell-inner held c.0 found in
      let is_held = shell-held held c.0 found in
      let d = step-ok (ok_or (at above (change c.0) items) no_place) last made c.2 in
      let there = ok_or-some (at above (change c.0) items) no_place d.0 d.1 in
      let more_of = counts-at (change c.0) d.0.1 0 (in_one c.0)
      (split-counts (offset_of (parent_of position)) (offset_of position) (λ _. c.0) (in_one c.0) (λ _ _ _. (bare, refl)) d.0.1) above items d.0.0 there in
      let kept = empty-counts cells number (cell-there cells number c.0 is_held) in
      let one : in_items held ≡ in_items (c.0 ∷ []) = ap in_items is_held in
      let single = items-cons c.0 [] in
      more-by 0 items cells d.0.0 (set cells number []) made d.2 (omega (arith, more_of, kept, one, single))
  effect-counts items cells (merge right target number) made e =
      let change = merge_at (offset_of right) in
      let above = parent_of right in
      let last : List Item × (Item × ℕ) → Result State Fault = λ m. check (is_free cells number) (cell_state number)
      >>= (λ _. Ok (m.0, fill cells number (m.1.0 ∷ []))) in
      let next : List Item × (Item × ℕ) → Result State Fault = λ m. check (pointwise nat_eq target (above ++ (offset_of right - 1) ∷ m.1.1 ∷ []))
      not_neighbours >>= (λ _. last m) in
      let a = step-ok (check (nat_lt 0 (offset_of right)) not_neighbours) (λ _. ok_or (at above change items) not_neighbours >>= next) made e in
      let b = step-ok (ok_or (at above change items) not_neighbours) next made a.2 in
      let there = ok_or-some (at above change items) not_neighbours b.0 b.1 in
      let end_test = pointwise nat_eq target (above ++ (offset_of right - 1) ∷ b.0.1.1 ∷ []) in
      let c = step-ok (check end_test not_neighbours) (λ _. last b.0) made b.2 in
      let d = step-ok (check (is_free cells number) (cell_state number)) (λ _. Ok (b.0.0, fill cells number (b.0.1.0 ∷ []))) made c.2 in
      let free = check-true (is_free cells number) (cell_state number) d.0 d.1 in
      let gone = counts-at change b.0.1 (in_items (b.0.1.0 ∷ [])) 0 (merge-counts (offset_of right) b.0.1) above items b.0.0 there in
      let kept = fill-counts cells number (b.0.1.0 ∷ []) free in
      more-by 0 items cells b.0.0 (fill cells number (b.0.1.0 ∷ [])) made d.2 (omega (arith, gone, kept))
  effect-counts items cells (marker name old new) made e = more-by 0 items cells items cells made e (omega arith)
