-- Each operation leaves the items that it doesn't take out where their ranges go.
use Rattle.std.proofs.Common.{◌≡◌, ◌≢◌, ℕ, zero, suc, ◌+◌, ◌-◌, ◌<◌, ◌≤◌, Bool, true, false, not, ◌&&◌, ◌||◌, nat_eq, nat_lt, nat_le, ◌==◌, if◌then◌else◌, List}
use Rattle.std.proofs.Common.{[], ◌∷◌, ◌++◌, length, set, Option, Some, None, option_map, option_and_then, unwrap_or, slice_get, ok_or, Result, Ok, refl, sym}
use Rattle.std.proofs.Common.{ap, ◌∙◌, subst, arith}
use Rattle.std.specs.Option.{option_map_or}
use Rattle.std.specs.Cmp.Lexicographic.{pointwise}
use Rattle.std.proofs.lemmas.Bool.Decides.{nat_tests}
use Rattle.ck_base.specs.declared.value.Value.{Value as AttributeValue}
use Rattle.item_definitions.specs.Item.{Item, Items, character, element, inner, with_inner, Attributes, attributes_of, with_attributes}
use Rattle.item_definitions.specs.Children.{Change, parent_of, offset_of, item_at, at}
use Rattle.item_definitions.specs.Position.{Range, between, behind, holds, not_after, is_before}
use Rattle.item_definitions.specs.Shift as shifts
use Rattle.item_definitions.specs.Shift.{Shift, to_next, carry, carry_insert, carry_remove, carried_ends, carry_range, within, rest_behind, forward}
use Rattle.item_definitions.specs.Shift.{lies_in_run, with_run, run_place, rule_insert, rule_remove, rule_split, rule_merge}
use Rattle.item_definitions.proofs.Paths.{path-joined, parent_of-push, offset_of-push, push-some}
use Rattle.item_definitions.proofs.Order.{not_after-cons, not_after-none, not_after-same}
use Rattle.operation_definitions.specs.Level.{put_in, take_out, give, given, with_key, one_item, renamed, rename_at, split_at, merge_at}
use Rattle.operation_definitions.specs.Operation.{Fault, Operation, in_tree, in_cell, fresh, from_cell, insert, move, attribute, rename, split, merge, marker}
use Rattle.operation_definitions.specs.Operation.{no_place, not_flat, into_itself, old_differs, not_neighbours, cell_state, found_name}
use Rattle.operation_definitions.specs.After.{◌>>=◌, check, after, effect, in_cell_at, is_free, fill, holds_count, shell_of, like, room_at, is_in_run}
use Rattle.operation_definitions.specs.After.{have_value}
use Rattle.operation_definitions.specs.Reversed.{HasPlaces}
use Rattle.operation_definitions.proofs.Lifting.{with_inner-twice}
use Rattle.operation_definitions.proofs.Cells.{holds-long}
use Rattle.operation_definitions.proofs.Steps.{step-ok, ok_or-some, check-true}
use Rattle.operation_definitions.proofs.Names.{same_numbers, numbers_same, target-offset}
use Rattle.operation_definitions.proofs.Simple.{State, after-effect, pair-first, run-long}
use Rattle.document_definitions.specs.Document.{shift_of}
use Rattle.document_definitions.specs.Staying.{item_carried, run_range, takes_out, without_name, left_by}
use Rattle.document_definitions.proofs.Inside.{in_at, through}
use Rattle.document_definitions.proofs.Parted.{Parted, replacing, get-old, get-new}
use Rattle.document_definitions.proofs.Kept.{parted-in, parted-out}
use Rattle.document_definitions.proofs.Halves.{IsShell}
use Rattle.document_definitions.proofs.Ranges.{shell-inner, like-shell, positive}
use Rattle.document_definitions.proofs.Runs.{rest-same, rest-first, no-rest}
use Rattle.document_definitions.proofs.Same.{within-same_path, same-parted, given-same, as-long, renamed-same}
use Rattle.document_definitions.proofs.Standing.{IsOfHead, Stands, stands-at, stands-in, item-stands, stands-item, Keeps, keeps, insert-stands, is_of_run}
use Rattle.document_definitions.proofs.Standing.{remove-stands, split-stands, merge-stands}

-- an item's range isn't collapsed
behind-later : (path : List ℕ) → path ≢ [] → not_after (behind path) path ≡ false
behind-later [] some = absurd (some refl)
behind-later (o ∷ []) some = not_after-cons (o + 1) o [] [] ∙ later o (not_after [] [])
  where
    later : (o : ℕ) (b : Bool) → (nat_lt (o + 1) o || (o + 1 == o && b)) ≡ false
    later o b = grind (arith, nat_tests)
behind-later (i ∷ next ∷ path) some = not_after-same i (behind (next ∷ path)) (next ∷ path) ∙ behind-later (next ∷ path) (λ e. cc)

-- so it lies in a run where the run has the item
lies-holds : (from : List ℕ) (count : ℕ) (path : List ℕ) → path ≢ [] → lies_in_run from count (between path (behind path))
    ≡ holds (between from (forward count from)) path
lies-holds from count path some =
    ap (λ t. if not t then not_after from path && not_after (behind path) (forward count from)
    else is_before from path && is_before (behind path) (forward count from)) (behind-later path some)

-- a run has an item by what is left of its path behind the path of the run's parent
run-has : (from : List ℕ) (count : ℕ) (path : List ℕ) → from ≢ [] → path ≢ []
    → holds (between from (forward count from)) path ≡ option_map_or (is_of_run (offset_of from) count) (rest_behind (parent_of from) path) false
run-has [] count path some other = absurd (some refl)
run-has (o ∷ from) count [] some other = absurd (other refl)
run-has (o ∷ []) count (i ∷ []) some other =
    (λ t. not_after-cons o i [] [] t && not_after-cons (i + 1) (o + count) [] [] t) ∙ in_list o count i
  where
    in_list : (o count i : ℕ) → ((nat_lt o i || (o == i && true)) && (nat_lt (i + 1) (o + count) || (i + 1 == o + count && true)))
        ≡ (nat_le o i && nat_lt i (o + count))
    in_list o count i = grind (arith, nat_tests)
run-has (o ∷ []) count (i ∷ next ∷ path) some other =
    (λ t. (not_after-cons o i [] (next ∷ path) ∙ ap (λ b. nat_lt o i || (o == i && b)) (not_after-none (next ∷ path))) t
    && (not_after-cons i (o + count) (behind (next ∷ path)) [] ∙ ap (λ b. nat_lt i (o + count) || (i == o + count && b)) (later next path)) t)
    ∙ in_list o count i
  where
    later : (next : ℕ) (path : List ℕ) → not_after (behind (next ∷ path)) [] ≡ false
    later next [] = refl
    later next (more ∷ path) = refl

    in_list : (o count i : ℕ) → ((nat_lt o i || (o == i && true)) && (nat_lt i (o + count) || (i == o + count && false))) ≡ (nat_le o i && nat_lt i (o + count))
    in_list o count i = grind (arith, nat_tests)
run-has (s ∷ next ∷ from) count (i ∷ []) some other =
    (λ t. not_after-cons s i (next ∷ from) [] t && not_after-cons (i + 1) s [] (forward count (next ∷ from)) t)
    ∙ above s i (not_after [] (forward count (next ∷ from))) ∙ sym (go (s == i) (parent_of (next ∷ from)))
  where
    above : (s i : ℕ) (b : Bool) → ((nat_lt s i || (s == i && false)) && (nat_lt (i + 1) s || (i + 1 == s && b))) ≡ false
    above s i b = grind (arith, nat_tests)

    go : (t : Bool) (parent : List ℕ) → option_map_or (is_of_run (offset_of (next ∷ from)) count) (if t then rest_behind parent [] else None) false ≡ false
    go true [] = refl
    go true (step ∷ parent) = refl
    go false parent = refl
run-has (s ∷ next ∷ from) count (i ∷ more ∷ path) some other =
    (λ t. not_after-cons s i (next ∷ from) (more ∷ path) t && not_after-cons i s (behind (more ∷ path)) (forward count (next ∷ from)) t)
    ∙ both s i (not_after (next ∷ from) (more ∷ path)) (not_after (behind (more ∷ path)) (forward count (next ∷ from)))
    ∙ ap (λ b. s == i && b) (run-has (next ∷ from) count (more ∷ path) (λ e. cc) (λ e. cc))
    ∙ go (s == i) (rest_behind (parent_of (next ∷ from)) (more ∷ path))
  where
    both : (s i : ℕ) (a b : Bool) → ((nat_lt s i || (s == i && a)) && (nat_lt i s || (i == s && b))) ≡ (s == i && (a && b))
    both s i a b = grind (arith, nat_tests)

    go : (t : Bool) (o : Option (List ℕ)) → (t && option_map_or (is_of_run (offset_of (next ∷ from)) count) o false)
        ≡ option_map_or (is_of_run (offset_of (next ∷ from)) count) (if t then o else None) false
    go true o = refl
    go false o = refl

-- an item that a run doesn't have
apart-keeps : (from : List ℕ) (count : ℕ) (path : List ℕ) → from ≢ [] → path ≢ [] → holds (between from (forward count from)) path ≡ false
    → Keeps (λ rest. is_of_run (offset_of from) count rest ≡ false) (parent_of from) path
apart-keeps from count path some other e rest f = sym (ap (λ o. option_map_or (is_of_run (offset_of from) count) o false) f)
    ∙ sym (run-has from count path some other) ∙ e

forward-push : (parent : List ℕ) (offset count : ℕ) → forward count (parent ++ offset ∷ []) ≡ parent ++ (offset + count) ∷ []
forward-push [] offset count = refl
forward-push (step ∷ []) offset count = refl
forward-push (step ∷ next ∷ parent) offset count = ap (λ path. step ∷ path) (forward-push (next ∷ parent) offset count)

out-keeps : (from : List ℕ) (count : ℕ) (path : List ℕ) → path ≢ [] → holds (run_range from count) path ≡ false
    → Keeps (λ rest. is_of_run (offset_of from) count rest ≡ false) (parent_of from) path
out-keeps from count path some e rest f =
    let start = parent_of from ++ offset_of from ∷ [] in
    subst (λ o. is_of_run o count rest ≡ false) (offset_of-push (parent_of from) (offset_of from))
    (apart-keeps start count path (push-some (parent_of from) (offset_of from)) some
    (ap (λ end. holds (between start end) path) (forward-push (parent_of from) (offset_of from) count) ∙ e) rest
    (ap (λ p. rest_behind p path) (parent_of-push (parent_of from) (offset_of from)) ∙ f))

-- an item that a run has
record Had (from : List ℕ) (count : ℕ) (path : List ℕ) : Type 0 where
  number : ℕ
  rest : List ℕ
  left : rest_behind (parent_of from) path ≡ Some (number ∷ rest)
  least : offset_of from ≤ number
  less : number < offset_of from + count

had : (from : List ℕ) (count : ℕ) (path : List ℕ) → from ≢ [] → path ≢ [] → holds (between from (forward count from)) path ≡ true → Had from count path
had from count path some other e = go (rest_behind (parent_of from) path) refl (sym (run-has from count path some other) ∙ e)
  where
    go : (o : Option (List ℕ)) → rest_behind (parent_of from) path ≡ o → option_map_or (is_of_run (offset_of from) count) o false ≡ true → Had from count path
    go None e f = absurd cc
    go (Some []) e f = absurd cc
    go (Some (number ∷ rest)) e f = record {
      number = number;
      rest = rest;
      left = e;
      least = first (offset_of from) number count f;
      less =
          second (offset_of from) number count f;
    }
      where
        first : (o number count : ℕ) → (nat_le o number && nat_lt number (o + count)) ≡ true → o ≤ number
        first o number count f = grind (arith, nat_tests)

        second : (o number count : ℕ) → (nat_le o number && nat_lt number (o + count)) ≡ true → number < o + count
        second o number count f = grind (arith, nat_tests)

-- an item of a run is in the items that are taken out
in-gone : (head : Item → Item) (offset count : ℕ) (xs ys gone : List Item) (number : ℕ) (path : List ℕ) (told : Item) → take_out offset count xs
    ≡ Some (ys, gone) → offset ≤ number → number < offset + count
    → Stands head xs (number ∷ path) told → Stands head gone ((number - offset) ∷ path) told
in-gone head offset count xs ys gone number path told e least less h = go (parted-out offset count xs ys gone e)
  where
    go : Parted offset count xs ys gone [] → Stands head gone ((number - offset) ∷ path) told
    go p = stands-at head xs gone number (number - offset) path told
        (sym (get-old p number (number - offset) (omega (arith, less, least)) (omega (arith, least)))) h

in-taken : (head : Item → Item) (parent : List ℕ) (offset count : ℕ) (xs ys gone : List Item) (path : List ℕ) (number : ℕ) (rest : List ℕ) (told : Item)
    → at parent (take_out offset count) xs ≡ Some (ys, gone)
    → rest_behind parent path ≡ Some (number ∷ rest) → offset ≤ number → number < offset + count → Stands head xs path told
    → Stands head gone ((number - offset) ∷ rest) told
in-taken head [] offset count xs ys gone path number rest told e left least less h =
    let same : path ≡ number ∷ rest = ap (λ o. unwrap_or o []) left in
    in-gone head offset count xs ys gone number rest told e least less (subst (λ p. Stands head xs p told) same h)
in-taken head (s ∷ parent) offset count xs ys gone [] number rest told e left least less h = absurd (h tt)
in-taken head (s ∷ parent) offset count xs ys gone (i ∷ []) number rest told e left least less h =
    let same = rest-first s i parent [] (number ∷ rest) left in
    absurd (no-rest parent number rest
    (rest-same s parent [] (number ∷ rest) (subst (λ v. rest_behind (s ∷ parent) (v ∷ []) ≡ Some (number ∷ rest)) (sym same) left)))
in-taken head (s ∷ parent) offset count xs ys gone (i ∷ next ∷ below) number rest told e left least less h =
    let same = rest-first s i parent (next ∷ below) (number ∷ rest) left in
    let deeper = rest-same s parent (next ∷ below) (number ∷ rest) (subst (λ v. rest_behind (s ∷ parent) (v ∷ next ∷ below) ≡ Some (number ∷ rest))
    (sym same) left) in
    let t = through xs s (at parent (take_out offset count)) ys gone e in
    let items : h.0 ≡ t.items = (let f : Some h.0 ≡ Some t.items = sym h.1 ∙ ap (in_at xs) (sym same) ∙ t.there in cc) in
    in-taken head parent offset count t.items t.new gone (next ∷ below) number rest told t.made deeper least less
    (subst (λ is. Stands head is (next ∷ below) told) items h.2)

-- an item of items that come in is in the tree
in-put : (head : Item → Item) (parent : List ℕ) (offset : ℕ) (new xs ys : List Item) (r : Unit {0}) (number : ℕ) (path : List ℕ) (told : Item)
    → at parent (put_in offset new) xs ≡ Some (ys, r)
    → number < length new → Stands head new (number ∷ path) told → Stands head ys (parent ++ (offset + number) ∷ path) told
in-put head [] offset new xs ys r number path told e less h = go (parted-in offset new xs ys r e)
  where
    go : Parted offset 0 xs ys [] new → Stands head ys ((offset + number) ∷ path) told
    go p = stands-at head new ys number (offset + number) path told (get-new p (offset + number) number less refl) h
in-put head (s ∷ parent) offset new xs ys r number path told e less h =
    let t = through xs s (at parent (put_in offset new)) ys r e in
    stands-in head ys t.new s (parent ++ (offset + number) ∷ path) told t.then_there
    (in-put head parent offset new t.items t.new r number path told t.made less h)

-- an item of a run that moves stands where the run goes
run-stands : (head : Item → Item) (from to : List ℕ) (count : ℕ) (xs left ys run : List Item) (r : Unit {0}) (path : List ℕ) (told : Item) → from ≢ []
    → path ≢ [] → length run ≡ count
    → at (parent_of from) (take_out (offset_of from) count) xs ≡ Some (left, run) → at (parent_of to) (put_in (offset_of to) run) left ≡ Some (ys, r)
    → holds (between from (forward count from)) path ≡ true → Stands head xs path told → Stands head ys (with_run from to path) told
run-stands head from to count xs left ys run r path told some other long e f has h =
    let i = had from count path some other has in
    let least = i.least in
    let less = i.less in
    subst (λ o. Stands head ys (run_place to (offset_of from) path (unwrap_or o [])) told) (sym i.left)
    (in-put head (parent_of to) (offset_of to) run left ys r (i.number - offset_of from) i.rest told f (omega (arith, least, less, long))
    (in-taken head (parent_of from) (offset_of from) count xs left run path i.number i.rest told e i.left i.least i.less h))

-- what each item has in it stays, and what is told of each item
same-stands : (head : Item → Item) (xs ys : List Item) (path : List ℕ) (told : Item)
    → ((i : ℕ) → option_map head (slice_get ys i) ≡ option_map head (slice_get xs i)) → ((i : ℕ) → in_at ys i ≡ in_at xs i)
    → Stands head xs path told → Stands head ys path told
same-stands head xs ys [] told heads inners h = absurd (h tt)
same-stands head xs ys (i ∷ []) told heads inners h = heads i ∙ h
same-stands head xs ys (i ∷ next ∷ path) told heads inners h = (h.0, inners i ∙ h.1, h.2)

give-stands : (head : Item → Item) → ((attributes : Attributes) (item : Item) → head (with_attributes attributes item) ≡ head item)
    → (offset count : ℕ) (key : List ℕ) (value : Option AttributeValue) (xs ys old : List Item) (path : List ℕ) (told : Item)
    → give offset count key value xs ≡ Some (ys, old) → Stands head xs path told → Stands head ys path told
give-stands head plain offset count key value xs ys old path told e h =
    let p = replacing offset count (λ run. Some (given key value run, run)) xs ys old e in
    let new : given key value p.run ≡ p.new = ap (λ (o : Option (List Item × List Item)). option_map_or (λ (m : List Item × List Item). m.0) o []) p.gives in
    let q = subst (Parted offset count xs ys p.run) (sym new) p.parted in
    let m = q.many in
    let long : length (given key value p.run) ≡ count = as-long key value p.run ∙ m in
    same-stands head xs ys path told (same-parted (option_map head) offset count xs ys p.run (given key value p.run) q long (heads p.run))
    (same-parted (option_and_then inner) offset count xs ys p.run (given key value p.run) q long (given-same key value p.run)) h
  where
    heads : (run : List Item) (k : ℕ) → option_map head (slice_get (given key value run) k) ≡ option_map head (slice_get run k)
    heads [] k = refl
    heads (item ∷ run) zero = ap Some (plain (with_key key value (attributes_of item)) item)
    heads (item ∷ run) (suc k) = heads run k

rename-stands : (head : Item → Item)
    → ((id : ℕ) (name new : List ℕ) (attributes : Attributes) (children : Items) → head (element id new attributes children)
    ≡ head (element id name attributes children))
    → (index : ℕ) (name : List ℕ) (xs ys : List Item) (old : List ℕ) (path : List ℕ) (told : Item) → rename_at index name xs ≡ Some (ys, old)
    → Stands head xs path told → Stands head ys path told
rename-stands head plain index name xs ys old path told e h =
    let p = replacing index 1 (one_item (renamed name)) xs ys old e in
    let s = renamed-same name p.run p.new old p.gives in
    same-stands head xs ys path told (same-parted (option_map head) index 1 xs ys p.run p.new p.parted s.0 (heads p.run p.new p.gives))
    (same-parted (option_and_then inner) index 1 xs ys p.run p.new p.parted s.0 s.1) h
  where
    heads : (run new : List Item) → one_item (renamed name) run ≡ Some (new, old) → (k : ℕ) → option_map head (slice_get new k)
        ≡ option_map head (slice_get run k)
    heads [] new e k = absurd cc
    heads (item ∷ next ∷ run) new e k = absurd cc
    heads (character scalar attributes ∷ []) new e k = absurd cc
    heads (element id was attributes children ∷ []) new e k =
        let same : element id name attributes children ∷ []
        ≡ new = ap (λ (o : Option (List Item × List ℕ)). option_map_or (λ (m : List Item × List ℕ). m.0) o []) e in
        ap (λ zs. option_map head (slice_get zs k)) (sym same) ∙ each k
      where
        each : (k : ℕ) → option_map head (slice_get (element id name attributes children ∷ []) k)
            ≡ option_map head (slice_get (element id was attributes children ∷ []) k)
        each zero = ap Some (plain id was name attributes children)
        each (suc k) = refl

-- what is told of items by an operation
inner-head : IsOfHead (with_inner [])
inner-head items item = with_inner-twice item [] items

left-head : (operation : Operation) → IsOfHead (left_by operation)
left-head (insert position new) items item = inner-head items item
left-head (move from count to) items item = inner-head items item
left-head (attribute range key old new) items item = ap (with_attributes []) (inner-head items item)
left-head (rename path old new) items item = ap without_name (inner-head items item)
left-head (split position source) items item = inner-head items item
left-head (merge right target cell) items item = inner-head items item
left-head (marker name old new) items item = inner-head items item

bare-attributes : (attributes : Attributes) (item : Item) → with_attributes [] (with_inner [] (with_attributes attributes item))
    ≡ with_attributes [] (with_inner [] item)
bare-attributes attributes (character scalar was) = refl
bare-attributes attributes (element id name was children) = refl

some-path : (head : Item → Item) (xs : List Item) (path : List ℕ) (told : Item) → Stands head xs path told → path ≢ []
some-path head xs [] told h = absurd (h tt)
some-path head xs (i ∷ path) told h = λ e. cc

-- an item is left where its range goes
abbrev Left : Operation → List Item → List ℕ → Item → Type 0
Left operation ys path told = Stands (left_by operation) ys (carried_ends (shift_of operation) (between path (behind path))).start told

insert-left : (head : Item → Item) → IsOfHead head → (at_ : List ℕ) (new xs ys : List Item) (r : Unit {0}) (path : List ℕ) (told : Item)
    → at (parent_of at_) (put_in (offset_of at_) new) xs ≡ Some (ys, r)
    → Stands head xs path told → Stands head ys (carry_insert at_ (length new) to_next path) told
insert-left head apart at_ new xs ys r path told e h =
    keeps head apart (parent_of at_) (put_in (offset_of at_) new) (rule_insert (offset_of at_) (length new) to_next) (λ _. Unit {0}) refl r
    (λ xs ys path told e _ h. insert-stands head (offset_of at_) new xs ys r path told e h) xs ys path told e (λ _ _. tt) h

remove-left : (head : Item → Item) → IsOfHead head → (from : List ℕ) (count : ℕ) (xs ys gone : List Item) (path : List ℕ) (told : Item)
    → at (parent_of from) (take_out (offset_of from) count) xs ≡ Some (ys, gone)
    → Keeps (λ rest. is_of_run (offset_of from) count rest ≡ false) (parent_of from) path → Stands head xs path told
    → Stands head ys (carry_remove from count path) told
remove-left head apart from count xs ys gone path told e kept h =
    keeps head apart (parent_of from) (take_out (offset_of from) count) (rule_remove (offset_of from) count)
    (λ rest. is_of_run (offset_of from) count rest ≡ false) refl gone
    (λ xs ys path told e k h. remove-stands head (offset_of from) count xs ys gone path told e k h) xs ys path told e kept h

-- where an item's range goes with a move, by whether it lies in the run
abbrev ends_by : List ℕ → List ℕ → ℕ → List ℕ → Bool → Range
ends_by from to count path t =
    if t then between (with_run from (carry_remove from count to) path) (with_run from (carry_remove from count to) (behind path))
    else between (carry to_next (shifts.move from count to) path) (carry shifts.to_previous (shifts.move from count to) (behind path))

move-left : (head : Item → Item) → IsOfHead head
    → (from to : List ℕ) (count : ℕ) (xs left ys run : List Item) (r : Unit {0}) (path : List ℕ) (told : Item) → from ≢ [] → length run ≡ count
    → at (parent_of from) (take_out (offset_of from) count) xs ≡ Some (left, run)
    → at (parent_of (carry_remove from count to)) (put_in (offset_of (carry_remove from count to)) run) left ≡ Some (ys, r)
    → Stands head xs path told → Stands head ys (carried_ends (shifts.move from count to) (between path (behind path))).start told
move-left head apart from to count xs left ys run r path told some long e f h =
    subst (λ t. Stands head ys (ends_by from to count path t).start told) (sym (lies-holds from count path (some-path head xs path told h)))
    (go (holds (between from (forward count from)) path) refl)
  where
    go : (t : Bool) → holds (between from (forward count from)) path ≡ t → Stands head ys (ends_by from to count path t).start told
    go true t = run-stands head from (carry_remove from count to) count xs left ys run r path told some (some-path head xs path told h) long e f t h
    go false t =
        subst (λ n. Stands head ys (carry_insert (carry_remove from count to) n to_next (carry_remove from count path)) told) long
        (insert-left head apart (carry_remove from count to) run left ys r (carry_remove from count path) told f
        (remove-left head apart from count xs left run path told e (apart-keeps from count path some (some-path head xs path told h) t) h))

stay-left : {R : Type 0} (head : Item → Item) → IsOfHead head → (parent : List ℕ) (change : Change R)
    → ((xs ys : List Item) (r : R) (path : List ℕ) (told : Item) → change xs ≡ Some (ys, r) → Stands head xs path told → Stands head ys path told)
    → (xs ys : List Item) (r : R) (path : List ℕ) (told : Item) → at parent change xs ≡ Some (ys, r) → Stands head xs path told → Stands head ys path told
stay-left head apart parent change level xs ys r path told e h =
    subst (λ p. Stands head ys p told) (within-same_path parent path)
    (keeps head apart parent change (λ p. p) (λ _. Unit {0}) refl r (λ xs ys path told e _ h. level xs ys r path told e h) xs ys path told e (λ _ _. tt) h)

split-left : (head : Item → Item) → IsOfHead head → (position : List ℕ) (shell : Item → Item) → IsShell shell
    → (xs ys : List Item) (r : Item) (path : List ℕ) (told : Item)
    → at (parent_of (parent_of position)) (split_at (offset_of (parent_of position)) (offset_of position) shell) xs ≡ Some (ys, r)
    → Stands head xs path told → Stands head ys (carry to_next (shifts.split position) path) told
split-left head apart position shell bare xs ys r path told e h =
    keeps head apart (parent_of (parent_of position)) (split_at (offset_of (parent_of position)) (offset_of position) shell)
    (rule_split (offset_of (parent_of position)) (offset_of position) to_next) (λ _. Unit {0}) refl r
    (λ xs ys path told e _ h. split-stands head apart (offset_of (parent_of position)) (offset_of position) shell bare xs ys r path told e h) xs ys path
    told e (λ _ _. tt) h

merge-left : (head : Item → Item) → IsOfHead head → (right target : List ℕ) (xs ys : List Item) (r : Item × ℕ) (path : List ℕ) (told : Item)
    → 0 < offset_of right → offset_of target ≡ r.1
    → at (parent_of right) (merge_at (offset_of right)) xs ≡ Some (ys, r) → Keeps (λ rest. rest ≢ offset_of right ∷ []) (parent_of right) path
    → Stands head xs path told → Stands head ys (carry to_next (shifts.merge right target) path) told
merge-left head apart right target xs ys r path told some same e kept h =
    subst (λ n. Stands head ys (within (parent_of right) (rule_merge (offset_of right) n) path) told) (sym same)
    (keeps head apart (parent_of right) (merge_at (offset_of right)) (rule_merge (offset_of right) r.1) (λ rest. rest ≢ offset_of right ∷ []) refl r
    (λ xs ys path told e k h. merge-stands head apart (offset_of right) xs ys r path told some e k h) xs ys path told e kept h)

-- a path is that of a parent and what is left behind it
rest-joined : (parent path rest : List ℕ) → rest_behind parent path ≡ Some rest → path ≡ parent ++ rest
rest-joined [] path rest e = ap (λ o. unwrap_or o path) e
rest-joined (s ∷ parent) [] rest e = absurd cc
rest-joined (s ∷ parent) (i ∷ path) rest e = go (s == i) refl e (rest-joined parent path rest)
  where
    go : (t : Bool) → t ≡ (s == i) → (if t then rest_behind parent path else None) ≡ Some rest
        → (rest_behind parent path ≡ Some rest → path ≡ parent ++ rest) → i ∷ path ≡ s ∷ (parent ++ rest)
    go true t e rec = (let same : i ≡ s = grind (arith, nat_tests) in λ k. same k ∷ rec e k)
    go false t e rec = absurd cc

merged-keeps : (right path : List ℕ) → right ≢ [] → pointwise nat_eq path right ≡ false → Keeps (λ rest. rest ≢ offset_of right ∷ []) (parent_of right) path
merged-keeps right path some e rest f g =
    let same : path ≡ right = rest-joined (parent_of right) path rest f ∙ ap (λ r. parent_of right ++ r) g ∙ sym (path-joined right some) in
    let t : true ≡ false = sym (numbers_same path right same) ∙ e in
    cc

-- each operation
stays : (items : List Item) (cells : List (List Item)) (operation : Operation) (made : State) (path : List ℕ) (told : Item) → HasPlaces operation
    → effect items cells operation ≡ Ok made
    → takes_out operation path ≡ false → Stands (left_by operation) items path told → Left operation made.0 path told
stays items cells (insert position new) made path told places e kept h =
    let a = step-ok (ok_or (at (parent_of position) (put_in (offset_of position) new) items) no_place) (λ (m : List Item × Unit {0}). Ok (m.0, cells)) made e in
    let there = ok_or-some (at (parent_of position) (put_in (offset_of position) new) items) no_place a.0 a.1 in
    subst (λ ys. Left (insert position new) ys path told) (pair-first (a.0.0, cells) made a.2)
    (insert-left (with_inner []) inner-head position new items a.0.0 a.0.1 path told there h)
stays items cells (move (in_tree from) count (in_tree to)) made path told places e kept h =
    let target = carry_remove from count to in
    let last : List Item × List Item → Result State Fault = λ taken. ok_or (at (parent_of target) (put_in (offset_of target) taken.1) taken.0) no_place
    >>= (λ m. Ok (m.0, cells)) in
    let next : List Item × List Item → Result State Fault = λ taken. ok_or (room_at items to) no_place
    >>= (λ _. check (not (is_in_run from count to)) into_itself >>= (λ _. last taken)) in
    let a = step-ok (ok_or (at (parent_of from) (take_out (offset_of from) count) items) no_place) next made e in
    let taken = ok_or-some (at (parent_of from) (take_out (offset_of from) count) items) no_place a.0 a.1 in
    let b = step-ok (ok_or (room_at items to) no_place) (λ _. check (not (is_in_run from count to)) into_itself >>= (λ _. last a.0)) made a.2 in
    let c = step-ok (check (not (is_in_run from count to)) into_itself) (λ _. last a.0) made b.2 in
    let d = step-ok (ok_or (at (parent_of target) (put_in (offset_of target) a.0.1) a.0.0) no_place) (λ m. Ok (m.0, cells)) made c.2 in
    let put_there = ok_or-some (at (parent_of target) (put_in (offset_of target) a.0.1) a.0.0) no_place d.0 d.1 in
    subst (λ ys. Left (move (in_tree from) count (in_tree to)) ys path told) (pair-first (d.0.0, cells) made d.2)
    (move-left (with_inner []) inner-head from to count items a.0.0 d.0.0 a.0.1 d.0.1 path told places.0 (run-long items a.0.0 a.0.1 from count taken)
    taken put_there h)
stays items cells (move (in_tree from) count (in_cell number)) made path told places e kept h =
    let a = step-ok (ok_or (at (parent_of from) (take_out (offset_of from) count) items) no_place)
    (λ (taken : List Item × List Item). check (is_free cells number) (cell_state number) >>= (λ _. Ok (taken.0, fill cells number taken.1))) made e in
    let taken = ok_or-some (at (parent_of from) (take_out (offset_of from) count) items) no_place a.0 a.1 in
    let b = step-ok (check (is_free cells number) (cell_state number)) (λ _. Ok (a.0.0, fill cells number a.0.1)) made a.2 in
    subst (λ ys. Left (move (in_tree from) count (in_cell number)) ys path told) (pair-first (a.0.0, fill cells number a.0.1) made b.2)
    (remove-left (with_inner []) inner-head from count items a.0.0 a.0.1 path told taken
    (out-keeps from count path (some-path (with_inner []) items path told h) kept) h)
stays items cells (move (in_cell number) count (in_tree to)) made path told places e kept h =
    let run = in_cell_at cells number in
    let a = step-ok (check (holds_count cells number count) (cell_state number))
    (λ _. ok_or (at (parent_of to) (put_in (offset_of to) run) items) no_place >>= (λ (m : List Item × Unit {0}). Ok (m.0, set cells number []))) made e in
    let full = check-true (holds_count cells number count) (cell_state number) a.0 a.1 in
    let b = step-ok (ok_or (at (parent_of to) (put_in (offset_of to) run) items) no_place) (λ (m : List Item × Unit {0}). Ok (m.0, set cells number []))
    made a.2 in
    let there = ok_or-some (at (parent_of to) (put_in (offset_of to) run) items) no_place b.0 b.1 in
    subst (λ ys. Left (move (in_cell number) count (in_tree to)) ys path told) (pair-first (b.0.0, set cells number []) made b.2)
    (subst (λ n. Stands (with_inner []) b.0.0 (carry_insert to n to_next path) told) (holds-long cells number count full)
    (insert-left (with_inner []) inner-head to run items b.0.0 b.0.1 path told there h))
stays items cells (move (in_cell number) count (in_cell other)) made path told places e kept h = absurd cc
stays items cells (attribute range key old new) made path told places e kept h =
    let parent = parent_of range.start in
    let change = give (offset_of range.start) (offset_of range.end - offset_of range.start) key new in
    let flat_test = pointwise nat_eq parent (parent_of range.end) in
    let tail : List Item × List Item → Result State Fault = λ m. have_value key old m.1 >>= (λ _. Ok (m.0, cells)) in
    let a = step-ok (check flat_test not_flat) (λ _. ok_or (at parent change items) no_place >>= tail) made e in
    let b = step-ok (ok_or (at parent change items) no_place) tail made a.2 in
    let there = ok_or-some (at parent change items) no_place b.0 b.1 in
    let c = step-ok (have_value key old b.0.1) (λ _. Ok (b.0.0, cells)) made b.2 in
    let head = left_by (attribute range key old new) in
    subst (λ ys. Left (attribute range key old new) ys path told) (pair-first (b.0.0, cells) made c.2)
    (stay-left head (left-head (attribute range key old new)) parent change
    (λ xs ys r path told e h. give-stands head bare-attributes (offset_of range.start) (offset_of range.end - offset_of range.start) key new xs ys r
    path told e h) items b.0.0 b.0.1 path told there h)
stays items cells (rename place old new) made path told places e kept h =
    let change = rename_at (offset_of place) new in
    let tail : List Item × List ℕ → Result State Fault = λ m. check (pointwise nat_eq m.1 old) (old_differs (found_name m.1)) >>= (λ _. Ok (m.0, cells)) in
    let a = step-ok (check (nat_le 1 (length place)) no_place) (λ _. ok_or (at (parent_of place) change items) no_place >>= tail) made e in
    let b = step-ok (ok_or (at (parent_of place) change items) no_place) tail made a.2 in
    let there = ok_or-some (at (parent_of place) change items) no_place b.0 b.1 in
    let c = step-ok (check (pointwise nat_eq b.0.1 old) (old_differs (found_name b.0.1))) (λ _. Ok (b.0.0, cells)) made b.2 in
    let head = left_by (rename place old new) in
    subst (λ ys. Left (rename place old new) ys path told) (pair-first (b.0.0, cells) made c.2)
    (stay-left head (left-head (rename place old new)) (parent_of place) change
    (λ xs ys r path told e h. rename-stands head (λ _ _ _ _ _. refl) (offset_of place) new xs ys r path told e h) items b.0.0 b.0.1 path told there h)
stays items cells (split position (fresh id)) made path told places e kept h =
    let above = parent_of (parent_of position) in
    let change = split_at (offset_of (parent_of position)) (offset_of position) (like id) in
    let tail : List Item × Item → Result State Fault = λ m. Ok (m.0, cells) in
    let a = step-ok (check (nat_le 2 (length position)) no_place) (λ _. ok_or (at above change items) no_place >>= tail) made e in
    let b = step-ok (ok_or (at above change items) no_place) tail made a.2 in
    let there = ok_or-some (at above change items) no_place b.0 b.1 in
    subst (λ ys. Left (split position (fresh id)) ys path told) (pair-first (b.0.0, cells) made b.2)
    (split-left (with_inner []) inner-head position (like id) (like-shell id) items b.0.0 b.0.1 path told there h)
stays items cells (split position (from_cell number)) made path told places e kept h =
    let above = parent_of (parent_of position) in
    let held = in_cell_at cells number in
    let change : Item → Change Item = λ shell. split_at (offset_of (parent_of position)) (offset_of position) (λ _. shell) in
    let last : List Item × Item → Result State Fault = λ m. Ok (m.0, set cells number []) in
    let next : Item → Result State Fault = λ shell. ok_or (at above (change shell) items) no_place >>= last in
    let first : List Item × Unit {0} → Result State Fault = λ _. ok_or (shell_of held) (cell_state number) >>= next in
    let a = step-ok (check (nat_le 2 (length position)) no_place) (λ _. ok_or (room_at items position) no_place >>= first) made e in
    let b = step-ok (ok_or (room_at items position) no_place) first made a.2 in
    let c = step-ok (ok_or (shell_of held) (cell_state number)) next made b.2 in
    let bare = shell-inner held c.0 (ok_or-some (shell_of held) (cell_state number) c.0 c.1) in
    let d = step-ok (ok_or (at above (change c.0) items) no_place) last made c.2 in
    let there = ok_or-some (at above (change c.0) items) no_place d.0 d.1 in
    subst (λ ys. Left (split position (from_cell number)) ys path told) (pair-first (d.0.0, set cells number []) made d.2)
    (split-left (with_inner []) inner-head position (λ _. c.0) (λ _ _ _. ([], bare)) items d.0.0 d.0.1 path told there h)
stays items cells (merge right target number) made path told places e kept h =
    let change = merge_at (offset_of right) in
    let above = parent_of right in
    let last : List Item × (Item × ℕ) → Result State Fault = λ m. check (is_free cells number) (cell_state number)
    >>= (λ _. Ok (m.0, fill cells number (m.1.0 ∷ []))) in
    let next : List Item × (Item × ℕ) → Result State Fault = λ m. check (pointwise nat_eq target (above ++ (offset_of right - 1) ∷ m.1.1 ∷ []))
    not_neighbours >>= (λ _. last m) in
    let a = step-ok (check (nat_lt 0 (offset_of right)) not_neighbours) (λ _. ok_or (at above change items) not_neighbours >>= next) made e in
    let some = positive (offset_of right) (check-true (nat_lt 0 (offset_of right)) not_neighbours a.0 a.1) in
    let b = step-ok (ok_or (at above change items) not_neighbours) next made a.2 in
    let there = ok_or-some (at above change items) not_neighbours b.0 b.1 in
    let end_test = pointwise nat_eq target (above ++ (offset_of right - 1) ∷ b.0.1.1 ∷ []) in
    let c = step-ok (check end_test not_neighbours) (λ _. last b.0) made b.2 in
    let ends_there = same_numbers target (above ++ (offset_of right - 1) ∷ b.0.1.1 ∷ []) (check-true end_test not_neighbours c.0 c.1) in
    let d = step-ok (check (is_free cells number) (cell_state number)) (λ _. Ok (b.0.0, fill cells number (b.0.1.0 ∷ []))) made c.2 in
    subst (λ ys. Left (merge right target number) ys path told) (pair-first (b.0.0, fill cells number (b.0.1.0 ∷ [])) made d.2)
    (merge-left (with_inner []) inner-head right target items b.0.0 b.0.1 path told some
    (target-offset above target (offset_of right - 1) b.0.1.1 ends_there) there
    (merged-keeps right path (λ f. absurd (omega (arith, some, ap offset_of f))) kept) h)
stays items cells (marker name old new) made path told places e kept h =
    subst (λ ys. Left (marker name old new) ys path told) (pair-first (items, cells) made e) h

start-is : (shift : Shift) (range : Range) → (carry_range shift range).start ≡ (carried_ends shift range).start
start-is shift range = go (is_before (carried_ends shift range).end (carried_ends shift range).start)
  where
    go : (t : Bool) → (if t then between (carried_ends shift range).start (carried_ends shift range).start else carried_ends shift range).start
        ≡ (carried_ends shift range).start
    go true = refl
    go false = refl

pub stay_in_place : (items : List Item) (cells : List (List Item)) (operation : Operation) (made : State) (path : List ℕ) (item : Item)
    → HasPlaces operation → after items cells operation ≡ Ok made
    → item_at path items ≡ Some item → takes_out operation path ≡ false
    → option_map (left_by operation) (item_at (item_carried (shift_of operation) path) made.0) ≡ Some (left_by operation item)
stay_in_place items cells operation made path item places e there kept =
    stands-item (left_by operation) made.0 (item_carried (shift_of operation) path) (left_by operation item)
    (subst (λ p. Stands (left_by operation) made.0 p (left_by operation item)) (sym (start-is (shift_of operation) (between path (behind path))))
    (stays items cells operation made path (left_by operation item) places (after-effect items cells operation made e) kept
    (item-stands (left_by operation) items path item there)))
