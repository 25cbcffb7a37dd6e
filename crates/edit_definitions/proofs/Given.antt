-- What an edit of an attribute leaves of an item that it reaches, and of one that it doesn't.
use Rattle.std.proofs.Common.{◌≡◌, ◌≢◌, ℕ, zero, suc, ◌+◌, ◌-◌, ◌<◌, ◌≤◌, Bool, true, false, nat_eq, nat_le, nat_lt, ◌&&◌, ◌||◌, inl, inr, List, [], ◌∷◌, ◌++◌}
use Rattle.std.proofs.Common.{map, length, Option, Some, None, ok_or, option_map, option_and_then, slice_get, Result, Ok, refl, sym, ap, ◌∙◌, subst, arith}
use Rattle.std.specs.Option.{option_map_or}
use Rattle.std.specs.List.{list_any}
use Rattle.std.specs.Cmp.Lexicographic.{pointwise}
use Rattle.std.proofs.lemmas.Bool.Decides.{nat_tests}
use Rattle.ck_base.specs.declared.value.Value.{Value as AttributeValue}
use Rattle.ck_base.specs.Entries.{IsOrdered, value_of, ChangesOnly}
use Rattle.ck_base.proofs.Lookups.{written, removed}
use Rattle.ck_base.proofs.Ordered.{ordered_with_value, ordered_without}
use Rattle.item_definitions.specs.Item.{Item, character, element, inner, with_inner, Attributes, attributes_of, with_attributes}
use Rattle.item_definitions.specs.Children.{parent_of, offset_of, item_at, at}
use Rattle.operation_definitions.specs.Level.{give, given, with_key}
use Rattle.operation_definitions.specs.Operation.{Fault, no_place, not_flat}
use Rattle.operation_definitions.specs.After.{◌>>=◌, check, after, have_value}
use Rattle.operation_definitions.proofs.Steps.{step-ok, ok_or-some}
use Rattle.operation_definitions.proofs.Simple.{after-effect}
use Rattle.operation_definitions.proofs.Lifting.{map-some}
use Rattle.operation_definitions.proofs.Moves.{decide}
use Rattle.document_definitions.specs.Document.{State, changed, applied, all_applied}
use Rattle.document_definitions.proofs.Inside.{in_at, through}
use Rattle.document_definitions.proofs.Parted.{Parted, replacing, get-before, get-behind, get-old, get-new}
use Rattle.document_definitions.proofs.Same.{as-long, same-parted, given-same}
use Rattle.edit_definitions.specs.Given.{is_of, IsGiven, HasGiven}
use Rattle.edit_definitions.proofs.Attributed.{Spot, change_at, with_inner-attributes}

-- attributes with the new value of a key, or as they are
abbrev where_told : Bool → List ℕ → Option AttributeValue → Attributes → Attributes
where_told true key new attributes = with_key key new attributes
where_told false key new attributes = attributes

abbrev in_run : ℕ → ℕ → ℕ → Bool
in_run offset count i = nat_le offset i && nat_lt i (offset + count)

with-attributes : (attributes : Attributes) (item : Item) → attributes_of (with_attributes attributes item) ≡ attributes
with-attributes attributes (character scalar old) = refl
with-attributes attributes (element id name old children) = refl

given-get : (key : List ℕ) (new : Option AttributeValue) (run : List Item) (k : ℕ)
    → option_map attributes_of (slice_get (given key new run) k) ≡ option_map (λ item. with_key key new (attributes_of item)) (slice_get run k)
given-get key new [] k = refl
given-get key new (item ∷ run) zero = ap Some (with-attributes (with_key key new (attributes_of item)) item)
given-get key new (item ∷ run) (suc k) = given-get key new run k

-- what the items of one list have then
level-given : (offset count : ℕ) (key : List ℕ) (new : Option AttributeValue) (xs ys run : List Item) → give offset count key new xs ≡ Some (ys, run) → (i : ℕ)
    → option_map attributes_of (slice_get ys i) ≡ option_map (λ item. where_told (in_run offset count i) key new (attributes_of item)) (slice_get xs i)
level-given offset count key new xs ys run e i =
    let p = replacing offset count (λ run. Some (given key new run, run)) xs ys run e in
    let made : given key new p.run ≡ p.new = ap (λ (o : Option (List Item × List Item)). option_map_or (λ (m : List Item × List Item). m.0) o []) p.gives in
    go p.run p.new made p.parted (nat_le offset i) refl (nat_lt i (offset + count)) refl
  where
    go : (old put : List Item) → given key new old ≡ put → Parted offset count xs ys old put → (t : Bool) → t ≡ nat_le offset i → (u : Bool) → u
        ≡ nat_lt i (offset + count)
        → option_map attributes_of (slice_get ys i) ≡ option_map (λ item. where_told (t && u) key new (attributes_of item)) (slice_get xs i)
    go old put made p false t u v = ap (option_map attributes_of) (get-before p i (grind (arith, nat_tests)))
    go old put made p true t true v =
        let least : offset ≤ i = grind (arith, nat_tests) in
        let less : i < offset + count = grind (arith, nat_tests) in
        let many = p.many in
        let long : length put ≡ length old = ap length (sym made) ∙ as-long key new old in
        ap (option_map attributes_of) (get-new p i (i - offset) (omega (arith, least, less, long, many)) (omega (arith, least)))
        ∙ ap (λ zs. option_map attributes_of (slice_get zs (i - offset))) (sym made) ∙ given-get key new old (i - offset)
        ∙ ap (option_map (λ item. with_key key new (attributes_of item))) (sym (get-old p i (i - offset) (omega (arith, least, less)) (omega (arith, least))))
    go old put made p true t false v =
        let least : offset + count ≤ i = grind (arith, nat_tests) in
        let many = p.many in
        let long : length put ≡ length old = ap length (sym made) ∙ as-long key new old in
        ap (option_map attributes_of) (get-behind p i i (i - (offset + count)) (omega (arith, least)) (omega (arith, least, long, many)))

-- what is in the items of one list stays
level-inside : (offset count : ℕ) (key : List ℕ) (new : Option AttributeValue) (xs ys run : List Item) → give offset count key new xs ≡ Some (ys, run) → (i : ℕ)
    → in_at ys i ≡ in_at xs i
level-inside offset count key new xs ys run e i =
    let p = replacing offset count (λ run. Some (given key new run, run)) xs ys run e in
    let made : given key new p.run ≡ p.new = ap (λ (o : Option (List Item × List Item)). option_map_or (λ (m : List Item × List Item). m.0) o []) p.gives in
    let many = p.parted.many in
    let long : length p.new ≡ count = ap length (sym made) ∙ as-long key new p.run ∙ many in
    same-parted (option_and_then inner) offset count xs ys p.run p.new p.parted long
    (λ k. ap (λ zs. in_at zs k) (sym made) ∙ given-same key new p.run k) i

below-at : (xs : List Item) (index next : ℕ) (path : List ℕ) → item_at (index ∷ next ∷ path) xs ≡ option_and_then (item_at (next ∷ path)) (in_at xs index)
below-at xs index next path = go (slice_get xs index)
  where
    go : (o : Option Item) → option_and_then (λ item. option_and_then (item_at (next ∷ path)) (inner item)) o
        ≡ option_and_then (item_at (next ∷ path)) (option_and_then inner o)
    go None = refl
    go (Some item) = refl

-- so in the items of the element at a path
tree-given : (parent : List ℕ) (offset count : ℕ) (key : List ℕ) (new : Option AttributeValue) (xs ys run : List Item)
    → at parent (give offset count key new) xs ≡ Some (ys, run) → (path : List ℕ)
    → option_map attributes_of (item_at path ys)
    ≡ option_map (λ item. where_told (pointwise nat_eq parent (parent_of path) && in_run offset count (offset_of path)) key new (attributes_of item))
    (item_at path xs)
tree-given [] offset count key new xs ys run e [] = refl
tree-given [] offset count key new xs ys run e (i ∷ []) = level-given offset count key new xs ys run e i
tree-given [] offset count key new xs ys run e (i ∷ next ∷ path) =
    ap (option_map attributes_of) (below-at ys i next path ∙ ap (option_and_then (item_at (next ∷ path))) (level-inside offset count key new xs ys run e i)
    ∙ sym (below-at xs i next path))
tree-given (s ∷ parent) offset count key new xs ys run e [] = refl
tree-given (s ∷ parent) offset count key new xs ys run e (i ∷ []) =
    let t = through xs s (at parent (give offset count key new)) ys run e in
    elim (decide s i) [
      | inl same ↦ ap (λ j. option_map attributes_of (slice_get ys j)) (sym same) ∙ ap (option_map attributes_of) t.then_found
          ∙ ap Some (with_inner-attributes t.new t.item)
          ∙ sym (ap (λ j. option_map attributes_of (slice_get xs j)) (sym same) ∙ ap (option_map attributes_of) t.found)
      | inr apart ↦ ap (option_map attributes_of) (t.others i apart)
    ]
tree-given (s ∷ parent) offset count key new xs ys run e (i ∷ next ∷ path) =
    let t = through xs s (at parent (give offset count key new)) ys run e in
    let below = tree-given parent offset count key new t.items t.new run t.made (next ∷ path) in
    let hit = pointwise nat_eq parent (parent_of (next ∷ path)) && in_run offset count (offset_of (next ∷ path)) in
    elim (decide s i) [
      | inl same ↦ ap (option_map attributes_of) (below-at ys i next path ∙ ap (λ j. option_and_then (item_at (next ∷ path)) (in_at ys j)) (sym same)
          ∙ ap (option_and_then (item_at (next ∷ path))) t.then_there)
          ∙ below
          ∙ (λ j. option_map (λ item. where_told
          (sym (hits s i (pointwise nat_eq parent (parent_of (next ∷ path))) (in_run offset count (offset_of (next ∷ path))) same) j) key new
          (attributes_of item))
          (sym (below-at xs i next path ∙ ap (λ k. option_and_then (item_at (next ∷ path)) (in_at xs k)) (sym same)
          ∙ ap (option_and_then (item_at (next ∷ path))) t.there) j))
      | inr apart ↦ ap (option_map attributes_of) (below-at ys i next path ∙ ap (λ o. option_and_then (item_at (next ∷ path)) (option_and_then inner o))
          (t.others i apart) ∙ sym (below-at xs i next path))
          ∙ ap (λ b. option_map (λ item. where_told b key new (attributes_of item)) (item_at (i ∷ next ∷ path) xs))
          (sym (misses s i (pointwise nat_eq parent (parent_of (next ∷ path))) (in_run offset count (offset_of (next ∷ path))) apart))
    ]
  where
    hits : (s i : ℕ) (a b : Bool) → s ≡ i → ((nat_eq s i && a) && b) ≡ (a && b)
    hits s i a b e = grind (arith, nat_tests)

    misses : (s i : ℕ) (a b : Bool) → s ≢ i → ((nat_eq s i && a) && b) ≡ false
    misses s i a b e = grind (arith, nat_tests)

-- what one change of an attribute does to the tree
pub record Changed (key : List ℕ) (new : Option AttributeValue) (spot : Spot) (state made : State) : Type 0 where
  pub whole : List Item
  pub run : List Item
  pub tree : at (parent_of spot.range.start) (give (offset_of spot.range.start) (offset_of spot.range.end - offset_of spot.range.start) key new)
      state.document.items ≡ Some (whole, run)
  pub is : changed (change_at key new spot) state (whole, state.cells) ≡ made

pub one-changed : (key : List ℕ) (new : Option AttributeValue) (spot : Spot) (state made : State) → applied (change_at key new spot) state ≡ Ok made
    → Changed key new spot state made
one-changed key new spot state made e =
    let operation = change_at key new spot in
    let items = state.document.items in
    let cells = state.cells in
    let parent = parent_of spot.range.start in
    let change = give (offset_of spot.range.start) (offset_of spot.range.end - offset_of spot.range.start) key new in
    let last : List Item × List Item → Result (List Item × List (List Item)) Fault = λ m. have_value key spot.old m.1 >>= (λ _. Ok (m.0, cells)) in
    let a = step-ok (after items cells operation) (λ m. Ok (changed operation state m)) made e in
    let b = step-ok (check (pointwise nat_eq parent (parent_of spot.range.end)) not_flat) (λ _. ok_or (at parent change items) no_place >>= last) a.0
    (after-effect items cells operation a.0 a.1) in
    let c = step-ok (ok_or (at parent change items) no_place) last a.0 b.2 in
    let d = step-ok (have_value key spot.old c.0.1) (λ _. Ok (c.0.0, cells)) a.0 c.2 in
    let pair : (c.0.0, cells) ≡ a.0 = cc in
    let state_is : changed operation state a.0 ≡ made = cc in
    record {
      whole = c.0.0;
      run = c.0.1;
      tree = ok_or-some (at parent change items) no_place c.0 c.1;
      is = ap (changed operation state) pair ∙ state_is;
    }

run-window : (s n e : ℕ) → (nat_le s n && nat_lt n (s + (e - s))) ≡ (nat_le s n && nat_lt n e)
run-window s n e = grind (arith, nat_tests)

one-given : (key : List ℕ) (new : Option AttributeValue) (spot : Spot) (state made : State) → Changed key new spot state made → (path : List ℕ)
    → option_map attributes_of (item_at path made.document.items) ≡ option_map (λ item. where_told (is_of path spot.range) key new (attributes_of item))
    (item_at path state.document.items)
one-given key new spot state made one path =
    let s = offset_of spot.range.start in
    let e = offset_of spot.range.end in
    ap (λ (m : State). option_map attributes_of (item_at path m.document.items)) (sym one.is)
    ∙ tree-given (parent_of spot.range.start) s (e - s) key new state.document.items one.whole one.run one.tree path
    ∙ ap (λ b. option_map (λ item. where_told (pointwise nat_eq (parent_of spot.range.start) (parent_of path) && b) key new (attributes_of item))
    (item_at path state.document.items)) (run-window s (offset_of path) e)

-- a change of a key, and one more
changes : (key : List ℕ) (new : Option AttributeValue) (old : Attributes) → IsOrdered old → ChangesOnly old (with_key key new old) key new
changes key None old ordered = removed key old ordered
changes key (Some value) old ordered = written key value old

still-ordered : (t : Bool) (key : List ℕ) (new : Option AttributeValue) (old : Attributes) → IsOrdered old → IsOrdered (where_told t key new old)
still-ordered false key new old ordered = ordered
still-ordered true key None old ordered = ordered_without key old ordered
still-ordered true key (Some value) old ordered = ordered_with_value key value old ordered

then-given : (t u : Bool) (key : List ℕ) (new : Option AttributeValue) (a b c : Attributes) → IsOrdered a → b ≡ where_told t key new a → IsGiven u key new b c
    → IsGiven (t || u) key new a c
then-given true true key new a b c ordered e h =
    let only = changes key new a ordered in
    record { changed = h.changed; others = λ other differ. h.others other differ ∙ ap (value_of other) e ∙ only.others other differ }
then-given true false key new a b c ordered e h = subst (λ made. ChangesOnly a made key new) (sym (h ∙ e)) (changes key new a ordered)
then-given false u key new a b c ordered e h = subst (λ old. IsGiven u key new old c) e h

abbrev pub is_hit : List ℕ → List Spot → Bool
is_hit path spots = list_any (λ spot. is_of path spot.range) spots

-- so one after the other
pub spots-given : (key : List ℕ) (new : Option AttributeValue) (spots : List Spot) (state made : State) → all_applied (map (change_at key new) spots) state
    ≡ Ok made → (path : List ℕ) (item : Item)
    → item_at path state.document.items ≡ Some item → IsOrdered (attributes_of item) → HasGiven (is_hit path spots) key new (attributes_of item)
    made.document.items path
spots-given key new [] state made e path item there ordered =
    let same : state ≡ made = cc in
    record { item = item; there = ap (λ (s : State). item_at path s.document.items) (sym same) ∙ there; given = refl }
spots-given key new (spot ∷ spots) state made e path item there ordered =
    let a = step-ok (applied (change_at key new spot) state) (all_applied (map (change_at key new) spots)) made e in
    let t = is_of path spot.range in
    let one = one-given key new spot state a.0 (one-changed key new spot state a.0 a.1) path in
    let now = map-some attributes_of (item_at path a.0.document.items) (where_told t key new (attributes_of item)) (one
    ∙ ap (option_map (λ item. where_told t key new (attributes_of item))) there) in
    let rest = spots-given key new spots a.0 made a.2 path now.0 now.1 (subst IsOrdered (sym now.2) (still-ordered t key new (attributes_of item) ordered)) in
    record {
      item = rest.item;
      there = rest.there;
      given = then-given t (is_hit path spots) key new (attributes_of item) (attributes_of now.0) (attributes_of rest.item) ordered now.2 rest.given;
    }
