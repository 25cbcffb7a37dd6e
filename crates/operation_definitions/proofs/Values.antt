-- The reversal of a change of attributes.
use Rattle.std.proofs.Common.{◌≡◌, ℕ, zero, suc, ◌-◌, Bool, true, false, not, nat_eq, if◌then◌else◌, List, [], ◌∷◌, length, take, drop, Option, Some, None}
use Rattle.std.proofs.Common.{option_map, ok_or, slice_get, slice_set, Result, Ok, refl, sym, ap, ◌∙◌, subst}
use Rattle.std.specs.Option.{option_map_or}
use Rattle.std.specs.Cmp.{signed_Decides}
use Rattle.std.specs.Cmp.Lexicographic.{pointwise}
use Rattle.std.proofs.lemmas.List.{length-map}
use Rattle.ck_base.specs.declared.value.Value.{Value as AttributeValue}
use Rattle.ck_base.specs.declared.value.Value.TheVariants.{Whole, Truth, Text}
use Rattle.ck_base.specs.Entries.{IsOrdered, value_of}
use Rattle.item_definitions.specs.Item.{Item, character, element, inner, with_inner, attributes_of, with_attributes}
use Rattle.item_definitions.specs.Children.{parent_of, offset_of, at, in_item}
use Rattle.item_definitions.specs.Position.{Range}
use Rattle.operation_definitions.specs.Level.{give, given, with_key}
use Rattle.operation_definitions.specs.Operation.{Fault, attribute, no_place, not_flat}
use Rattle.operation_definitions.specs.After.{◌>>=◌, check, effect, in_cell_at, same_value, first_other, no_other, have_value}
use Rattle.operation_definitions.specs.Reversed.{IsTakenBack, IsLimited, AreOrdered}
use Rattle.operation_definitions.proofs.Lifting.{TakesBack, at-back, map-some, then-some}
use Rattle.operation_definitions.proofs.Levels.{replace-back, replaced}
use Rattle.operation_definitions.proofs.Steps.{step-ok, ok_or-some, check-true, step, step-some, step-check}
use Rattle.operation_definitions.proofs.Names.{same_numbers, numbers_same}
use Rattle.operation_definitions.proofs.Ordered.{item-keys, below-ordered, get-ordered, drop-ordered}
use Rattle.operation_definitions.proofs.Keys.{with_key-again, with_key-value}
use Rattle.operation_definitions.proofs.Simple.{State, taken_back, pair-first, pair-second}

pub same_value-true : (a b : Option AttributeValue) → same_value a b ≡ true → a ≡ b
same_value-true None None e = refl
same_value-true None (Some b) e = absurd cc
same_value-true (Some (Whole n)) None e = absurd cc
same_value-true (Some (Whole n)) (Some (Whole m)) e = ap (λ k. Some (Whole k)) ((signed_Decides n m).0 e)
same_value-true (Some (Whole n)) (Some (Truth b)) e = absurd cc
same_value-true (Some (Whole n)) (Some (Text t)) e = absurd cc
same_value-true (Some (Truth true)) None e = absurd cc
same_value-true (Some (Truth false)) None e = absurd cc
same_value-true (Some (Truth true)) (Some (Whole m)) e = absurd cc
same_value-true (Some (Truth false)) (Some (Whole m)) e = absurd cc
same_value-true (Some (Truth true)) (Some (Truth true)) e = refl
same_value-true (Some (Truth true)) (Some (Truth false)) e = absurd cc
same_value-true (Some (Truth false)) (Some (Truth true)) e = absurd cc
same_value-true (Some (Truth false)) (Some (Truth false)) e = refl
same_value-true (Some (Truth true)) (Some (Text t)) e = absurd cc
same_value-true (Some (Truth false)) (Some (Text t)) e = absurd cc
same_value-true (Some (Text t)) None e = absurd cc
same_value-true (Some (Text t)) (Some (Whole m)) e = absurd cc
same_value-true (Some (Text t)) (Some (Truth b)) e = absurd cc
same_value-true (Some (Text t)) (Some (Text u)) e = ap (λ k. Some (Text k)) (same_numbers t u e)

pub same_value-own : (a : Option AttributeValue) → same_value a a ≡ true
same_value-own None = refl
same_value-own (Some (Whole n)) = (signed_Decides n n).1 refl
same_value-own (Some (Truth true)) = refl
same_value-own (Some (Truth false)) = refl
same_value-own (Some (Text t)) = numbers_same t t refl

-- each item has this value of a key; and each item's keys are in order
abbrev HaveAll : List ℕ → Option AttributeValue → List Item → Type 0
HaveAll key value [] = Unit {0}
HaveAll key value (item ∷ items) = (value_of key (attributes_of item) ≡ value) × HaveAll key value items

abbrev KeysOrdered : List Item → Type 0
KeysOrdered [] = Unit {0}
KeysOrdered (item ∷ items) = IsOrdered (attributes_of item) × KeysOrdered items

have-all : (key : List ℕ) (old : Option AttributeValue) (items : List Item) → first_other key old items ≡ None → HaveAll key old items
have-all key old [] e = tt
have-all key old (item ∷ items) e = go (same_value (value_of key (attributes_of item)) old) refl e (have-all key old items)
  where
    go : (t : Bool) → t ≡ same_value (value_of key (attributes_of item)) old → (if not t then Some item else first_other key old items) ≡ None
        → (first_other key old items ≡ None → HaveAll key old items)
        → (value_of key (attributes_of item) ≡ old) × HaveAll key old items
    go true t e rest = (same_value-true (value_of key (attributes_of item)) old (sym t), rest e)
    go false t e rest = absurd cc

all-have : (key : List ℕ) (value : Option AttributeValue) (items : List Item) → HaveAll key value items → first_other key value items ≡ None
all-have key value [] h = refl
all-have key value (item ∷ items) h =
    ap (λ v. if not (same_value v value) then Some item else first_other key value items) h.0
    ∙ ap (λ t. if not t then Some item else first_other key value items) (same_value-own value)
    ∙ all-have key value items h.1

value-checked : (key : List ℕ) (old : Option AttributeValue) (items : List Item) (u : Unit {0}) → have_value key old items ≡ Ok u → HaveAll key old items
value-checked key old items u e = have-all key old items (go (first_other key old items) e)
  where
    go : (o : Option Item) → no_other key o ≡ Ok u → o ≡ None
    go None e = refl
    go (Some item) e = absurd cc

item-again : (key : List ℕ) (old new : Option AttributeValue) (item : Item) → IsOrdered (attributes_of item) → value_of key (attributes_of item) ≡ old
    → (let made = with_attributes (with_key key new (attributes_of item)) item in with_attributes (with_key key old (attributes_of made)) made) ≡ item
item-again key old new (character scalar attributes) h g = ap (character scalar) (with_key-again key old new attributes h g)
item-again key old new (element id name attributes children) h g = ap (λ a. element id name a children) (with_key-again key old new attributes h g)

item-value : (key : List ℕ) (new : Option AttributeValue) (item : Item) → IsOrdered (attributes_of item)
    → value_of key (attributes_of (with_attributes (with_key key new (attributes_of item)) item)) ≡ new
item-value key new (character scalar attributes) h = with_key-value key new attributes h
item-value key new (element id name attributes children) h = with_key-value key new attributes h

given-again : (key : List ℕ) (old new : Option AttributeValue) (items : List Item) → KeysOrdered items → HaveAll key old items
    → given key old (given key new items) ≡ items
given-again key old new [] h g = refl
given-again key old new (item ∷ items) h g = λ t. item-again key old new item h.0 g.0 t ∷ given-again key old new items h.1 g.1 t

given-have : (key : List ℕ) (new : Option AttributeValue) (items : List Item) → KeysOrdered items → HaveAll key new (given key new items)
given-have key new [] h = tt
given-have key new (item ∷ items) h = (item-value key new item h.0, given-have key new items h.1)

-- the items of a run get their old value back
give-back : (offset count : ℕ) (key : List ℕ) (old new : Option AttributeValue) (run : List Item) → KeysOrdered run → HaveAll key old run
    → TakesBack (give offset count key new) (give offset count key old) run (given key new run)
give-back offset count key old new run h g =
    replace-back offset count count (λ items. Some (given key new items, items)) (λ items. Some (given key old items, items)) run (given key new run) turn
  where
    turn : (items made : List Item) → length items ≡ count → ◌≡◌ {A = Option (List Item × List Item)} (Some (given key new items, items)) (Some (made, run))
        → (length made ≡ count) × (◌≡◌ {A = Option (List Item × List Item)} (Some (given key old made, made)) (Some (items, given key new run)))
    turn items made long e =
        let same : items ≡ run = ap (λ (o : Option (List Item × List Item)). option_map_or (λ (p : List Item × List Item). p.1) o []) e in
        let new_items : given key new items ≡ made = ap (λ (o : Option (List Item × List Item)). option_map_or (λ (p : List Item × List Item). p.0) o []) e in
        let new_run : made ≡ given key new run = sym new_items ∙ ap (given key new) same in (
          ap length (sym new_items) ∙ length-map items (λ item. with_attributes (with_key key new (attributes_of item)) item) ∙ long,
          (λ t. Some (given key old (new_run t), new_run t)) ∙ ap (λ is. Some (is, given key new run)) (given-again key old new run h g ∙ sym same),
        )

-- what holds of the keys of all items holds of those of a run, also in an element
take-keys : (n : ℕ) (items : List Item) → AreOrdered items → KeysOrdered (take n items)
take-keys zero items h = tt
take-keys (suc n) [] h = tt
take-keys (suc n) (item ∷ items) h = (item-keys item h.0, take-keys n items h.1)

run-keys : (offset count : ℕ) (key : List ℕ) (new : Option AttributeValue) (path : List ℕ) (items made run : List Item) → AreOrdered items
    → at path (give offset count key new) items ≡ Some (made, run) → KeysOrdered run
run-keys offset count key new [] items made run h e =
    let r = replaced offset count (λ items. Some (given key new items, items)) items made run e in
    let same : take count (drop offset items)
    ≡ run = ap (λ (o : Option (List Item × List Item)). option_map_or (λ (p : List Item × List Item). p.1) o []) r.gives in
    subst KeysOrdered same (take-keys count (drop offset items) (drop-ordered offset items h))
run-keys offset count key new (i ∷ path) items made run h e =
    let f = at path (give offset count key new) in
    let a = then-some (λ item. option_map (λ (made : Item × List Item). (slice_set items i made.0, made.1)) (in_item f item)) (slice_get items i)
    (made, run) e in
    let b = map-some (λ (made : Item × List Item). (slice_set items i made.0, made.1)) (in_item f a.0) (made, run) a.2 in
    let c = then-some (λ inside. option_map (λ (made : List Item × List Item). (with_inner made.0 a.0, made.1)) (f inside)) (inner a.0) b.0 b.1 in
    let d = map-some (λ (made : List Item × List Item). (with_inner made.0 a.0, made.1)) (f c.0) b.0 c.2 in
    let gave : d.0.1 ≡ run = ap (λ (p : Item × List Item). p.1) d.2 ∙ ap (λ (p : List Item × List Item). p.1) b.2 in
    subst KeysOrdered gave (run-keys offset count key new path c.0 d.0.0 d.0.1 (below-ordered a.0 c.0 (get-ordered items i a.0 h a.1) c.1) d.1)

-- a change of attributes is taken back
pub attribute-reversed : (items : List Item) (cells : List (List Item)) (range : Range) (key : List ℕ) (old new : Option AttributeValue) (made : State)
    (cell : ℕ) → IsLimited items → AreOrdered items
    → effect items cells (attribute range key old new) ≡ Ok made → IsTakenBack items cells (attribute range key old new) made cell
attribute-reversed items cells range key old new made cell limits ordered e =
    let path = parent_of range.start in
    let offset = offset_of range.start in
    let count = offset_of range.end - offset_of range.start in
    let change = at path (give offset count key new) in
    let flat_test = pointwise nat_eq path (parent_of range.end) in
    let tail : List Item × List Item → Result State Fault = λ m. have_value key old m.1 >>= (λ _. Ok (m.0, cells)) in
    let a = step-ok (check flat_test not_flat) (λ _. ok_or (change items) no_place >>= tail) made e in
    let flat = check-true flat_test not_flat a.0 a.1 in
    let b = step-ok (ok_or (change items) no_place) tail made a.2 in
    let there = ok_or-some (change items) no_place b.0 b.1 in
    let c = step-ok (have_value key old b.0.1) (λ _. Ok (b.0.0, cells)) made b.2 in
    let run = b.0.1 in
    let all = value-checked key old run c.0 c.1 in
    let keys = run-keys offset count key new path items b.0.0 run ordered there in
    let tree : b.0.0 ≡ made.0 = pair-first (b.0.0, cells) made c.2 in
    let same : cells ≡ made.1 = pair-second (b.0.0, cells) made c.2 in
    let back = at-back (give offset count key new) (give offset count key old) run (given key new run) (give-back offset count key old new run keys all)
    path items made.0 (there ∙ (λ t. Some (tree t, run))) in
    let tail2 : List Item × List Item → Result State Fault = λ m. have_value key new m.1 >>= (λ _. Ok (m.0, made.1)) in
    let result : Result State Fault = Ok (items, made.1) in
    taken_back items cells (attribute range key old new) made cell limits made.1
    (step-check flat_test not_flat (λ _. ok_or (at path (give offset count key old) made.0) no_place >>= tail2) result flat
    (step-some (at path (give offset count key old) made.0) no_place tail2 (items, given key new run) result back
    (step (have_value key new (given key new run)) (λ _. Ok (items, made.1)) tt result
    (ap (no_other key) (all-have key new (given key new run) (given-have key new run keys))) refl)))
    (λ k. ap (λ (cs : List (List Item)). in_cell_at cs k) (sym same))
