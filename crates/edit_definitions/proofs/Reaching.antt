-- The items that an edit of an attribute reaches are in a run that changes, or have the new value already.
use Rattle.std.proofs.Common.{◌≡◌, ◌≢◌, ℕ, zero, suc, ◌+◌, ◌-◌, ◌<◌, ◌≤◌, Bool, true, false, nat_eq, nat_le, nat_lt, ◌&&◌, ◌||◌, if◌then◌else◌, List, [], ◌∷◌}
use Rattle.std.proofs.Common.{◌++◌, map, length, take, drop, Option, Some, None, unwrap_or, slice_get, Result, Ok, Err, refl, sym, ap, ◌∙◌, subst, arith}
use Rattle.std.proofs.Common.{length-take}
use Rattle.std.specs.Prelude.{is_some, option_and_then}
use Rattle.std.specs.List.{list_any, flat_map}
use Rattle.std.specs.Cmp.Lexicographic.{pointwise}
use Rattle.std.proofs.lemmas.Bool.Decides.{nat_tests}
use Rattle.std.proofs.lemmas.List.Folds.{list_any-append}
use Rattle.ck_base.specs.declared.value.Value.{Value as AttributeValue}
use Rattle.ck_base.specs.declared.faults.EditFault.{EditFault}
use Rattle.ck_base.specs.declared.faults.EditFault.TheVariants.{BadRange, BadTarget}
use Rattle.ck_base.specs.Entries.{IsOrdered, value_of}
use Rattle.item_definitions.specs.Item.{Item, inner, Attributes, attributes_of}
use Rattle.item_definitions.specs.Children.{parent_of, offset_of, children_at, child_count, item_at}
use Rattle.item_definitions.specs.Position.{Range, between, behind}
use Rattle.item_definitions.specs.FlatParts.{flat_parts}
use Rattle.item_definitions.proofs.Order.{behind-push}
use Rattle.item_definitions.proofs.Paths.{parent_of-push, offset_of-push, path-joined}
use Rattle.operation_definitions.specs.Operation.{Fault}
use Rattle.operation_definitions.specs.After.{same_value}
use Rattle.operation_definitions.specs.Reversed.{AreOrdered}
use Rattle.operation_definitions.proofs.Lifting.{then-some}
use Rattle.operation_definitions.proofs.Names.{same_numbers}
use Rattle.operation_definitions.proofs.Ordered.{item-keys, below-ordered, get-ordered}
use Rattle.operation_definitions.proofs.Values.{same_value-true}
use Rattle.document_definitions.specs.Selection.{same_position}
use Rattle.document_definitions.specs.Document.{State, all_applied}
use Rattle.document_definitions.specs.Sound.{IsKeyed}
use Rattle.edit_definitions.specs.declared.edit.Target.{Target}
use Rattle.edit_definitions.specs.declared.edit.Target.TheVariants.{Range as InRange, Element as OfElement}
use Rattle.edit_definitions.specs.Places.{is_range, is_element}
use Rattle.edit_definitions.specs.Runs.{Run, runs_of, items_of_range, value_told, give_in}
use Rattle.edit_definitions.specs.Planned.{◌>>=◌, check, parts_of, given_to}
use Rattle.edit_definitions.specs.Performed.{as_step, performed}
use Rattle.edit_definitions.specs.Given.{attribute_edit, is_of, is_reached, IsGiven, HasGiven, EachIsGiven}
use Rattle.edit_definitions.proofs.Reached.{found, element-there}
use Rattle.edit_definitions.proofs.Attributed.{Spot, spot_of, AreRunsOf, runs-found, spots_of, spots-changed, change_at}
use Rattle.edit_definitions.proofs.Longest.{told-exactly}
use Rattle.edit_definitions.proofs.Given.{is_hit, spots-given}

-- an item is in a run's range where the run tells its value
told-runs : (parent path : List ℕ) (runs : List Run) → pointwise nat_eq parent (parent_of path) ≡ true → is_hit path (map (spot_of parent) runs)
    ≡ is_some (value_told (offset_of path) runs)
told-runs parent path [] e = refl
told-runs parent path (run ∷ runs) e =
    let n = offset_of path in
    (λ t. (of-run t) || told-runs parent path runs e t) ∙ go (nat_le run.from n && nat_lt n run.to)
  where
    of-run : is_of path (between (parent ++ run.from ∷ []) (parent ++ run.to ∷ [])) ≡ (nat_le run.from (offset_of path) && nat_lt (offset_of path) run.to)
    of-run =
        (λ t. pointwise nat_eq (parent_of-push parent run.from t) (parent_of path) && (nat_le (offset_of-push parent run.from t) (offset_of path)
        && nat_lt (offset_of path) (offset_of-push parent run.to t)))
        ∙ ap (λ b. b && (nat_le run.from (offset_of path) && nat_lt (offset_of path) run.to)) e

    go : (t : Bool) → (t || is_some (value_told (offset_of path) runs)) ≡ is_some (if t then Some run.old else value_told (offset_of path) runs)
    go true = refl
    go false = refl

none-told : (parent path : List ℕ) (runs : List Run) → pointwise nat_eq parent (parent_of path) ≡ false → is_hit path (map (spot_of parent) runs) ≡ false
none-told parent path [] e = refl
none-told parent path (run ∷ runs) e =
    ap (λ b. (b && (nat_le (offset_of (parent ++ run.from ∷ [])) (offset_of path) && nat_lt (offset_of path) (offset_of (parent ++ run.to ∷ []))))
    || is_hit path (map (spot_of parent) runs))
    (ap (λ p. pointwise nat_eq p (parent_of path)) (parent_of-push parent run.from) ∙ e)
    ∙ none-told parent path runs e

-- and a run is within its items
told-within : (key : List ℕ) (offset n : ℕ) (items : List Item) (runs : List Run) → AreRunsOf key offset items runs → is_some (value_told n runs) ≡ true
    → (offset ≤ n) × (n < offset + length items)
told-within key offset n items [] h e = absurd cc
told-within key offset n items (run ∷ runs) h e = go (nat_le run.from n && nat_lt n run.to) refl e (λ f. told-within key offset n items runs h.1 f)
  where
    least : (a b : ℕ) → (nat_le a n && nat_lt n b) ≡ true → a ≤ n
    least a b e = grind (arith, nat_tests)

    less : (a b : ℕ) → (nat_le a n && nat_lt n b) ≡ true → n < b
    less a b e = grind (arith, nat_tests)

    go : (t : Bool) → (nat_le run.from n && nat_lt n run.to) ≡ t → is_some (if t then Some run.old else value_told n runs) ≡ true
        → (is_some (value_told n runs) ≡ true → (offset ≤ n) × (n < offset + length items)) → (offset ≤ n) × (n < offset + length items)
    go true t f rest =
        let a = least run.from run.to t in
        let b = less run.from run.to t in
        let first = h.0.first in
        let last = h.0.last in
        (omega (arith, a, first), omega (arith, b, last))
    go false t f rest = rest f

get-taken : (count k : ℕ) (xs : List Item) → k < count → slice_get (take count xs) k ≡ slice_get xs k
get-taken zero k xs less = absurd (omega (arith, less))
get-taken (suc count) k [] less = refl
get-taken (suc count) zero (x ∷ xs) less = refl
get-taken (suc count) (suc k) (x ∷ xs) less = get-taken count k xs (omega (arith, less))

get-dropped : (s k n : ℕ) (xs : List Item) → n ≡ s + k → slice_get (drop s xs) k ≡ slice_get xs n
get-dropped zero k n xs e = (let same : k ≡ n = omega (arith, e) in ap (slice_get xs) same)
get-dropped (suc s) k n [] e = refl
get-dropped (suc s) k zero (x ∷ xs) e = absurd (omega (arith, e))
get-dropped (suc s) k (suc n) (x ∷ xs) e = get-dropped s k n xs (omega (arith, e))

-- an item is in a run of a part only if the part has it; and one that the part has, and no run, has the new value
record Tells (hit has : Bool) (key : List ℕ) (new : Option AttributeValue) (old : Attributes) : Type 0 where
  only : hit ≡ true → has ≡ true
  whole : has ≡ true → hit ≡ false → value_of key old ≡ new

part-tells : (key : List ℕ) (new : Option AttributeValue) (items : List Item) (part : Range) (path : List ℕ) (item : Item) → item_at path items ≡ Some item
    → Tells (is_hit path (map (spot_of (parent_of part.start)) (runs_of key new (offset_of part.start) (items_of_range items part)))) (is_of path part) key new
    (attributes_of item)
part-tells key new items part path item there = go (pointwise nat_eq (parent_of part.start) (parent_of path)) refl
  where
    s : ℕ
    s = offset_of part.start

    e : ℕ
    e = offset_of part.end

    n : ℕ
    n = offset_of path

    mine : List Item
    mine = items_of_range items part

    runs : List Run
    runs = runs_of key new (offset_of part.start) (items_of_range items part)

    few : (level : List Item) → length (take (e - s) (drop s level)) ≤ e - s
    few level = (let long = length-take (e - s) (drop s level) in omega (arith, long))

    tests : (s n e count : ℕ) → s ≤ n → n < s + count → count ≤ e - s → (nat_le s n && nat_lt n e) ≡ true
    tests s n e count least less most = grind (arith, nat_tests)

    least : (a b : ℕ) → (nat_le a n && nat_lt n b) ≡ true → a ≤ n
    least a b f = grind (arith, nat_tests)

    less : (a b : ℕ) → (nat_le a n && nat_lt n b) ≡ true → n < b
    less a b f = grind (arith, nat_tests)

    had : (b : Bool) (v : Option AttributeValue) → is_some (if b then None else Some v) ≡ false → b ≡ true
    had true v f = refl
    had false v f = absurd cc

    go : (t : Bool) → pointwise nat_eq (parent_of part.start) (parent_of path) ≡ t
        → Tells (is_hit path (map (spot_of (parent_of part.start)) runs)) (t && (nat_le s n && nat_lt n e)) key new (attributes_of item)
    go false t = record { only = λ hit. (let none = none-told (parent_of part.start) path runs t in absurd cc); whole = λ has. absurd cc }
    go true t =
        let told = told-runs (parent_of part.start) path runs t in
        record {
          only = λ hit.
              let within = told-within key s n mine runs (runs-found key new s mine).0 (sym told ∙ hit) in
              tests s n e (length mine) within.0 within.1 (few (unwrap_or (children_at (parent_of part.start) items) []));
          whole = λ has none.
              let a = least s e has in
              let b = less s e has in
              let f = found path items item there in
              let parent = same_numbers (parent_of part.start) (parent_of path) t in
              let level : mine ≡ take (e - s) (drop s f.level) = ap (λ o. take (e - s) (drop s (unwrap_or o []))) (ap (λ p. children_at p items) parent
              ∙ f.there) in
              let here : slice_get mine (n - s) ≡ Some item =
              ap (λ xs. slice_get xs (n - s)) level ∙ get-taken (e - s) (n - s) (drop s f.level) (omega (arith, a, b))
              ∙ get-dropped s (n - s) n f.level (omega (arith, a)) ∙ f.here in
              let back : s + (n - s) ≡ n = omega (arith, a) in
              let exact = told-exactly key new s mine (n - s) item here in
              same_value-true (value_of key (attributes_of item)) new
              (had (same_value (value_of key (attributes_of item)) new) (value_of key (attributes_of item))
              (ap is_some (sym exact ∙ ap (λ m. value_told m runs) back) ∙ sym told ∙ none));
        }

-- so in all parts
parts-tell : (key : List ℕ) (new : Option AttributeValue) (items : List Item) (parts : List Range) (path : List ℕ) (item : Item) → item_at path items
    ≡ Some item
    → Tells (is_hit path (spots_of key new items parts)) (list_any (is_of path) parts) key new (attributes_of item)
parts-tell key new items [] path item there = record { only = λ e. e; whole = λ e. absurd cc }
parts-tell key new items (part ∷ parts) path item there =
    let mine = map (spot_of (parent_of part.start)) (runs_of key new (offset_of part.start) (items_of_range items part)) in
    subst (λ b. Tells b (is_of path part || list_any (is_of path) parts) key new (attributes_of item))
    (sym (list_any-append (λ (spot : Spot). is_of path spot.range) mine (spots_of key new items parts)))
    (go (is_hit path mine) (is_of path part) (is_hit path (spots_of key new items parts)) (list_any (is_of path) parts) (part-tells key new items part path item
    there) (parts-tell key new items parts path item there))
  where
    go : (h a k b : Bool) → Tells h a key new (attributes_of item) → Tells k b key new (attributes_of item)
        → Tells (h || k) (a || b) key new (attributes_of item)
    go true a k b first rest = record { only = λ e. (let has = first.only refl in ap (λ x. x || b) has); whole = λ e f. absurd cc }
    go false true k b first rest = record { only = λ e. refl; whole = λ e f. first.whole refl refl }
    go false false k b first rest = record { only = rest.only; whole = rest.whole }

-- what is given where runs change is given to all that the parts have
given-all : (h a : Bool) (key : List ℕ) (new : Option AttributeValue) (old made : Attributes) → Tells h a key new old → IsGiven h key new old made
    → IsGiven a key new old made
given-all true true key new old made tells g = g
given-all true false key new old made tells g = absurd (let has = tells.only refl in cc)
given-all false true key new old made tells g = record { changed = ap (value_of key) g ∙ tells.whole refl refl; others = λ other differ. ap (value_of other) g }
given-all false false key new old made tells g = g

-- the keys of the item at a path are in order
keys-at : (path : List ℕ) (items : List Item) (item : Item) → AreOrdered items → item_at path items ≡ Some item → IsOrdered (attributes_of item)
keys-at [] items item ordered e = absurd cc
keys-at (index ∷ []) items item ordered e = item-keys item (get-ordered items index item ordered e)
keys-at (index ∷ next ∷ path) items item ordered e =
    let a = then-some (λ item. option_and_then (item_at (next ∷ path)) (inner item)) (slice_get items index) item e in
    let b = then-some (item_at (next ∷ path)) (inner a.0) item a.2 in
    keys-at (next ∷ path) b.0 item (below-ordered a.0 b.0 (get-ordered items index a.0 ordered a.1) b.1) b.2

-- what an edit that is made went through
pub record Planned (edit : ℕ) (target : Target) (key : List ℕ) (new : Option AttributeValue) (state made : State) : Type 0 where
  pub parts : List Range
  pub found : parts_of edit state.document.items target ≡ Ok parts
  pub done : all_applied (map (change_at key new) (spots_of key new state.document.items parts)) state ≡ Ok made

edit-ok : {A B : Type 0} (r : Result A EditFault) (next : A → Result B EditFault) (b : B) → (r >>= next) ≡ Ok b → (a : A) × (r ≡ Ok a) × (next a ≡ Ok b)
edit-ok (Ok a) next b e = (a, refl, e)
edit-ok (Err fault) next b e = absurd cc

step-made : (edit : ℕ) (r : Result State Fault) (made : State) → as_step edit r ≡ Ok made → r ≡ Ok made
step-made edit (Ok state) made e = (let same : state ≡ made = cc in ap Ok same)
step-made edit (Err fault) made e = absurd cc

given-planned : (edit : ℕ) (target : Target) (key : List ℕ) (new : Option AttributeValue) (state made : State)
    → (given_to edit state.document.items target key new >>= (λ operations. as_step edit (all_applied operations state) >>= (λ m. Ok m))) ≡ Ok made
    → Planned edit target key new state made
given-planned edit target key new state made e =
    let items = state.document.items in
    let a = edit-ok (given_to edit items target key new) (λ operations. as_step edit (all_applied operations state) >>= (λ m. Ok m)) made e in
    let b = edit-ok (parts_of edit items target) (λ parts. Ok (flat_map (give_in items key new) parts)) a.0 a.1 in
    let c = edit-ok (as_step edit (all_applied a.0 state)) (λ m. Ok m) made a.2 in
    let same : c.0 ≡ made = cc in
    let plan : flat_map (give_in items key new) b.0 ≡ a.0 = cc in
    record {
      parts = b.0;
      found = b.1;
      done = ap (λ operations. all_applied operations state) (sym (spots-changed key new items b.0) ∙ plan) ∙ step-made edit (all_applied a.0 state) c.0 c.1
          ∙ ap Ok same;
    }

pub planned_edit : (registered : List ℕ → Bool) (edit : ℕ) (target : Target) (key : List ℕ) (new : Option AttributeValue) (state made : State)
    → performed registered edit (attribute_edit target key new) state ≡ Ok made → Planned edit target key new state made
planned_edit registered edit target key None state made e = given-planned edit target key None state made e
planned_edit registered edit target key (Some value) state made e = given-planned edit target key (Some value) state made e

-- the parts of a target have the items that it reaches
parts-reach : (edit : ℕ) (items : List Item) (target : Target) (parts : List Range) (path : List ℕ) (item : Item) → parts_of edit items target ≡ Ok parts
    → item_at path items ≡ Some item
    → list_any (is_of path) parts ≡ is_reached items target path
parts-reach edit items (InRange start end) parts path item e there =
    let a = edit-ok (check (is_range items start end) (BadRange edit start end)) (λ _. Ok (flat_parts (child_count items) (between start end))) parts e in
    let same : flat_parts (child_count items) (between start end) ≡ parts = (let f = a.2 in cc) in
    ap (list_any (is_of path)) (sym same)
parts-reach edit items (OfElement place) parts path item e there =
    let a = edit-ok (check (is_element items place) (BadTarget edit place)) (λ _. Ok (between place (behind place) ∷ [])) parts e in
    let same : between place (behind place) ∷ [] ≡ parts = (let f = a.2 in cc) in
    let f = found path items item there in
    let h = element-there items place (checked (is_element items place) a.1) in
    let g = found place items h.item h.here in
    ap (list_any (is_of path)) (sym same) ∙ alone place path g.some f.some
  where
    checked : (b : Bool) → check b (BadTarget edit place) ≡ Ok tt → b ≡ true
    checked true e = refl
    checked false e = absurd cc

    one : (t : Bool) (m n : ℕ) → ((t && (nat_le m n && nat_lt n (m + 1))) || false) ≡ (t && nat_eq m n)
    one t m n = grind (arith, nat_tests)

    joined : (p q : List ℕ) (m n : ℕ) → pointwise nat_eq (p ++ m ∷ []) (q ++ n ∷ []) ≡ (pointwise nat_eq p q && nat_eq m n)
    joined [] [] m n = last (nat_eq m n)
      where
        last : (b : Bool) → (b && true) ≡ b
        last true = refl
        last false = refl
    joined [] (y ∷ []) m n = none (nat_eq m y)
      where
        none : (b : Bool) → (b && false) ≡ false
        none true = refl
        none false = refl
    joined [] (y ∷ z ∷ q) m n = none (nat_eq m y)
      where
        none : (b : Bool) → (b && false) ≡ false
        none true = refl
        none false = refl
    joined (x ∷ []) [] m n = none (nat_eq x n)
      where
        none : (b : Bool) → (b && false) ≡ false
        none true = refl
        none false = refl
    joined (x ∷ z ∷ p) [] m n = none (nat_eq x n)
      where
        none : (b : Bool) → (b && false) ≡ false
        none true = refl
        none false = refl
    joined (x ∷ p) (y ∷ q) m n = (ap (λ b. nat_eq x y && b) (joined p q m n)) ∙ assoc (nat_eq x y) (pointwise nat_eq p q) (nat_eq m n)
      where
        assoc : (a b c : Bool) → (a && (b && c)) ≡ ((a && b) && c)
        assoc true b c = refl
        assoc false b c = refl

    alone : (place path : List ℕ) → place ≢ [] → path ≢ [] → (is_of path (between place (behind place)) || false) ≡ same_position place path
    alone place path some other =
        let whole = path-joined place some in
        let next : behind place ≡ parent_of place ++ (offset_of place + 1) ∷ [] = ap behind whole ∙ behind-push (parent_of place) (offset_of place) in
        let last : offset_of (behind place) ≡ offset_of place + 1 = ap offset_of next ∙ offset_of-push (parent_of place) (offset_of place + 1) in
        ap (λ m. (pointwise nat_eq (parent_of place) (parent_of path) && (nat_le (offset_of place) (offset_of path) && nat_lt (offset_of path) m))
        || false) last
        ∙ one (pointwise nat_eq (parent_of place) (parent_of path)) (offset_of place) (offset_of path)
        ∙ sym ((λ t. pointwise nat_eq (whole t) (path-joined path other t)) ∙ joined (parent_of place) (parent_of path) (offset_of place) (offset_of path))

-- each item that an edit reaches has the new value, and every other is as it was
pub value_given : (registered : List ℕ → Bool) (edit : ℕ) (target : Target) (key : List ℕ) (new : Option AttributeValue) (state made : State)
    → IsKeyed state → performed registered edit (attribute_edit target key new) state ≡ Ok made → EachIsGiven target key new state made
value_given registered edit target key new state made keyed e = λ path item there.
    let items = state.document.items in
    let p = planned_edit registered edit target key new state made e in
    let spots = spots_of key new items p.parts in
    let g = spots-given key new spots state made p.done path item there (keys-at path items item keyed.items there) in
    subst (λ b. HasGiven b key new (attributes_of item) made.document.items path) (parts-reach edit items target p.parts path item p.found there)
    (record {
      item = g.item;
      there = g.there;
      given = given-all (is_hit path spots) (list_any (is_of path) p.parts) key new (attributes_of item) (attributes_of g.item)
          (parts-tell key new items p.parts path item there) g.given;
    })
