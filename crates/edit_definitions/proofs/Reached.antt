-- Where a change of one list of items can be made, it can be made to the items of the element at a path.
use Rattle.std.proofs.Common.{◌≡◌, ◌≢◌, ℕ, zero, suc, ◌+◌, ◌≤◌, true, false, nat_le, if◌then◌else◌, List, [], ◌∷◌, ◌++◌, length, take, drop, Option, Some, None}
use Rattle.std.proofs.Common.{is_some, option_map, option_and_then, slice_get, slice_set, refl, sym, ap, ◌∙◌, arith}
use Rattle.std.specs.Option.{option_map_or}
use Rattle.std.proofs.lemmas.Bool.Decides.{nat_tests}
use Rattle.item_definitions.specs.Item.{Item, inner, with_inner}
use Rattle.item_definitions.specs.Children.{Change, parent_of, offset_of, children_at, item_at, at, in_item}
use Rattle.operation_definitions.specs.Level.{replace, put_in}
use Rattle.operation_definitions.proofs.Lifting.{then-some, inner-with_inner, get-set}
use Rattle.operation_definitions.proofs.Levels.{most}
use Rattle.edit_definitions.specs.Places.{is_there, is_element}

-- what a change makes of the items of the element at a path, and of the whole list
pub record Reached {R : Type 0} (path : List ℕ) (change : Change R) (items new : List Item) (r : R) : Type 0 where
  pub whole : List Item
  pub made : at path change items ≡ Some (whole, r)
  pub there : children_at path whole ≡ Some new

pub reached : {R : Type 0} (path : List ℕ) (change : Change R) (items level new : List Item) (r : R) → children_at path items ≡ Some level
    → change level ≡ Some (new, r)
    → Reached path change items new r
reached [] change items level new r e f = (let same : items ≡ level = cc in record { whole = new; made = ap change same ∙ f; there = refl })
reached {R = R} (index ∷ path) change items level new r e f =
    let a = then-some (λ item. option_and_then (children_at path) (inner item)) (slice_get items index) level e in
    let b = then-some (children_at path) (inner a.0) level a.2 in
    let deep = reached path change b.0 level new r b.2 f in
    record {
      whole = slice_set items index (with_inner deep.whole a.0);
      made = ap (option_and_then (λ item. option_map (λ (m : Item × R). (slice_set items index m.0, m.1)) (in_item (at path change) item))) a.1
          ∙ ap (option_map (λ (m : Item × R). (slice_set items index m.0, m.1)))
          (ap (option_and_then (λ inside. option_map (λ (m : List Item × R). (with_inner m.0 a.0, m.1)) (at path change inside))) b.1
          ∙ ap (option_map (λ (m : List Item × R). (with_inner m.0 a.0, m.1))) deep.made);
      there = ap (option_and_then (λ item. option_and_then (children_at path) (inner item))) (get-set items index a.0 (with_inner deep.whole a.0) a.1)
          ∙ ap (option_and_then (children_at path)) (inner-with_inner a.0 b.0 deep.whole b.1) ∙ deep.there;
    }

-- a path that is longer by an index leads into the item there
pub record Entered (parent : List ℕ) (index : ℕ) (items kids : List Item) : Type 0 where
  pub level : List Item
  pub item : Item
  pub there : children_at parent items ≡ Some level
  pub here : slice_get level index ≡ Some item
  pub holds : inner item ≡ Some kids

pub entered : (parent : List ℕ) (index : ℕ) (items kids : List Item) → children_at (parent ++ index ∷ []) items ≡ Some kids → Entered parent index items kids
entered [] index items kids e =
    let a = then-some (λ item. option_and_then (children_at []) (inner item)) (slice_get items index) kids e in
    let b = then-some (children_at []) (inner a.0) kids a.2 in
    record { level = items; item = a.0; there = refl; here = a.1; holds = b.1 ∙ b.2 }
entered (step ∷ parent) index items kids e =
    let a = then-some (λ item. option_and_then (children_at (parent ++ index ∷ [])) (inner item)) (slice_get items step) kids e in
    let b = then-some (children_at (parent ++ index ∷ [])) (inner a.0) kids a.2 in
    let deep = entered parent index b.0 kids b.2 in
    record {
      level = deep.level;
      item = deep.item;
      there = ap (option_and_then (λ item. option_and_then (children_at parent) (inner item))) a.1 ∙ ap (option_and_then (children_at parent)) b.1 ∙ deep.there;
      here = deep.here;
      holds = deep.holds;
    }

pub children-below : (parent : List ℕ) (index : ℕ) (items level kids : List Item) (item : Item) → children_at parent items ≡ Some level
    → slice_get level index ≡ Some item → inner item ≡ Some kids
    → children_at (parent ++ index ∷ []) items ≡ Some kids
children-below [] index items level kids item e f g =
    let same : items ≡ level = cc in
    ap (option_and_then (λ item. option_and_then (children_at []) (inner item))) (ap (λ is. slice_get is index) same ∙ f)
    ∙ ap (option_and_then (children_at [])) g
children-below (step ∷ parent) index items level kids item e f g =
    let a = then-some (λ item. option_and_then (children_at parent) (inner item)) (slice_get items step) level e in
    let b = then-some (children_at parent) (inner a.0) level a.2 in
    ap (option_and_then (λ item. option_and_then (children_at (parent ++ index ∷ [])) (inner item))) a.1
    ∙ ap (option_and_then (children_at (parent ++ index ∷ []))) b.1
    ∙ children-below parent index b.0 level kids item b.2 f g

-- the item at a path is one of its parent's
pub record Found (path : List ℕ) (items : List Item) (item : Item) : Type 0 where
  pub level : List Item
  pub there : children_at (parent_of path) items ≡ Some level
  pub here : slice_get level (offset_of path) ≡ Some item
  pub some : path ≢ []

pub found : (path : List ℕ) (items : List Item) (item : Item) → item_at path items ≡ Some item → Found path items item
found [] items item e = absurd cc
found (index ∷ []) items item e = record { level = items; there = refl; here = e; some = λ same. cc }
found (index ∷ next ∷ path) items item e =
    let a = then-some (λ item. option_and_then (item_at (next ∷ path)) (inner item)) (slice_get items index) item e in
    let b = then-some (item_at (next ∷ path)) (inner a.0) item a.2 in
    let deep = found (next ∷ path) b.0 item b.2 in
    record {
      level = deep.level;
      there = ap (option_and_then (λ item. option_and_then (children_at (parent_of (next ∷ path))) (inner item))) a.1
          ∙ ap (option_and_then (children_at (parent_of (next ∷ path)))) b.1 ∙ deep.there;
      here = deep.here;
      some = λ same. cc;
    }

-- a position that is there is in or behind the items of its parent
pub record Room (items : List Item) (position : List ℕ) : Type 0 where
  pub level : List Item
  pub there : children_at (parent_of position) items ≡ Some level
  pub room : offset_of position ≤ length level
  pub some : position ≢ []

pub has-room : (items : List Item) (position : List ℕ) → is_there items position ≡ true → Room items position
has-room items [] e = absurd cc
has-room items (number ∷ path) e = go (children_at (parent_of (number ∷ path)) items) refl e
  where
    go : (o : Option (List Item)) → children_at (parent_of (number ∷ path)) items ≡ o
        → option_map_or (λ count. nat_le (offset_of (number ∷ path)) count) (option_map length o) false ≡ true → Room items (number ∷ path)
    go None there e = absurd cc
    go (Some level) there e = record { level = level; there = there; room = grind (arith, nat_tests); some = λ same. cc }

-- an element at a path, with its items
pub record Element (items : List Item) (path : List ℕ) : Type 0 where
  pub item : Item
  pub kids : List Item
  pub here : item_at path items ≡ Some item
  pub holds : inner item ≡ Some kids

pub element-there : (items : List Item) (path : List ℕ) → is_element items path ≡ true → Element items path
element-there items path e = go (item_at path items) refl e
  where
    in-item : (item : Item) (o : Option (List Item)) → item_at path items ≡ Some item → inner item ≡ o → is_some o ≡ true → Element items path
    in-item item None here holds e = absurd cc
    in-item item (Some kids) here holds e = record { item = item; kids = kids; here = here; holds = holds }

    go : (o : Option Item) → item_at path items ≡ o → is_some (option_and_then inner o) ≡ true → Element items path
    go None here e = absurd cc
    go (Some item) here e = in-item item (inner item) here refl e

-- a run that is there is replaced
pub replace-room : {R : Type 0} (offset count : ℕ) (change : Change R) (xs new : List Item) (r : R) → offset + count ≤ length xs
    → change (take count (drop offset xs)) ≡ Some (new, r)
    → replace offset count change xs ≡ Some (take offset xs ++ (new ++ drop (offset + count) xs), r)
replace-room {R = R} offset count change xs new r room e =
    ap (λ t. if t then option_map (λ (made : List Item × R). (take offset xs ++ (made.0 ++ drop (offset + count) xs), made.1))
    (change (take count (drop offset xs))) else None) (most (offset + count) (length xs) room)
    ∙ ap (option_map (λ (made : List Item × R). (take offset xs ++ (made.0 ++ drop (offset + count) xs), made.1))) e

-- items come in where there is room
pub put-room : (offset : ℕ) (new xs : List Item) → offset ≤ length xs → put_in offset new xs
    ≡ Some (take offset xs ++ ((new ++ []) ++ drop (offset + 0) xs), tt)
put-room offset new xs room = replace-room offset 0 (λ items. Some (new ++ items, tt)) xs (new ++ []) tt (omega arith) refl

pub one-there : (index : ℕ) (xs : List Item) (item : Item) → slice_get xs index ≡ Some item → (index + 1 ≤ length xs) × (take 1 (drop index xs) ≡ item ∷ [])
one-there index [] item e = absurd cc
one-there zero (x ∷ xs) item e = (let same : x ≡ item = cc in (omega arith, ap (λ y. y ∷ []) same))
one-there (suc index) (x ∷ xs) item e = (let rest = one-there index xs item e in (omega (arith, rest.0), rest.1))

pub two-there : (index : ℕ) (xs : List Item) (left right : Item) → slice_get xs index ≡ Some left → slice_get xs (index + 1) ≡ Some right
    → (index + 2 ≤ length xs) × (take 2 (drop index xs) ≡ left ∷ right ∷ [])
two-there index [] left right e f = absurd cc
two-there zero (x ∷ []) left right e f = absurd cc
two-there zero (x ∷ y ∷ xs) left right e f = (let a : x ≡ left = cc in let b : y ≡ right = cc in (omega arith, λ t. a t ∷ b t ∷ []))
two-there (suc index) (x ∷ xs) left right e f =
    let next : suc index + 1 ≡ suc (index + 1) = omega arith in
    let rest = two-there index xs left right e (ap (slice_get (x ∷ xs)) (sym next) ∙ f) in
    (omega (arith, rest.0), rest.1)
