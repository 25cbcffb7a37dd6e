-- The two elements that a split makes of one.
use Rattle.std.proofs.Common.{◌≡◌, ℕ, zero, suc, ◌+◌, ◌≤◌, List, [], ◌∷◌, ◌++◌, length, take, drop, Option, Some, None, option_map, option_and_then}
use Rattle.std.proofs.Common.{slice_get, slice_set, refl, sym, ap, ◌∙◌, arith}
use Rattle.item_definitions.specs.Item.{Item, character, element, inner, with_inner}
use Rattle.item_definitions.specs.Children.{Change, parent_of, offset_of, children_at, item_at, at, in_item}
use Rattle.item_definitions.specs.Position.{behind}
use Rattle.item_definitions.proofs.Order.{behind-push}
use Rattle.operation_definitions.specs.Level.{one_item, split_at, split_item}
use Rattle.operation_definitions.specs.After.{like}
use Rattle.operation_definitions.proofs.Lifting.{inner-with_inner, map-some, then-some, get-set}
use Rattle.operation_definitions.proofs.Levels.{replaced, item-there, split-some}
use Rattle.operation_definitions.proofs.Names.{element-is}
use Rattle.model_tree.proofs.Shown.{item_last}
use Rattle.edit_definitions.specs.Planned.{name_of}

-- what a change at a path did: to the items of the element there
pub record Levels {R : Type 0} (path : List ℕ) (change : Change R) (xs ys : List Item) (r : R) : Type 0 where
  pub level : List Item
  pub new : List Item
  pub there : children_at path xs ≡ Some level
  pub made : change level ≡ Some (new, r)
  pub then_there : children_at path ys ≡ Some new

pub levels : {R : Type 0} (path : List ℕ) (change : Change R) (xs ys : List Item) (r : R) → at path change xs ≡ Some (ys, r) → Levels path change xs ys r
levels [] change xs ys r e = record { level = xs; new = ys; there = refl; made = e; then_there = refl }
levels {R = R} (i ∷ path) change xs ys r e =
    let a = then-some (λ item. option_map (λ (made : Item × R). (slice_set xs i made.0, made.1)) (in_item (at path change) item)) (slice_get xs i) (ys, r) e in
    let b = map-some (λ (made : Item × R). (slice_set xs i made.0, made.1)) (in_item (at path change) a.0) (ys, r) a.2 in
    let c = then-some (λ items. option_map (λ (made : List Item × R). (with_inner made.0 a.0, made.1)) (at path change items)) (inner a.0) b.0 b.1 in
    let d = map-some (λ (made : List Item × R). (with_inner made.0 a.0, made.1)) (at path change c.0) b.0 c.2 in
    let gave : d.0.1 ≡ r = ap (λ (p : Item × R). p.1) d.2 ∙ ap (λ (p : List Item × R). p.1) b.2 in
    let items : slice_set xs i b.0.0 ≡ ys = ap (λ (p : List Item × R). p.0) b.2 in
    let item : with_inner d.0.0 a.0 ≡ b.0.0 = ap (λ (p : Item × R). p.0) d.2 in
    let deep = levels path change c.0 d.0.0 d.0.1 d.1 in
    let here : slice_get ys i ≡ Some b.0.0 = ap (λ zs. slice_get zs i) (sym items) ∙ get-set xs i a.0 b.0.0 a.1 in
    let inside : inner b.0.0 ≡ Some d.0.0 = ap inner (sym item) ∙ inner-with_inner a.0 c.0 d.0.0 c.1 in
    record {
      level = deep.level;
      new = deep.new;
      there = ap (option_and_then (λ item. option_and_then (children_at path) (inner item))) a.1 ∙ ap (option_and_then (children_at path)) c.1 ∙ deep.there;
      made = deep.made ∙ ap (λ v. Some (deep.new, v)) gave;
      then_there = ap (option_and_then (λ item. option_and_then (children_at path) (inner item))) here ∙ ap (option_and_then (children_at path)) inside
          ∙ deep.then_there;
    }

first-behind : (index : ℕ) (xs rest : List Item) (item : Item) → slice_get xs index ≡ Some item → slice_get (take index xs ++ rest) index ≡ slice_get rest 0
first-behind index [] rest item e = absurd cc
first-behind zero (x ∷ xs) rest item e = refl
first-behind (suc index) (x ∷ xs) rest item e = first-behind index xs rest item e

second-behind : (index : ℕ) (xs rest : List Item) (item : Item) → slice_get xs index ≡ Some item
    → slice_get (take index xs ++ rest) (index + 1) ≡ slice_get rest 1
second-behind index [] rest item e = absurd cc
second-behind zero (x ∷ xs) rest item e = refl
second-behind (suc index) (x ∷ xs) rest item e =
    let next : suc index + 1 ≡ suc (index + 1) = omega arith in
    ap (slice_get (take (suc index) (x ∷ xs) ++ rest)) next ∙ second-behind index xs rest item e

-- an element that was split stands in its place with its first items, and directly behind it one of its name with the others
pub record Halves (items made : List Item) (position : List ℕ) (id : ℕ) : Type 0 where
  pub item : Item
  pub kids : List Item
  pub here : item_at (parent_of position) items ≡ Some item
  pub holds : inner item ≡ Some kids
  pub room : offset_of position ≤ length kids
  pub left : item_at (parent_of position) made ≡ Some (with_inner (take (offset_of position) kids) item)
  pub right : item_at (behind (parent_of position)) made ≡ Some (with_inner (drop (offset_of position) kids) (like id item))

pub halves : (items made : List Item) (position : List ℕ) (id : ℕ) (r : Item) → 2 ≤ length position
    → at (parent_of (parent_of position)) (split_at (offset_of (parent_of position)) (offset_of position) (like id)) items ≡ Some (made, r)
    → Halves items made position id
halves items made position id r long e =
    let above = parent_of (parent_of position) in
    let index = offset_of (parent_of position) in
    let offset = offset_of position in
    let change : Item → Option (List Item × Item) = λ item. split_item offset (like id item) item in
    let l = levels above (split_at index offset (like id)) items made r e in
    let found = item-there index change l.level l.new r l.made in
    let parts = split-some offset (like id found.0) found.0 found.1 r found.3 in
    let h = replaced index 1 (one_item change) l.level l.new r l.made in
    let same : Some (found.1, r) ≡ Some (h.new, r) = sym found.3 ∙ sym (ap (one_item change) (one index l.level found.0 found.2)) ∙ h.gives in
    let two : with_inner (take offset parts.0) found.0 ∷ with_inner (drop offset parts.0) (like id found.0) ∷ [] ≡ h.new = parts.3
    ∙ pairs found.1 h.new r same in
    let new : take index l.level ++ ((with_inner (take offset parts.0) found.0 ∷ with_inner (drop offset parts.0) (like id found.0) ∷ []) ++ drop (index + 1)
    l.level) ≡ l.new =
    ap (λ ys. take index l.level ++ (ys ++ drop (index + 1) l.level)) two ∙ h.result in
    let rest = with_inner (take offset parts.0) found.0 ∷ with_inner (drop offset parts.0) (like id found.0) ∷ drop (index + 1) l.level in
    let path = element-is position long in
    record {
      item = found.0;
      kids = parts.0;
      here = sym (item_last above index (parent_of position) items l.level path l.there) ∙ found.2;
      holds = parts.1;
      room = parts.2;
      left = sym (item_last above index (parent_of position) made l.new path l.then_there) ∙ ap (λ ys. slice_get ys index) (sym new)
          ∙ first-behind index l.level rest found.0 found.2;
      right = sym (item_last above (index + 1) (behind (parent_of position)) made l.new (ap behind path ∙ behind-push above index) l.then_there)
          ∙ ap (λ ys. slice_get ys (index + 1)) (sym new) ∙ second-behind index l.level rest found.0 found.2;
    }
  where
    one : (i : ℕ) (xs : List Item) (item : Item) → slice_get xs i ≡ Some item → take 1 (drop i xs) ≡ item ∷ []
    one i [] item e = absurd cc
    one zero (x ∷ xs) item e = (let same : x ≡ item = cc in ap (λ y. y ∷ []) same)
    one (suc i) (x ∷ xs) item e = one i xs item e

    pairs : (xs ys : List Item) (r : Item) → ◌≡◌ {A = Option (List Item × Item)} (Some (xs, r)) (Some (ys, r)) → xs ≡ ys
    pairs xs ys r e = ap (λ (o : Option (List Item × Item)). first_or o) e where
      first_or : Option (List Item × Item) → List Item
      first_or None = []
      first_or (Some p) = p.0

-- each of the two has the name of the one
pub name-with : (items : List Item) (item : Item) → name_of (with_inner items item) ≡ name_of item
name-with items (character scalar attributes) = refl
name-with items (element id name attributes children) = refl

pub name-like : (id : ℕ) (items : List Item) (item : Item) → name_of (with_inner items (like id item)) ≡ name_of item
name-like id items (character scalar attributes) = refl
name-like id items (element old name attributes children) = refl
