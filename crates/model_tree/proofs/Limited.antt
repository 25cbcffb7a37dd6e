-- Changes that keep a tree to its limits.
use Rattle.std.proofs.Common.{◌≡◌, ℕ, zero, suc, ◌+◌, ◌≤◌, max, List, [], ◌∷◌, ◌++◌, take, drop, Option, Some, None, slice_get, slice_set, ap, arith}
use Rattle.item_definitions.specs.Item.{Item, character, element, list_of, inner, with_inner, item_count, count_of, item_depth, depth_of}
use Rattle.item_definitions.specs.Children.{Change, at}
use Rattle.item_definitions.proofs.Sizes.{count-list, depth-list}
use Rattle.operation_definitions.specs.Level.{replace, take_out}
use Rattle.operation_definitions.proofs.Levels.{replaced}
use Rattle.ck_base.proofs.Common.{in_three}
use Rattle.model_tree.specs.Limits.{IsTree}
use Rattle.model_tree.proofs.Counts.{count-append, depth-append, count-inner, depth-inner}
use Rattle.model_tree.proofs.AtPaths.{inside}

-- other items in an element
with-count : (item : Item) (children new : List Item) → inner item ≡ Some children → item_count (with_inner new item) + count_of children
    ≡ item_count item + count_of new
with-count (character scalar attributes) children new e = absurd cc
with-count (element id name attributes kids) children new e =
    let same : list_of kids ≡ children = cc in
    omega (arith, count-list kids, ap count_of same, count-inner new)

with-depth : (item : Item) (children new : List Item) → inner item ≡ Some children → depth_of new ≤ depth_of children → item_depth (with_inner new item)
    ≤ item_depth item
with-depth (character scalar attributes) children new e h = absurd cc
with-depth (element id name attributes kids) children new e h =
    let same : list_of kids ≡ children = cc in
    omega (arith, depth-list kids, ap depth_of same, depth-inner new)

-- another item at an index
set-count : (xs : List Item) (index : ℕ) (x y : Item) → slice_get xs index ≡ Some x → count_of (slice_set xs index y) + item_count x
    ≡ count_of xs + item_count y
set-count [] index x y e = absurd cc
set-count (z ∷ xs) zero x y e = (let same : z ≡ x = cc in omega (arith, ap item_count same))
set-count (z ∷ xs) (suc index) x y e = omega (arith, set-count xs index x y e)

set-depth : (xs : List Item) (index : ℕ) (x y : Item) → slice_get xs index ≡ Some x → item_depth y ≤ item_depth x → depth_of (slice_set xs index y)
    ≤ depth_of xs
set-depth [] index x y e h = absurd cc
set-depth (z ∷ xs) zero x y e h = (let same : z ≡ x = cc in omega (arith, ap item_depth same))
set-depth (z ∷ xs) (suc index) x y e h = omega (arith, set-depth xs index x y e h)

-- a change that adds so many items and takes so many away also does so at a path
pub at-counts : {R : Type 0} (f : Change R) (less added : R → ℕ)
    → ((xs ys : List Item) (r : R) → f xs ≡ Some (ys, r) → count_of ys + less r ≡ count_of xs + added r)
    → (path : List ℕ) (xs ys : List Item) (r : R) → at path f xs ≡ Some (ys, r) → count_of ys + less r ≡ count_of xs + added r
at-counts f less added h [] xs ys r e = h xs ys r e
at-counts f less added h (index ∷ path) xs ys r e =
    let i = inside xs index (at path f) ys r e in
    let below = at-counts f less added h path i.children i.new r i.made in
    omega (arith, below, with-count i.item i.children i.new i.here, set-count xs index i.item (with_inner i.new i.item) i.there, ap count_of i.whole)

-- one that makes nothing deeper makes nothing deeper at a path
pub at-depths : {R : Type 0} (f : Change R) → ((xs ys : List Item) (r : R) → f xs ≡ Some (ys, r) → depth_of ys ≤ depth_of xs)
    → (path : List ℕ) (xs ys : List Item) (r : R) → at path f xs ≡ Some (ys, r) → depth_of ys ≤ depth_of xs
at-depths f h [] xs ys r e = h xs ys r e
at-depths f h (index ∷ path) xs ys r e =
    let i = inside xs index (at path f) ys r e in
    let below = at-depths f h path i.children i.new r i.made in
    omega (arith, set-depth xs index i.item (with_inner i.new i.item) i.there (with-depth i.item i.children i.new i.here below), ap depth_of i.whole)

three-count : (a b c : List Item) → count_of (a ++ (b ++ c)) ≡ count_of a + (count_of b + count_of c)
three-count a b c = omega (arith, count-append a (b ++ c), count-append b c)

pub three-depth : (a b c : List Item) → depth_of (a ++ (b ++ c)) ≡ max (depth_of a) (max (depth_of b) (depth_of c))
three-depth a b c = omega (arith, depth-append a (b ++ c), depth-append b c)

-- the same of a change of a run
pub replace-counts : {R : Type 0} (f : Change R) (less added : R → ℕ)
    → ((run new : List Item) (r : R) → f run ≡ Some (new, r) → count_of new + less r ≡ count_of run + added r)
    → (offset count : ℕ) (xs ys : List Item) (r : R) → replace offset count f xs ≡ Some (ys, r) → count_of ys + less r ≡ count_of xs + added r
replace-counts f less added h offset count xs ys r e =
    let d = replaced offset count f xs ys r e in
    let a = take offset xs in
    let run = take count (drop offset xs) in
    let c = drop (offset + count) xs in
    omega (arith, h run d.new r d.gives, ap count_of d.result, three-count a d.new c, ap count_of (in_three offset count xs), three-count a run c)

pub replace-depths : {R : Type 0} (f : Change R) → ((run new : List Item) (r : R) → f run ≡ Some (new, r) → depth_of new ≤ depth_of run)
    → (offset count : ℕ) (xs ys : List Item) (r : R) → replace offset count f xs ≡ Some (ys, r) → depth_of ys ≤ depth_of xs
replace-depths f h offset count xs ys r e =
    let d = replaced offset count f xs ys r e in
    let a = take offset xs in
    let run = take count (drop offset xs) in
    let c = drop (offset + count) xs in
    omega (arith, h run d.new r d.gives, ap depth_of d.result, three-depth a d.new c, ap depth_of (in_three offset count xs), three-depth a run c)

first : {R : Type 0} → Option (List Item × R) → List Item
first None = []
first (Some made) = made.0

-- the items that are taken out and those that stay are all
pub take_out_counts : (path : List ℕ) (offset count : ℕ) (xs ys run : List Item) → at path (take_out offset count) xs ≡ Some (ys, run)
    → count_of ys + count_of run ≡ count_of xs
take_out_counts path offset count xs ys run e =
    let counts = at-counts (take_out offset count) count_of (λ _. 0)
    (λ xs ys r. replace-counts (λ run. Some ([], run)) count_of (λ _. 0) (λ run new r g. taken run new r g) offset count xs ys r) path xs ys run e in
    omega (arith, counts)
  where
    taken : (run new r : List Item) → ◌≡◌ {A = Option (List Item × List Item)} (Some ([], run)) (Some (new, r)) → count_of new + count_of r ≡ count_of run + 0
    taken run new r g =
        let p : ◌≡◌ {A = List Item × List Item} ([], run) (new, r) = cc in
        omega (arith, ap (λ (q : List Item × List Item). count_of q.0) p, ap (λ (q : List Item × List Item). count_of q.1) p)

-- what stays when items are taken out
pub take_out_stays : (path : List ℕ) (offset count : ℕ) (xs ys run : List Item) → at path (take_out offset count) xs ≡ Some (ys, run) → IsTree xs → IsTree ys
take_out_stays path offset count xs ys run e h =
    let counts = at-counts (take_out offset count) count_of (λ _. 0)
    (λ xs ys r. replace-counts (λ run. Some ([], run)) count_of (λ _. 0) (λ run new r g. taken run new r g) offset count xs ys r) path xs ys run e in
    let depths = at-depths (take_out offset count) (λ xs ys r. replace-depths (λ run. Some ([], run)) (λ run new r g. flat run new r g) offset count xs
    ys r) path xs ys run e in
    record { few = omega (arith, counts, h.few); flat = omega (arith, depths, h.flat) }
  where
    taken : (run new r : List Item) → ◌≡◌ {A = Option (List Item × List Item)} (Some ([], run)) (Some (new, r)) → count_of new + count_of r ≡ count_of run + 0
    taken run new r g =
        let p : ◌≡◌ {A = List Item × List Item} ([], run) (new, r) = cc in
        omega (arith, ap (λ (q : List Item × List Item). count_of q.0) p, ap (λ (q : List Item × List Item). count_of q.1) p)

    flat : (run new r : List Item) → ◌≡◌ {A = Option (List Item × List Item)} (Some ([], run)) (Some (new, r)) → depth_of new ≤ depth_of run
    flat run new r g =
        let p : ◌≡◌ {A = List Item × List Item} ([], run) (new, r) = cc in
        omega (arith, ap (λ (q : List Item × List Item). depth_of q.0) p)
