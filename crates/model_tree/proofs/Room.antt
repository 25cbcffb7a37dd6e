-- How many items there are, and how deep, after items came in.
use Rattle.std.proofs.Common.{◌≡◌, ℕ, zero, suc, ◌+◌, ◌<◌, ◌≤◌, ◌^◌, max, List, [], ◌∷◌, ◌++◌, length, take, drop, Option, Some, None, slice_get, slice_set}
use Rattle.std.proofs.Common.{refl, ap, arith}
use Rattle.item_definitions.specs.Item.{Item, character, element, list_of, inner, with_inner, count_of, item_depth, depth_of}
use Rattle.item_definitions.specs.Children.{at}
use Rattle.operation_definitions.specs.Level.{put_in}
use Rattle.operation_definitions.proofs.Levels.{replaced}
use Rattle.ck_base.proofs.Common.{in_three}
use Rattle.model_tree.specs.Limits.{IsTree, changed, StaysTree}
use Rattle.model_tree.proofs.Counts.{count-append, depth-append, depth-inner}
use Rattle.model_tree.proofs.AtPaths.{inside}
use Rattle.item_definitions.proofs.Sizes.{depth-list}
use Rattle.model_tree.proofs.Limited.{at-counts, replace-counts, three-depth}

-- the items that came in stand before those behind the offset
came : (new run made : List Item) (r : Unit {0}) → ◌≡◌ {A = Option (List Item × Unit {0})} (Some (new ++ run, tt)) (Some (made, r)) → new ++ run ≡ made
came new run made r e = (let p : ◌≡◌ {A = List Item × Unit {0}} (new ++ run, tt) (made, r) = cc in ap (λ (q : List Item × Unit {0}). q.0) p)

-- as many more as came in
pub put_in_count : (path : List ℕ) (offset : ℕ) (new xs ys : List Item) (r : Unit {0}) → at path (put_in offset new) xs ≡ Some (ys, r)
    → count_of ys ≡ count_of xs + count_of new
put_in_count path offset new xs ys r e =
    let counts = at-counts (put_in offset new) (λ _. 0) (λ _. count_of new)
    (λ xs ys r. replace-counts (λ items. Some (new ++ items, tt)) (λ _. 0) (λ _. count_of new) more offset 0 xs ys r) path xs ys r e in
    omega (arith, counts)
  where
    more : (run made : List Item) (r : Unit {0}) → ◌≡◌ {A = Option (List Item × Unit {0})} (Some (new ++ run, tt)) (Some (made, r))
        → count_of made + 0 ≡ count_of run + count_of new
    more run made r g = omega (arith, ap count_of (came new run made r g), count-append new run)

level-depth : (offset : ℕ) (new xs ys : List Item) (r : Unit {0}) → put_in offset new xs ≡ Some (ys, r) → depth_of ys ≡ max (depth_of xs) (depth_of new)
level-depth offset new xs ys r e =
    let d = replaced offset 0 (λ items. Some (new ++ items, tt)) xs ys r e in
    let a = take offset xs in
    let run = take 0 (drop offset xs) in
    let c = drop (offset + 0) xs in
    omega (
      arith,
      ap depth_of d.result,
      three-depth a d.new c,
      ap depth_of (in_three offset 0 xs),
      three-depth a run c,
      ap depth_of (came new run d.new r d.gives),
      depth-append new run,
    )

deeper : (item : Item) (children new : List Item) (n : ℕ) → inner item ≡ Some children → depth_of new ≡ max (depth_of children) n
    → item_depth (with_inner new item) ≡ max (item_depth item) (1 + n)
deeper (character scalar attributes) children new n e h = absurd cc
deeper (element id name attributes kids) children new n e h =
    let same : list_of kids ≡ children = cc in
    omega (arith, h, depth-list kids, ap depth_of same, depth-inner new)

set-deeper : (xs : List Item) (index : ℕ) (x y : Item) (n : ℕ) → slice_get xs index ≡ Some x → item_depth y ≡ max (item_depth x) n
    → depth_of (slice_set xs index y) ≡ max (depth_of xs) n
set-deeper [] index x y n e h = absurd cc
set-deeper (z ∷ xs) zero x y n e h = (let same : z ≡ x = cc in omega (arith, h, ap item_depth same))
set-deeper (z ∷ xs) (suc index) x y n e h = omega (arith, set-deeper xs index x y n e h)

-- as deep as before, or as deep as what came in stands there
pub put_in_depth : (path : List ℕ) (offset : ℕ) (new xs ys : List Item) (r : Unit {0}) → at path (put_in offset new) xs ≡ Some (ys, r)
    → depth_of ys ≡ max (depth_of xs) (length path + depth_of new)
put_in_depth [] offset new xs ys r e = omega (arith, level-depth offset new xs ys r e)
put_in_depth (index ∷ path) offset new xs ys r e =
    let i = inside xs index (at path (put_in offset new)) ys r e in
    let below = put_in_depth path offset new i.children i.new r i.made in
    omega (
      arith,
      ap depth_of i.whole,
      set-deeper xs index i.item (with_inner i.new i.item) (1 + (length path + depth_of new)) i.there
          (deeper i.item i.children i.new (length path + depth_of new) i.here below),
    )

-- with room for the items the tree stays in its limits
pub put_in_stays : (path : List ℕ) (offset : ℕ) (new xs : List Item) → IsTree xs → count_of xs + count_of new < 2 ^ 32 → length path + depth_of new ≤ 64
    → StaysTree (changed (at path (put_in offset new) xs))
put_in_stays path offset new xs t few flat = go (at path (put_in offset new) xs) refl
  where
    go : (o : Option (List Item × Unit {0})) → at path (put_in offset new) xs ≡ o → StaysTree (changed o)
    go None e = tt
    go (Some made) e = record {
      few = omega (arith, few, put_in_count path offset new xs made.0 made.1 e);
      flat =
          omega (arith, flat, t.flat, put_in_depth path offset new xs made.0 made.1 e);
    }
