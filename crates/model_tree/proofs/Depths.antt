-- How deep a tree is after a move.
use Rattle.std.proofs.Common.{◌≡◌, ℕ, zero, suc, ◌+◌, ◌-◌, ◌≤◌, inl, inr, Bool, true, false, nat_le, if◌then◌else◌, List, [], ◌∷◌, length, take, drop, Option}
use Rattle.std.proofs.Common.{Some, None, option_and_then, slice_get, refl, sym, ap, ◌∙◌, arith}
use Rattle.std.specs.Prelude.{IfSome}
use Rattle.item_definitions.specs.Item.{Item, character, element, list_of, inner, item_depth, depth_of}
use Rattle.item_definitions.specs.Children.{parent_of, offset_of, at}
use Rattle.item_definitions.specs.Shift.{carry_remove, rule_remove}
use Rattle.operation_definitions.specs.Level.{put_in, take_out}
use Rattle.operation_definitions.specs.After.{room_at}
use Rattle.operation_definitions.proofs.Lifting.{map-some, then-some}
use Rattle.operation_definitions.proofs.Levels.{replaced}
use Rattle.ck_base.proofs.Common.{in_three}
use Rattle.operation_definitions.proofs.Moves.{cut, decide, within-same, within-other}
use Rattle.model_tree.specs.Limits.{changed, moved}
use Rattle.model_tree.proofs.AtPaths.{inside}
use Rattle.item_definitions.proofs.Sizes.{depth-list}
use Rattle.model_tree.proofs.Limited.{at-depths, replace-depths, three-depth}
use Rattle.model_tree.proofs.Room.{put_in_depth}

-- what an element has in it is less deep than the list that it is in
inner-flat : (xs : List Item) (index : ℕ) (item : Item) (children : List Item) → slice_get xs index ≡ Some item → inner item ≡ Some children
    → depth_of children ≤ depth_of xs
inner-flat [] index item children e h = absurd cc
inner-flat (x ∷ xs) zero item children e h = (let same : x ≡ item = cc in omega (arith, within item h, ap item_depth same))
  where
    within : (item : Item) → inner item ≡ Some children → depth_of children ≤ item_depth item
    within (character scalar attributes) h = absurd cc
    within (element id name attributes kids) h = (let same : list_of kids ≡ children = cc in omega (arith, depth-list kids, ap depth_of same))
inner-flat (x ∷ xs) (suc index) item children e h = omega (arith, inner-flat xs index item children e h)

-- a run that is taken out is not deeper than the tree was, and neither is what stays
run-flat : (path : List ℕ) (offset count : ℕ) (xs ys run : List Item) → at path (take_out offset count) xs ≡ Some (ys, run) → depth_of run ≤ depth_of xs
run-flat [] offset count xs ys run e =
    let r = replaced offset count (λ run. Some ([], run)) xs ys run e in
    let p : ◌≡◌ {A = Option (List Item × List Item)} (Some ([], take count (drop offset xs))) (Some (r.new, run)) = r.gives in
    let q : ◌≡◌ {A = List Item × List Item} ([], take count (drop offset xs)) (r.new, run) = cc in
    omega (
      arith,
      ap (λ (both : List Item × List Item). depth_of both.1) q,
      ap depth_of (in_three offset count xs),
      three-depth (take offset xs)
          (take count (drop offset xs)) (drop (offset + count) xs),
    )
run-flat (index ∷ path) offset count xs ys run e =
    let i = inside xs index (at path (take_out offset count)) ys run e in
    omega (arith, run-flat path offset count i.children i.new run i.made, inner-flat xs index i.item i.children i.there i.here)

rest-flat : (path : List ℕ) (offset count : ℕ) (xs ys run : List Item) → at path (take_out offset count) xs ≡ Some (ys, run) → depth_of ys ≤ depth_of xs
rest-flat path offset count xs ys run e = at-depths (take_out offset count)
    (λ xs ys r. replace-depths (λ run. Some ([], run)) (λ run new r g. none run new r g) offset count xs ys r) path xs ys run e
  where
    none : (run new r : List Item) → ◌≡◌ {A = Option (List Item × List Item)} (Some ([], run)) (Some (new, r)) → depth_of new ≤ depth_of run
    none run new r g =
        let p : ◌≡◌ {A = List Item × List Item} ([], run) (new, r) = cc in
        omega (arith, ap (λ (q : List Item × List Item). depth_of q.0) p)

-- no position becomes longer
cut-long : (parent : List ℕ) (offset count : ℕ) (position : List ℕ) → length (cut parent offset count position) ≤ length position
cut-long [] offset count [] = omega arith
cut-long [] offset count (number ∷ path) = go (nat_le (offset + count) number) (nat_le offset number)
  where
    go : (t u : Bool) → length (if t then (number - count) ∷ path else (if u then offset ∷ [] else number ∷ path)) ≤ length (number ∷ path)
    go true u = omega arith
    go false true = omega arith
    go false false = omega arith
cut-long (s ∷ parent) offset count [] = omega arith
cut-long (s ∷ parent) offset count (i ∷ path) =
    elim (decide s i) [
      | inl same ↦ (let e : cut (s ∷ parent) offset count (i ∷ path)
          ≡ s ∷ cut parent offset count path = ap (λ v. cut (s ∷ parent) offset count (v ∷ path)) (sym same)
          ∙ within-same s parent path (rule_remove offset count) in
          omega (arith, ap length e, cut-long parent offset count path))
      | inr apart ↦ (let e : cut (s ∷ parent) offset count (i ∷ path) ≡ i ∷ path = within-other s i parent path (rule_remove offset count) apart
          in omega (arith, ap length e))
    ]

parent-long : (path : List ℕ) → length (parent_of path) ≤ length path
parent-long [] = omega arith
parent-long (x ∷ []) = omega arith
parent-long (x ∷ y ∷ path) = omega (arith, parent-long (y ∷ path))
