-- What stays in the limits by itself.
use Rattle.std.proofs.Common.{◌≡◌, ℕ, ◌+◌, ◌≤◌, List, [], ◌∷◌, Option, Some, refl, sym, ap, ◌∙◌, subst, arith}
use Rattle.ck_base.specs.declared.value.Value.{Value as AttributeValue}
use Rattle.item_definitions.specs.Item.{Item, character, element, count_of, depth_of}
use Rattle.item_definitions.specs.Children.{Change, parent_of, offset_of, at}
use Rattle.operation_definitions.specs.Level.{replace, given, give, one_item, renamed, rename_at}
use Rattle.operation_definitions.proofs.Lifting.{map-some}
use Rattle.model_tree.specs.Limits.{IsTree, changed, renamed_at}
use Rattle.model_tree.proofs.Limited.{at-counts, at-depths, replace-counts, replace-depths}

-- a change of a run that keeps the number of items, and makes nothing deeper
keeps : {R : Type 0} (f : Change R) → ((run new : List Item) (r : R) → f run ≡ Some (new, r) → (count_of new ≡ count_of run) × (depth_of new ≤ depth_of run))
    → (path : List ℕ) (offset count : ℕ) (xs ys : List Item) (r : R) → at path (replace offset count f) xs ≡ Some (ys, r) → IsTree xs → IsTree ys
keeps f h path offset count xs ys r e t =
    let counts = at-counts (replace offset count f) (λ _. 0) (λ _. 0)
    (λ xs ys r. replace-counts f (λ _. 0) (λ _. 0) (λ run new r g. more run new (h run new r g).0) offset count xs ys r) path xs ys r e in
    let depths = at-depths (replace offset count f) (λ xs ys r. replace-depths f (λ run new r g. (h run new r g).1) offset count xs ys r) path xs ys r e in
    record { few = omega (arith, counts, t.few); flat = omega (arith, depths, t.flat) }
  where
    more : (run new : List Item) → count_of new ≡ count_of run → count_of new + 0 ≡ count_of run + 0
    more run new e = omega (arith, e)

given-count : (key : List ℕ) (value : Option AttributeValue) (items : List Item) → count_of (given key value items) ≡ count_of items
given-count key value [] = refl
given-count key value (character scalar attributes ∷ items) = omega (arith, given-count key value items)
given-count key value (element id name attributes children ∷ items) = omega (arith, given-count key value items)

given-depth : (key : List ℕ) (value : Option AttributeValue) (items : List Item) → depth_of (given key value items) ≡ depth_of items
given-depth key value [] = refl
given-depth key value (character scalar attributes ∷ items) = omega (arith, given-depth key value items)
given-depth key value (element id name attributes children ∷ items) = omega (arith, given-depth key value items)

pub give_stays : (path : List ℕ) (offset count : ℕ) (key : List ℕ) (value : Option AttributeValue) (xs ys : List Item)
    → changed (at path (give offset count key value) xs) ≡ Some ys → IsTree xs → IsTree ys
give_stays path offset count key value xs ys e t =
    let m = map-some (λ (both : List Item × List Item). both.0) (at path (give offset count key value) xs) ys e in
    subst IsTree m.2 (keeps (λ run. Some (given key value run, run)) kept path offset count xs m.0.0 m.0.1 m.1 t)
  where
    kept : (run new r : List Item) → ◌≡◌ {A = Option (List Item × List Item)} (Some (given key value run, run)) (Some (new, r))
        → (count_of new ≡ count_of run) × (depth_of new ≤ depth_of run)
    kept run new r g =
        let p : ◌≡◌ {A = List Item × List Item} (given key value run, run) (new, r) = cc in
        let made : given key value run ≡ new = ap (λ (q : List Item × List Item). q.0) p in
        (ap count_of (sym made) ∙ given-count key value run, omega (arith, ap depth_of made, given-depth key value run))

pub rename_stays : (path name : List ℕ) (xs ys : List Item) → changed (renamed_at path name xs) ≡ Some ys → IsTree xs → IsTree ys
rename_stays [] name xs ys e t = absurd cc
rename_stays (index ∷ path) name xs ys e t =
    let parent = parent_of (index ∷ path) in
    let offset = offset_of (index ∷ path) in
    let m = map-some (λ (both : List Item × List ℕ). both.0) (at parent (rename_at offset name) xs) ys e in
    subst IsTree m.2 (keeps (one_item (renamed name)) (kept name) parent offset 1 xs m.0.0 m.0.1 m.1 t)
  where
    kept : (name : List ℕ) (run new : List Item) (r : List ℕ) → one_item (renamed name) run ≡ Some (new, r) → (count_of new ≡ count_of run)
        × (depth_of new ≤ depth_of run)
    kept name [] new r g = absurd cc
    kept name (character scalar attributes ∷ []) new r g = absurd cc
    kept name (element id old attributes children ∷ []) new r g =
        let p : ◌≡◌ {A = List Item × List ℕ} (element id name attributes children ∷ [], old) (new, r) = cc in
        let made : element id name attributes children ∷ [] ≡ new = ap (λ (q : List Item × List ℕ). q.0) p in
        (omega (arith, ap count_of made), omega (arith, ap depth_of made))
    kept name (item ∷ next ∷ rest) new r g = absurd cc
