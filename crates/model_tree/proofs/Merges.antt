-- Merging two elements.
use Rattle.std.proofs.Common.{◌≡◌, ℕ, zero, suc, ◌+◌, ◌-◌, ◌<◌, ◌≤◌, Bool, true, false, nat_lt, if◌then◌else◌, List, [], ◌∷◌, ◌++◌, length, take, drop, Option}
use Rattle.std.proofs.Common.{Some, None, option_map, option_and_then, slice_get, refl, sym, ap, ◌∙◌, subst, arith, Result, Err}
use Rattle.std.specs.Prelude.{is_some}
use Rattle.std.proofs.lemmas.Bool.Decides.{nat_tests}
use Rattle.item_definitions.specs.Item.{Item, character, element, list_of, items_of, item_count, count_of, depth_of}
use Rattle.item_definitions.specs.Children.{parent_of, offset_of, children_at, at}
use Rattle.item_definitions.proofs.Paths.{parent_of-push, offset_of-push}
use Rattle.operation_definitions.specs.Level.{merge_items, merge_at}
use Rattle.operation_definitions.proofs.Lifting.{map-some, list_of-items_of}
use Rattle.model_tree.specs.Parts.{HeadParts}
use Rattle.model_tree.specs.Places.{element_of, parts_of, put_run, Gives}
use Rattle.model_tree.specs.Limits.{IsTree, merged}
use Rattle.model_tree.specs.declared.fault.TreeFault.{TreeFault}
use Rattle.model_tree.specs.declared.fault.TreeFault.TheVariants.{NoPlace, NoMemory}
use Rattle.model_tree.proofs.AtPaths.{at-fails}
use Rattle.model_tree.proofs.Puts.{nowhere, made, fault, memory, run-fails, is-map}
use Rattle.model_tree.proofs.Names.{this_one}
use Rattle.model_tree.proofs.Counts.{count-append, depth-append, count-inner, depth-inner}
use Rattle.model_tree.proofs.Limited.{at-counts, at-depths, replace-counts, replace-depths}
use Rattle.item_definitions.proofs.Sizes.{count-list, depth-list}

pub one_of_two : (head : HeadParts) (front back children made : List Item) → children ≡ front ++ back → made ≡ element_of head children ∷ []
    → made ≡ element_of head (front ++ back) ∷ []
one_of_two head front back children made c m = m ∙ ap (λ items. element_of head items ∷ []) c

-- two items next to each other
two-of : (xs : List Item) (index : ℕ) (left right : Item) → take 1 (drop index xs) ≡ left ∷ [] → take 1 (drop (suc index) xs) ≡ right ∷ []
    → take 2 (drop index xs) ≡ left ∷ right ∷ []
two-of [] zero left right e f = absurd cc
two-of [] (suc index) left right e f = absurd cc
two-of (x ∷ []) zero left right e f = absurd cc
two-of (x ∷ y ∷ xs) zero left right e f = (let a : x ≡ left = cc in let b : y ≡ right = cc in λ i. a i ∷ b i ∷ [])
two-of (x ∷ xs) (suc index) left right e f = two-of xs index left right e f

-- nothing is merged where no element stands on the left, or none on the right
not-left : (xs : List Item) (index : ℕ) → None ≡ option_and_then parts_of (slice_get xs index) → merge_items (take 2 (drop index xs)) ≡ None
not-left [] zero e = refl
not-left [] (suc index) e = refl
not-left (x ∷ []) zero e = refl
not-left (character scalar attributes ∷ y ∷ xs) zero e = refl
not-left (element id name attributes children ∷ y ∷ xs) zero e = absurd cc
not-left (x ∷ xs) (suc index) e = not-left xs index e

not-right : (xs : List Item) (index : ℕ) → None ≡ option_and_then parts_of (slice_get xs (suc index)) → merge_items (take 2 (drop index xs)) ≡ None
not-right [] zero e = refl
not-right [] (suc index) e = refl
not-right (x ∷ []) zero e = refl
not-right (character scalar attributes ∷ y ∷ xs) zero e = refl
not-right (element id name attributes children ∷ character scalar given ∷ xs) zero e = refl
not-right (element id name attributes children ∷ element other old given kids ∷ xs) zero e = absurd cc
not-right (x ∷ xs) (suc index) e = not-right xs index e

-- what a merge gives, as the element alone
abbrev emptied_one : List Item × (Item × ℕ) → List Item × List Item
emptied_one made = (made.0, made.1.0 ∷ [])

merge-is : (left right : HeadParts) (front back : List Item) → merge_items (element_of left front ∷ element_of right back ∷ [])
    ≡ Some (element_of left (front ++ back) ∷ [], (element_of right [], length front))
merge-is left right front back = λ i. Some (
  element_of left (list_of-items_of front i ++ list_of-items_of back i) ∷ [],
  (element_of right [], length (list_of-items_of front i)),
)

module _ (path : List ℕ) (index : ℕ) (xs : List Item) where
  pub merge_nowhere : children_at path xs ≡ None → option_map emptied_one (at path (merge_at index) xs) ≡ None
  merge_nowhere e = ap (option_map emptied_one) (nowhere merge_items path (index - 1) 2 xs e)

  fails : (level : List Item) → children_at path xs ≡ Some level → merge_items (take 2 (drop (index - 1) level)) ≡ None
      → option_map emptied_one (at path (merge_at index) xs) ≡ None
  fails level e h = ap (option_map emptied_one) (at-fails (merge_at index) path xs level e (run-fails merge_items (index - 1) 2 level h))

  pub merge_no_left : (level : List Item) → children_at path xs ≡ Some level → None ≡ option_and_then parts_of (slice_get level (index - 1))
      → option_map emptied_one (at path (merge_at index) xs) ≡ None
  merge_no_left level e h = fails level e (not-left level (index - 1) h)

  pub merge_no_right : (level : List Item) → 0 < index → children_at path xs ≡ Some level → None ≡ option_and_then parts_of (slice_get level index)
      → option_map emptied_one (at path (merge_at index) xs) ≡ None
  merge_no_right level some e h =
      let next : index ≡ suc (index - 1) = omega arith in
      fails level e (not-right level (index - 1) (h ∙ ap (λ n. option_and_then parts_of (slice_get level n)) next))

  -- the two elements that were read
  record Two (level : List Item) (left right : HeadParts) (front back : List Item) : Type 0 where
    merge : merge_items (take 2 (drop (index - 1) level)) ≡ Some (element_of left (front ++ back) ∷ [], (element_of right [], length front))
    room : index - 1 + 2 ≤ length level

  two : (level : List Item) (left right : HeadParts) (front back : List Item) → 0 < index → Some (left, front)
      ≡ option_and_then parts_of (slice_get level (index - 1))
      → Some (right, back) ≡ option_and_then parts_of (slice_get level index) → Two level left right front back
  two level left right front back some l r =
      let next : index ≡ suc (index - 1) = omega arith in
      let a = this_one level (index - 1) left front l in
      let b = this_one level index right back r in
      record {
        merge = ap merge_items (two-of level (index - 1) (element_of left front) (element_of right back) a.run
            (ap (λ n. take 1 (drop n level)) (sym next) ∙ b.run)) ∙ merge-is left right front back;
        room = omega (arith, b.room);
      }

  pub merge_there : (level : List Item) (left right : HeadParts) (front back : List Item) → 0 < index → children_at path xs ≡ Some level
      → Some (left, front) ≡ option_and_then parts_of (slice_get level (index - 1))
      → Some (right, back) ≡ option_and_then parts_of (slice_get level index) → is_some (option_map emptied_one (at path (merge_at index) xs)) ≡ true
  merge_there level left right front back some e l r =
      let t = two level left right front back some l r in
      is-map emptied_one (at path (merge_at index) xs)
      ∙ memory merge_items path (index - 1) 2 xs level (element_of left (front ++ back) ∷ []) (element_of right [], length front) e t.room t.merge

  pub merge_made : (level : List Item) (left right : HeadParts) (front back one emptied rest : List Item) → 0 < index → children_at path xs ≡ Some level
      → Some (left, front) ≡ option_and_then parts_of (slice_get level (index - 1))
      → Some (right, back) ≡ option_and_then parts_of (slice_get level index) → one ≡ element_of left (front ++ back) ∷ []
      → emptied ≡ element_of right [] ∷ [] → put_run path (index - 1) 2 one xs ≡ Some rest
      → option_map emptied_one (at path (merge_at index) xs) ≡ Some (rest, emptied)
  merge_made level left right front back one emptied rest some e l r o m p =
      let t = two level left right front back some l r in
      ap (option_map emptied_one) (made merge_items path (index - 1) 2 xs level (element_of left (front ++ back) ∷ []) rest
      (element_of right [], length front) e t.merge (ap (λ n. put_run path (index - 1) 2 n xs) (sym o) ∙ p))
      ∙ ap (λ x. Some (rest, x)) (sym m)

  pub merge_fault : (level : List Item) (left right : HeadParts) (front back one : List Item) (f : TreeFault) → 0 < index → children_at path xs
      ≡ Some level → Some (left, front) ≡ option_and_then parts_of (slice_get level (index - 1))
      → Some (right, back) ≡ option_and_then parts_of (slice_get level index) → one ≡ element_of left (front ++ back) ∷ []
      → Gives {A = List Item} (put_run path (index - 1) 2 one xs) (Err f)
      → Gives {A = List Item × List Item} (option_map emptied_one (at path (merge_at index) xs)) (Err f)
  merge_fault level left right front back one f some e l r o g =
      let t = two level left right front back some l r in
      on f (fault merge_items path (index - 1) 2 xs level (element_of left (front ++ back) ∷ []) (element_of right [], length front) f e t.merge
      (subst (λ n. Gives {A = List Item} (put_run path (index - 1) 2 n xs) (Err f)) o g))
    where
      on : (f : TreeFault) → Gives {A = List Item × (Item × ℕ)} (at path (merge_at index) xs) (Err f)
          → Gives {A = List Item × List Item} (option_map emptied_one (at path (merge_at index) xs)) (Err f)
      on NoPlace g = ap (option_map emptied_one) g
      on NoMemory g = is-map emptied_one (at path (merge_at index) xs) ∙ g

-- the root isn't merged, and neither is a first item
pub merged_root : (path : List ℕ) (xs : List Item) → path ≡ [] → merged path xs ≡ None
merged_root path xs e = ap (λ p. merged p xs) e

pub merged_first : (parent : List ℕ) (index : ℕ) (path : List ℕ) (xs : List Item) → path ≡ parent ++ index ∷ [] → index ≡ 0 → merged path xs ≡ None
merged_first parent index path xs is e =
    let first : offset_of path ≡ 0 = ap offset_of is ∙ offset_of-push parent index ∙ e in
    ap (λ n. if nat_lt 0 n then option_map emptied_one (at (parent_of path) (merge_at (offset_of path)) xs) else None) first

pub merged_last : (parent : List ℕ) (index : ℕ) (path : List ℕ) (xs : List Item) (result : Result (List Item × List Item) TreeFault)
    → path ≡ parent ++ index ∷ [] → 0 < index
    → Gives (option_map emptied_one (at parent (merge_at index) xs)) result → Gives (merged path xs) result
merged_last parent index path xs result is some g =
    let yes : nat_lt 0 index ≡ true = grind (arith, nat_tests) in
    let at_end : offset_of path ≡ index = ap offset_of is ∙ offset_of-push parent index in
    let before : parent_of path ≡ parent = ap parent_of is ∙ parent_of-push parent index in
    let same : merged path xs ≡ option_map emptied_one (at parent (merge_at index) xs) =
    (λ i. if nat_lt 0 (at_end i) then option_map emptied_one (at (before i) (merge_at (at_end i)) xs) else None)
    ∙ ap (λ t. if t then option_map emptied_one (at parent (merge_at index) xs) else None) yes in
    subst (λ o. Gives o result) (sym same) g

-- a merge takes one item away, and makes nothing deeper
merge-count : (run new : List Item) (r : Item × ℕ) → merge_items run ≡ Some (new, r) → count_of new + item_count r.0 ≡ count_of run + 0
merge-count [] new r e = absurd cc
merge-count (left ∷ []) new r e = absurd cc
merge-count (character scalar attributes ∷ right ∷ []) new r e = absurd cc
merge-count (element id name attributes children ∷ character scalar given ∷ []) new r e = absurd cc
merge-count (element id name attributes children ∷ element other old given kids ∷ []) new r e =
    let p : ◌≡◌ {A = List Item × (Item × ℕ)} (
      element id name attributes (items_of (list_of children ++ list_of kids)) ∷ [],
      (element other old given (items_of []), length (list_of children)),
    ) (new, r) = cc in
    omega (
      arith,
      ap (λ (q : List Item × (Item × ℕ)). count_of q.0) p,
      ap (λ (q : List Item × (Item × ℕ)). item_count q.1.0) p,
      count-inner (list_of children ++ list_of kids),
      count-append (list_of children) (list_of kids),
      count-list children,
      count-list kids,
    )
merge-count (left ∷ right ∷ next ∷ rest) new r e = absurd cc

merge-depth : (run new : List Item) (r : Item × ℕ) → merge_items run ≡ Some (new, r) → depth_of new ≤ depth_of run
merge-depth [] new r e = absurd cc
merge-depth (left ∷ []) new r e = absurd cc
merge-depth (character scalar attributes ∷ right ∷ []) new r e = absurd cc
merge-depth (element id name attributes children ∷ character scalar given ∷ []) new r e = absurd cc
merge-depth (element id name attributes children ∷ element other old given kids ∷ []) new r e =
    let p : ◌≡◌ {A = List Item × (Item × ℕ)} (
      element id name attributes (items_of (list_of children ++ list_of kids)) ∷ [],
      (element other old given (items_of []), length (list_of children)),
    ) (new, r) = cc in
    omega (
      arith,
      ap (λ (q : List Item × (Item × ℕ)). depth_of q.0) p,
      depth-inner (list_of children ++ list_of kids),
      depth-append (list_of children)
          (list_of kids),
      depth-list children,
      depth-list kids,
    )
merge-depth (left ∷ right ∷ next ∷ rest) new r e = absurd cc

pub merge_stays : (path : List ℕ) (xs ys emptied : List Item) → merged path xs ≡ Some (ys, emptied) → IsTree xs → IsTree ys
merge_stays path xs ys emptied e t = go (nat_lt 0 (offset_of path)) e
  where
    go : (b : Bool) → (if b then option_map emptied_one (at (parent_of path) (merge_at (offset_of path)) xs) else None) ≡ Some (ys, emptied) → IsTree ys
    go false e = absurd cc
    go true e =
        let index = offset_of path in
        let m = map-some emptied_one (at (parent_of path) (merge_at index) xs) (ys, emptied) e in
        let counts = at-counts (merge_at index) (λ r. item_count r.0) (λ _. 0)
        (λ xs ys r. replace-counts merge_items (λ r. item_count r.0) (λ _. 0) (λ run new r g. merge-count run new r g) (index - 1) 2 xs ys r)
        (parent_of path) xs m.0.0 m.0.1 m.1 in
        let depths = at-depths (merge_at index) (λ xs ys r. replace-depths merge_items (λ run new r g. merge-depth run new r g) (index - 1) 2 xs ys r)
        (parent_of path) xs m.0.0 m.0.1 m.1 in
        let same : m.0.0 ≡ ys = ap (λ (q : List Item × List Item). q.0) m.2 in
        record { few = omega (arith, counts, t.few, ap count_of same); flat = omega (arith, depths, t.flat, ap depth_of same) }
