-- Splitting an element.
use Rattle.std.proofs.Common.{◌≡◌, ℕ, ◌+◌, ◌<◌, ◌≤◌, ◌^◌, Bool, true, false, nat_le, if◌then◌else◌, List, [], ◌∷◌, ◌++◌, length, take, drop, Option, Some, None}
use Rattle.std.proofs.Common.{option_and_then, slice_get, refl, sym, ap, ◌∙◌, subst, arith, Result}
use Rattle.std.specs.Prelude.{is_some, IsSome, IfSome}
use Rattle.std.proofs.lemmas.Bool.Decides.{nat_tests}
use Rattle.std.proofs.lemmas.List.{take-append-drop}
use Rattle.item_definitions.specs.Item.{Item, Items, character, element, none, more, list_of, items_of, with_inner, item_count, count_of, item_depth, depth_of}
use Rattle.item_definitions.specs.Children.{parent_of, offset_of, children_at, at}
use Rattle.operation_definitions.specs.Level.{one_item, split_item, split_at}
use Rattle.operation_definitions.specs.After.{shell_of}
use Rattle.operation_definitions.proofs.Lifting.{map-some, then-some, list_of-items_of}
use Rattle.operation_definitions.proofs.Levels.{most}
use Rattle.item_definitions.proofs.Paths.{parent_of-push, offset_of-push}
use Rattle.model_tree.specs.Parts.{HeadParts}
use Rattle.model_tree.specs.Places.{element_of, halves, parts_of, put_run, Gives}
use Rattle.model_tree.specs.Limits.{IsTree, changed, split_path, split_with}
use Rattle.model_tree.specs.declared.fault.TreeFault.{TreeFault}
use Rattle.model_tree.proofs.AtPaths.{at-fails}
use Rattle.model_tree.proofs.Puts.{nowhere, memory, changed_gives, run-fails}
use Rattle.model_tree.proofs.Names.{no-one, this_one}
use Rattle.model_tree.proofs.Counts.{count-append, depth-append, count-inner, depth-inner}
use Rattle.model_tree.proofs.Limited.{at-counts, at-depths, replace-counts, replace-depths}
use Rattle.item_definitions.proofs.Sizes.{count-list, depth-list}

-- two elements put together
pub two_halves : (head shell : HeadParts) (offset : ℕ) (children front back first second both : List Item) → front ≡ take offset (drop 0 children)
    → back ≡ drop offset children
    → first ≡ element_of head front ∷ [] → second ≡ element_of shell back ∷ [] → both ≡ first ++ second → both ≡ halves head shell offset children
two_halves head shell offset children front back first second both f b i j k =
    k ∙ (λ t. i t ++ j t) ∙ (λ t. element_of head (f t) ∷ element_of shell (b t) ∷ [])

not-split : (offset : ℕ) (shell item : Item) → None ≡ parts_of item → split_item offset shell item ≡ None
not-split offset shell (character scalar attributes) e = refl
not-split offset shell (element id name attributes children) e = absurd cc

-- an element split at an offset that it has
split-is : (offset : ℕ) (head shell : HeadParts) (children : List Item) → offset ≤ length children
    → split_item offset (element_of shell []) (element_of head children) ≡ Some (halves head shell offset children, element_of shell [])
split-is offset head shell children fits =
    let kids = list_of-items_of children in
    let yes : nat_le offset (length children) ≡ true = most offset (length children) fits in
    (λ t. if nat_le offset (length (kids t))
    then Some (element_of head (take offset (kids t)) ∷ element_of shell (drop offset (kids t)) ∷ [], element_of shell []) else None)
    ∙ ap (λ t. if t then Some (halves head shell offset children, element_of shell []) else None) yes

split-not : (offset : ℕ) (head shell : HeadParts) (children : List Item) → length children < offset
    → split_item offset (element_of shell []) (element_of head children) ≡ None
split-not offset head shell children less =
    let kids = list_of-items_of children in
    let no : nat_le offset (length children) ≡ false = grind (arith, nat_tests) in
    (λ t. if nat_le offset (length (kids t))
    then Some (element_of head (take offset (kids t)) ∷ element_of shell (drop offset (kids t)) ∷ [], element_of shell []) else None)
    ∙ ap (λ t. if t then Some (halves head shell offset children, element_of shell []) else None) no

module _ (path : List ℕ) (index offset : ℕ) (shell : HeadParts) (xs : List Item) where
  pub split_nowhere : children_at path xs ≡ None → changed (at path (split_at index offset (λ _. element_of shell [])) xs) ≡ None
  split_nowhere e = ap changed (nowhere (one_item (λ item. split_item offset (element_of shell []) item)) path index 1 xs e)

  pub split_no_element : (level : List Item) → children_at path xs ≡ Some level → None ≡ option_and_then parts_of (slice_get level index)
      → changed (at path (split_at index offset (λ _. element_of shell [])) xs) ≡ None
  split_no_element level e h =
      ap changed (at-fails (split_at index offset (λ _. element_of shell [])) path xs level e
      (no-one (λ item. split_item offset (element_of shell []) item) (not-split offset (element_of shell [])) level index h))

  pub split_short : (level : List Item) (head : HeadParts) (children : List Item) → children_at path xs ≡ Some level → Some (head, children)
      ≡ option_and_then parts_of (slice_get level index) → length children < offset
      → changed (at path (split_at index offset (λ _. element_of shell [])) xs) ≡ None
  split_short level head children e h less =
      let one = this_one level index head children h in
      let fails : one_item (λ item. split_item offset (element_of shell []) item) (take 1 (drop index level)) ≡ None =
      ap (one_item (λ item. split_item offset (element_of shell []) item)) one.run ∙ split-not offset head shell children less in
      ap changed (at-fails (split_at index offset (λ _. element_of shell [])) path xs level e
      (run-fails (one_item (λ item. split_item offset (element_of shell []) item)) index 1 level fails))

  pub split_gives : (level new : List Item) (head : HeadParts) (children : List Item) (result : Result (List Item) TreeFault) → children_at path xs ≡ Some level
      → Some (head, children) ≡ option_and_then parts_of (slice_get level index) → offset ≤ length children → new ≡ halves head shell offset children
      → Gives (put_run path index 1 new xs) result → Gives (changed (at path (split_at index offset (λ _. element_of shell [])) xs)) result
  split_gives level new head children result e h fits n g =
      let one = this_one level index head children h in
      changed_gives (one_item (λ item. split_item offset (element_of shell []) item)) path index 1 xs level new (element_of shell []) result e
      (ap (one_item (λ item. split_item offset (element_of shell []) item)) one.run ∙ split-is offset head shell children fits
      ∙ ap (λ items. Some (items, element_of shell [])) (sym n)) g

  pub split_there : (level : List Item) (head : HeadParts) (children : List Item) → children_at path xs ≡ Some level → Some (head, children)
      ≡ option_and_then parts_of (slice_get level index) → offset ≤ length children
      → is_some (changed (at path (split_at index offset (λ _. element_of shell [])) xs)) ≡ true
  split_there level head children e h fits =
      let one = this_one level index head children h in
      changed_some (at path (split_at index offset (λ _. element_of shell [])) xs)
      (memory (one_item (λ item. split_item offset (element_of shell []) item)) path index 1 xs level (halves head shell offset children)
      (element_of shell []) e one.room
      (ap (one_item (λ item. split_item offset (element_of shell []) item)) one.run ∙ split-is offset head shell children fits))
    where
      changed_some : (o : Option (List Item × Item)) → is_some o ≡ true → is_some (changed o) ≡ true
      changed_some None e = e
      changed_some (Some made) e = refl

-- the element at a path is the one at its last number in the element at the others
split-last : (parent : List ℕ) (index offset : ℕ) (shell : Item) (xs : List Item) → split_path (parent ++ index ∷ []) offset shell xs
    ≡ at parent (split_at index offset (λ _. shell)) xs
split-last [] index offset shell xs = refl
split-last (first ∷ parent) index offset shell xs = λ i. at (parent_of-push (first ∷ parent) index i)
    (split_at (offset_of-push (first ∷ parent) index i) offset (λ _. shell)) xs

pub split_last : (parent : List ℕ) (index offset : ℕ) (path : List ℕ) (shell : Item) (xs : List Item) (result : Result (List Item) TreeFault)
    → path ≡ parent ++ index ∷ []
    → Gives (changed (at parent (split_at index offset (λ _. shell)) xs)) result → Gives (changed (split_path path offset shell xs)) result
split_last parent index offset path shell xs result is g = subst (λ o. Gives (changed o) result)
    (sym (ap (λ p. split_path p offset shell xs) is ∙ split-last parent index offset shell xs)) g

-- the shell is an element without children
pub shell_there : (shell : List Item) → IsSome (shell_of shell) → None ≡ option_and_then parts_of (slice_get shell 0) → ⊥
shell_there [] h e = cc
shell_there (character scalar attributes ∷ []) h e = cc
shell_there (element id name attributes children ∷ []) h e = cc
shell_there (item ∷ next ∷ rest) h e = cc

pub shell_head : (shell : List Item) (head : HeadParts) (children : List Item) → IsSome (shell_of shell) → Some (head, children)
    ≡ option_and_then parts_of (slice_get shell 0) → shell_of shell ≡ Some (element_of head [])
shell_head [] head children h e = absurd cc
shell_head (character scalar attributes ∷ []) head children h e = absurd cc
shell_head (element id name attributes none ∷ []) head children h e =
    let p : ◌≡◌ {A = HeadParts × List Item} (head, children) (record { id = id; name = name; attributes = attributes }, []) = cc in
    sym (ap (λ (q : HeadParts × List Item). Some (element_of q.0 [])) p)
shell_head (element id name attributes (more item items) ∷ []) head children h e = absurd cc
shell_head (item ∷ next ∷ rest) head children h e = absurd cc

pub with_shell : (path : List ℕ) (offset : ℕ) (shell xs : List Item) (head : HeadParts) (children : List Item) (result : Result (List Item) TreeFault)
    → IsSome (shell_of shell)
    → Some (head, children) ≡ option_and_then parts_of (slice_get shell 0) → Gives (changed (split_path path offset (element_of head []) xs)) result
    → Gives (changed (split_with path offset shell xs)) result
with_shell path offset shell xs head children result h e g =
    subst (λ o. Gives (changed o) result) (sym (ap (option_and_then (λ one. split_path path offset one xs)) (shell_head shell head children h e))) g

-- a split makes nothing deeper
take-depth : (offset : ℕ) (items : List Item) → depth_of (take offset items) ≤ depth_of items
take-depth offset items = omega (arith, depth-append (take offset items) (drop offset items), ap depth_of (take-append-drop offset items))

drop-depth : (offset : ℕ) (items : List Item) → depth_of (drop offset items) ≤ depth_of items
drop-depth offset items = omega (arith, depth-append (take offset items) (drop offset items), ap depth_of (take-append-drop offset items))

split-flat : (offset : ℕ) (shell : Item) (run new : List Item) (r : Item) → one_item (λ item. split_item offset shell item) run ≡ Some (new, r)
    → depth_of new ≤ depth_of run
split-flat offset shell [] new r e = absurd cc
split-flat offset shell (character scalar attributes ∷ []) new r e = absurd cc
split-flat offset shell (element id name attributes children ∷ []) new r e =
    let made : List Item × Item = (
      element id name attributes (items_of (take offset (list_of children))) ∷ with_inner (drop offset (list_of children))
          shell ∷ [],
      shell,
    ) in
    let p : made ≡ (new, r) = then-made (nat_le offset (length (list_of children))) made (new, r) e in
    omega (
      arith,
      ap (λ (q : List Item × Item). depth_of q.0) p,
      behind children shell,
      depth-inner (take offset (list_of children)),
      take-depth offset (list_of children),
      depth-list children,
    )
  where
    behind : (children : Items) (shell : Item) → item_depth (with_inner (drop offset (list_of children)) shell) ≤ 1 + depth_of (list_of children)
    behind children (character scalar attributes) = omega arith
    behind children (element id name attributes inside) = omega (arith, depth-inner (drop offset (list_of children)), drop-depth offset (list_of children))

    then-made : (t : Bool) (made given : List Item × Item) → (if t then Some made else None) ≡ Some given → made ≡ given
    then-made true made given e = cc
    then-made false made given e = absurd cc
split-flat offset shell (item ∷ next ∷ rest) new r e = absurd cc

split-flat-at : (path : List ℕ) (offset : ℕ) (shell : Item) (xs ys : List Item) (r : Item) → split_path path offset shell xs ≡ Some (ys, r)
    → depth_of ys ≤ depth_of xs
split-flat-at [] offset shell xs ys r e = absurd cc
split-flat-at (index ∷ path) offset shell xs ys r e =
    at-depths (split_at (offset_of (index ∷ path)) offset (λ _. shell))
    (λ xs ys r. replace-depths (one_item (λ item. split_item offset shell item)) (λ run new r. split-flat offset shell run new r)
    (offset_of (index ∷ path)) 1 xs ys r)
    (parent_of (index ∷ path)) xs ys r e

pub split_stays : (path : List ℕ) (offset : ℕ) (shells xs ys : List Item) → changed (split_with path offset shells xs) ≡ Some ys
    → IfSome (changed (split_with path offset shells xs)) (λ made. count_of made < 2 ^ 32)
    → IsTree xs → IsTree ys
split_stays path offset shells xs ys e few t =
    let m = map-some (λ (both : List Item × Item). both.0) (split_with path offset shells xs) ys e in
    let s = then-some (λ shell. split_path path offset shell xs) (shell_of shells) m.0 m.1 in
    let flat = split-flat-at path offset s.0 xs m.0.0 m.0.1 s.2 in
    record { few = subst (λ (o : Option (List Item)). IfSome o (λ made. count_of made < 2 ^ 32)) e few; flat = omega (arith, flat, t.flat, ap depth_of m.2) }

-- a split makes one item more
split-more : (offset : ℕ) (shells : List Item) (shell : Item) → shell_of shells ≡ Some shell → (run new : List Item) (r : Item)
    → one_item (λ item. split_item offset shell item) run ≡ Some (new, r) → count_of new + 0 ≡ count_of run + 1
split-more offset shells shell s [] new r e = absurd cc
split-more offset shells shell s (character scalar attributes ∷ []) new r e = absurd cc
split-more offset shells shell s (element id name attributes children ∷ []) new r e =
    let kids = list_of children in
    let made : List Item × Item = (element id name attributes (items_of (take offset kids)) ∷ with_inner (drop offset kids) shell ∷ [], shell) in
    let p : made ≡ (new, r) = then-made (nat_le offset (length kids)) made (new, r) e in
    let all = ap count_of (take-append-drop offset kids) in
    omega (
      arith,
      ap (λ (q : List Item × Item). count_of q.0) p,
      behind shells shell s (drop offset kids),
      count-inner (take offset kids),
      count-append (take offset kids) (drop offset kids),
      all,
      count-list children,
    )
  where
    behind : (shells : List Item) (shell : Item) → shell_of shells ≡ Some shell → (items : List Item) → item_count (with_inner items shell) ≡ 1 + count_of items
    behind [] shell s items = absurd cc
    behind (character scalar attributes ∷ []) shell s items = absurd cc
    behind (element id name attributes none ∷ []) shell s items =
        let same : ◌≡◌ {A = Item} (element id name attributes none) shell = cc in
        ap (λ one. item_count (with_inner items one)) (sym same) ∙ ap (λ n. 1 + n) (count-inner items)
    behind (element id name attributes (more item rest) ∷ []) shell s items = absurd cc
    behind (item ∷ next ∷ rest) shell s items = absurd cc

    then-made : (t : Bool) (made given : List Item × Item) → (if t then Some made else None) ≡ Some given → made ≡ given
    then-made true made given e = cc
    then-made false made given e = absurd cc
split-more offset shells shell s (item ∷ next ∷ rest) new r e = absurd cc

split_count : (path : List ℕ) (offset : ℕ) (shells xs ys : List Item) → changed (split_with path offset shells xs) ≡ Some ys → count_of ys ≡ count_of xs + 1
split_count path offset shells xs ys e =
    let m = map-some (λ (both : List Item × Item). both.0) (split_with path offset shells xs) ys e in
    let s = then-some (λ shell. split_path path offset shell xs) (shell_of shells) m.0 m.1 in
    go path s.0 s.1 m.0 s.2 m.2
  where
    go : (path : List ℕ) (shell : Item) → shell_of shells ≡ Some shell → (made : List Item × Item) → split_path path offset shell xs ≡ Some made
        → made.0 ≡ ys → count_of ys ≡ count_of xs + 1
    go [] shell s made e is = absurd cc
    go (index ∷ path) shell s made e is =
        let counts = at-counts (split_at (offset_of (index ∷ path)) offset (λ _. shell)) (λ _. 0) (λ _. 1)
        (λ xs ys r. replace-counts (one_item (λ item. split_item offset shell item)) (λ _. 0) (λ _. 1)
        (λ run new r. split-more offset shells shell s run new r) (offset_of (index ∷ path)) 1 xs ys r)
        (parent_of (index ∷ path)) xs made.0 made.1 e in
        omega (arith, counts, ap count_of is)
