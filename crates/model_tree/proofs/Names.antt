-- Changes of one element.
use Rattle.std.proofs.Common.{◌≡◌, ℕ, zero, suc, ◌+◌, ◌≤◌, true, List, [], ◌∷◌, ◌++◌, length, take, drop, Option, Some, None, option_and_then, slice_get, refl}
use Rattle.std.proofs.Common.{sym, ap, ◌∙◌, subst, arith, Result}
use Rattle.std.specs.Prelude.{is_some}
use Rattle.item_definitions.specs.Item.{Item, character, element, list_of, items_of}
use Rattle.item_definitions.specs.Children.{parent_of, offset_of, children_at, at}
use Rattle.operation_definitions.specs.Level.{replace, one_item, renamed, rename_at}
use Rattle.operation_definitions.proofs.Lifting.{items_of-list_of}
use Rattle.model_tree.specs.Parts.{HeadParts}
use Rattle.model_tree.specs.Places.{parts_of, put_run, Gives}
use Rattle.model_tree.specs.Limits.{changed, renamed_at}
use Rattle.model_tree.specs.declared.fault.TreeFault.{TreeFault}
use Rattle.model_tree.proofs.AtPaths.{at-fails}
use Rattle.model_tree.proofs.Puts.{nowhere, memory, changed_gives, run-fails}

-- one item behind an index, as a list
pub one-there : (xs : List Item) (index : ℕ) (item : Item) → slice_get xs index ≡ Some item → take 1 (drop index xs) ≡ item ∷ []
one-there [] index item e = absurd cc
one-there (x ∷ xs) zero item e = (let same : x ≡ item = cc in ap (λ y. y ∷ []) same)
one-there (x ∷ xs) (suc index) item e = one-there xs index item e

none-there : (xs : List Item) (index : ℕ) → slice_get xs index ≡ None → take 1 (drop index xs) ≡ []
none-there [] zero e = refl
none-there [] (suc index) e = refl
none-there (x ∷ xs) zero e = absurd cc
none-there (x ∷ xs) (suc index) e = none-there xs index e

pub fits : (xs : List Item) (index : ℕ) (item : Item) → slice_get xs index ≡ Some item → index + 1 ≤ length xs
fits [] index item e = absurd cc
fits (x ∷ xs) zero item e = omega arith
fits (x ∷ xs) (suc index) item e = omega (arith, fits xs index item e)

-- a change that is for elements alone, where none stands
pub no-one : {R : Type 0} (f : Item → Option (List Item × R)) → ((item : Item) → None ≡ parts_of item → f item ≡ None) → (xs : List Item) (index : ℕ)
    → None ≡ option_and_then parts_of (slice_get xs index)
    → replace index 1 (one_item f) xs ≡ None
no-one f not xs index e = run-fails (one_item f) index 1 xs (gone (slice_get xs index) refl e)
  where
    gone : (o : Option Item) → slice_get xs index ≡ o → None ≡ option_and_then parts_of o → one_item f (take 1 (drop index xs)) ≡ None
    gone None s e = ap (one_item f) (none-there xs index s)
    gone (Some item) s e = ap (one_item f) (one-there xs index item s) ∙ not item e

-- the element that was read
pub record ThisOne (xs : List Item) (index : ℕ) (head : HeadParts) (children : List Item) : Type 0 where
  pub run : take 1 (drop index xs) ≡ element head.id head.name head.attributes (items_of children) ∷ []
  pub room : index + 1 ≤ length xs

pub this_one : (xs : List Item) (index : ℕ) (head : HeadParts) (children : List Item) → Some (head, children)
    ≡ option_and_then parts_of (slice_get xs index) → ThisOne xs index head children
this_one xs index head children e = go (slice_get xs index) refl e
  where
    item-is : (item : Item) → Some (head, children) ≡ parts_of item → item ≡ element head.id head.name head.attributes (items_of children)
    item-is (character scalar attributes) e = absurd cc
    item-is (element id name attributes kids) e =
        let p : ◌≡◌ {A = HeadParts × List Item} (head, children) (record { id = id; name = name; attributes = attributes }, list_of kids) = cc in
        sym (ap (λ (q : HeadParts × List Item). element q.0.id q.0.name q.0.attributes (items_of q.1)) p
        ∙ ap (element id name attributes) (items_of-list_of kids))

    go : (o : Option Item) → slice_get xs index ≡ o → Some (head, children) ≡ option_and_then parts_of o → ThisOne xs index head children
    go None s e = absurd cc
    go (Some item) s e = record { run = one-there xs index item s ∙ ap (λ i. i ∷ []) (item-is item e); room = fits xs index item s }

not-renamed : (name : List ℕ) (item : Item) → None ≡ parts_of item → renamed name item ≡ None
not-renamed name (character scalar attributes) e = refl
not-renamed name (element id old attributes children) e = absurd cc

module _ (path : List ℕ) (offset : ℕ) (name : List ℕ) (xs : List Item) where
  pub rename_nowhere : children_at path xs ≡ None → changed (at path (rename_at offset name) xs) ≡ None
  rename_nowhere e = ap changed (nowhere (one_item (renamed name)) path offset 1 xs e)

  pub rename_no_element : (level : List Item) → children_at path xs ≡ Some level → None ≡ option_and_then parts_of (slice_get level offset)
      → changed (at path (rename_at offset name) xs) ≡ None
  rename_no_element level e h = ap changed (at-fails (rename_at offset name) path xs level e (no-one (renamed name) (not-renamed name) level offset h))

  pub rename_gives : (level new : List Item) (head : HeadParts) (children : List Item) (result : Result (List Item) TreeFault) → children_at path xs
      ≡ Some level
      → Some (head, children) ≡ option_and_then parts_of (slice_get level offset) → new ≡ element head.id name head.attributes (items_of children) ∷ []
      → Gives (put_run path offset 1 new xs) result → Gives (changed (at path (rename_at offset name) xs)) result
  rename_gives level new head children result e h n g =
      let one = this_one level offset head children h in
      changed_gives (one_item (renamed name)) path offset 1 xs level new head.name result e (ap (one_item (renamed name)) one.run
      ∙ ap (λ items. Some (items, head.name)) (sym n)) g

  pub rename_there : (level : List Item) (head : HeadParts) (children : List Item) → children_at path xs ≡ Some level → Some (head, children)
      ≡ option_and_then parts_of (slice_get level offset)
      → is_some (changed (at path (rename_at offset name) xs)) ≡ true
  rename_there level head children e h =
      let one = this_one level offset head children h in
      changed_some (at path (rename_at offset name) xs)
      (memory (one_item (renamed name)) path offset 1 xs level (element head.id name head.attributes (items_of children) ∷ []) head.name e one.room
      (ap (one_item (renamed name)) one.run))
    where
      changed_some : (o : Option (List Item × List ℕ)) → is_some o ≡ true → is_some (changed o) ≡ true
      changed_some None e = e
      changed_some (Some made) e = refl

-- the element at a path is the one at its last number in the element at the others
renamed-last : (parent : List ℕ) (offset : ℕ) (name : List ℕ) (xs : List Item) → renamed_at (parent ++ offset ∷ []) name xs
    ≡ at parent (rename_at offset name) xs
renamed-last [] offset name xs = refl
renamed-last (index ∷ parent) offset name xs = λ i. at (parent-is index parent offset i) (rename_at (offset-is index parent offset i) name) xs
  where
    parent-is : (index : ℕ) (parent : List ℕ) (offset : ℕ) → parent_of (index ∷ (parent ++ offset ∷ [])) ≡ index ∷ parent
    parent-is index [] offset = refl
    parent-is index (next ∷ parent) offset = ap (λ p. index ∷ p) (parent-is next parent offset)

    offset-is : (index : ℕ) (parent : List ℕ) (offset : ℕ) → offset_of (index ∷ (parent ++ offset ∷ [])) ≡ offset
    offset-is index [] offset = refl
    offset-is index (next ∷ parent) offset = offset-is next parent offset

pub renamed_last : (parent : List ℕ) (offset : ℕ) (path name : List ℕ) (xs : List Item) (result : Result (List Item) TreeFault) → path ≡ parent ++ offset ∷ []
    → Gives (changed (at parent (rename_at offset name) xs)) result → Gives (changed (renamed_at path name xs)) result
renamed_last parent offset path name xs result is g = subst (λ o. Gives (changed o) result)
    (sym (ap (λ p. renamed_at p name xs) is ∙ renamed-last parent offset name xs)) g
