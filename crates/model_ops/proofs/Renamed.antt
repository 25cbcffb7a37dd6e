-- What a renaming plans.
use Rattle.std.proofs.Common.{◌≡◌, ◌≢◌, ℕ, Bool, true, false, nat_le, List, [], ◌∷◌, length, Option, Some, None, option_map, option_and_then, slice_get, ok_or}
use Rattle.std.proofs.Common.{Result, Ok, nat_eq, refl, sym, ap, ◌∙◌, subst, arith}
use Rattle.std.specs.Prelude.{is_some}
use Rattle.std.specs.Cmp.Lexicographic.{pointwise}
use Rattle.item_definitions.specs.Item.{Attributes, Item, character, element, list_of, inner}
use Rattle.item_definitions.specs.Children.{Change as ListChange, parent_of, offset_of, children_at, item_at, at}
use Rattle.item_definitions.proofs.Paths.{path-joined}
use Rattle.operation_definitions.specs.Level.{renamed, rename_at}
use Rattle.operation_definitions.specs.Operation as meant
use Rattle.operation_definitions.specs.Operation.{rename, no_place, old_differs, found_name}
use Rattle.operation_definitions.specs.After.{◌>>=◌, check, effect}
use Rattle.operation_definitions.proofs.Levels.{item-there, most}
use Rattle.operation_definitions.proofs.Names.{same_numbers, numbers_same}
use Rattle.model_tree.specs.Parts.{HeadParts}
use Rattle.model_tree.specs.Places.{parts_of}
use Rattle.model_tree.specs.Reading.{shown_character, shown_element, shown_of}
use Rattle.model_tree.specs.Limits.{changed, renamed_at}
use Rattle.model_tree.proofs.AtPaths.{inside}
use Rattle.model_tree.proofs.Names.{rename_there}
use Rattle.model_tree.proofs.Shown.{item_last, item_nowhere}
use Rattle.model_ops.specs.declared.fault.OpFault.{OpFault}
use Rattle.model_ops.specs.declared.fault.OpFault.TheVariants.{NoPlace, OldDiffers}
use Rattle.model_ops.specs.declared.fault.Found.TheVariants as found
use Rattle.model_ops.specs.declared.plans.Change.{Change}
use Rattle.model_ops.specs.Effects.{Plans, State, refusal, placed}

-- the list that a change at a path was made to
pub record ChangedLevel {R : Type 0} (f : ListChange R) (path : List ℕ) (xs : List Item) (r : R) : Type 0 where
  pub level : List Item
  pub new : List Item
  pub there : children_at path xs ≡ Some level
  pub made : f level ≡ Some (new, r)

pub changed_level : {R : Type 0} (f : ListChange R) (path : List ℕ) (xs ys : List Item) (r : R) → at path f xs ≡ Some (ys, r) → ChangedLevel f path xs r
changed_level f [] xs ys r e = record { level = xs; new = ys; there = refl; made = e }
changed_level f (index ∷ path) xs ys r e =
    let i = inside xs index (at path f) ys r e in
    let d = changed_level f path i.children i.new r i.made in
    record {
      level = d.level;
      new = d.new;
      there = ap (option_and_then (λ item. option_and_then (children_at path) (inner item))) i.there ∙ ap (option_and_then (children_at path)) i.here ∙ d.there;
      made = d.made;
    }

-- a renaming finds the name of the item that stands at the path
finds : (path new : List ℕ) (xs ys : List Item) (name : List ℕ) → path ≢ [] → at (parent_of path) (rename_at (offset_of path) new) xs ≡ Some (ys, name)
    → (item : Item) × (made : List Item) × (item_at path xs ≡ Some item) × (renamed new item ≡ Some (made, name))
finds path new xs ys name some e =
    let d = changed_level (rename_at (offset_of path) new) (parent_of path) xs ys name e in
    let t = item-there (offset_of path) (renamed new) d.level d.new name d.made in
    (t.0, t.1, sym (item_last (parent_of path) (offset_of path) path xs d.level (path-joined path some) d.there) ∙ t.2, t.3)

-- what is shown of an item that has a name
named : (new : List ℕ) (item : Item) (made : List Item) (name : List ℕ) (head : HeadParts) (count : ℕ) → renamed new item ≡ Some (made, name)
    → Some (shown_element head count) ≡ option_map shown_of (Some item) → name ≡ head.name
named new (character scalar attributes) made name head count e h = absurd cc
named new (element id old attributes children) made name head count e h =
    let q : ◌≡◌ {A = List Item × List ℕ} (element id new attributes children ∷ [], old) (made, name) = cc in
    let p : old ≡ name = ap (λ (both : List Item × List ℕ). both.1) q in
    let s : shown_element head count ≡ shown_element (record { id = id; name = old; attributes = attributes }) (length (list_of children)) = cc in
    let t : head ≡ record { id = id; name = old; attributes = attributes } = cc in
    sym p ∙ sym (ap (λ (h : HeadParts). h.name) t)

module _ (path old new : List ℕ) (xs : List Item) (cells : List (List Item)) where
  abbrev rest : List Item × List ℕ → Result State meant.Fault
  rest made = check (pointwise nat_eq made.1 old) (old_differs (found_name made.1)) >>= (λ _. Ok (made.0, cells))

  by-path : (path : List ℕ) → (check (nat_le 1 (length path)) no_place
      >>= (λ _. ok_or (at (parent_of path) (rename_at (offset_of path) new) xs) no_place >>= rest)) ≡ (ok_or (renamed_at path new xs) no_place >>= rest)
  by-path [] = refl
  by-path (index ∷ path) = ap (λ t. check t no_place >>= (λ _. ok_or (renamed_at (index ∷ path) new xs) no_place >>= rest))
      (most 1 (length (index ∷ path)) (omega arith))

  found_there : (path : List ℕ) (made : List Item × List ℕ) → renamed_at path new xs ≡ Some made → (item : Item) × (items : List Item)
      × (item_at path xs ≡ Some item) × (renamed new item ≡ Some (items, made.1))
  found_there [] made e = absurd cc
  found_there (index ∷ path) made e = finds (index ∷ path) new xs made.0 made.1 (λ f. cc) e

  -- no element stands there
  nowhere : ((head : HeadParts) (count : ℕ) → Some (shown_element head count) ≡ option_map shown_of (item_at path xs) → ⊥)
      → refusal (effect xs cells (rename path old new)) ≡ Some NoPlace
  nowhere none = ap refusal (by-path path) ∙ go (renamed_at path new xs) refl
    where
      shows : (item : Item) (made : List Item) (name : List ℕ) → renamed new item ≡ Some (made, name) → item_at path xs ≡ Some item → ⊥
      shows (character scalar attributes) made name e f = cc
      shows (element id name attributes children) made found e f = none (record { id = id; name = name; attributes = attributes })
          (length (list_of children)) (sym (ap (option_map shown_of) f))

      go : (o : Option (List Item × List ℕ)) → renamed_at path new xs ≡ o → refusal (ok_or o no_place >>= rest) ≡ Some NoPlace
      go None e = refl
      go (Some made) e = (let t = found_there path made e in absurd (shows t.0 t.1 made.1 t.3 t.2))

  pub rename_none : None ≡ option_map shown_of (item_at path xs) → refusal (effect xs cells (rename path old new)) ≡ Some NoPlace
  rename_none e = nowhere (λ head count f. cc)

  pub rename_character : (scalar : ℕ) (attributes : Attributes) → Some (shown_character scalar attributes) ≡ option_map shown_of (item_at path xs)
      → refusal (effect xs cells (rename path old new)) ≡ Some NoPlace
  rename_character scalar attributes e = nowhere (λ head count f. cc)

  module _ (head : HeadParts) (count : ℕ) (shown : Some (shown_element head count) ≡ option_map shown_of (item_at path xs)) where
    name-is : (made : List Item × List ℕ) → renamed_at path new xs ≡ Some made → made.1 ≡ head.name
    name-is made e = (let t = found_there path made e in named new t.0 t.1 made.1 head count t.3 (shown ∙ ap (option_map shown_of) t.2))

    -- it has the old name
    pub rename_plans : (result : Result Change OpFault) → head.name ≡ old → Plans (placed (changed (renamed_at path new xs)) cells) cells result
        → Plans (effect xs cells (rename path old new)) cells result
    rename_plans result same g = subst (λ wanted. Plans wanted cells result) (sym (by-path path ∙ go (renamed_at path new xs) refl)) g
      where
        go : (o : Option (List Item × List ℕ)) → renamed_at path new xs ≡ o → (ok_or o no_place >>= rest) ≡ placed (changed o) cells
        go None e = refl
        go (Some made) e = ap (λ t. check t (old_differs (found_name made.1)) >>= (λ _. Ok (made.0, cells))) (numbers_same made.1 old (name-is made e ∙ same))

    there : (path : List ℕ) → Some (shown_element head count) ≡ option_map shown_of (item_at path xs) → is_some (renamed_at path new xs) ≡ true
    there [] e = absurd cc
    there (index ∷ path) e = at_level (children_at (parent_of (index ∷ path)) xs) refl
      where
        parts : (item : Item) → Some (shown_element head count) ≡ option_map shown_of (Some item) → (children : List Item)
            × (Some (head, children) ≡ parts_of item)
        parts (character scalar attributes) e = absurd cc
        parts (element id name attributes children) e =
            let s : shown_element head count ≡ shown_element (record { id = id; name = name; attributes = attributes }) (length (list_of children)) = cc in
            let t : head ≡ record { id = id; name = name; attributes = attributes } = cc in
            (list_of children, ap (λ h. Some (h, list_of children)) t)

        in_level : (level : List Item) → children_at (parent_of (index ∷ path)) xs ≡ Some level → (o : Option Item)
            → slice_get level (offset_of (index ∷ path)) ≡ o → is_some (renamed_at (index ∷ path) new xs) ≡ true
        in_level level l None s = absurd (let f = item_last (parent_of (index ∷ path)) (offset_of (index ∷ path)) (index ∷ path) xs level
            (path-joined (index ∷ path) (λ g. cc)) l in let none : item_at (index ∷ path) xs ≡ None = sym f ∙ s in let g = e
            ∙ ap (option_map shown_of) none in cc)
        in_level level l (Some item) s =
            let f = item_last (parent_of (index ∷ path)) (offset_of (index ∷ path)) (index ∷ path) xs level (path-joined (index ∷ path) (λ g. cc)) l in
            let p = parts item (e ∙ ap (option_map shown_of) (sym f ∙ s)) in
            some (at (parent_of (index ∷ path)) (rename_at (offset_of (index ∷ path)) new) xs)
            (rename_there (parent_of (index ∷ path)) (offset_of (index ∷ path)) new xs level head p.0 l (p.1 ∙ sym (ap (option_and_then parts_of) s)))
          where
            some : (o : Option (List Item × List ℕ)) → is_some (changed o) ≡ true → is_some o ≡ true
            some None e = e
            some (Some made) e = refl

        at_level : (o : Option (List Item)) → children_at (parent_of (index ∷ path)) xs ≡ o → is_some (renamed_at (index ∷ path) new xs) ≡ true
        at_level None l = absurd (let f = item_nowhere (parent_of (index ∷ path)) (offset_of (index ∷ path)) (index ∷ path) xs
            (path-joined (index ∷ path) (λ g. cc)) l in let g = e ∙ ap (option_map shown_of) (sym f) in cc)
        at_level (Some level) l = in_level level l (slice_get level (offset_of (index ∷ path))) refl

    -- it has another name
    pub rename_differs : (name : List ℕ) → name ≡ head.name → (head.name ≡ old → ⊥) → refusal (effect xs cells (rename path old new))
        ≡ Some (OldDiffers (found.Name name))
    rename_differs name is differ = ap refusal (by-path path) ∙ go (renamed_at path new xs) refl (there path shown)
      where
        test : (seen : List ℕ) → seen ≡ head.name → (t : Bool) → t ≡ pointwise nat_eq seen old → (items : List Item)
            → refusal {A = State} (check t (old_differs (found_name seen)) >>= (λ _. Ok (items, cells))) ≡ Some (OldDiffers (found.Name name))
        test seen f true e items = absurd (differ (sym f ∙ same_numbers seen old (sym e)))
        test seen f false e items = ap (λ n. Some (OldDiffers (found.Name n))) (f ∙ sym is)

        go : (o : Option (List Item × List ℕ)) → renamed_at path new xs ≡ o → is_some o ≡ true → refusal (ok_or o no_place >>= rest)
            ≡ Some (OldDiffers (found.Name name))
        go None e h = absurd cc
        go (Some made) e h = test made.1 (name-is made e) (pointwise nat_eq made.1 old) refl made.0

-- the same renaming, read elsewhere
pub same_rename : (read path new : List ℕ) (inside xs : List Item) (cells : List (List Item)) (result : Result Change OpFault) → read ≡ path → inside ≡ xs
    → Plans (placed (changed (renamed_at read new inside)) cells) cells result → Plans (placed (changed (renamed_at path new xs)) cells) cells result
same_rename read path new inside xs cells result p x g = subst (λ wanted. Plans wanted cells result)
    (λ i. placed (changed (renamed_at (p i) new (x i))) cells) g
