-- What a split with a new element plans.
use Rattle.std.proofs.Common.{◌≡◌, ◌≢◌, ℕ, ◌+◌, true, false, nat_le, if◌then◌else◌, List, [], ◌∷◌, ◌++◌, length, take, drop, Option, Some, None, option_map}
use Rattle.std.proofs.Common.{slice_get, ok_or, Result, Ok, refl, sym, ap, ◌∙◌, subst, arith}
use Rattle.item_definitions.specs.Item.{Attributes, Item, character, element, none, list_of, inner}
use Rattle.item_definitions.specs.Children.{Change as ListChange, parent_of, offset_of, children_at, item_at, at}
use Rattle.item_definitions.proofs.Paths.{path-joined}
use Rattle.operation_definitions.specs.Level.{one_item, split_item, split_at}
use Rattle.operation_definitions.specs.Operation as meant
use Rattle.operation_definitions.specs.Operation.{split, fresh, no_place}
use Rattle.operation_definitions.specs.After.{◌>>=◌, check, effect, like}
use Rattle.operation_definitions.proofs.Levels.{item-there, most}
use Rattle.model_tree.specs.Parts.{HeadParts}
use Rattle.model_tree.specs.Reading.{shown_character, shown_element, shown_of}
use Rattle.model_tree.specs.Limits.{changed, split_path, split_with}
use Rattle.model_tree.proofs.AtPaths.{through, at-through, set_in, with_in}
use Rattle.model_tree.proofs.Names.{one-there}
use Rattle.model_tree.proofs.Shown.{item_last, item_nowhere}
use Rattle.model_ops.specs.declared.fault.OpFault.{OpFault}
use Rattle.model_ops.specs.declared.fault.OpFault.TheVariants.{NoPlace}
use Rattle.model_ops.specs.declared.plans.Change.{Change}
use Rattle.model_ops.specs.Effects.{Plans, State, refusal, placed}
use Rattle.model_ops.proofs.Planned.{placed-is}
use Rattle.model_ops.proofs.Renamed.{changed_level}

-- two changes that do the same to the list at a path do the same there
at-same : {R : Type 0} (f g : ListChange R) (path : List ℕ) (xs level : List Item) → children_at path xs ≡ Some level → f level ≡ g level
    → at path f xs ≡ at path g xs
at-same f g [] xs level e h = (let same : xs ≡ level = cc in ap f same ∙ h ∙ ap g (sym same))
at-same f g (index ∷ path) xs level e h =
    let t = through xs index path level e in
    at-through (at path f) xs index t.item t.children t.there t.here
    ∙ ap (λ o. option_map (set_in xs index) (option_map (with_in t.item) o)) (at-same f g path t.children level t.below h)
    ∙ sym (at-through (at path g) xs index t.item t.children t.there t.here)

-- what an element's head makes of a new one like it
shell-like : (id : ℕ) (head : HeadParts) → Item
shell-like id head = element id head.name head.attributes none

module _ (position : List ℕ) (id : ℕ) (xs : List Item) (cells : List (List Item)) where
  abbrev path : List ℕ
  path = parent_of position

  abbrev made_at : Option (List Item × Item)
  made_at = at (parent_of path) (split_at (offset_of path) (offset_of position) (like id)) xs

  abbrev rest : List Item × Item → Result State meant.Fault
  rest made = Ok (made.0, cells)

  -- the position is in an element at a path that isn't empty
  short : (position : List ℕ) → parent_of position ≡ [] → nat_le 2 (length position) ≡ false
  short [] e = refl
  short (x ∷ []) e = refl
  short (x ∷ y ∷ rest) e = absurd cc

  long : (position : List ℕ) → parent_of position ≢ [] → nat_le 2 (length position) ≡ true
  long [] some = absurd (some refl)
  long (x ∷ []) some = absurd (some refl)
  long (x ∷ y ∷ rest) some = most 2 (length (x ∷ y ∷ rest)) (omega arith)

  -- an element stands where a split is made
  element-there : (made : List Item × Item) → made_at ≡ Some made → path ≢ [] → (item : Item) × (kids : List Item) × (item_at path xs ≡ Some item)
      × (inner item ≡ Some kids)
  element-there made e some =
      let d = changed_level (split_at (offset_of path) (offset_of position) (like id)) (parent_of path) xs made.0 made.1 e in
      let t = item-there (offset_of path) (λ item. split_item (offset_of position) (like id item) item) d.level d.new made.1 d.made in
      let k = kids t.0 t.1 made.1 t.3 in
      (t.0, k.0, sym (item_last (parent_of path) (offset_of path) path xs d.level (path-joined path some) d.there) ∙ t.2, k.1)
    where
      kids : (item : Item) (items : List Item) (r : Item) → split_item (offset_of position) (like id item) item ≡ Some (items, r) → (kids : List Item)
          × (inner item ≡ Some kids)
      kids (character scalar attributes) items r e = absurd cc
      kids (element other name attributes children) items r e = (list_of children, refl)

  nowhere : ((head : HeadParts) (count : ℕ) → Some (shown_element head count) ≡ option_map shown_of (item_at path xs) → ⊥)
      → refusal (effect xs cells (split position (fresh id))) ≡ Some NoPlace
  nowhere no_element = go (parent_of position) refl
    where
      shows : (item : Item) (kids : List Item) → inner item ≡ Some kids → item_at path xs ≡ Some item → ⊥
      shows (character scalar attributes) kids e f = cc
      shows (element other name attributes children) kids e f = no_element (record { id = other; name = name; attributes = attributes })
          (length (list_of children)) (sym (ap (option_map shown_of) f))

      made : (o : Option (List Item × Item)) → made_at ≡ o → path ≢ [] → refusal (ok_or o no_place >>= rest) ≡ Some NoPlace
      made None e some = refl
      made (Some both) e some = (let t = element-there both e some in absurd (shows t.0 t.1 t.3 t.2))

      go : (p : List ℕ) → parent_of position ≡ p → refusal (effect xs cells (split position (fresh id))) ≡ Some NoPlace
      go [] e = ap (λ t. refusal {A = State} (check t no_place >>= (λ _. ok_or made_at no_place >>= rest))) (short position e)
      go (index ∷ p) e = ap (λ t. refusal {A = State} (check t no_place >>= (λ _. ok_or made_at no_place >>= rest))) (long position (λ f. cc))
          ∙ made made_at refl (λ f. cc)

  pub split_none : None ≡ option_map shown_of (item_at path xs) → refusal (effect xs cells (split position (fresh id))) ≡ Some NoPlace
  split_none e = nowhere (λ head count f. cc)

  pub split_character : (scalar : ℕ) (attributes : Attributes) → Some (shown_character scalar attributes) ≡ option_map shown_of (item_at path xs)
      → refusal (effect xs cells (split position (fresh id))) ≡ Some NoPlace
  split_character scalar attributes e = nowhere (λ head count f. cc)

  -- a new element like the one that is split is always the same one
  like-is : (head : HeadParts) (count : ℕ) → Some (shown_element head count) ≡ option_map shown_of (item_at path xs) → path ≢ []
      → made_at ≡ at (parent_of path) (split_at (offset_of path) (offset_of position) (λ _. element id head.name head.attributes none)) xs
  like-is head count shown some = at_level (children_at (parent_of path) xs) refl
    where
      same-item : (item : Item) → Some (shown_element head count) ≡ option_map shown_of (Some item)
          → split_item (offset_of position) (like id item) item ≡ split_item (offset_of position) (element id head.name head.attributes none) item
      same-item (character scalar attributes) e = absurd cc
      same-item (element other name attributes children) e =
          let s : shown_element head count ≡ shown_element (record { id = other; name = name; attributes = attributes }) (length (list_of children)) = cc in
          let t : head ≡ record { id = other; name = name; attributes = attributes } = cc in
          ap (λ (h : HeadParts). split_item (offset_of position) (element id h.name h.attributes none) (element other name attributes children)) (sym t)

      in_place : List Item → List Item × Item → List Item × Item
      in_place level made = (take (offset_of path) level ++ (made.0 ++ drop (offset_of path + 1) level), made.1)

      in_level : (level : List Item) → children_at (parent_of path) xs ≡ Some level → (o : Option Item) → slice_get level (offset_of path) ≡ o
          → made_at ≡ at (parent_of path) (split_at (offset_of path) (offset_of position) (λ _. element id head.name head.attributes none)) xs
      in_level level l None s = absurd (let f = item_last (parent_of path) (offset_of path) path xs level (path-joined path some) l in let g = shown
          ∙ ap (option_map shown_of) (sym f ∙ s) in cc)
      in_level level l (Some item) s =
          let f = item_last (parent_of path) (offset_of path) path xs level (path-joined path some) l in
          let run = one-there level (offset_of path) item s in
          let same = same-item item (shown ∙ ap (option_map shown_of) (sym f ∙ s)) in
          let equal : one_item (λ item. split_item (offset_of position) (like id item) item) (take 1 (drop (offset_of path) level))
          ≡ one_item (λ item. split_item (offset_of position) (element id head.name head.attributes none) item) (take 1 (drop (offset_of path) level)) =
          ap (one_item (λ item. split_item (offset_of position) (like id item) item)) run ∙ same
          ∙ sym (ap (one_item (λ item. split_item (offset_of position) (element id head.name head.attributes none) item)) run) in
          at-same (split_at (offset_of path) (offset_of position) (like id))
          (split_at (offset_of path) (offset_of position) (λ _. element id head.name head.attributes none)) (parent_of path) xs level l
          (ap (λ o. if nat_le (offset_of path + 1) (length level)
          then option_map (λ (made : List Item × Item). (take (offset_of path) level ++ (made.0 ++ drop (offset_of path + 1) level), made.1)) o
          else None) equal)

      at_level : (o : Option (List Item)) → children_at (parent_of path) xs ≡ o
          → made_at ≡ at (parent_of path) (split_at (offset_of path) (offset_of position) (λ _. element id head.name head.attributes none)) xs
      at_level None l = absurd (let f = item_nowhere (parent_of path) (offset_of path) path xs (path-joined path some) l in let g = shown
          ∙ ap (option_map shown_of) (sym f) in cc)
      at_level (Some level) l = in_level level l (slice_get level (offset_of path)) refl

  pub split_plans : (head : HeadParts) (count : ℕ) (shells : List Item) (result : Result Change OpFault) → Some (shown_element head count)
      ≡ option_map shown_of (item_at path xs)
      → shells ≡ element id head.name head.attributes none ∷ []
      → Plans (placed (changed (split_with path (offset_of position) shells xs)) cells) cells result
      → Plans (effect xs cells (split position (fresh id))) cells result
  split_plans head count shells result shown is g = subst (λ wanted. Plans wanted cells result) (go (parent_of position) refl) g
    where
      one : Item
      one = element id head.name head.attributes none

      go : (p : List ℕ) → parent_of position ≡ p → placed (changed (split_with path (offset_of position) shells xs)) cells
          ≡ effect xs cells (split position (fresh id))
      go [] e = absurd (let f = shown ∙ ap (λ p. option_map shown_of (item_at p xs)) e in cc)
      go (index ∷ p) e =
          let some : path ≢ [] = λ f. cc in
          ap (λ s. placed (changed (split_with path (offset_of position) s xs)) cells) is
          ∙ ap (λ p. placed (changed (split_path p (offset_of position) (element id head.name head.attributes none) xs)) cells) e
          ∙ ap (λ p. placed (changed (at (parent_of p) (split_at (offset_of p) (offset_of position) (λ _. element id head.name head.attributes none))
          xs)) cells) (sym e)
          ∙ ap (λ o. placed (changed o) cells) (sym (like-is head count shown some))
          ∙ sym (ap (λ t. check t no_place >>= (λ _. ok_or made_at no_place >>= rest)) (long position some) ∙ placed-is made_at cells)

-- the same split, read elsewhere
pub same_split : (read path : List ℕ) (read_offset offset : ℕ) (shells inside xs : List Item) (cells : List (List Item))
    (result : Result Change OpFault) → read ≡ path → read_offset ≡ offset → inside ≡ xs
    → Plans (placed (changed (split_with read read_offset shells inside)) cells) cells result
    → Plans (placed (changed (split_with path offset shells xs)) cells) cells result
same_split read path read_offset offset shells inside xs cells result p o x g = subst (λ wanted. Plans wanted cells result)
    (λ i. placed (changed (split_with (p i) (o i) shells (x i))) cells) g
