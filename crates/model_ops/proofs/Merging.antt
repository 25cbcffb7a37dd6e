-- What a merge plans.
use Rattle.std.proofs.Common.{◌≡◌, ◌≢◌, ℕ, zero, suc, ◌+◌, ◌-◌, ◌<◌, ◌^◌, min, Bool, true, false, not, IsTrue, ◌↔◌, nat_eq, nat_lt, if◌then◌else◌, List, []}
use Rattle.std.proofs.Common.{◌∷◌, ◌++◌, length, take, drop, Option, Some, None, option_map, option_and_then, slice_get, ok_or, Result, Ok, refl, sym, ap, ◌∙◌}
use Rattle.std.proofs.Common.{arith}
use Rattle.std.specs.Cmp.Lexicographic.{pointwise}
use Rattle.std.proofs.lemmas.Bool.Decides.{nat_tests}
use Rattle.item_definitions.specs.Item.{Item, character, element, list_of, inner}
use Rattle.item_definitions.specs.Children.{parent_of, offset_of, children_at, child_count, at}
use Rattle.item_definitions.proofs.Paths.{parent_of-push, offset_of-push, path-joined, push-some}
use Rattle.operation_definitions.specs.Level.{merge_items, merge_at}
use Rattle.operation_definitions.specs.Operation as meant
use Rattle.operation_definitions.specs.Operation.{merge, not_neighbours, cell_state}
use Rattle.operation_definitions.specs.After.{◌>>=◌, check, effect, is_free, fill}
use Rattle.operation_definitions.proofs.Levels.{replaced}
use Rattle.operation_definitions.proofs.Names.{same_numbers, numbers_same}
use Rattle.model_tree.specs.Limits.{merged}
use Rattle.model_tree.proofs.AtPaths.{through}
use Rattle.model_ops.specs.declared.fault.OpFault.TheVariants.{NotNeighbours, CellState}
use Rattle.model_ops.specs.Effects.{State, refusal, IsLeftEnd}
use Rattle.item_definitions.specs.Position.{path_before}
use Rattle.model_ops.proofs.Renamed.{changed_level}

-- the items of the element that a path goes on to
children-below : (parent : List ℕ) (index : ℕ) (xs level kids : List Item) (item : Item) → children_at parent xs ≡ Some level → slice_get level index
    ≡ Some item → inner item ≡ Some kids → children_at (parent ++ index ∷ []) xs ≡ Some kids
children-below [] index xs level kids item e s h =
    let same : xs ≡ level = cc in
    ap (option_and_then (λ item. option_and_then (children_at []) (inner item))) (ap (λ l. slice_get l index) same ∙ s)
    ∙ ap (option_and_then (children_at [])) h
children-below (first ∷ parent) index xs level kids item e s h =
    let t = through xs first parent level e in
    ap (option_and_then (λ item. option_and_then (children_at (parent ++ index ∷ [])) (inner item))) t.there
    ∙ ap (option_and_then (children_at (parent ++ index ∷ []))) t.here
    ∙ children-below parent index t.children level kids item t.below s h

-- the first of two elements that are merged, and how many items it has
record First (level : List Item) (index count : ℕ) : Type 0 where
  item : Item
  kids : List Item
  there : slice_get level index ≡ Some item
  here : inner item ≡ Some kids
  many : length kids ≡ count

first-of : (level : List Item) (index : ℕ) (new : List Item) (r : Item × ℕ) → merge_items (take 2 (drop index level)) ≡ Some (new, r) → First level index r.1
first-of [] zero new r e = absurd cc
first-of [] (suc index) new r e = absurd cc
first-of (x ∷ []) zero new r e = absurd cc
first-of (character scalar attributes ∷ y ∷ level) zero new r e = absurd cc
first-of (element id name attributes children ∷ character scalar given ∷ level) zero new r e = absurd cc
first-of (element id name attributes children ∷ element other old given kids ∷ level) zero new r e =
    let gives : Option (List Item × (Item × ℕ)) = merge_items (element id name attributes children ∷ element other old given kids ∷ []) in
    let many : option_map (λ (made : List Item × (Item × ℕ)). made.1.1) gives ≡ Some r.1 = ap (option_map (λ (made : List Item × (Item × ℕ)). made.1.1)) e in
    record { item = element id name attributes children; kids = list_of children; there = refl; here = refl; many = cc }
first-of (x ∷ level) (suc index) new r e =
    let f = first-of level index new r e in
    record { item = f.item; kids = f.kids; there = f.there; here = f.here; many = f.many }

module _ (right target : List ℕ) (number : ℕ) (xs : List Item) (cells : List (List Item)) where
  abbrev made_at : Option (List Item × (Item × ℕ))
  made_at = at (parent_of right) (merge_at (offset_of right)) xs

  -- an element that is merged has so many items as the merge tells
  pub left-count : (made : List Item × (Item × ℕ)) → made_at ≡ Some made → child_count xs (path_before right) ≡ Some made.1.1
  left-count made e =
      let d = changed_level (merge_at (offset_of right)) (parent_of right) xs made.0 made.1 e in
      let h = replaced (offset_of right - 1) 2 merge_items d.level d.new made.1 d.made in
      let f = first-of d.level (offset_of right - 1) h.new made.1 h.gives in
      ap (option_map length) (children-below (parent_of right) (offset_of right - 1) xs d.level f.kids f.item d.there f.there f.here) ∙ ap Some f.many

  abbrev last : List Item × (Item × ℕ) → Result State meant.Fault
  last made = check (is_free cells number) (cell_state number) >>= (λ _. Ok (made.0, fill cells number (made.1.0 ∷ [])))

  abbrev end_of : ℕ → List ℕ
  end_of count = parent_of right ++ (offset_of right - 1) ∷ count ∷ []

  abbrev next : List Item × (Item × ℕ) → Result State meant.Fault
  next made = check (pointwise nat_eq target (end_of made.1.1)) not_neighbours >>= (λ _. last made)

  abbrev steps : Bool → Option (List Item × (Item × ℕ)) → Result State meant.Fault
  steps second made = check second not_neighbours >>= (λ _. ok_or made not_neighbours >>= next)

  abbrev both : List Item × (Item × ℕ) → List Item × List Item
  both made = (made.0, made.1.0 ∷ [])

  positive : (n : ℕ) → nat_lt 0 n ≡ true → 0 < n
  positive n e = grind (arith, nat_tests)

  pub end-joined : (front : List ℕ) (index count : ℕ) → front ++ index ∷ count ∷ [] ≡ (front ++ index ∷ []) ++ count ∷ []
  end-joined [] index count = refl
  end-joined (x ∷ front) index count = ap (λ rest. x ∷ rest) (end-joined front index count)

  end-parent : (count : ℕ) → target ≡ end_of count → parent_of target ≡ path_before right
  end-parent count e = ap parent_of (e ∙ end-joined (parent_of right) (offset_of right - 1) count) ∙ parent_of-push (path_before right) count

  end-offset : (count : ℕ) → target ≡ end_of count → offset_of target ≡ count
  end-offset count e = ap offset_of (e ∙ end-joined (parent_of right) (offset_of right - 1) count) ∙ offset_of-push (path_before right) count

  -- the target isn't the end of the element before
  pub merge_apart : (IsLeftEnd right target xs → ⊥) → refusal (effect xs cells (merge right target number)) ≡ Some NotNeighbours
  merge_apart apart = go (nat_lt 0 (offset_of right)) refl made_at refl
    where
      test : (second : nat_lt 0 (offset_of right) ≡ true) (made : List Item × (Item × ℕ)) → made_at ≡ Some made → (t : Bool)
          → t ≡ pointwise nat_eq target (end_of made.1.1)
          → refusal (check t not_neighbours >>= (λ _. last made)) ≡ Some NotNeighbours
      test second made e true t =
          let same = same_numbers target (end_of made.1.1) (sym t) in
          absurd (apart (record {
            second = positive (offset_of right) second;
            before = end-parent made.1.1 same;
            end = ap (child_count xs) (end-parent made.1.1 same) ∙ left-count made e ∙ ap Some (sym (end-offset made.1.1 same));
          }))
      test second made e false t = refl

      go : (s : Bool) → nat_lt 0 (offset_of right) ≡ s → (o : Option (List Item × (Item × ℕ))) → made_at ≡ o → refusal (steps s o) ≡ Some NotNeighbours
      go false s o e = refl
      go true s None e = refl
      go true s (Some made) e = test s made e (pointwise nat_eq target (end_of made.1.1)) refl

  -- there are no two elements to be merged
  pub merge_nowhere : merged right xs ≡ None → refusal (effect xs cells (merge right target number)) ≡ Some NotNeighbours
  merge_nowhere none = go (nat_lt 0 (offset_of right)) made_at none
    where
      go : (s : Bool) (o : Option (List Item × (Item × ℕ))) → (if s then option_map both o else None) ≡ None → refusal (steps s o) ≡ Some NotNeighbours
      go false o e = refl
      go true None e = refl
      go true (Some made) e = absurd cc

  module _ (rest emptied : List Item) (end : IsLeftEnd right target xs) (there : merged right xs ≡ Some (rest, emptied)) where
    -- the merge is made, and the cell is left to be tested
    tested : effect xs cells (merge right target number) ≡ (check (is_free cells number) (cell_state number) >>= (λ _. Ok (rest, fill cells number emptied)))
    tested = go (nat_lt 0 (offset_of right)) made_at refl there
      where
        filled : (made : List Item × (Item × ℕ)) → both made ≡ (rest, emptied)
            → last made ≡ (check (is_free cells number) (cell_state number) >>= (λ _. Ok (rest, fill cells number emptied)))
        filled made e = ap (λ (p : List Item × List Item). check (is_free cells number) (cell_state number) >>= (λ _. Ok (p.0, fill cells number p.1))) e

        target-is : (made : List Item × (Item × ℕ)) → made_at ≡ Some made → pointwise nat_eq target (end_of made.1.1) ≡ true
        target-is made e =
            let count : Some (offset_of target) ≡ Some made.1.1 = sym end.end ∙ ap (child_count xs) end.before ∙ left-count made e in
            let same : offset_of target ≡ made.1.1 = cc in
            numbers_same target (end_of made.1.1)
            (path-joined target (λ root. push-some (parent_of right) (offset_of right - 1) (sym end.before ∙ ap parent_of root))
            ∙ (λ i. end.before i ++ same i ∷ []) ∙ sym (end-joined (parent_of right) (offset_of right - 1) made.1.1))

        go : (s : Bool) (o : Option (List Item × (Item × ℕ))) → made_at ≡ o → (if s then option_map both o else None) ≡ Some (rest, emptied)
            → steps s o ≡ (check (is_free cells number) (cell_state number) >>= (λ _. Ok (rest, fill cells number emptied)))
        go false o e h = absurd cc
        go true None e h = absurd cc
        go true (Some made) e h =
            let p : both made ≡ (rest, emptied) = cc in
            ap (λ t. check t not_neighbours >>= (λ _. last made)) (target-is made e) ∙ filled made p

    pub merge_full : is_free cells number ≡ false → refusal (effect xs cells (merge right target number)) ≡ Some (CellState number)
    merge_full full = ap refusal (tested ∙ ap (λ t. check t (cell_state number) >>= (λ _. Ok (rest, fill cells number emptied))) full)

    pub merge_made : is_free cells number ≡ true → effect xs cells (merge right target number) ≡ Ok (rest, fill cells number emptied)
    merge_made free = tested ∙ ap (λ t. check t (cell_state number) >>= (λ _. Ok (rest, fill cells number emptied))) free

-- two lists that were compared
pub unequal : (xs ys : List ℕ) → true ≡ not (pointwise nat_eq xs ys) → xs ≢ ys
unequal xs ys e same = (let f = ap not (numbers_same xs ys same) in cc)

pub equal : (xs ys : List ℕ) → false ≡ not (pointwise nat_eq xs ys) → xs ≡ ys
equal xs ys e = go (pointwise nat_eq xs ys) refl e
  where
    go : (t : Bool) → pointwise nat_eq xs ys ≡ t → false ≡ not t → xs ≡ ys
    go true t e = same_numbers xs ys t
    go false t e = absurd cc

-- an answer that says no
pub not_end : (right target : List ℕ) (xs : List Item) → (IsLeftEnd right target xs → ⊥) → IsTrue false ↔ IsLeftEnd right target xs
not_end right target xs none = (λ f. absurd cc, λ end. absurd (none end))

-- whether a position is behind the items of the element before another one, where both paths are taken apart
module _ (right target above parent left : List ℕ) (before index count : ℕ) (xs : List Item) (l : left ≡ above ++ before ∷ []) (p : left
    ≡ parent_of target) (o : count ≡ offset_of target) (r : right ≡ parent ++ index ∷ []) where
  right-parent : parent_of right ≡ parent
  right-parent = ap parent_of r ∙ parent_of-push parent index

  right-index : offset_of right ≡ index
  right-index = ap offset_of r ∙ offset_of-push parent index

  pub left_elsewhere : (above ≡ parent → ⊥) → IsLeftEnd right target xs → ⊥
  left_elsewhere differ end = differ (sym (parent_of-push above before) ∙ ap parent_of (sym l ∙ p ∙ end.before)
      ∙ parent_of-push (parent_of right) (offset_of right - 1) ∙ right-parent)

  pub left_other : before + 1 ≢ index → IsLeftEnd right target xs → ⊥
  left_other differ end =
      let same : before ≡ offset_of right - 1 = sym (offset_of-push above before) ∙ ap offset_of (sym l ∙ p ∙ end.before)
      ∙ offset_of-push (parent_of right) (offset_of right - 1) in
      differ (omega (arith, same, right-index, end.second))

  module _ (same : above ≡ parent) (next : before + 1 ≡ index) (level : List Item) (there : Some level ≡ children_at left xs) where
    counted : child_count xs (parent_of target) ≡ Some (length level)
    counted = ap (child_count xs) (sym p) ∙ ap (option_map length) (sym there)

    left_end : length level ≡ count → IsLeftEnd right target xs
    left_end e =
        let less : before ≡ offset_of right - 1 = omega (arith, next, right-index) in
        record {
          second = omega (arith, next, right-index);
          before = sym p ∙ l ∙ (λ i. (same ∙ sym right-parent) i ++ less i ∷ []);
          end = counted ∙ ap Some (e ∙ o);
        }

    left_short : IsLeftEnd right target xs → length level ≡ count
    left_short end = (let f : Some (length level) ≡ Some (offset_of target) = sym counted ∙ end.end in let g : length level ≡ offset_of target = cc in g
        ∙ sym o)

    pub is_end : (long : ℕ) → long ≡ min (length level) (2 ^ 64 - 1) → count < 2 ^ 32 → IsTrue (nat_eq long count) ↔ IsLeftEnd right target xs
    is_end long e small = (λ t. left_end (omega (arith, e, small, same-count t)), λ end. count-same (omega (arith, e, small, left_short end)))
      where
        same-count : IsTrue (nat_eq long count) → long ≡ count
        same-count t = grind (arith, nat_tests)

        count-same : long ≡ count → IsTrue (nat_eq long count)
        count-same e = grind (arith, nat_tests)
