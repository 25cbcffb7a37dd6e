-- What an operation on attributes plans.
use Rattle.std.proofs.Common.{◌≡◌, ◌≢◌, MatchResult, ℕ, ◌+◌, ◌-◌, ◌<◌, ◌≤◌, Bool, true, false, List, length, take, drop, Option, Some, None, option_map, Result}
use Rattle.std.proofs.Common.{Ok, Err, nat_eq, refl, sym, ap, ◌∙◌, subst}
use Rattle.std.specs.Prelude.{is_some}
use Rattle.std.specs.Cmp.Lexicographic.{pointwise}
use Rattle.ck_base.specs.declared.value.Value.{Value as AttributeValue}
use Rattle.ck_base.specs.Entries.{value_of}
use Rattle.item_definitions.specs.Item.{Item, attributes_of}
use Rattle.item_definitions.specs.Children.{parent_of, offset_of, children_at, at}
use Rattle.item_definitions.specs.Position.{Range, IsFlat}
use Rattle.operation_definitions.specs.Level.{give, given}
use Rattle.operation_definitions.specs.Operation as meant
use Rattle.operation_definitions.specs.Operation.{attribute, not_flat}
use Rattle.operation_definitions.specs.After.{◌>>=◌, check, effect, first_other, no_other}
use Rattle.operation_definitions.proofs.Names.{same_numbers, numbers_same}
use Rattle.model_tree.specs.Places.{put_run}
use Rattle.model_tree.specs.Limits.{changed}
use Rattle.model_tree.proofs.AtPaths.{at-run}
use Rattle.model_tree.proofs.Puts.{nowhere, short, there}
use Rattle.model_ops.specs.declared.fault.OpFault.{OpFault}
use Rattle.model_ops.specs.declared.fault.OpFault.TheVariants.{NoPlace, NotFlat, OldDiffers, NoMemory}
use Rattle.model_ops.specs.declared.fault.Found.TheVariants as found
use Rattle.model_ops.specs.declared.plans.Change.{Change}
use Rattle.model_ops.specs.Effects.{Plans, State, refusal, given_if, placed}

module _ (path : List ℕ) (offset count : ℕ) (key : List ℕ) (old new : Option AttributeValue) (xs : List Item) (cells : List (List Item)) where
  -- the run isn't there
  pub give_nowhere : None ≡ children_at path xs → refusal (given_if old key (at path (give offset count key new) xs) cells) ≡ Some NoPlace
  give_nowhere e = ap (λ o. refusal (given_if old key o cells)) (nowhere (λ run. Some (given key new run, run)) path offset count xs (sym e))

  pub give_short : (level : List Item) → Some level ≡ children_at path xs → length level < offset + count
      → refusal (given_if old key (at path (give offset count key new) xs) cells) ≡ Some NoPlace
  give_short level e less = ap (λ o. refusal (given_if old key o cells)) (short (λ run. Some (given key new run, run)) path offset count xs level (sym e) less)

  gives : (level : List Item) → Some level ≡ children_at path xs
      → at path (give offset count key new) xs
      ≡ option_map (λ ys. (ys, take count (drop offset level))) (put_run path offset count (given key new (take count (drop offset level))) xs)
  gives level e = at-run (λ run. Some (given key new run, run)) offset count path xs level (given key new (take count (drop offset level)))
      (take count (drop offset level)) (sym e) refl

  -- an item has another value
  pub give_other : (level run : List Item) (value : Option AttributeValue) → Some level ≡ children_at path xs → offset + count ≤ length level
      → run ≡ take count (drop offset level)
      → Some value ≡ option_map (λ item. value_of key (attributes_of item)) (first_other key old run)
      → refusal (given_if old key (at path (give offset count key new) xs) cells) ≡ Some (OldDiffers (found.Value value))
  give_other level run value e fits r h =
      ap (λ o. refusal (given_if old key o cells)) (gives level e)
      ∙ go (put_run path offset count (given key new (take count (drop offset level))) xs)
      (there path offset count xs level (given key new (take count (drop offset level))) (sym e) fits)
      (first_other key old (take count (drop offset level))) refl
      (h ∙ ap (λ zs. option_map (λ item. value_of key (attributes_of item)) (first_other key old zs)) r)
    where
      go : (o : Option (List Item)) → is_some o ≡ true → (f : Option Item) → first_other key old (take count (drop offset level)) ≡ f
          → Some value ≡ option_map (λ item. value_of key (attributes_of item)) f
          → refusal (given_if old key (option_map (λ ys. (ys, take count (drop offset level))) o) cells) ≡ Some (OldDiffers (found.Value value))
      go None e f s h = absurd cc
      go (Some ys) e None s h = absurd cc
      go (Some ys) e (Some item) s h =
          let same : value ≡ value_of key (attributes_of item) = cc in
          ap (λ f. refusal {A = State} (no_other key f >>= (λ _. Ok (ys, cells)))) s ∙ ap (λ v. Some (OldDiffers (found.Value v))) (sym same)

  -- each item has the old value
  pub give_plans : (level run : List Item) (result : Result Change OpFault) → Some level ≡ children_at path xs → run ≡ take count (drop offset level)
      → None ≡ option_map (λ item. value_of key (attributes_of item)) (first_other key old run)
      → Plans (placed (changed (at path (give offset count key new) xs)) cells) cells result
      → Plans (given_if old key (at path (give offset count key new) xs) cells) cells result
  give_plans level run result e r h g =
      subst (λ wanted. Plans wanted cells result)
      (ap (λ o. placed (changed o) cells) (gives level e)
      ∙ go (put_run path offset count (given key new (take count (drop offset level))) xs) (first_other key old (take count (drop offset level))) refl
      (h ∙ ap (λ zs. option_map (λ item. value_of key (attributes_of item)) (first_other key old zs)) r)
      ∙ sym (ap (λ o. given_if old key o cells) (gives level e))) g
    where
      go : (o : Option (List Item)) (f : Option Item) → first_other key old (take count (drop offset level)) ≡ f
          → None ≡ option_map (λ item. value_of key (attributes_of item)) f
          → placed (changed (option_map (λ ys. (ys, take count (drop offset level))) o)) cells
          ≡ given_if old key (option_map (λ ys. (ys, take count (drop offset level))) o) cells
      go None f s h = refl
      go (Some ys) None s h = sym (ap (λ f. no_other key f >>= (λ _. Ok (ys, cells))) s)
      go (Some ys) (Some item) s h = absurd cc

-- the ends have two parents
pub not_flat_here : (range : Range) (key : List ℕ) (old new : Option AttributeValue) (xs : List Item) (cells : List (List Item)) → (IsFlat range → ⊥)
    → refusal (effect xs cells (attribute range key old new)) ≡ Some NotFlat
not_flat_here range key old new xs cells differ = go (pointwise nat_eq (parent_of range.start) (parent_of range.end)) refl
  where
    go : (t : Bool) → t ≡ pointwise nat_eq (parent_of range.start) (parent_of range.end)
        → refusal (check t not_flat >>=
        (λ _. given_if old key (at (parent_of range.start) (give (offset_of range.start) (offset_of range.end - offset_of range.start) key new) xs)
        cells)) ≡ Some NotFlat
    go true e = absurd (differ (same_numbers (parent_of range.start) (parent_of range.end) (sym e)))
    go false e = refl

pub flat_plans : (range : Range) (key : List ℕ) (old new : Option AttributeValue) (xs : List Item) (cells : List (List Item)) (parent : List ℕ)
    (start count : ℕ) (result : Result Change OpFault) → IsFlat range
    → parent ≡ parent_of range.start → start ≡ offset_of range.start → count ≡ offset_of range.end - start
    → Plans (given_if old key (at parent (give start count key new) xs) cells) cells result → Plans (effect xs cells (attribute range key old new)) cells result
flat_plans range key old new xs cells parent start count result flat p s c g =
    let yes : pointwise nat_eq (parent_of range.start) (parent_of range.end) ≡ true = numbers_same (parent_of range.start) (parent_of range.end) flat in
    let many : count ≡ offset_of range.end - offset_of range.start = c ∙ ap (λ n. offset_of range.end - n) s in
    subst (λ wanted. Plans wanted cells result)
    ((λ i. given_if old key (at (p i) (give (s i) (many i) key new) xs) cells)
    ∙ sym (ap (λ t. check t not_flat
    >>= (λ _. given_if old key (at (parent_of range.start) (give (offset_of range.start) (offset_of range.end - offset_of range.start) key new) xs)
    cells)) yes)) g

-- the refusal with the value that was found
pub differs_plans : (wanted : Result State meant.Fault) (cells : List (List Item)) (result : Result Change OpFault) (value : Option AttributeValue)
    → MatchResult result (λ _. ⊥) (λ fault. fault ≢ NoMemory → fault ≡ OldDiffers (found.Value value))
    → refusal wanted ≡ Some (OldDiffers (found.Value value)) → Plans wanted cells result
differs_plans wanted cells (Ok change) value h e = absurd h
differs_plans wanted cells (Err fault) value h e = λ some. e ∙ ap Some (sym (h some))

-- the same values, read elsewhere
pub same_values : (path : List ℕ) (offset count : ℕ) (key : List ℕ) (read_old old read_new new : Option AttributeValue) (xs : List Item)
    (cells : List (List Item)) (result : Result Change OpFault) → read_old ≡ old → read_new ≡ new
    → Plans (given_if read_old key (at path (give offset count key read_new) xs) cells) cells result
    → Plans (given_if old key (at path (give offset count key new) xs) cells) cells result
same_values path offset count key read_old old read_new new xs cells result o n g = subst (λ wanted. Plans wanted cells result)
    (λ i. given_if (o i) key (at path (give offset count key (n i)) xs) cells) g
