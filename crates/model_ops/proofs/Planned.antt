-- What operations plan.
use Rattle.std.proofs.Common.{◌≡◌, ◌≢◌, ℕ, Bool, true, false, not, List, [], ◌∷◌, ◌++◌, Option, Some, None, option_and_then, ok_or, Result, Ok, Err, refl, sym}
use Rattle.std.proofs.Common.{ap, ◌∙◌, subst}
use Rattle.std.specs.Prelude.{is_some}
use Rattle.item_definitions.specs.Item.{Item}
use Rattle.item_definitions.specs.Children.{parent_of, offset_of, at}
use Rattle.item_definitions.specs.Shift.{carry_remove}
use Rattle.operation_definitions.specs.Level.{put_in, take_out}
use Rattle.operation_definitions.specs.Operation as meant
use Rattle.operation_definitions.specs.Operation.{in_tree, insert, move, no_place, into_itself}
use Rattle.operation_definitions.specs.After.{◌>>=◌, check, effect, room_at, is_in_run}
use Rattle.model_tree.specs.Places.{Gives}
use Rattle.model_tree.specs.Limits.{changed, moved}
use Rattle.model_tree.specs.declared.fault.TreeFault.{TreeFault}
use Rattle.model_tree.specs.declared.fault.TreeFault.TheVariants as tree_fault
use Rattle.model_ops.specs.declared.fault.OpFault.{OpFault}
use Rattle.model_ops.specs.declared.fault.OpFault.TheVariants.{NoPlace, NoMemory}
use Rattle.model_ops.specs.declared.plans.Change.{Change}
use Rattle.model_ops.specs.Effects.{Plans, State, refusal, fault_of, placed}

-- a change of the tree alone
pub kept_made : (wanted : Option (List Item)) (items : List Item) (cells : List (List Item)) → wanted ≡ Some items
    → (placed wanted cells ≡ Ok (items, cells)) × Unit {0}
kept_made wanted items cells e = (ap (λ o. placed o cells) e, tt)

pub kept_fault : (wanted : Option (List Item)) (cells : List (List Item)) (fault : TreeFault) → Gives {A = List Item} wanted (Err fault)
    → fault_of fault ≢ NoMemory → refusal (placed wanted cells) ≡ Some (fault_of fault)
kept_fault wanted cells tree_fault.NoPlace g h = ap (λ o. refusal (placed o cells)) g
kept_fault wanted cells tree_fault.NoMemory g h = absurd (h refl)

-- the last step of an operation that leaves the cells
pub placed-is : {R : Type 0} (o : Option (List Item × R)) (cells : List (List Item)) → (ok_or o no_place >>= (λ made. Ok (made.0, cells)))
    ≡ placed (changed o) cells
placed-is None cells = refl
placed-is (Some made) cells = refl

pub insert_plans : (parent : List ℕ) (offset : ℕ) (position : List ℕ) (new xs : List Item) (cells : List (List Item)) (result : Result Change OpFault)
    → parent ≡ parent_of position → offset ≡ offset_of position
    → Plans (placed (changed (at parent (put_in offset new) xs)) cells) cells result → Plans (effect xs cells (insert position new)) cells result
insert_plans parent offset position new xs cells result p o h =
    subst (λ wanted. Plans wanted cells result) ((λ i. placed (changed (at (p i) (put_in (o i) new) xs)) cells)
    ∙ sym (placed-is (at (parent_of position) (put_in (offset_of position) new) xs) cells)) h

-- a step with an option that has something, or nothing
step-none : {A B : Type 0} (o : Option A) (fault : meant.Fault) (next : A → Result B meant.Fault) → is_some o ≡ false → (ok_or o fault >>= next) ≡ Err fault
step-none None fault next e = refl
step-none (Some x) fault next e = absurd cc

step-there : {A B : Type 0} (o : Option A) (fault : meant.Fault) (next : A → Result B meant.Fault) (answer : Result B meant.Fault) → is_some o ≡ true
    → ((x : A) → o ≡ Some x → next x ≡ answer) → (ok_or o fault >>= next) ≡ answer
step-there None fault next answer e f = absurd cc
step-there (Some x) fault next answer e f = f x refl

step-not : {B : Type 0} (b : Bool) (fault : meant.Fault) (next : Unit {0} → Result B meant.Fault) → b ≡ false → (check b fault >>= next) ≡ Err fault
step-not b fault next e = ap (λ t. check t fault >>= next) e

-- what is refused is refused in the code's words
pub refused : {A : Type 0} (wanted : Result A meant.Fault) (fault : meant.Fault) → wanted ≡ Err fault → refusal wanted ≡ refusal {A = A} (Err fault)
refused wanted fault e = ap refusal e

module _ (from : List ℕ) (count : ℕ) (to : List ℕ) (xs : List Item) (cells : List (List Item)) where
  abbrev last : List Item × List Item → Result State meant.Fault
  last taken = ok_or (at (parent_of (carry_remove from count to)) (put_in (offset_of (carry_remove from count to)) taken.1) taken.0) no_place
      >>= (λ m. Ok (m.0, cells))

  move-is : is_some (at (parent_of from) (take_out (offset_of from) count) xs) ≡ true → is_some (room_at xs to) ≡ true → is_in_run from count to ≡ false
      → effect xs cells (move (in_tree from) count (in_tree to)) ≡ placed (moved from count to xs) cells
  move-is e h b = go (at (parent_of from) (take_out (offset_of from) count) xs) (room_at xs to) e h
    where
      go : (o : Option (List Item × List Item)) (there : Option (List Item × Unit {0})) → is_some o ≡ true → is_some there ≡ true
          → (ok_or o no_place >>= (λ taken. ok_or there no_place >>= (λ _. check (not (is_in_run from count to)) into_itself >>= (λ _. last taken))))
          ≡ placed (option_and_then (λ taken. option_and_then
          (λ _. changed (at (parent_of (carry_remove from count to)) (put_in (offset_of (carry_remove from count to)) taken.1) taken.0)) there) o) cells
      go None there e h = absurd cc
      go (Some taken) None e h = absurd cc
      go (Some taken) (Some there) e h =
          ap (λ t. check (not t) into_itself >>= (λ _. last taken)) b
          ∙ placed-is (at (parent_of (carry_remove from count to)) (put_in (offset_of (carry_remove from count to)) taken.1) taken.0) cells

  pub move_plans : (parent : List ℕ) (offset : ℕ) (above : List ℕ) (end : ℕ) (result : Result Change OpFault) → parent ≡ parent_of from
      → offset ≡ offset_of from → from ≡ parent ++ offset ∷ [] → to ≡ above ++ end ∷ []
      → is_some (at parent (take_out offset count) xs) ≡ true → is_some (room_at xs to) ≡ true → is_in_run from count to ≡ false
      → Plans (placed (moved (parent ++ offset ∷ []) count (above ++ end ∷ []) xs) cells) cells result
      → Plans (effect xs cells (move (in_tree from) count (in_tree to))) cells result
  move_plans parent offset above end result p o f t e h b g =
      subst (λ wanted. Plans wanted cells result)
      ((λ i. placed (moved (sym f i) count (sym t i) xs) cells) ∙ sym (move-is ((λ i. is_some (at (sym p i) (take_out (sym o i) count) xs)) ∙ e) h b)) g
