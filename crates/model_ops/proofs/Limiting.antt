-- The limits on the tree, which are tested behind the premises of an operation.
use Rattle.std.proofs.Common.{◌≡◌, ℕ, ◌<◌, ◌≤◌, ◌-◌, ◌^◌, min, Bool, true, false, nat_le, List, Some, Result, Ok, Err, refl, sym, ap, ◌∙◌, subst, arith}
use Rattle.std.proofs.lemmas.Bool.Decides.{nat_tests}
use Rattle.item_definitions.specs.Item.{Item, count_of, depth_of}
use Rattle.operation_definitions.specs.Operation as meant
use Rattle.operation_definitions.specs.Operation.{Operation, too_large, too_deep}
use Rattle.operation_definitions.specs.After.{◌>>=◌, check, effect, limited, after}
use Rattle.model_tree.specs.Limits.{IsTree}
use Rattle.model_ops.specs.declared.fault.OpFault.{OpFault}
use Rattle.model_ops.specs.declared.fault.OpFault.TheVariants.{TooLarge, TooDeep}
use Rattle.model_ops.specs.declared.plans.Change.{Change}
use Rattle.model_ops.specs.Effects.{State, Plans, CanFill, refusal, filled}

not-few : (n m : ℕ) → m < n → nat_le n m ≡ false
not-few n m h = grind (arith, nat_tests)

few : (n m : ℕ) → n ≤ m → nat_le n m ≡ true
few n m h = grind (arith, nat_tests)

at-most : (n m : ℕ) → nat_le n m ≡ true → n ≤ m
at-most n m h = grind (arith, nat_tests)

module _ (items : List Item) (cells : List (List Item)) (count : ℕ) (counted : count ≡ min (count_of items) (2 ^ 64 - 1)) where
  abbrev whole : Result State meant.Fault
  whole = Ok (items, cells)

  pub too_many : 1000000 < count → refusal (limited (items, cells)) ≡ Some (TooLarge count)
  too_many more =
      ap (λ t. refusal (check t (too_large (count_of items))
      >>= (λ _. check (nat_le (depth_of items) 64) (too_deep (depth_of items)) >>= (λ _. whole))))
      (not-few (count_of items) 1000000 (omega (arith, counted, more)))
      ∙ ap (λ n. Some (TooLarge n)) (sym counted)

  module _ (less : count ≤ 1000000) (depth : ℕ) (measured : depth ≡ min (depth_of items) (2 ^ 32 - 1)) where
    first : limited (items, cells) ≡ (check (nat_le (depth_of items) 64) (too_deep (depth_of items)) >>= (λ _. whole))
    first = ap (λ t. check t (too_large (count_of items)) >>= (λ _. check (nat_le (depth_of items) 64) (too_deep (depth_of items)) >>= (λ _. whole)))
        (few (count_of items) 1000000 (omega (arith, counted, less)))

    pub too_low : 64 < depth → refusal (limited (items, cells)) ≡ Some (TooDeep depth)
    too_low more =
        ap refusal first
        ∙ ap (λ t. refusal (check t (too_deep (depth_of items)) >>= (λ _. whole))) (not-few (depth_of items) 64 (omega (arith, measured, more)))
        ∙ ap (λ n. Some (TooDeep n)) (sym measured)

    pub in_limits : depth ≤ 64 → limited (items, cells) ≡ Ok (items, cells)
    in_limits flat =
        first ∙ ap (λ t. check t (too_deep (depth_of items)) >>= (λ _. whole)) (few (depth_of items) 64 (omega (arith, measured, flat)))

-- the limits are tested behind the premises
pub then_limits : (wanted : Result State meant.Fault) (cells : List (List Item)) (change : Change) (result : Result Change OpFault)
    → Plans wanted cells (Ok change)
    → ((cells : List (List Item)) → CanFill change.cell cells → Plans (limited (change.items, filled change.cell cells)) cells result)
    → Plans (wanted >>= limited) cells result
then_limits wanted cells change result plans then = subst (λ made. Plans (made >>= limited) cells result) (sym plans.0) (then cells plans.1)

pub then_fault : (wanted : Result State meant.Fault) (cells : List (List Item)) (fault : OpFault) → Plans wanted cells (Err fault)
    → Plans (wanted >>= limited) cells (Err fault)
then_fault (Ok made) cells fault plans some = absurd (let e = plans some in cc)
then_fault (Err refused) cells fault plans some = plans some

-- what is made keeps to the limits
limited-tree : (wanted : Result State meant.Fault) (made : State) → (wanted >>= limited) ≡ Ok made → IsTree made.0
limited-tree (Err fault) made e = absurd cc
limited-tree (Ok state) made e = go (nat_le (count_of state.0) 1000000) (nat_le (depth_of state.0) 64) refl refl e
  where
    go : (s t : Bool) → nat_le (count_of state.0) 1000000 ≡ s → nat_le (depth_of state.0) 64 ≡ t
        → (check s (too_large (count_of state.0)) >>= (λ _. check t (too_deep (depth_of state.0)) >>= (λ _. Ok state))) ≡ Ok made → IsTree made.0
    go true true s t e =
        let same : state ≡ made = cc in
        subst (λ (state : State). IsTree state.0) same
        (record { few = omega (arith, at-most (count_of state.0) 1000000 s); flat = at-most (depth_of state.0) 64 t })
    go true false s t e = absurd cc
    go false t s u e = absurd cc

pub after_tree : (items : List Item) (cells : List (List Item)) (operation : Operation) (made : State) → after items cells operation ≡ Ok made → IsTree made.0
after_tree items cells operation made e = limited-tree (effect items cells operation) made e
