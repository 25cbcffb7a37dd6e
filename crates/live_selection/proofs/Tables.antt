-- A table in the order of its keys, as a finite map.
use Rattle.std.proofs.Common.{◌≡◌, ℕ, List, [], ◌∷◌, refl, ap}
use Rattle.std.specs.Ordering.{match_ordering}
use Rattle.std.specs.FinMap.Entries.{by_order}
use Rattle.std.specs.declared.cmp.Ordering.TheVariants.{Less, Equal, Greater}
use Rattle.std.specs.BTreeMap.{insert_entry}
use Rattle.ck_base.specs.Entries.{name_cmp, with_value}

module _ {V : Type 0} where
  -- an entry goes to its place
  pub put : (entries : List (List ℕ × V)) (key : List ℕ) (value : V) → insert_entry name_cmp entries key value ≡ with_value key value entries
  put [] key value = refl
  put (e ∷ rest) key value =
      elim (name_cmp key e.0) as (λ o. match_ordering o ((key, value) ∷ e ∷ rest) ((e.0, value) ∷ rest) (e ∷ insert_entry name_cmp rest key value)
      ≡ by_order o ((key, value) ∷ e ∷ rest) ((e.0, value) ∷ rest) (e ∷ with_value key value rest)) [
        | Less ↦ refl
        | Equal ↦ refl
        | Greater ↦ ap (λ es. e ∷ es) (put rest key value)
      ]
