-- What a schema allows, by its checks and the least relations of its entries. (After `Schema.checkChild`, `Schema.checkAttribute`, `addChildCheck` and
-- `addAttributeCheck` of CKEditor 5's engine.)
use Rattle.std.specs.Prelude.{◌≡◌, ℕ, List, [], ◌∷◌, ◌++◌, true, Some, None, reverse}
use Rattle.schema_definitions.specs.Relations.{StandsIn, MayHave}
use Rattle.schema_definitions.specs.Allowed.{Rules, child_answer, attribute_answer}

-- An item may stand behind these ancestors, the innermost first.
pub data MayStand (rules : Rules) : List ℕ → List (List ℕ) → Type 0 where
  -- the root has no ancestors
  is_root : {item : List ℕ} → MayStand rules item []
  -- the first check that is about the item there allows it
  check_allows : {item parent : List ℕ} {above : List (List ℕ)} → child_answer rules.checks (reverse (parent ∷ above)) item ≡ Some true
      → MayStand rules item (parent ∷ above)
  -- no check is about it, it may stand in its parent, and its parent may stand where it stands
  parent_allows : {item parent : List ℕ} {above : List (List ℕ)} → child_answer rules.checks (reverse (parent ∷ above)) item ≡ None
      → StandsIn rules.entries item parent
      → MayStand rules parent above → MayStand rules item (parent ∷ above)

-- An item behind these ancestors, which are given from the root on, may have an attribute.
pub data MayHaveThere (rules : Rules) (ancestors : List (List ℕ)) (item key : List ℕ) : Type 0 where
  -- the first check that is about the attribute there allows it
  check_allows_key : attribute_answer rules.checks (ancestors ++ item ∷ []) key ≡ Some true → MayHaveThere rules ancestors item key
  -- no check is about it, and the item may have it
  item_allows_key : attribute_answer rules.checks (ancestors ++ item ∷ []) key ≡ None → MayHave rules.entries key item → MayHaveThere rules ancestors item key
