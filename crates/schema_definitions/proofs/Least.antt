-- The tests are the relations: each finds exactly what the least relation with its rules has.
use Rattle.std.proofs.Common.{◌≡◌, ◌↔◌, ℕ, List, [], ◌∷◌, true, IsTrue, sym, ◌∙◌, subst, inl, inr}
use Rattle.std.proofs.lemmas.Bool.{or_cases, or_left, or_right}
use Rattle.schema_definitions.specs.declared.file.Entry.{Entry}
use Rattle.schema_definitions.specs.declared.file.Property.TheVariants.{AllowIn, AllowChildren, AllowAttributes, AllowWhere, AllowContentOf, AllowAttributesOf}
use Rattle.schema_definitions.specs.declared.file.Property.TheVariants.{InheritTypesFrom}
use Rattle.schema_definitions.specs.declared.file.Flag.{Flag}
use Rattle.schema_definitions.specs.Names.{has, leads, turned, targets}
use Rattle.schema_definitions.specs.Reachable.{reachable}
use Rattle.schema_definitions.specs.Entries.{pairs, leaves_open}
use Rattle.schema_definitions.specs.Relations.{StandsIn, allowed_in, allowed_child, like_another, content_of, MayHave, allowed, attributes_of, HasFlag}
use Rattle.schema_definitions.specs.Relations.{writes_it, inherits_it}
use Rattle.schema_definitions.specs.Rules.{placements, children_of, stands_in, keys_of, may_have, open_pairs, items_with, has_flag}
use Rattle.schema_definitions.proofs.Members.{has_first, has_only}
use Rattle.schema_definitions.proofs.Reach.{reachable_start, reachable_step, reachable_least}
use Rattle.schema_definitions.proofs.Pairs.{leads-append, leads-turned, leads-pairs, targets_found, targets_all, leads_passing, leads_passed, has-writers}

module _ (entries : List Entry) where
  -- the parents whose content a parent has
  abbrev contents_of : List ℕ → List (List ℕ)
  contents_of parent = reachable (pairs entries AllowContentOf) (parent ∷ [])

  -- an item is placed in a parent by the one's entries or the other's
  placed_in : (parent item : List ℕ) → leads (placements entries) parent item ≡ true → StandsIn entries item parent
  placed_in parent item h = elim (or_cases (leads (turned (pairs entries AllowIn)) parent item) (leads (pairs entries AllowChildren) parent item)
      (sym (leads-append (turned (pairs entries AllowIn)) (pairs entries AllowChildren) parent item) ∙ h)) [
        | inl by_item ↦ allowed_in (sym (leads-pairs entries AllowIn item parent) ∙ sym (leads-turned (pairs entries AllowIn) parent item) ∙ by_item)
        | inr by_parent ↦ allowed_child (sym (leads-pairs entries AllowChildren parent item) ∙ by_parent)
      ]

  -- what stands in a parent whose content another has stands in the other
  has_content : (parent other : List ℕ) → has (contents_of parent) other ≡ true → (item : List ℕ) → StandsIn entries item other → StandsIn entries item parent
  has_content parent other h = reachable_least (pairs entries AllowContentOf) (parent ∷ []) (λ p. (item : List ℕ) → StandsIn entries item p
      → StandsIn entries item parent)
      (λ name g item s. subst (λ p. StandsIn entries item p) (sym (has_only parent name g)) s)
      (λ a b l above item s. above item (content_of (sym (leads-pairs entries AllowContentOf a b) ∙ l) s))
      other h

  stands_from_test : (item parent : List ℕ) → stands_in entries item parent ≡ true → StandsIn entries item parent
  unfolding children_of
  stands_from_test item parent h = reachable_least (turned (pairs entries AllowWhere)) (targets (placements entries) (contents_of parent))
      (λ name. StandsIn entries name parent)
      (λ name g. let found = targets_found (placements entries) (contents_of parent) name g
      in has_content parent found.0 found.1.0 name (placed_in found.0 name found.1.1))
      (λ a b l s. like_another (sym (leads-pairs entries AllowWhere b a) ∙ sym (leads-turned (pairs entries AllowWhere) a b) ∙ l) s)
      item h

  placed_from : (parent item : List ℕ) (other : List ℕ) → has (contents_of parent) other ≡ true → leads (placements entries) other item ≡ true
      → stands_in entries item parent ≡ true
  unfolding children_of
  placed_from parent item other h l = reachable_start (turned (pairs entries AllowWhere)) (targets (placements entries) (contents_of parent)) item
      (targets_all (placements entries) (contents_of parent) other item h l)

  -- each rule is met by the test, at each parent whose content the parent has
  test_within : (parent : List ℕ) {item other : List ℕ} → StandsIn entries item other → has (contents_of parent) other ≡ true
      → stands_in entries item parent ≡ true
  unfolding children_of
  test_within parent {item} {other} (allowed_in l) h = placed_from parent item other h
      (leads-append (turned (pairs entries AllowIn)) (pairs entries AllowChildren) other item
      ∙ or_left (leads (turned (pairs entries AllowIn)) other item) (leads (pairs entries AllowChildren) other item)
      (leads-turned (pairs entries AllowIn) other item ∙ leads-pairs entries AllowIn item other ∙ l))
  test_within parent {item} {other} (allowed_child l) h = placed_from parent item other h
      (leads-append (turned (pairs entries AllowIn)) (pairs entries AllowChildren) other item
      ∙ or_right (leads (turned (pairs entries AllowIn)) other item) (leads (pairs entries AllowChildren) other item)
      (leads-pairs entries AllowChildren other item ∙ l))
  test_within parent {item} (like_another {other = like} l s) h = reachable_step (turned (pairs entries AllowWhere))
      (targets (placements entries) (contents_of parent)) like item (leads-turned (pairs entries AllowWhere) like item
      ∙ leads-pairs entries AllowWhere item like ∙ l) (test_within parent s h)
  test_within parent {item} {other} (content_of {other = from} l s) h = test_within
      parent s (reachable_step (pairs entries AllowContentOf) (parent ∷ []) other from (leads-pairs entries AllowContentOf other from ∙ l) h)

  pub stands_in_is : (item parent : List ℕ) → IsTrue (stands_in entries item parent) ↔ StandsIn entries item parent
  stands_in_is item parent = (
    stands_from_test item parent,
    λ s. test_within
        parent s (reachable_start (pairs entries AllowContentOf) (parent ∷ []) parent (has_first parent [])),
  )

  -- the items whose attributes an item has
  abbrev sources_of : List ℕ → List (List ℕ)
  sources_of item = reachable (pairs entries AllowAttributesOf) (item ∷ [])

  has_attributes : (key item other : List ℕ) → has (sources_of item) other ≡ true → MayHave entries key other → MayHave entries key item
  has_attributes key item other h = reachable_least (pairs entries AllowAttributesOf) (item ∷ []) (λ name. MayHave entries key name → MayHave entries key item)
      (λ name g m. subst (λ i. MayHave entries key i) (sym (has_only item name g)) m)
      (λ a b l above m. above (attributes_of (sym (leads-pairs entries AllowAttributesOf a b) ∙ l) m))
      other h

  may_have_from_test : (key item : List ℕ) → may_have entries key item ≡ true → MayHave entries key item
  unfolding keys_of
  may_have_from_test key item h = let found = targets_found (pairs entries AllowAttributes) (sources_of item) key h
      in has_attributes key item found.0 found.1.0 (allowed (sym (leads-pairs entries AllowAttributes found.0 key) ∙ found.1.1))

  may_have_within : (key item : List ℕ) {other : List ℕ} → MayHave entries key other → has (sources_of item) other ≡ true → may_have entries key item ≡ true
  unfolding keys_of
  may_have_within key item {other} (allowed l) h = targets_all (pairs entries AllowAttributes) (sources_of item) other key h
      (leads-pairs entries AllowAttributes other key ∙ l)
  may_have_within key item {other} (attributes_of {other = from} l m) h = may_have_within
      key item m (reachable_step (pairs entries AllowAttributesOf) (item ∷ []) other from (leads-pairs entries AllowAttributesOf other from ∙ l) h)

  pub may_have_is : (key item : List ℕ) → IsTrue (may_have entries key item) ↔ MayHave entries key item
  may_have_is key item = (
    may_have_from_test key item,
    λ m. may_have_within
        key item m (reachable_start (pairs entries AllowAttributesOf) (item ∷ []) item (has_first item [])),
  )

  module _ (flag : Flag) where
    flag_from_test : (item : List ℕ) → has_flag entries flag item ≡ true → HasFlag entries flag item
    unfolding items_with
    flag_from_test item h = reachable_least (turned (open_pairs entries flag)) _ (λ name. HasFlag entries flag name)
        (λ name g. writes_it (sym (has-writers entries flag name) ∙ g))
        (λ a b l m. let both = leads_passing (leaves_open entries flag) (pairs entries InheritTypesFrom) b a
        (sym (leads-turned (open_pairs entries flag) a b) ∙ l) in inherits_it both.0 (sym (leads-pairs entries InheritTypesFrom b a) ∙ both.1) m)
        item h

    flag_within : {item : List ℕ} → HasFlag entries flag item → has_flag entries flag item ≡ true
    unfolding items_with
    flag_within {item} (writes_it s) = reachable_start (turned (open_pairs entries flag)) _ item (has-writers entries flag item ∙ s)
    flag_within {item} (inherits_it {other = from} o l m) = reachable_step (turned (open_pairs entries flag)) _ from item
        (leads-turned (open_pairs entries flag) from item ∙ leads_passed (leaves_open entries flag) (pairs entries InheritTypesFrom) item from o
        (leads-pairs entries InheritTypesFrom item from ∙ l)) (flag_within m)

    pub has_flag_is : (item : List ℕ) → IsTrue (has_flag entries flag item) ↔ HasFlag entries flag item
    has_flag_is item = (flag_from_test item, flag_within)
