-- What the tests of a schema allow is what its checks and the least relations allow.
use Rattle.std.proofs.Common.{◌≡◌, ◌≢◌, ◌↔◌, ℕ, List, [], ◌∷◌, ◌++◌, Bool, true, false, ◌&&◌, IsTrue, Option, Some, None, unwrap_or, reverse, refl, sym, ap}
use Rattle.std.proofs.Common.{◌∙◌}
use Rattle.std.proofs.lemmas.Bool.{and_parts, and_from}
use Rattle.schema_definitions.specs.Rules.{stands_in, may_have}
use Rattle.schema_definitions.specs.Allowed.{Rules, child_answer, attribute_answer, passes, check_child, check_attribute}
use Rattle.schema_definitions.specs.Checked.{MayStand, is_root, check_allows, parent_allows, MayHaveThere, check_allows_key, item_allows_key}
use Rattle.schema_definitions.proofs.Least.{stands_in_is, may_have_is}

module _ (rules : Rules) where
  abbrev answer : List ℕ → List ℕ → List (List ℕ) → Option Bool
  answer item parent above = child_answer rules.checks (reverse (parent ∷ above)) item

  passes_then : (item : List ℕ) (above : List (List ℕ)) → passes rules item above ≡ true → MayStand rules item above
  passes_then item [] e = is_root
  passes_then item (parent ∷ above) e = go (passes_then parent above) (answer item parent above) refl
    where
      go : (passes rules parent above ≡ true → MayStand rules parent above) → (said : Option Bool) → answer item parent above ≡ said
          → MayStand rules item (parent ∷ above)
      go outer None h =
          let both = and_parts (stands_in rules.entries item parent) (passes rules parent above)
          (sym (ap (λ o. unwrap_or o (stands_in rules.entries item parent && passes rules parent above)) h) ∙ e) in
          parent_allows h ((stands_in_is rules.entries item parent).0 both.0) (outer both.1)
      go outer (Some true) h = check_allows h
      go outer (Some false) h = absurd (let f = sym (ap (λ o. unwrap_or o (stands_in rules.entries item parent && passes rules parent above)) h) ∙ e in cc)

  then_passes : (item : List ℕ) (above : List (List ℕ)) → MayStand rules item above → passes rules item above ≡ true
  then_passes item [] stands = refl
  then_passes item (parent ∷ above) (check_allows h) = ap (λ o. unwrap_or o (stands_in rules.entries item parent && passes rules parent above)) h
  then_passes item (parent ∷ above) (parent_allows h stands outer) =
      ap (λ o. unwrap_or o (stands_in rules.entries item parent && passes rules parent above)) h
      ∙ and_from (stands_in rules.entries item parent) (passes rules parent above) ((stands_in_is rules.entries item parent).1 stands)
      (then_passes parent above outer)

  pub check_child_is : (ancestors : List (List ℕ)) (item : List ℕ) → IsTrue (check_child rules ancestors item)
      ↔ ((ancestors ≢ []) × MayStand rules item (reverse ancestors))
  unfolding check_child
  check_child_is [] item = (λ e. cc, λ h. absurd (h.0 refl))
  check_child_is (root ∷ ancestors) item =
      (λ e. (λ f. cc, passes_then item (reverse (root ∷ ancestors)) e), λ h. then_passes item (reverse (root ∷ ancestors)) h.1)

  abbrev key_answer : List (List ℕ) → List ℕ → List ℕ → Option Bool
  key_answer ancestors item key = attribute_answer rules.checks (ancestors ++ item ∷ []) key

  pub check_attribute_is : (ancestors : List (List ℕ)) (item key : List ℕ) → IsTrue (check_attribute rules ancestors item key)
      ↔ MayHaveThere rules ancestors item key
  unfolding check_attribute
  check_attribute_is ancestors item key = (λ e. go (key_answer ancestors item key) refl e, back)
    where
      go : (said : Option Bool) → key_answer ancestors item key ≡ said → unwrap_or (key_answer ancestors item key) (may_have rules.entries key item)
          ≡ true → MayHaveThere rules ancestors item key
      go None h e = item_allows_key h ((may_have_is rules.entries key item).0 (sym (ap (λ o. unwrap_or o (may_have rules.entries key item)) h) ∙ e))
      go (Some true) h e = check_allows_key h
      go (Some false) h e = absurd (let f = sym (ap (λ o. unwrap_or o (may_have rules.entries key item)) h) ∙ e in cc)

      back : MayHaveThere rules ancestors item key → unwrap_or (key_answer ancestors item key) (may_have rules.entries key item) ≡ true
      back (check_allows_key h) = ap (λ o. unwrap_or o (may_have rules.entries key item)) h
      back (item_allows_key h m) = ap (λ o. unwrap_or o (may_have rules.entries key item)) h ∙ (may_have_is rules.entries key item).1 m
