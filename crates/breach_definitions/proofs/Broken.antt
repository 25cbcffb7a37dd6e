-- The first breach of a document, in the words of what is found at its paths.
use Rattle.std.proofs.Common.{◌≡◌, ℕ, List, [], ◌∷◌, ◌++◌, Bool, true, false, cond, not, ◌&&◌, ◌||◌, ◌==◌, nat_lt, IsTrue, All, Contains, AllPairs, Option}
use Rattle.std.proofs.Common.{Some, None, option_map, map, find, filter, ◌↔◌, inl, inr, refl, sym, ap, ◌∙◌, subst, arith}
use Rattle.std.specs.Option.{option_or}
use Rattle.std.proofs.lemmas.Bool.Decides.{nat_tests}
use Rattle.std.proofs.lemmas.List.Elements.{All-cons, All-nil, All-contains, All-head, All-tail, All-weaker, Contains-append_right, Contains-append_cases}
use Rattle.ck_base.specs.declared.faults.Rule.{Rule}
use Rattle.ck_base.specs.declared.faults.Rule.TheVariants.{Child, Attribute}
use Rattle.ck_base.specs.declared.value.Value.{Value as AttributeValue}
use Rattle.item_definitions.specs.Item.{Item, Attributes, attributes_of}
use Rattle.item_definitions.specs.Children.{item_at}
use Rattle.item_definitions.specs.Position.{is_before, not_after}
use Rattle.item_definitions.proofs.Order.{not_after-cons, not_after-none}
use Rattle.schema_definitions.specs.Allowed.{Rules, check_child, check_attribute}
use Rattle.breach_definitions.specs.declared.spot.Spot.{Spot}
use Rattle.breach_definitions.specs.Breach.{Placed, placed_items, item_name, last_name, broken_rule, breach_of, first_some, breach}
use Rattle.breach_definitions.specs.Spots.{is_listed, breach_at}
use Rattle.breach_definitions.specs.Obeys.{IsAllowed, Breaks, may_not_stand, may_not_have, ancestors_at, Obeys, IsFirstBreach, OthersObey}
use Rattle.breach_definitions.proofs.Placed.{only, first, Earlier, pairs-head, pairs-behind, all_contained, members_are_placed, members_in_order}

-- the first of some attributes whose key fails a test
record FirstDenied (test : List ℕ → Bool) (attributes : Attributes) (key : List ℕ) : Type 0 where
  before : Attributes
  behind : Attributes
  value : AttributeValue
  parts : attributes ≡ before ++ (key, value) ∷ behind
  passed : All (λ (entry : List ℕ × AttributeValue). test entry.0 ≡ true) before
  denied : test key ≡ false

-- the search for it
abbrev search_denied : (List ℕ → Bool) → Attributes → Option (List ℕ)
search_denied test attributes = find (λ key. not (test key)) (map (λ entry. entry.0) attributes)

abbrev Passes : (List ℕ → Bool) → Attributes → Type 0
Passes test attributes = All (λ (entry : List ℕ × AttributeValue). test entry.0 ≡ true) attributes

none_denied : (test : List ℕ → Bool) (attributes : Attributes) → search_denied test attributes ≡ None → Passes test attributes
none_denied test [] e = All-nil (λ (entry : List ℕ × AttributeValue). test entry.0 ≡ true)
none_denied test (entry ∷ attributes) e = go (none_denied test attributes) (test entry.0) refl
  where
    go : (search_denied test attributes ≡ None → Passes test attributes) → (b : Bool) → test entry.0 ≡ b → Passes test (entry ∷ attributes)
    go rest true h =
        All-cons (λ (entry : List ℕ × AttributeValue). test entry.0 ≡ true) entry attributes h
        (rest (ap (λ b. cond (not b) (Some entry.0) (search_denied test attributes)) (sym h) ∙ e))
    go rest false h = absurd (let f = ap (λ b. cond (not b) (Some entry.0) (search_denied test attributes)) (sym h) ∙ e in cc)

all_passed : (test : List ℕ → Bool) (attributes : Attributes) → Passes test attributes → search_denied test attributes ≡ None
all_passed test [] h = refl
all_passed test (entry ∷ attributes) h =
    ap (λ b. cond (not b) (Some entry.0) (search_denied test attributes))
    (All-head (λ (entry : List ℕ × AttributeValue). test entry.0 ≡ true) entry attributes h)
    ∙ all_passed test attributes (All-tail (λ (entry : List ℕ × AttributeValue). test entry.0 ≡ true) entry attributes h)

first_denied : (test : List ℕ → Bool) (attributes : Attributes) (key : List ℕ) → search_denied test attributes ≡ Some key → FirstDenied test attributes key
first_denied test [] key e = cc
first_denied test (entry ∷ attributes) key e = go (first_denied test attributes key) (test entry.0) refl
  where
    go : (search_denied test attributes ≡ Some key → FirstDenied test attributes key) → (b : Bool) → test entry.0 ≡ b
        → FirstDenied test (entry ∷ attributes) key
    go later true h =
        let rest = later (ap (λ b. cond (not b) (Some entry.0) (search_denied test attributes)) (sym h) ∙ e) in
        record {
          before = entry ∷ rest.before;
          behind = rest.behind;
          value = rest.value;
          parts = ap (λ es. entry ∷ es) rest.parts;
          passed = All-cons (λ (entry : List ℕ × AttributeValue). test entry.0 ≡ true) entry rest.before h rest.passed;
          denied = rest.denied;
        }
    go later false h =
        let same : entry.0 ≡ key = (let f = ap (λ b. cond (not b) (Some entry.0) (search_denied test attributes)) (sym h) ∙ e in cc) in
        record {
          before = [];
          behind = attributes;
          value = entry.1;
          parts = ap (λ k. (k, entry.1) ∷ attributes) same;
          passed = All-nil (λ (entry : List ℕ × AttributeValue). test entry.0 ≡ true);
          denied = ap test (sym same) ∙ h;
        }

denied_first : (test : List ℕ → Bool) (before behind : Attributes) (key : List ℕ) (value : AttributeValue) → Passes test before → test key ≡ false
    → search_denied test (before ++ (key, value) ∷ behind) ≡ Some key
denied_first test [] behind key value h d = ap (λ b. cond (not b) (Some key) (search_denied test behind)) d
denied_first test (entry ∷ before) behind key value h d =
    ap (λ b. cond (not b) (Some entry.0) (search_denied test (before ++ (key, value) ∷ behind)))
    (All-head (λ (entry : List ℕ × AttributeValue). test entry.0 ≡ true) entry before h)
    ∙ denied_first test before behind key value (All-tail (λ (entry : List ℕ × AttributeValue). test entry.0 ≡ true) entry before h) d

-- what the rule of an item is, by the answers of the two tests
abbrev rule_by : Bool → Option (List ℕ) → List ℕ → List ℕ → Option Rule
rule_by stands denied name last = cond stands (option_map (λ key. Attribute key name) denied) (Some (Child name last))

module _ (rules : Rules) (placed : Placed) where
  abbrev test : List ℕ → Bool
  test key = check_attribute rules placed.ancestors (item_name placed.item) key

  abbrev stands : Bool
  stands = check_child rules placed.ancestors (item_name placed.item)

  broken : broken_rule rules placed ≡ rule_by stands (search_denied test (attributes_of placed.item)) (item_name placed.item) (last_name placed.ancestors)
  unfolding broken_rule
  broken = refl

  allowed_by : (b : Bool) (denied : Option (List ℕ)) → stands ≡ b → search_denied test (attributes_of placed.item) ≡ denied
      → rule_by b denied (item_name placed.item) (last_name placed.ancestors) ≡ None → IsAllowed rules placed.ancestors placed.item
  allowed_by true None s d e = record { stands = s; has = none_denied test (attributes_of placed.item) d }
  allowed_by true (Some key) s d e = cc
  allowed_by false denied s d e = cc

  pub allowed : broken_rule rules placed ≡ None → IsAllowed rules placed.ancestors placed.item
  allowed e = allowed_by stands (search_denied test (attributes_of placed.item)) refl refl (sym broken ∙ e)

  pub unbroken : IsAllowed rules placed.ancestors placed.item → broken_rule rules placed ≡ None
  unbroken h =
      broken ∙ ap (λ b. rule_by b (search_denied test (attributes_of placed.item)) (item_name placed.item) (last_name placed.ancestors)) h.stands
      ∙ ap (option_map (λ key. Attribute key (item_name placed.item))) (all_passed test (attributes_of placed.item) h.has)

  breaks_by : (b : Bool) (denied : Option (List ℕ)) (rule : Rule) → stands ≡ b → search_denied test (attributes_of placed.item) ≡ denied
      → rule_by b denied (item_name placed.item) (last_name placed.ancestors) ≡ Some rule → Breaks rules placed.ancestors placed.item rule
  breaks_by true None rule s d e = cc
  breaks_by true (Some key) rule s d e =
      let first = first_denied test (attributes_of placed.item) key d in
      let same : Attribute key (item_name placed.item) ≡ rule = cc in
      subst (Breaks rules placed.ancestors placed.item) same (may_not_have first.before first.behind key first.value s first.parts first.passed first.denied)
  breaks_by false denied rule s d e =
      let same : Child (item_name placed.item) (last_name placed.ancestors) ≡ rule = cc in
      subst (Breaks rules placed.ancestors placed.item) same (may_not_stand s)

  pub breaks : (rule : Rule) → broken_rule rules placed ≡ Some rule → Breaks rules placed.ancestors placed.item rule
  breaks rule e = breaks_by stands (search_denied test (attributes_of placed.item)) rule refl refl (sym broken ∙ e)

  pub broken_by : {rule : Rule} → Breaks rules placed.ancestors placed.item rule → broken_rule rules placed ≡ Some rule
  broken_by (may_not_stand s) = broken
      ∙ ap (λ b. rule_by b (search_denied test (attributes_of placed.item)) (item_name placed.item) (last_name placed.ancestors)) s
  broken_by (may_not_have before behind key value s parts passed denied) =
      broken ∙ ap (λ b. rule_by b (search_denied test (attributes_of placed.item)) (item_name placed.item) (last_name placed.ancestors)) s
      ∙ ap (λ attributes. option_map (λ key. Attribute key (item_name placed.item)) (search_denied test attributes)) parts
      ∙ ap (option_map (λ key. Attribute key (item_name placed.item))) (denied_first test before behind key value passed denied)

-- the first of a list for which there is something
record FirstSome {A B : Type 0} (f : A → Option B) (xs : List A) (b : B) : Type 0 where
  before : List A
  x : A
  behind : List A
  parts : xs ≡ before ++ x ∷ behind
  nothing : All (λ y. f y ≡ None) before
  there : f x ≡ Some b

module _ {A B : Type 0} (f : A → Option B) where
  none_found : (xs : List A) → first_some f xs ≡ None → All (λ x. f x ≡ None) xs
  none_found [] e = All-nil (λ x. f x ≡ None)
  none_found (x ∷ xs) e = go (none_found xs) (f x) refl
    where
      go : (first_some f xs ≡ None → All (λ x. f x ≡ None) xs) → (found : Option B) → f x ≡ found → All (λ x. f x ≡ None) (x ∷ xs)
      go rest None h = All-cons (λ x. f x ≡ None) x xs h (rest (ap (λ o. option_or o (first_some f xs)) (sym h) ∙ e))
      go rest (Some b) h = absurd (let g = ap (λ o. option_or o (first_some f xs)) (sym h) ∙ e in cc)

  found_none : (xs : List A) → All (λ x. f x ≡ None) xs → first_some f xs ≡ None
  found_none [] h = refl
  found_none (x ∷ xs) h = ap (λ o. option_or o (first_some f xs)) (All-head (λ x. f x ≡ None) x xs h) ∙ found_none xs (All-tail (λ x. f x ≡ None) x xs h)

  found_first : (xs : List A) (b : B) → first_some f xs ≡ Some b → FirstSome f xs b
  found_first [] b e = cc
  found_first (x ∷ xs) b e = go (found_first xs b) (f x) refl
    where
      go : (first_some f xs ≡ Some b → FirstSome f xs b) → (found : Option B) → f x ≡ found → FirstSome f (x ∷ xs) b
      go later None h =
          let rest = later (ap (λ o. option_or o (first_some f xs)) (sym h) ∙ e) in
          record {
            before = x ∷ rest.before;
            x = rest.x;
            behind = rest.behind;
            parts = ap (λ ys. x ∷ ys) rest.parts;
            nothing = All-cons (λ x. f x ≡ None) x rest.before h rest.nothing;
            there = rest.there;
          }
      go later (Some c) h =
          record {
            before = [];
            x = x;
            behind = xs;
            parts = refl;
            nothing = All-nil (λ x. f x ≡ None);
            there = h ∙ (let g = ap (λ o. option_or o (first_some f xs)) (sym h) ∙ e in cc);
          }

abbrev with_path : List ℕ → Rule → Rule × List ℕ
with_path path rule = (rule, path)

-- a rule that is there or isn't, with the path
unbroken_from : (rules : Rules) (placed : Placed) → breach_of rules placed ≡ None → broken_rule rules placed ≡ None
unbroken_from rules placed e = go (broken_rule rules placed) e
  where
    go : (rule : Option Rule) → option_map (with_path placed.path) rule ≡ None → rule ≡ None
    go None f = refl
    go (Some rule) f = cc

broken_from : (rules : Rules) (placed : Placed) (rule : Rule) (path : List ℕ) → breach_of rules placed ≡ Some (rule, path)
    → (broken_rule rules placed ≡ Some rule) × (placed.path ≡ path)
broken_from rules placed rule path e = go (broken_rule rules placed) e
  where
    go : (found : Option Rule) → option_map (with_path placed.path) found ≡ Some (rule, path) → (found ≡ Some rule) × (placed.path ≡ path)
    go None f = cc
    go (Some other) f = let same : with_path placed.path other ≡ with_path path rule = cc
        in (ap (λ (pair : Rule × List ℕ). Some pair.0) same, ap (λ (pair : Rule × List ℕ). pair.1) same)

-- document order: of two paths one isn't after the other, and neither only where they are one
not_after-total : (p q : List ℕ) → (not_after p q || not_after q p) ≡ true
not_after-total [] q = ap (λ b. b || not_after q []) (not_after-none q)
not_after-total (x ∷ p) [] = refl
not_after-total (x ∷ p) (y ∷ q) =
    ap (λ b. b || not_after (y ∷ q) (x ∷ p)) (not_after-cons x y p q) ∙ ap (λ b. (nat_lt x y || (x == y && not_after p q)) || b) (not_after-cons y x q p)
    ∙ step x y (not_after p q) (not_after q p) (not_after-total p q)
  where
    step : (i k : ℕ) (a b : Bool) → (a || b) ≡ true → ((nat_lt i k || (i == k && a)) || (nat_lt k i || (k == i && b))) ≡ true
    step i k a b h = grind (arith, nat_tests)

not_both : (p q : List ℕ) → is_before p q ≡ true → is_before q p ≡ true → ⊥
not_both p q e f = go (not_after p q) (not_after q p) (not_after-total p q) e f
  where
    go : (a b : Bool) → (a || b) ≡ true → not b ≡ true → not a ≡ true → ⊥
    go true b h g k = cc
    go false true h g k = cc
    go false false h g k = cc

not_before_itself : (p : List ℕ) → is_before p p ≡ true → ⊥
not_before_itself p e = not_both p p e e

same_place : (p q : List ℕ) → not_after p q ≡ true → not_after q p ≡ true → p ≡ q
same_place [] [] e f = refl
same_place [] (y ∷ q) e f = cc
same_place (x ∷ p) [] e f = cc
same_place (x ∷ p) (y ∷ q) e f =
    let parts = step x y (not_after p q) (not_after q p) (sym (not_after-cons x y p q) ∙ e) (sym (not_after-cons y x q p) ∙ f) in
    ap (λ n. n ∷ p) parts.0 ∙ ap (λ r. y ∷ r) (same_place p q parts.1.0 parts.1.1)
  where
    step : (i k : ℕ) (a b : Bool) → (nat_lt i k || (i == k && a)) ≡ true → (nat_lt k i || (k == i && b)) ≡ true → (i ≡ k) × ((a ≡ true) × (b ≡ true))
    step i k a b g h = (grind (arith, nat_tests), (grind (arith, nat_tests), grind (arith, nat_tests)))

-- the record of the item at a path
abbrev placed_at : List Item → List ℕ → Item → Placed
placed_at items path item = record { ancestors = ancestors_at path items; path = path; item = item }

contained : (items : List Item) (path : List ℕ) (item : Item) → item_at path items ≡ Some item → Contains (placed_items items) (placed_at items path item)
contained items path item e = (members_are_placed items (placed_at items path item)).1 (record { found = e; under = refl })

pub obeys_iff : (rules : Rules) (items : List Item) → (breach rules items ≡ None) ↔ Obeys rules items
unfolding breach
obeys_iff rules items = (
  λ e path item found. allowed rules (placed_at items path item) (unbroken_from rules (placed_at items path item)
      (All-contains (λ placed. breach_of rules placed ≡ None) (placed_items items) (placed_at items path item)
      (none_found (breach_of rules) (placed_items items) e) (contained items path item found))),
  λ obeys. found_none (breach_of rules) (placed_items items) (all_contained (λ placed. breach_of rules placed ≡ None) (placed_items items) (λ placed c.
      let is = (members_are_placed items placed).0 c in
      ap (option_map (with_path placed.path))
      (unbroken rules placed (subst (λ names. IsAllowed rules names placed.item) (sym is.under) (obeys placed.path placed.item is.found))))),
)

module _ (rules : Rules) (items : List Item) where
  allowed_at : (path : List ℕ) (item : Item) → breach_of rules (placed_at items path item) ≡ None → IsAllowed rules (ancestors_at path items) item
  allowed_at path item e = allowed rules (placed_at items path item) (unbroken_from rules (placed_at items path item) e)

  -- an item before the first that breaks a rule stands before it in the list
  earlier_allowed : (before behind : List Placed) (x : Placed) → placed_items items ≡ before ++ x ∷ behind
      → All (λ placed. breach_of rules placed ≡ None) before
      → (other : List ℕ) (earlier : Item) → item_at other items ≡ Some earlier → IsTrue (is_before other x.path)
      → IsAllowed rules (ancestors_at other items) earlier
  earlier_allowed before behind x parts nothing other earlier found less =
      elim (Contains-append_cases before (x ∷ behind) (placed_at items other earlier)
      (subst (λ xs. Contains xs (placed_at items other earlier)) parts (contained items other earlier found))) [
        | inl c ↦ allowed_at other earlier (All-contains (λ placed. breach_of rules placed ≡ None) before (placed_at items other earlier) nothing c)
        | inr c ↦ absurd (elim (Contains-append_cases (x ∷ []) behind (placed_at items other earlier) c) [
          | inl d ↦ (let same = ap (λ placed. placed.path) (only x (placed_at items other earlier) d)
              in not_before_itself x.path (subst (λ p. IsTrue (is_before p x.path)) (sym same) less))
          | inr d ↦ (let ordered = pairs-head Earlier x behind
              (pairs-behind Earlier before (x ∷ behind) (subst (AllPairs Earlier) parts (members_in_order items))) in
              not_both other x.path less (All-contains (Earlier x) behind (placed_at items other earlier) ordered d))
        ])
      ]

  first_breach : (rule : Rule) (path : List ℕ) → breach rules items ≡ Some (rule, path) → IsFirstBreach rules items rule path
  unfolding breach
  first_breach rule path e =
      let found = found_first (breach_of rules) (placed_items items) (with_path path rule) e in
      let there = broken_from rules found.x rule path found.there in
      let is = (members_are_placed items found.x).0
      (subst (λ xs. Contains xs found.x) (sym found.parts)
      (Contains-append_right found.before (found.x ∷ found.behind) found.x (first found.x found.behind))) in
      subst (IsFirstBreach rules items rule) there.1 (record {
        item = found.x.item;
        found = is.found;
        breaks = subst (λ names. Breaks rules names found.x.item rule) is.under (breaks rules found.x rule there.0);
        first = earlier_allowed found.before found.behind found.x found.parts found.nothing;
      })

  -- what is allowed breaks nothing
  unbreakable : (path : List ℕ) (item : Item) (rule : Rule) → IsAllowed rules (ancestors_at path items) item
      → Breaks rules (ancestors_at path items) item rule → ⊥
  unbreakable path item rule fine breaking = let e = sym (unbroken rules (placed_at items path item) fine)
      ∙ broken_by rules (placed_at items path item) breaking in cc

  -- both first: one path, one rule
  same_first : (rule other : Rule) (path place : List ℕ) → IsFirstBreach rules items rule path → IsFirstBreach rules items other place
      → with_path place other ≡ with_path path rule
  same_first rule other path place one two = go (not_after path place) (not_after place path) refl refl
    where
      at_one : (p : List ℕ) (item : Item) → p ≡ path → item_at p items ≡ Some item → Breaks rules (ancestors_at p items) item other
          → with_path p other ≡ with_path path rule
      at_one p item e found breaking =
          let same : one.item ≡ item = (let f = sym one.found ∙ ap (λ q. item_at q items) (sym e) ∙ found in cc) in
          let rules_same : rule ≡ other = (let f = sym (broken_by rules (placed_at items path one.item) one.breaks)
          ∙ broken_by rules (placed_at items path one.item)
          (subst (λ i. Breaks rules (ancestors_at path items) i other) (sym same)
          (subst (λ q. Breaks rules (ancestors_at q items) item other) e breaking)) in cc) in
          ap (with_path p) (sym rules_same) ∙ ap (λ q. with_path q rule) e

      go : (a b : Bool) → not_after path place ≡ a → not_after place path ≡ b → with_path place other ≡ with_path path rule
      go true true e f = at_one place two.item (same_place place path f e) two.found two.breaks
      go false b e f = absurd (unbreakable place two.item other (one.first place two.item two.found (ap not e)) two.breaks)
      go true false e f = absurd (unbreakable path one.item rule (two.first path one.item one.found (ap not f)) one.breaks)

  pub first_breach_iff : (rule : Rule) (path : List ℕ) → (breach rules items ≡ Some (rule, path)) ↔ IsFirstBreach rules items rule path
  first_breach_iff rule path = (first_breach rule path, λ first. go first (breach rules items) refl)
    where
      go : IsFirstBreach rules items rule path → (found : Option (Rule × List ℕ)) → breach rules items ≡ found → found ≡ Some (rule, path)
      go first None e = absurd (unbreakable path first.item rule ((obeys_iff rules items).0 e path first.item first.found) first.breaks)
      go first (Some (other, place)) e = ap Some (same_first rule other path place first (first_breach other place e))

-- what gives nothing may be left out
first_some-filter : {A B : Type 0} (f : A → Option B) (test : A → Bool) (xs : List A) → All (λ x. test x ≡ false → f x ≡ None) xs
    → first_some f (filter test xs) ≡ first_some f xs
first_some-filter f test [] nothing = refl
first_some-filter f test (x ∷ xs) nothing = go (first_some-filter f test xs (All-tail (λ x. test x ≡ false → f x ≡ None) x xs nothing)) (test x) refl
  where
    go : first_some f (filter test xs) ≡ first_some f xs → (b : Bool) → test x ≡ b → first_some f (cond (test x) (x ∷ filter test xs) (filter test xs))
        ≡ option_or (f x) (first_some f xs)
    go rest true e = ap (λ b. first_some f (cond b (x ∷ filter test xs) (filter test xs))) e ∙ ap (option_or (f x)) rest
    go rest false e =
        ap (λ b. first_some f (cond b (x ∷ filter test xs) (filter test xs))) e ∙ rest
        ∙ ap (λ found. option_or found (first_some f xs)) (sym (All-head (λ x. test x ≡ false → f x ≡ None) x xs nothing e))

pub enough_listed : (rules : Rules) (items : List Item) (spots : List Spot) → OthersObey rules items spots → breach_at rules items spots ≡ breach rules items
unfolding breach breach_at
enough_listed rules items spots others =
    first_some-filter (breach_of rules) (is_listed spots) (placed_items items)
    (All-weaker (λ placed. is_listed spots placed ≡ false → IsAllowed rules placed.ancestors placed.item) (λ placed. is_listed spots placed ≡ false
    → breach_of rules placed ≡ None)
    (λ placed h e. ap (option_map (with_path placed.path)) (unbroken rules placed (h e))) (placed_items items) others)
