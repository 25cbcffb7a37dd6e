-- The graphs that entries draw, and the names that they tell of.
use Rattle.std.proofs.Common.{◌≡◌, ℕ, ◌<◌, List, [], ◌∷◌, Bool, true, false, ◌&&◌, ◌||◌, length, slice_index_or, replicate, All, sym, ap, ◌∙◌, subst, inl, inr}
use Rattle.std.proofs.Common.{arith}
use Rattle.std.specs.Str.{bytes_eq}
use Rattle.std.specs.List.{list_any}
use Rattle.std.proofs.lemmas.Bool.{cases_lt, or_cases, or_left, or_right, and_parts, and_from}
use Rattle.std.proofs.lemmas.List.{get_or-replicate, get_or_past, length-replicate}
use Rattle.std.proofs.lemmas.List.Elements.{All-nil}
use Rattle.schema_definitions.specs.declared.file.Entry.{Entry}
use Rattle.schema_definitions.specs.declared.file.Property.{Property}
use Rattle.schema_definitions.specs.declared.file.Property.TheVariants.{AllowIn, AllowChildren, InheritTypesFrom}
use Rattle.schema_definitions.specs.declared.file.Flag.{Flag}
use Rattle.schema_definitions.specs.Names.{has, leads, turned}
use Rattle.schema_definitions.specs.Entries.{item_of, listed, lists, pairs, writes_yes, sets, leaves_open}
use Rattle.schema_definitions.specs.Rules.{placements, open_pairs}
use Rattle.schema_definitions.proofs.Pairs.{leads-append, leads-turned, leads-pairs, leads_passing, leads_passed}
use Rattle.schema_rules.specs.declared.steps.Direction.{Direction}
use Rattle.schema_rules.specs.declared.steps.Direction.TheVariants.{FromItem, ToItem}
use Rattle.schema_rules.specs.Graph.{among, goes, is_marked, IsGraph}
use Rattle.schema_rules.specs.Numbering.{named}
use Rattle.schema_rules.specs.Steps.{joins, IsGrown}
use Rattle.schema_rules.specs.Drawn.{IsDrawn, IsWithin}
use Rattle.schema_rules.specs.Tables.{along, AreKnown}
use Rattle.schema_rules.proofs.Named.{both_ways}

-- a graph without steps
abbrev empty : ℕ → List (List ℕ)
empty n = replicate n []

empty_at : (n node : ℕ) → slice_index_or (empty n) node [] ≡ []
empty_at n node = elim (cases_lt node n) [
  | inl inside ↦ get_or-replicate n node [] [] inside
  | inr past ↦ let size : length (empty n) ≡ n = length-replicate n [] in get_or_past (empty n) node [] (omega (arith, past, size))
]

empty_goes : (n from to : ℕ) → goes (empty n) from to ≡ false
empty_goes n from to = ap (λ nodes. among nodes to) (empty_at n from)

empty_graph : (n : ℕ) → IsGraph (empty n)
empty_graph n node = subst (λ nodes. All (λ to. to < length (empty n)) nodes) (sym (empty_at n node)) (All-nil (λ to. to < length (empty n)))

module _ (names : List (List ℕ)) where
  -- what grows from a graph without steps
  grown_drawn : (direction : Direction) (graph new : List (List ℕ)) (test : ℕ → ℕ → Bool) → graph ≡ replicate (length names) []
      → IsGrown names direction graph new test → (length new ≡ length names) × IsGraph new
      × ((item other : ℕ) → item < length names → other < length names → joins direction new item other ≡ test item other)
  grown_drawn direction graph new test none grown = (
    grown.size ∙ ap length none ∙ length-replicate (length names) [],
    grown.kept (subst IsGraph (sym none) (empty_graph (length names))),
    λ item other i o. grown.steps item other i o ∙ ap (λ b. b || test item other) (ap (λ g. joins direction g item other) none ∙ nothing direction item other),
  ) where
    nothing : (d : Direction) (item other : ℕ) → joins d (replicate (length names) []) item other ≡ false
    nothing FromItem item other = empty_goes (length names) item other
    nothing ToItem item other = empty_goes (length names) other item

  all_at : (all : List Bool) (node : ℕ) (b : Bool) → all ≡ replicate (length names) true → node < length names → (is_marked all node && b) ≡ b
  all_at all node b every inside = ap (λ marks. is_marked marks node && b) every ∙ ap (λ a. a && b) (get_or-replicate (length names) node true false inside)

  pub drawn_steps : (entries : List Entry) (property : Property) (direction : Direction) (all : List Bool) (graph new : List (List ℕ))
      → all ≡ replicate (length names) true → graph ≡ replicate (length names) []
      → IsGrown names direction graph new (λ node other. is_marked all node && lists entries property (named names node) (named names other))
      → IsDrawn names new (leads (along direction (pairs entries property)))
  drawn_steps entries property FromItem all graph new every none grown = let facts = grown_drawn FromItem graph new _ none grown in record {
    size = facts.0;
    inner = facts.1;
    steps = λ from to f t. facts.2 from to f t ∙ all_at all from (lists entries property (named names from) (named names to)) every f
        ∙ sym (leads-pairs entries property (named names from) (named names to));
  }
  drawn_steps entries property ToItem all graph new every none grown = let facts = grown_drawn ToItem graph new _ none grown in record {
    size = facts.0;
    inner = facts.1;
    steps = λ from to f t. facts.2 to from t f ∙ all_at all to (lists entries property (named names to) (named names from)) every t
        ∙ sym (leads-turned (pairs entries property) (named names from) (named names to) ∙ leads-pairs entries property (named names to) (named names from));
  }

  pub drawn_placing : (entries : List Entry) (all : List Bool) (graph now new : List (List ℕ)) → all ≡ replicate (length names) true
      → graph ≡ replicate (length names) []
      → IsGrown names ToItem graph now (λ node other. is_marked all node && lists entries AllowIn (named names node) (named names other))
      → IsGrown names FromItem now new (λ node other. is_marked all node && lists entries AllowChildren (named names node) (named names other))
      → IsDrawn names new (leads (placements entries))
  drawn_placing entries all graph now new every none first second = let before = drawn_steps entries AllowIn ToItem all graph now every none first in record {
    size = second.size ∙ before.size;
    inner = second.kept before.inner;
    steps = λ from to f t. second.steps from to f t
        ∙ ap (λ b. b || (is_marked all from && lists entries AllowChildren (named names from) (named names to))) (before.steps from to f t)
        ∙ ap (λ b. leads (turned (pairs entries AllowIn)) (named names from) (named names to) || b)
        (all_at all from (lists entries AllowChildren (named names from) (named names to)) every f
        ∙ sym (leads-pairs entries AllowChildren (named names from) (named names to)))
        ∙ sym (leads-append (turned (pairs entries AllowIn)) (pairs entries AllowChildren) (named names from) (named names to));
  }

  leads-open : (entries : List Entry) (flag : Flag) (from to : List ℕ) → leads (open_pairs entries flag) from to
      ≡ (leaves_open entries flag from && lists entries InheritTypesFrom from to)
  leads-open entries flag from to = both_ways (leads (open_pairs entries flag) from to) (leaves_open entries flag from
      && lists entries InheritTypesFrom from to)
      (λ h. let parts = leads_passing (leaves_open entries flag) (pairs entries InheritTypesFrom) from to h
      in and_from (leaves_open entries flag from) (lists entries InheritTypesFrom from to) parts.0 (sym (leads-pairs entries InheritTypesFrom from to)
      ∙ parts.1))
      (λ h. let parts = and_parts (leaves_open entries flag from) (lists entries InheritTypesFrom from to) h
      in leads_passed (leaves_open entries flag) (pairs entries InheritTypesFrom) from to parts.0 (leads-pairs entries InheritTypesFrom from to ∙ parts.1))

  pub drawn_open : (entries : List Entry) (flag : Flag) (left : List Bool) (graph new : List (List ℕ))
      → ((node : ℕ) → node < length names → is_marked left node ≡ leaves_open entries flag (named names node)) → graph ≡ replicate (length names) []
      → IsGrown names ToItem graph new (λ node other. is_marked left node && lists entries InheritTypesFrom (named names node) (named names other))
      → IsDrawn names new (leads (turned (open_pairs entries flag)))
  drawn_open entries flag left graph new free none grown = let facts = grown_drawn ToItem graph new _ none grown in record {
    size = facts.0;
    inner = facts.1;
    steps = λ from to f t. facts.2 to from t f ∙ ap (λ b. b && lists entries InheritTypesFrom (named names to) (named names from)) (free to t)
        ∙ sym (leads-turned (open_pairs entries flag) (named names from) (named names to) ∙ leads-open entries flag (named names to) (named names from));
  }

  -- what entries list is of items
  pub lists_item : (entries : List Entry) (property : Property) (item name : List ℕ) → lists entries property item name ≡ true
      → list_any (λ entry. bytes_eq (item_of entry) item) entries ≡ true
  lists_item [] property item name h = h
  lists_item (e ∷ entries) property item name h =
      elim (or_cases (bytes_eq (item_of e) item && has (listed property e) name) (lists entries property item name) h) [
        | inl here ↦ or_left (bytes_eq (item_of e) item) (list_any (λ entry. bytes_eq (item_of entry) item) entries)
            (and_parts (bytes_eq (item_of e) item) (has (listed property e) name) here).0
        | inr later ↦ or_right (bytes_eq (item_of e) item) (list_any (λ entry. bytes_eq (item_of entry) item) entries)
            (lists_item entries property item name later)
      ]

  pub sets_item : (entries : List Entry) (flag : Flag) (item : List ℕ) → sets entries flag item ≡ true
      → list_any (λ entry. bytes_eq (item_of entry) item) entries ≡ true
  sets_item [] flag item h = h
  sets_item (e ∷ entries) flag item h = elim (or_cases (bytes_eq (item_of e) item && writes_yes flag e) (sets entries flag item) h) [
    | inl here ↦ or_left (bytes_eq (item_of e) item) (list_any (λ entry. bytes_eq (item_of entry) item) entries)
        (and_parts (bytes_eq (item_of e) item) (writes_yes flag e) here).0
    | inr later ↦ or_right (bytes_eq (item_of e) item) (list_any (λ entry. bytes_eq (item_of entry) item) entries) (sets_item entries flag item later)
  ]

  module _ (entries : List Entry) (known : AreKnown names entries) where
    within_pairs : (property : Property) → IsWithin names (leads (pairs entries property))
    within_pairs property from to h = let l : lists entries property from to ≡ true = sym (leads-pairs entries property from to) ∙ h
        in (known.items from (lists_item entries property from to l), known.listed property from to l)

    within_turned : (ps : List (List ℕ × List ℕ)) → IsWithin names (leads ps) → IsWithin names (leads (turned ps))
    within_turned ps w from to h = let both = w to from (sym (leads-turned ps from to) ∙ h) in (both.1, both.0)

    pub within_along : (direction : Direction) (property : Property) → IsWithin names (leads (along direction (pairs entries property)))
    within_along FromItem property = within_pairs property
    within_along ToItem property = within_turned (pairs entries property) (within_pairs property)

    pub within_placing : IsWithin names (leads (placements entries))
    within_placing from to h = elim (or_cases (leads (turned (pairs entries AllowIn)) from to) (leads (pairs entries AllowChildren) from to)
        (sym (leads-append (turned (pairs entries AllowIn)) (pairs entries AllowChildren) from to) ∙ h)) [
          | inl l ↦ within_turned (pairs entries AllowIn) (within_pairs AllowIn) from to l
          | inr l ↦ within_pairs AllowChildren from to l
        ]

    pub within_open : (flag : Flag) → IsWithin names (leads (turned (open_pairs entries flag)))
    within_open flag = within_turned (open_pairs entries flag)
        (λ from to h. within_pairs InheritTypesFrom from to (leads_passing (leaves_open entries flag) (pairs entries InheritTypesFrom) from to h).1)
