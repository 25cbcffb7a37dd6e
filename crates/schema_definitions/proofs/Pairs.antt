-- Where the pairs that entries make lead.
use Rattle.std.proofs.Common.{◌≡◌, ℕ, List, [], ◌∷◌, ◌++◌, Bool, true, false, ◌&&◌, ◌||◌, cond, map, refl, sym, ap, ◌∙◌, subst, inl, inr}
use Rattle.std.specs.List.{filter}
use Rattle.std.specs.Str.{bytes_eq}
use Rattle.std.proofs.lemmas.Bool.{or_cases, or_left, or_right, and_parts, and_from}
use Rattle.std.proofs.lemmas.List.Folds.{list_any-append}
use Rattle.schema_definitions.specs.declared.file.Entry.{Entry}
use Rattle.schema_definitions.specs.declared.file.Property.{Property}
use Rattle.schema_definitions.specs.declared.file.Flag.{Flag}
use Rattle.schema_definitions.specs.Names.{has, leads, turned, targets}
use Rattle.schema_definitions.specs.Entries.{item_of, listed, lists, pairs, writes_yes, sets}
use Rattle.schema_definitions.proofs.Members.{itself, same_name}

pub leads-append : (xs ys : List (List ℕ × List ℕ)) (from to : List ℕ) → leads (xs ++ ys) from to ≡ (leads xs from to || leads ys from to)
leads-append xs ys from to = list_any-append (λ pair. bytes_eq pair.0 from && bytes_eq pair.1 to) xs ys

and_comm : (a b : Bool) → (a && b) ≡ (b && a)
and_comm true true = refl
and_comm true false = refl
and_comm false true = refl
and_comm false false = refl

and_none : (a : Bool) → (a && false) ≡ false
and_none true = refl
and_none false = refl

and_both : (a b c : Bool) → ((a && b) || (a && c)) ≡ (a && (b || c))
and_both true b c = refl
and_both false b c = refl

-- turned pairs lead back
pub leads-turned : (ps : List (List ℕ × List ℕ)) (from to : List ℕ) → leads (turned ps) from to ≡ leads ps to from
leads-turned [] from to = refl
leads-turned (p ∷ ps) from to = ap (λ b. b || leads (turned ps) from to) (and_comm (bytes_eq p.1 from) (bytes_eq p.0 to))
    ∙ ap (λ b. (bytes_eq p.0 to && bytes_eq p.1 from) || b) (leads-turned ps from to)

-- the pairs of one name
leads_to_each : (item : List ℕ) (names : List (List ℕ)) (from to : List ℕ) → leads (map (λ name. (item, name)) names) from to
    ≡ (bytes_eq item from && has names to)
leads_to_each item [] from to = sym (and_none (bytes_eq item from))
leads_to_each item (name ∷ names) from to = ap (λ b. (bytes_eq item from && bytes_eq name to) || b) (leads_to_each item names from to)
    ∙ and_both (bytes_eq item from) (bytes_eq name to) (has names to)

-- the pairs of a property lead where the entries list it
pub leads-pairs : (entries : List Entry) (property : Property) (from to : List ℕ) → leads (pairs entries property) from to ≡ lists entries property from to
leads-pairs [] property from to = refl
leads-pairs (e ∷ entries) property from to =
    leads-append (map (λ name. (item_of e, name)) (listed property e)) (pairs entries property) from to
    ∙ ap (λ b. b || leads (pairs entries property) from to) (leads_to_each (item_of e) (listed property e) from to)
    ∙ ap (λ b. (bytes_eq (item_of e) from && has (listed property e) to) || b) (leads-pairs entries property from to)

-- a name that pairs lead to from the names
pub targets_found : (ps : List (List ℕ × List ℕ)) (names : List (List ℕ)) (to : List ℕ) → has (targets ps names) to ≡ true → (from : List ℕ)
    × ((has names from ≡ true) × (leads ps from to ≡ true))
targets_found [] names to h = cc
targets_found (p ∷ ps) names to h =
    elim (has names p.0) as (λ b. has names p.0 ≡ b
    → has (map (λ pair. pair.1) (cond b (p ∷ filter (λ pair. has names pair.0) ps) (filter (λ pair. has names pair.0) ps))) to ≡ true
    → (from : List ℕ) × ((has names from ≡ true) × (leads (p ∷ ps) from to ≡ true))) [
      | true ↦ λ e g. elim (or_cases (bytes_eq p.1 to) (has (targets ps names) to) g) [
        | inl head ↦ (
          p.0,
          (
            e,
            or_left (bytes_eq p.0 p.0 && bytes_eq p.1 to) (leads ps p.0 to)
                (and_from (bytes_eq p.0 p.0) (bytes_eq p.1 to) (itself p.0) head),
          ),
        )
        | inr later ↦ let found = targets_found ps names to later
            in (found.0, (found.1.0, or_right (bytes_eq p.0 found.0 && bytes_eq p.1 to) (leads ps found.0 to) found.1.1))
      ]
      | false ↦ λ e g. let found = targets_found ps names to g
          in (found.0, (found.1.0, or_right (bytes_eq p.0 found.0 && bytes_eq p.1 to) (leads ps found.0 to) found.1.1))
    ] refl h

-- each name that a pair leads to from one of the names
pub targets_all : (ps : List (List ℕ × List ℕ)) (names : List (List ℕ)) (from to : List ℕ) → has names from ≡ true → leads ps from to ≡ true
    → has (targets ps names) to ≡ true
targets_all [] names from to h l = l
targets_all (p ∷ ps) names from to h l =
    elim (or_cases (bytes_eq p.0 from && bytes_eq p.1 to) (leads ps from to) l) [
      | inl head ↦
          let parts : (bytes_eq p.0 from ≡ true) × (bytes_eq p.1 to ≡ true) = and_parts (bytes_eq p.0 from) (bytes_eq p.1 to) head in
          let there : has names p.0 ≡ true = subst (λ name. has names name ≡ true) (sym (same_name p.0 from parts.0)) h in
          subst (λ b. has (map (λ pair. pair.1) (cond b (p ∷ filter (λ pair. has names pair.0) ps) (filter (λ pair. has names pair.0) ps))) to ≡ true)
          (sym there) (or_left (bytes_eq p.1 to) (has (targets ps names) to) parts.1)
      | inr later ↦ elim (has names p.0) as
          (λ b. has (map (λ pair. pair.1) (cond b (p ∷ filter (λ pair. has names pair.0) ps) (filter (λ pair. has names pair.0) ps))) to ≡ true) [
            | true ↦ or_right (bytes_eq p.1 to) (has (targets ps names) to) (targets_all ps names from to h later)
            | false ↦ targets_all ps names from to h later
          ]
    ]

-- pairs of which the first names pass a test
pub leads_passing : (test : List ℕ → Bool) (ps : List (List ℕ × List ℕ)) (from to : List ℕ) → leads (filter (λ pair. test pair.0) ps) from to ≡ true
    → (test from ≡ true) × (leads ps from to ≡ true)
leads_passing test [] from to h = cc
leads_passing test (p ∷ ps) from to h =
    elim (test p.0) as (λ b. test p.0 ≡ b → leads (cond b (p ∷ filter (λ pair. test pair.0) ps) (filter (λ pair. test pair.0) ps)) from to ≡ true
    → (test from ≡ true) × (leads (p ∷ ps) from to ≡ true)) [
      | true ↦ λ e g. elim (or_cases (bytes_eq p.0 from && bytes_eq p.1 to) (leads (filter (λ pair. test pair.0) ps) from to) g) [
        | inl head ↦ (
          subst (λ name. test name ≡ true) (same_name p.0 from (and_parts (bytes_eq p.0 from) (bytes_eq p.1 to) head).0) e,
          or_left (bytes_eq p.0 from && bytes_eq p.1 to) (leads ps from to) head,
        )
        | inr later ↦ let both = leads_passing test ps from to later in (both.0, or_right (bytes_eq p.0 from && bytes_eq p.1 to) (leads ps from to) both.1)
      ]
      | false ↦ λ e g. let both = leads_passing test ps from to g in (both.0, or_right (bytes_eq p.0 from && bytes_eq p.1 to) (leads ps from to) both.1)
    ] refl h

pub leads_passed : (test : List ℕ → Bool) (ps : List (List ℕ × List ℕ)) (from to : List ℕ) → test from ≡ true → leads ps from to ≡ true
    → leads (filter (λ pair. test pair.0) ps) from to ≡ true
leads_passed test [] from to t h = h
leads_passed test (p ∷ ps) from to t h =
    elim (or_cases (bytes_eq p.0 from && bytes_eq p.1 to) (leads ps from to) h) [
      | inl head ↦
          let there : test p.0 ≡ true = subst (λ name. test name ≡ true)
          (sym (same_name p.0 from (and_parts (bytes_eq p.0 from) (bytes_eq p.1 to) head).0)) t in
          subst (λ b. leads (cond b (p ∷ filter (λ pair. test pair.0) ps) (filter (λ pair. test pair.0) ps)) from to ≡ true) (sym there)
          (or_left (bytes_eq p.0 from && bytes_eq p.1 to) (leads (filter (λ pair. test pair.0) ps) from to) head)
      | inr later ↦ elim (test p.0) as (λ b. leads (cond b (p ∷ filter (λ pair. test pair.0) ps) (filter (λ pair. test pair.0) ps)) from to ≡ true) [
        | true ↦ or_right (bytes_eq p.0 from && bytes_eq p.1 to) (leads (filter (λ pair. test pair.0) ps) from to) (leads_passed test ps from to t later)
        | false ↦ leads_passed test ps from to t later
      ]
    ]

-- the items of entries that write a flag true
pub has-writers : (entries : List Entry) (flag : Flag) (item : List ℕ) → has (map item_of (filter (writes_yes flag) entries)) item ≡ sets entries flag item
has-writers [] flag item = refl
has-writers (e ∷ entries) flag item =
    elim (writes_yes flag e) as (λ b. has (map item_of (cond b (e ∷ filter (writes_yes flag) entries) (filter (writes_yes flag) entries))) item
    ≡ ((bytes_eq (item_of e) item && b) || sets entries flag item)) [
      | true ↦ ap (λ b. bytes_eq (item_of e) item || b) (has-writers entries flag item)
          ∙ ap (λ b. b || sets entries flag item) (sym (and_comm (bytes_eq (item_of e) item) true))
      | false ↦ has-writers entries flag item ∙ ap (λ b. b || sets entries flag item) (sym (and_none (bytes_eq (item_of e) item)))
    ]
