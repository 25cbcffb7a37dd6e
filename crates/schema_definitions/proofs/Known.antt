-- Only registered items may stand anywhere in a schema that isn't refused.
use Rattle.std.proofs.Common.{◌≡◌, ◌≢◌, ℕ, List, [], ◌∷◌, ◌++◌, Bool, true, false, cond, not, ◌&&◌, IsTrue, Option, Some, None, option_map, map, find, filter}
use Rattle.std.proofs.Common.{flat_map, reverse, length, ◌⊎◌, inl, inr, refl, sym, ap, ◌∙◌, subst, arith}
use Rattle.std.specs.Option.{option_or}
use Rattle.std.specs.Str.{bytes_eq}
use Rattle.std.specs.List.{ends_with}
use Rattle.std.proofs.lemmas.List.{length-reverse}
use Rattle.std.proofs.lemmas.Bool.{and_parts, or_cases, or_left, or_right}
use Rattle.schema_definitions.specs.declared.file.Entry.{Entry}
use Rattle.schema_definitions.specs.declared.file.Subject.{Subject}
use Rattle.schema_definitions.specs.declared.file.Subject.TheVariants.{Item, Extend}
use Rattle.schema_definitions.specs.declared.file.Check.{Check}
use Rattle.schema_definitions.specs.declared.file.Check.TheVariants.{Child, Attribute}
use Rattle.schema_definitions.specs.declared.file.Property.{Property}
use Rattle.schema_definitions.specs.declared.file.Property.TheVariants.{AllowIn, AllowChildren, AllowWhere}
use Rattle.schema_definitions.specs.declared.fault.SchemaFault.{SchemaFault}
use Rattle.schema_definitions.specs.declared.fault.SchemaFault.TheVariants.{TwiceRegistered, UnknownItem, BadCheck}
use Rattle.schema_definitions.specs.Names.{has}
use Rattle.schema_definitions.specs.Entries.{item_of, registers, listed, lists}
use Rattle.schema_definitions.specs.Relations.{StandsIn, allowed_in, allowed_child, like_another, content_of}
use Rattle.schema_definitions.specs.Allowed.{Rules, registrations, is_registered, is_about_child, answer_of, child_answer, check_child}
use Rattle.schema_definitions.specs.Compiled.{extended, needed_by, needed_by_check, needed, first_repeated, first_unknown, first_bad_check, refusal}
use Rattle.schema_definitions.specs.Checked.{MayStand, check_allows, parent_allows}
use Rattle.schema_definitions.proofs.Members.{same_name, has_left, has_right}
use Rattle.schema_definitions.proofs.Checked.{check_child_is}

-- an item that an entry is about is registered by it or among the names that it needs
own : (entries : List Entry) (needs : List (List ℕ)) (entry : Entry) (item : List ℕ) → bytes_eq (item_of entry) item ≡ true
    → (has (map item_of (cond (registers entry) (entry ∷ entries) entries)) item ≡ true) ⊎ (has (needed_by entry ++ needs) item ≡ true)
own entries needs entry item = by entry.subject
  where
    by : (subject : Subject) → bytes_eq (item_of (record entry { subject = subject })) item ≡ true
        → (has (map item_of (cond (registers (record entry { subject = subject })) (record entry { subject = subject } ∷ entries) entries)) item ≡ true)
        ⊎ (has (needed_by (record entry { subject = subject }) ++ needs) item ≡ true)
    by (Item name) e = inl (or_left (bytes_eq name item) (has (map item_of entries) item) e)
    by (Extend name) e = inr (or_left (bytes_eq name item) _ e)

-- an item of which entries say something is registered or needed
abbrev Known : List Entry → List ℕ → Type 0
Known entries item = (has (registrations entries) item ≡ true) ⊎ (has (flat_map needed_by entries) item ≡ true)

later_known : (entry : Entry) (entries : List Entry) (item : List ℕ) → Known entries item → Known (entry ∷ entries) item
later_known entry entries item h =
    elim h [
      | inl r ↦ inl (elim (registers entry) as (λ b. has (map item_of (cond b (entry ∷ filter registers entries) (filter registers entries))) item ≡ true) [
        | true ↦ or_right (bytes_eq (item_of entry) item) (has (registrations entries) item) r
        | false ↦ r
      ])
      | inr n ↦ inr (has_right (needed_by entry) (flat_map needed_by entries) item n)
    ]

known_subject : (entries : List Entry) (property : Property) (item name : List ℕ) → lists entries property item name ≡ true → Known entries item
known_subject [] property item name h = cc
known_subject (entry ∷ entries) property item name h =
    elim (or_cases (bytes_eq (item_of entry) item && has (listed property entry) name) (lists entries property item name) h) [
      | inl here ↦ own (filter registers entries) (flat_map needed_by entries) entry item
          (and_parts (bytes_eq (item_of entry) item) (has (listed property entry) name) here).0
      | inr later ↦ later_known entry entries item (known_subject entries property item name later)
    ]

child_needed : (entry : Entry) (item : List ℕ) → has entry.allow_children item ≡ true → has (needed_by entry) item ≡ true
child_needed entry item h = has_right (extended entry.subject) _ item (has_right entry.allow_in _ item (has_left entry.allow_children _ item h))

known_child : (entries : List Entry) (parent item : List ℕ) → lists entries AllowChildren parent item ≡ true → has (flat_map needed_by entries) item ≡ true
known_child [] parent item h = cc
known_child (entry ∷ entries) parent item h =
    elim (or_cases (bytes_eq (item_of entry) parent && has entry.allow_children item) (lists entries AllowChildren parent item) h) [
      | inl here ↦ has_left (needed_by entry) (flat_map needed_by entries) item
          (child_needed entry item (and_parts (bytes_eq (item_of entry) parent) (has entry.allow_children item) here).1)
      | inr later ↦ has_right (needed_by entry) (flat_map needed_by entries) item (known_child entries parent item later)
    ]

about_needed : (ancestors : List (List ℕ)) (item : List ℕ) (check : Check) → is_about_child ancestors item check ≡ true
    → has (needed_by_check check) item ≡ true
about_needed ancestors item (Child child last answer) h = or_left (bytes_eq child item) (has last item)
    (and_parts (bytes_eq child item) (ends_with bytes_eq ancestors last) h).0
about_needed ancestors item (Attribute key last answer) h = cc

known_check : (checks : List Check) (ancestors : List (List ℕ)) (item : List ℕ) (answer : Bool) → child_answer checks ancestors item ≡ Some answer
    → has (flat_map needed_by_check checks) item ≡ true
unfolding child_answer
known_check [] ancestors item answer e = cc
known_check (check ∷ checks) ancestors item answer e = go (known_check checks ancestors item answer) (is_about_child ancestors item check) refl
  where
    go : (option_map answer_of (find (is_about_child ancestors item) checks) ≡ Some answer → has (flat_map needed_by_check checks) item ≡ true)
        → (b : Bool) → is_about_child ancestors item check ≡ b → has (needed_by_check check ++ flat_map needed_by_check checks) item ≡ true
    go rest true h = has_left (needed_by_check check) (flat_map needed_by_check checks) item (about_needed ancestors item check h)
    go rest false h =
        has_right (needed_by_check check) (flat_map needed_by_check checks) item
        (rest (sym (ap (λ b. option_map answer_of (cond b (Some check) (find (is_about_child ancestors item) checks))) h) ∙ e))

pub all_pass : (test : List ℕ → Bool) (names : List (List ℕ)) (name : List ℕ) → find (λ other. not (test other)) names ≡ None → has names name ≡ true
    → test name ≡ true
all_pass test [] name e h = cc
all_pass test (first ∷ names) name e h = go (all_pass test names name) (test first) refl
  where
    go : (find (λ other. not (test other)) names ≡ None → has names name ≡ true → test name ≡ true) → (b : Bool) → test first ≡ b → test name ≡ true
    go rest true t =
        elim (or_cases (bytes_eq first name) (has names name) h) [
          | inl same ↦ subst (λ n. test n ≡ true) (same_name first name same) t
          | inr later ↦ rest (sym (ap (λ b. cond (not b) (Some first) (find (λ other. not (test other)) names)) t) ∙ e) later
        ]
    go rest false t = absurd (let f = sym (ap (λ b. cond (not b) (Some first) (find (λ other. not (test other)) names)) t) ∙ e in cc)

nothing_unknown : (rules : Rules) → refusal rules ≡ None → first_unknown rules ≡ None
unfolding refusal
nothing_unknown rules e = go (option_map TwiceRegistered (first_repeated [] (registrations rules.entries))) (first_unknown rules)
    (option_map BadCheck (first_bad_check rules.checks)) e
  where
    go : (twice : Option SchemaFault) (unknown : Option (List ℕ)) (bad : Option SchemaFault)
        → option_or twice (option_or (option_map UnknownItem unknown) bad) ≡ None → unknown ≡ None
    go None None bad f = refl
    go None (Some name) bad f = cc
    go (Some fault) unknown bad f = cc

module _ (rules : Rules) (fine : first_unknown rules ≡ None) where
  registered : (item : List ℕ) → has (needed rules) item ≡ true → is_registered rules item ≡ true
  unfolding first_unknown
  registered item h = all_pass (is_registered rules) (needed rules) item fine h

  known_registered : (item : List ℕ) → Known rules.entries item → is_registered rules item ≡ true
  known_registered item h = elim h [
    | inl r ↦ r
    | inr n ↦ registered item (has_left (flat_map needed_by rules.entries) (flat_map needed_by_check rules.checks) item n)
  ]

  stands_registered : {item parent : List ℕ} → StandsIn rules.entries item parent → is_registered rules item ≡ true
  stands_registered {item} {parent} (allowed_in l) = known_registered item (known_subject rules.entries AllowIn item parent l)
  stands_registered {item} {parent} (allowed_child l) =
      registered item (has_left (flat_map needed_by rules.entries) (flat_map needed_by_check rules.checks) item (known_child rules.entries parent item l))
  stands_registered {item} (like_another {other = other} l s) = known_registered item (known_subject rules.entries AllowWhere item other l)
  stands_registered (content_of l s) = stands_registered s

  may_stand_registered : (item : List ℕ) (above : List (List ℕ)) → above ≢ [] → MayStand rules item above → is_registered rules item ≡ true
  may_stand_registered item [] some h = absurd (some refl)
  may_stand_registered item (parent ∷ above) some (check_allows h) =
      registered item (has_right (flat_map needed_by rules.entries) (flat_map needed_by_check rules.checks) item
      (known_check rules.checks (reverse (parent ∷ above)) item true h))
  may_stand_registered item (parent ∷ above) some (parent_allows h s outer) = stands_registered s

reverse_some : (names : List (List ℕ)) → names ≢ [] → reverse names ≢ []
reverse_some [] some e = some refl
reverse_some (name ∷ names) some e = let long = sym (length-reverse (name ∷ names)) ∙ ap length e in omega (arith, long)

pub standing_is_known : (rules : Rules) → first_unknown rules ≡ None → (ancestors : List (List ℕ)) (item : List ℕ)
    → IsTrue (check_child rules ancestors item) → IsTrue (is_registered rules item)
standing_is_known rules fine ancestors item h =
    let stands = (check_child_is rules ancestors item).0 h in
    may_stand_registered rules fine item (reverse ancestors) (reverse_some ancestors stands.0) stands.1

pub standing_is_registered : (rules : Rules) → refusal rules ≡ None → (ancestors : List (List ℕ)) (item : List ℕ)
    → IsTrue (check_child rules ancestors item) → IsTrue (is_registered rules item)
standing_is_registered rules fine = standing_is_known rules (nothing_unknown rules fine)
