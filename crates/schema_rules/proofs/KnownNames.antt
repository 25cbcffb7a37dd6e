-- All names of entries are known once the names that have to be items are registered and the attributes are added.
use Rattle.std.proofs.Common.{◌≡◌, ℕ, ◌+◌, ◌<◌, List, [], ◌∷◌, ◌++◌, true, false, ◌&&◌, not, cond, Some, None, length, slice_index_or, take, drop, map, refl}
use Rattle.std.proofs.Common.{sym, ap, ◌∙◌, subst, inl, inr, ◌⊎◌, append_assoc}
use Rattle.std.specs.Str.{bytes_eq}
use Rattle.std.specs.List.{list_any, find, flat_map, filter}
use Rattle.std.proofs.lemmas.Bool.{or_cases, or_left, or_right, and_parts}
use Rattle.std.proofs.lemmas.List.{take_at, append-nil, drop_more}
use Rattle.schema_definitions.specs.declared.file.Entry.{Entry}
use Rattle.schema_definitions.specs.declared.file.Subject.TheVariants.{Item, Extend}
use Rattle.schema_definitions.specs.declared.file.Property.{Property}
use Rattle.schema_definitions.specs.declared.file.Property.TheVariants.{AllowIn, AllowChildren, AllowAttributes, AllowWhere, AllowContentOf, AllowAttributesOf}
use Rattle.schema_definitions.specs.declared.file.Property.TheVariants.{InheritTypesFrom}
use Rattle.schema_definitions.specs.Names.{has}
use Rattle.schema_definitions.specs.Entries.{subject_name, item_of, registers, listed, lists}
use Rattle.schema_definitions.specs.Allowed.{registrations}
use Rattle.schema_definitions.specs.Compiled.{extended, needed_by}
use Rattle.schema_definitions.proofs.Members.{same_name, has_left, has_right, has_cases}
use Rattle.schema_rules.specs.Numbering.{with_name, with_names}
use Rattle.schema_rules.specs.Refused.{is_unknown}
use Rattle.schema_rules.specs.Keys.{own_keys}
use Rattle.schema_rules.specs.Tables.{AreKnown}

-- more names, in two parts
pub with_names_both : (names first second : List (List ℕ)) → with_names names (first ++ second) ≡ with_names (with_names names first) second
with_names_both names [] second = refl
with_names_both names (x ∷ xs) second = with_names_both (with_name names x) xs second

module _ (name : List ℕ) where
  kept_one : (names : List (List ℕ)) (more : List ℕ) → has names name ≡ true → has (with_name names more) name ≡ true
  kept_one names more h = elim (has names more) as (λ b. has (cond b names (names ++ more ∷ [])) name ≡ true) [
    | true ↦ h
    | false ↦ has_left names (more ∷ []) name h
  ]

  -- what was there stays
  pub kept_all : (names more : List (List ℕ)) → has names name ≡ true → has (with_names names more) name ≡ true
  kept_all names [] h = h
  kept_all names (x ∷ xs) h = kept_all (with_name names x) xs (kept_one names x h)

  added_one : (names : List (List ℕ)) (more : List ℕ) → bytes_eq more name ≡ true → has (with_name names more) name ≡ true
  added_one names more e = elim (has names more) as (λ b. has names more ≡ b → has (cond b names (names ++ more ∷ [])) name ≡ true) [
    | true ↦ λ h. subst (λ n. has names n ≡ true) (same_name more name e) h
    | false ↦ λ h. has_right names (more ∷ []) name (or_left (bytes_eq more name) false e)
  ] refl

  -- and what is added is there
  pub added_all : (names more : List (List ℕ)) → has more name ≡ true → has (with_names names more) name ≡ true
  added_all names [] h = cc
  added_all names (x ∷ xs) h = elim (or_cases (bytes_eq x name) (has xs name) h) [
    | inl here ↦ kept_all (with_name names x) xs (added_one names x here)
    | inr later ↦ added_all (with_name names x) xs later
  ]

-- the names stand in front
front_one : (names : List (List ℕ)) (more : List ℕ) → (rest : List (List ℕ)) × (with_name names more ≡ names ++ rest)
front_one names more = elim (has names more) as (λ b. (rest : List (List ℕ)) × (cond b names (names ++ more ∷ []) ≡ names ++ rest))
    [ true ↦ ([], sym (append-nil names)) | false ↦ (more ∷ [], refl) ]

front_all : (names more : List (List ℕ)) → (rest : List (List ℕ)) × (with_names names more ≡ names ++ rest)
front_all names [] = ([], sym (append-nil names))
front_all names (x ∷ xs) = let one = front_one names x in let all = front_all (with_name names x) xs
    in (one.0 ++ all.0, all.1 ∙ ap (λ ns. ns ++ all.0) one.1 ∙ append_assoc names one.0 all.0)

pub take-with_names : (names more : List (List ℕ)) → take (length names) (with_names names more) ≡ names
take-with_names names more = let all = front_all names more in ap (take (length names)) all.1 ∙ take_at names all.0 (length names) refl

-- where no unknown name is found, each is known
none_unknown : (known names : List (List ℕ)) → find (is_unknown known) names ≡ None → (name : List ℕ) → has names name ≡ true → has known name ≡ true
none_unknown known [] e name h = cc
none_unknown known (x ∷ xs) e name h = elim (has known x) as (λ b. has known x ≡ b → cond (not b) (Some x) (find (is_unknown known) xs) ≡ None
    → has known name ≡ true) [
      | true ↦ λ k rest. elim (or_cases (bytes_eq x name) (has xs name) h) [
        | inl here ↦ subst (λ n. has known n ≡ true) (same_name x name here) k
        | inr later ↦ none_unknown known xs rest name later
      ]
      | false ↦ λ k found. cc
    ] refl e

-- what is found in neither is found in none
pub none_in_front : (known first second : List (List ℕ)) → find (is_unknown known) (first ++ second) ≡ None → find (is_unknown known) first ≡ None
none_in_front known [] second e = refl
none_in_front known (x ∷ xs) second e = elim (is_unknown known x) as (λ b. cond b (Some x) (find (is_unknown known) (xs ++ second)) ≡ None
    → cond b (Some x) (find (is_unknown known) xs) ≡ None) [
      | true ↦ λ found. cc
      | false ↦ λ rest. none_in_front known xs second rest
    ] e

-- what an entry writes from a list on
abbrev tail_6 : Entry → List (List ℕ)
tail_6 e = e.inherit_types_from ++ e.inherit_all_from

abbrev tail_5 : Entry → List (List ℕ)
tail_5 e = e.allow_attributes_of ++ tail_6 e

abbrev tail_4 : Entry → List (List ℕ)
tail_4 e = e.allow_content_of ++ tail_5 e

abbrev tail_3 : Entry → List (List ℕ)
tail_3 e = e.allow_where ++ tail_4 e

abbrev tail_2 : Entry → List (List ℕ)
tail_2 e = e.allow_children ++ tail_3 e

abbrev written_by : Entry → List (List ℕ)
written_by e = e.allow_in ++ tail_2 e

module _ (known : List (List ℕ)) (name : List ℕ) where
  from_1 : (e : Entry) → has (written_by e) name ≡ true → has (needed_by e) name ≡ true
  from_1 e h = has_right (extended e.subject) (written_by e) name h

  from_2 : (e : Entry) → has (tail_2 e) name ≡ true → has (needed_by e) name ≡ true
  from_2 e h = from_1 e (has_right e.allow_in (tail_2 e) name h)

  from_3 : (e : Entry) → has (tail_3 e) name ≡ true → has (needed_by e) name ≡ true
  from_3 e h = from_2 e (has_right e.allow_children (tail_3 e) name h)

  from_4 : (e : Entry) → has (tail_4 e) name ≡ true → has (needed_by e) name ≡ true
  from_4 e h = from_3 e (has_right e.allow_where (tail_4 e) name h)

  from_5 : (e : Entry) → has (tail_5 e) name ≡ true → has (needed_by e) name ≡ true
  from_5 e h = from_4 e (has_right e.allow_content_of (tail_5 e) name h)

  from_6 : (e : Entry) → has (tail_6 e) name ≡ true → has (needed_by e) name ≡ true
  from_6 e h = from_5 e (has_right e.allow_attributes_of (tail_6 e) name h)

  from_7 : (e : Entry) → has e.inherit_all_from name ≡ true → has (needed_by e) name ≡ true
  from_7 e h = from_6 e (has_right e.inherit_types_from e.inherit_all_from name h)

  -- an item is registered, or its entries extend it
  item_known : (entries : List Entry) → ((item : List ℕ) → has (registrations entries) item ≡ true → has known item ≡ true)
      → ((item : List ℕ) → has (flat_map needed_by entries) item ≡ true → has known item ≡ true)
      → list_any (λ entry. bytes_eq (item_of entry) name) entries ≡ true → has known name ≡ true
  item_known [] regs needs h = cc
  item_known (e ∷ entries) regs needs h = elim (or_cases (bytes_eq (item_of e) name) (list_any (λ entry. bytes_eq (item_of entry) name) entries) h) [
    | inl here ↦ elim e.subject as (λ s. ((item : List ℕ) → has (registrations (record e { subject = s } ∷ entries)) item ≡ true
        → has known item ≡ true) → ((item : List ℕ) → has (flat_map needed_by (record e { subject = s } ∷ entries)) item ≡ true → has known item ≡ true)
        → bytes_eq (subject_name s) name ≡ true → has known name ≡ true) [
          | Item n ↦ λ r d b. r name (or_left (bytes_eq n name) (has (registrations entries) name) b)
          | Extend n ↦ λ r d b. d name (has_left (needed_by (record e { subject = Extend n })) (flat_map needed_by entries) name
              (or_left (bytes_eq n name) (has (written_by e) name) b))
        ] regs needs here
    | inr later ↦ item_known entries
        (λ item r. regs item (elim (registers e) as (λ b. has (map item_of (cond b (e ∷ filter registers entries) (filter registers entries))) item
        ≡ true) [ true ↦ or_right (bytes_eq (item_of e) item) (has (registrations entries) item) r | false ↦ r ]))
        (λ item n. needs item (has_right (needed_by e) (flat_map needed_by entries) item n)) later
  ]

  -- what an entry lists has to be an item, but for attributes
  listed_needed : (e : Entry) (property : Property) → has (listed property e) name ≡ true → (has (needed_by e) name ≡ true)
      ⊎ (has e.allow_attributes name ≡ true)
  listed_needed e property h = elim property as (λ p. has (listed p e) name ≡ true → (has (needed_by e) name ≡ true) ⊎ (has e.allow_attributes name ≡ true)) [
    | AllowIn ↦ λ g. inl (from_1 e (has_left e.allow_in (tail_2 e) name g))
    | AllowChildren ↦ λ g. inl (from_2 e (has_left e.allow_children (tail_3 e) name g))
    | AllowAttributes ↦ λ g. inr g
    | AllowWhere ↦ λ g. inl (elim (has_cases e.allow_where e.inherit_all_from name g) [
      | inl own ↦ from_3 e (has_left e.allow_where (tail_4 e) name own)
      | inr all ↦ from_7 e all
    ])
    | AllowContentOf ↦ λ g. inl (elim (has_cases e.allow_content_of e.inherit_all_from name g)
        [ inl own ↦ from_4 e (has_left e.allow_content_of (tail_5 e) name own) | inr all ↦ from_7 e all ])
    | AllowAttributesOf ↦ λ g. inl
        (elim (has_cases e.allow_attributes_of e.inherit_all_from name g) [
          | inl own ↦ from_5 e (has_left e.allow_attributes_of (tail_6 e) name own)
          | inr all ↦ from_7 e all
        ])
    | InheritTypesFrom ↦ λ g. inl (from_6 e g)
  ] h

  lists_needed : (entries : List Entry) (property : Property) (item : List ℕ) → lists entries property item name ≡ true
      → (has (flat_map needed_by entries) name ≡ true) ⊎ (has (flat_map own_keys entries) name ≡ true)
  lists_needed [] property item h = cc
  lists_needed (e ∷ entries) property item h =
      elim (or_cases (bytes_eq (item_of e) item && has (listed property e) name) (lists entries property item name) h) [
        | inl here ↦ elim (listed_needed e property (and_parts (bytes_eq (item_of e) item) (has (listed property e) name) here).1) [
          | inl n ↦ inl (has_left (needed_by e) (flat_map needed_by entries) name n)
          | inr k ↦ inr (has_left e.allow_attributes (flat_map own_keys entries) name k)
        ]
        | inr later ↦ elim (lists_needed entries property item later) [
          | inl n ↦ inl (has_right (needed_by e) (flat_map needed_by entries) name n)
          | inr k ↦ inr (has_right e.allow_attributes (flat_map own_keys entries) name k)
        ]
      ]

pub all_known : (entries : List Entry) (names made : List (List ℕ)) → names ≡ registrations entries
    → find (is_unknown names) (flat_map needed_by entries) ≡ None → made ≡ with_names names (flat_map own_keys entries) → AreKnown made entries
all_known entries names made items none is =
    let needs : (name : List ℕ) → has (flat_map needed_by entries) name ≡ true → has names name ≡ true = none_unknown names (flat_map needed_by entries) none in
    let stays : (name : List ℕ) → has names name ≡ true
    → has made name ≡ true = λ name h. subst (λ ns. has ns name ≡ true) (sym is) (kept_all name names (flat_map own_keys entries) h) in
    record {
      items = λ item h. stays item (item_known names item entries (λ i r. subst (λ ns. has ns i ≡ true) (sym items) r) needs h);
      listed = λ property item name h. elim (lists_needed names name entries property item h) [
        | inl n ↦ stays name (needs name n)
        | inr k ↦ subst (λ ns. has ns name ≡ true) (sym is) (added_all name names (flat_map own_keys entries) k)
      ];
    }

-- the attributes of one entry more
pub keys_later : (entries : List Entry) (k : ℕ) (e : Entry) (all now new : List (List ℕ)) → k < length entries → e ≡ slice_index_or entries k e
    → new ≡ with_names now (own_keys e) → with_names now (flat_map own_keys (drop k entries)) ≡ all
    → with_names new (flat_map own_keys (drop (k + 1) entries)) ≡ all
keys_later entries k e all now new inside is made rest =
    ap (λ ns. with_names ns (flat_map own_keys (drop (k + 1) entries))) made
    ∙ sym (with_names_both now (own_keys e) (flat_map own_keys (drop (k + 1) entries)))
    ∙ ap (λ x. with_names now (own_keys x ++ flat_map own_keys (drop (k + 1) entries))) is
    ∙ ap (λ es. with_names now (flat_map own_keys es)) (sym (drop_more entries k e inside))
    ∙ rest
