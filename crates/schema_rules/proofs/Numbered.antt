-- Names and the map of their numbers.
use Rattle.std.proofs.Common.{◌≡◌, ℕ, suc, ◌<◌, List, [], ◌∷◌, ◌++◌, true, false, cond, ◌⊎◌, Option, Some, None, is_some, IfSome, length, refl, sym, ap, ◌∙◌}
use Rattle.std.proofs.Common.{subst, inl, inr, arith}
use Rattle.std.specs.BTreeMap.{BTreeMap, get, Updates}
use Rattle.std.specs.Ordering.{is_eq}
use Rattle.std.specs.declared.cmp.Ordering.{Ordering}
use Rattle.std.specs.declared.cmp.Ordering.TheVariants.{Less, Equal, Greater}
use Rattle.std.specs.FinMap.{slice_cmp-IsAntisymmetric, nat_cmp-IsAntisymmetric}
use Rattle.std.proofs.lemmas.List.{get_or_append_left, get_or_push, length_push}
use Rattle.std.specs.Str.{bytes_eq}
use Rattle.std.proofs.lemmas.Bool.{cases_eq, cases_lt, or_cases, eq-eqb, ne_eqb, false_from_ne_true, true≢false}
use Rattle.std.proofs.lemmas.List.Folds.{list_any_at}
use Rattle.ck_base.specs.Entries.{name_cmp}
use Rattle.schema_definitions.specs.Names.{has}
use Rattle.schema_definitions.proofs.Members.{itself, same_name}
use Rattle.schema_rules.specs.Numbering.{named, is_at, AreDistinct, IsNumbered}

-- a name that is there has a number
pub number_of : (names : List (List ℕ)) (name : List ℕ) → has names name ≡ true → (node : ℕ) × (node < length names) × (named names node ≡ name)
number_of [] name h = cc
number_of (x ∷ xs) name h = elim (or_cases (bytes_eq x name) (has xs name) h) [
  | inl here ↦ (0, omega arith, same_name x name here)
  | inr later ↦ let found = number_of xs name later in (suc found.0, omega (arith, found.1), found.2)
]

-- and the name with a number is there
pub has_named : (names : List (List ℕ)) (node : ℕ) → node < length names → has names (named names node) ≡ true
has_named names node inside = list_any_at (λ other. bytes_eq other (named names node)) names node [] inside (itself (named names node))

module _ (names : List (List ℕ)) (places : BTreeMap (List ℕ) ℕ) (numbered : IsNumbered names places) (name : List ℕ) where
  none_there : get name_cmp places name ≡ None → has names name ≡ false
  none_there none = false_from_ne_true (has names name) (λ h. let n = number_of names name h in cc (numbered.found n.0 n.1))

  pub number_there : (found : Option ℕ) → found ≡ get name_cmp places name → is_some found ≡ has names name
  number_there None e = sym (none_there (sym e))
  number_there (Some node) e = sym
      (subst (λ n. has names n ≡ true) (numbered.meant name node (sym e)) (has_named names node (numbered.inside name node (sym e))))

  pub number_exact : (found : Option ℕ) → found ≡ get name_cmp places name → (node : ℕ) → node < length names
      → is_at found node ≡ bytes_eq name (named names node)
  number_exact None e node inside =
      sym (false_from_ne_true (bytes_eq name (named names node)) (λ same. let n : name ≡ named names node = same_name name (named names node) same
      in cc (numbered.found node inside)))
  number_exact (Some at) e node inside = elim (cases_eq at node) [
    | inl same ↦ eq-eqb at node same
        ∙ sym (subst (λ n. bytes_eq name (named names n) ≡ true) same (subst (λ n. bytes_eq n (named names at) ≡ true) (numbered.meant name at (sym e))
        (itself (named names at))))
    | inr apart ↦ ne_eqb at node apart
        ∙ sym (false_from_ne_true (bytes_eq name (named names node))
        (λ same. apart (some_same at node (e ∙ ap (get name_cmp places) (same_name name (named names node) same) ∙ numbered.found node inside))))
  ] where
    some_same : (a b : ℕ) → ◌≡◌ {A = Option ℕ} (Some a) (Some b) → a ≡ b
    some_same a b e = cc

pub numbers_distinct : (names : List (List ℕ)) (places : BTreeMap (List ℕ) ℕ) → IsNumbered names places → AreDistinct names
numbers_distinct names places numbered node other n o = elim (cases_eq node other) [
  | inl same ↦ eq-eqb node other same ∙ sym (subst (λ x. bytes_eq (named names node) (named names x) ≡ true) same (itself (named names node)))
  | inr apart ↦ ne_eqb node other apart
      ∙ sym (false_from_ne_true (bytes_eq (named names node) (named names other))
      (λ same. apart (some_same node other (sym (numbered.found node n) ∙ ap (get name_cmp places) (same_name (named names node) (named names other) same)
      ∙ numbered.found other o))))
] where
  some_same : (a b : ℕ) → ◌≡◌ {A = Option ℕ} (Some a) (Some b) → a ≡ b
  some_same a b e = cc

-- names that compare alike are one
alike : (a b : List ℕ) → is_eq (name_cmp a b) ≡ true → a ≡ b
alike a b e = slice_cmp-IsAntisymmetric nat_cmp-IsAntisymmetric a b (equal (name_cmp a b) e) where
  equal : (o : Ordering) → is_eq o ≡ true → o ≡ Equal
  equal Less e = cc
  equal Equal e = refl
  equal Greater e = cc

-- one more name that isn't there
numbered_with : (names : List (List ℕ)) (places more : BTreeMap (List ℕ) ℕ) (name : List ℕ) → IsNumbered names places → has names name ≡ false
    → Updates name_cmp places more name (Some (length names)) → IsNumbered (names ++ name ∷ []) more
numbered_with names places more name numbered absent updates =
    let old : (node : ℕ) → node < length names → named (names ++ name ∷ []) node
    ≡ named names node = λ node inside. get_or_append_left names (name ∷ []) [] node inside in
    let last : named (names ++ name ∷ []) (length names) ≡ name = get_or_push names name [] (length names) refl in
    let apart : (node : ℕ) → node < length names → is_eq (name_cmp name (named names node))
    ≡ false = λ node inside. false_from_ne_true (is_eq (name_cmp name (named names node)))
    (λ e. true≢false (sym (subst (λ n. has names n ≡ true) (sym (alike name (named names node) e)) (has_named names node inside)) ∙ absent)) in
    let looked : (q : List ℕ) (node : ℕ) → get name_cmp more q ≡ Some node → ((name ≡ q) × (node ≡ length names))
    ⊎ (get name_cmp places q ≡ Some node) = λ q node e. elim (is_eq (name_cmp name q)) as (λ b. is_eq (name_cmp name q) ≡ b
    → cond b (Some (length names)) (get name_cmp places q) ≡ Some node → ((name ≡ q) × (node ≡ length names)) ⊎ (get name_cmp places q ≡ Some node)) [
      | true ↦ λ t f. inl (alike name q t, some_same node (length names) f)
      | false ↦ λ t f. inr f
    ] refl (sym (updates.0 q) ∙ e) in
    record {
      found = λ node inside. elim (cases_lt node (length names)) [
        | inl before ↦ ap (get name_cmp more) (old node before) ∙ updates.0 (named names node)
            ∙ ap (λ b. cond b (Some (length names)) (get name_cmp places (named names node))) (apart node before) ∙ numbered.found node before
        | inr behind ↦ let end : node ≡ length names = omega (arith, inside, behind, length_push names name) in
            subst (λ n. get name_cmp more (named (names ++ name ∷ []) n) ≡ Some n) (sym end) (ap (get name_cmp more) last ∙ updates.1)
      ];
      inside = λ q node e. elim (looked q node e) [
        | inl new ↦ omega (arith, new.1, length_push names name)
        | inr was ↦ omega (arith, numbered.inside q node was, length_push names name)
      ];
      meant = λ q node e. elim (looked q node e) [
        | inl new ↦ subst (λ n. named (names ++ name ∷ []) n ≡ q) (sym new.1) (last ∙ new.0)
        | inr was ↦ old node (numbered.inside q node was) ∙ numbered.meant q node was
      ];
    } where
      some_same : (a b : ℕ) → ◌≡◌ {A = Option ℕ} (Some b) (Some a) → a ≡ b
      some_same a b e = cc

-- the same, as it is made
pub numbered_made : (names made : List (List ℕ)) (places more : BTreeMap (List ℕ) ℕ) (name key last : List ℕ) (count : ℕ) → IsNumbered names places
    → has names name ≡ false → key ≡ name → last ≡ name → count ≡ length names → Updates name_cmp places more key (Some count) → made ≡ names ++ last ∷ []
    → IsNumbered made more
numbered_made names made places more name key last count numbered absent k l n updates m =
    let updated : Updates name_cmp places more name (Some (length names)) = subst (λ c. Updates name_cmp places more name (Some c)) n
    (subst (λ q. Updates name_cmp places more q (Some count)) k updates) in
    subst (λ xs. IsNumbered xs more) (sym (m ∙ ap (λ x. names ++ x ∷ []) l)) (numbered_with names places more name numbered absent updated)
