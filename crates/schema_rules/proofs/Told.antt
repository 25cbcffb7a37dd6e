-- What the relations tell is told of known names.
use Rattle.std.proofs.Common.{◌≡◌, ℕ, ◌<◌, List, [], true, false, ◌&&◌, nat_lt, Some, length, take, drop, sym, ◌∙◌, subst, arith}
use Rattle.std.specs.Str.{bytes_eq}
use Rattle.std.proofs.lemmas.Bool.{and_from, false_from_ne_true, true≢false, ltb-true, lt-ltb, eqb-true}
use Rattle.std.proofs.lemmas.List.{take-append-drop, get_or-take, length-take}
use Rattle.schema_definitions.specs.declared.file.Entry.{Entry}
use Rattle.schema_definitions.specs.declared.file.Property.TheVariants.{AllowIn, AllowChildren, AllowAttributes, AllowWhere, AllowContentOf, AllowAttributesOf}
use Rattle.schema_definitions.specs.declared.file.Property.TheVariants.{InheritTypesFrom}
use Rattle.schema_definitions.specs.declared.file.Flag.{Flag}
use Rattle.schema_definitions.specs.Names.{has}
use Rattle.schema_definitions.specs.Relations.{StandsIn, allowed_in, allowed_child, like_another, content_of, MayHave, allowed, attributes_of, HasFlag}
use Rattle.schema_definitions.specs.Relations.{writes_it, inherits_it}
use Rattle.schema_definitions.specs.Rules.{stands_in, may_have, has_flag}
use Rattle.schema_definitions.proofs.Least.{stands_in_is, may_have_is, has_flag_is}
use Rattle.schema_definitions.proofs.Members.{itself, has_left}
use Rattle.schema_rules.specs.Numbering.{named, is_at}
use Rattle.schema_rules.specs.Tables.{AreKnown}
use Rattle.schema_rules.proofs.Named.{both_ways}
use Rattle.schema_rules.proofs.Numbered.{number_of, has_named}
use Rattle.schema_rules.proofs.Drawing.{lists_item, sets_item}

module _ (names : List (List ℕ)) (entries : List Entry) (known : AreKnown names entries) where
  child_known : {item parent : List ℕ} → StandsIn entries item parent → has names item ≡ true
  child_known {item} {parent} (allowed_in l) = known.items item (lists_item names entries AllowIn item parent l)
  child_known {item} {parent} (allowed_child l) = known.listed AllowChildren parent item l
  child_known {item} (like_another {other = other} l s) = known.items item (lists_item names entries AllowWhere item other l)
  child_known (content_of l s) = child_known s

  parent_known : {item parent : List ℕ} → StandsIn entries item parent → has names parent ≡ true
  parent_known {item} {parent} (allowed_in l) = known.listed AllowIn item parent l
  parent_known {item} {parent} (allowed_child l) = known.items parent (lists_item names entries AllowChildren parent item l)
  parent_known (like_another l s) = parent_known s
  parent_known {item} {parent} (content_of {other = other} l s) = known.items parent (lists_item names entries AllowContentOf parent other l)

  pub stands_known : (parent item : List ℕ) → stands_in entries item parent ≡ true → (has names parent && has names item) ≡ true
  stands_known parent item h = let s = (stands_in_is entries item parent).0 h in and_from (has names parent) (has names item) (parent_known s) (child_known s)

  key_known : {key item : List ℕ} → MayHave entries key item → has names key ≡ true
  key_known {key} {item} (allowed l) = known.listed AllowAttributes item key l
  key_known (attributes_of l m) = key_known m

  owner_known : {key item : List ℕ} → MayHave entries key item → has names item ≡ true
  owner_known {key} {item} (allowed l) = known.items item (lists_item names entries AllowAttributes item key l)
  owner_known {key} {item} (attributes_of {other = other} l m) = known.items item (lists_item names entries AllowAttributesOf item other l)

  pub keys_known : (item key : List ℕ) → may_have entries key item ≡ true → (has names item && has names key) ≡ true
  keys_known item key h = let m = (may_have_is entries key item).0 h in and_from (has names item) (has names key) (owner_known m) (key_known m)

  flagged_known : (flag : Flag) {item : List ℕ} → HasFlag entries flag item → has names item ≡ true
  flagged_known flag {item} (writes_it s) = known.items item (sets_item names entries flag item s)
  flagged_known flag {item} (inherits_it {other = other} o l m) = known.items item (lists_item names entries InheritTypesFrom item other l)

  pub flags_known : (flag : Flag) (item : List ℕ) → has_flag entries flag item ≡ true → has names item ≡ true
  flags_known flag item h = flagged_known flag ((has_flag_is entries flag item).0 h)

-- a number is one of the first where its name is among the first names
pub number_front : (names first : List (List ℕ)) (count node : ℕ) (name : List ℕ) → take count names ≡ first → node < length names
    → named names node ≡ name → ((other : ℕ) → other < length names → is_at (Some node) other ≡ bytes_eq name (named names other))
    → nat_lt node count ≡ has first name
number_front names first count node name front inside meant exact = both_ways (nat_lt node count) (has first name)
    (λ below. let b = ltb-true node count below in
    let same : named (take count names) node ≡ name = get_or-take count names node [] b ∙ meant in
    subst (λ ns. has ns name ≡ true) front
    (subst (λ n. has (take count names) n ≡ true) same (has_named (take count names) node (omega (arith, b, inside, length-take count names)))))
    (λ h. let found = number_of (take count names) name (subst (λ ns. has ns name ≡ true) (sym front) h) in
    let below : found.0 < count = omega (arith, found.1, length-take count names) in
    let within : found.0 < length names = omega (arith, found.1, length-take count names) in
    let same : named names found.0 ≡ name = sym (get_or-take count names found.0 [] below) ∙ found.2 in
    let one : node ≡ found.0 = eqb-true node found.0 (exact found.0 within ∙ subst (λ n. bytes_eq name n ≡ true) (sym same) (itself name)) in
    lt-ltb node count (omega (arith, one, below)))

-- a name that isn't there isn't among the first
pub none_front : (names first : List (List ℕ)) (count : ℕ) (name : List ℕ) → take count names ≡ first → false ≡ has names name → false ≡ has first name
none_front names first count name front absent =
    sym (false_from_ne_true (has first name)
    (λ h. true≢false (sym (subst (λ ns. has ns name ≡ true) (take-append-drop count names)
    (has_left (take count names) (drop count names) name (subst (λ ns. has ns name ≡ true) (sym front) h))) ∙ sym absent)))
