-- What is read of a JSON value keeps the limits.
use Rattle.std.proofs.Common.{◌≡◌, ℕ, ◌+◌, ◌^◌, pos, negsuc, List, [], ◌∷◌, Bool, true, false, if◌then◌else◌, nat_lt, is_some, Option, Some, None, option_map}
use Rattle.std.proofs.Common.{option_and_then, Result, Ok, Err, refl, sym, ap, ◌∙◌, subst, encode_utf8_all}
use Rattle.std.specs.Str.{chars, is_utf8, all_scalars}
use Rattle.std.specs.List.{list_all}
use Rattle.std.specs.Ordering.{match_ordering, nat_cmp}
use Rattle.std.specs.Cmp.Lexicographic.{slice_cmp}
use Rattle.std.specs.declared.cmp.Ordering.TheVariants.{Less, Equal, Greater}
use Rattle.std.specs.FinMap.{is_sorted}
use Rattle.std.proofs.lemmas.Str.{encodes-chars, scalars-chars, IsUtf8-from_is_utf8}
use Rattle.serde_json.specs.Data.{Num, unsigned, negative, float, Data, null, boolean, number, string, array, object, Items, no_items, item, Members}
use Rattle.serde_json.specs.Data.{no_members, member}
use Rattle.serde_json.specs.Find.{get, get_member, as_null, as_array, as_object, as_number, as_u64, as_i64, as_str}
use Rattle.ck_base.specs.Name.{is_name}
use Rattle.ck_base.specs.Text.{is_within_text_limit}
use Rattle.ck_base.specs.Entries.{name_cmp, with_value}
use Rattle.ck_base.specs.declared.value.Value.{Value as AttributeValue}
use Rattle.ck_base.specs.declared.value.Value.TheVariants.{Whole, Truth, Text}
use Rattle.ck_base.proofs.Common.{both, first, second}
use Rattle.ck_base.proofs.Ordered.{ordered_with_value}
use Rattle.json_forms.specs.declared.fault.FormFault.{FormFault}
use Rattle.json_forms.specs.declared.fault.FormFault.TheVariants.{BadField}
use Rattle.json_forms.specs.Form.{◌>>=◌, or_bad, offset_of, offsets_at, is_position_length, position_length_at, position_field, text_field, field_path}
use Rattle.json_forms.specs.Form.{index_path}
use Rattle.json_names.specs.Names.{name_field, name_of, kept_name}
use Rattle.json_values.specs.Values.{value_of, value_at, value_field, nullable_at, nullable_field, attribute_at, attributes_from, attributes_field, path_field}
use Rattle.json_values.specs.Values.{is_empty_list}
use Rattle.json_values.specs.Written.{is_offset, is_position, is_path, is_value, is_nullable, is_attribute, are_attributes, is_number, is_json, hold_json}

-- ---- steps

-- what a step that gives something went through
pub step : {A B : Type 0} (r : Result A FormFault) (next : A → Result B FormFault) (b : B) → (r >>= next) ≡ Ok b → (a : A) × (r ≡ Ok a) × (next a ≡ Ok b)
step (Ok a) next b e = (a, refl, e)
step (Err fault) next b e = absurd cc

pub same_ok : {A : Type 0} (a b : A) → ◌≡◌ {A = Result A FormFault} (Ok a) (Ok b) → a ≡ b
same_ok a b e = cc

pub same_some : {A : Type 0} (a b : A) → Some a ≡ Some b → a ≡ b
same_some a b e = cc

pub found : {A : Type 0} (path : List ℕ) (o : Option A) (a : A) → or_bad path o ≡ Ok a → o ≡ Some a
found path None a e = absurd cc
found path (Some x) a e = ap Some (same_ok x a e)

then_some : {A B : Type 0} (o : Option A) (f : A → Option B) (b : B) → option_and_then f o ≡ Some b → (a : A) × (o ≡ Some a) × (f a ≡ Some b)
then_some None f b e = absurd cc
then_some (Some a) f b e = (a, refl, e)

if_some : {A : Type 0} (t : Bool) (a b : A) → (if t then Some a else None) ≡ Some b → (t ≡ true) × (a ≡ b)
if_some true a b e = (refl, same_some a b e)
if_some false a b e = absurd cc

if_ok : {A : Type 0} (t : Bool) (r : Result A FormFault) (fault : FormFault) (a : A) → (if t then r else Err fault) ≡ Ok a → (t ≡ true) × (r ≡ Ok a)
if_ok true r fault a e = (refl, e)
if_ok false r fault a e = absurd cc

-- ---- positions and paths

offset_kept : (d : Data) (n : ℕ) → offset_of d ≡ Some n → is_offset n ≡ true
offset_kept d n e =
    let number = then_some (option_and_then as_u64 (as_number d)) (λ n. if nat_lt n (2 ^ 32) then Some n else None) n e in
    let small = if_some (nat_lt number.0 (2 ^ 32)) number.0 n number.2 in
    subst (λ n. is_offset n ≡ true) small.1 small.0

offsets_kept : (path : List ℕ) (index : ℕ) (items : Items) (numbers : List ℕ) → offsets_at path index items ≡ Ok numbers → list_all is_offset numbers ≡ true
unfolding offsets_at
offsets_kept path index no_items numbers e = subst (λ numbers. list_all is_offset numbers ≡ true) (same_ok [] numbers e) refl
offsets_kept path index (item d rest) numbers e =
    let one = step (or_bad (index_path path index) (offset_of d)) (λ (n : ℕ). offsets_at path (index + 1) rest >>= λ (more : List ℕ). Ok (n ∷ more))
    numbers e in
    let others = step (offsets_at path (index + 1) rest) (λ (more : List ℕ). Ok (one.0 ∷ more)) numbers one.2 in
    let here = offset_kept d one.0 (found (index_path path index) (offset_of d) one.0 one.1) in
    let later = offsets_kept path (index + 1) rest others.0 others.1 in
    subst (λ numbers. list_all is_offset numbers ≡ true) (same_ok (one.0 ∷ others.0) numbers others.2)
    (both (is_offset one.0) (list_all is_offset others.0) here later)

pub position_kept : (path name : List ℕ) (d : Data) (numbers : List ℕ) → position_field path name d ≡ Ok numbers → is_position numbers ≡ true
unfolding position_field position_length_at
position_kept path name d numbers e =
    let list = step (or_bad (field_path path name) (option_and_then as_array (get name d)))
    (λ (items : Items). offsets_at (field_path path name) 0 items >>= position_length_at (field_path path name)) numbers e in
    let read = step (offsets_at (field_path path name) 0 list.0) (position_length_at (field_path path name)) numbers list.2 in
    let long = if_ok (is_position_length read.0) (Ok read.0) (BadField (field_path path name)) numbers read.2 in
    subst (λ numbers. is_position numbers ≡ true) (same_ok read.0 numbers long.1)
    (both (is_position_length read.0) (list_all is_offset read.0) long.0 (offsets_kept (field_path path name) 0 list.0 read.0 read.1))

is_path-position : (numbers : List ℕ) → is_position numbers ≡ true → is_path numbers ≡ true
is_path-position [] e = refl
is_path-position (n ∷ numbers) e = e

pub path_kept : (path name : List ℕ) (d : Data) (numbers : List ℕ) → path_field path name d ≡ Ok numbers → is_path numbers ≡ true
unfolding path_field
path_kept path name d numbers e = go (is_empty_list (option_and_then as_array (get name d))) e
  where
    go : (t : Bool) → (if t then Ok [] else position_field path name d) ≡ Ok numbers → is_path numbers ≡ true
    go true e = subst (λ numbers. is_path numbers ≡ true) (same_ok [] numbers e) refl
    go false e = is_path-position numbers (position_kept path name d numbers e)

-- ---- names

name_of_kept : (d : Data) (bytes : List ℕ) → name_of d ≡ Some bytes → is_name bytes ≡ true
name_of_kept d bytes e =
    let text = then_some (as_str d) kept_name bytes e in
    let named = if_some (is_name text.0) text.0 bytes text.2 in
    subst (λ bytes. is_name bytes ≡ true) named.1 named.0

pub name_kept : (path name : List ℕ) (d : Data) (bytes : List ℕ) → name_field path name d ≡ Ok bytes → is_name bytes ≡ true
unfolding name_field
name_kept path name d bytes e =
    let held = then_some (get name d) name_of bytes (found (field_path path name) (option_and_then name_of (get name d)) bytes e) in
    name_of_kept held.0 bytes held.2

-- ---- what an object holds

held_json : (name : List ℕ) (fields : Members) (x : Data) → hold_json fields ≡ true → get_member name fields ≡ Some x → is_json x ≡ true
held_json name no_members x h e = absurd cc
held_json name (member key d fields) x h e =
    let here = first (is_json d) (hold_json fields) h in
    let later = second (is_json d) (hold_json fields) h in
    elim (slice_cmp nat_cmp name key) as (λ o. match_ordering o (get_member name fields) (Some d) (get_member name fields) ≡ Some x → is_json x ≡ true) [
      | Less ↦ λ e. held_json name fields x later e
      | Equal ↦ λ e. subst (λ d. is_json d ≡ true) (same_some d x e) here
      | Greater ↦ λ e. held_json name fields x later e
    ] e

pub get_json : (name : List ℕ) (d x : Data) → is_json d ≡ true → get name d ≡ Some x → is_json x ≡ true
get_json name null x h e = absurd cc
get_json name (boolean truth) x h e = absurd cc
get_json name (number n) x h e = absurd cc
get_json name (string text) x h e = absurd cc
get_json name (array items) x h e = absurd cc
get_json name (object fields) x h e = held_json name fields x h e

-- ---- values

pub text_kept : (path name : List ℕ) (d : Data) (bytes : List ℕ) → is_json d ≡ true → text_field path name d ≡ Ok bytes → is_utf8 bytes ≡ true
unfolding text_field
text_kept path name d bytes h e =
    let held = then_some (get name d) as_str bytes (found (field_path path name) (option_and_then as_str (get name d)) bytes e) in
    go held.0 (get_json name d held.0 h held.1) held.2
  where
    go : (x : Data) → is_json x ≡ true → as_str x ≡ Some bytes → is_utf8 bytes ≡ true
    go null h e = absurd cc
    go (boolean truth) h e = absurd cc
    go (number n) h e = absurd cc
    go (string text) h e = subst (λ bytes. is_utf8 bytes ≡ true) (same_some text bytes e) h
    go (array items) h e = absurd cc
    go (object fields) h e = absurd cc

-- the scalar values of UTF-8
pub chars_kept : (bytes : List ℕ) → is_utf8 bytes ≡ true → all_scalars (chars bytes) ≡ true
chars_kept bytes h = scalars-chars bytes (IsUtf8-from_is_utf8 bytes h)

is_value-text : (bytes : List ℕ) → is_utf8 bytes ≡ true → is_within_text_limit bytes ≡ true → is_value (Text (chars bytes)) ≡ true
is_value-text bytes h fits =
    both (all_scalars (chars bytes)) (is_within_text_limit (encode_utf8_all (chars bytes))) (chars_kept bytes h)
    (ap is_within_text_limit (encodes-chars bytes (IsUtf8-from_is_utf8 bytes h)) ∙ fits)

whole_kept : (n : Num) (value : AttributeValue) → is_number n ≡ true → option_map Whole (as_i64 n) ≡ Some value → is_value value ≡ true
whole_kept (unsigned n) value h e = go (nat_lt n (2 ^ 63)) refl e
  where
    go : (t : Bool) → nat_lt n (2 ^ 63) ≡ t → option_map Whole (if t then Some (pos n) else None) ≡ Some value → is_value value ≡ true
    go true small e = subst (λ value. is_value value ≡ true) (same_some (Whole (pos n)) value e) small
    go false small e = absurd cc
whole_kept (negative (pos n)) value h e = absurd cc
whole_kept (negative (negsuc n)) value h e = subst (λ value. is_value value ≡ true) (same_some (Whole (negsuc n)) value e) h
whole_kept (float x) value h e = absurd cc

value_of_kept : (d : Data) (value : AttributeValue) → is_json d ≡ true → value_of d ≡ Some value → is_value value ≡ true
value_of_kept null value h e = absurd cc
value_of_kept (boolean truth) value h e = subst (λ value. is_value value ≡ true) (same_some (Truth truth) value e) refl
value_of_kept (number n) value h e = whole_kept n value h e
value_of_kept (string text) value h e =
    let fits = if_some (is_within_text_limit text) (Text (chars text)) value e in
    subst (λ value. is_value value ≡ true) fits.1 (is_value-text text h fits.0)
value_of_kept (array items) value h e = absurd cc
value_of_kept (object fields) value h e = absurd cc

pub value_kept : (path name : List ℕ) (d : Data) (value : AttributeValue) → is_json d ≡ true → value_field path name d ≡ Ok value → is_value value ≡ true
unfolding value_field
value_kept path name d value h e =
    let held = then_some (get name d) value_of value (found (field_path path name) (option_and_then value_of (get name d)) value e) in
    value_of_kept held.0 value (get_json name d held.0 h held.1) held.2

pub nullable_kept : (path name : List ℕ) (d : Data) (value : Option AttributeValue) → is_json d ≡ true → nullable_field path name d ≡ Ok value
    → is_nullable value ≡ true
unfolding nullable_field nullable_at value_at
nullable_kept path name d value h e =
    let held = step (or_bad (field_path path name) (get name d)) (nullable_at (field_path path name)) value e in
    go held.0 (is_some (as_null held.0)) (get_json name d held.0 h (found (field_path path name) (get name d) held.0 held.1)) held.2
  where
    go : (x : Data) (t : Bool) → is_json x ≡ true → (if t then Ok None else (or_bad (field_path path name) (value_of x) >>= λ one. Ok (Some one)))
        ≡ Ok value → is_nullable value ≡ true
    go x true h e = subst (λ value. is_nullable value ≡ true) (same_ok None value e) refl
    go x false h e =
        let one = step (or_bad (field_path path name) (value_of x)) (λ one. Ok (Some one)) value e in
        let kept = value_of_kept x one.0 h (found (field_path path name) (value_of x) one.0 one.1) in
        subst (λ value. is_nullable value ≡ true) (same_ok (Some one.0) value one.2) kept

-- ---- attributes

all_with : (key : List ℕ) (value : AttributeValue) (made : List (List ℕ × AttributeValue)) → is_attribute (key, value) ≡ true
    → list_all is_attribute made ≡ true → list_all is_attribute (with_value key value made) ≡ true
all_with key value [] one all = both (is_attribute (key, value)) true one refl
all_with key value (entry ∷ made) one all =
    let here = first (is_attribute entry) (list_all is_attribute made) all in
    let later = second (is_attribute entry) (list_all is_attribute made) all in
    elim (name_cmp key entry.0) as
    (λ o. list_all is_attribute (match_ordering o ((key, value) ∷ entry ∷ made) ((entry.0, value) ∷ made) (entry ∷ with_value key value made)) ≡ true) [
      | Less ↦ both (is_attribute (key, value)) (list_all is_attribute (entry ∷ made)) one all
      | Equal ↦ both (is_attribute (entry.0, value)) (list_all is_attribute made)
          (both (is_name entry.0) (is_value value) (first (is_name entry.0) (is_value entry.1) here) (second (is_name key) (is_value value) one)) later
      | Greater ↦ both (is_attribute entry) (list_all is_attribute (with_value key value made)) here (all_with key value made one later)
    ]

attribute_kept : (path key : List ℕ) (d : Data) (value : AttributeValue) → is_json d ≡ true → attribute_at path key d ≡ Ok value
    → is_attribute (key, value) ≡ true
unfolding attribute_at value_at
attribute_kept path key d value h e =
    let named = if_ok (is_name key) (or_bad (field_path path key) (value_of d)) (BadField (field_path path key)) value e in
    both (is_name key) (is_value value) named.0 (value_of_kept d value h (found (field_path path key) (value_of d) value named.1))

attributes_from_kept : (path : List ℕ) (made : List (List ℕ × AttributeValue)) (fields : Members) (attributes : List (List ℕ × AttributeValue))
    → hold_json fields ≡ true → is_sorted name_cmp made ≡ true → list_all is_attribute made ≡ true
    → attributes_from path made fields ≡ Ok attributes → are_attributes attributes ≡ true
unfolding attributes_from
attributes_from_kept path made no_members attributes h s a e = subst (λ attributes. are_attributes attributes ≡ true) (same_ok made attributes e)
    (both (is_sorted name_cmp made) (list_all is_attribute made) s a)
attributes_from_kept path made (member key d rest) attributes h s a e =
    let one = step (attribute_at path key d) (λ value. attributes_from path (with_value key value made) rest) attributes e in
    let kept = attribute_kept path key d one.0 (first (is_json d) (hold_json rest) h) one.1 in
    attributes_from_kept path (with_value key one.0 made) rest attributes (second (is_json d) (hold_json rest) h) (ordered_with_value key one.0 made s)
    (all_with key one.0 made kept a) one.2

no_attributes : (path name : List ℕ) (d : Data) → get name d ≡ None → attributes_field path name d ≡ Ok []
unfolding attributes_field
no_attributes path name d g = rw g refl

some_attributes : (path name : List ℕ) (d : Data) (fields : Members) → get name d ≡ Some (object fields) → attributes_field path name d
    ≡ attributes_from (field_path path name) [] fields
unfolding attributes_field
some_attributes path name d fields g = rw g refl

bad_attributes : (path name : List ℕ) (d x : Data) → get name d ≡ Some x → as_object x ≡ None → attributes_field path name d
    ≡ Err (BadField (field_path path name))
unfolding attributes_field
bad_attributes path name d x g o = rw (g, o) refl

pub attributes_kept : (path name : List ℕ) (d : Data) (attributes : List (List ℕ × AttributeValue)) → is_json d ≡ true → attributes_field path name d
    ≡ Ok attributes → are_attributes attributes ≡ true
attributes_kept path name d attributes h e = go (get name d) refl
  where
    none : (x : Data) → get name d ≡ Some x → as_object x ≡ None → are_attributes attributes ≡ true
    none x g o = let bad = bad_attributes path name d x g o in absurd cc

    go : (o : Option Data) → get name d ≡ o → are_attributes attributes ≡ true
    go None g = subst (λ attributes. are_attributes attributes ≡ true) (same_ok [] attributes (sym (no_attributes path name d g) ∙ e)) refl
    go (Some (object fields)) g = attributes_from_kept (field_path path name) [] fields attributes (get_json name d (object fields) h g) refl refl
        (sym (some_attributes path name d fields g) ∙ e)
    go (Some null) g = none null g refl
    go (Some (boolean truth)) g = none (boolean truth) g refl
    go (Some (number n)) g = none (number n) g refl
    go (Some (string text)) g = none (string text) g refl
    go (Some (array items)) g = none (array items) g refl
