-- What is written of a part is read as this part, and what is read keeps the limits.
use Rattle.std.proofs.Common.{◌≡◌, ℕ, ◌+◌, ℤ, pos, negsuc, List, [], ◌∷◌, ◌++◌, true, false, if◌then◌else◌, is_some, Option, Some, None, option_map, Ok, refl}
use Rattle.std.proofs.Common.{sym, ap, ◌∙◌, subst, append_assoc, append-nil, encode_utf8_all}
use Rattle.std.specs.Str.{chars}
use Rattle.std.specs.List.{list_all}
use Rattle.std.specs.Ordering.{ordering_reverse, is_lt}
use Rattle.std.specs.declared.cmp.Ordering.TheVariants.{Less, Greater}
use Rattle.std.specs.Cmp.Lexicographic.{nat_list_cmp_total}
use Rattle.std.specs.FinMap.{is_sorted}
use Rattle.std.specs.FinMap.Entries.{below_all}
use Rattle.std.proofs.lemmas.Str.{chars-encodes}
use Rattle.std.specs.Str.{all_scalars}
use Rattle.serde_json.specs.Data.{unsigned, Data, number, string}
use Rattle.serde_json.specs.Find.{get, as_null, as_i64, of_integer}
use Rattle.ck_base.specs.Name.{is_name}
use Rattle.ck_base.specs.Text.{is_within_text_limit}
use Rattle.ck_base.specs.Entries.{name_cmp, with_value}
use Rattle.ck_base.specs.declared.value.Value.{Value as AttributeValue}
use Rattle.ck_base.specs.declared.value.Value.TheVariants.{Whole, Truth, Text}
use Rattle.ck_base.proofs.Common.{first, second, less}
use Rattle.json_forms.specs.Form.{◌>>=◌, offset_of, offsets_at, is_position_length, position_length_at, position_field, text_field, field_path}
use Rattle.json_names.specs.Names.{name_field}
use Rattle.json_values.specs.Values.{value_of, value_at, value_field, nullable_at, nullable_field, attribute_at, attributes_from, attributes_field, path_field}
use Rattle.json_values.specs.Written.{numbers_items, numbers_form, value_form, nullable_form, attributes_members, attributes_form, is_offset, is_position}
use Rattle.json_values.specs.Written.{is_path, is_whole, is_value, is_nullable, is_attribute, are_attributes}

-- ---- positions and paths

offset_written : (n : ℕ) → is_offset n ≡ true → offset_of (number (unsigned n)) ≡ Some n
offset_written n e = ap (λ b. if b then Some n else None) e

offsets_written : (path : List ℕ) (index : ℕ) (numbers : List ℕ) → list_all is_offset numbers ≡ true → offsets_at path index (numbers_items numbers)
    ≡ Ok numbers
unfolding offsets_at
offsets_written path index [] e = refl
offsets_written path index (n ∷ numbers) e =
    let here = offset_written n (first (is_offset n) (list_all is_offset numbers) e) in
    let later = offsets_written path (index + 1) numbers (second (is_offset n) (list_all is_offset numbers) e) in
    rw (here, later) refl

pub position_written : (path name : List ℕ) (d : Data) (numbers : List ℕ) → get name d ≡ Some (numbers_form numbers) → is_position numbers ≡ true
    → position_field path name d ≡ Ok numbers
unfolding position_field position_length_at
position_written path name d numbers g e =
    let long = first (is_position_length numbers) (list_all is_offset numbers) e in
    let all = offsets_written (field_path path name) 0 numbers (second (is_position_length numbers) (list_all is_offset numbers) e) in
    rw (g, all, long) refl

pub path_written : (path name : List ℕ) (d : Data) (numbers : List ℕ) → get name d ≡ Some (numbers_form numbers) → is_path numbers ≡ true
    → path_field path name d ≡ Ok numbers
unfolding path_field
path_written path name d [] g e = rw g refl
path_written path name d (n ∷ numbers) g e =
    let read = position_written path name d (n ∷ numbers) g e in
    rw g read

-- ---- texts and names

pub text_written : (path name : List ℕ) (d : Data) (bytes : List ℕ) → get name d ≡ Some (string bytes) → text_field path name d ≡ Ok bytes
unfolding text_field
text_written path name d bytes g = rw g refl

pub name_written : (path name : List ℕ) (d : Data) (bytes : List ℕ) → get name d ≡ Some (string bytes) → is_name bytes ≡ true → name_field path name d
    ≡ Ok bytes
unfolding name_field
name_written path name d bytes g e = rw (g, e) refl

-- ---- values

whole_written : (whole : ℤ) → is_whole whole ≡ true → as_i64 (of_integer whole) ≡ Some whole
whole_written (pos n) e = ap (λ b. if b then Some (pos n) else None) e
whole_written (negsuc n) e = refl

value_of_written : (value : AttributeValue) → is_value value ≡ true → value_of (value_form value) ≡ Some value
value_of_written (Whole whole) e = ap (option_map Whole) (whole_written whole e)
value_of_written (Truth truth) e = refl
value_of_written (Text text) e =
    let valid = first (all_scalars text) (is_within_text_limit (encode_utf8_all text)) e in
    let fits = second (all_scalars text) (is_within_text_limit (encode_utf8_all text)) e in
    ap (λ b. if b then Some (Text (chars (encode_utf8_all text))) else None) fits ∙ ap (λ t. Some (Text t)) (chars-encodes text valid)

pub value_written : (path name : List ℕ) (d : Data) (value : AttributeValue) → get name d ≡ Some (value_form value) → is_value value ≡ true
    → value_field path name d ≡ Ok value
unfolding value_field
value_written path name d value g e = let read = value_of_written value e in rw (g, read) refl

no_null : (value : AttributeValue) → is_some (as_null (value_form value)) ≡ false
no_null (Whole whole) = refl
no_null (Truth truth) = refl
no_null (Text text) = refl

pub nullable_written : (path name : List ℕ) (d : Data) (value : Option AttributeValue) → get name d ≡ Some (nullable_form value)
    → is_nullable value ≡ true → nullable_field path name d ≡ Ok value
unfolding nullable_field nullable_at value_at
nullable_written path name d None g e = rw g refl
nullable_written path name d (Some value) g e =
    let read = value_of_written value e in
    let some = no_null value in
    rw (g, some, read) refl

-- ---- attributes

below_middle : (key : List ℕ) (made : List (List ℕ × AttributeValue)) (entry : List ℕ × AttributeValue) (rest : List (List ℕ × AttributeValue))
    → below_all name_cmp key (made ++ entry ∷ rest) ≡ true → name_cmp key entry.0 ≡ Less
below_middle key [] entry rest h = less (name_cmp key entry.0) (first (is_lt (name_cmp key entry.0)) (below_all name_cmp key rest) h)
below_middle key (one ∷ made) entry rest h = below_middle key made entry rest
    (second (is_lt (name_cmp key one.0)) (below_all name_cmp key (made ++ entry ∷ rest)) h)

-- an entry whose name is behind all others goes last
put_last : (made : List (List ℕ × AttributeValue)) (entry : List ℕ × AttributeValue) (rest : List (List ℕ × AttributeValue))
    → is_sorted name_cmp (made ++ entry ∷ rest) ≡ true → with_value entry.0 entry.1 made ≡ made ++ entry ∷ []
put_last [] entry rest h = refl
put_last (one ∷ made) entry rest h =
    let before = below_middle one.0 made entry rest (first (below_all name_cmp one.0 (made ++ entry ∷ rest)) (is_sorted name_cmp (made ++ entry ∷ rest)) h) in
    let behind : name_cmp entry.0 one.0 ≡ Greater = nat_list_cmp_total.antisymm entry.0 one.0 ∙ ap ordering_reverse before in
    let later = put_last made entry rest (second (below_all name_cmp one.0 (made ++ entry ∷ rest)) (is_sorted name_cmp (made ++ entry ∷ rest)) h) in
    rw behind (ap (λ others. one ∷ others) later)

attribute_written : (path : List ℕ) (entry : List ℕ × AttributeValue) → is_attribute entry ≡ true → attribute_at path entry.0 (value_form entry.1) ≡ Ok entry.1
unfolding attribute_at value_at
attribute_written path entry e =
    let named = first (is_name entry.0) (is_value entry.1) e in
    let read = value_of_written entry.1 (second (is_name entry.0) (is_value entry.1) e) in
    rw (named, read) refl

attributes_from_written : (path : List ℕ) (made entries : List (List ℕ × AttributeValue)) → is_sorted name_cmp (made ++ entries) ≡ true
    → list_all is_attribute entries ≡ true → attributes_from path made (attributes_members entries) ≡ Ok (made ++ entries)
unfolding attributes_from
attributes_from_written path made [] s e = ap Ok (sym (append-nil made))
attributes_from_written path made (entry ∷ entries) s e =
    let here = attribute_written path entry (first (is_attribute entry) (list_all is_attribute entries) e) in
    let put = put_last made entry entries s in
    let joined : (made ++ entry ∷ []) ++ entries ≡ made ++ entry ∷ entries = append_assoc made (entry ∷ []) entries in
    let sorted : is_sorted name_cmp ((made ++ entry ∷ []) ++ entries) ≡ true = subst (λ all. is_sorted name_cmp all ≡ true) (sym joined) s in
    let later = attributes_from_written path (made ++ entry ∷ []) entries sorted (second (is_attribute entry) (list_all is_attribute entries) e) in
    ap (λ read. read >>= λ value. attributes_from path (with_value entry.0 value made) (attributes_members entries)) here
    ∙ ap (λ others. attributes_from path others (attributes_members entries)) put
    ∙ later ∙ ap Ok joined

pub attributes_written : (path name : List ℕ) (d : Data) (attributes : List (List ℕ × AttributeValue)) → get name d ≡ Some (attributes_form attributes)
    → are_attributes attributes ≡ true → attributes_field path name d ≡ Ok attributes
unfolding attributes_field
attributes_written path name d attributes g e =
    let read = attributes_from_written (field_path path name) [] attributes (first (is_sorted name_cmp attributes) (list_all is_attribute attributes) e)
    (second (is_sorted name_cmp attributes) (list_all is_attribute attributes) e) in
    rw g read
