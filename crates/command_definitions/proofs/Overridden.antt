-- The values of a selection's attributes, by its overrides and the text around it; and what two toggles make of them.
use Rattle.std.proofs.Common.{◌≡◌, ◌≢◌, ℕ, true, false, cond, if◌then◌else◌, List, [], ◌∷◌, map, Option, Some, None, is_some, option_and_then, unwrap_or}
use Rattle.std.proofs.Common.{slice_get, Result, Ok, refl, sym, ap, subst, ◌∙◌}
use Rattle.std.specs.Option.{option_map_or, option_or}
use Rattle.std.specs.Ordering.{is_eq}
use Rattle.std.specs.declared.cmp.Ordering.{Ordering}
use Rattle.std.specs.declared.cmp.Ordering.TheVariants.{Less, Equal, Greater}
use Rattle.std.specs.Cmp.Lexicographic.{nat_list_cmp_total}
use Rattle.std.specs.FinMap.Entries.{below_all}
use Rattle.std.proofs.lemmas.Cmp.{tied_itself}
use Rattle.ck_base.specs.declared.value.Value.{Value as AttributeValue}
use Rattle.ck_base.specs.Entries.{name_cmp, IsOrdered, value_of, with_value}
use Rattle.ck_base.proofs.Places.{same_name}
use Rattle.ck_base.proofs.Common.{first, second}
use Rattle.ck_base.proofs.Ordered.{ordered_with_value, ordered_without, none_before}
use Rattle.ck_base.proofs.Lookups.{written, removed}
use Rattle.item_definitions.specs.Item.{Item, Attributes, character, element, inner}
use Rattle.item_definitions.specs.Children.{item_at}
use Rattle.operation_definitions.specs.Level.{with_key}
use Rattle.operation_definitions.specs.Reversed.{AreOrdered, IsItemOrdered}
use Rattle.operation_definitions.proofs.Keys.{with_key-value}
use Rattle.operation_definitions.proofs.Lifting.{then-some}
use Rattle.operation_definitions.proofs.Ordered.{item-keys, below-ordered, get-ordered}
use Rattle.schema_definitions.specs.Allowed.{Rules, is_registered}
use Rattle.document_definitions.specs.Selection.{Selection, Overrides, is_collapsed, character_at, of_character, before, around, first_in, natural}
use Rattle.document_definitions.specs.Selection.{overridden, attributes, with_override}
use Rattle.document_definitions.specs.Document.{Document, with_selection}
use Rattle.document_definitions.specs.Sound.{IsSound}
use Rattle.edit_definitions.specs.declared.edit.Edit.TheVariants.{SelectionAttribute}
use Rattle.edit_definitions.specs.Performed.{apart, edits_made}
use Rattle.ck_base.specs.declared.faults.EditFault.{EditFault}
use Rattle.command_definitions.specs.declared.command.Command.TheVariants.{Toggle}
use Rattle.command_definitions.specs.Table.{given, toggled_value, toggled_runs, toggle_edits}
use Rattle.command_definitions.specs.Fitting.{fitting, first_has_key}
use Rattle.command_definitions.specs.GivenBack.{IsExecuted, IsNoneOr}
use Rattle.command_definitions.proofs.Plans.{planned}

-- ---- keys

differ : (k x : List ℕ) (o : Ordering) → name_cmp k x ≡ o → is_eq o ≡ false → k ≢ x
differ k x o e d same =
    let own : name_cmp k x ≡ Equal = ap (name_cmp k) (sym same) ∙ tied_itself nat_list_cmp_total k in
    absurd (no (sym d ∙ ap is_eq (sym e ∙ own)))
  where
    no : false ≡ true → ⊥
    no e = absurd cc

key-ordered : (key : List ℕ) (new : Option AttributeValue) (entries : Attributes) → IsOrdered entries → IsOrdered (with_key key new entries)
key-ordered key None entries h = ordered_without key entries h
key-ordered key (Some value) entries h = ordered_with_value key value entries h

key-others : (key : List ℕ) (new : Option AttributeValue) (entries : Attributes) (other : List ℕ) → IsOrdered entries → other ≢ key
    → value_of other (with_key key new entries) ≡ value_of other entries
key-others key None entries other h d = (removed key entries h).others other d
key-others key (Some value) entries other h d = (written key value entries).others other d

-- the value of a key: its override, or else what the text gives
overridden-value : (overrides : Overrides) (given : Attributes) → IsOrdered overrides → IsOrdered given → (k : List ℕ)
    → value_of k (overridden overrides given) ≡ option_map_or (λ value. value) (value_of k overrides) (value_of k given)
overridden-value [] given h g k = refl
overridden-value (entry ∷ overrides) given h g k =
    overridden-value overrides (with_key entry.0 entry.1 given) (second _ _ h) (key-ordered entry.0 entry.1 given g) k ∙ go (name_cmp k entry.0) refl
  where
    go : (o : Ordering) → name_cmp k entry.0 ≡ o
        → option_map_or (λ value. value) (value_of k overrides) (value_of k (with_key entry.0 entry.1 given)) ≡ option_map_or (λ value. value)
        (cond (is_eq o) (Some entry.1) (value_of k overrides)) (value_of k given)
    go Less e = ap (λ v. option_map_or (λ value. value) (value_of k overrides) v) (key-others entry.0 entry.1 given k g (differ k entry.0 Less e refl))
    go Greater e = ap (λ v. option_map_or (λ value. value) (value_of k overrides) v) (key-others entry.0 entry.1 given k g (differ k entry.0 Greater e refl))
    go Equal e =
        let same = same_name k entry.0 e in
        let none : value_of k overrides ≡ None = none_before k overrides (subst (λ key. below_all name_cmp key overrides ≡ true) (sym same) (first _ _ h)) in
        ap (λ (o : Option (Option AttributeValue)). option_map_or (λ value. value) o (value_of k (with_key entry.0 entry.1 given))) none
        ∙ ap (λ key. value_of key (with_key entry.0 entry.1 given)) same ∙ with_key-value entry.0 entry.1 given g

-- ---- what the text gives is in order

item-ordered : (path : List ℕ) (items : List Item) (item : Item) → AreOrdered items → item_at path items ≡ Some item → IsItemOrdered item
item-ordered [] items item h e = absurd cc
item-ordered (index ∷ []) items item h e = get-ordered items index item h e
item-ordered (index ∷ next ∷ path) items item h e =
    let a = then-some (λ item. option_and_then (item_at (next ∷ path)) (inner item)) (slice_get items index) item e in
    let b = then-some (item_at (next ∷ path)) (inner a.0) item a.2 in
    item-ordered (next ∷ path) b.0 item (below-ordered a.0 b.0 (get-ordered items index a.0 h a.1) b.1) b.2

abbrev Ordered : Option Attributes → Type 0
Ordered None = Unit {0}
Ordered (Some entries) = IsOrdered entries

character-ordered : (items : List Item) (path : List ℕ) → AreOrdered items → Ordered (character_at items path)
character-ordered items path h = go (item_at path items) refl
  where
    go : (o : Option Item) → item_at path items ≡ o → Ordered (option_and_then of_character o)
    go None e = tt
    go (Some (character scalar entries)) e = item-keys (character scalar entries) (item-ordered path items (character scalar entries) h e)
    go (Some (element id name entries children)) e = tt

around-ordered : (items : List Item) (position : List ℕ) → AreOrdered items → Ordered (around items position)
around-ordered items position h = go (before position)
  where
    or : (a b : Option Attributes) → Ordered a → Ordered b → Ordered (option_or a b)
    or None b f g = g
    or (Some entries) b f g = f

    go : (o : Option (List ℕ)) → Ordered (option_or (option_and_then (character_at items) o) (character_at items position))
    go None = character-ordered items position h
    go (Some path) = or (character_at items path) (character_at items position) (character-ordered items path h) (character-ordered items position h)

natural-ordered : (items : List Item) (selection : Selection) → AreOrdered items → is_collapsed selection.range ≡ true → IsOrdered (natural items selection)
natural-ordered items selection h e =
    subst (λ t. IsOrdered (unwrap_or (if t then around items selection.range.start else first_in items selection.range) [])) (sym e)
    (go (around items selection.range.start) (around-ordered items selection.range.start h))
  where
    go : (o : Option Attributes) → Ordered o → IsOrdered (unwrap_or o [])
    go None h = refl
    go (Some entries) h = h

-- ---- two toggles

-- the document with an override of a key
abbrev over : List ℕ → Option AttributeValue → Document → Document
over key value document = (with_selection (with_override key value document.selection) (apart document)).document

toggled : (rules : Rules) (key : List ℕ) (value : AttributeValue) (old new : Document) → is_collapsed old.selection.range ≡ true
    → IsExecuted rules (Toggle key value) old new
    → over key (toggled_value rules key value old) old ≡ new
toggled rules key value old new collapsed h =
    let p = planned rules (Toggle key value) None old h.edits h.planned in
    let edits : toggle_edits rules key value old ≡ SelectionAttribute key (toggled_value rules key value old) ∷ [] =
    ap (λ t. if t then SelectionAttribute key (toggled_value rules key value old) ∷ [] else map (given key (toggled_value rules key value old))
    (toggled_runs rules key old)) collapsed in
    same (over key (toggled_value rules key value old) old) new (ap (λ edits. edits_made (is_registered rules) edits old) (sym edits ∙ p.1) ∙ h.performed)
  where
    same : (a b : Document) → ◌≡◌ {A = Result Document EditFault} (Ok a) (Ok b) → a ≡ b
    same a b e = cc

-- what a toggle gives at a caret, by what the selection has of its key
value-flipped : (rules : Rules) (key : List ℕ) (value : AttributeValue) (document : Document) → is_collapsed document.selection.range ≡ true
    → toggled_value rules key value document ≡ (if is_some (value_of key (attributes document.items document.selection)) then None else Some value)
value-flipped rules key value document collapsed =
    ap (λ t. if (if t then is_some (value_of key (attributes document.items document.selection)) else first_has_key key document.items
    (fitting rules key document.items document.selection.range)) then None else Some value) collapsed

twice : (value : AttributeValue) (old : Option AttributeValue) → IsNoneOr value old
    → (if is_some (if is_some old then None else Some value) then None else Some value) ≡ old
twice value None h = refl
twice value (Some other) h = ap (λ (v : AttributeValue). Some v) (sym h)

pub given-back : (rules : Rules) (key : List ℕ) (value : AttributeValue) (old between new : Document) → IsSound (apart old) → AreOrdered old.items
    → is_collapsed old.selection.range ≡ true
    → IsNoneOr value (value_of key (attributes old.items old.selection)) → IsExecuted rules (Toggle key value) old between
    → IsExecuted rules (Toggle key value) between new
    → (other : List ℕ) → value_of other (attributes new.items new.selection) ≡ value_of other (attributes old.items old.selection)
given-back rules key value old between new sound keys collapsed none_or one two other =
    let had = value_of key (attributes old.items old.selection) in
    let text = natural old.items old.selection in
    let ordered = natural-ordered old.items old.selection keys collapsed in
    let first_value = toggled_value rules key value old in
    let middle = over key first_value old in
    let first_is : middle ≡ between = toggled rules key value old between collapsed one in
    let second_value = toggled_value rules key value middle in
    let second_is : over key second_value middle ≡ new = toggled rules key value middle new collapsed
    (subst (λ d. IsExecuted rules (Toggle key value) d new) (sym first_is) two) in
    let overrides = old.selection.overrides in
    let once = with_value key first_value overrides in
    let both = with_value key second_value once in
    let once_ordered = ordered_with_value key first_value overrides sound.keyed in
    let both_ordered = ordered_with_value key second_value once once_ordered in
    let middle_has : value_of key (attributes middle.items middle.selection) ≡ first_value =
    overridden-value once text once_ordered ordered key ∙ ap (λ (o : Option (Option AttributeValue)). option_map_or (λ v. v) o (value_of key text))
    (written key first_value overrides).changed in
    let second_had : second_value ≡ had =
    value-flipped rules key value middle collapsed ∙ ap (λ o. if is_some o then None else Some value)
    (middle_has ∙ value-flipped rules key value old collapsed) ∙ twice value had none_or in
    ap (λ (d : Document). value_of other (attributes d.items d.selection)) (sym second_is)
    ∙ overridden-value both text both_ordered ordered other
    ∙ go (name_cmp other key) refl both second_had (written key second_value once).changed
    (λ d. (written key second_value once).others other d ∙ (written key first_value overrides).others other d)
    ∙ sym (overridden-value overrides text sound.keyed ordered other)
  where
    go : (o : Ordering) → name_cmp other key ≡ o → (both : Overrides) → {x : Option AttributeValue} → x ≡ value_of key (attributes old.items old.selection)
        → value_of key both ≡ Some x
        → (other ≢ key → value_of other both ≡ value_of other old.selection.overrides)
        → option_map_or (λ v. v) (value_of other both) (value_of other (natural old.items old.selection))
        ≡ option_map_or (λ v. v) (value_of other old.selection.overrides) (value_of other (natural old.items old.selection))
    go Less e both x c k = ap (λ (o : Option (Option AttributeValue)). option_map_or (λ v. v) o (value_of other (natural old.items old.selection)))
        (k (differ other key Less e refl))
    go Greater e both x c k = ap (λ (o : Option (Option AttributeValue)). option_map_or (λ v. v) o (value_of other (natural old.items old.selection)))
        (k (differ other key Greater e refl))
    go Equal e both x c k =
        let same = same_name other key e in
        ap (λ (o : Option (Option AttributeValue)). option_map_or (λ v. v) o (value_of other (natural old.items old.selection)))
        (ap (λ n. value_of n both) same ∙ c)
        ∙ x ∙ ap (λ n. value_of n (attributes old.items old.selection)) (sym same)
        ∙ overridden-value old.selection.overrides (natural old.items old.selection) sound.keyed (natural-ordered old.items old.selection keys collapsed) other
