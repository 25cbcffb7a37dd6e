-- Values of keys that items have.
use Rattle.std.proofs.Common.{◌≡◌, ℕ, ◌<◌, Bool, true, false, not, List, [], ◌∷◌, ◌++◌, map, length, Option, Some, option_map, if◌then◌else◌, refl, sym, ap}
use Rattle.std.proofs.Common.{◌∙◌, arith}
use Rattle.std.specs.Prelude.{IsTrue, ◌↔◌}
use Rattle.ck_base.specs.declared.value.Value.{Value as AttributeValue}
use Rattle.ck_base.specs.Entries.{value_of}
use Rattle.item_definitions.specs.Item.{Attributes, Item, character, element, items_of, attributes_of}
use Rattle.operation_definitions.specs.After.{same_value, first_other}
use Rattle.operation_definitions.proofs.Values.{same_value-true, same_value-own}
use Rattle.model_tree.specs.Parts.{TextParts}
use Rattle.model_tree.specs.Nodes.{characters}
use Rattle.model_tree.specs.OneValue.{HaveOne}

-- a test that tells whether two values are one
pub one_value : (a b : AttributeValue) (test : Bool) → (IsTrue test ↔ (a ≡ b)) → test ≡ same_value (Some a) (Some b)
one_value a b test h = go test (same_value (Some a) (Some b)) refl refl h
  where
    go : (t u : Bool) → t ≡ test → u ≡ same_value (Some a) (Some b) → (IsTrue test ↔ (a ≡ b)) → test ≡ same_value (Some a) (Some b)
    go true true t u h = sym t ∙ u
    go false false t u h = sym t ∙ u
    go true false t u h = (let same : a ≡ b = h.0 (sym t) in sym t ∙ sym (ap (λ x. same_value (Some a) (Some x)) (sym same) ∙ same_value-own (Some a)))
    go false true t u h =
        let e : ◌≡◌ {A = Option AttributeValue} (Some a) (Some b) = same_value-true (Some a) (Some b) (sym u) in
        let same : a ≡ b = cc in
        absurd (let f = h.1 same in cc)

pub text_value : (key : List ℕ) (text : TextParts) (value : Option AttributeValue) → value ≡ value_of key text.attributes → HaveOne key value (characters text)
text_value key text value e = go text.scalars
  where
    go : (scalars : List ℕ) → HaveOne key value (map (λ scalar. character scalar text.attributes) scalars)
    go [] = tt
    go (scalar ∷ scalars) = (e, go scalars)

pub element_value : (key : List ℕ) (id : ℕ) (name : List ℕ) (attributes : Attributes) (children : List Item) (value : Option AttributeValue)
    → value ≡ value_of key attributes
    → HaveOne key value (element id name attributes (items_of children) ∷ [])
element_value key id name attributes children value e = (e, tt)

-- the first of items that all have one value, which isn't the given one
pub found_first : (key : List ℕ) (found old : Option AttributeValue) (first rest : List Item) → HaveOne key found first → 0 < length first
    → same_value found old ≡ false
    → Some found ≡ option_map (λ item. value_of key (attributes_of item)) (first_other key old (first ++ rest))
found_first key found old [] rest h some e = absurd (omega arith)
found_first key found old (item ∷ first) rest h some e =
    let test : same_value (value_of key (attributes_of item)) old ≡ false = ap (λ v. same_value v old) (sym h.0) ∙ e in
    ap Some h.0 ∙ sym (ap (λ t. option_map (λ item. value_of key (attributes_of item)) (if not t then Some item else first_other key old (first ++ rest))) test)

-- items that all have the given value are passed over
pub passed_first : (key : List ℕ) (found old : Option AttributeValue) (first rest : List Item) → HaveOne key found first → same_value found old ≡ true
    → first_other key old (first ++ rest) ≡ first_other key old rest
passed_first key found old [] rest h e = refl
passed_first key found old (item ∷ first) rest h e =
    let test : same_value (value_of key (attributes_of item)) old ≡ true = ap (λ v. same_value v old) (sym h.0) ∙ e in
    ap (λ t. if not t then Some item else first_other key old (first ++ rest)) test ∙ passed_first key found old first rest h.1 e
