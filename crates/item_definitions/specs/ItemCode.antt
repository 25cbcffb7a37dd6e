-- A code for lists of items, by which proofs tell them apart: an item as a row of tokens, an element as its head, its items and an end.
use Rattle.std.specs.Prelude.{◌≡◌, ℕ, ℤ, Bool, ◌⊎◌, List, [], ◌∷◌, refl}
use Rattle.std.proofs.Common.{inl, inr, ap, ◌∙◌}
use Rattle.std.specs.Coded.{Coded, code_by, coded_ℕ, coded_ℤ, coded_bool, coded_list, coded×, coded⊎}
use Rattle.ck_base.specs.declared.value.Value.{Value as AttributeValue}
use Rattle.ck_base.specs.declared.value.Value.TheVariants.{Whole, Truth, Text}
use Rattle.item_definitions.specs.Item.{Item, Items, character, element, none, more, list_of, items_of, Attributes}

-- a value as one of three kinds of parts, and back
abbrev value_parts : AttributeValue → ℤ ⊎ (Bool ⊎ List ℕ)
value_parts (Whole number) = inl number
value_parts (Truth truth) = inr (inl truth)
value_parts (Text text) = inr (inr text)

abbrev value_from : ℤ ⊎ (Bool ⊎ List ℕ) → AttributeValue
value_from (inl number) = Whole number
value_from (inr (inl truth)) = Truth truth
value_from (inr (inr text)) = Text text

-- no value is lost
pub value_back : (value : AttributeValue) → value_from (value_parts value) ≡ value
value_back (Whole number) = refl
value_back (Truth truth) = refl
value_back (Text text) = refl

-- a code for attributes
abbrev pub coded_attributes : Coded Attributes
coded_attributes =
    coded_list (coded× (coded_list coded_ℕ) (code_by (ℤ ⊎ (Bool ⊎ List ℕ)) (coded⊎ coded_ℤ (coded⊎ coded_bool (coded_list coded_ℕ))) value_parts
    value_from value_back))

-- a character, the head of an element, or the end of one
abbrev Token : Type 0
Token = (ℕ × Attributes) ⊎ ((ℕ × (List ℕ × Attributes)) ⊎ ℕ)

abbrev mutual
  item_tokens : Item → List Token → List Token
  item_tokens (character scalar attributes) rest = inl (scalar, attributes) ∷ rest
  item_tokens (element id name attributes children) rest = inr (inl (id, (name, attributes))) ∷ inner_tokens children (inr (inr 0) ∷ rest)

  inner_tokens : Items → List Token → List Token
  inner_tokens none rest = rest
  inner_tokens (more item items) rest = item_tokens item (inner_tokens items rest)

-- what an element is read to: it goes before the items of the list that is open round it
abbrev closed : (Items → Item) → Items → List Items → Items × List Items
closed make children [] = (more (make children) none, [])
closed make children (next ∷ open_lists) = (more (make children) next, open_lists)

-- the items that a row of tokens begins with, and those of the lists that are open there
abbrev read : List Token → Items × List Items
read [] = (none, [])
read (inl token ∷ rest) = (more (character token.0 token.1) (read rest).0, (read rest).1)
read (inr (inl token) ∷ rest) = closed (element token.0 token.1.0 token.1.1) (read rest).0 (read rest).1
read (inr (inr end) ∷ rest) = (none, (read rest).0 ∷ (read rest).1)

-- some children, and others behind them
abbrev joined : Items → Items → Items
joined none items = items
joined (more item front) items = more item (joined front items)

joined-none : (items : Items) → joined items none ≡ items
joined-none none = refl
joined-none (more item items) = ap (more item) (joined-none items)

mutual
  read-item : (item : Item) (rest : List Token) → read (item_tokens item rest) ≡ (more item (read rest).0, (read rest).1)
  read-item (character scalar attributes) rest = refl
  read-item (element id name attributes children) rest =
      ap (λ (r : Items × List Items). closed (element id name attributes) r.0 r.1) (read-inner children (inr (inr 0) ∷ rest))
      ∙ ap (λ kids. (more (element id name attributes kids) (read rest).0, (read rest).1)) (joined-none children)

  read-inner : (items : Items) (rest : List Token) → read (inner_tokens items rest) ≡ (joined items (read rest).0, (read rest).1)
  read-inner none rest = refl
  read-inner (more item items) rest =
      read-item item (inner_tokens items rest) ∙ ap (λ (r : Items × List Items). (more item r.0, r.1)) (read-inner items rest)

list_of-items_of : (items : List Item) → list_of (items_of items) ≡ items
list_of-items_of [] = refl
list_of-items_of (item ∷ items) = ap (λ rest. item ∷ rest) (list_of-items_of items)

-- no items are lost
pub items_back : (items : List Item) → list_of (read (inner_tokens (items_of items) [])).0 ≡ items
items_back items =
    ap (λ (r : Items × List Items). list_of r.0) (read-inner (items_of items) []) ∙ ap list_of (joined-none (items_of items)) ∙ list_of-items_of items

-- a code for lists of items
abbrev pub coded_items : Coded (List Item)
coded_items =
    code_by (List Token) (coded_list
    (coded⊎ (coded× coded_ℕ coded_attributes) (coded⊎ (coded× coded_ℕ (coded× (coded_list coded_ℕ) coded_attributes)) coded_ℕ)))
    (λ items. inner_tokens (items_of items) []) (λ tokens. list_of (read tokens).0) items_back
