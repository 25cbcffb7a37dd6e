-- The parts of a list of items as the tree keeps them.
use Rattle.std.specs.Prelude.{ℕ, List, refl}
use Rattle.std.specs.Coded.{Coded, code_by, coded×, coded_ℕ, coded_list}
use Rattle.item_definitions.specs.Item.{Attributes}
use Rattle.item_definitions.specs.ItemCode.{coded_attributes}

-- characters that stand next to each other and have the same attributes, by their Unicode scalar values
pub record TextParts : Type 0 where
  pub scalars : List ℕ
  pub attributes : Attributes

-- a code for what a text is seen as
abbrev pub coded_text : Coded TextParts
coded_text =
    code_by (List ℕ × Attributes) (coded× (coded_list coded_ℕ) coded_attributes) (λ text. (text.scalars, text.attributes))
    (λ parts. record { scalars = parts.0; attributes = parts.1 }) (λ _. refl)

-- what an element is, but for its items
pub record HeadParts : Type 0 where
  pub id : ℕ
  pub name : List ℕ
  pub attributes : Attributes

-- a code for what an element is seen as, its items apart
abbrev pub coded_head : Coded HeadParts
coded_head =
    code_by (ℕ × (List ℕ × Attributes)) (coded× coded_ℕ (coded× (coded_list coded_ℕ) coded_attributes))
    (λ head. (head.id, (head.name, head.attributes))) (λ parts. record { id = parts.0; name = parts.1.0; attributes = parts.1.1 }) (λ _. refl)
