-- The printed attributes of an element.
use Rattle.std.specs.Prelude.{ℕ, List, ◌++◌, true, false, codes}
use Rattle.std.specs.List.{flat_map}
use Rattle.std.specs.Fmt.{signed_decimal}
use Rattle.ck_base.specs.declared.value.Value.{Value as AttributeValue}
use Rattle.ck_base.specs.declared.value.Value.TheVariants.{Whole, Truth, Text}
use Rattle.item_definitions.specs.Item.{Attributes}
use Rattle.machine_definitions.specs.Texts.{quoted_text}

-- a text in quotes
abbrev pub in_quotes : List ℕ → List ℕ
in_quotes text = codes "\"" ++ (quoted_text text ++ codes "\"")

-- the value of an attribute: a number in decimal, `true`, `false`, or a text in quotes
abbrev pub value_text : AttributeValue → List ℕ
value_text (Whole n) = signed_decimal n
value_text (Truth true) = codes "true"
value_text (Truth false) = codes "false"
value_text (Text text) = in_quotes text

-- keys with their values, a blank before each key
abbrev pub attributes_text : Attributes → List ℕ
attributes_text attributes = flat_map (λ entry. codes " " ++ (entry.0 ++ (codes "=" ++ value_text entry.1))) attributes

-- the tags of an element, between which its content stands
abbrev pub open_tag : List ℕ → List ℕ → List ℕ
open_tag name attributes = codes "<" ++ (name ++ (attributes ++ codes ">"))

-- the tag that closes an element
abbrev pub close_tag : List ℕ → List ℕ
close_tag name = codes "</" ++ (name ++ codes ">")
