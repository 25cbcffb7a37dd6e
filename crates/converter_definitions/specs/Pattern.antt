-- The texts that patterns give.
use Rattle.std.specs.Prelude.{ℕ, ◌+◌, List, [], Bool, true, false, Option, Some, None, option_map, fold, codes}
use Rattle.std.specs.Fmt.{decimal, signed_decimal}
use Rattle.ck_base.specs.declared.value.Value.{Value as AttributeValue}
use Rattle.ck_base.specs.declared.value.Value.TheVariants.{Whole, Truth, Text as TextValue}
use Rattle.ck_base.specs.Entries.{value_of, with_value}
use Rattle.item_definitions.specs.Item.{Attributes}
use Rattle.view_definitions.specs.Node.{ViewAttributes}
use Rattle.converter_definitions.specs.declared.pattern.Pattern.{Pattern}
use Rattle.converter_definitions.specs.declared.pattern.Pattern.TheVariants.{Text, From, Index}

-- view attributes, each with a pattern
abbrev pub Patterns : Type 0
Patterns = List (List ℕ × Pattern)

-- the text of a truth value
abbrev pub truth_text : Bool → List ℕ
truth_text true = codes "true"
truth_text false = codes "false"

-- the value of an attribute as a text of the view: a whole number in decimal, a truth value by its word, and a text as it is
abbrev pub printed_value : AttributeValue → List ℕ
printed_value (Whole number) = signed_decimal number
printed_value (Truth truth) = truth_text truth
printed_value (TextValue text) = text

-- the text of a pattern, from the attributes and the index of what is converted. A number is added to an index alone
abbrev pub text_of : Attributes → Option ℕ → Pattern → Option (List ℕ)
text_of attributes index (Text text) = Some text
text_of attributes index (From key) = option_map printed_value (value_of key attributes)
text_of attributes index (Index base) = option_map (λ number. decimal (number + base)) index

-- a text more under its key, if there is one
abbrev pub with_text : List ℕ → Option (List ℕ) → ViewAttributes → ViewAttributes
with_text key None made = made
with_text key (Some text) made = with_value key text made

-- the view attributes that patterns give; where a pattern has no text, its attribute isn't written
abbrev pub texts_of : Attributes → Option ℕ → Patterns → ViewAttributes
texts_of attributes index patterns = fold (λ made entry. with_text entry.0 (text_of attributes index entry.1) made) [] patterns

-- whether the text of a pattern, or of one of these, is an index
abbrev pub is_index : Pattern → Bool
is_index (Text text) = false
is_index (From key) = false
is_index (Index base) = true
