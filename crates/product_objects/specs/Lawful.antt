-- The product's converters keep the law of converters: who makes a shape consumes `insert`, and who gives attributes consumes something else.
use Rattle.std.specs.Prelude.{ℕ, List, Bool, true, false, Option, Some, None, if◌then◌else◌, codes, refl}
use Rattle.std.specs.Str.{bytes_eq}
use Rattle.ck_base.specs.declared.value.Value.{Value as AttributeValue}
use Rattle.ck_base.specs.Entries.{value_of}
use Rattle.converter_definitions.specs.declared.facts.Facts.{Facts}
use Rattle.converter_definitions.specs.declared.facts.Key.{Key}
use Rattle.converter_definitions.specs.declared.part.Part.{Part}
use Rattle.conv_rules.specs.Turn.{IsLawful}
use Rattle.product_objects.specs.Converters.{text_in, mention_of, mention, checkbox_of, checkbox, anchor_of, heading_anchor}

if_lawful : (test : Bool) (made : Option (List Key × Part)) → IsLawful made → IsLawful (if test then made else None)
if_lawful true made lawful = lawful
if_lawful false made lawful = tt

mention_of-lawful : (user : Option (List ℕ)) → IsLawful (mention_of user)
mention_of-lawful None = tt
mention_of-lawful (Some user) = refl

checkbox_of-lawful : (checked : Option AttributeValue) → IsLawful (checkbox_of checked)
checkbox_of-lawful None = refl
checkbox_of-lawful (Some value) = refl

anchor_of-lawful : (anchor : Option (List ℕ)) → IsLawful (anchor_of anchor)
anchor_of-lawful None = tt
anchor_of-lawful (Some anchor) = refl

-- `mention` keeps the law
pub mention_lawful : (facts : Facts) → IsLawful (mention facts)
mention_lawful facts = if_lawful (bytes_eq facts.name (codes "mention")) _ (mention_of-lawful (text_in (value_of (codes "user") facts.attributes)))

-- `checkbox` keeps the law
pub checkbox_lawful : (facts : Facts) → IsLawful (checkbox facts)
checkbox_lawful facts = if_lawful (bytes_eq facts.name (codes "checkbox")) _ (checkbox_of-lawful (value_of (codes "checked") facts.attributes))

-- `headingAnchor` keeps the law
pub heading_anchor_lawful : (facts : Facts) → IsLawful (heading_anchor facts)
heading_anchor_lawful facts = if_lawful (bytes_eq facts.name (codes "heading")) _ (anchor_of-lawful (text_in (value_of (codes "anchor") facts.attributes)))
