-- A document of which all but the listed items are allowed.
use Rattle.std.proofs.Common.{◌≡◌, ℕ, List, [], ◌∷◌, true, false, IsTrue, codes, refl, arith}
use Rattle.std.proofs.lemmas.List.Elements.{All-cons, All-nil}
use Rattle.ck_base.specs.declared.value.Value.{Value as AttributeValue}
use Rattle.ck_base.specs.declared.value.Value.TheVariants.{Truth}
use Rattle.item_definitions.specs.Item.{Attributes, character, element, none, more}
use Rattle.schema_definitions.specs.Allowed.{check_child, child_answer, check_attribute, attribute_answer}
use Rattle.schema_definitions.specs.Rules.{children_of, keys_of}
use Rattle.schema_definitions.specs.Reachable.{reachable}
use Rattle.schema_definitions.specs.Compiled.{predefined}
use Rattle.schema_definitions.specs.Sample.{sample}
use Rattle.breach_definitions.specs.declared.spot.Spot.TheVariants.{Run}
use Rattle.breach_definitions.specs.Breach.{Placed}
use Rattle.breach_definitions.specs.Spots.{is_listed}
use Rattle.breach_definitions.specs.Obeys.{IsAllowed, OthersObey}
use Rattle.breach_definitions.specs.Sample.{second_is_bold}

abbrev Fine : Placed → Type 0
Fine placed = is_listed (Run [] 1 2 ∷ []) placed ≡ false → IsAllowed sample placed.ancestors placed.item

abbrev bold : Attributes
bold = (codes "bold", Truth true) ∷ []

abbrev first_paragraph : Placed
first_paragraph = record { ancestors = codes "$root" ∷ []; path = 0 ∷ []; item = element 1 (codes "paragraph") [] (more (character 97 bold) none) }

abbrev bold_text : Placed
bold_text = record { ancestors = codes "$root" ∷ codes "paragraph" ∷ []; path = 0 ∷ 0 ∷ []; item = character 97 bold }

abbrev second_paragraph : Placed
second_paragraph = record { ancestors = codes "$root" ∷ []; path = 1 ∷ []; item = element 2 (codes "paragraph") bold none }

abbrev Has : (List ℕ × AttributeValue) → Type 0
Has entry = IsTrue (check_attribute sample (codes "$root" ∷ codes "paragraph" ∷ []) (codes "$text") entry.0)

pub others_obey : OthersObey sample second_is_bold (Run [] 1 2 ∷ [])
unfolding check_child child_answer check_attribute attribute_answer children_of keys_of reachable predefined
others_obey =
    All-cons Fine first_paragraph (bold_text ∷ second_paragraph ∷ []) (λ e. record { stands = refl; has = λ k d lt. absurd (omega (arith, lt)) })
    (All-cons Fine bold_text (second_paragraph ∷ []) (λ e. record { stands = refl; has = All-cons Has (codes "bold", Truth true) [] refl (All-nil Has) })
    (All-cons Fine second_paragraph [] (λ e. cc) (All-nil Fine)))
