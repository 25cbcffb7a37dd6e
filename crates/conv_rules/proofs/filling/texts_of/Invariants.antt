use Rattle.std.proofs.Common.{◌≡◌, [], drop, fold}
use Rattle.converter_definitions.specs.Pattern.{text_of, with_text}
use Rattle.conv_rules.proofs.filling.texts_of.Given as goal

abbrev pub invariant-loop-key : goal.invariant-loop-key
invariant-loop-key l =
    fold (λ made entry. with_text entry.0 (text_of l.fn.attributes l.fn.index entry.1) made) l.texts (drop l.key-index l.key-items)
    ≡ fold (λ made entry. with_text entry.0 (text_of l.fn.attributes l.fn.index entry.1) made) [] l.fn.patterns
