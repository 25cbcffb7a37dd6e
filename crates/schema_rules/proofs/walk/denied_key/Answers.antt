use Rattle.std.proofs.Common.{ℕ, Bool, List, option_map, ap, sym, ◌∙◌, not}
use Rattle.std.specs.Prelude.{option_copied}
use Rattle.std.specs.List.{find}
use Rattle.item_definitions.specs.Item.{Attributes}
use Rattle.ck_base.specs.declared.value.Value.{Value as AttributeValue}
use Rattle.schema_definitions.specs.Allowed.{check_attribute}
use Rattle.schema_rules.proofs.Placing.{find_made}
use Rattle.schema_rules.proofs.walk.denied_key.Goals as goal

pub returns-in-Some : goal.returns-in-Some
returns-in-Some c =
    let test : List ℕ → Bool = λ key. not (check_attribute c.args.schema.now c.args.ancestors.now c.args.item.now key) in
    let key : List ℕ × AttributeValue → List ℕ = λ entry. entry.0 in
    ap (option_map key) (ap option_copied (sym c.in-Some.is) ∙ c.denied_entry.ensures)
    ∙ ap (λ (entries : Attributes). option_map key (find (λ entry. test (key entry)) entries)) c.entries.ensures.pairs
    ∙ find_made key test c.args.attrs.now

pub returns-in-None : goal.returns-in-None
returns-in-None c =
    let test : List ℕ → Bool = λ key. not (check_attribute c.args.schema.now c.args.ancestors.now c.args.item.now key) in
    let key : List ℕ × AttributeValue → List ℕ = λ entry. entry.0 in
    ap (option_map key) (ap option_copied (sym c.in-None.is) ∙ c.denied_entry.ensures)
    ∙ ap (λ (entries : Attributes). option_map key (find (λ entry. test (key entry)) entries)) c.entries.ensures.pairs
    ∙ find_made key test c.args.attrs.now
