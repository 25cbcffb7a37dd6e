use Rattle.std.proofs.Common.{◌≡◌, ℕ, ◌<◌, length, is_some, ◌∙◌, subst}
use Rattle.std.specs.BTreeMap.{get}
use Rattle.std.specs.Str.{bytes_eq}
use Rattle.ck_base.specs.Entries.{name_cmp}
use Rattle.schema_definitions.specs.Names.{has}
use Rattle.schema_rules.specs.Numbering.{named, is_at}
use Rattle.schema_rules.proofs.Numbered.{number_there, number_exact}
use Rattle.schema_rules.proofs.numbering.Numbering.place_of.Goals as goal

looked : (c : goal.After-copied) → c.copied.result ≡ get name_cmp c.self.inside.places c.args.name.now
looked c = c.copied.ensures ∙ c.get.ensures.value

pub returns-clause-there : goal.returns-clause-there
returns-clause-there c = subst (λ names. is_some c.copied.result ≡ has names c.args.name.now) c.self.view_is
    (number_there c.self.inside.names.items c.self.inside.places c.self.invariant c.args.name.now c.copied.result (looked c))

pub returns-clause-exact : goal.returns-clause-exact
returns-clause-exact c = subst (λ names. (node : ℕ) → node < length names → is_at c.copied.result node ≡ bytes_eq c.args.name.now (named names node))
    c.self.view_is (number_exact c.self.inside.names.items c.self.inside.places c.self.invariant c.args.name.now c.copied.result (looked c))
