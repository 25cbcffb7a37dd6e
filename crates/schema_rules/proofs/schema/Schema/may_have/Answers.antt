use Rattle.std.proofs.Common.{◌≡◌, subst}
use Rattle.schema_definitions.specs.Rules.{may_have}
use Rattle.schema_definitions.specs.Allowed.{Rules}
use Rattle.schema_rules.proofs.Told.{keys_known}
use Rattle.schema_rules.proofs.schema.Schema.may_have.Goals as goal

pub returns : goal.returns
returns c =
    let told : c.table_at.result ≡ may_have c.self.inside.entries.items c.args.key.now c.args.item.now =
    c.table_at.ensures (λ item key. may_have c.self.inside.entries.items key item) c.self.invariant.keys_told
    (keys_known c.self.inside.names c.self.inside.entries.items c.self.invariant.known) in
    subst (λ (rules : Rules). c.table_at.result ≡ may_have rules.entries c.args.key.now c.args.item.now) c.self.view_is told
