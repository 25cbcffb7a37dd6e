use Rattle.std.proofs.Common.{◌≡◌, subst}
use Rattle.schema_definitions.specs.Rules.{stands_in}
use Rattle.schema_definitions.specs.Allowed.{Rules}
use Rattle.schema_rules.proofs.Told.{stands_known}
use Rattle.schema_rules.proofs.schema.Schema.stands_in.Goals as goal

pub returns : goal.returns
returns c =
    let told : c.table_at.result ≡ stands_in c.self.inside.entries.items c.args.item.now c.args.parent.now =
    c.table_at.ensures (λ parent item. stands_in c.self.inside.entries.items item parent) c.self.invariant.children_told
    (stands_known c.self.inside.names c.self.inside.entries.items c.self.invariant.known) in
    subst (λ (rules : Rules). c.table_at.result ≡ stands_in rules.entries c.args.item.now c.args.parent.now) c.self.view_is told
