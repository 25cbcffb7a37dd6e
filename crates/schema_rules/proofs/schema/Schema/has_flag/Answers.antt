use Rattle.std.proofs.Common.{◌≡◌, subst, ◌∙◌}
use Rattle.schema_definitions.specs.Rules.{has_flag}
use Rattle.schema_definitions.specs.Allowed.{Rules}
use Rattle.schema_rules.proofs.Told.{flags_known}
use Rattle.schema_rules.proofs.schema.Schema.has_flag.Goals as goal

pub returns : goal.returns
returns c =
    let told : c.marked_at.result ≡ has_flag c.self.inside.entries.items c.args.flag c.args.item.now =
    c.marked_at.ensures (λ item. has_flag c.self.inside.entries.items c.args.flag item) (c.of.ensures ∙ c.self.invariant.flags_told c.args.flag)
    (flags_known c.self.inside.names c.self.inside.entries.items c.self.invariant.known c.args.flag) in
    subst (λ (rules : Rules). c.marked_at.result ≡ has_flag rules.entries c.args.flag c.args.item.now) c.self.view_is told
