use Rattle.std.proofs.Common.{◌≡◌, false, nat_lt, subst}
use Rattle.schema_definitions.specs.Names.{has}
use Rattle.schema_definitions.specs.Allowed.{Rules, registrations}
use Rattle.schema_rules.proofs.Told.{number_front, none_front}
use Rattle.schema_rules.proofs.schema.Schema.is_registered.Goals as goal

pub returns-in-Some : goal.returns-in-Some
returns-in-Some c = subst (λ (rules : Rules). nat_lt c.in-Some.node c.self.inside.registered ≡ has (registrations rules.entries) c.args.name.now) c.self.view_is
    (number_front c.self.inside.names (registrations c.self.inside.entries.items) c.self.inside.registered c.in-Some.node c.args.name.now
    c.self.invariant.items c.in-Some.ensures.inside c.in-Some.ensures.meant c.in-Some.ensures.exact)

pub returns-in-None : goal.returns-in-None
returns-in-None c = subst (λ (rules : Rules). false ≡ has (registrations rules.entries) c.args.name.now) c.self.view_is
    (none_front c.self.inside.names (registrations c.self.inside.entries.items) c.self.inside.registered c.args.name.now c.self.invariant.items
    c.in-None.ensures.there)
