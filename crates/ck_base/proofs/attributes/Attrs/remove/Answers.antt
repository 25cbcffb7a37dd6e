use Rattle.std.proofs.Common.{rules, ◌≡◌}
use Rattle.ck_base.specs.Entries.{value_of}
use Rattle.ck_base.proofs.Lookups.{is_there}
use Rattle.ck_base.proofs.attributes.Attrs.remove.Goals as goal

pub returns-clause-there : goal.returns-clause-there
returns-clause-there c =
    let had : c.remove.result ≡ value_of c.args.key.now c.args.self.now = search rules in
    is_there c.args.key.now c.args.self.now c.remove.result had
