use Rattle.std.proofs.Common.{rules, ◌≡◌, option_copied}
use Rattle.ck_base.specs.Entries.{value_of}
use Rattle.ck_base.proofs.Lookups.{is_there_behind}
use Rattle.ck_base.proofs.attributes.ViewAttrs.get.Goals as goal

pub returns-clause-there : goal.returns-clause-there
returns-clause-there c =
    let found : option_copied c.find.result ≡ value_of c.args.key.now c.args.self.now = search rules in
    is_there_behind c.args.key.now c.args.self.now c.find.result found
