use Rattle.std.proofs.Common.{length, take, ap, ◌∙◌}
use Rattle.schema_rules.proofs.KnownNames.{take-with_names, all_known}
use Rattle.std.specs.List.{flat_map}
use Rattle.schema_rules.specs.Keys.{own_keys}
use Rattle.schema_rules.proofs.known.known_names.Goals as goal

pub returns-clause-front : goal.returns-clause-front
returns-clause-front c = ap (take (length c.args.items)) c.in_ok-names.ensures ∙ take-with_names c.args.items (flat_map own_keys c.args.entries.now)
    ∙ c.requires.items

pub returns-clause-known : goal.returns-clause-known
returns-clause-known c = all_known c.args.entries.now c.args.items c.in_ok-names.names c.requires.items c.requires.known c.in_ok-names.ensures
