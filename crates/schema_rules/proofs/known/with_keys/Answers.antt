use Rattle.std.proofs.Common.{◌∙◌, ap}
use Rattle.std.specs.List.{flat_map}
use Rattle.schema_rules.specs.Numbering.{with_names}
use Rattle.schema_rules.specs.Keys.{own_keys}
use Rattle.schema_rules.proofs.KnownNames.{keys_later}
use Rattle.schema_rules.proofs.known.with_keys.Goals as goal

pub loop-entry-preserved : goal.loop-entry-preserved
loop-entry-preserved c = keys_later c.args.entries.now c.loop-entry.entry-index c.entry-item.result
    (with_names c.args.names (flat_map own_keys c.args.entries.now)) c.loop-entry.names c.in_ok-names.names c.loop-entry-test.true c.entry-item.is
    (c.in_ok-names.ensures ∙ ap (with_names c.loop-entry.names) c.as_slice.ensures) c.loop-entry.invariant
