use Rattle.schema_definitions.specs.Compiled.{needed_by}
use Rattle.schema_rules.specs.Refused.{is_unknown}
use Rattle.schema_rules.proofs.Finding.{found_now, found_later}
use Rattle.schema_rules.proofs.refusals.unknown_of_entries.Goals as goal

pub returns-in-Some : goal.returns-in-Some
returns-in-Some c = found_now (is_unknown c.args.names.now) needed_by c.args.entries.now c.loop-entry.entry-index c.entry-item.result
    c.loop-entry-test.true c.entry-item.is c.in-Some.name.now c.in-Some.ensures c.loop-entry.invariant

pub loop-entry-preserved : goal.loop-entry-preserved
loop-entry-preserved c = found_later (is_unknown c.args.names.now) needed_by c.args.entries.now c.loop-entry.entry-index c.entry-item.result
    c.loop-entry-test.true c.entry-item.is c.in_default.ensures c.loop-entry.invariant
