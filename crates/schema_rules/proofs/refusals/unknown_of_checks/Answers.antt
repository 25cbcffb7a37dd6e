use Rattle.schema_definitions.specs.Compiled.{needed_by_check}
use Rattle.schema_rules.specs.Refused.{is_unknown}
use Rattle.schema_rules.proofs.Finding.{found_now, found_later}
use Rattle.schema_rules.proofs.refusals.unknown_of_checks.Goals as goal

pub returns-in-Some : goal.returns-in-Some
returns-in-Some c = found_now (is_unknown c.args.names.now) needed_by_check c.args.checks.now c.loop-check.check-index c.check-item.result
    c.loop-check-test.true c.check-item.is c.in-Some.name.now c.in-Some.ensures c.loop-check.invariant

pub loop-check-preserved : goal.loop-check-preserved
loop-check-preserved c = found_later (is_unknown c.args.names.now) needed_by_check c.args.checks.now c.loop-check.check-index c.check-item.result
    c.loop-check-test.true c.check-item.is c.in_default.ensures c.loop-check.invariant
