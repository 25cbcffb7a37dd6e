use Rattle.std.proofs.Common.{◌≡◌, true, Ok, ◌∙◌, subst}
use Rattle.schema_definitions.specs.Allowed.{is_registered}
use Rattle.fix_definitions.specs.Settling.{settle}
use Rattle.model_doc.specs.Held.{present}
use Rattle.record_definitions.specs.Operates.{edits_of_rounds}
use Rattle.record_definitions.proofs.Tracing.{stops_behind}
use Rattle.record_definitions.proofs.Turning.{goes_on_by_a_round}
use Rattle.post_fix.specs.Listed.{fixings_of}
use Rattle.post_fix.specs.Turns.{Turns, TurnTraces}
use Rattle.post_fix.proofs.Turning.{stepped, stopped}
use Rattle.post_fix.proofs.settling.settled.Goals as goal

-- one round more
pub loop-left-preserved : goal.loop-left-preserved
loop-left-preserved g c =
    let registered = is_registered c.args.schema.now in
    let fixings = fixings_of c.args.schema.now (λ b. (goal.Fixer-dyn g (b.vtable, b.value)).fixes b.value) c.args.fixers.now in
    let turned : Turns registered fixings c.loop-left.document.state c.round.new.document.state (Ok true) =
    subst (λ b. Turns registered fixings c.loop-left.document.state c.round.new.document.state (Ok b)) c.in-Ok-true.field-0-test c.in-Ok-true.ensures.turns in
    let round : TurnTraces registered fixings c.loop-left.batch.records (present c.loop-left.document) c.round.new.batch.records
    (present c.round.new.document) (Ok true) =
    subst (λ b. TurnTraces registered fixings c.loop-left.batch.records (present c.loop-left.document) c.round.new.batch.records
    (present c.round.new.document) (Ok b)) c.in-Ok-true.field-0-test c.in-Ok-true.ensures.traced in
    record {
      going = stepped registered fixings c.loop-left.document.state c.args.rounds c.loop-left.left c.round.new.document.state
          (settle registered fixings c.args.rounds c.args.document.now.state) c.loop-left-test.true turned c.loop-left.invariant.going;
      traced = goes_on_by_a_round registered fixings (edits_of_rounds registered fixings c.args.rounds c.args.document.now.state) round.0 c.loop-left.left
          c.args.batch.now.records c.loop-left.batch.records c.round.new.batch.records (present c.args.document.now) (present c.loop-left.document)
          (present c.round.new.document) c.loop-left.invariant.traced c.loop-left-test.true round.2 round.1;
      selection = c.in-Ok-true.ensures.selection ∙ c.loop-left.invariant.selection;
      kept = c.in-Ok-true.ensures.kept ∙ c.loop-left.invariant.kept;
    }

-- a round that is refused refuses all
pub returns-in-Err-clause-settles : goal.returns-in-Err-clause-settles
returns-in-Err-clause-settles g c =
    let registered = is_registered c.args.schema.now in
    let fixings = fixings_of c.args.schema.now (λ b. (goal.Fixer-dyn g (b.vtable, b.value)).fixes b.value) c.args.fixers.now in
    stopped registered fixings c.loop-left.document.state c.args.rounds c.loop-left.left c.round.new.document.state
    (settle registered fixings c.args.rounds c.args.document.now.state) c.in-Err.fault c.loop-left-test.true c.in-Err.ensures.turns c.loop-left.invariant.going

-- it leaves the records of the rounds before it, and of some of its own edits
pub returns-in-Err-clause-traced : goal.returns-in-Err-clause-traced
returns-in-Err-clause-traced g c =
    let registered = is_registered c.args.schema.now in
    let fixings = fixings_of c.args.schema.now (λ b. (goal.Fixer-dyn g (b.vtable, b.value)).fixes b.value) c.args.fixers.now in
    stops_behind registered (edits_of_rounds registered fixings c.args.rounds c.args.document.now.state)
    (edits_of_rounds registered fixings c.loop-left.left c.loop-left.document.state) c.args.batch.now.records c.loop-left.batch.records
    c.round.new.batch.records (present c.args.document.now) (present c.loop-left.document) (present c.round.new.document) c.loop-left.invariant.traced
    c.in-Err.ensures.traced
