use Rattle.std.proofs.Common.{◌≡◌, IfOk, sym, subst}
use Rattle.operation_definitions.specs.Back.{back}
use Rattle.model_ops.specs.Limits.{IsWithin, SplitsElement}
use Rattle.model_ops.specs.Meant.{operation_of}
use Rattle.model_doc.specs.Records.{Done}
use Rattle.model_doc.proofs.record.Record.reversal.Goals as goal

pub reverse-requires-clause-split : goal.reverse-requires-clause-split
reverse-requires-clause-split c = subst (λ (done : Done). SplitsElement done.operation) (sym c.self.view_is) c.requires.split

pub reverse-requires-clause-limits : goal.reverse-requires-clause-limits
reverse-requires-clause-limits c = subst (λ (done : Done). IsWithin (back done.operation done.cell)) (sym c.self.view_is) c.requires.limits

pub returns : goal.returns
returns c = subst (λ (done : Done). IfOk c.reverse.result (λ made. operation_of made ≡ back done.operation done.cell)) c.self.view_is c.reverse.ensures
