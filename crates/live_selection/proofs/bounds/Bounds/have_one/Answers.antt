use Rattle.std.proofs.Common.{◌≡◌, ◌+◌, nat_lt, ◌∙◌, arith}
use Rattle.std.specs.Prelude.{option_copied}
use Rattle.live_selection.proofs.Bounded.{some_from, none_from}
use Rattle.live_selection.proofs.bounds.Bounds.have_one.Goals as goal

pub returns-then-first-index : goal.returns-then-first-index
returns-then-first-index c =
    c.end_behind.ensures
    ∙ some_from c.first_offset.result c.args.self.start.now (option_copied c.args.self.end) c.args.index c.args.count c.max-first.result
    c.first_offset.ensures (omega arith) (omega arith)

pub returns-else-first-index : goal.returns-else-first-index
returns-else-first-index c =
    (λ t. nat_lt c.max-first.result (bound t))
    ∙ none_from c.first_offset.result c.args.self.start.now (option_copied c.args.self.end) c.args.index c.args.count c.max-first.result
    c.first_offset.ensures (omega arith) (omega arith)
  where
    bound : c.from-index.result + c.from.result ≡ c.args.index + c.args.count
    bound = omega arith
