use Rattle.downcast_definitions.proofs.Rule.{behind-character, before-character, between-items, mark-is-no-node}
use Rattle.downcast_definitions.proofs.laws.seen_by_the_rule.Goals as goal

pub returns : goal.returns
returns c = record {
  behind = λ scene parent path list offset scalar attributes plain e. behind-character scene parent path list plain.0 offset scalar attributes plain.1 e;
  before = λ scene parent path list offset scalar attributes plain n e. before-character scene parent path list plain.0 offset scalar attributes plain.1 n e;
  between = λ scene parent path list offset plain h n m. between-items scene parent path list plain.0 offset h plain.1 n m;
  mark = mark-is-no-node;
}
