use Rattle.std.proofs.Common.{◌≡◌, drop, fold}
use Rattle.ck_base.specs.Entries.{with_value}
use Rattle.conv_rules.proofs.order.add_keys.Given as goal

abbrev pub invariant-loop-key : goal.invariant-loop-key
invariant-loop-key l =
    fold (λ made entry. with_value entry.0 entry.1 made) l.attributes (drop l.key-index l.key-items)
    ≡ fold (λ made entry. with_value entry.0 entry.1 made) l.initial.attributes l.fn.more
