use Rattle.std.proofs.Common.{◌≡◌, OnOk, subst}
use Rattle.conv_rules.specs.Turn.{turn}
use Rattle.conv_rules.proofs.shaping.called_in_box.Goals as goal

-- the object in the box is the one that is called
pub returns : goal.returns
returns g c =
    subst (λ v. OnOk c.called.result ((c.called.new.left, c.called.new.out) ≡ turn ((goal.Converter-dyn g v).gives v.1 c.args.facts.now) c.args.left.now))
    c.as_ref.ensures.1 c.called.ensures
