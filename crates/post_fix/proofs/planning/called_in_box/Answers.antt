use Rattle.std.proofs.Common.{◌≡◌, ◌++◌, OnOk, subst}
use Rattle.fix_definitions.specs.Settling.{plan_of}
use Rattle.post_fix.proofs.planning.called_in_box.Goals as goal

-- the object in the box is the one that is called
pub returns : goal.returns
returns g c =
    subst (λ v. OnOk c.called.result
    (c.called.new.out.items ≡ c.args.out.now.items ++ plan_of ((goal.Fixer-dyn g v).fixes v.1) c.args.document.now.state.document))
    c.as_ref.ensures.1 c.called.ensures
