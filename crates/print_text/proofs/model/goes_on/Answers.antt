use Rattle.std.proofs.Common.{ap, sym, ◌∙◌, option_copied}
use Rattle.print_definitions.specs.ModelText.{goes_on}
use Rattle.print_text.proofs.Runs.{same_is}
use Rattle.print_text.proofs.model.goes_on.Goals as goal

pub returns-in-Some : goal.returns-in-Some
returns-in-Some c =
    same_is c.in-Some.before.now c.args.attrs.now c.same.result c.same.ensures
    ∙ ap (λ before. goes_on (option_copied before) c.args.attrs.now) (sym c.in-Some.is)
