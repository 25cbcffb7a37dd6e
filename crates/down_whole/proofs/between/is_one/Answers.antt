use Rattle.std.proofs.Common.{Some, sym, ap, ◌∙◌}
use Rattle.std.specs.Prelude.{option_copied}
use Rattle.view_definitions.specs.Row.{both_layers}
use Rattle.down_whole.proofs.Seams.{told}
use Rattle.down_whole.proofs.between.is_one.Goals as goal

pub returns-in-Some : goal.returns-in-Some
returns-in-Some c =
    told c.same.result c.args.layer.now c.in-Some.other.now c.same.ensures
    ∙ ap (λ other. both_layers (Some c.args.layer.now) (option_copied other)) (sym c.in-Some.is)
