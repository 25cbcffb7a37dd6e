use Rattle.std.proofs.Common.{◌+◌, refl, sym, subst}
use Rattle.step_definitions.proofs.Accepted.{step_accepted}
use Rattle.editor_core.specs.HandedIn.{meanings}
use Rattle.editor_core.specs.AsMachine.{IsCurrent, terms_in}
use Rattle.editor_core.proofs.Current.{same_again, as_it_was, shown_anew}
use Rattle.editor_core.proofs.editor.Editor.change.Goals as goal

pub returns-in-Ok-clause-current : goal.returns-in-Ok-clause-current
returns-in-Ok-clause-current g c =
    let meant =
    meanings (λ b. (goal.Converter-dyn g (b.vtable, b.value)).gives b.value) (λ b. (goal.Fixer-dyn g (b.vtable, b.value)).fixes b.value) in
    shown_anew meant c.args.self.now c.changed.new.document c.drop_keep.new.self c.drop_keep.ensures
    (record {
      list = c.args.self.now.list;
      terms = c.args.self.now.terms;
      document = c.drop_keep.new.self;
      view = c.in-Ok.view;
      mapper = c.in-Ok.mapper;
      accepted = c.args.self.now.accepted + 1;
    })
    refl (step_accepted (terms_in meant c.args.self.now) c.args.edits.now _ c.changed.new.document.state.document c.in-Ok.ensures.moves)
    c.in-Ok.ensures.mapped c.in-Ok.ensures.numbered

pub returns-in-Err-clause-current : goal.returns-in-Err-clause-current
returns-in-Err-clause-current g c =
    let meant =
    meanings (λ b. (goal.Converter-dyn g (b.vtable, b.value)).gives b.value) (λ b. (goal.Fixer-dyn g (b.vtable, b.value)).fixes b.value) in
    subst (IsCurrent meant)
    (sym (as_it_was meant c.args.self.now c.restore.new.self
    (same_again meant c.args.self.now c.begin_keep.new.self c.changed.new.document c.restore.new.self
    c.requires c.in_ok-begin_keep.ensures.ok c.in-Err.ensures.kept c.restore.ensures)))
    c.requires
