use Rattle.std.proofs.Common.{◌∙◌}
use Rattle.conv_rules.specs.Listed.{conversion_of}
use Rattle.down_whole.proofs.Mapping.{view_is, mapper_is}
use Rattle.down_whole.proofs.Numbered.{numbered_is, below_is, elements_ids, calls_ids}
use Rattle.down_whole.proofs.whole.downcast.Goals as goal

pub returns-clause-view : goal.returns-clause-view
returns-clause-view g c =
    view_is (conversion_of (λ b. (goal.Converter-dyn g (b.vtable, b.value)).gives b.value) c.args.list.now) c.args.document.now.state _ _
    c.tree-tree.ensures.sound c.in_ok-both.ensures.made

pub returns-clause-mapper : goal.returns-clause-mapper
returns-clause-mapper g c =
    mapper_is (conversion_of (λ b. (goal.Converter-dyn g (b.vtable, b.value)).gives b.value) c.args.list.now) c.args.document.now.state _ _
    c.tree-tree.ensures.sound c.in_ok-both.ensures.made c.in_ok-both.ensures.shapes

pub returns-clause-numbered : goal.returns-clause-numbered
returns-clause-numbered g c =
    numbered_is (conversion_of (λ b. (goal.Converter-dyn g (b.vtable, b.value)).gives b.value) c.args.list.now) c.args.document.now.state _ _
    c.tree-tree.ensures.sound c.in_ok-both.ensures.made

pub returns-clause-below : goal.returns-clause-below
returns-clause-below g c =
    below_is (conversion_of (λ b. (goal.Converter-dyn g (b.vtable, b.value)).gives b.value) c.args.list.now) c.args.document.now.state _ _ _
    c.tree-tree.ensures.sound c.in_ok-both.ensures.made c.in_ok-both.ensures.drawn

pub returns-clause-drawn : goal.returns-clause-drawn
returns-clause-drawn g c = c.in_ok-both.ensures.drawn ∙ elements_ids c.args.document.now.state.document.items

pub returns-clause-calls : goal.returns-clause-calls
returns-clause-calls g c = calls_ids _ _ _ c.args.document.now.state.document.items c.in_ok-both.ensures.calls

pub returns-in_err-both-clause-calls : goal.returns-in_err-both-clause-calls
returns-in_err-both-clause-calls g c = calls_ids _ _ _ c.args.document.now.state.document.items c.in_err-both.ensures.calls
