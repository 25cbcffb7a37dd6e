use Rattle.std.proofs.Common.{ap, ◌∙◌}
use Rattle.std.specs.Prelude.{option_map}
use Rattle.conv_rules.specs.Listed.{conversion_of}
use Rattle.down_whole.specs.Viewed.{caret_view}
use Rattle.down_whole.specs.Scenes.{scene_with}
use Rattle.down_whole.proofs.Mapping.{whole_made}
use Rattle.down_whole.proofs.whole.made.Goals as goal

pub returns-clause-made : goal.returns-clause-made
returns-clause-made g c = λ numbers.
    let conversion = conversion_of (λ b. (goal.Converter-dyn g (b.vtable, b.value)).gives b.value) c.args.list.now in
    whole_made conversion c.args.document.now.state.document numbers (scene_with conversion c.in_ok-scene.scene numbers) _ _ _ _ _ c.with_nodes.result.nodes _ _
    (λ i. record {
      conversion = conversion;
      markers = (c.in_ok-scene.ensures.markers ∙ c.markers.ensures) i;
      caret = (ap (option_map (λ here. caret_view here.now)) c.in_ok-scene.ensures.caret ∙ c.requires) i;
      numbers = numbers;
    })
    c.in_ok-root.ensures c.new-path.ensures (ap (λ view. view.drawn) c.new-2.ensures) (c.items-items.ensures.items ∙ c.tree.ensures.items)
    c.with_nodes.ensures.nodes c.new-3.ensures (c.in_ok-nodes.ensures.made numbers)
