use Rattle.std.proofs.Common.{◌≡◌, ◌+◌, ◌<◌, ◌≤◌, [], ◌∷◌, ◌++◌, take, length, length-take, take_all, ap, sym, ◌∙◌, subst, arith}
use Rattle.std.specs.Prelude.{option_map}
use Rattle.std.proofs.lemmas.List.{take_more}
use Rattle.item_definitions.specs.Children.{offset_of}
use Rattle.item_definitions.proofs.Paths.{offset_of-push}
use Rattle.document_definitions.specs.Markers.{covering}
use Rattle.converter_definitions.specs.Layers.{character_layers}
use Rattle.conv_rules.specs.Listed.{conversion_of}
use Rattle.downcast_definitions.specs.Scene.{boundary}
use Rattle.down_whole.specs.Written.{with_entry, with_row, character_in}
use Rattle.down_whole.specs.Viewed.{written}
use Rattle.down_whole.specs.Scenes.{scene_with, HasLayers}
use Rattle.down_whole.specs.Made.{run_row}
use Rattle.down_whole.proofs.Making.{run_step}
use Rattle.down_whole.proofs.content.push_run.Goals as goal

pub push_scalar-requires-clause-limit : goal.push_scalar-requires-clause-limit
push_scalar-requires-clause-limit g c =
    omega (
      arith,
      ap offset_of c.position_at-position.ensures,
      offset_of-push c.args.path.now c.loop-scalar.offset,
      c.loop-scalar.invariant.1,
      c.requires.few,
      ap length c.scalars-scalar-items.ensures,
    )

pub loop-scalar-preserved : goal.loop-scalar-preserved
loop-scalar-preserved g c =
    let conversion = conversion_of (λ b. (goal.Converter-dyn g (b.vtable, b.value)).gives b.value) c.args.list.now in
    let items = c.scalars-scalar-items.result.now in
    let index = c.loop-scalar.scalar-index in
    let scalar = c.scalar-item.result in
    let less : index < length items = omega arith in
    let next = take_more items index scalar less ∙ ap (λ n. take index items ++ n ∷ []) (sym c.scalar-item.is) in
    let behind : c.loop-scalar.offset ≡ c.args.offset + length (take index items) = omega (arith, c.loop-scalar.invariant.1, length-take index items, less) in (
      λ numbers.
          let scene = scene_with conversion c.args.scene.now numbers in
          run_step scene c.args.path.now c.args.offset c.loop-scalar.offset c.args.text.now.attributes (take index items) (take (index + 1) items)
          scalar (written c.args.row.now) (written c.loop-scalar.row) (written c.push_boundary.new.row) (written c.push_scalar.new.row)
          (c.loop-scalar.invariant.0 numbers) behind
          (c.in_ok-push_boundary.ensures.written conversion numbers c.requires.leaves
          ∙ ap (λ p. with_row (boundary scene p) (written c.loop-scalar.row)) c.position_at-position.ensures)
          (c.in_ok-known.ensures.written
          ∙ (λ i. with_entry (character_in
          (character_layers conversion (c.attrs.ensures i) (covering (c.position_at-position.ensures i) c.args.scene.now.markers.now)) scalar)
          (written c.push_boundary.new.row)))
          next,
      omega (arith, c.loop-scalar.invariant.1),
      subst (λ attributes. HasLayers conversion attributes (option_map (λ names. names.items) c.in_ok-known.known) c.push_scalar.new.row.layers.items)
          c.attrs.ensures c.in_ok-known.ensures.layers,
    )

pub returns : goal.returns
returns g c = λ numbers.
    let items = c.scalars-scalar-items.result.now in
    let index = c.loop-scalar.scalar-index in
    let least : length items ≤ index = omega arith in
    c.loop-scalar.invariant.0 numbers
    ∙ ap (λ scalars. with_row (run_row (scene_with (conversion_of (λ b. (goal.Converter-dyn g (b.vtable, b.value)).gives b.value) c.args.list.now)
    c.args.scene.now numbers) c.args.path.now c.args.offset c.args.text.now.attributes scalars) (written c.args.row.now))
    (take_all index items least ∙ c.scalars-scalar-items.ensures)
