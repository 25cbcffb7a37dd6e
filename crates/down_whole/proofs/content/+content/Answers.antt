use Rattle.std.proofs.Common.{◌+◌, ◌≤◌, [], ◌∷◌, ◌++◌, take, length, length-append, take_all, ap, sym, ◌∙◌, subst, arith}
use Rattle.item_definitions.specs.Item.{element, items_of}
use Rattle.item_definitions.specs.Children.{offset_of}
use Rattle.item_definitions.proofs.Paths.{offset_of-push}
use Rattle.model_tree.specs.Nodes.{items_at, items_in}
use Rattle.model_tree.proofs.Counts.{length-characters}
use Rattle.conv_rules.specs.Listed.{conversion_of, converted_view}
use Rattle.downcast_definitions.specs.Scene.{unnumbered, boundary}
use Rattle.downcast_definitions.specs.Rows.{element_layers}
use Rattle.downcast_definitions.specs.Shown.{HaveShapes}
use Rattle.down_whole.specs.contracts.content.content as contract
use Rattle.down_whole.specs.Written.{with_row}
use Rattle.down_whole.specs.Viewed.{written}
use Rattle.down_whole.specs.Scenes.{scene_with}
use Rattle.down_whole.specs.Made.{MadeContent}
use Rattle.down_whole.specs.Bound.{elements_among}
use Rattle.down_whole.proofs.Bindings.{among-more}
use Rattle.down_whole.proofs.Making.{characters, no_elements, none_within, run-made, element-made, content-made}
use Rattle.down_whole.proofs.MadeItems.{partway-step, run-shapes, next-node, text-room, element-room, element-shapes, calls-so-far, calls-more}
use Rattle.down_whole.proofs.content.+content.Goals as goal

pub push_run-requires-clause-few : goal.push_run-requires-clause-few
push_run-requires-clause-few g t c =
    let next = next-node c.deref-node-items.result.now _ c.loop-node.node-index c.node-item.result c.args.items.now (omega arith) c.node-item.is
    c.deref-node-items.ensures.value c.nodes.ensures.items in
    omega (arith, text-room _ _ _ c.in-Run.text c.args.items.now c.loop-node.offset next c.in-Run.is c.loop-node.invariant.way.offset_is, c.requires.few)

pub overflow_cast-offset : goal.overflow_cast-offset
overflow_cast-offset g t c =
    let next = next-node c.deref-node-items.result.now _ c.loop-node.node-index c.node-item.result c.args.items.now (omega arith) c.node-item.is
    c.deref-node-items.ensures.value c.nodes.ensures.items in
    omega (
      arith,
      text-room _ _ _ c.in-Run.text c.args.items.now c.loop-node.offset next c.in-Run.is c.loop-node.invariant.way.offset_is,
      c.requires.few,
      c.len.ensures,
    )

pub overflow_add-offset : goal.overflow_add-offset
overflow_add-offset g t c =
    let next = next-node c.deref-node-items.result.now _ c.loop-node.node-index c.node-item.result c.args.items.now (omega arith) c.node-item.is
    c.deref-node-items.ensures.value c.nodes.ensures.items in
    omega (
      arith,
      text-room _ _ _ c.in-Run.text c.args.items.now c.loop-node.offset next c.in-Run.is c.loop-node.invariant.way.offset_is,
      c.requires.few,
      c.len.ensures,
    )

pub loop-node-preserved-in-Run : goal.loop-node-preserved-in-Run
loop-node-preserved-in-Run g t c =
    let next = next-node c.deref-node-items.result.now _ c.loop-node.node-index c.node-item.result c.args.items.now (omega arith) c.node-item.is
    c.deref-node-items.ensures.value c.nodes.ensures.items in
    let so_far = items_in (take c.loop-node.node-index c.deref-node-items.result.now) in
    let conversion = conversion_of (λ b. (contract.dyn-1.members g.row.L g.dyn-1 (b.vtable, b.value)).gives b.value) c.args.list.now in
    let attributes = c.in-Run.text.attributes in
    let scalars = c.in-Run.text.scalars in
    let run = characters attributes scalars in
    let split = next.split ∙ ap (λ node. so_far ++ items_at node) c.in-Run.is in
    record {
      way =
          partway-step conversion (scene_with conversion c.args.scene.now) c.args.parent.now.name.now c.args.parent.now.path.now
          c.args.maker.now.view.drawn so_far run _ c.args.maker.now.mapper
          (written c.loop-node.row) (written c.push_run.new.row) c.loop-node.maker.mapper c.loop-node.maker.mapper c.loop-node.offset
          (c.loop-node.offset + c.len.result) c.loop-node.before c.loop-node.before c.loop-node.maker.view.drawn c.loop-node.maker.view.drawn
          c.loop-node.invariant.way
          (λ numbers. run-made (scene_with conversion c.args.scene.now numbers)
          (record {
            parent = c.args.parent.now.name.now;
            path = c.args.parent.now.path.now;
            offset = c.loop-node.offset;
            before = c.loop-node.before;
            drawn = c.loop-node.maker.view.drawn;
          }) attributes scalars (written c.loop-node.row) (written c.push_run.new.row) c.loop-node.maker.mapper
          (c.in_ok-push_run-in-Run.ensures numbers))
          (run-shapes conversion c.args.parent.now.name.now c.loop-node.before attributes scalars)
          (ap (λ count. c.loop-node.offset + count) (c.len.ensures ∙ sym (length-characters attributes scalars)))
          (omega (arith, none_within attributes scalars)) (omega (arith, no_elements attributes scalars)) split;
      calls = calls-so-far _ _ _ _ _ c.loop-node.invariant.calls (omega (arith, ap (λ list. elements_among (items_of list)) split, among-more so_far run));
    }

pub content-requires : goal.content-requires
content-requires g t c κs within =
    let next = next-node c.deref-node-items.result.now _ c.loop-node.node-index c.node-item.result c.args.items.now (omega arith) c.node-item.is
    c.deref-node-items.ensures.value c.nodes.ensures.items in
    let room = element-room _ _ _ c.in-Element.head c.in-Element.children c.args.items.now next c.in-Element.is in (
      omega (arith, c.decreases, room.depth),
      (
        within,
        (
          c.requires.leaves,
          (
            omega (
              arith,
              c.requires.short,
              room.depth,
              ap length c.position_at-position.ensures,
              length-append c.args.parent.now.path.now
                  (c.loop-node.offset ∷ []),
            ),
            (
              omega (arith, c.requires.few, room.count),
              (omega (arith, c.requires.numbers, room.count, room.few_so_far, c.loop-node.invariant.way.number_is), c.requires.placed),
            ),
          ),
        ),
      ),
    )

pub push_element-requires-clause-limit : goal.push_element-requires-clause-limit
push_element-requires-clause-limit g t c =
    let next = next-node c.deref-node-items.result.now _ c.loop-node.node-index c.node-item.result c.args.items.now (omega arith) c.node-item.is
    c.deref-node-items.ensures.value c.nodes.ensures.items in
    let room = element-room _ _ _ c.in-Element.head c.in-Element.children c.args.items.now next c.in-Element.is in
    omega (
      arith,
      ap offset_of c.position_at-position.ensures,
      offset_of-push c.args.parent.now.path.now c.loop-node.offset,
      c.loop-node.invariant.way.offset_is,
      room.offset,
      room.count,
      c.requires.few,
    )

pub push_element-requires-clause-numbers : goal.push_element-requires-clause-numbers
push_element-requires-clause-numbers g t c =
    let next = next-node c.deref-node-items.result.now _ c.loop-node.node-index c.node-item.result c.args.items.now (omega arith) c.node-item.is
    c.deref-node-items.ensures.value c.nodes.ensures.items in
    let room = element-room _ _ _ c.in-Element.head c.in-Element.children c.args.items.now next c.in-Element.is in
    omega (arith, c.in_ok-inner-in-Element.ensures.drawn, room.few, room.few_so_far, room.count, c.requires.numbers, c.loop-node.invariant.way.number_is)

pub overflow_add-offset-in-Element : goal.overflow_add-offset-in-Element
overflow_add-offset-in-Element g t c =
    let next = next-node c.deref-node-items.result.now _ c.loop-node.node-index c.node-item.result c.args.items.now (omega arith) c.node-item.is
    c.deref-node-items.ensures.value c.nodes.ensures.items in
    let room = element-room _ _ _ c.in-Element.head c.in-Element.children c.args.items.now next c.in-Element.is in
    omega (arith, c.loop-node.invariant.way.offset_is, room.offset, room.count, c.requires.few)

pub overflow_add-before : goal.overflow_add-before
overflow_add-before g t c =
    let next = next-node c.deref-node-items.result.now _ c.loop-node.node-index c.node-item.result c.args.items.now (omega arith) c.node-item.is
    c.deref-node-items.ensures.value c.nodes.ensures.items in
    let room = element-room _ _ _ c.in-Element.head c.in-Element.children c.args.items.now next c.in-Element.is in
    omega (arith, c.loop-node.invariant.way.before_is, room.before, room.offset, room.count, c.requires.few)

pub loop-node-preserved : goal.loop-node-preserved
loop-node-preserved g t c =
    let next = next-node c.deref-node-items.result.now _ c.loop-node.node-index c.node-item.result c.args.items.now (omega arith) c.node-item.is
    c.deref-node-items.ensures.value c.nodes.ensures.items in
    let room = element-room _ _ _ c.in-Element.head c.in-Element.children c.args.items.now next c.in-Element.is in
    let so_far = items_in (take c.loop-node.node-index c.deref-node-items.result.now) in
    let conversion = conversion_of (λ b. (contract.dyn-1.members g.row.L g.dyn-1 (b.vtable, b.value)).gives b.value) c.args.list.now in
    let head = c.in-Element.head in
    let children = c.in-Element.children in
    let made = converted_view c.in_ok-made-in-Element.made in
    let position = c.args.parent.now.path.now ++ c.loop-node.offset ∷ [] in
    let split = next.split ∙ ap (λ node. so_far ++ items_at node) c.in-Element.is in
    record {
      way =
          partway-step conversion (scene_with conversion c.args.scene.now) c.args.parent.now.name.now c.args.parent.now.path.now
          c.args.maker.now.view.drawn so_far (element head.id head.name head.attributes (items_of children) ∷ []) _ c.args.maker.now.mapper
          (written c.loop-node.row) (written c.push_element.new.row) c.loop-node.maker.mapper c.push_element.new.maker.mapper c.loop-node.offset
          (c.loop-node.offset + 1) c.loop-node.before (c.loop-node.before + 1) c.loop-node.maker.view.drawn c.push_element.new.maker.view.drawn
          c.loop-node.invariant.way
          (λ numbers.
          let scene = scene_with conversion c.args.scene.now numbers in
          element-made scene (record {
            parent = c.args.parent.now.name.now;
            path = c.args.parent.now.path.now;
            offset = c.loop-node.offset;
            before =
                c.loop-node.before;
            drawn = c.loop-node.maker.view.drawn;
          }) head.id head.name head.attributes children made c.in_ok-inner-in-Element.inner.nodes
          (element_layers (scene_with conversion c.args.scene.now unnumbered) c.position_at-position.result head.name made.layers)
          c.content.new.maker.view.drawn (written c.loop-node.row) (written c.push_boundary.new.row) (written c.push_element.new.row)
          c.loop-node.maker.mapper c.content.new.maker.mapper c.push_element.new.maker.mapper
          c.in_ok-made-in-Element.ensures.made
          (c.in_ok-push_boundary-in-Element.ensures.written conversion numbers c.requires.leaves
          ∙ ap (λ p. with_row (boundary scene p) (written c.loop-node.row)) c.position_at-position.ensures)
          (subst (λ p. MadeContent scene head.name p c.loop-node.maker.view.drawn children c.in_ok-inner-in-Element.inner.nodes c.loop-node.maker.mapper
          c.content.new.maker.mapper) c.position_at-position.ensures
          (subst (λ name. MadeContent scene name c.position_at-position.result c.loop-node.maker.view.drawn children
          c.in_ok-inner-in-Element.inner.nodes c.loop-node.maker.mapper c.content.new.maker.mapper) c.name.ensures
          (c.in_ok-inner-in-Element.ensures.made numbers)))
          c.in_ok-inner-in-Element.ensures.drawn
          (ap (λ p. element_layers scene p head.name made.layers) c.position_at-position.ensures)
          c.in_ok-push_element-in-Element.ensures.row c.in_ok-push_element-in-Element.ensures.mapper)
          (element-shapes conversion c.args.parent.now.name.now c.loop-node.before head.id head.name head.attributes children made
          c.in_ok-made-in-Element.ensures.made c.in_ok-push_element-in-Element.ensures.shape
          (subst (λ name. HaveShapes conversion name 0 (items_of children)) c.name.ensures c.in_ok-inner-in-Element.ensures.shapes))
          (omega arith) (omega arith) (omega (arith, c.in_ok-push_element-in-Element.ensures.drawn, c.in_ok-inner-in-Element.ensures.drawn)) split;
      calls =
          calls-more _ _ _ _ _ (elements_among (items_of children)) _ c.loop-node.invariant.calls
          (omega (arith, c.in_ok-made-in-Element.ensures.calls, c.in_ok-inner-in-Element.ensures.calls))
          (omega (
            arith,
            ap (λ list. elements_among (items_of list)) split,
            among-more so_far (element head.id head.name head.attributes (items_of children) ∷ []),
          ));
    }

pub returns-clause-made : goal.returns-clause-made
returns-clause-made g t c = λ numbers.
    let nodes = c.deref-node-items.result.now in
    let index = c.loop-node.node-index in
    let conversion = conversion_of (λ b. (contract.dyn-1.members g.row.L g.dyn-1 (b.vtable, b.value)).gives b.value) c.args.list.now in
    let scene = scene_with conversion c.args.scene.now numbers in
    let least : length nodes ≤ index = omega arith in
    let all = ap items_in (take_all index nodes least) ∙ ap items_in c.deref-node-items.ensures.value ∙ c.nodes.ensures.items in
    content-made scene c.args.parent.now.name.now c.args.parent.now.path.now c.args.maker.now.view.drawn c.loop-node.offset
    (items_in (take index nodes)) c.args.items.now c.in_ok-nodes.nodes.nodes (written c.loop-node.row) (written c.push_boundary-3.new.row)
    c.args.maker.now.mapper c.loop-node.maker.mapper c.finish.new.maker.mapper
    (c.loop-node.invariant.way.made numbers) all c.loop-node.invariant.way.offset_is
    (c.in_ok-push_boundary.ensures.written conversion numbers c.requires.leaves
    ∙ ap (λ p. with_row (boundary scene p) (written c.loop-node.row)) c.position_at.ensures)
    c.in_ok-nodes.ensures.nodes c.in_ok-nodes.ensures.mapper c.loop-node.invariant.way.shapes c.requires.placed

-- the calls of the product's converters, where memory runs out

pub returns-in_err-push_run-in-Run-clause-calls : goal.returns-in_err-push_run-in-Run-clause-calls
returns-in_err-push_run-in-Run-clause-calls g t c =
    let next = next-node c.deref-node-items.result.now _ c.loop-node.node-index c.node-item.result c.args.items.now (omega arith) c.node-item.is
    c.deref-node-items.ensures.value c.nodes.ensures.items in
    calls-so-far _ _ _ _ _ c.loop-node.invariant.calls (omega (arith, next.elements))

pub returns-in_err-push_boundary-in-Element-clause-calls : goal.returns-in_err-push_boundary-in-Element-clause-calls
returns-in_err-push_boundary-in-Element-clause-calls g t c =
    let next = next-node c.deref-node-items.result.now _ c.loop-node.node-index c.node-item.result c.args.items.now (omega arith) c.node-item.is
    c.deref-node-items.ensures.value c.nodes.ensures.items in
    calls-so-far _ _ _ _ _ c.loop-node.invariant.calls (omega (arith, next.elements))

pub returns-in_err-made-in-Element-clause-calls : goal.returns-in_err-made-in-Element-clause-calls
returns-in_err-made-in-Element-clause-calls g t c =
    let next = next-node c.deref-node-items.result.now _ c.loop-node.node-index c.node-item.result c.args.items.now (omega arith) c.node-item.is
    c.deref-node-items.ensures.value c.nodes.ensures.items in
    let room = element-room _ _ _ c.in-Element.head c.in-Element.children c.args.items.now next c.in-Element.is in
    calls-more _ _ _ _ _ 0 _ c.loop-node.invariant.calls (omega (arith, c.in_err-made-in-Element.ensures.calls)) (omega (arith, room.elements))

pub returns-in_err-inner-in-Element-clause-calls : goal.returns-in_err-inner-in-Element-clause-calls
returns-in_err-inner-in-Element-clause-calls g t c =
    let next = next-node c.deref-node-items.result.now _ c.loop-node.node-index c.node-item.result c.args.items.now (omega arith) c.node-item.is
    c.deref-node-items.ensures.value c.nodes.ensures.items in
    let room = element-room _ _ _ c.in-Element.head c.in-Element.children c.args.items.now next c.in-Element.is in
    calls-more _ _ _ _ _ (elements_among (items_of c.in-Element.children)) _ c.loop-node.invariant.calls
    (omega (arith, c.in_ok-made-in-Element.ensures.calls, c.in_err-inner-in-Element.ensures.calls)) room.elements

pub returns-in_err-push_element-in-Element-clause-calls : goal.returns-in_err-push_element-in-Element-clause-calls
returns-in_err-push_element-in-Element-clause-calls g t c =
    let next = next-node c.deref-node-items.result.now _ c.loop-node.node-index c.node-item.result c.args.items.now (omega arith) c.node-item.is
    c.deref-node-items.ensures.value c.nodes.ensures.items in
    let room = element-room _ _ _ c.in-Element.head c.in-Element.children c.args.items.now next c.in-Element.is in
    calls-more _ _ _ _ _ (elements_among (items_of c.in-Element.children)) _ c.loop-node.invariant.calls
    (omega (arith, c.in_ok-made-in-Element.ensures.calls, c.in_ok-inner-in-Element.ensures.calls)) room.elements
