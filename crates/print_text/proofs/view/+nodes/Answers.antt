use Rattle.std.proofs.Common.{◌≡◌, ◌++◌, ap, subst, string_bytes, arith}
use Rattle.std.specs.Prelude.{OnOk}
use Rattle.view_tree.specs.declared.node.NodeRef.TheVariants.{Element}
use Rattle.view_definitions.specs.Node.{depth_of}
use Rattle.print_text.specs.Ends.{places_of}
use Rattle.print_text.proofs.Nodes.{text_of_shown, shallower, no_deeper}
use Rattle.print_text.proofs.view.+nodes.Goals as goal

pub push_node-push_element-requires : goal.push_node-push_element-requires
push_node-push_element-requires t c =
    let s = c.in-Element-Some in
    (omega (arith, c.decreases, shallower c.args.node.now s.children.now.nodes s.ensures'), tt)

pub push_node-returns-in-Element-Some : goal.push_node-returns-in-Element-Some
push_node-returns-in-Element-Some t c =
    let s = c.in-Element-Some in
    subst (λ wanted. OnOk c.push_element.result (string_bytes c.push_element.new.out ≡ string_bytes c.args.out.now ++ wanted))
    (text_of_shown (places_of c.args.marks) (Element s.kind-0 s.name s.attrs s.number-0 s.count-0) c.args.node.now s.children.now.nodes s.ensures s.ensures')
    c.push_element.ensures

pub push_nodes-push_node-requires : goal.push_nodes-push_node-requires
push_nodes-push_node-requires t c =
    let nodes = c.as_slice-node-items.result.now in (
      omega (
        arith,
        c.decreases,
        ap depth_of c.as_slice-node-items.ensures,
        no_deeper nodes c.loop-node.node-index c.node-item.result (omega arith)
            c.node-item.is,
      ),
      tt,
    )
