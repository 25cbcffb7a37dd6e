use Rattle.std.proofs.Common.{◌≡◌, ◌<◌, Bool, false, [], List, length, replicate, slice_index_or, All, ℕ, sym, ◌∙◌, subst, ap, arith}
use Rattle.std.proofs.lemmas.List.{nil_from_length}
use Rattle.schema_rules.specs.Graph.{visited}
use Rattle.schema_rules.proofs.Partway.{partway_begun, partway_followed, partway_falls, last_below, nothing_left}
use Rattle.schema_rules.proofs.graph.Graph.reached.Goals as goal

pub loop-node-init : goal.loop-node-init
loop-node-init c =
    let none : c.in_ok-marks.marks.items ≡ replicate (length c.args.self.now) false = c.in_ok-marks.ensures ∙ ap (λ n. replicate n false) c.len.ensures in
    partway_begun c.args.self.now c.args.start.now c.visit.new.marks.items c.visit.new.waiting.items c.requires.nodes
    (c.in_ok-visit.ensures ∙ ap (λ marks. visited c.args.start.now marks c.new-waiting.result.items) none
    ∙ ap (λ waiting. visited c.args.start.now (replicate (length c.args.self.now) false) waiting) c.new-waiting.ensures.items)

pub targets_of-requires : goal.targets_of-requires
targets_of-requires c = last_below (length c.args.self.now) c.loop-node.waiting.items c.pop.new.self.items c.in-Some.node c.in-Some.ensures.items
    c.loop-node.invariant.within

pub visit-requires-in-Some : goal.visit-requires-in-Some
visit-requires-in-Some c = subst (λ n. All (λ node. node < n) c.targets_of.result.now) (sym c.loop-node.invariant.size)
    (subst (λ nodes. All (λ node. node < length c.args.self.now) nodes) (sym c.targets_of.ensures) (c.requires.graph c.in-Some.node))

pub loop-node-smaller : goal.loop-node-smaller
loop-node-smaller c =
    let now : ◌≡◌ {A = List Bool × List ℕ} (c.visit-in-Some.new.marks.items, c.visit-in-Some.new.waiting.items)
    (visited (slice_index_or c.args.self.now c.in-Some.node []) c.loop-node.marks.items c.pop.new.self.items) = c.in_ok-visit-2.ensures
    ∙ ap (λ nodes. visited nodes c.loop-node.marks.items c.pop.new.self.items) c.targets_of.ensures in
    partway_falls c.args.self.now c.args.start.now c.loop-node.marks.items c.visit-in-Some.new.marks.items c.loop-node.waiting.items
    c.pop.new.self.items c.visit-in-Some.new.waiting.items c.in-Some.node c.requires.graph c.loop-node.invariant c.in-Some.ensures.items now

pub loop-node-preserved : goal.loop-node-preserved
loop-node-preserved c =
    let now : ◌≡◌ {A = List Bool × List ℕ} (c.visit-in-Some.new.marks.items, c.visit-in-Some.new.waiting.items)
    (visited (slice_index_or c.args.self.now c.in-Some.node []) c.loop-node.marks.items c.pop.new.self.items) = c.in_ok-visit-2.ensures
    ∙ ap (λ nodes. visited nodes c.loop-node.marks.items c.pop.new.self.items) c.targets_of.ensures in
    partway_followed c.args.self.now c.args.start.now c.loop-node.marks.items c.visit-in-Some.new.marks.items c.loop-node.waiting.items
    c.pop.new.self.items c.visit-in-Some.new.waiting.items c.in-Some.node c.requires.graph c.loop-node.invariant c.in-Some.ensures.items now

pub returns : goal.returns
returns c =
    let empty : length c.loop-node.waiting.items ≡ 0 = omega (arith, c.in_default.ensures.cases.0) in
    nothing_left c.args.self.now c.args.start.now c.loop-node.marks.items c.new.result c.loop-node.waiting.items
    (nil_from_length c.loop-node.waiting.items empty) c.new.ensures c.loop-node.invariant
