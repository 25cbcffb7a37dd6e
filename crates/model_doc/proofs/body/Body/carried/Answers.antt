use Rattle.std.proofs.Common.{◌≡◌, Ok, sym, ap, ◌∙◌, subst}
use Rattle.item_definitions.specs.Shift.{Shift, IsShift}
use Rattle.operation_definitions.specs.After.{after}
use Rattle.document_definitions.specs.Selection as selections
use Rattle.document_definitions.specs.Selection.{Selection}
use Rattle.document_definitions.specs.Sound.{IsSound, IsCarried}
use Rattle.document_definitions.specs.Document.{shift_of, markers_after, raised, brought}
use Rattle.model_ops.specs.Meant.{operation_of}
use Rattle.model_doc.specs.Held.{Moment}
use Rattle.model_doc.proofs.Carried.{is_shift, all_carried, one_carried, made_sound}
use Rattle.model_doc.proofs.body.Body.carried.Goals as goal

-- what the operation made, said of the parts
pub markers_after-requires-clause-limits : goal.markers_after-requires-clause-limits
markers_after-requires-clause-limits c =
    let operation = operation_of c.args.operation.now in
    let made = subst (λ (m : Moment). after m.state.document.items m.state.cells operation ≡ Ok (c.args.tree, c.args.cells)) (sym c.self.view_is)
    c.requires.made in
    all_carried c.self.inside.tree c.self.inside.cells operation (c.args.tree, c.args.cells) c.self.inside.markers made c.shift_of-shift.ensures.places
    c.self.invariant.markers

pub carry-requires-clause-shift : goal.carry-requires-clause-shift
carry-requires-clause-shift c =
    let operation = operation_of c.args.operation.now in
    subst IsShift (sym c.shift_of-shift.ensures.shift) (is_shift c.args.self.now.state.document.items c.args.self.now.state.cells operation
    (c.args.tree, c.args.cells) c.requires.made)

pub carry-requires-clause-limits : goal.carry-requires-clause-limits
carry-requires-clause-limits c =
    let operation = operation_of c.args.operation.now in
    let made = subst (λ (m : Moment). after m.state.document.items m.state.cells operation ≡ Ok (c.args.tree, c.args.cells)) (sym c.self.view_is)
    c.requires.made in
    let there = one_carried c.self.inside.tree c.self.inside.cells operation (c.args.tree, c.args.cells) c.self.inside.selection.range made
    c.shift_of-shift.ensures.places c.self.invariant.selection.0 in
    subst (λ (shift : Shift). IsCarried shift c.in_ok-selection.selection.range) (sym c.shift_of-shift.ensures.shift)
    (subst (λ (selection : Selection). IsCarried (shift_of operation) selection.range) (sym (c.in_ok-selection.ensures)) there)

pub invariant_of-result : goal.invariant_of-result
invariant_of-result c =
    let operation = operation_of c.args.operation.now in
    let sound = subst (λ (m : Moment). IsSound m.state) c.self.view_is c.self.invariant in
    let marked = c.in_ok-markers.ensures ∙ ap (λ (m : Moment). markers_after operation m.state.document.markers) c.self.view_is in
    let chosen = c.carry.ensures ∙ (λ i. selections.carried (c.shift_of-shift.ensures.shift i) (c.in_ok-selection.ensures i))
    ∙ ap (λ (m : Moment). selections.carried (shift_of operation) m.state.document.selection) c.self.view_is in
    let above = c.next_after.ensures ∙ ap (λ (m : Moment). raised m.state.document.next_id (brought operation)) c.self.view_is in
    made_sound operation c.args.self.now.state c.args.tree c.args.cells c.in_ok-markers.markers c.carry.new.self c.next_after.result
    sound c.requires.welcome c.shift_of-shift.ensures.places c.requires.made marked chosen above
