use Rattle.std.proofs.Common.{◌≡◌, ◌++◌, OnOk, sym, ap, ◌∙◌, subst}
use Rattle.document_definitions.specs.Selection.{Selection}
use Rattle.fix_definitions.specs.Places.{places}
use Rattle.fix_definitions.specs.Selecting.{selection_placed}
use Rattle.post_fix.proofs.Ends.{nothing}
use Rattle.post_fix.proofs.stock.place_selection.Goals as goal

-- no place wants anything
pub returns : goal.returns
returns c =
    let rules = c.args.schema.now in
    let document = c.args.document.now.state.document in
    let range = c.range.ensures ∙ ap (λ (selection : Selection). selection.range) c.selection.ensures in
    let wanted = (λ i. selection_placed rules (c.tree-tree.ensures.items i) (range i))
    ∙ sym (ap (λ edits. edits ++ selection_placed rules document.items document.selection.range) (nothing rules (places document.items))) in
    subst (λ wanted. OnOk c.place.result (c.place.new.out.items ≡ c.args.out.now.items ++ wanted)) wanted c.place.ensures
