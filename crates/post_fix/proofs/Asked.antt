-- What was asked of a tree, as it is wanted.
use Rattle.std.proofs.Common.{◌≡◌, ◌<◌, ◌^◌, List, [], ◌++◌, length, reverse, None, sym, ap, ◌∙◌, arith, append_assoc}
use Rattle.std.specs.List.{flat_map}
use Rattle.item_definitions.specs.Item.{Item, items_of}
use Rattle.model_tree.specs.Limits.{IsTree}
use Rattle.schema_definitions.specs.Allowed.{Rules}
use Rattle.edit_definitions.specs.declared.edit.Edit.{Edit}
use Rattle.fix_definitions.specs.declared.stock.StockFixer.{StockFixer}
use Rattle.fix_definitions.specs.Places.{places}
use Rattle.fix_definitions.specs.Wanted.{wanted}
use Rattle.post_fix.specs.Walked.{AreBelow, wanted_from, root_wanted, IsOfElements}
use Rattle.post_fix.proofs.Walking.{below_long}
use Rattle.post_fix.proofs.Walked.{all_is}

pub all_below : (items : List Item) → IsTree items → AreBelow [] 0 items
all_below items h = record {
  few = (let few = h.few in omega (arith, few));
  flat = (let flat = h.flat in omega (arith, flat));
}

pub root_few : (items : List Item) → IsTree items → length items < 2 ^ 32
root_few items h = omega (arith, below_long [] 0 items (all_below items h))

pub all_asked : (fixer : StockFixer) (items : List Item) (out mid new : List Edit) → IsOfElements fixer → mid ≡ out ++ root_wanted fixer items
    → new ≡ mid ++ wanted_from fixer [] 0 None (items_of items) → (rules : Rules) → new ≡ out ++ flat_map (wanted rules fixer) (places items)
all_asked fixer items out mid new h m n rules =
    n ∙ (λ i. m i ++ wanted_from fixer [] 0 None (items_of items)) ∙ append_assoc out (root_wanted fixer items) (wanted_from fixer [] 0 None (items_of items))
    ∙ ap (λ t. out ++ t) (sym (all_is rules items fixer h))

pub turned : (fixer : StockFixer) (items : List Item) (out edits new : List Edit)
    → ((rules : Rules) → edits ≡ [] ++ flat_map (wanted rules fixer) (places items))
    → new ≡ out ++ reverse edits → (rules : Rules) → new ≡ out ++ reverse (flat_map (wanted rules fixer) (places items))
turned fixer items out edits new h n rules = n ∙ ap (λ edits. out ++ reverse edits) (h rules)
