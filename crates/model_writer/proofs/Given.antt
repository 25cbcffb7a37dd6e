-- Values given to flat ranges.
use Rattle.std.proofs.Common.{◌≡◌, ◌≢◌, ℕ, zero, suc, ◌+◌, ◌<◌, ◌≤◌, ◌^◌, true, nat_lt, ◌||◌, ◌&&◌, ◌==◌, List, [], ◌∷◌, ◌++◌, length, get_or, take, drop}
use Rattle.std.proofs.Common.{append_assoc, Option, Some, None, unwrap_or, refl, sym, ap, ◌∙◌, arith}
use Rattle.std.proofs.lemmas.Bool.Decides.{nat_tests}
use Rattle.std.proofs.lemmas.List.{length-take, length-drop, take_more, append-nil}
use Rattle.std.proofs.lemmas.List.Concat.{flat_map-append}
use Rattle.std.specs.List.{flat_map}
use Rattle.operation_definitions.specs.Operation.{Operation, attribute}
use Rattle.ck_base.specs.declared.value.Value.{Value as AttributeValue}
use Rattle.item_definitions.specs.Item.{Item, count_of}
use Rattle.item_definitions.specs.Children.{parent_of, offset_of, children_at}
use Rattle.item_definitions.specs.Position.{Range, between, behind, not_after}
use Rattle.item_definitions.proofs.Order.{behind-push, not_after-cons, not_after-parent}
use Rattle.item_definitions.proofs.Paths.{path-joined}
use Rattle.model_tree.proofs.Shown.{level_few}
use Rattle.item_definitions.proofs.Sizes.{length-count}
use Rattle.edit_definitions.specs.Runs.{Run, runs_of, items_of_range, attribute_runs, give_in}
use Rattle.edit_definitions.specs.Planned.{count_in}

ordered : (from to : ℕ) → from ≤ to → not_after (from ∷ []) (to ∷ []) ≡ true
ordered from to h = not_after-cons from to [] [] ∙ either from to h
  where
    either : (from to : ℕ) → from ≤ to → (nat_lt from to || (from == to && true)) ≡ true
    either from to h = grind (arith, nat_tests)

pub in_order : (parent : List ℕ) (from to : ℕ) → from ≤ to → not_after (parent ++ from ∷ []) (parent ++ to ∷ []) ≡ true
in_order parent from to h = not_after-parent parent (from ∷ []) (to ∷ []) ∙ ordered from to h

pub before_behind : (path : List ℕ) → path ≢ [] → not_after path (behind path) ≡ true
before_behind path some =
    let whole = path-joined path some in
    let next : behind path ≡ parent_of path ++ (offset_of path + 1) ∷ [] = ap behind whole ∙ behind-push (parent_of path) (offset_of path) in
    (λ i. not_after (whole i) (next i)) ∙ in_order (parent_of path) (offset_of path) (offset_of path + 1) (omega arith)

pub run_fits : (items level run : List Item) (parent : List ℕ) (start count : ℕ) → run ≡ take count (drop start level)
    → Some level ≡ children_at parent items → count_of items < 2 ^ 32 → start < 2 ^ 32 → start + length run < 2 ^ 32
run_fits items level run parent start count is there few small =
    let a = level_few parent items level (sym there) in
    let b = length-count level in
    let long : length run ≡ length (take count (drop start level)) = ap (λ (xs : List Item). length xs) is in
    let c = length-take count (drop start level) in
    let d = length-drop start level in
    omega (arith, a, b, long, c, d)

pub runs_there : (items level run : List Item) (part : Range) (parent key : List ℕ) (new : Option AttributeValue) (start : ℕ) (runs : List Run)
    → parent ≡ parent_of part.start → start ≡ offset_of part.start
    → Some level ≡ children_at parent items → run ≡ take (count_in part.start part.end) (drop start level) → runs ≡ runs_of key new start run
    → attribute_runs (parent_of part.start) key new runs ≡ give_in items key new part
runs_there items level run part parent key new start runs above at there is made =
    ap (attribute_runs (parent_of part.start) key new) (made ∙ (λ i. runs_of key new (at i) (same i)))
  where
    same : run ≡ items_of_range items part
    same = is ∙ (λ i. take (count_in part.start part.end) (drop (at i) (level-is i)))
      where
        level-is : level ≡ unwrap_or (children_at (parent_of part.start) items) []
        level-is = ap (λ (o : Option (List Item)). unwrap_or o []) (there ∙ ap (λ p. children_at p items) above)

no-drop : {A : Type 0} (start : ℕ) → drop {A = A} start [] ≡ []
no-drop zero = refl
no-drop (suc start) = refl

no-take : {A : Type 0} (count : ℕ) → take {A = A} count [] ≡ []
no-take zero = refl
no-take (suc count) = refl

pub runs_nowhere : (items : List Item) (part : Range) (parent key : List ℕ) (new : Option AttributeValue) → parent ≡ parent_of part.start
    → None ≡ children_at parent items → attribute_runs (parent_of part.start) key new [] ≡ give_in items key new part
runs_nowhere items part parent key new above nowhere =
    ap (λ xs. attribute_runs (parent_of part.start) key new (runs_of key new (offset_of part.start) xs))
    (sym (ap (take (count_in part.start part.end)) (no-drop (offset_of part.start)) ∙ no-take (count_in part.start part.end))
    ∙ ap (λ (o : Option (List Item)). take (count_in part.start part.end) (drop (offset_of part.start) (unwrap_or o []))) (nowhere
    ∙ ap (λ p. children_at p items) above))

runs-push : (parent key : List ℕ) (new : Option AttributeValue) (runs : List Run) (run : Run) → attribute_runs parent key new (runs ++ run ∷ [])
    ≡ attribute_runs parent key new runs ++ attribute (between (parent ++ run.from ∷ []) (parent ++ run.to ∷ [])) key run.old new ∷ []
runs-push parent key new [] run = refl
runs-push parent key new (first ∷ runs) run = ap (λ xs. attribute (between (parent ++ first.from ∷ []) (parent ++ first.to ∷ [])) key first.old new
    ∷ xs) (runs-push parent key new runs run)

pub next_run : (parent key : List ℕ) (new : Option AttributeValue) (index : ℕ) (all : List Run) (run : Run) (operation : Operation)
    (before made after : List Operation) → made ≡ before ++ attribute_runs parent key new (take index all) → index < length all
    → run ≡ get_or all index run → operation ≡ attribute (between (parent ++ run.from ∷ []) (parent ++ run.to ∷ [])) key run.old new
    → after ≡ made ++ operation ∷ [] → after ≡ before ++ attribute_runs parent key new (take (index + 1) all)
next_run parent key new index all run operation before made after so_far less here meant more =
    let next = take_more all index run less ∙ ap (λ r. take index all ++ r ∷ []) (sym here) in
    more ∙ ap (λ xs. xs ++ operation ∷ []) so_far ∙ append_assoc before (attribute_runs parent key new (take index all)) (operation ∷ [])
    ∙ ap (λ o. before ++ (attribute_runs parent key new (take index all) ++ o ∷ [])) meant
    ∙ ap (λ xs. before ++ xs) (sym (ap (attribute_runs parent key new) next ∙ runs-push parent key new (take index all) run))

pub next_part : (items : List Item) (key : List ℕ) (new : Option AttributeValue) (index : ℕ) (all : List Range) (part : Range)
    (made after : List Operation) → flat_map (give_in items key new) (take index all) ≡ made → index < length all
    → part ≡ get_or all index part → after ≡ made ++ give_in items key new part → flat_map (give_in items key new) (take (index + 1) all) ≡ after
next_part items key new index all part made after so_far less here more =
    let next = take_more all index part less ∙ ap (λ r. take index all ++ r ∷ []) (sym here) in
    ap (flat_map (give_in items key new)) next ∙ flat_map-append (give_in items key new) (take index all) (part ∷ [])
    ∙ (λ i. so_far i ++ append-nil (give_in items key new part) i) ∙ sym more
