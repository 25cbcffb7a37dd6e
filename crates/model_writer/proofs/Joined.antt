-- Runs of items with one value.
use Rattle.std.proofs.Common.{◌≡◌, ℕ, ◌+◌, ◌<◌, ◌≤◌, Bool, true, false, ◌&&◌, ◌==◌, if◌then◌else◌, List, [], ◌∷◌, ◌++◌, length, reverse, Option, refl, sym, ap}
use Rattle.std.proofs.Common.{◌∙◌, subst, arith}
use Rattle.std.proofs.lemmas.Bool.Decides.{nat_tests}
use Rattle.std.proofs.lemmas.List.{reverse-append, length-append, append-nil}
use Rattle.std.proofs.lemmas.List.Concat.{flat_map-append}
use Rattle.ck_base.specs.declared.value.Value.{Value as AttributeValue}
use Rattle.ck_base.specs.Entries.{value_of}
use Rattle.ck_base.proofs.Common.{second}
use Rattle.item_definitions.specs.Item.{Item, attributes_of}
use Rattle.operation_definitions.specs.After.{same_value}
use Rattle.operation_definitions.proofs.Values.{same_value-true, same_value-own}
use Rattle.edit_definitions.specs.Runs.{Run, joined, runs_of}
use Rattle.model_tree.specs.OneValue.{HaveOne}
use Rattle.model_tree.specs.declared.items.Node.{Node}
use Rattle.model_tree.specs.Nodes.{items_at, items_in, IsNormal}
use Rattle.model_writer.specs.Runs.{with_run, with_change, runs_onto}

pub left_out : (new : Option AttributeValue) (run : Run) (runs : List Run) → same_value run.old new ≡ true → with_change new run runs ≡ runs
left_out new run runs e = ap (λ t. if t then runs else with_run run runs) e

put-in : (new : Option AttributeValue) (run : Run) (runs : List Run) → same_value run.old new ≡ false → with_change new run runs ≡ with_run run runs
put-in new run runs e = ap (λ t. if t then runs else with_run run runs) e

reverse-push : (runs : List Run) (run : Run) → reverse (runs ++ run ∷ []) ≡ run ∷ reverse runs
reverse-push runs run = reverse-append runs (run ∷ [])

pub alone : (new : Option AttributeValue) (run : Run) → same_value run.old new ≡ false → reverse (run ∷ []) ≡ with_change new run (reverse [])
alone new run e = sym (put-in new run [] e)

pub apart : (new : Option AttributeValue) (run next : Run) (front : List Run) → same_value run.old new ≡ false
    → (next.from == run.to && same_value next.old run.old) ≡ false
    → reverse ((front ++ next ∷ []) ++ run ∷ []) ≡ with_change new run (reverse (front ++ next ∷ []))
apart new run next front e other =
    reverse-push (front ++ next ∷ []) run ∙ ap (λ xs. run ∷ xs) (reverse-push front next)
    ∙ sym (put-in new run (reverse (front ++ next ∷ [])) e ∙ ap (with_run run) (reverse-push front next)
    ∙ ap (λ t. if t then record { from = run.from; to = next.to; old = run.old } ∷ reverse front else run ∷ next ∷ reverse front) other)

pub together : (new : Option AttributeValue) (run next : Run) (front : List Run) → same_value run.old new ≡ false
    → (next.from == run.to && same_value next.old run.old) ≡ true
    → reverse (front ++ record { from = run.from; to = next.to; old = next.old } ∷ []) ≡ with_change new run (reverse (front ++ next ∷ []))
together new run next front e same =
    reverse-push front (record { from = run.from; to = next.to; old = next.old })
    ∙ ap (λ v. record { from = run.from; to = next.to; old = v } ∷ reverse front)
    (same_value-true next.old run.old (second (next.from == run.to) (same_value next.old run.old) same))
    ∙ sym (put-in new run (reverse (front ++ next ∷ [])) e ∙ ap (with_run run) (reverse-push front next)
    ∙ ap (λ t. if t then record { from = run.from; to = next.to; old = run.old } ∷ reverse front else run ∷ next ∷ reverse front) same)

-- one more item in front of a run
joined-alone : (offset : ℕ) (old : Option AttributeValue) (runs : List Run) → joined offset old runs
    ≡ with_run (record { from = offset; to = offset + 1; old = old }) runs
joined-alone offset old [] = refl
joined-alone offset old (run ∷ runs) = refl

begins-there : (offset : ℕ) (old : Option AttributeValue) → (offset == offset && same_value old old) ≡ true
begins-there offset old = λ i. same offset i && same_value-own old i
  where
    same : (n : ℕ) → (n == n) ≡ true
    same n = grind (arith, nat_tests)

joined-first : (offset to : ℕ) (old : Option AttributeValue) (runs : List Run)
    → joined offset old (record { from = offset + 1; to = to; old = old } ∷ runs) ≡ record { from = offset; to = to; old = old } ∷ runs
joined-first offset to old runs =
    ap (λ t. if t then record { from = offset; to = to; old = old } ∷ runs else record { from = offset; to = offset + 1; old = old }
    ∷ record { from = offset + 1; to = to; old = old } ∷ runs) (begins-there (offset + 1) old)

joined-more : (offset to : ℕ) (old : Option AttributeValue) (runs : List Run)
    → joined offset old (with_run (record { from = offset + 1; to = to; old = old }) runs) ≡ with_run (record { from = offset; to = to; old = old }) runs
joined-more offset to old [] = joined-first offset to old []
joined-more offset to old (next ∷ runs) = go (next.from == to && same_value next.old old)
  where
    go : (t : Bool) → joined offset old (if t then record { from = offset + 1; to = next.to; old = old } ∷ runs
        else record { from = offset + 1; to = to; old = old } ∷ next ∷ runs)
        ≡ (if t then record { from = offset; to = next.to; old = old } ∷ runs else record { from = offset; to = to; old = old } ∷ next ∷ runs)
    go true = joined-first offset next.to old runs
    go false = joined-first offset to old (next ∷ runs)

-- one item in front of runs
one-more : (new : Option AttributeValue) (offset to : ℕ) (old : Option AttributeValue) (runs : List Run)
    → (if same_value old new then with_change new (record { from = offset + 1; to = to; old = old }) runs
    else joined offset old (with_change new (record { from = offset + 1; to = to; old = old }) runs))
    ≡ with_change new (record { from = offset; to = to; old = old }) runs
one-more new offset to old runs = go (same_value old new) refl
  where
    go : (t : Bool) → same_value old new ≡ t
        → (if t then with_change new (record { from = offset + 1; to = to; old = old }) runs
        else joined offset old (with_change new (record { from = offset + 1; to = to; old = old }) runs))
        ≡ (if t then runs else with_run (record { from = offset; to = to; old = old }) runs)
    go true e = left_out new (record { from = offset + 1; to = to; old = old }) runs e
    go false e = ap (joined offset old) (put-in new (record { from = offset + 1; to = to; old = old }) runs e) ∙ joined-more offset to old runs

-- items with one value in front of runs
pub onto-node : (key : List ℕ) (new value : Option AttributeValue) (offset to : ℕ) (items : List Item) (runs : List Run) → HaveOne key value items
    → 0 < length items → offset + length items ≡ to
    → runs_onto key new offset items runs ≡ with_change new (record { from = offset; to = to; old = value }) runs
onto-node key new value offset to [] runs one some e = absurd (omega arith)
onto-node key new value offset to (item ∷ []) runs one some e =
    ap (λ v. if same_value v new then runs else joined offset v runs) (sym one.0)
    ∙ ap (λ xs. if same_value value new then runs else xs) (joined-alone offset value runs)
    ∙ ap (λ n. if same_value value new then runs else with_run (record { from = offset; to = n; old = value }) runs) (let at : offset + 1
    ≡ to = omega (arith, e) in at)
onto-node key new value offset to (item ∷ next ∷ items) runs one some e =
    let rest = onto-node key new value (offset + 1) to (next ∷ items) runs one.1 (omega arith) (omega (arith, e)) in
    ap (λ v. if same_value v new then runs_onto key new (offset + 1) (next ∷ items) runs
    else joined offset v (runs_onto key new (offset + 1) (next ∷ items) runs)) (sym one.0)
    ∙ ap (λ xs. if same_value value new then xs else joined offset value xs) rest
    ∙ one-more new offset to value runs

pub onto-none : (key : List ℕ) (new : Option AttributeValue) (offset : ℕ) (items : List Item) → runs_onto key new offset items [] ≡ runs_of key new offset items
onto-none key new offset [] = refl
onto-none key new offset (item ∷ items) =
    ap (λ xs. if same_value (value_of key (attributes_of item)) new then xs else joined offset (value_of key (attributes_of item)) xs)
    (onto-none key new (offset + 1) items)

pub onto-append : (key : List ℕ) (new : Option AttributeValue) (offset : ℕ) (front back : List Item) (runs : List Run)
    → runs_onto key new offset (front ++ back) runs ≡ runs_onto key new offset front (runs_onto key new (offset + length front) back runs)
onto-append key new offset [] back runs = ap (λ n. runs_onto key new n back runs) (let e : offset ≡ offset + 0 = omega arith in e)
onto-append key new offset (item ∷ front) back runs =
    let same : offset + 1 + length front ≡ offset + length (item ∷ front) = omega arith in
    let rest = onto-append key new (offset + 1) front back runs ∙ ap (λ n. runs_onto key new (offset + 1) front (runs_onto key new n back runs)) same in
    ap (λ xs. if same_value (value_of key (attributes_of item)) new then xs else joined offset (value_of key (attributes_of item)) xs) rest

-- a list of nodes in normal form, but for its last node
pub normal-front : (before : List Node) (node : Node) → IsNormal (before ++ node ∷ []) → IsNormal before
normal-front [] node h = tt
normal-front (first ∷ []) node h = (h.0, tt, tt)
normal-front (first ∷ next ∷ before) node h = (h.0, h.1, normal-front (next ∷ before) node h.2)

pub normal-last : (before : List Node) (node : Node) → IsNormal (before ++ node ∷ []) → 0 < length (items_at node)
normal-last [] node h = h.0
normal-last (first ∷ before) node h = normal-last before node h.2

-- what is left of a list of nodes makes the runs of all
pub record IsPartway (key : List ℕ) (new : Option AttributeValue) (start end : ℕ) (rest : List Node) (runs whole : List Run) : Type 0 where
  pub normal : IsNormal rest
  pub ends : end ≡ start + length (items_in rest)
  pub makes : runs_onto key new start (items_in rest) (reverse runs) ≡ whole

pub items-push : (before : List Node) (node : Node) → items_in (before ++ node ∷ []) ≡ items_in before ++ items_at node
items-push before node = flat_map-append items_at before (node ∷ []) ∙ ap (λ xs. items_in before ++ xs) (append-nil (items_at node))

pub partway_none : (key : List ℕ) (new : Option AttributeValue) (start end : ℕ) (nodes : List Node) (items : List Item) → IsNormal nodes
    → items_in nodes ≡ items → end ≡ start + length items
    → IsPartway key new start end nodes [] (runs_of key new start items)
partway_none key new start end nodes items normal same ends = record {
  normal = normal;
  ends = ends ∙ ap (λ xs. start + length xs) (sym same);
  makes = ap (λ xs. runs_onto key new start xs []) same ∙ onto-none key new start items;
}

pub partway_more : (key : List ℕ) (new value : Option AttributeValue) (start end from : ℕ) (rest before : List Node) (node : Node)
    (runs made whole : List Run) → IsPartway key new start end rest runs whole
    → rest ≡ before ++ node ∷ [] → from + length (items_at node) ≡ end → HaveOne key value (items_at node)
    → reverse made ≡ with_change new (record { from = from; to = end; old = value }) (reverse runs)
    → IsPartway key new start from before made whole
partway_more key new value start end from rest before node runs made whole h split length_is one put =
    let normal : IsNormal (before ++ node ∷ []) = subst IsNormal split h.normal in
    let items = ap items_in split ∙ items-push before node in
    let long = ap (λ (xs : List Item). length xs) items ∙ length-append (items_in before) (items_at node) in
    let at : from ≡ start + length (items_in before) = omega (arith, long, length_is, h.ends) in
    record {
      normal = normal-front before node normal;
      ends = at;
      makes =
          ap (runs_onto key new start (items_in before)) (put
          ∙ sym (onto-node key new value from end (items_at node) (reverse runs) one (normal-last before node normal) length_is)
          ∙ ap (λ n. runs_onto key new n (items_at node) (reverse runs)) at)
          ∙ sym (onto-append key new start (items_in before) (items_at node) (reverse runs))
          ∙ ap (λ xs. runs_onto key new start xs (reverse runs)) (sym items)
          ∙ h.makes;
    }

pub node_fits : (key : List ℕ) (new : Option AttributeValue) (start end : ℕ) (rest before : List Node) (node : Node) (runs whole : List Run)
    → IsPartway key new start end rest runs whole → rest ≡ before ++ node ∷ []
    → length (items_at node) ≤ end
node_fits key new start end rest before node runs whole h split =
    let items = ap items_in split ∙ items-push before node in
    let long = ap (λ (xs : List Item). length xs) items ∙ length-append (items_in before) (items_at node) in
    omega (arith, long, h.ends)
