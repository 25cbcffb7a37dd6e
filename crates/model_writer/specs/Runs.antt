-- Runs of items, put together from the end on.
use Rattle.std.specs.Prelude.{ℕ, ◌+◌, List, [], ◌∷◌, ◌&&◌, ◌==◌, if◌then◌else◌, Option}
use Rattle.ck_base.specs.declared.value.Value.{Value as AttributeValue}
use Rattle.ck_base.specs.Entries.{value_of}
use Rattle.item_definitions.specs.Item.{Item, attributes_of}
use Rattle.operation_definitions.specs.After.{same_value}
use Rattle.edit_definitions.specs.Runs.{Run, joined}

-- a run in front of others: it is one with the first of them if that begins where it ends and has the same value
abbrev pub with_run : Run → List Run → List Run
with_run run [] = run ∷ []
with_run run (next ∷ runs) =
    if next.from == run.to && same_value next.old run.old then record { from = run.from; to = next.to; old = run.old } ∷ runs
    else run ∷ next ∷ runs

-- a run in front of others, but nothing where it has the new value
abbrev pub with_change : Option AttributeValue → Run → List Run → List Run
with_change new run runs = if same_value run.old new then runs else with_run run runs

-- the runs of items that begin at an offset, in front of those of what is behind them
abbrev pub runs_onto : List ℕ → Option AttributeValue → ℕ → List Item → List Run → List Run
runs_onto key new offset [] runs = runs
runs_onto key new offset (item ∷ items) runs =
    let old = value_of key (attributes_of item) in
    let rest = runs_onto key new (offset + 1) items runs in
    if same_value old new then rest else joined offset old rest
