-- What the program has, as the definitions have it.
use Rattle.std.specs.Prelude.{Option, option_map}
use Rattle.view_definitions.specs.Row.{join}
use Rattle.downcast_definitions.specs.Scene as scene
use Rattle.down_whole.specs.declared.caret.Caret.{Caret}
use Rattle.down_whole.specs.declared.row.RowWriter.{RowWriter}
use Rattle.pos_mapper.specs.Bindings.{Slot}
use Rattle.down_whole.specs.declared.maker.Way.{Way}
use Rattle.down_whole.specs.Written.{Written, run_in}

-- a caret, as the definitions have it
abbrev pub caret_view : Caret → scene.Caret
caret_view here = record { at = here.at; layers = here.layers.items }

-- the caret, if there is one
abbrev pub caret_as : Option Caret → Option scene.Caret
caret_as caret = option_map caret_view caret

-- what is written, with the characters that are still to be put into the nodes
abbrev pub written : RowWriter → Written
written writer =
    record { front = option_map (λ list. list.nodes) writer.front; nodes = join writer.nodes.nodes (run_in writer.layers.items writer.text.items) }

-- the slot that a way leads to, if there is one
abbrev pub way_as : Option Way → Option Slot
way_as way = option_map (λ found. record { place = found.place.items; behind = found.behind }) way
