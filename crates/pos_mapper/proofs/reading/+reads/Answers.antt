use Rattle.std.proofs.Common.{◌++◌, ap, sym, ◌∙◌, option_map, List, ℕ, length}
use Rattle.pos_mapper.specs.Reading.{slots_in}
use Rattle.pos_mapper.proofs.Nodes.{no_way}
use Rattle.pos_mapper.proofs.reading.+reads.Goals as goal

pub read_slot-returns-in-None-clause-position : goal.read_slot-returns-in-None-clause-position
read_slot-returns-in-None-clause-position t c =
    c.read_nodes.ensures.position
    ∙ ap (option_map (λ (position : List ℕ). c.args.made ++ position))
    (sym (no_way (slots_in c.args.reader.now.table.now) (length c.args.made) c.args.way.now.steps.now c.args.way.now.behind 0 c.args.nodes.now
    c.args.path.now c.args.reader.now.last
    c.in-None.ensures.cases))
