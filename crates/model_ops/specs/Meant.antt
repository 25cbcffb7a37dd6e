-- The code's operations as those of the definitions.
use Rattle.operation_definitions.specs.Operation as meant
use Rattle.operation_definitions.specs.Operation.{in_tree, in_cell, fresh, from_cell, insert, move, attribute, rename, split, merge, marker}
use Rattle.model_ops.specs.declared.operation.Place.{Place}
use Rattle.model_ops.specs.declared.operation.Place.TheVariants as place
use Rattle.model_ops.specs.declared.operation.Source.{Source}
use Rattle.model_ops.specs.declared.operation.Source.TheVariants as source
use Rattle.model_ops.specs.declared.operation.Operation.{Operation}
use Rattle.model_ops.specs.declared.operation.Operation.TheVariants.{Insert, Move, Attribute, Rename, Split, Merge, Marker}

-- the code's place as that of the definitions
abbrev pub place_of : Place → meant.Place
place_of (place.Tree position) = in_tree position
place_of (place.Cell number) = in_cell number

-- the code's source of a second element as that of the definitions
abbrev pub source_of : Source → meant.Source
source_of (source.Fresh id) = fresh id
source_of (source.Cell number) = from_cell number

-- the code's operation as that of the definitions
abbrev pub operation_of : Operation → meant.Operation
operation_of (Insert at items) = insert at items
operation_of (Move from count to) = move (place_of from) count (place_of to)
operation_of (Attribute range key old new) = attribute range key old new
operation_of (Rename path old new) = rename path old new
operation_of (Split at source) = split at (source_of source)
operation_of (Merge right target cell) = merge right target cell
operation_of (Marker name old new) = marker name old new
