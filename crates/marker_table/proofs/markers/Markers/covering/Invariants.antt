use Rattle.std.proofs.Common.{◌≡◌, ◌++◌}
use Rattle.document_definitions.specs.Markers.{covering}
use Rattle.marker_table.proofs.markers.Markers.covering.Given as goal

abbrev pub invariant-loop-name : goal.invariant-loop-name
invariant-loop-name l = (l.names.items ++ covering l.fn.path l.name-iterator ≡ covering l.fn.path l.fn.self)
