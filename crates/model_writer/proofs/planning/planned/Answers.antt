use Rattle.schema_definitions.specs.Allowed.{is_registered}
use Rattle.model_writer.proofs.planning.planned.Goals as goal

pub returns-in-InsertText : goal.returns-in-InsertText
returns-in-InsertText c = rw c.in-InsertText.is (c.insert_text.ensures (is_registered c.args.schema.now))

pub returns-in-Remove : goal.returns-in-Remove
returns-in-Remove c = rw c.in-Remove.is (c.remove.ensures (is_registered c.args.schema.now))

pub returns-in-Move : goal.returns-in-Move
returns-in-Move c = rw c.in-Move.is (c.move_range.ensures (is_registered c.args.schema.now))

pub returns-in-Split : goal.returns-in-Split
returns-in-Split c = rw c.in-Split.is (c.split.ensures (is_registered c.args.schema.now))

pub returns-in-Merge : goal.returns-in-Merge
returns-in-Merge c = rw c.in-Merge.is (c.merge.ensures (is_registered c.args.schema.now))

pub returns-in-Unwrap : goal.returns-in-Unwrap
returns-in-Unwrap c = rw c.in-Unwrap.is (c.unwrap.ensures (is_registered c.args.schema.now))

pub returns-in-AddMarker : goal.returns-in-AddMarker
returns-in-AddMarker c = rw c.in-AddMarker.is (c.add_marker.ensures (is_registered c.args.schema.now))

pub returns-in-UpdateMarker : goal.returns-in-UpdateMarker
returns-in-UpdateMarker c = rw c.in-UpdateMarker.is (c.update_marker.ensures (is_registered c.args.schema.now))

pub returns-in-RemoveMarker : goal.returns-in-RemoveMarker
returns-in-RemoveMarker c = rw c.in-RemoveMarker.is (c.remove_marker.ensures (is_registered c.args.schema.now))

pub returns-in-InsertItems : goal.returns-in-InsertItems
returns-in-InsertItems c = rw c.in-InsertItems.is c.insert_items.ensures
