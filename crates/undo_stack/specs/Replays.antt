-- What taking records back, and making them anew, does to a document.
use Rattle.std.specs.Prelude.{◌+◌, ◌≤◌, List, length, reverse}
use Rattle.model_doc.specs.Held.{Held, Moment, present}
use Rattle.model_doc.specs.Records.{Done, done_on}
use Rattle.undo_stack.specs.Chains.{IsFrom, LedBack, LedOn}
use Rattle.undo_stack.specs.Kept.{IsLike}

-- the records, the last first, lead back from a document to some moment
abbrev pub HasBack : List Done → Held → Type 0
HasBack records held = (start : Moment) × LedBack start records (present held)

-- wherever the records lead back to, the document is that again, but for the selection and for cells that are empty; and no cell went
pub record ComesBack (records : List Done) (old new : Held) : Type 0 where
  pub from : (start : Moment) → LedBack start records (present old) → IsFrom start (present new)
  pub cells : length old.state.cells ≤ length new.state.cells

-- the records lead on from one moment to another one, and the document is as it was at the first, but for the selection and for cells that
-- are empty; it has no fewer cells than there were at the last
pub record IsAt (start last : Moment) (records : List Done) (held : Held) : Type 0 where
  pub led : LedOn start records last
  pub like : IsLike start (present held)
  pub cells : length last.state.cells ≤ length held.state.cells

-- the records lead on from the document to some moment
abbrev pub HasOn : List Done → Held → Type 0
HasOn records held = (start : Moment) × (last : Moment) × IsAt start last records held

-- the record of an operation that was made anew
abbrev pub done_again : Done → Held → Held → Done
done_again done old new = done_on old.state done.operation new.state (old.mark + 1)

-- wherever the records lead on to, the document is that but for the selection and for cells that are empty; and the new records lead back
-- from it to the document that it was
pub record ComesOn (records new_records : List Done) (old new : Held) : Type 0 where
  pub to : (start last : Moment) → IsAt start last records old → IsFrom last (present new)
  pub back : LedBack (present old) (reverse new_records) (present new)
