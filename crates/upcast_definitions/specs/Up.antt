-- How a view is read into the model, node by node. (After `UpcastDispatcher.convert()` of CKEditor 5.)
use Rattle.std.specs.Prelude.{ℕ, List, [], ◌∷◌, ◌++◌, Bool, true, false, not, ◌&&◌, length, if◌then◌else◌, codes}
use Rattle.std.specs.List.{fold, filter, list_all}
use Rattle.std.specs.Option.{option_map_or}
use Rattle.std.specs.Char.{is_whitespace}
use Rattle.ck_base.specs.Entries.{with_value}
use Rattle.item_definitions.specs.Item.{Item, Attributes}
use Rattle.view_definitions.specs.Node.{ViewAttributes}
use Rattle.schema_definitions.specs.Allowed.{Rules, check_child, check_attribute, is_inline_object}
use Rattle.upcast_definitions.specs.declared.rule.UpcastRule.{UpcastRule}
use Rattle.upcast_definitions.specs.Form.{Form, Forms, text, element, none, more, forms_of}
use Rattle.upcast_definitions.specs.Frames.{Frame, Reading, unread, ancestors}
use Rattle.upcast_definitions.specs.Places.{Place, paragraph_helps, next_frame, with_paragraph, with_room, cut_for, opened, closed, with_letters}
use Rattle.upcast_definitions.specs.Taking.{Sources, Made, passed, placed, keyed, Taken, taken_by, value_from}
use Rattle.upcast_definitions.specs.Grouping.{group}

-- the attributes that an item may have behind these ancestors
abbrev pub allowed_there : Rules → List (List ℕ) → List ℕ → Attributes → Attributes
allowed_there rules names item attributes = filter (λ entry. check_attribute rules names item entry.0) attributes

-- these attributes with others set over them
abbrev pub overlaid : Attributes → Attributes → Attributes
overlaid over under = fold (λ made entry. with_value entry.0 entry.1 made) under over

-- the values that sources give, set over these attributes; a source without a value sets nothing
abbrev pub set_over : ViewAttributes → Sources → Attributes → Attributes
set_over attributes set under =
    fold (λ made entry. option_map_or (λ value. with_value entry.0 value made) (value_from attributes entry.1) made) under set

-- the attributes of an element that is made behind these ancestors: those that are set, then those that rules for attributes add; an object in the text has
-- under them the given ones, of the keys around it
unfoldable pub made_attributes : Rules → List (List ℕ) → Attributes → ViewAttributes → Attributes → List ℕ → Sources → Attributes
made_attributes rules names given attributes added name set =
    let own = set_over attributes set added in
    allowed_there rules names name (if is_inline_object rules name then overlaid own given else own)

-- whether a text is more than white space
abbrev pub has_ink : List ℕ → Bool
has_ink scalars = not (list_all is_whitespace scalars)

-- characters at the cursor, with those of the given attributes that text may have there
abbrev pub written : Rules → Attributes → List ℕ → Reading → Reading
written rules given scalars reading = with_letters (allowed_there rules (ancestors reading.frames) (codes "$text") given) scalars reading

-- a text goes to the cursor, or into a paragraph that is added, or is dropped
unfoldable pub with_text : Rules → Attributes → List ℕ → Reading → Reading
with_text rules given scalars reading =
    if check_child rules (ancestors reading.frames) (codes "$text") then written rules given scalars reading
    else (if has_ink scalars && paragraph_helps rules (ancestors reading.frames) (codes "$text")
    then written rules given scalars (with_paragraph reading) else reading)

-- an element is placed where room was made, with its mark
abbrev pub begun : Rules → Attributes → ViewAttributes → Attributes → List ℕ → Sources → Reading → Reading
begun rules given attributes added name set reading =
    opened (next_frame name (made_attributes rules (ancestors reading.frames) given attributes added name set) reading) reading

-- before what is in an element of the view
abbrev pub entered : Rules → Attributes → ViewAttributes → Attributes → Made → Reading → Reading
entered rules given attributes added passed reading = reading
entered rules given attributes added (placed place name set) reading = begun rules given attributes added name set (with_room place reading)
entered rules given attributes added (keyed key value) reading = reading

-- the given attributes in an element of the view: the inner key wins over the outer
abbrev pub given_in : Made → Attributes → Attributes
given_in passed given = given
given_in (placed place name set) given = given
given_in (keyed key value) given = with_value key value given

-- behind what is in an element of the view, which was reached in the one state of reading
abbrev pub left_behind : Made → Reading → Reading → Reading
left_behind passed before reading = reading
left_behind (placed place name set) before reading = closed (length (with_room place before).frames) (cut_for place before.frames) reading
left_behind (keyed key value) before reading = reading

abbrev mutual
  -- a node is read
  pub read_node : Rules → List UpcastRule → Attributes → Form → Reading → Reading
  read_node rules upcast given (text scalars) reading = with_text rules given scalars reading
  read_node rules upcast given (element name attributes children) reading =
      let taken = taken_by rules upcast (ancestors reading.frames) name attributes in
      left_behind taken.made reading
      (read_nodes rules upcast (given_in taken.made given) children (entered rules given attributes taken.added taken.made reading))

  -- nodes are read one after the other
  pub read_nodes : Rules → List UpcastRule → Attributes → Forms → Reading → Reading
  read_nodes rules upcast given none reading = reading
  read_nodes rules upcast given (more form forms) reading = read_nodes rules upcast given forms (read_node rules upcast given form reading)

-- a whole view is read
abbrev pub reading_of : Rules → List UpcastRule → List Form → Reading
reading_of rules upcast view = read_nodes rules upcast [] (forms_of view) unread

-- the items that a view is in the model
abbrev pub up : Rules → List UpcastRule → List Form → List Item
up rules upcast view = group (reading_of rules upcast view).leaves
