-- Where an element or a text of the view is placed. (After `UpcastConversionApi.splitToAllowedParent()` and the auto-paragraphing of CKEditor 5.)
use Rattle.std.specs.Prelude.{ℕ, ◌+◌, ◌-◌, List, [], ◌∷◌, ◌++◌, map, take, drop, length, Bool, ◌&&◌, Option, Some, None, option_map, if◌then◌else◌, codes}
use Rattle.std.specs.Option.{option_or}
use Rattle.item_definitions.specs.Item.{Attributes}
use Rattle.schema_definitions.specs.Allowed.{Rules, is_registered, check_child, allowed_parent}
use Rattle.upcast_definitions.specs.Frames.{Frame, Content, letter, mark, Leaf, Reading, struck}

-- so many of the open frames stay, and those in them are cut; or a paragraph is added in the innermost
pub data Place : Type 0 where
  staying : ℕ → Place
  in_paragraph : Place

-- what holds a text where none may stand
abbrev pub paragraph : List ℕ
paragraph = codes "paragraph"

-- whether an item may stand in a paragraph that is added behind these ancestors, which are given from the root on
abbrev pub paragraph_helps : Rules → List (List ℕ) → List ℕ → Bool
paragraph_helps rules names item =
    is_registered rules paragraph && (check_child rules names paragraph && check_child rules (names ++ paragraph ∷ []) item)

-- where an element may be placed: in the innermost ancestor that allows it, the root among them; or else in a paragraph that is added
unfoldable pub place_of : Rules → List (List ℕ) → List ℕ → Option Place
place_of rules names item = option_or (option_map (λ count. staying (count - 1)) (allowed_parent rules names item))
    (if paragraph_helps rules names item then Some in_paragraph else None)

-- a frame with these, as the next that is made
abbrev pub next_frame : List ℕ → Attributes → Reading → Frame
next_frame name attributes reading = record { number = length reading.made; name = name; attributes = attributes }

-- a frame more that is open at the cursor
abbrev pub with_frame : Frame → Reading → Reading
with_frame frame reading = record reading { frames = reading.frames ++ frame ∷ []; made = reading.made ++ frame ∷ [] }

-- a paragraph is added at the cursor; it has no mark
abbrev pub with_paragraph : Reading → Reading
with_paragraph reading = with_frame (next_frame paragraph [] reading) reading

-- room is made at a place: frames are cut, and their marks struck out, or a paragraph is added
abbrev pub with_room : Place → Reading → Reading
with_room (staying count) reading =
    record reading { frames = take count reading.frames; leaves = struck (drop count reading.frames) reading.leaves }
with_room in_paragraph reading = with_paragraph reading

-- the frames that are cut for a place
abbrev pub cut_for : Place → List Frame → List Frame
cut_for (staying count) frames = drop count frames
cut_for in_paragraph frames = []

-- the frame of an element is opened at the cursor, with its mark
abbrev pub opened : Frame → Reading → Reading
opened frame reading = record (with_frame frame reading) {
  leaves = reading.leaves ++ record { content = mark frame.number; frames = reading.frames ++ frame ∷ [] } ∷ [];
}

-- parts of frames that were cut: the same names and attributes, with numbers from this one on
abbrev pub parts_from : ℕ → List Frame → List Frame
parts_from number [] = []
parts_from number (frame ∷ frames) = record frame { number = number } ∷ parts_from (number + 1) frames

-- an element ends of which so many open frames are around: it goes with all in it, and the frames that were cut for it stand again as parts
abbrev pub closed : ℕ → List Frame → Reading → Reading
closed around cut reading =
    let parts = parts_from (length reading.made) cut in
    record reading { frames = take around reading.frames ++ parts; made = reading.made ++ parts }

-- characters at the cursor, with these attributes
abbrev pub with_letters : Attributes → List ℕ → Reading → Reading
with_letters attributes scalars reading =
    record reading { leaves = reading.leaves ++ map (λ scalar. record { content = letter scalar attributes; frames = reading.frames }) scalars }
