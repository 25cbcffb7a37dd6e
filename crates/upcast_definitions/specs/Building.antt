-- The same as by leaves and frames, but that the items are built while the view is read: at each moment there are the elements that are open, each with
-- what is in it so far. (After `UpcastDispatcher`, which splits the elements of the model as it goes.)
use Rattle.std.specs.Prelude.{ℕ, zero, suc, ◌+◌, List, [], ◌∷◌, ◌++◌, map, take, drop, length, Bool, true, false, ◌&&◌, if◌then◌else◌, codes}
use Rattle.item_definitions.specs.Item.{Item, Attributes, character, element, items_of}
use Rattle.view_definitions.specs.Node.{ViewAttributes}
use Rattle.schema_definitions.specs.Allowed.{Rules, check_child}
use Rattle.upcast_definitions.specs.declared.rule.UpcastRule.{UpcastRule}
use Rattle.upcast_definitions.specs.Form.{Form, Forms, text, element as view_element, none, more, forms_of}
use Rattle.upcast_definitions.specs.Places.{Place, staying, in_paragraph, paragraph, paragraph_helps}
use Rattle.upcast_definitions.specs.Taking.{Sources, Made, passed, placed, keyed, Taken, taken_by}
use Rattle.upcast_definitions.specs.Up.{allowed_there, made_attributes, has_ink, given_in}

-- an element that is open, with what is in it so far; whether it stands also where nothing is in it
pub record Level : Type 0 where
  pub name : List ℕ
  pub attributes : Attributes
  pub stands : Bool
  pub items : List Item

-- an element that is opened
abbrev pub level_of : List ℕ → Attributes → Bool → Level
level_of name attributes stands = record { name = name; attributes = attributes; stands = stands; items = [] }

-- the root, before anything is read
abbrev pub ground : List Level
ground = level_of (codes "$root") [] true ∷ []

-- the names of the ancestors at the cursor
abbrev pub names_at : List Level → List (List ℕ)
names_at levels = map (λ level. level.name) levels

-- the element that a level is with these items, if it stands
abbrev pub standing_with : Level → List Item → List Item
standing_with level [] = if level.stands then element 0 level.name level.attributes (items_of []) ∷ [] else []
standing_with level (item ∷ items) = element 0 level.name level.attributes (items_of (item ∷ items)) ∷ []

-- what levels are that end, each in the one before it
abbrev pub folded : List Level → List Item
folded [] = []
folded (level ∷ levels) = standing_with level (level.items ++ folded levels)

-- items more in the innermost level
abbrev pub with_last : List Item → List Level → List Level
with_last items [] = []
with_last items (level ∷ []) = record level { items = level.items ++ items } ∷ []
with_last items (level ∷ next ∷ levels) = level ∷ with_last items (next ∷ levels)

-- so many levels stay, and the others end
abbrev pub ended : ℕ → List Level → List Level
ended count levels = with_last (folded (drop count levels)) (take count levels)

-- a level that stands only where something is in it
abbrev pub weak : Level → Level
weak level = record level { stands = false }

-- the levels behind so many stand only where something is in them
abbrev pub weakened : ℕ → List Level → List Level
weakened zero levels = map weak levels
weakened (suc count) [] = []
weakened (suc count) (level ∷ levels) = level ∷ weakened count levels

-- so many levels stay, and the others are cut
abbrev pub cut : ℕ → List Level → List Level
cut count levels = ended count (weakened count levels)

-- room is made at a place
abbrev pub room_at : Place → List Level → List Level
room_at (staying count) levels = cut (count + 1) levels
room_at in_paragraph levels = levels ++ level_of paragraph [] false ∷ []

-- the level of a part of one that is cut
abbrev pub part_of : Level → Level
part_of level = level_of level.name level.attributes false

-- what stands again of the levels that are cut for a place
abbrev pub parts_of : Place → List Level → List Level
parts_of (staying count) levels = map part_of (drop (count + 1) levels)
parts_of in_paragraph levels = []

-- characters at the cursor, with those of the given attributes that text may have there
abbrev pub with_characters : Rules → Attributes → List ℕ → List Level → List Level
with_characters rules given scalars levels =
    with_last (map (λ scalar. character scalar (allowed_there rules (names_at levels) (codes "$text") given)) scalars) levels

-- a text goes to the cursor, or into a paragraph that is added, or is dropped
unfoldable pub text_in : Rules → Attributes → List ℕ → List Level → List Level
text_in rules given scalars levels =
    if check_child rules (names_at levels) (codes "$text") then with_characters rules given scalars levels
    else (if has_ink scalars && paragraph_helps rules (names_at levels) (codes "$text")
    then with_characters rules given scalars (levels ++ level_of paragraph [] false ∷ []) else levels)

-- an element is opened where room was made
abbrev pub with_element : Rules → Attributes → ViewAttributes → Attributes → List ℕ → Sources → List Level → List Level
with_element rules given attributes added name set levels =
    levels ++ level_of name (made_attributes rules (names_at levels) given attributes added name set) true ∷ []

-- before what is in an element of the view
abbrev pub going_in : Rules → Attributes → ViewAttributes → Attributes → Made → List Level → List Level
going_in rules given attributes added passed levels = levels
going_in rules given attributes added (placed place name set) levels = with_element rules given attributes added name set (room_at place levels)
going_in rules given attributes added (keyed key value) levels = levels

-- behind what is in an element of the view, which was reached at the one levels
abbrev pub coming_out : Made → List Level → List Level → List Level
coming_out passed before levels = levels
coming_out (placed place name set) before levels = ended (length (room_at place before)) levels ++ parts_of place before
coming_out (keyed key value) before levels = levels

abbrev mutual
  -- a node is built
  pub build_node : Rules → List UpcastRule → Attributes → Form → List Level → List Level
  build_node rules upcast given (text scalars) levels = text_in rules given scalars levels
  build_node rules upcast given (view_element name attributes children) levels =
      let taken = taken_by rules upcast (names_at levels) name attributes in
      coming_out taken.made levels
      (build_nodes rules upcast (given_in taken.made given) children (going_in rules given attributes taken.added taken.made levels))

  -- nodes are built one after the other
  pub build_nodes : Rules → List UpcastRule → Attributes → Forms → List Level → List Level
  build_nodes rules upcast given none levels = levels
  build_nodes rules upcast given (more form forms) levels = build_nodes rules upcast given forms (build_node rules upcast given form levels)

-- what is in the first level
abbrev pub items_at_first : List Level → List Item
items_at_first [] = []
items_at_first (level ∷ levels) = level.items

-- the items that are built of a view: all levels in the root end
abbrev pub built : Rules → List UpcastRule → List Form → List Item
built rules upcast view = items_at_first (ended 1 (build_nodes rules upcast [] (forms_of view) ground))
