-- What an operation does to the items and the cells: its premises in order, each with its refusal, and its effect.
use Rattle.std.specs.Prelude.{ℕ, ◌-◌, List, [], ◌∷◌, ◌++◌, length, get_or, set, find, nat_eq, Bool, true, false, not, ◌&&◌, nat_lt, nat_le, ◌==◌, if◌then◌else◌}
use Rattle.std.specs.Prelude.{Option, Some, None, ok_or, Result, Ok, Err}
use Rattle.std.specs.Cmp.Lexicographic.{pointwise}
use Rattle.std.specs.Ordering.{int_eq}
use Rattle.ck_base.specs.declared.value.Value.{Value as AttributeValue}
use Rattle.ck_base.specs.declared.value.Value.TheVariants.{Whole, Truth, Text}
use Rattle.ck_base.specs.Entries.{value_of}
use Rattle.item_definitions.specs.Item.{Item, character, element, none, attributes_of, count_of, depth_of}
use Rattle.item_definitions.specs.Children.{parent_of, offset_of, at}
use Rattle.item_definitions.specs.Position.{not_after}
use Rattle.item_definitions.specs.Shift.{carry_remove, forward}
use Rattle.operation_definitions.specs.Level.{put_in, take_out, give, rename_at, split_at, merge_at}
use Rattle.operation_definitions.specs.Operation.{in_tree, in_cell, fresh, from_cell, Operation, insert, move, attribute, rename, split, merge, marker}
use Rattle.operation_definitions.specs.Operation.{found_value, found_name, Fault, no_place, not_flat, into_itself, old_differs, not_neighbours, cell_state}
use Rattle.operation_definitions.specs.Operation.{too_large, too_deep}

-- the most items under the root, at all depths
abbrev pub most_items : ℕ
most_items = 1000000

-- the most levels of items, one in another
abbrev pub most_levels : ℕ
most_levels = 64

infixl 10 ◌>>=◌
-- a step that may be refused, and what follows with its answer
abbrev pub ◌>>=◌ : {A B : Type 0} → Result A Fault → (A → Result B Fault) → Result B Fault
Ok x >>= next = next x
Err fault >>= next = Err fault

-- a premise, with its refusal
abbrev pub check : Bool → Fault → Result (Unit {0}) Fault
check true fault = Ok tt
check false fault = Err fault

-- what is in a cell: nothing in one that isn't there
abbrev pub in_cell_at : List (List Item) → ℕ → List Item
in_cell_at cells number = get_or cells number []

-- a list has nothing in it
abbrev pub is_empty : {A : Type 0} → List A → Bool
is_empty [] = true
is_empty (x ∷ xs) = false

-- the cell is empty, or it is the next new one
abbrev pub is_free : List (List Item) → ℕ → Bool
is_free cells number = nat_le number (length cells) && is_empty (in_cell_at cells number)

-- the cells with these items in one, which may be the next new one
abbrev pub fill : List (List Item) → ℕ → List Item → List (List Item)
fill cells number items = if nat_lt number (length cells) then set cells number items else cells ++ items ∷ []

-- the cell is there and holds so many items
abbrev pub holds_count : List (List Item) → ℕ → ℕ → Bool
holds_count cells number count = nat_lt number (length cells) && length (in_cell_at cells number) == count

-- the one element without children that a list of items is
abbrev pub shell_of : List Item → Option Item
shell_of [] = None
shell_of (character scalar attributes ∷ []) = None
shell_of (element id name attributes none ∷ []) = Some (element id name attributes none)
shell_of (element id name attributes children ∷ []) = None
shell_of (item ∷ next ∷ rest) = None

-- an element like another, with this id and without children
abbrev pub like : ℕ → Item → Item
like id (character scalar attributes) = character scalar attributes
like id (element old name attributes children) = element id name attributes none

-- there is room for items at a position: its parent is there, and its offset is at most the number of items there
abbrev pub room_at : List Item → List ℕ → Option (List Item × Unit {0})
room_at items position = at (parent_of position) (put_in (offset_of position) []) items

-- the position is in the run of `count` items behind another one, or at an end of the run
abbrev pub is_in_run : List ℕ → ℕ → List ℕ → Bool
is_in_run from count position = not_after from position && not_after position (forward count from)

-- the two values are one
abbrev pub same_value : Option AttributeValue → Option AttributeValue → Bool
same_value None None = true
same_value (Some (Whole number)) (Some (Whole other)) = int_eq number other
same_value (Some (Truth true)) (Some (Truth other)) = other
same_value (Some (Truth false)) (Some (Truth other)) = not other
same_value (Some (Text text)) (Some (Text other)) = pointwise nat_eq text other
same_value value other = false

-- the first of the items whose value of a key is another one
abbrev pub first_other : List ℕ → Option AttributeValue → List Item → Option Item
first_other key old items = find (λ item. not (same_value (value_of key (attributes_of item)) old)) items

-- there is no item with another value of the key
abbrev pub no_other : List ℕ → Option Item → Result (Unit {0}) Fault
no_other key None = Ok tt
no_other key (Some item) = Err (old_differs (found_value (value_of key (attributes_of item))))

-- each of the items has this value of a key
abbrev pub have_value : List ℕ → Option AttributeValue → List Item → Result (Unit {0}) Fault
have_value key old items = no_other key (first_other key old items)

-- the effect, where the premises hold, but for the limits on the tree
abbrev pub effect : List Item → List (List Item) → Operation → Result (List Item × List (List Item)) Fault
effect items cells (insert position new) = do
  made ← ok_or (at (parent_of position) (put_in (offset_of position) new) items) no_place
  Ok (made.0, cells)
effect items cells (move (in_tree from) count (in_tree to)) = do
  taken ← ok_or (at (parent_of from) (take_out (offset_of from) count) items) no_place
  there ← ok_or (room_at items to) no_place
  outside ← check (not (is_in_run from count to)) into_itself
  let target = carry_remove from count to
  made ← ok_or (at (parent_of target) (put_in (offset_of target) taken.1) taken.0) no_place
  Ok (made.0, cells)
effect items cells (move (in_tree from) count (in_cell number)) = do
  taken ← ok_or (at (parent_of from) (take_out (offset_of from) count) items) no_place
  free ← check (is_free cells number) (cell_state number)
  Ok (taken.0, fill cells number taken.1)
effect items cells (move (in_cell number) count (in_tree to)) = do
  full ← check (holds_count cells number count) (cell_state number)
  made ← ok_or (at (parent_of to) (put_in (offset_of to) (in_cell_at cells number)) items) no_place
  Ok (made.0, set cells number [])
effect items cells (move (in_cell number) count (in_cell other)) = Err no_place
effect items cells (attribute range key old new) = do
  flat ← check (pointwise nat_eq (parent_of range.start) (parent_of range.end)) not_flat
  made ← ok_or (at (parent_of range.start) (give (offset_of range.start) (offset_of range.end - offset_of range.start) key new) items) no_place
  same ← have_value key old made.1
  Ok (made.0, cells)
effect items cells (rename path old new) = do
  inside ← check (nat_le 1 (length path)) no_place
  made ← ok_or (at (parent_of path) (rename_at (offset_of path) new) items) no_place
  same ← check (pointwise nat_eq made.1 old) (old_differs (found_name made.1))
  Ok (made.0, cells)
effect items cells (split position (fresh id)) = do
  inside ← check (nat_le 2 (length position)) no_place
  made ← ok_or (at (parent_of (parent_of position)) (split_at (offset_of (parent_of position)) (offset_of position) (like id)) items) no_place
  Ok (made.0, cells)
effect items cells (split position (from_cell number)) = do
  inside ← check (nat_le 2 (length position)) no_place
  there ← ok_or (room_at items position) no_place
  shell ← ok_or (shell_of (in_cell_at cells number)) (cell_state number)
  made ← ok_or (at (parent_of (parent_of position)) (split_at (offset_of (parent_of position)) (offset_of position) (λ _. shell)) items) no_place
  Ok (made.0, set cells number [])
effect items cells (merge right target number) = do
  second ← check (nat_lt 0 (offset_of right)) not_neighbours
  made ← ok_or (at (parent_of right) (merge_at (offset_of right)) items) not_neighbours
  end ← check (pointwise nat_eq target (parent_of right ++ (offset_of right - 1) ∷ made.1.1 ∷ [])) not_neighbours
  free ← check (is_free cells number) (cell_state number)
  Ok (made.0, fill cells number (made.1.0 ∷ []))
effect items cells (marker name old new) = Ok (items, cells)

-- the tree keeps to the limits
abbrev pub limited : List Item × List (List Item) → Result (List Item × List (List Item)) Fault
limited made = do
  few ← check (nat_le (count_of made.0) most_items) (too_large (count_of made.0))
  flat ← check (nat_le (depth_of made.0) most_levels) (too_deep (depth_of made.0))
  Ok made

-- the items and cells after an operation, or its refusal: that of the first premise that fails
abbrev pub after : List Item → List (List Item) → Operation → Result (List Item × List (List Item)) Fault
after items cells operation = effect items cells operation >>= limited
