-- How positions and ranges are carried when the tree changes: to which place each goes. (After `Position.getTransformedByOperation`
-- and `Range.getTransformedByOperation` of CKEditor 5's model.)
use Rattle.std.specs.Prelude.{◌≡◌, ℕ, ◌+◌, ◌-◌, ◌<◌, ◌≤◌, ◌^◌, List, [], ◌∷◌, ◌++◌, length, Bool, true, false, ◌&&◌, ◌||◌, nat_lt, nat_le, ◌==◌, if◌then◌else◌}
use Rattle.std.specs.Prelude.{All, Option, Some, None, unwrap_or}
use Rattle.std.specs.Option.{option_map_or}
use Rattle.item_definitions.specs.Children.{parent_of, offset_of}
use Rattle.item_definitions.specs.Position.{Range, between, path_before, not_after, is_before}

-- where a position goes that has content put in at it: to the next item, so behind that content, or to the previous one
pub data Stick : Type 0 where
  to_next : Stick
  to_previous : Stick

-- How a tree changes: not at all; `count` items are put in at a position, taken out behind a position, or moved to a position; an
-- element is split at a position in it; an element is merged into the one before it, whose end is the target.
pub data Shift : Type 0 where
  stay : Shift
  insert : List ℕ → ℕ → Shift
  remove : List ℕ → ℕ → Shift
  move : List ℕ → ℕ → List ℕ → Shift
  split : List ℕ → Shift
  merge : List ℕ → List ℕ → Shift

-- the stick is to the next item
abbrev pub is_to_next : Stick → Bool
is_to_next to_next = true
is_to_next to_previous = false

-- what is left of a position behind the path of a parent: None where the position is neither in nor below that parent
abbrev pub rest_behind : List ℕ → List ℕ → Option (List ℕ)
rest_behind [] position = Some position
rest_behind (step ∷ parent) [] = None
rest_behind (step ∷ parent) (index ∷ path) = if step == index then rest_behind parent path else None

-- a position in or below a parent with what is behind the parent's path changed; any other position stays
abbrev pub within : List ℕ → (List ℕ → List ℕ) → List ℕ → List ℕ
within parent rule position = option_map_or (λ rest. parent ++ rule rest) (rest_behind parent position) position

-- Each of the rules below is given a position as its parent sees it: a number alone is an offset in the parent; with a path behind it
-- it is the index of an item that the position passes through.

-- Content at an offset comes before a position: where the position stands at a greater offset, or at the same one with the stick to the
-- next item, and where it passes through an item that stands there or behind.
abbrev pub comes_before : ℕ → Stick → ℕ → List ℕ → Bool
comes_before at stick offset [] = nat_lt at offset || (at == offset && is_to_next stick)
comes_before at stick index (next ∷ path) = nat_le at index

-- `count` items come in at an offset
abbrev pub rule_insert : ℕ → ℕ → Stick → List ℕ → List ℕ
rule_insert at count stick [] = []
rule_insert at count stick (number ∷ path) = (if comes_before at stick number path then number + count else number) ∷ path

-- `count` items behind an offset go. Positions between and in them go to that offset.
abbrev pub rule_remove : ℕ → ℕ → List ℕ → List ℕ
rule_remove at count [] = []
rule_remove at count (number ∷ path) =
    if nat_le (at + count) number then (number - count) ∷ path else (if nat_le at number then at ∷ [] else number ∷ path)

-- a position in the element at an index, which is split at an offset: what is behind the offset is then in the next element
abbrev pub rule_cut : ℕ → ℕ → Stick → List ℕ → List ℕ
rule_cut element at stick [] = element ∷ []
rule_cut element at stick (number ∷ path) =
    if comes_before at stick number path then (element + 1) ∷ (number - at) ∷ path else element ∷ number ∷ path

-- the element at an index is split at an offset in it, and all that is behind the element moves on by one
abbrev pub rule_split : ℕ → ℕ → Stick → List ℕ → List ℕ
rule_split element at stick [] = []
rule_split element at stick (number ∷ path) =
    if number == element then rule_cut element at stick path else (if nat_lt element number then number + 1 else number) ∷ path

-- a position in an element whose items go behind `count` others; the position before the element goes to where they meet
abbrev pub rule_join : ℕ → List ℕ → List ℕ
rule_join count [] = count ∷ []
rule_join count (number ∷ path) = (count + number) ∷ path

-- the element at an index is merged into the one before it, which has `count` items, and all that is behind moves back by one
abbrev pub rule_merge : ℕ → ℕ → List ℕ → List ℕ
rule_merge right count [] = []
rule_merge right count (number ∷ path) =
    if number == right then (right - 1) ∷ rule_join count path else (if nat_lt right number then number - 1 else number) ∷ path

-- a position after `count` items came in at another one
abbrev pub carry_insert : List ℕ → ℕ → Stick → List ℕ → List ℕ
carry_insert at count stick position = within (parent_of at) (rule_insert (offset_of at) count stick) position

-- a position after `count` items behind another one went
abbrev pub carry_remove : List ℕ → ℕ → List ℕ → List ℕ
carry_remove at count position = within (parent_of at) (rule_remove (offset_of at) count) position

-- where a position goes. A move takes the run out and puts it in at the target, as the taking out leaves that.
abbrev pub carry : Stick → Shift → List ℕ → List ℕ
carry stick stay position = position
carry stick (insert at count) position = carry_insert at count stick position
carry stick (remove at count) position = carry_remove at count position
carry stick (move from count to) position = carry_insert (carry_remove from count to) count stick (carry_remove from count position)
carry stick (split at) position =
    within (parent_of (parent_of at)) (rule_split (offset_of (parent_of at)) (offset_of at) stick) position
carry stick (merge right target) position = within (parent_of right) (rule_merge (offset_of right) (offset_of target)) position

-- the position that is so many items behind another in its parent
abbrev pub forward : ℕ → List ℕ → List ℕ
forward count [] = []
forward count (offset ∷ []) = (offset + count) ∷ []
forward count (index ∷ next ∷ path) = index ∷ forward count (next ∷ path)

-- The range lies in the run of `count` items behind a position. One that isn't collapsed may reach to the run's ends; a collapsed one
-- has to be strictly between them.
abbrev pub lies_in_run : List ℕ → ℕ → Range → Bool
lies_in_run from count range =
    if is_before range.start range.end then not_after from range.start && not_after range.end (forward count from)
    else is_before from range.start && is_before range.end (forward count from)

-- where a position goes with a run that moves to another position: it is as far behind that as it was behind the run's first position,
-- and passes through the same items. The rest is what is behind the path of the run's parent.
abbrev pub run_place : List ℕ → ℕ → List ℕ → List ℕ → List ℕ
run_place to offset position [] = position
run_place to offset position (number ∷ path) = parent_of to ++ (offset_of to + (number - offset)) ∷ path

-- a position of a run whose first position is moved to another one
abbrev pub with_run : List ℕ → List ℕ → List ℕ → List ℕ
with_run from to position = run_place to (offset_of from) position (unwrap_or (rest_behind (parent_of from) position) [])

-- Where the ends of a range go: a start sticks to the next item and an end to the previous one, but a range that lies in a moved run
-- goes with it whole.
abbrev pub carried_ends : Shift → Range → Range
carried_ends (move from count to) range =
    let target = carry_remove from count to in
    if lies_in_run from count range then between (with_run from target range.start) (with_run from target range.end)
    else between (carry to_next (move from count to) range.start) (carry to_previous (move from count to) range.end)
carried_ends shift range = between (carry to_next shift range.start) (carry to_previous shift range.end)

-- where a range goes: an end that would come before its start becomes the start
abbrev pub carry_range : Shift → Range → Range
carry_range shift range =
    let ends = carried_ends shift range in
    if is_before ends.end ends.start then between ends.start ends.start else ends

-- a position in the limits on paths and offsets: at most 65 numbers, each below 2^32
abbrev pub IsWithinLimits : List ℕ → Type 0
IsWithinLimits position = (length position ≤ 65) × All (λ number. number < 2 ^ 32) position

-- What a shift has to keep to: an element that is split isn't the root; an element that is merged has one before it, and the target is
-- a position in that one.
abbrev pub IsShift : Shift → Type 0
IsShift stay = Unit {0}
IsShift (insert at count) = Unit {0}
IsShift (remove at count) = Unit {0}
IsShift (move from count to) = Unit {0}
IsShift (split at) = 2 ≤ length at
IsShift (merge right target) = (0 < offset_of right) × (parent_of target ≡ path_before right)
