-- What stands at a place of a document, and what a schema says of it. (After `Schema.checkChild`, `Schema.isBlock`, `Schema.isLimit` and
-- `Schema.isObject` of CKEditor 5.)
use Rattle.std.specs.Prelude.{ℕ, ◌-◌, List, [], ◌∷◌, ◌++◌, Bool, false, not, ◌&&◌, option_and_then}
use Rattle.std.specs.Option.{option_map_or}
use Rattle.item_definitions.specs.Item.{Item}
use Rattle.item_definitions.specs.Children.{parent_of, offset_of, item_at}
use Rattle.schema_definitions.specs.Allowed.{Rules, check_child, check_attribute, is_block, is_limit, is_object}
use Rattle.breach_definitions.specs.Obeys.{ancestors_at}
use Rattle.document_definitions.specs.Selection.{before}
use Rattle.edit_definitions.specs.Planned.{name_of}

-- an element other than the root stands at a path, and its name passes a test
abbrev pub is_element_of : (List ℕ → Bool) → List Item → List ℕ → Bool
is_element_of test items path = option_map_or test (option_and_then name_of (item_at path items)) false

-- an object stands at a path
abbrev pub is_object_at : Rules → List Item → List ℕ → Bool
is_object_at rules = is_element_of (is_object rules)

-- a block that is no limit stands at a path: text may be split off it, and it may be merged
abbrev pub is_plain_block_at : Rules → List Item → List ℕ → Bool
is_plain_block_at rules = is_element_of (λ name. is_block rules name && not (is_limit rules name))

-- Where a position is, or in place of the item at a path, an item of this name may stand: the parent allows it. Nothing may stand in place of
-- the root, which has no parent.
abbrev pub allows : Rules → List Item → List ℕ → List ℕ → Bool
allows rules items [] name = false
allows rules items (number ∷ path) name = check_child rules (ancestors_at (number ∷ path) items) name

-- an item of this name may have a key there
abbrev pub allows_key : Rules → List Item → List ℕ → List ℕ → List ℕ → Bool
allows_key rules items position name key = check_attribute rules (ancestors_at position items) name key

-- an item stands directly before a position in the same parent, and its path passes a test
abbrev pub is_before_it : (List ℕ → Bool) → List ℕ → Bool
is_before_it test position = option_map_or test (before position) false

-- the position that is so many items before another in its parent
abbrev pub backward : ℕ → List ℕ → List ℕ
backward count position = parent_of position ++ (offset_of position - count) ∷ []
