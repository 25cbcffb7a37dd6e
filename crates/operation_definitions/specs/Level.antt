-- Changes of one list of items. Each replaces some items that stand next to each other, and gives what it took out.
use Rattle.std.specs.Prelude.{ℕ, ◌+◌, ◌-◌, List, [], ◌∷◌, ◌++◌, map, length, take, drop, Option, Some, None, option_map, option_and_then, nat_le, if◌then◌else◌}
use Rattle.ck_base.specs.declared.value.Value.{Value as AttributeValue}
use Rattle.ck_base.specs.Entries.{with_value, without}
use Rattle.item_definitions.specs.Item.{Item, character, element, inner, with_inner, Attributes, attributes_of, with_attributes}
use Rattle.item_definitions.specs.Children.{Change}

-- the change made to `count` items behind an offset: None where they aren't there
abbrev pub replace : {R : Type 0} → ℕ → ℕ → Change R → Change R
replace offset count change items =
    if nat_le (offset + count) (length items)
    then option_map (λ made. (take offset items ++ (made.0 ++ drop (offset + count) items), made.1)) (change (take count (drop offset items)))
    else None

-- the items put in at an offset
abbrev pub put_in : ℕ → List Item → Change (Unit {0})
put_in offset new = replace offset 0 (λ items. Some (new ++ items, tt))

-- `count` items behind an offset taken out
abbrev pub take_out : ℕ → ℕ → Change (List Item)
take_out offset count = replace offset count (λ run. Some ([], run))

-- a key with this value, or without a value
abbrev pub with_key : List ℕ → Option AttributeValue → Attributes → Attributes
with_key key None attributes = without key attributes
with_key key (Some value) attributes = with_value key value attributes

-- the items with this value of a key; what is in them stays as it is
abbrev pub given : List ℕ → Option AttributeValue → List Item → List Item
given key value items = map (λ item. with_attributes (with_key key value (attributes_of item)) item) items

-- each of `count` items behind an offset with this value of a key; it gives the items as they were
abbrev pub give : ℕ → ℕ → List ℕ → Option AttributeValue → Change (List Item)
give offset count key value = replace offset count (λ run. Some (given key value run, run))

-- the change of one item
abbrev pub one_item : {R : Type 0} → (Item → Option (List Item × R)) → Change R
one_item change [] = None
one_item change (item ∷ []) = change item
one_item change (item ∷ next ∷ rest) = None

-- the element with this name; it gives the name that it had. None for a character
abbrev pub renamed : List ℕ → Item → Option (List Item × List ℕ)
renamed name (character scalar attributes) = None
renamed name (element id old attributes children) = Some (element id name attributes children ∷ [], old)

-- the element at an index with this name
abbrev pub rename_at : ℕ → List ℕ → Change (List ℕ)
rename_at index name = replace index 1 (one_item (renamed name))

-- an element in two: what is before the offset stays in it, and what is behind goes into the shell. It gives the shell.
abbrev pub split_item : ℕ → Item → Item → Option (List Item × Item)
split_item offset shell item =
    option_and_then (λ children. if nat_le offset (length children)
    then Some (with_inner (take offset children) item ∷ with_inner (drop offset children) shell ∷ [], shell)
    else None) (inner item)

-- the element at an index split, with a shell that may depend on it
abbrev pub split_at : ℕ → ℕ → (Item → Item) → Change Item
split_at index offset shell = replace index 1 (one_item (λ item. split_item offset (shell item) item))

-- two elements in one: the items of the second go behind those of the first. It gives the second without them, and how many the first
-- had.
abbrev pub merge_items : Change (Item × ℕ)
merge_items [] = None
merge_items (left ∷ []) = None
merge_items (left ∷ right ∷ []) =
    option_and_then (λ front. option_map (λ back. (with_inner (front ++ back) left ∷ [], (with_inner [] right, length front))) (inner right)) (inner left)
merge_items (left ∷ right ∷ next ∷ rest) = None

-- the element at an index merged into the one before it
abbrev pub merge_at : ℕ → Change (Item × ℕ)
merge_at index = replace (index - 1) 2 merge_items
