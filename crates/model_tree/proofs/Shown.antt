-- What is read of an item.
use Rattle.std.proofs.Common.{◌≡◌, ℕ, zero, suc, ◌<◌, ◌≤◌, ◌-◌, ◌^◌, min, List, [], ◌∷◌, ◌++◌, map, length, get_or, Option, Some, None, option_map}
use Rattle.std.proofs.Common.{option_and_then, slice_get, refl, sym, ap, ◌∙◌, arith}
use Rattle.item_definitions.specs.Item.{Attributes, Item, character, element, list_of, items_of, inner, item_count, count_of}
use Rattle.item_definitions.specs.Children.{children_at, item_at}
use Rattle.operation_definitions.proofs.Lifting.{list_of-items_of}
use Rattle.model_tree.specs.Parts.{TextParts, HeadParts}
use Rattle.model_tree.specs.Nodes.{characters}
use Rattle.model_tree.specs.Reading.{shown_character, shown_element, shown_of}
use Rattle.model_tree.proofs.Counts.{count-inner, length-characters}
use Rattle.item_definitions.proofs.Sizes.{count-list, length-count}
use Rattle.model_tree.proofs.AtPaths.{through}

pub character_shown : (read : List ℕ) (text : TextParts) (index scalar : ℕ) (attributes : Attributes) → read ≡ text.scalars
    → attributes ≡ text.attributes → index < length (characters text)
    → scalar ≡ get_or read index scalar → Some (shown_character scalar attributes) ≡ option_map shown_of (slice_get (characters text) index)
character_shown read text index scalar attributes same also less found =
    ap (λ a. Some (shown_character scalar a)) also
    ∙ go text.scalars index (omega (arith, length-characters text.attributes text.scalars)) (found ∙ ap (λ xs. get_or xs index scalar) same)
  where
    go : (scalars : List ℕ) (index : ℕ) → index < length scalars → scalar ≡ get_or scalars index scalar → Some (shown_character scalar text.attributes)
        ≡ option_map shown_of (slice_get (map (λ scalar. character scalar text.attributes) scalars) index)
    go [] index less e = absurd (omega arith)
    go (first ∷ scalars) zero less e = ap (λ s. Some (shown_character s text.attributes)) e
    go (first ∷ scalars) (suc index) less e = go scalars index (omega arith) e

-- (by a name that a contract's `using` can take)
pub length_count : (items : List Item) → length items ≤ count_of items
length_count items = length-count items

pub element_few : (head : HeadParts) (children : List Item) → count_of (element head.id head.name head.attributes (items_of children) ∷ []) < 2 ^ 32
    → length children < 2 ^ 32
element_few head children few = omega (arith, few, count-inner children, length-count children)

pub element_shown : (head : HeadParts) (children : List Item) (index count : ℕ) → index < 1
    → count_of (element head.id head.name head.attributes (items_of children) ∷ []) < 2 ^ 32
    → count ≡ min (length children) (2 ^ 64 - 1)
    → Some (shown_element head count) ≡ option_map shown_of (slice_get (element head.id head.name head.attributes (items_of children) ∷ []) index)
element_shown head children zero count less few c =
    let all : count ≡ length children = omega (arith, c, count-inner children, length-count children) in
    ap (λ n. Some (shown_element head n)) (all ∙ ap length (sym (list_of-items_of children)))
element_shown head children (suc index) count less few c = absurd (omega arith)

-- the items of an element in a list are no more than there are in the list
inner-few : (xs : List Item) (index : ℕ) (item : Item) (children : List Item) → slice_get xs index ≡ Some item → inner item ≡ Some children
    → count_of children ≤ count_of xs
inner-few [] index item children e h = absurd cc
inner-few (x ∷ xs) zero item children e h = (let same : x ≡ item = cc in omega (arith, within item h, ap item_count same))
  where
    within : (item : Item) → inner item ≡ Some children → count_of children ≤ item_count item
    within (character scalar attributes) h = absurd cc
    within (element id name attributes kids) h = (let same : list_of kids ≡ children = cc in omega (arith, count-list kids, ap count_of same))
inner-few (x ∷ xs) (suc index) item children e h = omega (arith, inner-few xs index item children e h)

-- the items at a path are no more than there are in the tree
pub level_few : (path : List ℕ) (xs level : List Item) → children_at path xs ≡ Some level → count_of level ≤ count_of xs
level_few [] xs level e = (let same : xs ≡ level = cc in omega (arith, ap count_of same))
level_few (index ∷ path) xs level e =
    let t = through xs index path level e in
    omega (arith, inner-few xs index t.item t.children t.there t.here, level_few path t.children level t.below)

-- an item that is found, and then something in it
go-on : {X Y : Type 0} (f g : X → Option Y) → ((x : X) → f x ≡ g x) → (o : Option X) → option_and_then f o ≡ option_and_then g o
go-on f g h None = refl
go-on f g h (Some x) = h x

regroup : {X Y Z : Type 0} (f : X → Option Y) (g : Y → Option Z) (o : Option X) → option_and_then (λ x. option_and_then g (f x)) o
    ≡ option_and_then g (option_and_then f o)
regroup f g None = refl
regroup f g (Some x) = refl

deeper : (index : ℕ) (parent : List ℕ) (last : ℕ) (xs : List Item) → item_at (index ∷ (parent ++ last ∷ [])) xs
    ≡ option_and_then (λ item. option_and_then (item_at (parent ++ last ∷ [])) (inner item)) (slice_get xs index)
deeper index [] last xs = refl
deeper index (next ∷ parent) last xs = refl

item-last : (parent : List ℕ) (last : ℕ) (xs : List Item) → item_at (parent ++ last ∷ []) xs
    ≡ option_and_then (λ level. slice_get level last) (children_at parent xs)
item-last [] last xs = refl
item-last (index ∷ parent) last xs =
    let pick : List Item → Option Item = λ level. slice_get level last in
    let below : (item : Item) → option_and_then (item_at (parent ++ last ∷ [])) (inner item)
    ≡ option_and_then pick (option_and_then (children_at parent) (inner item)) =
    λ item. go-on (item_at (parent ++ last ∷ [])) (λ kids. option_and_then pick (children_at parent kids)) (λ kids. item-last parent last kids)
    (inner item) ∙ regroup (children_at parent) pick (inner item) in
    deeper index parent last xs
    ∙ go-on (λ item. option_and_then (item_at (parent ++ last ∷ [])) (inner item))
    (λ item. option_and_then pick (option_and_then (children_at parent) (inner item))) below (slice_get xs index)
    ∙ regroup (λ item. option_and_then (children_at parent) (inner item)) pick (slice_get xs index)

-- the item at a path is that at its last number in the list that the others lead to
pub item_last : (parent : List ℕ) (last : ℕ) (path : List ℕ) (xs level : List Item) → path ≡ parent ++ last ∷ [] → children_at parent xs ≡ Some level
    → slice_get level last ≡ item_at path xs
item_last parent last path xs level is e = sym (ap (λ p. item_at p xs) is ∙ item-last parent last xs ∙ ap (option_and_then (λ level. slice_get level last)) e)

-- and none stands there where no element is at the others
pub item_nowhere : (parent : List ℕ) (last : ℕ) (path : List ℕ) (xs : List Item) → path ≡ parent ++ last ∷ [] → children_at parent xs ≡ None
    → None ≡ item_at path xs
item_nowhere parent last path xs is e = sym (ap (λ p. item_at p xs) is ∙ item-last parent last xs ∙ ap (option_and_then (λ level. slice_get level last)) e)
