-- The keys of items in lists of them, of a run of these, and of what is in an element.
use Rattle.std.proofs.Common.{◌≡◌, ℕ, zero, suc, List, [], ◌∷◌, ◌++◌, take, drop, Some, slice_get, slice_set, subst}
use Rattle.ck_base.specs.Entries.{IsOrdered}
use Rattle.item_definitions.specs.Item.{Item, Items, character, element, none, more, list_of, items_of, inner, with_inner, attributes_of}
use Rattle.operation_definitions.specs.Reversed.{IsItemOrdered, IsInnerOrdered, AreOrdered}

pub item-keys : (item : Item) → IsItemOrdered item → IsOrdered (attributes_of item)
item-keys (character scalar attributes) h = h
item-keys (element id name attributes children) h = h.0

pub list-ordered : (children : Items) → IsInnerOrdered children → AreOrdered (list_of children)
list-ordered none h = tt
list-ordered (more item items) h = (h.0, list-ordered items h.1)

pub children-ordered : (items : List Item) → AreOrdered items → IsInnerOrdered (items_of items)
children-ordered [] h = tt
children-ordered (item ∷ items) h = (h.0, children-ordered items h.1)

pub below-ordered : (item : Item) (children : List Item) → IsItemOrdered item → inner item ≡ Some children → AreOrdered children
below-ordered (character scalar attributes) children h e = absurd cc
below-ordered (element id name attributes inside) children h e = (let same : list_of inside ≡ children = cc in subst AreOrdered same (list-ordered inside h.1))

pub with_inner-ordered : (items : List Item) (item : Item) → IsItemOrdered item → AreOrdered items → IsItemOrdered (with_inner items item)
with_inner-ordered items (character scalar attributes) h inside = h
with_inner-ordered items (element id name attributes children) h inside = (h.0, children-ordered items inside)

pub get-ordered : (items : List Item) (i : ℕ) (item : Item) → AreOrdered items → slice_get items i ≡ Some item → IsItemOrdered item
get-ordered [] i item h e = absurd cc
get-ordered (x ∷ items) zero item h e = (let same : x ≡ item = cc in subst IsItemOrdered same h.0)
get-ordered (x ∷ items) (suc i) item h e = get-ordered items i item h.1 e

pub set-ordered : (items : List Item) (i : ℕ) (item : Item) → AreOrdered items → IsItemOrdered item → AreOrdered (slice_set items i item)
set-ordered [] i item h new = tt
set-ordered (x ∷ items) zero item h new = (new, h.1)
set-ordered (x ∷ items) (suc i) item h new = (h.0, set-ordered items i item h.1 new)

pub drop-ordered : (n : ℕ) (items : List Item) → AreOrdered items → AreOrdered (drop n items)
drop-ordered zero items h = h
drop-ordered (suc n) [] h = tt
drop-ordered (suc n) (item ∷ items) h = drop-ordered n items h.1

pub take-ordered : (n : ℕ) (items : List Item) → AreOrdered items → AreOrdered (take n items)
take-ordered zero items h = tt
take-ordered (suc n) [] h = tt
take-ordered (suc n) (item ∷ items) h = (h.0, take-ordered n items h.1)

pub append-ordered : (front back : List Item) → AreOrdered front → AreOrdered back → AreOrdered (front ++ back)
append-ordered [] back f b = b
append-ordered (item ∷ front) back f b = (f.0, append-ordered front back f.1 b)
