-- What takes a change of one list of items back also takes it back in the element at a path.
use Rattle.std.proofs.Common.{◌≡◌, ℕ, zero, suc, List, [], ◌∷◌, ◌++◌, Option, Some, None, option_map, option_and_then, slice_get, slice_set, refl, sym, ap, ◌∙◌}
use Rattle.std.proofs.Common.{subst}
use Rattle.item_definitions.specs.Item.{Item, Items, character, element, none, more, list_of, items_of, inner, with_inner}
use Rattle.item_definitions.specs.Children.{Change, at, at_index, in_item}

pub items_of-list_of : (items : Items) → items_of (list_of items) ≡ items
items_of-list_of none = refl
items_of-list_of (more item items) = ap (more item) (items_of-list_of items)

pub list_of-items_of : (items : List Item) → list_of (items_of items) ≡ items
list_of-items_of [] = refl
list_of-items_of (item ∷ items) = ap (λ rest. item ∷ rest) (list_of-items_of items)

-- an element with other items has these, and with its own ones again it is what it was
pub inner-with_inner : (item : Item) (items new : List Item) → inner item ≡ Some items → inner (with_inner new item) ≡ Some new
inner-with_inner (character scalar attributes) items new e = absurd cc
inner-with_inner (element id name attributes children) items new e = ap Some (list_of-items_of new)

pub with_inner-again : (item : Item) (items new : List Item) → inner item ≡ Some items → with_inner items (with_inner new item) ≡ item
with_inner-again (character scalar attributes) items new e = absurd cc
with_inner-again (element id name attributes children) items new e =
    let same : list_of children ≡ items = cc in
    ap (element id name attributes) (ap items_of (sym same) ∙ items_of-list_of children)

pub with_inner-twice : (item : Item) (items new : List Item) → with_inner items (with_inner new item) ≡ with_inner items item
with_inner-twice (character scalar attributes) items new = refl
with_inner-twice (element id name attributes children) items new = refl

-- what a chain of options that gives something went through
pub map-some : {X Y : Type 0} (f : X → Y) (o : Option X) (y : Y) → option_map f o ≡ Some y → (x : X) × (o ≡ Some x) × (f x ≡ y)
map-some f None y e = absurd cc
map-some f (Some x) y e = (x, refl, cc)

pub then-some : {X Y : Type 0} (f : X → Option Y) (o : Option X) (y : Y) → option_and_then f o ≡ Some y → (x : X) × (o ≡ Some x) × (f x ≡ Some y)
then-some f None y e = absurd cc
then-some f (Some x) y e = (x, refl, e)

pub get-set : {X : Type 0} (xs : List X) (i : ℕ) (x y : X) → slice_get xs i ≡ Some x → slice_get (slice_set xs i y) i ≡ Some y
get-set [] i x y e = absurd cc
get-set (z ∷ xs) zero x y e = refl
get-set (z ∷ xs) (suc i) x y e = get-set xs i x y e

pub set-again : {X : Type 0} (xs : List X) (i : ℕ) (x y : X) → slice_get xs i ≡ Some x → slice_set (slice_set xs i y) i x ≡ xs
set-again [] i x y e = absurd cc
set-again (z ∷ xs) zero x y e = (let same : z ≡ x = cc in ap (λ w. w ∷ xs) (sym same))
set-again (z ∷ xs) (suc i) x y e = ap (λ rest. z ∷ rest) (set-again xs i x y e)

-- one change takes another back, where that gives r, and gives s
abbrev pub TakesBack : {R S : Type 0} → Change R → Change S → R → S → Type 0
TakesBack f g r s = (xs ys : List Item) → f xs ≡ Some (ys, r) → g ys ≡ Some (xs, s)

in_item-back : {R S : Type 0} (f : Change R) (g : Change S) (r : R) (s : S) → TakesBack f g r s → (x y : Item) → in_item f x ≡ Some (y, r)
    → in_item g y ≡ Some (x, s)
in_item-back {R = R} f g r s back x y e =
    let a = then-some (λ items. option_map (λ made. (with_inner made.0 x, made.1)) (f items)) (inner x) (y, r) e in
    let b = map-some (λ made. (with_inner made.0 x, made.1)) (f a.0) (y, r) a.2 in
    let item : with_inner b.0.0 x ≡ y = ap (λ (p : Item × R). p.0) b.2 in
    let gave : b.0.1 ≡ r = ap (λ (p : Item × R). p.1) b.2 in
    let there : f a.0 ≡ Some (b.0.0, r) = b.1 ∙ ap (λ t. Some (b.0.0, t)) gave in
    let here : inner y ≡ Some b.0.0 = ap inner (sym item) ∙ inner-with_inner x a.0 b.0.0 a.1 in
    ap (option_and_then (λ items. option_map (λ made. (with_inner made.0 y, made.1)) (g items))) here
    ∙ ap (option_map (λ made. (with_inner made.0 y, made.1))) (back a.0 b.0.0 there)
    ∙ ap (λ w. Some (w, s)) (ap (with_inner a.0) (sym item) ∙ with_inner-again x a.0 b.0.0 a.1)

-- the lifting
pub at-back : {R S : Type 0} (f : Change R) (g : Change S) (r : R) (s : S) → TakesBack f g r s → (path : List ℕ) → TakesBack (at path f) (at path g) r s
at-back f g r s back [] xs ys e = back xs ys e
at-back {R = R} f g r s back (i ∷ path) xs ys e =
    let a = then-some (λ item. option_map (λ made. (slice_set xs i made.0, made.1)) (in_item (at path f) item)) (slice_get xs i) (ys, r) e in
    let b = map-some (λ made. (slice_set xs i made.0, made.1)) (in_item (at path f) a.0) (ys, r) a.2 in
    let items : slice_set xs i b.0.0 ≡ ys = ap (λ (p : List Item × R). p.0) b.2 in
    let gave : b.0.1 ≡ r = ap (λ (p : List Item × R). p.1) b.2 in
    let there : in_item (at path f) a.0 ≡ Some (b.0.0, r) = b.1 ∙ ap (λ t. Some (b.0.0, t)) gave in
    let here : slice_get ys i ≡ Some b.0.0 = ap (λ zs. slice_get zs i) (sym items) ∙ get-set xs i a.0 b.0.0 a.1 in
    ap (option_and_then (λ item. option_map (λ made. (slice_set ys i made.0, made.1)) (in_item (at path g) item))) here
    ∙ ap (option_map (λ made. (slice_set ys i made.0, made.1))) (in_item-back (at path f) (at path g) r s (at-back f g r s back path) a.0 b.0.0 there)
    ∙ ap (λ w. Some (w, s)) (ap (λ zs. slice_set zs i a.0) (sym items) ∙ set-again xs i a.0 b.0.0 a.1)

-- what a change gives it also gives in the element at a path
pub at-gives : {R : Type 0} (P : R → Type 0) (f : Change R) → ((xs ys : List Item) (r : R) → f xs ≡ Some (ys, r) → P r)
    → (path : List ℕ) (xs ys : List Item) (r : R) → at path f xs ≡ Some (ys, r) → P r
at-gives P f give [] xs ys r e = give xs ys r e
at-gives {R = R} P f give (i ∷ path) xs ys r e =
    let a = then-some (λ item. option_map (λ made. (slice_set xs i made.0, made.1)) (in_item (at path f) item)) (slice_get xs i) (ys, r) e in
    let b = map-some (λ made. (slice_set xs i made.0, made.1)) (in_item (at path f) a.0) (ys, r) a.2 in
    let c = then-some (λ items. option_map (λ made. (with_inner made.0 a.0, made.1)) (at path f items)) (inner a.0) b.0 b.1 in
    let d = map-some (λ made. (with_inner made.0 a.0, made.1)) (at path f c.0) b.0 c.2 in
    let deep : P d.0.1 = at-gives P f give path c.0 d.0.0 d.0.1 d.1 in
    subst P (ap (λ (p : Item × R). p.1) d.2 ∙ ap (λ (p : List Item × R). p.1) b.2) deep

-- where one change can be made, another one can be made that can be made wherever the first can
pub at-also : {R S : Type 0} (f : Change R) (g : Change S) → ((xs ys : List Item) (r : R) → f xs ≡ Some (ys, r) → (made : List Item × S) × (g xs ≡ Some made))
    → (path : List ℕ) (xs ys : List Item) (r : R) → at path f xs ≡ Some (ys, r) → (made : List Item × S) × (at path g xs ≡ Some made)
at-also f g also [] xs ys r e = also xs ys r e
at-also {R = R} f g also (i ∷ path) xs ys r e =
    let a = then-some (λ item. option_map (λ made. (slice_set xs i made.0, made.1)) (in_item (at path f) item)) (slice_get xs i) (ys, r) e in
    let b = map-some (λ made. (slice_set xs i made.0, made.1)) (in_item (at path f) a.0) (ys, r) a.2 in
    let c = then-some (λ items. option_map (λ made. (with_inner made.0 a.0, made.1)) (at path f items)) (inner a.0) b.0 b.1 in
    let d = map-some (λ made. (with_inner made.0 a.0, made.1)) (at path f c.0) b.0 c.2 in
    let m = at-also f g also path c.0 d.0.0 d.0.1 d.1 in (
      (slice_set xs i (with_inner m.0.0 a.0), m.0.1),
      ap (option_and_then (λ item. option_map (λ made. (slice_set xs i made.0, made.1)) (in_item (at path g) item))) a.1
          ∙ ap (option_map (λ made. (slice_set xs i made.0, made.1)))
          (ap (option_and_then (λ items. option_map (λ made. (with_inner made.0 a.0, made.1)) (at path g items))) c.1
          ∙ ap (option_map (λ made. (with_inner made.0 a.0, made.1))) m.1),
    )

-- a path that is longer by an index leads into the item there
pub at-push : {R : Type 0} (path : List ℕ) (index : ℕ) (change : Change R) (xs : List Item) → at (path ++ index ∷ []) change xs
    ≡ at path (at_index index (in_item change)) xs
at-push [] index change xs = refl
at-push (i ∷ path) index change xs =
    ap (λ (f : Change _). at_index i (in_item f) xs) (λ t zs. at-push path index change zs t)
