-- Positions that are in a list of items, number by number, and what keeps them in it.
use Rattle.std.proofs.Common.{◌≡◌, ◌≢◌, ℕ, ◌≤◌, inl, inr, List, [], ◌∷◌, length, Option, Some, None, IsSomeAnd, option_map, option_and_then, slice_get}
use Rattle.std.proofs.Common.{slice_set, refl, sym, ap, ◌∙◌, subst, arith, length-set}
use Rattle.std.specs.Prelude.{⊤}
use Rattle.item_definitions.specs.Item.{Item, inner, with_inner}
use Rattle.item_definitions.specs.Children.{Change, parent_of, offset_of, children_at, at, at_index, in_item}
use Rattle.item_definitions.specs.Position.{IsIn}
use Rattle.item_definitions.specs.Shift.{within}
use Rattle.operation_definitions.proofs.Lifting.{map-some, then-some, inner-with_inner, get-set}
use Rattle.operation_definitions.proofs.Moves.{decide, within-same, within-other}
use Rattle.operation_definitions.proofs.Stays.{get-other}

-- the items in the item at an index: None where no element stands there
abbrev pub in_at : List Item → ℕ → Option (List Item)
in_at xs index = option_and_then inner (slice_get xs index)

-- a position is in a list of items
abbrev pub Inside : List Item → List ℕ → Type 0
Inside xs [] = ¬ ⊤
Inside xs (offset ∷ []) = offset ≤ length xs
Inside xs (index ∷ next ∷ path) = (items : List Item) × (in_at xs index ≡ Some items) × Inside items (next ∷ path)

-- the same position, in a list that has the same item at another index
pub inside-at : (xs ys : List Item) (i j next : ℕ) (path : List ℕ) → slice_get ys j ≡ slice_get xs i → Inside xs (i ∷ next ∷ path) → Inside ys (j ∷ next ∷ path)
inside-at xs ys i j next path same h = (h.0, ap (option_and_then inner) same ∙ h.1, h.2)

-- a position in an item
pub inside-in : (xs items : List Item) (i : ℕ) (path : List ℕ) → in_at xs i ≡ Some items → Inside items path → Inside xs (i ∷ path)
inside-in xs items i [] there h = absurd (h tt)
inside-in xs items i (next ∷ path) there h = (items, there, h)

-- a position that is below the first items of a list that is there
abbrev Below : Option Item → List ℕ → Type 0
Below o path = IsSomeAnd (option_map length (option_and_then (λ item. option_and_then (children_at (parent_of path)) (inner item)) o))
    (λ count. offset_of path ≤ count)

-- the two ways to say it
pub inside : (xs : List Item) (position : List ℕ) → IsIn xs position → Inside xs position
inside xs [] h = absurd (h.0 refl)
inside xs (offset ∷ []) h = h.1
inside xs (index ∷ next ∷ path) h = go (slice_get xs index) refl h.1 (λ items below. inside items (next ∷ path) ((λ e. cc), below))
  where
    through : (item : Item) (o : Option (List Item)) → slice_get xs index ≡ Some item → inner item ≡ o
        → IsSomeAnd (option_map length (option_and_then (children_at (parent_of (next ∷ path))) o)) (λ count. offset_of (next ∷ path) ≤ count)
        → ((items : List Item) → IsSomeAnd (option_map length (children_at (parent_of (next ∷ path)) items)) (λ count. offset_of (next ∷ path) ≤ count)
        → Inside items (next ∷ path))
        → Inside xs (index ∷ next ∷ path)
    through item None there e below rec = absurd below
    through item (Some items) there e below rec = (items, ap (option_and_then inner) there ∙ e, rec items below)

    go : (o : Option Item) → slice_get xs index ≡ o → Below o (next ∷ path)
        → ((items : List Item) → IsSomeAnd (option_map length (children_at (parent_of (next ∷ path)) items)) (λ count. offset_of (next ∷ path) ≤ count)
        → Inside items (next ∷ path))
        → Inside xs (index ∷ next ∷ path)
    go None e below rec = absurd below
    go (Some item) e below rec = through item (inner item) e refl below rec

pub placed : (xs : List Item) (position : List ℕ) → Inside xs position → IsIn xs position
placed xs [] h = absurd (h tt)
placed xs (offset ∷ []) h = ((λ e. cc), h)
placed xs (index ∷ next ∷ path) h = ((λ e. cc), go (slice_get xs index) h.1 (placed h.0 (next ∷ path) h.2).1)
  where
    through : (o : Option (List Item)) → o ≡ Some h.0
        → IsSomeAnd (option_map length (children_at (parent_of (next ∷ path)) h.0)) (λ count. offset_of (next ∷ path) ≤ count)
        → IsSomeAnd (option_map length (option_and_then (children_at (parent_of (next ∷ path))) o)) (λ count. offset_of (next ∷ path) ≤ count)
    through None e below = absurd cc
    through (Some items) e below =
        let same : items ≡ h.0 = cc in
        subst (λ is. IsSomeAnd (option_map length (children_at (parent_of (next ∷ path)) is)) (λ count. offset_of (next ∷ path) ≤ count)) (sym same) below

    go : (o : Option Item) → option_and_then inner o ≡ Some h.0
        → IsSomeAnd (option_map length (children_at (parent_of (next ∷ path)) h.0)) (λ count. offset_of (next ∷ path) ≤ count) → Below o (next ∷ path)
    go None e below = absurd cc
    go (Some item) e below = through (inner item) e below

-- what a change in the item at an index went through
pub record Through {R : Type 0} (xs : List Item) (i : ℕ) (change : Change R) (ys : List Item) (r : R) : Type 0 where
  pub item : Item
  pub items : List Item
  pub new : List Item
  pub found : slice_get xs i ≡ Some item
  pub then_found : slice_get ys i ≡ Some (with_inner new item)
  pub there : in_at xs i ≡ Some items
  pub made : change items ≡ Some (new, r)
  pub then_there : in_at ys i ≡ Some new
  pub long : length ys ≡ length xs
  pub others : (j : ℕ) → i ≢ j → slice_get ys j ≡ slice_get xs j

pub through : {R : Type 0} (xs : List Item) (i : ℕ) (change : Change R) (ys : List Item) (r : R) → at_index i (in_item change) xs ≡ Some (ys, r)
    → Through xs i change ys r
through {R = R} xs i change ys r e =
    let a = then-some (λ item. option_map (λ (made : Item × R). (slice_set xs i made.0, made.1)) (in_item change item)) (slice_get xs i) (ys, r) e in
    let b = map-some (λ (made : Item × R). (slice_set xs i made.0, made.1)) (in_item change a.0) (ys, r) a.2 in
    let c = then-some (λ items. option_map (λ (made : List Item × R). (with_inner made.0 a.0, made.1)) (change items)) (inner a.0) b.0 b.1 in
    let d = map-some (λ (made : List Item × R). (with_inner made.0 a.0, made.1)) (change c.0) b.0 c.2 in
    let whole : slice_set xs i (with_inner d.0.0 a.0) ≡ ys = ap (slice_set xs i) (ap (λ (p : Item × R). p.0) d.2) ∙ ap (λ (p : List Item × R). p.0) b.2 in
    record {
      item = a.0;
      items = c.0;
      new = d.0.0;
      found = a.1;
      then_found = ap (λ zs. slice_get zs i) (sym whole) ∙ get-set xs i a.0 (with_inner d.0.0 a.0) a.1;
      there = ap (option_and_then inner) a.1 ∙ c.1;
      made = d.1 ∙ ap (λ v. Some (d.0.0, v)) (ap (λ (p : Item × R). p.1) d.2 ∙ ap (λ (p : List Item × R). p.1) b.2);
      then_there = ap (λ zs. in_at zs i) (sym whole) ∙ ap (option_and_then inner) (get-set xs i a.0 (with_inner d.0.0 a.0) a.1)
          ∙ inner-with_inner a.0 c.0 d.0.0 c.1;
      long = ap length (sym whole) ∙ length-set xs i (with_inner d.0.0 a.0);
      others = λ j differ. ap (λ zs. slice_get zs j) (sym whole) ∙ get-other xs i j (with_inner d.0.0 a.0) differ;
    }

-- an offset in a list that holds the parent stays
pub offset-stays : (s o : ℕ) (parent : List ℕ) (rule : List ℕ → List ℕ) → rule [] ≡ [] → within (s ∷ parent) rule (o ∷ []) ≡ o ∷ []
offset-stays s o parent rule none =
    elim (decide s o) [
      | inl same ↦ ap (λ v. within (s ∷ parent) rule (v ∷ [])) (sym same) ∙ within-same s parent [] rule ∙ (λ t. same t ∷ empty parent t)
      | inr apart ↦ within-other s o parent [] rule apart
    ]
  where
    empty : (parent : List ℕ) → within parent rule [] ≡ []
    empty [] = none
    empty (x ∷ parent) = refl

-- A change of one list that keeps positions in it keeps them in the tree when it is made in the element at a path.
pub keeps : {R : Type 0} (parent : List ℕ) (change : Change R) (rule : List ℕ → List ℕ) → rule [] ≡ []
    → (r : R) → ((xs ys : List Item) (position : List ℕ) → change xs ≡ Some (ys, r) → Inside xs position → Inside ys (rule position))
    → (xs ys : List Item) (position : List ℕ) → at parent change xs ≡ Some (ys, r) → Inside xs position → Inside ys (within parent rule position)
keeps [] change rule none r level xs ys position e h = level xs ys position e h
keeps (s ∷ parent) change rule none r level xs ys [] e h = absurd (h tt)
keeps (s ∷ parent) change rule none r level xs ys (o ∷ []) e h =
    let t = through xs s (at parent change) ys r e in
    let fits : o ≤ length ys = omega (arith, h, t.long) in
    subst (Inside ys) (sym (offset-stays s o parent rule none)) fits
keeps (s ∷ parent) change rule none r level xs ys (i ∷ next ∷ path) e h =
    let t = through xs s (at parent change) ys r e in
    elim (decide s i) [
      | inl same ↦ (let there : in_at xs s ≡ Some h.0 = ap (in_at xs) same ∙ h.1 in
          let items : h.0 ≡ t.items = (let f : Some h.0 ≡ Some t.items = sym there ∙ t.there in cc) in
          let deep : Inside t.new (within parent rule (next ∷ path)) = keeps parent change rule none r level t.items t.new (next ∷ path) t.made
          (subst (λ is. Inside is (next ∷ path)) items h.2) in
          subst (Inside ys) (sym (ap (λ v. within (s ∷ parent) rule (v ∷ next ∷ path)) (sym same) ∙ within-same s parent (next ∷ path) rule))
          (inside-in ys t.new s (within parent rule (next ∷ path)) t.then_there deep))
      | inr apart ↦ subst (Inside ys) (sym (within-other s i parent (next ∷ path) rule apart)) (inside-at xs ys i i next path (t.others i apart) h)
    ]
