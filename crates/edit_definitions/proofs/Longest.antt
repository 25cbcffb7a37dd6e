-- The runs of a change of an attribute are the longest, and tell the value of each item that hasn't the new one.
use Rattle.std.proofs.Common.{◌≡◌, ℕ, zero, suc, ◌+◌, ◌<◌, ◌≤◌, Bool, true, false, nat_le, nat_lt, ◌&&◌, ◌==◌, if◌then◌else◌, List, [], ◌∷◌, Option, Some, None}
use Rattle.std.proofs.Common.{slice_get, refl, sym, ap, ◌∙◌, arith}
use Rattle.std.proofs.lemmas.Bool.Decides.{nat_tests}
use Rattle.ck_base.specs.declared.value.Value.{Value as AttributeValue}
use Rattle.ck_base.specs.Entries.{value_of}
use Rattle.ck_base.proofs.Common.{first_and_second}
use Rattle.item_definitions.specs.Item.{Item, attributes_of}
use Rattle.operation_definitions.specs.After.{same_value}
use Rattle.operation_definitions.proofs.Values.{same_value-true, same_value-own}
use Rattle.edit_definitions.specs.Runs.{Run, joined, runs_of, value_told, AreLongest}
use Rattle.edit_definitions.proofs.Attributed.{AreBehind, all-behind, runs-found}

-- no run has what is before all of them
none-before : (offset n : ℕ) (runs : List Run) → AreBehind offset runs → n < offset → value_told n runs ≡ None
none-before offset n [] behind less = refl
none-before offset n (run ∷ runs) behind less = ap (λ t. if t then Some run.old else value_told n runs)
    (no run.from run.to (omega (arith, behind.0, less))) ∙ none-before offset n runs behind.1 less
  where
    no : (from to : ℕ) → n < from → (nat_le from n && nat_lt n to) ≡ false
    no from to less = grind (arith, nat_tests)

-- a run in front of others
front : (offset : ℕ) (old : Option AttributeValue) (runs : List Run) → AreLongest runs → AreBehind (offset + 1) runs → AreLongest (joined offset old runs)
front offset old [] longest behind = omega arith
front offset old (run ∷ runs) longest behind = go (run.from == offset + 1 && same_value run.old old) refl runs longest
  where
    first : (runs : List Run) → AreLongest (run ∷ runs) → run.from < run.to
    first [] h = h
    first (next ∷ runs) h = h.0

    go : (t : Bool) → (run.from == offset + 1 && same_value run.old old) ≡ t → (runs : List Run) → AreLongest (run ∷ runs)
        → AreLongest (if t then record { from = offset; to = run.to; old = old } ∷ runs else record { from = offset; to = offset + 1; old = old } ∷ run ∷ runs)
    go true e [] longest = (let some = longest in let late = behind.0 in omega (arith, some, late))
    go true e (next ∷ runs) longest =
        let b = first_and_second (run.from == offset + 1) (same_value run.old old) e in
        let same = same_value-true run.old old b.1 in
        let some = longest.0 in
        let late = behind.0 in
        (omega (arith, some, late), longest.1, (λ at equal. longest.2 at (equal ∙ sym same)), longest.3)
    go false e runs longest = (
      omega arith,
      behind.0,
      (λ at equal. apart (run.from == offset + 1) (same_value run.old old) (yes run.from (offset + 1) at) (ap (λ v. same_value v old) equal
          ∙ same_value-own old) e),
      longest,
    )
      where
        yes : (a b : ℕ) → a ≡ b → (a == b) ≡ true
        yes a b e = grind (arith, nat_tests)

        apart : (a b : Bool) → a ≡ true → b ≡ true → (a && b) ≡ false → ⊥
        apart true true e f g = cc
        apart true false e f g = cc
        apart false b e f g = cc

pub longest : (key : List ℕ) (new : Option AttributeValue) (offset : ℕ) (items : List Item) → AreLongest (runs_of key new offset items)
longest key new offset [] = tt
longest key new offset (item ∷ items) = go (same_value (value_of key (attributes_of item)) new) (longest key new (offset + 1) items)
  where
    rest : List Run
    rest = runs_of key new (offset + 1) items

    go : (t : Bool) → AreLongest rest → AreLongest (if t then rest else joined offset (value_of key (attributes_of item)) rest)
    go true h = h
    go false h = front offset (value_of key (attributes_of item)) rest h (all-behind key (offset + 1) items rest (runs-found key new (offset + 1) items).0)

-- what a run in front tells of its own offset, and that it tells nothing else of the others
own : (offset : ℕ) (old : Option AttributeValue) (runs : List Run) → AreLongest runs → AreBehind (offset + 1) runs
    → value_told offset (joined offset old runs) ≡ Some old
own offset old [] longest behind = ap (λ t. if t then Some old else None) (yes offset (offset + 1) (omega arith))
  where
    yes : (n to : ℕ) → n < to → (nat_le n n && nat_lt n to) ≡ true
    yes n to less = grind (arith, nat_tests)
own offset old (run ∷ runs) longest behind = go (run.from == offset + 1 && same_value run.old old)
  where
    first : (runs : List Run) → AreLongest (run ∷ runs) → run.from < run.to
    first [] h = h
    first (next ∷ runs) h = h.0

    yes : (n to : ℕ) → n < to → (nat_le n n && nat_lt n to) ≡ true
    yes n to less = grind (arith, nat_tests)

    go : (t : Bool) → value_told offset (if t then record { from = offset; to = run.to; old = old } ∷ runs
        else record { from = offset; to = offset + 1; old = old } ∷ run ∷ runs) ≡ Some old
    go true = ap (λ t. if t then Some old else value_told offset runs)
        (yes offset run.to (let some = first runs longest in let late = behind.0 in omega (arith, some, late)))
    go false = ap (λ t. if t then Some old else value_told offset (run ∷ runs)) (yes offset (offset + 1) (omega arith))

others : (offset n : ℕ) (old : Option AttributeValue) (runs : List Run) → offset + 1 ≤ n → value_told n (joined offset old runs) ≡ value_told n runs
others offset n old [] less = ap (λ t. if t then Some old else None) (no (offset + 1) less)
  where
    no : (to : ℕ) → to ≤ n → (nat_le offset n && nat_lt n to) ≡ false
    no to less = grind (arith, nat_tests)
others offset n old (run ∷ runs) less = go (run.from == offset + 1 && same_value run.old old) refl
  where
    no : (to : ℕ) → to ≤ n → (nat_le offset n && nat_lt n to) ≡ false
    no to less = grind (arith, nat_tests)

    same_test : (from to : ℕ) → from ≡ offset + 1 → (nat_le offset n && nat_lt n to) ≡ (nat_le from n && nat_lt n to)
    same_test from to e = grind (arith, nat_tests)

    go : (t : Bool) → (run.from == offset + 1 && same_value run.old old) ≡ t
        → value_told n (if t then record { from = offset; to = run.to; old = old } ∷ runs else record { from = offset; to = offset + 1; old = old }
        ∷ run ∷ runs) ≡ value_told n (run ∷ runs)
    go true e =
        let b = first_and_second (run.from == offset + 1) (same_value run.old old) e in
        let next : run.from ≡ offset + 1 = (let t = b.0 in grind (arith, nat_tests)) in
        (λ t. if same_test run.from run.to next t then Some (sym (same_value-true run.old old b.1) t) else value_told n runs)
    go false e = ap (λ t. if t then Some old else value_told n (run ∷ runs)) (no (offset + 1) less)

-- each item that hasn't the new value is in a run that tells its value, and no other is in one
pub told-exactly : (key : List ℕ) (new : Option AttributeValue) (offset : ℕ) (items : List Item) (index : ℕ) (item : Item) → slice_get items index ≡ Some item
    → value_told (offset + index) (runs_of key new offset items)
    ≡ (if same_value (value_of key (attributes_of item)) new then None else Some (value_of key (attributes_of item)))
told-exactly key new offset [] index item e = absurd cc
told-exactly key new offset (first ∷ items) zero item e =
    let same : first ≡ item = cc in
    let here : offset + 0 ≡ offset = omega arith in
    ap (λ n. value_told n (runs_of key new offset (first ∷ items))) here ∙ go (same_value (value_of key (attributes_of first)) new)
    ∙ ap (λ (i : Item). if same_value (value_of key (attributes_of i)) new then None else Some (value_of key (attributes_of i))) same
  where
    rest : List Run
    rest = runs_of key new (offset + 1) items

    behind : AreBehind (offset + 1) rest
    behind = all-behind key (offset + 1) items rest (runs-found key new (offset + 1) items).0

    go : (t : Bool) → value_told offset (if t then rest else joined offset (value_of key (attributes_of first)) rest)
        ≡ (if t then None else Some (value_of key (attributes_of first)))
    go true = none-before (offset + 1) offset rest behind (omega arith)
    go false = own offset (value_of key (attributes_of first)) rest (longest key new (offset + 1) items) behind
told-exactly key new offset (first ∷ items) (suc index) item e =
    let next : offset + suc index ≡ offset + 1 + index = omega arith in
    ap (λ n. value_told n (runs_of key new offset (first ∷ items))) next ∙ go (same_value (value_of key (attributes_of first)) new)
    ∙ told-exactly key new (offset + 1) items index item e
  where
    rest : List Run
    rest = runs_of key new (offset + 1) items

    go : (t : Bool) → value_told (offset + 1 + index) (if t then rest else joined offset (value_of key (attributes_of first)) rest)
        ≡ value_told (offset + 1 + index) rest
    go true = refl
    go false = others offset (offset + 1 + index) (value_of key (attributes_of first)) rest (omega arith)
