-- Changes that leave every item where it is, and what is in it.
use Rattle.std.proofs.Common.{◌≡◌, ℕ, zero, suc, ◌+◌, ◌-◌, ◌<◌, ◌≤◌, Bool, true, false, nat_lt, ◌==◌, if◌then◌else◌, List, [], ◌∷◌, ◌++◌, length, Option, Some}
use Rattle.std.proofs.Common.{None, option_and_then, slice_get, refl, sym, ap, ◌∙◌, subst, arith}
use Rattle.std.specs.Option.{option_map_or}
use Rattle.std.proofs.lemmas.Bool.Decides.{nat_tests}
use Rattle.ck_base.specs.declared.value.Value.{Value as AttributeValue}
use Rattle.item_definitions.specs.Item.{Item, character, element, inner, with_attributes, attributes_of}
use Rattle.item_definitions.specs.Shift.{within, rest_behind}
use Rattle.operation_definitions.specs.Level.{give, given, with_key, rename_at, one_item, renamed}
use Rattle.document_definitions.proofs.Inside.{Inside, in_at}
use Rattle.document_definitions.proofs.Parted.{Parted, replacing, lengths, get-before, get-behind, get-old, get-new}

-- a position that no rule changes
pub within-same_path : (parent position : List ℕ) → within parent (λ path. path) position ≡ position
within-same_path [] position = refl
within-same_path (s ∷ parent) [] = refl
within-same_path (s ∷ parent) (i ∷ path) = go (s == i) refl (within-same_path parent path)
  where
    inner-rest : (o : Option (List ℕ)) → s ≡ i → option_map_or (λ rest. parent ++ rest) o path ≡ path
        → option_map_or (λ rest. s ∷ (parent ++ rest)) o (i ∷ path) ≡ i ∷ path
    inner-rest None e f = refl
    inner-rest (Some rest) e f = λ t. e t ∷ f t

    go : (t : Bool) → t ≡ (s == i) → within parent (λ path. path) path ≡ path
        → option_map_or (λ rest. s ∷ (parent ++ rest)) (if t then rest_behind parent path else None) (i ∷ path) ≡ i ∷ path
    go true t e = inner-rest (rest_behind parent path) (grind (arith, nat_tests)) e
    go false t e = refl

-- each item has what it had in it
pub same-inside : (xs ys : List Item) (position : List ℕ) → length ys ≡ length xs → ((i : ℕ) → in_at ys i ≡ in_at xs i) → Inside xs position
    → Inside ys position
same-inside xs ys [] long same h = absurd (h tt)
same-inside xs ys (o ∷ []) long same h = omega (arith, h, long)
same-inside xs ys (i ∷ next ∷ path) long same h = (h.0, same i ∙ h.1, h.2)

-- what items stand in place of others that agree with them agrees at each index
pub same-parted : {B : Type 0} (f : Option Item → B) (offset count : ℕ) (xs ys run new : List Item) → Parted offset count xs ys run new → length new ≡ count
    → ((k : ℕ) → f (slice_get new k) ≡ f (slice_get run k)) → (i : ℕ) → f (slice_get ys i) ≡ f (slice_get xs i)
same-parted f offset count xs ys run new p long same i = go (nat_lt i offset) refl (nat_lt i (offset + count)) refl
  where
    go : (t : Bool) → t ≡ nat_lt i offset → (u : Bool) → u ≡ nat_lt i (offset + count) → f (slice_get ys i) ≡ f (slice_get xs i)
    go true t u v = ap f (get-before p i (grind (arith, nat_tests)))
    go false t true v =
        let least : offset ≤ i = grind (arith, nat_tests) in
        let less : i < offset + count = grind (arith, nat_tests) in
        ap f (get-new p i (i - offset) (omega (arith, least, less, long)) (omega (arith, least)))
        ∙ same (i - offset) ∙ sym (ap f (get-old p i (i - offset) (omega (arith, least, less)) (omega (arith, least))))
    go false t false v =
        let least : offset + count ≤ i = grind (arith, nat_tests) in
        ap f (get-behind p i i (i - (offset + count)) (omega (arith, least)) (omega (arith, least, long)))

inner-same : (item : Item) (key : List ℕ) (value : Option AttributeValue) → inner (with_attributes (with_key key value (attributes_of item)) item) ≡ inner item
inner-same (character scalar attributes) key value = refl
inner-same (element id name attributes children) key value = refl

pub given-same : (key : List ℕ) (value : Option AttributeValue) (run : List Item) (k : ℕ) → in_at (given key value run) k ≡ in_at run k
given-same key value [] k = refl
given-same key value (item ∷ run) zero = inner-same item key value
given-same key value (item ∷ run) (suc k) = given-same key value run k

pub as-long : (key : List ℕ) (value : Option AttributeValue) (run : List Item) → length (given key value run) ≡ length run
as-long key value [] = refl
as-long key value (item ∷ run) = ap suc (as-long key value run)

pub give-keeps : (offset count : ℕ) (key : List ℕ) (value : Option AttributeValue) (xs ys old : List Item) (position : List ℕ)
    → give offset count key value xs ≡ Some (ys, old) → Inside xs position → Inside ys position
give-keeps offset count key value xs ys old position e h =
    let p = replacing offset count (λ run. Some (given key value run, run)) xs ys old e in
    let new : given key value p.run ≡ p.new = ap (λ (o : Option (List Item × List Item)). option_map_or (λ (m : List Item × List Item). m.0) o []) p.gives in
    let q = subst (Parted offset count xs ys p.run) (sym new) p.parted in
    let m = q.many in
    let l = lengths q in
    let long : length (given key value p.run) ≡ count = as-long key value p.run ∙ m in
    same-inside xs ys position (omega (arith, l, long)) (same-parted (option_and_then inner) offset count xs ys p.run (given key value p.run) q long
    (given-same key value p.run)) h

-- an element with another name
pub renamed-same : (name : List ℕ) (run new : List Item) (old : List ℕ) → one_item (renamed name) run ≡ Some (new, old) → (length new ≡ 1)
    × ((k : ℕ) → in_at new k ≡ in_at run k)
renamed-same name [] new old e = absurd cc
renamed-same name (item ∷ next ∷ run) new old e = absurd cc
renamed-same name (character scalar attributes ∷ []) new old e = absurd cc
renamed-same name (element id was attributes children ∷ []) new old e =
    let same : element id name attributes children ∷ []
    ≡ new = ap (λ (o : Option (List Item × List ℕ)). option_map_or (λ (m : List Item × List ℕ). m.0) o []) e in
    (ap length (sym same), λ k. ap (λ zs. in_at zs k) (sym same) ∙ each k)
  where
    each : (k : ℕ) → in_at (element id name attributes children ∷ []) k ≡ in_at (element id was attributes children ∷ []) k
    each zero = refl
    each (suc k) = refl

pub rename-keeps : (index : ℕ) (name : List ℕ) (xs ys : List Item) (old : List ℕ) (position : List ℕ) → rename_at index name xs ≡ Some (ys, old)
    → Inside xs position → Inside ys position
rename-keeps index name xs ys old position e h =
    let p = replacing index 1 (one_item (renamed name)) xs ys old e in
    let s = renamed-same name p.run p.new old p.gives in
    let l = lengths p.parted in
    same-inside xs ys position (omega (arith, l, s.0)) (same-parted (option_and_then inner) index 1 xs ys p.run p.new p.parted s.0 s.1) h
