-- A converter more keeps the order of priorities, and stands behind its equals.
use Rattle.std.proofs.Common.{◌≡◌, ◌≤ℤ◌, ◌<ℤ◌, ℤ, List, [], ◌∷◌, Bool, true, false, if◌then◌else◌, refl, ap, arith}
use Rattle.std.specs.Prelude.{int_lt}
use Rattle.std.proofs.lemmas.Int.{ints}
use Rattle.converter_definitions.specs.Gives.{Converter}
use Rattle.converter_definitions.specs.Priority.{added, AreLower, AreNotHigher, AreByPriority, IsAddedTo}

is-less : (a b : ℤ) → int_lt a b ≡ true → a <ℤ b
is-less a b e = grind (arith, ints)

not-less : (a b : ℤ) → int_lt a b ≡ false → b ≤ℤ a
not-less a b e = grind (arith, ints)

then-not-higher : (a b : ℤ) → a <ℤ b → a ≤ℤ b
then-not-higher a b h = omega (arith, ints)

none-higher : (a b : ℤ) → a <ℤ b → (list : List (ℤ × Converter)) → AreNotHigher a list → AreNotHigher b list
none-higher a b h [] n = tt
none-higher a b h (other ∷ rest) n = (omega (arith, ints, n.0), none-higher a b h rest n.1)

all-lower : (a b : ℤ) → a <ℤ b → (list : List (ℤ × Converter)) → AreNotHigher a list → AreLower b list
all-lower a b h [] n = tt
all-lower a b h (other ∷ rest) n = (omega (arith, ints, n.0), all-lower a b h rest n.1)

added-not-higher : (priority : ℤ) (next : ℤ × Converter) (list : List (ℤ × Converter)) → next.0 ≤ℤ priority → AreNotHigher priority list
    → AreNotHigher priority (added next list)
added-not-higher priority next [] h n = (h, tt)
added-not-higher priority next (other ∷ rest) h n = go (int_lt other.0 next.0) (added-not-higher priority next rest h n.1)
  where
    go : (t : Bool) → AreNotHigher priority (added next rest) → AreNotHigher priority (if t then next ∷ other ∷ rest else other ∷ added next rest)
    go true more = (h, n)
    go false more = (n.0, more)

pub added-by-priority : (next : ℤ × Converter) (list : List (ℤ × Converter)) → AreByPriority list → AreByPriority (added next list)
added-by-priority next [] b = (tt, tt)
added-by-priority next (other ∷ rest) b = go (int_lt other.0 next.0) refl (added-by-priority next rest b.1)
  where
    go : (t : Bool) → int_lt other.0 next.0 ≡ t → AreByPriority (added next rest) → AreByPriority (if t then next ∷ other ∷ rest else other ∷ added next rest)
    go true e more = (let h = is-less other.0 next.0 e in ((then-not-higher other.0 next.0 h, none-higher other.0 next.0 h rest b.0), b))
    go false e more = (added-not-higher other.0 next rest (not-less other.0 next.0 e) b.0, more)

put-first : (next other : ℤ × Converter) (rest new : List (ℤ × Converter)) → next.0 ≤ℤ other.0 → IsAddedTo next rest new
    → IsAddedTo next (other ∷ rest) (other ∷ new)
put-first next other rest new h i = record {
  front = other ∷ i.front;
  back = i.back;
  before = ap (λ list. other ∷ list) i.before;
  after = ap (λ list. other ∷ list) i.after;
  not_lower = (h, i.not_lower);
  lower = i.lower;
}

pub added-behind : (next : ℤ × Converter) (list : List (ℤ × Converter)) → AreByPriority list → IsAddedTo next list (added next list)
added-behind next [] b = record { front = []; back = []; before = refl; after = refl; not_lower = tt; lower = tt }
added-behind next (other ∷ rest) b = go (int_lt other.0 next.0) refl (added-behind next rest b.1)
  where
    go : (t : Bool) → int_lt other.0 next.0 ≡ t → IsAddedTo next rest (added next rest)
        → IsAddedTo next (other ∷ rest) (if t then next ∷ other ∷ rest else other ∷ added next rest)
    go true e more = (let h = is-less other.0 next.0 e
        in record { front = []; back = other ∷ rest; before = refl; after = refl; not_lower = tt; lower = (h, all-lower other.0 next.0 h rest b.0) })
    go false e more = put-first next other rest _ (not-less other.0 next.0 e) more
