-- A list in which some items that stand next to each other are replaced.
use Rattle.std.proofs.Common.{◌≡◌, ℕ, zero, suc, ◌+◌, ◌<◌, ◌≤◌, List, [], ◌∷◌, ◌++◌, length, take, drop, Some, slice_get, refl, sym, ap, ◌∙◌, arith}
use Rattle.std.proofs.Common.{length-append, length-take, length-drop}
use Rattle.item_definitions.specs.Item.{Item}
use Rattle.item_definitions.specs.Children.{Change}
use Rattle.operation_definitions.specs.Level.{replace}
use Rattle.operation_definitions.proofs.Levels.{replaced}
use Rattle.ck_base.proofs.Common.{in_three}
use Rattle.operation_definitions.proofs.Stays.{get-front}

pub get-back : (a c : List Item) (i k : ℕ) → i ≡ length a + k → slice_get (a ++ c) i ≡ slice_get c k
get-back [] c i k e = (let same : i ≡ k = omega (arith, e) in ap (slice_get c) same)
get-back (x ∷ a) c zero k e = absurd (omega (arith, e))
get-back (x ∷ a) c (suc i) k e = get-back a c i k (omega (arith, e))

-- what is before the items, the items, what stands in their place, and what is behind them
pub record Parted (offset count : ℕ) (xs ys run new : List Item) : Type 0 where
  pub front : List Item
  pub back : List Item
  pub long : length front ≡ offset
  pub many : length run ≡ count
  pub before : xs ≡ front ++ (run ++ back)
  pub after : ys ≡ front ++ (new ++ back)

-- a replacement with what it gives
pub record Replacing {R : Type 0} (offset count : ℕ) (change : Change R) (xs ys : List Item) (r : R) : Type 0 where
  pub run : List Item
  pub new : List Item
  pub gives : change run ≡ Some (new, r)
  pub parted : Parted offset count xs ys run new

pub replacing : {R : Type 0} (offset count : ℕ) (change : Change R) (xs ys : List Item) (r : R) → replace offset count change xs ≡ Some (ys, r)
    → Replacing offset count change xs ys r
replacing offset count change xs ys r e =
    let h = replaced offset count change xs ys r e in
    record {
      run = take count (drop offset xs);
      new = h.new;
      gives = h.gives;
      parted = record {
        front = take offset xs;
        back = drop (offset + count) xs;
        long = omega (arith, length-take offset xs, h.room);
        many = omega (arith, length-take count (drop offset xs), length-drop offset xs, h.room);
        before = sym (in_three offset count xs);
        after = sym h.result;
      };
    }

module _ {offset count : ℕ} {xs ys run new : List Item} (p : Parted offset count xs ys run new) where
  -- the two lengths
  pub lengths : length ys + count ≡ length xs + length new
  lengths = omega (
    arith,
    ap length p.before,
    ap length p.after,
    length-append p.front (run ++ p.back),
    length-append run p.back,
    length-append p.front (new ++ p.back),
    length-append new p.back,
    p.long,
    p.many,
  )

  pub room : offset + count ≤ length xs
  room = omega (arith, ap length p.before, length-append p.front (run ++ p.back), length-append run p.back, p.long, p.many)

  -- an item before them
  pub get-before : (i : ℕ) → i < offset → slice_get ys i ≡ slice_get xs i
  get-before i less =
      let within : i < length p.front = omega (arith, p.long, less) in
      ap (λ zs. slice_get zs i) p.after ∙ get-front p.front (new ++ p.back) i within
      ∙ sym (ap (λ zs. slice_get zs i) p.before ∙ get-front p.front (run ++ p.back) i within)

  -- an item behind them
  pub get-behind : (i j k : ℕ) → i ≡ offset + count + k → j ≡ offset + length new + k → slice_get ys j ≡ slice_get xs i
  get-behind i j k e f =
      ap (λ zs. slice_get zs j) p.after ∙ get-back p.front (new ++ p.back) j (length new + k) (omega (arith, f, p.long))
      ∙ get-back new p.back (length new + k) k refl
      ∙ sym (ap (λ zs. slice_get zs i) p.before ∙ get-back p.front (run ++ p.back) i (count + k) (omega (arith, e, p.long))
      ∙ get-back run p.back (count + k) k (omega (arith, p.many)))

  -- an item of them, and of what stands in their place
  pub get-old : (i k : ℕ) → k < count → i ≡ offset + k → slice_get xs i ≡ slice_get run k
  get-old i k less e = ap (λ zs. slice_get zs i) p.before ∙ get-back p.front (run ++ p.back) i k (omega (arith, e, p.long))
      ∙ get-front run p.back k (omega (arith, less, p.many))

  pub get-new : (i k : ℕ) → k < length new → i ≡ offset + k → slice_get ys i ≡ slice_get new k
  get-new i k less e = ap (λ zs. slice_get zs i) p.after ∙ get-back p.front (new ++ p.back) i k (omega (arith, e, p.long)) ∙ get-front new p.back k less
