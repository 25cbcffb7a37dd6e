-- Each change of one list keeps positions in it, by the rule for its parent.
use Rattle.std.proofs.Common.{◌≡◌, ℕ, ◌+◌, ◌-◌, ◌<◌, ◌≤◌, Bool, true, false, nat_le, if◌then◌else◌, List, [], ◌∷◌, ◌++◌, length, Option, Some, refl, sym, ap}
use Rattle.std.proofs.Common.{◌∙◌, subst, arith, append-nil}
use Rattle.std.specs.Option.{option_map_or}
use Rattle.std.proofs.lemmas.Bool.Decides.{nat_tests}
use Rattle.item_definitions.specs.Item.{Item}
use Rattle.item_definitions.specs.Shift.{Stick, comes_before, rule_insert, rule_remove}
use Rattle.operation_definitions.specs.Level.{put_in, take_out}
use Rattle.document_definitions.proofs.Inside.{Inside, inside-at}
use Rattle.document_definitions.proofs.Parted.{Parted, replacing, lengths, room, get-before, get-behind}

-- where items came in: no item went, and these came
pub parted-in : (offset : ℕ) (new xs ys : List Item) (r : Unit {0}) → put_in offset new xs ≡ Some (ys, r) → Parted offset 0 xs ys [] new
parted-in offset new xs ys r e = (let p = replacing offset 0 (λ items. Some (new ++ items, tt)) xs ys r e in plain p.run p.new p.gives p.parted)
  where
    plain : (run made : List Item) → ◌≡◌ {A = Option (List Item × Unit {0})} (Some (new ++ run, tt)) (Some (made, r)) → Parted offset 0 xs ys run made
        → Parted offset 0 xs ys [] new
    plain [] made e p = (let same : new ++ []
        ≡ made = ap (λ (o : Option (List Item × Unit {0})). option_map_or (λ (m : List Item × Unit {0}). m.0) o []) e
        in subst (Parted offset 0 xs ys []) (sym same ∙ append-nil new) p)
    plain (x ∷ run) made e p = (let m = p.many in absurd (omega (arith, m)))

-- where items went
pub parted-out : (offset count : ℕ) (xs ys gone : List Item) → take_out offset count xs ≡ Some (ys, gone) → Parted offset count xs ys gone []
parted-out offset count xs ys gone e =
    let p = replacing offset count (λ run. Some ([], run)) xs ys gone e in
    let new : [] ≡ p.new = ap (λ (o : Option (List Item × List Item)). option_map_or (λ (m : List Item × List Item). m.0) o []) p.gives in
    let run : p.run ≡ gone = ap (λ (o : Option (List Item × List Item)). option_map_or (λ (m : List Item × List Item). m.1) o []) p.gives in
    subst (λ n. Parted offset count xs ys gone n) (sym new) (subst (λ g. Parted offset count xs ys g p.new) run p.parted)

-- items that come in
pub insert-keeps : (offset : ℕ) (new : List Item) (stick : Stick) (xs ys : List Item) (r : Unit {0}) (position : List ℕ) → put_in offset new xs
    ≡ Some (ys, r) → Inside xs position
    → Inside ys (rule_insert offset (length new) stick position)
insert-keeps offset new stick xs ys r [] e h = absurd (h tt)
insert-keeps offset new stick xs ys r (o ∷ []) e h = go (comes_before offset stick o []) (parted-in offset new xs ys r e)
  where
    go : (t : Bool) → Parted offset 0 xs ys [] new → (if t then o + length new else o) ≤ length ys
    go true p = omega (arith, h, lengths p)
    go false p = omega (arith, h, lengths p)
insert-keeps offset new stick xs ys r (i ∷ next ∷ path) e h = go (nat_le offset i) refl (parted-in offset new xs ys r e)
  where
    go : (t : Bool) → t ≡ nat_le offset i → Parted offset 0 xs ys [] new → Inside ys ((if t then i + length new else i) ∷ next ∷ path)
    go true t p = (let least : offset ≤ i = grind (arith, nat_tests)
        in inside-at xs ys i (i + length new) next path (get-behind p i (i + length new) (i - offset) (omega (arith, least)) (omega (arith, least))) h)
    go false t p = inside-at xs ys i i next path (get-before p i (grind (arith, nat_tests))) h

-- items that go
pub remove-keeps : (offset count : ℕ) (xs ys gone : List Item) (position : List ℕ) → take_out offset count xs ≡ Some (ys, gone) → Inside xs position
    → Inside ys (rule_remove offset count position)
remove-keeps offset count xs ys gone [] e h = absurd (h tt)
remove-keeps offset count xs ys gone (o ∷ []) e h = go (nat_le (offset + count) o) refl (nat_le offset o) refl (parted-out offset count xs ys gone e)
  where
    go : (t : Bool) → t ≡ nat_le (offset + count) o → (u : Bool) → u ≡ nat_le offset o → Parted offset count xs ys gone []
        → Inside ys (if t then (o - count) ∷ [] else (if u then offset ∷ [] else o ∷ []))
    go true t u s p = (let least : offset + count ≤ o = grind (arith, nat_tests) in omega (arith, h, least, lengths p))
    go false t true s p = omega (arith, lengths p, room p)
    go false t false s p = (let less : o < offset = grind (arith, nat_tests) in omega (arith, less, lengths p, room p))
remove-keeps offset count xs ys gone (i ∷ next ∷ path) e h = go (nat_le (offset + count) i) refl (nat_le offset i) refl (parted-out offset count xs ys gone e)
  where
    go : (t : Bool) → t ≡ nat_le (offset + count) i → (u : Bool) → u ≡ nat_le offset i → Parted offset count xs ys gone []
        → Inside ys (if t then (i - count) ∷ next ∷ path else (if u then offset ∷ [] else i ∷ next ∷ path))
    go true t u s p =
        let least : offset + count ≤ i = grind (arith, nat_tests) in
        inside-at xs ys i (i - count) next path (get-behind p i (i - count) (i - (offset + count)) (omega (arith, least)) (omega (arith, least))) h
    go false t true s p = omega (arith, lengths p, room p)
    go false t false s p = inside-at xs ys i i next path (get-before p i (grind (arith, nat_tests))) h
