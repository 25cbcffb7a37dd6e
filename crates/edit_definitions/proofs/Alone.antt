-- The items of a range's flat parts are those items of the range that are in no item of it.
use Rattle.std.proofs.Common.{◌≡◌, ◌≢◌, ℕ, ◌+◌, ◌-◌, ◌<◌, ◌≤◌, Bool, true, false, nat_eq, nat_le, nat_lt, not, ◌&&◌, ◌||◌, ◌==◌, inl, inr, List, [], ◌∷◌, ◌++◌}
use Rattle.std.proofs.Common.{length, Option, Some, IsTrue, All, IsSomeAnd, option_map, refl, sym, ap, ◌∙◌, subst, arith, append_assoc, append-nil}
use Rattle.std.specs.List.{list_any}
use Rattle.std.specs.Cmp.Lexicographic.{pointwise}
use Rattle.std.proofs.lemmas.Bool.Decides.{nat_tests}
use Rattle.std.proofs.lemmas.List.Elements.{All-head, All-tail, All-nil, All-cons}
use Rattle.ck_base.proofs.Common.{both, first, second, first_and_second}
use Rattle.item_definitions.specs.Item.{Item}
use Rattle.item_definitions.specs.Children.{parent_of, offset_of, child_count, item_at, children_at}
use Rattle.item_definitions.specs.Position.{Range, between, behind, holds, not_after, IsFlat, IsItem}
use Rattle.item_definitions.specs.FlatParts.{flat_parts, any_holds, IsInOrder, IsMinimalCover}
use Rattle.item_definitions.proofs.Fewest.{reach}
use Rattle.item_definitions.proofs.Minimal.{not_after-trans, flat_parts-minimal}
use Rattle.item_definitions.proofs.Order.{not_after-cons, not_after-none, not_after-same, not_after-parent, behind-push}
use Rattle.item_definitions.proofs.Paths.{path-joined}
use Rattle.operation_definitions.proofs.Names.{same_numbers, numbers_same}
use Rattle.edit_definitions.specs.declared.edit.Target.TheVariants.{Range as InRange}
use Rattle.edit_definitions.specs.Places.{is_there, is_range}
use Rattle.edit_definitions.specs.Given.{is_of, is_reached}
use Rattle.edit_definitions.proofs.Reached.{found, entered, one-there}
use Rattle.edit_definitions.proofs.Stay.{there-place}
use Rattle.edit_definitions.proofs.Removed.{AreThere, parts-there}

-- an item that is found is one of the tree's, and so is the one that it is in
is-item : (path : List ℕ) (items level : List Item) (item : Item) → path ≢ [] → children_at (parent_of path) items ≡ Some level → offset_of path < length level
    → IsItem (child_count items) path
is-item path items level item some there less = (
  some,
  subst (λ (o : Option (List Item)). IsSomeAnd (option_map length o) (λ count. offset_of path < count))
      (sym there) less,
)

-- a flat part has each of its items
of-holds : (part : Range) (path : List ℕ) → IsFlat part → part.end ≢ [] → part.start ≢ [] → path ≢ [] → is_of path part ≡ true → holds part path ≡ true
of-holds part path flat last_some first_some some e =
    let parent = same_numbers (parent_of part.start) (parent_of path) (first (pointwise nat_eq (parent_of part.start) (parent_of path))
    (nat_le (offset_of part.start) (offset_of path) && nat_lt (offset_of path) (offset_of part.end)) e) in
    let rest = second (pointwise nat_eq (parent_of part.start) (parent_of path)) (nat_le (offset_of part.start) (offset_of path)
    && nat_lt (offset_of path) (offset_of part.end)) e in
    let whole = path-joined path some in
    let start : part.start ≡ parent_of path ++ offset_of part.start ∷ [] = path-joined part.start first_some
    ∙ ap (λ p. p ++ offset_of part.start ∷ []) parent in
    let end : part.end ≡ parent_of path ++ offset_of part.end ∷ [] = path-joined part.end last_some ∙ ap (λ p. p ++ offset_of part.end ∷ []) (sym flat
    ∙ parent) in
    let next : behind path ≡ parent_of path ++ (offset_of path + 1) ∷ [] = ap behind whole ∙ behind-push (parent_of path) (offset_of path) in
    both (not_after part.start path) (not_after (behind path) part.end)
    ((λ t. not_after (start t) (whole t)) ∙ not_after-parent (parent_of path) (offset_of part.start ∷ []) (offset_of path ∷ [])
    ∙ not_after-cons (offset_of part.start) (offset_of path) [] [] ∙ low (offset_of part.start) (offset_of path) (offset_of part.end) rest)
    ((λ t. not_after (next t) (end t)) ∙ not_after-parent (parent_of path) ((offset_of path + 1) ∷ []) (offset_of part.end ∷ [])
    ∙ not_after-cons (offset_of path + 1) (offset_of part.end) [] [] ∙ high (offset_of part.start) (offset_of path) (offset_of part.end) rest)
  where
    low : (s n e : ℕ) → (nat_le s n && nat_lt n e) ≡ true → (nat_lt s n || (s == n && true)) ≡ true
    low s n e h = grind (arith, nat_tests)

    high : (s n e : ℕ) → (nat_le s n && nat_lt n e) ≡ true → (nat_lt (n + 1) e || (n + 1 == e && true)) ≡ true
    high s n e h = grind (arith, nat_tests)

-- one of two tests
or_first : (a b : Bool) → a ≡ true → (a || b) ≡ true
or_first true b e = refl
or_first false b e = absurd cc

or_second : (a b : Bool) → b ≡ true → (a || b) ≡ true
or_second true b e = refl
or_second false b e = e

-- and an item that it has is one of them, or in one
below-holds : (p q x z : List ℕ) (y : ℕ) → (not_after p (x ++ y ∷ []) && not_after (x ++ (y + 1) ∷ []) q) ≡ true
    → (not_after p (x ++ y ∷ z) && not_after (behind (x ++ y ∷ z)) q) ≡ true
below-holds p q x z y e =
    let low = first (not_after p (x ++ y ∷ [])) (not_after (x ++ (y + 1) ∷ []) q) e in
    let high = second (not_after p (x ++ y ∷ [])) (not_after (x ++ (y + 1) ∷ []) q) e in
    both (not_after p (x ++ y ∷ z)) (not_after (behind (x ++ y ∷ z)) q)
    (not_after-trans p (x ++ y ∷ []) (x ++ y ∷ z) low (not_after-parent x (y ∷ []) (y ∷ z) ∙ not_after-same y [] z ∙ not_after-none z))
    (not_after-trans (behind (x ++ y ∷ z)) (x ++ (y + 1) ∷ []) q (ap (λ b. not_after b (x ++ (y + 1) ∷ [])) (behind-append x y z)
    ∙ not_after-parent x (behind (y ∷ z)) ((y + 1) ∷ []) ∙ ends z) high)
  where
    behind-append : (x : List ℕ) (y : ℕ) (z : List ℕ) → behind (x ++ y ∷ z) ≡ x ++ behind (y ∷ z)
    behind-append [] y z = refl
    behind-append (i ∷ []) y z = refl
    behind-append (i ∷ j ∷ x) y z = ap (λ p. i ∷ p) (behind-append (j ∷ x) y z)

    same : (n : ℕ) → (nat_lt (n + 1) (n + 1) || (n + 1 == n + 1 && true)) ≡ true
    same n = grind (arith, nat_tests)

    less : (n : ℕ) (b : Bool) → (nat_lt n (n + 1) || (n == n + 1 && b)) ≡ true
    less n b = grind (arith, nat_tests)

    ends : (z : List ℕ) → not_after (behind (y ∷ z)) ((y + 1) ∷ []) ≡ true
    ends [] = not_after-cons (y + 1) (y + 1) [] [] ∙ same y
    ends (w ∷ z) = not_after-cons y (y + 1) (behind (w ∷ z)) [] ∙ less y (not_after (behind (w ∷ z)) [])

-- one of the parts' items isn't in an item of theirs
abbrev AllSome : List Range → Type 0
AllSome parts = All (λ (part : Range). (part.start ≢ []) × (part.end ≢ [])) parts

-- the place of an item that a part has: in the part's parent
record Of (part : Range) (path : List ℕ) : Type 0 where
  start : part.start ≡ parent_of path ++ offset_of part.start ∷ []
  end : part.end ≡ parent_of path ++ offset_of part.end ∷ []

placed-of : (part : Range) (path : List ℕ) → IsFlat part → (part.start ≢ []) × (part.end ≢ []) → is_of path part ≡ true → Of part path
placed-of part path flat some e =
    let parent = same_numbers (parent_of part.start) (parent_of path) (first (pointwise nat_eq (parent_of part.start) (parent_of path))
    (nat_le (offset_of part.start) (offset_of path) && nat_lt (offset_of path) (offset_of part.end)) e) in
    record {
      start = path-joined part.start some.0 ∙ ap (λ p. p ++ offset_of part.start ∷ []) parent;
      end = path-joined part.end some.1 ∙ ap (λ p. p ++ offset_of part.end ∷ []) (sym flat ∙ parent);
    }

-- a position in an element comes behind the one before it, and before the one behind it
later : (q : List ℕ) (n : ℕ) → not_after (q ++ n ∷ []) q ≡ false
later q n = (λ t. not_after (q ++ n ∷ []) (sym (append-nil q) t)) ∙ not_after-parent q (n ∷ []) []

earlier : (q : List ℕ) (n : ℕ) → q ≢ [] → not_after (behind q) (q ++ n ∷ []) ≡ false
earlier q n some =
    let whole = path-joined q some in
    let next : behind q ≡ parent_of q ++ (offset_of q + 1) ∷ [] = ap behind whole ∙ behind-push (parent_of q) (offset_of q) in
    let long : q ++ n ∷ [] ≡ parent_of q ++ (offset_of q ∷ n ∷ []) = ap (λ p. p ++ n ∷ []) whole ∙ append_assoc (parent_of q) (offset_of q ∷ []) (n ∷ []) in
    (λ t. not_after (next t) (long t)) ∙ not_after-parent (parent_of q) ((offset_of q + 1) ∷ []) (offset_of q ∷ n ∷ [])
    ∙ not_after-cons (offset_of q + 1) (offset_of q) [] (n ∷ []) ∙ more (offset_of q) (not_after [] (n ∷ []))
  where
    more : (m : ℕ) (b : Bool) → (nat_lt (m + 1) m || (m + 1 == m && b)) ≡ false
    more m b = grind (arith, nat_tests)

never : (b : Bool) → b ≡ true → b ≡ false → ⊥
never b e f = absurd cc

-- parts behind one that has the item
none-behind : (position : List ℕ) (q : List ℕ) (n : ℕ) (parts : List Range) → position ≡ q ++ n ∷ []
    → All (λ (other : Range). IsTrue (not_after position other.start)) parts → any_holds parts q ≡ true → ⊥
none-behind position q n [] is ordered e = absurd cc
none-behind position q n (part ∷ parts) is ordered e =
    go (holds part q) refl e (λ f. none-behind position q n parts is (All-tail (λ (other : Range). IsTrue (not_after position other.start)) part parts
    ordered) f)
  where
    go : (t : Bool) → holds part q ≡ t → (t || any_holds parts q) ≡ true → (any_holds parts q ≡ true → ⊥) → ⊥
    go true t e rest =
        let low = first (not_after part.start q) (not_after (behind q) part.end) t in
        let order : not_after position part.start ≡ true = All-head (λ (other : Range). IsTrue (not_after position other.start)) part parts ordered in
        never (not_after position q) (not_after-trans position part.start q order low) (ap (λ p. not_after p q) is ∙ later q n)
    go false t e rest = rest e

-- parts of which one has the item, behind one that has the item that it is in
none-before : (part : Range) (path : List ℕ) (parts : List Range) → parent_of path ≢ [] → All IsFlat parts → AllSome parts
    → All (λ (other : Range). IsTrue (not_after part.end other.start)) parts
    → holds part (parent_of path) ≡ true → list_any (is_of path) parts ≡ true → ⊥
none-before part path [] some flat there ordered has e = absurd cc
none-before part path (other ∷ parts) some flat there ordered has e =
    go (is_of path other) refl e (λ f. none-before part path parts some (All-tail IsFlat other parts flat) (All-tail (λ (p : Range). (p.start ≢ [])
    × (p.end ≢ [])) other parts there)
    (All-tail (λ (p : Range). IsTrue (not_after part.end p.start)) other parts ordered) has f)
  where
    go : (t : Bool) → is_of path other ≡ t → (t || list_any (is_of path) parts) ≡ true → (list_any (is_of path) parts ≡ true → ⊥) → ⊥
    go true t e rest =
        let q = parent_of path in
        let place = placed-of other path (All-head IsFlat other parts flat) (All-head (λ (p : Range). (p.start ≢ []) × (p.end ≢ [])) other parts there) t in
        let order : not_after part.end other.start ≡ true = All-head (λ (p : Range). IsTrue (not_after part.end p.start)) other parts ordered in
        let high = second (not_after part.start q) (not_after (behind q) part.end) has in
        never (not_after (behind q) other.start) (not_after-trans (behind q) part.end other.start high order) (ap (not_after (behind q)) place.start
        ∙ earlier q (offset_of other.start) some)
    go false t e rest = rest e

alone : (path : List ℕ) (parts : List Range) → parent_of path ≢ [] → All IsFlat parts → AllSome parts → IsInOrder parts → list_any (is_of path) parts ≡ true
    → any_holds parts (parent_of path) ≡ true → ⊥
alone path [] some flat there ordered e f = absurd cc
alone path (part ∷ parts) some flat there ordered e f =
    go (is_of path part) refl (holds part (parent_of path)) refl e f
    (λ g h. alone path parts some (All-tail IsFlat part parts flat) (All-tail (λ (p : Range). (p.start ≢ []) × (p.end ≢ [])) part parts there) ordered.1 g h)
  where
    q : List ℕ
    q = parent_of path

    go : (t : Bool) → is_of path part ≡ t → (u : Bool) → holds part q ≡ u → (t || list_any (is_of path) parts) ≡ true → (u || any_holds parts q) ≡ true
        → (list_any (is_of path) parts ≡ true → any_holds parts q ≡ true → ⊥) → ⊥
    go true t true u e f rest =
        let place = placed-of part path (All-head IsFlat part parts flat) (All-head (λ (p : Range). (p.start ≢ []) × (p.end ≢ [])) part parts there) t in
        let low = first (not_after part.start q) (not_after (behind q) part.end) u in
        never (not_after part.start q) low (ap (λ p. not_after p q) place.start ∙ later q (offset_of part.start))
    go true t false u e f rest =
        let place = placed-of part path (All-head IsFlat part parts flat) (All-head (λ (p : Range). (p.start ≢ []) × (p.end ≢ [])) part parts there) t in
        none-behind part.end q (offset_of part.end) parts place.end ordered.0 f
    go false t true u e f rest =
        none-before part path parts some (All-tail IsFlat part parts flat) (All-tail (λ (p : Range). (p.start ≢ []) × (p.end ≢ [])) part parts there) ordered.0
        u e
    go false t false u e f rest = rest e f

-- an item of the parts whose parent is in none of them is one of theirs
one-of : (path : List ℕ) (parts : List Range) → path ≢ [] → All IsFlat parts → AllSome parts → any_holds parts path ≡ true → any_holds parts (parent_of path)
    ≡ false → list_any (is_of path) parts ≡ true
one-of path [] some flat there e f = absurd cc
one-of path (part ∷ parts) some flat there e f =
    go (holds part path) refl e (λ g h. one-of path parts some (All-tail IsFlat part parts flat) (All-tail (λ (p : Range). (p.start ≢ []) × (p.end ≢ [])) part
    parts there) g h)
  where
    q : List ℕ
    q = parent_of path

    whole : path ≡ parent_of path ++ offset_of path ∷ []
    whole = path-joined path some

    next : behind path ≡ parent_of path ++ (offset_of path + 1) ∷ []
    next = ap behind whole ∙ behind-push (parent_of path) (offset_of path)

    none : (a b : Bool) → (a || b) ≡ false → (a ≡ false) × (b ≡ false)
    none true b e = absurd cc
    none false b e = (refl, e)

    joined : (x z : List ℕ) (y : ℕ) → q ≡ x ++ y ∷ z → (not_after part.start (x ++ y ∷ []) && not_after (x ++ (y + 1) ∷ []) part.end) ≡ true → holds part q
        ≡ true
    joined x z y is e = ap (λ p. not_after part.start p && not_after (behind p) part.end) is ∙ below-holds part.start part.end x z y e

    tests : (s n e : ℕ) → (nat_lt s n || (s == n && true)) ≡ true → (nat_lt (n + 1) e || (n + 1 == e && true)) ≡ true → (nat_le s n && nat_lt n e) ≡ true
    tests s n e low high = grind (arith, nat_tests)

    here : holds part path ≡ true → parent_of part.start ≡ q → is_of path part ≡ true
    here e parent =
        let flat_here = All-head IsFlat part parts flat in
        let ends = All-head (λ (p : Range). (p.start ≢ []) × (p.end ≢ [])) part parts there in
        let start : part.start ≡ q ++ offset_of part.start ∷ [] = path-joined part.start ends.0 ∙ ap (λ p. p ++ offset_of part.start ∷ []) parent in
        let end : part.end ≡ q ++ offset_of part.end ∷ [] = path-joined part.end ends.1 ∙ ap (λ p. p ++ offset_of part.end ∷ []) (sym flat_here ∙ parent) in
        let low = first (not_after part.start path) (not_after (behind path) part.end) e in
        let high = second (not_after part.start path) (not_after (behind path) part.end) e in
        both (pointwise nat_eq (parent_of part.start) q) (nat_le (offset_of part.start) (offset_of path) && nat_lt (offset_of path) (offset_of part.end))
        (numbers_same (parent_of part.start) q parent)
        (tests (offset_of part.start) (offset_of path) (offset_of part.end)
        (sym (not_after-cons (offset_of part.start) (offset_of path) [] []) ∙ sym (not_after-parent q (offset_of part.start ∷ []) (offset_of path ∷ []))
        ∙ (λ t. not_after (sym start t) (sym whole t)) ∙ low)
        (sym (not_after-cons (offset_of path + 1) (offset_of part.end) [] []) ∙ sym (not_after-parent q ((offset_of path + 1) ∷ []) (offset_of part.end ∷ []))
        ∙ (λ t. not_after (sym next t) (sym end t)) ∙ high))

    go : (t : Bool) → holds part path ≡ t → (t || any_holds parts path) ≡ true → (any_holds parts path ≡ true → any_holds parts q ≡ false
        → list_any (is_of path) parts ≡ true)
        → (is_of path part || list_any (is_of path) parts) ≡ true
    go true t e rest =
        let apart = none (holds part q) (any_holds parts q) f in
        let has : (not_after part.start (q ++ offset_of path ∷ []) && not_after (q ++ (offset_of path + 1) ∷ []) part.end)
        ≡ true = (λ i. not_after part.start (sym whole i) && not_after (sym next i) part.end) ∙ t in
        elim (reach part.start part.end q (offset_of path) (All-head IsFlat part parts flat) has) [
          | inl parent ↦ or_first (is_of path part) (list_any (is_of path) parts) (here t parent)
          | inr way ↦ absurd (never (holds part q) (joined way.0 way.2 way.1 way.3 way.4) apart.0)
        ]
    go false t e rest = or_second (is_of path part) (list_any (is_of path) parts) (rest e (none (holds part q) (any_holds parts q) f).1)

some-of : (counts : List ℕ → Option ℕ) (parts : List Range) → AreThere counts parts → AllSome parts
some-of counts [] h = All-nil (λ (part : Range). (part.start ≢ []) × (part.end ≢ []))
some-of counts (part ∷ parts) h = All-cons (λ (p : Range). (p.start ≢ []) × (p.end ≢ [])) part parts (h.0.0.0, h.0.1.0) (some-of counts parts h.1)

-- the root is no item
root-not : (start : List ℕ) (b : Bool) → start ≢ [] → (not_after start [] && b) ≡ false
root-not [] b some = absurd (some refl)
root-not (x ∷ start) b some = refl

none-root : (parts : List Range) → AllSome parts → any_holds parts [] ≡ false
none-root [] some = refl
none-root (part ∷ parts) some =
    ap (λ b. b || any_holds parts []) (root-not part.start (not_after (behind []) part.end) (All-head (λ (p : Range). (p.start ≢ []) × (p.end ≢ [])) part parts
    some).0)
    ∙ none-root parts (All-tail (λ (p : Range). (p.start ≢ []) × (p.end ≢ [])) part parts some)

any-of : (path : List ℕ) (parts : List Range) → path ≢ [] → All IsFlat parts → AllSome parts → list_any (is_of path) parts ≡ true → any_holds parts path ≡ true
any-of path [] some flat there e = absurd cc
any-of path (part ∷ parts) some flat there e =
    go (is_of path part) refl e (λ f. any-of path parts some (All-tail IsFlat part parts flat) (All-tail (λ (p : Range). (p.start ≢ []) × (p.end ≢ [])) part
    parts there) f)
  where
    go : (t : Bool) → is_of path part ≡ t → (t || list_any (is_of path) parts) ≡ true → (list_any (is_of path) parts ≡ true → any_holds parts path ≡ true)
        → (holds part path || any_holds parts path) ≡ true
    go true t e rest =
        let ends = All-head (λ (p : Range). (p.start ≢ []) × (p.end ≢ [])) part parts there in
        or_first (holds part path) (any_holds parts path) (of-holds part path (All-head IsFlat part parts flat) ends.1 ends.0 some t)
    go false t e rest = or_second (holds part path) (any_holds parts path) (rest e)

-- an edit over a range reaches the items of the range that are in no item of it
pub reached_alone : (items : List Item) (start end path : List ℕ) (item : Item) → is_range items start end ≡ true → item_at path items ≡ Some item
    → is_reached items (InRange start end) path ≡ (holds (between start end) path && not (holds (between start end) (parent_of path)))
reached_alone items start end path item range there =
    let a = first_and_second (is_there items start && is_there items end) (not_after start end) range in
    let b = first_and_second (is_there items start) (is_there items end) a.0 in
    let first_place = there-place items start b.0 in
    let minimal = flat_parts-minimal items (between start end) (first_place, there-place items end b.1, a.1) in
    let p = parts-there items start end range in
    let f = found path items item there in
    let one = one-there (offset_of path) f.level item f.here in
    let exact = minimal.cover.exact path (is-item path items f.level item f.some f.there (let less = one.0 in omega (arith, less))) in
    let some = some-of (child_count items) parts p.there in
    let parent = parent-exact minimal first_place.0 some (parent_of path) f.level f.there refl in
    go minimal some f.some exact parent first_place.0 (list_any (is_of path) parts) refl (holds (between start end) path) refl
    (holds (between start end) (parent_of path)) refl
  where
    parts : List Range
    parts = flat_parts (child_count items) (between start end)

    parent-exact : IsMinimalCover (child_count items) (between start end) parts → start ≢ [] → AllSome parts → (q : List ℕ) (level : List Item)
        → children_at q items ≡ Some level → q ≡ parent_of path
        → any_holds parts q ≡ holds (between start end) q
    parent-exact minimal start_some some [] level e is = none-root parts some ∙ sym (root-not start (not_after (behind []) end) start_some)
    parent-exact minimal start_some some (i ∷ q) level e is =
        let whole = path-joined (i ∷ q) (λ s. cc) in
        let n = entered (parent_of (i ∷ q)) (offset_of (i ∷ q)) items level (ap (λ r. children_at r items) (sym whole) ∙ e) in
        let one = one-there (offset_of (i ∷ q)) n.level n.item n.here in
        minimal.cover.exact (i ∷ q) (is-item (i ∷ q) items n.level n.item (λ s. cc) n.there (let less = one.0 in omega (arith, less)))

    go : IsMinimalCover (child_count items) (between start end) parts → AllSome parts → path ≢ [] → any_holds parts path ≡ holds (between start end) path
        → any_holds parts (parent_of path) ≡ holds (between start end) (parent_of path) → start ≢ []
        → (t : Bool) → list_any (is_of path) parts ≡ t → (u : Bool) → holds (between start end) path ≡ u → (v : Bool)
        → holds (between start end) (parent_of path) ≡ v → t ≡ (u && not v)
    go minimal some path_some exact parent start_some true t true u true v =
        absurd (alone path parts
        (λ (e : parent_of path ≡ []). never (holds (between start end) (parent_of path)) v (ap (holds (between start end)) e
        ∙ root-not start (not_after (behind []) end) start_some))
        minimal.cover.flat some minimal.ordered t (parent ∙ v))
    go minimal some path_some exact parent start_some true t true u false v = refl
    go minimal some path_some exact parent start_some true t false u v w =
        absurd (never (holds (between start end) path) (sym exact ∙ any-of path parts path_some minimal.cover.flat some t) u)
    go minimal some path_some exact parent start_some false t true u true v = refl
    go minimal some path_some exact parent start_some false t true u false v =
        absurd (never (list_any (is_of path) parts) (one-of path parts path_some minimal.cover.flat some (exact ∙ u) (parent ∙ v)) t)
    go minimal some path_some exact parent start_some false t false u v w = refl
