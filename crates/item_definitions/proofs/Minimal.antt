-- The flat parts of a range are flat, in order, apart, not empty, have exactly the range's items, and are the fewest.
use Rattle.std.proofs.Common.{◌≡◌, ◌≢◌, ℕ, zero, suc, ◌+◌, ◌<◌, ◌≤◌, Bool, true, false, not, ◌&&◌, ◌||◌, nat_lt, ◌==◌, if◌then◌else◌, List, [], ◌∷◌, ◌++◌, map}
use Rattle.std.proofs.Common.{length, Option, Some, None, IsSome, IsSomeAnd, IsTrue, unwrap_or, option_map, option_and_then, slice_get, ◌⊎◌, inl, inr, refl}
use Rattle.std.proofs.Common.{sym, ap, ◌∙◌, subst, arith, All, length-append, append_assoc, get_or}
use Rattle.std.specs.List.{list_any}
use Rattle.std.proofs.lemmas.Bool.{false≢true}
use Rattle.std.proofs.lemmas.Bool.Decides.{nat_tests}
use Rattle.std.proofs.lemmas.List.{length-map}
use Rattle.std.proofs.lemmas.List.Elements.{All-nil, All-cons, All-head, All-tail, All-append, All-map, All-weaker}
use Rattle.item_definitions.specs.Item.{Item, inner}
use Rattle.item_definitions.specs.Children.{parent_of, offset_of, children_at, child_count}
use Rattle.item_definitions.specs.Position.{Range, between, not_after, is_before, holds, IsFlat, IsItem, IsRange}
use Rattle.item_definitions.specs.FlatParts.{under, run, next_offset, counts_under, parts_behind, parts_before, parts_between, flat_parts, any_holds, IsInOrder}
use Rattle.item_definitions.specs.FlatParts.{IsFlatCover, IsMinimalCover}
use Rattle.item_definitions.proofs.Paths.{parent_of-push, offset_of-push, path-joined, push-some}
use Rattle.item_definitions.proofs.Order.{not_after-cons, not_after-none, has, behind-push}
use Rattle.item_definitions.proofs.Covers.{At, Coherent, any_has, at-some, between-has}
use Rattle.item_definitions.proofs.Distinct.{Among, no_fewer}
use Rattle.item_definitions.proofs.Fewest.{spot, homes_behind, homes_before, homes_between, Good, Fits, distinct-between, good-between, reach, below-at}
use Rattle.item_definitions.proofs.Fewest.{not_after-same}

-- elements stand in elements alone
pub coherent-items : (above : List ℕ) (items : List Item) (index : ℕ) (path : List ℕ)
    → IsSome (child_count items (above ++ index ∷ path)) → index < unwrap_or (child_count items above) 0
coherent-items [] items index path h = go items index h
  where
    go : (items : List Item) (index : ℕ)
        → IsSome (option_map length (option_and_then (λ item. option_and_then (children_at path) (inner item)) (slice_get items index))) → index < length items
    go [] index h = absurd (false≢true h)
    go (item ∷ items) zero h = omega arith
    go (item ∷ items) (suc index) h = (let less : index < length items = go items index h in omega arith)
coherent-items (step ∷ above) items index path h = go (slice_get items step) (λ children. coherent-items above children index path) h
  where
    go : (o : Option Item) → ((children : List Item) → IsSome (child_count children (above ++ index ∷ path)) → index < unwrap_or (child_count children above) 0)
        → IsSome (option_map length (option_and_then (λ item. option_and_then (children_at (above ++ index ∷ path)) (inner item)) o))
        → index < unwrap_or (option_map length (option_and_then (λ item. option_and_then (children_at above) (inner item)) o)) 0
    go None rest h = absurd (false≢true h)
    go (Some item) rest h = deep (inner item) h
      where
        deep : (o : Option (List Item)) → IsSome (option_map length (option_and_then (children_at (above ++ index ∷ path)) o))
            → index < unwrap_or (option_map length (option_and_then (children_at above) o)) 0
        deep None h = absurd (false≢true h)
        deep (Some children) h = rest children h

-- a place keeps to the number of items at each step
pub fits-place : (counts : List ℕ → Option ℕ) (q : List ℕ) → Coherent counts → IsSomeAnd (counts (parent_of q)) (λ count. offset_of q ≤ count) → Fits counts q
fits-place counts [] tree h = tt
fits-place counts (j ∷ []) tree h = (most (counts []) j h, tt)
  where
    most : (o : Option ℕ) (j : ℕ) → IsSomeAnd o (λ count. j ≤ count) → j ≤ unwrap_or o 0
    most None j h = absurd h
    most (Some count) j h = h
fits-place counts (j ∷ next ∷ q) tree h =
    let less : j < unwrap_or (counts []) 0 = tree [] j (parent_of (next ∷ q)) (some (counts (j ∷ parent_of (next ∷ q))) h) in
    (omega arith, fits-place (counts_under j counts) (next ∷ q) (λ above. tree (j ∷ above)) h)
  where
    some : (o : Option ℕ) → IsSomeAnd o (λ count. offset_of (next ∷ q) ≤ count) → IsSome o
    some None h = absurd h
    some (Some count) h = refl

any_holds-push : (parts : List Range) (parent : List ℕ) (k : ℕ) → any_holds parts (parent ++ k ∷ []) ≡ any_has parts parent k
any_holds-push parts parent k = ap (λ b. list_any (λ part. not_after part.start (parent ++ k ∷ []) && not_after b part.end) parts) (behind-push parent k)

holds-push : (range : Range) (parent : List ℕ) (k : ℕ) → holds range (parent ++ k ∷ []) ≡ has range.start range.end parent k
holds-push range parent k = ap (λ b. not_after range.start (parent ++ k ∷ []) && not_after b range.end) (behind-push parent k)

-- as many parts as parents
length-run : (a b : ℕ) → length (run a b) ≡ length (spot a b)
length-run a b = go (nat_lt a b)
  where
    go : (t : Bool) → length (if t then between (a ∷ []) (b ∷ []) ∷ [] else []) ≡ length {A = List ℕ} (if t then [] ∷ [] else [])
    go true = refl
    go false = refl

length-maps : {X Y Z W : Type 0} (f : X → Y) (g : Z → W) (xs : List X) (ys : List Z) → length xs ≡ length ys → length (map f xs) ≡ length (map g ys)
length-maps f g xs ys e = simp length-map e

length-joins : {X Y : Type 0} (a b : List X) (c d : List Y) → length a ≡ length c → length b ≡ length d → length (a ++ b) ≡ length (c ++ d)
length-joins a b c d e f = simp length-append (omega (arith, e, f))

length-behind : (counts : List ℕ → Option ℕ) (p : List ℕ) → length (parts_behind counts p) ≡ length (homes_behind counts p)
length-behind counts [] = refl
length-behind counts (i ∷ p) =
    length-joins (map (under i) (parts_behind (counts_under i counts) p)) (run (next_offset i p) (unwrap_or (counts []) 0))
    (map (λ home. i ∷ home) (homes_behind (counts_under i counts) p)) (spot (next_offset i p) (unwrap_or (counts []) 0))
    (length-maps (under i) (λ home. i ∷ home) (parts_behind (counts_under i counts) p) (homes_behind (counts_under i counts) p)
    (length-behind (counts_under i counts) p))
    (length-run (next_offset i p) (unwrap_or (counts []) 0))

length-before : (q : List ℕ) → length (parts_before q) ≡ length (homes_before q)
length-before [] = refl
length-before (j ∷ q) =
    length-joins (run 0 j) (map (under j) (parts_before q)) (spot 0 j) (map (λ home. j ∷ home) (homes_before q)) (length-run 0 j)
    (length-maps (under j) (λ home. j ∷ home) (parts_before q) (homes_before q) (length-before q))

length-between : (counts : List ℕ → Option ℕ) (p q : List ℕ) → length (parts_between counts p q) ≡ length (homes_between counts p q)
length-between counts [] q = length-before q
length-between counts (i ∷ p) [] = refl
length-between counts (i ∷ p) (j ∷ q) = go (i == j) (length-between (counts_under i counts) p q)
  where
    go : (t : Bool) → length (parts_between (counts_under i counts) p q) ≡ length (homes_between (counts_under i counts) p q)
        → length (if t then map (under i) (parts_between (counts_under i counts) p q)
        else map (under i) (parts_behind (counts_under i counts) p) ++ (run (next_offset i p) j ++ map (under j) (parts_before q)))
        ≡ length (if t then map (λ home. i ∷ home) (homes_between (counts_under i counts) p q)
        else map (λ home. i ∷ home) (homes_behind (counts_under i counts) p) ++ (spot (next_offset i p) j ++ map (λ home. j ∷ home) (homes_before q)))
    go true e = length-maps (under i) (λ home. i ∷ home) (parts_between (counts_under i counts) p q) (homes_between (counts_under i counts) p q) e
    go false e =
        length-joins (map (under i) (parts_behind (counts_under i counts) p)) (run (next_offset i p) j ++ map (under j) (parts_before q))
        (map (λ home. i ∷ home) (homes_behind (counts_under i counts) p)) (spot (next_offset i p) j ++ map (λ home. j ∷ home) (homes_before q))
        (length-maps (under i) (λ home. i ∷ home) (parts_behind (counts_under i counts) p) (homes_behind (counts_under i counts) p)
        (length-behind (counts_under i counts) p))
        (length-joins (run (next_offset i p) j) (map (under j) (parts_before q)) (spot (next_offset i p) j) (map (λ home. j ∷ home) (homes_before q))
        (length-run (next_offset i p) j)
        (length-maps (under j) (λ home. j ∷ home) (parts_before q) (homes_before q) (length-before q)))

-- a range in one parent, from an offset up to a greater one
Shape : Range → Type 0
Shape range = (parent : List ℕ) × (a : ℕ) × (b : ℕ) × (range.start ≡ parent ++ a ∷ []) × (range.end ≡ parent ++ b ∷ []) × (a < b)

shape-under : (i : ℕ) (range : Range) → Shape range → Shape (under i range)
unfolding Shape
shape-under i range s = (i ∷ s.0, s.1, s.2, ap (λ path. i ∷ path) s.3, ap (λ path. i ∷ path) s.4, s.5)

shapes-under : (i : ℕ) (parts : List Range) → All Shape parts → All Shape (map (under i) parts)
shapes-under i parts h = All-map Shape (under i) parts (All-weaker Shape (λ part. Shape (under i part)) (shape-under i) parts h)

shapes-run : (a b : ℕ) → All Shape (run a b)
unfolding Shape
shapes-run a b = go (nat_lt a b) refl
  where
    go : (t : Bool) → t ≡ nat_lt a b → All Shape (if t then between (a ∷ []) (b ∷ []) ∷ [] else [])
    go true e = All-cons Shape (between (a ∷ []) (b ∷ [])) [] ([], a, b, refl, refl, grind (arith, nat_tests)) (All-nil Shape)
    go false e = All-nil Shape

shapes-behind : (counts : List ℕ → Option ℕ) (p : List ℕ) → All Shape (parts_behind counts p)
shapes-behind counts [] = All-nil Shape
shapes-behind counts (i ∷ p) =
    All-append Shape (map (under i) (parts_behind (counts_under i counts) p)) (run (next_offset i p) (unwrap_or (counts []) 0))
    (shapes-under i (parts_behind (counts_under i counts) p) (shapes-behind (counts_under i counts) p))
    (shapes-run (next_offset i p) (unwrap_or (counts []) 0))

shapes-before : (q : List ℕ) → All Shape (parts_before q)
shapes-before [] = All-nil Shape
shapes-before (j ∷ q) = All-append Shape (run 0 j) (map (under j) (parts_before q)) (shapes-run 0 j) (shapes-under j (parts_before q) (shapes-before q))

shapes-between : (counts : List ℕ → Option ℕ) (p q : List ℕ) → All Shape (parts_between counts p q)
shapes-between counts [] q = shapes-before q
shapes-between counts (i ∷ p) [] = All-nil Shape
shapes-between counts (i ∷ p) (j ∷ q) = go (i == j) (shapes-between (counts_under i counts) p q)
  where
    go : (t : Bool) → All Shape (parts_between (counts_under i counts) p q)
        → All Shape (if t then map (under i) (parts_between (counts_under i counts) p q)
        else map (under i) (parts_behind (counts_under i counts) p) ++ (run (next_offset i p) j ++ map (under j) (parts_before q)))
    go true h = shapes-under i (parts_between (counts_under i counts) p q) h
    go false h =
        All-append Shape (map (under i) (parts_behind (counts_under i counts) p)) (run (next_offset i p) j ++ map (under j) (parts_before q))
        (shapes-under i (parts_behind (counts_under i counts) p) (shapes-behind (counts_under i counts) p))
        (All-append Shape (run (next_offset i p) j) (map (under j) (parts_before q)) (shapes-run (next_offset i p) j)
        (shapes-under j (parts_before q) (shapes-before q)))

shape-flat : (part : Range) → Shape part → IsFlat part
unfolding Shape
shape-flat part s = ap parent_of s.3 ∙ parent_of-push s.0 s.1 ∙ sym (ap parent_of s.4 ∙ parent_of-push s.0 s.2)

later-offset : (parent : List ℕ) (a b : ℕ) → a < b → not_after (parent ++ b ∷ []) (parent ++ a ∷ []) ≡ false
later-offset [] a b less = not_after-cons b a [] [] ∙ grind (arith, nat_tests)
later-offset (x ∷ parent) a b less = not_after-same x (parent ++ b ∷ []) (parent ++ a ∷ []) false (later-offset parent a b less)

shape-full : (part : Range) → Shape part → IsTrue (is_before part.start part.end)
unfolding Shape
shape-full part s = ap not ((λ t. not_after (s.4 t) (s.3 t)) ∙ later-offset s.0 s.1 s.2 s.5)

-- the order is transitive
pub not_after-trans : (p q r : List ℕ) → not_after p q ≡ true → not_after q r ≡ true → not_after p r ≡ true
not_after-trans [] q r h g = not_after-none r
not_after-trans (x ∷ p) [] r h g = absurd (false≢true h)
not_after-trans (x ∷ p) (y ∷ q) [] h g = absurd (false≢true g)
not_after-trans (x ∷ p) (y ∷ q) (z ∷ r) h g =
    not_after-cons x z p r ∙ step x y z (not_after p q) (not_after q r) (not_after p r) (sym (not_after-cons x y p q) ∙ h) (sym (not_after-cons y z q r)
    ∙ g) (not_after-trans p q r)
  where
    step : (x y z : ℕ) (a b c : Bool) → (nat_lt x y || (x == y && a)) ≡ true → (nat_lt y z || (y == z && b)) ≡ true → (a ≡ true → b ≡ true → c ≡ true)
        → (nat_lt x z || (x == z && c)) ≡ true
    step x y z a b c h g f = grind (arith, nat_tests)

-- all ranges end not behind an offset; all start not before it
EndBy : ℕ → Range → Type 0
EndBy n part = IsTrue (not_after part.end (n ∷ []))

StartFrom : ℕ → Range → Type 0
StartFrom n part = IsTrue (not_after (n ∷ []) part.start)

order-join : (n : ℕ) (xs ys : List Range) → IsInOrder xs → IsInOrder ys → All (EndBy n) xs → All (StartFrom n) ys → IsInOrder (xs ++ ys)
unfolding EndBy StartFrom
order-join n [] ys a b ends starts = b
order-join n (x ∷ xs) ys a b ends starts = (
  All-append (λ later. IsTrue (not_after x.end later.start)) xs ys a.0
      (All-weaker (StartFrom n) (λ later. IsTrue (not_after x.end later.start))
      (λ later s. not_after-trans x.end (n ∷ []) later.start (All-head (EndBy n) x xs ends) s) ys starts),
  order-join n xs ys a.1 b (All-tail (EndBy n) x xs ends) starts,
)

order-under : (i : ℕ) (parts : List Range) → IsInOrder parts → IsInOrder (map (under i) parts)
order-under i [] h = tt
order-under i (x ∷ xs) h = (
  All-map (λ later. IsTrue (not_after (i ∷ x.end) later.start)) (under i) xs
      (All-weaker (λ later. IsTrue (not_after x.end later.start)) (λ later. IsTrue (not_after (i ∷ x.end) (i ∷ later.start)))
      (λ later s. not_after-same i x.end later.start true s) xs h.0),
  order-under i xs h.1,
)

order-run : (a b : ℕ) → IsInOrder (run a b)
order-run a b = go (nat_lt a b)
  where
    go : (t : Bool) → IsInOrder (if t then between (a ∷ []) (b ∷ []) ∷ [] else [])
    go true = (All-nil (λ later. IsTrue (not_after (b ∷ []) later.start)), tt)
    go false = tt

ends-under : (i n : ℕ) (parts : List Range) → i < n → All (EndBy n) (map (under i) parts)
unfolding EndBy
ends-under i n parts less =
    All-map (EndBy n) (under i) parts (λ k d h. not_after-cons i n (get_or parts k d).end [] ∙ step i n (not_after (get_or parts k d).end []) less)
  where
    step : (i n : ℕ) (b : Bool) → i < n → (nat_lt i n || (i == n && b)) ≡ true
    step i n b less = grind (arith, nat_tests)

ends-run : (a b : ℕ) → All (EndBy b) (run a b)
unfolding EndBy
ends-run a b = go (nat_lt a b)
  where
    go : (t : Bool) → All (EndBy b) (if t then between (a ∷ []) (b ∷ []) ∷ [] else [])
    go true = All-cons (EndBy b) (between (a ∷ []) (b ∷ [])) [] (not_after-same b [] [] true refl) (All-nil (EndBy b))
    go false = All-nil (EndBy b)

starts-under : (j n : ℕ) (parts : List Range) → n ≤ j → All (StartFrom n) (map (under j) parts)
unfolding StartFrom
starts-under j n parts below =
    All-map (StartFrom n) (under j) parts (λ k d h. not_after-cons n j [] (get_or parts k d).start
    ∙ step n j (not_after [] (get_or parts k d).start) below (not_after-none (get_or parts k d).start))
  where
    step : (n j : ℕ) (b : Bool) → n ≤ j → b ≡ true → (nat_lt n j || (n == j && b)) ≡ true
    step n j b below e = grind (arith, nat_tests)

starts-run : (n a b : ℕ) → n ≤ a → All (StartFrom n) (run a b)
unfolding StartFrom
starts-run n a b below = go (nat_lt a b)
  where
    go : (t : Bool) → All (StartFrom n) (if t then between (a ∷ []) (b ∷ []) ∷ [] else [])
    go true = All-cons (StartFrom n) (between (a ∷ []) (b ∷ [])) [] (not_after-cons n a [] [] ∙ grind (arith, nat_tests)) (All-nil (StartFrom n))
    go false = All-nil (StartFrom n)

-- what is behind a start in an item comes before what is behind that item
order-front : (counts : List ℕ → Option ℕ) (i n : ℕ) (p : List ℕ) → IsInOrder (parts_behind (counts_under i counts) p)
    → IsInOrder (map (under i) (parts_behind (counts_under i counts) p) ++ run (next_offset i p) n)
order-front counts i n [] h = order-run i n
order-front counts i n (next ∷ p) h =
    order-join (i + 1) (map (under i) (parts_behind (counts_under i counts) (next ∷ p))) (run (i + 1) n)
    (order-under i (parts_behind (counts_under i counts) (next ∷ p)) h) (order-run (i + 1) n)
    (ends-under i (i + 1) (parts_behind (counts_under i counts) (next ∷ p)) (omega arith)) (starts-run (i + 1) (i + 1) n (omega arith))

order-behind : (counts : List ℕ → Option ℕ) (p : List ℕ) → IsInOrder (parts_behind counts p)
order-behind counts [] = tt
order-behind counts (i ∷ p) = order-front counts i (unwrap_or (counts []) 0) p (order-behind (counts_under i counts) p)

order-before : (q : List ℕ) → IsInOrder (parts_before q)
order-before [] = tt
order-before (j ∷ q) =
    order-join j (run 0 j) (map (under j) (parts_before q)) (order-run 0 j) (order-under j (parts_before q) (order-before q)) (ends-run 0 j)
    (starts-under j j (parts_before q) (omega arith))

-- all parts up to the item of the end end before it
ends-front : (counts : List ℕ → Option ℕ) (i j : ℕ) (p : List ℕ) → i < j
    → All (EndBy j) (map (under i) (parts_behind (counts_under i counts) p) ++ run (next_offset i p) j)
ends-front counts i j p less =
    All-append (EndBy j) (map (under i) (parts_behind (counts_under i counts) p)) (run (next_offset i p) j)
    (ends-under i j (parts_behind (counts_under i counts) p) less) (ends-run (next_offset i p) j)

order-between : (counts : List ℕ → Option ℕ) (p q : List ℕ) → not_after p q ≡ true → IsInOrder (parts_between counts p q)
order-between counts [] q below = order-before q
order-between counts (i ∷ p) [] below = tt
order-between counts (i ∷ p) (j ∷ q) below = go (i == j) refl (λ e. order-between (counts_under i counts) p q (later i j (not_after p q) ordered e))
  where
    ordered : (nat_lt i j || (i == j && not_after p q)) ≡ true
    ordered = sym (not_after-cons i j p q) ∙ below

    later : (i j : ℕ) (b : Bool) → (nat_lt i j || (i == j && b)) ≡ true → i ≡ j → b ≡ true
    later i j b h e = grind (arith, nat_tests)

    go : (t : Bool) → t ≡ (i == j) → (i ≡ j → IsInOrder (parts_between (counts_under i counts) p q))
        → IsInOrder (if t then map (under i) (parts_between (counts_under i counts) p q)
        else map (under i) (parts_behind (counts_under i counts) p) ++ (run (next_offset i p) j ++ map (under j) (parts_before q)))
    go true e h = (let same : i ≡ j = grind (arith, nat_tests) in order-under i (parts_between (counts_under i counts) p q) (h same))
    go false e h =
        let less : i < j = grind (arith, nat_tests, ordered) in
        let front = map (under i) (parts_behind (counts_under i counts) p) in
        let middle = run (next_offset i p) j in
        let back = map (under j) (parts_before q) in
        subst IsInOrder (append_assoc front middle back)
        (order-join j (front ++ middle) back (order-front counts i j p (order-behind (counts_under i counts) p))
        (order-under j (parts_before q) (order-before q))
        (ends-front counts i j p less) (starts-under j j (parts_before q) (omega arith)))

at-item : (counts : List ℕ → Option ℕ) (path : List ℕ) → IsItem counts path → At counts (parent_of path) (offset_of path)
at-item counts path h = h.1

item-at : (counts : List ℕ → Option ℕ) (parent : List ℕ) (k : ℕ) → At counts parent k → IsItem counts (parent ++ k ∷ [])
item-at counts parent k h = (
  push-some parent k,
  subst (λ above. IsSomeAnd (counts above) (λ count. offset_of (parent ++ k ∷ []) < count)) (sym (parent_of-push parent k))
      (subst (λ index. IsSomeAnd (counts parent) (λ count. index < count)) (sym (offset_of-push parent k)) h),
)

cover-exact : (counts : List ℕ → Option ℕ) (range : Range) → Coherent counts → IsTrue (not_after range.start range.end)
    → (path : List ℕ) → IsItem counts path → any_holds (flat_parts counts range) path ≡ holds range path
cover-exact counts range tree ordered path item =
    let e = path-joined path item.0 in
    subst (λ p. any_holds (flat_parts counts range) p ≡ holds range p) (sym e)
    (any_holds-push (flat_parts counts range) (parent_of path) (offset_of path)
    ∙ between-has counts range.start range.end (parent_of path) (offset_of path) tree item.1 ordered
    ∙ sym (holds-push range (parent_of path) (offset_of path)))

-- flat ranges of which one has an item of a parent: one is in that parent, or one has an item on the way there
found : (others : List Range) (home : List ℕ) (k : ℕ) → All IsFlat others → any_has others home k ≡ true
    → Among home (map (λ (part : Range). parent_of part.start) others)
    ⊎ ((x : List ℕ) × (y : ℕ) × (z : List ℕ) × (home ≡ x ++ y ∷ z) × (any_has others x y ≡ true))
found [] home k flat h = absurd (false≢true h)
found (part ∷ others) home k flat h = go (has part.start part.end home k) refl (found others home k (All-tail IsFlat part others flat))
  where
    some : (a b : Bool) → a ≡ true → (a || b) ≡ true
    some true b e = refl
    some false b e = absurd (false≢true e)

    more : (a b : Bool) → b ≡ true → (a || b) ≡ true
    more true b e = refl
    more false b e = e

    rest : (a b : Bool) → false ≡ a → (a || b) ≡ true → b ≡ true
    rest a b e h = sym (ap (λ c. c || b) (sym e)) ∙ h

    go : (t : Bool) → t ≡ has part.start part.end home k
        → (any_has others home k ≡ true → Among home (map (λ (part : Range). parent_of part.start) others)
        ⊎ ((x : List ℕ) × (y : ℕ) × (z : List ℕ) × (home ≡ x ++ y ∷ z) × (any_has others x y ≡ true)))
        → Among home (map (λ (part : Range). parent_of part.start) (part ∷ others))
        ⊎ ((x : List ℕ) × (y : ℕ) × (z : List ℕ) × (home ≡ x ++ y ∷ z) × (any_has (part ∷ others) x y ≡ true))
    go true e inner = elim (reach part.start part.end home k (All-head IsFlat part others flat) (sym e)) [
      | inl f ↦ inl (inl (sym f))
      | inr r ↦ inr (r.0, r.1, r.2, r.3, some (has part.start part.end r.0 r.1) (any_has others r.0 r.1) r.4)
    ]
    go false e inner = elim (inner (rest (has part.start part.end home k) (any_has others home k) e h)) [
      | inl m ↦ inl (inr m)
      | inr r ↦ inr (r.0, r.1, r.2, r.3, more (has part.start part.end r.0 r.1) (any_has others r.0 r.1) r.4)
    ]

-- a parent of the parts is one of the parents of any flat ranges with the same items
home-found : (counts : List ℕ → Option ℕ) (range : Range) (others : List Range) (home : List ℕ) → Coherent counts → IsFlatCover counts range others
    → Good counts range.start range.end home → Among home (map (λ (part : Range). parent_of part.start) others)
home-found counts range others home tree cover good =
    elim (found others home good.0 cover.flat (same home good.0 good.1 ∙ good.2)) [
      | inl m ↦ m
      | inr r ↦ (let at : At counts r.0 r.1 =
          below-at (counts r.0) r.1 (tree r.0 r.1 r.2 (subst (λ h. IsSome (counts h)) r.3 (at-some (counts home) good.0 good.1))) in
          absurd (false≢true (sym (good.3 r.0 r.1 r.2 r.3) ∙ (sym (same r.0 r.1 at) ∙ r.4))))
    ]
  where
    same : (parent : List ℕ) (k : ℕ) → At counts parent k → any_has others parent k ≡ has range.start range.end parent k
    same parent k at = sym (any_holds-push others parent k) ∙ cover.exact (parent ++ k ∷ []) (item-at counts parent k at) ∙ holds-push range parent k

minimal : (counts : List ℕ → Option ℕ) (range : Range) → Coherent counts → IsRange counts range → IsMinimalCover counts range (flat_parts counts range)
minimal counts range tree h = record {
  cover = record {
    flat = All-weaker Shape IsFlat shape-flat (flat_parts counts range) (shapes-between counts range.start range.end);
    exact = cover-exact counts range tree h.2;
  };
  ordered = order-between counts range.start range.end h.2;
  full = All-weaker Shape (λ part. IsTrue (is_before part.start part.end)) shape-full (flat_parts counts range) (shapes-between counts range.start range.end);
  fewest = λ others cover.
      let homes = homes_between counts range.start range.end in
      let parents = map (λ (part : Range). parent_of part.start) others in
      let few = no_fewer homes parents (distinct-between counts range.start range.end)
      (λ home m. home-found counts range others home tree cover (good-between counts range.start range.end home (fits-place counts range.end tree h.1.1)
      h.2 m)) in
      omega (arith, length-between counts range.start range.end, few, length-map others (λ (part : Range). parent_of part.start));
}

-- the flat parts of a range of items are the minimal flat ranges with its items
pub flat_parts-minimal : (items : List Item) (range : Range) → IsRange (child_count items) range
    → IsMinimalCover (child_count items) range (flat_parts (child_count items) range)
flat_parts-minimal items range h = minimal (child_count items) range (λ above. coherent-items above items) h
