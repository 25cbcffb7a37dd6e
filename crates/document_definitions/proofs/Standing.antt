-- Items that stand at a path, number by number, and what leaves them in the tree.
use Rattle.std.proofs.Common.{◌≡◌, ◌≢◌, ℕ, zero, suc, ◌+◌, ◌-◌, ◌<◌, ◌≤◌, inl, inr, Bool, true, false, ◌&&◌, nat_lt, nat_le, ◌==◌, if◌then◌else◌, List, [], ◌∷◌}
use Rattle.std.proofs.Common.{◌++◌, length, take, drop, Some, None, option_map, option_and_then, slice_get, refl, sym, ap, ◌∙◌, subst, arith, length-take}
use Rattle.std.specs.Prelude.{⊤}
use Rattle.std.proofs.lemmas.Bool.Decides.{nat_tests}
use Rattle.std.proofs.lemmas.List.{take-append-drop}
use Rattle.item_definitions.specs.Item.{Item, inner, with_inner}
use Rattle.item_definitions.specs.Children.{Change, item_at, at}
use Rattle.item_definitions.specs.Shift.{to_next, within, rest_behind, comes_before, rule_insert, rule_remove, rule_split, rule_merge}
use Rattle.operation_definitions.specs.Level.{put_in, take_out, split_at, merge_at}
use Rattle.operation_definitions.proofs.Lifting.{map-some, then-some}
use Rattle.operation_definitions.proofs.Moves.{decide, within-same, within-other, insert-is, before-le}
use Rattle.document_definitions.proofs.Inside.{in_at, through, offset-stays}
use Rattle.document_definitions.proofs.Parted.{Parted, get-back, get-before, get-behind}
use Rattle.operation_definitions.proofs.Stays.{get-front}
use Rattle.document_definitions.proofs.Kept.{parted-in, parted-out}
use Rattle.document_definitions.proofs.Halves.{IsShell, Halves, halves, Joined, joined, get-some}

-- what an item has, its own items apart, is told by a function
abbrev pub IsOfHead : (Item → Item) → Type 0
IsOfHead head = (items : List Item) (item : Item) → head (with_inner items item) ≡ head item

-- an item of which that is told stands at a path
abbrev pub Stands : (Item → Item) → List Item → List ℕ → Item → Type 0
Stands head xs [] told = ¬ ⊤
Stands head xs (index ∷ []) told = option_map head (slice_get xs index) ≡ Some told
Stands head xs (index ∷ next ∷ path) told = (items : List Item) × (in_at xs index ≡ Some items) × Stands head items (next ∷ path) told

pub stands-at : (head : Item → Item) (xs ys : List Item) (i j : ℕ) (path : List ℕ) (told : Item) → slice_get ys j ≡ slice_get xs i
    → Stands head xs (i ∷ path) told → Stands head ys (j ∷ path) told
stands-at head xs ys i j [] told same h = ap (option_map head) same ∙ h
stands-at head xs ys i j (next ∷ path) told same h = (h.0, ap (option_and_then inner) same ∙ h.1, h.2)

pub stands-in : (head : Item → Item) (xs items : List Item) (i : ℕ) (path : List ℕ) (told : Item) → in_at xs i ≡ Some items
    → Stands head items path told → Stands head xs (i ∷ path) told
stands-in head xs items i [] told there h = absurd (h tt)
stands-in head xs items i (next ∷ path) told there h = (items, there, h)

-- the two ways to say it
pub item-stands : (head : Item → Item) (xs : List Item) (path : List ℕ) (item : Item) → item_at path xs ≡ Some item → Stands head xs path (head item)
item-stands head xs [] item e = absurd cc
item-stands head xs (i ∷ []) item e = ap (option_map head) e
item-stands head xs (i ∷ next ∷ path) item e =
    let a = then-some (λ item. option_and_then (item_at (next ∷ path)) (inner item)) (slice_get xs i) item e in
    let b = then-some (item_at (next ∷ path)) (inner a.0) item a.2 in
    (b.0, ap (option_and_then inner) a.1 ∙ b.1, item-stands head b.0 (next ∷ path) item b.2)

pub stands-item : (head : Item → Item) (xs : List Item) (path : List ℕ) (told : Item) → Stands head xs path told → option_map head (item_at path xs) ≡ Some told
stands-item head xs [] told h = absurd (h tt)
stands-item head xs (i ∷ []) told h = h
stands-item head xs (i ∷ next ∷ path) told h =
    let a = then-some inner (slice_get xs i) h.0 h.1 in
    ap (λ o. option_map head (option_and_then (λ item. option_and_then (item_at (next ∷ path)) (inner item)) o)) a.1
    ∙ ap (λ o. option_map head (option_and_then (item_at (next ∷ path)) o)) a.2 ∙ stands-item head h.0 (next ∷ path) told h.2

-- what is left of a path behind the parent's is one that a rule keeps
abbrev pub Keeps : (List ℕ → Type 0) → List ℕ → List ℕ → Type 0
Keeps Kept parent path = (rest : List ℕ) → rest_behind parent path ≡ Some rest → Kept rest

rest-more : (s : ℕ) (parent path rest : List ℕ) → rest_behind parent path ≡ Some rest → rest_behind (s ∷ parent) (s ∷ path) ≡ Some rest
rest-more s parent path rest e = ap (λ t. if t then rest_behind parent path else None) (own s) ∙ e
  where
    own : (s : ℕ) → (s == s) ≡ true
    own s = grind (arith, nat_tests)

-- A change of one list that keeps items keeps them in the tree when it is made in the element at a path.
pub keeps : {R : Type 0} (head : Item → Item) → IsOfHead head → (parent : List ℕ) (change : Change R) (rule : List ℕ → List ℕ) (Kept : List ℕ → Type 0)
    → rule [] ≡ []
    → (r : R) → ((xs ys : List Item) (path : List ℕ) (told : Item) → change xs ≡ Some (ys, r) → Kept path → Stands head xs path told
    → Stands head ys (rule path) told)
    → (xs ys : List Item) (path : List ℕ) (told : Item) → at parent change xs ≡ Some (ys, r) → Keeps Kept parent path → Stands head xs path told
    → Stands head ys (within parent rule path) told
keeps head apart [] change rule Kept none r level xs ys path told e kept h = level xs ys path told e (kept path refl) h
keeps head apart (s ∷ parent) change rule Kept none r level xs ys [] told e kept h = absurd (h tt)
keeps head apart (s ∷ parent) change rule Kept none r level xs ys (o ∷ []) told e kept h =
    let t = through xs s (at parent change) ys r e in
    subst (λ p. Stands head ys p told) (sym (offset-stays s o parent rule none))
    (elim (decide s o) [
      | inl same ↦ ap (λ k. option_map head (slice_get ys k)) (sym same) ∙ ap (option_map head) t.then_found ∙ ap Some (apart t.new t.item)
          ∙ sym (ap (option_map head) t.found) ∙ ap (λ k. option_map head (slice_get xs k)) same ∙ h
      | inr differ ↦ stands-at head xs ys o o [] told (t.others o differ) h
    ])
keeps head apart (s ∷ parent) change rule Kept none r level xs ys (i ∷ next ∷ path) told e kept h =
    let t = through xs s (at parent change) ys r e in
    elim (decide s i) [
      | inl same ↦ (let there : in_at xs s ≡ Some h.0 = ap (in_at xs) same ∙ h.1 in
          let items : h.0 ≡ t.items = (let f : Some h.0 ≡ Some t.items = sym there ∙ t.there in cc) in
          let below : Keeps Kept parent (next ∷ path) =
          λ rest f. kept rest (subst (λ v. rest_behind (s ∷ parent) (v ∷ next ∷ path) ≡ Some rest) same (rest-more s parent (next ∷ path) rest f)) in
          let deep : Stands head t.new (within parent rule (next ∷ path)) told =
          keeps head apart parent change rule Kept none r level t.items t.new (next ∷ path) told t.made below
          (subst (λ is. Stands head is (next ∷ path) told) items h.2) in
          subst (λ p. Stands head ys p told) (sym (ap (λ v. within (s ∷ parent) rule (v ∷ next ∷ path)) (sym same) ∙ within-same s parent (next ∷ path) rule))
          (stands-in head ys t.new s (within parent rule (next ∷ path)) told t.then_there deep))
      | inr differ ↦ subst (λ p. Stands head ys p told) (sym (within-other s i parent (next ∷ path) rule differ))
          (stands-at head xs ys i i (next ∷ path) told (t.others i differ) h)
    ]

-- items that come in
pub insert-stands : (head : Item → Item) (offset : ℕ) (new xs ys : List Item) (r : Unit {0}) (path : List ℕ) (told : Item) → put_in offset new xs
    ≡ Some (ys, r) → Stands head xs path told
    → Stands head ys (rule_insert offset (length new) to_next path) told
insert-stands head offset new xs ys r [] told e h = absurd (h tt)
insert-stands head offset new xs ys r (i ∷ path) told e h =
    subst (λ p. Stands head ys p told) (sym (insert-is offset (length new) i path)) (go (nat_le offset i) refl (parted-in offset new xs ys r e))
  where
    go : (t : Bool) → t ≡ nat_le offset i → Parted offset 0 xs ys [] new → Stands head ys ((if t then i + length new else i) ∷ path) told
    go true t p =
        let least : offset ≤ i = grind (arith, nat_tests) in
        stands-at head xs ys i (i + length new) path told (get-behind p i (i + length new) (i - offset) (omega (arith, least)) (omega (arith, least))) h
    go false t p = stands-at head xs ys i i path told (get-before p i (grind (arith, nat_tests))) h

-- an offset, or an item with a path behind it, is in `count` items behind another one
abbrev pub is_of_run : ℕ → ℕ → List ℕ → Bool
is_of_run offset count [] = false
is_of_run offset count (number ∷ path) = nat_le offset number && nat_lt number (offset + count)

-- items that go
pub remove-stands : (head : Item → Item) (offset count : ℕ) (xs ys gone : List Item) (path : List ℕ) (told : Item) → take_out offset count xs
    ≡ Some (ys, gone) → is_of_run offset count path ≡ false
    → Stands head xs path told → Stands head ys (rule_remove offset count path) told
remove-stands head offset count xs ys gone [] told e kept h = absurd (h tt)
remove-stands head offset count xs ys gone (i ∷ path) told e kept h = go (nat_le (offset + count) i) refl (nat_le offset i) refl
    (parted-out offset count xs ys gone e)
  where
    go : (t : Bool) → t ≡ nat_le (offset + count) i → (u : Bool) → u ≡ nat_le offset i → Parted offset count xs ys gone []
        → Stands head ys (if t then (i - count) ∷ path else (if u then offset ∷ [] else i ∷ path)) told
    go true t u s p =
        let least : offset + count ≤ i = grind (arith, nat_tests) in
        stands-at head xs ys i (i - count) path told (get-behind p i (i - count) (i - (offset + count)) (omega (arith, least)) (omega (arith, least))) h
    go false t true s p =
        let less : i < offset + count = grind (arith, nat_tests) in
        let most : offset + count ≤ i = out i offset count kept s in
        absurd (omega (arith, less, most))
      where
        out : (i offset count : ℕ) → (nat_le offset i && nat_lt i (offset + count)) ≡ false → true ≡ nat_le offset i → offset + count ≤ i
        out i offset count k s = grind (arith, nat_tests)
    go false t false s p = stands-at head xs ys i i path told (get-before p i (grind (arith, nat_tests))) h

-- an element that is split
pub split-stands : (head : Item → Item) → IsOfHead head → (element at : ℕ) (shell : Item → Item) → IsShell shell
    → (xs ys : List Item) (r : Item) (path : List ℕ) (told : Item) → split_at element at shell xs ≡ Some (ys, r)
    → Stands head xs path told → Stands head ys (rule_split element at to_next path) told
split-stands head apart element at shell bare xs ys r [] told e h = absurd (h tt)
split-stands head apart element at shell bare xs ys r (o ∷ []) told e h = go (o == element) refl (nat_lt element o) refl
    (halves element at shell bare xs ys r e)
  where
    go : (t : Bool) → t ≡ (o == element) → (u : Bool) → u ≡ nat_lt element o → Halves element at xs ys
        → Stands head ys (if t then element ∷ [] else (if u then o + 1 else o) ∷ []) told
    go true t u v s =
        let same : o ≡ element = grind (arith, nat_tests) in
        ap (option_map head) s.then_found ∙ ap Some (apart (take at s.items) s.item) ∙ sym (ap (option_map head) s.found)
        ∙ ap (λ k. option_map head (slice_get xs k)) (sym same) ∙ h
    go false t true v s = stands-at head xs ys o (o + 1) [] told (s.behind o (grind (arith, nat_tests))) h
    go false t false v s = stands-at head xs ys o o [] told (s.before o (grind (arith, nat_tests))) h
split-stands head apart element at shell bare xs ys r (i ∷ k ∷ path) told e h = go (i == element) refl (nat_lt element i) refl
    (halves element at shell bare xs ys r e)
  where
    cut : Halves element at xs ys → i ≡ element → (t : Bool) → nat_le at k ≡ t
        → Stands head ys (if t then (element + 1) ∷ (k - at) ∷ path else element ∷ k ∷ path) told
    cut s same t test =
        let items : h.0 ≡ s.items = (let f : Some h.0 ≡ Some s.items = sym h.1 ∙ ap (in_at xs) same ∙ s.there in cc) in
        let below = subst (λ is. Stands head is (k ∷ path) told) items h.2 in
        let long : length (take at s.items) ≡ at = (let fits = s.fits in omega (arith, length-take at s.items, fits)) in
        halve s t test below long
      where
        halve : (s : Halves element at xs ys) (t : Bool) → nat_le at k ≡ t → Stands head s.items (k ∷ path) told → length (take at s.items) ≡ at
            → Stands head ys (if t then (element + 1) ∷ (k - at) ∷ path else element ∷ k ∷ path) told
        halve s true test below long =
            let least : at ≤ k = grind (arith, nat_tests) in
            stands-in head ys (drop at s.items) (element + 1) ((k - at) ∷ path) told s.right
            (stands-at head s.items (drop at s.items) k (k - at) path told
            (sym (get-back (take at s.items) (drop at s.items) k (k - at) (omega (arith, least, long)))
            ∙ ap (λ zs. slice_get zs k) (take-append-drop at s.items)) below)
        halve s false test below long =
            let less : k < at = grind (arith, nat_tests) in
            stands-in head ys (take at s.items) element (k ∷ path) told s.left
            (stands-at head s.items (take at s.items) k k path told
            (sym (get-front (take at s.items) (drop at s.items) k (omega (arith, less, long))) ∙ ap (λ zs. slice_get zs k) (take-append-drop at s.items)) below)

    go : (t : Bool) → t ≡ (i == element) → (u : Bool) → u ≡ nat_lt element i → Halves element at xs ys
        → Stands head ys (if t then (if comes_before at to_next k path then (element + 1) ∷ (k - at) ∷ path else element ∷ k ∷ path)
        else (if u then i + 1 else i) ∷ k ∷ path) told
    go true t u v s =
        subst (λ b. Stands head ys (if b then (element + 1) ∷ (k - at) ∷ path else element ∷ k ∷ path) told) (sym (before-le at k path))
        (cut s (grind (arith, nat_tests)) (nat_le at k) refl)
    go false t true v s = stands-at head xs ys i (i + 1) (k ∷ path) told (s.behind i (grind (arith, nat_tests))) h
    go false t false v s = stands-at head xs ys i i (k ∷ path) told (s.before i (grind (arith, nat_tests))) h

there-less : (xs : List Item) (k : ℕ) (item : Item) → slice_get xs k ≡ Some item → k < length xs
there-less [] k item e = absurd cc
there-less (x ∷ xs) zero item e = omega arith
there-less (x ∷ xs) (suc k) item e = (let rest = there-less xs k item e in omega (arith, rest))

stands-less : (head : Item → Item) (xs : List Item) (k : ℕ) (path : List ℕ) (told : Item) → Stands head xs (k ∷ path) told → k < length xs
stands-less head xs k [] told h = (let a = map-some head (slice_get xs k) told h in there-less xs k a.0 a.1)
stands-less head xs k (next ∷ path) told h = get-some xs k h.0 h.1

-- an element that is merged into the one before it; the element itself goes
pub merge-stands : (head : Item → Item) → IsOfHead head → (right : ℕ) (xs ys : List Item) (r : Item × ℕ) (path : List ℕ) (told : Item) → 0 < right
    → merge_at right xs ≡ Some (ys, r) → path ≢ right ∷ []
    → Stands head xs path told → Stands head ys (rule_merge right r.1 path) told
merge-stands head apart right xs ys r [] told some e kept h = absurd (h tt)
merge-stands head apart right xs ys r (o ∷ []) told some e kept h = go (o == right) refl (nat_lt right o) refl (joined right xs ys r some e)
  where
    near : Joined right r.1 xs ys → o < right → Stands head ys (o ∷ []) told
    near s less =
        elim (decide o (right - 1)) [
          | inl same ↦ ap (λ k. option_map head (slice_get ys k)) same ∙ ap (option_map head) s.then_found ∙ ap Some (apart (s.front ++ s.back) s.item)
              ∙ sym (ap (option_map head) s.found) ∙ ap (λ k. option_map head (slice_get xs k)) (sym same) ∙ h
          | inr differ ↦ stands-at head xs ys o o [] told (s.before o (below differ less)) h
        ]
      where
        below : ¬ (o ≡ right - 1) → o < right → o + 1 < right
        below differ less = grind arith

    go : (t : Bool) → t ≡ (o == right) → (u : Bool) → u ≡ nat_lt right o → Joined right r.1 xs ys
        → Stands head ys (if t then (right - 1) ∷ r.1 ∷ [] else (if u then o - 1 else o) ∷ []) told
    go true t u v s = (let same : o ≡ right = grind (arith, nat_tests) in absurd (kept (λ i. same i ∷ [])))
    go false t true v s = stands-at head xs ys o (o - 1) [] told (s.behind o (grind (arith, nat_tests))) h
    go false t false v s = near s (grind (arith, nat_tests))
merge-stands head apart right xs ys r (i ∷ k ∷ path) told some e kept h = go (i == right) refl (nat_lt right i) refl (joined right xs ys r some e)
  where
    near : Joined right r.1 xs ys → i < right → Stands head ys (i ∷ k ∷ path) told
    near s less =
        elim (decide i (right - 1)) [
          | inl same ↦ (let items : h.0 ≡ s.front = (let f : Some h.0 ≡ Some s.front = sym h.1 ∙ ap (in_at xs) same ∙ s.first in cc) in
              stands-in head ys (s.front ++ s.back) i (k ∷ path) told (ap (in_at ys) same ∙ s.one)
              (join-left s.front s.back (subst (λ is. Stands head is (k ∷ path) told) items h.2)))
          | inr differ ↦ stands-at head xs ys i i (k ∷ path) told (s.before i (below differ less)) h
        ]
      where
        below : ¬ (i ≡ right - 1) → i < right → i + 1 < right
        below differ less = grind arith

        join-left : (front back : List Item) → Stands head front (k ∷ path) told → Stands head (front ++ back) (k ∷ path) told
        join-left front back below = stands-at head front (front ++ back) k k path told
            (get-front front back k (stands-less head front k path told below)) below

    go : (t : Bool) → t ≡ (i == right) → (u : Bool) → u ≡ nat_lt right i → Joined right r.1 xs ys
        → Stands head ys (if t then (right - 1) ∷ (r.1 + k) ∷ path else (if u then i - 1 else i) ∷ k ∷ path) told
    go true t u v s =
        let same : i ≡ right = grind (arith, nat_tests) in
        let items : h.0 ≡ s.back = (let f : Some h.0 ≡ Some s.back = sym h.1 ∙ ap (in_at xs) same ∙ s.second in cc) in
        let below = subst (λ is. Stands head is (k ∷ path) told) items h.2 in
        let many = s.many in
        stands-in head ys (s.front ++ s.back) (right - 1) ((r.1 + k) ∷ path) told s.one
        (stands-at head s.back (s.front ++ s.back) k (r.1 + k) path told (get-back s.front s.back (r.1 + k) k (omega (arith, many))) below)
    go false t true v s = stands-at head xs ys i (i - 1) (k ∷ path) told (s.behind i (grind (arith, nat_tests))) h
    go false t false v s = near s (grind (arith, nat_tests))
