-- A split and a merge keep positions, by the rules for them.
use Rattle.std.proofs.Common.{◌≡◌, ℕ, zero, suc, ◌+◌, ◌-◌, ◌<◌, ◌≤◌, inl, inr, Bool, true, false, ◌&&◌, ◌||◌, nat_lt, nat_le, ◌==◌, if◌then◌else◌, List, []}
use Rattle.std.proofs.Common.{◌∷◌, ◌++◌, length, take, drop, Option, Some, None, option_and_then, slice_get, refl, sym, ap, ◌∙◌, subst, arith, length-append}
use Rattle.std.proofs.Common.{length-take, length-drop}
use Rattle.std.specs.Option.{option_map_or, option_map}
use Rattle.std.proofs.lemmas.Bool.Decides.{nat_tests}
use Rattle.std.proofs.lemmas.List.{take-append-drop}
use Rattle.item_definitions.specs.Item.{Item, inner, with_inner}
use Rattle.item_definitions.specs.Shift.{Stick, is_to_next, comes_before, rule_split, rule_merge}
use Rattle.operation_definitions.specs.Level.{one_item, split_item, split_at, merge_items, merge_at}
use Rattle.operation_definitions.proofs.Lifting.{map-some, then-some, inner-with_inner}
use Rattle.operation_definitions.proofs.Moves.{decide}
use Rattle.document_definitions.proofs.Inside.{Inside, in_at, inside-at, inside-in}
use Rattle.document_definitions.proofs.Parted.{replacing, get-back, lengths, room, get-before, get-behind, get-old, get-new}
use Rattle.operation_definitions.proofs.Stays.{get-front}

-- an element split in two
pub record Split (at : ℕ) (shell : Item → Item) (run new : List Item) : Type 0 where
  pub item : Item
  pub items : List Item
  pub one : run ≡ item ∷ []
  pub here : inner item ≡ Some items
  pub fits : at ≤ length items
  pub two : new ≡ with_inner (take at items) item ∷ with_inner (drop at items) (shell item) ∷ []

-- the two parts, where the test is true
abbrev parts : ℕ → Item → Item → List Item → Bool → Option (List Item × Item)
parts at shell item items true = Some (with_inner (take at items) item ∷ with_inner (drop at items) shell ∷ [], shell)
parts at shell item items false = None

as_parts : (at : ℕ) (shell item : Item) (items : List Item) (t : Bool)
    → ◌≡◌ {A = Option (List Item × Item)} (if t then Some (with_inner (take at items) item ∷ with_inner (drop at items) shell ∷ [], shell) else None)
    (parts at shell item items t)
as_parts at shell item items true = refl
as_parts at shell item items false = refl

cut-there : (at : ℕ) (shell item : Item) (items new : List Item) (r : Item) (t : Bool) → t ≡ nat_le at (length items) → parts at shell item items t
    ≡ Some (new, r)
    → (at ≤ length items) × (new ≡ with_inner (take at items) item ∷ with_inner (drop at items) shell ∷ [])
cut-there at shell item items new r true t e =
    (grind (arith, nat_tests), sym (ap (λ (o : Option (List Item × Item)). option_map_or (λ (m : List Item × Item). m.0) o []) e))
cut-there at shell item items new r false t e = absurd cc

pub split-parts : (at : ℕ) (shell : Item → Item) (run new : List Item) (r : Item) → one_item (λ item. split_item at (shell item) item) run
    ≡ Some (new, r) → Split at shell run new
split-parts at shell [] new r e = absurd cc
split-parts at shell (item ∷ next ∷ run) new r e = absurd cc
split-parts at shell (item ∷ []) new r e =
    let give : List Item → Option (List Item × Item) =
    λ children. if nat_le at (length children)
    then Some (with_inner (take at children) item ∷ with_inner (drop at children) (shell item) ∷ [], shell item) else None in
    let a = then-some give (inner item) (new, r) e in
    let g = cut-there at (shell item) item a.0 new r (nat_le at (length a.0)) refl (sym (as_parts at (shell item) item a.0 (nat_le at (length a.0))) ∙ a.2) in
    record { item = item; items = a.0; one = refl; here = a.1; fits = g.0; two = g.1 }

-- a position in an element is in the part of it that it comes to
behind-cut : (at : ℕ) (stick : Stick) (k : ℕ) (path : List ℕ) (items : List Item) → at ≤ length items → comes_before at stick k path ≡ true
    → Inside items (k ∷ path) → Inside (drop at items) ((k - at) ∷ path)
behind-cut at stick k [] items fits t h = omega (arith, h, length-drop at items)
behind-cut at stick k (next ∷ path) items fits t h =
    let least : at ≤ k = grind (arith, nat_tests) in
    let long : length (take at items) ≡ at = omega (arith, length-take at items, fits) in
    inside-at items (drop at items) k (k - at) next path
    (sym (get-back (take at items) (drop at items) k (k - at) (omega (arith, least, long))) ∙ ap (λ zs. slice_get zs k) (take-append-drop at items)) h

before-cut : (at : ℕ) (stick : Stick) (k : ℕ) (path : List ℕ) (items : List Item) → at ≤ length items → comes_before at stick k path ≡ false
    → Inside items (k ∷ path) → Inside (take at items) (k ∷ path)
before-cut at stick k [] items fits t h =
    let most : k ≤ at = not_behind (is_to_next stick) t in
    omega (arith, most, fits, length-take at items)
  where
    not_behind : (b : Bool) → (nat_lt at k || (at == k && b)) ≡ false → k ≤ at
    not_behind b t = grind (arith, nat_tests)
before-cut at stick k (next ∷ path) items fits t h =
    let less : k < at = grind (arith, nat_tests) in
    let within : k < length (take at items) = omega (arith, length-take at items, fits, less) in
    inside-at items (take at items) k k next path
    (sym (get-front (take at items) (drop at items) k within) ∙ ap (λ zs. slice_get zs k) (take-append-drop at items)) h

-- the shell is an element
abbrev pub IsShell : (Item → Item) → Type 0
IsShell shell = (item : Item) (items : List Item) → inner item ≡ Some items → (old : List Item) × (inner (shell item) ≡ Some old)

pub record Halves (element at : ℕ) (xs ys : List Item) : Type 0 where
  pub item : Item
  pub items : List Item
  pub fits : at ≤ length items
  pub found : slice_get xs element ≡ Some item
  pub then_found : slice_get ys element ≡ Some (with_inner (take at items) item)
  pub there : in_at xs element ≡ Some items
  pub left : in_at ys element ≡ Some (take at items)
  pub right : in_at ys (element + 1) ≡ Some (drop at items)
  pub long : length ys ≡ length xs + 1
  pub room : element < length xs
  pub before : (i : ℕ) → i < element → slice_get ys i ≡ slice_get xs i
  pub behind : (i : ℕ) → element < i → slice_get ys (i + 1) ≡ slice_get xs i

pub halves : (element at : ℕ) (shell : Item → Item) → IsShell shell → (xs ys : List Item) (r : Item) → split_at element at shell xs ≡ Some (ys, r)
    → Halves element at xs ys
halves element at shell bare xs ys r e =
    let p = replacing element 1 (one_item (λ item. split_item at (shell item) item)) xs ys r e in
    let s = split-parts at shell p.run p.new r p.gives in
    let two : length p.new ≡ 2 = ap length s.two in
    let l = lengths p.parted in
    let m = room p.parted in
    record {
      item = s.item;
      items = s.items;
      fits = s.fits;
      found = get-old p.parted element 0 (omega arith) (omega arith) ∙ ap (λ zs. slice_get zs 0) s.one;
      then_found = get-new p.parted element 0 (omega (arith, two)) (omega arith) ∙ ap (λ zs. slice_get zs 0) s.two;
      there = ap (option_and_then inner) (get-old p.parted element 0 (omega arith) (omega arith) ∙ ap (λ zs. slice_get zs 0) s.one) ∙ s.here;
      left = ap (option_and_then inner) (get-new p.parted element 0 (omega (arith, two)) (omega arith) ∙ ap (λ zs. slice_get zs 0) s.two)
          ∙ inner-with_inner s.item s.items (take at s.items) s.here;
      right = ap (option_and_then inner) (get-new p.parted (element + 1) 1 (omega (arith, two)) (omega arith) ∙ ap (λ zs. slice_get zs 1) s.two)
          ∙ inner-with_inner (shell s.item) (bare s.item s.items s.here).0 (drop at s.items) (bare s.item s.items s.here).1;
      long = omega (arith, two, l);
      room = omega (arith, m);
      before = get-before p.parted;
      behind = λ i less. get-behind p.parted i (i + 1) (i - (element + 1)) (omega (arith, less)) (omega (arith, less, two));
    }

pub split-keeps : (element at : ℕ) (shell : Item → Item) → IsShell shell → (stick : Stick) (xs ys : List Item) (r : Item) (position : List ℕ)
    → split_at element at shell xs ≡ Some (ys, r)
    → Inside xs position → Inside ys (rule_split element at stick position)
split-keeps element at shell bare stick xs ys r [] e h = absurd (h tt)
split-keeps element at shell bare stick xs ys r (o ∷ []) e h = go (o == element) (nat_lt element o) (halves element at shell bare xs ys r e)
  where
    go : (t u : Bool) → Halves element at xs ys → Inside ys (if t then element ∷ [] else (if u then o + 1 else o) ∷ [])
    go true u s = (let m = s.room in let l = s.long in omega (arith, m, l))
    go false true s = (let l = s.long in omega (arith, h, l))
    go false false s = (let l = s.long in omega (arith, h, l))
split-keeps element at shell bare stick xs ys r (i ∷ k ∷ path) e h = go (i == element) refl (nat_lt element i) refl (halves element at shell bare xs ys r e)
  where
    cut : Halves element at xs ys → i ≡ element → (t : Bool) → comes_before at stick k path ≡ t
        → Inside ys (if t then (element + 1) ∷ (k - at) ∷ path else element ∷ k ∷ path)
    cut s same true t =
        let items : h.0 ≡ s.items = (let f : Some h.0 ≡ Some s.items = sym h.1 ∙ ap (in_at xs) same ∙ s.there in cc) in
        inside-in ys (drop at s.items) (element + 1) ((k - at) ∷ path) s.right
        (behind-cut at stick k path s.items s.fits t (subst (λ is. Inside is (k ∷ path)) items h.2))
    cut s same false t =
        let items : h.0 ≡ s.items = (let f : Some h.0 ≡ Some s.items = sym h.1 ∙ ap (in_at xs) same ∙ s.there in cc) in
        inside-in ys (take at s.items) element (k ∷ path) s.left (before-cut at stick k path s.items s.fits t (subst (λ is. Inside is (k ∷ path)) items h.2))

    go : (t : Bool) → t ≡ (i == element) → (u : Bool) → u ≡ nat_lt element i → Halves element at xs ys
        → Inside ys (if t then (if comes_before at stick k path then (element + 1) ∷ (k - at) ∷ path else element ∷ k ∷ path)
        else (if u then i + 1 else i) ∷ k ∷ path)
    go true t u v s = cut s (grind (arith, nat_tests)) (comes_before at stick k path) refl
    go false t true v s = inside-at xs ys i (i + 1) k path (s.behind i (grind (arith, nat_tests))) h
    go false t false v s = inside-at xs ys i i k path (s.before i (grind (arith, nat_tests))) h

-- two elements merged into one
pub record Joined (right count : ℕ) (xs ys : List Item) : Type 0 where
  pub item : Item
  pub front : List Item
  pub back : List Item
  pub found : slice_get xs (right - 1) ≡ Some item
  pub then_found : slice_get ys (right - 1) ≡ Some (with_inner (front ++ back) item)
  pub first : in_at xs (right - 1) ≡ Some front
  pub second : in_at xs right ≡ Some back
  pub one : in_at ys (right - 1) ≡ Some (front ++ back)
  pub many : length front ≡ count
  pub long : length ys + 1 ≡ length xs
  pub room : right < length xs
  pub before : (i : ℕ) → i + 1 < right → slice_get ys i ≡ slice_get xs i
  pub behind : (i : ℕ) → right < i → slice_get ys (i - 1) ≡ slice_get xs i

pub record Merged (run new : List Item) (r : Item × ℕ) : Type 0 where
  pub left : Item
  pub other : Item
  pub front : List Item
  pub back : List Item
  pub two : run ≡ left ∷ other ∷ []
  pub first : inner left ≡ Some front
  pub second : inner other ≡ Some back
  pub one : new ≡ with_inner (front ++ back) left ∷ []
  pub many : length front ≡ r.1
  pub emptied : r.0 ≡ with_inner [] other

pub merged-parts : (run new : List Item) (r : Item × ℕ) → merge_items run ≡ Some (new, r) → Merged run new r
merged-parts [] new r e = absurd cc
merged-parts (left ∷ []) new r e = absurd cc
merged-parts (left ∷ other ∷ next ∷ run) new r e = absurd cc
merged-parts (left ∷ other ∷ []) new r e =
    let join : List Item → Option (List Item × (Item × ℕ)) =
    λ front. option_map (λ back. (with_inner (front ++ back) left ∷ [], (with_inner [] other, length front))) (inner other) in
    let a = then-some join (inner left) (new, r) e in
    let b = map-some (λ back. (with_inner (a.0 ++ back) left ∷ [], (with_inner [] other, length a.0))) (inner other) (new, r) a.2 in
    record {
      left = left;
      other = other;
      front = a.0;
      back = b.0;
      two = refl;
      first = a.1;
      second = b.1;
      one = sym (ap (λ (m : List Item × (Item × ℕ)). m.0) b.2);
      many = ap (λ (m : List Item × (Item × ℕ)). m.1.1) b.2;
      emptied = sym (ap (λ (m : List Item × (Item × ℕ)). m.1.0) b.2);
    }

pub joined : (right : ℕ) (xs ys : List Item) (r : Item × ℕ) → 0 < right → merge_at right xs ≡ Some (ys, r) → Joined right r.1 xs ys
joined right xs ys r some e =
    let p = replacing (right - 1) 2 merge_items xs ys r e in
    let s = merged-parts p.run p.new r p.gives in
    let one : length p.new ≡ 1 = ap length s.one in
    let l = lengths p.parted in
    let m = room p.parted in
    record {
      item = s.left;
      front = s.front;
      back = s.back;
      found = get-old p.parted (right - 1) 0 (omega arith) (omega arith) ∙ ap (λ zs. slice_get zs 0) s.two;
      then_found = get-new p.parted (right - 1) 0 (omega (arith, one)) (omega arith) ∙ ap (λ zs. slice_get zs 0) s.one;
      first = ap (option_and_then inner) (get-old p.parted (right - 1) 0 (omega arith) (omega arith) ∙ ap (λ zs. slice_get zs 0) s.two) ∙ s.first;
      second = ap (option_and_then inner) (get-old p.parted right 1 (omega arith) (omega (arith, some)) ∙ ap (λ zs. slice_get zs 1) s.two) ∙ s.second;
      one = ap (option_and_then inner) (get-new p.parted (right - 1) 0 (omega (arith, one)) (omega arith) ∙ ap (λ zs. slice_get zs 0) s.one)
          ∙ inner-with_inner s.left s.front (s.front ++ s.back) s.first;
      many = s.many;
      long = omega (arith, one, l);
      room = omega (arith, m, some);
      before = λ i less. get-before p.parted i (omega (arith, less));
      behind = λ i less. get-behind p.parted i (i - 1) (i - (right + 1)) (omega (arith, less, some)) (omega (arith, less, some, one));
    }

pub get-some : (xs : List Item) (i : ℕ) (items : List Item) → in_at xs i ≡ Some items → i < length xs
get-some [] i items e = absurd cc
get-some (x ∷ xs) zero items e = omega arith
get-some (x ∷ xs) (suc i) items e = (let rest = get-some xs i items e in omega (arith, rest))

-- a position in one of two lists that are put together
join-left : (front back : List Item) (k : ℕ) (path : List ℕ) → Inside front (k ∷ path) → Inside (front ++ back) (k ∷ path)
join-left front back k [] h = omega (arith, h, length-append front back)
join-left front back k (next ∷ path) h = inside-at front (front ++ back) k k next path (get-front front back k (get-some front k h.0 h.1)) h

join-right : (front back : List Item) (count k : ℕ) (path : List ℕ) → length front ≡ count → Inside back (k ∷ path)
    → Inside (front ++ back) ((count + k) ∷ path)
join-right front back count k [] e h = omega (arith, e, h, length-append front back)
join-right front back count k (next ∷ path) e h = inside-at back (front ++ back) k (count + k) next path
    (get-back front back (count + k) k (omega (arith, e))) h

pub merge-keeps : (right : ℕ) (xs ys : List Item) (r : Item × ℕ) (position : List ℕ) → 0 < right → merge_at right xs ≡ Some (ys, r) → Inside xs position
    → Inside ys (rule_merge right r.1 position)
merge-keeps right xs ys r [] some e h = absurd (h tt)
merge-keeps right xs ys r (o ∷ []) some e h = go (o == right) refl (nat_lt right o) refl (joined right xs ys r some e)
  where
    go : (t : Bool) → t ≡ (o == right) → (u : Bool) → u ≡ nat_lt right o → Joined right r.1 xs ys
        → Inside ys (if t then (right - 1) ∷ r.1 ∷ [] else (if u then o - 1 else o) ∷ [])
    go true t u v s = (let m = s.many in inside-in ys (s.front ++ s.back) (right - 1) (r.1 ∷ []) s.one (omega (arith, m, length-append s.front s.back)))
    go false t true v s = (let l = s.long in omega (arith, h, l))
    go false t false v s = (let l = s.long in let m = s.room in let less : o < right = grind (arith, nat_tests) in omega (arith, less, m, l))
merge-keeps right xs ys r (i ∷ k ∷ path) some e h = go (i == right) refl (nat_lt right i) refl (joined right xs ys r some e)
  where
    near : Joined right r.1 xs ys → i < right → Inside ys (i ∷ k ∷ path)
    near s less =
        elim (decide i (right - 1)) [
          | inl same ↦ (let items : h.0 ≡ s.front = (let f : Some h.0 ≡ Some s.front = sym h.1 ∙ ap (in_at xs) same ∙ s.first in cc) in
              inside-in ys (s.front ++ s.back) i (k ∷ path) (ap (in_at ys) same ∙ s.one)
              (join-left s.front s.back k path (subst (λ is. Inside is (k ∷ path)) items h.2)))
          | inr apart ↦ inside-at xs ys i i k path (s.before i (below apart less)) h
        ]
      where
        below : ¬ (i ≡ right - 1) → i < right → i + 1 < right
        below apart less = grind arith

    go : (t : Bool) → t ≡ (i == right) → (u : Bool) → u ≡ nat_lt right i → Joined right r.1 xs ys
        → Inside ys (if t then (right - 1) ∷ (r.1 + k) ∷ path else (if u then i - 1 else i) ∷ k ∷ path)
    go true t u v s =
        let same : i ≡ right = grind (arith, nat_tests) in
        let items : h.0 ≡ s.back = (let f : Some h.0 ≡ Some s.back = sym h.1 ∙ ap (in_at xs) same ∙ s.second in cc) in
        inside-in ys (s.front ++ s.back) (right - 1) ((r.1 + k) ∷ path) s.one
        (join-right s.front s.back r.1 k path s.many (subst (λ is. Inside is (k ∷ path)) items h.2))
    go false t true v s = inside-at xs ys i (i - 1) k path (s.behind i (grind (arith, nat_tests))) h
    go false t false v s = near s (grind (arith, nat_tests))
