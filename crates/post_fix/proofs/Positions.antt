-- The nearest position where text may stand, as it is found level by level.
use Rattle.std.proofs.Common.{◌≡◌, ℕ, zero, suc, ◌+◌, ◌<◌, ◌≤◌, nat_le, nat_lt, List, [], ◌∷◌, ◌++◌, length, reverse, cond, Bool, true, false, not, ◌&&◌, ◌||◌}
use Rattle.std.proofs.Common.{◌==◌, if◌then◌else◌, Option, Some, None, find, option_and_then, codes, refl, sym, ap, ◌∙◌, arith, append_assoc, append-nil}
use Rattle.std.specs.Option.{option_or, option_map_or}
use Rattle.std.proofs.lemmas.Bool.Decides.{nat_tests}
use Rattle.std.proofs.lemmas.List.{reverse-append}
use Rattle.std.proofs.lemmas.List.Folds.{find-append}
use Rattle.ck_base.proofs.Common.{and_false}
use Rattle.item_definitions.specs.Item.{Item, Items, Attributes, character, element, none, more, inner, list_of, items_of}
use Rattle.item_definitions.specs.Position.{not_after, is_before}
use Rattle.item_definitions.proofs.Order.{not_after-cons, not_after-none, not_after-same}
use Rattle.operation_definitions.proofs.Lifting.{list_of-items_of, items_of-list_of}
use Rattle.model_tree.specs.Parts.{HeadParts}
use Rattle.model_tree.specs.Places.{parts_of}
use Rattle.schema_definitions.specs.Allowed.{Rules, check_child}
use Rattle.breach_definitions.specs.Breach.{item_name}
use Rattle.breach_definitions.specs.Obeys.{names_on}
use Rattle.fix_definitions.specs.Selecting.{positions_in, positions_from, positions, may_hold_text, nearest_text}
use Rattle.post_fix.specs.Nearest.{allows, may_hold, element_parts, Stands, first_in, first_behind, first_here, first_from, last_in, last_ahead, last_before}

-- ---- tests and options

or_none : {A : Type 0} (o : Option A) → option_or o None ≡ o
or_none None = refl
or_none (Some x) = refl

or_assoc : {A : Type 0} (a b c : Option A) → option_or (option_or a b) c ≡ option_or a (option_or b c)
or_assoc None b c = refl
or_assoc (Some x) b c = refl

and_true : (b : Bool) → (b && true) ≡ b
and_true true = refl
and_true false = refl

module _ {A : Type 0} (test : A → Bool) where
  found_turned : (x : A) (xs : List A) → find test (reverse (x ∷ xs)) ≡ option_or (find test (reverse xs)) (cond (test x) (Some x) None)
  found_turned x xs = ap (find test) (reverse-append (x ∷ []) xs) ∙ find-append test (reverse xs) (x ∷ [])

  found_turned-append : (xs ys : List A) → find test (reverse (xs ++ ys)) ≡ option_or (find test (reverse ys)) (find test (reverse xs))
  found_turned-append xs ys = ap (find test) (reverse-append xs ys) ∙ find-append test (reverse ys) (reverse xs)

  none_turned : (xs : List A) → find test xs ≡ None → find test (reverse xs) ≡ None
  none_turned [] e = refl
  none_turned (x ∷ xs) e = go (none_turned xs) (test x) refl e
    where
      go : (find test xs ≡ None → find test (reverse xs) ≡ None) → (b : Bool) → test x ≡ b → cond b (Some x) (find test xs) ≡ None
          → find test (reverse (x ∷ xs)) ≡ None
      go rest true t e = absurd cc
      go rest false t e =
          found_turned x xs ∙ ap (λ o. option_or o (cond (test x) (Some x) None)) (rest e) ∙ ap (λ b. cond b (Some x) None) t

-- ---- document order, number by number

later_start : (index : ℕ) (start rest : List ℕ) → not_after (suc index ∷ start) (0 ∷ rest) ≡ false
later_start index start rest = not_after-cons (suc index) 0 start rest ∙ step (not_after start rest)
  where
    step : (b : Bool) → (nat_lt (suc index) 0 || (suc index == 0 && b)) ≡ false
    step b = grind (arith, nat_tests)

earlier_start : (k : ℕ) (start rest : List ℕ) → not_after (0 ∷ start) (suc k ∷ rest) ≡ true
earlier_start k start rest = not_after-cons 0 (suc k) start rest ∙ step (not_after start rest)
  where
    step : (b : Bool) → (nat_lt 0 (suc k) || (0 == suc k && b)) ≡ true
    step b = grind (arith, nat_tests)

both_next : (index k : ℕ) (start rest : List ℕ) → not_after (suc index ∷ start) (suc k ∷ rest) ≡ not_after (index ∷ start) (k ∷ rest)
both_next index k start rest =
    not_after-cons (suc index) (suc k) start rest ∙ step (not_after start rest) ∙ sym (not_after-cons index k start rest)
  where
    step : (b : Bool) → (nat_lt (suc index) (suc k) || (suc index == suc k && b)) ≡ (nat_lt index k || (index == k && b))
    step b = grind (arith, nat_tests)

from_first_on : (k : ℕ) (rest : List ℕ) → not_after (0 ∷ []) (k ∷ rest) ≡ true
from_first_on zero rest = not_after-same 0 [] rest ∙ not_after-none rest
from_first_on (suc k) rest = earlier_start k [] rest

below_first : (next : ℕ) (rest : List ℕ) → not_after (0 ∷ next ∷ rest) (0 ∷ []) ≡ false
below_first next rest = not_after-same 0 (next ∷ rest) []

module _ (rules : Rules) where
  names_later : (place : ℕ) (rest : List ℕ) (item : Item) (items : List Item) → names_on (suc place ∷ rest) (item ∷ items) ≡ names_on (place ∷ rest) items
  names_later place [] item items = refl
  names_later place (index ∷ rest) item items = refl

  -- text may stand at a position in an item
  abbrev may_in : List (List ℕ) → Item → List ℕ → Bool
  may_in names item position = check_child rules (names ++ item_name item ∷ option_map_or (names_on position) (inner item) []) (codes "$text")

  module _ (test : List ℕ → Bool) where
    -- what the test says of the positions among items, and in an item
    abbrev Says : List ℕ → ℕ → (ℕ → List ℕ → Bool) → Type 0
    Says path offset told = (k : ℕ) (rest : List ℕ) → test (path ++ (offset + k) ∷ rest) ≡ told k rest

    abbrev SaysIn : List ℕ → (ℕ → List ℕ → Bool) → Type 0
    SaysIn path told = (k : ℕ) (rest : List ℕ) → test (path ++ k ∷ rest) ≡ told k rest

    own : (path : List ℕ) (offset : ℕ) (told : ℕ → List ℕ → Bool) → Says path offset told → test (path ++ offset ∷ []) ≡ told 0 []
    own path offset told h = (let same : offset ≡ offset + 0 = omega arith in ap (λ n. test (path ++ n ∷ [])) same) ∙ h 0 []

    inside : (path : List ℕ) (offset : ℕ) (told : ℕ → List ℕ → Bool) → Says path offset told → SaysIn (path ++ offset ∷ []) (λ k rest. told 0 (k ∷ rest))
    inside path offset told h k rest =
        ap test (append_assoc path (offset ∷ []) (k ∷ rest))
        ∙ (let same : offset ≡ offset + 0 = omega arith in ap (λ n. test (path ++ n ∷ k ∷ rest)) same) ∙ h 0 (k ∷ rest)

    later : (path : List ℕ) (offset : ℕ) (told : ℕ → List ℕ → Bool) → Says path offset told → Says path (offset + 1) (λ k rest. told (suc k) rest)
    later path offset told h k rest =
        (let same : offset + 1 + k ≡ offset + suc k = omega arith in ap (λ n. test (path ++ n ∷ rest)) same) ∙ h (suc k) rest

    from_start : (path : List ℕ) (told : ℕ → List ℕ → Bool) → SaysIn path told → Says path 0 told
    from_start path told h k rest = (let same : 0 + k ≡ k = omega arith in ap (λ n. test (path ++ n ∷ rest)) same) ∙ h k rest

    -- ---- where the test says no

    mutual
      none_in : (path : List ℕ) (item : Item) → SaysIn path (λ k rest. false) → find test (positions_in path item) ≡ None
      none_in path (character scalar attributes) h = refl
      none_in path (element id name attributes children) h = none_from path 0 children (from_start path (λ k rest. false) h)

      none_from : (path : List ℕ) (offset : ℕ) (items : Items) → Says path offset (λ k rest. false) → find test (positions_from path offset items) ≡ None
      none_from path offset none h = ap (λ b. cond b (Some (path ++ offset ∷ [])) None) (own path offset (λ k rest. false) h)
      none_from path offset (more item items) h =
          ap (λ b. cond b (Some (path ++ offset ∷ [])) (find test (positions_in (path ++ offset ∷ []) item ++ positions_from path (offset + 1) items)))
          (own path offset (λ k rest. false) h)
          ∙ find-append test (positions_in (path ++ offset ∷ []) item) (positions_from path (offset + 1) items)
          ∙ (λ i. option_or (none_in (path ++ offset ∷ []) item (inside path offset (λ k rest. false) h) i)
          (none_from path (offset + 1) items (later path offset (λ k rest. false) h) i))

    -- ---- where text may stand, in all of some items

    abbrev Whole : List (List ℕ) → List ℕ → ℕ → Items → Type 0
    Whole names path offset items = Says path offset (λ k rest. may_hold rules names (list_of items) (k ∷ rest))

    own_is : (names : List (List ℕ)) (path : List ℕ) (offset : ℕ) (items : Items) → Whole names path offset items
        → test (path ++ offset ∷ []) ≡ allows rules names
    own_is names path offset items h =
        own path offset (λ k rest. may_hold rules names (list_of items) (k ∷ rest)) h ∙ ap (λ ns. check_child rules ns (codes "$text")) (append-nil names)

    whole_later : (names : List (List ℕ)) (path : List ℕ) (offset : ℕ) (item : Item) (items : Items) → Whole names path offset (more item items)
        → Whole names path (offset + 1) items
    whole_later names path offset item items h k rest =
        later path offset (λ k rest. may_hold rules names (item ∷ list_of items) (k ∷ rest)) h k rest
        ∙ ap (λ ns. check_child rules (names ++ ns) (codes "$text")) (names_later k rest item (list_of items))

    whole_inside : (names : List (List ℕ)) (path : List ℕ) (offset : ℕ) (item : Item) (items : Items) → Whole names path offset (more item items)
        → SaysIn (path ++ offset ∷ []) (λ k rest. may_in names item (k ∷ rest))
    whole_inside names path offset item items h = inside path offset (λ k rest. may_hold rules names (item ∷ list_of items) (k ∷ rest)) h

    whole_children : (names : List (List ℕ)) (path : List ℕ) (id : ℕ) (name : List ℕ) (attributes : Attributes) (children : Items)
        → SaysIn path (λ k rest. may_in names (element id name attributes children) (k ∷ rest)) → Whole (names ++ name ∷ []) path 0 children
    whole_children names path id name attributes children h k rest =
        from_start path (λ k rest. may_in names (element id name attributes children) (k ∷ rest)) h k rest
        ∙ ap (λ ns. check_child rules ns (codes "$text")) (sym (append_assoc names (name ∷ []) (names_on (k ∷ rest) (list_of children))))

    mutual
      whole_first_in : (names : List (List ℕ)) (path : List ℕ) (item : Item) → SaysIn path (λ k rest. may_in names item (k ∷ rest))
          → find test (positions_in path item) ≡ first_in rules names path item
      whole_first_in names path (character scalar attributes) h = refl
      whole_first_in names path (element id name attributes children) h =
          whole_first (names ++ name ∷ []) path 0 0 children (omega arith) (whole_children names path id name attributes children h)

      whole_first : (names : List (List ℕ)) (path : List ℕ) (from offset : ℕ) (items : Items) → from ≤ offset → Whole names path offset items
          → find test (positions_from path offset items)
          ≡ (if allows rules names then Some (path ++ offset ∷ []) else first_behind rules names path from offset items)
      whole_first names path from offset none most h = ap (λ b. cond b (Some (path ++ offset ∷ [])) None) (own_is names path offset none h)
      whole_first names path from offset (more item items) most h =
          ap (λ b. cond b (Some (path ++ offset ∷ [])) (find test (positions_in (path ++ offset ∷ []) item ++ positions_from path (offset + 1) items)))
          (own_is names path offset (more item items) h)
          ∙ go (whole_first_in names (path ++ offset ∷ []) item (whole_inside names path offset item items h))
          (whole_first names path from (offset + 1) items (omega (arith, most)) (whole_later names path offset item items h)) (allows rules names) refl
        where
          reached : nat_le from offset ≡ true
          reached = step from offset most
            where
              step : (i k : ℕ) → i ≤ k → nat_le i k ≡ true
              step i k less = grind (arith, nat_tests)

          go : find test (positions_in (path ++ offset ∷ []) item) ≡ first_in rules names (path ++ offset ∷ []) item
              → find test (positions_from path (offset + 1) items)
              ≡ (if allows rules names then Some (path ++ (offset + 1) ∷ []) else first_behind rules names path from (offset + 1) items)
              → (b : Bool) → allows rules names ≡ b
              → cond b (Some (path ++ offset ∷ [])) (find test (positions_in (path ++ offset ∷ []) item ++ positions_from path (offset + 1) items))
              ≡ cond b (Some (path ++ offset ∷ [])) (first_behind rules names path from offset (more item items))
          go here behind true a = refl
          go here behind false a =
              find-append test (positions_in (path ++ offset ∷ []) item) (positions_from path (offset + 1) items)
              ∙ (λ i. option_or (here i)
              ((behind ∙ ap (λ b. cond b (Some (path ++ (offset + 1) ∷ [])) (first_behind rules names path from (offset + 1) items)) a) i))
              ∙ ap (λ b. option_or (cond b (first_in rules names (path ++ offset ∷ []) item) None) (first_behind rules names path from (offset + 1) items))
              (sym reached)

    mutual
      whole_last_in : (names : List (List ℕ)) (path : List ℕ) (item : Item) → SaysIn path (λ k rest. may_in names item (k ∷ rest))
          → find test (reverse (positions_in path item)) ≡ last_in rules names path item
      whole_last_in names path (character scalar attributes) h = refl
      whole_last_in names path (element id name attributes children) h =
          whole_last (names ++ name ∷ []) path (length (list_of children)) 0 children (omega arith) (whole_children names path id name attributes children h)
          ∙ (let same : 0 + length (list_of children) ≡ length (list_of children) = omega arith in
          ap (λ n. if allows rules (names ++ name ∷ []) then Some (path ++ n ∷ [])
          else last_ahead rules (names ++ name ∷ []) path (length (list_of children)) 0 children) same)

      whole_last : (names : List (List ℕ)) (path : List ℕ) (upto offset : ℕ) (items : Items) → offset + length (list_of items) ≤ upto
          → Whole names path offset items
          → find test (reverse (positions_from path offset items))
          ≡ (if allows rules names then Some (path ++ (offset + length (list_of items)) ∷ []) else last_ahead rules names path upto offset items)
      whole_last names path upto offset none most h =
          ap (λ b. cond b (Some (path ++ offset ∷ [])) None) (own_is names path offset none h)
          ∙ (let same : offset ≡ offset + 0 = omega arith in ap (λ n. if allows rules names then Some (path ++ n ∷ []) else None) same)
      whole_last names path upto offset (more item items) most h =
          found_turned test (path ++ offset ∷ []) (positions_in (path ++ offset ∷ []) item ++ positions_from path (offset + 1) items)
          ∙ (λ i. option_or (found_turned-append test (positions_in (path ++ offset ∷ []) item) (positions_from path (offset + 1) items) i)
          (cond (own_is names path offset (more item items) h i) (Some (path ++ offset ∷ [])) None))
          ∙ go (whole_last_in names (path ++ offset ∷ []) item (whole_inside names path offset item items h))
          (whole_last names path upto (offset + 1) items (omega (arith, most)) (whole_later names path offset item items h)) (allows rules names) refl
        where
          reached : nat_lt offset upto ≡ true
          reached = step offset upto (omega (arith, most))
            where
              step : (i k : ℕ) → i < k → nat_lt i k ≡ true
              step i k less = grind (arith, nat_tests)

          go : find test (reverse (positions_in (path ++ offset ∷ []) item)) ≡ last_in rules names (path ++ offset ∷ []) item
              → find test (reverse (positions_from path (offset + 1) items))
              ≡ (if allows rules names then Some (path ++ (offset + 1 + length (list_of items)) ∷ []) else last_ahead rules names path upto (offset + 1) items)
              → (b : Bool) → allows rules names ≡ b
              → option_or (option_or (find test (reverse (positions_from path (offset + 1) items)))
              (find test (reverse (positions_in (path ++ offset ∷ []) item))))
              (cond b (Some (path ++ offset ∷ [])) None)
              ≡ cond b (Some (path ++ (offset + suc (length (list_of items))) ∷ [])) (last_ahead rules names path upto offset (more item items))
          go here behind true a =
              ap (λ o. option_or (option_or o (find test (reverse (positions_in (path ++ offset ∷ []) item)))) (Some (path ++ offset ∷ [])))
              (behind ∙ ap (λ b. cond b (Some (path ++ (offset + 1 + length (list_of items)) ∷ [])) (last_ahead rules names path upto (offset + 1) items)) a)
              ∙ (let same : offset + 1 + length (list_of items) ≡ offset + suc (length (list_of items)) = omega arith in ap (λ n. Some (path ++ n ∷ [])) same)
          go here behind false a =
              or_none (option_or (find test (reverse (positions_from path (offset + 1) items))) (find test (reverse (positions_in (path ++ offset ∷ []) item))))
              ∙ (λ i. option_or ((behind ∙ ap (λ b. cond b (Some (path ++ (offset + 1 + length (list_of items)) ∷ []))
              (last_ahead rules names path upto (offset + 1) items)) a) i) (here i))
              ∙ ap (λ b. option_or (last_ahead rules names path upto (offset + 1) items) (cond b (last_in rules names (path ++ offset ∷ []) item) None))
              (sym reached)

    -- ---- where text may stand, on one side of a start

    abbrev Beside : List (List ℕ) → List ℕ → ℕ → Items → (ℕ → List ℕ → Bool) → Type 0
    Beside names path offset items side = Says path offset (λ k rest. may_hold rules names (list_of items) (k ∷ rest) && side k rest)

    beside_later : (names : List (List ℕ)) (path : List ℕ) (offset : ℕ) (item : Item) (items : Items) (side : ℕ → List ℕ → Bool)
        → Beside names path offset (more item items) side → Beside names path (offset + 1) items (λ k rest. side (suc k) rest)
    beside_later names path offset item items side h k rest =
        later path offset (λ k rest. may_hold rules names (item ∷ list_of items) (k ∷ rest) && side k rest) h k rest
        ∙ ap (λ ns. check_child rules (names ++ ns) (codes "$text") && side (suc k) rest) (names_later k rest item (list_of items))

    beside_inside : (names : List (List ℕ)) (path : List ℕ) (offset : ℕ) (item : Item) (items : Items) (side : ℕ → List ℕ → Bool)
        → Beside names path offset (more item items) side → SaysIn (path ++ offset ∷ []) (λ k rest. may_in names item (k ∷ rest) && side 0 (k ∷ rest))
    beside_inside names path offset item items side h =
        inside path offset (λ k rest. may_hold rules names (item ∷ list_of items) (k ∷ rest) && side k rest) h

    beside_children : (names : List (List ℕ)) (path : List ℕ) (item : Item) (parts : HeadParts × List Item) (side : ℕ → List ℕ → Bool)
        → parts_of item ≡ Some parts → SaysIn path (λ k rest. may_in names item (k ∷ rest) && side k rest)
        → Beside (names ++ parts.0.name ∷ []) path 0 (items_of parts.1) side
    beside_children names path (character scalar attributes) parts side e h k rest = absurd cc
    beside_children names path (element id name attributes children) parts side e h k rest =
        let same : (record { id = id; name = name; attributes = attributes }, list_of children) ≡ parts = cc in
        from_start path (λ k rest. may_in names (element id name attributes children) (k ∷ rest) && side k rest) h k rest
        ∙ ap (λ ns. check_child rules ns (codes "$text") && side k rest) (sym (append_assoc names (name ∷ []) (names_on (k ∷ rest) (list_of children))))
        ∙ ap (λ (p : HeadParts × List Item). check_child rules ((names ++ p.0.name ∷ []) ++ names_on (k ∷ rest) p.1) (codes "$text") && side k rest) same
        ∙ ap (λ items. check_child rules ((names ++ parts.0.name ∷ []) ++ names_on (k ∷ rest) items) (codes "$text") && side k rest)
        (sym (list_of-items_of parts.1))

    all_beside : (may side : ℕ → List ℕ → Bool) (path : List ℕ) (offset : ℕ) → Says path offset (λ k rest. may k rest && side k rest)
        → ((k : ℕ) (rest : List ℕ) → side k rest ≡ true) → Says path offset may
    all_beside may side path offset h s k rest = h k rest ∙ ap (λ b. may k rest && b) (s k rest) ∙ and_true (may k rest)

    none_beside : (may side : ℕ → List ℕ → Bool) (path : List ℕ) (offset : ℕ) → Says path offset (λ k rest. may k rest && side k rest)
        → ((k : ℕ) (rest : List ℕ) → side k rest ≡ false) → Says path offset (λ k rest. false)
    none_beside may side path offset h s k rest = h k rest ∙ ap (λ b. may k rest && b) (s k rest) ∙ and_false (may k rest)

    all_in_beside : (may side : ℕ → List ℕ → Bool) (path : List ℕ) → SaysIn path (λ k rest. may k rest && side k rest)
        → ((k : ℕ) (rest : List ℕ) → side k rest ≡ true) → SaysIn path may
    all_in_beside may side path h s k rest = h k rest ∙ ap (λ b. may k rest && b) (s k rest) ∙ and_true (may k rest)

    none_in_beside : (may side : ℕ → List ℕ → Bool) (path : List ℕ) → SaysIn path (λ k rest. may k rest && side k rest)
        → ((k : ℕ) (rest : List ℕ) → side k rest ≡ false) → SaysIn path (λ k rest. false)
    none_in_beside may side path h s k rest = h k rest ∙ ap (λ b. may k rest && b) (s k rest) ∙ and_false (may k rest)

    own_beside : (names : List (List ℕ)) (path : List ℕ) (offset : ℕ) (items : Items) (side : ℕ → List ℕ → Bool) → Beside names path offset items side
        → test (path ++ offset ∷ []) ≡ (allows rules names && side 0 [])
    own_beside names path offset items side h =
        own path offset (λ k rest. may_hold rules names (list_of items) (k ∷ rest) && side k rest) h
        ∙ ap (λ ns. check_child rules ns (codes "$text") && side 0 []) (append-nil names)

    -- the first position not before a start

    not_reached : (i k : ℕ) → k < i → nat_le i k ≡ false
    not_reached i k less = grind (arith, nat_tests)

    skipped : (names : List (List ℕ)) (path : List ℕ) (from offset : ℕ) (item : Item) (items : Items) → offset < from
        → first_behind rules names path from (offset + 1) items ≡ first_behind rules names path from offset (more item items)
    skipped names path from offset item items less =
        ap (λ b. option_or (cond b (first_in rules names (path ++ offset ∷ []) item) None) (first_behind rules names path from (offset + 1) items))
        (sym (not_reached from offset less))

    -- an item all of whose positions are before the start, and the position before it
    passed : (names : List (List ℕ)) (path : List ℕ) (offset : ℕ) (item : Item) (items : Items) (side : ℕ → List ℕ → Bool)
        → Beside names path offset (more item items) side → ((rest : List ℕ) → side 0 rest ≡ false)
        → find test (positions_from path offset (more item items)) ≡ find test (positions_from path (offset + 1) items)
    passed names path offset item items side h before =
        ap (λ b. cond b (Some (path ++ offset ∷ [])) (find test (positions_in (path ++ offset ∷ []) item ++ positions_from path (offset + 1) items)))
        (own_beside names path offset (more item items) side h ∙ ap (λ b. allows rules names && b) (before []) ∙ and_false (allows rules names))
        ∙ find-append test (positions_in (path ++ offset ∷ []) item) (positions_from path (offset + 1) items)
        ∙ ap (λ o. option_or o (find test (positions_from path (offset + 1) items)))
        (none_in (path ++ offset ∷ []) item (none_in_beside (λ k rest. may_in names item (k ∷ rest)) (λ k rest. side 0 (k ∷ rest)) (path ++ offset ∷ [])
        (beside_inside names path offset item items side h) (λ k rest. before (k ∷ rest))))

    abbrev NotBefore : List ℕ → ℕ → List ℕ → Bool
    NotBefore start k rest = not_after start (k ∷ rest)

    next_side : (names : List (List ℕ)) (path : List ℕ) (offset index : ℕ) (start : List ℕ) (item : Item) (items : Items)
        → Beside names path offset (more item items) (NotBefore (suc index ∷ start)) → Beside names path (offset + 1) items (NotBefore (index ∷ start))
    next_side names path offset index start item items h k rest =
        beside_later names path offset item items (NotBefore (suc index ∷ start)) h k rest
        ∙ ap (λ b. may_hold rules names (list_of items) (k ∷ rest) && b) (both_next index k start rest)

    first_level : (names : List (List ℕ)) (path : List ℕ) (from offset index : ℕ) (items : Items) → from ≡ offset + index → index ≤ length (list_of items)
        → Beside names path offset items (NotBefore (index ∷ []))
        → find test (positions_from path offset items)
        ≡ (if allows rules names then Some (path ++ from ∷ []) else first_behind rules names path from offset items)
    first_level names path from offset zero items e most h =
        whole_first names path from offset items (omega (arith, e))
        (all_beside (λ k rest. may_hold rules names (list_of items) (k ∷ rest)) (NotBefore (0 ∷ [])) path offset h from_first_on)
        ∙ (let same : offset ≡ from = omega (arith, e) in
        ap (λ n. if allows rules names then Some (path ++ n ∷ []) else first_behind rules names path from offset items) same)
    first_level names path from offset (suc index) none e most h = absurd (omega (arith, most))
    first_level names path from offset (suc index) (more item items) e most h =
        passed names path offset item items (NotBefore (suc index ∷ [])) h (later_start index [])
        ∙ first_level names path from (offset + 1) index items (omega (arith, e)) (omega (arith, most)) (next_side names path offset index [] item items h)
        ∙ ap (λ o. if allows rules names then Some (path ++ from ∷ []) else o) (skipped names path from offset item items (omega (arith, e)))

    first_deep : (names : List (List ℕ)) (path : List ℕ) (from offset index next : ℕ) (start : List ℕ) (items : Items) (parts : HeadParts × List Item)
        (wanted : Option (List ℕ))
        → from ≡ offset + index → element_parts (list_of items) index ≡ Some parts
        → ((item : Item) → parts_of item ≡ Some parts
        → SaysIn (path ++ from ∷ []) (λ k rest. may_in names item (k ∷ rest) && NotBefore (next ∷ start) k rest)
        → find test (positions_in (path ++ from ∷ []) item) ≡ wanted)
        → Beside names path offset items (NotBefore (index ∷ next ∷ start))
        → find test (positions_from path offset items)
        ≡ option_or wanted (if allows rules names then Some (path ++ (from + 1) ∷ []) else first_behind rules names path (from + 1) offset items)
    first_deep names path from offset index next start none parts wanted e p inner h = absurd cc
    first_deep names path from offset zero next start (more item items) parts wanted e p inner h =
        let same : offset ≡ from = omega (arith, e) in
        ap (λ b. cond b (Some (path ++ offset ∷ [])) (find test (positions_in (path ++ offset ∷ []) item ++ positions_from path (offset + 1) items)))
        (own_beside names path offset (more item items) (NotBefore (0 ∷ next ∷ start)) h ∙ ap (λ b. allows rules names && b) (below_first next start)
        ∙ and_false (allows rules names))
        ∙ find-append test (positions_in (path ++ offset ∷ []) item) (positions_from path (offset + 1) items)
        ∙ (λ i. option_or ((ap (λ n. find test (positions_in (path ++ n ∷ []) item)) same
        ∙ inner item p (λ k rest. ap (λ n. test ((path ++ n ∷ []) ++ k ∷ rest)) (sym same)
        ∙ beside_inside names path offset item items (NotBefore (0 ∷ next ∷ start)) h k rest
        ∙ ap (λ b. may_in names item (k ∷ rest) && b) (not_after-same 0 (next ∷ start) (k ∷ rest)))) i)
        (whole_first names path (from + 1) (offset + 1) items (omega (arith, e))
        (all_beside (λ k rest. may_hold rules names (list_of items) (k ∷ rest)) (λ k rest. NotBefore (0 ∷ next ∷ start) (suc k) rest) path (offset + 1)
        (beside_later names path offset item items (NotBefore (0 ∷ next ∷ start)) h) (λ k rest. earlier_start k (next ∷ start) rest)) i))
        ∙ ap (λ n. option_or wanted (if allows rules names then Some (path ++ (n + 1) ∷ [])
        else first_behind rules names path (from + 1) (offset + 1) items)) same
        ∙ ap (λ o. option_or wanted (if allows rules names then Some (path ++ (from + 1) ∷ []) else o))
        (skipped names path (from + 1) offset item items (omega (arith, e)))
    first_deep names path from offset (suc index) next start (more item items) parts wanted e p inner h =
        passed names path offset item items (NotBefore (suc index ∷ next ∷ start)) h (later_start index (next ∷ start))
        ∙ first_deep names path from (offset + 1) index next start items parts wanted (omega (arith, e)) p inner
        (next_side names path offset index (next ∷ start) item items h)
        ∙ ap (λ o. option_or wanted (if allows rules names then Some (path ++ (from + 1) ∷ []) else o))
        (skipped names path (from + 1) offset item items (omega (arith, e)))

    in_parts : (path : List ℕ) (item : Item) (parts : HeadParts × List Item) → parts_of item ≡ Some parts
        → positions_in path item ≡ positions_from path 0 (items_of parts.1)
    in_parts path (character scalar attributes) parts e = absurd cc
    in_parts path (element id name attributes children) parts e =
        let same : list_of children ≡ parts.1 = ap (λ (p : HeadParts × List Item). p.1)
        (some_same (record { id = id; name = name; attributes = attributes }, list_of children) parts e) in
        ap (positions_from path 0) (sym (items_of-list_of children) ∙ ap items_of same)
      where
        some_same : {A : Type 0} (x y : A) → Some x ≡ Some y → x ≡ y
        some_same x y e = cc

    first_is : (start : List ℕ) (names : List (List ℕ)) (path : List ℕ) (items : List Item) → Stands start items
        → Beside names path 0 (items_of items) (NotBefore start) → find test (positions_from path 0 (items_of items)) ≡ first_from rules names path start items
    first_is [] names path items s h = absurd s
    first_is (index ∷ []) names path items s h =
        first_level names path index 0 index (items_of items) (omega arith) (omega (arith, s, ap length (list_of-items_of items))) h
    first_is (index ∷ next ∷ start) names path items s h =
        first_deep names path index 0 index next start (items_of items) s.0
        (first_from rules (names ++ s.0.0.name ∷ []) (path ++ index ∷ []) (next ∷ start) s.0.1) (omega arith)
        (ap (λ items. element_parts items index) (list_of-items_of items) ∙ s.1)
        (λ item p g. ap (find test) (in_parts (path ++ index ∷ []) item s.0 p)
        ∙ first_is (next ∷ start) (names ++ s.0.0.name ∷ []) (path ++ index ∷ []) s.0.1 s.2
        (beside_children names (path ++ index ∷ []) item s.0 (NotBefore (next ∷ start)) p g)) h
        ∙ ap (λ o. option_or (option_and_then (λ (parts : HeadParts × List Item).
        first_from rules (names ++ parts.0.name ∷ []) (path ++ index ∷ []) (next ∷ start) parts.1) o) (first_here rules names path (index + 1) items)) (sym s.1)

    -- the last position before a start, where text may stand in none of the elements that the start is in

    abbrev Ahead : List ℕ → ℕ → List ℕ → Bool
    Ahead start k rest = is_before (k ∷ rest) start

    ahead_side : (names : List (List ℕ)) (path : List ℕ) (offset index : ℕ) (start : List ℕ) (item : Item) (items : Items)
        → Beside names path offset (more item items) (Ahead (suc index ∷ start)) → Beside names path (offset + 1) items (Ahead (index ∷ start))
    ahead_side names path offset index start item items h k rest =
        beside_later names path offset item items (Ahead (suc index ∷ start)) h k rest
        ∙ ap (λ b. may_hold rules names (list_of items) (k ∷ rest) && not b) (both_next index k start rest)

    turned_step : (names : List (List ℕ)) (path : List ℕ) (offset : ℕ) (item : Item) (items : Items) (side : ℕ → List ℕ → Bool) → allows rules names ≡ false
        → Beside names path offset (more item items) side
        → find test (reverse (positions_from path offset (more item items)))
        ≡ option_or (find test (reverse (positions_from path (offset + 1) items))) (find test (reverse (positions_in (path ++ offset ∷ []) item)))
    turned_step names path offset item items side a h =
        found_turned test (path ++ offset ∷ []) (positions_in (path ++ offset ∷ []) item ++ positions_from path (offset + 1) items)
        ∙ (λ i. option_or (found_turned-append test (positions_in (path ++ offset ∷ []) item) (positions_from path (offset + 1) items) i)
        (cond ((own_beside names path offset (more item items) side h ∙ ap (λ b. b && side 0 []) a) i) (Some (path ++ offset ∷ [])) None))
        ∙ or_none (option_or (find test (reverse (positions_from path (offset + 1) items))) (find test (reverse (positions_in (path ++ offset ∷ []) item))))

    nothing_ahead : (names : List (List ℕ)) (path : List ℕ) (upto offset : ℕ) (items : Items) → upto ≤ offset
        → last_ahead rules names path upto offset items ≡ None
    nothing_ahead names path upto offset none less = refl
    nothing_ahead names path upto offset (more item items) less =
        (λ i. option_or (nothing_ahead names path upto (offset + 1) items (omega (arith, less)) i)
        (cond (step offset upto less i) (last_in rules names (path ++ offset ∷ []) item) None))
      where
        step : (i k : ℕ) → k ≤ i → nat_lt i k ≡ false
        step i k less = grind (arith, nat_tests)

    one_more_ahead : (names : List (List ℕ)) (path : List ℕ) (upto offset : ℕ) (item : Item) (items : Items) → offset < upto
        → option_or (last_ahead rules names path upto (offset + 1) items) (last_in rules names (path ++ offset ∷ []) item)
        ≡ last_ahead rules names path upto offset (more item items)
    one_more_ahead names path upto offset item items less =
        ap (λ b. option_or (last_ahead rules names path upto (offset + 1) items) (cond b (last_in rules names (path ++ offset ∷ []) item) None))
        (sym (step offset upto less))
      where
        step : (i k : ℕ) → i < k → nat_lt i k ≡ true
        step i k less = grind (arith, nat_tests)

    -- an item all of whose positions are before the start
    all_ahead : (names : List (List ℕ)) (path : List ℕ) (offset index : ℕ) (start : List ℕ) (item : Item) (items : Items)
        → Beside names path offset (more item items) (Ahead (suc index ∷ start))
        → find test (reverse (positions_in (path ++ offset ∷ []) item)) ≡ last_in rules names (path ++ offset ∷ []) item
    all_ahead names path offset index start item items h =
        whole_last_in names (path ++ offset ∷ []) item
        (all_in_beside (λ k rest. may_in names item (k ∷ rest)) (λ k rest. Ahead (suc index ∷ start) 0 (k ∷ rest)) (path ++ offset ∷ [])
        (beside_inside names path offset item items (Ahead (suc index ∷ start)) h) (λ k rest. ap not (later_start index start (k ∷ rest))))

    last_level : (names : List (List ℕ)) (path : List ℕ) (from offset index : ℕ) (items : Items) → from ≡ offset + index → allows rules names ≡ false
        → Beside names path offset items (Ahead (index ∷ []))
        → find test (reverse (positions_from path offset items)) ≡ last_ahead rules names path from offset items
    last_level names path from offset zero items e a h =
        none_turned test (positions_from path offset items) (none_from path offset items
        (none_beside (λ k rest. may_hold rules names (list_of items) (k ∷ rest)) (Ahead (0 ∷ [])) path offset h
        (λ k rest. ap not (from_first_on k rest))))
        ∙ sym (nothing_ahead names path from offset items (omega (arith, e)))
    last_level names path from offset (suc index) none e a h =
        ap (λ b. cond b (Some (path ++ offset ∷ [])) None)
        (own_beside names path offset none (Ahead (suc index ∷ [])) h ∙ ap (λ b. b && Ahead (suc index ∷ []) 0 []) a)
    last_level names path from offset (suc index) (more item items) e a h =
        turned_step names path offset item items (Ahead (suc index ∷ [])) a h
        ∙ (λ i. option_or (last_level names path from (offset + 1) index items (omega (arith, e)) a (ahead_side names path offset index [] item items h) i)
        (all_ahead names path offset index [] item items h i))
        ∙ one_more_ahead names path from offset item items (omega (arith, e))

    last_deep : (names : List (List ℕ)) (path : List ℕ) (from offset index next : ℕ) (start : List ℕ) (items : Items) (parts : HeadParts × List Item)
        (wanted : Option (List ℕ))
        → from ≡ offset + index → allows rules names ≡ false → element_parts (list_of items) index ≡ Some parts
        → ((item : Item) → parts_of item ≡ Some parts
        → SaysIn (path ++ from ∷ []) (λ k rest. may_in names item (k ∷ rest) && Ahead (next ∷ start) k rest)
        → find test (reverse (positions_in (path ++ from ∷ []) item)) ≡ wanted)
        → Beside names path offset items (Ahead (index ∷ next ∷ start))
        → find test (reverse (positions_from path offset items)) ≡ option_or wanted (last_ahead rules names path from offset items)
    last_deep names path from offset index next start none parts wanted e a p inner h = absurd cc
    last_deep names path from offset zero next start (more item items) parts wanted e a p inner h =
        let same : offset ≡ from = omega (arith, e) in
        turned_step names path offset item items (Ahead (0 ∷ next ∷ start)) a h
        ∙ (λ i. option_or
        (none_turned test (positions_from path (offset + 1) items) (none_from path (offset + 1) items
        (none_beside (λ k rest. may_hold rules names (list_of items) (k ∷ rest)) (λ k rest. Ahead (0 ∷ next ∷ start) (suc k) rest) path (offset + 1)
        (beside_later names path offset item items (Ahead (0 ∷ next ∷ start)) h) (λ k rest. ap not (earlier_start k (next ∷ start) rest)))) i)
        ((ap (λ n. find test (reverse (positions_in (path ++ n ∷ []) item))) same
        ∙ inner item p (λ k rest. ap (λ n. test ((path ++ n ∷ []) ++ k ∷ rest)) (sym same)
        ∙ beside_inside names path offset item items (Ahead (0 ∷ next ∷ start)) h k rest
        ∙ ap (λ b. may_in names item (k ∷ rest) && not b) (not_after-same 0 (next ∷ start) (k ∷ rest)))) i))
        ∙ sym (or_none wanted)
        ∙ ap (option_or wanted) (sym (nothing_ahead names path from offset (more item items) (omega (arith, e))))
    last_deep names path from offset (suc index) next start (more item items) parts wanted e a p inner h =
        turned_step names path offset item items (Ahead (suc index ∷ next ∷ start)) a h
        ∙ (λ i. option_or (last_deep names path from (offset + 1) index next start items parts wanted (omega (arith, e)) a p inner
        (ahead_side names path offset index (next ∷ start) item items h) i) (all_ahead names path offset index (next ∷ start) item items h i))
        ∙ or_assoc wanted (last_ahead rules names path from (offset + 1) items) (last_in rules names (path ++ offset ∷ []) item)
        ∙ ap (option_or wanted) (one_more_ahead names path from offset item items (omega (arith, e)))

    not_allowed : {A : Type 0} (b : Bool) (x : A) (o : Option A) → cond b (Some x) o ≡ None → b ≡ false
    not_allowed true x o e = absurd cc
    not_allowed false x o e = refl

    neither : {A : Type 0} (o p : Option A) → option_or o p ≡ None → (o ≡ None) × (p ≡ None)
    neither None p e = (refl, e)
    neither (Some x) p e = absurd cc

    last_is : (start : List ℕ) (names : List (List ℕ)) (path : List ℕ) (items : List Item) → Stands start items
        → first_from rules names path start items ≡ None
        → Beside names path 0 (items_of items) (Ahead start)
        → find test (reverse (positions_from path 0 (items_of items))) ≡ last_before rules names path start items
    last_is [] names path items s n h = absurd s
    last_is (index ∷ []) names path items s n h =
        last_level names path index 0 index (items_of items) (omega arith)
        (not_allowed (allows rules names) (path ++ index ∷ []) (first_behind rules names path index 0 (items_of items)) n) h
    last_is (index ∷ next ∷ start) names path items s n h =
        last_deep names path index 0 index next start (items_of items) s.0
        (last_before rules (names ++ s.0.0.name ∷ []) (path ++ index ∷ []) (next ∷ start) s.0.1) (omega arith)
        (not_allowed (allows rules names) (path ++ (index + 1) ∷ []) (first_behind rules names path (index + 1) 0 (items_of items)) parts.1)
        (ap (λ items. element_parts items index) (list_of-items_of items) ∙ s.1)
        (λ item p g. ap (λ ps. find test (reverse ps)) (in_parts (path ++ index ∷ []) item s.0 p)
        ∙ last_is (next ∷ start) (names ++ s.0.0.name ∷ []) (path ++ index ∷ []) s.0.1 s.2 (sym (ap first_deeper s.1) ∙ parts.0)
        (beside_children names (path ++ index ∷ []) item s.0 (Ahead (next ∷ start)) p g)) h
        ∙ ap (λ o. option_or (option_and_then (λ (parts : HeadParts × List Item).
        last_before rules (names ++ parts.0.name ∷ []) (path ++ index ∷ []) (next ∷ start) parts.1) o)
        (last_ahead rules names path index 0 (items_of items))) (sym s.1)
      where
        first_deeper : Option (HeadParts × List Item) → Option (List ℕ)
        first_deeper o = option_and_then
            (λ (parts : HeadParts × List Item). first_from rules (names ++ parts.0.name ∷ []) (path ++ index ∷ []) (next ∷ start) parts.1) o

        parts : (first_deeper (element_parts items index) ≡ None) × (first_here rules names path (index + 1) items ≡ None)
        parts = neither (first_deeper (element_parts items index)) (first_here rules names path (index + 1) items) n

  -- ---- in a document

  module _ (items : List Item) (start : List ℕ) (s : Stands start items) where
    found_from : find (λ position. may_hold_text rules items position && not_after start position) (positions items)
        ≡ first_from rules (codes "$root" ∷ []) [] start items
    found_from =
        first_is (λ position. may_hold_text rules items position && not_after start position) start (codes "$root" ∷ []) [] items s
        (from_start (λ position. may_hold_text rules items position && not_after start position) []
        (λ k rest. may_hold rules (codes "$root" ∷ []) (list_of (items_of items)) (k ∷ rest) && not_after start (k ∷ rest))
        (λ k rest. ap (λ items. may_hold rules (codes "$root" ∷ []) items (k ∷ rest) && not_after start (k ∷ rest)) (sym (list_of-items_of items))))

    found_before : first_from rules (codes "$root" ∷ []) [] start items ≡ None
        → find (λ position. may_hold_text rules items position && is_before position start) (reverse (positions items))
        ≡ last_before rules (codes "$root" ∷ []) [] start items
    found_before bare =
        last_is (λ position. may_hold_text rules items position && is_before position start) start (codes "$root" ∷ []) [] items s bare
        (from_start (λ position. may_hold_text rules items position && is_before position start) []
        (λ k rest. may_hold rules (codes "$root" ∷ []) (list_of (items_of items)) (k ∷ rest) && is_before (k ∷ rest) start)
        (λ k rest. ap (λ items. may_hold rules (codes "$root" ∷ []) items (k ∷ rest) && is_before (k ∷ rest) start) (sym (list_of-items_of items))))

    pub nearest_first : (found : List ℕ) → Some found ≡ first_from rules (codes "$root" ∷ []) [] start items → Some found ≡ nearest_text rules items start
    nearest_first found e =
        ap (λ o. option_or o (find (λ position. may_hold_text rules items position && is_before position start) (reverse (positions items))))
        (e ∙ sym found_from)

    pub nearest_last : (found : Option (List ℕ)) → None ≡ first_from rules (codes "$root" ∷ []) [] start items
        → found ≡ last_before rules (codes "$root" ∷ []) [] start items → found ≡ nearest_text rules items start
    nearest_last found bare e =
        e ∙ sym (found_before (sym bare))
        ∙ ap (λ o. option_or o (find (λ position. may_hold_text rules items position && is_before position start) (reverse (positions items))))
        (bare ∙ sym found_from)
