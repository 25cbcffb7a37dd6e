-- How long the path of an item is, and how large its index.
use Rattle.std.proofs.Common.{◌≡◌, ◌≢◌, ℕ, zero, suc, ◌+◌, ◌<◌, ◌≤◌, ◌^◌, Bool, true, false, nat_eq, nat_lt, nat_le, ◌&&◌, ◌||◌, ◌==◌, List, [], ◌∷◌, ◌++◌}
use Rattle.std.proofs.Common.{length, Option, Some, None, option_and_then, is_some, slice_get, refl, sym, ap, ◌∙◌, arith}
use Rattle.std.specs.Option.{option_map_or}
use Rattle.std.specs.Cmp.Lexicographic.{pointwise}
use Rattle.std.proofs.lemmas.Bool.{false≢true}
use Rattle.std.proofs.lemmas.Bool.Decides.{nat_tests}
use Rattle.std.proofs.lemmas.List.{length_push}
use Rattle.item_definitions.specs.Item.{Item, character, element, inner, item_count, item_depth, count_of, depth_of}
use Rattle.item_definitions.specs.Children.{parent_of, offset_of, children_at, item_at}
use Rattle.item_definitions.specs.Position.{not_after, behind}
use Rattle.item_definitions.proofs.Order.{behind-push, not_after-cons, not_after-parent}
use Rattle.item_definitions.proofs.Paths.{path-joined}
use Rattle.item_definitions.proofs.Sizes.{within-item}
use Rattle.operation_definitions.proofs.Names.{same_numbers, numbers_same}
use Rattle.document_definitions.specs.Selection.{same_position}
use Rattle.operation_definitions.proofs.Lifting.{then-some}
use Rattle.edit_definitions.specs.Places.{is_there, is_range, are_in_one, is_element}
use Rattle.model_writer.proofs.PlaceTests.{there-at}

one-deep : (item : Item) → 1 ≤ item_depth item
one-deep (character scalar attributes) = omega arith
one-deep (element id name attributes children) = omega arith

one-counted : (item : Item) → 1 ≤ item_count item
one-counted (character scalar attributes) = omega arith
one-counted (element id name attributes children) = omega arith

in-list : (xs : List Item) (index : ℕ) (item : Item) → slice_get xs index ≡ Some item → (item_depth item ≤ depth_of xs)
    × (item_count item ≤ count_of xs) × (index + 1 ≤ count_of xs)
in-list [] index item e = absurd cc
in-list (x ∷ xs) zero item e = (let same : x ≡ item = cc in let d = ap item_depth same in let n = ap item_count same in let o = one-counted item
    in (omega (arith, d), omega (arith, n), omega (arith, n, o)))
in-list (x ∷ xs) (suc index) item e = (let rest = in-list xs index item e in let o = one-counted x
    in (omega (arith, rest.0), omega (arith, rest.1), omega (arith, rest.2, o)))

-- an item's path is no longer than the tree is deep, and its index is below the number of items
pub item-bounds : (path : List ℕ) (xs : List Item) (item : Item) → item_at path xs ≡ Some item → (length path ≤ depth_of xs)
    × (offset_of path + 1 ≤ count_of xs)
item-bounds [] xs item e = absurd cc
item-bounds (index ∷ []) xs item e = (let l = in-list xs index item e in let d = one-deep item in (omega (arith, l.0, d), omega (arith, l.2)))
item-bounds (index ∷ next ∷ path) xs item e =
    let a = then-some (λ x. option_and_then (item_at (next ∷ path)) (inner x)) (slice_get xs index) item e in
    let b = then-some (item_at (next ∷ path)) (inner a.0) item a.2 in
    let l = in-list xs index a.0 a.1 in
    let w = within-item a.0 b.0 b.1 in
    let rest = item-bounds (next ∷ path) b.0 item b.2 in
    (omega (arith, l.0, w.0, rest.0), omega (arith, l.1, w.1, rest.1))

-- where an element stands
pub element-item : (xs : List Item) (path : List ℕ) → is_element xs path ≡ true → (item : Item) × (item_at path xs ≡ Some item)
element-item xs path e = go (item_at path xs) refl e
  where
    go : (o : Option Item) → item_at path xs ≡ o → is_some (option_and_then inner o) ≡ true → (item : Item) × (item_at path xs ≡ Some item)
    go None is e = absurd cc
    go (Some item) is e = (item, is)

pub element_short : (xs : List Item) (path : List ℕ) → is_element xs path ≡ true → depth_of xs ≤ 64 → length path < 65
element_short xs path e flat = (let i = element-item xs path e in let b = item-bounds path xs i.0 i.1 in omega (arith, b.0, flat))

pub element_small : (xs : List Item) (path : List ℕ) → is_element xs path ≡ true → count_of xs < 2 ^ 32 → offset_of path < 4294967295
element_small xs path e few = (let i = element-item xs path e in let b = item-bounds path xs i.0 i.1 in omega (arith, b.1, few))

pub element_some : (xs : List Item) (path : List ℕ) → is_element xs path ≡ true → path ≢ []
element_some xs [] e = absurd cc
element_some xs (index ∷ path) e = λ same. cc

pub behind_last : (path parent : List ℕ) (index : ℕ) → path ≡ parent ++ index ∷ [] → behind path ≡ parent ++ (index + 1) ∷ []
behind_last path parent index e = ap behind e ∙ behind-push parent index

-- the items of an element are less deep than the tree by the length of its path
level-deep : (path : List ℕ) (xs level : List Item) → children_at path xs ≡ Some level → length path + depth_of level ≤ depth_of xs
level-deep [] xs level e = (let same : xs ≡ level = cc in let d = ap depth_of same in omega (arith, d))
level-deep (index ∷ path) xs level e =
    let a = then-some (λ x. option_and_then (children_at path) (inner x)) (slice_get xs index) level e in
    let b = then-some (children_at path) (inner a.0) level a.2 in
    let l = in-list xs index a.0 a.1 in
    let w = within-item a.0 b.0 b.1 in
    let rest = level-deep path b.0 level b.2 in
    omega (arith, l.0, w.0, rest)

some-deep : (xs : List Item) → 1 ≤ length xs → 1 ≤ depth_of xs
some-deep [] h = absurd (omega arith)
some-deep (x ∷ xs) h = (let d = one-deep x in omega (arith, d))

and-first : (a b : Bool) → (a && b) ≡ true → a ≡ true
and-first true b e = refl
and-first false b e = absurd cc

and-second : (a b : Bool) → (a && b) ≡ true → b ≡ true
and-second true b e = e
and-second false b e = absurd cc

-- two positions of one parent, of which the first comes before the second
above-start : (parent : List ℕ) (offset last : ℕ) → not_after (parent ++ offset ∷ []) (parent ++ last ∷ []) ≡ true
    → pointwise nat_eq (parent ++ offset ∷ []) (parent ++ last ∷ []) ≡ false → 1 ≤ last
above-start parent offset last e other = go last (sym (not_after-parent parent (offset ∷ []) (last ∷ [])) ∙ e) other
  where
    go : (last : ℕ) → not_after (offset ∷ []) (last ∷ []) ≡ true → pointwise nat_eq (parent ++ offset ∷ []) (parent ++ last ∷ []) ≡ false → 1 ≤ last
    go (suc last) e other = omega arith
    go zero e other =
        let least : offset ≡ 0 = zero-only offset e in
        let same : parent ++ offset ∷ [] ≡ parent ++ 0 ∷ [] = ap (λ n. parent ++ n ∷ []) least in
        let yes = numbers_same (parent ++ offset ∷ []) (parent ++ 0 ∷ []) same in
        absurd (false≢true (sym other ∙ yes))
      where
        either : (offset : ℕ) (b : Bool) → (nat_lt offset 0 || (offset == 0 && b)) ≡ true → offset ≡ 0
        either offset b e = grind (arith, nat_tests)

        zero-only : (offset : ℕ) → not_after (offset ∷ []) (0 ∷ []) ≡ true → offset ≡ 0
        zero-only offset e = either offset (not_after [] []) (sym (not_after-cons offset 0 [] []) ∙ e)

there-level : (xs : List Item) (parent : List ℕ) (offset : ℕ) → is_there xs (parent ++ offset ∷ []) ≡ true → (level : List Item)
    × (children_at parent xs ≡ Some level) × (offset ≤ length level)
there-level xs parent offset e = go (children_at parent xs) refl (sym (there-at xs parent offset) ∙ e)
  where
    go : (o : Option (List Item)) → children_at parent xs ≡ o → option_map_or (λ level. nat_le offset (length level)) o false ≡ true
        → (level : List Item) × (children_at parent xs ≡ Some level) × (offset ≤ length level)
    go None is e = absurd cc
    go (Some level) is e = (level, is, grind (arith, nat_tests))

-- the end of a range that has items
pub end_short : (xs : List Item) (start end : List ℕ) → is_range xs start end ≡ true → are_in_one start end ≡ true → same_position start end ≡ false
    → 0 < length start → 0 < length end → depth_of xs ≤ 64 → length end < 65
end_short xs start end range one other some also flat =
    let first = path-joined start (not-empty start some) in
    let last = path-joined end (not-empty end also) in
    let parents = same_numbers (parent_of start) (parent_of end) one in
    let begin : start ≡ parent_of end ++ offset_of start ∷ [] = first ∙ ap (λ p. p ++ offset_of start ∷ []) parents in
    let rest = and-first (is_there xs start && is_there xs end) (not_after start end) range in
    let order = and-second (is_there xs start && is_there xs end) (not_after start end) range in
    let there = and-second (is_there xs start) (is_there xs end) rest in
    let level = there-level xs (parent_of end) (offset_of end) (ap (is_there xs) (sym last) ∙ there) in
    let up = above-start (parent_of end) (offset_of start) (offset_of end) (sym (λ i. not_after (begin i) (last i)) ∙ order)
    (sym (λ i. pointwise nat_eq (begin i) (last i)) ∙ other) in
    let deep = level-deep (parent_of end) xs level.0 level.1 in
    let full = some-deep level.0 (omega (arith, up, level.2)) in
    let long : length end ≡ length (parent_of end) + 1 = ap length last ∙ length_push (parent_of end) (offset_of end) in
    omega (arith, deep, full, long, flat)
  where
    not-empty : (path : List ℕ) → 0 < length path → path ≢ []
    not-empty [] h = absurd (omega arith)
    not-empty (n ∷ path) h = λ e. cc
