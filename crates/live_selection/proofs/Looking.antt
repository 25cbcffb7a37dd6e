-- Looking for the first character between two bounds.
use Rattle.std.proofs.Common.{◌≡◌, ℕ, zero, suc, ◌+◌, ◌<◌, ◌≤◌, ◌^◌, List, [], ◌∷◌, ◌++◌, Bool, true, false, ◌&&◌, ◌||◌, if◌then◌else◌, Some, None}
use Rattle.std.proofs.Common.{option_and_then, map, length, drop, refl, sym, ap, ◌∙◌, arith, append_assoc, append-nil}
use Rattle.std.specs.Option.{option_or}
use Rattle.std.specs.List.{find, flat_map, enumerate_from}
use Rattle.item_definitions.specs.Item.{Attributes, Item, Items, character, element, none, more, items_of, count_of, depth_of}
use Rattle.item_definitions.specs.Children.{walk_item, walk_inner}
use Rattle.item_definitions.specs.Position.{Range, holds}
use Rattle.model_tree.specs.Parts.{TextParts}
use Rattle.model_tree.specs.declared.items.Node.{Node}
use Rattle.model_tree.specs.Nodes.{characters, items_at, items_in}
use Rattle.model_tree.proofs.Counts.{count-characters, depth-append}
use Rattle.document_definitions.specs.Selection.{of_character, is_character, first_in}
use Rattle.live_selection.specs.declared.bounds.Bounds.{Bounds}
use Rattle.live_selection.specs.Within.{is_within, any_from, first_passing, first_from}

module _ (test : List ℕ → Bool) where
  -- a character that is looked at
  pub one-passing : (path : List ℕ) (scalar : ℕ) (attributes : Attributes) (entries : List (List ℕ × Item))
      → first_passing test ((path, character scalar attributes) ∷ entries) ≡ (if test path then Some attributes else first_passing test entries)
  one-passing path scalar attributes entries = go (test path)
    where
      go : (t : Bool) → option_and_then (λ (entry : List ℕ × Item). of_character entry.1) (if t then Some (path, character scalar attributes)
          else find (λ entry. is_character entry.1 && test entry.0) entries)
          ≡ (if t then Some attributes else first_passing test entries)
      go true = refl
      go false = refl

  -- items with their paths, one list behind the other
  pub passing-append : (xs ys : List (List ℕ × Item)) → first_passing test (xs ++ ys) ≡ option_or (first_passing test xs) (first_passing test ys)
  passing-append [] ys = refl
  passing-append (x ∷ xs) ys = one x.0 x.1 (passing-append xs ys)
    where
      either : (t : Bool) (attributes : Attributes) → first_passing test (xs ++ ys) ≡ option_or (first_passing test xs) (first_passing test ys)
          → (if t then Some attributes else first_passing test (xs ++ ys))
          ≡ option_or (if t then Some attributes else first_passing test xs) (first_passing test ys)
      either true attributes rest = refl
      either false attributes rest = rest

      one : (path : List ℕ) (item : Item) → first_passing test (xs ++ ys) ≡ option_or (first_passing test xs) (first_passing test ys)
          → first_passing test ((path, item) ∷ (xs ++ ys)) ≡ option_or (first_passing test ((path, item) ∷ xs)) (first_passing test ys)
      one path (character scalar attributes) rest =
          one-passing path scalar attributes (xs ++ ys) ∙ either (test path) attributes rest
          ∙ ap (λ o. option_or o (first_passing test ys)) (sym (one-passing path scalar attributes xs))
      one path (element id name attributes children) rest = rest

  -- the characters of a text
  pub text-passing : (attributes : Attributes) (scalars : List ℕ) (index : ℕ)
      → first_passing test (walk_inner [] index (items_of (map (λ scalar. character scalar attributes) scalars)))
      ≡ (if any_from (λ i. test (i ∷ [])) index (length scalars) then Some attributes else None)
  text-passing attributes [] index = refl
  text-passing attributes (scalar ∷ scalars) index =
      one-passing (index ∷ []) scalar attributes (walk_inner [] (index + 1) (items_of (map (λ scalar. character scalar attributes) scalars)))
      ∙ ap (λ o. if test (index ∷ []) then Some attributes else o) (text-passing attributes scalars (index + 1))
      ∙ either (test (index ∷ [])) (any_from (λ i. test (i ∷ [])) (index + 1) (length scalars))
    where
      either : (t u : Bool) → (if t then Some attributes else (if u then Some attributes else None)) ≡ (if t || u then Some attributes else None)
      either true u = refl
      either false u = refl

-- what is in the item at an index, as it is seen from there
module _ (index : ℕ) (test below : List ℕ → Bool) (narrowed : (next : ℕ) (rest : List ℕ) → below (next ∷ rest) ≡ test (index ∷ next ∷ rest)) where
  last-inside : (item : Item) → ((next : ℕ) (path : List ℕ) → first_passing test (walk_item (index ∷ next ∷ path) item)
      ≡ first_passing below (walk_item (next ∷ path) item))
      → (path : List ℕ) (last : ℕ) → first_passing test (walk_item (index ∷ (path ++ last ∷ [])) item)
      ≡ first_passing below (walk_item (path ++ last ∷ []) item)
  last-inside item same [] last = same last []
  last-inside item same (next ∷ path) last = same next (path ++ last ∷ [])

  mutual
    item-inside : (next : ℕ) (path : List ℕ) (item : Item) → first_passing test (walk_item (index ∷ next ∷ path) item)
        ≡ first_passing below (walk_item (next ∷ path) item)
    item-inside next path (character scalar attributes) =
        one-passing test (index ∷ next ∷ path) scalar attributes []
        ∙ ap (λ t. if t then Some attributes else None) (sym (narrowed next path))
        ∙ sym (one-passing below (next ∷ path) scalar attributes [])
    item-inside next path (element id name attributes children) = inner-inside (next ∷ path) 0 children

    inner-inside : (path : List ℕ) (at : ℕ) (items : Items) → first_passing test (walk_inner (index ∷ path) at items)
        ≡ first_passing below (walk_inner path at items)
    inner-inside path at none = refl
    inner-inside path at (more item items) =
        passing-append test (walk_item (index ∷ (path ++ at ∷ [])) item) (walk_inner (index ∷ path) (at + 1) items)
        ∙ (λ t. option_or (last-inside item (λ next rest. item-inside next rest item) path at t) (inner-inside path (at + 1) items t))
        ∙ sym (passing-append below (walk_item (path ++ at ∷ []) item) (walk_inner path (at + 1) items))

  pub inside-passing : (id : ℕ) (name : List ℕ) (attributes : Attributes) (children : List Item)
      → first_passing test (walk_inner [] index (items_of (element id name attributes (items_of children) ∷ [])))
      ≡ first_passing below (walk_inner [] 0 (items_of children))
  inside-passing id name attributes children = ap (first_passing test) (append-nil (walk_inner (index ∷ []) 0 (items_of children)))
      ∙ inner-inside [] 0 (items_of children)

-- nothing passes a test that no path passes
none-passing : (entries : List (List ℕ × Item)) → first_passing (λ path. false) entries ≡ None
none-passing [] = refl
none-passing (x ∷ xs) = one x.0 x.1 (none-passing xs)
  where
    one : (path : List ℕ) (item : Item) → first_passing (λ path. false) xs ≡ None → first_passing (λ path. false) ((path, item) ∷ xs) ≡ None
    one path (character scalar attributes) rest = rest
    one path (element id name attributes children) rest = rest

-- an element
pub element_inside : (bounds below : Bounds) (index id : ℕ) (name : List ℕ) (attributes : Attributes) (children : List Item)
    → ((next : ℕ) (rest : List ℕ) → is_within below (next ∷ rest) ≡ is_within bounds (index ∷ next ∷ rest))
    → first_from below 0 children ≡ first_from bounds index (element id name attributes (items_of children) ∷ [])
unfolding first_from
element_inside bounds below index id name attributes children h = sym (inside-passing index (is_within bounds) (is_within below) h id name attributes children)

pub element_outside : (bounds : Bounds) (index id : ℕ) (name : List ℕ) (attributes : Attributes) (children : List Item)
    → ((next : ℕ) (rest : List ℕ) → false ≡ is_within bounds (index ∷ next ∷ rest))
    → None ≡ first_from bounds index (element id name attributes (items_of children) ∷ [])
unfolding first_from
element_outside bounds index id name attributes children h =
    sym (inside-passing index (is_within bounds) (λ path. false) h id name attributes children ∙ none-passing (walk_inner [] 0 (items_of children)))

-- a text
pub text_has_one : (bounds : Bounds) (index : ℕ) (text : TextParts) (some : Bool) (count : ℕ)
    → some ≡ any_from (λ i. is_within bounds (i ∷ [])) index count → count ≡ length text.scalars → some ≡ true
    → Some text.attributes ≡ first_from bounds index (characters text)
unfolding first_from
text_has_one bounds index text some count h l is =
    let has : any_from (λ i. is_within bounds (i ∷ [])) index (length text.scalars)
    ≡ true = ap (any_from (λ i. is_within bounds (i ∷ [])) index) (sym l) ∙ sym h ∙ is in
    sym (text-passing (is_within bounds) text.attributes text.scalars index ∙ ap (λ t. if t then Some text.attributes else None) has)

pub text_has_none : (bounds : Bounds) (index : ℕ) (text : TextParts) (some : Bool) (count : ℕ)
    → some ≡ any_from (λ i. is_within bounds (i ∷ [])) index count → count ≡ length text.scalars → some ≡ false
    → None ≡ first_from bounds index (characters text)
unfolding first_from
text_has_none bounds index text some count h l is =
    let has : any_from (λ i. is_within bounds (i ∷ [])) index (length text.scalars)
    ≡ false = ap (any_from (λ i. is_within bounds (i ∷ [])) index) (sym l) ∙ sym h ∙ is in
    sym (text-passing (is_within bounds) text.attributes text.scalars index ∙ ap (λ t. if t then Some text.attributes else None) has)

pub text_fits : (text : TextParts) (index : ℕ) → index + count_of (characters text) < 2 ^ 32 → index + length text.scalars < 2 ^ 32
text_fits text index h = omega (arith, h, count-characters text.attributes text.scalars)

-- items behind one another
walk-append : (index : ℕ) (xs ys : List Item) → walk_inner [] index (items_of (xs ++ ys))
    ≡ walk_inner [] index (items_of xs) ++ walk_inner [] (index + length xs) (items_of ys)
walk-append index [] ys = (let same : index ≡ index + length {A = Item} [] = omega arith in ap (λ n. walk_inner [] n (items_of ys)) same)
walk-append index (x ∷ xs) ys =
    let same : index + 1 + length xs ≡ index + length (x ∷ xs) = omega arith in
    ap (λ walked. walk_item (index ∷ []) x ++ walked) (walk-append (index + 1) xs ys
    ∙ ap (λ n. walk_inner [] (index + 1) (items_of xs) ++ walk_inner [] n (items_of ys)) same)
    ∙ sym (append_assoc (walk_item (index ∷ []) x) (walk_inner [] (index + 1) (items_of xs)) (walk_inner [] (index + length (x ∷ xs)) (items_of ys)))

from-append : (bounds : Bounds) (index : ℕ) (xs ys : List Item) → first_from bounds index (xs ++ ys)
    ≡ option_or (first_from bounds index xs) (first_from bounds (index + length xs) ys)
unfolding first_from
from-append bounds index xs ys =
    ap (first_passing (is_within bounds)) (walk-append index xs ys)
    ∙ passing-append (is_within bounds) (walk_inner [] index (items_of xs)) (walk_inner [] (index + length xs) (items_of ys))

pub found_here : (bounds : Bounds) (index : ℕ) (left xs ys : List Item) (found : Attributes) → left ≡ xs ++ ys → Some found ≡ first_from bounds index xs
    → Some found ≡ first_from bounds index left
found_here bounds index left xs ys found e h =
    ap (λ o. option_or o (first_from bounds (index + length xs) ys)) h ∙ sym (from-append bounds index xs ys) ∙ ap (first_from bounds index) (sym e)

pub found_behind : (bounds : Bounds) (index next : ℕ) (left xs ys : List Item) → left ≡ xs ++ ys → None ≡ first_from bounds index xs → next ≡ index + length xs
    → first_from bounds next ys ≡ first_from bounds index left
found_behind bounds index next left xs ys e h n =
    ap (λ i. first_from bounds i ys) n
    ∙ ap (λ o. option_or o (first_from bounds (index + length xs) ys)) h
    ∙ sym (from-append bounds index xs ys)
    ∙ ap (first_from bounds index) (sym e)

pub found_nowhere : (bounds : Bounds) (index : ℕ) (left : List Item) → left ≡ [] → None ≡ first_from bounds index left
unfolding first_from
found_nowhere bounds index left e = ap (λ items. first_passing (is_within bounds) (walk_inner [] index (items_of items))) (sym e)

pub dropped : (n : ℕ) (nodes : List Node) → depth_of (items_in (drop n nodes)) ≤ depth_of (items_in nodes)
dropped zero nodes = omega arith
dropped (suc n) [] = omega arith
dropped (suc n) (node ∷ nodes) = omega (arith, dropped n nodes, depth-append (items_at node) (items_in nodes))

-- all items from an index on lie behind the bounds
module _ (test : List ℕ → Bool) (from : ℕ) (past : (next : ℕ) (rest : List ℕ) → from ≤ next → test (next ∷ rest) ≡ false) where
  mutual
    item-past : (next : ℕ) (path : List ℕ) (item : Item) → from ≤ next → first_passing test (walk_item (next ∷ path) item) ≡ None
    item-past next path (character scalar attributes) least = one-passing test (next ∷ path) scalar attributes []
        ∙ ap (λ t. if t then Some attributes else None) (past next path least)
    item-past next path (element id name attributes children) least = inner-past next path 0 children least

    inner-past : (next : ℕ) (path : List ℕ) (at : ℕ) (items : Items) → from ≤ next → first_passing test (walk_inner (next ∷ path) at items) ≡ None
    inner-past next path at none least = refl
    inner-past next path at (more item items) least =
        passing-append test (walk_item (next ∷ (path ++ at ∷ [])) item) (walk_inner (next ∷ path) (at + 1) items)
        ∙ (λ t. option_or (item-past next (path ++ at ∷ []) item least t) (inner-past next path (at + 1) items least t))

  all-past : (index : ℕ) (items : List Item) → from ≤ index → first_passing test (walk_inner [] index (items_of items)) ≡ None
  all-past index [] least = refl
  all-past index (item ∷ items) least =
      passing-append test (walk_item (index ∷ []) item) (walk_inner [] (index + 1) (items_of items))
      ∙ (λ t. option_or (item-past index [] item least t) (all-past (index + 1) items (omega arith) t))

pub found_no_more : (bounds : Bounds) (index : ℕ) (items : List Item)
    → ((next : ℕ) (rest : List ℕ) → index ≤ next → is_within bounds (next ∷ rest) ≡ false) → None ≡ first_from bounds index items
unfolding first_from
found_no_more bounds index items past = sym (all-past (is_within bounds) index past index items (omega arith))

-- the range of a selection
walk-is : (index : ℕ) (items : List Item) → flat_map (λ entry. walk_item (entry.0 ∷ []) entry.1) (enumerate_from index items)
    ≡ walk_inner [] index (items_of items)
walk-is index [] = refl
walk-is index (item ∷ items) = ap (λ walked. walk_item (index ∷ []) item ++ walked) (walk-is (index + 1) items)

pub first_of_range : (bounds : Bounds) (items : List Item) (range : Range) → ((path : List ℕ) → is_within bounds path ≡ holds range path)
    → first_from bounds 0 items ≡ first_in items range
unfolding first_from
first_of_range bounds items range h =
    (λ t. first_passing (λ path. h path t) (walk_inner [] 0 (items_of items))) ∙ ap (first_passing (holds range)) (sym (walk-is 0 items))
