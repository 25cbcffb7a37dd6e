-- The numbers and depths of items in lists that are put together.
use Rattle.std.proofs.Common.{◌≡◌, ℕ, suc, ◌+◌, ◌-◌, ◌^◌, ◌<◌, min, max, List, [], ◌∷◌, ◌++◌, map, length, refl, ap, arith, length-append}
use Rattle.item_definitions.specs.Item.{Item, character, element, items_of, Attributes, item_count, inner_count, count_of, item_depth, inner_depth, depth_of}
use Rattle.model_tree.specs.Sizes.{AreSizes}

pub count-append : (front back : List Item) → count_of (front ++ back) ≡ count_of front + count_of back
count-append [] back = omega arith
count-append (item ∷ front) back = omega (arith, count-append front back)

pub depth-append : (front back : List Item) → depth_of (front ++ back) ≡ max (depth_of front) (depth_of back)
depth-append [] back = omega arith
depth-append (item ∷ front) back = omega (arith, depth-append front back)

pub count-inner : (items : List Item) → inner_count (items_of items) ≡ count_of items
count-inner [] = refl
count-inner (item ∷ items) = ap (λ n. item_count item + n) (count-inner items)

pub depth-inner : (items : List Item) → inner_depth (items_of items) ≡ depth_of items
depth-inner [] = refl
depth-inner (item ∷ items) = ap (max (item_depth item)) (depth-inner items)

pub length-characters : (attributes : Attributes) (scalars : List ℕ) → length (map (λ scalar. character scalar attributes) scalars) ≡ length scalars
length-characters attributes [] = refl
length-characters attributes (scalar ∷ scalars) = ap suc (length-characters attributes scalars)

pub count-characters : (attributes : Attributes) (scalars : List ℕ) → count_of (map (λ scalar. character scalar attributes) scalars) ≡ length scalars
count-characters attributes [] = refl
count-characters attributes (scalar ∷ scalars) = omega (arith, count-characters attributes scalars)

pub depth-characters : (attributes : Attributes) (scalars : List ℕ) → depth_of (map (λ scalar. character scalar attributes) scalars) ≡ min 1 (length scalars)
depth-characters attributes [] = omega arith
depth-characters attributes (scalar ∷ scalars) = omega (arith, depth-characters attributes scalars)

-- the sizes of two lists give those of one with the other behind it
pub sizes_append : (front back : List Item) (long count depth long' count' depth' long'' count'' depth'' : ℕ) → AreSizes front long count depth
    → AreSizes back long' count' depth'
    → long'' ≡ min (long + long') (2 ^ 64 - 1) → count'' ≡ min (count + count') (2 ^ 64 - 1) → depth'' ≡ max depth depth'
    → AreSizes (front ++ back) long'' count'' depth''
sizes_append front back long count depth long' count' depth' long'' count'' depth'' f b l c d =
    record {
      long_is = omega (arith, f.long_is, b.long_is, l, length-append front back);
      count_is = omega (arith, f.count_is, b.count_is, c, count-append front back);
      depth_is = omega (arith, f.depth_is, b.depth_is, d, depth-append front back);
    }

-- the sizes of a text
pub text_sizes : (attributes : Attributes) (scalars : List ℕ) (long depth : ℕ) → long ≡ length scalars → long < 2 ^ 64 → depth ≡ min 1 long
    → AreSizes (map (λ scalar. character scalar attributes) scalars) long long depth
text_sizes attributes scalars long depth l small d =
    record {
      long_is = omega (arith, length-characters attributes scalars);
      count_is = omega (arith, count-characters attributes scalars);
      depth_is = omega (arith, depth-characters attributes scalars);
    }

-- the sizes of an element
pub element_sizes : (id : ℕ) (name : List ℕ) (attributes : Attributes) (children : List Item) (long count depth count' depth' : ℕ)
    → AreSizes children long count depth
    → count' ≡ min (count + 1) (2 ^ 64 - 1) → depth' ≡ min (depth + 1) (2 ^ 32 - 1)
    → AreSizes (element id name attributes (items_of children) ∷ []) 1 count' depth'
element_sizes id name attributes children long count depth count' depth' h c d =
    record {
      long_is = omega arith;
      count_is = omega (arith, h.count_is, count-inner children);
      depth_is = omega (arith, h.depth_is, depth-inner children);
    }
