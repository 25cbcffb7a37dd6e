-- The item directly before another one in the same parent, and the names of the ancestors that both have.
use Rattle.std.proofs.Common.{◌≡◌, ◌≢◌, ℕ, zero, suc, ◌+◌, ◌-◌, List, [], ◌∷◌, ◌++◌, ◌==◌, if◌then◌else◌, Option, Some, None, codes, slice_get, refl, sym, ap}
use Rattle.std.proofs.Common.{◌∙◌, arith}
use Rattle.std.specs.Option.{option_and_then, option_map_or}
use Rattle.ck_base.proofs.Common.{not_zero}
use Rattle.item_definitions.specs.Item.{Item, inner}
use Rattle.item_definitions.specs.Children.{item_at, parent_of, offset_of}
use Rattle.item_definitions.proofs.Paths.{parent_of-push, offset_of-push, path-joined}
use Rattle.breach_definitions.specs.Breach.{item_name}
use Rattle.breach_definitions.specs.Obeys.{names_on, ancestors_at}
use Rattle.document_definitions.specs.Selection.{before}
use Rattle.fix_definitions.specs.Places.{left_of}

abbrev before_by : List ℕ → ℕ → Option (List ℕ)
before_by parent offset = if offset == 0 then None else Some (parent ++ (offset - 1) ∷ [])

before_next : (parent : List ℕ) (offset : ℕ) → before_by parent (suc offset) ≡ Some (parent ++ offset ∷ [])
before_next parent offset =
    ap (λ b. if b then None else Some (parent ++ (suc offset - 1) ∷ [])) (not_zero offset)
    ∙ (let same : suc offset - 1 ≡ offset = omega arith in ap (λ n. Some (parent ++ n ∷ [])) same)

before_push : (parent : List ℕ) (offset : ℕ) → before (parent ++ (offset + 1) ∷ []) ≡ Some (parent ++ offset ∷ [])
before_push parent offset =
    ap (before_by (parent_of (parent ++ (offset + 1) ∷ []))) (offset_of-push parent (offset + 1))
    ∙ ap (λ p. before_by p (offset + 1)) (parent_of-push parent (offset + 1))
    ∙ (let next : offset + 1 ≡ suc offset = omega arith in ap (before_by parent) next)
    ∙ before_next parent offset

-- the item at an offset is the one before the item at the next offset
pub left_is : (items : List Item) (parent : List ℕ) (offset : ℕ) → left_of items (parent ++ (offset + 1) ∷ []) ≡ item_at (parent ++ offset ∷ []) items
left_is items parent offset = ap (option_and_then (λ other. item_at other items)) (before_push parent offset)

-- an item that has another before it stands at the next offset
pub record Neighbours (items : List Item) (path : List ℕ) (left : Item) : Type 0 where
  pub parent : List ℕ
  pub offset : ℕ
  pub here : path ≡ parent ++ (offset + 1) ∷ []
  pub there : item_at (parent ++ offset ∷ []) items ≡ Some left

pub neighbours : (items : List Item) (path : List ℕ) (left : Item) → path ≢ [] → left_of items path ≡ Some left → Neighbours items path left
neighbours items path left some e = go (offset_of path) refl
  where
    go : (offset : ℕ) → offset_of path ≡ offset → Neighbours items path left
    go zero o = absurd (let none = sym (ap (λ n. option_and_then (λ other. item_at other items) (before_by (parent_of path) n)) o) ∙ e in cc)
    go (suc offset) o = record {
      parent = parent_of path;
      offset = offset;
      here = path-joined path some ∙ (let next : offset_of path ≡ offset + 1 = o ∙ omega arith in ap (λ n. parent_of path ++ n ∷ []) next);
      there = sym (ap (λ n. option_and_then (λ other. item_at other items) (before_by (parent_of path) n)) o
          ∙ ap (option_and_then (λ other. item_at other items)) (before_next (parent_of path) offset)) ∙ e;
    }

pub no_left : (items : List Item) (parent : List ℕ) → left_of items (parent ++ 0 ∷ []) ≡ None
no_left items parent =
    ap (λ n. option_and_then (λ other. item_at other items) (before_by (parent_of (parent ++ 0 ∷ [])) n)) (offset_of-push parent 0)

-- the ancestors of an item don't hang on its offset
pub names_same : (parent : List ℕ) (offset other : ℕ) (items : List Item) → names_on (parent ++ offset ∷ []) items ≡ names_on (parent ++ other ∷ []) items
names_same [] offset other items = refl
names_same (index ∷ []) offset other items =
    λ i. option_map_or (λ item. item_name item ∷ option_map_or (λ inside. names_same [] offset other inside i) (inner item) []) (slice_get items index) []
names_same (index ∷ next ∷ parent) offset other items =
    λ i. option_map_or (λ item. item_name item ∷ option_map_or (λ inside. names_same (next ∷ parent) offset other inside i) (inner item) [])
    (slice_get items index) []

pub ancestors_same : (parent : List ℕ) (offset other : ℕ) (items : List Item) → ancestors_at (parent ++ offset ∷ []) items
    ≡ ancestors_at (parent ++ other ∷ []) items
ancestors_same parent offset other items = ap (λ names. codes "$root" ∷ names) (names_same parent offset other items)
