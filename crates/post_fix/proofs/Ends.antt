-- The ends of a selection's range.
use Rattle.std.proofs.Common.{◌≡◌, ℕ, ◌+◌, ◌≤◌, List, [], ◌∷◌, ◌++◌, length, Bool, true, false, ◌&&◌, nat_eq, Option, Some, None, option_map, IsSomeAnd}
use Rattle.std.proofs.Common.{slice_get, refl, sym, ap, ◌∙◌}
use Rattle.std.specs.List.{flat_map}
use Rattle.std.specs.Option.{option_and_then, option_map_or}
use Rattle.std.specs.Cmp.Lexicographic.{pointwise}
use Rattle.ck_base.proofs.Common.{and_false}
use Rattle.item_definitions.specs.Item.{Item, Attributes, character, element, inner, list_of}
use Rattle.item_definitions.specs.Children.{children_at, parent_of, offset_of}
use Rattle.item_definitions.specs.Position.{IsIn, behind}
use Rattle.item_definitions.proofs.Order.{behind-push}
use Rattle.document_definitions.specs.Selection.{same_position}
use Rattle.model_tree.specs.Parts.{HeadParts}
use Rattle.model_tree.specs.Places.{parts_of}
use Rattle.model_tree.specs.Reading.{shown_of, shown_character, shown_element}
use Rattle.schema_definitions.specs.Allowed.{Rules, is_selectable}
use Rattle.fix_definitions.specs.declared.stock.StockFixer.TheVariants.{SelectionPlace}
use Rattle.fix_definitions.specs.Places.{Place}
use Rattle.fix_definitions.specs.Wanted.{wanted}
use Rattle.fix_definitions.specs.Selecting.{is_selectable_item}
use Rattle.post_fix.specs.Nearest.{Stands}

-- ---- a position in a document stands among its items

abbrev Deeper : List ℕ → Option (List Item) → Type 0
Deeper position o = IsSomeAnd (option_map length (option_and_then (children_at (parent_of position)) o)) (λ count. offset_of position ≤ count)

pub stands : (position : List ℕ) (items : List Item) → IsIn items position → Stands position items
stands [] items h = absurd (h.0 refl)
stands (offset ∷ []) items h = h.1
stands (index ∷ next ∷ rest) items h = go (stands (next ∷ rest)) (slice_get items index) refl h.1
  where
    go : ((kids : List Item) → IsIn kids (next ∷ rest) → Stands (next ∷ rest) kids) → (o : Option Item) → slice_get items index ≡ o
        → IsSomeAnd (option_map length (option_and_then (λ item. option_and_then (children_at (parent_of (next ∷ rest))) (inner item)) o))
        (λ count. offset_of (next ∷ rest) ≤ count)
        → Stands (index ∷ next ∷ rest) items
    go deeper None e h = absurd h
    go deeper (Some (character scalar attributes)) e h = absurd h
    go deeper (Some (element id name attributes children)) e h = (
      (record { id = id; name = name; attributes = attributes }, list_of children),
      ap (option_and_then parts_of) e,
      deeper (list_of children) ((λ e. cc), h),
    )

-- ---- the position behind another one

and_assoc : (a b c : Bool) → (a && (b && c)) ≡ ((a && b) && c)
and_assoc true b c = refl
and_assoc false b c = refl

and_true : (b : Bool) → (b && true) ≡ b
and_true true = refl
and_true false = refl

seam : (xs ys : List ℕ) (x y : ℕ) → pointwise nat_eq (xs ++ x ∷ []) (ys ++ y ∷ []) ≡ (pointwise nat_eq xs ys && nat_eq x y)
seam [] [] x y = and_true (nat_eq x y)
seam [] (z ∷ []) x y = and_false (nat_eq x z)
seam [] (z ∷ next ∷ ys) x y = and_false (nat_eq x z)
seam (z ∷ []) [] x y = and_false (nat_eq z y)
seam (z ∷ next ∷ xs) [] x y = and_false (nat_eq z y)
seam (a ∷ xs) (b ∷ ys) x y = ap (λ c. nat_eq a b && c) (seam xs ys x y) ∙ and_assoc (nat_eq a b) (pointwise nat_eq xs ys) (nat_eq x y)

pub next_is : (start end parent other : List ℕ) (offset next : ℕ) → start ≡ parent ++ offset ∷ [] → end ≡ other ++ next ∷ []
    → (pointwise nat_eq other parent && nat_eq next (offset + 1)) ≡ same_position end (behind start)
next_is start end parent other offset next s e =
    sym (seam other parent next (offset + 1)) ∙ (λ i. same_position (sym e i) (sym (ap behind s ∙ behind-push parent offset) i))

-- ---- an element that can be selected

module _ (rules : Rules) where
  pub element_shown : (o : Option Item) (head : HeadParts) (count : ℕ) → Some (shown_element head count) ≡ option_map shown_of o
      → is_selectable rules head.name ≡ option_map_or (is_selectable_item rules) o false
  element_shown None head count e = absurd cc
  element_shown (Some (character scalar attributes)) head count e = absurd cc
  element_shown (Some (element id name attributes children)) head count e =
      (let same : head ≡ record { id = id; name = name; attributes = attributes } = cc in ap (λ (h : HeadParts). is_selectable rules h.name) same)

  pub character_shown : (o : Option Item) (scalar : ℕ) (attributes : Attributes) → Some (shown_character scalar attributes) ≡ option_map shown_of o
      → false ≡ option_map_or (is_selectable_item rules) o false
  character_shown None scalar attributes e = absurd cc
  character_shown (Some (character other others)) scalar attributes e = refl
  character_shown (Some (element id name others children)) scalar attributes e = absurd cc

  pub nothing_shown : (o : Option Item) → None ≡ option_map shown_of o → false ≡ option_map_or (is_selectable_item rules) o false
  nothing_shown None e = refl
  nothing_shown (Some item) e = absurd cc

-- ---- no place wants anything of the selection

pub nothing : (rules : Rules) (places : List Place) → flat_map (wanted rules SelectionPlace) places ≡ []
nothing rules [] = refl
nothing rules (place ∷ places) = nothing rules places
