-- The tests of places, by what the tree tells.
use Rattle.std.proofs.Common.{◌≡◌, ℕ, ◌-◌, ◌<◌, ◌^◌, min, List, [], ◌∷◌, ◌++◌, length, true, false, nat_le, Option, Some, None, option_map, is_some, refl, sym}
use Rattle.std.proofs.Common.{ap, ◌∙◌, arith}
use Rattle.std.specs.Option.{option_map_or, option_and_then}
use Rattle.std.proofs.lemmas.Bool.Decides.{nat_tests}
use Rattle.item_definitions.specs.Item.{Attributes, Item, character, element, inner}
use Rattle.item_definitions.specs.Children.{parent_of, offset_of, children_at, child_count, item_at}
use Rattle.item_definitions.proofs.Paths.{parent_of-push, offset_of-push}
use Rattle.model_tree.specs.Parts.{HeadParts}
use Rattle.model_tree.specs.Reading.{shown_character, shown_element, shown_of}
use Rattle.edit_definitions.specs.Places.{is_there, is_element}

there : (items : List Item) (parent : List ℕ) (offset : ℕ) → is_there items (parent ++ offset ∷ [])
    ≡ option_map_or (λ count. nat_le (offset_of (parent ++ offset ∷ [])) count) (child_count items (parent_of (parent ++ offset ∷ []))) false
there items [] offset = refl
there items (number ∷ path) offset = refl

pub there-at : (items : List Item) (parent : List ℕ) (offset : ℕ) → is_there items (parent ++ offset ∷ [])
    ≡ option_map_or (λ level. nat_le offset (length level)) (children_at parent items) false
there-at items parent offset =
    there items parent offset
    ∙ ap (λ n. option_map_or (λ count. nat_le n count) (child_count items (parent_of (parent ++ offset ∷ []))) false) (offset_of-push parent offset)
    ∙ ap (λ p. option_map_or (λ count. nat_le offset count) (child_count items p) false) (parent_of-push parent offset)
    ∙ mapped (children_at parent items)
  where
    mapped : (o : Option (List Item)) → option_map_or (λ count. nat_le offset count) (option_map length o) false
        ≡ option_map_or (λ level. nat_le offset (length level)) o false
    mapped None = refl
    mapped (Some level) = refl

pub there_counted : (items level : List Item) (position parent : List ℕ) (offset long : ℕ) → position ≡ parent ++ offset ∷ []
    → Some level ≡ children_at parent items → long ≡ min (length level) (2 ^ 64 - 1) → offset < 2 ^ 32
    → is_there items position ≡ nat_le offset long
there_counted items level position parent offset long whole found many small =
    ap (is_there items) whole ∙ there-at items parent offset ∙ ap (λ (o : Option (List Item)). option_map_or (λ l. nat_le offset (length l)) o false)
    (sym found)
    ∙ same (length level) many
  where
    same : (n : ℕ) → long ≡ min n (2 ^ 64 - 1) → nat_le offset n ≡ nat_le offset long
    same n e = grind (arith, nat_tests)

pub there_nowhere : (items : List Item) (position parent : List ℕ) (offset : ℕ) → position ≡ parent ++ offset ∷ [] → None ≡ children_at parent items
    → is_there items position ≡ false
there_nowhere items position parent offset whole found =
    ap (is_there items) whole ∙ there-at items parent offset ∙ ap (λ (o : Option (List Item)). option_map_or (λ l. nat_le offset (length l)) o false)
    (sym found)

pub element_there : (items : List Item) (path : List ℕ) (head : HeadParts) (count : ℕ) → Some (shown_element head count)
    ≡ option_map shown_of (item_at path items) → is_element items path ≡ true
element_there items path head count e = go (item_at path items) e
  where
    go : (o : Option Item) → Some (shown_element head count) ≡ option_map shown_of o → is_some (option_and_then inner o) ≡ true
    go None e = absurd cc
    go (Some (character scalar attributes)) e = absurd cc
    go (Some (element id name attributes children)) e = refl

pub element_character : (items : List Item) (path : List ℕ) (scalar : ℕ) (attributes : Attributes) → Some (shown_character scalar attributes)
    ≡ option_map shown_of (item_at path items) → is_element items path ≡ false
element_character items path scalar attributes e = go (item_at path items) e
  where
    go : (o : Option Item) → Some (shown_character scalar attributes) ≡ option_map shown_of o → is_some (option_and_then inner o) ≡ false
    go None e = refl
    go (Some (character scalar attributes)) e = refl
    go (Some (element id name attributes children)) e = absurd cc

pub element_nowhere : (items : List Item) (path : List ℕ) → None ≡ option_map shown_of (item_at path items) → is_element items path ≡ false
element_nowhere items path e = go (item_at path items) e
  where
    go : (o : Option Item) → None ≡ option_map shown_of o → is_some (option_and_then inner o) ≡ false
    go None e = refl
    go (Some item) e = absurd cc
