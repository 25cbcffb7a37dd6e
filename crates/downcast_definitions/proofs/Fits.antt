-- A mark between two entries, in the layers that go on across it, fits between nodes.
use Rattle.std.proofs.Common.{◌≡◌, ℕ, zero, suc, ◌+◌, ◌-◌, ◌<◌, List, [], ◌∷◌, take, Bool, true, false, ◌&&◌, refl, ap, ◌∙◌, subst, arith}
use Rattle.std.specs.Prelude.{nat_lt, if◌then◌else◌}
use Rattle.view_definitions.specs.Layer.{Layer, same_layer}
use Rattle.view_definitions.specs.Change.{IsBareLeaf}
use Rattle.view_definitions.specs.Row.{Content, leaf, item, character, caret, Entry, Pieces, nothing, first, bare, wrapped, put, pieces_of}
use Rattle.view_definitions.proofs.Layers.{same_layer-true}
use Rattle.downcast_definitions.specs.Place.{pieces_size, begins_with_text}
use Rattle.downcast_definitions.specs.Seen.{common, layers_at, layers_before, marked}
use Rattle.downcast_definitions.proofs.Entries.{counted, items_in, contents, contents-put}
use Rattle.downcast_definitions.proofs.Marks.{within_layer, behind_layer, put-cons, put-thrice, put-twice}
use Rattle.ck_base.proofs.Common.{is_below, below, first as first_true, second as second_true, both}
use Rattle.downcast_definitions.specs.Rule.{text_behind}
use Rattle.downcast_definitions.proofs.Marked.{size-put, skipped, moved, later_below, first_below, behind-put}
use Rattle.downcast_definitions.proofs.Apart.{IsNode}
use Rattle.downcast_definitions.proofs.Gaps.{starts_item, open_behind, before, fits}

before-put : (layers : List Layer) (content : Content) (pieces : Pieces) (number : ℕ) → before (put layers content pieces) (suc number)
    ≡ counted content + before pieces number
before-put layers content pieces number = ap (λ cs. items_in (take (suc number) cs)) (contents-put layers content pieces)

items-put : (layers : List Layer) (content : Content) (pieces : Pieces) → items_in (contents (put layers content pieces))
    ≡ counted content + items_in (contents pieces)
items-put layers content pieces = ap items_in (contents-put layers content pieces)

-- ---- what is put before leaves a mark fitting

pub fits-put : (layers : List Layer) (content : Content) (pieces : Pieces) (number : ℕ) → fits pieces number ≡ true
    → fits (put layers content pieces) (suc number) ≡ true
fits-put [] content pieces number e = e
fits-put (layer ∷ layers) content nothing number e = cc
fits-put (layer ∷ layers) content (first (bare next) pieces) number e =
    skipped (pieces_size (put layers content nothing)) number _ (λ n. fits (first (bare next) pieces) n) (size-put layers content nothing) ∙ e
fits-put (layer ∷ layers) content (first (wrapped other inner) pieces) number e =
    elim (same_layer layer other) as
    (λ b. fits (if b then first (wrapped layer (put layers content inner)) pieces
    else first (wrapped layer (put layers content nothing)) (first (wrapped other inner) pieces)) (suc number) ≡ true) [
      | true ↦ moved (pieces_size inner) (pieces_size (put layers content inner)) number _ (λ n. fits pieces n) (size-put layers content inner)
          ∙ inside (nat_lt number (pieces_size inner)) e (fits-put layers content inner number)
      | false ↦ skipped (pieces_size (put layers content nothing)) number _ (λ n. fits (first (wrapped other inner) pieces) n)
          (size-put layers content nothing) ∙ e
    ]
  where
    inside : (b : Bool) → (if b then fits inner number && (nat_lt 0 (before inner number) && nat_lt (before inner number) (items_in (contents inner)))
        else fits pieces (number - pieces_size inner)) ≡ true
        → (fits inner number ≡ true → fits (put layers content inner) (suc number) ≡ true)
        → (if b then fits (put layers content inner) (suc number)
        && (nat_lt 0 (before (put layers content inner) (suc number))
        && nat_lt (before (put layers content inner) (suc number)) (items_in (contents (put layers content inner))))
        else fits pieces (number - pieces_size inner)) ≡ true
    inside true f ih =
        let fit = first_true (fits inner number) _ f in
        let around = second_true (fits inner number) (nat_lt 0 (before inner number) && nat_lt (before inner number) (items_in (contents inner))) f in
        let some : 0 < before inner number = is_below _ _ (first_true (nat_lt 0 (before inner number)) _ around) in
        let few : before inner number < items_in (contents inner) = is_below _ _ (second_true (nat_lt 0 (before inner number)) _ around) in
        let more = before-put layers content inner number in
        let all = items-put layers content inner in
        both (fits (put layers content inner) (suc number)) _ (ih fit)
        (both (nat_lt 0 (before (put layers content inner) (suc number))) _ (below _ _ (omega (arith, some, more))) (below _ _ (omega (arith, few, more, all))))
    inside false f ih = f

-- ---- a mark between two entries

-- an element as the next entry
abbrev pub IsElement : Content → Type 0
IsElement (leaf node) = ⊥
IsElement (item node) = Unit {0}
IsElement (character scalar) = ⊥
IsElement caret = ⊥

starts-put : (layers : List Layer) (content : Content) (pieces : Pieces) → IsElement content → starts_item (put layers content pieces) ≡ true
starts-put [] (leaf node) pieces h = absurd h
starts-put [] (item node) pieces h = refl
starts-put [] (character scalar) pieces h = absurd h
starts-put [] caret pieces h = absurd h
starts-put (layer ∷ layers) content pieces h = ap starts_item (put-cons layer layers content pieces) ∙ starts-put layers content (within_layer layer pieces) h

open-put : (layers : List Layer) (content : Content) (pieces : Pieces) → IsElement content → open_behind (put layers content pieces) ≡ true
open-put [] content pieces h = starts-put [] content pieces h
open-put (layer ∷ layers) content pieces h = ap open_behind (put-cons layer layers content pieces) ∙ starts-put layers content (within_layer layer pieces) h

-- in a layer stands an element, and no leaf
counted-in : (layer : Layer) (layers : List Layer) (content : Content) → IsNode content → IsBareLeaf content (layer ∷ layers) → counted content ≡ 1
counted-in layer layers (leaf node) n h = cc
counted-in layer layers (item node) n h = refl
counted-in layer layers (character scalar) n h = absurd n
counted-in layer layers caret n h = absurd n

inner-bare : (content : Content) (layers : List Layer) → counted content ≡ 1 → IsNode content → IsBareLeaf content layers
inner-bare (leaf node) layers e n = cc
inner-bare (item node) layers e n = tt
inner-bare (character scalar) layers e n = tt
inner-bare caret layers e n = tt

counted-element : (content : Content) → IsElement content → counted content ≡ 1
counted-element (leaf node) h = absurd h
counted-element (item node) h = refl
counted-element (character scalar) h = absurd h
counted-element caret h = absurd h

all-fit : (inner : Pieces) → fits inner 1 ≡ true → 0 < before inner 1 → before inner 1 < items_in (contents inner)
    → (fits inner 1 && (nat_lt 0 (before inner 1) && nat_lt (before inner 1) (items_in (contents inner)))) ≡ true
all-fit inner f some few =
    both (fits inner 1) (nat_lt 0 (before inner 1) && nat_lt (before inner 1) (items_in (contents inner))) f
    (both (nat_lt 0 (before inner 1)) (nat_lt (before inner 1) (items_in (contents inner))) (below 0 (before inner 1) some)
    (below (before inner 1) (items_in (contents inner)) few))

fits-between : (layers others : List Layer) (content next : Content) (pieces : Pieces) → IsNode content → IsBareLeaf content layers → IsElement next
    → fits (put layers content (put (common layers others) caret (put others next pieces))) 1 ≡ true
fits-between [] others content next pieces n l h = open-put others next pieces h
fits-between (layer ∷ layers) [] content next pieces n l h =
    skipped (pieces_size (put layers content nothing)) 0 _ (λ k. fits (first (bare caret) (put [] next pieces)) k) (size-put layers content nothing)
    ∙ open-put [] next pieces h
fits-between (layer ∷ layers) (other ∷ others) content next pieces n l h =
    elim (same_layer layer other) as (λ b. same_layer layer other ≡ b
    → fits (put (layer ∷ layers) content (put (if b then layer ∷ common layers others else []) caret (put (other ∷ others) next pieces))) 1 ≡ true) [
      | true ↦ λ e.
          let inner = put layers content (put (common layers others) caret (put others next (within_layer layer pieces))) in
          let one : counted content ≡ 1 = counted-in layer layers content n l in
          let last : counted next ≡ 1 = counted-element next h in
          let more = before-put layers content (put (common layers others) caret (put others next (within_layer layer pieces))) 0 in
          let all = items-put layers content (put (common layers others) caret (put others next (within_layer layer pieces))) in
          let all_behind = items-put (common layers others) caret (put others next (within_layer layer pieces)) in
          let all_last = items-put others next (within_layer layer pieces) in
          subst (λ l. fits (put (layer ∷ layers) content (put (layer ∷ common layers others) caret (put (l ∷ others) next pieces))) 1 ≡ true)
          (same_layer-true layer other e)
          (ap (λ p. fits p 1) (put-thrice layer layers (common layers others) others content caret next pieces)
          ∙ ap (λ b. if b then fits (put layers content (put (common layers others) caret (put others next (within_layer layer pieces)))) 1
          && (nat_lt 0 (before (put layers content (put (common layers others) caret (put others next (within_layer layer pieces)))) 1)
          && nat_lt (before (put layers content (put (common layers others) caret (put others next (within_layer layer pieces)))) 1)
          (items_in (contents (put layers content (put (common layers others) caret (put others next (within_layer layer pieces)))))))
          else fits (behind_layer layer pieces)
          (1 - pieces_size (put layers content (put (common layers others) caret (put others next (within_layer layer pieces))))))
          (ap (nat_lt 1) (size-put layers content (put (common layers others) caret (put others next (within_layer layer pieces)))
          ∙ ap suc (size-put (common layers others) caret (put others next (within_layer layer pieces))))
          ∙ later_below 0 (suc (pieces_size (put others next (within_layer layer pieces)))) ∙ first_below _)
          ∙ all-fit (put layers content (put (common layers others) caret (put others next (within_layer layer pieces))))
          (fits-between layers others content next (within_layer layer pieces) n (inner-bare content layers one n) h)
          (omega (arith, one, more)) (omega (arith, one, last, more, all, all_behind, all_last)))
      | false ↦ λ e.
          skipped (pieces_size (put layers content nothing)) 0 _ (λ k. fits (first (bare caret) (put (other ∷ others) next pieces)) k)
          (size-put layers content nothing) ∙ open-put (other ∷ others) next pieces h
    ] refl

fits-last : (layers : List Layer) (content : Content) → fits (put layers content (put (common layers []) caret nothing)) 1 ≡ true
fits-last [] content = refl
fits-last (layer ∷ layers) content = skipped (pieces_size (put layers content nothing)) 0 _ (λ k. fits (first (bare caret) nothing) k)
    (size-put layers content nothing)

-- ---- in a row

-- that the next entry, if there is one, is an element
abbrev pub ElementNext : List Entry → Type 0
ElementNext [] = Unit {0}
ElementNext (entry ∷ row) = IsElement entry.content

-- that a number is that of a boundary with no character before it and none behind it, and is behind its leaves
abbrev pub Between : List Entry → ℕ → Type 0
Between row zero = ElementNext row
Between [] (suc number) = ⊥
Between (entry ∷ row) (suc zero) = IsNode entry.content × IsBareLeaf entry.content entry.layers × ElementNext row
Between (entry ∷ row) (suc (suc number)) = Between row (suc number)

first-fits : (row : List Entry) → ElementNext row → open_behind (pieces_of row) ≡ true
first-fits [] h = refl
first-fits (entry ∷ row) h = open-put entry.layers entry.content (pieces_of row) h

pub row-fits : (row : List Entry) (number : ℕ) → Between row number
    → fits (pieces_of (marked row number (common (layers_before row number) (layers_at row number))).row) number ≡ true
row-fits row zero h = first-fits row h
row-fits [] (suc number) h = absurd h
row-fits (entry ∷ []) (suc zero) h = fits-last entry.layers entry.content
row-fits (entry ∷ next ∷ row) (suc zero) h = fits-between entry.layers next.layers entry.content next.content (pieces_of row) h.0 h.1 h.2
row-fits (entry ∷ row) (suc (suc number)) h =
    fits-put entry.layers entry.content (pieces_of (marked row (suc number) (common (layers_before row (suc number)) (layers_at row (suc number)))).row)
    (suc number) (row-fits row (suc number) h)

-- ---- no character behind it

text-first : (layers : List Layer) (content : Content) (pieces : Pieces) → IsElement content → begins_with_text (put layers content pieces) ≡ false
text-first [] (leaf node) pieces h = absurd h
text-first [] (item node) pieces h = refl
text-first [] (character scalar) pieces h = absurd h
text-first [] caret pieces h = absurd h
text-first (layer ∷ layers) content pieces h = ap begins_with_text (put-cons layer layers content pieces)

-- a mark in outermost layers of an element before the element
behind-element : (layers others : List Layer) (next : Content) (pieces : Pieces) → IsElement next
    → text_behind (put (common layers others) caret (put others next pieces)) 0 ≡ false
behind-element [] others next pieces h = text-first others next pieces h
behind-element (layer ∷ layers) [] next pieces h = text-first [] next pieces h
behind-element (layer ∷ layers) (other ∷ others) next pieces h =
    elim (same_layer layer other) as (λ b. same_layer layer other ≡ b
    → text_behind (put (if b then layer ∷ common layers others else []) caret (put (other ∷ others) next pieces)) 0 ≡ false) [
      | true ↦ λ e.
          subst (λ l. text_behind (put (layer ∷ common layers others) caret (put (l ∷ others) next pieces)) 0 ≡ false) (same_layer-true layer other e)
          (ap (λ p. text_behind p 0) (put-twice layer (common layers others) others caret next pieces)
          ∙ ap (λ b. if b then text_behind (put (common layers others) caret (put others next (within_layer layer pieces))) 0
          else text_behind (behind_layer layer pieces) (0 - pieces_size (put (common layers others) caret (put others next (within_layer layer pieces)))))
          (ap (nat_lt 0) (size-put (common layers others) caret (put others next (within_layer layer pieces))) ∙ first_below _)
          ∙ behind-element layers others next (within_layer layer pieces) h)
      | false ↦ λ e. text-first (other ∷ others) next pieces h
    ] refl

no-layers : (layers : List Layer) → common layers [] ≡ []
no-layers [] = refl
no-layers (layer ∷ layers) = refl

first-behind : (layers : List Layer) (row : List Entry) → ElementNext row → text_behind (put (common layers (layers_at row 0)) caret (pieces_of row)) 0 ≡ false
first-behind layers [] h = ap (λ ls. text_behind (put ls caret nothing) 0) (no-layers layers)
first-behind layers (entry ∷ row) h = behind-element layers entry.layers entry.content (pieces_of row) h

-- such a mark stands before no character
pub row-clear : (row : List Entry) (number : ℕ) → Between row number
    → text_behind (pieces_of (marked row number (common (layers_before row number) (layers_at row number))).row) number ≡ false
row-clear row zero h = first-behind [] row h
row-clear [] (suc number) h = absurd h
row-clear (entry ∷ row) (suc zero) h =
    behind-put entry.layers entry.content (put (common entry.layers (layers_at row 0)) caret (pieces_of row)) 0 ∙ first-behind entry.layers row h.2
row-clear (entry ∷ row) (suc (suc number)) h =
    behind-put entry.layers entry.content
    (pieces_of (marked row (suc number) (common (layers_before row (suc number)) (layers_at row (suc number)))).row) (suc number)
    ∙ row-clear row (suc number) h
