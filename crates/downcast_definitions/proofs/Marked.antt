-- Whether an entry of a row stands right behind a character, or right before one, in its list of pieces.
use Rattle.std.proofs.Common.{◌≡◌, ℕ, zero, suc, ◌-◌, List, [], ◌∷◌, length, Bool, true, false, Some, refl, sym, ap, ◌∙◌, arith}
use Rattle.std.proofs.lemmas.Bool.Decides.{nat_tests}
use Rattle.std.specs.Prelude.{nat_lt, if◌then◌else◌}
use Rattle.view_definitions.specs.Layer.{Layer, same_layer}
use Rattle.view_definitions.specs.Row.{Content, leaf, item, character, caret, Entry, Pieces, nothing, first, bare, wrapped, put, pieces_of}
use Rattle.downcast_definitions.specs.Place.{pieces_size}
use Rattle.downcast_definitions.specs.Seen.{character_layers_at, of_character, marked}
use Rattle.downcast_definitions.specs.Rule.{after, text_before, text_behind}
use Rattle.downcast_definitions.proofs.Entries.{contents-size, contents-put}
use Rattle.downcast_definitions.proofs.Marks.{within_layer, behind_layer, put-twice}

-- whether it might, if pieces more come before these
abbrev pub head_before : Pieces → ℕ → Bool
head_before nothing number = true
head_before (first (bare content) pieces) zero = true
head_before (first (bare content) pieces) (suc number) = text_before (after content true) pieces number
head_before (first (wrapped layer inner) pieces) number =
    if nat_lt number (pieces_size inner) then head_before inner number else text_before false pieces (number - pieces_size inner)

pub size-put : (layers : List Layer) (content : Content) (pieces : Pieces) → pieces_size (put layers content pieces) ≡ suc (pieces_size pieces)
size-put layers content pieces =
    contents-size (put layers content pieces) ∙ ap length (contents-put layers content pieces) ∙ ap suc (sym (contents-size pieces))

pub later_below : (x y : ℕ) → nat_lt (suc x) (suc y) ≡ nat_lt x y
later_below x y = grind (arith, nat_tests)

later_end : (x : ℕ) → nat_lt (suc x) 1 ≡ false
later_end x = grind (arith, nat_tests)

pub first_below : (y : ℕ) → nat_lt 0 (suc y) ≡ true
first_below y = grind (arith, nat_tests)

-- behind one piece of a single entry
pub skipped : (size number : ℕ) (here : Bool) (there : ℕ → Bool) → size ≡ 1 → (if nat_lt (suc number) size then here else there (suc number - size))
    ≡ there number
skipped size number here there e =
    ap (λ s. if nat_lt (suc number) s then here else there (suc number - s)) e ∙ ap (λ b. if b then here else there (suc number - 1)) (later_end number)
    ∙ ap there (omega arith)

-- and in pieces with one entry more
pub moved : (size more number : ℕ) (here : Bool) (there : ℕ → Bool) → more ≡ suc size
    → (if nat_lt (suc number) more then here else there (suc number - more)) ≡ (if nat_lt number size then here else there (number - size))
moved size more number here there e =
    let less : suc number - suc size ≡ number - size = omega arith in
    ap (λ s. if nat_lt (suc number) s then here else there (suc number - s)) e
    ∙ (λ i. if later_below number size i then here else there (less i))

-- ---- what is put before doesn't change what is behind

pub behind-put : (layers : List Layer) (content : Content) (pieces : Pieces) (number : ℕ) → text_behind (put layers content pieces) (suc number)
    ≡ text_behind pieces number
behind-put [] content pieces number = refl
behind-put (layer ∷ layers) content nothing number = skipped (pieces_size (put layers content nothing)) number _ (λ n. text_behind nothing n)
    (size-put layers content nothing)
behind-put (layer ∷ layers) content (first (bare next) pieces) number =
    skipped (pieces_size (put layers content nothing)) number _ (λ n. text_behind (first (bare next) pieces) n) (size-put layers content nothing)
behind-put (layer ∷ layers) content (first (wrapped other inner) pieces) number =
    elim (same_layer layer other) as (λ b. text_behind (if b then first (wrapped layer (put layers content inner)) pieces
    else first (wrapped layer (put layers content nothing)) (first (wrapped other inner) pieces)) (suc number)
    ≡ text_behind (first (wrapped other inner) pieces) number) [
      | true ↦
          moved (pieces_size inner) (pieces_size (put layers content inner)) number _ (λ n. text_behind pieces n) (size-put layers content inner)
          ∙ ap (λ here. if nat_lt number (pieces_size inner) then here else text_behind pieces (number - pieces_size inner))
          (behind-put layers content inner number)
      | false ↦ skipped (pieces_size (put layers content nothing)) number _ (λ n. text_behind (first (wrapped other inner) pieces) n)
          (size-put layers content nothing)
    ]

-- ---- an entry behind a character stays so

stays : (pieces : Pieces) (number : ℕ) (before : Bool) → text_before false pieces number ≡ true → text_before before pieces number ≡ true
stays nothing number before e = cc
stays (first (bare content) pieces) zero before e = cc
stays (first (bare (leaf node)) pieces) (suc number) before e = e
stays (first (bare (item node)) pieces) (suc number) before e = e
stays (first (bare (character scalar)) pieces) (suc number) before e = e
stays (first (bare caret) pieces) (suc number) before e = stays pieces number before e
stays (first (wrapped layer inner) pieces) number before e = e

pub behind-character-put : (layers : List Layer) (content : Content) (pieces : Pieces) (number : ℕ) (before : Bool) → text_before false pieces number
    ≡ true → text_before before (put layers content pieces) (suc number) ≡ true
behind-character-put [] content pieces number before e = stays pieces number (after content before) e
behind-character-put (layer ∷ layers) content nothing number before e = cc
behind-character-put (layer ∷ layers) content (first (bare next) pieces) number before e =
    skipped (pieces_size (put layers content nothing)) number _ (λ n. text_before false (first (bare next) pieces) n) (size-put layers content nothing) ∙ e
behind-character-put (layer ∷ layers) content (first (wrapped other inner) pieces) number before e =
    elim (same_layer layer other) as (λ b. text_before before (if b then first (wrapped layer (put layers content inner)) pieces
    else first (wrapped layer (put layers content nothing)) (first (wrapped other inner) pieces)) (suc number) ≡ true) [
      | true ↦ moved (pieces_size inner) (pieces_size (put layers content inner)) number _ (λ n. text_before false pieces n) (size-put layers content inner)
          ∙ inside (nat_lt number (pieces_size inner)) e (behind-character-put layers content inner number false)
      | false ↦ skipped (pieces_size (put layers content nothing)) number _ (λ n. text_before false (first (wrapped other inner) pieces) n)
          (size-put layers content nothing) ∙ e
    ]
  where
    inside : (b : Bool) → (if b then text_before false inner number else text_before false pieces (number - pieces_size inner)) ≡ true
        → (text_before false inner number ≡ true → text_before false (put layers content inner) (suc number) ≡ true)
        → (if b then text_before false (put layers content inner) (suc number) else text_before false pieces (number - pieces_size inner)) ≡ true
    inside true e ih = ih e
    inside false e ih = e

-- ---- an entry that nothing put before can bring behind a character stays so

apart : (pieces : Pieces) (number : ℕ) (before : Bool) → text_before true pieces number ≡ false → text_before before pieces number ≡ false
apart nothing number before e = cc
apart (first (bare content) pieces) zero before e = cc
apart (first (bare (leaf node)) pieces) (suc number) before e = e
apart (first (bare (item node)) pieces) (suc number) before e = e
apart (first (bare (character scalar)) pieces) (suc number) before e = e
apart (first (bare caret) pieces) (suc number) before e = apart pieces number before e
apart (first (wrapped layer inner) pieces) number before e = e

pub never-behind : (pieces : Pieces) (number : ℕ) (before : Bool) → head_before pieces number ≡ false → text_before before pieces number ≡ false
never-behind nothing number before e = cc
never-behind (first (bare content) pieces) zero before e = cc
never-behind (first (bare (leaf node)) pieces) (suc number) before e = e
never-behind (first (bare (item node)) pieces) (suc number) before e = e
never-behind (first (bare (character scalar)) pieces) (suc number) before e = e
never-behind (first (bare caret) pieces) (suc number) before e = apart pieces number before e
never-behind (first (wrapped layer inner) pieces) number before e = go (nat_lt number (pieces_size inner)) e (never-behind inner number false)
  where
    go : (b : Bool) → (if b then head_before inner number else text_before false pieces (number - pieces_size inner)) ≡ false
        → (head_before inner number ≡ false → text_before false inner number ≡ false)
        → (if b then text_before false inner number else text_before false pieces (number - pieces_size inner)) ≡ false
    go true f ih = ih f
    go false f ih = f

pub never-behind-put : (layers : List Layer) (content : Content) (pieces : Pieces) (number : ℕ) → head_before pieces number ≡ false
    → head_before (put layers content pieces) (suc number) ≡ false
never-behind-put [] content pieces number e = never-behind pieces number (after content true) e
never-behind-put (layer ∷ layers) content nothing number e = cc
never-behind-put (layer ∷ layers) content (first (bare next) pieces) number e =
    skipped (pieces_size (put layers content nothing)) number _ (λ n. text_before false (first (bare next) pieces) n) (size-put layers content nothing)
    ∙ never-behind (first (bare next) pieces) number false e
never-behind-put (layer ∷ layers) content (first (wrapped other inner) pieces) number e =
    elim (same_layer layer other) as (λ b. head_before (if b then first (wrapped layer (put layers content inner)) pieces
    else first (wrapped layer (put layers content nothing)) (first (wrapped other inner) pieces)) (suc number) ≡ false) [
      | true ↦ moved (pieces_size inner) (pieces_size (put layers content inner)) number _ (λ n. text_before false pieces n) (size-put layers content inner)
          ∙ inside (nat_lt number (pieces_size inner)) e (never-behind-put layers content inner number)
      | false ↦ skipped (pieces_size (put layers content nothing)) number _ (λ n. text_before false (first (wrapped other inner) pieces) n)
          (size-put layers content nothing)
          ∙ never-behind (first (wrapped other inner) pieces) number false e
    ]
  where
    inside : (b : Bool) → (if b then head_before inner number else text_before false pieces (number - pieces_size inner)) ≡ false
        → (head_before inner number ≡ false → head_before (put layers content inner) (suc number) ≡ false)
        → (if b then head_before (put layers content inner) (suc number) else text_before false pieces (number - pieces_size inner)) ≡ false
    inside true e ih = ih e
    inside false e ih = e

-- ---- a mark behind a character, in its layers

pub mark-behind : (layers : List Layer) (scalar : ℕ) (pieces : Pieces) (before : Bool)
    → text_before before (put layers (character scalar) (put layers caret pieces)) 1 ≡ true
mark-behind [] scalar pieces before = refl
mark-behind (layer ∷ layers) scalar pieces before =
    ap (λ p. text_before before p 1) (put-twice layer layers layers (character scalar) caret pieces)
    ∙ ap (λ b. if b then text_before false (put layers (character scalar) (put layers caret (within_layer layer pieces))) 1
    else text_before false (behind_layer layer pieces) (1 - pieces_size (put layers (character scalar) (put layers caret (within_layer layer pieces)))))
    (ap (nat_lt 1) (size-put layers (character scalar) (put layers caret (within_layer layer pieces))
    ∙ ap suc (size-put layers caret (within_layer layer pieces))) ∙ later_below 0 (suc (pieces_size (within_layer layer pieces))) ∙ first_below _)
    ∙ mark-behind layers scalar (within_layer layer pieces) false

-- ---- a mark before a character, in its layers

pub mark-before : (layers : List Layer) (scalar : ℕ) (pieces : Pieces) → text_behind (put layers caret (put layers (character scalar) pieces)) 0 ≡ true
mark-before [] scalar pieces = refl
mark-before (layer ∷ layers) scalar pieces =
    ap (λ p. text_behind p 0) (put-twice layer layers layers caret (character scalar) pieces)
    ∙ ap (λ b. if b then text_behind (put layers caret (put layers (character scalar) (within_layer layer pieces))) 0
    else text_behind (behind_layer layer pieces) (0 - pieces_size (put layers caret (put layers (character scalar) (within_layer layer pieces)))))
    (ap (nat_lt 0) (size-put layers caret (put layers (character scalar) (within_layer layer pieces))) ∙ first_below _)
    ∙ mark-before layers scalar (within_layer layer pieces)

-- ---- in a row

pub row-behind : (row : List Entry) (number : ℕ) (layers : List Layer) → character_layers_at row number ≡ Some layers
    → text_before false (pieces_of (marked row (suc number) layers).row) (suc number) ≡ true
row-behind [] number layers e = cc
row-behind (entry ∷ row) zero layers e = here entry.content entry.layers e
  where
    here : (content : Content) (own : List Layer) → of_character content own ≡ Some layers
        → text_before false (put own content (put layers caret (pieces_of row))) 1 ≡ true
    here (leaf node) own e = cc
    here (item node) own e = cc
    here (character scalar) own e =
        let same : own ≡ layers = cc in
        ap (λ ls. text_before false (put ls (character scalar) (put layers caret (pieces_of row))) 1) same ∙ mark-behind layers scalar (pieces_of row) false
    here caret own e = cc
row-behind (entry ∷ row) (suc number) layers e =
    behind-character-put entry.layers entry.content (pieces_of (marked row (suc number) layers).row) (suc number) false (row-behind row number layers e)

pub row-before : (row : List Entry) (number : ℕ) (layers : List Layer) → character_layers_at row number ≡ Some layers
    → text_behind (pieces_of (marked row number layers).row) number ≡ true
row-before [] number layers e = cc
row-before (entry ∷ row) zero layers e = here entry.content entry.layers e
  where
    here : (content : Content) (own : List Layer) → of_character content own ≡ Some layers
        → text_behind (put layers caret (put own content (pieces_of row))) 0 ≡ true
    here (leaf node) own e = cc
    here (item node) own e = cc
    here (character scalar) own e =
        let same : own ≡ layers = cc in
        ap (λ ls. text_behind (put layers caret (put ls (character scalar) (pieces_of row))) 0) same ∙ mark-before layers scalar (pieces_of row)
    here caret own e = cc
row-before (entry ∷ row) (suc number) layers e =
    behind-put entry.layers entry.content (pieces_of (marked row number layers).row) number ∙ row-before row number layers e
