-- Nesting as a fold meets its rule.
use Rattle.std.proofs.Common.{◌≡◌, List, [], ◌∷◌, map, drop, Bool, true, false, if◌then◌else◌, ◌⊎◌, inl, inr, refl, sym, ap, ◌∙◌, subst}
use Rattle.view_definitions.specs.Layer.{Layer, same_layer}
use Rattle.view_definitions.specs.Row.{Content, Entry, Pieces, nothing, first, bare, wrapped, put, pieces_of, begins, within, run_in, behind_run, shown, nest}
use Rattle.view_definitions.specs.Row.{by_first, nest_by_rule}
use Rattle.view_definitions.proofs.Layers.{same_layer-true, same_layer-itself}

-- whether the first piece is wrapped in this layer
abbrev starts : Layer → Pieces → Bool
starts layer nothing = false
starts layer (first (bare content) pieces) = false
starts layer (first (wrapped other inner) pieces) = same_layer layer other

starts-put : (layer : Layer) (layers : List Layer) (content : Content) (pieces : Pieces) → starts layer (put layers content pieces) ≡ begins layer layers
starts-put layer [] content pieces = refl
starts-put layer (other ∷ layers) content nothing = refl
starts-put layer (other ∷ layers) content (first (bare next) pieces) = refl
starts-put layer (other ∷ layers) content (first (wrapped third inner) pieces) =
    elim (same_layer other third) as (λ b. starts layer (if b then first (wrapped other (put layers content inner)) pieces
    else first (wrapped other (put layers content nothing)) (first (wrapped third inner) pieces)) ≡ same_layer layer other) [
      | true ↦ refl
      | false ↦ refl
    ]

-- what stands behind a first entry: a piece in the layer around some pieces and then further pieces, or pieces that don't start in it
abbrev Behind : Layer → Pieces → Pieces → Pieces → Type 0
Behind layer pieces inner rest =
    (pieces ≡ first (wrapped layer inner) rest) ⊎ ((starts layer pieces ≡ false) × (inner ≡ nothing) × (rest ≡ pieces))

put-same : (layer : Layer) (layers : List Layer) (content : Content) (inner rest : Pieces)
    → put (layer ∷ layers) content (first (wrapped layer inner) rest) ≡ first (wrapped layer (put layers content inner)) rest
put-same layer layers content inner rest = rw (same_layer-itself layer) refl

put-apart : (layer : Layer) (layers : List Layer) (content : Content) (pieces : Pieces) → starts layer pieces ≡ false
    → put (layer ∷ layers) content pieces ≡ first (wrapped layer (put layers content nothing)) pieces
put-apart layer layers content nothing e = refl
put-apart layer layers content (first (bare next) pieces) e = refl
put-apart layer layers content (first (wrapped other inner) pieces) e = rw e refl

put-behind : (layer : Layer) (layers : List Layer) (content : Content) (pieces inner rest : Pieces) → begins layer layers ≡ true
    → Behind layer pieces inner rest → put layers content pieces ≡ first (wrapped layer (put (drop 1 layers) content inner)) rest
put-behind layer [] content pieces inner rest b h = cc
put-behind layer (other ∷ layers) content pieces inner rest b h =
    let same : layer ≡ other = same_layer-true layer other b in
    subst (λ l. put (l ∷ layers) content pieces ≡ first (wrapped layer (put layers content inner)) rest) same
    (elim h [
      | inl e ↦ ap (put (layer ∷ layers) content) e ∙ put-same layer layers content inner rest
      | inr e ↦ put-apart layer layers content pieces e.0
          ∙ (λ i. first (wrapped layer (put layers content (sym e.1 i))) (sym e.2 i))
    ])

-- whether the first entry begins in this layer
abbrev row_begins : Layer → List Entry → Bool
row_begins layer [] = false
row_begins layer (entry ∷ row) = begins layer entry.layers

starts-row : (layer : Layer) (row : List Entry) → starts layer (pieces_of row) ≡ row_begins layer row
starts-row layer [] = refl
starts-row layer (entry ∷ row) = starts-put layer entry.layers entry.content (pieces_of row)

no-run : (layer : Layer) (row : List Entry) → row_begins layer row ≡ false → run_in layer row ≡ []
no-run layer [] e = refl
no-run layer (entry ∷ row) e = rw e refl

all-behind : (layer : Layer) (row : List Entry) → row_begins layer row ≡ false → behind_run layer row ≡ row
all-behind layer [] e = refl
all-behind layer (entry ∷ row) e = rw e refl

row-behind : (layer : Layer) (row : List Entry)
    → (row_begins layer row ≡ true → pieces_of row ≡ first (wrapped layer (pieces_of (map within (run_in layer row)))) (pieces_of (behind_run layer row)))
    → Behind layer (pieces_of row) (pieces_of (map within (run_in layer row))) (pieces_of (behind_run layer row))
row-behind layer row known =
    elim (row_begins layer row) as (λ b. row_begins layer row ≡ b
    → Behind layer (pieces_of row) (pieces_of (map within (run_in layer row))) (pieces_of (behind_run layer row))) [
      | true ↦ λ e. inl (known e)
      | false ↦ λ e. inr (starts-row layer row ∙ e, ap (λ run. pieces_of (map within run)) (no-run layer row e), ap pieces_of (all-behind layer row e))
    ] refl

-- the run in a layer is one piece
row-run : (layer : Layer) (row : List Entry) → row_begins layer row ≡ true
    → pieces_of row ≡ first (wrapped layer (pieces_of (map within (run_in layer row)))) (pieces_of (behind_run layer row))
row-run layer [] e = cc
row-run layer (entry ∷ row) e =
    rw e (put-behind layer entry.layers entry.content (pieces_of row) _ _ e (row-behind layer row (row-run layer row)))

-- a row nests by the rule
pub nest-rule : (row : List Entry) → nest row ≡ nest_by_rule row
nest-rule [] = refl
nest-rule (entry ∷ row) =
    elim entry.layers as (λ layers. entry.layers ≡ layers → shown (put layers entry.content (pieces_of row)) ≡ by_first layers entry row) [
      | [] ↦ λ e. refl
      | layer ∷ layers ↦ λ e.
          ap (λ ls. shown (put ls entry.content (pieces_of row))) (sym e)
          ∙ ap shown (row-run layer (entry ∷ row) (ap (begins layer) e ∙ same_layer-itself layer))
    ] refl
