-- A mark behind an entry that is no character stands behind no character, and one before an item that is none before none.
use Rattle.std.proofs.Common.{◌≡◌, ℕ, zero, suc, ◌-◌, List, [], ◌∷◌, Bool, true, false, refl, sym, ap, ◌∙◌, subst}
use Rattle.std.specs.Prelude.{nat_lt, if◌then◌else◌}
use Rattle.view_definitions.specs.Layer.{Layer, same_layer}
use Rattle.view_definitions.specs.Row.{Content, leaf, item, character, caret, Entry, Pieces, nothing, first, bare, wrapped, put, pieces_of}
use Rattle.view_definitions.proofs.Layers.{same_layer-true}
use Rattle.downcast_definitions.specs.Place.{pieces_size}
use Rattle.downcast_definitions.specs.Seen.{marked}
use Rattle.downcast_definitions.proofs.Marks.{within_layer, behind_layer, put-cons, put-twice}
use Rattle.downcast_definitions.specs.Rule.{after, text_before}
use Rattle.downcast_definitions.proofs.Marked.{head_before, size-put, skipped, later_below, first_below, never-behind, never-behind-put}

-- a leaf or an element
abbrev pub IsNode : Content → Type 0
IsNode (leaf node) = Unit {0}
IsNode (item node) = Unit {0}
IsNode (character scalar) = ⊥
IsNode caret = ⊥

-- a mark that is first stands behind no character
pub caret-first : (layers : List Layer) (pieces : Pieces) → text_before false (put layers caret pieces) 0 ≡ false
caret-first [] pieces = refl
caret-first (layer ∷ layers) pieces =
    ap (λ p. text_before false p 0) (put-cons layer layers caret pieces)
    ∙ ap (λ b. if b then text_before false (put layers caret (within_layer layer pieces)) 0
    else text_before false (behind_layer layer pieces) (0 - pieces_size (put layers caret (within_layer layer pieces))))
    (ap (nat_lt 0) (size-put layers caret (within_layer layer pieces)) ∙ first_below _)
    ∙ caret-first layers (within_layer layer pieces)

node-after : (content : Content) (before : Bool) → IsNode content → after content before ≡ false
node-after (leaf node) before h = refl
node-after (item node) before h = refl
node-after (character scalar) before h = absurd h
node-after caret before h = absurd h

pub node-before : (layers : List Layer) (content : Content) (others : List Layer) (pieces : Pieces) → IsNode content
    → head_before (put layers content (put others caret pieces)) 1 ≡ false
node-before [] content others pieces h = ap (λ b. text_before b (put others caret pieces) 0) (node-after content true h) ∙ caret-first others pieces
node-before (layer ∷ layers) content [] pieces h =
    skipped (pieces_size (put layers content nothing)) 0 _ (λ n. text_before false (first (bare caret) pieces) n) (size-put layers content nothing)
node-before (layer ∷ layers) content (other ∷ others) pieces h =
    elim (same_layer layer other) as (λ b. same_layer layer other ≡ b → head_before (put (layer ∷ layers) content (put (other ∷ others) caret pieces)) 1
    ≡ false) [
      | true ↦ λ e.
          let inner = put layers content (put others caret (within_layer layer pieces)) in
          subst (λ l. head_before (put (layer ∷ layers) content (put (l ∷ others) caret pieces)) 1 ≡ false) (same_layer-true layer other e)
          (ap (λ p. head_before p 1) (put-twice layer layers others content caret pieces)
          ∙ ap (λ b. if b then head_before (put layers content (put others caret (within_layer layer pieces))) 1
          else text_before false (behind_layer layer pieces) (1 - pieces_size (put layers content (put others caret (within_layer layer pieces)))))
          (ap (nat_lt 1) (size-put layers content (put others caret (within_layer layer pieces))
          ∙ ap suc (size-put others caret (within_layer layer pieces))) ∙ later_below 0 (suc (pieces_size (within_layer layer pieces))) ∙ first_below _)
          ∙ node-before layers content others (within_layer layer pieces) h)
      | false ↦ λ e.
          ap (λ p. head_before (put (layer ∷ layers) content p) 1) (put-cons other others caret pieces)
          ∙ ap (λ b. head_before (if b then first (wrapped layer (put layers content (put others caret (within_layer other pieces))))
          (behind_layer other pieces) else first (wrapped layer (put layers content nothing))
          (first (wrapped other (put others caret (within_layer other pieces))) (behind_layer other pieces))) 1) e
          ∙ skipped (pieces_size (put layers content nothing)) 0 _
          (λ n. text_before false (first (wrapped other (put others caret (within_layer other pieces))) (behind_layer other pieces)) n)
          (size-put layers content nothing)
          ∙ ap (λ p. text_before false p 0) (sym (put-cons other others caret pieces))
          ∙ caret-first (other ∷ others) pieces
    ] refl

-- that the entry before a number, if there is one, is a leaf or an element
abbrev pub NodeBefore : List Entry → ℕ → Type 0
NodeBefore row zero = Unit {0}
NodeBefore [] (suc number) = ⊥
NodeBefore (entry ∷ row) (suc zero) = IsNode entry.content
NodeBefore (entry ∷ row) (suc (suc number)) = NodeBefore row (suc number)

row-apart : (row : List Entry) (number : ℕ) (layers : List Layer) → NodeBefore row (suc number)
    → head_before (pieces_of (marked row (suc number) layers).row) (suc number) ≡ false
row-apart [] number layers h = absurd h
row-apart (entry ∷ row) zero layers h = node-before entry.layers entry.content layers (pieces_of row) h
row-apart (entry ∷ row) (suc number) layers h =
    never-behind-put entry.layers entry.content (pieces_of (marked row (suc number) layers).row) (suc number) (row-apart row number layers h)

-- such a mark stands behind no character
pub mark-apart : (row : List Entry) (number : ℕ) (layers : List Layer) → NodeBefore row number
    → text_before false (pieces_of (marked row number layers).row) number ≡ false
mark-apart row zero layers h = caret-first layers (pieces_of row)
mark-apart row (suc number) layers h = never-behind (pieces_of (marked row (suc number) layers).row) (suc number) false (row-apart row number layers h)
