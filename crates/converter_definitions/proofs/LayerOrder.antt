-- Layers that are put in order.
use Rattle.std.proofs.Common.{◌≡◌, List, [], ◌∷◌, Bool, true, false, ◌||◌, fold, refl, ap, ◌∙◌}
use Rattle.view_definitions.specs.Layer.{Layer, same_layer}
use Rattle.view_definitions.specs.Change.{IsInOrder, has_layer, with_layer}
use Rattle.view_definitions.proofs.Changes.{with-in_order, with-has}
use Rattle.converter_definitions.specs.Layers.{in_order, joined_layers, made_layers}

folded-in-order : (layers made : List Layer) → IsInOrder made → IsInOrder (fold (λ made next. with_layer next made) made layers)
folded-in-order [] made h = h
folded-in-order (layer ∷ layers) made h = folded-in-order layers (with_layer layer made) (with-in_order layer made h)

pub is-in-order : (layers : List Layer) → IsInOrder (in_order layers)
is-in-order layers = folded-in-order layers [] tt

or-moved : (a b c : Bool) → ((a || b) || c) ≡ (b || (a || c))
or-moved true true c = refl
or-moved true false c = refl
or-moved false b c = refl

folded-has : (layer : Layer) (layers made : List Layer) → has_layer layer (fold (λ made next. with_layer next made) made layers)
    ≡ (has_layer layer made || has_layer layer layers)
folded-has layer [] made = or-false (has_layer layer made)
  where
    or-false : (a : Bool) → a ≡ (a || false)
    or-false true = refl
    or-false false = refl
folded-has layer (next ∷ layers) made =
    folded-has layer layers (with_layer next made)
    ∙ ap (λ b. b || has_layer layer layers) (with-has next layer made)
    ∙ or-moved (same_layer layer next) (has_layer layer made) (has_layer layer layers)

pub has-the-same : (layer : Layer) (layers : List Layer) → has_layer layer (in_order layers) ≡ has_layer layer layers
has-the-same layer layers = folded-has layer layers []

pub made-in-order : (joined : Bool) (raw : List Layer) → IsInOrder (made_layers joined raw)
made-in-order true raw = is-in-order (joined_layers (in_order raw))
made-in-order false raw = is-in-order raw
