-- One layer more or less keeps the order of layers, and changes nothing but whether it is among them.
use Rattle.std.proofs.Common.{◌≡◌, List, [], ◌∷◌, Bool, true, false, not, cond, ◌&&◌, ◌||◌, refl, sym, ap, ◌∙◌}
use Rattle.std.specs.Ordering.{ordering_reverse}
use Rattle.std.specs.declared.cmp.Ordering.{Ordering}
use Rattle.std.specs.declared.cmp.Ordering.TheVariants.{Less, Equal, Greater}
use Rattle.view_definitions.specs.Layer.{Layer, layer_cmp, same_layer}
use Rattle.view_definitions.specs.Change.{by_order, IsOutside, IsInOrder, has_layer, with_layer, without_layer}
use Rattle.view_definitions.proofs.Layers.{layer_cmp-total, tied_layers, same_layer-true, same_layer-itself}

-- a layer outside another is outside all that this one is outside of
outside-along : (layer other : Layer) (layers : List Layer) → layer_cmp layer other ≡ Less → IsOutside other layers → IsOutside layer layers
outside-along layer other [] e h = tt
outside-along layer other (third ∷ layers) e h = (layer_cmp-total.trans layer other third e h.0, outside-along layer other layers e h.1)

reversed-Greater : (o : Ordering) → o ≡ Greater → ordering_reverse o ≡ Less
reversed-Greater o e = ap ordering_reverse e

outside-back : (layer other : Layer) → layer_cmp other layer ≡ Greater → layer_cmp layer other ≡ Less
outside-back layer other e = layer_cmp-total.antisymm layer other ∙ reversed-Greater (layer_cmp other layer) e

outside-with : (outer layer : Layer) (layers : List Layer) → layer_cmp outer layer ≡ Less → IsOutside outer layers → IsOutside outer (with_layer layer layers)
outside-with outer layer [] e h = (e, tt)
outside-with outer layer (other ∷ layers) e h =
    elim (layer_cmp other layer) as (λ o. IsOutside outer (by_order o (other ∷ with_layer layer layers) (other ∷ layers) (layer ∷ other ∷ layers))) [
      | Less ↦ (h.0, outside-with outer layer layers e h.1)
      | Equal ↦ h
      | Greater ↦ (e, h)
    ]

pub with-in_order : (layer : Layer) (layers : List Layer) → IsInOrder layers → IsInOrder (with_layer layer layers)
with-in_order layer [] h = (tt, tt)
with-in_order layer (other ∷ layers) h =
    elim (layer_cmp other layer) as (λ o. layer_cmp other layer ≡ o
    → IsInOrder (by_order o (other ∷ with_layer layer layers) (other ∷ layers) (layer ∷ other ∷ layers))) [
      | Less ↦ λ e. (outside-with other layer layers e h.0, with-in_order layer layers h.1)
      | Equal ↦ λ e. h
      | Greater ↦ λ e. ((outside-back layer other e, outside-along layer other layers (outside-back layer other e) h.0), h)
    ] refl

or-swap : (a b c : Bool) → (a || (b || c)) ≡ (b || (a || c))
or-swap true true c = refl
or-swap true false c = refl
or-swap false b c = refl

or-itself : (a b : Bool) → (a || b) ≡ (a || (a || b))
or-itself true b = refl
or-itself false b = refl

pub with-has : (layer third : Layer) (layers : List Layer) → has_layer third (with_layer layer layers) ≡ (same_layer third layer || has_layer third layers)
with-has layer third [] = refl
with-has layer third (other ∷ layers) =
    elim (layer_cmp other layer) as (λ o. layer_cmp other layer ≡ o
    → has_layer third (by_order o (other ∷ with_layer layer layers) (other ∷ layers) (layer ∷ other ∷ layers))
    ≡ (same_layer third layer || (same_layer third other || has_layer third layers))) [
      | Less ↦ λ e. ap (λ b. same_layer third other || b) (with-has layer third layers)
          ∙ or-swap (same_layer third other) (same_layer third layer) (has_layer third layers)
      | Equal ↦ λ e.
          or-itself (same_layer third other) (has_layer third layers)
          ∙ ap (λ l. same_layer third l || (same_layer third other || has_layer third layers)) (tied_layers other layer e)
      | Greater ↦ λ e. refl
    ] refl

outside-without : (outer layer : Layer) (layers : List Layer) → IsOutside outer layers → IsOutside outer (without_layer layer layers)
outside-without outer layer [] h = tt
outside-without outer layer (other ∷ layers) h =
    elim (not (same_layer layer other)) as (λ b. IsOutside outer (cond b (other ∷ without_layer layer layers) (without_layer layer layers))) [
      | true ↦ (h.0, outside-without outer layer layers h.1)
      | false ↦ outside-without outer layer layers h.1
    ]

pub without-in_order : (layer : Layer) (layers : List Layer) → IsInOrder layers → IsInOrder (without_layer layer layers)
without-in_order layer [] h = tt
without-in_order layer (other ∷ layers) h =
    elim (not (same_layer layer other)) as (λ b. IsInOrder (cond b (other ∷ without_layer layer layers) (without_layer layer layers))) [
      | true ↦ (outside-without other layer layers h.0, without-in_order layer layers h.1)
      | false ↦ without-in_order layer layers h.1
    ]

gone : (n s h : Bool) → (s ≡ true → n ≡ false) → (n && h) ≡ (n && (s || h))
gone n true h e = ap (λ b. b && h) (e refl) ∙ sym (ap (λ b. b && true) (e refl))
gone n false h e = refl

stays : (n s h : Bool) → (s ≡ true → n ≡ true) → (s || (n && h)) ≡ (n && (s || h))
stays n true h e = sym (ap (λ b. b && true) (e refl))
stays n false h e = refl

pub without-has : (layer third : Layer) (layers : List Layer) → has_layer third (without_layer layer layers)
    ≡ (not (same_layer layer third) && has_layer third layers)
without-has layer third [] =
    elim (not (same_layer layer third)) as (λ b. false ≡ (b && false)) [ true ↦ refl | false ↦ refl ]
without-has layer third (other ∷ layers) =
    elim (same_layer layer other) as (λ b. same_layer layer other ≡ b
    → has_layer third (cond (not b) (other ∷ without_layer layer layers) (without_layer layer layers))
    ≡ (not (same_layer layer third) && (same_layer third other || has_layer third layers))) [
      | true ↦ λ e.
          without-has layer third layers
          ∙ gone (not (same_layer layer third)) (same_layer third other) (has_layer third layers)
          (λ s. ap not (ap (λ l. same_layer l third) (same_layer-true layer other e ∙ sym (same_layer-true third other s)) ∙ same_layer-itself third))
      | false ↦ λ e.
          ap (λ b. same_layer third other || b) (without-has layer third layers)
          ∙ stays (not (same_layer layer third)) (same_layer third other) (has_layer third layers)
          (λ s. ap not (ap (same_layer layer) (same_layer-true third other s) ∙ e))
    ] refl
