-- A layer at its place is among the others in their order, where the place is looked for from the inside out.
use Rattle.std.specs.Prelude.{◌≡◌, List, [], ◌∷◌, ◌++◌, length, take, drop, Some, None}
use Rattle.std.proofs.Common.{refl, sym, ap, ◌∙◌, subst, append_assoc}
use Rattle.std.specs.declared.cmp.Ordering.TheVariants.{Less, Equal, Greater}
use Rattle.std.proofs.Math.Seq.{drop-append_seam, take-append_seam, drop-length}
use Rattle.view_definitions.specs.Layer.{Layer, layer_cmp}
use Rattle.view_definitions.specs.Change.{by_order, with_layer, IsOutside, IsInOrder}
use Rattle.view_definitions.proofs.Layers.{layer_cmp-total, tied_layers}
use Rattle.view_definitions.proofs.Changes.{with-in_order}
use Rattle.conv_rules.specs.Placing.{placed}

-- the last of layers in their order is inside the others
inside-last : (layer last : Layer) (front : List Layer) → IsOutside layer (front ++ last ∷ []) → layer_cmp layer last ≡ Less
inside-last layer last [] h = h.0
inside-last layer last (other ∷ front) h = inside-last layer last front h.1

outside-front : (layer last : Layer) (front : List Layer) → IsOutside layer (front ++ last ∷ []) → IsOutside layer front
outside-front layer last [] h = tt
outside-front layer last (other ∷ front) h = (h.0, outside-front layer last front h.1)

order-front : (last : Layer) (front : List Layer) → IsInOrder (front ++ last ∷ []) → IsInOrder front
order-front last [] h = tt
order-front last (other ∷ front) h = (outside-front other last front h.0, order-front last front h.1)

-- behind a layer that is outside it, a layer goes behind all
with-less : (layer last : Layer) (front : List Layer) → IsInOrder (front ++ last ∷ []) → layer_cmp last layer ≡ Less
    → with_layer layer (front ++ last ∷ []) ≡ (front ++ last ∷ []) ++ layer ∷ []
with-less layer last [] h e = ap (λ o. by_order o (last ∷ layer ∷ []) (last ∷ []) (layer ∷ last ∷ [])) e
with-less layer last (other ∷ front) h e =
    let less : layer_cmp other layer ≡ Less = layer_cmp-total.trans other last layer (inside-last other last front h.0) e in
    ap (λ o. by_order o (other ∷ with_layer layer (front ++ last ∷ [])) (other ∷ front ++ last ∷ []) (layer ∷ other ∷ front ++ last ∷ [])) less
    ∙ ap (λ made. other ∷ made) (with-less layer last front h.1 e)

-- one that is the last is among them
with-last : (last : Layer) (front : List Layer) → IsInOrder (front ++ last ∷ []) → layer_cmp last last ≡ Equal
    → with_layer last (front ++ last ∷ []) ≡ front ++ last ∷ []
with-last last [] h e = ap (λ o. by_order o (last ∷ last ∷ []) (last ∷ []) (last ∷ last ∷ [])) e
with-last last (other ∷ front) h e =
    ap (λ o. by_order o (other ∷ with_layer last (front ++ last ∷ [])) (other ∷ front ++ last ∷ []) (last ∷ other ∷ front ++ last ∷ []))
    (inside-last other last front h.0)
    ∙ ap (λ made. other ∷ made) (with-last last front h.1 e)

-- one that is outside the last goes among those before it
with-greater : (layer last : Layer) (front : List Layer) → layer_cmp last layer ≡ Greater
    → with_layer layer (front ++ last ∷ []) ≡ with_layer layer front ++ last ∷ []
with-greater layer last [] e = ap (λ o. by_order o (last ∷ layer ∷ []) (last ∷ []) (layer ∷ last ∷ [])) e
with-greater layer last (other ∷ front) e =
    elim (layer_cmp other layer) as (λ o. by_order o (other ∷ with_layer layer (front ++ last ∷ [])) (other ∷ front ++ last ∷ [])
    (layer ∷ other ∷ front ++ last ∷ [])
    ≡ by_order o (other ∷ with_layer layer front) (other ∷ front) (layer ∷ other ∷ front) ++ last ∷ []) [
      | Less ↦ ap (λ made. other ∷ made) (with-greater layer last front e)
      | Equal ↦ refl
      | Greater ↦ refl
    ]

-- A layer goes among these layers where it goes among the first of them, in front of the others
pub record GoesAmong (layer : Layer) (layers first : List Layer) : Type 0 where
  pub whole : layers ≡ first ++ drop (length first) layers
  pub made : with_layer layer layers ≡ with_layer layer first ++ drop (length first) layers
  pub ordered : IsInOrder first

append_nil : (layers : List Layer) → layers ≡ layers ++ []
append_nil [] = refl
append_nil (layer ∷ layers) = ap (λ rest. layer ∷ rest) (append_nil layers)

pub among_all : (layer : Layer) (layers : List Layer) → IsInOrder layers → GoesAmong layer layers layers
among_all layer layers h = record {
  whole = append_nil layers ∙ ap (λ rest. layers ++ rest) (sym (drop-length layers));
  made = append_nil (with_layer layer layers) ∙ ap (λ rest. with_layer layer layers ++ rest) (sym (drop-length layers));
  ordered = h;
}

-- what is behind the front, where what is behind the front and one more is known
behind_front : (last : Layer) (front rest layers : List Layer) → layers ≡ (front ++ last ∷ []) ++ rest → drop (length front) layers ≡ last ∷ rest
behind_front last front rest layers e =
    ap (drop (length front)) (e ∙ append_assoc front (last ∷ []) rest) ∙ drop-append_seam front (last ∷ rest)

pub among_front : (layer last : Layer) (front layers first : List Layer) → GoesAmong layer layers first → first ≡ front ++ last ∷ []
    → layer_cmp last layer ≡ Greater → GoesAmong layer layers front
among_front layer last front layers first h split e =
    let here : GoesAmong layer layers (front ++ last ∷ []) = subst (GoesAmong layer layers) split h in
    let rest : List Layer = drop (length (front ++ last ∷ [])) layers in
    let tail : drop (length front) layers ≡ last ∷ rest = behind_front last front rest layers here.whole in
    record {
      whole = here.whole ∙ append_assoc front (last ∷ []) rest ∙ ap (λ behind. front ++ behind) (sym tail);
      made = here.made ∙ ap (λ made. made ++ rest) (with-greater layer last front e) ∙ append_assoc (with_layer layer front) (last ∷ []) rest
          ∙ ap (λ behind. with_layer layer front ++ behind) (sym tail);
      ordered = order-front last front here.ordered;
    }

pub placed_less : (layer last : Layer) (front layers first : List Layer) → GoesAmong layer layers first → first ≡ front ++ last ∷ []
    → layer_cmp last layer ≡ Less → placed layer (Some (length first)) layers ≡ with_layer layer layers
placed_less layer last front layers first h split e =
    let rest : List Layer = drop (length first) layers in
    let ahead : take (length first) layers ≡ first = ap (take (length first)) h.whole ∙ take-append_seam first rest in
    let with : with_layer layer first ≡ first ++ layer ∷ [] =
    ap (with_layer layer) split ∙ with-less layer last front (subst IsInOrder split h.ordered) e ∙ ap (λ all. all ++ layer ∷ []) (sym split) in
    ap (λ front. front ++ (layer ∷ rest)) ahead ∙ sym (append_assoc first (layer ∷ []) rest) ∙ ap (λ made. made ++ rest) (sym with) ∙ sym h.made

pub placed_equal : (layer last : Layer) (front layers first : List Layer) → GoesAmong layer layers first → first ≡ front ++ last ∷ []
    → layer_cmp last layer ≡ Equal → placed layer None layers ≡ with_layer layer layers
placed_equal layer last front layers first h split e =
    let same : last ≡ layer = tied_layers last layer e in
    let itself : layer_cmp last last ≡ Equal = ap (layer_cmp last) same ∙ e in
    let with : with_layer layer first ≡ first =
    ap (with_layer layer) split ∙ ap (λ l. with_layer l (front ++ last ∷ [])) (sym same) ∙ with-last last front (subst IsInOrder split h.ordered) itself
    ∙ sym split in
    h.whole ∙ ap (λ made. made ++ drop (length first) layers) (sym with) ∙ sym h.made

pub placed_first : (layer : Layer) (layers first : List Layer) → GoesAmong layer layers first → first ≡ [] → placed layer (Some 0) layers
    ≡ with_layer layer layers
placed_first layer layers first h none = sym (h.made ∙ ap (λ f. with_layer layer f ++ drop (length f) layers) none)

pub placed_in_order : (layer : Layer) (layers made : List Layer) → made ≡ with_layer layer layers → IsInOrder layers → IsInOrder made
placed_in_order layer layers made e h = subst IsInOrder (sym e) (with-in_order layer layers h)
