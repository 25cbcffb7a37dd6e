-- One step down a path: what the definitions say where the node at the first index is known to be an element.
use Rattle.std.proofs.Common.{◌≡◌, ℕ, ◌<◌, zero, suc, List, [], ◌∷◌, Option, Some, length, get_or, refl, sym, ap, ◌∙◌, subst, arith}
use Rattle.std.specs.Prelude.{slice_get, slice_set, option_and_then}
use Rattle.std.specs.Option.{option_map_or}
use Rattle.view_definitions.specs.Node.{Head, ViewNode, element, nodes_of, children_of}
use Rattle.view_definitions.specs.Place.{list_at, at_index, with_inner, put_at}
use Rattle.view_tree.proofs.Listed.{listed}

get_within : (nodes : List ViewNode) (index : ℕ) (d : ViewNode) → index < length nodes → slice_get nodes index ≡ Some (get_or nodes index d)
get_within [] index d h = absurd (omega arith)
get_within (node ∷ nodes) zero d h = refl
get_within (node ∷ nodes) (suc index) d h = get_within nodes index d (omega arith)

-- the node that was read at an index
pub stands : (items nodes : List ViewNode) (index : ℕ) (read part : ViewNode) → items ≡ nodes → index < length items → read ≡ get_or items index read
    → part ≡ read → slice_get nodes index ≡ Some part
stands items nodes index read part same h r p =
    subst (λ list. slice_get list index ≡ Some part) same (get_within items index read h ∙ ap Some (sym r ∙ sym p))

module _ (items nodes : List ViewNode) (index : ℕ) (rest path : List ℕ) (head : Head) (inner : List ViewNode) (same : items ≡ nodes)
    (at : slice_get nodes index ≡ Some (element head (nodes_of inner))) (is : path ≡ index ∷ rest) where
  pub list_step : (found : Option (List ViewNode)) → found ≡ list_at rest inner → found ≡ list_at path nodes
  list_step found h =
      h ∙ ap (list_at rest) (sym (listed inner))
      ∙ ap (λ node. option_and_then (λ n. option_and_then (list_at rest) (children_of n)) node) (sym at)
      ∙ ap (λ p. list_at p nodes) (sym is)

  set_step : (change : ViewNode → ViewNode) (made : ViewNode) → made ≡ change (element head (nodes_of inner)) → slice_set items index made
      ≡ at_index index change nodes
  set_step change made h =
      (λ i. slice_set (same i) index (h i)) ∙ ap (λ node. option_map_or (λ n. slice_set nodes index (change n)) node nodes) (sym at)

  pub put_step : (new made : List ViewNode) → made ≡ put_at rest new inner → slice_set items index (element head (nodes_of made)) ≡ put_at path new nodes
  put_step new made h =
      set_step (with_inner (put_at rest new)) (element head (nodes_of made))
      (ap (λ list. element head (nodes_of list)) (h ∙ ap (put_at rest new) (sym (listed inner))))
      ∙ ap (λ p. put_at p new nodes) (sym is)
