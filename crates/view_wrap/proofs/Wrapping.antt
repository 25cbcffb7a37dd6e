-- One node in a layer more or less.
use Rattle.std.proofs.Common.{◌≡◌, List, [], ◌∷◌, Bool, true, false, if◌then◌else◌, Option, Some, None, is_some, refl, sym, ap, ◌∙◌}
use Rattle.std.specs.Prelude.{option_map}
use Rattle.std.specs.declared.cmp.Ordering.{Ordering}
use Rattle.std.specs.declared.cmp.Ordering.TheVariants.{Less, Equal, Greater}
use Rattle.view_definitions.specs.Node.{Head, ViewNode, ViewNodes, text, element, list_of, nodes_of}
use Rattle.view_definitions.specs.Layer.{Layer, layer_cmp, layer_of, in_layer}
use Rattle.view_definitions.specs.Place.{counting}
use Rattle.view_definitions.specs.Row.{both_layers, is_leaf_kind, is_element}
use Rattle.view_definitions.specs.Change.{by_order}
use Rattle.view_tree.specs.Changes.{node_layer, inner_of, with_children}
use Rattle.view_wrap.specs.Layered.{order_in, wrapped_element, wrapped_node, wrapped_inner, wrapped, unwrapped_element, unwrapped_node, unwrapped_inner}
use Rattle.view_wrap.specs.Layered.{unwrapped}
use Rattle.view_wrap.proofs.Meeting.{uncounted_layer}
use Rattle.view_wrap.proofs.Layering.{wrapped_inner-is, unwrapped_inner-is}

-- how an element's own layer compares
ordered : (layer : Layer) (own : Option Layer) (order : Ordering) → option_map (λ o. layer_cmp o layer) own ≡ Some order → (l : Layer) × (own ≡ Some l)
    × (layer_cmp l layer ≡ order)
ordered layer None order e = cc
ordered layer (Some l) order e = (l, refl, cc)

unordered : (layer : Layer) (own : Option Layer) → option_map (λ o. layer_cmp o layer) own ≡ None → own ≡ None
unordered layer None e = refl
unordered layer (Some l) e = cc

wrapped_by : (layer : Layer) (head : Head) (children : ViewNodes) (order : Ordering) → option_map (λ o. layer_cmp o layer) (layer_of head) ≡ Some order
    → wrapped_node layer (element head children) ≡ by_order order (element head (nodes_of (wrapped_inner layer children))) (element head children)
    (in_layer layer (element head children ∷ []))
wrapped_by layer head children order e =
    let own = ordered layer (layer_of head) order e in
    ap (λ o. wrapped_element layer o head children (wrapped_inner layer children)) own.1
    ∙ ap (λ o. by_order o (element head (nodes_of (wrapped_inner layer children))) (element head children) (in_layer layer (element head children ∷ []))) own.2

pub inside_wrapped : (layer : Layer) (node emptied made : ViewNode) (children inner : List ViewNode) → order_in layer node ≡ Some Less
    → children ≡ inner_of node → emptied ≡ with_children [] node → inner ≡ wrapped layer children → made ≡ with_children inner emptied
    → made ≡ wrapped_node layer node
inside_wrapped layer (text scalars) emptied made children inner o c e w m = cc
inside_wrapped layer (element head kids) emptied made children inner o c e w m =
    let own = ordered layer (layer_of head) Less o in
    let same : counting head ≡ head = uncounted_layer head own.0 own.1 in
    m ∙ ap (with_children inner) e
    ∙ (λ i. element ((ap counting same ∙ same) i) (nodes_of ((w ∙ ap (wrapped layer) c ∙ sym (wrapped_inner-is layer kids)) i)))
    ∙ sym (wrapped_by layer head kids Less o)

pub same_wrapped : (layer : Layer) (node : ViewNode) → order_in layer node ≡ Some Equal → node ≡ wrapped_node layer node
same_wrapped layer (text scalars) o = cc
same_wrapped layer (element head kids) o = sym (wrapped_by layer head kids Equal o)

pub further_wrapped : (layer : Layer) (node made : ViewNode) → order_in layer node ≡ Some Greater → made ≡ in_layer layer (node ∷ [])
    → made ≡ wrapped_node layer node
further_wrapped layer (text scalars) made o m = cc
further_wrapped layer (element head kids) made o m = m ∙ sym (wrapped_by layer head kids Greater o)

pub leaf_wrapped : (layer : Layer) (node : ViewNode) → order_in layer node ≡ None → is_element is_leaf_kind node ≡ true → node ≡ wrapped_node layer node
leaf_wrapped layer (text scalars) o k = cc
leaf_wrapped layer (element head kids) o k =
    sym (ap (λ own. wrapped_element layer own head kids (wrapped_inner layer kids)) (unordered layer (layer_of head) o)
    ∙ ap (λ b. if b then element head kids else in_layer layer (element head kids ∷ [])) k)

pub bare_wrapped : (layer : Layer) (node made : ViewNode) → order_in layer node ≡ None → is_element is_leaf_kind node ≡ false
    → made ≡ in_layer layer (node ∷ []) → made ≡ wrapped_node layer node
bare_wrapped layer (text scalars) made o k m = m
bare_wrapped layer (element head kids) made o k m =
    m ∙ sym (ap (λ own. wrapped_element layer own head kids (wrapped_inner layer kids)) (unordered layer (layer_of head) o)
    ∙ ap (λ b. if b then element head kids else in_layer layer (element head kids ∷ [])) k)

no_layer : (own : Option Layer) (b : Bool) → b ≡ is_some own → b ≡ false → own ≡ None
no_layer None b e f = refl
no_layer (Some own) b e f = cc

pub bare_unwrapped : (layer : Layer) (node : ViewNode) (made : List ViewNode) (own : Bool) → own ≡ is_some (node_layer node) → own ≡ false
    → made ≡ node ∷ [] → made ≡ unwrapped_node layer node
bare_unwrapped layer (text scalars) made own o f m = m
bare_unwrapped layer (element head kids) made own o f m =
    m ∙ sym (ap (λ l. unwrapped_element layer l head kids (unwrapped_inner layer kids)) (no_layer (layer_of head) own o f))

some_layer : (own : Option Layer) → is_some own ≡ true → (l : Layer) × (own ≡ Some l)
some_layer None e = cc
some_layer (Some l) e = (l, refl)

unwrapped_by : (layer : Layer) (head : Head) (children : ViewNodes) (same : Bool) → is_some (layer_of head) ≡ true
    → same ≡ both_layers (Some layer) (layer_of head) → unwrapped_node layer (element head children)
    ≡ (if same then unwrapped layer (list_of children) else element head (nodes_of (unwrapped layer (list_of children))) ∷ [])
unwrapped_by layer head children same l s =
    let own = some_layer (layer_of head) l in
    ap (λ o. unwrapped_element layer o head children (unwrapped_inner layer children)) own.1
    ∙ (λ i. if (sym (s ∙ ap (both_layers (Some layer)) own.1)) i then unwrapped_inner-is layer children i
    else element head (nodes_of (unwrapped_inner-is layer children i)) ∷ [])

pub same_unwrapped : (layer : Layer) (node : ViewNode) (children made : List ViewNode) (same : Bool) → is_some (node_layer node) ≡ true
    → same ≡ both_layers (Some layer) (node_layer node) → same ≡ true → children ≡ inner_of node → made ≡ unwrapped layer children
    → made ≡ unwrapped_node layer node
same_unwrapped layer (text scalars) children made same l s t c m = cc
same_unwrapped layer (element head kids) children made same l s t c m =
    m ∙ ap (unwrapped layer) c
    ∙ sym (unwrapped_by layer head kids same l s
    ∙ ap (λ b. if b then unwrapped layer (list_of kids) else element head (nodes_of (unwrapped layer (list_of kids))) ∷ []) t)

pub other_unwrapped : (layer : Layer) (node emptied whole : ViewNode) (children inner made : List ViewNode) (same : Bool) → is_some (node_layer node)
    ≡ true → same ≡ both_layers (Some layer) (node_layer node) → same ≡ false → children ≡ inner_of node → emptied ≡ with_children [] node
    → inner ≡ unwrapped layer children → whole ≡ with_children inner emptied → made ≡ whole ∷ [] → made ≡ unwrapped_node layer node
other_unwrapped layer (text scalars) emptied whole children inner made same l s t c e m w k = cc
other_unwrapped layer (element head kids) emptied whole children inner made same l s t c e m w k =
    let own = some_layer (layer_of head) l in
    let plain : counting head ≡ head = uncounted_layer head own.0 own.1 in
    k ∙ ap (λ node. node ∷ []) (w ∙ ap (with_children inner) e)
    ∙ (λ i. element ((ap counting plain ∙ plain) i) (nodes_of ((m ∙ ap (unwrapped layer) c) i)) ∷ [])
    ∙ sym (unwrapped_by layer head kids same l s
    ∙ ap (λ b. if b then unwrapped layer (list_of kids) else element head (nodes_of (unwrapped layer (list_of kids))) ∷ []) t)
