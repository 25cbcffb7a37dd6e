-- A pass over the nodes of a list, from the first on, that joins what each gives behind what is made.
use Rattle.std.proofs.Common.{◌≡◌, ◌≤◌, List, [], ◌∷◌, ◌++◌, reverse, refl, sym, ap, ◌∙◌, subst, arith}
use Rattle.std.specs.Prelude.{max}
use Rattle.std.proofs.lemmas.List.{reverse-reverse, reverse-append}
use Rattle.view_definitions.specs.Node.{ViewNode, depth_of}
use Rattle.view_definitions.specs.Row.{join}
use Rattle.view_definitions.proofs.Joins.{join-none, join-assoc}
use Rattle.view_definitions.specs.Layer.{Layer}
use Rattle.view_wrap.specs.Layered.{wrapped_node, wrapped, unwrapped_node, unwrapped}

module _ (each : ViewNode → List ViewNode) (all : List ViewNode → List ViewNode) (nothing : all [] ≡ [])
    (more : (node : ViewNode) (nodes : List ViewNode) → all (node ∷ nodes) ≡ join (each node) (all nodes)) where
  begun : (made reversed nodes : List ViewNode) → made ≡ [] → reversed ≡ reverse nodes → join made (all (reverse reversed)) ≡ all nodes
  begun made reversed nodes m r = λ i. join (m i) (all ((ap reverse r ∙ reverse-reverse nodes) i))

  gone_on : (made old rest new whole : List ViewNode) (node : ViewNode) → join made (all (reverse old)) ≡ whole → old ≡ rest ++ node ∷ []
      → new ≡ join made (each node) → join new (all (reverse rest)) ≡ whole
  gone_on made old rest new whole node h o n =
      ap (λ list. join list (all (reverse rest))) n ∙ sym (join-assoc made (each node) (all (reverse rest)))
      ∙ ap (join made) (sym (more node (reverse rest))) ∙ ap (λ list. join made (all list)) (sym (ap reverse o ∙ reverse-append rest (node ∷ []))) ∙ h

  ended : (made old whole : List ViewNode) → join made (all (reverse old)) ≡ whole → old ≡ [] → made ≡ whole
  ended made old whole h o = sym (join-none made) ∙ ap (join made) (sym (ap (λ list. all (reverse list)) o ∙ nothing)) ∙ h

module _ (layer : Layer) where
  pub wraps_begun : (made reversed nodes : List ViewNode) → made ≡ [] → reversed ≡ reverse nodes → join made (wrapped layer (reverse reversed))
      ≡ wrapped layer nodes
  wraps_begun = begun (λ node. wrapped_node layer node ∷ []) (wrapped layer) refl (λ _ _. refl)

  pub wraps_gone_on : (made old rest new whole : List ViewNode) (node : ViewNode) → join made (wrapped layer (reverse old)) ≡ whole
      → old ≡ rest ++ node ∷ [] → new ≡ join made (wrapped_node layer node ∷ []) → join new (wrapped layer (reverse rest)) ≡ whole
  wraps_gone_on = gone_on (λ node. wrapped_node layer node ∷ []) (wrapped layer) refl (λ _ _. refl)

  pub wraps_ended : (made old whole : List ViewNode) → join made (wrapped layer (reverse old)) ≡ whole → old ≡ [] → made ≡ whole
  wraps_ended = ended (λ node. wrapped_node layer node ∷ []) (wrapped layer) refl (λ _ _. refl)

  pub unwraps_begun : (made reversed nodes : List ViewNode) → made ≡ [] → reversed ≡ reverse nodes → join made (unwrapped layer (reverse reversed))
      ≡ unwrapped layer nodes
  unwraps_begun = begun (unwrapped_node layer) (unwrapped layer) refl (λ _ _. refl)

  pub unwraps_gone_on : (made old rest new whole : List ViewNode) (node : ViewNode) → join made (unwrapped layer (reverse old)) ≡ whole
      → old ≡ rest ++ node ∷ [] → new ≡ join made (unwrapped_node layer node) → join new (unwrapped layer (reverse rest)) ≡ whole
  unwraps_gone_on = gone_on (unwrapped_node layer) (unwrapped layer) refl (λ _ _. refl)

  pub unwraps_ended : (made old whole : List ViewNode) → join made (unwrapped layer (reverse old)) ≡ whole → old ≡ [] → made ≡ whole
  unwraps_ended = ended (unwrapped_node layer) (unwrapped layer) refl (λ _ _. refl)

-- ---- depths

depth_of-append : (nodes others : List ViewNode) → depth_of (nodes ++ others) ≡ max (depth_of nodes) (depth_of others)
depth_of-append [] others = omega arith
depth_of-append (node ∷ nodes) others = omega (arith, depth_of-append nodes others)

reverse_depth : (nodes : List ViewNode) → depth_of (reverse nodes) ≤ depth_of nodes
reverse_depth [] = omega arith
reverse_depth (node ∷ nodes) =
    subst (λ list. depth_of list ≤ depth_of (node ∷ nodes)) (sym (reverse-append (node ∷ []) nodes))
    (omega (arith, depth_of-append (reverse nodes) (node ∷ []), reverse_depth nodes))

-- a list turned round is no deeper
pub reversed_depth : (reversed nodes : List ViewNode) → reversed ≡ reverse nodes → depth_of reversed ≤ depth_of nodes
reversed_depth reversed nodes e = omega (arith, ap depth_of e, reverse_depth nodes)

-- nor is one without its last node
pub rest_depth : (old rest : List ViewNode) (node : ViewNode) → old ≡ rest ++ node ∷ [] → depth_of rest ≤ depth_of old
rest_depth old rest node e = omega (arith, ap depth_of e, depth_of-append rest (node ∷ []))
