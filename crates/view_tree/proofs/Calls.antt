-- What the calls of a view make of its nodes: a list is taken out at a path, changed, and put back.
use Rattle.std.proofs.Common.{◌≡◌, ℕ, List, [], Option, Some, None, sym, ap, ◌∙◌, subst}
use Rattle.std.specs.Prelude.{unwrap_or, option_and_then, option_map}
use Rattle.view_definitions.specs.Node.{ViewNode}
use Rattle.view_definitions.specs.Place.{list_at, put_at, counted, changed}
use Rattle.view_tree.specs.Changes.{View, inserted, placed, removed, taken_out, emptied, filled_list, filled}
use Rattle.view_tree.proofs.Puts.{put_twice, put_same, put_nowhere}

module _ (parent path : List ℕ) (inside : List ViewNode) (drawn : ℕ) (now : View) (is_path : path ≡ parent)
    (is_now : ◌≡◌ {A = View} (record { nodes = inside; drawn = drawn }) now) where
  -- nothing changed
  pub unchanged : (made : List ViewNode) → made ≡ inside → ◌≡◌ {A = View} (record { nodes = made; drawn = drawn }) now
  unchanged made h = (λ i. record { nodes = h i; drawn = drawn }) ∙ is_now

  -- no list is at the path
  pub nowhere : (taken : List ViewNode) → None ≡ list_at path inside → taken ≡ put_at path [] inside → taken ≡ inside
  nowhere taken h t = t ∙ put_nowhere path [] inside (sym h)

  -- the list is put back
  pub put_back : (list same taken back : List ViewNode) → Some list ≡ list_at path inside → taken ≡ put_at path [] inside → same ≡ list
      → back ≡ put_at path same taken → back ≡ inside
  put_back list same taken back h t s b =
      b ∙ (λ i. put_at path (s i) (t i)) ∙ put_twice path list [] inside ∙ put_same path list inside (sym h)

  -- the list at the path
  pub found_at : (list : Option (List ViewNode)) → list ≡ list_at path inside → list_at parent now.nodes ≡ list
  found_at list h = subst (λ p. list_at p now.nodes ≡ list) is_path (subst (λ (v : View). list_at path v.nodes ≡ list) is_now (sym h))

  -- the list made is there, and the change is counted
  pub change_at : (made taken put result : List ViewNode) → taken ≡ put_at path [] inside → put ≡ put_at path made taken → result ≡ counted path put
      → changed parent made now.nodes ≡ result
  change_at made taken put result t p r =
      subst (λ q. changed q made now.nodes ≡ result) is_path (subst (λ (v : View). changed path made v.nodes ≡ result) is_now
      (sym (r ∙ ap (counted path) (p ∙ ap (put_at path made) t ∙ put_twice path made [] inside))))

  pub place_made : (index : ℕ) (node : ViewNode) (list made taken put result : List ViewNode) → Some list ≡ list_at path inside
      → taken ≡ put_at path [] inside → inserted index node list ≡ Some made → put ≡ put_at path made taken → result ≡ counted path put
      → placed parent index node now.nodes ≡ Some result
  place_made index node list made taken put result h t m p r =
      ap (option_and_then (λ l. option_map (λ new. changed parent new now.nodes) (inserted index node l))) (found_at (Some list) h)
      ∙ ap (option_map (λ new. changed parent new now.nodes)) m
      ∙ ap Some (change_at made taken put result t p r)

  pub take_made : (index : ℕ) (node : ViewNode) (list made taken put result : List ViewNode) → Some list ≡ list_at path inside
      → taken ≡ put_at path [] inside → removed index list ≡ Some (made, node) → put ≡ put_at path made taken → result ≡ counted path put
      → taken_out parent index now.nodes ≡ Some (result, node)
  take_made index node list made taken put result h t m p r =
      ap (option_and_then (λ l. option_map (λ (x : List ViewNode × ViewNode). (changed parent x.0 now.nodes, x.1)) (removed index l))) (found_at (Some list) h)
      ∙ ap (option_map (λ (x : List ViewNode × ViewNode). (changed parent x.0 now.nodes, x.1))) m
      ∙ ap (λ nodes. Some (nodes, node)) (change_at made taken put result t p r)

  pub fill_made : (new list taken put result : List ViewNode) → Some list ≡ list_at path inside → taken ≡ put_at path [] inside → list ≡ []
      → put ≡ put_at path new taken → result ≡ counted path put → filled parent new now.nodes ≡ Some result
  fill_made new list taken put result h t e p r =
      ap (option_and_then (λ l. option_map (λ made. changed parent made now.nodes) (filled_list new l))) (found_at (Some list) h)
      ∙ ap (λ l. option_map (λ made. changed parent made now.nodes) (filled_list new l)) e
      ∙ ap Some (change_at new taken put result t p r)

  pub emptied_nowhere : (taken : List ViewNode) → None ≡ list_at path inside → taken ≡ put_at path [] inside
      → taken ≡ unwrap_or (emptied parent now.nodes) now.nodes
  emptied_nowhere taken h t =
      nowhere taken h t ∙ ap (λ (v : View). v.nodes) is_now
      ∙ ap (λ l. unwrap_or (option_map (λ (x : List ViewNode). changed parent [] now.nodes) l) now.nodes) (sym (found_at None h))
