-- Nodes put behind others, and the normal form.
use Rattle.std.proofs.Common.{◌≡◌, ◌<◌, List, [], ◌∷◌, ◌++◌, length, sym, ap, ◌∙◌, subst, arith, append_assoc, append-nil, length-append}
use Rattle.std.proofs.lemmas.Grind.{flat_map-append}
use Rattle.model_tree.specs.declared.items.Node.{Node}
use Rattle.model_tree.specs.declared.items.Node.TheVariants.{Run, Element}
use Rattle.model_tree.specs.Nodes.{items_at, items_in, Join, IsNormal}

pub items-append : (front back : List Node) → items_in (front ++ back) ≡ items_in front ++ items_in back
items-append front back = flat_map-append items_at front back

pub items-more : (front : List Node) (node : Node) → items_in (front ++ node ∷ []) ≡ items_in front ++ items_at node
items-more front node = items-append front (node ∷ []) ∙ ap (λ items. items_in front ++ items) (append-nil (items_at node))

-- the last node is replaced by one that also has the items of another node
pub joined_items : (front old made : List Node) (last one node : Node) → old ≡ front ++ last ∷ [] → made ≡ front ++ one ∷ []
    → items_at one ≡ items_at last ++ items_at node
    → items_in made ≡ items_in old ++ items_at node
joined_items front old made last one node o m e =
    ap items_in m ∙ items-more front one ∙ ap (λ items. items_in front ++ items) e ∙ sym (append_assoc (items_in front) (items_at last) (items_at node))
    ∙ ap (λ items. items ++ items_at node) (sym (ap items_in o ∙ items-more front last))

front-normal : (front back : List Node) → IsNormal (front ++ back) → IsNormal front
front-normal [] back h = tt
front-normal (x ∷ []) back h = (h.0, tt, tt)
front-normal (x ∷ y ∷ front) back h = (h.0, h.1, front-normal (y ∷ front) back h.2)

-- a node that does not join the last one
pub normal_more : (front : List Node) (last node : Node) → IsNormal (front ++ last ∷ []) → (Join last node → ⊥) → 0 < length (items_at node)
    → IsNormal ((front ++ last ∷ []) ++ node ∷ [])
normal_more [] last node h apart full = (h.0, apart, (full, tt, tt))
normal_more (x ∷ []) last node h apart full = (h.0, h.1, (h.2.0, apart, (full, tt, tt)))
normal_more (x ∷ y ∷ front) last node h apart full = (h.0, h.1, normal_more (y ∷ front) last node h.2 apart full)

join-trans : (x last one : Node) → Join last one → Join x one → Join x last
join-trans (Run text) (Run next) (Run third) l j = j ∙ sym l
join-trans (Run text) (Run next) (Element head children) l j = absurd l
join-trans (Run text) (Element head children) one l j = absurd l
join-trans (Element head children) last one l j = j

replaced : (front : List Node) (last one : Node) → IsNormal (front ++ last ∷ []) → Join last one → 0 < length (items_at one) → IsNormal (front ++ one ∷ [])
replaced [] last one h like full = (full, tt, tt)
replaced (x ∷ []) last one h like full = (h.0, (λ j. h.1 (join-trans x last one like j)), (full, tt, tt))
replaced (x ∷ y ∷ front) last one h like full = (h.0, h.1, replaced (y ∷ front) last one h.2 like full)

-- a text in place of the last one, of equal attributes, with more characters
pub normal_joined : (front old made : List Node) (last one node : Node) → old ≡ front ++ last ∷ [] → made ≡ front ++ one ∷ []
    → items_at one ≡ items_at last ++ items_at node
    → Join last one → 0 < length (items_at node) → IsNormal old → IsNormal made
normal_joined front old made last one node o m e like full h =
    subst IsNormal (sym m) (replaced front last one (subst IsNormal o h) like (omega (arith, ap length e, length-append (items_at last) (items_at node))))
