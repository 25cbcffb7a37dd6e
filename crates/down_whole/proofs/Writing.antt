-- Rows that are written from the front on.
use Rattle.std.proofs.Common.{◌≡◌, ℕ, List, [], ◌∷◌, ◌++◌, Option, Some, refl, sym, ap, ◌∙◌}
use Rattle.std.specs.Prelude.{map}
use Rattle.view_definitions.specs.Node.{ViewNode, text}
use Rattle.view_definitions.specs.Layer.{Layer, in_layer}
use Rattle.view_definitions.specs.Row.{Content, leaf, item, character, nothing, put, content_before, shown, nest, join, IsPlainRow}
use Rattle.view_definitions.proofs.Joins.{join-none, join-assoc, join-in_layer, nest-append, nest-cons}
use Rattle.view_definitions.proofs.Layers.{same_layer-itself}
use Rattle.down_whole.specs.Written.{Written, with_entry, in_layers, character_in, run_in}

-- an entry alone
pub alone : (layers : List Layer) (content : Content) (node : ViewNode) → content_before content [] ≡ node ∷ [] → shown (put layers content nothing)
    ≡ in_layers layers node
alone [] content node e = e
alone (layer ∷ layers) content node e = ap (λ nodes. in_layer layer nodes ∷ []) (alone layers content node e)

pub plain-run : (layers : List Layer) (scalars : List ℕ) → IsPlainRow (map (character_in layers) scalars)
plain-run layers [] = tt
plain-run layers (scalar ∷ scalars) = (refl, plain-run layers scalars)

map-append : (layers : List Layer) (scalars more : List ℕ) → map (character_in layers) (scalars ++ more)
    ≡ map (character_in layers) scalars ++ map (character_in layers) more
map-append layers [] more = refl
map-append layers (scalar ∷ scalars) more = ap (λ row. character_in layers scalar ∷ row) (map-append layers scalars more)

-- one character more
pub run-more : (layers : List Layer) (nodes : List ViewNode) (scalars : List ℕ) (scalar : ℕ) → join nodes (run_in layers (scalars ++ scalar ∷ []))
    ≡ join (join nodes (run_in layers scalars)) (nest (character_in layers scalar ∷ []))
run-more layers nodes scalars scalar =
    ap (λ row. join nodes (nest row)) (map-append layers scalars (scalar ∷ []))
    ∙ ap (join nodes) (nest-append (map (character_in layers) scalars) (character_in layers scalar ∷ []) (plain-run layers scalars) (refl, tt))
    ∙ join-assoc nodes (run_in layers scalars) (nest (character_in layers scalar ∷ []))

texts_join : (layers : List Layer) (scalar : ℕ) (scalars : List ℕ) → join (in_layers layers (text (scalar ∷ []))) (in_layers layers (text scalars))
    ≡ in_layers layers (text (scalar ∷ scalars))
texts_join [] scalar scalars = refl
texts_join (layer ∷ layers) scalar scalars =
    join-in_layer layer layer (in_layers layers (text (scalar ∷ []))) (in_layers layers (text scalars)) [] (same_layer-itself layer)
    ∙ ap (λ nodes. in_layer layer nodes ∷ []) (texts_join layers scalar scalars)

-- characters in the same layers are one text in them
pub run-is : (layers : List Layer) (scalar : ℕ) (scalars : List ℕ) → run_in layers (scalar ∷ scalars) ≡ in_layers layers (text (scalar ∷ scalars))
run-is layers scalar [] = alone layers (character scalar) (text (scalar ∷ [])) refl
run-is layers scalar (next ∷ scalars) =
    nest-cons (character_in layers scalar) (map (character_in layers) (next ∷ scalars)) (refl, plain-run layers (next ∷ scalars))
    ∙ (λ i. join (alone layers (character scalar) (text (scalar ∷ [])) refl i) (run-is layers next scalars i))
    ∙ texts_join layers scalar (next ∷ scalars)

-- ---- the writer

-- the characters were put into the nodes
pub flushed : (front : Option (List ViewNode)) (layers : List Layer) (scalars taken rest : List ℕ) (old new right : List ViewNode) (node : ViewNode)
    → (scalars ≡ [] → ⊥) → taken ≡ scalars → rest ≡ [] → node ≡ text taken → right ≡ in_layers layers node → new ≡ join old right
    → ◌≡◌ {A = Written} (record { front = front; nodes = join new (run_in layers rest) }) (record { front = front; nodes = join old (run_in layers scalars) })
flushed front layers [] taken rest old new right node some t r n w e = absurd (some refl)
flushed front layers (scalar ∷ scalars) taken rest old new right node some t r n w e =
    ap (λ nodes. record { front = front; nodes = nodes })
    (ap (λ scalars. join new (run_in layers scalars)) r ∙ join-none new ∙ e
    ∙ ap (join old) (w ∙ ap (in_layers layers) (n ∙ ap text t) ∙ sym (run-is layers scalar scalars)))

-- a character was written
pub character_written : (front : Option (List ViewNode)) (layers : List Layer) (scalars next : List ℕ) (scalar : ℕ) (nodes : List ViewNode)
    → next ≡ scalars ++ scalar ∷ []
    → ◌≡◌ {A = Written} (record { front = front; nodes = join nodes (run_in layers next) })
    (with_entry (character_in layers scalar) (record { front = front; nodes = join nodes (run_in layers scalars) }))
character_written front layers scalars next scalar nodes e =
    ap (λ nodes. record { front = front; nodes = nodes }) (ap (λ scalars. join nodes (run_in layers scalars)) e ∙ run-more layers nodes scalars scalar)

-- where no characters are left, the nodes are all that is written
pub all_written : (front : Option (List ViewNode)) (layers : List Layer) (rest : List ℕ) (nodes : List ViewNode) (before : Written)
    → ◌≡◌ {A = Written} (record { front = front; nodes = join nodes (run_in layers rest) }) before → rest ≡ []
    → ◌≡◌ {A = Written} (record { front = front; nodes = nodes }) before
all_written front layers rest nodes before e r =
    ap (λ nodes. record { front = front; nodes = nodes }) (sym (join-none nodes) ∙ ap (λ scalars. join nodes (run_in layers scalars)) (sym r)) ∙ e

-- the caret was written
pub caret_written : (front : Option (List ViewNode)) (layers : List Layer) (rest : List ℕ) (nodes taken left : List ViewNode) (before : Written)
    → ◌≡◌ {A = Written} (record { front = front; nodes = join nodes (run_in layers rest) }) before → rest ≡ [] → taken ≡ nodes → left ≡ []
    → ◌≡◌ {A = Written} (record { front = Some taken; nodes = join left (run_in layers rest) }) (record { front = Some before.nodes; nodes = [] })
caret_written front layers rest nodes taken left before e r t l =
    λ i. record {
      front = Some ((t ∙ ap (λ (written : Written). written.nodes) (all_written front layers rest nodes before e r)) i);
      nodes = join (l i) (run_in layers (r i));
    }

joined : (front behind : Option (List ViewNode)) (own others layers : List Layer) (rest more : List ℕ) (node : ViewNode) (old new : List ViewNode)
    (before : Written) → ◌≡◌ {A = Written} (record { front = front; nodes = join old (run_in own rest) }) before → rest ≡ [] → behind ≡ front
    → more ≡ rest → new ≡ join old (in_layers layers node)
    → ◌≡◌ {A = Written} (record { front = behind; nodes = join new (run_in others more) }) (record before { nodes = join before.nodes (in_layers layers node) })
joined front behind own others layers rest more node old new before e r f m n =
    let all = all_written front own rest old before e r in
    λ i. record {
      front = (f ∙ ap (λ (written : Written). written.front) all) i;
      nodes = ((λ j. join new (run_in others ((m ∙ r) j))) ∙ join-none new ∙ n ∙ ap (λ (written : Written). join written.nodes (in_layers layers node)) all) i;
    }

-- an element was written
pub item_written : (front behind : Option (List ViewNode)) (own others layers : List Layer) (rest more : List ℕ) (node : ViewNode)
    (old new : List ViewNode) (before : Written) → ◌≡◌ {A = Written} (record { front = front; nodes = join old (run_in own rest) }) before → rest ≡ []
    → behind ≡ front → more ≡ rest → new ≡ join old (in_layers layers node)
    → ◌≡◌ {A = Written} (record { front = behind; nodes = join new (run_in others more) }) (with_entry (record { content = item node; layers = layers }) before)
item_written front behind own others layers rest more node old new before e r f m n =
    joined front behind own others layers rest more node old new before e r f m n
    ∙ ap (λ nodes. record before { nodes = join before.nodes nodes }) (sym (alone layers (item node) node refl))

-- the leaf of a marker was written
pub leaf_written : (front behind : Option (List ViewNode)) (own others : List Layer) (rest more : List ℕ) (node : ViewNode) (old new : List ViewNode)
    (before : Written) → ◌≡◌ {A = Written} (record { front = front; nodes = join old (run_in own rest) }) before → rest ≡ [] → behind ≡ front
    → more ≡ rest → new ≡ join old (in_layers [] node)
    → ◌≡◌ {A = Written} (record { front = behind; nodes = join new (run_in others more) }) (with_entry (record { content = leaf node; layers = [] }) before)
leaf_written front behind own others rest more node old new before e r f m n = joined front behind own others [] rest more node old new before e r f m n
