-- The steps of a walk over nodes that corrects indents.
use Rattle.std.proofs.Common.{◌≡◌, ℕ, ◌+◌, ◌<◌, List, [], ◌∷◌, ◌++◌, map, length, Option, None, refl, sym, ap, ◌∙◌, arith, append_assoc, append-nil}
use Rattle.item_definitions.specs.Item.{Item, character, items_of}
use Rattle.model_tree.specs.declared.items.Node.{Node}
use Rattle.model_tree.specs.declared.items.Node.TheVariants.{Run, Element}
use Rattle.model_tree.specs.Parts.{TextParts}
use Rattle.model_tree.specs.Nodes.{items_at}
use Rattle.edit_definitions.specs.declared.edit.Edit.{Edit}
use Rattle.fix_definitions.specs.Indents.{indent_of, indent_wanted, indents_in, indents_from}
use Rattle.product_objects.specs.Indented.{node_indent}

-- the indent of the last of some items, or of what stands before them
abbrev indent_behind : Option ℕ → List Item → Option ℕ
indent_behind left [] = left
indent_behind left (item ∷ items) = indent_behind (indent_of left item) items

-- what is wanted of an item and of all that is in it
abbrev item_wanted : List ℕ → Option ℕ → Item → List Edit
item_wanted path left item = indent_wanted path (indent_of left item) item ++ indents_in path item

indents-append : (path : List ℕ) (offset : ℕ) (left : Option ℕ) (xs ys : List Item)
    → indents_from path offset left (items_of (xs ++ ys))
    ≡ indents_from path offset left (items_of xs) ++ indents_from path (offset + length xs) (indent_behind left xs) (items_of ys)
indents-append path offset left [] ys = (let same : offset ≡ offset + 0 = omega arith in ap (λ n. indents_from path n left (items_of ys)) same)
indents-append path offset left (x ∷ xs) ys =
    let same : offset + 1 + length xs ≡ offset + length (x ∷ xs) = omega arith in
    ap (λ t. item_wanted (path ++ offset ∷ []) left x ++ t) (indents-append path (offset + 1) (indent_of left x) xs ys
    ∙ ap (λ n. indents_from path (offset + 1) (indent_of left x) (items_of xs)
    ++ indents_from path n (indent_behind (indent_of left x) xs) (items_of ys)) same)
    ∙ sym (append_assoc (item_wanted (path ++ offset ∷ []) left x) (indents_from path (offset + 1) (indent_of left x) (items_of xs)) _)

run_wants : (path : List ℕ) (offset : ℕ) (left : Option ℕ) (scalars : List ℕ) (text : TextParts)
    → indents_from path offset left (items_of (map (λ scalar. character scalar text.attributes) scalars)) ≡ []
run_wants path offset left [] text = refl
run_wants path offset left (scalar ∷ scalars) text = run_wants path (offset + 1) None scalars text

behind_run : (scalars : List ℕ) (text : TextParts) → indent_behind None (map (λ scalar. character scalar text.attributes) scalars) ≡ None
behind_run [] text = refl
behind_run (scalar ∷ scalars) text = behind_run scalars text

behind_node : (left : Option ℕ) (node : Node) → 0 < length (items_at node) → indent_behind left (items_at node) ≡ node_indent left node
behind_node left (Run text) some = go text.scalars some
  where
    go : (scalars : List ℕ) → 0 < length (map (λ scalar. character scalar text.attributes) scalars)
        → indent_behind left (map (λ scalar. character scalar text.attributes) scalars) ≡ None
    go [] some = absurd (omega (arith, some))
    go (scalar ∷ scalars) some = behind_run scalars text
behind_node left (Element head children) some = refl

-- one node more
pub next_wanted : (path : List ℕ) (offset next : ℕ) (left behind : Option ℕ) (node : Node) (items rest : List Item) (out put all : List Edit)
    → items ≡ items_at node ++ rest → 0 < length (items_at node) → next ≡ offset + length (items_at node) → behind ≡ node_indent left node
    → put ≡ out ++ indents_from path offset left (items_of (items_at node)) → out ++ indents_from path offset left (items_of items) ≡ all
    → put ++ indents_from path next behind (items_of rest) ≡ all
next_wanted path offset next left behind node items rest out put all parts some n b p e =
    ap (λ t. t ++ indents_from path next behind (items_of rest)) p
    ∙ append_assoc out (indents_from path offset left (items_of (items_at node))) _
    ∙ ap (λ t. out ++ (indents_from path offset left (items_of (items_at node)) ++ t))
    (λ i. indents_from path (n i) ((b ∙ sym (behind_node left node some)) i) (items_of rest))
    ∙ ap (λ t. out ++ t) (sym (indents-append path offset left (items_at node) rest)
    ∙ ap (λ items. indents_from path offset left (items_of items)) (sym parts))
    ∙ e

-- a text puts nothing down
pub run_puts : (path : List ℕ) (offset : ℕ) (left : Option ℕ) (node : Node) (text : TextParts) (out : List Edit) → node ≡ Run text
    → out ≡ out ++ indents_from path offset left (items_of (items_at node))
run_puts path offset left node text out e =
    sym (append-nil out)
    ∙ ap (λ t. out ++ t) (sym (ap (λ node. indents_from path offset left (items_of (items_at node))) e
    ∙ run_wants path offset left text.scalars text))
