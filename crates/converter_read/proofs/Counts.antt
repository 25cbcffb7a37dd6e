-- What comes before a node, as nodes are read one by one.
use Rattle.std.proofs.Common.{◌≡◌, ◌+◌, ℕ, List, [], ◌∷◌, ◌++◌, Option, Result, Ok, suc, ◌<◌, length, get_or, drop, drop-cons, add-one, refl, ap, sym, ◌∙◌}
use Rattle.std.proofs.Common.{arith}
use Rattle.converter_definitions.specs.declared.kind.ShapeKind.{ShapeKind}
use Rattle.converter_definitions.specs.declared.shape.ShapeNode.{ShapeNode}
use Rattle.converter_definitions.specs.Form.{Form, element, forms_of}
use Rattle.converter_definitions.specs.Parts.{shape_of, shapes_of}
use Rattle.converter_definitions.specs.Pattern.{Patterns}
use Rattle.converter_definitions.specs.Shape.{form_count, inner_count, slot_count, inner_slots}
use Rattle.converter_forms.specs.declared.parts.Before.{Before}
use Rattle.serde_json.specs.Data.{Data, Items, item}
use Rattle.json_forms.specs.declared.fault.FormFault.{FormFault}
use Rattle.json_forms.specs.Form.{◌>>=◌, index_path}
use Rattle.json_names.proofs.Fronts.{with_front, with_front_more}
use Rattle.converter_forms.specs.ShapeForm.{Reader, nodes_at, behind, behind_all, inside}

-- one node more is seen as one more
pub shapes_more : (nodes : List (ShapeNode Patterns)) (node : ShapeNode Patterns) → shapes_of (nodes ++ node ∷ []) ≡ shapes_of nodes ++ shape_of node ∷ []
shapes_more [] node = refl
shapes_more (first ∷ nodes) node = ap (λ forms. shape_of first ∷ forms) (shapes_more nodes node)

count_more : (forms : List (Form Patterns)) (form : Form Patterns) → inner_count (forms_of (forms ++ form ∷ []))
    ≡ inner_count (forms_of forms) + form_count form
count_more [] form = omega arith
count_more (first ∷ forms) form = omega (arith, count_more forms form)

slots_more : (forms : List (Form Patterns)) (form : Form Patterns) → inner_slots (forms_of (forms ++ form ∷ []))
    ≡ inner_slots (forms_of forms) + slot_count form
slots_more [] form = omega arith
slots_more (first ∷ forms) form = omega (arith, slots_more forms form)

abbrev counted : ℕ → ℕ → Before
counted nodes slots = record { nodes = nodes; slots = slots }

same_counts : (nodes others slots more : ℕ) → nodes ≡ others → slots ≡ more → counted nodes slots ≡ counted others more
same_counts nodes others slots more same_nodes same_slots = ap (λ count. counted count slots) same_nodes ∙ ap (counted others) same_slots

-- nothing comes before what stands behind no nodes but what came before them
pub behind_none : (before : Before) → before ≡ behind_all [] before
unfolding behind_all
behind_none before =
    let same_nodes : before.nodes ≡ before.nodes + 0 = omega arith in
    let same_slots : before.slots ≡ before.slots + 0 = omega arith in
    same_counts before.nodes (before.nodes + 0) before.slots (before.slots + 0) same_nodes same_slots

-- what comes before what stands behind nodes and one more
pub behind_more : (forms : List (Form Patterns)) (form : Form Patterns) (before : Before) → behind form (behind_all forms before)
    ≡ behind_all (forms ++ form ∷ []) before
unfolding behind behind_all
behind_more forms form before =
    let same_nodes : before.nodes + inner_count (forms_of forms) + form_count form ≡ before.nodes + inner_count (forms_of (forms ++ form ∷ [])) =
    omega (arith, count_more forms form) in
    let same_slots : before.slots + inner_slots (forms_of forms) + slot_count form ≡ before.slots + inner_slots (forms_of (forms ++ form ∷ [])) =
    omega (arith, slots_more forms form) in
    same_counts (before.nodes + inner_count (forms_of forms) + form_count form) (before.nodes + inner_count (forms_of (forms ++ form ∷ [])))
    (before.slots + inner_slots (forms_of forms) + slot_count form) (before.slots + inner_slots (forms_of (forms ++ form ∷ []))) same_nodes same_slots

-- and what comes before what stands behind an element is what stands behind its children
pub behind_element : (kind : ShapeKind) (name : List ℕ) (attributes : Patterns) (forms : List (Form Patterns)) (before : Before)
    → behind_all forms (inside before) ≡ behind (element kind name attributes (forms_of forms)) before
unfolding behind behind_all inside
behind_element kind name attributes forms before =
    let same_nodes : before.nodes + 1 + inner_count (forms_of forms) ≡ before.nodes + (1 + inner_count (forms_of forms)) = omega arith in
    ap (λ count. counted count (before.slots + inner_slots (forms_of forms))) same_nodes

-- what was read in front of the rest of a list, where one more node is read
pub one_more : (reader : Reader) (parent : Option ShapeKind) (before next : Before) (path : List ℕ) (index : ℕ) (d : Data) (rest : Items)
    (front : List (Form Patterns)) (form : Form Patterns)
    → reader parent before (index_path path index) d ≡ Ok form → next ≡ behind form before
    → with_front (front ++ form ∷ []) (nodes_at reader parent next path (index + 1) rest)
    ≡ with_front front (nodes_at reader parent before path index (item d rest))
unfolding nodes_at
one_more reader parent before next path index d rest front form read counted =
    let go : Form Patterns → Before → Result (List (Form Patterns)) FormFault = λ f b. nodes_at reader parent b path (index + 1) rest
    >>= λ others. Ok (f ∷ others) in
    with_front_more front form (nodes_at reader parent next path (index + 1) rest)
    ∙ ap (λ b. with_front front (go form b)) counted
    ∙ ap (λ (r : Result (Form Patterns) FormFault). with_front front (r >>= λ f. go f (behind f before))) (sym read)

-- what is left of a list from a place on
pub left_from : {A : Type 0} → (read all : List A) (index : ℕ) (one : A) → read ≡ all → index < length all → one ≡ get_or read index one
    → one ∷ drop (index + 1) all ≡ drop index all
left_from read all index one same less is =
    ap (λ i. one ∷ drop i all) (add-one index) ∙ ap (λ x. x ∷ drop (suc index) all) (is ∙ ap (λ xs. get_or xs index one) same)
    ∙ sym (drop-cons all index one less)
