-- What is made of items, one node of the tree after the other.
use Rattle.std.proofs.Common.{◌≡◌, ◌≢◌, ℕ, ◌+◌, List, [], ◌∷◌, ◌++◌, length, map, true, false, ◌||◌, if◌then◌else◌, Option, Some, None, is_some, refl, sym, ap}
use Rattle.std.proofs.Common.{◌∙◌, subst, append_assoc, arith}
use Rattle.std.specs.Prelude.{IfSome}
use Rattle.item_definitions.specs.Item.{Item, Attributes, character, element, items_of, list_of}
use Rattle.operation_definitions.proofs.Lifting.{list_of-items_of}
use Rattle.std.proofs.lemmas.List.Elements.{All-head}
use Rattle.document_definitions.specs.Markers.{covering}
use Rattle.view_definitions.specs.Node.{ViewNode}
use Rattle.view_definitions.specs.Layer.{Layer}
use Rattle.view_definitions.specs.Row.{item, nest}
use Rattle.converter_definitions.specs.Views.{filled}
use Rattle.converter_definitions.specs.Gives.{Converted}
use Rattle.converter_definitions.specs.Layers.{character_layers}
use Rattle.downcast_definitions.specs.Scene.{Scene, Caret, boundary}
use Rattle.downcast_definitions.specs.Rows.{shape_at, element_layers, with_number, only, entry_of, row_of}
use Rattle.downcast_definitions.specs.Shown.{HaveShapes}
use Rattle.pos_mapper.specs.Bindings.{Binding, CaretPlace, Mapper, bound_id, bound_number, with_binding}
use Rattle.pos_mapper.specs.Mapped.{slot_of}
use Rattle.down_whole.specs.Bound.{elements_among, bindings_among, Agree, with_bindings}
use Rattle.down_whole.specs.Found.{found_here, found_in_item, found_among}
use Rattle.down_whole.specs.Front.{elements_within, front_row}
use Rattle.down_whole.specs.Written.{Written, nothing_written, with_entry, with_row, character_in}
use Rattle.down_whole.specs.Made.{run_row, Stretch, behind_items, whole, Stage, after_items, Made, MadeContent, finished, around_front, place_found}
use Rattle.down_whole.specs.Made.{caret_found}
use Rattle.down_whole.proofs.Bindings.{bindings-append, agree-front, agree-behind, with_bindings-append}
use Rattle.down_whole.proofs.Rows.{inner-row-front, front-append, with_row-append}
use Rattle.down_whole.proofs.WholeRow.{finish-none, finish-kept, finish-nowhere, finish-some, finish-found}

run-more : (scene : Scene) (path : List ℕ) (offset at : ℕ) (attributes : Attributes) (scalars : List ℕ) (scalar : ℕ) → at ≡ offset + length scalars
    → run_row scene path offset attributes (scalars ++ scalar ∷ [])
    ≡ run_row scene path offset attributes scalars
    ++ (boundary scene (path ++ at ∷ [])
    ++ (character_in (character_layers scene.conversion attributes (covering (path ++ at ∷ []) scene.markers)) scalar ∷ []))
run-more scene path offset at attributes [] scalar e =
    let same : at ≡ offset = e ∙ omega arith in
    ap (λ n. boundary scene (path ++ n ∷ [])
    ++ (character_in (character_layers scene.conversion attributes (covering (path ++ n ∷ []) scene.markers)) scalar ∷ [])) (sym same)
run-more scene path offset at attributes (first ∷ scalars) scalar e =
    let same : at ≡ offset + 1 + length scalars = e ∙ omega arith in
    let here = boundary scene (path ++ offset ∷ []) in
    ap (λ row. boundary scene (path ++ offset ∷ [])
    ++ (character_in (character_layers scene.conversion attributes (covering (path ++ offset ∷ []) scene.markers)) first ∷ row))
    (run-more scene path (offset + 1) at attributes scalars scalar same)
    ∙ sym (append_assoc here (character_in (character_layers scene.conversion attributes (covering (path ++ offset ∷ []) scene.markers)) first
    ∷ run_row scene path (offset + 1) attributes scalars) _)

-- one character more is written
pub run_step : (scene : Scene) (path : List ℕ) (offset at : ℕ) (attributes : Attributes) (scalars next : List ℕ) (scalar : ℕ) (start so_far bound now : Written)
    → so_far ≡ with_row (run_row scene path offset attributes scalars) start → at ≡ offset + length scalars
    → bound ≡ with_row (boundary scene (path ++ at ∷ [])) so_far
    → now ≡ with_entry (character_in (character_layers scene.conversion attributes (covering (path ++ at ∷ []) scene.markers)) scalar) bound
    → next ≡ scalars ++ scalar ∷ [] → now ≡ with_row (run_row scene path offset attributes next) start
run_step scene path offset at attributes scalars next scalar start so_far bound now s a b n x =
    let entry = character_in (character_layers scene.conversion attributes (covering (path ++ at ∷ []) scene.markers)) scalar in
    n ∙ ap (with_entry entry) (b ∙ ap (with_row (boundary scene (path ++ at ∷ []))) s)
    ∙ sym (with_row-append (boundary scene (path ++ at ∷ [])) (entry ∷ []) (with_row (run_row scene path offset attributes scalars) start))
    ∙ sym (with_row-append (run_row scene path offset attributes scalars) (boundary scene (path ++ at ∷ []) ++ entry ∷ []) start)
    ∙ sym (ap (λ row. with_row row start) (ap (run_row scene path offset attributes) x ∙ run-more scene path offset at attributes scalars scalar a))

-- ---- one stretch behind the other

-- the caret is no matter of the bindings
one-apart : (binding : Binding) (mapper : Mapper) (caret : Option CaretPlace) → with_binding binding (record mapper { caret = caret })
    ≡ record (with_binding binding mapper) { caret = caret }
one-apart binding mapper caret =
    elim (is_some (bound_id binding.id mapper) || is_some (bound_number binding.number mapper)) as (λ b.
    ◌≡◌ {A = Mapper} (if b then record mapper { caret = caret } else record mapper { bindings = mapper.bindings ++ binding ∷ []; caret = caret })
    (record (if b then mapper else record mapper { bindings = mapper.bindings ++ binding ∷ [] }) { caret = caret })) [ true ↦ refl | false ↦ refl ]

caret-apart : (bindings : List Binding) (mapper : Mapper) (caret : Option CaretPlace) → with_bindings bindings (record mapper { caret = caret })
    ≡ record (with_bindings bindings mapper) { caret = caret }
caret-apart [] mapper caret = refl
caret-apart (binding ∷ bindings) mapper caret =
    ap (with_bindings bindings) (one-apart binding mapper caret) ∙ caret-apart bindings (with_binding binding mapper) caret

found-append : (scene : Scene) (path : List ℕ) (offset : ℕ) (xs ys : List Item) (found : Option CaretPlace)
    → found_among scene path offset (items_of (xs ++ ys)) found
    ≡ found_among scene path (offset + length xs) (items_of ys) (found_among scene path offset (items_of xs) found)
found-append scene path offset [] ys found =
    let same : offset ≡ offset + length {A = Item} [] = omega arith in
    ap (λ n. found_among scene path n (items_of ys) found) same
found-append scene path offset (first ∷ xs) ys found =
    let same : offset + 1 + length xs ≡ offset + length (first ∷ xs) = omega arith in
    found-append scene path (offset + 1) xs ys (found_in_item scene (path ++ offset ∷ []) first found)
    ∙ ap (λ n. found_among scene path n (items_of ys) (found_among scene path offset (items_of (first ∷ xs)) found)) same

after-both : (scene : Scene) (at : Stretch) (xs ys : List Item) (stage : Stage) → after_items scene at (xs ++ ys) stage
    ≡ after_items scene (behind_items at xs) ys (after_items scene at xs stage)
after-both scene at xs ys stage =
    let bx = bindings_among scene.conversion at.parent at.before at.drawn (items_of xs) in
    let by = bindings_among scene.conversion at.parent (at.before + elements_within xs) (at.drawn + elements_among (items_of xs)) (items_of ys) in
    let caret = found_among scene at.path at.offset (items_of xs) stage.mapper.caret in
    let rows = ap (λ row. with_row row stage.row) (front-append scene at.parent at.path at.offset at.before xs ys)
    ∙ with_row-append (front_row scene at.parent at.path at.offset at.before xs)
    (front_row scene at.parent at.path (at.offset + length xs) (at.before + elements_within xs) ys) stage.row in
    let bound = ap (λ bindings. with_bindings bindings stage.mapper) (bindings-append scene.conversion at.parent at.before at.drawn xs ys)
    ∙ with_bindings-append bx by stage.mapper in
    let places = found-append scene at.path at.offset xs ys stage.mapper.caret in
    let apart = caret-apart by (with_bindings bx stage.mapper) caret in
    λ i. record {
      row = rows i;
      mapper = record ((ap (λ (m : Mapper). record m { caret = found_among scene at.path at.offset (items_of (xs ++ ys)) stage.mapper.caret }) bound
          ∙ sym (ap (λ (m : Mapper). record m { caret = found_among scene at.path at.offset (items_of (xs ++ ys)) stage.mapper.caret }) apart)) i)
          { caret = places i };
    }

made-both : (scene : Scene) (at : Stretch) (xs ys : List Item) (old middle new : Stage) → Made scene at xs old middle
    → Made scene (behind_items at xs) ys middle new → Made scene at (xs ++ ys) old new
made-both scene at xs ys old middle new x y agree =
    let bx = bindings_among scene.conversion at.parent at.before at.drawn (items_of xs) in
    let by = bindings_among scene.conversion at.parent (at.before + elements_within xs) (at.drawn + elements_among (items_of xs)) (items_of ys) in
    let all : Agree scene.numbers (bx ++ by) = subst (Agree scene.numbers) (bindings-append scene.conversion at.parent at.before at.drawn xs ys) agree in
    y (agree-behind scene.numbers bx by all) ∙ ap (after_items scene (behind_items at xs) ys) (x (agree-front scene.numbers bx by all))
    ∙ sym (after-both scene at xs ys old)

-- a node's items more were made
pub made-step : (scene : Scene) (parent path : List ℕ) (drawn offset before number : ℕ) (xs ys all : List Item) (old middle new : Stage)
    → Made scene (whole parent path drawn) xs old middle → offset ≡ length xs → before ≡ elements_within xs → number ≡ drawn + elements_among (items_of xs)
    → Made scene (record { parent = parent; path = path; offset = offset; before = before; drawn = number }) ys middle new → all ≡ xs ++ ys
    → Made scene (whole parent path drawn) all old new
made-step scene parent path drawn offset before number xs ys all old middle new x o b n y e =
    let o-is : offset ≡ 0 + length xs = o ∙ omega arith in
    let b-is : before ≡ 0 + elements_within xs = b ∙ omega arith in
    let there : Made scene (behind_items (whole parent path drawn) xs) ys middle new =
    subst (λ (at : Stretch). Made scene at ys middle new) (λ i. record { parent = parent; path = path; offset = o-is i; before = b-is i; drawn = n i }) y in
    subst (λ list. Made scene (whole parent path drawn) list old new) (sym e) (made-both scene (whole parent path drawn) xs ys old middle new x there)

-- ---- characters

abbrev pub characters : Attributes → List ℕ → List Item
characters attributes scalars = map (λ scalar. character scalar attributes) scalars

front-run : (scene : Scene) (parent path : List ℕ) (offset before : ℕ) (attributes : Attributes) (scalars : List ℕ)
    → front_row scene parent path offset before (characters attributes scalars) ≡ run_row scene path offset attributes scalars
front-run scene parent path offset before attributes [] = refl
front-run scene parent path offset before attributes (scalar ∷ scalars) =
    ap (λ row. boundary scene (path ++ offset ∷ [])
    ++ (character_in (character_layers scene.conversion attributes (covering (path ++ offset ∷ []) scene.markers)) scalar ∷ row))
    (front-run scene parent path (offset + 1) (before + 0) attributes scalars)

none-bound : (scene : Scene) (parent : List ℕ) (before drawn : ℕ) (attributes : Attributes) (scalars : List ℕ)
    → bindings_among scene.conversion parent before drawn (items_of (characters attributes scalars)) ≡ []
none-bound scene parent before drawn attributes [] = refl
none-bound scene parent before drawn attributes (scalar ∷ scalars) = none-bound scene parent (before + 0) (drawn + 0) attributes scalars

none-found : (scene : Scene) (path : List ℕ) (offset : ℕ) (attributes : Attributes) (scalars : List ℕ) (found : Option CaretPlace)
    → found_among scene path offset (items_of (characters attributes scalars)) found ≡ found
none-found scene path offset attributes [] found = refl
none-found scene path offset attributes (scalar ∷ scalars) found = none-found scene path (offset + 1) attributes scalars found

pub no_elements : (attributes : Attributes) (scalars : List ℕ) → elements_among (items_of (characters attributes scalars)) ≡ 0
no_elements attributes [] = refl
no_elements attributes (scalar ∷ scalars) = omega (arith, no_elements attributes scalars)

pub none_within : (attributes : Attributes) (scalars : List ℕ) → elements_within (characters attributes scalars) ≡ 0
none_within attributes [] = refl
none_within attributes (scalar ∷ scalars) = omega (arith, none_within attributes scalars)

-- characters were written
pub run-made : (scene : Scene) (at : Stretch) (attributes : Attributes) (scalars : List ℕ) (old new : Written) (mapper : Mapper)
    → new ≡ with_row (run_row scene at.path at.offset attributes scalars) old
    → Made scene at (characters attributes scalars) (record { row = old; mapper = mapper }) (record { row = new; mapper = mapper })
run-made scene at attributes scalars old new mapper e agree =
    let row = e ∙ ap (λ row. with_row row old) (sym (front-run scene at.parent at.path at.offset at.before attributes scalars)) in
    let bound = ap (λ bindings. with_bindings bindings mapper) (sym (none-bound scene at.parent at.before at.drawn attributes scalars)) in
    let caret = sym (none-found scene at.path at.offset attributes scalars mapper.caret) in
    λ i. record { row = row i; mapper = record (bound i) { caret = caret i } }

-- ---- an element

append-none : (bindings : List Binding) → bindings ++ [] ≡ bindings
append-none [] = refl
append-none (binding ∷ bindings) = ap (λ rest. binding ∷ rest) (append-none bindings)

-- an element was made: what stands before it, then its content, then its view element
pub element-made : (scene : Scene) (at : Stretch) (id : ℕ) (name : List ℕ) (attributes : Attributes) (list : List Item) (made : Converted)
    (content : List ViewNode) (layers : List Layer) (number : ℕ) (old bound new : Written) (mapper inner last : Mapper)
    → made ≡ shape_at scene.conversion at.parent at.before name attributes
    → bound ≡ with_row (boundary scene (at.path ++ at.offset ∷ [])) old
    → MadeContent scene name (at.path ++ at.offset ∷ []) at.drawn list content mapper inner
    → number ≡ at.drawn + elements_among (items_of list)
    → layers ≡ element_layers scene (at.path ++ at.offset ∷ []) name made.layers
    → new ≡ with_entry (record { content = item (with_number (Some number) (only (filled content made.form))); layers = layers }) bound
    → last ≡ with_binding (record { id = id; number = number; slot = slot_of made.form }) inner
    → Made scene at (element id name attributes (items_of list) ∷ []) (record { row = old; mapper = mapper }) (record { row = new; mapper = last })
element-made scene at id name attributes list made content layers number old bound new mapper inner last m b c n l w k agree =
    let position = at.path ++ at.offset ∷ [] in
    let shape = shape_at scene.conversion at.parent at.before name attributes in
    let below = bindings_among scene.conversion name 0 at.drawn (items_of list) in
    let own : Binding = record { id = id; number = at.drawn + elements_among (items_of list); slot = slot_of shape.form } in
    let all : Agree scene.numbers (below ++ own ∷ []) = subst (Agree scene.numbers) (append-none (below ++ own ∷ [])) agree in
    let inside = c (agree-front scene.numbers below (own ∷ []) all) in
    let numbered : scene.numbers id ≡ Some (at.drawn + elements_among (items_of list)) = All-head (λ (binding : Binding). scene.numbers binding.id
    ≡ Some binding.number) own [] (agree-behind scene.numbers below (own ∷ []) all) in
    let nodes = inside.0 in
    let row : new ≡ with_row (boundary scene position ++ (entry_of scene at.parent position at.before (element id name attributes (items_of list)) ∷ [])) old =
    w
    ∙ (λ i. with_entry (record {
      content =
          item (with_number ((ap Some n ∙ sym numbered) i) (only (filled (nodes i) ((ap (λ (m : Converted). m.form) m) i))));
      layers =
          (l ∙ ap (λ (m : Converted). element_layers scene position name m.layers) m) i;
    }) (b i))
    ∙ sym (with_row-append (boundary scene position) (entry_of scene at.parent position at.before (element id name attributes (items_of list)) ∷ []) old) in
    let place = found_here scene name position list scene.caret (found_among scene position 0 (items_of list) mapper.caret) in
    let placed : place ≡ found_here scene name position (list_of (items_of list)) scene.caret (found_among scene position 0 (items_of list) mapper.caret) =
    ap (λ items. found_here scene name position items scene.caret (found_among scene position 0 (items_of list) mapper.caret)) (sym (list_of-items_of list)) in
    let bindings : last ≡ record (with_bindings (below ++ own ∷ []) mapper) { caret = place } =
    k
    ∙ (λ i. with_binding (record { id = id; number = n i; slot = slot_of ((ap (λ (m : Converted). m.form) m) i) }) (inside.1 i))
    ∙ one-apart own (with_bindings below mapper) place
    ∙ ap (λ (m : Mapper). record m { caret = place }) (sym (with_bindings-append below (own ∷ []) mapper)) in
    let all_bound = ap (λ list. with_bindings list mapper) (sym (append-none (below ++ own ∷ []))) in
    λ i. record {
      row = row i;
      mapper = (bindings ∙ (λ j. record (all_bound j) { caret = placed j })) i;
    }

-- ---- the whole content

by-front : (scene : Scene) (parent path : List ℕ) (list : List Item) (here : Caret) (front : Option (List ViewNode)) (nodes : List ViewNode)
    (found : Option CaretPlace)
    → HaveShapes scene.conversion parent 0 (items_of list) → scene.caret ≡ Some here → here.at ≢ [] → IfSome scene.caret (λ here. here.at ≢ [])
    → with_row (row_of scene parent path list) nothing_written ≡ record { front = front; nodes = nodes }
    → (around_front here front nodes ≡ nest (row_of scene parent path list))
    × (place_found here front nodes found ≡ found_here scene parent path list scene.caret found)
by-front scene parent path list here None nodes found s e d p w =
    (finish-none scene parent path list nodes s p w, sym (finish-kept scene parent path list nodes found s p w))
by-front scene parent path list here (Some front) nodes found s e d p w = (
  finish-some scene parent path list here here.layers front nodes s e d refl w,
  sym (finish-found scene parent path list here here.layers front nodes found s e d refl w),
)

no-caret : (scene : Scene) (parent path : List ℕ) (list : List Item) (front : Option (List ViewNode)) (nodes : List ViewNode)
    → HaveShapes scene.conversion parent 0 (items_of list) → scene.caret ≡ None → IfSome scene.caret (λ here. here.at ≢ [])
    → with_row (row_of scene parent path list) nothing_written ≡ record { front = front; nodes = nodes } → nodes ≡ nest (row_of scene parent path list)
no-caret scene parent path list front nodes s e p w =
    finish-none scene parent path list nodes s p (w
    ∙ ap (λ front. record { front = front; nodes = nodes }) (finish-nowhere scene parent path list front nodes s e w))

by-caret : (scene : Scene) (parent path : List ℕ) (list : List Item) (there : Option Caret) (end : Written) (found : Option CaretPlace)
    → HaveShapes scene.conversion parent 0 (items_of list) → scene.caret ≡ there → IfSome there (λ here. here.at ≢ [])
    → with_row (row_of scene parent path list) nothing_written ≡ end
    → (finished there end ≡ nest (row_of scene parent path list)) × (caret_found there end found ≡ found_here scene parent path list there found)
by-caret scene parent path list None end found s e d w =
    (no-caret scene parent path list end.front end.nodes s e (subst (λ there. IfSome there (λ (here : Caret). here.at ≢ [])) (sym e) d) w, refl)
by-caret scene parent path list (Some here) end found s e d w =
    let made = by-front scene parent path list here end.front end.nodes found s e d
    (subst (λ there. IfSome there (λ (here : Caret). here.at ≢ [])) (sym e) d) w in
    (made.0, made.1 ∙ ap (λ there. found_here scene parent path list there found) e)

-- the content of an element was made: its items, what stands behind the last one, and the nodes of the row
pub content-made : (scene : Scene) (parent path : List ℕ) (drawn offset : ℕ) (list all : List Item) (nodes : List ViewNode) (now end : Written)
    (old middle new : Mapper)
    → Made scene (whole parent path drawn) list (record { row = nothing_written; mapper = old }) (record { row = now; mapper = middle })
    → list ≡ all → offset ≡ length list → end ≡ with_row (boundary scene (path ++ offset ∷ [])) now
    → nodes ≡ finished scene.caret end → new ≡ record middle { caret = caret_found scene.caret end middle.caret }
    → HaveShapes scene.conversion parent 0 (items_of list) → IfSome scene.caret (λ here. here.at ≢ [])
    → MadeContent scene parent path drawn all nodes old new
content-made scene parent path drawn offset list all nodes now end old middle new m same o e n k s d =
    subst (λ items. MadeContent scene parent path drawn items nodes old new) same
    (λ agree.
    let stage = m agree in
    let o-is : offset ≡ 0 + length list = o ∙ omega arith in
    let row : with_row (row_of scene parent path list) nothing_written ≡ end =
    ap (λ row. with_row row nothing_written) (inner-row-front scene parent path 0 0 list)
    ∙ with_row-append (front_row scene parent path 0 0 list) (boundary scene (path ++ (0 + length list) ∷ [])) nothing_written
    ∙ (λ i. with_row (boundary scene (path ++ sym o-is i ∷ [])) ((sym (ap (λ (stage : Stage). stage.row) stage)) i))
    ∙ sym e in
    let both = by-caret scene parent path list scene.caret end middle.caret s refl d row in
    let mapper = ap (λ (stage : Stage). stage.mapper) stage in (
      n ∙ both.0,
      k ∙ (λ i. record (mapper i) { caret = (both.1 ∙ ap (λ (m : Mapper). found_here scene parent path list scene.caret m.caret) mapper) i }),
    ))
