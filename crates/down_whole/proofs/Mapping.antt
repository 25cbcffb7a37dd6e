-- The view and the mapper of a whole document.
use Rattle.std.proofs.Common.{◌≡◌, ◌≢◌, ℕ, List, [], ◌∷◌, ◌++◌, false, nat_eq, Option, None, refl, sym, ap, ◌∙◌, subst}
use Rattle.std.specs.Prelude.{IfSome, codes}
use Rattle.std.specs.List.{IsDistinct, AllByRecursion, flat_map}
use Rattle.item_definitions.specs.Item.{Item, items_of}
use Rattle.document_definitions.specs.Document.{Document, State, ids_of}
use Rattle.document_definitions.specs.Sound.{IsSound}
use Rattle.view_definitions.specs.Node.{ViewNode, content}
use Rattle.converter_definitions.specs.Gives.{Conversion}
use Rattle.downcast_definitions.specs.Scene.{Numbers, Scene, Caret, numbered_scene, scene_of, caret_of}
use Rattle.downcast_definitions.specs.Rows.{downcast, numbered_downcast}
use Rattle.downcast_definitions.specs.Shown.{HasShapes}
use Rattle.downcast_definitions.proofs.Numbering.{numbers-dropped}
use Rattle.pos_mapper.specs.Bindings.{Mapper, numbers_of}
use Rattle.view_definitions.specs.Node.{uncounted}
use Rattle.pos_mapper.specs.Mapped.{IsMapped}
use Rattle.down_whole.specs.Bound.{bindings_among, Agree}
use Rattle.down_whole.specs.Made.{MadeContent}
use Rattle.down_whole.proofs.Bindings.{mapper-bound, numbers-agree, all-bound}
use Rattle.down_whole.proofs.Places.{found-root, caret-some}

all-front : (P : ℕ → Type 0) (xs ys : List ℕ) → AllByRecursion P (xs ++ ys) → AllByRecursion P xs
all-front P [] ys h = tt
all-front P (x ∷ xs) ys h = (h.0, all-front P xs ys h.1)

distinct-front : (xs ys : List ℕ) → IsDistinct nat_eq (xs ++ ys) → IsDistinct nat_eq xs
unfolding IsDistinct
distinct-front [] ys h = tt
distinct-front (x ∷ xs) ys h = (all-front (λ y. nat_eq x y ≡ false) xs ys h.0, distinct-front xs ys h.1)

-- a mapper before anything is bound
abbrev unbound : Mapper
unbound = record { bindings = []; caret = None }

-- what was made of the whole document, where the numbers are those that were bound
abbrev pub AllMade : Conversion → Document → List ViewNode → Mapper → Type 0
AllMade conversion document nodes new =
    (numbers : Numbers) → MadeContent (numbered_scene numbers conversion document) (codes "$root") [] 0 document.items nodes unbound new

abbrev all_bindings : Conversion → Document → Mapper
all_bindings conversion document = record { bindings = bindings_among conversion (codes "$root") 0 0 (items_of document.items); caret = None }

agreed : (conversion : Conversion) (document : Document) → IsDistinct nat_eq (ids_of document.items)
    → Agree (numbers_of (all_bindings conversion document)) (bindings_among conversion (codes "$root") 0 0 (items_of document.items))
agreed conversion document d = numbers-agree conversion (codes "$root") 0 0 document.items (all_bindings conversion document) d refl

nodes-are : (conversion : Conversion) (document : Document) (nodes : List ViewNode) (new : Mapper) → AllMade conversion document nodes new
    → IsDistinct nat_eq (ids_of document.items)
    → nodes ≡ numbered_downcast (numbers_of (all_bindings conversion document)) conversion document
nodes-are conversion document nodes new m d = (m (numbers_of (all_bindings conversion document)) (agreed conversion document d)).0

pub mapper-bindings : (conversion : Conversion) (document : Document) (nodes : List ViewNode) (new : Mapper) → AllMade conversion document nodes new
    → IsDistinct nat_eq (ids_of document.items)
    → new.bindings ≡ bindings_among conversion (codes "$root") 0 0 (items_of document.items)
mapper-bindings conversion document nodes new m d =
    ap (λ (m : Mapper). m.bindings) ((m (numbers_of (all_bindings conversion document)) (agreed conversion document d)).1)
    ∙ ap (λ (m : Mapper). m.bindings) (mapper-bound conversion (codes "$root") 0 0 document.items None d)

pub items-distinct : (state : State) → IsSound state → IsDistinct nat_eq (ids_of state.document.items)
items-distinct state s = distinct-front (ids_of state.document.items) (flat_map ids_of state.cells) s.distinct

-- the view is the downcast
pub view_is : (conversion : Conversion) (state : State) (nodes : List ViewNode) (new : Mapper) → IsSound state
    → ((numbers : Numbers) → MadeContent (numbered_scene numbers conversion state.document) (codes "$root") [] 0 state.document.items nodes
    (record { bindings = []; caret = None }) new)
    → content nodes ≡ downcast conversion state.document
view_is conversion state nodes new s m =
    ap content (nodes-are conversion state.document nodes new m (items-distinct state s))
    ∙ numbers-dropped (numbers_of (all_bindings conversion state.document)) conversion state.document

-- and the mapper is that of the view
pub mapper_is : (conversion : Conversion) (state : State) (nodes : List ViewNode) (new : Mapper) → IsSound state
    → ((numbers : Numbers) → MadeContent (numbered_scene numbers conversion state.document) (codes "$root") [] 0 state.document.items nodes
    (record { bindings = []; caret = None }) new)
    → HasShapes conversion state.document → IsMapped conversion state.document new nodes
mapper_is conversion state nodes new s m shaped =
    let document = state.document in
    let d = items-distinct state s in
    let bound = mapper-bindings conversion state.document nodes new m d in
    let numbers = numbers_of (all_bindings conversion state.document) in
    let same : numbers ≡ numbers_of new = ap (λ bindings. numbers_of (record { bindings = bindings; caret = new.caret })) (sym bound) in
    record {
      view = ap uncounted (nodes-are conversion state.document nodes new m d ∙ ap (λ numbers. numbered_downcast numbers conversion state.document) same);
      bound = all-bound conversion (codes "$root") 0 0 state.document.items new (scene_of conversion state.document) d bound refl;
      shapes = shaped;
      caret =
          ap (λ (m : Mapper). m.caret) ((m numbers (agreed conversion state.document d)).1)
          ∙ found-root (numbered_scene numbers conversion state.document) numbers conversion state.document refl s.selection.0.0;
    }

-- what was made of the root's items in the scene of a document
pub whole_made : (conversion : Conversion) (document : Document) (numbers : Numbers) (scene : Scene) (parent path : List ℕ) (drawn : ℕ)
    (list : List Item) (nodes shown : List ViewNode) (old new : Mapper)
    → scene ≡ numbered_scene numbers conversion document → parent ≡ codes "$root" → path ≡ [] → drawn ≡ 0 → list ≡ document.items → shown ≡ nodes
    → old ≡ unbound
    → MadeContent scene parent path drawn list nodes old new
    → MadeContent (numbered_scene numbers conversion document) (codes "$root") [] 0 document.items shown unbound new
whole_made conversion document numbers scene parent path drawn list nodes shown old new s p q d l n o m =
    subst (λ scene. MadeContent scene (codes "$root") [] 0 document.items shown unbound new) s
    (subst (λ parent. MadeContent scene parent [] 0 document.items shown unbound new) p
    (subst (λ path. MadeContent scene parent path 0 document.items shown unbound new) q
    (subst (λ drawn. MadeContent scene parent path drawn document.items shown unbound new) d
    (subst (λ list. MadeContent scene parent path drawn list shown unbound new) l
    (subst (λ nodes. MadeContent scene parent path drawn list nodes unbound new) (sym n)
    (subst (λ old. MadeContent scene parent path drawn list nodes old new) o m))))))

-- the caret stands at a position
pub placed : (conversion : Conversion) (state : State) (there : Option Caret) → IsSound state → there ≡ caret_of conversion state.document
    → IfSome there (λ here. here.at ≢ [])
placed conversion state there s e = subst (λ there. IfSome there (λ (here : Caret). here.at ≢ [])) (sym e)
    (caret-some conversion state.document s.selection.0.0)
