-- Leaves that fit a schema, grouped, obey it.
use Rattle.std.proofs.Common.{◌≡◌, ℕ, zero, suc, ◌+◌, List, [], ◌∷◌, ◌++◌, map, Bool, true, false, ◌==◌, if◌then◌else◌, IsTrue, All, Option, Some, None, codes}
use Rattle.std.proofs.Common.{option_map, slice_get, unwrap_or, length, filter, refl, sym, ap, ◌∙◌, subst, append_assoc, append-nil, arith}
use Rattle.std.specs.Option.{option_or}
use Rattle.std.proofs.lemmas.Bool.Decides.{nat_tests}
use Rattle.std.proofs.lemmas.List.Elements.{All-cons, All-nil, All-head, All-tail, All-append}
use Rattle.ck_base.specs.declared.value.Value.{Value as AttributeValue}
use Rattle.item_definitions.specs.Item.{Item, Items, Attributes, character, element, none, more, list_of, items_of}
use Rattle.schema_definitions.specs.Allowed.{Rules, check_child, check_attribute}
use Rattle.breach_definitions.specs.Breach.{Placed, placed_item, placed_inner, placed_items, breach_of, first_some, breach}
use Rattle.breach_definitions.proofs.Broken.{unbroken}
use Rattle.upcast_definitions.proofs.Runs.{items_of-list_of, same_number}
use Rattle.upcast_definitions.specs.Frames.{Frame, Content, letter, mark, Leaf}
use Rattle.upcast_definitions.specs.Grouping.{Piece, Pieces, nothing, first, bare, framed, put, pieces_of, content_before, piece_before, items_in, group}

-- an item of a name may stand behind these ancestors, and may have these attributes there
pub record Allowed (rules : Rules) (names : List (List ℕ)) (name : List ℕ) (attributes : Attributes) : Type 0 where
  pub stands : IsTrue (check_child rules names name)
  pub has : All (λ (entry : List ℕ × AttributeValue). IsTrue (check_attribute rules names name entry.0)) attributes

-- a frame is the one that was made with its number, and is allowed
pub record Fits (made : List Frame) (rules : Rules) (names : List (List ℕ)) (frame : Frame) : Type 0 where
  pub known : slice_get made frame.number ≡ Some frame
  pub allowed : Allowed rules names frame.name frame.attributes

-- frames one in another
abbrev pub FramesFit : List Frame → Rules → List (List ℕ) → List Frame → Type 0
FramesFit made rules names [] = Unit {0}
FramesFit made rules names (frame ∷ frames) = Fits made rules names frame × FramesFit made rules (names ++ frame.name ∷ []) frames

-- a character
abbrev pub ContentFits : Rules → List (List ℕ) → Content → Type 0
ContentFits rules names (letter scalar attributes) = Allowed rules names (codes "$text") attributes
ContentFits rules names (mark number) = Unit {0}

-- a leaf with its frames
abbrev pub LeafFits : List Frame → Rules → List (List ℕ) → List Frame → Content → Type 0
LeafFits made rules names [] content = ContentFits rules names content
LeafFits made rules names (frame ∷ frames) content = Fits made rules names frame × LeafFits made rules (names ++ frame.name ∷ []) frames content

-- the root
abbrev pub root : List (List ℕ)
root = codes "$root" ∷ []

-- all leaves
abbrev pub LeavesFit : List Frame → Rules → List Leaf → Type 0
LeavesFit made rules [] = Unit {0}
LeavesFit made rules (leaf ∷ leaves) = LeafFits made rules root leaf.frames leaf.content × LeavesFit made rules leaves

abbrev mutual
  PieceFits : List Frame → Rules → List (List ℕ) → Piece → Type 0
  PieceFits made rules names (bare content) = ContentFits rules names content
  PieceFits made rules names (framed frame pieces) = Fits made rules names frame × PiecesFit made rules (names ++ frame.name ∷ []) pieces

  PiecesFit : List Frame → Rules → List (List ℕ) → Pieces → Type 0
  PiecesFit made rules names nothing = Unit {0}
  PiecesFit made rules names (first piece pieces) = PieceFits made rules names piece × PiecesFit made rules names pieces

-- ---- frames

pub frames-append : (made : List Frame) (rules : Rules) (names : List (List ℕ)) (xs ys : List Frame) → FramesFit made rules names xs
    → FramesFit made rules (names ++ map (λ frame. frame.name) xs) ys → FramesFit made rules names (xs ++ ys)
frames-append made rules names [] ys h k = subst (λ all. FramesFit made rules all ys) (append-nil names) k
frames-append made rules names (x ∷ xs) ys h k = (
  h.0,
  frames-append made rules (names ++ x.name ∷ []) xs ys h.1
      (subst (λ all. FramesFit made rules all ys) (sym (append_assoc names (x.name ∷ []) (map (λ frame. frame.name) xs))) k),
)

pub frames-front : (made : List Frame) (rules : Rules) (names : List (List ℕ)) (xs ys : List Frame) → FramesFit made rules names (xs ++ ys)
    → FramesFit made rules names xs
frames-front made rules names [] ys h = tt
frames-front made rules names (x ∷ xs) ys h = (h.0, frames-front made rules (names ++ x.name ∷ []) xs ys h.1)

pub frames-back : (made : List Frame) (rules : Rules) (names : List (List ℕ)) (xs ys : List Frame) → FramesFit made rules names (xs ++ ys)
    → FramesFit made rules (names ++ map (λ frame. frame.name) xs) ys
frames-back made rules names [] ys h = subst (λ all. FramesFit made rules all ys) (sym (append-nil names)) h
frames-back made rules names (x ∷ xs) ys h =
    subst (λ all. FramesFit made rules all ys) (append_assoc names (x.name ∷ []) (map (λ frame. frame.name) xs))
    (frames-back made rules (names ++ x.name ∷ []) xs ys h.1)

-- a leaf of frames that fit
pub leaf-in : (made : List Frame) (rules : Rules) (names : List (List ℕ)) (frames : List Frame) (content : Content) → FramesFit made rules names frames
    → ContentFits rules (names ++ map (λ frame. frame.name) frames) content → LeafFits made rules names frames content
leaf-in made rules names [] content h k = subst (λ all. ContentFits rules all content) (append-nil names) k
leaf-in made rules names (x ∷ xs) content h k = (
  h.0,
  leaf-in made rules (names ++ x.name ∷ []) xs content h.1
      (subst (λ all. ContentFits rules all content) (sym (append_assoc names (x.name ∷ []) (map (λ frame. frame.name) xs))) k),
)

-- ---- more frames that are made

get-more : {A : Type 0} → (xs ys : List A) (n : ℕ) (x : A) → slice_get xs n ≡ Some x → slice_get (xs ++ ys) n ≡ Some x
get-more [] ys n x e = cc
get-more (z ∷ xs) ys zero x e = e
get-more (z ∷ xs) ys (suc n) x e = get-more xs ys n x e

pub get-last : {A : Type 0} → (xs : List A) (x : A) (ys : List A) → slice_get (xs ++ x ∷ ys) (length xs) ≡ Some x
get-last [] x ys = refl
get-last (z ∷ xs) x ys = get-last xs x ys

fits-more : (made others : List Frame) (rules : Rules) (names : List (List ℕ)) (frame : Frame) → Fits made rules names frame
    → Fits (made ++ others) rules names frame
fits-more made others rules names frame h = record { known = get-more made others frame.number frame h.known; allowed = h.allowed }

pub frames-more : (made others : List Frame) (rules : Rules) (names : List (List ℕ)) (frames : List Frame) → FramesFit made rules names frames
    → FramesFit (made ++ others) rules names frames
frames-more made others rules names [] h = tt
frames-more made others rules names (x ∷ xs) h =
    (fits-more made others rules names x h.0, frames-more made others rules (names ++ x.name ∷ []) xs h.1)

leaf-more : (made others : List Frame) (rules : Rules) (names : List (List ℕ)) (frames : List Frame) (content : Content)
    → LeafFits made rules names frames content → LeafFits (made ++ others) rules names frames content
leaf-more made others rules names [] content h = h
leaf-more made others rules names (x ∷ xs) content h =
    (fits-more made others rules names x h.0, leaf-more made others rules (names ++ x.name ∷ []) xs content h.1)

pub leaves-more : (made others : List Frame) (rules : Rules) (leaves : List Leaf) → LeavesFit made rules leaves → LeavesFit (made ++ others) rules leaves
leaves-more made others rules [] h = tt
leaves-more made others rules (leaf ∷ leaves) h =
    (leaf-more made others rules root leaf.frames leaf.content h.0, leaves-more made others rules leaves h.1)

pub leaves-append : (made : List Frame) (rules : Rules) (xs ys : List Leaf) → LeavesFit made rules xs → LeavesFit made rules ys
    → LeavesFit made rules (xs ++ ys)
leaves-append made rules [] ys h k = k
leaves-append made rules (x ∷ xs) ys h k = (h.0, leaves-append made rules xs ys h.1 k)

pub leaves-filter : (made : List Frame) (rules : Rules) (test : Leaf → Bool) (leaves : List Leaf) → LeavesFit made rules leaves
    → LeavesFit made rules (filter test leaves)
leaves-filter made rules test [] h = tt
leaves-filter made rules test (leaf ∷ leaves) h = go (test leaf) (leaves-filter made rules test leaves h.1)
  where
    go : (b : Bool) → LeavesFit made rules (filter test leaves) → LeavesFit made rules (if b then leaf ∷ filter test leaves else filter test leaves)
    go true k = (h.0, k)
    go false k = k

-- ---- grouping

-- two frames with one number are one
same_frame : (made : List Frame) (a b : Frame) → slice_get made a.number ≡ Some a → slice_get made b.number ≡ Some b → a.number ≡ b.number → a ≡ b
same_frame made a b h k e = ap (λ found. unwrap_or found a) (sym h ∙ ap (slice_get made) e ∙ k)

put-fits : (made : List Frame) (rules : Rules) (names : List (List ℕ)) (frames : List Frame) (content : Content) (pieces : Pieces)
    → LeafFits made rules names frames content → PiecesFit made rules names pieces → PiecesFit made rules names (put frames content pieces)
put-fits made rules names [] content pieces h k = (h, k)
put-fits made rules names (frame ∷ frames) content nothing h k =
    ((h.0, put-fits made rules (names ++ frame.name ∷ []) frames content nothing h.1 tt), tt)
put-fits made rules names (frame ∷ frames) content (first (bare next) pieces) h k =
    ((h.0, put-fits made rules (names ++ frame.name ∷ []) frames content nothing h.1 tt), k)
put-fits made rules names (frame ∷ frames) content (first (framed other inner) pieces) h k =
    go (frame.number == other.number) refl (put-fits made rules (names ++ frame.name ∷ []) frames content inner h.1)
    (put-fits made rules (names ++ frame.name ∷ []) frames content nothing h.1 tt)
  where
    go : (b : Bool) → (frame.number == other.number) ≡ b
        → (PiecesFit made rules (names ++ frame.name ∷ []) inner → PiecesFit made rules (names ++ frame.name ∷ []) (put frames content inner))
        → PiecesFit made rules (names ++ frame.name ∷ []) (put frames content nothing)
        → PiecesFit made rules names (if b then first (framed frame (put frames content inner)) pieces
        else first (framed frame (put frames content nothing)) (first (framed other inner) pieces))
    go true e joined apart =
        let same : other ≡ frame = same_frame made other frame k.0.0.known h.0.known (sym (same_number frame.number other.number e)) in
        ((h.0, joined (subst (λ (f : Frame). PiecesFit made rules (names ++ f.name ∷ []) inner) same k.0.1)), k.1)
    go false e joined apart = ((h.0, apart), k)

pieces-fit : (made : List Frame) (rules : Rules) (leaves : List Leaf) → LeavesFit made rules leaves → PiecesFit made rules root (pieces_of leaves)
pieces-fit made rules [] h = tt
pieces-fit made rules (leaf ∷ leaves) h =
    put-fits made rules root leaf.frames leaf.content (pieces_of leaves) h.0 (pieces-fit made rules leaves h.1)

-- ---- obeying

abbrev NoBreach : Rules → Placed → Type 0
NoBreach rules placed = breach_of rules placed ≡ None

character-obeys : (rules : Rules) (names : List (List ℕ)) (path : List ℕ) (scalar : ℕ) (attributes : Attributes)
    → Allowed rules names (codes "$text") attributes
    → NoBreach rules (record { ancestors = names; path = path; item = character scalar attributes })
character-obeys rules names path scalar attributes h =
    ap (option_map (λ rule. (rule, path))) (unbroken rules (record { ancestors = names; path = path; item = character scalar attributes })
    (record { stands = h.stands; has = h.has }))

element-obeys : (rules : Rules) (names : List (List ℕ)) (path name : List ℕ) (attributes : Attributes) (children : Items)
    → Allowed rules names name attributes
    → NoBreach rules (record { ancestors = names; path = path; item = element 0 name attributes children })
element-obeys rules names path name attributes children h =
    ap (option_map (λ rule. (rule, path))) (unbroken rules (record { ancestors = names; path = path; item = element 0 name attributes children })
    (record { stands = h.stands; has = h.has }))

pieces-obey : (made : List Frame) (rules : Rules) (names : List (List ℕ)) (path : List ℕ) (index : ℕ) (pieces : Pieces)
    → PiecesFit made rules names pieces → All (NoBreach rules) (placed_inner names path index (items_in pieces))
pieces-obey made rules names path index nothing h = All-nil (NoBreach rules)
pieces-obey made rules names path index (first (bare (letter scalar attributes)) rest) h =
    All-cons (NoBreach rules) _ _ (character-obeys rules names (path ++ index ∷ []) scalar attributes h.0)
    (pieces-obey made rules names path (index + 1) rest h.1)
pieces-obey made rules names path index (first (bare (mark number)) rest) h = pieces-obey made rules names path index rest h.1
pieces-obey made rules names path index (first (framed frame inner) rest) h =
    All-append (NoBreach rules) (placed_item names (path ++ index ∷ []) (element 0 frame.name frame.attributes (items_in inner)))
    (placed_inner names path (index + 1) (items_in rest))
    (All-cons (NoBreach rules) _ _ (element-obeys rules names (path ++ index ∷ []) frame.name frame.attributes (items_in inner) h.0.0.allowed)
    (pieces-obey made rules (names ++ frame.name ∷ []) (path ++ index ∷ []) 0 inner h.0.1))
    (pieces-obey made rules names path (index + 1) rest h.1)

none_found : (rules : Rules) (all : List Placed) → All (NoBreach rules) all → first_some (breach_of rules) all ≡ None
none_found rules [] h = refl
none_found rules (placed ∷ all) h =
    ap (λ found. option_or found (first_some (breach_of rules) all)) (All-head (NoBreach rules) placed all h)
    ∙ none_found rules all (All-tail (NoBreach rules) placed all h)

-- leaves that fit obey when they are grouped
pub group-obeys : (made : List Frame) (rules : Rules) (leaves : List Leaf) → LeavesFit made rules leaves → breach rules (group leaves) ≡ None
unfolding breach
group-obeys made rules leaves h =
    none_found rules (placed_items (group leaves))
    (subst (λ items. All (NoBreach rules) (placed_inner root [] 0 items)) (sym (items_of-list_of (items_in (pieces_of leaves))))
    (pieces-obey made rules root [] 0 (pieces_of leaves) (pieces-fit made rules leaves h)))
