-- Grouping leaves in front of others, and leaves in one frame.
use Rattle.std.proofs.Common.{◌≡◌, ℕ, ◌+◌, ◌<◌, ◌≤◌, List, [], ◌∷◌, ◌++◌, map, Bool, true, false, ◌==◌, if◌then◌else◌, refl, sym, ap, ◌∙◌, subst}
use Rattle.std.proofs.Common.{append_assoc, append-nil, arith}
use Rattle.std.proofs.lemmas.Bool.Decides.{nat_tests}
use Rattle.item_definitions.specs.Item.{Item, Items, Attributes, character, element, none, more, list_of, items_of}
use Rattle.upcast_definitions.specs.Frames.{Frame, Content, letter, mark, Leaf}
use Rattle.upcast_definitions.specs.Grouping.{Piece, Pieces, nothing, first, bare, framed, put, pieces_of, content_before, items_in, group}
use Rattle.upcast_definitions.specs.Grouping.{numbers_in, element_numbers, AreRising}
use Rattle.upcast_definitions.specs.Building.{Level, standing_with}
use Rattle.upcast_definitions.proofs.Runs.{starts, put-apart, number_itself, items_of-list_of}

-- pieces one behind the other
abbrev and_then : Pieces → Pieces → Pieces
and_then nothing others = others
and_then (first piece pieces) others = first piece (and_then pieces others)

-- pieces don't begin with the outermost of these frames
abbrev pub Apart : List Frame → Pieces → Type 0
Apart [] pieces = Unit {0}
Apart (frame ∷ frames) pieces = starts frame.number pieces ≡ false

put-and : (frames : List Frame) (content : Content) (pieces others : Pieces) → Apart frames others
    → put frames content (and_then pieces others) ≡ and_then (put frames content pieces) others
put-and [] content pieces others a = refl
put-and (frame ∷ frames) content nothing others a = put-apart frame frames content others a
put-and (frame ∷ frames) content (first (bare next) pieces) others a = refl
put-and (frame ∷ frames) content (first (framed other inner) pieces) others a =
    elim (frame.number == other.number) as (λ b. (if b then first (framed frame (put frames content inner)) (and_then pieces others)
    else first (framed frame (put frames content nothing)) (first (framed other inner) (and_then pieces others)))
    ≡ and_then (if b then first (framed frame (put frames content inner)) pieces
    else first (framed frame (put frames content nothing)) (first (framed other inner) pieces)) others) [
      | true ↦ refl
      | false ↦ refl
    ]

-- no leaf's outermost frame begins these pieces
abbrev pub AllApart : List Leaf → Pieces → Type 0
AllApart [] pieces = Unit {0}
AllApart (leaf ∷ leaves) pieces = Apart leaf.frames pieces × AllApart leaves pieces

pieces-split : (xs ys : List Leaf) → AllApart xs (pieces_of ys) → pieces_of (xs ++ ys) ≡ and_then (pieces_of xs) (pieces_of ys)
pieces-split [] ys a = refl
pieces-split (x ∷ xs) ys a = ap (put x.frames x.content) (pieces-split xs ys a.1) ∙ put-and x.frames x.content (pieces_of xs) (pieces_of ys) a.0

content-and : (content : Content) (items : Items) (others : List Item) (all : Items) → list_of all ≡ list_of items ++ others
    → list_of (content_before content all) ≡ list_of (content_before content items) ++ others
content-and (letter scalar attributes) items others all e = ap (λ xs. character scalar attributes ∷ xs) e
content-and (mark number) items others all e = e

items-and : (pieces others : Pieces) → list_of (items_in (and_then pieces others)) ≡ list_of (items_in pieces) ++ list_of (items_in others)
items-and nothing others = refl
items-and (first (bare content) pieces) others =
    content-and content (items_in pieces) (list_of (items_in others)) (items_in (and_then pieces others)) (items-and pieces others)
items-and (first (framed frame inner) pieces) others =
    ap (λ xs. element 0 frame.name frame.attributes (items_in inner) ∷ xs) (items-and pieces others)

-- leaves behind others whose frames they don't begin with
pub group-split : (xs ys : List Leaf) → AllApart xs (pieces_of ys) → group (xs ++ ys) ≡ group xs ++ group ys
group-split xs ys a = ap (λ pieces. list_of (items_in pieces)) (pieces-split xs ys a) ∙ items-and (pieces_of xs) (pieces_of ys)

-- the leaf in one frame more
abbrev pub under : Frame → Leaf → Leaf
under frame leaf = record { content = leaf.content; frames = frame ∷ leaf.frames }

put-run : (frame : Frame) (frames : List Frame) (content : Content) (inner : Pieces)
    → put (frame ∷ frames) content (first (framed frame inner) nothing) ≡ first (framed frame (put frames content inner)) nothing
put-run frame frames content inner = rw (number_itself frame.number) refl

run : (frame : Frame) (leaf : Leaf) (leaves : List Leaf) → pieces_of (map (under frame) (leaf ∷ leaves))
    ≡ first (framed frame (pieces_of (leaf ∷ leaves))) nothing
run frame leaf [] = refl
run frame leaf (next ∷ leaves) =
    ap (put (frame ∷ leaf.frames) leaf.content) (run frame next leaves) ∙ put-run frame leaf.frames leaf.content (pieces_of (next ∷ leaves))

-- leaves in one frame begin with it, if there are any
pub starts-run : (number : ℕ) (frame : Frame) (leaves : List Leaf) → (number == frame.number) ≡ false
    → starts number (pieces_of (map (under frame) leaves)) ≡ false
starts-run number frame [] e = refl
starts-run number frame (leaf ∷ leaves) e = ap (starts number) (run frame leaf leaves) ∙ e

-- a leaf without frames is a character
abbrev pub Solid : List Frame → Content → Type 0
Solid [] (letter scalar attributes) = Unit {0}
Solid [] (mark number) = ⊥
Solid (frame ∷ frames) content = Unit {0}

-- a level that stands in any case
stands-always : (level : Level) (items : List Item) → level.stands ≡ true
    → standing_with level items ≡ element 0 level.name level.attributes (items_of items) ∷ []
stands-always level [] e = rw e refl
stands-always level (item ∷ items) e = refl

-- a level with a leaf in it stands
stands-full : (level : Level) (frames : List Frame) (content : Content) (pieces : Pieces) → Solid frames content
    → standing_with level (list_of (items_in (put frames content pieces)))
    ≡ element 0 level.name level.attributes (items_of (list_of (items_in (put frames content pieces)))) ∷ []
stands-full level [] (letter scalar attributes) pieces s = refl
stands-full level [] (mark number) pieces s = absurd s
stands-full level (frame ∷ frames) content nothing s = refl
stands-full level (frame ∷ frames) content (first (bare next) pieces) s = refl
stands-full level (frame ∷ frames) content (first (framed other inner) pieces) s =
    elim (frame.number == other.number) as (λ b. standing_with level (list_of (items_in (if b then first (framed frame (put frames content inner)) pieces
    else first (framed frame (put frames content nothing)) (first (framed other inner) pieces))))
    ≡ element 0 level.name level.attributes (items_of (list_of (items_in (if b then first (framed frame (put frames content inner)) pieces
    else first (framed frame (put frames content nothing)) (first (framed other inner) pieces))))) ∷ []) [
      | true ↦ refl
      | false ↦ refl
    ]

-- all leaves without frames are characters
abbrev pub AllSolid : List Leaf → Type 0
AllSolid [] = Unit {0}
AllSolid (leaf ∷ leaves) = Solid leaf.frames leaf.content × AllSolid leaves

-- a frame's own mark, where it stands in any case
abbrev pub own : Bool → Frame → List Leaf
own true frame = record { content = mark frame.number; frames = [] } ∷ []
own false frame = []

group-run : (frame : Frame) (leaf : Leaf) (leaves : List Leaf)
    → group (map (under frame) (leaf ∷ leaves)) ≡ element 0 frame.name frame.attributes (items_of (group (leaf ∷ leaves))) ∷ []
group-run frame leaf leaves = ap (λ pieces. list_of (items_in pieces)) (run frame leaf leaves)
    ∙ ap (λ items. element 0 frame.name frame.attributes items ∷ []) (sym (items_of-list_of (items_in (pieces_of (leaf ∷ leaves)))))

like : (level : Level) (frame : Frame) (items : List Item) → level.name ≡ frame.name → level.attributes ≡ frame.attributes
    → element 0 level.name level.attributes (items_of items) ∷ [] ≡ element 0 frame.name frame.attributes (items_of items) ∷ []
like level frame items n a = λ i. element 0 (n i) (a i) (items_of items) ∷ []

own-run : (stands : Bool) (level : Level) (frame : Frame) (leaves : List Leaf) → level.stands ≡ stands → level.name ≡ frame.name
    → level.attributes ≡ frame.attributes → AllSolid leaves → group (map (under frame) (own stands frame ++ leaves)) ≡ standing_with level (group leaves)
own-run true level frame leaves s n a solid =
    group-run frame (record { content = mark frame.number; frames = [] }) leaves
    ∙ sym (like level frame (group leaves) n a) ∙ sym (stands-always level (group leaves) s)
own-run false level frame [] s n a solid = rw s refl
own-run false level frame (leaf ∷ leaves) s n a solid =
    group-run frame leaf leaves ∙ sym (like level frame (group (leaf ∷ leaves)) n a)
    ∙ sym (stands-full level leaf.frames leaf.content (pieces_of leaves) solid.0)

-- what a level holds, grouped in its frame
pub group-level : (level : Level) (frame : Frame) (leaves : List Leaf) → level.name ≡ frame.name → level.attributes ≡ frame.attributes → AllSolid leaves
    → group (map (under frame) (own level.stands frame ++ leaves)) ≡ standing_with level (group leaves)
group-level level frame leaves n a solid = own-run level.stands level frame leaves refl n a solid

-- ---- numbers of elements

pub rising-wider : (low less : ℕ) (numbers : List ℕ) (high : ℕ) → less ≤ low → AreRising low numbers high → AreRising less numbers high
rising-wider low less [] high l h = omega (arith, l, h)
rising-wider low less (number ∷ numbers) high l h = (let a = h.0 in omega (arith, l, a), h.1)

pub rising-append : (low middle high : ℕ) (xs ys : List ℕ) → AreRising low xs middle → AreRising middle ys high → AreRising low (xs ++ ys) high
rising-append low middle high [] ys h k = rising-wider middle low ys high h k
rising-append low middle high (x ∷ xs) ys h k = (h.0, rising-append (x + 1) middle high xs ys h.1 k)

numbers-and : (pieces others : Pieces) → element_numbers (and_then pieces others) ≡ element_numbers pieces ++ element_numbers others
numbers-and nothing others = refl
numbers-and (first piece pieces) others =
    ap (λ ns. numbers_in piece ++ ns) (numbers-and pieces others) ∙ sym (append_assoc (numbers_in piece) (element_numbers pieces) (element_numbers others))

abbrev pub numbers_of : List Leaf → List ℕ
numbers_of leaves = element_numbers (pieces_of leaves)

pub numbers-split : (xs ys : List Leaf) → AllApart xs (pieces_of ys) → numbers_of (xs ++ ys) ≡ numbers_of xs ++ numbers_of ys
numbers-split xs ys a = ap element_numbers (pieces-split xs ys a) ∙ numbers-and (pieces_of xs) (pieces_of ys)

numbers-run : (frame : Frame) (leaf : Leaf) (leaves : List Leaf) → numbers_of (map (under frame) (leaf ∷ leaves)) ≡ frame.number ∷ numbers_of (leaf ∷ leaves)
numbers-run frame leaf leaves = ap element_numbers (run frame leaf leaves) ∙ append-nil (frame.number ∷ numbers_of (leaf ∷ leaves))

-- the numbers of the elements in a frame rise behind its own
pub rising-level : (stands : Bool) (low high : ℕ) (frame : Frame) (leaves : List Leaf) → low ≤ frame.number
    → AreRising (frame.number + 1) (numbers_of leaves) high
    → AreRising low (numbers_of (map (under frame) (own stands frame ++ leaves))) high
rising-level true low high frame leaves l h =
    subst (λ ns. AreRising low ns high) (sym (numbers-run frame (record { content = mark frame.number; frames = [] }) leaves)) (l, h)
rising-level false low high frame [] l h = omega (arith, l, h)
rising-level false low high frame (leaf ∷ leaves) l h = subst (λ ns. AreRising low ns high) (sym (numbers-run frame leaf leaves)) (l, h)
