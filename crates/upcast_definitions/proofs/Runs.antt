-- Grouping as a fold meets its rule, and leaves what stands in which frames as it is.
use Rattle.std.proofs.Common.{◌≡◌, ℕ, List, [], ◌∷◌, ◌++◌, map, drop, Bool, true, false, ◌==◌, if◌then◌else◌, ◌⊎◌, inl, inr, refl, sym, ap, ◌∙◌, subst}
use Rattle.std.proofs.Common.{append_assoc, append-nil, arith}
use Rattle.std.proofs.lemmas.Bool.Decides.{nat_tests}
use Rattle.item_definitions.specs.Item.{Items, element, none, more, list_of, items_of}
use Rattle.upcast_definitions.specs.Frames.{Frame, Content, letter, mark, Leaf}
use Rattle.upcast_definitions.specs.Grouping.{Pieces, nothing, first, bare, framed, put, pieces_of, content_before, items_in, group, begins, within, run_in}
use Rattle.upcast_definitions.specs.Grouping.{behind_run, by_first, group_by_rule, standing, standing_in, placed_content}

-- whether the first piece is framed with this number
abbrev pub starts : ℕ → Pieces → Bool
starts number nothing = false
starts number (first (bare content) pieces) = false
starts number (first (framed other inner) pieces) = number == other.number

-- pieces that begin with a frame of this number round others, with further ones behind it
record Begin (number : ℕ) (pieces inner rest : Pieces) : Type 0 where
  frame : Frame
  same : (number == frame.number) ≡ true
  are : pieces ≡ first (framed frame inner) rest

-- what stands behind a first leaf: a frame with this number round some pieces and then further pieces, or pieces that don't begin with it
abbrev Behind : ℕ → Pieces → Pieces → Pieces → Type 0
Behind number pieces inner rest = Begin number pieces inner rest ⊎ ((starts number pieces ≡ false) × (inner ≡ nothing) × (rest ≡ pieces))

pub same_number : (a b : ℕ) → (a == b) ≡ true → a ≡ b
same_number a b e = grind (arith, nat_tests)

pub number_itself : (a : ℕ) → (a == a) ≡ true
number_itself a = grind (arith, nat_tests)

put-same : (frame other : Frame) (frames : List Frame) (content : Content) (inner rest : Pieces) → (frame.number == other.number) ≡ true
    → put (frame ∷ frames) content (first (framed other inner) rest) ≡ first (framed frame (put frames content inner)) rest
put-same frame other frames content inner rest e = rw e refl

pub put-apart : (frame : Frame) (frames : List Frame) (content : Content) (pieces : Pieces) → starts frame.number pieces ≡ false
    → put (frame ∷ frames) content pieces ≡ first (framed frame (put frames content nothing)) pieces
put-apart frame frames content nothing e = refl
put-apart frame frames content (first (bare next) pieces) e = refl
put-apart frame frames content (first (framed other inner) pieces) e = rw e refl

put-behind : (frame : Frame) (frames : List Frame) (content : Content) (pieces inner rest : Pieces) → Behind frame.number pieces inner rest
    → put (frame ∷ frames) content pieces ≡ first (framed frame (put frames content inner)) rest
put-behind frame frames content pieces inner rest h = elim h [
  | inl g ↦ ap (put (frame ∷ frames) content) g.are ∙ put-same frame g.frame frames content inner rest g.same
  | inr e ↦ put-apart frame frames content pieces e.0 ∙ (λ i. first (framed frame (put frames content (sym e.1 i))) (sym e.2 i))
]

starts-put : (number : ℕ) (frame : Frame) (frames : List Frame) (content : Content) (pieces : Pieces)
    → starts number (put (frame ∷ frames) content pieces) ≡ (number == frame.number)
starts-put number frame frames content nothing = refl
starts-put number frame frames content (first (bare next) pieces) = refl
starts-put number frame frames content (first (framed other inner) pieces) =
    elim (frame.number == other.number) as (λ b. starts number (if b then first (framed frame (put frames content inner)) pieces
    else first (framed frame (put frames content nothing)) (first (framed other inner) pieces)) ≡ (number == frame.number)) [
      | true ↦ refl
      | false ↦ refl
    ]

abbrev leaf_of : Content → List Frame → Leaf
leaf_of content frames = record { content = content; frames = frames }

behind-leaf : (number : ℕ) (content : Content) (frames : List Frame) (leaves : List Leaf)
    → Behind number (pieces_of leaves) (pieces_of (map within (run_in number leaves))) (pieces_of (behind_run number leaves))
    → Behind number (pieces_of (leaf_of content frames ∷ leaves)) (pieces_of (map within (run_in number (leaf_of content frames ∷ leaves))))
    (pieces_of (behind_run number (leaf_of content frames ∷ leaves)))
behind-leaf number content [] leaves h = inr (refl, refl, refl)
behind-leaf number content (frame ∷ frames) leaves h =
    elim (number == frame.number) as (λ b. (number == frame.number) ≡ b
    → Behind number (put (frame ∷ frames) content (pieces_of leaves))
    (pieces_of (map within (if b then leaf_of content (frame ∷ frames) ∷ run_in number leaves else [])))
    (pieces_of (if b then behind_run number leaves else leaf_of content (frame ∷ frames) ∷ leaves))) [
      | true ↦ λ e. inl (record {
        frame = frame;
        same = e;
        are = put-behind frame frames content (pieces_of leaves) _ _ (subst (λ n. Behind n (pieces_of leaves)
            (pieces_of (map within (run_in number leaves))) (pieces_of (behind_run number leaves))) (same_number number frame.number e) h);
      })
      | false ↦ λ e. inr (starts-put number frame frames content (pieces_of leaves) ∙ e, refl, refl)
    ] refl

behind : (number : ℕ) (leaves : List Leaf)
    → Behind number (pieces_of leaves) (pieces_of (map within (run_in number leaves))) (pieces_of (behind_run number leaves))
behind number [] = inr (refl, refl, refl)
behind number (leaf ∷ leaves) = behind-leaf number leaf.content leaf.frames leaves (behind number leaves)

pub items_of-list_of : (items : Items) → items_of (list_of items) ≡ items
items_of-list_of none = refl
items_of-list_of (more item items) = ap (more item) (items_of-list_of items)

first-leaf : (content : Content) (frames : List Frame) (leaves : List Leaf)
    → group (leaf_of content frames ∷ leaves) ≡ by_first frames content (leaf_of content frames ∷ leaves) leaves
first-leaf content [] leaves = ap (λ items. list_of (content_before content items)) (sym (items_of-list_of (items_in (pieces_of leaves))))
first-leaf content (frame ∷ frames) leaves =
    ap (λ pieces. list_of (items_in pieces)) (put-behind frame frames content (pieces_of leaves) _ _ (behind frame.number leaves))
    ∙ ap (λ inner. element 0 frame.name frame.attributes inner ∷ group (behind_run frame.number leaves))
    (sym (items_of-list_of (items_in (put frames content (pieces_of (map within (run_in frame.number leaves)))))))
    ∙ (λ i. element 0 frame.name frame.attributes (items_of (group (map within
    (if sym (number_itself frame.number) i then leaf_of content (frame ∷ frames) ∷ run_in frame.number leaves else []))))
    ∷ group (if sym (number_itself frame.number) i then behind_run frame.number leaves else leaf_of content (frame ∷ frames) ∷ leaves))

-- leaves are grouped by the rule
pub group-rule : (leaves : List Leaf) → group leaves ≡ group_by_rule leaves
group-rule [] = refl
group-rule (leaf ∷ leaves) = first-leaf leaf.content leaf.frames leaves

abbrev numbers_of : List Frame → List ℕ
numbers_of frames = map (λ frame. frame.number) frames

into-frame : (numbers more_numbers : List ℕ) (number : ℕ) (content : Content) (made inner rest : List (List ℕ × Content))
    → made ≡ ((numbers ++ number ∷ []) ++ more_numbers, content) ∷ inner
    → made ++ rest ≡ (numbers ++ number ∷ more_numbers, content) ∷ (inner ++ rest)
into-frame numbers more_numbers number content made inner rest e =
    ap (λ xs. xs ++ rest) e ∙ ap (λ all. (all, content) ∷ (inner ++ rest)) (append_assoc numbers (number ∷ []) more_numbers)

standing-put : (numbers : List ℕ) (frames : List Frame) (content : Content) (pieces : Pieces)
    → standing numbers (put frames content pieces) ≡ (numbers ++ numbers_of frames, content) ∷ standing numbers pieces
standing-put numbers [] content pieces = ap (λ all. (all, content) ∷ standing numbers pieces) (sym (append-nil numbers))
standing-put numbers (frame ∷ frames) content nothing =
    into-frame numbers (numbers_of frames) frame.number content _ [] [] (standing-put (numbers ++ frame.number ∷ []) frames content nothing)
standing-put numbers (frame ∷ frames) content (first (bare next) pieces) =
    into-frame numbers (numbers_of frames) frame.number content _ [] _ (standing-put (numbers ++ frame.number ∷ []) frames content nothing)
standing-put numbers (frame ∷ frames) content (first (framed other inner) pieces) =
    go (frame.number == other.number) refl (standing-put (numbers ++ frame.number ∷ []) frames content inner)
    (standing-put (numbers ++ frame.number ∷ []) frames content nothing)
  where
    go : (b : Bool) → (frame.number == other.number) ≡ b
        → standing (numbers ++ frame.number ∷ []) (put frames content inner)
        ≡ ((numbers ++ frame.number ∷ []) ++ numbers_of frames, content) ∷ standing (numbers ++ frame.number ∷ []) inner
        → standing (numbers ++ frame.number ∷ []) (put frames content nothing) ≡ ((numbers ++ frame.number ∷ []) ++ numbers_of frames, content) ∷ []
        → standing numbers (if b then first (framed frame (put frames content inner)) pieces
        else first (framed frame (put frames content nothing)) (first (framed other inner) pieces))
        ≡ (numbers ++ frame.number ∷ numbers_of frames, content) ∷ (standing (numbers ++ other.number ∷ []) inner ++ standing numbers pieces)
    go true e joined apart =
        into-frame numbers (numbers_of frames) frame.number content _ (standing (numbers ++ frame.number ∷ []) inner) (standing numbers pieces) joined
        ∙ ap (λ n. (numbers ++ frame.number ∷ numbers_of frames, content) ∷ (standing (numbers ++ n ∷ []) inner ++ standing numbers pieces))
        (same_number frame.number other.number e)
    go false e joined apart =
        into-frame numbers (numbers_of frames) frame.number content _ [] (standing numbers (first (framed other inner) pieces)) apart

-- the leaves stand in their order, each in its frames
pub leaves-standing : (leaves : List Leaf) → standing [] (pieces_of leaves) ≡ map placed_content leaves
leaves-standing [] = refl
leaves-standing (leaf ∷ leaves) =
    standing-put [] leaf.frames leaf.content (pieces_of leaves) ∙ ap (λ rest. placed_content leaf ∷ rest) (leaves-standing leaves)
