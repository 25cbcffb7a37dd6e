-- Where frames are cut their levels stand only where something is in them, and stand again as parts.
use Rattle.std.proofs.Common.{◌≡◌, ℕ, zero, suc, ◌+◌, ◌<◌, ◌≤◌, List, [], ◌∷◌, ◌++◌, map, take, drop, length, Bool, true, false, ◌||◌, not, ◌==◌}
use Rattle.std.proofs.Common.{if◌then◌else◌, filter, refl, sym, ap, ◌∙◌, subst, append_assoc, append-nil, arith}
use Rattle.std.specs.List.{list_any, drop-map}
use Rattle.std.proofs.lemmas.List.{map-append}
use Rattle.std.proofs.lemmas.List.Elements.{filter-append}
use Rattle.upcast_definitions.specs.Frames.{Frame, Content, letter, mark, Leaf, is_mark_of, struck}
use Rattle.upcast_definitions.specs.Places.{parts_from}
use Rattle.upcast_definitions.specs.Grouping.{group}
use Rattle.upcast_definitions.specs.Building.{Level, level_of, ended, weak, weakened, part_of}
use Rattle.upcast_definitions.proofs.Runs.{number_itself}
use Rattle.upcast_definitions.proofs.Standing.{under, own}
use Rattle.upcast_definitions.proofs.Levels.{MarkIn, In, AllIn, Held, Split, Built, HeadIs, around, in-bound, differ, differ_back, collapse, own_at, open-frame}

-- whether some frame has this number
abbrev has_number : List Frame → ℕ → Bool
has_number frames number = list_any (λ frame. frame.number == number) frames

either : (a b : Bool) → a ≡ false → b ≡ false → (a || b) ≡ false
either a b e k = λ i. e i || k i

-- the numbers of the open frames are from the lower bound on
rises : (low bound : ℕ) (frames : List Frame) (leaves : List Leaf) (levels : List Level) → Built low bound frames leaves levels → (number : ℕ) → number < low
    → has_number frames number ≡ false
rises low bound [] leaves levels h number less = refl
rises low bound (frame ∷ frames) leaves [] h number less = absurd h
rises low bound (frame ∷ frames) leaves (level ∷ []) h number less = absurd h
rises low bound (frame ∷ frames) leaves (level ∷ next ∷ levels) h number less =
    let f = h.from in
    either (frame.number == number) (has_number frames number) (differ_back frame.number number (omega (arith, f, less)))
    (rises (frame.number + 1) bound frames h.inner (next ∷ levels) h.rest number (omega (arith, f, less)))

any-drop : (count : ℕ) (frames : List Frame) (number : ℕ) → has_number frames number ≡ false → has_number (drop count frames) number ≡ false
any-drop zero frames number e = e
any-drop (suc count) [] number e = e
any-drop (suc count) (frame ∷ frames) number e = any-drop count frames number (behind (frame.number == number) (has_number frames number) e)
  where
    behind : (a b : Bool) → (a || b) ≡ false → b ≡ false
    behind true b e = cc
    behind false b e = e

-- no frame's number is from one to below another
abbrev Free : List Frame → ℕ → ℕ → Type 0
Free frames low high = (number : ℕ) → low ≤ number → number < high → has_number frames number ≡ false

no-mark : (frames : List Frame) (low high : ℕ) (content : Content) → MarkIn low high content → Free frames low high → is_mark_of frames content ≡ false
no-mark frames low high (letter scalar attributes) h f = refl
no-mark frames low high (mark number) h f = f number h.0 h.1

struck-none : (frames : List Frame) (low high : ℕ) (leaves : List Leaf) → AllIn low high leaves → Free frames low high → struck frames leaves ≡ leaves
struck-none frames low high [] h f = refl
struck-none frames low high (leaf ∷ leaves) h f =
    let rest = struck-none frames low high leaves h.1 f in
    let here = no-mark frames low high leaf.content h.0.marked f in
    ap (λ b. if not b then leaf ∷ struck frames leaves else struck frames leaves) here ∙ ap (λ xs. leaf ∷ xs) rest

struck-under : (frames : List Frame) (frame : Frame) (leaves : List Leaf) → struck frames (map (under frame) leaves) ≡ map (under frame) (struck frames leaves)
struck-under frames frame [] = refl
struck-under frames frame (leaf ∷ leaves) = go (is_mark_of frames leaf.content) (struck-under frames frame leaves)
  where
    go : (b : Bool) → struck frames (map (under frame) leaves) ≡ map (under frame) (struck frames leaves)
        → (if not b then under frame leaf ∷ struck frames (map (under frame) leaves) else struck frames (map (under frame) leaves))
        ≡ map (under frame) (if not b then leaf ∷ struck frames leaves else struck frames leaves)
    go true e = e
    go false e = ap (λ xs. under frame leaf ∷ xs) e

past-one : (frame : Frame) (frames : List Frame) (low high : ℕ) (content : Content) → frame.number < low → MarkIn low high content
    → is_mark_of (frame ∷ frames) content ≡ is_mark_of frames content
past-one frame frames low high (letter scalar attributes) l h = refl
past-one frame frames low high (mark number) l h =
    let a = h.0 in ap (λ b. b || has_number frames number) (differ frame.number number (omega (arith, l, a)))

-- marks with greater numbers than a frame's aren't its own
struck-past : (frame : Frame) (frames : List Frame) (low high : ℕ) (leaves : List Leaf) → frame.number < low → AllIn low high leaves
    → struck (frame ∷ frames) leaves ≡ struck frames leaves
struck-past frame frames low high [] l h = refl
struck-past frame frames low high (leaf ∷ leaves) l h =
    ap (λ b. if not b then leaf ∷ struck (frame ∷ frames) leaves else struck (frame ∷ frames) leaves)
    (past-one frame frames low high leaf.content l h.0.marked)
    ∙ ap (λ xs. if not (is_mark_of frames leaf.content) then leaf ∷ xs else xs) (struck-past frame frames low high leaves l h.1)

own-struck : (stands : Bool) (frame : Frame) (frames : List Frame) → struck (frame ∷ frames) (own stands frame) ≡ []
own-struck true frame frames =
    ap (λ b. if not (b || has_number frames frame.number) then record { content = mark frame.number; frames = [] } ∷ [] else []) (number_itself frame.number)
own-struck false frame frames = refl

own-kept : (stands : Bool) (frame : Frame) (frames : List Frame) → has_number frames frame.number ≡ false → struck frames (own stands frame) ≡ own stands frame
own-kept true frame frames e = ap (λ b. if not b then record { content = mark frame.number; frames = [] } ∷ [] else []) e
own-kept false frame frames e = refl

-- the parts of a level's leaves without marks
struck-parts : (frames : List Frame) (frame : Frame) (outer mine inner front mine_left inner_left : List Leaf)
    → struck frames outer ≡ front → struck frames mine ≡ mine_left → struck frames inner ≡ inner_left
    → struck frames (outer ++ map (under frame) (mine ++ inner)) ≡ front ++ map (under frame) (mine_left ++ inner_left)
struck-parts frames frame outer mine inner front mine_left inner_left o m i =
    let test : Leaf → Bool = λ leaf. not (is_mark_of frames leaf.content) in
    filter-append test outer (map (under frame) (mine ++ inner))
    ∙ ap (λ xs. xs ++ struck frames (map (under frame) (mine ++ inner))) o
    ∙ ap (λ xs. front ++ xs) (struck-under frames frame (mine ++ inner)
    ∙ ap (map (under frame)) (filter-append test mine inner ∙ ap (λ xs. xs ++ struck frames inner) m ∙ ap (λ xs. mine_left ++ xs) i))

-- of the first level only the items count
head-items : (low bound : ℕ) (frames : List Frame) (leaves : List Leaf) (level other : Level) (levels : List Level) → level.items ≡ other.items
    → Built low bound frames leaves (level ∷ levels) → Built low bound frames leaves (other ∷ levels)
head-items low bound [] leaves level other [] e h = (h.0, h.1, h.2 ∙ e)
head-items low bound [] leaves level other (next ∷ levels) e h = absurd h
head-items low bound (frame ∷ frames) leaves level other [] e h = absurd h
head-items low bound (frame ∷ frames) leaves level other (next ∷ levels) e h = record {
  outer = h.outer;
  inner = h.inner;
  parts = h.parts;
  from = h.from;
  clear = h.clear;
  made = h.made ∙ e;
  name = h.name;
  attributes = h.attributes;
  rest = h.rest;
}

weak-all : (low bound : ℕ) (frames : List Frame) (leaves : List Leaf) (level : Level) (levels : List Level) → Built low bound frames leaves (level ∷ levels)
    → Built low bound frames (struck frames leaves) (level ∷ map weak levels)
weak-all low bound [] leaves level [] h =
    let same = struck-none [] low bound leaves h.1.all (λ number a b. refl) in
    (h.0, subst (Held low bound) (sym same) h.1, ap group same ∙ h.2)
weak-all low bound [] leaves level (next ∷ levels) h = absurd h
weak-all low bound (frame ∷ frames) leaves level [] h = absurd h
weak-all low bound (frame ∷ frames) leaves level (next ∷ levels) h =
    let inside = (collapse (frame.number + 1) bound frames h.inner next levels h.rest).1.all in
    let free : Free (frame ∷ frames) low frame.number = λ number a b.
    either (frame.number == number) (has_number frames number) (differ_back frame.number number b)
    (rises (frame.number + 1) bound frames h.inner (next ∷ levels) h.rest number (omega (arith, b))) in
    around low bound frame frames h.outer (struck frames h.inner) _ level (weak next ∷ map weak levels) false
    (ap (struck (frame ∷ frames)) h.parts
    ∙ struck-parts (frame ∷ frames) frame h.outer (own next.stands frame) h.inner h.outer [] (struck frames h.inner)
    (struck-none (frame ∷ frames) low frame.number h.outer h.clear.all free) (own-struck next.stands frame frames)
    (struck-past frame frames (frame.number + 1) bound h.inner (omega arith) inside))
    h.from h.clear h.made (h.name, h.attributes, refl)
    (head-items (frame.number + 1) bound frames (struck frames h.inner) next (weak next) (map weak levels) refl
    (weak-all (frame.number + 1) bound frames h.inner next levels h.rest))

-- the frames behind so many are struck out, and their levels are weak
pub weak-at : (low bound : ℕ) (frames : List Frame) (leaves : List Leaf) (level : Level) (levels : List Level) (count : ℕ)
    → Built low bound frames leaves (level ∷ levels) → Built low bound frames (struck (drop count frames) leaves) (weakened (suc count) (level ∷ levels))
weak-at low bound frames leaves level levels zero h = weak-all low bound frames leaves level levels h
weak-at low bound [] leaves level [] (suc count) h = weak-all low bound [] leaves level [] h
weak-at low bound [] leaves level (next ∷ levels) (suc count) h = absurd h
weak-at low bound (frame ∷ frames) leaves level [] (suc count) h = absurd h
weak-at low bound (frame ∷ frames) leaves level (next ∷ levels) (suc count) h =
    let later : (number : ℕ) → number < frame.number + 1 → has_number (drop count frames) number ≡ false = λ number less.
    any-drop count frames number (rises (frame.number + 1) bound frames h.inner (next ∷ levels) h.rest number less) in
    around low bound frame frames h.outer (struck (drop count frames) h.inner) _ level (next ∷ weakened count levels) next.stands
    (ap (struck (drop count frames)) h.parts
    ∙ struck-parts (drop count frames) frame h.outer (own next.stands frame) h.inner h.outer (own next.stands frame) (struck (drop count frames) h.inner)
    (struck-none (drop count frames) low frame.number h.outer h.clear.all (λ number a b. later number (omega (arith, b))))
    (own-kept next.stands frame (drop count frames) (later frame.number (omega arith))) refl)
    h.from h.clear h.made (h.name, h.attributes, refl)
    (weak-at (frame.number + 1) bound frames h.inner next levels count h.rest)

-- ---- parts

-- the level of a part of a frame
abbrev pub part_level : Frame → Level
part_level frame = level_of frame.name frame.attributes false

pub open-parts : (low bound end : ℕ) (frames : List Frame) (leaves : List Leaf) (levels : List Level) (cut : List Frame) → end ≡ bound + length cut
    → Built low bound frames leaves levels → Built low end (frames ++ parts_from bound cut) leaves (levels ++ map part_level cut)
open-parts low bound end frames leaves levels [] e h =
    let same : bound ≡ end = omega (arith, e) in
    subst (λ all. Built low end all leaves (levels ++ [])) (sym (append-nil frames))
    (subst (Built low end frames leaves) (sym (append-nil levels)) (subst (λ n. Built low n frames leaves levels) same h))
open-parts low bound end frames leaves levels (frame ∷ cut) e h =
    let part : Frame = record frame { number = bound } in
    let one : Built low (bound + 1) (frames ++ part ∷ []) leaves (levels ++ part_level frame ∷ []) =
    subst (λ xs. Built low (bound + 1) (frames ++ part ∷ []) xs (levels ++ part_level frame ∷ [])) (append-nil leaves)
    (open-frame low bound frames leaves levels part false refl h) in
    let later : end ≡ bound + 1 + length cut = omega (arith, e) in
    subst (λ all. Built low end all leaves (levels ++ part_level frame ∷ map part_level cut)) (append_assoc frames (part ∷ []) (parts_from (bound + 1) cut))
    (subst (Built low end ((frames ++ part ∷ []) ++ parts_from (bound + 1) cut) leaves) (append_assoc levels (part_level frame ∷ []) (map part_level cut))
    (open-parts low (bound + 1) end (frames ++ part ∷ []) leaves (levels ++ part_level frame ∷ []) cut later one))

-- ---- names, numbers of levels, and what levels stand again as

pub level-names : (low bound : ℕ) (frames : List Frame) (leaves : List Leaf) (level : Level) (levels : List Level)
    → Built low bound frames leaves (level ∷ levels)
    → map (λ (other : Level). other.name) levels ≡ map (λ (frame : Frame). frame.name) frames
level-names low bound [] leaves level [] h = refl
level-names low bound [] leaves level (next ∷ levels) h = absurd h
level-names low bound (frame ∷ frames) leaves level [] h = absurd h
level-names low bound (frame ∷ frames) leaves level (next ∷ levels) h =
    let rest = level-names (frame.number + 1) bound frames h.inner next levels h.rest in λ i. h.name i ∷ rest i

pub level-count : (low bound : ℕ) (frames : List Frame) (leaves : List Leaf) (level : Level) (levels : List Level)
    → Built low bound frames leaves (level ∷ levels)
    → length levels ≡ length frames
level-count low bound [] leaves level [] h = refl
level-count low bound [] leaves level (next ∷ levels) h = absurd h
level-count low bound (frame ∷ frames) leaves level [] h = absurd h
level-count low bound (frame ∷ frames) leaves level (next ∷ levels) h =
    ap suc (level-count (frame.number + 1) bound frames h.inner next levels h.rest)

shapes : (low bound : ℕ) (frames : List Frame) (leaves : List Leaf) (level : Level) (levels : List Level) → Built low bound frames leaves (level ∷ levels)
    → map part_of levels ≡ map part_level frames
shapes low bound [] leaves level [] h = refl
shapes low bound [] leaves level (next ∷ levels) h = absurd h
shapes low bound (frame ∷ frames) leaves level [] h = absurd h
shapes low bound (frame ∷ frames) leaves level (next ∷ levels) h =
    let rest = shapes (frame.number + 1) bound frames h.inner next levels h.rest in λ i. level_of (h.name i) (h.attributes i) false ∷ rest i

pub part-shapes : (low bound : ℕ) (frames : List Frame) (leaves : List Leaf) (level : Level) (levels : List Level) (count : ℕ)
    → Built low bound frames leaves (level ∷ levels) → map part_of (drop count levels) ≡ map part_level (drop count frames)
part-shapes low bound frames leaves level levels count h =
    sym (drop-map part_of count levels) ∙ ap (drop count) (shapes low bound frames leaves level levels h) ∙ drop-map part_level count frames
