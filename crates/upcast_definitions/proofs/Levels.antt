-- What is built, with what is open, is what the leaves so far are grouped to.
use Rattle.std.proofs.Common.{◌≡◌, ℕ, zero, suc, ◌+◌, ◌<◌, ◌≤◌, List, [], ◌∷◌, ◌++◌, map, take, drop, length, Bool, true, false, ◌&&◌, ◌||◌, not, ◌==◌}
use Rattle.std.proofs.Common.{if◌then◌else◌, filter, refl, sym, ap, ◌∙◌, subst, append_assoc, append-nil, arith}
use Rattle.std.specs.List.{list_any}
use Rattle.std.proofs.lemmas.Bool.Decides.{nat_tests}
use Rattle.std.proofs.lemmas.List.{map-append}
use Rattle.std.proofs.lemmas.List.Elements.{filter-append}
use Rattle.item_definitions.specs.Item.{Item, Attributes, character}
use Rattle.upcast_definitions.specs.Frames.{Frame, Content, letter, mark, Leaf, is_mark_of, struck}
use Rattle.upcast_definitions.specs.Places.{parts_from}
use Rattle.upcast_definitions.specs.Grouping.{pieces_of, group, AreRising}
use Rattle.upcast_definitions.specs.Building.{Level, level_of, folded, standing_with, with_last, ended, weak, weakened, part_of}
use Rattle.upcast_definitions.proofs.Runs.{starts, number_itself}
use Rattle.upcast_definitions.proofs.Standing.{Apart, AllApart, group-split, under, starts-run, Solid, AllSolid, own, group-level}
use Rattle.upcast_definitions.proofs.Standing.{numbers_of, numbers-split, rising-append, rising-level}

-- ---- leaves whose numbers are from one to below another

-- of a mark
abbrev pub MarkIn : ℕ → ℕ → Content → Type 0
MarkIn low high (letter scalar attributes) = Unit {0}
MarkIn low high (mark number) = (low ≤ number) × (number < high)

-- of the outermost frame
abbrev pub FirstIn : ℕ → ℕ → List Frame → Type 0
FirstIn low high [] = Unit {0}
FirstIn low high (frame ∷ frames) = (low ≤ frame.number) × (frame.number < high)

pub record In (low high : ℕ) (leaf : Leaf) : Type 0 where
  pub marked : MarkIn low high leaf.content
  pub begun : FirstIn low high leaf.frames
  pub solid : Solid leaf.frames leaf.content

abbrev pub AllIn : ℕ → ℕ → List Leaf → Type 0
AllIn low high [] = Unit {0}
AllIn low high (leaf ∷ leaves) = In low high leaf × AllIn low high leaves

all-solid : (low high : ℕ) (leaves : List Leaf) → AllIn low high leaves → AllSolid leaves
all-solid low high [] h = tt
all-solid low high (leaf ∷ leaves) h = (h.0.solid, all-solid low high leaves h.1)

mark-wider : (low high less greater : ℕ) (content : Content) → less ≤ low → high ≤ greater → MarkIn low high content → MarkIn less greater content
mark-wider low high less greater (letter scalar attributes) l g h = tt
mark-wider low high less greater (mark number) l g h = (let a = h.0 in omega (arith, a, l), let a = h.1 in omega (arith, a, g))

first-wider : (low high less greater : ℕ) (frames : List Frame) → less ≤ low → high ≤ greater → FirstIn low high frames → FirstIn less greater frames
first-wider low high less greater [] l g h = tt
first-wider low high less greater (frame ∷ frames) l g h = (let a = h.0 in omega (arith, a, l), let a = h.1 in omega (arith, a, g))

all-wider : (low high less greater : ℕ) (leaves : List Leaf) → less ≤ low → high ≤ greater → AllIn low high leaves → AllIn less greater leaves
all-wider low high less greater [] l g h = tt
all-wider low high less greater (leaf ∷ leaves) l g h = (
  record {
    marked = mark-wider low high less greater leaf.content l g h.0.marked;
    begun = first-wider low high less greater leaf.frames l g h.0.begun;
    solid = h.0.solid;
  },
  all-wider low high less greater leaves l g h.1,
)

all-append : (low high : ℕ) (xs ys : List Leaf) → AllIn low high xs → AllIn low high ys → AllIn low high (xs ++ ys)
all-append low high [] ys h k = k
all-append low high (x ∷ xs) ys h k = (h.0, all-append low high xs ys h.1 k)

-- such leaves, whose elements have numbers that rise
pub record Held (low high : ℕ) (leaves : List Leaf) : Type 0 where
  pub all : AllIn low high leaves
  pub rising : AreRising low (numbers_of leaves) high

-- ---- what the levels hold

-- The leaves of a level: those that are no more in an open frame, and then those in the next one, with that one's mark where it stands in any case.
pub record Split (low : ℕ) (frame : Frame) (leaves : List Leaf) (level next : Level) (Rest : List Leaf → Type 0) : Type 0 where
  pub outer : List Leaf
  pub inner : List Leaf
  pub parts : leaves ≡ outer ++ map (under frame) (own next.stands frame ++ inner)
  pub from : low ≤ frame.number
  pub clear : Held low frame.number outer
  pub made : group outer ≡ level.items
  pub name : next.name ≡ frame.name
  pub attributes : next.attributes ≡ frame.attributes
  pub rest : Rest inner

-- Leaves with the frames that are open, and the levels that are built of them. Numbers rise from level to level.
abbrev pub Built : ℕ → ℕ → List Frame → List Leaf → List Level → Type 0
Built low bound [] leaves [] = ⊥
Built low bound [] leaves (level ∷ []) = (low ≤ bound) × Held low bound leaves × (group leaves ≡ level.items)
Built low bound [] leaves (level ∷ next ∷ levels) = ⊥
Built low bound (frame ∷ frames) leaves [] = ⊥
Built low bound (frame ∷ frames) leaves (level ∷ []) = ⊥
Built low bound (frame ∷ frames) leaves (level ∷ next ∷ levels) =
    Split low frame leaves level next (λ inner. Built (frame.number + 1) bound frames inner (next ∷ levels))

-- the first of some levels is a frame's
abbrev pub HeadIs : Frame → Bool → List Level → Type 0
HeadIs frame stands [] = ⊥
HeadIs frame stands (level ∷ levels) = (level.name ≡ frame.name) × (level.attributes ≡ frame.attributes) × (level.stands ≡ stands)

pub around : (low bound : ℕ) (frame : Frame) (frames : List Frame) (outer inner leaves : List Leaf) (level : Level) (levels : List Level) (stands : Bool)
    → leaves ≡ outer ++ map (under frame) (own stands frame ++ inner) → low ≤ frame.number → Held low frame.number outer → group outer ≡ level.items
    → HeadIs frame stands levels → Built (frame.number + 1) bound frames inner levels → Built low bound (frame ∷ frames) leaves (level ∷ levels)
around low bound frame frames outer inner leaves level [] stands p f c m head b = absurd head
around low bound frame frames outer inner leaves level (next ∷ levels) stands p f c m head b = record {
  outer = outer;
  inner = inner;
  parts = p ∙ ap (λ s. outer ++ map (under frame) (own s frame ++ inner)) (sym head.2);
  from = f;
  clear = c;
  made = m;
  name = head.0;
  attributes = head.1;
  rest = b;
}

pub in-bound : (low bound : ℕ) (frames : List Frame) (leaves : List Leaf) (levels : List Level) → Built low bound frames leaves levels → low ≤ bound
in-bound low bound [] leaves [] h = absurd h
in-bound low bound [] leaves (level ∷ []) h = h.0
in-bound low bound [] leaves (level ∷ next ∷ levels) h = absurd h
in-bound low bound (frame ∷ frames) leaves [] h = absurd h
in-bound low bound (frame ∷ frames) leaves (level ∷ []) h = absurd h
in-bound low bound (frame ∷ frames) leaves (level ∷ next ∷ levels) h =
    let a = h.from in let b = in-bound (frame.number + 1) bound frames h.inner (next ∷ levels) h.rest in omega (arith, a, b)

-- ---- all levels end

pub differ : (a b : ℕ) → a < b → (a == b) ≡ false
differ a b h = grind (arith, nat_tests)

pub differ_back : (a b : ℕ) → b < a → (a == b) ≡ false
differ_back a b h = grind (arith, nat_tests)

apart-one : (low : ℕ) (frame : Frame) (frames : List Frame) (leaves : List Leaf) → FirstIn low frame.number frames
    → Apart frames (pieces_of (map (under frame) leaves))
apart-one low frame [] leaves h = tt
apart-one low frame (other ∷ frames) leaves h = starts-run other.number frame leaves (differ other.number frame.number h.1)

apart-run : (low : ℕ) (frame : Frame) (outer leaves : List Leaf) → AllIn low frame.number outer → AllApart outer (pieces_of (map (under frame) leaves))
apart-run low frame [] leaves h = tt
apart-run low frame (leaf ∷ outer) leaves h = (apart-one low frame leaf.frames leaves h.0.begun, apart-run low frame outer leaves h.1)

under-all : (low bound : ℕ) (frame : Frame) (leaves : List Leaf) → low ≤ frame.number → frame.number < bound → AllIn (frame.number + 1) bound leaves
    → AllIn low bound (map (under frame) leaves)
under-all low bound frame [] f b h = tt
under-all low bound frame (leaf ∷ leaves) f b h = (
  record {
    marked = mark-wider (frame.number + 1) bound low bound leaf.content (omega (arith, f)) (omega arith) h.0.marked;
    begun = (f, b);
    solid = tt;
  },
  under-all low bound frame leaves f b h.1,
)

under-own : (low bound : ℕ) (frame : Frame) (stands : Bool) (leaves : List Leaf) → low ≤ frame.number → frame.number < bound
    → AllIn (frame.number + 1) bound leaves → AllIn low bound (map (under frame) (own stands frame ++ leaves))
under-own low bound frame true leaves f b h = (record { marked = (f, b); begun = (f, b); solid = tt }, under-all low bound frame leaves f b h)
under-own low bound frame false leaves f b h = under-all low bound frame leaves f b h

-- leaves are grouped to what their levels are when they end
pub collapse : (low bound : ℕ) (frames : List Frame) (leaves : List Leaf) (level : Level) (levels : List Level)
    → Built low bound frames leaves (level ∷ levels) → (group leaves ≡ level.items ++ folded levels) × Held low bound leaves
collapse low bound [] leaves level [] h = (h.2 ∙ sym (append-nil level.items), h.1)
collapse low bound [] leaves level (next ∷ levels) h = absurd h
collapse low bound (frame ∷ frames) leaves level [] h = absurd h
collapse low bound (frame ∷ frames) leaves level (next ∷ levels) h =
    let c = collapse (frame.number + 1) bound frames h.inner next levels h.rest in
    let whole : List Leaf = own next.stands frame ++ h.inner in
    let inside : List Leaf = map (under frame) whole in
    let apart : AllApart h.outer (pieces_of inside) = apart-run low frame h.outer whole h.clear.all in
    let less : frame.number < bound =
    (let b = in-bound (frame.number + 1) bound frames h.inner (next ∷ levels) h.rest in omega (arith, b)) in (
      ap group h.parts ∙ group-split h.outer inside apart
          ∙ ap (λ xs. xs ++ group inside) h.made
          ∙ ap (λ xs. level.items ++ xs) (group-level next frame h.inner h.name h.attributes (all-solid (frame.number + 1) bound h.inner c.1.all)
          ∙ ap (standing_with next) c.0),
      subst (Held low bound) (sym h.parts) (record {
        all = all-append low bound h.outer inside (all-wider low frame.number low bound h.outer (omega arith) (omega (arith, less)) h.clear.all)
            (under-own low bound frame next.stands h.inner h.from less c.1.all);
        rising = subst (λ ns. AreRising low ns bound) (sym (numbers-split h.outer inside apart))
            (rising-append low frame.number bound (numbers_of h.outer) (numbers_of inside) h.clear.rising
            (rising-level next.stands frame.number bound frame h.inner (omega arith) c.1.rising));
      }),
    )

-- ---- characters

abbrev pub letter_at : List Frame → Attributes → ℕ → Leaf
letter_at frames attributes scalar = record { content = letter scalar attributes; frames = frames }

abbrev pub letters_at : List Frame → Attributes → List ℕ → List Leaf
letters_at frames attributes scalars = map (letter_at frames attributes) scalars

abbrev pub characters : Attributes → List ℕ → List Item
characters attributes scalars = map (λ scalar. character scalar attributes) scalars

starts-letters : (number : ℕ) (attributes : Attributes) (scalars : List ℕ) → starts number (pieces_of (letters_at [] attributes scalars)) ≡ false
starts-letters number attributes [] = refl
starts-letters number attributes (scalar ∷ scalars) = refl

apart-letters : (frames : List Frame) (attributes : Attributes) (scalars : List ℕ) → Apart frames (pieces_of (letters_at [] attributes scalars))
apart-letters [] attributes scalars = tt
apart-letters (frame ∷ frames) attributes scalars = starts-letters frame.number attributes scalars

all-apart-letters : (leaves : List Leaf) (attributes : Attributes) (scalars : List ℕ) → AllApart leaves (pieces_of (letters_at [] attributes scalars))
all-apart-letters [] attributes scalars = tt
all-apart-letters (leaf ∷ leaves) attributes scalars = (apart-letters leaf.frames attributes scalars, all-apart-letters leaves attributes scalars)

only-letters : (attributes : Attributes) (scalars : List ℕ) → group (letters_at [] attributes scalars) ≡ characters attributes scalars
only-letters attributes [] = refl
only-letters attributes (scalar ∷ scalars) = ap (λ items. character scalar attributes ∷ items) (only-letters attributes scalars)

group-letters : (leaves : List Leaf) (attributes : Attributes) (scalars : List ℕ)
    → group (leaves ++ letters_at [] attributes scalars) ≡ group leaves ++ characters attributes scalars
group-letters leaves attributes scalars = group-split leaves (letters_at [] attributes scalars) (all-apart-letters leaves attributes scalars)
    ∙ ap (λ items. group leaves ++ items) (only-letters attributes scalars)

no-numbers : (attributes : Attributes) (scalars : List ℕ) → numbers_of (letters_at [] attributes scalars) ≡ []
no-numbers attributes [] = refl
no-numbers attributes (scalar ∷ scalars) = no-numbers attributes scalars

letters-numbered : (leaves : List Leaf) (attributes : Attributes) (scalars : List ℕ)
    → numbers_of (leaves ++ letters_at [] attributes scalars) ≡ numbers_of leaves
letters-numbered leaves attributes scalars =
    numbers-split leaves (letters_at [] attributes scalars) (all-apart-letters leaves attributes scalars)
    ∙ ap (λ ns. numbers_of leaves ++ ns) (no-numbers attributes scalars) ∙ append-nil (numbers_of leaves)

letters-in : (low bound : ℕ) (attributes : Attributes) (scalars : List ℕ) → AllIn low bound (letters_at [] attributes scalars)
letters-in low bound attributes [] = tt
letters-in low bound attributes (scalar ∷ scalars) = (record { marked = tt; begun = tt; solid = tt }, letters-in low bound attributes scalars)

letters-under : (frame : Frame) (frames : List Frame) (attributes : Attributes) (scalars : List ℕ)
    → letters_at (frame ∷ frames) attributes scalars ≡ map (under frame) (letters_at frames attributes scalars)
letters-under frame frames attributes [] = refl
letters-under frame frames attributes (scalar ∷ scalars) =
    ap (λ leaves. letter_at (frame ∷ frames) attributes scalar ∷ leaves) (letters-under frame frames attributes scalars)

-- leaves more at the end of what is in a frame
regroup : (frame : Frame) (outer mine inner added : List Leaf)
    → (outer ++ map (under frame) (mine ++ inner)) ++ map (under frame) added ≡ outer ++ map (under frame) (mine ++ (inner ++ added))
regroup frame outer mine inner added =
    append_assoc outer (map (under frame) (mine ++ inner)) (map (under frame) added)
    ∙ ap (λ leaves. outer ++ leaves) (sym (map-append (under frame) (mine ++ inner) added) ∙ ap (map (under frame)) (append_assoc mine inner added))

pub head-last : (frame : Frame) (stands : Bool) (items : List Item) (levels : List Level) → HeadIs frame stands levels
    → HeadIs frame stands (with_last items levels)
head-last frame stands items [] h = h
head-last frame stands items (level ∷ []) h = h
head-last frame stands items (level ∷ next ∷ levels) h = h

pub add-letters : (low bound : ℕ) (frames : List Frame) (leaves : List Leaf) (levels : List Level) (attributes : Attributes) (scalars : List ℕ)
    → Built low bound frames leaves levels
    → Built low bound frames (leaves ++ letters_at frames attributes scalars) (with_last (characters attributes scalars) levels)
add-letters low bound [] leaves [] attributes scalars h = absurd h
add-letters low bound [] leaves (level ∷ []) attributes scalars h = (
  h.0,
  record {
    all = all-append low bound leaves (letters_at [] attributes scalars) h.1.all (letters-in low bound attributes scalars);
    rising = subst (λ ns. AreRising low ns bound) (sym (letters-numbered leaves attributes scalars)) h.1.rising;
  },
  group-letters leaves attributes scalars ∙ ap (λ items. items ++ characters attributes scalars) h.2,
)
add-letters low bound [] leaves (level ∷ next ∷ levels) attributes scalars h = absurd h
add-letters low bound (frame ∷ frames) leaves [] attributes scalars h = absurd h
add-letters low bound (frame ∷ frames) leaves (level ∷ []) attributes scalars h = absurd h
add-letters low bound (frame ∷ frames) leaves (level ∷ next ∷ levels) attributes scalars h =
    around low bound frame frames h.outer (h.inner ++ letters_at frames attributes scalars) _ level
    (with_last (characters attributes scalars) (next ∷ levels)) next.stands
    (ap (λ xs. xs ++ letters_at (frame ∷ frames) attributes scalars) h.parts
    ∙ ap (λ xs. (h.outer ++ map (under frame) (own next.stands frame ++ h.inner)) ++ xs) (letters-under frame frames attributes scalars)
    ∙ regroup frame h.outer (own next.stands frame) h.inner (letters_at frames attributes scalars))
    h.from h.clear h.made
    (head-last frame next.stands (characters attributes scalars) (next ∷ levels) (h.name, h.attributes, refl))
    (add-letters (frame.number + 1) bound frames h.inner (next ∷ levels) attributes scalars h.rest)

-- ---- a frame is opened

-- its mark at the cursor, where it stands in any case
abbrev pub own_at : Bool → List Frame → Frame → List Leaf
own_at true frames frame = record { content = mark frame.number; frames = frames ++ frame ∷ [] } ∷ []
own_at false frames frame = []

own-first : (stands : Bool) (frame : Frame) → own_at stands [] frame ≡ map (under frame) (own stands frame ++ [])
own-first true frame = refl
own-first false frame = refl

own-under : (stands : Bool) (outer : Frame) (frames : List Frame) (frame : Frame)
    → own_at stands (outer ∷ frames) frame ≡ map (under outer) (own_at stands frames frame)
own-under true outer frames frame = refl
own-under false outer frames frame = refl

pub open-frame : (low bound : ℕ) (frames : List Frame) (leaves : List Leaf) (levels : List Level) (made : Frame) (stands : Bool) → made.number ≡ bound
    → Built low bound frames leaves levels
    → Built low (bound + 1) (frames ++ made ∷ []) (leaves ++ own_at stands frames made) (levels ++ level_of made.name made.attributes stands ∷ [])
open-frame low bound [] leaves [] made stands e h = absurd h
open-frame low bound [] leaves (level ∷ []) made stands e h = record {
  outer = leaves;
  inner = [];
  parts = ap (λ xs. leaves ++ xs) (own-first stands made);
  from = (let a = h.0 in omega (arith, a, e));
  clear = subst (λ n. Held low n leaves) (sym e) h.1;
  made = h.2;
  name = refl;
  attributes = refl;
  rest = (omega (arith, e), record { all = tt; rising = omega (arith, e) }, refl);
}
open-frame low bound [] leaves (level ∷ next ∷ levels) made stands e h = absurd h
open-frame low bound (frame ∷ frames) leaves [] made stands e h = absurd h
open-frame low bound (frame ∷ frames) leaves (level ∷ []) made stands e h = absurd h
open-frame low bound (frame ∷ frames) leaves (level ∷ next ∷ levels) made stands e h =
    around low (bound + 1) frame (frames ++ made ∷ []) h.outer (h.inner ++ own_at stands frames made) _ level
    ((next ∷ levels) ++ level_of made.name made.attributes stands ∷ []) next.stands
    (ap (λ xs. xs ++ own_at stands (frame ∷ frames) made) h.parts
    ∙ ap (λ xs. (h.outer ++ map (under frame) (own next.stands frame ++ h.inner)) ++ xs) (own-under stands frame frames made)
    ∙ regroup frame h.outer (own next.stands frame) h.inner (own_at stands frames made))
    h.from h.clear h.made (h.name, h.attributes, refl)
    (open-frame (frame.number + 1) bound frames h.inner (next ∷ levels) made stands e h.rest)

-- ---- levels end

pub end-at : (low bound : ℕ) (frames : List Frame) (leaves : List Leaf) (levels : List Level) (count : ℕ) → Built low bound frames leaves levels
    → Built low bound (take count frames) leaves (ended (suc count) levels)
end-at low bound frames leaves [] count h = no-levels frames h
  where
    no-levels : (frames : List Frame) → Built low bound frames leaves [] → Built low bound (take count frames) leaves (ended (suc count) [])
    no-levels [] h = absurd h
    no-levels (frame ∷ frames) h = absurd h
end-at low bound frames leaves (level ∷ levels) zero h =
    let c = collapse low bound frames leaves level levels h in (in-bound low bound frames leaves (level ∷ levels) h, c.1, c.0)
end-at low bound [] leaves (level ∷ []) (suc count) h = (h.0, h.1, h.2 ∙ sym (append-nil level.items))
end-at low bound [] leaves (level ∷ next ∷ levels) (suc count) h = absurd h
end-at low bound (frame ∷ frames) leaves (level ∷ []) (suc count) h = absurd h
end-at low bound (frame ∷ frames) leaves (level ∷ next ∷ levels) (suc count) h =
    around low bound frame (take count frames) h.outer h.inner leaves level (ended (suc count) (next ∷ levels)) next.stands h.parts h.from h.clear h.made
    (head-last frame next.stands (folded (drop count levels)) (next ∷ take count levels) (h.name, h.attributes, refl))
    (end-at (frame.number + 1) bound frames h.inner (next ∷ levels) count h.rest)
