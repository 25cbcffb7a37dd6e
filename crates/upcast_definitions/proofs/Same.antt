-- Building a view gives the items that its leaves are grouped to, step by step.
use Rattle.std.proofs.Common.{◌≡◌, ℕ, zero, suc, ◌+◌, List, [], ◌∷◌, ◌++◌, map, take, drop, length, Bool, true, false, ◌&&◌, if◌then◌else◌, codes}
use Rattle.std.proofs.Common.{refl, sym, ap, ◌∙◌, subst, append-nil, arith}
use Rattle.std.proofs.lemmas.List.{length-append}
use Rattle.item_definitions.specs.Item.{Item, Attributes, character}
use Rattle.view_definitions.specs.Node.{ViewAttributes}
use Rattle.schema_definitions.specs.Allowed.{Rules, check_child}
use Rattle.upcast_definitions.specs.declared.rule.UpcastRule.{UpcastRule}
use Rattle.upcast_definitions.specs.Form.{Form, Forms, text, element, none, more, forms_of}
use Rattle.upcast_definitions.specs.Frames.{Frame, Leaf, Reading, unread, ancestors}
use Rattle.upcast_definitions.specs.Places.{Place, staying, in_paragraph, paragraph, paragraph_helps, next_frame, with_paragraph, with_room, cut_for, opened}
use Rattle.upcast_definitions.specs.Places.{parts_from, closed}
use Rattle.upcast_definitions.specs.Taking.{Sources, Made, passed, placed, keyed, Taken, taken_by}
use Rattle.upcast_definitions.specs.Grouping.{pieces_of, group, element_numbers, AreRising}
use Rattle.upcast_definitions.specs.Up.{allowed_there, made_attributes, has_ink, written, with_text, entered, given_in, left_behind}
use Rattle.upcast_definitions.specs.Up.{read_node, read_nodes, reading_of, up}
use Rattle.upcast_definitions.specs.Building.{Level, level_of, ground, names_at, folded, with_last, ended, weakened}
use Rattle.upcast_definitions.specs.Building.{room_at, part_of, parts_of, with_characters}
use Rattle.upcast_definitions.specs.Building.{text_in, with_element, going_in, coming_out, build_node, build_nodes, items_at_first, built}
use Rattle.upcast_definitions.proofs.Levels.{Built, characters, collapse, add-letters, own_at, open-frame, end-at}
use Rattle.upcast_definitions.proofs.Cuts.{weak-at, part_level, open-parts, level-names, level-count, part-shapes}

-- the name of the first level
abbrev first_name : List Level → List ℕ
first_name [] = []
first_name (level ∷ levels) = level.name

-- levels are what is read so far
record Same (reading : Reading) (levels : List Level) : Type 0 where
  root : first_name levels ≡ codes "$root"
  built : Built 0 (length reading.made) reading.frames reading.leaves levels

-- there is a first level
some-level : (bound : ℕ) (frames : List Frame) (leaves : List Leaf) → Built 0 bound frames leaves [] → ⊥
some-level bound [] leaves h = h
some-level bound (frame ∷ frames) leaves h = h

same-names : (reading : Reading) (levels : List Level) → Same reading levels → names_at levels ≡ ancestors reading.frames
same-names reading [] s = absurd (some-level (length reading.made) reading.frames reading.leaves s.built)
same-names reading (level ∷ levels) s =
    let rest = level-names 0 (length reading.made) reading.frames reading.leaves level levels s.built in λ i. s.root i ∷ rest i

name-last : (items : List Item) (levels : List Level) → first_name (with_last items levels) ≡ first_name levels
name-last items [] = refl
name-last items (level ∷ []) = refl
name-last items (level ∷ next ∷ levels) = refl

-- ---- texts

letters-same : (rules : Rules) (given : Attributes) (scalars : List ℕ) (reading : Reading) (levels : List Level) → Same reading levels
    → Same (written rules given scalars reading) (with_characters rules given scalars levels)
letters-same rules given scalars reading levels s =
    subst (λ names. Same (written rules given scalars reading)
    (with_last (characters (allowed_there rules names (codes "$text") given) scalars) levels)) (sym (same-names reading levels s))
    (let attributes : Attributes = allowed_there rules (ancestors reading.frames) (codes "$text") given in
    record {
      root = name-last (characters attributes scalars) levels ∙ s.root;
      built = add-letters 0 (length reading.made) reading.frames reading.leaves levels attributes scalars s.built;
    })

name-more : (bound : ℕ) (frames : List Frame) (leaves : List Leaf) (levels others : List Level) → Built 0 bound frames leaves levels
    → first_name (levels ++ others) ≡ first_name levels
name-more bound frames leaves [] others h = absurd (some-level bound frames leaves h)
name-more bound frames leaves (level ∷ levels) others h = refl

one-more : (made : List Frame) (frame : Frame) → length made + 1 ≡ length (made ++ frame ∷ [])
one-more made frame = sym (length-append made (frame ∷ []))

paragraph-same : (reading : Reading) (levels : List Level) → Same reading levels → Same (with_paragraph reading) (levels ++ level_of paragraph [] false ∷ [])
paragraph-same reading levels s =
    let frame : Frame = next_frame paragraph [] reading in
    record {
      root = name-more (length reading.made) reading.frames reading.leaves levels _ s.built ∙ s.root;
      built = subst (λ n. Built 0 n (reading.frames ++ frame ∷ []) reading.leaves (levels ++ level_of paragraph [] false ∷ [])) (one-more reading.made frame)
          (subst (λ leaves. Built 0 (length reading.made + 1) (reading.frames ++ frame ∷ []) leaves (levels ++ level_of paragraph [] false ∷ []))
          (append-nil reading.leaves) (open-frame 0 (length reading.made) reading.frames reading.leaves levels frame false refl s.built));
    }

opened-same : (name : List ℕ) (attributes : Attributes) (reading : Reading) (levels : List Level) → Same reading levels
    → Same (opened (next_frame name attributes reading) reading) (levels ++ level_of name attributes true ∷ [])
opened-same name attributes reading levels s =
    let frame : Frame = next_frame name attributes reading in
    record {
      root = name-more (length reading.made) reading.frames reading.leaves levels _ s.built ∙ s.root;
      built = subst (λ n. Built 0 n (reading.frames ++ frame ∷ []) (reading.leaves ++ own_at true reading.frames frame)
          (levels ++ level_of name attributes true ∷ [])) (one-more reading.made frame)
          (open-frame 0 (length reading.made) reading.frames reading.leaves levels frame true refl s.built);
    }

text-same : (rules : Rules) (given : Attributes) (scalars : List ℕ) (reading : Reading) (levels : List Level) → Same reading levels
    → Same (with_text rules given scalars reading) (text_in rules given scalars levels)
unfolding with_text text_in
text-same rules given scalars reading levels s =
    subst (λ names. Same (with_text rules given scalars reading)
    (if check_child rules names (codes "$text") then with_characters rules given scalars levels
    else (if has_ink scalars && paragraph_helps rules names (codes "$text")
    then with_characters rules given scalars (levels ++ level_of paragraph [] false ∷ []) else levels))) (sym (same-names reading levels s))
    (go (check_child rules (ancestors reading.frames) (codes "$text")) (has_ink scalars && paragraph_helps rules (ancestors reading.frames) (codes "$text")))
  where
    go : (here helps : Bool)
        → Same (if here then written rules given scalars reading else (if helps then written rules given scalars (with_paragraph reading) else reading))
        (if here then with_characters rules given scalars levels
        else (if helps then with_characters rules given scalars (levels ++ level_of paragraph [] false ∷ []) else levels))
    go true helps = letters-same rules given scalars reading levels s
    go false true =
        letters-same rules given scalars (with_paragraph reading) (levels ++ level_of paragraph [] false ∷ []) (paragraph-same reading levels s)
    go false false = s

-- ---- elements

name-ended : (count : ℕ) (levels : List Level) → first_name (ended (suc count) levels) ≡ first_name levels
name-ended count [] = refl
name-ended count (level ∷ levels) = name-last (folded (drop count levels)) (level ∷ take count levels)

next-count : (count : ℕ) → suc count ≡ count + 1
next-count count = omega arith

room-same : (place : Place) (reading : Reading) (levels : List Level) → Same reading levels → Same (with_room place reading) (room_at place levels)
room-same (staying count) reading [] s = absurd (some-level (length reading.made) reading.frames reading.leaves s.built)
room-same (staying count) reading (level ∷ levels) s =
    subst (λ n. Same (with_room (staying count) reading) (ended n (weakened n (level ∷ levels)))) (next-count count) (record {
      root = name-ended count (weakened (suc count) (level ∷ levels)) ∙ s.root;
      built = end-at 0 (length reading.made) reading.frames _ (weakened (suc count) (level ∷ levels)) count
          (weak-at 0 (length reading.made) reading.frames reading.leaves level levels count s.built);
    })
room-same in_paragraph reading levels s = paragraph-same reading levels s

parts-same : (place : Place) (reading : Reading) (levels : List Level) → Same reading levels
    → parts_of place levels ≡ map part_level (cut_for place reading.frames)
parts-same (staying count) reading [] s = absurd (some-level (length reading.made) reading.frames reading.leaves s.built)
parts-same (staying count) reading (level ∷ levels) s =
    ap (λ n. map part_of (drop n (level ∷ levels))) (sym (next-count count))
    ∙ part-shapes 0 (length reading.made) reading.frames reading.leaves level levels count s.built
parts-same in_paragraph reading levels s = refl

parts-count : (number : ℕ) (cut : List Frame) → length (parts_from number cut) ≡ length cut
parts-count number [] = refl
parts-count number (frame ∷ cut) = ap suc (parts-count (number + 1) cut)

levels-count : (reading : Reading) (levels : List Level) → Same reading levels → length levels ≡ suc (length reading.frames)
levels-count reading [] s = absurd (some-level (length reading.made) reading.frames reading.leaves s.built)
levels-count reading (level ∷ levels) s = ap suc (level-count 0 (length reading.made) reading.frames reading.leaves level levels s.built)

closed-same : (place : Place) (reading after : Reading) (levels inside : List Level) → Same reading levels → Same after inside
    → Same (closed (length (with_room place reading).frames) (cut_for place reading.frames) after)
    (ended (length (room_at place levels)) inside ++ parts_of place levels)
closed-same place reading after levels inside s k =
    let around : ℕ = length (with_room place reading).frames in
    let cut : List Frame = cut_for place reading.frames in
    let parts : List Frame = parts_from (length after.made) cut in
    let count : length (room_at place levels) ≡ suc around = levels-count (with_room place reading) (room_at place levels) (room-same place reading levels s) in
    let number : length (after.made ++ parts) ≡ length after.made + length cut =
    length-append after.made parts ∙ ap (λ n. length after.made + n) (parts-count (length after.made) cut) in
    let end : Built 0 (length after.made) (take around after.frames) after.leaves (ended (suc around) inside) =
    end-at 0 (length after.made) after.frames after.leaves inside around k.built in
    subst (λ n. Same (closed around cut after) (ended n inside ++ parts_of place levels)) (sym count)
    (subst (λ others. Same (closed around cut after) (ended (suc around) inside ++ others)) (sym (parts-same place reading levels s))
    (record {
      root = name-more (length after.made) (take around after.frames) after.leaves (ended (suc around) inside) (map part_level cut) end
          ∙ name-ended around inside ∙ k.root;
      built = open-parts 0 (length after.made) (length (after.made ++ parts)) (take around after.frames) after.leaves (ended
          (suc around) inside) cut number end;
    }))

element-same : (rules : Rules) (given : Attributes) (attributes : ViewAttributes) (added : Attributes) (made : Made) (reading : Reading) (levels : List Level)
    → Same reading levels → (into : Reading → Reading) (building : List Level → List Level)
    → ((next : Reading) (open_levels : List Level) → Same next open_levels → Same (into next) (building open_levels))
    → Same (left_behind made reading (into (entered rules given attributes added made reading)))
    (coming_out made levels (building (going_in rules given attributes added made levels)))
element-same rules given attributes added passed reading levels s into building walk = walk reading levels s
element-same rules given attributes added (keyed key value) reading levels s into building walk = walk reading levels s
element-same rules given attributes added (placed place name set) reading levels s into building walk =
    let roomy : Reading = with_room place reading in
    let inside : List Level = room_at place levels in
    let r : Same roomy inside = room-same place reading levels s in
    let own : Attributes = made_attributes rules (ancestors roomy.frames) given attributes added name set in
    let first : Same (opened (next_frame name own roomy) roomy) (with_element rules given attributes added name set inside) =
    subst (λ names. Same (opened (next_frame name own roomy) roomy)
    (inside ++ level_of name (made_attributes rules names given attributes added name set) true ∷ [])) (sym (same-names roomy inside r))
    (opened-same name own roomy inside r) in
    closed-same place reading (into (opened (next_frame name own roomy) roomy)) levels
    (building (with_element rules given attributes added name set inside)) s
    (walk (opened (next_frame name own roomy) roomy) (with_element rules given attributes added name set inside) first)

mutual
  node-same : (rules : Rules) (upcast : List UpcastRule) (given : Attributes) (form : Form) (reading : Reading) (levels : List Level) → Same reading levels
      → Same (read_node rules upcast given form reading) (build_node rules upcast given form levels)
  node-same rules upcast given (text scalars) reading levels s = text-same rules given scalars reading levels s
  node-same rules upcast given (element name attributes children) reading levels s =
      let taken : Taken = taken_by rules upcast (ancestors reading.frames) name attributes in
      subst (λ names. Same (read_node rules upcast given (element name attributes children) reading)
      (coming_out (taken_by rules upcast names name attributes).made levels
      (build_nodes rules upcast (given_in (taken_by rules upcast names name attributes).made given) children
      (going_in rules given attributes (taken_by rules upcast names name attributes).added (taken_by rules upcast names name attributes).made levels))))
      (sym (same-names reading levels s))
      (element-same rules given attributes taken.added taken.made reading levels s
      (read_nodes rules upcast (given_in taken.made given) children) (build_nodes rules upcast (given_in taken.made given) children)
      (λ next open_levels k. nodes-same rules upcast (given_in taken.made given) children next open_levels k))

  nodes-same : (rules : Rules) (upcast : List UpcastRule) (given : Attributes) (forms : Forms) (reading : Reading) (levels : List Level) → Same reading levels
      → Same (read_nodes rules upcast given forms reading) (build_nodes rules upcast given forms levels)
  nodes-same rules upcast given none reading levels s = s
  nodes-same rules upcast given (more form forms) reading levels s =
      nodes-same rules upcast given forms (read_node rules upcast given form reading) (build_node rules upcast given form levels)
      (node-same rules upcast given form reading levels s)

-- all levels end in the root
whole : (reading : Reading) (levels : List Level) → Same reading levels → items_at_first (ended 1 levels) ≡ group reading.leaves
whole reading [] s = absurd (some-level (length reading.made) reading.frames reading.leaves s.built)
whole reading (level ∷ levels) s = sym (collapse 0 (length reading.made) reading.frames reading.leaves level levels s.built).0

-- nothing is read yet
start : Same unread ground
start = record { root = refl; built = (omega arith, record { all = tt; rising = omega arith }, refl) }

-- what is built is what is read
pub built-up : (rules : Rules) (upcast : List UpcastRule) (view : List Form) → built rules upcast view ≡ up rules upcast view
built-up rules upcast view = whole _ _ (nodes-same rules upcast [] (forms_of view) unread ground start)

numbers-rise : (reading : Reading) (levels : List Level) → Same reading levels
    → AreRising 0 (element_numbers (pieces_of reading.leaves)) (length reading.made)
numbers-rise reading [] s = absurd (some-level (length reading.made) reading.frames reading.leaves s.built)
numbers-rise reading (level ∷ levels) s = (collapse 0 (length reading.made) reading.frames reading.leaves level levels s.built).1.rising

-- the elements of what is read stand in the order in which they were made, each once
pub rising-up : (rules : Rules) (upcast : List UpcastRule) (view : List Form)
    → AreRising 0 (element_numbers (pieces_of (reading_of rules upcast view).leaves)) (length (reading_of rules upcast view).made)
rising-up rules upcast view = numbers-rise _ _ (nodes-same rules upcast [] (forms_of view) unread ground start)
