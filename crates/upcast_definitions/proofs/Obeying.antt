-- What is read obeys the schema: each step leaves frames that fit round leaves that fit, and the names of the frames that were open before it.
use Rattle.std.proofs.Common.{◌≡◌, ℕ, suc, ◌+◌, List, [], ◌∷◌, ◌++◌, map, take, drop, length, Bool, true}
use Rattle.std.proofs.Common.{false, ◌&&◌, not, if◌then◌else◌, IsTrue, All, filter, codes}
use Rattle.std.proofs.Common.{None, slice_get, refl, sym, ap, ◌∙◌, subst, append_assoc, append-nil, take-append-drop, arith}
use Rattle.std.proofs.lemmas.List.{map-append, take-map, length-map, length-append}
use Rattle.std.proofs.lemmas.List.Elements.{All-cons, All-nil}
use Rattle.std.proofs.Math.Seq.{take-append_seam}
use Rattle.ck_base.proofs.Common.{first_and_second}
use Rattle.ck_base.specs.declared.value.Value.{Value as AttributeValue}
use Rattle.item_definitions.specs.Item.{Attributes}
use Rattle.view_definitions.specs.Node.{ViewAttributes}
use Rattle.schema_definitions.specs.Allowed.{Rules, is_registered, check_child, check_attribute, is_inline_object}
use Rattle.breach_definitions.specs.Breach.{breach}
use Rattle.upcast_definitions.specs.declared.rule.UpcastRule.{UpcastRule}
use Rattle.upcast_definitions.specs.Form.{Form, Forms, text, element, none, more, forms_of}
use Rattle.upcast_definitions.specs.Frames.{Frame, Content, letter, mark, Leaf, Reading, unread, ancestors, is_mark_of, struck}
use Rattle.upcast_definitions.specs.Places.{Place, staying, in_paragraph, paragraph, paragraph_helps, next_frame}
use Rattle.upcast_definitions.specs.Places.{with_frame, with_paragraph, with_room, cut_for}
use Rattle.upcast_definitions.specs.Places.{opened, parts_from, closed, with_letters}
use Rattle.upcast_definitions.specs.Taking.{Sources, Made, passed, placed, keyed, Taken, taken_by}
use Rattle.upcast_definitions.specs.Grouping.{group}
use Rattle.upcast_definitions.specs.Up.{allowed_there, overlaid, set_over, made_attributes, has_ink, written, with_text, begun, entered, given_in, left_behind}
use Rattle.upcast_definitions.specs.Up.{read_node, read_nodes, reading_of, up}
use Rattle.upcast_definitions.proofs.Fitting.{Allowed, Fits, FramesFit, ContentFits, LeafFits, LeavesFit, root}
use Rattle.upcast_definitions.proofs.Fitting.{frames-append, frames-front, frames-back, leaf-in}
use Rattle.upcast_definitions.proofs.Fitting.{get-last, frames-more, leaves-more, leaves-append, leaves-filter, group-obeys}
use Rattle.upcast_definitions.proofs.Placing.{RoomFor, HasRoom, taken-room}

-- the names of frames
abbrev names_of : List Frame → List (List ℕ)
names_of frames = map (λ frame. frame.name) frames

-- frames that fit round leaves that fit
record Sound (rules : Rules) (reading : Reading) : Type 0 where
  frames : FramesFit reading.made rules root reading.frames
  leaves : LeavesFit reading.made rules reading.leaves

-- nothing is unmade, and the frames that were open are still round the cursor, or others of their names
record Follows (before after : Reading) : Type 0 where
  others : List Frame
  made : after.made ≡ before.made ++ others
  extra : List (List ℕ)
  names : names_of after.frames ≡ names_of before.frames ++ extra

record Goes (rules : Rules) (before after : Reading) : Type 0 where
  sound : Sound rules after
  follows : Follows before after

stays : (reading : Reading) → Follows reading reading
stays reading = record { others = []; made = sym (append-nil reading.made); extra = []; names = sym (append-nil (names_of reading.frames)) }

further : (a b c : Reading) → Follows a b → Follows b c → Follows a c
further a b c h k = record {
  others = h.others ++ k.others;
  made = k.made ∙ ap (λ xs. xs ++ k.others) h.made ∙ append_assoc a.made h.others k.others;
  extra = h.extra ++ k.extra;
  names = k.names ∙ ap (λ xs. xs ++ k.extra) h.names ∙ append_assoc (names_of a.frames) h.extra k.extra;
}

goes-further : (rules : Rules) (a b c : Reading) → Goes rules a b → Goes rules b c → Goes rules a c
goes-further rules a b c h k = record { sound = k.sound; follows = further a b c h.follows k.follows }

-- ---- attributes

all-kept : {A : Type 0} → (test : A → Bool) (xs : List A) → All (λ x. IsTrue (test x)) (filter test xs)
all-kept test [] = All-nil (λ x. IsTrue (test x))
all-kept {A} test (x ∷ xs) = go (test x) refl (all-kept test xs)
  where
    go : (b : Bool) → test x ≡ b → All (λ y. IsTrue (test y)) (filter test xs) → All (λ y. IsTrue (test y)) (if b then x ∷ filter test xs else filter test xs)
    go true e k = All-cons (λ y. IsTrue (test y)) x (filter test xs) e k
    go false e k = k

allowed_with : (rules : Rules) (frames : List Frame) (name : List ℕ) (attributes : Attributes) → IsTrue (check_child rules (ancestors frames) name)
    → Allowed rules (ancestors frames) name (allowed_there rules (ancestors frames) name attributes)
allowed_with rules frames name attributes h = record {
  stands = h;
  has = all-kept (λ (entry : List ℕ × AttributeValue). check_attribute rules (ancestors frames) name entry.0) attributes;
}

-- ---- frames that are opened

with-frame : (rules : Rules) (name : List ℕ) (attributes : Attributes) (reading : Reading) → Sound rules reading
    → Allowed rules (ancestors reading.frames) name attributes
    → Goes rules reading (with_frame (next_frame name attributes reading) reading)
with-frame rules name attributes reading s h =
    let frame : Frame = next_frame name attributes reading in
    record {
      sound = record {
        frames = frames-append (reading.made ++ frame ∷ []) rules root reading.frames (frame ∷ [])
            (frames-more reading.made (frame ∷ []) rules root reading.frames s.frames)
            (record { known = get-last reading.made frame []; allowed = h }, tt);
        leaves = leaves-more reading.made (frame ∷ []) rules reading.leaves s.leaves;
      };
      follows = record {
        others = frame ∷ [];
        made = refl;
        extra = name ∷ [];
        names = map-append (λ f. f.name) reading.frames (frame ∷ []);
      };
    }

-- a paragraph that helps
with-paragraph : (rules : Rules) (item : List ℕ) (reading : Reading) → Sound rules reading → IsTrue (paragraph_helps rules (ancestors reading.frames) item)
    → Goes rules reading (with_paragraph reading) × IsTrue (check_child rules (ancestors (with_paragraph reading).frames) item)
with-paragraph rules item reading s h =
    let rest = (first_and_second (is_registered rules paragraph) _ h).1 in
    let parts = first_and_second (check_child rules (ancestors reading.frames) paragraph) _ rest in (
      with-frame rules paragraph [] reading s (record { stands = parts.0; has = All-nil _ }),
      ap (λ names. check_child rules (codes "$root" ∷ names) item) (map-append (λ f. f.name) reading.frames (next_frame paragraph [] reading ∷ [])) ∙ parts.1,
    )

-- an element's frame, with its mark
opened-goes : (rules : Rules) (name : List ℕ) (attributes : Attributes) (reading : Reading) → Sound rules reading
    → Allowed rules (ancestors reading.frames) name attributes → Goes rules reading (opened (next_frame name attributes reading) reading)
opened-goes rules name attributes reading s h =
    let frame : Frame = next_frame name attributes reading in
    let g = with-frame rules name attributes reading s h in
    record {
      sound = record {
        frames = g.sound.frames;
        leaves = leaves-append (reading.made ++ frame ∷ []) rules reading.leaves _ g.sound.leaves
            (leaf-in (reading.made ++ frame ∷ []) rules root (reading.frames ++ frame ∷ []) (mark frame.number) g.sound.frames tt, tt);
      };
      follows = record { others = g.follows.others; made = g.follows.made; extra = g.follows.extra; names = g.follows.names };
    }

-- ---- texts

letters-fit : (made : List Frame) (rules : Rules) (frames : List Frame) (attributes : Attributes) (scalars : List ℕ) → FramesFit made rules root frames
    → Allowed rules (ancestors frames) (codes "$text") attributes
    → LeavesFit made rules (map (λ scalar. record { content = letter scalar attributes; frames = frames }) scalars)
letters-fit made rules frames attributes [] h k = tt
letters-fit made rules frames attributes (scalar ∷ scalars) h k =
    (leaf-in made rules root frames (letter scalar attributes) h k, letters-fit made rules frames attributes scalars h k)

written-goes : (rules : Rules) (given : Attributes) (scalars : List ℕ) (reading : Reading) → Sound rules reading
    → IsTrue (check_child rules (ancestors reading.frames) (codes "$text")) → Goes rules reading (written rules given scalars reading)
written-goes rules given scalars reading s h = record {
  sound = record {
    frames = s.frames;
    leaves = leaves-append reading.made rules reading.leaves _ s.leaves
        (letters-fit reading.made rules reading.frames _ scalars s.frames (allowed_with rules reading.frames (codes "$text") given h));
  };
  follows = let k = stays reading in record { others = k.others; made = k.made; extra = k.extra; names = k.names };
}

text-goes : (rules : Rules) (given : Attributes) (scalars : List ℕ) (reading : Reading) → Sound rules reading
    → Goes rules reading (with_text rules given scalars reading)
unfolding with_text
text-goes rules given scalars reading s =
    go (check_child rules (ancestors reading.frames) (codes "$text")) refl (has_ink scalars && paragraph_helps rules (ancestors reading.frames)
    (codes "$text")) refl
  where
    go : (here : Bool) → check_child rules (ancestors reading.frames) (codes "$text") ≡ here
        → (helps : Bool) → (has_ink scalars && paragraph_helps rules (ancestors reading.frames) (codes "$text")) ≡ helps
        → Goes rules reading (if here then written rules given scalars reading
        else (if helps then written rules given scalars (with_paragraph reading) else reading))
    go true e helps f = written-goes rules given scalars reading s e
    go false e true f =
        let p = with-paragraph rules (codes "$text") reading s (first_and_second (has_ink scalars) (paragraph_helps rules (ancestors reading.frames)
        (codes "$text")) f).1 in
        goes-further rules reading (with_paragraph reading) _ p.0 (written-goes rules given scalars (with_paragraph reading) p.0.sound p.1)
    go false e false f = record { sound = s; follows = stays reading }

-- ---- elements

made-allowed : (rules : Rules) (frames : List Frame) (given : Attributes) (attributes : ViewAttributes) (added : Attributes) (name : List ℕ) (set : Sources)
    → IsTrue (check_child rules (ancestors frames) name)
    → Allowed rules (ancestors frames) name (made_attributes rules (ancestors frames) given attributes added name set)
unfolding made_attributes
made-allowed rules frames given attributes added name set h = allowed_with rules frames name _ h

-- room that was made
record Roomy (rules : Rules) (name : List ℕ) (place : Place) (reading : Reading) : Type 0 where
  sound : Sound rules (with_room place reading)
  allows : IsTrue (check_child rules (ancestors (with_room place reading).frames) name)
  others : List Frame
  made : (with_room place reading).made ≡ reading.made ++ others
  cut : FramesFit reading.made rules (ancestors (with_room place reading).frames) (cut_for place reading.frames)
  extra : List (List ℕ)
  names : names_of (with_room place reading).frames ++ names_of (cut_for place reading.frames) ≡ names_of reading.frames ++ extra

-- the ancestors that remain
first-names : (count : ℕ) (frames : List Frame) → take (count + 1) (ancestors frames) ≡ ancestors (take count frames)
first-names count frames =
    let more : count + 1 ≡ suc count = omega arith in
    ap (λ n. take n (ancestors frames)) more ∙ ap (λ names. codes "$root" ∷ names) (take-map (λ frame. frame.name) count frames)

room : (rules : Rules) (name : List ℕ) (place : Place) (reading : Reading) → Sound rules reading → RoomFor rules (ancestors reading.frames) name place
    → Roomy rules name place reading
room rules name (staying count) reading s h =
    let parts : FramesFit reading.made rules root (take count reading.frames ++ drop count reading.frames) =
    subst (FramesFit reading.made rules root) (sym (take-append-drop count reading.frames)) s.frames in
    record {
      sound = record {
        frames = frames-front reading.made rules root (take count reading.frames) (drop count reading.frames) parts;
        leaves = leaves-filter reading.made rules (λ leaf. not (is_mark_of (drop count reading.frames) leaf.content)) reading.leaves s.leaves;
      };
      allows = subst (λ names. IsTrue (check_child rules names name)) (first-names count reading.frames) h;
      others = [];
      made = sym (append-nil reading.made);
      cut = frames-back reading.made rules root (take count reading.frames) (drop count reading.frames) parts;
      extra = [];
      names = sym (map-append (λ f. f.name) (take count reading.frames) (drop count reading.frames))
          ∙ ap names_of (take-append-drop count reading.frames) ∙ sym (append-nil (names_of reading.frames));
    }
room rules name in_paragraph reading s h =
    let p = with-paragraph rules name reading s h in
    record {
      sound = p.0.sound;
      allows = p.1;
      others = p.0.follows.others;
      made = p.0.follows.made;
      cut = tt;
      extra = p.0.follows.extra;
      names = append-nil (names_of (with_paragraph reading).frames) ∙ p.0.follows.names;
    }

parts-fit : (made : List Frame) (number : ℕ) (rules : Rules) (names : List (List ℕ)) (old : List Frame) (cut : List Frame) → number ≡ length made
    → FramesFit old rules names cut → FramesFit (made ++ parts_from number cut) rules names (parts_from number cut)
parts-fit made number rules names old [] e h = tt
parts-fit made number rules names old (frame ∷ cut) e h =
    let part : Frame = record frame { number = number } in
    let longer : number + 1 ≡ length (made ++ part ∷ []) = (let l = length-append made (part ∷ []) in omega (arith, e, l)) in (
      record {
        known = ap (slice_get (made ++ part ∷ parts_from (number + 1) cut)) e ∙ get-last made part (parts_from (number + 1) cut);
        allowed = h.0.allowed;
      },
      subst (λ all. FramesFit all rules (names ++ frame.name ∷ []) (parts_from (number + 1) cut)) (append_assoc made (part ∷ []) (parts_from (number + 1) cut))
          (parts-fit (made ++ part ∷ []) (number + 1) rules (names ++ frame.name ∷ []) old cut longer h.1),
    )

part-names : (number : ℕ) (cut : List Frame) → names_of (parts_from number cut) ≡ names_of cut
part-names number [] = refl
part-names number (frame ∷ cut) = ap (λ names. frame.name ∷ names) (part-names (number + 1) cut)

-- the names round an element that has ended
names-around : (inside after : Reading) (around : List Frame) (name : List (List ℕ)) → names_of inside.frames ≡ names_of around ++ name → Follows inside after
    → names_of (take (length around) after.frames) ≡ names_of around
names-around inside after around name e f =
    sym (take-map (λ frame. frame.name) (length around) after.frames)
    ∙ ap (take (length around)) (f.names ∙ ap (λ xs. xs ++ f.extra) e ∙ append_assoc (names_of around) name f.extra)
    ∙ ap (λ n. take n (names_of around ++ (name ++ f.extra))) (sym (length-map around (λ frame. frame.name)))
    ∙ take-append_seam (names_of around) (name ++ f.extra)

ended : (rules : Rules) (name : List ℕ) (attributes : Attributes) (place : Place) (reading after : Reading) → Roomy rules name place reading
    → Goes rules (opened (next_frame name attributes (with_room place reading)) (with_room place reading)) after
    → Goes rules reading (closed (length (with_room place reading).frames) (cut_for place reading.frames) after)
ended rules name attributes place reading after r g =
    let roomy : Reading = with_room place reading in
    let frame : Frame = next_frame name attributes roomy in
    let cut : List Frame = cut_for place reading.frames in
    let front : List Frame = take (length roomy.frames) after.frames in
    let parts : List Frame = parts_from (length after.made) cut in
    let around : names_of front ≡ names_of roomy.frames =
    names-around (opened frame roomy) after roomy.frames (name ∷ []) (map-append (λ f. f.name) roomy.frames (frame ∷ [])) g.follows in
    let whole : FramesFit after.made rules root (front ++ drop (length roomy.frames) after.frames) =
    subst (FramesFit after.made rules root) (sym (take-append-drop (length roomy.frames) after.frames)) g.sound.frames in
    let fitting : FramesFit (after.made ++ parts) rules (ancestors roomy.frames) parts =
    parts-fit after.made (length after.made) rules (ancestors roomy.frames) reading.made cut refl r.cut in
    record {
      sound = record {
        frames = frames-append (after.made ++ parts) rules root front parts
            (frames-more after.made parts rules root front (frames-front after.made rules root front (drop (length roomy.frames) after.frames) whole))
            (subst (λ names. FramesFit (after.made ++ parts) rules (codes "$root" ∷ names) parts) (sym around) fitting);
        leaves = leaves-more after.made parts rules after.leaves g.sound.leaves;
      };
      follows = record {
        others = r.others ++ (frame ∷ []) ++ g.follows.others ++ parts;
        made = ap (λ xs. xs ++ parts) (g.follows.made ∙ ap (λ xs. (xs ++ frame ∷ []) ++ g.follows.others) r.made)
            ∙ made-order reading.made r.others (frame ∷ []) g.follows.others parts;
        extra = r.extra;
        names = map-append (λ f. f.name) front parts ∙ ap (λ xs. xs ++ names_of parts) around
            ∙ ap (λ xs. names_of roomy.frames ++ xs) (part-names (length after.made) cut) ∙ r.names;
      };
    }
  where
    made-order : (a b c d e : List Frame) → (((a ++ b) ++ c) ++ d) ++ e ≡ a ++ (b ++ c ++ d ++ e)
    made-order a b c d e =
        ap (λ xs. (xs ++ d) ++ e) (append_assoc a b c) ∙ ap (λ xs. xs ++ e) (append_assoc a (b ++ c) d) ∙ append_assoc a ((b ++ c) ++ d) e

element-goes : (rules : Rules) (given : Attributes) (attributes : ViewAttributes) (added : Attributes) (made : Made) (reading : Reading)
    → HasRoom rules (ancestors reading.frames) made → Sound rules reading → (into : Reading → Reading)
    → ((next : Reading) → Sound rules next → Goes rules next (into next))
    → Goes rules reading (left_behind made reading (into (entered rules given attributes added made reading)))
element-goes rules given attributes added passed reading h s into walk = walk reading s
element-goes rules given attributes added (keyed key value) reading h s into walk = walk reading s
element-goes rules given attributes added (placed place name set) reading h s into walk =
    let r = room rules name place reading s h in
    let own : Attributes = made_attributes rules (ancestors (with_room place reading).frames) given attributes added name set in
    let o = opened-goes rules name own (with_room place reading) r.sound
    (made-allowed rules (with_room place reading).frames given attributes added name set r.allows) in
    ended rules name own place reading (into (opened (next_frame name own (with_room place reading)) (with_room place reading))) r
    (walk (opened (next_frame name own (with_room place reading)) (with_room place reading)) o.sound)

mutual
  node-goes : (rules : Rules) (upcast : List UpcastRule) (given : Attributes) (form : Form) (reading : Reading) → Sound rules reading
      → Goes rules reading (read_node rules upcast given form reading)
  node-goes rules upcast given (text scalars) reading s = text-goes rules given scalars reading s
  node-goes rules upcast given (element name attributes children) reading s =
      let taken : Taken = taken_by rules upcast (ancestors reading.frames) name attributes in
      element-goes rules given attributes taken.added taken.made reading (taken-room rules (ancestors reading.frames) upcast name attributes) s
      (read_nodes rules upcast (given_in taken.made given) children)
      (λ next k. nodes-go rules upcast (given_in taken.made given) children next k)

  nodes-go : (rules : Rules) (upcast : List UpcastRule) (given : Attributes) (forms : Forms) (reading : Reading) → Sound rules reading
      → Goes rules reading (read_nodes rules upcast given forms reading)
  nodes-go rules upcast given none reading s = record { sound = s; follows = stays reading }
  nodes-go rules upcast given (more form forms) reading s =
      let one = node-goes rules upcast given form reading s in
      goes-further rules reading (read_node rules upcast given form reading) _ one
      (nodes-go rules upcast given forms (read_node rules upcast given form reading) one.sound)

-- what is read obeys
pub up-obeys : (rules : Rules) (upcast : List UpcastRule) (view : List Form) → breach rules (up rules upcast view) ≡ None
up-obeys rules upcast view =
    let end = nodes-go rules upcast [] (forms_of view) unread (record { frames = tt; leaves = tt }) in
    group-obeys (reading_of rules upcast view).made rules (reading_of rules upcast view).leaves end.sound.leaves
