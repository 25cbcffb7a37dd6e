-- What is read as a shape is one.
use Rattle.std.proofs.Common.{◌≡◌, ◌<◌, ◌≤◌, ◌+◌, ℕ, zero, suc, List, [], ◌∷◌, Bool, true, false, ◌&&◌, ◌==◌, Option, Some, None, Result, Ok, Err}
use Rattle.std.proofs.Common.{if◌then◌else◌, refl, subst, arith}
use Rattle.std.specs.Prelude.{nat_le, nat_lt, is_some, codes, ⊤}
use Rattle.std.proofs.lemmas.Bool.{ltb-true, eqb-true, le-leb, and_parts, and_from}
use Rattle.std.specs.Str.{chars}
use Rattle.serde_json.specs.Data.{Data, null, boolean, number, string, array, object, Items, no_items, item}
use Rattle.serde_json.specs.Find.{get, as_array}
use Rattle.json_forms.specs.declared.fault.FormFault.{FormFault}
use Rattle.json_forms.specs.declared.fault.FormFault.TheVariants.{BadField}
use Rattle.json_forms.specs.Form.{◌>>=◌, or_bad, only_fields, field_path, index_path}
use Rattle.converter_definitions.specs.declared.kind.ShapeKind.{ShapeKind}
use Rattle.converter_definitions.specs.declared.kind.ShapeKind.TheVariants.{Container, Empty, Ui}
use Rattle.converter_definitions.specs.Form.{Form, Forms, slot, text, element, forms_of, form_depth, inner_depth}
use Rattle.converter_definitions.specs.Pattern.{Patterns}
use Rattle.converter_definitions.specs.Shape.{may_stand, is_outermost, fits, fit_in, form_count, inner_count, slot_count, inner_slots, is_shape}
use Rattle.converter_forms.specs.declared.parts.Before.{Before}
use Rattle.converter_forms.specs.ShapeForm.{Reader, takes_slot, takes_text, takes_element, stands, behind, inside, nodes_at, children_if, children_at}
use Rattle.converter_forms.specs.ShapeForm.{slot_field, slot_at, text_at, head_at, element_at, object_node_at, node_of, no_reader, node_at}

-- what a step that gives something went through
step : {A B : Type 0} (r : Result A FormFault) (next : A → Result B FormFault) (b : B) → (r >>= next) ≡ Ok b → (a : A) × (r ≡ Ok a) × (next a ≡ Ok b)
step (Ok a) next b e = (a, refl, e)
step (Err fault) next b e = absurd cc

-- the answers that are nodes
abbrev answer : Form Patterns → Result (Form Patterns) FormFault
answer form = Ok form

abbrev answers : List (Form Patterns) → Result (List (Form Patterns)) FormFault
answers forms = Ok forms

-- a node that its parent takes, or without a parent one that is taken as the outermost
abbrev is_taken : Option ShapeKind → Form Patterns → Bool
is_taken None form = is_outermost form
is_taken (Some parent) form = may_stand parent form

taken_slot : (parent : Option ShapeKind) → takes_slot parent ≡ true → is_taken parent slot ≡ true
taken_slot None e = e
taken_slot (Some parent) e = e

taken_text : (parent : Option ShapeKind) (scalars : List ℕ) → takes_text parent ≡ true → is_taken parent (text scalars) ≡ true
taken_text None scalars e = e
taken_text (Some parent) scalars e = e

taken_element : (parent : Option ShapeKind) (kind : ShapeKind) (name : List ℕ) (attributes : Patterns) (children : Forms Patterns)
    → takes_element parent kind ≡ true → is_taken parent (element kind name attributes children) ≡ true
taken_element None Container name attributes children e = e
taken_element None Empty name attributes children e = absurd cc
taken_element None Ui name attributes children e = absurd cc
taken_element (Some parent) kind name attributes children e = e

-- what the test of a node tells
record Stands (fitting : Bool) (levels : ℕ) (before : Before) : Type 0 where
  fitted : fitting ≡ true
  left : 0 < levels
  few : before.nodes < 32

if_ok : (path : List ℕ) (test : Bool) (u : ⊤) → (if test then Ok tt else Err (BadField path)) ≡ Ok u → test ≡ true
if_ok path true u e = refl
if_ok path false u e = absurd cc

stands_tells : (path : List ℕ) (fitting : Bool) (levels : ℕ) (before : Before) (u : ⊤) → stands path fitting levels before ≡ Ok u → Stands fitting levels before
stands_tells path fitting levels before u e =
    let all = if_ok path (fitting && nat_lt 0 levels && nat_lt before.nodes 32) u e in
    let front = and_parts (fitting && nat_lt 0 levels) (nat_lt before.nodes 32) all in
    let first = and_parts fitting (nat_lt 0 levels) front.0 in
    record { fitted = first.0; left = ltb-true 0 levels first.1; few = ltb-true before.nodes 32 front.1 }

-- what holds of a node on the first of so many levels, behind what comes before it, and of the nodes in an element
record Sound (levels : ℕ) (parent : Option ShapeKind) (before : Before) (form : Form Patterns) : Type 0 where
  standing : is_taken parent form ≡ true
  fitting : fits form ≡ true
  nodes : before.nodes + form_count form ≤ 32
  slots : before.slots ≤ 1 → before.slots + slot_count form ≤ 1
  deep : form_depth form ≤ levels

record AllSound (levels : ℕ) (parent : ShapeKind) (before : Before) (forms : List (Form Patterns)) : Type 0 where
  fitting : fit_in parent (forms_of forms) ≡ true
  nodes : before.nodes ≤ 32 → before.nodes + inner_count (forms_of forms) ≤ 32
  slots : before.slots ≤ 1 → before.slots + inner_slots (forms_of forms) ≤ 1
  deep : inner_depth (forms_of forms) ≤ levels

-- a reader that answers such nodes alone
abbrev Careful : Reader → ℕ → Type 0
Careful reader levels = (parent : Option ShapeKind) (before : Before) (path : List ℕ) (d : Data) (form : Form Patterns) → reader parent before path d
    ≡ Ok form → Sound levels parent before form

slot_sound : (levels : ℕ) (parent : Option ShapeKind) (before : Before) (path : List ℕ) (d : Data) (form : Form Patterns)
    → slot_at levels parent before path d ≡ Ok form → Sound levels parent before form
unfolding slot_at
slot_sound levels parent before path d form e =
    let a = step (slot_field path d) _ form e in
    let b = step (stands path (takes_slot parent && before.slots == 0) levels before) _ form a.2 in
    let c = step (only_fields path (codes "slot" ∷ []) d) _ form b.2 in
    let tests = stands_tells path (takes_slot parent && before.slots == 0) levels before b.0 b.1 in
    let parts = and_parts (takes_slot parent) (before.slots == 0) tests.fitted in
    let no_slot : before.slots ≡ 0 = eqb-true before.slots 0 parts.1 in
    let last : answer slot ≡ answer form = c.2 in
    let same : slot ≡ form = cc in
    let left : 0 < levels = tests.left in
    let few : before.nodes < 32 = tests.few in
    let sound : Sound levels parent before slot = record {
      standing = taken_slot parent parts.0;
      fitting = refl;
      nodes = omega arith;
      slots =
          λ h. omega arith;
      deep = omega arith;
    } in
    subst (Sound levels parent before) same sound

text_sound : (levels : ℕ) (parent : Option ShapeKind) (before : Before) (path scalars : List ℕ) (form : Form Patterns)
    → text_at levels parent before path scalars ≡ Ok form → Sound levels parent before form
unfolding text_at
text_sound levels parent before path scalars form e =
    let a = step (stands path (takes_text parent) levels before) _ form e in
    let tests = stands_tells path (takes_text parent) levels before a.0 a.1 in
    let last : answer (text scalars) ≡ answer form = a.2 in
    let same : text scalars ≡ form = cc in
    let left : 0 < levels = tests.left in
    let few : before.nodes < 32 = tests.few in
    let sound : Sound levels parent before (text scalars) = record {
      standing = taken_text parent scalars tests.fitted;
      fitting = refl;
      nodes =
          omega arith;
      slots = λ h. omega arith;
      deep = omega arith;
    } in
    subst (Sound levels parent before) same sound

module _ (reader : Reader) (levels : ℕ) (careful : Careful reader levels) where
  nodes_sound : (kind : ShapeKind) (before : Before) (path : List ℕ) (index : ℕ) (items : Items) (forms : List (Form Patterns))
      → nodes_at reader (Some kind) before path index items ≡ Ok forms → AllSound levels kind before forms
  unfolding nodes_at behind
  nodes_sound kind before path index no_items forms e =
      let last : answers [] ≡ answers forms = e in
      let same : [] ≡ forms = cc in
      let sound : AllSound levels kind before [] = record {
        fitting = refl;
        nodes = λ h. omega (arith, h);
        slots = λ h. omega (arith, h);
        deep =
            omega arith;
      } in
      subst (AllSound levels kind before) same sound
  nodes_sound kind before path index (item d rest) forms e =
      let a = step (reader (Some kind) before (index_path path index) d) _ forms e in
      let b = step (nodes_at reader (Some kind) (behind a.0 before) path (index + 1) rest) _ forms a.2 in
      let one = careful (Some kind) before (index_path path index) d a.0 a.1 in
      let others = nodes_sound kind (behind a.0 before) path (index + 1) rest b.0 b.1 in
      let last : answers (a.0 ∷ b.0) ≡ answers forms = b.2 in
      let same : a.0 ∷ b.0 ≡ forms = cc in
      let one_nodes : before.nodes + form_count a.0 ≤ 32 = one.nodes in
      let all_nodes : before.nodes + form_count a.0 + inner_count (forms_of b.0) ≤ 32 = others.nodes one_nodes in
      let one_deep : form_depth a.0 ≤ levels = one.deep in
      let others_deep : inner_depth (forms_of b.0) ≤ levels = others.deep in
      let all_slots : before.slots ≤ 1 → before.slots + slot_count a.0 + inner_slots (forms_of b.0) ≤ 1 = λ h. others.slots (one.slots h) in
      let sound : AllSound levels kind before (a.0 ∷ b.0) = record {
        fitting = and_from (may_stand kind a.0 && fits a.0) (fit_in kind (forms_of b.0))
            (and_from (may_stand kind a.0) (fits a.0) one.standing one.fitting) others.fitting;
        nodes = λ h. omega arith;
        slots = λ h. omega (arith, all_slots h);
        deep = omega arith;
      } in
      subst (AllSound levels kind before) same sound

  children_sound : (kind : ShapeKind) (before : Before) (path : List ℕ) (found : Option Data) (forms : List (Form Patterns))
      → children_if reader (Some kind) before path found ≡ Ok forms → AllSound levels kind before forms
  children_sound kind before path None forms e =
      let last : answers [] ≡ answers forms = e in
      let same : [] ≡ forms = cc in
      let sound : AllSound levels kind before [] = record {
        fitting = refl;
        nodes = λ h. omega (arith, h);
        slots = λ h. omega (arith, h);
        deep =
            omega arith;
      } in
      subst (AllSound levels kind before) same sound
  children_sound kind before path (Some found) forms e =
      let a = step (or_bad path (as_array found)) (nodes_at reader (Some kind) before path 0) forms e in
      nodes_sound kind before path 0 a.0 forms a.2

  element_sound : (indexes : Bool) (here : ℕ) → (0 < here → levels + 1 ≡ here)
      → (parent : Option ShapeKind) (before : Before) (path : List ℕ) (d : Data) (form : Form Patterns)
      → element_at indexes reader here parent before path d ≡ Ok form → Sound here parent before form
  unfolding element_at children_at inside
  element_sound indexes here next parent before path d form e =
      let a = step (head_at indexes path d) _ form e in
      let head = a.0 in
      let b = step (stands path (takes_element parent head.kind) here before) _ form a.2 in
      let c = step (children_at reader (Some head.kind) (inside before) path d) _ form b.2 in
      let o = step (only_fields path (codes "name" ∷ codes "type" ∷ codes "attributes" ∷ codes "children" ∷ []) d) _ form c.2 in
      let tests = stands_tells path (takes_element parent head.kind) here before b.0 b.1 in
      let all = children_sound head.kind (inside before) (field_path path (codes "children")) (get (codes "children") d) c.0 c.1 in
      let made : Form Patterns = element head.kind head.name head.attributes (forms_of c.0) in
      let last : answer made ≡ answer form = o.2 in
      let same : made ≡ form = cc in
      let few : before.nodes < 32 = tests.few in
      let one_more : levels + 1 ≡ here = next tests.left in
      let more_nodes : before.nodes + 1 ≤ 32 = omega arith in
      let all_nodes : before.nodes + 1 + inner_count (forms_of c.0) ≤ 32 = all.nodes more_nodes in
      let all_deep : inner_depth (forms_of c.0) ≤ levels = all.deep in
      let sound : Sound here parent before made = record {
        standing = taken_element parent head.kind head.name head.attributes (forms_of c.0) tests.fitted;
        fitting = all.fitting;
        nodes = omega arith;
        slots = λ h. all.slots h;
        deep = omega arith;
      } in
      subst (Sound here parent before) same sound

  object_sound : (indexes : Bool) (here : ℕ) → (0 < here → levels + 1 ≡ here)
      → (is_slot : Bool) (parent : Option ShapeKind) (before : Before) (path : List ℕ) (d : Data) (form : Form Patterns)
      → (if is_slot then slot_at here parent before path d else element_at indexes reader here parent before path d) ≡ Ok form → Sound here parent before form
  object_sound indexes here next true parent before path d form e = slot_sound here parent before path d form e
  object_sound indexes here next false parent before path d form e = element_sound indexes here next parent before path d form e

  node_of_sound : (indexes : Bool) (here : ℕ) → (0 < here → levels + 1 ≡ here) → Careful (node_of indexes reader here) here
  unfolding node_of object_node_at
  node_of_sound indexes here next parent before path null form e = absurd cc
  node_of_sound indexes here next parent before path (boolean truth) form e = absurd cc
  node_of_sound indexes here next parent before path (number n) form e = absurd cc
  node_of_sound indexes here next parent before path (string scalars) form e = text_sound here parent before path (chars scalars) form e
  node_of_sound indexes here next parent before path (array items) form e = absurd cc
  node_of_sound indexes here next parent before path (object fields) form e =
      object_sound indexes here next (is_some (get (codes "slot") (object fields))) parent before path (object fields) form e

no_reader_sound : Careful no_reader 0
no_reader_sound parent before path d form e = absurd cc

node_sound : (indexes : Bool) (levels : ℕ) → Careful (node_at indexes levels) levels
unfolding node_at
node_sound indexes zero = node_of_sound no_reader 0 no_reader_sound indexes 0 (λ some. absurd (omega (arith, some)))
node_sound indexes (suc levels) = node_of_sound (node_at indexes levels) levels (node_sound indexes levels) indexes (suc levels) (λ some. omega arith)

-- what is read as the outermost node of a shape is a shape
pub read_shape : (indexes : Bool) (path : List ℕ) (d : Data) (form : Form Patterns) → node_at indexes 8 None (record { nodes = 0; slots = 0 }) path d
    ≡ Ok form → is_shape form ≡ true
read_shape indexes path d form e =
    let nothing : Before = record { nodes = 0; slots = 0 } in
    let sound = node_sound indexes 8 None nothing path d form e in
    let few : form_count form ≤ 32 = omega (arith, sound.nodes) in
    let one : slot_count form ≤ 1 = omega (arith, sound.slots (omega arith)) in
    and_from (is_outermost form && fits form && nat_le (slot_count form) 1 && nat_le (form_count form) 32) (nat_le (form_depth form) 8)
    (and_from (is_outermost form && fits form && nat_le (slot_count form) 1) (nat_le (form_count form) 32)
    (and_from (is_outermost form && fits form) (nat_le (slot_count form) 1)
    (and_from (is_outermost form) (fits form) sound.standing sound.fitting)
    (le-leb (slot_count form) 1 one))
    (le-leb (form_count form) 32 few))
    (le-leb (form_depth form) 8 sound.deep)
