-- What `enter` made of a block at a caret is taken back by a deletion backward.
use Rattle.std.proofs.Common.{◌≡◌, ◌≢◌, ℕ, ◌+◌, ◌-◌, ◌≤◌, Bool, true, false, not, ◌&&◌, ◌||◌, ◌==◌, nat_eq, nat_lt, nat_le, if◌then◌else◌, List, [], ◌∷◌}
use Rattle.std.proofs.Common.{◌++◌, length, take, drop, Option, Some, None, is_some, unwrap_or, ok_or, option_map, option_and_then, Result, Ok, Err, refl}
use Rattle.std.proofs.Common.{sym, ap, subst, ◌∙◌, arith, length-take, append_assoc}
use Rattle.std.proofs.lemmas.Bool.Decides.{nat_tests}
use Rattle.std.specs.Option.{option_map_or}
use Rattle.std.specs.Cmp.Lexicographic.{pointwise}
use Rattle.item_definitions.specs.Item.{Item, character, element, inner, with_inner}
use Rattle.item_definitions.specs.Children.{parent_of, offset_of, children_at, child_count, item_at, at}
use Rattle.item_definitions.specs.Position.{Range, between, behind, not_after, path_before}
use Rattle.item_definitions.specs.Shift.{Stick, to_next, to_previous, rest_behind, rule_merge, carry, carry_range}
use Rattle.item_definitions.specs.Shift as shifts
use Rattle.item_definitions.proofs.Order.{not_after-itself}
use Rattle.item_definitions.proofs.Paths.{parent_of-push, offset_of-push, path-joined}
use Rattle.operation_definitions.specs.Operation.{fresh, split, merge, no_place}
use Rattle.operation_definitions.specs.Operation.{Fault}
use Rattle.operation_definitions.specs.After.{◌>>=◌, check, after, like, is_free}
use Rattle.operation_definitions.specs.Level.{split_at}
use Rattle.operation_definitions.proofs.Lifting.{inner-with_inner}
use Rattle.operation_definitions.proofs.Steps.{step-ok, ok_or-some}
use Rattle.operation_definitions.proofs.Names.{same_numbers, numbers_same, element-is, next-parent, next-offset, position-is}
use Rattle.operation_definitions.proofs.Simple.{after-effect, pair-first, pair-second}
use Rattle.operation_definitions.proofs.Elements.{fresh-reversed}
use Rattle.schema_definitions.specs.Allowed.{Rules, is_block, is_limit, is_registered}
use Rattle.document_definitions.specs.Selection.{Selection, selected, same_range, before, is_collapsed}
use Rattle.document_definitions.specs.Selection as selections
use Rattle.document_definitions.specs.Document.{Document, State, with_selection, changed}
use Rattle.document_definitions.specs.Sound.{IsSound}
use Rattle.edit_definitions.specs.declared.edit.Edit.{Edit}
use Rattle.edit_definitions.specs.declared.edit.Edit.TheVariants.{Remove, Split, Merge}
use Rattle.edit_definitions.specs.Places.{is_there, is_element, are_in_one}
use Rattle.edit_definitions.specs.Planned.{name_of}
use Rattle.edit_definitions.specs.Performed.{apart, edits_made}
use Rattle.edit_definitions.proofs.Reached.{found, children-below, one-there}
use Rattle.edit_definitions.proofs.Stay.{there-from}
use Rattle.command_definitions.specs.declared.command.Command.TheVariants.{Enter, DeleteBackward}
use Rattle.command_definitions.specs.declared.command.CommandFault.{CommandFault}
use Rattle.command_definitions.specs.declared.command.CommandFault.TheVariants.{Disabled}
use Rattle.command_definitions.specs.Places.{is_plain_block_at}
use Rattle.command_definitions.specs.Deleting.{caret_at, joins_blocks}
use Rattle.command_definitions.specs.Table.{plan, enter_is_enabled, enter_edits}
use Rattle.command_definitions.specs.GivenBack.{IsGivenBack}
use Rattle.command_definitions.proofs.Halves.{Halves, halves, name-with, name-like}
use Rattle.command_definitions.proofs.Applying.{Tree, one-applied, applied-one}
use Rattle.command_definitions.proofs.Performing.{split-made, select-made, made-merge, two-made, made-one}
use Rattle.command_definitions.proofs.Reaching.{merged-backward, planned-backward}

-- where the caret behind a split goes with the merge that takes it back

pub rest-pushed : (parent rest : List ℕ) → rest_behind parent (parent ++ rest) ≡ Some rest
rest-pushed [] rest = refl
rest-pushed (step ∷ parent) rest = ap (λ t. if t then rest_behind parent (parent ++ rest) else None) (itself step) ∙ rest-pushed parent rest
  where
    itself : (n : ℕ) → (n == n) ≡ true
    itself n = grind (arith, nat_tests)

seam : (right count : ℕ) → rule_merge right count (right ∷ 0 ∷ []) ≡ (right - 1) ∷ count ∷ []
seam right count = ap (λ t. if t then (right - 1) ∷ (count + 0) ∷ [] else (if nat_lt right right then right - 1 else right) ∷ 0 ∷ []) (itself right)
    ∙ ap (λ n. (right - 1) ∷ n ∷ []) (nothing count)
  where
    itself : (n : ℕ) → (n == n) ≡ true
    itself n = grind (arith, nat_tests)

    nothing : (n : ℕ) → n + 0 ≡ n
    nothing n = omega arith

carried-in : (parent : List ℕ) (right count : ℕ) → option_map_or (λ rest. parent ++ rule_merge right count rest)
    (rest_behind parent (parent ++ right ∷ 0 ∷ [])) (parent ++ right ∷ 0 ∷ []) ≡ parent ++ (right - 1) ∷ count ∷ []
carried-in parent right count =
    ap (λ o. option_map_or (λ rest. parent ++ rule_merge right count rest) o (parent ++ right ∷ 0 ∷ [])) (rest-pushed parent (right ∷ 0 ∷ []))
    ∙ ap (λ rest. parent ++ rest) (seam right count)

-- the caret at the start of the second element goes to where the two meet
module _ (position : List ℕ) (long : 2 ≤ length position) where
  abbrev pub caret : List ℕ
  caret = behind (parent_of position) ++ 0 ∷ []

  some : behind (parent_of position) ≢ []
  some e = absurd (omega (arith, next-offset position long, ap offset_of e))

  caret-is : caret ≡ parent_of (behind (parent_of position)) ++ offset_of (behind (parent_of position)) ∷ 0 ∷ []
  caret-is = ap (λ p. p ++ 0 ∷ []) (path-joined (behind (parent_of position)) some)
      ∙ append_assoc (parent_of (behind (parent_of position))) (offset_of (behind (parent_of position)) ∷ []) (0 ∷ [])

  carried-back : (stick : Stick) → carry stick (shifts.merge (behind (parent_of position)) position) caret ≡ position
  carried-back stick =
      let parent = parent_of (behind (parent_of position)) in
      let right = offset_of (behind (parent_of position)) in
      ap (λ p. option_map_or (λ rest. parent ++ rule_merge right (offset_of position) rest) (rest_behind parent p) p) caret-is
      ∙ carried-in parent right (offset_of position) ∙ sym (position-is position long)

  range-back : carry_range (shifts.merge (behind (parent_of position)) position) (between caret caret) ≡ between position position
  range-back =
      (λ t. if not (not_after (carried-back to_next t) (carried-back to_previous t)) then between (carried-back to_next t) (carried-back to_next t) else
      between (carried-back to_next t) (carried-back to_previous t))
      ∙ ap (λ t. if not t then between position position else between position position) (not_after-itself position)

  -- so the selection is a caret there
  selection-back : selections.carried (shifts.merge (behind (parent_of position)) position) (selected (between caret caret) false) ≡ selected
      (between position position) false
  selection-back =
      ap (λ (r : Range). if same_range r (between caret caret) then selected (between caret caret) false else selected r false) range-back
      ∙ go (same_range (between position position) (between caret caret)) refl
    where
      first : (a b : Bool) → (a && b) ≡ true → a ≡ true
      first true b e = refl
      first false b e = e

      go : (t : Bool) → same_range (between position position) (between caret caret) ≡ t
          → (if t then selected (between caret caret) false else selected (between position position) false) ≡ selected (between position position) false
      go true e = ap (λ p. selected (between p p) false) (sym
          (same_numbers position caret (first (pointwise nat_eq position caret) (pointwise nat_eq position caret) e)))
      go false e = refl

-- the two elements of a split that was applied, and the cells, which stay
pub parts-of : (items : List Item) (cells : List (List Item)) (position : List ℕ) (id : ℕ) (made : Tree) → 2 ≤ length position
    → after items cells (split position (fresh id)) ≡ Ok made
    → Halves items made.0 position id × (cells ≡ made.1)
parts-of items cells position id made long e =
    let above = parent_of (parent_of position) in
    let change = split_at (offset_of (parent_of position)) (offset_of position) (like id) in
    let tail : List Item × Item → Result Tree Fault = λ m. Ok (m.0, cells) in
    let a = step-ok (check (nat_le 2 (length position)) no_place) (λ _. ok_or (at above change items) no_place >>= tail) made
    (after-effect items cells (split position (fresh id)) made e) in
    let b = step-ok (ok_or (at above change items) no_place) tail made a.2 in
    let there = ok_or-some (at above change items) no_place b.0 b.1 in
    (halves items made.0 position id b.0.1 long (there ∙ ap (λ xs. Some (xs, b.0.1)) (pair-first (b.0.0, cells) made b.2)), pair-second (b.0.0, cells) made b.2)

pub bare : (id : ℕ) (item : Item) (kids : List Item) → inner item ≡ Some kids → inner (like id item) ≡ Some []
bare id (character scalar attributes) kids e = absurd cc
bare id (element old name attributes children) kids e = refl

pub not-first : (n : ℕ) → (n + 1 == 0) ≡ false
not-first n = grind (arith, nat_tests)

pub some-before : (n : ℕ) → nat_lt 0 (n + 1) ≡ true
some-before n = grind (arith, nat_tests)

-- the document that `enter` makes at a caret
abbrev entered : Document → List ℕ → Tree → Document
entered old caret made = (with_selection (selected (between caret caret) false)
    (changed (split old.selection.range.start (fresh old.next_id)) (apart old) made)).document

module _ (rules : Rules) (old : Document) (made : Tree) (long : 2 ≤ length old.selection.range.start) (sound : IsSound (apart old))
    (collapsed : is_collapsed old.selection.range ≡ true)
    (plain : is_plain_block_at rules old.items (parent_of old.selection.range.start) ≡ true)
    (applied : after old.items [] (split old.selection.range.start (fresh old.next_id)) ≡ Ok made) where
  given-back : IsGivenBack rules DeleteBackward old (entered old (caret old.selection.range.start long) made)
  given-back =
      let position = old.selection.range.start in
      let block = parent_of position in
      let next = behind block in
      let new = entered old (caret position long) made in
      let parts = parts-of old.items [] position old.next_id made long applied in
      let h = parts.0 in
      let test : List ℕ → Bool = λ name. is_block rules name && not (is_limit rules name) in
      let left_name : option_and_then name_of (item_at block made.0) ≡ option_and_then name_of (item_at block old.items) =
      ap (option_and_then name_of) h.left ∙ name-with (take (offset_of position) h.kids) h.item ∙ sym (ap (option_and_then name_of) h.here) in
      let right_name : option_and_then name_of (item_at next made.0) ≡ option_and_then name_of (item_at block old.items) =
      ap (option_and_then name_of) h.right ∙ name-like old.next_id (drop (offset_of position) h.kids) h.item ∙ sym (ap (option_and_then name_of) h.here) in
      let left_plain : is_plain_block_at rules made.0 block ≡ true = ap (λ o. option_map_or test o false) left_name ∙ plain in
      let right_plain : is_plain_block_at rules made.0 next ≡ true = ap (λ o. option_map_or test o false) right_name ∙ plain in
      let left_holds = inner-with_inner h.item h.kids (take (offset_of position) h.kids) h.holds in
      let right_holds = inner-with_inner (like old.next_id h.item) [] (drop (offset_of position) h.kids) (bare old.next_id h.item h.kids h.holds) in
      let left_element : is_element made.0 block ≡ true = ap (λ o. is_some (option_and_then inner o)) h.left ∙ ap is_some left_holds in
      let right_element : is_element made.0 next ≡ true = ap (λ o. is_some (option_and_then inner o)) h.right ∙ ap is_some right_holds in
      let block_before : path_before next ≡ block =
      (λ t. next-parent position long t ++ (next-offset position long t - 1) ∷ []) ∙ ap (λ n. parent_of block ++ n ∷ []) (back (offset_of block))
      ∙ sym (element-is position long) in
      let r = found next made.0 (with_inner (drop (offset_of position) h.kids) (like old.next_id h.item)) h.right in
      let room = (one-there (offset_of next) r.level (with_inner (drop (offset_of position) h.kids) (like old.next_id h.item)) r.here).0 in
      let there : is_there made.0 next ≡ true =
      ap (is_there made.0) (path-joined next r.some) ∙ there-from made.0 (parent_of next) (offset_of next) r.level r.there (omega (arith, room)) in
      let two : (nat_lt 0 (offset_of next) && is_element made.0 (path_before next) && is_element made.0 next) ≡ true =
      (λ t. (ap (nat_lt 0) (next-offset position long) ∙ some-before (offset_of block)) t && (ap (is_element made.0) block_before ∙ left_element) t &&
      right_element t) in
      let l = found block made.0 (with_inner (take (offset_of position) h.kids) h.item) h.left in
      let kids : children_at block made.0 ≡ Some (take (offset_of position) h.kids) =
      ap (λ p. children_at p made.0) (element-is position long)
      ∙ children-below (parent_of block) (offset_of block) made.0 l.level (take (offset_of position) h.kids)
      (with_inner (take (offset_of position) h.kids) h.item) l.there l.here left_holds in
      let count : length (take (offset_of position) h.kids) ≡ offset_of position = omega (arith, length-take (offset_of position) h.kids, h.room) in
      let target : path_before next ++ unwrap_or (child_count made.0 (path_before next)) 0 ∷ [] ≡ position =
      ap (λ p. p ++ unwrap_or (child_count made.0 p) 0 ∷ []) block_before
      ∙ ap (λ (o : Option (List Item)). block ++ unwrap_or (option_map length o) 0 ∷ []) kids
      ∙ ap (λ n. block ++ n ∷ []) count ∙ sym (path-joined position (λ e. absurd (omega (arith, long, ap length e)))) in
      let free : is_free made.1 0 ≡ true = subst (λ (cs : List (List Item)). is_free cs 0 ≡ true) parts.1 refl in
      let taken = fresh-reversed old.items [] position old.next_id made 0 sound.limited
      (after-effect old.items [] (split position (fresh old.next_id)) made applied) free in
      let reversed : after made.0 [] (merge next position 0) ≡ Ok (old.items, taken.then_cells) =
      subst (λ (cs : List (List Item)). after made.0 cs (merge next position 0) ≡ Ok (old.items, taken.then_cells)) (sym parts.1) taken.reversed in
      let end = changed (merge next position 0) (apart new) (old.items, taken.then_cells) in
      let none_before : before (caret position long) ≡ None =
      ap (λ n. if n == 0 then None else Some (parent_of (caret position long) ++ (n - 1) ∷ [])) (offset_of-push next 0) in
      let neighbour : before next ≡ Some block =
      ap (λ t. if t then None else Some (path_before next)) (ap (λ n. n == 0) (next-offset position long) ∙ not-first (offset_of block))
      ∙ ap (λ (p : List ℕ). Some p) block_before in
      record {
        edits = Merge next ∷ [];
        made = end.document;
        planned = planned-backward rules new (Merge next ∷ []) (numbers_same (caret position long) (caret position long) refl)
            (merged-backward rules made.0 (caret position long) next block (ap (λ n. n == 0) (offset_of-push next 0)) (parent_of-push next 0) none_before
            neighbour right_plain left_plain);
        performed = made-one (is_registered rules) (Merge next) new end
            (made-merge (is_registered rules) 1 next position (apart new) end there two target
            (applied-one (merge next position 0) (apart new) (old.items, taken.then_cells) reversed));
        items = refl;
        selection = selection-back position long
            ∙ (λ t. selected (between position (same_numbers position old.selection.range.end collapsed t)) (sym (sound.selection.1 collapsed) t));
      }
    where
      back : (n : ℕ) → n + 1 - 1 ≡ n
      back n = omega arith

-- the plan of `enter` at a caret
enabled : (rules : Rules) (old : Document) (edits : List Edit) → plan rules Enter None old ≡ Ok edits
    → (enter_is_enabled rules old ≡ true) × (enter_edits old ≡ edits)
enabled rules old edits e = go (enter_is_enabled rules old) refl e
  where
    go : (t : Bool) → enter_is_enabled rules old ≡ t → ◌≡◌ {A = Result (List Edit) CommandFault} (if t then Ok (enter_edits old) else Err Disabled)
        (Ok edits) → (enter_is_enabled rules old ≡ true) × (enter_edits old ≡ edits)
    go true t e = (t, cc)
    go false t e = absurd cc

enter-caret : (old : Document) → is_collapsed old.selection.range ≡ true
    → enter_edits old ≡ Split old.selection.range.start ∷ caret_at (behind (parent_of old.selection.range.start) ++ 0 ∷ []) ∷ []
enter-caret old collapsed =
    let start = old.selection.range.start in
    let end = old.selection.range.end in
    let last = caret_at (behind (parent_of start) ++ 0 ∷ []) ∷ [] in
    ap (λ t. (if t then [] else Remove start end ∷ []) ++ ((if are_in_one start end then Split start ∷ [] else []) ++ last)) collapsed
    ∙ ap (λ t. (if t then Split start ∷ [] else []) ++ last) (numbers_same (parent_of start) (parent_of end) (ap parent_of (same_numbers start end collapsed)))

pub takes-back : (rules : Rules) (old new : Document) (edits : List Edit) → IsSound (apart old) → is_collapsed old.selection.range ≡ true
    → plan rules Enter None old ≡ Ok edits
    → edits_made (is_registered rules) edits old ≡ Ok new → IsGivenBack rules DeleteBackward old new
takes-back rules old new edits sound collapsed planned performed =
    let start = old.selection.range.start in
    let on = enabled rules old edits planned in
    let plain = first (is_plain_block_at rules old.items (parent_of start))
    (are_in_one start old.selection.range.end || joins_blocks rules old.items old.selection.range) on.0 in
    let caret_there = behind (parent_of start) ++ 0 ∷ [] in
    let m = two-made (is_registered rules) (Split start) (caret_at caret_there) old new
    (ap (λ edits. edits_made (is_registered rules) edits old) (sym (enter-caret old collapsed) ∙ on.1) ∙ performed) in
    let s = split-made (is_registered rules) 1 start (apart old) m.between_them m.one in
    let a = one-applied (split start (fresh old.next_id)) (apart old) m.between_them s.applied in
    let selection = select-made (is_registered rules) 2 caret_there caret_there false m.between_them m.end m.two in
    let long : 2 ≤ length start = at-least (length start) s.inside in
    subst (λ d. IsGivenBack rules DeleteBackward old d)
    (ap (λ (s : State). (with_selection (selected (between caret_there caret_there) false) s).document) a.result ∙ ap (λ (s : State). s.document) selection
    ∙ m.result)
    (given-back rules old a.made long sound collapsed plain a.effect)
  where
    first : (a b : Bool) → (a && b) ≡ true → a ≡ true
    first true b e = refl
    first false b e = e

    at-least : (n : ℕ) → nat_le 2 n ≡ true → 2 ≤ n
    at-least n e = grind (arith, nat_tests)
