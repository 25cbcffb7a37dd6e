-- The edits that commands plan at a caret find their places.
use Rattle.std.proofs.Common.{◌≡◌, ◌≢◌, ℕ, zero, suc, ◌+◌, ◌-◌, ◌≤◌, Bool, true, false, ◌&&◌, ◌||◌, ◌==◌, nat_lt, List, [], ◌∷◌, ◌++◌, length, take, drop}
use Rattle.std.proofs.Common.{Option, Some, None, is_some, ok_or, option_and_then, slice_get, Result, Ok, refl, sym, ap, ◌∙◌, arith}
use Rattle.std.proofs.lemmas.Bool.Decides.{nat_tests}
use Rattle.std.specs.Option.{option_map_or}
use Rattle.item_definitions.specs.Item.{Item, Attributes, character, element, none, inner}
use Rattle.item_definitions.specs.Children.{parent_of, offset_of, children_at, item_at, at}
use Rattle.item_definitions.specs.Position.{behind, not_after, path_before}
use Rattle.item_definitions.proofs.Order.{not_after-cons, not_after-parent, not_after-itself, behind-push}
use Rattle.item_definitions.proofs.Paths.{parent_of-push, offset_of-push, path-joined}
use Rattle.operation_definitions.specs.Operation.{Fault, insert, no_place}
use Rattle.operation_definitions.specs.After.{after}
use Rattle.operation_definitions.specs.Level.{put_in}
use Rattle.operation_definitions.proofs.Steps.{step-ok, ok_or-some}
use Rattle.operation_definitions.proofs.Simple.{after-effect, pair-first}
use Rattle.operation_definitions.proofs.Levels.{replaced}
use Rattle.model_tree.proofs.Shown.{item_last}
use Rattle.document_definitions.specs.Document.{State}
use Rattle.edit_definitions.specs.declared.edit.Edit.TheVariants.{InsertElement}
use Rattle.edit_definitions.specs.Places.{is_there, is_range, is_element}
use Rattle.edit_definitions.specs.Planned.{name_of}
use Rattle.edit_definitions.specs.Performed.{performed, all_performed}
use Rattle.edit_definitions.proofs.Reached.{has-room}
use Rattle.edit_definitions.proofs.Stay.{place-there, there-from, element-part}
use Rattle.command_definitions.specs.Places.{is_element_of, backward}
use Rattle.command_definitions.specs.Deleting.{item_selected}
use Rattle.command_definitions.specs.Finding.{FindsPlaces}
use Rattle.command_definitions.proofs.Halves.{levels}
use Rattle.command_definitions.proofs.Applying.{Tree, one-applied}
use Rattle.command_definitions.proofs.Performing.{insert-made}
use Rattle.command_definitions.proofs.Finding.{edits-find, last-finds, element-finds, select-finds}

-- ---- places

pub named-element : (test : List ℕ → Bool) (items : List Item) (path : List ℕ) → is_element_of test items path ≡ true → is_element items path ≡ true
named-element test items path e = go (item_at path items) e
  where
    go : (o : Option Item) → option_map_or test (option_and_then name_of o) false ≡ true → is_some (option_and_then inner o) ≡ true
    go None e = absurd cc
    go (Some (character scalar attributes)) e = absurd cc
    go (Some (element id name attributes children)) e = refl

three : (a b c : Bool) → a ≡ true → b ≡ true → c ≡ true → (a && b && c) ≡ true
three a b c e f g = (λ t. e t && f t && g t)

pub element-range : (items : List Item) (path : List ℕ) → is_element items path ≡ true → is_range items path (behind path) ≡ true
element-range items path e =
    let part = element-part items path e in
    three (is_there items path) (is_there items (behind path)) (not_after path (behind path)) (place-there items path part.first)
    (place-there items (behind path) part.last) part.ordered

pub element-position : (items : List Item) (path : List ℕ) → is_element items path ≡ true → is_there items path ≡ true
element-position items path e = place-there items path (element-part items path e).first

pub next-position : (items : List Item) (path : List ℕ) → is_element items path ≡ true → is_there items (behind path) ≡ true
next-position items path e = place-there items (behind path) (element-part items path e).last

pub caret-range : (items : List Item) (caret : List ℕ) → is_there items caret ≡ true → is_range items caret caret ≡ true
caret-range items caret e = three (is_there items caret) (is_there items caret) (not_after caret caret) e e (not_after-itself caret)

-- a path that isn't empty, seen from the position behind its item
pub behind-before : (path : List ℕ) → path ≢ [] → path_before (behind path) ≡ path
behind-before path some =
    let whole = path-joined path some in
    let next : behind path ≡ parent_of path ++ (offset_of path + 1) ∷ [] = ap behind whole ∙ behind-push (parent_of path) (offset_of path) in
    ap path_before next
    ∙ (λ t. parent_of-push (parent_of path) (offset_of path + 1) t ++ (offset_of-push (parent_of path) (offset_of path + 1) t - 1) ∷ [])
    ∙ ap (λ n. parent_of path ++ n ∷ []) (back (offset_of path)) ∙ sym whole
  where
    back : (n : ℕ) → n + 1 - 1 ≡ n
    back n = omega arith

pub behind-offset : (path : List ℕ) → path ≢ [] → offset_of (behind path) ≡ offset_of path + 1
behind-offset path some = ap (λ p. offset_of (behind p)) (path-joined path some) ∙ ap offset_of (behind-push (parent_of path) (offset_of path))
    ∙ offset_of-push (parent_of path) (offset_of path + 1)

-- offsets of one parent are a range where they are in order and there
pub offsets-range : (items : List Item) (parent : List ℕ) (low high : ℕ) (level : List Item) → children_at parent items ≡ Some level → low ≤ high
    → high ≤ length level
    → is_range items (parent ++ low ∷ []) (parent ++ high ∷ []) ≡ true
offsets-range items parent low high level there ordered room =
    three (is_there items (parent ++ low ∷ [])) (is_there items (parent ++ high ∷ [])) (not_after (parent ++ low ∷ []) (parent ++ high ∷ []))
    (there-from items parent low level there (omega (arith, ordered, room))) (there-from items parent high level there room)
    (not_after-parent parent (low ∷ []) (high ∷ []) ∙ not_after-cons low high [] [] ∙ less low high ordered)
  where
    less : (a b : ℕ) → a ≤ b → (nat_lt a b || (a == b && true)) ≡ true
    less a b h = grind (arith, nat_tests)

-- so many items before a position are a range, or all that there are
pub backward-range : (items : List Item) (caret : List ℕ) (count : ℕ) → is_there items caret ≡ true → is_range items (backward count caret) caret ≡ true
backward-range items caret count there =
    let r = has-room items caret there in
    let room = r.room in
    ap (is_range items (backward count caret)) (path-joined caret r.some)
    ∙ offsets-range items (parent_of caret) (offset_of caret - count) (offset_of caret) r.level r.there (omega arith) room

-- ---- an element that comes in

found-behind : (offset : ℕ) (xs rest : List Item) → offset ≤ length xs → slice_get (take offset xs ++ rest) offset ≡ slice_get rest 0
found-behind zero xs rest room = refl
found-behind (suc offset) [] rest room = absurd (omega (arith, room))
found-behind (suc offset) (x ∷ xs) rest room = found-behind offset xs rest (omega (arith, room))

inserted : (items : List Item) (cells : List (List Item)) (position : List ℕ) (item : Item) (made : Tree) → position ≢ []
    → after items cells (insert position (item ∷ [])) ≡ Ok made
    → item_at position made.0 ≡ Some item
inserted items cells position item made some e =
    let change = put_in (offset_of position) (item ∷ []) in
    let tail : List Item × Unit {0} → Result Tree Fault = λ m. Ok (m.0, cells) in
    let a = step-ok (ok_or (at (parent_of position) change items) no_place) tail made (after-effect items cells (insert position (item ∷ [])) made e) in
    let there = ok_or-some (at (parent_of position) change items) no_place a.0 a.1 in
    let l = levels (parent_of position) change items a.0.0 a.0.1 there in
    let h = replaced (offset_of position) 0 (λ items. Some (item ∷ items, tt)) l.level l.new a.0.1 l.made in
    let new : item ∷ [] ≡ h.new = ap front h.gives in
    let room : offset_of position ≤ length l.level = (let most = h.room in omega (arith, most)) in
    ap (item_at position) (sym (pair-first (a.0.0, cells) made a.2))
    ∙ sym (item_last (parent_of position) (offset_of position) position a.0.0 l.new (path-joined position some) l.then_there)
    ∙ ap (λ ys. slice_get ys (offset_of position)) (sym h.result)
    ∙ found-behind (offset_of position) l.level (h.new ++ drop (offset_of position + 0) l.level) room
    ∙ ap (λ xs. slice_get (xs ++ drop (offset_of position + 0) l.level) 0) (sym new)
  where
    front : Option (List Item × Unit {0}) → List Item
    front None = []
    front (Some p) = p.0

pub element-inserted : (registered : List ℕ → Bool) (number : ℕ) (position name : List ℕ) (attributes : Attributes) (state new : State)
    → is_there state.document.items position ≡ true
    → performed registered number (InsertElement position name attributes) state ≡ Ok new → is_element new.document.items position ≡ true
element-inserted registered number position name attributes state new there e =
    let item = element state.document.next_id name attributes none in
    let a = one-applied (insert position (item ∷ [])) state new (insert-made registered number position name attributes state new e) in
    let here = inserted state.document.items state.cells position item a.made (has-room state.document.items position there).some a.effect in
    ap (λ (s : State). is_element s.document.items position) (sym a.result) ∙ ap (λ o. is_some (option_and_then inner o)) here

-- an element comes in and is selected
pub placed-finds : (registered : List ℕ → Bool) (number : ℕ) (place name : List ℕ) (state : State) → is_there state.document.items place ≡ true
    → FindsPlaces (all_performed registered number (InsertElement place name [] ∷ item_selected place ∷ []) state)
placed-finds registered number place name state there =
    edits-find registered number (InsertElement place name []) (item_selected place ∷ []) state (element-finds registered number state place name [] there)
    (λ next e. last-finds registered (number + 1) (item_selected place) next
    (select-finds registered (number + 1) next place (behind place) false
    (element-range next.document.items place (element-inserted registered number place name [] state next there e))))
