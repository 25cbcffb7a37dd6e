-- What an edit plans can be made, but for the limits on the tree: runs that move.
use Rattle.std.proofs.Common.{◌≡◌, ℕ, ◌+◌, ◌≤◌, Bool, true, false, not, nat_lt, ◌&&◌, ◌||◌, ◌==◌, if◌then◌else◌, List, [], ◌∷◌, ◌++◌, length, take, drop, Some}
use Rattle.std.proofs.Common.{None, ok_or, unwrap_or, option_map, slice_get, Result, Ok, refl, sym, ap, ◌∙◌, subst, arith, append_assoc, length-append}
use Rattle.std.specs.Option.{option_map_or}
use Rattle.std.proofs.lemmas.List.{length-take-le}
use Rattle.std.proofs.lemmas.Bool.Decides.{nat_tests}
use Rattle.item_definitions.specs.Item.{Item, element, none, Attributes}
use Rattle.item_definitions.specs.Children.{parent_of, offset_of, children_at, child_count, at}
use Rattle.item_definitions.specs.Position.{not_after, behind}
use Rattle.item_definitions.specs.Shift.{carry_remove, rule_remove, within, forward, rest_behind}
use Rattle.item_definitions.proofs.Order.{not_after-cons, not_after-parent, behind-push}
use Rattle.item_definitions.proofs.Paths.{parent_of-push, offset_of-push, path-joined}
use Rattle.operation_definitions.specs.Level.{put_in, take_out}
use Rattle.operation_definitions.specs.Operation.{Fault, no_place, into_itself, Operation, in_tree, in_cell, insert, move}
use Rattle.operation_definitions.specs.After.{◌>>=◌, check, effect, room_at, is_in_run, fill}
use Rattle.operation_definitions.specs.Reversed.{IsLimited}
use Rattle.operation_definitions.proofs.Steps.{step, step-some, step-check}
use Rattle.operation_definitions.proofs.Simple.{cut}
use Rattle.operation_definitions.proofs.Names.{numbers_same}
use Rattle.operation_definitions.proofs.Stays.{put_in-room}
use Rattle.operation_definitions.proofs.Moves.{forward-is}
use Rattle.document_definitions.specs.Selection.{same_position}
use Rattle.document_definitions.specs.Document.{State, changed, all_applied}
use Rattle.edit_definitions.specs.Places.{is_there, is_range, are_in_one, is_element, is_between}
use Rattle.edit_definitions.specs.Planned.{count_in, empty_element, insertion, moved_run}
use Rattle.edit_definitions.specs.Applied.{AreApplied}
use Rattle.edit_definitions.proofs.Alike.{next-free}
use Rattle.edit_definitions.proofs.Reached.{Reached, reached, found, has-room, element-there, children-below, replace-room, put-room, one-there}
use Rattle.edit_definitions.proofs.Works.{Made, next-applied, one-applied}
use Rattle.edit_definitions.proofs.Stay.{there-from, remove-there, in-order-both, in-is-after, Flat, flat}

-- a run is taken out
taken : (items : List Item) (from : List ℕ) (count : ℕ) (level : List Item) → children_at (parent_of from) items ≡ Some level → offset_of from + count
    ≤ length level
    → (left run : List Item) × (at (parent_of from) (take_out (offset_of from) count) items ≡ Some (left, run))
taken items from count level there room =
    let out = replace-room (offset_of from) count (λ run. Some ([], run)) level [] (take count (drop (offset_of from) level)) room refl in
    let whole = reached (parent_of from) (take_out (offset_of from) count) items level
    (take (offset_of from) level ++ ([] ++ drop (offset_of from + count) level)) (take count (drop (offset_of from) level)) there out in
    (whole.whole, take count (drop (offset_of from) level), whole.made)

-- a run goes into the next new cell
pub record Stores (items : List Item) (cells : List (List Item)) (from : List ℕ) (count : ℕ) : Type 0 where
  pub left : List Item
  pub run : List Item
  pub works : effect items cells (move (in_tree from) count (in_cell (length cells))) ≡ Ok (left, fill cells (length cells) run)

pub store-works : (items : List Item) (cells : List (List Item)) (from : List ℕ) (count : ℕ) (level : List Item) → children_at (parent_of from) items
    ≡ Some level → offset_of from + count ≤ length level
    → Stores items cells from count
store-works items cells from count level there room =
    let t = taken items from count level there room in
    record { left = t.0; run = t.1; works = cut items t.0 t.1 cells from count (length cells) t.2 (next-free cells) }

-- what a run that goes to another place makes: that place is then in the tree
pub record Moves (items : List Item) (cells : List (List Item)) (from : List ℕ) (count : ℕ) (to : List ℕ) : Type 0 where
  pub made : Made
  pub works : effect items cells (move (in_tree from) count (in_tree to)) ≡ Ok made
  pub beside : made.1 ≡ cells
  pub level : List Item
  pub there : children_at (parent_of (carry_remove from count to)) made.0 ≡ Some level
  pub room : offset_of (carry_remove from count to) ≤ length level

pub move-works : (items : List Item) (cells : List (List Item)) (from : List ℕ) (count : ℕ) (to : List ℕ) (level : List Item) → IsLimited items
    → children_at (parent_of from) items ≡ Some level
    → offset_of from + count ≤ length level → is_there items to ≡ true → is_in_run from count to ≡ false → Moves items cells from count to
move-works items cells from count to level limits there room target_there outside =
    let t = taken items from count level there room in
    let target = carry_remove from count to in
    let s = has-room items to target_there in
    let nothing = put_in-room (offset_of to) [] s.level s.room in
    let standing = reached (parent_of to) (put_in (offset_of to) []) items s.level nothing.0.0 nothing.0.1 s.there nothing.1 in
    let r = has-room t.0 target (remove-there from count items t.0 t.1 to limits t.2 target_there) in
    let new = take (offset_of target) r.level ++ ((t.1 ++ []) ++ drop (offset_of target + 0) r.level) in
    let whole = reached (parent_of target) (put_in (offset_of target) t.1) t.0 r.level new tt r.there (put-room (offset_of target) t.1 r.level r.room) in
    let last : List Item × List Item → Result Made Fault = λ taken. ok_or (at (parent_of target) (put_in (offset_of target) taken.1) taken.0) no_place
    >>= (λ m. Ok (m.0, cells)) in
    let next : List Item × List Item → Result Made Fault = λ taken. ok_or (room_at items to) no_place
    >>= (λ _. check (not (is_in_run from count to)) into_itself >>= (λ _. last taken)) in
    record {
      made = (whole.whole, cells);
      works = step-some (at (parent_of from) (take_out (offset_of from) count) items) no_place next (t.0, t.1) (Ok (whole.whole, cells)) t.2
          (step-some (room_at items to) no_place (λ _. check (not (is_in_run from count to)) into_itself >>= (λ _. last (t.0, t.1)))
          (standing.whole, nothing.0.1) (Ok (whole.whole, cells)) standing.made
          (step-check (not (is_in_run from count to)) into_itself (λ _. last (t.0, t.1)) (Ok (whole.whole, cells)) (ap not outside)
          (step-some (at (parent_of target) (put_in (offset_of target) t.1) t.0) no_place (λ m. Ok (m.0, cells)) (whole.whole, tt)
          (Ok (whole.whole, cells)) whole.made refl)));
      beside = refl;
      level = new;
      there = whole.there;
      room = (let rest = length-append (take (offset_of target) r.level) ((t.1 ++ []) ++ drop (offset_of target + 0) r.level)
          in let front = length-take-le (offset_of target) r.level r.room in omega (arith, rest, front));
    }

-- a move to a place that isn't in the run or at an end of it
pub moved-applied : (state : State) (start end to : List ℕ) → IsLimited state.document.items → is_there state.document.items to ≡ true
    → (is_range state.document.items start end && are_in_one start end) ≡ true
    → not (is_between start end to) ≡ true → AreApplied (all_applied (moved_run start end to) state)
moved-applied state start end to limits there range outside = go (same_position start end || same_position to start || same_position to end) refl
  where
    items : List Item
    items = state.document.items

    f : Flat items start end
    f = flat items start end range

    -- not at an end of the run and not in it
    beyond : (between_start between_end in_start in_end : Bool) → (in_start ≡ true → between_start ≡ true → to ≡ start)
        → (in_end ≡ true → between_end ≡ true → to ≡ end)
        → (to ≡ start → ⊥) → (to ≡ end → ⊥) → not (not between_start && not between_end) ≡ true → (in_start && in_end) ≡ false
    beyond true between_end true in_end s e no_start no_end h = absurd (no_start (s refl refl))
    beyond true between_end false in_end s e no_start no_end h = refl
    beyond false between_end false in_end s e no_start no_end h = refl
    beyond false between_end true false s e no_start no_end h = refl
    beyond false true true true s e no_start no_end h = absurd (no_end (e refl refl))
    beyond false false true true s e no_start no_end h = absurd cc

    neither : (a b c : Bool) → (a || b || c) ≡ false → (b ≡ false) × (c ≡ false)
    neither true b c e = absurd cc
    neither false true c e = absurd cc
    neither false false c e = (refl, e)

    differ : (p q : List ℕ) → same_position p q ≡ false → p ≡ q → ⊥
    differ p q e same = (let f = numbers_same p q same in cc)

    go : (t : Bool) → (same_position start end || same_position to start || same_position to end) ≡ t
        → AreApplied (all_applied (if t then [] else move (in_tree start) (count_in start end) (in_tree to) ∷ []) state)
    go true e = tt
    go false e =
        let n = neither (same_position start end) (same_position to start) (same_position to end) e in
        let out : (not_after start to && not_after to end) ≡ false =
        beyond (not_after to start) (not_after end to) (not_after start to) (not_after to end) (λ a b. in-order-both to start b a)
        (λ a b. in-order-both to end a b)
        (differ to start n.0) (differ to end n.1) outside in
        let m = move-works items state.cells start (count_in start end) to f.level limits f.there f.room there
        (ap (λ p. not_after start to && not_after to p) f.ends ∙ out) in
        one-applied (move (in_tree start) (count_in start end) (in_tree to)) state (m.made, m.works)

-- the item that came in stands where it came in
came-in : (front back : List Item) (item : Item) → slice_get (front ++ item ∷ back) (length front) ≡ Some item
came-in [] back item = refl
came-in (first ∷ front) back item = came-in front back item

-- a new element, and a run before it that goes into it
pub wrapped-applied : (state : State) (start end name : List ℕ) (attributes : Attributes)
    → (is_range state.document.items start end && are_in_one start end) ≡ true
    → AreApplied (all_applied (insertion end (empty_element state.document.next_id name attributes) ++ (if same_position start end then []
    else move (in_tree start) (count_in start end) (in_tree (end ++ 0 ∷ [])) ∷ [])) state)
wrapped-applied state start end name attributes range =
    next-applied (insert end (shell ∷ [])) (if same_position start end then [] else run ∷ []) state (whole.whole, state.cells)
    (step-some (at (parent_of end) (put_in (offset_of end) (shell ∷ [])) items) no_place (λ (made : List Item × Unit {0}). Ok (made.0, state.cells))
    (whole.whole, tt) (Ok (whole.whole, state.cells)) whole.made refl)
    (λ limits. go (same_position start end) limits)
  where
    items : List Item
    items = state.document.items

    shell : Item
    shell = element state.document.next_id name attributes none

    run : Operation
    run = move (in_tree start) (count_in start end) (in_tree (end ++ 0 ∷ []))

    f : Flat items start end
    f = flat items start end range

    level : List Item
    level = (has-room items end f.last).level

    new : List Item
    new = take (offset_of end) level ++ (((shell ∷ []) ++ []) ++ drop (offset_of end + 0) level)

    whole : Reached (parent_of end) (put_in (offset_of end) (shell ∷ [])) items new tt
    whole = reached (parent_of end) (put_in (offset_of end) (shell ∷ [])) items level new tt (has-room items end f.last).there
        (put-room (offset_of end) (shell ∷ []) level (has-room items end f.last).room)

    long : length (take (offset_of end) level) ≡ offset_of end
    long = length-take-le (offset_of end) level (has-room items end f.last).room

    inside : children_at end whole.whole ≡ Some []
    inside =
        ap (λ p. children_at p whole.whole) (path-joined end (has-room items end f.last).some)
        ∙ children-below (parent_of end) (offset_of end) whole.whole new [] shell whole.there (ap (slice_get new) (sym long)
        ∙ came-in (take (offset_of end) level) (drop (offset_of end + 0) level) shell) refl

    go : (t : Bool) → IsLimited whole.whole
        → AreApplied (all_applied (if t then [] else run ∷ []) (changed (insert end (shell ∷ [])) state (whole.whole, state.cells)))
    go true limits = tt
    go false limits =
        let m = move-works whole.whole state.cells start (count_in start end) (end ++ 0 ∷ []) new limits (ap (λ p. children_at p whole.whole) f.one
        ∙ whole.there)
        (let least = f.short in let rest = length-append (take (offset_of end) level) (((shell ∷ []) ++ []) ++ drop (offset_of end + 0) level)
        in omega (arith, least, rest, long))
        (there-from whole.whole end 0 [] inside (omega arith))
        (ap (λ p. not_after start (end ++ 0 ∷ []) && not_after (end ++ 0 ∷ []) p) f.ends
        ∙ ap (λ b. not_after start (end ++ 0 ∷ []) && b) (in-is-after end 0) ∙ neither (not_after start (end ++ 0 ∷ []))) in
        one-applied run (changed (insert end (shell ∷ [])) state (whole.whole, state.cells)) (m.made, m.works)
      where
        neither : (b : Bool) → (b && false) ≡ false
        neither true = refl
        neither false = refl

-- no place behind an item is in it
nothing-behind : (parent : List ℕ) (offset : ℕ) → rest_behind (parent ++ offset ∷ []) (parent ++ (offset + 1) ∷ []) ≡ None
nothing-behind [] offset = ap (λ t. if t then Some [] else None) (no offset)
  where
    no : (n : ℕ) → (n == n + 1) ≡ false
    no n = grind (arith, nat_tests)
nothing-behind (step ∷ parent) offset = ap (λ t. if t then rest_behind (parent ++ offset ∷ []) (parent ++ (offset + 1) ∷ []) else None) (own step)
    ∙ nothing-behind parent offset
  where
    own : (n : ℕ) → (n == n) ≡ true
    own n = grind (arith, nat_tests)

-- the items of an element go behind it, and then it goes
pub unwrapped-applied : (state : State) (path : List ℕ) → IsLimited state.document.items → is_element state.document.items path ≡ true
    → AreApplied (all_applied ((if unwrap_or (child_count state.document.items path) 0 == 0 then []
    else move (in_tree (path ++ 0 ∷ [])) (unwrap_or (child_count state.document.items path) 0) (in_tree (behind path)) ∷ [])
    ++ move (in_tree path) 1 (in_cell (length state.cells)) ∷ []) state)
unwrapped-applied state path limits here = go (count == 0)
  where
    items : List Item
    items = state.document.items

    count : ℕ
    count = unwrap_or (child_count items path) 0

    shell : Operation
    shell = move (in_tree path) 1 (in_cell (length state.cells))

    run : Operation
    run = move (in_tree (path ++ 0 ∷ [])) count (in_tree (behind path))

    last : (new : State) → length new.cells ≡ length state.cells → (level : List Item) → children_at (parent_of path) new.document.items ≡ Some level
        → offset_of path + 1 ≤ length level → AreApplied (all_applied (shell ∷ []) new)
    last new long level there room =
        subst (λ n. AreApplied (all_applied (move (in_tree path) 1 (in_cell n) ∷ []) new)) long
        (let s = store-works new.document.items new.cells path 1 level there room
        in one-applied (move (in_tree path) 1 (in_cell (length new.cells))) new ((s.left, fill new.cells (length new.cells) s.run), s.works))

    go : (t : Bool) → AreApplied (all_applied ((if t then [] else run ∷ []) ++ shell ∷ []) state)
    go true =
        let e = element-there items path here in
        let f = found path items e.item e.here in
        last state refl f.level f.there (one-there (offset_of path) f.level e.item f.here).0
    go false =
        let e = element-there items path here in
        let f = found path items e.item e.here in
        let whole = path-joined path f.some in
        let next : behind path ≡ parent_of path ++ (offset_of path + 1) ∷ [] = ap behind whole ∙ behind-push (parent_of path) (offset_of path) in
        let kids : children_at path items ≡ Some e.kids = ap (λ p. children_at p items) whole
        ∙ children-below (parent_of path) (offset_of path) items f.level e.kids e.item f.there f.here e.holds in
        let many : count ≡ length e.kids = ap (λ o. unwrap_or (option_map length o) 0) kids in
        let o = one-there (offset_of path) f.level e.item f.here in
        let end : forward count (path ++ 0 ∷ []) ≡ parent_of path ++ offset_of path ∷ (0 + count) ∷ [] =
        forward-is count path 0 ∙ ap (λ p. p ++ (0 + count) ∷ []) whole ∙ append_assoc (parent_of path) (offset_of path ∷ []) ((0 + count) ∷ []) in
        let out : is_in_run (path ++ 0 ∷ []) count (behind path) ≡ false =
        (λ t. not_after (path ++ 0 ∷ []) (behind path) && not_after (next t) (end t))
        ∙ ap (λ b. not_after (path ++ 0 ∷ []) (behind path) && b)
        (not_after-parent (parent_of path) ((offset_of path + 1) ∷ []) (offset_of path ∷ (0 + count) ∷ [])
        ∙ not_after-cons (offset_of path + 1) (offset_of path) [] ((0 + count) ∷ []))
        ∙ beyond (not_after (path ++ 0 ∷ []) (behind path)) (offset_of path) (not_after [] ((0 + count) ∷ [])) in
        let m = move-works items state.cells (path ++ 0 ∷ []) count (behind path) e.kids limits (ap (λ p. children_at p items) (parent_of-push path 0) ∙ kids)
        (let zero = offset_of-push path 0 in omega (arith, zero, many)) (ap (is_there items) next
        ∙ there-from items (parent_of path) (offset_of path + 1) f.level f.there o.0) out in
        let inside : parent_of (path ++ 0 ∷ []) ≡ parent_of path ++ offset_of path ∷ [] = parent_of-push path 0 ∙ whole in
        let stays : carry_remove (path ++ 0 ∷ []) count (behind path) ≡ parent_of path ++ (offset_of path + 1) ∷ [] =
        (λ t. within (inside t) (rule_remove (offset_of (path ++ 0 ∷ [])) count) (next t))
        ∙ ap (λ o. option_map_or (λ rest. (parent_of path ++ offset_of path ∷ []) ++ rule_remove (offset_of (path ++ 0 ∷ [])) count rest) o
        (parent_of path ++ (offset_of path + 1) ∷ [])) (nothing-behind (parent_of path) (offset_of path)) in
        next-applied run (shell ∷ []) state m.made m.works
        (λ _. last (changed run state m.made) (ap length m.beside) m.level
        (ap (λ p. children_at p m.made.0) (sym (parent_of-push (parent_of path) (offset_of path + 1)) ∙ ap parent_of (sym stays)) ∙ m.there)
        (let at_end : offset_of (carry_remove (path ++ 0 ∷ []) count (behind path)) ≡ offset_of path + 1 = ap offset_of stays
        ∙ offset_of-push (parent_of path) (offset_of path + 1) in let most = m.room in omega (arith, at_end, most)))
      where
        beyond : (b : Bool) (n : ℕ) (r : Bool) → (b && (nat_lt (n + 1) n || (n + 1 == n && r))) ≡ false
        beyond true n r = grind (arith, nat_tests)
        beyond false n r = refl
