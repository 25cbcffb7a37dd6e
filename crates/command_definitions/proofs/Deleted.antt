-- What is there when the selected content has gone.
use Rattle.std.proofs.Common.{◌≡◌, ◌≢◌, ℕ, ◌+◌, ◌-◌, ◌<◌, Bool, true, false, not, ◌&&◌, ◌==◌, nat_lt, if◌then◌else◌, List, [], ◌∷◌, ◌++◌, reverse, length}
use Rattle.std.proofs.Common.{Some, is_some, unwrap_or, option_and_then, Result, Ok, refl, sym, ap, subst, ◌∙◌, arith, append_assoc}
use Rattle.std.proofs.lemmas.Bool.Decides.{nat_tests}
use Rattle.std.specs.Option.{option_map_or}
use Rattle.ck_base.specs.declared.faults.EditFault.{EditFault}
use Rattle.ck_base.specs.declared.faults.EditFault.TheVariants.{BadPosition, BadRange, BadTarget}
use Rattle.item_definitions.specs.Item.{Item, inner}
use Rattle.item_definitions.specs.Children.{parent_of, offset_of, children_at, child_count}
use Rattle.item_definitions.specs.Position.{between, behind, not_after, IsRange, path_before}
use Rattle.item_definitions.specs.FlatParts.{flat_parts}
use Rattle.item_definitions.specs.Shift.{within, rule_merge, rest_behind, carry_range}
use Rattle.item_definitions.specs.Shift as shifts
use Rattle.item_definitions.proofs.Order.{not_after-itself, behind-push}
use Rattle.item_definitions.proofs.Paths.{parent_of-push, offset_of-push, path-joined}
use Rattle.operation_definitions.specs.Operation.{Operation, merge}
use Rattle.operation_definitions.proofs.Names.{same_numbers}
use Rattle.model_tree.proofs.Shown.{item_last}
use Rattle.schema_definitions.specs.Allowed.{Rules}
use Rattle.document_definitions.specs.Document.{State, all_applied}
use Rattle.document_definitions.proofs.Ranges.{keeps_ranges}
use Rattle.edit_definitions.specs.declared.edit.Edit.{Edit}
use Rattle.edit_definitions.specs.declared.edit.Edit.TheVariants.{Remove, Merge}
use Rattle.edit_definitions.specs.Places.{is_there, is_range, is_element, are_in_one}
use Rattle.edit_definitions.specs.Planned.{◌>>=◌, check, removals, operations_of}
use Rattle.edit_definitions.specs.Performed.{as_step, selecting, performed, all_performed}
use Rattle.edit_definitions.proofs.Reached.{has-room, entered}
use Rattle.edit_definitions.proofs.Stay.{there-place, place-there}
use Rattle.command_definitions.specs.Places.{is_plain_block_at}
use Rattle.command_definitions.specs.Deleting.{joins_blocks, content_deleted}
use Rattle.command_definitions.specs.Finding.{FindsPlaces}
use Rattle.command_definitions.proofs.Applying.{one-applied}
use Rattle.command_definitions.proofs.Performing.{step-made, same-state, same-operations, as-made}
use Rattle.command_definitions.proofs.Returning.{rest-pushed}
use Rattle.command_definitions.proofs.Finding.{edits-find, remove-finds, merge-finds}
use Rattle.command_definitions.proofs.AtCaret.{element-position, behind-before, behind-offset}
use Rattle.command_definitions.proofs.Removing.{carried_all, carried-through, start-stays, end-after}

-- a range that is there, and its parts
record Parts (items : List Item) (start end : List ℕ) : Type 0 where
  first : is_there items start ≡ true
  last : is_there items end ≡ true
  ordered : not_after start end ≡ true

parts : (items : List Item) (start end : List ℕ) → is_range items start end ≡ true → Parts items start end
parts items start end e = go (is_there items start) (is_there items end) (not_after start end) refl refl refl e
  where
    go : (a b c : Bool) → is_there items start ≡ a → is_there items end ≡ b → not_after start end ≡ c → (a && b && c) ≡ true → Parts items start end
    go true true true a b c e = record { first = a; last = b; ordered = c }
    go true true false a b c e = absurd cc
    go true false c a b d e = absurd cc
    go false b c a d f e = absurd cc

-- the parent of a position that is there is an element, or the root
pub parent-element : (items : List Item) (path : List ℕ) (offset : ℕ) → path ≢ [] → is_there items (path ++ offset ∷ []) ≡ true → is_element items path ≡ true
parent-element items path offset some e =
    let r = has-room items (path ++ offset ∷ []) e in
    let joined = path-joined path some in
    let there : children_at (parent_of path ++ offset_of path ∷ []) items ≡ Some r.level =
    ap (λ p. children_at p items) (sym joined ∙ sym (parent_of-push path offset)) ∙ r.there in
    let f = entered (parent_of path) (offset_of path) items r.level there in
    ap (λ o. is_some (option_and_then inner o)) (sym (item_last (parent_of path) (offset_of path) path items f.level joined f.there) ∙ f.here)
    ∙ ap is_some f.holds

-- the items of a range that went
remove-made : (registered : List ℕ → Bool) (number : ℕ) (start end : List ℕ) (state new : State) → performed registered number (Remove start end) state ≡ Ok new
    → all_applied (removals (length state.cells) (reverse (flat_parts (child_count state.document.items) (between start end)))) state ≡ Ok new
remove-made registered number start end state new e =
    let only = removals (length state.cells) (reverse (flat_parts (child_count state.document.items) (between start end))) in
    let a = step-made (operations_of registered number (Remove start end) state)
    (λ operations. as_step number (all_applied operations state) >>= (λ made. Ok (selecting (Remove start end) made))) new e in
    let b = step-made (check (is_range state.document.items start end) (BadRange number start end)) (λ _. Ok only) a.0 a.1 in
    let c = step-made (as_step number (all_applied a.0 state)) (λ made. Ok (selecting (Remove start end) made)) new a.2 in
    ap (λ operations. all_applied operations state) (same-operations only a.0 b.2) ∙ as-made number (all_applied a.0 state) c.0 c.1
    ∙ ap (λ (s : State). Ok s) (same-state c.0 new c.2)

-- an element that was merged into the one before
merge-made : (registered : List ℕ → Bool) (number : ℕ) (path : List ℕ) (state new : State) → performed registered number (Merge path) state ≡ Ok new
    → (target : List ℕ) × (all_applied (merge path target (length state.cells) ∷ []) state ≡ Ok new)
merge-made registered number path state new e =
    let target = path_before path ++ unwrap_or (child_count state.document.items (path_before path)) 0 ∷ [] in
    let only = merge path target (length state.cells) ∷ [] in
    let test = nat_lt 0 (offset_of path) && is_element state.document.items (path_before path) && is_element state.document.items path in
    let second : Unit {0} → Result (List Operation) EditFault = λ _. check test (BadTarget number path) >>= (λ _. Ok only) in
    let a = step-made (operations_of registered number (Merge path) state)
    (λ operations. as_step number (all_applied operations state) >>= (λ made. Ok (selecting (Merge path) made))) new e in
    let b = step-made (check (is_there state.document.items path) (BadPosition number path)) second a.0 a.1 in
    let d = step-made (check test (BadTarget number path)) (λ _. Ok only) a.0 b.2 in
    let c = step-made (as_step number (all_applied a.0 state)) (λ made. Ok (selecting (Merge path) made)) new a.2 in (
      target,
      ap (λ operations. all_applied operations state) (same-operations only a.0 d.2) ∙ as-made number (all_applied a.0 state) c.0 c.1
          ∙ ap (λ (s : State). Ok s) (same-state c.0 new c.2),
    )

-- a position in an element stays when the element behind is merged into it
merge-before : (parent : List ℕ) (b count : ℕ) (rest : List ℕ) → within parent (rule_merge (b + 1) count) (parent ++ b ∷ rest) ≡ parent ++ b ∷ rest
merge-before parent b count rest =
    ap (λ o. option_map_or (λ rest. parent ++ rule_merge (b + 1) count rest) o (parent ++ b ∷ rest)) (rest-pushed parent (b ∷ rest))
    ∙ ap (λ t. parent ++ (if t then (b + 1 - 1) ∷ shifts.rule_join count rest else (if nat_lt (b + 1) b then b - 1 else b) ∷ rest)) (differ b)
    ∙ ap (λ t. parent ++ (if t then b - 1 else b) ∷ rest) (after b)
  where
    differ : (b : ℕ) → (b == b + 1) ≡ false
    differ b = grind (arith, nat_tests)

    after : (b : ℕ) → nat_lt (b + 1) b ≡ false
    after b = grind (arith, nat_tests)

start-merged : (parent : List ℕ) (b o : ℕ) (target : List ℕ) → carry_range (shifts.merge (parent ++ (b + 1) ∷ []) target)
    (between (parent ++ b ∷ o ∷ []) (parent ++ b ∷ o ∷ [])) ≡ between (parent ++ b ∷ o ∷ []) (parent ++ b ∷ o ∷ [])
start-merged parent b o target =
    let start = parent ++ b ∷ o ∷ [] in
    let same : within (parent_of (parent ++ (b + 1) ∷ [])) (rule_merge (offset_of (parent ++ (b + 1) ∷ [])) (offset_of target)) start ≡ start =
    (λ t. within (parent_of-push parent (b + 1) t) (rule_merge (offset_of-push parent (b + 1) t) (offset_of target)) start)
    ∙ merge-before parent b (offset_of target) (o ∷ []) in
    (λ t. if not (not_after (same t) (same t)) then between (same t) (same t) else between (same t) (same t))
    ∙ ap (λ t. if not t then between start start else between start start) (not_after-itself start)

-- the two blocks that a range joins
record Joined (items : List Item) (start end : List ℕ) : Type 0 where
  parent : List ℕ
  b : ℕ
  o : ℕ
  e : ℕ
  p : ℕ
  start_is : start ≡ parent ++ b ∷ o ∷ []
  end_is : end ≡ parent ++ e ∷ p ∷ []
  less : b < e
  next_is : behind (parent_of start) ≡ parent ++ (b + 1) ∷ []
  block : parent_of start ≢ []

pub plain-some : (rules : Rules) (items : List Item) (path : List ℕ) → is_plain_block_at rules items path ≡ true → path ≢ []
plain-some rules items [] e = absurd cc
plain-some rules items (index ∷ path) e = λ same. cc

joined : (rules : Rules) (items : List Item) (start end : List ℕ) → start ≢ [] → end ≢ [] → joins_blocks rules items (between start end) ≡ true
    → Joined items start end
joined rules items start end first last h =
    let one = pointwise-test in
    let tests = four one.0 one.1 (is_plain_block_at rules items (parent_of start)) (is_plain_block_at rules items (parent_of end)) h in
    let left = plain-some rules items (parent_of start) tests.2 in
    let right = plain-some rules items (parent_of end) tests.3 in
    let same : parent_of (parent_of start) ≡ parent_of (parent_of end) = same_numbers (parent_of (parent_of start)) (parent_of (parent_of end)) tests.0 in
    let block_is = path-joined (parent_of start) left in
    let above = parent_of (parent_of start) in
    record {
      parent = above;
      b = offset_of (parent_of start);
      o = offset_of start;
      e = offset_of (parent_of end);
      p = offset_of end;
      start_is = path-joined start first ∙ ap (λ q. q ++ offset_of start ∷ []) block_is
          ∙ append_assoc above (offset_of (parent_of start) ∷ []) (offset_of start ∷ []);
      end_is = path-joined end last ∙ ap (λ q. q ++ offset_of end ∷ [])
          (path-joined (parent_of end) right ∙ ap (λ q. q ++ offset_of (parent_of end) ∷ []) (sym same))
          ∙ append_assoc above (offset_of (parent_of end) ∷ []) (offset_of end ∷ []);
      less = smaller (offset_of (parent_of start)) (offset_of (parent_of end)) tests.1;
      next_is = ap behind block_is ∙ behind-push above (offset_of (parent_of start));
      block = left;
    }
  where
    pointwise-test : Bool × Bool
    pointwise-test = (are_in_one (parent_of start) (parent_of end), nat_lt (offset_of (parent_of start)) (offset_of (parent_of end)))

    four : (a b c d : Bool) → (a && b && c && d) ≡ true → (a ≡ true) × (b ≡ true) × (c ≡ true) × (d ≡ true)
    four true true true d e = (refl, refl, refl, e)
    four true true false d e = absurd cc
    four true false c d e = absurd cc
    four false b c d e = absurd cc

    smaller : (a b : ℕ) → nat_lt a b ≡ true → a < b
    smaller a b e = grind (arith, nat_tests)

module _ (registered : List ℕ → Bool) (state : State) (start end : List ℕ) (there : is_range state.document.items start end ≡ true) where
  -- the start of a range whose items went
  pub start-there : (number : ℕ) (new : State) → performed registered number (Remove start end) state ≡ Ok new → is_there new.document.items start ≡ true
  start-there number new e =
      let p = parts state.document.items start end there in
      let place = there-place state.document.items start p.first in
      let kept = carried-through (length state.cells) (reverse (flat_parts (child_count state.document.items) (between start end))) state new
      (remove-made registered number start end state new e) (between start start)
      (place, place, not_after-itself start) in
      let same = subst (IsRange (child_count new.document.items)) (start-stays (child_count state.document.items) start end p.ordered) kept in
      place-there new.document.items start same.0

  -- the end of a range from one block to another: it is at the start of the block behind that of the start
  pub end-there : (number : ℕ) (rules : Rules) (new : State) → joins_blocks rules state.document.items (between start end) ≡ true
      → performed registered number (Remove start end) state ≡ Ok new
      → is_there new.document.items (behind (parent_of start) ++ 0 ∷ []) ≡ true
  end-there number rules new h e =
      let p = parts state.document.items start end there in
      let first = has-room state.document.items start p.first in
      let last = has-room state.document.items end p.last in
      let j = joined rules state.document.items start end first.some last.some h in
      let kept = carried-through (length state.cells) (reverse (flat_parts (child_count state.document.items) (between start end))) state new
      (remove-made registered number start end state new e) (between start end)
      (there-place state.document.items start p.first, there-place state.document.items end p.last, p.ordered) in
      let now = (λ t. carried_all (reverse (flat_parts (child_count state.document.items) (between (j.start_is t) (j.end_is t))))
      (between (j.start_is t) (j.end_is t)))
      ∙ end-after j.parent j.b j.o j.e j.p j.less (child_count state.document.items) in
      let same = subst (IsRange (child_count new.document.items)) now kept in
      let next : behind (parent_of start) ++ 0 ∷ [] ≡ j.parent ++ (j.b + 1) ∷ 0 ∷ [] = ap (λ q. q ++ 0 ∷ []) j.next_is
      ∙ append_assoc j.parent ((j.b + 1) ∷ []) (0 ∷ []) in
      ap (is_there new.document.items) next ∙ place-there new.document.items (j.parent ++ (j.b + 1) ∷ 0 ∷ []) same.1

  -- two blocks that a range joined are merged: the start stays
  merged-there : (number : ℕ) (rules : Rules) (old new : State) → joins_blocks rules state.document.items (between start end) ≡ true
      → is_there old.document.items start ≡ true
      → performed registered number (Merge (behind (parent_of start))) old ≡ Ok new → is_there new.document.items start ≡ true
  merged-there number rules old new h kept e =
      let p = parts state.document.items start end there in
      let first = has-room state.document.items start p.first in
      let last = has-room state.document.items end p.last in
      let j = joined rules state.document.items start end first.some last.some h in
      let m = merge-made registered number (behind (parent_of start)) old new e in
      let a = one-applied (merge (behind (parent_of start)) m.0 (length old.cells)) old new m.1 in
      let place = there-place old.document.items start kept in
      let ranges = keeps_ranges old.document.items old.cells (merge (behind (parent_of start)) m.0 (length old.cells)) a.made (between start start) tt
      a.effect (place, place, not_after-itself start) in
      let now = (λ t. carry_range (shifts.merge (j.next_is t) m.0) (between (j.start_is t) (j.start_is t))) ∙ start-merged j.parent j.b j.o m.0
      ∙ (λ t. between (sym j.start_is t) (sym j.start_is t)) in
      let same = subst (IsRange (child_count a.made.0)) now ranges in
      ap (λ (s : State). is_there s.document.items start) (sym a.result) ∙ place-there a.made.0 start same.0

  -- the selected content goes, and what follows finds its places where the start of the selection is there
  pub deleted-finds : (rules : Rules) (rest : List Edit)
      → ((number : ℕ) (new : State) → is_there new.document.items start ≡ true → FindsPlaces (all_performed registered number rest new))
      → FindsPlaces (all_performed registered 1 (content_deleted rules state.document.items (between start end) ++ rest) state)
  deleted-finds rules rest k = go (joins_blocks rules state.document.items (between start end)) refl
    where
      merging : joins_blocks rules state.document.items (between start end) ≡ true → (new : State) → performed registered 1 (Remove start end) state ≡ Ok new
          → FindsPlaces (all_performed registered 2 (Merge (behind (parent_of start)) ∷ rest) new)
      merging h new e =
          let p = parts state.document.items start end there in
          let first = has-room state.document.items start p.first in
          let last = has-room state.document.items end p.last in
          let j = joined rules state.document.items start end first.some last.some h in
          let block = parent_of start in
          let kept = start-there 1 new e in
          let left = parent-element new.document.items block (offset_of start) j.block
          (ap (is_there new.document.items) (sym (path-joined start first.some)) ∙ kept) in
          let offset = behind-offset block j.block in
          let right = parent-element new.document.items (behind block) 0 (λ same. absurd (omega (arith, offset, ap offset_of same)))
          (end-there 1 rules new h e) in
          edits-find registered 2 (Merge (behind block)) rest new
          (merge-finds registered 2 new (behind block) (element-position new.document.items (behind block) right)
          (λ t. (ap (nat_lt 0) offset ∙ positive (offset_of block)) t && (ap (is_element new.document.items) (behind-before block j.block) ∙ left) t && right
          t))
          (λ next f. k 3 next (merged-there 2 rules new next h kept f))
        where
          positive : (n : ℕ) → nat_lt 0 (n + 1) ≡ true
          positive n = grind (arith, nat_tests)

      go : (t : Bool) → joins_blocks rules state.document.items (between start end) ≡ t
          → FindsPlaces (all_performed registered 1 (Remove start end ∷ ((if t then Merge (behind (parent_of start)) ∷ [] else []) ++ rest)) state)
      go true h = edits-find registered 1 (Remove start end) (Merge (behind (parent_of start)) ∷ rest) state
          (remove-finds registered 1 state start end there) (merging h)
      go false h = edits-find registered 1 (Remove start end) rest state (remove-finds registered 1 state start end there)
          (λ new e. k 2 new (start-there 1 new e))
