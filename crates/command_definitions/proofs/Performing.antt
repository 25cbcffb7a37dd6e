-- What the edits of a change that was made did, one after the other.
use Rattle.std.proofs.Common.{◌≡◌, ℕ, Bool, true, false, ◌&&◌, nat_le, nat_lt, List, [], ◌∷◌, ◌++◌, length, unwrap_or, Result, Ok, Err, refl, ap, ◌∙◌}
use Rattle.ck_base.specs.declared.faults.EditFault.{EditFault}
use Rattle.ck_base.specs.declared.faults.EditFault.TheVariants.{NotRegistered, BadPosition, BadRange, BadTarget}
use Rattle.item_definitions.specs.Item.{Attributes, element, none}
use Rattle.item_definitions.specs.Children.{offset_of, child_count}
use Rattle.item_definitions.specs.Position.{between, path_before}
use Rattle.operation_definitions.specs.Operation.{Fault, Operation, fresh, insert, split, merge}
use Rattle.document_definitions.specs.Selection.{selected}
use Rattle.document_definitions.specs.Document.{Document, State, with_selection, all_applied}
use Rattle.edit_definitions.specs.declared.edit.Edit.{Edit}
use Rattle.edit_definitions.specs.declared.edit.Edit.TheVariants.{InsertElement, Split, Merge, Select}
use Rattle.edit_definitions.specs.Places.{is_known, is_there, is_range, is_element}
use Rattle.edit_definitions.specs.Planned.{◌>>=◌, check, ids_left, operations_of}
use Rattle.edit_definitions.specs.Performed.{as_step, selecting, performed, all_performed, apart, document_made, edits_made}

pub step-made : {A B : Type 0} (r : Result A EditFault) (next : A → Result B EditFault) (b : B) → (r >>= next) ≡ Ok b → (a : A) × (r ≡ Ok a) × (next a ≡ Ok b)
step-made (Ok a) next b e = (a, refl, e)
step-made (Err fault) next b e = absurd cc

pub check-made : (b : Bool) (fault : EditFault) (u : Unit {0}) → check b fault ≡ Ok u → b ≡ true
check-made true fault u e = refl
check-made false fault u e = absurd cc

pub as-made : (number : ℕ) (r : Result State Fault) (state : State) → as_step number r ≡ Ok state → r ≡ Ok state
as-made number (Ok made) state e = (let same : made ≡ state = cc in ap (λ (s : State). Ok s) same)
as-made number (Err fault) state e = absurd cc

pub same-state : (a b : State) → ◌≡◌ {A = Result State EditFault} (Ok a) (Ok b) → a ≡ b
same-state a b e = cc

pub same-operations : (a b : List Operation) → ◌≡◌ {A = Result (List Operation) EditFault} (Ok a) (Ok b) → a ≡ b
same-operations a b e = cc

-- a split that was made: its place was there, in an element, and the one operation was applied
pub record IsSplit (position : List ℕ) (state new : State) : Type 0 where
  pub there : is_there state.document.items position ≡ true
  pub inside : nat_le 2 (length position) ≡ true
  pub applied : all_applied (split position (fresh state.document.next_id) ∷ []) state ≡ Ok new

pub split-made : (registered : List ℕ → Bool) (number : ℕ) (position : List ℕ) (state new : State)
    → performed registered number (Split position) state ≡ Ok new → IsSplit position state new
split-made registered number position state new e =
    let last : List Operation → Result State EditFault = λ operations. as_step number (all_applied operations state)
    >>= (λ made. Ok (selecting (Split position) made)) in
    let only = split position (fresh state.document.next_id) ∷ [] in
    let left : Unit {0} → Result (List Operation) EditFault = λ _. ids_left number 1 state >>= (λ _. Ok only) in
    let inside : Unit {0} → Result (List Operation) EditFault = λ _. check (nat_le 2 (length position)) (BadTarget number position) >>= left in
    let a = step-made (operations_of registered number (Split position) state) last new e in
    let b = step-made (check (is_there state.document.items position) (BadPosition number position)) inside a.0 a.1 in
    let c = step-made (check (nat_le 2 (length position)) (BadTarget number position)) left a.0 b.2 in
    let d = step-made (ids_left number 1 state) (λ _. Ok only) a.0 c.2 in
    let f = step-made (as_step number (all_applied a.0 state)) (λ made. Ok (selecting (Split position) made)) new a.2 in
    record {
      there = check-made (is_there state.document.items position) (BadPosition number position) b.0 b.1;
      inside = check-made (nat_le 2 (length position)) (BadTarget number position) c.0 c.1;
      applied = ap (λ operations. all_applied operations state) (same-operations only a.0 d.2) ∙ as-made number (all_applied a.0 state) f.0 f.1
          ∙ ap (λ (s : State). Ok s) (same-state f.0 new f.2);
    }

-- a selection that was made
pub select-made : (registered : List ℕ → Bool) (number : ℕ) (start end : List ℕ) (backward : Bool) (state new : State)
    → performed registered number (Select start end backward) state ≡ Ok new
    → with_selection (selected (between start end) backward) state ≡ new
select-made registered number start end backward state new e = go (is_range state.document.items start end) e
  where
    go : (t : Bool) → ((check t (BadRange number start end) >>= (λ _. Ok []))
        >>= (λ operations. as_step number (all_applied operations state) >>= (λ made. Ok (selecting (Select start end backward) made)))) ≡ Ok new
        → with_selection (selected (between start end) backward) state ≡ new
    go true e = same-state (with_selection (selected (between start end) backward) state) new e
    go false e = absurd cc

-- a merge whose premises hold, and whose one operation is applied
pub made-merge : (registered : List ℕ → Bool) (number : ℕ) (position target : List ℕ) (state new : State) → is_there state.document.items position ≡ true
    → (nat_lt 0 (offset_of position) && is_element state.document.items (path_before position) && is_element state.document.items position) ≡ true
    → path_before position ++ unwrap_or (child_count state.document.items (path_before position)) 0 ∷ [] ≡ target
    → all_applied (merge position target (length state.cells) ∷ []) state ≡ Ok new → performed registered number (Merge position) state ≡ Ok new
made-merge registered number position target state new there two ends applied =
    let last : List Operation → Result State EditFault = λ operations. as_step number (all_applied operations state)
    >>= (λ made. Ok (selecting (Merge position) made)) in
    let end = path_before position ++ unwrap_or (child_count state.document.items (path_before position)) 0 ∷ [] in
    let only : List ℕ → List Operation = λ target. merge position target (length state.cells) ∷ [] in
    let test = nat_lt 0 (offset_of position) && is_element state.document.items (path_before position) && is_element state.document.items position in
    ap (λ t. (check t (BadPosition number position) >>= (λ _. check test (BadTarget number position) >>= (λ _. Ok (only end)))) >>= last) there
    ∙ ap (λ t. (check t (BadTarget number position) >>= (λ _. Ok (only end))) >>= last) two
    ∙ ap (λ target. last (only target)) ends
    ∙ ap (λ (r : Result State Fault). as_step number r >>= (λ made. Ok (selecting (Merge position) made))) applied

document-ok : (r : Result State EditFault) (document : Document) → document_made r ≡ Ok document
    → (state : State) × (r ≡ Ok state) × (state.document ≡ document)
document-ok (Ok state) document e = (state, refl, cc)
document-ok (Err fault) document e = absurd cc

-- two edits that were made
pub record AreMade (registered : List ℕ → Bool) (first second : Edit) (document made : Document) : Type 0 where
  pub between_them : State
  pub end : State
  pub one : performed registered 1 first (apart document) ≡ Ok between_them
  pub two : performed registered 2 second between_them ≡ Ok end
  pub result : end.document ≡ made

pub two-made : (registered : List ℕ → Bool) (first second : Edit) (document made : Document) → edits_made registered (first ∷ second ∷ []) document ≡ Ok made
    → AreMade registered first second document made
two-made registered first second document made e =
    let d = document-ok (all_performed registered 1 (first ∷ second ∷ []) (apart document)) made e in
    let a = step-made (performed registered 1 first (apart document)) (all_performed registered 2 (second ∷ [])) d.0 d.1 in
    let b = step-made (performed registered 2 second a.0) (all_performed registered 3 []) d.0 a.2 in
    record { between_them = a.0; end = b.0; one = a.1; two = b.1; result = ap (λ (s : State). s.document) (same-state b.0 d.0 b.2) ∙ d.2 }

-- one edit that can be made
pub made-one : (registered : List ℕ → Bool) (edit : Edit) (document : Document) (state : State) → performed registered 1 edit (apart document) ≡ Ok state
    → edits_made registered (edit ∷ []) document ≡ Ok state.document
made-one registered edit document state e = ap (λ (r : Result State EditFault). document_made (r >>= all_performed registered 2 [])) e

-- an element that came in
pub insert-made : (registered : List ℕ → Bool) (number : ℕ) (position name : List ℕ) (attributes : Attributes) (state new : State)
    → performed registered number (InsertElement position name attributes) state ≡ Ok new
    → all_applied (insert position (element state.document.next_id name attributes none ∷ []) ∷ []) state ≡ Ok new
insert-made registered number position name attributes state new e =
    let last : List Operation → Result State EditFault = λ operations. as_step number (all_applied operations state)
    >>= (λ made. Ok (selecting (InsertElement position name attributes) made)) in
    let only = insert position (element state.document.next_id name attributes none ∷ []) ∷ [] in
    let left : Unit {0} → Result (List Operation) EditFault = λ _. ids_left number 1 state >>= (λ _. Ok only) in
    let inside : Unit {0} → Result (List Operation) EditFault = λ _. check (is_there state.document.items position) (BadPosition number position) >>= left in
    let a = step-made (operations_of registered number (InsertElement position name attributes) state) last new e in
    let b = step-made (check (is_known registered name) (NotRegistered number name)) inside a.0 a.1 in
    let c = step-made (check (is_there state.document.items position) (BadPosition number position)) left a.0 b.2 in
    let d = step-made (ids_left number 1 state) (λ _. Ok only) a.0 c.2 in
    let f = step-made (as_step number (all_applied a.0 state)) (λ made. Ok (selecting (InsertElement position name attributes) made)) new a.2 in
    ap (λ operations. all_applied operations state) (same-operations only a.0 d.2) ∙ as-made number (all_applied a.0 state) f.0 f.1
    ∙ ap (λ (s : State). Ok s) (same-state f.0 new f.2)
