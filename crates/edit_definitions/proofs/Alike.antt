-- What operations that fill the next new cells make of a document doesn't hang on the cells beside it.
use Rattle.std.proofs.Common.{◌≡◌, ℕ, ◌+◌, ◌-◌, ◌<◌, Bool, true, false, not, nat_eq, nat_le, nat_lt, ◌&&◌, if◌then◌else◌, List, [], ◌∷◌, ◌++◌, length, get_or}
use Rattle.std.proofs.Common.{set, ok_or, Result, Ok, Err, refl, ap, ◌∙◌, subst, arith, length-append}
use Rattle.std.specs.Cmp.Lexicographic.{pointwise}
use Rattle.std.proofs.lemmas.Bool.Decides.{nat_tests}
use Rattle.item_definitions.specs.Item.{Item, count_of, depth_of}
use Rattle.item_definitions.specs.Children.{parent_of, offset_of, at}
use Rattle.item_definitions.specs.Shift.{carry_remove}
use Rattle.operation_definitions.specs.Level.{put_in, take_out, give, rename_at, split_at, merge_at}
use Rattle.operation_definitions.specs.Operation.{Fault, no_place, not_flat, into_itself, old_differs, found_name, not_neighbours, cell_state, too_large}
use Rattle.operation_definitions.specs.Operation.{too_deep, in_tree, in_cell, fresh, from_cell, Operation, insert, move, attribute, rename, split, merge}
use Rattle.operation_definitions.specs.Operation.{marker}
use Rattle.operation_definitions.specs.After.{◌>>=◌, most_items, most_levels, is_empty, in_cell_at, is_free, fill, check, room_at, is_in_run, have_value, like}
use Rattle.operation_definitions.specs.After.{effect, limited, after}
use Rattle.document_definitions.specs.Document.{Document, State, changed, applied, all_applied}
use Rattle.edit_definitions.proofs.Cells.{numbered, filled, IsOutward, numbered_from, AreOutward}

abbrev Made : Type 0
Made = List Item × List (List Item)

-- two answers are one but for the cells, of which there are so many then
abbrev AreLike : ℕ → ℕ → Result Made Fault → Result Made Fault → Type 0
AreLike number other (Ok made) (Ok twin) = (made.0 ≡ twin.0) × (length made.1 ≡ number) × (length twin.1 ≡ other)
AreLike number other (Ok made) (Err fault) = ⊥
AreLike number other (Err fault) (Ok made) = ⊥
AreLike number other (Err fault) (Err same) = fault ≡ same

like-step : {A : Type 0} (number other : ℕ) (r : Result A Fault) (next twin : A → Result Made Fault)
    → ((a : A) → AreLike number other (next a) (twin a)) → AreLike number other (r >>= next) (r >>= twin)
like-step number other (Ok a) next twin h = h a
like-step number other (Err fault) next twin h = refl

-- the cell behind the last is free, and filled there is one more
none-there : (cells : List (List Item)) → get_or cells (length cells) [] ≡ []
none-there [] = refl
none-there (cell ∷ cells) = none-there cells

pub next-free : (cells : List (List Item)) → is_free cells (length cells) ≡ true
next-free cells = both (length cells) (is_empty (in_cell_at cells (length cells))) (ap is_empty (none-there cells))
  where
    both : (n : ℕ) (b : Bool) → b ≡ true → (nat_le n n && b) ≡ true
    both n b e = grind (arith, nat_tests)

pub one-more : (cells : List (List Item)) (items : List Item) → length (fill cells (length cells) items) ≡ length cells + 1
one-more cells items = go (nat_lt (length cells) (length cells)) refl
  where
    go : (t : Bool) → t ≡ nat_lt (length cells) (length cells) → length (if t then set cells (length cells) items else cells ++ items ∷ []) ≡ length cells + 1
    go true t = (let less : length cells < length cells = grind (arith, nat_tests) in absurd (omega (arith, less)))
    go false t = omega (arith, length-append cells (items ∷ []))

-- the next cell is filled with what is taken out
stored : (cells others : List (List Item)) (left run : List Item)
    → AreLike (length cells + 1) (length others + 1) (check (is_free cells (length cells)) (cell_state (length cells))
    >>= (λ _. Ok (left, fill cells (length cells) run)))
    (check (is_free others (length others)) (cell_state (length others)) >>= (λ _. Ok (left, fill others (length others) run)))
stored cells others left run = rw (next-free cells, next-free others) (refl, one-more cells run, one-more others run)

zero-more : (n : ℕ) → n ≡ n + 0
zero-more n = omega arith

unfilled : (cells others : List (List Item)) (items : List Item) → AreLike (length cells + 0) (length others + 0) (Ok (items, cells)) (Ok (items, others))
unfilled cells others items = (refl, zero-more (length cells), zero-more (length others))

-- a step that gives items beside the cells from before
ends-with : {R : Type 0} (cells others : List (List Item)) (r : Result (List Item × R) Fault)
    → AreLike (length cells + 0) (length others + 0) (r >>= (λ made. Ok (made.0, cells))) (r >>= (λ made. Ok (made.0, others)))
ends-with cells others (Ok made) = unfilled cells others made.0
ends-with cells others (Err fault) = refl

-- the same premise before two answers
like-check : (number other : ℕ) (a : Bool) (f : Fault) (r twin : Result Made Fault) → AreLike number other r twin
    → AreLike number other (check a f >>= (λ _. r)) (check a f >>= (λ _. twin))
like-check number other true f r twin h = h
like-check number other false f r twin h = refl

effect-like : (items : List Item) (cells others : List (List Item)) (operation : Operation) → IsOutward operation
    → AreLike (length cells + filled operation) (length others + filled operation) (effect items cells (numbered (length cells) operation))
    (effect items others (numbered (length others) operation))
effect-like items cells others (insert position new) h =
    ends-with cells others (ok_or (at (parent_of position) (put_in (offset_of position) new) items) no_place)
effect-like items cells others (move (in_cell number) count to) h = absurd h
effect-like items cells others (move (in_tree from) count (in_tree to)) h =
    like-step (length cells + 0) (length others + 0) (ok_or (at (parent_of from) (take_out (offset_of from) count) items) no_place)
    (λ taken. there taken cells) (λ taken. there taken others) (λ taken.
    like-step (length cells + 0) (length others + 0) (ok_or (room_at items to) no_place) (λ _. outside taken cells) (λ _. outside taken others) (λ _.
    like-check (length cells + 0) (length others + 0) (not (is_in_run from count to)) into_itself (put taken >>= (λ made. Ok (made.0, cells)))
    (put taken >>= (λ made. Ok (made.0, others)))
    (ends-with cells others (put taken))))
  where
    put : List Item × List Item → Result (List Item × Unit {0}) Fault
    put taken = ok_or (at (parent_of (carry_remove from count to)) (put_in (offset_of (carry_remove from count to)) taken.1) taken.0) no_place

    outside : List Item × List Item → List (List Item) → Result Made Fault
    outside taken cells = check (not (is_in_run from count to)) into_itself >>= (λ _. put taken >>= (λ made. Ok (made.0, cells)))

    there : List Item × List Item → List (List Item) → Result Made Fault
    there taken cells = ok_or (room_at items to) no_place >>= (λ _. outside taken cells)
effect-like items cells others (move (in_tree from) count (in_cell number)) h =
    like-step (length cells + 1) (length others + 1) (ok_or (at (parent_of from) (take_out (offset_of from) count) items) no_place) (store cells)
    (store others) (λ taken. stored cells others taken.0 taken.1)
  where
    store : List (List Item) → List Item × List Item → Result Made Fault
    store cells taken = check (is_free cells (length cells)) (cell_state (length cells)) >>= (λ _. Ok (taken.0, fill cells (length cells) taken.1))
effect-like items cells others (attribute range key old new) h =
    like-check (length cells + 0) (length others + 0) (pointwise nat_eq (parent_of range.start) (parent_of range.end)) not_flat (given >>= same cells)
    (given >>= same others)
    (like-step (length cells + 0) (length others + 0) given (same cells) (same others) (λ made. last made (have_value key old made.1)))
  where
    given : Result (List Item × List Item) Fault
    given = ok_or (at (parent_of range.start) (give (offset_of range.start) (offset_of range.end - offset_of range.start) key new) items) no_place

    same : List (List Item) → List Item × List Item → Result Made Fault
    same cells made = have_value key old made.1 >>= (λ _. Ok (made.0, cells))

    last : (made : List Item × List Item) (r : Result (Unit {0}) Fault)
        → AreLike (length cells + 0) (length others + 0) (r >>= (λ _. Ok (made.0, cells))) (r >>= (λ _. Ok (made.0, others)))
    last made (Ok u) = unfilled cells others made.0
    last made (Err fault) = refl
effect-like items cells others (rename path old new) h =
    like-check (length cells + 0) (length others + 0) (nat_le 1 (length path)) no_place (named >>= same cells) (named >>= same others)
    (like-step (length cells + 0) (length others + 0) named (same cells) (same others) (λ made.
    like-check (length cells + 0) (length others + 0) (pointwise nat_eq made.1 old) (old_differs (found_name made.1)) (Ok (made.0, cells))
    (Ok (made.0, others)) (unfilled cells others made.0)))
  where
    named : Result (List Item × List ℕ) Fault
    named = ok_or (at (parent_of path) (rename_at (offset_of path) new) items) no_place

    same : List (List Item) → List Item × List ℕ → Result Made Fault
    same cells made = check (pointwise nat_eq made.1 old) (old_differs (found_name made.1)) >>= (λ _. Ok (made.0, cells))
effect-like items cells others (split position (fresh id)) h =
    like-check (length cells + 0) (length others + 0) (nat_le 2 (length position)) no_place (parted >>= (λ made. Ok (made.0, cells)))
    (parted >>= (λ made. Ok (made.0, others))) (ends-with cells others parted)
  where
    parted : Result (List Item × Item) Fault
    parted = ok_or (at (parent_of (parent_of position)) (split_at (offset_of (parent_of position)) (offset_of position) (like id)) items) no_place
effect-like items cells others (split position (from_cell number)) h = absurd h
effect-like items cells others (merge right target number) h =
    like-check (length cells + 1) (length others + 1) (nat_lt 0 (offset_of right)) not_neighbours (merged >>= ended cells) (merged >>= ended others)
    (like-step (length cells + 1) (length others + 1) merged (ended cells) (ended others) (λ made.
    like-check (length cells + 1) (length others + 1) (pointwise nat_eq target (parent_of right ++ (offset_of right - 1) ∷ made.1.1 ∷ []))
    not_neighbours (store cells made) (store others made)
    (stored cells others made.0 (made.1.0 ∷ []))))
  where
    merged : Result (List Item × (Item × ℕ)) Fault
    merged = ok_or (at (parent_of right) (merge_at (offset_of right)) items) not_neighbours

    store : List (List Item) → List Item × (Item × ℕ) → Result Made Fault
    store cells made = check (is_free cells (length cells)) (cell_state (length cells)) >>= (λ _. Ok (made.0, fill cells (length cells) (made.1.0 ∷ [])))

    ended : List (List Item) → List Item × (Item × ℕ) → Result Made Fault
    ended cells made = check (pointwise nat_eq target (parent_of right ++ (offset_of right - 1) ∷ made.1.1 ∷ [])) not_neighbours >>= (λ _. store cells made)
effect-like items cells others (marker name old new) h = unfilled cells others items

-- the limits are on the items alone
passed : (number other : ℕ) (items : List Item) (cells others : List (List Item)) → length cells ≡ number → length others ≡ other
    → AreLike number other (Ok (items, cells)) (Ok (items, others))
passed number other items cells others e f = (refl, e, f)

limited-one : (number other : ℕ) (items : List Item) (cells others : List (List Item)) → length cells ≡ number → length others ≡ other
    → AreLike number other (limited (items, cells)) (limited (items, others))
limited-one number other items cells others e f = go (nat_le (count_of items) most_items) (nat_le (depth_of items) most_levels)
  where
    go : (few flat : Bool) → AreLike number other
        (check few (too_large (count_of items)) >>= (λ _. check flat (too_deep (depth_of items)) >>= (λ _. Ok (items, cells))))
        (check few (too_large (count_of items)) >>= (λ _. check flat (too_deep (depth_of items)) >>= (λ _. Ok (items, others))))
    go true true = passed number other items cells others e f
    go true false = refl
    go false flat = refl

limited-like : (number other : ℕ) (r twin : Result Made Fault) → AreLike number other r twin → AreLike number other (r >>= limited) (twin >>= limited)
limited-like number other (Err fault) (Err same) h = h
limited-like number other (Ok made) (Err fault) h = absurd h
limited-like number other (Err fault) (Ok made) h = absurd h
limited-like number other (Ok made) (Ok twin) h =
    subst (λ (items : List Item). AreLike number other (limited made) (limited (items, twin.1))) h.0
    (limited-one number other made.0 made.1 twin.1 h.1 h.2)

-- the same of documents, with the cells beside them
abbrev AreOfOne : ℕ → ℕ → Result State Fault → Result State Fault → Type 0
AreOfOne number other (Ok state) (Ok twin) = (state.document ≡ twin.document) × (length state.cells ≡ number) × (length twin.cells ≡ other)
AreOfOne number other (Ok state) (Err fault) = ⊥
AreOfOne number other (Err fault) (Ok state) = ⊥
AreOfOne number other (Err fault) (Err same) = fault ≡ same

-- the number of a cell doesn't count for the document
same-document : (number other : ℕ) (operation : Operation) (state : State) (made : Made) → (changed (numbered number operation) state made).document
    ≡ (changed (numbered other operation) state made).document
same-document number other (insert position new) state made = refl
same-document number other (move (in_cell cell) count (in_tree to)) state made = refl
same-document number other (move (in_cell cell) count (in_cell to)) state made = refl
same-document number other (move (in_tree from) count (in_tree to)) state made = refl
same-document number other (move (in_tree from) count (in_cell to)) state made = refl
same-document number other (attribute range key old new) state made = refl
same-document number other (rename path old new) state made = refl
same-document number other (split position source) state made = refl
same-document number other (merge right target cell) state made = refl
same-document number other (marker name old new) state made = refl

changed-like : (number other : ℕ) (operation : Operation) (document : Document) (cells others : List (List Item)) (these those : ℕ)
    (r twin : Result Made Fault) → AreLike these those r twin
    → AreOfOne these those (r >>= (λ made. Ok (changed (numbered number operation) record { document = document; cells = cells } made)))
    (twin >>= (λ made. Ok (changed (numbered other operation) record { document = document; cells = others } made)))
changed-like number other operation document cells others these those (Err fault) (Err same) h = h
changed-like number other operation document cells others these those (Ok made) (Err fault) h = absurd h
changed-like number other operation document cells others these those (Err fault) (Ok made) h = absurd h
changed-like number other operation document cells others these those (Ok made) (Ok twin) h = (
  same-document number other operation record { document = document; cells = cells } made
      ∙ ap (λ items. (changed (numbered other operation) record { document = document; cells = others } (items, twin.1)).document) h.0,
  h.1,
  h.2,
)

applied-like : (operation : Operation) (document : Document) (cells others : List (List Item)) (number other : ℕ) → length cells ≡ number
    → length others ≡ other → IsOutward operation
    → AreOfOne (number + filled operation) (other + filled operation) (applied (numbered number operation) record { document = document; cells = cells })
    (applied (numbered other operation) record { document = document; cells = others })
applied-like operation document cells others number other e f h =
    subst (λ n. AreOfOne (n + filled operation) (other + filled operation)
    (applied (numbered n operation) record { document = document; cells = cells })
    (applied (numbered other operation) record { document = document; cells = others })) e
    (subst (λ m. AreOfOne (length cells + filled operation) (m + filled operation)
    (applied (numbered (length cells) operation) record { document = document; cells = cells })
    (applied (numbered m operation) record { document = document; cells = others })) f
    (changed-like (length cells) (length others) operation document cells others (length cells + filled operation) (length others + filled operation)
    (after document.items cells (numbered (length cells) operation)) (after document.items others (numbered (length others) operation))
    (limited-like (length cells + filled operation) (length others + filled operation) (effect document.items cells (numbered (length cells) operation))
    (effect document.items others (numbered (length others) operation))
    (effect-like document.items cells others operation h))))

abbrev pub document_in : Result State Fault → Result Document Fault
document_in (Ok state) = Ok state.document
document_in (Err fault) = Err fault

-- two lists of operations that make the same of a document, whatever so many cells are beside it
abbrev pub MakeSame : ℕ → ℕ → List Operation → List Operation → Type 0
MakeSame number other operations twins = (document : Document) (cells others : List (List Item)) → length cells ≡ number → length others ≡ other
    → document_in (all_applied operations record { document = document; cells = cells })
    ≡ document_in (all_applied twins record { document = document; cells = others })

then-same : (number other : ℕ) (operations twins : List Operation) (r twin : Result State Fault) → AreOfOne number other r twin
    → MakeSame number other operations twins
    → document_in (r >>= all_applied operations) ≡ document_in (twin >>= all_applied twins)
then-same number other operations twins (Err fault) (Err same) h rest = ap Err h
then-same number other operations twins (Ok state) (Err fault) h rest = absurd h
then-same number other operations twins (Err fault) (Ok state) h rest = absurd h
then-same number other operations twins (Ok state) (Ok twin) h rest =
    ap (λ document. document_in (all_applied operations record { document = document; cells = state.cells })) h.0
    ∙ rest twin.document state.cells twin.cells h.1 h.2

pub all-same : (operations : List Operation) → AreOutward operations → (number other : ℕ)
    → MakeSame number other (numbered_from number operations) (numbered_from other operations)
all-same [] h number other = λ document cells others e f. refl
all-same (operation ∷ operations) h number other = λ document cells others e f.
    then-same (number + filled operation) (other + filled operation) (numbered_from (number + filled operation) operations)
    (numbered_from (other + filled operation) operations)
    (applied (numbered number operation) record { document = document; cells = cells })
    (applied (numbered other operation) record { document = document; cells = others })
    (applied-like operation document cells others number other e f h.0)
    (all-same operations h.1 (number + filled operation) (other + filled operation))
