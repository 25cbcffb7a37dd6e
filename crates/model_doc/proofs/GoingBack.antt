-- Taking the last operation back leads to the state before it, but for cells that are empty.
use Rattle.std.proofs.Common.{◌≡◌, ◌≢◌, ℕ, zero, suc, ◌<◌, ◌≤◌, Bool, true, false, ◌&&◌, nat_le, nat_eq, ◌==◌, if◌then◌else◌, List, [], ◌∷◌, ◌++◌, length, set}
use Rattle.std.proofs.Common.{get_or, Option, Some, None, All, Result, Ok, Err, refl, sym, ap, ◌∙◌, subst, arith, length-set}
use Rattle.std.specs.List.{flat_map, IsDistinct}
use Rattle.std.proofs.lemmas.Bool.Decides.{nat_tests}
use Rattle.item_definitions.specs.Item.{Item}
use Rattle.operation_definitions.specs.Operation.{Operation, Fault}
use Rattle.operation_definitions.specs.After.{◌>>=◌, after, in_cell_at, is_empty, is_free}
use Rattle.operation_definitions.specs.Back.{back}
use Rattle.operation_definitions.specs.Reversed.{cell_then, put_away}
use Rattle.operation_definitions.proofs.Simple.{State as Both, after-effect}
use Rattle.operation_definitions.proofs.Reversal.{reversal}
use Rattle.document_definitions.specs.Document.{State, ids_of, changed}
use Rattle.document_definitions.specs.Sound.{ids_in, IsSound}
use Rattle.model_ops.specs.declared.fault.OpFault.{OpFault}
use Rattle.model_ops.specs.declared.fault.OpFault.TheVariants.{NoPlace, NotFlat, IntoItself, OldDiffers, NotNeighbours, CellState, TooLarge, TooDeep, NoMemory}
use Rattle.model_ops.specs.Effects.{refusal}
use Rattle.model_ops.specs.Limits.{IsWithin, SplitsElement}
use Rattle.model_ops.proofs.BackLimits.{back_within}
use Rattle.model_doc.specs.Parts.{state_of}
use Rattle.model_doc.specs.Held.{Held, present, returned}
use Rattle.model_doc.specs.Records.{Done, AreSame, LedTo, Leads, IsAgain}
use Rattle.model_doc.proofs.SameCells.{emptied as emptied_at, effect-same, after-there}

-- what the operation of a record made
record Made (before : State) (done : Done) (held : Held) : Type 0 where
  made : Both
  e : after before.document.items before.cells done.operation ≡ Ok made
  items : held.state.document.items ≡ made.0
  same : (number : ℕ) → in_cell_at held.state.cells number ≡ in_cell_at made.1 number
  long : length made.1 ≤ length held.state.cells
  cell : done.cell ≡ length made.1
  markers : done.markers ≡ before.document.markers
  selection : done.selection ≡ before.document.selection
  next_id : done.next_id ≡ before.document.next_id

made_by : (before : State) (done : Done) (held : Held) → Leads before done held → Made before done held
made_by before done held leads = go (after before.document.items before.cells done.operation) refl leads.led
  where
    go : (r : Result Both Fault) → after before.document.items before.cells done.operation ≡ r
        → LedTo before done held.state (r >>= (λ made. Ok (changed done.operation before made))) → Made before done held
    go (Err fault) e led = absurd led
    go (Ok made) e led = record {
      made = made;
      e = e;
      items = led.1.0;
      same = led.1.3.0;
      long = led.1.3.1;
      cell = ap (λ d. d.cell) led.0;
      markers = ap (λ d. d.markers) led.0;
      selection = ap (λ d. d.selection) led.0;
      next_id = ap (λ d. d.next_id) led.0;
    }

-- the conditions of its reversal hold
pub within : (before : State) (done : Done) (held : Held) → Leads before done held → SplitsElement done.operation × IsWithin (back done.operation done.cell)
within before done held leads =
    let m = made_by before done held leads in
    back_within before.document.items before.cells done.operation m.made
    (record { few = (let few = leads.sound.limited.0 in omega (arith, few)); flat = leads.sound.limited.1 }) m.e done.cell

free-next : (cells : List (List Item)) → is_free cells (length cells) ≡ true
free-next cells = λ i. both (most (length cells)) (ap is_empty (none cells)) i
  where
    both : {a b : Bool} → a ≡ true → b ≡ true → (a && b) ≡ true
    both e f = (λ i. e i && f i)

    most : (n : ℕ) → nat_le n n ≡ true
    most n = grind (arith, nat_tests)

    none : (cells : List (List Item)) → get_or cells (length cells) [] ≡ []
    none [] = refl
    none (cell ∷ cells) = none cells

-- and it isn't refused
pub not_refused : (before : State) (done : Done) (held : Held) → Leads before done held → (made : Both)
    × (after held.state.document.items held.state.cells (back done.operation done.cell) ≡ Ok made)
not_refused before done held leads =
    let m = made_by before done held leads in
    let free : is_free m.made.1 done.cell ≡ true = ap (is_free m.made.1) m.cell ∙ free-next m.made.1 in
    let law = reversal before.document.items before.cells done.operation m.made done.cell leads.sound.limited leads.ordered leads.places m.e free in
    let here = after-there m.made.1 held.state.cells m.same m.long m.made.0 (before.document.items, law.then_cells) (back done.operation done.cell)
    leads.sound.limited law.reversed in
    (here.0, ap (λ (xs : List Item). after xs held.state.cells (back done.operation done.cell)) m.items ∙ here.1)

-- a fault that only memory can be
pub memory_alone : {A : Type 0} (r : Result A Fault) (made : A) (fault : OpFault) → r ≡ Ok made → (fault ≢ NoMemory → refusal r ≡ Some fault) → fault ≡ NoMemory
memory_alone r made fault e refused = go fault (λ other. none other (refused other))
  where
    none : (other : fault ≢ NoMemory) → refusal r ≡ Some fault → ⊥
    none other f = (let g : None ≡ Some fault = sym (ap refusal e) ∙ f in absurd cc)

    go : (fault : OpFault) → (fault ≢ NoMemory → ⊥) → fault ≡ NoMemory
    go NoPlace h = absurd (h (λ e. cc))
    go NotFlat h = absurd (h (λ e. cc))
    go IntoItself h = absurd (h (λ e. cc))
    go (OldDiffers found) h = absurd (h (λ e. cc))
    go NotNeighbours h = absurd (h (λ e. cc))
    go (CellState number) h = absurd (h (λ e. cc))
    go (TooLarge count) h = absurd (h (λ e. cc))
    go (TooDeep depth) h = absurd (h (λ e. cc))
    go NoMemory h = refl

no-cell : (cells : List (List Item)) (n : ℕ) → length cells ≤ n → in_cell_at cells n ≡ []
no-cell [] n h = refl
no-cell (cell ∷ cells) zero h = absurd (omega arith)
no-cell (cell ∷ cells) (suc n) h = no-cell cells n (omega arith)

-- the cell of the record, emptied
away-emptied : (away : Option (List Item)) (cells then_cells : List (List Item)) (cell : ℕ) → length cells ≤ cell
    → ((number : ℕ) → in_cell_at then_cells number ≡ cell_then away cells cell number)
    → (number : ℕ) → (if number == cell then [] else in_cell_at then_cells number) ≡ in_cell_at cells number
away-emptied away cells then_cells cell none kept number = go (number == cell) refl away (kept number)
  where
    go : (t : Bool) → (number == cell) ≡ t → (away : Option (List Item)) → in_cell_at then_cells number ≡ cell_then away cells cell number
        → (if t then [] else in_cell_at then_cells number) ≡ in_cell_at cells number
    go true t away k = (let same : number ≡ cell = grind (arith, nat_tests) in sym (no-cell cells number (omega (arith, same, none))))
    go false t None k = k
    go false t (Some items) k = k ∙ ap (λ b. if b then items else in_cell_at cells number) t

-- what is made by the reversal, and by emptying the cell of the record
record Returned (before : State) (held : Held) (items : List Item) (cells : List (List Item)) : Type 0 where
  there : items ≡ before.document.items
  same : AreSame before.cells cells
  long : length held.state.cells ≤ length cells

reversed : (before : State) (done : Done) (held : Held) (items : List Item) (cells : List (List Item)) → Leads before done held
    → after held.state.document.items held.state.cells (back done.operation done.cell) ≡ Ok (items, cells) → Returned before held items (set cells done.cell [])
reversed before done held items cells leads e =
    let m = made_by before done held leads in
    let free : is_free m.made.1 done.cell ≡ true = ap (is_free m.made.1) m.cell ∙ free-next m.made.1 in
    let law = reversal before.document.items before.cells done.operation m.made done.cell leads.sound.limited leads.ordered leads.places m.e free in
    let here : after m.made.0 held.state.cells (back done.operation done.cell)
    ≡ Ok (items, cells) = subst (λ xs. after xs held.state.cells (back done.operation done.cell) ≡ Ok (items, cells)) m.items e in
    let match =
    effect-same m.made.1 held.state.cells m.same m.made.0 (before.document.items, law.then_cells) (items, cells) (back done.operation done.cell)
    (after-effect m.made.0 m.made.1 (back done.operation done.cell) (before.document.items, law.then_cells) law.reversed)
    (after-effect m.made.0 held.state.cells (back done.operation done.cell) (items, cells) here) in
    let grown =
    effect-same before.cells before.cells (λ n. refl) before.document.items m.made m.made done.operation
    (after-effect before.document.items before.cells done.operation m.made m.e) (after-effect before.document.items before.cells done.operation m.made m.e) in
    let least : length before.cells ≤ done.cell = (let c = m.cell in let g = grown.2 in omega (arith, c, g)) in
    let away = away-emptied (put_away before.document.items done.operation) before.cells law.then_cells done.cell least law.kept in
    let more : length held.state.cells ≤ length (set cells done.cell []) = (let g = match.2 in omega (arith, g, length-set cells done.cell [])) in
    record {
      there = match.0;
      same = (
        (λ n. emptied_at cells done.cell n ∙ ap (λ cell. if n == done.cell then [] else cell) (match.1 n) ∙ away n),
        (let g = grown.2 in let l = m.long in omega (arith, more, g, l)),
      );
      long = more;
    }

-- cells that hold the same have the same ids
no-ids : (cells : List (List Item)) → ((number : ℕ) → in_cell_at cells number ≡ []) → flat_map ids_of cells ≡ []
no-ids [] h = refl
no-ids (cell ∷ cells) h = (λ i. ids_of (h 0 i) ++ no-ids cells (λ n. h (suc n)) i)

same-ids : (cells now : List (List Item)) → ((number : ℕ) → in_cell_at now number ≡ in_cell_at cells number) → length cells ≤ length now
    → flat_map ids_of now ≡ flat_map ids_of cells
same-ids [] now h long = no-ids now h
same-ids (cell ∷ cells) [] h long = absurd (omega arith)
same-ids (cell ∷ cells) (other ∷ now) h long = (λ i. ids_of (h 0 i) ++ same-ids cells now (λ n. h (suc n)) (omega arith) i)

-- the state before with these cells
same_sound : (before : State) (cells : List (List Item)) → IsSound before → AreSame before.cells cells
    → IsSound (record { document = before.document; cells = cells })
same_sound before cells sound same =
    let ids : ids_in before.document.items before.cells ≡ ids_in before.document.items cells = ap (λ ids. ids_of before.document.items ++ ids)
    (sym (same-ids before.cells cells same.0 same.1)) in
    record {
      distinct = subst (IsDistinct nat_eq) ids sound.distinct;
      drawn = subst (All (λ id. (1 ≤ id) × (id < before.document.next_id))) ids sound.drawn;
      next = sound.next;
      some = sound.some;
      markers = sound.markers;
      named = sound.named;
      selection = sound.selection;
      keyed = sound.keyed;
      limited = sound.limited;
    }

-- What leads from some state: the mark counts its operation, and it goes on at a moment, whatever is kept.
pub counted : (done : Done) (held : Held) → ((before : State) × Leads before done held) → 1 ≤ held.mark
counted done held leads = (let a = leads.1.some in let b = leads.1.last in omega (arith, a, b))

pub at_moment : (before : State) (done : Done) (held : Held) → Leads before done held → Leads before done (returned (present held))
at_moment before done held leads = record {
  sound = leads.sound;
  ordered = leads.ordered;
  places = leads.places;
  some = leads.some;
  last = leads.last;
  led = leads.led;
}

module _ (done : Done) (held : Held) (items : List Item) (old cells : List (List Item))
    (e : after held.state.document.items held.state.cells (back done.operation done.cell) ≡ Ok (items, old))
    (emptied : cells ≡ set old done.cell []) where
  -- the items and the cells are those from before, but for cells that are empty
  goes_back : (before : State) → Leads before done held → Returned before held items cells
  goes_back before leads = subst (Returned before held items) (sym emptied) (reversed before done held items old leads e)

  document_again : (before : State) → Leads before done held → (state_of items cells done.markers done.selection done.next_id).document ≡ before.document
  document_again before leads =
      let m = made_by before done held leads in
      let r = goes_back before leads in
      λ i. (state_of (r.there i) cells (m.markers i) (m.selection i) (m.next_id i)).document

  -- the state is the one before again
  pub is_again : (before : State) → Leads before done held → IsAgain before (state_of items cells done.markers done.selection done.next_id)
  is_again before leads = (document_again before leads, (goes_back before leads).same)

  pub again_sound : ((before : State) × Leads before done held) → IsSound (state_of items cells done.markers done.selection done.next_id)
  again_sound leads =
      subst (λ document. IsSound (record { document = document; cells = cells })) (sym (document_again leads.0 leads.1))
      (same_sound leads.0 cells leads.1.sound (goes_back leads.0 leads.1).same)

  pub again_long : ((before : State) × Leads before done held) → length held.state.cells ≤ length cells
  again_long leads = (goes_back leads.0 leads.1).long

-- the same operation on the same items and cells
pub after_same : (items there : List Item) (cells here : List (List Item)) (operation named : Operation) (made : Both) → items ≡ there → cells ≡ here
    → operation ≡ named → after items cells operation ≡ Ok made
    → after there here named ≡ Ok made
after_same items there cells here operation named made p q r e = sym (λ i. after (p i) (q i) (r i)) ∙ e
