-- Operations that are made anew.
use Rattle.std.proofs.Common.{◌≡◌, ℕ, suc, ◌+◌, ◌<◌, ◌≤◌, nat_eq, List, [], ◌∷◌, ◌++◌, length, get_or, reverse, drop, Result, Ok, Err, refl, sym, ap, ◌∙◌}
use Rattle.std.proofs.Common.{subst, arith}
use Rattle.std.specs.List.{flat_map, IsDistinct}
use Rattle.std.proofs.lemmas.List.{reverse-append}
use Rattle.std.proofs.Math.Seq.{drop-cons}
use Rattle.item_definitions.specs.Item.{Item}
use Rattle.operation_definitions.specs.Operation.{Operation, Fault}
use Rattle.operation_definitions.specs.After.{after, in_cell_at}
use Rattle.operation_definitions.proofs.Simple.{State as Both, after-effect}
use Rattle.operation_definitions.proofs.Steps.{step-ok}
use Rattle.document_definitions.specs.Document.{State, ids_of, brought, raised, markers_after, changed, applied}
use Rattle.document_definitions.specs.Sound.{ids_in, IsMarkerIn}
use Rattle.document_definitions.specs.Sound.{IsWelcome}
use Rattle.model_doc.specs.Held.{Held, Moment, present}
use Rattle.model_doc.specs.Records.{Done, AreSame, LedTo, Leads}
use Rattle.model_doc.proofs.SameCells.{effect-same}
use Rattle.model_doc.proofs.GoingBack.{at_moment}
use Rattle.undo_stack.specs.Chains.{IsStep, LedBack, LedOn}
use Rattle.undo_stack.specs.Replays.{IsAt, HasOn, ComesOn}
use Rattle.undo_stack.proofs.Moments.{from_self}

-- cells that hold the same have the same ids
no-ids : (cells : List (List Item)) → ((number : ℕ) → in_cell_at cells number ≡ []) → flat_map ids_of cells ≡ []
no-ids [] h = refl
no-ids (cell ∷ cells) h = (λ i. ids_of (h 0 i) ++ no-ids cells (λ n. h (suc n)) i)

same-ids : (cells now : List (List Item)) → ((number : ℕ) → in_cell_at now number ≡ in_cell_at cells number) → length cells ≤ length now → flat_map ids_of now
    ≡ flat_map ids_of cells
same-ids [] now h long = no-ids now h
same-ids (cell ∷ cells) [] h long = absurd (omega arith)
same-ids (cell ∷ cells) (other ∷ now) h long = (λ i. ids_of (h 0 i) ++ same-ids cells now (λ n. h (suc n)) (omega arith) i)

-- two states that an operation finds alike: all but the selection is the same, but for cells that are empty
pub record AreAlike (state other : State) : Type 0 where
  pub items : other.document.items ≡ state.document.items
  pub markers : other.document.markers ≡ state.document.markers
  pub next_id : other.document.next_id ≡ state.document.next_id
  pub cells : AreSame state.cells other.cells

-- what may be made on one may be made on the other
welcome-alike : (operation : Operation) (state other : State) → AreAlike state other → IsWelcome operation state → IsWelcome operation other
welcome-alike operation state other alike welcome =
    let ids : ids_in state.document.items state.cells ≡ ids_in other.document.items other.cells =
    (λ i. ids_of (sym alike.items i) ++ sym (same-ids state.cells other.cells alike.cells.0 alike.cells.1) i) in
    record {
      fresh = subst (λ ids. IsDistinct nat_eq (brought operation ++ ids)) ids welcome.fresh;
      known = welcome.known;
      ranged = subst (λ items. IsMarkerIn items operation) (sym alike.items) welcome.ranged;
    }

-- what an operation makes of a state
record Parts (operation : Operation) (state made : State) : Type 0 where
  both : Both
  after : after state.document.items state.cells operation ≡ Ok both
  is : changed operation state both ≡ made

parts : (operation : Operation) (state made : State) → applied operation state ≡ Ok made → Parts operation state made
parts operation state made e =
    let a = step-ok (after state.document.items state.cells operation) (λ both. Ok (changed operation state both)) made e in
    record { both = a.0; after = a.1; is = cc }

-- what it makes of two that are alike is alike
record AreMadeAlike (other made other_made : State) : Type 0 where
  items : other_made.document.items ≡ made.document.items
  markers : other_made.document.markers ≡ made.document.markers
  next_id : other_made.document.next_id ≡ made.document.next_id
  cells : (number : ℕ) → in_cell_at other_made.cells number ≡ in_cell_at made.cells number
  long : length other.cells ≤ length other_made.cells

made-alike : (operation : Operation) (state other made other_made : State) → AreAlike state other → applied operation state ≡ Ok made
    → applied operation other ≡ Ok other_made → AreMadeAlike other made other_made
made-alike operation state other made other_made alike e f =
    let p = parts operation state made e in
    let q = parts operation other other_made f in
    let there : after state.document.items other.cells operation
    ≡ Ok q.both = subst (λ (items : List Item). after items other.cells operation ≡ Ok q.both) alike.items q.after in
    let match = effect-same state.cells other.cells alike.cells.0 state.document.items p.both q.both operation
    (after-effect state.document.items state.cells operation p.both p.after) (after-effect state.document.items other.cells operation q.both there) in
    record {
      items = sym (ap (λ (s : State). s.document.items) q.is) ∙ match.0 ∙ ap (λ (s : State). s.document.items) p.is;
      markers = sym (ap (λ (s : State). s.document.markers) q.is) ∙ ap (markers_after operation) alike.markers ∙ ap (λ (s : State). s.document.markers) p.is;
      next_id = sym (ap (λ (s : State). s.document.next_id) q.is) ∙ ap (λ next. raised next (brought operation)) alike.next_id
          ∙ ap (λ (s : State). s.document.next_id) p.is;
      cells = λ n. sym (ap (λ (s : State). in_cell_at s.cells n) q.is) ∙ match.1 n ∙ ap (λ (s : State). in_cell_at s.cells n) p.is;
      long = subst (λ (s : State). length other.cells ≤ length s.cells) q.is match.2;
    }

itself : (state : State) → AreAlike state state
itself state = record { items = refl; markers = refl; next_id = refl; cells = ((λ n. refl), omega arith) }

-- what a step made, and that no cell goes
record Stepped (moment : Moment) (done : Done) (next : Moment) : Type 0 where
  made : State
  made_is : applied done.operation moment.state ≡ Ok made
  items : next.state.document.items ≡ made.document.items
  markers : next.state.document.markers ≡ made.document.markers
  next_id : next.state.document.next_id ≡ made.document.next_id
  cells : AreSame made.cells next.state.cells
  long : length moment.state.cells ≤ length next.state.cells

stepped : (moment : Moment) (done : Done) (next : Moment) → IsStep moment done next → Stepped moment done next
stepped moment done next step = go (applied done.operation moment.state) refl step.leads.led
  where
    go : (r : Result State Fault) → applied done.operation moment.state ≡ r → LedTo moment.state done next.state r → Stepped moment done next
    go (Err fault) e led = absurd led
    go (Ok made) e led =
        let grown = made-alike done.operation moment.state moment.state made made (itself moment.state) e e in
        record {
          made = made;
          made_is = e;
          items = led.1.0;
          markers = led.1.1;
          next_id = led.1.2;
          cells = led.1.3;
          long = (let a = grown.long in let b = led.1.3.1 in omega (arith, a, b));
        }

on-long : (records : List Done) (start last : Moment) → LedOn start records last → length start.state.cells ≤ length last.state.cells
on-long [] start last led = led.reached.3.1
on-long (done ∷ records) start last led =
    let a = led.2.reached.3.1 in
    let b = (stepped led.0 done led.1 led.3).long in
    let c = on-long records led.1 last led.4 in
    omega (arith, a, b, c)

-- some operations are made anew, and others are left
pub record IsPartOn (all left new_records : List Done) (old now : Held) : Type 0 where
  pub on : (start last : Moment) → IsAt start last all old → (here : Moment) × IsAt here last left now
  pub back : LedBack (present old) (reverse new_records) (present now)
  pub kept : now.kept ≡ old.kept

pub begins_on : (all new_records : List Done) (old : Held) → new_records ≡ [] → IsPartOn all all new_records old old
begins_on all new_records old none = record {
  on = λ start last at. (start, at);
  back = subst (λ rs. LedBack (present old) (reverse rs) (present old)) (sym none) (from_self (present old));
  kept = refl;
}

-- where the next operation was made first, and the document is as it was there
record IsNext (last : Moment) (done : Done) (left : List Done) (now : Held) : Type 0 where
  moment : Moment
  next : Moment
  step : IsStep moment done next
  led : LedOn next left last
  alike : AreAlike moment.state now.state
  mark : now.mark ≡ moment.mark
  cells : length last.state.cells ≤ length now.state.cells

next-one : (here last : Moment) (done : Done) (left : List Done) (now : Held) → IsAt here last (done ∷ left) now → IsNext last done left now
next-one here last done left now at =
    let led = at.led in
    let long = on-long left led.1 last led.4 in
    let grown = (stepped led.0 done led.1 led.3).long in
    let room = at.cells in
    record {
      moment = led.0;
      next = led.1;
      step = led.3;
      led = led.4;
      alike = record {
        items = at.like.items ∙ sym led.2.reached.0;
        markers = at.like.markers ∙ sym led.2.reached.1;
        next_id = at.like.next_id ∙ sym led.2.reached.2;
        cells = ((λ n. at.like.cells n ∙ sym (led.2.reached.3.0 n)), omega (arith, long, grown, room));
      };
      mark = at.like.mark ∙ sym led.2.mark;
      cells = room;
    }

module _ (all rest left : List Done) (done : Done) (new_records : List Done) (old now : Held) (part : IsPartOn all rest new_records old now)
    (is : rest ≡ done ∷ left) where
  next-here : (start last : Moment) → IsAt start last all old → IsNext last done left now
  next-here start last at = (let here = part.on start last at in next-one here.0 last done left now (subst (λ rs. IsAt here.0 last rs now) is here.1))

  pub may_apply : HasOn all old → IsWelcome done.operation now.state
  may_apply has = (let n = next-here has.0 has.1 has.2 in welcome-alike done.operation n.moment.state now.state n.alike n.step.welcome)

  pub goes_on : (new : Held) (more : List Done) (made : Done) → HasOn all old → applied done.operation now.state ≡ Ok new.state → new.mark ≡ now.mark + 1
      → Leads now.state made new → made.operation ≡ done.operation
      → more ≡ new_records ++ made ∷ [] → new.kept ≡ now.kept → IsPartOn all left more old new
  goes_on new more made has e up leads named one kept = record {
    on = λ start last at. (let n = next-here start last at in
        let s = stepped n.moment done n.next n.step in
        let m = made-alike done.operation n.moment.state now.state s.made new.state n.alike s.made_is e in (
          n.next,
          record {
            led = n.led;
            like = record {
              items = m.items ∙ sym s.items;
              markers = m.markers ∙ sym s.markers;
              next_id = m.next_id ∙ sym s.next_id;
              cells = λ k. m.cells k ∙ sym (s.cells.0 k);
              mark = (let a = n.step.mark in let b = n.mark in omega (arith, a, b, up));
            };
            cells = (let a = n.cells in let b = m.long in omega (arith, a, b));
          },
        ));
    back =
        subst (λ rs. LedBack (present old) rs (present new)) (sym (ap reverse one ∙ reverse-append new_records (made ∷ []))) (
          present now,
          record {
            welcome = subst (λ o. IsWelcome o now.state) (sym named) (may_apply has);
            leads = at_moment now.state made new leads;
            mark = up;
          },
          part.back,
        );
    kept = kept ∙ part.kept;
  }

no-records : (left : List Done) → length left ≡ 0 → left ≡ []
no-records [] none = refl
no-records (done ∷ left) none = absurd (omega (arith, none))

pub ends_on : (all left new_records : List Done) (old now : Held) → IsPartOn all left new_records old now → length left ≡ 0 → ComesOn all new_records old now
ends_on all left new_records old now part none = record {
  to = λ start last at. (let here = part.on start last at in
      let end : IsAt here.0 last [] now = subst (λ rs. IsAt here.0 last rs now) (no-records left none) here.1 in
      let from = end.led in
      record {
        reached = (
          end.like.items ∙ sym from.reached.0,
          end.like.markers ∙ sym from.reached.1,
          end.like.next_id ∙ sym from.reached.2,
          ((λ n. end.like.cells n ∙ sym (from.reached.3.0 n)), end.cells),
        );
        mark = end.like.mark ∙ sym from.mark;
      });
  back = part.back;
}

-- from the next one on
pub one_left : (all : List Done) (index : ℕ) (done : Done) → index < length all → done ≡ get_or all index done → drop index all ≡ done ∷ drop (index + 1) all
one_left all index done less found = drop-cons all index done less ∙ (λ i. sym found i ∷ drop (up i) all)
  where
    up : suc index ≡ index + 1
    up = omega arith
