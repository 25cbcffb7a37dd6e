-- Moments that are alike, and records that are taken back between them.
use Rattle.std.proofs.Common.{◌≡◌, ◌+◌, ◌≤◌, List, [], ◌∷◌, ◌++◌, length, reverse, Result, Ok, Err, refl, sym, ap, ◌∙◌, subst, arith}
use Rattle.std.proofs.lemmas.List.{reverse-append}
use Rattle.item_definitions.specs.Item.{Item}
use Rattle.operation_definitions.specs.Operation.{Fault}
use Rattle.document_definitions.specs.Document.{State, applied}
use Rattle.model_doc.specs.Held.{Held, Moment, present, returned}
use Rattle.model_doc.specs.Records.{Done, AreSame, IsReached, LedTo, Leads, IsAgain}
use Rattle.document_definitions.specs.Sound.{IsWelcome}
use Rattle.model_doc.proofs.GoingBack.{at_moment}
use Rattle.undo_stack.specs.Chains.{IsFrom, IsStep, LedBack}
use Rattle.undo_stack.specs.Replays.{HasBack, ComesBack}

cells_on : (a b c : List (List Item)) → AreSame a b → AreSame b c → AreSame a c
cells_on a b c p q = ((λ n. q.0 n ∙ p.0 n), (let x = p.1 in let y = q.1 in omega (arith, x, y)))

reached_on : (a b c : State) → IsReached a b → IsReached b c → IsReached a c
reached_on a b c p q = (q.0 ∙ p.0, q.1 ∙ p.1, q.2 ∙ p.2, cells_on a.cells b.cells c.cells p.3 q.3)

pub from_self : (moment : Moment) → IsFrom moment moment
from_self moment = record { reached = (refl, refl, refl, (λ n. refl, omega arith)); mark = refl }

pub from_on : (a b c : Moment) → IsFrom a b → IsFrom b c → IsFrom a c
from_on a b c p q = record { reached = reached_on a.state b.state c.state p.reached q.reached; mark = q.mark ∙ p.mark }

led_on : (before : State) (done : Done) (now then : State) (r : Result State Fault) → IsReached now then → LedTo before done now r → LedTo before done then r
led_on before done now then (Ok made) more led = (led.0, reached_on made now then led.1 more)
led_on before done now then (Err fault) more led = led

-- what leads to a moment leads to one that is like it
leads_on : (before : State) (done : Done) (now then : Moment) → IsFrom now then → Leads before done (returned now) → Leads before done (returned then)
leads_on before done now then from leads = record {
  sound = leads.sound;
  ordered = leads.ordered;
  places = leads.places;
  some = leads.some;
  last = leads.last ∙ sym from.mark;
  led = led_on before done now.state then.state (applied done.operation before) from.reached leads.led;
}

pub step_on : (moment : Moment) (done : Done) (now then : Moment) → IsFrom now then → IsStep moment done now → IsStep moment done then
step_on moment done now then from step = record {
  welcome = step.welcome;
  leads = leads_on moment.state done now then from step.leads;
  mark = from.mark ∙ step.mark;
}

pub back_on : (start : Moment) (records : List Done) (now then : Moment) → IsFrom now then → LedBack start records now → LedBack start records then
back_on start [] now then from led = from_on start now then led from
back_on start (done ∷ records) now then from led = (led.0, step_on led.0 done now then from led.1, led.2)

-- whatever is kept
pub at_held : (before : State) (done : Done) (held : Held) → Leads before done (returned (present held)) → Leads before done held
at_held before done held leads = record {
  sound = leads.sound;
  ordered = leads.ordered;
  places = leads.places;
  some = leads.some;
  last = leads.last;
  led = leads.led;
}

-- some records are taken back, and others are left
pub record IsPartBack (all left : List Done) (old now : Held) : Type 0 where
  pub back : (start : Moment) → LedBack start (reverse all) (present old) → LedBack start (reverse left) (present now)
  pub cells : length old.state.cells ≤ length now.state.cells
  pub kept : now.kept ≡ old.kept

pub begins_back : (all : List Done) (old : Held) → IsPartBack all all old old
begins_back all old = record { back = λ start led. led; cells = omega arith; kept = refl }

module _ (all left before : List Done) (done : Done) (old now : Held) (part : IsPartBack all left old now) (is : left ≡ before ++ done ∷ []) where
  last-first : reverse left ≡ done ∷ reverse before
  last-first = ap reverse is ∙ reverse-append before (done ∷ [])

  back-here : (start : Moment) → LedBack start (reverse all) (present old) → LedBack start (done ∷ reverse before) (present now)
  back-here start led = subst (λ rs. LedBack start rs (present now)) last-first (part.back start led)

  -- the last one may be taken back
  pub may_revert : HasBack (reverse all) old → (from : State) × Leads from done now
  may_revert has = (let led = back-here has.0 has.1 in (led.0.state, at_held led.0.state done now led.1.leads))

  pub goes_back : (new : Held) → ((from : State) → Leads from done now → IsAgain from new.state) → new.mark + 1 ≡ now.mark
      → length now.state.cells ≤ length new.state.cells → new.kept ≡ now.kept
      → IsPartBack all before old new
  goes_back new again mark long kept = record {
    back = λ start led. (let here = back-here start led in
        let is = again here.0.state (at_held here.0.state done now here.1.leads) in
        let same : IsFrom here.0 (present new) = record {
          reached = (ap (λ d. d.items) is.0, ap (λ d. d.markers) is.0, ap (λ d. d.next_id) is.0, is.1);
          mark = (let m = here.1.mark in omega (arith, m, mark));
        } in
        back_on start (reverse before) here.0 (present new) same here.2);
    cells = (let c = part.cells in omega (arith, c, long));
    kept = kept ∙ part.kept;
  }

no-records : (left : List Done) → length left ≡ 0 → left ≡ []
no-records [] none = refl
no-records (done ∷ left) none = absurd (omega (arith, none))

pub ends_back : (all left : List Done) (old now : Held) → IsPartBack all left old now → length left ≡ 0 → ComesBack (reverse all) old now
ends_back all left old now part none = record {
  from = λ start led. subst (λ rs. LedBack start rs (present now)) (ap reverse (no-records left none)) (part.back start led);
  cells = part.cells;
}

-- one record more
pub led_more : (start : Moment) (records : List Done) (done : Done) (old new : Held) → LedBack start (reverse records) (present old)
    → IsWelcome done.operation old.state → Leads old.state done new
    → new.mark ≡ old.mark + 1 → LedBack start (reverse (records ++ done ∷ [])) (present new)
led_more start records done old new led welcome leads up =
    subst (λ rs. LedBack start rs (present new)) (sym (reverse-append records (done ∷ [])))
    (present old, record { welcome = welcome; leads = at_moment old.state done new leads; mark = up }, led)
