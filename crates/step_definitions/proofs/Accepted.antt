-- What an accepted change makes obeys the schema, and is settled.
use Rattle.std.proofs.Common.{◌≡◌, ℕ, List, [], Bool, Option, Some, None, Result, Ok, Err, refl, ap, ◌∙◌, subst}
use Rattle.ck_base.specs.declared.faults.EditFault.{EditFault}
use Rattle.ck_base.specs.declared.faults.Rule.{Rule}
use Rattle.breach_definitions.specs.Breach.{breach}
use Rattle.document_definitions.specs.Document.{Document, State}
use Rattle.schema_definitions.specs.Allowed.{is_registered}
use Rattle.edit_definitions.specs.declared.edit.Edit.{Edit}
use Rattle.edit_definitions.specs.Performed.{apart, edits_made}
use Rattle.fix_definitions.specs.declared.fault.SettleFault.{SettleFault}
use Rattle.fix_definitions.specs.Fixes.{Fixing}
use Rattle.fix_definitions.specs.Settling.{settle, settled, document_settled, IsSettled}
use Rattle.fix_definitions.specs.Rounds.{ComesToRest}
use Rattle.fix_definitions.proofs.Rounds.{settles, stays_settled}
use Rattle.step_definitions.specs.Step.{Terms, IsAccepted, accepted, tested, finished, step, opening, empty_document, opened}

abbrev document_in : {E : Type 0} → Document → Result Document E → Document
document_in other (Ok document) = document
document_in other (Err fault) = other

-- a document that settles is settled then
rests : (registered : List ℕ → Bool) (fixings : List Fixing) (rounds : ℕ) (document made : Document)
    → settled registered fixings rounds document ≡ Ok made → IsSettled fixings made
rests registered fixings rounds document made e = go (settle registered fixings rounds (apart document)) refl e
  where
    go : (found : Result State SettleFault) → settle registered fixings rounds (apart document) ≡ found → document_settled found ≡ Ok made
        → IsSettled fixings made
    go (Ok state) s e = subst (IsSettled fixings) (ap (document_in made) e)
        (let rest : ComesToRest registered fixings rounds (apart document) state =
        (settles registered fixings rounds (apart document) state).0 s in rest.settled)
    go (Err fault) s e = absurd cc

tested_accepted : (terms : Terms) (made : Result Document SettleFault) (document : Document)
    → ((other : Document) → made ≡ Ok other → IsSettled terms.fixings other) → tested terms made ≡ Ok document → IsAccepted terms document
tested_accepted terms (Ok other) document rests e = go (breach terms.rules other.items) refl e
  where
    go : (found : Option (Rule × List ℕ)) → breach terms.rules other.items ≡ found → accepted other found ≡ Ok document → IsAccepted terms document
    go None b e = subst (IsAccepted terms) (ap (document_in other) e) (record { obeys = b; settled = rests other refl })
    go (Some found) b e = absurd cc
tested_accepted terms (Err fault) document rests e = absurd cc

finished_accepted : (terms : Terms) (made : Result Document EditFault) (document : Document) → finished terms made ≡ Ok document → IsAccepted terms document
finished_accepted terms (Ok other) document e =
    tested_accepted terms (settled (is_registered terms.rules) terms.fixings terms.rounds other) document
    (λ made s. rests (is_registered terms.rules) terms.fixings terms.rounds other made s) e
finished_accepted terms (Err fault) document e = absurd cc

pub step_accepted : (terms : Terms) (edits : List Edit) (document made : Document) → step terms edits document ≡ Ok made → IsAccepted terms made
step_accepted terms edits document made e = finished_accepted terms (edits_made (is_registered terms.rules) edits document) made e

pub opened_accepted : (terms : Terms) (start : Option (List ℕ)) (made : Document) → opened terms start ≡ Ok made → IsAccepted terms made
opened_accepted terms start made e = step_accepted terms (opening start) empty_document made e

-- a change without edits leaves what obeys and is settled
pub stays_accepted : (terms : Terms) (document : Document) → IsAccepted terms document → step terms [] document ≡ Ok document
stays_accepted terms document is =
    ap (λ made. tested terms (document_settled made)) (stays_settled (is_registered terms.rules) terms.fixings terms.rounds (apart document) is.settled)
    ∙ ap (accepted document) is.obeys
