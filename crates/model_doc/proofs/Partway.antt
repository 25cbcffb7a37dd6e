-- Some of a list of operations are made, and others are left.
use Rattle.std.proofs.Common.{◌≡◌, ℕ, ◌+◌, List, [], ◌∷◌, ◌++◌, map, length, Result, Ok, refl, sym, ap, ◌∙◌, subst, arith, append_assoc, append-nil}
use Rattle.operation_definitions.specs.Operation.{Fault}
use Rattle.operation_definitions.specs.After.{◌>>=◌}
use Rattle.document_definitions.specs.Document.{State, applied, all_applied}
use Rattle.model_ops.specs.declared.operation.Operation.{Operation}
use Rattle.model_ops.specs.Meant.{operation_of}
use Rattle.model_doc.specs.Records.{Done, done_on, recorded, records_of}
use Rattle.model_doc.specs.Conditions.{AreWelcome}

-- those that are left lead from here to where all lead from the start, with the records that are there in front
pub record Partway (all : List Operation) (start : State) (mark : ℕ) (rest : List Operation) (state : State) (records : List Done) (now : ℕ) : Type 0 where
  pub same : all_applied (map operation_of rest) state ≡ all_applied (map operation_of all) start
  pub written : records ++ records_of (map operation_of rest) state now ≡ records_of (map operation_of all) start mark
  pub counted : now + length rest ≡ mark + length all
  pub welcome : AreWelcome (map operation_of rest) state

pub begun : (all : List Operation) (start : State) (mark : ℕ) → AreWelcome (map operation_of all) start → Partway all start mark all start [] mark
begun all start mark welcome = record { same = refl; written = refl; counted = refl; welcome = welcome }

module _ (all : List Operation) (start : State) (mark : ℕ) (rest left : List Operation) (operation : Operation) (state : State) (records : List Done)
    (now : ℕ) (p : Partway all start mark rest state records now)
    (is : rest ≡ operation ∷ left) where
  here : Partway all start mark (operation ∷ left) state records now
  here = subst (λ r. Partway all start mark r state records now) is p

  pub next : (made : State) (more : List Done) (then : ℕ) → applied (operation_of operation) state ≡ Ok made
      → more ≡ records ++ done_on state (operation_of operation) made (now + 1) ∷ [] → then ≡ now + 1
      → Partway all start mark left made more then
  next made more then e one up = record {
    same = sym (ap (λ (r : Result State Fault). r >>= all_applied (map operation_of left)) e) ∙ here.same;
    written =
        (λ i. one i ++ records_of (map operation_of left) made (up i))
        ∙ append_assoc records (done_on state (operation_of operation) made (now + 1) ∷ []) (records_of (map operation_of left) made (now + 1))
        ∙ sym (ap (λ (r : Result State Fault). records ++ recorded state (operation_of operation) now
        (λ m. records_of (map operation_of left) m (now + 1)) r) e)
        ∙ here.written;
    counted = (let c = here.counted in omega (arith, c, up));
    welcome = here.welcome.1 made e;
  }

pub all_written : (all : List Operation) (start : State) (mark : ℕ) (state : State) (records : List Done) (now : ℕ)
    → Partway all start mark [] state records now → records ≡ records_of (map operation_of all) start mark
all_written all start mark state records now p = sym (append-nil records) ∙ p.written
