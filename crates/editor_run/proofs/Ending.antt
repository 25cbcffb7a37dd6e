-- How the ends of runs follow from what was written.
use Rattle.std.proofs.Common.{◌≡◌, ◌≢◌, ◌⊎◌, inl, inr, ℕ, List, [], Option, Some, None, Result, Ok, Err, IfSome, IfNone, string_bytes, refl, sym, ap, subst}
use Rattle.std.proofs.Common.{◌∙◌}
use Rattle.ck_io.specs.Rose.{Rose}
use Rattle.ck_io.proofs.Written.{append_known-nil}
use Rattle.program_definitions.specs.Task.{Task}
use Rattle.program_definitions.specs.Machine.{Machine}
use Rattle.program_definitions.specs.Output.{Outcome, silent, refused, finished}
use Rattle.editor_run.specs.declared.run.Status.{Status}
use Rattle.editor_run.specs.declared.run.Status.TheVariants.{Finished, Refused, BadWords, NoMemory, NotFetched, NotWritten, TooLarge}
use Rattle.editor_run.specs.declared.opening.Unopened.{Unopened}
use Rattle.editor_run.specs.declared.opening.Unopened.TheVariants as ends
use Rattle.editor_run.specs.Status.{status_code}
use Rattle.editor_run.specs.Sent.{SendsFront}
use Rattle.editor_run.specs.Ends.{Calls, IsFetched, IsOutcome, Ends, Tells, IsNotHeld, IsTelling}
use Rattle.editor_run.specs.Unopened.{IsEnd, IsTold}
use Rattle.editor_run.proofs.Sending.{sends_none}

-- what follows for each that is held
pub all_held : {Held : Type 0} (holds : Option Held) (P Q : Held → Type 0) → IfSome holds P → ((held : Held) → P held → Q held) → IfSome holds Q
all_held None P Q p so = tt
all_held (Some held) P Q p so = so held p

pub any_held : {Held : Type 0} (holds : Option Held) (Q : Held → Type 0) → ((held : Held) → Q held) → IfSome holds Q
any_held None Q so = tt
any_held (Some held) Q so = so held

-- what is held is told, where what it isn't told of has come, or what has come is only said of what is held
pub is_told : (holds : Option (List ℕ → Option (List ℕ))) (P : Type 0) → IfNone holds (¬ P) → P → IsTelling holds
is_told None P not p = absurd (not p)
is_told (Some held) P not p = tt

pub not_held_told : (holds : Option (List ℕ → Option (List ℕ))) (name : List ℕ) → IsNotHeld holds name → IsTelling holds
not_held_told None name e = absurd e
not_held_told (Some held) name e = tt

module _ (calls : Calls) (wanted : (List ℕ → Option (List ℕ)) → Outcome) where
  -- a text was told, which is what is wanted
  pub ends_told : (text : List ℕ) (ended status : Status)
      → IfSome calls.held (λ held. wanted held ≡ record { bytes = text; status = status_code ended })
      → status ≢ NotFetched → status ≢ TooLarge
      → Tells text ended calls.written calls.written_then calls.writes calls.writes_then status → Ends calls wanted status
  ends_told text ended status is fetched small tells = record {
    output = all_held calls.held (λ held. wanted held ≡ record { bytes = text; status = status_code ended })
        (λ held. status ≢ NoMemory → status ≢ NotWritten → (status ≡ NotFetched → IsFetched calls)
        → IsOutcome calls.written calls.written_then (status_code status) (wanted held)) is
        (λ held e memory written calm. (let whole = tells.whole memory written in
        subst (IsOutcome calls.written calls.written_then (status_code status)) (sym e) (ap status_code whole.0, whole.1)));
    part = all_held calls.held (λ held. wanted held ≡ record { bytes = text; status = status_code ended })
        (λ held. SendsFront calls.written calls.written_then (wanted held).bytes) is
        (λ held e. subst (λ (outcome : Outcome). SendsFront calls.written calls.written_then outcome.bytes) (sym e) tells.part);
    not_fetched = λ e. absurd (fetched e);
    missing = λ e. absurd (fetched e);
    not_written = tells.failed;
    too_large = λ e. absurd (small e);
  }

  module _ (nothing : calls.written_then ≡ calls.written) where
    front : IfSome calls.held (λ held. SendsFront calls.written calls.written_then (wanted held).bytes)
    front = any_held calls.held (λ held. SendsFront calls.written calls.written_then (wanted held).bytes)
        (λ held. subst (λ new. SendsFront calls.written new (wanted held).bytes) (sym nothing)
        ((wanted held).bytes, sends_none calls.written (wanted held).bytes))

    -- nothing was written, for want of memory,
    pub ends_out_of_memory : Ends calls wanted NoMemory
    ends_out_of_memory = record {
      output = any_held calls.held (λ held. NoMemory ≢ NoMemory → NoMemory ≢ NotWritten → (NoMemory ≡ NotFetched → IsFetched calls)
          → IsOutcome calls.written calls.written_then 3 (wanted held)) (λ held memory. absurd (memory refl));
      part = front;
      not_fetched = λ e. absurd cc;
      missing = λ e. absurd cc;
      not_written = λ e. absurd cc;
      too_large = λ e. absurd cc;
    }

    silent_so : (code : ℕ) (held : List ℕ → Option (List ℕ)) → wanted held ≡ silent code → IsOutcome calls.written calls.written_then code (wanted held)
    silent_so code held e = subst (IsOutcome calls.written calls.written_then code) (sym e) (refl, nothing ∙ sym (append_known-nil calls.written))

    -- since a file can't be had,
    pub ends_unfetched : IfSome calls.held (λ held. IsFetched calls → wanted held ≡ silent 4) → (IsFetched calls → IsTelling calls.held)
        → Ends calls wanted NotFetched
    ends_unfetched is told = record {
      output = all_held calls.held (λ held. IsFetched calls → wanted held ≡ silent 4)
          (λ held. NotFetched ≢ NoMemory → NotFetched ≢ NotWritten → (NotFetched ≡ NotFetched → IsFetched calls)
          → IsOutcome calls.written calls.written_then 4 (wanted held)) is
          (λ held e memory written calm. silent_so 4 held (e (calm refl)));
      part = front;
      not_fetched = λ e. nothing;
      missing = λ e. told;
      not_written = λ e. absurd cc;
      too_large = λ e. absurd cc;
    }

    -- or since one is too large
    pub ends_too_large : IfSome calls.held (λ held. wanted held ≡ silent 6) → Ends calls wanted TooLarge
    ends_too_large is = record {
      output = all_held calls.held (λ held. wanted held ≡ silent 6)
          (λ held. TooLarge ≢ NoMemory → TooLarge ≢ NotWritten → (TooLarge ≡ NotFetched → IsFetched calls)
          → IsOutcome calls.written calls.written_then 6 (wanted held)) is
          (λ held e memory written calm. silent_so 6 held e);
      part = front;
      not_fetched = λ e. absurd cc;
      missing = λ e. absurd cc;
      not_written = λ e. absurd cc;
      too_large = λ e. nothing;
    }

-- the end of a run that wants what another one does, and has made the same calls
pub ends_as : (calls calls_too : Calls) (wanted wanted_too : (List ℕ → Option (List ℕ)) → Outcome) (status status_too : Status)
    → calls ≡ calls_too → status ≡ status_too → IfSome calls.held (λ held. wanted held ≡ wanted_too held) → Ends calls wanted status
    → Ends calls_too wanted_too status_too
ends_as calls calls_too wanted wanted_too status status_too same s is ends =
    subst (λ calls. Ends calls wanted_too status_too) same (subst (λ status. Ends calls wanted_too status) s (record {
      output = both calls.held (λ held. wanted held ≡ wanted_too held)
          (λ held. status ≢ NoMemory → status ≢ NotWritten → (status ≡ NotFetched → IsFetched calls)
          → IsOutcome calls.written calls.written_then (status_code status) (wanted held))
          (λ held. status ≢ NoMemory → status ≢ NotWritten → (status ≡ NotFetched → IsFetched calls)
          → IsOutcome calls.written calls.written_then (status_code status) (wanted_too held))
          is ends.output (λ held e so memory written calm. subst (IsOutcome calls.written calls.written_then (status_code status)) e (so memory written calm));
      part = both calls.held (λ held. wanted held ≡ wanted_too held) (λ held. SendsFront calls.written calls.written_then (wanted held).bytes)
          (λ held. SendsFront calls.written calls.written_then (wanted_too held).bytes)
          is ends.part (λ held e front. subst (λ (outcome : Outcome). SendsFront calls.written calls.written_then outcome.bytes) e front);
      not_fetched = ends.not_fetched;
      missing = ends.missing;
      not_written = ends.not_written;
      too_large = ends.too_large;
    }))
  where
    both : {Held : Type 0} (holds : Option Held) (P Q R : Held → Type 0) → IfSome holds P → IfSome holds Q → ((held : Held) → P held → Q held → R held)
        → IfSome holds R
    both None P Q R p q so = tt
    both (Some held) P Q R p q so = so held p q

-- a status that is one of two or three is no other one
pub either_other : (a b other status : Status) → a ≢ other → b ≢ other → (status ≡ a) ⊎ (status ≡ b) → status ≢ other
either_other a b other status r w (inl e) = λ f. r (sym e ∙ f)
either_other a b other status r w (inr e) = λ f. w (sym e ∙ f)

pub three_other : (a b d other status : Status) → a ≢ other → b ≢ other → d ≢ other → (status ≡ a) ⊎ ((status ≡ b) ⊎ (status ≡ d)) → status ≢ other
three_other a b d other status r w u (inl e) = λ f. r (sym e ∙ f)
three_other a b d other status r w u (inr e) = either_other b d other status w u e

-- the end of a run in which no editor was opened
pub ends_unopened : (calls : Calls) (wanted : (List ℕ → Option (List ℕ)) → Result Machine Outcome) (task : Task) (fault : Unopened) (status : Status)
    → IfSome calls.held (λ held. (fault ≡ ends.NotFetched → IsFetched calls) → IsEnd fault (wanted held))
    → (fault ≡ ends.NotFetched → IsFetched calls → IsTelling calls.held)
    → IsTold fault calls.written calls.written_then calls.writes calls.writes_then status
    → Ends calls (λ held. finished held task (wanted held)) status
ends_unopened calls wanted task ends.NoMemory status is had told =
    subst (Ends calls (λ held. finished held task (wanted held))) (sym told.0) (ends_out_of_memory calls (λ held. finished held task (wanted held)) told.1)
ends_unopened calls wanted task ends.NotFetched status is had told =
    subst (Ends calls (λ held. finished held task (wanted held))) (sym told.0) (ends_unfetched calls (λ held. finished held task (wanted held)) told.1
    (all_held calls.held (λ held. (ends.NotFetched ≡ ends.NotFetched → IsFetched calls) → wanted held ≡ Err (silent 4)) (λ held. IsFetched calls
    → finished held task (wanted held) ≡ silent 4) is
    (λ held e calm. ap (finished held task) (e (λ same. calm))))
    (had refl))
ends_unopened calls wanted task ends.TooLarge status is had told =
    subst (Ends calls (λ held. finished held task (wanted held))) (sym told.0) (ends_too_large calls (λ held. finished held task (wanted held)) told.1
    (all_held calls.held (λ held. (ends.TooLarge ≡ ends.NotFetched → IsFetched calls) → wanted held ≡ Err (silent 6))
    (λ held. finished held task (wanted held) ≡ silent 6) is
    (λ held e. ap (finished held task) (e (λ same. absurd cc)))))
ends_unopened calls wanted task (ends.Refused text) status is had told =
    ends_told calls (λ held. finished held task (wanted held)) (string_bytes text) Refused status
    (all_held calls.held (λ held. (ends.Refused text ≡ ends.NotFetched → IsFetched calls) → wanted held ≡ Err (refused (string_bytes text)))
    (λ held. finished held task (wanted held) ≡ refused (string_bytes text)) is
    (λ held e. ap (finished held task) (e (λ same. absurd cc))))
    (either_other Refused NotWritten NotFetched status (λ a. absurd cc) (λ a. absurd cc) told.1)
    (either_other Refused NotWritten TooLarge status (λ a. absurd cc) (λ a. absurd cc) told.1) told.0
