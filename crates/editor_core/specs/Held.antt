-- What changes are held to, and what they leave.
use Rattle.std.specs.Prelude.{◌≡◌, ◌≢◌, List, Result, Ok, Err}
use Rattle.std.specs.Global.{Global}
use Rattle.std.specs.declared.dyn_box.DynBox.{DynBox}
use Rattle.ck_base.specs.declared.faults.Refusal.{Refusal}
use Rattle.ck_base.specs.declared.faults.Refusal.TheVariants.{NoMemory}
use Rattle.fix_definitions.specs.Fixes.{Fixing}
use Rattle.post_fix.specs.Listed.{fixings_of}
use Rattle.step_definitions.specs.Step as step
use Rattle.editor_core.specs.declared.terms.Terms.{Terms}

-- what the fixers plan, by what boxed ones plan
abbrev pub fixings_in : {Z : Type 0} {W : Z → Type 0} → (DynBox Z Global W → Fixing) → Terms Z W → List Fixing
fixings_in fixes terms = fixings_of terms.schema fixes terms.fixers

-- what changes are held to, by what boxed fixers plan
abbrev pub terms_of : {Z : Type 0} {W : Z → Type 0} → (DynBox Z Global W → Fixing) → Terms Z W → step.Terms
terms_of fixes terms = record { rules = terms.schema; fixings = fixings_in fixes terms; rounds = terms.rounds }

-- an accepted call leaves what is wanted; a refusal is the one that is wanted, but for want of memory
abbrev pub Moves : {S A : Type 0} → Result S Refusal → S → Result A Refusal → Type 0
Moves wanted new (Ok done) = wanted ≡ Ok new
Moves wanted new (Err refusal) = refusal ≢ NoMemory → wanted ≡ Err refusal
