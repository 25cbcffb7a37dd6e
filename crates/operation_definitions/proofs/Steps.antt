-- What the steps of an operation that is not refused answered.
use Rattle.std.proofs.Common.{◌≡◌, Bool, true, false, Option, Some, None, ok_or, Result, Ok, Err, refl, ap, ◌∙◌}
use Rattle.operation_definitions.specs.Operation.{Fault}
use Rattle.operation_definitions.specs.After.{◌>>=◌, check}

pub step-ok : {A B : Type 0} (r : Result A Fault) (next : A → Result B Fault) (b : B) → (r >>= next) ≡ Ok b → (a : A) × (r ≡ Ok a) × (next a ≡ Ok b)
step-ok (Ok a) next b e = (a, refl, e)
step-ok (Err fault) next b e = absurd cc

pub ok_or-some : {A : Type 0} (o : Option A) (fault : Fault) (a : A) → ok_or o fault ≡ Ok a → o ≡ Some a
ok_or-some None fault a e = absurd cc
ok_or-some (Some x) fault a e = (let same : x ≡ a = cc in ap Some same)

pub check-true : (b : Bool) (fault : Fault) (u : Unit {0}) → check b fault ≡ Ok u → b ≡ true
check-true true fault u e = refl
check-true false fault u e = absurd cc

-- a step whose answer is known
pub step : {A B : Type 0} (r : Result A Fault) (next : A → Result B Fault) (a : A) (answer : Result B Fault) → r ≡ Ok a → next a ≡ answer
    → (r >>= next) ≡ answer
step {A = A} r next a answer e f = ap (λ (r : Result A Fault). r >>= next) e ∙ f

pub step-some : {A B : Type 0} (o : Option A) (fault : Fault) (next : A → Result B Fault) (a : A) (answer : Result B Fault) → o ≡ Some a
    → next a ≡ answer → (ok_or o fault >>= next) ≡ answer
step-some {A = A} o fault next a answer e f = ap (λ (o : Option A). ok_or o fault >>= next) e ∙ f

pub step-check : {B : Type 0} (b : Bool) (fault : Fault) (next : Unit {0} → Result B Fault) (answer : Result B Fault) → b ≡ true → next tt ≡ answer
    → (check b fault >>= next) ≡ answer
step-check b fault next answer e f = ap (λ b. check b fault >>= next) e ∙ f
