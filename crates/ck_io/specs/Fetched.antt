-- What a fetch answered.
use Rattle.std.specs.Prelude.{◌≡◌, ℕ, Ok, Err, Result}
use Rattle.ck_io.specs.declared.files.FetchFault.{FetchFault}
use Rattle.ck_io.specs.declared.files.FetchFault.TheVariants.{Failed, TooLarge, Missing, NoMemory}

-- only a fetch that failed changes the count of failed calls
abbrev pub CountsFailedOnly : {A : Type 0} → Result A FetchFault → ℕ → ℕ → Type 0
CountsFailedOnly (Ok bytes) before now = now ≡ before
CountsFailedOnly (Err Failed) before now = Unit {0}
CountsFailedOnly (Err TooLarge) before now = now ≡ before
CountsFailedOnly (Err Missing) before now = now ≡ before
CountsFailedOnly (Err NoMemory) before now = now ≡ before
