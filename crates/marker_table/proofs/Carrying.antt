-- A table of which the first markers were carried.
use Rattle.std.proofs.Common.{◌≡◌, ℕ, zero, suc, ◌+◌, ◌<◌, ◌≤◌, length, arith, [], ◌∷◌, Some, IfSome, slice_get, All, refl, sym, ap, ◌∙◌, subst}
use Rattle.std.specs.Map.{values_of}
use Rattle.indexmap.specs.IndexMap.{set_value_at}
use Rattle.std.proofs.lemmas.List.Elements.{All-tail}
use Rattle.item_definitions.specs.Position.{Range}
use Rattle.item_definitions.specs.Shift.{Shift, carry_range}
use Rattle.document_definitions.specs.Markers.{Markers, carried}
use Rattle.document_definitions.specs.Sound.{IsCarried}

-- the first so many markers where they go, the others where they were
abbrev pub carried_up_to : Shift → ℕ → Markers → Markers
carried_up_to shift zero markers = markers
carried_up_to shift (suc n) [] = []
carried_up_to shift (suc n) (marker ∷ markers) = (marker.0, carry_range shift marker.1) ∷ carried_up_to shift n markers

pub all_carried : (shift : Shift) (n : ℕ) (markers : Markers) → length markers ≤ n → carried_up_to shift n markers ≡ carried shift markers
all_carried shift zero [] most = refl
all_carried shift zero (marker ∷ markers) most = absurd (omega arith)
all_carried shift (suc n) [] most = refl
all_carried shift (suc n) (marker ∷ markers) most = ap (λ rest. (marker.0, carry_range shift marker.1) ∷ rest) (all_carried shift n markers (omega arith))

pub still_carried : (shift : Shift) (n : ℕ) (markers : Markers) → All (λ marker. IsCarried shift marker.1) markers
    → IfSome (slice_get (values_of (carried_up_to shift n markers)) n) (IsCarried shift)
still_carried shift zero [] all = tt
still_carried shift zero (marker ∷ markers) all = all 0 marker (omega arith)
still_carried shift (suc n) [] all = tt
still_carried shift (suc n) (marker ∷ markers) all = still_carried shift n markers (All-tail (λ m. IsCarried shift m.1) marker markers all)

-- the next one, and the table with it where it goes
there : (shift : Shift) (n : ℕ) (markers : Markers) → n < length markers
    → (range : Range) × (slice_get (values_of (carried_up_to shift n markers)) n ≡ Some range)
    × (set_value_at (carried_up_to shift n markers) n (carry_range shift range) ≡ carried_up_to shift (n + 1) markers)
there shift zero [] less = absurd (omega arith)
there shift zero (marker ∷ markers) less = (marker.1, refl, refl)
there shift (suc n) [] less = absurd (omega arith)
there shift (suc n) (marker ∷ markers) less =
    let rest = there shift n markers (omega arith) in
    let next : suc n + 1 ≡ suc (n + 1) = omega arith in (
      rest.0,
      rest.1,
      subst (λ m. set_value_at (carried_up_to shift (suc n) (marker ∷ markers)) (suc n) (carry_range shift rest.0)
          ≡ carried_up_to shift m (marker ∷ markers)) (sym next)
          (ap (λ others. (marker.0, carry_range shift marker.1) ∷ others) rest.2),
    )

-- one more of them carried
pub one_more : (shift : Shift) (n : ℕ) (markers new : Markers) → n < length markers
    → IfSome (slice_get (values_of (carried_up_to shift n markers)) n) (λ range. new ≡ set_value_at (carried_up_to shift n markers) n (carry_range shift range))
    → new ≡ carried_up_to shift (n + 1) markers
one_more shift n markers new less made =
    let t = there shift n markers less in
    let moved : new ≡ set_value_at (carried_up_to shift n markers) n (carry_range shift t.0) =
    subst (λ o. IfSome o (λ range. new ≡ set_value_at (carried_up_to shift n markers) n (carry_range shift range))) t.1 made in
    moved ∙ t.2
