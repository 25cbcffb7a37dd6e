-- The path of the item behind another one.
use Rattle.std.proofs.Common.{◌≡◌, ℕ, ◌+◌, ◌<◌, ◌^◌, List, [], ◌∷◌, ◌++◌, All, length, length-append, arith, sym, ap, ◌∙◌, subst}
use Rattle.std.proofs.Math.Seq.{get_or-append_seam}
use Rattle.item_definitions.specs.Position.{behind}
use Rattle.item_definitions.specs.Shift.{IsWithinLimits}
use Rattle.item_definitions.proofs.Order.{behind-push}

last-within : (xs : List ℕ) (n : ℕ) → All (λ number. number < 2 ^ 32) (xs ++ n ∷ []) → n < 2 ^ 32
last-within xs n h = subst (λ m. m < 2 ^ 32) (get_or-append_seam xs n [] 0) (h (length xs) 0 (omega (arith, length-append xs (n ∷ []))))

pub next_within : (above parent : List ℕ) (index : ℕ) → parent ≡ above ++ index ∷ [] → IsWithinLimits (behind parent) → index + 1 < 2 ^ 32
next_within above parent index e h = last-within
    above (index + 1) (subst (λ path. All (λ number. number < 2 ^ 32) path) (ap behind e ∙ behind-push above index) h.1)

pub next_is : (above parent path made : List ℕ) (index : ℕ) → parent ≡ above ++ index ∷ [] → path ≡ above → made ≡ path ++ (index + 1) ∷ []
    → made ≡ behind parent
next_is above parent path made index e p m = m ∙ ap (λ front. front ++ (index + 1) ∷ []) p ∙ sym (ap behind e ∙ behind-push above index)
