-- Equal lists of numbers, and the paths of the elements round a split.
use Rattle.std.proofs.Common.{◌≡◌, ◌≢◌, ℕ, ◌+◌, ◌-◌, ◌≤◌, true, List, [], ◌∷◌, ◌++◌, length, nat_eq, sym, ap, ◌∙◌, arith, append_assoc, length-append}
use Rattle.std.specs.Cmp.Lexicographic.{pointwise, bytes_decides}
use Rattle.item_definitions.specs.Children.{parent_of, offset_of}
use Rattle.item_definitions.specs.Position.{behind}
use Rattle.item_definitions.proofs.Order.{behind-push}
use Rattle.item_definitions.proofs.Paths.{parent_of-push, offset_of-push, path-joined}

pub same_numbers : (xs ys : List ℕ) → pointwise nat_eq xs ys ≡ true → xs ≡ ys
same_numbers xs ys e = (bytes_decides xs ys).0 e

pub numbers_same : (xs ys : List ℕ) → xs ≡ ys → pointwise nat_eq xs ys ≡ true
numbers_same xs ys e = (bytes_decides xs ys).1 e

long-some : (path : List ℕ) → 1 ≤ length path → path ≢ []
long-some path h e = absurd (omega (arith, ap length e))

long-parent : (path : List ℕ) → path ≢ [] → length path ≡ length (parent_of path) + 1
long-parent path some = ap length (path-joined path some) ∙ omega (arith, length-append (parent_of path) (offset_of path ∷ []))

module _ (position : List ℕ) (long : 2 ≤ length position) where
  element-some : parent_of position ≢ []
  element-some = long-some (parent_of position) (omega (arith, long-parent position (long-some position (omega arith))))

  pub element-is : parent_of position ≡ parent_of (parent_of position) ++ offset_of (parent_of position) ∷ []
  element-is = path-joined (parent_of position) element-some

  next-is : behind (parent_of position) ≡ parent_of (parent_of position) ++ (offset_of (parent_of position) + 1) ∷ []
  next-is = ap behind element-is ∙ behind-push (parent_of (parent_of position)) (offset_of (parent_of position))

  pub next-parent : parent_of (behind (parent_of position)) ≡ parent_of (parent_of position)
  next-parent = ap parent_of next-is ∙ parent_of-push (parent_of (parent_of position)) (offset_of (parent_of position) + 1)

  pub next-offset : offset_of (behind (parent_of position)) ≡ offset_of (parent_of position) + 1
  next-offset = ap offset_of next-is ∙ offset_of-push (parent_of (parent_of position)) (offset_of (parent_of position) + 1)

  -- the position is the end of the element that is split, where it is the last one in it
  pub position-is : position ≡ parent_of (behind (parent_of position)) ++ (offset_of (behind (parent_of position)) - 1) ∷ offset_of position ∷ []
  position-is =
      let back : offset_of (behind (parent_of position)) - 1 ≡ offset_of (parent_of position) = omega (arith, next-offset) in
      path-joined position (long-some position (omega arith))
      ∙ ap (λ p. p ++ offset_of position ∷ []) element-is
      ∙ append_assoc (parent_of (parent_of position)) (offset_of (parent_of position) ∷ []) (offset_of position ∷ [])
      ∙ (λ t. sym next-parent t ++ sym back t ∷ offset_of position ∷ [])

module _ (above target : List ℕ) (index offset : ℕ) (known : target ≡ above ++ index ∷ offset ∷ []) where
  joined : target ≡ (above ++ index ∷ []) ++ offset ∷ []
  joined = known ∙ sym (append_assoc above (index ∷ []) (offset ∷ []))

  pub target-parent : parent_of target ≡ above ++ index ∷ []
  target-parent = ap parent_of joined ∙ parent_of-push (above ++ index ∷ []) offset

  pub target-above : parent_of (parent_of target) ≡ above
  target-above = ap parent_of target-parent ∙ parent_of-push above index

  pub target-index : offset_of (parent_of target) ≡ index
  target-index = ap offset_of target-parent ∙ offset_of-push above index

  pub target-offset : offset_of target ≡ offset
  target-offset = ap offset_of joined ∙ offset_of-push (above ++ index ∷ []) offset

  pub target-long : 2 ≤ length target
  target-long = omega (arith, ap length joined, length-append (above ++ index ∷ []) (offset ∷ []), length-append above (index ∷ []))
