-- Parents and offsets of paths that end in a known number.
use Rattle.std.proofs.Common.{◌≡◌, ◌≢◌, ℕ, List, [], ◌∷◌, ◌++◌, refl, ap}
use Rattle.item_definitions.specs.Children.{parent_of, offset_of}

pub parent_of-push : (parent : List ℕ) (k : ℕ) → parent_of (parent ++ k ∷ []) ≡ parent
parent_of-push [] k = refl
parent_of-push (x ∷ []) k = refl
parent_of-push (x ∷ y ∷ parent) k = ap (λ path. x ∷ path) (parent_of-push (y ∷ parent) k)

pub offset_of-push : (parent : List ℕ) (k : ℕ) → offset_of (parent ++ k ∷ []) ≡ k
offset_of-push [] k = refl
offset_of-push (x ∷ []) k = refl
offset_of-push (x ∷ y ∷ parent) k = offset_of-push (y ∷ parent) k

-- a path that isn't empty is its parent's path and its offset
pub path-joined : (path : List ℕ) → path ≢ [] → path ≡ parent_of path ++ offset_of path ∷ []
path-joined [] some = absurd (some refl)
path-joined (x ∷ []) some = refl
path-joined (x ∷ y ∷ path) some = ap (λ rest. x ∷ rest) (path-joined (y ∷ path) (λ e. cc))

pub push-some : (parent : List ℕ) (k : ℕ) → parent ++ k ∷ [] ≢ []
push-some [] k e = cc
push-some (x ∷ parent) k e = cc

-- what a path that ends in a known number tells
pub ruleset paths = (parent_of-push, offset_of-push)
