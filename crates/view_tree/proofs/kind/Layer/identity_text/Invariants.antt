use Rattle.std.proofs.Common.{◌≡◌, ℕ, List, [], ◌∷◌, ◌++◌, take}
use Rattle.std.specs.List.{flat_map}
use Rattle.view_tree.proofs.kind.Layer.identity_text.Given as goal

-- the name, and the attributes so far
abbrev pub invariant-loop-key : goal.invariant-loop-key
invariant-loop-key l = l.text.items ≡ l.self.name ++ flat_map (λ (entry : List ℕ × List ℕ). 32 ∷ (entry.0 ++ 61 ∷ 34 ∷ (entry.1 ++ 34 ∷ [])))
    (take l.key-index l.key-items)
