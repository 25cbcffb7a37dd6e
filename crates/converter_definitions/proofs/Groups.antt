-- Which names a marker's group goes on to: its own, and those that begin with it and a colon.
use Rattle.std.proofs.Common.{◌≡◌, ◌==◌, ◌↔◌, inl, inr, IsTrue, ℕ, List, [], ◌∷◌, ◌++◌, Bool, true, false, ◌&&◌, refl, ap, ◌∙◌, arith}
use Rattle.std.proofs.lemmas.Bool.{eqb-true, eq-eqb}
use Rattle.converter_definitions.specs.Layers.{goes_on, IsOfGroup}

colon : (byte : ℕ) (name : List ℕ) → IsTrue (byte == 58) → IsOfGroup [] (byte ∷ name)
colon byte name h = inr (name, ap (λ first. first ∷ name) (grind arith))

both : (a b : Bool) → IsTrue (a && b) → IsTrue a × IsTrue b
both true b h = (refl, h)
both false b h = cc

longer : (own byte : ℕ) (group name : List ℕ) → own ≡ byte → IsOfGroup group name → IsOfGroup (own ∷ group) (byte ∷ name)
longer own byte group name e (inl same) = inl (cc)
longer own byte group name e (inr (rest, is)) = inr (rest, cc)

of-group : (group name : List ℕ) → IsTrue (goes_on group name) → IsOfGroup group name
of-group [] [] h = inl refl
of-group [] (byte ∷ name) h = colon byte name h
of-group (own ∷ group) [] h = cc
of-group (own ∷ group) (byte ∷ name) h =
    let b = both (own == byte) (goes_on group name) h in
    longer own byte group name (eqb-true own byte b.0) (of-group group name b.1)

same-byte : (byte : ℕ) → (byte == byte) ≡ true
same-byte byte = eq-eqb byte byte refl

goes-on-to-itself : (group : List ℕ) → IsTrue (goes_on group group)
goes-on-to-itself [] = refl
goes-on-to-itself (own ∷ group) = ap (λ test. test && goes_on group group) (same-byte own) ∙ goes-on-to-itself group

goes-on-behind : (group rest : List ℕ) → IsTrue (goes_on group (group ++ (58 ∷ rest)))
goes-on-behind [] rest = refl
goes-on-behind (own ∷ group) rest = ap (λ test. test && goes_on group (group ++ (58 ∷ rest))) (same-byte own) ∙ goes-on-behind group rest

goes-on : (group name : List ℕ) → IsOfGroup group name → IsTrue (goes_on group name)
goes-on group name (inl same) = ap (goes_on group) same ∙ goes-on-to-itself group
goes-on group name (inr (rest, is)) = ap (goes_on group) is ∙ goes-on-behind group rest

pub goes-on-to-its-group : (group name : List ℕ) → IsTrue (goes_on group name) ↔ IsOfGroup group name
goes-on-to-its-group group name = (of-group group name, goes-on group name)
