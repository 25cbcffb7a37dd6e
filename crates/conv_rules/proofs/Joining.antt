-- A layer joined at its place.
use Rattle.std.specs.Prelude.{◌≡◌, ◌<◌, ◌≤◌, ℕ, suc, ◌+◌, List, [], ◌∷◌, ◌++◌, length, Bool, true, false, not, ◌&&◌, Option, Some, None, is_some, is_none}
use Rattle.std.specs.Prelude.{nat_lt, if◌then◌else◌}
use Rattle.std.proofs.Common.{refl, sym, ap, ◌∙◌, arith, subst}
use Rattle.std.proofs.lemmas.Bool.Decides.{nat_tests}
use Rattle.std.specs.List.{position, position_or_len, insert, remove}
use Rattle.std.proofs.Common.{slice_index_or}
use Rattle.view_definitions.specs.Layer.{Layer}
use Rattle.converter_definitions.specs.Layers.{may_join, with_keys, join_into}

found : (test : Bool) (first place : ℕ) → Some place ≡ (if test then Some first else None) → (test ≡ true) × (place ≡ first)
found true first place e = (refl, cc)
found false first place e = absurd cc

missed : (test : Bool) (first : ℕ) → None ≡ (if test then Some first else None) → test ≡ false
missed true first e = absurd cc
missed false first e = refl

is_below : (n m : ℕ) → nat_lt n m ≡ true → n < m
is_below n m e = grind (arith, nat_tests)

not_below : (n m : ℕ) → nat_lt n m ≡ false → m ≤ n
not_below n m e = grind (arith, nat_tests)

one_later : (n : ℕ) → suc n ≡ 1 + n
one_later n = omega arith

later : (test : Bool) (n : ℕ) → (if test then suc n else 0) ≡ (if test then 1 + n else 0)
later test n = ap (λ m. if test then m else 0) (one_later n)

has_one : (id : Option (List ℕ)) → is_some id ≡ true → is_none id ≡ false
has_one None e = absurd cc
has_one (Some name) e = refl

second_fails : (a b c d f : Bool) → b ≡ false → (a && b && c && d && f) ≡ false
second_fails true true c d f e = absurd cc
second_fails true false c d f e = refl
second_fails false b c d f e = refl

-- a layer with an id joins none
apart : (other next : Layer) → is_some next.id ≡ true → may_join other next ≡ false
apart other next e = second_fails (is_none other.id) (is_none next.id) _ _ _ (has_one next.id e)

pub joined_apart : (next : Layer) (layers : List Layer) → is_some next.id ≡ true → layers ++ (next ∷ []) ≡ join_into next layers
joined_apart next [] e = refl
joined_apart next (other ∷ layers) e =
    ap (λ made. other ∷ made) (joined_apart next layers e)
    ∙ sym (ap (λ joins. if joins then with_keys other next ∷ layers else other ∷ join_into next layers) (apart other next e))

module _ (next : Layer) where
  at-step : (test : Bool) (other default : Layer) (layers : List Layer)
      → (if not test then suc (position_or_len (λ layer. may_join layer next) layers) else 0) < suc (length layers)
      → ((position_or_len (λ layer. may_join layer next) layers) < (length layers)
      → insert (remove layers (position_or_len (λ layer. may_join layer next) layers)) (position_or_len (λ layer. may_join layer next) layers)
      (with_keys (slice_index_or layers (position_or_len (λ layer. may_join layer next) layers) default) next) ≡ join_into next layers)
      → insert (remove (other ∷ layers) (if not test then suc (position_or_len (λ layer. may_join layer next) layers) else 0))
      (if not test then suc (position_or_len (λ layer. may_join layer next) layers) else 0)
      (with_keys (slice_index_or (other ∷ layers) (if not test then suc (position_or_len (λ layer. may_join layer next) layers) else 0) default) next)
      ≡ (if test then with_keys other next ∷ layers else other ∷ join_into next layers)
  at-step true other default layers inside rest = refl
  at-step false other default layers inside rest = ap (λ made. other ∷ made) (rest (omega (arith, inside)))

  at_place : (default : Layer) (layers : List Layer) → (position_or_len (λ layer. may_join layer next) layers) < (length layers)
      → insert (remove layers (position_or_len (λ layer. may_join layer next) layers)) (position_or_len (λ layer. may_join layer next) layers)
      (with_keys (slice_index_or layers (position_or_len (λ layer. may_join layer next) layers) default) next) ≡ join_into next layers
  at_place default [] = λ inside. absurd (omega (arith, inside))
  at_place default (other ∷ layers) =
      subst (λ p. p < suc (length layers) → insert (remove (other ∷ layers) p) p (with_keys (slice_index_or (other ∷ layers) p default) next)
      ≡ join_into next (other ∷ layers))
      (later (not (may_join other next)) (position_or_len (λ layer. may_join layer next) layers))
      (λ inside. at-step (may_join other next) other default layers inside (at_place default layers))

  behind-step : (test : Bool) (other : Layer) (layers : List Layer)
      → (suc (length layers)) ≤ (if not test then suc (position_or_len (λ layer. may_join layer next) layers) else 0)
      → ((length layers) ≤ (position_or_len (λ layer. may_join layer next) layers) → layers ++ (next ∷ []) ≡ join_into next layers)
      → other ∷ (layers ++ (next ∷ [])) ≡ (if test then with_keys other next ∷ layers else other ∷ join_into next layers)
  behind-step true other layers outside rest = absurd (omega (arith, outside))
  behind-step false other layers outside rest = ap (λ made. other ∷ made) (rest (omega (arith, outside)))

  behind_all : (layers : List Layer) → (length layers) ≤ (position_or_len (λ layer. may_join layer next) layers)
      → layers ++ (next ∷ []) ≡ join_into next layers
  behind_all [] = λ outside. refl
  behind_all (other ∷ layers) =
      subst (λ p. suc (length layers) ≤ p → other ∷ (layers ++ (next ∷ [])) ≡ join_into next (other ∷ layers))
      (later (not (may_join other next)) (position_or_len (λ layer. may_join layer next) layers))
      (λ outside. behind-step (may_join other next) other layers outside (behind_all layers))

  pub joined_there : (layers : List Layer) (place : ℕ) (layer : Layer)
      → Some place ≡ position (λ other. may_join other next) layers → layer ≡ slice_index_or layers place layer
      → insert (remove layers place) place (with_keys layer next) ≡ join_into next layers
  joined_there layers place layer e is =
      let there = found (nat_lt (position_or_len (λ other. may_join other next) layers) (length layers))
      (position_or_len (λ other. may_join other next) layers) place e in
      ap (λ l. insert (remove layers place) place (with_keys l next)) is
      ∙ ap (λ p. insert (remove layers p) p (with_keys (slice_index_or layers p layer) next)) there.1
      ∙ at_place layer layers (is_below (position_or_len (λ other. may_join other next) layers) (length layers) there.0)

  pub joined_behind : (layers : List Layer) → None ≡ position (λ other. may_join other next) layers → layers ++ (next ∷ []) ≡ join_into next layers
  joined_behind layers e =
      behind_all layers (not_below (position_or_len (λ other. may_join other next) layers) (length layers)
      (missed (nat_lt (position_or_len (λ other. may_join other next) layers) (length layers)) (position_or_len (λ other. may_join other next) layers) e))
