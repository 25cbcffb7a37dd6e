-- Lists that are made of texts and of other lists.
use Rattle.std.proofs.Common.{◌≡◌, ℕ, ◌<◌, List, [], ◌∷◌, ◌++◌, map, length, drop, refl, ap, ◌∙◌, arith}
use Rattle.item_definitions.specs.Item.{Attributes, character}

-- no scalar values
pub no_characters : (attributes : Attributes) (scalars : List ℕ) → length scalars ≡ 0 → [] ≡ map (λ scalar. character scalar attributes) scalars
no_characters attributes [] e = refl
no_characters attributes (scalar ∷ scalars) e = absurd (omega arith)

pub some_characters : (attributes : Attributes) (scalars : List ℕ) → 0 < length scalars → 0 < length (map (λ scalar. character scalar attributes) scalars)
some_characters attributes [] less = absurd (omega arith)
some_characters attributes (scalar ∷ scalars) less = omega arith

-- one list behind another
pub behind : {X : Type 0} (a b first second : List X) → a ≡ [] ++ drop 0 first → b ≡ a ++ drop 0 second → b ≡ first ++ second
behind a b first second e f = f ∙ ap (λ items. items ++ second) e

-- what is behind an offset, put behind nothing
pub all_behind : {X : Type 0} (made none items : List X) (offset : ℕ) → none ≡ [] → made ≡ none ++ drop offset items → made ≡ drop offset items
all_behind made none items offset n e = e ∙ ap (λ front. front ++ drop offset items) n
