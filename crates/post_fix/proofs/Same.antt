-- Equal attributes, and characters among items.
use Rattle.std.proofs.Common.{◌≡◌, ◌≢◌, ◌↔◌, ℕ, List, [], ◌∷◌, ◌++◌, map, Bool, true, false, IsTrue, refl, sym, ap, ◌∙◌, ◌+◌, ◌<◌, ◌^◌, arith}
use Rattle.std.specs.List.{list_any}
use Rattle.item_definitions.specs.Item.{Attributes, character}
use Rattle.item_definitions.proofs.Paths.{push-some, offset_of-push}
use Rattle.item_definitions.proofs.Order.{behind-push}
use Rattle.item_definitions.specs.Children.{offset_of}
use Rattle.item_definitions.specs.Position.{behind}
use Rattle.print_definitions.specs.ModelText.{same_attributes}
use Rattle.print_definitions.proofs.Runs.{own_attributes, equal_attributes}
use Rattle.fix_definitions.specs.Wanted.{is_named}

-- a test that answers whether attributes are equal
pub same_is : (attributes others : Attributes) (test : Bool) → (IsTrue test ↔ (attributes ≡ others)) → test ≡ same_attributes attributes others
same_is attributes others test h = go test (same_attributes attributes others) refl refl h
  where
    go : (t u : Bool) → t ≡ test → u ≡ same_attributes attributes others → (IsTrue test ↔ (attributes ≡ others)) → test ≡ same_attributes attributes others
    go true true t u h = sym t ∙ u
    go false false t u h = sym t ∙ u
    go true false t u h = (let same : attributes ≡ others = h.0 (sym t) in sym t ∙ sym (ap (same_attributes attributes) (sym same) ∙ own_attributes attributes))
    go false true t u h = (let yes = h.1 (equal_attributes attributes others (sym u)) in let both = t ∙ yes in absurd cc)

-- a position has a number
pub some_position : (path : List ℕ) (offset : ℕ) (at : List ℕ) → at ≡ path ++ offset ∷ [] → at ≢ []
some_position path offset at e f = push-some path offset (sym e ∙ f)

-- no character has a name
pub no_character : (name scalars : List ℕ) (attributes : Attributes) → list_any (is_named name) (map (λ scalar. character scalar attributes) scalars) ≡ false
no_character name [] attributes = refl
no_character name (scalar ∷ scalars) attributes = no_character name scalars attributes

-- the position behind the last item of a path
pub behind_last : (path parent : List ℕ) (last next : ℕ) → path ≡ parent ++ last ∷ [] → next ≡ last + 1 → parent ++ next ∷ [] ≡ behind path
behind_last path parent last next e n = ap (λ n. parent ++ n ∷ []) n ∙ sym (behind-push parent last) ∙ ap behind (sym e)

pub last_fits : (path parent : List ℕ) (last : ℕ) → path ≡ parent ++ last ∷ [] → offset_of path + 1 < 2 ^ 32 → last + 1 < 2 ^ 32
last_fits path parent last e few = (let same : offset_of path ≡ last = ap offset_of e ∙ offset_of-push parent last in omega (arith, same, few))
