-- An object that is taken out of those that are handed in, by its name.
use Rattle.std.proofs.Common.{◌≡◌, ℕ, suc, List, [], ◌∷◌, Bool, true, false, if◌then◌else◌, Option, Some, None, option_map, refl, sym, ap, ◌∙◌}
use Rattle.std.specs.Prelude.{slice_index_or}
use Rattle.std.specs.List.{remove}
use Rattle.std.specs.Str.{bytes_eq}
use Rattle.schema_definitions.proofs.Members.{same_name}
use Rattle.program_definitions.specs.Product.{first_named}
use Rattle.editor_core.specs.declared.extensions.Named.{Named}
use Rattle.editor_core.specs.HandedIn.{place_from, first_of, without_first, named_by}

number : Option ℕ → ℕ
number None = 0
number (Some n) = n

module _ {T : Type 0} (name : List ℕ) where
  later : (place : ℕ) (objects : List (Named T)) → place_from (suc place) name objects ≡ option_map suc (place_from place name objects)
  later place [] = refl
  later place (first ∷ objects) = go (bytes_eq first.name name) (later (suc place) objects)
    where
      go : (t : Bool) → place_from (suc (suc place)) name objects ≡ option_map suc (place_from (suc place) name objects)
          → (if t then Some (suc place) else place_from (suc (suc place)) name objects)
          ≡ option_map suc (if t then Some place else place_from (suc place) name objects)
      go true rest = refl
      go false rest = rest

  -- what stands at a place among others, and what is left without it
  abbrev IsTaken : Named T → List (Named T) → ℕ → Option (Named T) → List (Named T) → Type 0
  IsTaken other objects place taken rest = (Some (slice_index_or objects place other) ≡ taken) × (remove objects place ≡ rest)

  -- what stands at the place that was found
  pub found : (objects : List (Named T)) (place : ℕ) (other : Named T) → Some place ≡ place_from 0 name objects
      → IsTaken other objects place (first_of name objects) (without_first name objects)
  unfolding number
  found [] place other e = absurd cc
  found (first ∷ objects) place other e =
      go (bytes_eq first.name name) (e ∙ ap (λ found. if bytes_eq first.name name then Some 0 else found) (later 0 objects))
      (λ at is. found objects at other is)
    where
      deeper : (found : Option ℕ) → Some place ≡ option_map suc found → found ≡ place_from 0 name objects
          → ((at : ℕ) → Some at ≡ place_from 0 name objects → IsTaken other objects at (first_of name objects) (without_first name objects))
          → IsTaken other (first ∷ objects) place (first_of name objects) (first ∷ without_first name objects)
      deeper None e is inside = absurd cc
      deeper (Some at) e is inside =
          let rest = inside at is in
          let same : place ≡ suc at = ap number e in (
            ap (λ n. Some (slice_index_or (first ∷ objects) n other)) same ∙ rest.0,
            ap (remove (first ∷ objects)) same ∙ ap (λ list. first ∷ list) rest.1,
          )

      go : (t : Bool) → Some place ≡ (if t then Some 0 else option_map suc (place_from 0 name objects))
          → ((at : ℕ) → Some at ≡ place_from 0 name objects → IsTaken other objects at (first_of name objects) (without_first name objects))
          → IsTaken other (first ∷ objects) place (if t then Some first else first_of name objects) (if t then objects else first ∷ without_first name objects)
      go true e inside =
          let same : place ≡ 0 = ap number e in
          (ap (λ n. Some (slice_index_or (first ∷ objects) n other)) same, ap (remove (first ∷ objects)) same)
      go false e inside = deeper (place_from 0 name objects) e refl inside

  -- where none has the name
  pub absent : (objects : List (Named T)) → None ≡ place_from 0 name objects → (None ≡ first_of name objects) × (objects ≡ without_first name objects)
  absent [] e = (refl, refl)
  absent (first ∷ objects) e =
      go (bytes_eq first.name name) (e ∙ ap (λ found. if bytes_eq first.name name then Some 0 else found) (later 0 objects)) (λ is. absent objects is)
    where
      none : (found : Option ℕ) → None ≡ option_map suc found → None ≡ found
      none None e = refl
      none (Some at) e = absurd cc

      go : (t : Bool) → None ≡ (if t then Some 0 else option_map suc (place_from 0 name objects))
          → (None ≡ place_from 0 name objects → (None ≡ first_of name objects) × (objects ≡ without_first name objects))
          → (None ≡ (if t then Some first else first_of name objects)) × (first ∷ objects ≡ (if t then objects else first ∷ without_first name objects))
      go true e inside = absurd cc
      go false e inside =
          let rest = inside (none (place_from 0 name objects) e) in
          (rest.0, ap (λ list. first ∷ list) rest.1)

-- what an object that was taken means
pub mapped : {T A : Type 0} (means : T → A) (taken : Option T) (found : Option (Named T)) → taken ≡ option_map (λ (named : Named T). named.object) found
    → option_map means taken ≡ option_map (λ (named : Named T). means named.object) found
mapped means taken None e = ap (option_map means) e
mapped means taken (Some named) e = ap (option_map means) e

module _ {T A : Type 0} (means : T → A) (name : List ℕ) where
  -- what the first object of a name means
  pub means-first : (objects : List (Named T)) → option_map (λ (named : Named T). means named.object) (first_of name objects)
      ≡ first_named (named_by means objects) name
  means-first [] = refl
  means-first (first ∷ objects) = go (bytes_eq first.name name) (means-first objects)
    where
      go : (t : Bool) → option_map (λ (named : Named T). means named.object) (first_of name objects) ≡ first_named (named_by means objects) name
          → option_map (λ (named : Named T). means named.object) (if t then Some first else first_of name objects)
          ≡ (if t then Some (means first.object) else first_named (named_by means objects) name)
      go true rest = refl
      go false rest = rest

  -- without it the others stay
  pub others-stay : (objects : List (Named T)) (other : List ℕ) → bytes_eq name other ≡ false
      → first_named (named_by means (without_first name objects)) other ≡ first_named (named_by means objects) other
  others-stay [] other e = refl
  others-stay (first ∷ objects) other e = go (bytes_eq first.name name) refl (others-stay objects other e)
    where
      go : (t : Bool) → bytes_eq first.name name ≡ t
          → first_named (named_by means (without_first name objects)) other ≡ first_named (named_by means objects) other
          → first_named (named_by means (if t then objects else first ∷ without_first name objects)) other
          ≡ first_named (named_by means (first ∷ objects)) other
      go true t rest = sym (ap (λ b. if b then Some (means first.object) else first_named (named_by means objects) other)
          (ap (λ m. bytes_eq m other) (same_name first.name name t) ∙ e))
      go false t rest = ap (λ found. if bytes_eq first.name other then Some (means first.object) else found) rest
