-- Bindings in slots, found by two tables of the slots' keys.
use Rattle.std.proofs.Common.{◌≡◌, ◌≢◌, ℕ, ◌==◌, Bool, true, false, cond, List, [], ◌∷◌, ◌++◌, Option, Some, None, option_and_then, nat_eq, refl, sym, ap, ◌∙◌}
use Rattle.std.proofs.Common.{subst, arith}
use Rattle.std.specs.Prelude.{IsSomeAnd, option_to_list}
use Rattle.std.proofs.lemmas.Bool.Decides.{nat_tests}
use Rattle.std.specs.List.{find}
use Rattle.std.specs.Map.{lookup}
use Rattle.indexmap.specs.IndexMap as maps
use Rattle.indexmap.specs.IndexMap.{IndexMap, insert_entry}
use Rattle.indexmap.proofs.CallerLemmas as caller
use Rattle.pos_mapper.specs.Bindings.{Binding}
use Rattle.pos_mapper.specs.Keys.{Slots, binding_at, bindings_at, AreKeys}

-- a new number goes last
pub put_last : {S : Type 0} → (table : IndexMap ℕ ℕ S) (number key : ℕ) → maps.get nat_eq table number ≡ None
    → insert_entry nat_eq table.entries number key ≡ table.entries ++ (number, key) ∷ []
put_last table number key none = caller.insert_entry-new nat_eq table number key none

turned : (x y : ℕ) → nat_eq x y ≡ nat_eq y x
turned x y = grind (arith, nat_tests)

-- what the tables say of the binding behind their first keys
abbrev Says : Option Binding → ℕ → ℕ → Type 0
Says o id number = IsSomeAnd o (λ binding. (binding.id ≡ id) × (binding.number ≡ number))

-- a look-up by a word of bindings, where the first keys are those of a binding
looked : (slots : Slots) (word : Binding → ℕ) (key first at : ℕ) (entries : List (ℕ × ℕ)) (others : List Binding) (o : Option Binding)
    → binding_at slots at ≡ o → IsSomeAnd o (λ binding. word binding ≡ first)
    → option_and_then (binding_at slots) (lookup (nat_eq key) entries) ≡ find (λ binding. word binding == key) others
    → option_and_then (binding_at slots) (lookup (nat_eq key) ((first, at) ∷ entries)) ≡ find (λ binding. word binding == key) (option_to_list o ++ others)
looked slots word key first at entries others None e k rec = absurd k
looked slots word key first at entries others (Some binding) e k rec = go (nat_eq key first) refl
  where
    other : List Binding → Option Binding
    other list = find (λ binding. word binding == key) list

    go : (b : Bool) → nat_eq key first ≡ b
        → option_and_then (binding_at slots) (cond b (Some at) (lookup (nat_eq key) entries)) ≡ cond (word binding == key) (Some binding) (other others)
    go true t = e ∙ ap (λ c. cond c (Some binding) (other others)) (sym (ap (λ n. n == key) k ∙ turned first key ∙ t))
    go false t = rec ∙ ap (λ c. cond c (Some binding) (other others)) (sym (ap (λ n. n == key) k ∙ turned first key ∙ t))

by_id : (o : Option Binding) (id number : ℕ) → Says o id number → IsSomeAnd o (λ binding. binding.id ≡ id)
by_id None id number h = h
by_id (Some binding) id number h = h.0

by_number : (o : Option Binding) (id number : ℕ) → Says o id number → IsSomeAnd o (λ binding. binding.number ≡ number)
by_number None id number h = h
by_number (Some binding) id number h = h.1

-- a look-up by id
pub found_id : (slots : Slots) (ids numbers : List (ℕ × ℕ)) (id : ℕ) → AreKeys slots ids numbers
    → option_and_then (binding_at slots) (lookup (nat_eq id) ids) ≡ find (λ binding. binding.id == id) (bindings_at slots ids)
found_id slots [] [] id h = refl
found_id slots [] (number ∷ numbers) id h = absurd h
found_id slots (one ∷ ids) [] id h = absurd h
found_id slots (one ∷ ids) (number ∷ numbers) id h =
    looked slots (λ binding. binding.id) id one.0 one.1 ids (bindings_at slots ids) (binding_at slots one.1) refl (by_id _ one.0 number.0 h.1)
    (found_id slots ids numbers id h.2)

-- a look-up by number
pub found_number : (slots : Slots) (ids numbers : List (ℕ × ℕ)) (number : ℕ) → AreKeys slots ids numbers
    → option_and_then (binding_at slots) (lookup (nat_eq number) numbers) ≡ find (λ binding. binding.number == number) (bindings_at slots ids)
found_number slots [] [] number h = refl
found_number slots [] (first ∷ numbers) number h = absurd h
found_number slots (one ∷ ids) [] number h = absurd h
found_number slots (one ∷ ids) (first ∷ numbers) number h =
    looked slots (λ binding. binding.number) number first.0 first.1 numbers (bindings_at slots ids) (binding_at slots one.1) (ap (binding_at slots) h.0)
    (by_number _ one.0 first.0 h.1) (found_number slots ids numbers number h.2)

-- a key that a table leads to has a binding
absent : (slots : Slots) (o : Option ℕ) → (o ≢ None → (key : ℕ) → o ≡ Some key → binding_at slots key ≢ None) → option_and_then (binding_at slots) o
    ≡ None → o ≡ None
absent slots None there none = refl
absent slots (Some key) there none = absurd (there (λ e. cc) key refl none)

there : (o : Option Binding) (id number : ℕ) → Says o id number → o ≢ None
there None id number h = absurd h
there (Some binding) id number h = λ e. cc

there_id : (slots : Slots) (ids numbers : List (ℕ × ℕ)) (id key : ℕ) → AreKeys slots ids numbers → lookup (nat_eq id) ids ≡ Some key
    → binding_at slots key ≢ None
there_id slots [] numbers id key h e = cc
there_id slots (one ∷ ids) [] id key h e = absurd h
there_id slots (one ∷ ids) (number ∷ numbers) id key h e = go (nat_eq id one.0) e (there_id slots ids numbers id key h.2)
  where
    go : (b : Bool) → cond b (Some one.1) (lookup (nat_eq id) ids) ≡ Some key → (lookup (nat_eq id) ids ≡ Some key → binding_at slots key ≢ None)
        → binding_at slots key ≢ None
    go true f rec = let k : one.1 ≡ key = cc in subst (λ k. binding_at slots k ≢ None) k (there _ one.0 number.0 h.1)
    go false f rec = rec f

there_number : (slots : Slots) (ids numbers : List (ℕ × ℕ)) (number key : ℕ) → AreKeys slots ids numbers → lookup (nat_eq number) numbers ≡ Some key
    → binding_at slots key ≢ None
there_number slots [] [] number key h e = cc
there_number slots [] (first ∷ numbers) number key h e = absurd h
there_number slots (one ∷ ids) [] number key h e = absurd h
there_number slots (one ∷ ids) (first ∷ numbers) number key h e = go (nat_eq number first.0) e (there_number slots ids numbers number key h.2)
  where
    go : (b : Bool) → cond b (Some first.1) (lookup (nat_eq number) numbers) ≡ Some key
        → (lookup (nat_eq number) numbers ≡ Some key → binding_at slots key ≢ None) → binding_at slots key ≢ None
    go true f rec = let k : first.1 ≡ key = cc in subst (λ k. binding_at slots k ≢ None) (sym h.0 ∙ k) (there _ one.0 first.0 h.1)
    go false f rec = rec f

-- an id that isn't bound is not in its table
pub no_id : (slots : Slots) (ids numbers : List (ℕ × ℕ)) (id : ℕ) → AreKeys slots ids numbers
    → find (λ binding. binding.id == id) (bindings_at slots ids) ≡ None → lookup (nat_eq id) ids ≡ None
no_id slots ids numbers id h e = absent slots _ (λ _ key there. there_id slots ids numbers id key h there) (found_id slots ids numbers id h ∙ e)

pub no_number : (slots : Slots) (ids numbers : List (ℕ × ℕ)) (number : ℕ) → AreKeys slots ids numbers
    → find (λ binding. binding.number == number) (bindings_at slots ids) ≡ None → lookup (nat_eq number) numbers ≡ None
no_number slots ids numbers number h e = absent slots _ (λ _ key there. there_number slots ids numbers number key h there)
    (found_number slots ids numbers number h ∙ e)

module _ (slots new : Slots) (key : ℕ) (binding : Binding) (vacant : binding_at slots key ≡ None) (changed : binding_at new key ≡ Some binding)
    (others : (other : ℕ) → other ≢ key → binding_at new other ≡ binding_at slots other) where
  same : (at : ℕ) → binding_at slots at ≢ None → binding_at new at ≡ binding_at slots at
  same at some = others at (λ e. some (ap (binding_at slots) e ∙ vacant))

  -- a binding at a key that was vacant
  pub one_more : (ids numbers : List (ℕ × ℕ)) → AreKeys slots ids numbers → bindings_at new (ids ++ (binding.id, key) ∷ [])
      ≡ bindings_at slots ids ++ binding ∷ []
  one_more [] numbers h = ap (λ o. option_to_list o ++ []) changed
  one_more (one ∷ ids) [] h = absurd h
  one_more (one ∷ ids) (number ∷ numbers) h = go (binding_at slots one.1) refl h.1 (one_more ids numbers h.2)
    where
      go : (o : Option Binding) → binding_at slots one.1 ≡ o → Says o one.0 number.0 → bindings_at new (ids ++ (binding.id, key) ∷ [])
          ≡ bindings_at slots ids ++ binding ∷ []
          → option_to_list (binding_at new one.1) ++ bindings_at new (ids ++ (binding.id, key) ∷ []) ≡ (option_to_list o ++ bindings_at slots ids)
          ++ binding ∷ []
      go None e k rec = absurd k
      go (Some first) e k rec = λ i. option_to_list ((same one.1 (λ f. (let no : Some first ≡ None = sym e ∙ f in cc)) ∙ e) i) ++ rec i

  pub still_keys : (ids numbers : List (ℕ × ℕ)) → AreKeys slots ids numbers
      → AreKeys new (ids ++ (binding.id, key) ∷ []) (numbers ++ (binding.number, key) ∷ [])
  still_keys [] [] h = (refl, subst (λ o. Says o binding.id binding.number) (sym changed) (refl, refl), tt)
  still_keys [] (number ∷ numbers) h = absurd h
  still_keys (one ∷ ids) [] h = absurd h
  still_keys (one ∷ ids) (number ∷ numbers) h =
      (h.0, subst (λ o. Says o one.0 number.0) (sym (same one.1 (there _ one.0 number.0 h.1))) h.1, still_keys ids numbers h.2)

-- a binding more, where room was made before
module _ {slots middle : Slots} (new : Slots) {ids old_ids numbers old_numbers : List (ℕ × ℕ)} (new_ids new_numbers : List (ℕ × ℕ)) {id number key : ℕ}
    {binding : Binding} (reserved : middle ≡ slots)
    (same_ids : old_ids ≡ ids) (same_numbers : old_numbers ≡ numbers) (is_id : id ≡ binding.id) (is_number : number ≡ binding.number)
    (put_id : new_ids ≡ old_ids ++ (id, key) ∷ []) (put_number : new_numbers ≡ old_numbers ++ (number, key) ∷ [])
    (keys : AreKeys slots ids numbers) (vacant : binding_at middle key ≡ None) (changed : binding_at new key ≡ Some binding)
    (others : (other : ℕ) → other ≢ key → binding_at new other ≡ binding_at middle other) where
  pub keys_kept : AreKeys new new_ids new_numbers
  keys_kept =
      subst (λ list. AreKeys new list new_numbers) (sym (put_id ∙ (λ i. same_ids i ++ (is_id i, key) ∷ [])))
      (subst (AreKeys new (ids ++ (binding.id, key) ∷ [])) (sym (put_number ∙ (λ i. same_numbers i ++ (is_number i, key) ∷ [])))
      (still_keys middle new key binding vacant changed others ids numbers (subst (λ s. AreKeys s ids numbers) (sym reserved) keys)))

  pub bound_more : bindings_at new new_ids ≡ bindings_at slots ids ++ binding ∷ []
  bound_more =
      ap (bindings_at new) (put_id ∙ (λ i. same_ids i ++ (is_id i, key) ∷ []))
      ∙ one_more middle new key binding vacant changed others ids numbers (subst (λ s. AreKeys s ids numbers) (sym reserved) keys)
      ∙ ap (λ s. bindings_at s ids ++ binding ∷ []) reserved
