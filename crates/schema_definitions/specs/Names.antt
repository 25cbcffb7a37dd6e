-- Lists of names, and of pairs of names.
use Rattle.std.specs.Prelude.{ℕ, List, [], ◌∷◌, Bool, ◌&&◌, map}
use Rattle.std.specs.List.{list_any, filter}
use Rattle.std.specs.Str.{bytes_eq}
use Rattle.std.specs.BTreeSet.{insert_key}
use Rattle.ck_base.specs.Entries.{name_cmp}

-- whether a name is among the names
abbrev pub has : List (List ℕ) → List ℕ → Bool
has names name = list_any (λ other. bytes_eq other name) names

-- whether a pair goes from the one name to the other
abbrev pub leads : List (List ℕ × List ℕ) → List ℕ → List ℕ → Bool
leads pairs from to = list_any (λ pair. bytes_eq pair.0 from && bytes_eq pair.1 to) pairs

-- the pairs the other way round
abbrev pub turned : List (List ℕ × List ℕ) → List (List ℕ × List ℕ)
turned pairs = map (λ pair. (pair.1, pair.0)) pairs

-- where the pairs lead to from these names
abbrev pub targets : List (List ℕ × List ℕ) → List (List ℕ) → List (List ℕ)
targets pairs names = map (λ pair. pair.1) (filter (λ pair. has names pair.0) pairs)

-- names put, one after the other, into their places among others that are in the order of their bytes, where they aren't there
abbrev pub in_order_among : List (List ℕ) → List (List ℕ) → List (List ℕ)
in_order_among others [] = others
in_order_among others (name ∷ names) = in_order_among (insert_key name_cmp others name) names

-- the names in the order of their bytes, each once
abbrev pub in_order : List (List ℕ) → List (List ℕ)
in_order names = in_order_among [] names
