-- Which names are in a list, and which pairs lead from one name to another.
use Rattle.std.proofs.Common.{◌≡◌, ℕ, List, [], ◌∷◌, ◌++◌, true, false, ◌&&◌, ◌||◌, refl, sym, ◌∙◌, ◌⊎◌, inl, inr}
use Rattle.std.specs.Str.{bytes_eq}
use Rattle.std.specs.Cmp.Lexicographic.{same_text, bytes_decides}
use Rattle.std.proofs.lemmas.Bool.{or_cases, or_left, or_right, and_from}
use Rattle.std.proofs.lemmas.List.Folds.{list_any-append}
use Rattle.schema_definitions.specs.Names.{has, leads}

-- a name is itself
pub itself : (name : List ℕ) → bytes_eq name name ≡ true
itself name = (bytes_decides name name).1 refl

pub same_name : (x y : List ℕ) → bytes_eq x y ≡ true → x ≡ y
same_name x y e = same_text x y (sym e)

-- a name in lists that are joined
pub has-append : (xs ys : List (List ℕ)) (name : List ℕ) → has (xs ++ ys) name ≡ (has xs name || has ys name)
has-append xs ys name = list_any-append (λ other. bytes_eq other name) xs ys

pub has_left : (xs ys : List (List ℕ)) (name : List ℕ) → has xs name ≡ true → has (xs ++ ys) name ≡ true
has_left xs ys name h = has-append xs ys name ∙ or_left (has xs name) (has ys name) h

pub has_right : (xs ys : List (List ℕ)) (name : List ℕ) → has ys name ≡ true → has (xs ++ ys) name ≡ true
has_right xs ys name h = has-append xs ys name ∙ or_right (has xs name) (has ys name) h

pub has_cases : (xs ys : List (List ℕ)) (name : List ℕ) → has (xs ++ ys) name ≡ true → (has xs name ≡ true) ⊎ (has ys name ≡ true)
has_cases xs ys name h = or_cases (has xs name) (has ys name) (sym (has-append xs ys name) ∙ h)

pub has_first : (name : List ℕ) (names : List (List ℕ)) → has (name ∷ names) name ≡ true
has_first name names = or_left (bytes_eq name name) (has names name) (itself name)

-- a name in a list of one
pub has_only : (x name : List ℕ) → has (x ∷ []) name ≡ true → x ≡ name
has_only x name h = elim (or_cases (bytes_eq x name) false h) [ inl e ↦ same_name x name e | inr n ↦ cc ]

-- the first pair leads
pub leads_first : (pair : List ℕ × List ℕ) (pairs : List (List ℕ × List ℕ)) → leads (pair ∷ pairs) pair.0 pair.1 ≡ true
leads_first pair pairs = or_left (bytes_eq pair.0 pair.0 && bytes_eq pair.1 pair.1) (leads pairs pair.0 pair.1)
    (and_from (bytes_eq pair.0 pair.0) (bytes_eq pair.1 pair.1) (itself pair.0) (itself pair.1))

pub leads_later : (pair : List ℕ × List ℕ) (pairs : List (List ℕ × List ℕ)) (from to : List ℕ) → leads pairs from to ≡ true
    → leads (pair ∷ pairs) from to ≡ true
leads_later pair pairs from to h = or_right (bytes_eq pair.0 from && bytes_eq pair.1 to) (leads pairs from to) h
