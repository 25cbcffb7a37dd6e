-- Whether an item may stand behind ancestors, where it is known whether the last of them passes itself.
use Rattle.std.proofs.Common.{◌≡◌, ℕ, ◌<◌, List, [], ◌∷◌, ◌++◌, Bool, true, false, ◌&&◌, Some, None, length, reverse, unwrap_or, refl, sym, ap, ◌∙◌, arith}
use Rattle.schema_definitions.specs.Rules.{stands_in}
use Rattle.schema_definitions.specs.Allowed.{Rules, child_answer, passes, check_child}
use Rattle.schema_rules.specs.Chosen.{first_passes, last_passes}
use Rattle.schema_rules.proofs.Ends.{reverse_last, reverse_twice}

and-swapped : (a b : Bool) → (a && b) ≡ (b && a)
and-swapped true true = refl
and-swapped true false = refl
and-swapped false true = refl
and-swapped false false = refl

checked : (rules : Rules) (names : List (List ℕ)) (item : List ℕ) → 0 < length names → check_child rules names item ≡ passes rules item (reverse names)
unfolding check_child
checked rules [] item some = absurd (omega arith)
checked rules (root ∷ names) item some = refl

checked_last : (rules : Rules) (names : List (List ℕ)) (item : List ℕ) (above : List (List ℕ)) (parent : List ℕ) → names ≡ above ++ parent ∷ []
    → check_child rules names item ≡ passes rules item (reverse names)
unfolding check_child
checked_last rules [] item [] parent e = absurd cc
checked_last rules [] item (first ∷ above) parent e = absurd cc
checked_last rules (root ∷ names) item above parent e = refl

pub stands : (rules : Rules) (names above : List (List ℕ)) (parent item : List ℕ) → names ≡ above ++ parent ∷ []
    → check_child rules names item ≡ unwrap_or (child_answer rules.checks names item) (last_passes rules names && stands_in rules.entries item parent)
stands rules names above parent item e =
    let turned : reverse names ≡ parent ∷ reverse above = ap reverse e ∙ reverse_last above parent in
    let twice : reverse (parent ∷ reverse above) ≡ names = ap reverse (sym turned) ∙ reverse_twice names in
    checked_last rules names item above parent e
    ∙ ap (passes rules item) turned
    ∙ ap (λ ns. unwrap_or (child_answer rules.checks ns item) (stands_in rules.entries item parent && passes rules parent (reverse above))) twice
    ∙ ap (λ xs. unwrap_or (child_answer rules.checks names item) (stands_in rules.entries item parent && first_passes rules xs)) (sym turned)
    ∙ ap (unwrap_or (child_answer rules.checks names item)) (and-swapped (stands_in rules.entries item parent) (last_passes rules names))

-- an item passes where it may stand
pub passes_inside : (rules : Rules) (names : List (List ℕ)) (item : List ℕ) → 0 < length names → check_child rules names item
    ≡ last_passes rules (names ++ item ∷ [])
passes_inside rules names item some = checked rules names item some ∙ ap (first_passes rules) (sym (reverse_last names item))
