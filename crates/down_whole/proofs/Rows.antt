-- Rows of lists of items, one behind the other.
use Rattle.std.proofs.Common.{◌≡◌, ℕ, ◌+◌, List, [], ◌∷◌, ◌++◌, length, refl, sym, ap, ◌∙◌, append_assoc, arith}
use Rattle.item_definitions.specs.Item.{Item, items_of}
use Rattle.view_definitions.specs.Row.{Entry}
use Rattle.downcast_definitions.specs.Scene.{Scene, boundary}
use Rattle.downcast_definitions.specs.Rows.{elements_in, entry_of, inner_row}
use Rattle.down_whole.specs.Front.{elements_within, front_row}
use Rattle.down_whole.specs.Written.{Written, with_entry, with_row}

-- elements in two lists
pub within-append : (xs ys : List Item) → elements_within (xs ++ ys) ≡ elements_within xs + elements_within ys
within-append [] ys = omega arith
within-append (item ∷ xs) ys = omega (arith, within-append xs ys)

-- a row ends with the boundary behind its items
pub inner-row-front : (scene : Scene) (parent path : List ℕ) (offset before : ℕ) (list : List Item)
    → inner_row scene parent path offset before (items_of list) ≡ front_row scene parent path offset before list
    ++ boundary scene (path ++ (offset + length list) ∷ [])
inner-row-front scene parent path offset before [] = ap (λ n. boundary scene (path ++ n ∷ [])) (let e : offset ≡ offset + 0 = omega arith in e)
inner-row-front scene parent path offset before (item ∷ list) =
    let here = boundary scene (path ++ offset ∷ []) in
    let entry = entry_of scene parent (path ++ offset ∷ []) before item in
    let rest = front_row scene parent path (offset + 1) (before + elements_in item) list in
    ap (λ row. boundary scene (path ++ offset ∷ []) ++ (entry_of scene parent (path ++ offset ∷ []) before item ∷ row))
    (inner-row-front scene parent path (offset + 1) (before + elements_in item) list
    ∙ ap (λ n. front_row scene parent path (offset + 1) (before + elements_in item) list ++ boundary scene (path ++ n ∷ []))
    (let e : offset + 1 + length list ≡ offset + length (item ∷ list) = omega arith in e))
    ∙ sym (append_assoc here (entry ∷ rest) (boundary scene (path ++ (offset + length (item ∷ list)) ∷ [])))

-- the row of two lists
pub front-append : (scene : Scene) (parent path : List ℕ) (offset before : ℕ) (xs ys : List Item)
    → front_row scene parent path offset before (xs ++ ys) ≡ front_row scene parent path offset before xs
    ++ front_row scene parent path (offset + length xs) (before + elements_within xs) ys
front-append scene parent path offset before [] ys =
    let n : offset ≡ offset + 0 = omega arith in
    let m : before ≡ before + 0 = omega arith in
    λ i. front_row scene parent path (n i) (m i) ys
front-append scene parent path offset before (item ∷ xs) ys =
    let here = boundary scene (path ++ offset ∷ []) in
    let entry = entry_of scene parent (path ++ offset ∷ []) before item in
    let rest = front_row scene parent path (offset + 1) (before + elements_in item) xs in
    let n : offset + 1 + length xs ≡ offset + length (item ∷ xs) = omega arith in
    let m : before + elements_in item + elements_within xs ≡ before + elements_within (item ∷ xs) = omega arith in
    ap (λ row. boundary scene (path ++ offset ∷ []) ++ (entry_of scene parent (path ++ offset ∷ []) before item ∷ row))
    (front-append scene parent path (offset + 1) (before + elements_in item) xs ys
    ∙ (λ i. front_row scene parent path (offset + 1) (before + elements_in item) xs ++ front_row scene parent path (n i) (m i) ys))
    ∙ sym (append_assoc here (entry ∷ rest) (front_row scene parent path (offset + length (item ∷ xs)) (before + elements_within (item ∷ xs)) ys))

-- what is written of two rows, one behind the other
pub with_row-append : (row other : List Entry) (written : Written) → with_row (row ++ other) written ≡ with_row other (with_row row written)
with_row-append [] other written = refl
with_row-append (entry ∷ row) other written = with_row-append row other (with_entry entry written)
