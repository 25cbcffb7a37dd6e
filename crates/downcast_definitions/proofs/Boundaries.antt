-- The place where a boundary of a row is seen means the number of items before it.
use Rattle.std.proofs.Common.{◌≡◌, ℕ, ◌+◌, ◌-◌, ◌≤◌, zero, suc, List, [], ◌∷◌, ◌++◌, take, length, Bool, true, false, Option, Some, None, refl, sym, ap, ◌∙◌}
use Rattle.std.proofs.Common.{append_assoc, append-nil, arith, length-append}
use Rattle.std.proofs.lemmas.List.{length-map}
use Rattle.std.specs.Prelude.{slice_get}
use Rattle.view_definitions.specs.Node.{nodes_of}
use Rattle.view_definitions.specs.Layer.{Layer}
use Rattle.view_definitions.specs.Row.{Content, caret, Entry, nest}
use Rattle.downcast_definitions.specs.Place.{as_place}
use Rattle.downcast_definitions.specs.Meant.{Inners, meant_in}
use Rattle.downcast_definitions.specs.Seen.{common, layers_at, layers_before, character_before, character_layers_at, marked, between, mark_at, place_of}
use Rattle.downcast_definitions.proofs.Entries.{AllStand, items_in, contents_of, items-append, get-rest, take-rest}
use Rattle.downcast_definitions.proofs.Marks.{mark-behind-nest, mark-before-nest, mark-between-nest}
use Rattle.downcast_definitions.proofs.Means.{place-means}

pub marked-get : (row : List Entry) (number : ℕ) (layers : List Layer) → number ≤ length row
    → slice_get (contents_of (marked row number layers).row) number ≡ Some caret
marked-get [] zero layers h = refl
marked-get [] (suc number) layers h = absurd (omega (arith, h))
marked-get (entry ∷ row) zero layers h = refl
marked-get (entry ∷ row) (suc number) layers h = marked-get row number layers (omega (arith, h))

pub marked-take : (row : List Entry) (number : ℕ) (layers : List Layer) → number ≤ length row → take number (contents_of (marked row number layers).row)
    ≡ take number (contents_of row)
marked-take [] zero layers h = refl
marked-take [] (suc number) layers h = absurd (omega (arith, h))
marked-take (entry ∷ row) zero layers h = refl
marked-take (entry ∷ row) (suc number) layers h = ap (λ cs. entry.content ∷ cs) (marked-take row number layers (omega (arith, h)))

pub marked-stand : (row : List Entry) (number : ℕ) (layers : List Layer) → AllStand (contents_of row) → AllStand (contents_of (marked row number layers).row)
marked-stand [] zero layers h = (refl, tt)
marked-stand [] (suc number) layers h = (refl, tt)
marked-stand (entry ∷ row) zero layers h = (refl, h)
marked-stand (entry ∷ row) (suc number) layers h = (h.0, marked-stand row number layers h.1)

-- the place of a mark that leaves the nodes as they are
pub marked-means : (inners : Inners) (row : List Entry) (number : ℕ) (layers : List Layer) → AllStand (contents_of row) → number ≤ length row
    → nest (marked row number layers).row ≡ nest row
    → meant_in inners 0 (nodes_of (nest row)) (place_of as_place (marked row number layers)) ≡ Some (items_in (take number (contents_of row)) ∷ [])
marked-means inners row number layers s h e =
    ap (λ nodes. meant_in inners 0 (nodes_of nodes) (place_of as_place (marked row number layers))) (sym e)
    ∙ place-means inners (marked row number layers).row number (marked-stand row number layers s) (marked-get row number layers h)
    ∙ ap (λ cs. Some (items_in cs ∷ [])) (marked-take row number layers h)

pub between-means : (inners : Inners) (row : List Entry) (start end items : ℕ) (before behind : Option (List Layer)) → AllStand (contents_of row)
    → start ≤ length row → end ≤ length row → items_in (take start (contents_of row)) ≡ items → items_in (take end (contents_of row)) ≡ items
    → character_before row start ≡ before → character_layers_at row end ≡ behind
    → meant_in inners 0 (nodes_of (nest row)) (place_of as_place (between row start end before behind)) ≡ Some (items ∷ [])
between-means inners row start end items (Some layers) behind s m n i j e h =
    marked-means inners row start layers s m (mark-behind-nest row start layers e) ∙ ap (λ n. Some (n ∷ [])) i
between-means inners row start end items None (Some layers) s m n i j e h =
    marked-means inners row end layers s n (mark-before-nest row end layers h) ∙ ap (λ n. Some (n ∷ [])) j
between-means inners row start end items None None s m n i j e h =
    marked-means inners row end (common (layers_before row end) (layers_at row end)) s n (mark-between-nest row end) ∙ ap (λ n. Some (n ∷ [])) j

-- that the last entry of a boundary is the caret
pub record CaretLast (here : List Content) : Type 0 where
  pub leaves : List Content
  pub is : here ≡ leaves ++ caret ∷ []

-- Where the entries of a boundary stand between those of a row, none of them an item, and the last is the caret, if it stands there: the place
-- where the boundary is seen means the items before it.
pub boundary-means : (inners : Inners) (row : List Entry) (before here behind : List Content) (start end : ℕ) (has : Bool) → AllStand (contents_of row)
    → contents_of row ≡ before ++ (here ++ behind) → start ≡ length before → end ≡ start + length here → items_in here ≡ 0 → (has ≡ true → CaretLast here)
    → meant_in inners 0 (nodes_of (nest row)) (place_of as_place (mark_at row start end has)) ≡ Some (items_in before ∷ [])
boundary-means inners row before here behind start end true s e a b z last =
    let caret_there : CaretLast here = last refl in
    let leaves = caret_there.leaves in
    let is : here ≡ leaves ++ caret ∷ [] = caret_there.is in
    let long : length here ≡ length leaves + 1 = (ap length is ∙ length-append leaves (caret ∷ [])) in
    let all : contents_of row ≡ before ++ (leaves ++ (caret ∷ behind)) =
    (e ∙ ap (λ cs. before ++ (cs ++ behind)) is ∙ ap (λ cs. before ++ cs) (append_assoc leaves (caret ∷ []) behind)) in
    let none_in : items_in leaves ≡ 0 = (let k : items_in here ≡ items_in leaves + 0 = (ap items_in is ∙ items-append leaves (caret ∷ []))
    in omega (arith, k, z)) in
    let place : end - 1 ≡ length before + length leaves = omega (arith, a, b, long) in
    place-means inners row (end - 1) s
    (ap (λ cs. slice_get cs (end - 1)) all ∙ get-rest before (leaves ++ (caret ∷ behind)) (length leaves) (end - 1) place
    ∙ get-rest leaves (caret ∷ behind) 0 (length leaves) (omega arith))
    ∙ ap (λ n. Some (n ∷ []))
    (ap (λ cs. items_in (take (end - 1) cs)) all
    ∙ ap items_in (take-rest before (leaves ++ (caret ∷ behind)) (length leaves) (end - 1) place)
    ∙ ap (λ cs. items_in (before ++ cs)) (take-rest leaves (caret ∷ behind) 0 (length leaves) (omega arith) ∙ append-nil leaves)
    ∙ items-append before leaves ∙ (let k : items_in before + items_in leaves ≡ items_in before = omega (arith, none_in) in k))
boundary-means inners row before here behind start end false s e a b z last =
    let size : length row ≡ length before + (length here + length behind) =
    (sym (length-map row (λ (entry : Entry). entry.content)) ∙ ap length e ∙ length-append before (here ++ behind)
    ∙ ap (λ n. length before + n) (length-append here behind)) in
    let at_start : items_in (take start (contents_of row)) ≡ items_in before =
    (ap (λ cs. items_in (take start cs)) e ∙ ap items_in (take-rest before (here ++ behind) 0 start (omega (arith, a)) ∙ append-nil before)) in
    let at_end : items_in (take end (contents_of row)) ≡ items_in before =
    (ap (λ cs. items_in (take end cs)) e
    ∙ ap items_in (take-rest before (here ++ behind) (length here) end (omega (arith, a, b)))
    ∙ ap (λ cs. items_in (before ++ cs)) (take-rest here behind 0 (length here) (omega arith) ∙ append-nil here)
    ∙ items-append before here ∙ (let k : items_in before + items_in here ≡ items_in before = omega (arith, z) in k)) in
    between-means inners row start end (items_in before) (character_before row start) (character_layers_at row end) s
    (omega (arith, size, a)) (omega (arith, size, a, b)) at_start at_end refl refl
