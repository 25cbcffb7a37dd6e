-- What the calls make of nested rows.
use Rattle.std.proofs.Common.{◌≡◌, ℕ, ◌+◌, ◌-◌, ◌≤◌, zero, suc, List, [], ◌∷◌, ◌++◌, map, take, drop, refl, sym, ap, ◌∙◌, arith, append_assoc}
use Rattle.std.proofs.lemmas.List.{drop-take}
use Rattle.view_definitions.specs.Node.{ViewNode}
use Rattle.view_definitions.specs.Layer.{Layer}
use Rattle.view_definitions.specs.Row.{Entry, IsPlainRow, nest, join}
use Rattle.view_definitions.specs.Change.{entry_with, entry_without, HasBareLeaves, changed_range}
use Rattle.view_definitions.proofs.Joins.{plain-append, nest-append}
use Rattle.view_wrap.specs.Cut.{Parts, cut}
use Rattle.view_wrap.specs.Layered.{wrapped, unwrapped}
use Rattle.view_wrap.proofs.CutRows.{plain-take, nest-cut}
use Rattle.view_wrap.proofs.Layering.{plain-with, nest-wrapped, plain-without, nest-unwrapped}

plain-drop : (at : ℕ) (row : List Entry) → IsPlainRow row → IsPlainRow (drop at row)
plain-drop zero row h = h
plain-drop (suc at) [] h = tt
plain-drop (suc at) (entry ∷ row) h = plain-drop at row h.1

bare-take : (at : ℕ) (row : List Entry) → HasBareLeaves row → HasBareLeaves (take at row)
bare-take zero row h = tt
bare-take (suc at) [] h = tt
bare-take (suc at) (entry ∷ row) h = (h.0, bare-take at row h.1)

bare-drop : (at : ℕ) (row : List Entry) → HasBareLeaves row → HasBareLeaves (drop at row)
bare-drop zero row h = h
bare-drop (suc at) [] h = tt
bare-drop (suc at) (entry ∷ row) h = bare-drop at row h.1

-- a row broken before an entry
pub row_front : (at : ℕ) (row : List Entry) (nodes front : List ViewNode) → IsPlainRow row → nodes ≡ nest row → front ≡ (cut at nodes).0
    → front ≡ nest (take at row)
row_front at row nodes front p n f = f ∙ ap (λ list. (cut at list).0) n ∙ ap (λ (parts : Parts). parts.0) (nest-cut at row p)

pub row_back : (at : ℕ) (row : List Entry) (nodes back : List ViewNode) → IsPlainRow row → nodes ≡ nest row → back ≡ (cut at nodes).1
    → back ≡ nest (drop at row)
row_back at row nodes back p n b = b ∙ ap (λ list. (cut at list).1) n ∙ ap (λ (parts : Parts). parts.1) (nest-cut at row p)

-- two rows joined
pub rows_joined : (row other : List Entry) (left right made : List ViewNode) → IsPlainRow row → IsPlainRow other → left ≡ nest row → right ≡ nest other
    → made ≡ join left right → made ≡ nest (row ++ other)
rows_joined row other left right made p q l r m = m ∙ (λ i. join (l i) (r i)) ∙ sym (nest-append row other p q)

suc_first : (n m : ℕ) → suc n + m ≡ suc (n + m)
suc_first n m = omega arith

take_shorter : (start more : ℕ) (row : List Entry) → take start (take (start + more) row) ≡ take start row
take_shorter zero more row = refl
take_shorter (suc start) more [] = ap (λ n. take {A = Entry} (suc start) (take n [])) (suc_first start more)
take_shorter (suc start) more (entry ∷ row) =
    ap (λ n. take (suc start) (take n (entry ∷ row))) (suc_first start more) ∙ ap (λ rest. entry ∷ rest) (take_shorter start more row)

-- a range of a row, changed
module _ (change : Entry → Entry) (start end : ℕ) (ordered : start ≤ end) (row : List Entry) (p : IsPlainRow row) where
  end_is : end ≡ start + (end - start)
  end_is = omega arith

  range_is : drop start (take end row) ≡ take (end - start) (drop start row)
  range_is = ap (λ n. drop start (take n row)) end_is ∙ drop-take start (end - start) row

  front_is : take start (take end row) ≡ take start row
  front_is = ap (λ n. take start (take n row)) end_is ∙ take_shorter start (end - start) row

  -- the parts of the row joined again, with the range changed
  rejoined : (old kept back front range made left whole : List ViewNode) → IsPlainRow (map change (take (end - start) (drop start row)))
      → old ≡ nest row → kept ≡ (cut end old).0 → back ≡ (cut end old).1 → front ≡ (cut start kept).0
      → made ≡ nest (map change (take (end - start) (drop start row))) → left ≡ join front made → whole ≡ join left back
      → whole ≡ nest (changed_range change start end row)
  rejoined old kept back front range made left whole q o k b f m l w =
      let kept_row : kept ≡ nest (take end row) = row_front end row old kept p o k in
      let front_row : front ≡ nest (take start row) = row_front start (take end row) kept front (plain-take end row p) kept_row f ∙ ap nest front_is in
      let left_row = rows_joined (take start row) (map change (take (end - start) (drop start row))) front made left (plain-take start row p) q front_row m l in
      rows_joined (take start row ++ map change (take (end - start) (drop start row))) (drop end row) left back whole
      (plain-append (take start row) (map change (take (end - start) (drop start row))) (plain-take start row p) q) (plain-drop end row p) left_row
      (row_back end row old back p o b) w
      ∙ ap nest (append_assoc (take start row) (map change (take (end - start) (drop start row))) (drop end row))

  -- the range, broken out of the row
  range_row : (old kept range : List ViewNode) → old ≡ nest row → kept ≡ (cut end old).0 → range ≡ (cut start kept).1
      → range ≡ nest (take (end - start) (drop start row))
  range_row old kept range o k r =
      row_back start (take end row) kept range (plain-take end row p) (row_front end row old kept p o k) r ∙ ap nest range_is

pub range_wrapped : (layer : Layer) (start end : ℕ) (row : List Entry) (old kept back front range made left whole : List ViewNode) → start ≤ end
    → IsPlainRow row → HasBareLeaves row
    → old ≡ nest row → kept ≡ (cut end old).0 → back ≡ (cut end old).1 → front ≡ (cut start kept).0 → range ≡ (cut start kept).1
    → made ≡ wrapped layer range → left ≡ join front made → whole ≡ join left back
    → whole ≡ nest (changed_range (entry_with layer) start end row)
range_wrapped layer start end row old kept back front range made left whole s p h o k b f r m l w =
    let plain = plain-take (end - start) (drop start row) (plain-drop start row p) in
    let bare = bare-take (end - start) (drop start row) (bare-drop start row h) in
    rejoined (entry_with layer) start end s row p old kept back front range made left whole
    (plain-with layer (take (end - start) (drop start row)) plain) o k b f
    (m ∙ ap (wrapped layer) (range_row (entry_with layer) start end s row p old kept range o k r)
    ∙ nest-wrapped layer (take (end - start) (drop start row)) plain bare) l w

pub range_unwrapped : (layer : Layer) (start end : ℕ) (row : List Entry) (old kept back front range made left whole : List ViewNode) → start ≤ end
    → IsPlainRow row
    → old ≡ nest row → kept ≡ (cut end old).0 → back ≡ (cut end old).1 → front ≡ (cut start kept).0 → range ≡ (cut start kept).1
    → made ≡ unwrapped layer range → left ≡ join front made → whole ≡ join left back
    → whole ≡ nest (changed_range (entry_without layer) start end row)
range_unwrapped layer start end row old kept back front range made left whole s p o k b f r m l w =
    let plain = plain-take (end - start) (drop start row) (plain-drop start row p) in
    rejoined (entry_without layer) start end s row p old kept back front range made left whole
    (plain-without layer (take (end - start) (drop start row)) plain) o k b f
    (m ∙ ap (unwrapped layer) (range_row (entry_without layer) start end s row p old kept range o k r)
    ∙ nest-unwrapped layer (take (end - start) (drop start row)) plain) l w
