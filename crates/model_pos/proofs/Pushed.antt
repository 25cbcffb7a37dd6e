-- How the parts of a range in an element are seen from above.
use Rattle.std.proofs.Common.{◌≡◌, ℕ, ◌+◌, ◌<◌, ◌≤◌, true, false, ◌==◌, if◌then◌else◌, List, [], ◌∷◌, ◌++◌, map, Option, Result, Ok, Err, OnOk, unwrap_or, refl}
use Rattle.std.proofs.Common.{sym, ap, ◌∙◌, subst, arith, append_assoc, append-nil}
use Rattle.std.proofs.lemmas.Bool.Decides.{nat_tests}
use Rattle.std.proofs.lemmas.List.{map-append}
use Rattle.item_definitions.specs.Position.{Range, between, not_after}
use Rattle.item_definitions.specs.FlatParts.{under, run, next_offset, counts_under, parts_behind, parts_before, parts_between}
use Rattle.item_definitions.proofs.Order.{not_after-cons, not_after-parent}
use Rattle.model_pos.specs.Below.{below, counts_below}

-- the parts in the item at an index are those in the element at the path that is longer by that
pub maps-under : (above : List ℕ) (i : ℕ) (parts : List Range) → map (below above) (map (under i) parts) ≡ map (below (above ++ i ∷ [])) parts
maps-under above i [] = refl
maps-under above i (part ∷ parts) =
    λ t. between (sym (append_assoc above (i ∷ []) part.start) t) (sym (append_assoc above (i ∷ []) part.end) t) ∷ maps-under above i parts t

pub counts-under : (above : List ℕ) (i : ℕ) (counts : List ℕ → Option ℕ) → counts_under i (counts_below above counts) ≡ counts_below (above ++ i ∷ []) counts
counts-under above i counts = λ t path. counts (sym (append_assoc above (i ∷ []) path) t)

pub maps-root : (parts : List Range) → map (below []) parts ≡ parts
maps-root [] = refl
maps-root (part ∷ parts) = ap (λ rest. part ∷ rest) (maps-root parts)

inner-parts : (above : List ℕ) (i : ℕ) (rest : List ℕ) (counts : List ℕ → Option ℕ)
    → map (below (above ++ i ∷ [])) (parts_behind (counts_below (above ++ i ∷ []) counts) rest)
    ≡ map (below above) (map (under i) (parts_behind (counts_under i (counts_below above counts)) rest))
inner-parts above i rest counts =
    ap (λ c. map (below (above ++ i ∷ [])) (parts_behind c rest)) (sym (counts-under above i counts))
    ∙ sym (maps-under above i (parts_behind (counts_under i (counts_below above counts)) rest))

module _ (above : List ℕ) (front one two : List Range) where
  -- what is behind a position is what is behind it in the item that it is in, and what is behind that item
  pub behind-step : (i count : ℕ) (path rest lower : List ℕ) (counts : List ℕ → Option ℕ) → lower ≡ above ++ i ∷ [] → path ≡ i ∷ rest
      → count ≡ unwrap_or (counts above) 0
      → one ≡ front ++ map (below lower) (parts_behind (counts_below lower counts) rest)
      → two ≡ one ++ map (below above) (run (next_offset i rest) count)
      → two ≡ front ++ map (below above) (parts_behind (counts_below above counts) path)
  behind-step i count path rest lower counts d e f g' h =
      let g = subst (λ p. one ≡ front ++ map (below p) (parts_behind (counts_below p counts) rest)) d g' in
      let inner = parts_behind (counts_under i (counts_below above counts)) rest in
      h ∙ ap (λ (parts : List Range). parts ++ map (below above) (run (next_offset i rest) count)) (g
      ∙ ap (λ (parts : List Range). front ++ parts) (inner-parts above i rest counts))
      ∙ append_assoc front (map (below above) (map (under i) inner)) (map (below above) (run (next_offset i rest) count))
      ∙ ap (λ (parts : List Range). front ++ parts) (sym (map-append (below above) (map (under i) inner) (run (next_offset i rest) count)))
      ∙ ap (λ n. front ++ map (below above) (map (under i) inner ++ run (next_offset i rest) n)) (f ∙ ap (λ a. unwrap_or (counts a) 0) (sym (append-nil above)))
      ∙ ap (λ p. front ++ map (below above) (parts_behind (counts_below above counts) p)) (sym e)

  -- what is before a position is what is before the item that it is in, and what is before it there
  pub before-step : (i : ℕ) (path rest lower : List ℕ) → lower ≡ above ++ i ∷ [] → path ≡ i ∷ rest → one ≡ front ++ map (below above) (run 0 i)
      → two ≡ one ++ map (below lower) (parts_before rest) → two ≡ front ++ map (below above) (parts_before path)
  before-step i path rest lower d e g h' =
      let h = subst (λ p. two ≡ one ++ map (below p) (parts_before rest)) d h' in
      h ∙ (λ t. g t ++ sym (maps-under above i (parts_before rest)) t)
      ∙ append_assoc front (map (below above) (run 0 i)) (map (below above) (map (under i) (parts_before rest)))
      ∙ ap (λ (parts : List Range). front ++ parts) (sym (map-append (below above) (run 0 i) (map (under i) (parts_before rest))))
      ∙ ap (λ p. front ++ map (below above) (parts_before p)) (sym e)

  -- two positions in one item
  pub same-step : (i j : ℕ) (start path end rest lower : List ℕ) (counts : List ℕ → Option ℕ) → lower ≡ above ++ i ∷ [] → start ≡ i ∷ path
      → end ≡ j ∷ rest → i ≡ j
      → one ≡ front ++ map (below lower) (parts_between (counts_below lower counts) path rest)
      → one ≡ front ++ map (below above) (parts_between (counts_below above counts) start end)
  same-step i j start path end rest lower counts d e f same g' =
      let g = subst (λ p. one ≡ front ++ map (below p) (parts_between (counts_below p counts) path rest)) d g' in
      g ∙ ap (λ (parts : List Range). front ++ parts)
      (ap (λ c. map (below (above ++ i ∷ [])) (parts_between c path rest)) (sym (counts-under above i counts))
      ∙ sym (maps-under above i (parts_between (counts_under i (counts_below above counts)) path rest)))
      ∙ ap (λ b. front ++ map (below above) (if b then map (under i) (parts_between (counts_under i (counts_below above counts)) path rest)
      else map (under i) (parts_behind (counts_under i (counts_below above counts)) path)
      ++ (run (next_offset i path) j ++ map (under j) (parts_before rest)))) (yes i j same)
      ∙ (λ t. front ++ map (below above) (parts_between (counts_below above counts) (sym e t) (sym f t)))
    where
      yes : (i j : ℕ) → i ≡ j → true ≡ (i == j)
      yes i j e = grind (arith, nat_tests)

  -- two positions in different items
  pub apart-step : (i j : ℕ) (start path end rest : List ℕ) (counts : List ℕ → Option ℕ) → start ≡ i ∷ path → end ≡ j ∷ rest → ¬ (i ≡ j)
      → one ≡ front ++ map (below above) (map (under i) (parts_behind (counts_under i (counts_below above counts)) path)
      ++ (run (next_offset i path) j ++ map (under j) (parts_before rest)))
      → one ≡ front ++ map (below above) (parts_between (counts_below above counts) start end)
  apart-step i j start path end rest counts e f differ g =
      g ∙ ap (λ b. front ++ map (below above) (if b then map (under i) (parts_between (counts_under i (counts_below above counts)) path rest)
      else map (under i) (parts_behind (counts_under i (counts_below above counts)) path)
      ++ (run (next_offset i path) j ++ map (under j) (parts_before rest)))) (no i j differ)
      ∙ (λ t. front ++ map (below above) (parts_between (counts_below above counts) (sym e t) (sym f t)))
    where
      no : (i j : ℕ) → ¬ (i ≡ j) → false ≡ (i == j)
      no i j d = grind (arith, nat_tests)

  -- the three pieces between positions in different items
  pub pieces : (i j : ℕ) (path rest lower other : List ℕ) (counts : List ℕ → Option ℕ) (three : List Range) → lower ≡ above ++ i ∷ [] → other ≡ above ++ j ∷ []
      → one ≡ front ++ map (below lower) (parts_behind (counts_below lower counts) path)
      → two ≡ one ++ map (below above) (run (next_offset i path) j)
      → three ≡ two ++ map (below other) (parts_before rest)
      → three ≡ front ++ map (below above) (map (under i) (parts_behind (counts_under i (counts_below above counts)) path)
      ++ (run (next_offset i path) j ++ map (under j) (parts_before rest)))
  pieces i j path rest lower other counts three c d e' f g' =
      let e = subst (λ p. one ≡ front ++ map (below p) (parts_behind (counts_below p counts) path)) c e' in
      let g = subst (λ p. three ≡ two ++ map (below p) (parts_before rest)) d g' in
      let inner = map (under i) (parts_behind (counts_under i (counts_below above counts)) path) in
      let middle = run (next_offset i path) j in
      let last = map (under j) (parts_before rest) in
      g ∙ (λ t. (f ∙ ap (λ (parts : List Range). parts ++ map (below above) middle) (e
      ∙ ap (λ (parts : List Range). front ++ parts) (inner-parts above i path counts))) t ++ sym (maps-under above j (parts_before rest)) t)
      ∙ append_assoc (front ++ map (below above) inner) (map (below above) middle) (map (below above) last)
      ∙ append_assoc front (map (below above) inner) (map (below above) middle ++ map (below above) last)
      ∙ ap (λ (parts : List Range). front ++ (map (below above) inner ++ parts)) (sym (map-append (below above) middle last))
      ∙ ap (λ (parts : List Range). front ++ parts) (sym (map-append (below above) inner (middle ++ last)))

-- two offsets in one parent
pub run-ordered : (above : List ℕ) (a b : ℕ) → a < b → not_after (above ++ a ∷ []) (above ++ b ∷ []) ≡ true
run-ordered above a b less = not_after-parent above (a ∷ []) (b ∷ []) ∙ not_after-cons a b [] [] ∙ grind (arith, nat_tests)

-- what holds on Ok, in another form
pub on_ok : {T E P Q : Type 0} (r : Result T E) → (P → Q) → OnOk r P → OnOk r Q
on_ok (Ok v) f h = f h
on_ok (Err e) f h = h

-- the parts in the root are those of the range
pub root-step : (front one : List Range) (root start end first last : List ℕ) (counts : List ℕ → Option ℕ) → front ≡ [] → root ≡ [] → first ≡ start → last ≡ end
    → one ≡ front ++ map (below root) (parts_between (counts_below root counts) first last) → one ≡ parts_between counts start end
root-step front one root start end first last counts d e f g h =
    h ∙ (λ t. d t ++ map (below (e t)) (parts_between (counts_below (e t) counts) (f t) (g t))) ∙ maps-root (parts_between counts start end)
