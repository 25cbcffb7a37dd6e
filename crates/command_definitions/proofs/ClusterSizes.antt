-- The first cluster of a text is no longer than the text.
use Rattle.std.proofs.Common.{◌≡◌, ℕ, ◌≤◌, Bool, true, false, ◌&&◌, List, [], ◌∷◌, ◌++◌, map, length, Option, unwrap_or, slice_get, if◌then◌else◌, refl, sym}
use Rattle.std.proofs.Common.{ap, ◌∙◌, subst, arith, length-append}
use Rattle.std.specs.Prelude.{encode_utf8_all}
use Rattle.std.specs.Str.{chars, all_scalars}
use Rattle.std.proofs.lemmas.Str.{chars-nil, chars-encodes}
use Rattle.unicode_segmentation.specs.Segments.{Rule, prepend, cut, segments}
use Rattle.unicode_segmentation.specs.Grapheme.{is_grapheme_break}
use Rattle.command_definitions.specs.Clusters.{first_cluster}

-- the first piece is a front of the text
record Front (first : Option (List ℕ)) (text : List ℕ) : Type 0 where
  pub rest : List ℕ
  pub joined : unwrap_or first [] ++ rest ≡ text

front : (rule : Rule) (before text after : List ℕ) → Front (slice_get (cut rule before text after) 0) text
unfolding cut
front rule before [] after = record { rest = []; joined = refl }
front rule before (c ∷ cs) after = go (rule (c ∷ before) (cs ++ after)) (cut rule (c ∷ before) cs after) (front rule (c ∷ before) cs after)
  where
    go : (t : Bool) (pieces : List (List ℕ)) → Front (slice_get pieces 0) cs
        → Front (slice_get (if t then (c ∷ []) ∷ pieces else prepend (c ∷ []) pieces) 0) (c ∷ cs)
    go true pieces h = record { rest = cs; joined = refl }
    go false [] h = record { rest = cs; joined = refl }
    go false (piece ∷ pieces) h = record { rest = h.rest; joined = ap (λ t. c ∷ t) h.joined }

scalars-front : (front rest : List ℕ) → all_scalars (front ++ rest) ≡ true → all_scalars front ≡ true
scalars-front [] rest e = refl
scalars-front (c ∷ front) rest e = joined _ (all_scalars (front ++ rest)) (all_scalars front) e (scalars-front front rest)
  where
    joined : (a b c : Bool) → (a && b) ≡ true → (b ≡ true → c ≡ true) → (a && c) ≡ true
    joined true b c e k = k e
    joined false b c e k = e

first-piece : (pieces : List (List ℕ)) (text : List ℕ) → all_scalars text ≡ true → Front (slice_get pieces 0) text
    → length (chars (unwrap_or (slice_get (map encode_utf8_all pieces) 0) [])) ≤ length text
first-piece [] text scalars h = omega (arith, ap length chars-nil)
first-piece (piece ∷ pieces) text scalars h =
    let own = chars-encodes piece (scalars-front piece h.rest (ap all_scalars h.joined ∙ scalars)) in
    omega (arith, ap length own, length-append piece h.rest, ap length h.joined)

pub first-fits : (text : List ℕ) → all_scalars text ≡ true → first_cluster text ≤ length text
unfolding segments
first-fits text scalars =
    subst (λ cs. length (chars (unwrap_or (slice_get (map encode_utf8_all (cut (is_grapheme_break true) [] cs [])) 0) [])) ≤ length text)
    (sym (chars-encodes text scalars))
    (first-piece (cut (is_grapheme_break true) [] text []) text scalars (front (is_grapheme_break true) [] text []))
