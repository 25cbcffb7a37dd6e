-- The first line of a text, found from its front.
use Rattle.std.proofs.Common.{◌≡◌, ◌≢◌, ℕ, ◌<◌, ◌+◌, ◌-◌, List, [], ◌∷◌, ◌++◌, length, take, drop, refl, sym, ap, ◌∙◌, arith}
use Rattle.std.proofs.Common.{get_or}
use Rattle.std.proofs.Math.Seq.{drop-cons, drop-length, take-length}
use Rattle.std.proofs.Math.Numerals.{add-one}
use Rattle.std.proofs.lemmas.List.{take_more, take_rest}
use Rattle.std.proofs.lemmas.Bool.{ne_eqb}
use Rattle.machine_definitions.specs.Lines.{lines_of, in_first_line}

-- the lines of a text that goes on with these bytes, none of which is a line feed
abbrev pub in_front : List ℕ → List (List ℕ) → List (List ℕ)
in_front [] lines = lines
in_front (byte ∷ bytes) lines = in_first_line byte (in_front bytes lines)

-- one more byte in front
pub in_front_more : (front : List ℕ) (byte : ℕ) (rest : List ℕ) → byte ≢ 10 → in_front (front ++ byte ∷ []) (lines_of rest)
    ≡ in_front front (lines_of (byte ∷ rest))
in_front_more [] byte rest other = rw (ne_eqb byte 10 other) refl
in_front_more (b ∷ front) byte rest other = ap (in_first_line b) (in_front_more front byte rest other)

in_front_first : (front line : List ℕ) (lines : List (List ℕ)) → in_front front (line ∷ lines) ≡ (front ++ line) ∷ lines
in_front_first [] line lines = refl
in_front_first (b ∷ front) line lines = ap (in_first_line b) (in_front_first front line lines)

append_nil : (xs : List ℕ) → xs ++ [] ≡ xs
append_nil [] = refl
append_nil (x ∷ xs) = ap (λ ys. x ∷ ys) (append_nil xs)

-- a line feed ends the line
pub first_line_feed : (front rest : List ℕ) → in_front front (lines_of (10 ∷ rest)) ≡ front ∷ lines_of rest
first_line_feed front rest = in_front_first front [] (lines_of rest) ∙ ap (λ xs. xs ∷ lines_of rest) (append_nil front)

-- what follows the last line feed
pub last_line : (front : List ℕ) → 0 < length front → in_front front [] ≡ front ∷ []
last_line [] some = absurd (omega arith)
last_line (b ∷ []) some = refl
last_line (b ∷ c ∷ front) some = ap (in_first_line b) (last_line (c ∷ front) (omega arith))

-- no line feed among the first i bytes
abbrev pub NoneBefore : List ℕ → ℕ → Type 0
NoneBefore text i = in_front (take i text) (lines_of (drop i text)) ≡ lines_of text

next_byte : (text : List ℕ) (i : ℕ) → i < length text → drop i text ≡ get_or text i 0 ∷ drop (i + 1) text
next_byte text i within = rw add-one (drop-cons text i 0 within)

-- at a line feed
pub line_ends : (text : List ℕ) (i : ℕ) → i < length text → get_or text i 0 ≡ 10 → NoneBefore text i
    → lines_of text ≡ take i text ∷ lines_of (take (length text - (i + 1)) (drop (i + 1) text))
line_ends text i within feed before =
    let next : drop i text ≡ 10 ∷ drop (i + 1) text = next_byte text i within ∙ ap (λ b. b ∷ drop (i + 1) text) feed in
    let rest : take (length text - (i + 1)) (drop (i + 1) text) ≡ drop (i + 1) text = take_rest text (i + 1) in
    sym before ∙ ap (λ xs. in_front (take i text) (lines_of xs)) next ∙ first_line_feed (take i text) (drop (i + 1) text)
    ∙ ap (λ xs. take i text ∷ lines_of xs) (sym rest)

-- at another byte
pub line_goes_on : (text : List ℕ) (i : ℕ) → i < length text → get_or text i 0 ≢ 10 → NoneBefore text i → NoneBefore text (i + 1)
line_goes_on text i within other before =
    ap (λ xs. in_front xs (lines_of (drop (i + 1) text))) (take_more text i 0 within)
    ∙ in_front_more (take i text) (get_or text i 0) (drop (i + 1) text) other
    ∙ ap (λ xs. in_front (take i text) (lines_of xs)) (sym (next_byte text i within))
    ∙ before

-- at the end of the text
pub line_is_last : (text : List ℕ) → 0 < length text → NoneBefore text (length text)
    → lines_of text ≡ text ∷ lines_of (take (length text - length text) (drop (length text) text))
line_is_last text some before =
    let rest : take (length text - length text) (drop (length text) text) ≡ [] = take_rest text (length text) ∙ drop-length text in
    sym before ∙ ap (λ xs. in_front (take (length text) text) (lines_of xs)) (drop-length text) ∙ ap (λ xs. in_front xs []) (take-length text)
    ∙ last_line text some ∙ ap (λ xs. text ∷ lines_of xs) (sym rest)
