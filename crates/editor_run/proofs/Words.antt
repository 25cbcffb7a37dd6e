-- The words of the command line, read at their places.
use Rattle.std.proofs.Common.{◌≡◌, ◌≢◌, List, [], ◌∷◌, None, map, String, string_bytes, Global, length, slice_index_or, refl, arith}
use Rattle.program_definitions.specs.Task.{task_of, check_task, run_task}

pub three_words : (words : List (String Global)) (d e : String Global) → length words ≡ 3
    → task_of (map string_bytes words) ≡ check_task (string_bytes (slice_index_or words 1 d)) (string_bytes (slice_index_or words 2 e))
three_words [] d e h = absurd (omega arith)
three_words (a ∷ []) d e h = absurd (omega arith)
three_words (a ∷ b ∷ []) d e h = absurd (omega arith)
three_words (a ∷ b ∷ c ∷ []) d e h = refl
three_words (a ∷ b ∷ c ∷ f ∷ rest) d e h = absurd (omega arith)

pub four_words : (words : List (String Global)) (d e f : String Global) → length words ≡ 4
    → task_of (map string_bytes words) ≡ run_task (string_bytes (slice_index_or words 1 d)) (string_bytes (slice_index_or words 2 e))
    (string_bytes (slice_index_or words 3 f))
four_words [] d e f h = absurd (omega arith)
four_words (a ∷ []) d e f h = absurd (omega arith)
four_words (a ∷ b ∷ []) d e f h = absurd (omega arith)
four_words (a ∷ b ∷ c ∷ []) d e f h = absurd (omega arith)
four_words (a ∷ b ∷ c ∷ g ∷ []) d e f h = refl
four_words (a ∷ b ∷ c ∷ g ∷ k ∷ rest) d e f h = absurd (omega arith)

pub other_words : (words : List (String Global)) → length words ≢ 3 → length words ≢ 4 → task_of (map string_bytes words) ≡ None
other_words [] h k = refl
other_words (a ∷ []) h k = refl
other_words (a ∷ b ∷ []) h k = refl
other_words (a ∷ b ∷ c ∷ []) h k = absurd (h refl)
other_words (a ∷ b ∷ c ∷ d ∷ []) h k = absurd (k refl)
other_words (a ∷ b ∷ c ∷ d ∷ e ∷ rest) h k = refl
