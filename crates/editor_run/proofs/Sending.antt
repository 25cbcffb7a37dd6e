-- An output that is written piece by piece.
use Rattle.std.proofs.Common.{◌≡◌, ℕ, ◌+◌, None, Some, IfSome, length, arith, List, [], ◌∷◌, ◌++◌, Option, take, drop, refl, sym, ap, subst, ◌∙◌, append-nil}
use Rattle.std.proofs.Common.{append_assoc}
use Rattle.std.proofs.lemmas.List.{take-append-drop}
use Rattle.std.specs.Io.KnownBytes.{append_known}
use Rattle.ck_io.proofs.Written.{append_known-append, append_known-nil}
use Rattle.machine_definitions.specs.Lines.{lines_of}
use Rattle.program_definitions.specs.Machine.{Machine, answer, answers}
use Rattle.editor_run.specs.Sent.{SendsUpTo, SendsFront}

-- nothing was written yet
pub sends_none : (known : Option (List ℕ)) (all : List ℕ) → SendsUpTo known known all all
sends_none known all = ([], sym (append_known-nil known), refl)

-- the next piece was written
pub sends_piece : (old mid new : Option (List ℕ)) (all piece rest : List ℕ) → SendsUpTo old mid all (piece ++ rest) → new ≡ append_known mid piece
    → SendsUpTo old new all rest
sends_piece old mid new all piece rest h e = (
  h.0 ++ piece,
  e ∙ ap (λ known. append_known known piece) h.1 ∙ append_known-append old h.0 piece,
  append_assoc h.0 piece rest ∙ h.2,
)

-- a front of the next piece was written
pub sends_part : (old mid new : Option (List ℕ)) (all piece rest : List ℕ) (count : ℕ) → SendsUpTo old mid all (piece ++ rest)
    → new ≡ append_known mid (take count piece) → SendsFront old new all
sends_part old mid new all piece rest count h e =
    let cut : take count piece ++ (drop count piece ++ rest) ≡ piece ++ rest = sym (append_assoc (take count piece) (drop count piece) rest)
    ∙ ap (λ xs. xs ++ rest) (take-append-drop count piece) in
    let whole : SendsUpTo old mid all (take count piece ++ (drop count piece ++ rest)) = (h.0, h.1, ap (λ xs. h.0 ++ xs) cut ∙ h.2) in
    (drop count piece ++ rest, sends_piece old mid new all (take count piece) (drop count piece ++ rest) whole e)

-- nothing is left to write
pub sends_all : (old new : Option (List ℕ)) (all : List ℕ) → SendsUpTo old new all [] → new ≡ append_known old all
sends_all old new all h = h.1 ∙ ap (append_known old) (sym (append-nil h.0) ∙ h.2)

-- the answers to the lines of a text, from its first line on
pub answers_next : (machine : Machine) (number : ℕ) (text line rest : List ℕ) → lines_of text ≡ line ∷ lines_of rest
    → answers machine number (lines_of text) ≡ (answer machine number line).text ++ answers (answer machine number line).machine (number + 1) (lines_of rest)
unfolding answers
answers_next machine number text line rest e = ap (answers machine number) e

-- the first bytes of a text were written
pub front_of : (old new : Option (List ℕ)) (all : List ℕ) (count : ℕ) → new ≡ append_known old (take count all) → SendsFront old new all
front_of old new all count e = (drop count all, (take count all, e, take-append-drop count all))

-- the answer to the next line was written
pub sends_answer : (old mid new : Option (List ℕ)) (all : List ℕ) (machine : Machine) (number : ℕ) (text line rest bytes : List ℕ)
    → lines_of text ≡ line ∷ lines_of rest → SendsUpTo old mid all (answers machine number (lines_of text))
    → bytes ≡ (answer machine number line).text → new ≡ append_known mid bytes
    → SendsUpTo old new all (answers (answer machine number line).machine (number + 1) (lines_of rest))
sends_answer old mid new all machine number text line rest bytes split sends same grew =
    let later = answers (answer machine number line).machine (number + 1) (lines_of rest) in
    sends_piece old mid new all (answer machine number line).text later
    (subst (SendsUpTo old mid all) (answers_next machine number text line rest split) sends)
    (grew ∙ ap (append_known mid) same)

-- a front of the answer to the next line was written
pub sends_part_of_answer : (old mid new : Option (List ℕ)) (all : List ℕ) (machine : Machine) (number : ℕ) (text line rest bytes : List ℕ) (count : ℕ)
    → lines_of text ≡ line ∷ lines_of rest → SendsUpTo old mid all (answers machine number (lines_of text))
    → bytes ≡ (answer machine number line).text → new ≡ append_known mid (take count bytes)
    → SendsFront old new all
sends_part_of_answer old mid new all machine number text line rest bytes count split sends same grew =
    let later = answers (answer machine number line).machine (number + 1) (lines_of rest) in
    sends_part old mid new all (answer machine number line).text later count
    (subst (SendsUpTo old mid all) (answers_next machine number text line rest split) sends)
    (grew ∙ ap (λ xs. append_known mid (take count xs)) same)

-- no line is left
pub sends_to_end : (old new : Option (List ℕ)) (all : List ℕ) (machine : Machine) (number : ℕ) (text : List ℕ)
    → length text ≡ 0 → SendsUpTo old new all (answers machine number (lines_of text)) → new ≡ append_known old all
unfolding answers
sends_to_end old new all machine number [] none sends = sends_all old new all sends
sends_to_end old new all machine number (b ∷ text) none sends = absurd (omega arith)

-- nothing was written, whatever is held
pub sends_nothing : {Held : Type 0} (known : Option (List ℕ)) (holds : Option Held) (all : Held → List ℕ)
    → IfSome holds (λ held. SendsFront known known (all held))
sends_nothing known None all = tt
sends_nothing known (Some held) all = (all held, sends_none known (all held))

-- what follows from a fact of what is held, and from two
pub held_so : {Held : Type 0} (holds : Option Held) (P R : Held → Type 0) → IfSome holds P → ((held : Held) → P held → R held) → IfSome holds R
held_so None P R p so = tt
held_so (Some held) P R p so = so held p

pub held_both : {Held : Type 0} (holds later : Option Held) (P Q R : Held → Type 0) → later ≡ holds → IfSome holds P → IfSome later Q
    → ((held : Held) → P held → Q held → R held) → IfSome holds R
held_both {Held = Held} holds later P Q R same p q so = both holds (subst (λ told. IfSome told Q) same q) p
  where
    both : (told : Option Held) → IfSome told Q → IfSome told P → IfSome told R
    both None q p = tt
    both (Some held) q p = so held p q

-- what was written so far is a front of all
pub sends_so_far : (old new : Option (List ℕ)) (all rest : List ℕ) → SendsUpTo old new all rest → SendsFront old new all
sends_so_far old new all rest h = (rest, h)

-- all is a front of itself
pub whole_front : (old new : Option (List ℕ)) (all : List ℕ) → new ≡ append_known old all → SendsFront old new all
whole_front old new all e = ([], (all, e, append-nil all))
