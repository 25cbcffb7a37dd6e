-- What is found while a view is read. (After the model cursor, the split parts and the conversion result of CKEditor 5's `UpcastDispatcher`.)
use Rattle.std.specs.Prelude.{ℕ, List, [], ◌∷◌, map, Bool, false, not, ◌==◌, codes}
use Rattle.std.specs.List.{filter, list_any}
use Rattle.item_definitions.specs.Item.{Attributes}

-- An element of the model that is made, or a part of one that was cut. Its number is its place among all that are made.
pub record Frame : Type 0 where
  pub number : ℕ
  pub name : List ℕ
  pub attributes : Attributes

-- what stands in frames: a character with its attributes, or the mark of the frame with a number, by which it stands even where nothing is in it
pub data Content : Type 0 where
  letter : ℕ → Attributes → Content
  mark : ℕ → Content

-- a content with the frames that it is in, the outermost first
pub record Leaf : Type 0 where
  pub content : Content
  pub frames : List Frame

-- How far a view was read: the frames that are open at the cursor, the outermost first; all frames that are made so far; and all leaves so far, in
-- their order. The root holds them all, and is no frame.
pub record Reading : Type 0 where
  pub frames : List Frame
  pub made : List Frame
  pub leaves : List Leaf

-- before anything is read
abbrev pub unread : Reading
unread = record { frames = []; made = []; leaves = [] }

-- the names of the ancestors at the cursor, from the root on
abbrev pub ancestors : List Frame → List (List ℕ)
ancestors frames = codes "$root" ∷ map (λ frame. frame.name) frames

-- whether a leaf is the mark of one of these frames
abbrev pub is_mark_of : List Frame → Content → Bool
is_mark_of frames (letter scalar attributes) = false
is_mark_of frames (mark number) = list_any (λ frame. frame.number == number) frames

-- the leaves without the marks of these frames
abbrev pub struck : List Frame → List Leaf → List Leaf
struck frames leaves = filter (λ leaf. not (is_mark_of frames leaf.content)) leaves
