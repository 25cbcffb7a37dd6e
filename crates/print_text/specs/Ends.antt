-- The marks that a printed text gets.
use Rattle.std.specs.Prelude.{ℕ, List, [], ◌∷◌, ◌++◌, Bool, true, false, Option, Some, None}
use Rattle.item_definitions.specs.Position.{Range}
use Rattle.document_definitions.specs.Selection.{Selection}
use Rattle.view_tree.specs.declared.path.ViewPlace.{ViewPlace}
use Rattle.print_definitions.specs.Marks.{Ends, outer_marks, inner_marks}
use Rattle.print_text.specs.declared.marks.Marks.{Marks}
use Rattle.print_text.specs.declared.marks.Brackets.{Brackets}
use Rattle.print_text.specs.declared.marks.Brackets.TheVariants.{Square, Curly}

-- those of a range, if there is one
abbrev pub ends_in : Option Range → Option Ends
ends_in None = None
ends_in (Some range) = Some (record { start = range.start; end = range.end })

-- those of a selection, if they are wanted
abbrev pub ends_of : Bool → Selection → Option Ends
ends_of true selection = ends_in (Some selection.range)
ends_of false selection = None

-- a place of a view as its numbers
abbrev pub place_of : ViewPlace → List ℕ
place_of place = place.path ++ place.offset ∷ []

-- those between two places of a view, if they are given
abbrev pub marks_of : Option (ViewPlace × ViewPlace) → Option Ends
marks_of None = None
marks_of (Some places) = Some (record { start = place_of places.0; end = place_of places.1 })

-- the places of the code's marks
abbrev pub places_of : Marks → Ends
places_of marks = record { start = marks.start.now; end = marks.end.now }

-- the marks in these brackets
abbrev pub marks_in : Brackets → Ends → ℕ → List ℕ
marks_in Square ends index = outer_marks ends index
marks_in Curly ends index = inner_marks ends index
