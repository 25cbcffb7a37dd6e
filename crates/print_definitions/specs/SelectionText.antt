-- The lines that a show prints behind the model and the view: each marker with its range, in the order of the names' bytes, and the selection with
-- its direction and attributes.
use Rattle.std.specs.Prelude.{ℕ, List, ◌++◌, Bool, true, false, codes}
use Rattle.std.specs.Fmt.{decimal}
use Rattle.std.specs.List.{flat_map}
use Rattle.item_definitions.specs.Item.{Attributes}
use Rattle.item_definitions.specs.Position.{Range}
use Rattle.document_definitions.specs.Markers.{Markers}
use Rattle.machine_definitions.specs.Texts.{printed_path}
use Rattle.print_definitions.specs.Values.{attributes_text}

-- a marker, with the number of the script's line before it
unfoldable pub marker_line : ℕ → List ℕ → Range → List ℕ
marker_line number name range =
    decimal number ++ (codes " marker " ++ (name ++ (codes " " ++ (printed_path range.start ++ (codes " " ++ (printed_path range.end ++ codes "\n"))))))

-- the lines of markers, in the order of their names
abbrev pub marker_lines : ℕ → Markers → List ℕ
marker_lines number markers = flat_map (λ marker. marker_line number marker.0 marker.1) markers

-- whether the focus is at the start or at the end
unfoldable pub direction : Bool → List ℕ
direction false = codes "forward"
direction true = codes "backward"

-- the selection
unfoldable pub selection_line : ℕ → Bool → Attributes → List ℕ
selection_line number backward attributes =
    decimal number ++ (codes " selection " ++ (direction backward ++ (attributes_text attributes ++ codes "\n")))
