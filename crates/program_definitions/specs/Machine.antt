-- The machine that a script runs on: its state is a document, and each line is answered in turn. A refused line changes nothing.
use Rattle.std.specs.Prelude.{ℕ, ◌+◌, ◌==◌, List, [], ◌∷◌, ◌++◌, Bool, true, false, Some, None, Result, Ok, Err, if◌then◌else◌, codes}
use Rattle.std.specs.Fmt.{decimal}
use Rattle.ck_base.specs.declared.faults.Refusal.{Refusal}
use Rattle.ck_base.specs.declared.faults.Refusal.TheVariants.{ChangesSpent, NotJson as NotJsonLine, BadField as BadFieldLine, NoMemory as NoMemoryLine}
use Rattle.json_forms.specs.declared.fault.FormFault.{FormFault}
use Rattle.json_forms.specs.declared.fault.FormFault.TheVariants.{NotJson, BadField, NoMemory}
use Rattle.machine_definitions.specs.Lines.{is_blank}
use Rattle.machine_definitions.specs.Refusals.{refusal_text}
use Rattle.print_definitions.specs.Marks.{Ends}
use Rattle.print_definitions.specs.ModelText.{model_text}
use Rattle.print_definitions.specs.ViewText.{view_text}
use Rattle.print_definitions.specs.SelectionText.{marker_lines, selection_line}
use Rattle.document_definitions.specs.Document.{Document}
use Rattle.document_definitions.specs.Selection.{attributes}
use Rattle.edit_definitions.specs.declared.edit.Edit.{Edit}
use Rattle.converter_definitions.specs.Gives.{Conversion}
use Rattle.downcast_definitions.specs.Rows.{downcast}
use Rattle.downcast_definitions.specs.Seen.{seen}
use Rattle.script_definitions.specs.declared.request.Request.{Request}
use Rattle.script_definitions.specs.declared.request.Request.TheVariants.{Change, SelectView, Show}
use Rattle.script_definitions.specs.Request.{request_of}
use Rattle.step_definitions.specs.Step.{Terms, step}
use Rattle.program_definitions.specs.Selecting.{selecting}

-- what a document is edited under, and shown by
pub record Config : Type 0 where
  pub terms : Terms
  pub conversion : Conversion

-- The state: a document, the documents before accepted changes, those that were undone, and how many changes were accepted. (No line undoes
-- anything today, so both lists stay empty.)
pub record Machine : Type 0 where
  pub config : Config
  pub document : Document
  pub earlier : List Document
  pub undone : List Document
  pub accepted : ℕ

-- a document that was opened
abbrev pub beginning : Config → Document → Machine
beginning config document = record { config = config; document = document; earlier = []; undone = []; accepted = 0 }

-- the most changes that are accepted
abbrev pub most_changes : ℕ
most_changes = 4294967295

-- with the document that a change has made, or why the change is refused
abbrev pub moved : Machine → Result Document Refusal → Result Machine Refusal
moved machine (Ok document) = Ok (record machine { document = document; accepted = machine.accepted + 1 })
moved machine (Err refusal) = Err refusal

-- after a change by these edits, if there are such
abbrev pub edited : Machine → Result (List Edit) Refusal → Result Machine Refusal
edited machine (Ok edits) = moved machine (step machine.config.terms edits machine.document)
edited machine (Err refusal) = Err refusal

-- one change more, if there may be one
abbrev pub unless_spent : Machine → Result Machine Refusal → Result Machine Refusal
unless_spent machine next = if machine.accepted == most_changes then Err ChangesSpent else next

-- after a change, or why it is refused
abbrev pub change : List Edit → Machine → Result Machine Refusal
change edits machine = unless_spent machine (edited machine (Ok edits))

-- after a selection by two places of the view, or why it is refused
abbrev pub select_view : List ℕ → List ℕ → Machine → Result Machine Refusal
select_view anchor focus machine = unless_spent machine (edited machine (selecting machine.config.conversion machine.document anchor focus))

-- an accepted line is answered by `ok`; each line of an answer begins with the number of the script's line and a blank, and ends with a line feed
unfoldable pub accepted_line : ℕ → List ℕ
accepted_line number = decimal number ++ codes " ok\n"

-- a refused line is answered by the refusal's text behind `refused`
unfoldable pub refused_line : ℕ → Refusal → List ℕ
refused_line number refusal = decimal number ++ (codes " refused " ++ (refusal_text refusal ++ codes "\n"))

-- the model and the view, each on a line
unfoldable pub both_lines : ℕ → List ℕ → List ℕ → List ℕ
both_lines number model view = decimal number ++ (codes " model " ++ (model
    ++ (codes "\n" ++ (decimal number ++ (codes " view " ++ (view ++ codes "\n"))))))

-- the ends of the selection as positions of the model
abbrev pub selected_ends : Document → Ends
selected_ends document = record { start = document.selection.range.start; end = document.selection.range.end }

-- the same ends as places of the view
abbrev pub seen_ends : Conversion → Document → Ends
seen_ends conversion document =
    record { start = seen conversion document document.selection.range.start; end = seen conversion document document.selection.range.end }

-- a document as a show prints it: without its selection, or with the selection's marks and behind that its markers and the selection
abbrev pub shown_lines : Conversion → ℕ → Bool → Document → List ℕ
shown_lines conversion number false document = both_lines number (model_text None document.items) (view_text None (downcast conversion document))
shown_lines conversion number true document =
    both_lines number (model_text (Some (selected_ends document)) document.items)
    (view_text (Some (seen_ends conversion document)) (downcast conversion document))
    ++ (marker_lines number document.markers ++ selection_line number document.selection.backward (attributes document.items document.selection))

-- the machine then, and the bytes of the answer
pub record Answered : Type 0 where
  pub machine : Machine
  pub text : List ℕ

-- a change is accepted with the machine after it, or refused and changes nothing
abbrev pub told : Machine → ℕ → Result Machine Refusal → Answered
told machine number (Ok next) = record { machine = next; text = accepted_line number }
told machine number (Err refusal) = record { machine = machine; text = refused_line number refusal }

-- the refusal of a line that has no request
abbrev pub refusal_of : FormFault → Refusal
refusal_of NotJson = NotJsonLine
refusal_of (BadField path) = BadFieldLine path
refusal_of NoMemory = NoMemoryLine

-- the answer to a request
abbrev pub answer_to : Machine → ℕ → Result Request FormFault → Answered
answer_to machine number (Ok (Change edits)) = told machine number (change edits machine)
answer_to machine number (Ok (SelectView anchor focus)) =
    told machine number (select_view (anchor.path ++ anchor.offset ∷ []) (focus.path ++ focus.offset ∷ []) machine)
answer_to machine number (Ok (Show selection)) = record { machine = machine; text = shown_lines machine.config.conversion number selection machine.document }
answer_to machine number (Err fault) = told machine number (Err (refusal_of fault))

-- the answer to a line of this number; a blank line has none, though it is counted
unfoldable pub answer : Machine → ℕ → List ℕ → Answered
answer machine number line =
    if is_blank line then record { machine = machine; text = [] } else answer_to machine number (request_of line)

-- the answers to lines, of which the first has this number
unfoldable pub answers : Machine → ℕ → List (List ℕ) → List ℕ
answers machine number [] = []
answers machine number (line ∷ lines) =
    (answer machine number line).text ++ answers (answer machine number line).machine (number + 1) lines
