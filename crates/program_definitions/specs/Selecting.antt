-- A selection by two places of the view. (After `convertSelectionChange` of CKEditor 5.)
use Rattle.std.specs.Prelude.{ℕ, List, [], ◌∷◌, true, false, Option, Some, None, Result, Ok, Err, if◌then◌else◌}
use Rattle.ck_base.specs.declared.faults.Refusal.{Refusal}
use Rattle.ck_base.specs.declared.faults.Refusal.TheVariants.{NotInView}
use Rattle.item_definitions.specs.Position.{is_before}
use Rattle.document_definitions.specs.Document.{Document}
use Rattle.edit_definitions.specs.declared.edit.Edit.{Edit}
use Rattle.edit_definitions.specs.declared.edit.Edit.TheVariants.{Select}
use Rattle.converter_definitions.specs.Gives.{Conversion}
use Rattle.downcast_definitions.specs.Meant.{meant}

-- from the anchor to the focus; backward where the focus is before the anchor
abbrev pub select_from : List ℕ → List ℕ → Edit
select_from anchor focus = if is_before focus anchor then Select focus anchor true else Select anchor focus false

-- by the positions that the places mean; a place that means none is refused, the anchor's first
abbrev pub by_positions : List ℕ → List ℕ → Option (List ℕ) → Option (List ℕ) → Result (List Edit) Refusal
by_positions anchor focus None end = Err (NotInView anchor)
by_positions anchor focus (Some start) None = Err (NotInView focus)
by_positions anchor focus (Some start) (Some end) = Ok (select_from start end ∷ [])

-- the edits that select so, or why there are none
abbrev pub selecting : Conversion → Document → List ℕ → List ℕ → Result (List Edit) Refusal
selecting conversion document anchor focus = by_positions anchor focus (meant conversion document anchor) (meant conversion document focus)
