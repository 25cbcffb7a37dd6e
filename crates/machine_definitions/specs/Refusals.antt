-- The printed texts of refusals: the refusal's name, and its fields in order, behind one blank each.
use Rattle.std.specs.Prelude.{ℕ, List, ◌++◌, codes}
use Rattle.std.specs.Fmt.{decimal}
use Rattle.ck_base.specs.declared.faults.Refusal.{Refusal}
use Rattle.ck_base.specs.declared.faults.Refusal.TheVariants.{NotJson, BadField, ChangesSpent, UnknownCommand, BadArgument, Disabled, NothingToUndo}
use Rattle.ck_base.specs.declared.faults.Refusal.TheVariants.{NothingToRedo, NotInView, ViewTooDeep, Edit, FixerRefused, NotSettled, Schema, NoMemory}
use Rattle.ck_base.specs.declared.faults.EditFault.{EditFault}
use Rattle.ck_base.specs.declared.faults.EditFault.TheVariants.{NotRegistered, BadPosition, BadRange, BadTarget, MarkerExists, MarkerUnknown, IdsSpent}
use Rattle.ck_base.specs.declared.faults.EditFault.TheVariants.{TooLarge, TooDeep, NoMemory as NoMemoryForEdit}
use Rattle.ck_base.specs.declared.faults.Rule.{Rule}
use Rattle.ck_base.specs.declared.faults.Rule.TheVariants.{Child, Attribute}
use Rattle.machine_definitions.specs.Texts.{quoted_text, printed_path}

-- an edit's fault; want of memory is never printed
unfoldable pub edit_fault_text : EditFault → List ℕ
edit_fault_text (NotRegistered edit name) = codes "NotRegistered " ++ (decimal edit ++ (codes " " ++ name))
edit_fault_text (BadPosition edit path) = codes "BadPosition " ++ (decimal edit ++ (codes " " ++ printed_path path))
edit_fault_text (BadRange edit start end) = codes "BadRange " ++ (decimal edit ++ (codes " " ++ (printed_path start ++ (codes " " ++ printed_path end))))
edit_fault_text (BadTarget edit path) = codes "BadTarget " ++ (decimal edit ++ (codes " " ++ printed_path path))
edit_fault_text (MarkerExists edit name) = codes "MarkerExists " ++ (decimal edit ++ (codes " " ++ name))
edit_fault_text (MarkerUnknown edit name) = codes "MarkerUnknown " ++ (decimal edit ++ (codes " " ++ name))
edit_fault_text (IdsSpent edit) = codes "IdsSpent " ++ decimal edit
edit_fault_text (TooLarge edit count) = codes "TooLarge " ++ (decimal edit ++ (codes " " ++ decimal count))
edit_fault_text (TooDeep edit depth) = codes "TooDeep " ++ (decimal edit ++ (codes " " ++ decimal depth))
edit_fault_text NoMemoryForEdit = codes "NoMemory"

-- a rule of the schema
unfoldable pub rule_text : Rule → List ℕ
rule_text (Child item parent) = codes "child " ++ (item ++ (codes " in " ++ parent))
rule_text (Attribute key item) = codes "attribute " ++ (key ++ (codes " on " ++ item))

-- a refusal; want of memory is never printed
unfoldable pub refusal_text : Refusal → List ℕ
refusal_text NotJson = codes "NotJson"
refusal_text (BadField path) = codes "BadField " ++ quoted_text path
refusal_text ChangesSpent = codes "ChangesSpent"
refusal_text (UnknownCommand name) = codes "UnknownCommand " ++ name
refusal_text (BadArgument name) = codes "BadArgument " ++ name
refusal_text (Disabled name) = codes "Disabled " ++ name
refusal_text NothingToUndo = codes "NothingToUndo"
refusal_text NothingToRedo = codes "NothingToRedo"
refusal_text (NotInView path) = codes "NotInView " ++ printed_path path
refusal_text (ViewTooDeep depth) = codes "ViewTooDeep " ++ decimal depth
refusal_text (Edit fault) = edit_fault_text fault
refusal_text (FixerRefused fixer inner) = codes "FixerRefused " ++ (decimal fixer ++ (codes " " ++ edit_fault_text inner))
refusal_text (NotSettled rounds fixer) = codes "NotSettled " ++ (decimal rounds ++ (codes " " ++ decimal fixer))
refusal_text (Schema rule path) = codes "Schema " ++ (rule_text rule ++ (codes " at " ++ printed_path path))
refusal_text NoMemory = codes "NoMemory"
