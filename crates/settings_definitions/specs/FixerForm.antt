-- The fixers of a settings file, with the first place that breaks their form. A fixer is one of the texts `dropAttributes` and `selection` or one
-- of the objects
--     {"fill":NAME,"with":NAME}
--     {"joinNeighbours":NAME}
--     {"removeEmpty":NAME}
--     {"require":NAME,"child":NAME}
--     {"custom":NAME}
-- An object has the first of these forms whose first field is there, and that of `fill` where none is; its fields are tested in this order, and then
-- those that aren't named. (After what is given to `Model.document.registerPostFixer()` of CKEditor 5.)
use Rattle.std.specs.Prelude.{ℕ, ◌+◌, List, [], ◌∷◌, is_some, Option, Some, None, Result, Ok, if◌then◌else◌, codes}
use Rattle.std.specs.Str.{bytes_eq}
use Rattle.serde_json.specs.Data.{Data, Items, no_items, item}
use Rattle.serde_json.specs.Find.{get, as_str}
use Rattle.json_forms.specs.declared.fault.FormFault.{FormFault}
use Rattle.json_forms.specs.Form.{◌>>=◌, or_bad, object_at, only_fields, index_path}
use Rattle.json_names.specs.Names.{name_field}
use Rattle.fix_definitions.specs.declared.stock.StockFixer.TheVariants.{DropAttributes, Fill, JoinNeighbours, RemoveEmpty, Require, SelectionPlace}
use Rattle.fix_definitions.specs.declared.plan.FixerPlan.{FixerPlan}
use Rattle.fix_definitions.specs.declared.plan.FixerPlan.TheVariants.{Stock, Boxed}

-- the fixer that a text means
unfoldable pub fixer_of_word : List ℕ → Option FixerPlan
fixer_of_word word = if bytes_eq word (codes "dropAttributes") then Some (Stock DropAttributes)
    else (if bytes_eq word (codes "selection") then Some (Stock SelectionPlace) else None)

-- elements that are filled
unfoldable pub fill_at : List ℕ → Data → Result FixerPlan FormFault
fill_at path d = do
  parent ← name_field path (codes "fill") d
  child ← name_field path (codes "with") d
  _ ← only_fields path (codes "fill" ∷ codes "with" ∷ []) d
  Ok (Stock (Fill parent child))

-- neighbours that are joined
unfoldable pub join_at : List ℕ → Data → Result FixerPlan FormFault
join_at path d = do
  name ← name_field path (codes "joinNeighbours") d
  _ ← only_fields path (codes "joinNeighbours" ∷ []) d
  Ok (Stock (JoinNeighbours name))

-- empty elements that are removed
unfoldable pub remove_at : List ℕ → Data → Result FixerPlan FormFault
remove_at path d = do
  name ← name_field path (codes "removeEmpty") d
  _ ← only_fields path (codes "removeEmpty" ∷ []) d
  Ok (Stock (RemoveEmpty name))

-- elements that need a child
unfoldable pub require_at : List ℕ → Data → Result FixerPlan FormFault
require_at path d = do
  parent ← name_field path (codes "require") d
  child ← name_field path (codes "child") d
  _ ← only_fields path (codes "require" ∷ codes "child" ∷ []) d
  Ok (Stock (Require parent child))

-- a fixer of a product
unfoldable pub custom_fixer_at : List ℕ → Data → Result FixerPlan FormFault
custom_fixer_at path d = do
  name ← name_field path (codes "custom") d
  _ ← only_fields path (codes "custom" ∷ []) d
  Ok (Boxed name)

-- an object, by the first of these fields that is there
unfoldable pub object_fixer_at : List ℕ → Data → Result FixerPlan FormFault
object_fixer_at path d = do
  _ ← object_at path d
  if is_some (get (codes "fill") d) then fill_at path d
      else (if is_some (get (codes "joinNeighbours") d) then join_at path d
      else (if is_some (get (codes "removeEmpty") d) then remove_at path d
      else (if is_some (get (codes "require") d) then require_at path d
      else (if is_some (get (codes "custom") d) then custom_fixer_at path d else fill_at path d))))

-- a fixer at this place
unfoldable pub fixer_at : List ℕ → Data → Result FixerPlan FormFault
fixer_at path d = fixer_if (as_str d) where
  fixer_if : Option (List ℕ) → Result FixerPlan FormFault
  fixer_if (Some word) = or_bad path (fixer_of_word word)
  fixer_if None = object_fixer_at path d

-- fixers, from this index of a list on
unfoldable pub fixers_at : List ℕ → ℕ → Items → Result (List FixerPlan) FormFault
fixers_at path index no_items = Ok []
fixers_at path index (item d rest) = do
  fixer ← fixer_at (index_path path index) d
  more ← fixers_at path (index + 1) rest
  Ok (fixer ∷ more)
