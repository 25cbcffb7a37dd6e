-- The priorities of a settings file. That of a converter is one of the words `highest`, `high`, `normal`, `low` and `lowest` or a whole number
-- from -100000 to 100000, and `normal` where it isn't there; that of a layer is such a number, and 10 where it isn't there. (After `priorities`
-- and the priority of `AttributeElement` of CKEditor 5.)
use Rattle.std.specs.Prelude.{ℕ, ℤ, pos, List, Option, Some, None, Result, Ok, if◌then◌else◌, codes, option_and_then}
use Rattle.serde_json.specs.Data.{Data, null, boolean, number, string, array, object}
use Rattle.serde_json.specs.Find.{get, as_i64, as_number}
use Rattle.ck_base.specs.Priority.{is_priority, priority_word}
use Rattle.json_forms.specs.declared.fault.FormFault.{FormFault}
use Rattle.json_forms.specs.Form.{or_bad, field_path}

-- a level that is a priority
abbrev pub kept_level : ℤ → Option ℤ
kept_level level = if is_priority level then Some level else None

-- a whole number of the range
abbrev pub level_of : Data → Option ℤ
level_of d = option_and_then kept_level (option_and_then as_i64 (as_number d))

-- a word or such a number
abbrev pub priority_of : Data → Option ℤ
priority_of null = None
priority_of (boolean truth) = None
priority_of (number n) = option_and_then kept_level (as_i64 n)
priority_of (string word) = priority_word word
priority_of (array items) = None
priority_of (object fields) = None

-- the field `priority` of a converter. (After `PriorityString` of CKEditor 5's utilities.)
unfoldable pub priority_field : List ℕ → Data → Result ℤ FormFault
priority_field path d = priority_if (get (codes "priority") d) where
  priority_if : Option Data → Result ℤ FormFault
  priority_if None = Ok (pos 0)
  priority_if (Some found) = or_bad (field_path path (codes "priority")) (priority_of found)

-- the field `priority` of an attribute element. (After `AttributeElement.priority` of CKEditor 5's view.)
unfoldable pub layer_priority_field : List ℕ → Data → Result ℤ FormFault
layer_priority_field path d = level_if (get (codes "priority") d) where
  level_if : Option Data → Result ℤ FormFault
  level_if None = Ok (pos 10)
  level_if (Some found) = or_bad (field_path path (codes "priority")) (level_of found)
