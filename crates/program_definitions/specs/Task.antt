-- What the words of the command line ask for.
use Rattle.std.specs.Prelude.{ℕ, List, [], ◌∷◌, ◌&&◌, ◌==◌, Bool, false, not, Option, Some, None, if◌then◌else◌, codes}
use Rattle.std.specs.Str.{bytes_eq}

-- a script is run with settings, or settings are checked; each file by its name
pub data Task : Type 0 where
  run : List ℕ → List ℕ → Task
  check : List ℕ → Task

-- a word that can name a file isn't empty and doesn't begin with `-`
abbrev pub is_file_name : List ℕ → Bool
is_file_name [] = false
is_file_name (byte ∷ rest) = not (byte == 45)

-- a verb with one name is the task of checking, where it is `check` and the name can name a file
abbrev pub check_task : List ℕ → List ℕ → Option Task
check_task verb settings = if bytes_eq verb (codes "check") && is_file_name settings then Some (check settings) else None

-- a verb with two names is the task of running, where it is `run` and both can name files
abbrev pub run_task : List ℕ → List ℕ → List ℕ → Option Task
run_task verb settings script =
    if bytes_eq verb (codes "run") && is_file_name settings && is_file_name script then Some (run settings script) else None

-- The words are the program's name and `run SETTINGS SCRIPT` or `check SETTINGS`.
abbrev pub task_of : List (List ℕ) → Option Task
task_of [] = None
task_of (program ∷ []) = None
task_of (program ∷ verb ∷ []) = None
task_of (program ∷ verb ∷ settings ∷ []) = check_task verb settings
task_of (program ∷ verb ∷ settings ∷ script ∷ []) = run_task verb settings script
task_of (program ∷ verb ∷ settings ∷ script ∷ other ∷ rest) = None

-- the name of the settings file
abbrev pub settings_name : Task → List ℕ
settings_name (run settings script) = settings
settings_name (check settings) = settings
