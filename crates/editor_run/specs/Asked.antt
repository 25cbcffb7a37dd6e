-- What the words ask for, as the definitions see it.
use Rattle.program_definitions.specs.Task as tasks
use Rattle.editor_run.specs.declared.tasks.Task.{Task}
use Rattle.editor_run.specs.declared.tasks.Task.TheVariants.{Run, Check}

-- a task of the code as the definitions' task
abbrev pub task_view : Task → tasks.Task
task_view (Run settings script) = tasks.run settings.now script.now
task_view (Check settings) = tasks.check settings.now
