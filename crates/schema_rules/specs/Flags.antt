-- The marks of a flag.
use Rattle.std.specs.Prelude.{List, Bool}
use Rattle.schema_definitions.specs.declared.file.Flag.{Flag}
use Rattle.schema_definitions.specs.declared.file.Flag.TheVariants.{Block, Inline, Limit, Object, Selectable, Content}
use Rattle.schema_rules.specs.declared.flags.FlagMarks.{FlagMarks}

-- the marks of a flag
abbrev pub marks_of : FlagMarks → Flag → List Bool
marks_of flags Block = flags.block
marks_of flags Inline = flags.inline
marks_of flags Limit = flags.limit
marks_of flags Object = flags.object
marks_of flags Selectable = flags.selectable
marks_of flags Content = flags.content
