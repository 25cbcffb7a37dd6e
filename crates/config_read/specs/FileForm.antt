-- What was read of a settings file.
use Rattle.config_read.specs.declared.file_form.FileForm.{FileForm}
use Rattle.settings_definitions.specs.Settings.{Form}

-- what was read of a file, as the definitions see it
abbrev pub form_view : FileForm → Form
form_view form = record {
  version = form.version;
  rounds = form.rounds;
  start = form.start;
  entries = form.schema.entries.items;
  checks = form.schema.checks.items;
  fixers = form.fixers.items;
  converters = form.converters.items;
}
