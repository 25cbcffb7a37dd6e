-- In which order settings are refused.
use Rattle.std.proofs.Common.{◌≡◌, ◌≢◌, ℕ, List, Option, Some, None, option_map, Ok, Err, refl, sym, ap, ◌∙◌, subst}
use Rattle.std.specs.Option.{option_or}
use Rattle.schema_definitions.specs.declared.fault.SchemaFault.{SchemaFault}
use Rattle.schema_definitions.specs.declared.fault.SchemaFault.TheVariants.{TwiceRegistered, UnknownItem, BadCheck, NoMemory}
use Rattle.schema_definitions.specs.declared.file.SchemaFile.{SchemaFile}
use Rattle.schema_definitions.specs.Allowed.{Rules}
use Rattle.schema_definitions.specs.Compiled as schema
use Rattle.schema_definitions.specs.Compiled.{refusal, compiled, unless_refused}
use Rattle.settings_definitions.specs.declared.fault.SettingsFault.{SettingsFault}
use Rattle.settings_definitions.specs.declared.fault.SettingsFault.TheVariants.{TwiceRegistered as SettingsTwice, UnknownItem as SettingsUnknown}
use Rattle.settings_definitions.specs.declared.fault.SettingsFault.TheVariants.{BadCheck as SettingsBadCheck, NoMemory as SettingsNoMemory}
use Rattle.settings_definitions.specs.Settings.{rules_of, items_of, unknown_start, first_unknown_of_plans, plans_refusal, refusal_of}
use Rattle.config_read.specs.declared.file_form.FileForm.{FileForm}
use Rattle.config_read.specs.FileForm.{form_view}
use Rattle.config_read.specs.Ordered.{ordered}

abbrev schema_reason : Option (List ℕ) → Option (List ℕ) → Option ℕ → Option SchemaFault
schema_reason twice unknown bare = option_or (option_map TwiceRegistered twice) (option_or (option_map UnknownItem unknown) (option_map BadCheck bare))

-- the reasons of settings: those of the schema, the names of the start and of the fixers and converters, and what comes last
abbrev settings_reason : Option (List ℕ) → Option (List ℕ) → Option (List ℕ) → Option (List ℕ) → Option ℕ → Option SettingsFault → Option SettingsFault
settings_reason twice start unknown plan_name bare later = option_or (option_map SettingsTwice twice)
    (option_or (option_map SettingsUnknown start)
    (option_or (option_map SettingsUnknown unknown) (option_or (option_map SettingsUnknown plan_name) (option_or (option_map SettingsBadCheck bare) later))))

-- where the schema has no reason, the two names come, and then what comes last
reason_none : (twice start unknown plan_name : Option (List ℕ)) (bare : Option ℕ) (later : Option SettingsFault) → schema_reason twice unknown bare ≡ None
    → settings_reason twice start unknown plan_name bare later ≡ option_or (option_map SettingsUnknown (option_or start plan_name)) later
reason_none (Some name) start unknown plan_name bare later e = cc
reason_none None start (Some name) plan_name bare later e = cc
reason_none None start None plan_name (Some count) later e = cc
reason_none None None None None None later e = refl
reason_none None None None (Some name) None later e = refl
reason_none None (Some name) None plan_name None later e = refl

-- the reason of the schema and the two names, in order
reason_some : (twice start unknown plan_name : Option (List ℕ)) (bare : Option ℕ) (later : Option SettingsFault) (fault : SchemaFault)
    → schema_reason twice unknown bare ≡ Some fault
    → settings_reason twice start unknown plan_name bare later ≡ Some (ordered start plan_name fault)
reason_some (Some name) start unknown plan_name bare later fault e = let same : TwiceRegistered name ≡ fault = cc
    in subst (λ f. Some (SettingsTwice name) ≡ Some (ordered start plan_name f)) same refl
reason_some None None (Some name) plan_name bare later fault e = let same : UnknownItem name ≡ fault = cc
    in subst (λ f. Some (SettingsUnknown name) ≡ Some (ordered None plan_name f)) same refl
reason_some None (Some first) (Some name) plan_name bare later fault e = let same : UnknownItem name ≡ fault = cc
    in subst (λ f. Some (SettingsUnknown first) ≡ Some (ordered (Some first) plan_name f)) same refl
reason_some None None None None (Some count) later fault e = let same : BadCheck count ≡ fault = cc
    in subst (λ f. Some (SettingsBadCheck count) ≡ Some (ordered None None f)) same refl
reason_some None None None (Some name) (Some count) later fault e = let same : BadCheck count ≡ fault = cc
    in subst (λ f. Some (SettingsUnknown name) ≡ Some (ordered None (Some name) f)) same refl
reason_some None (Some first) None plan_name (Some count) later fault e = let same : BadCheck count ≡ fault = cc
    in subst (λ f. Some (SettingsUnknown first) ≡ Some (ordered (Some first) plan_name f)) same refl
reason_some None start None plan_name None later fault e = cc

accepted : (rules made : Rules) (reason : Option SchemaFault) → unless_refused rules reason ≡ Ok made → (reason ≡ None) × (rules ≡ made)
accepted rules made None e = (refl, cc)
accepted rules made (Some fault) e = cc

refused : (rules : Rules) (fault : SchemaFault) (reason : Option SchemaFault) → unless_refused rules reason ≡ Err fault → reason ≡ Some fault
refused rules fault None e = cc
refused rules fault (Some other) e = let same : other ≡ fault = cc in ap (λ f. Some f) same

module _ (converters fixers : List (List ℕ)) (form : FileForm) where
  -- the two names
  abbrev start_name : Option (List ℕ)
  start_name = unknown_start (items_of (form_view form)) form.start

  abbrev plan_name : Option (List ℕ)
  plan_name = first_unknown_of_plans (items_of (form_view form)) (form_view form)

  -- what comes last
  abbrev last : Rules → Option SettingsFault
  last rules = plans_refusal converters fixers rules (form_view form)

  -- a schema that is made has the file's rules
  pub schema_rules : (made : Rules) → compiled form.schema ≡ Ok made → made ≡ rules_of (form_view form)
  unfolding compiled
  schema_rules made e = sym (accepted (schema.rules_of form.schema) made (refusal (schema.rules_of form.schema)) e).1

  -- and the names come, and then the converters and fixers
  pub schema_decides : (made : Rules) (items : List (List ℕ)) (first second : Option (List ℕ)) → compiled form.schema ≡ Ok made
      → items ≡ items_of (form_view form) → first ≡ unknown_start items form.start → second ≡ first_unknown_of_plans items (form_view form)
      → refusal_of converters fixers (form_view form) ≡ option_or (option_map SettingsUnknown (option_or first second)) (last made)
  unfolding compiled refusal refusal_of
  schema_decides made items first second e known is_first is_second =
      reason_none _ start_name _ plan_name _ (last (rules_of (form_view form)))
      (accepted (schema.rules_of form.schema) made (refusal (schema.rules_of form.schema)) e).0
      ∙ ap (λ names. option_or (option_map SettingsUnknown (option_or (unknown_start names form.start) (first_unknown_of_plans names (form_view form))))
      (last (rules_of (form_view form)))) (sym known)
      ∙ ap (λ name. option_or (option_map SettingsUnknown (option_or name (first_unknown_of_plans items (form_view form))))
      (last (rules_of (form_view form)))) (sym is_first)
      ∙ ap (λ name. option_or (option_map SettingsUnknown (option_or first name)) (last (rules_of (form_view form)))) (sym is_second)
      ∙ ap (λ rules. option_or (option_map SettingsUnknown (option_or first second)) (last rules)) (sym (schema_rules made e))

  -- the schema's fault and the names, in order
  pub schema_refused : (made : SchemaFault) (fault : SettingsFault) (items : List (List ℕ)) (first second : Option (List ℕ))
      → (made ≢ NoMemory → compiled form.schema ≡ Err made)
      → items ≡ items_of (form_view form) → first ≡ unknown_start items form.start → second ≡ first_unknown_of_plans items (form_view form)
      → (fault ≢ SettingsNoMemory → fault ≡ ordered first second made) → fault ≢ SettingsNoMemory
      → refusal_of converters fixers (form_view form) ≡ Some fault
  unfolding compiled refusal refusal_of
  schema_refused made fault items first second e known is_first is_second is other =
      let memory : made ≢ NoMemory = λ m. other (is other ∙ ap (ordered first second) m) in
      let name : first ≡ start_name = is_first ∙ ap (λ names. unknown_start names form.start) known in
      let next : second ≡ plan_name = is_second ∙ ap (λ names. first_unknown_of_plans names (form_view form)) known in
      reason_some _ start_name _ plan_name _ (last (rules_of (form_view form))) made
      (refused (schema.rules_of form.schema) made (refusal (schema.rules_of form.schema)) (e memory))
      ∙ ap (λ a. Some (ordered a plan_name made)) (sym name)
      ∙ ap (λ b. Some (ordered first b made)) (sym next)
      ∙ ap (λ f. Some f) (sym (is other))
