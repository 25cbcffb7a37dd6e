use Rattle.std.proofs.Common.{◌≡◌, ◌++◌, IfOk, option_copied, option_map, ap, sym, ◌∙◌, subst}
use Rattle.std.specs.Option.{option_or}
use Rattle.schema_definitions.specs.Allowed.{registrations}
use Rattle.schema_definitions.specs.Compiled.{predefined}
use Rattle.settings_definitions.specs.declared.fault.SettingsFault.TheVariants.{UnknownItem}
use Rattle.settings_definitions.specs.Settings.{items_of, unknown_start, first_unknown_of_plans, plans_refusal}
use Rattle.config_read.specs.FileForm.{form_view}
use Rattle.config_read.specs.Refused.{Refuses}
use Rattle.config_read.proofs.Order.{schema_rules, schema_decides, schema_refused}
use Rattle.config_read.proofs.refusals.schema_of.Goals as goal

pub returns-in-Ok-clause-ok : goal.returns-in-Ok-clause-ok
returns-in-Ok-clause-ok c =
    subst (λ rules. IfOk c.accepted.result (λ made. made ≡ rules))
    (schema_rules c.args.converters.now c.args.fixers.now c.args.form.now c.in-Ok.schema c.in-Ok.ensures.ok) c.accepted.ensures.ok

pub returns-in-Ok-clause-refused : goal.returns-in-Ok-clause-refused
returns-in-Ok-clause-refused c =
    let form = c.args.form.now in
    let items = c.in_ok-items.items.items in
    let known : items ≡ items_of (form_view form) = c.in_ok-items.ensures ∙ ap (λ entries. registrations (predefined ++ entries)) c.as_slice.ensures.value in
    let is_first = c.unknown_start-start.ensures ∙ ap (λ names. unknown_start names form.start) c.deref.ensures.value in
    let is_second = c.first_unknown_of_plans-plan_name.ensures ∙ ap (λ names. first_unknown_of_plans names (form_view form)) c.deref-2.ensures.value in
    let first = option_copied c.unknown_start-start.result in
    let second = option_copied c.first_unknown_of_plans-plan_name.result in
    subst (Refuses c.accepted.result)
    (ap (λ name. option_or (option_map UnknownItem name) (plans_refusal c.args.converters.now c.args.fixers.now c.in-Ok.schema (form_view form)))
    c.first_of.ensures
    ∙ sym (schema_decides c.args.converters.now c.args.fixers.now form c.in-Ok.schema items first second c.in-Ok.ensures.ok known is_first is_second))
    c.accepted.ensures.refused

pub returns-clause-refused : goal.returns-clause-refused
returns-clause-refused c =
    let form = c.args.form.now in
    let items = c.in_ok-items.items.items in
    let known : items ≡ items_of (form_view form) = c.in_ok-items.ensures ∙ ap (λ entries. registrations (predefined ++ entries)) c.as_slice.ensures.value in
    let is_first = c.unknown_start-start.ensures ∙ ap (λ names. unknown_start names form.start) c.deref.ensures.value in
    let is_second = c.first_unknown_of_plans-plan_name.ensures ∙ ap (λ names. first_unknown_of_plans names (form_view form)) c.deref-2.ensures.value in
    schema_refused c.args.converters.now c.args.fixers.now form c.in-Err.fault c.ordered.result items (option_copied c.unknown_start-start.result)
    (option_copied c.first_unknown_of_plans-plan_name.result) c.in-Err.ensures.refused known is_first is_second c.ordered.ensures
