-- Settings that are accepted have a converter without conditions for each registered item, and only registered items stand in documents that obey.
use Rattle.std.proofs.Common.{◌≡◌, ℕ, List, [], ◌∷◌, ◌++◌, Bool, true, false, cond, not, ◌&&◌, ◌||◌, IsTrue, Contains, Option, Some, None, Result, Ok, Err}
use Rattle.std.proofs.Common.{IsSome, is_none, option_map, find, refl, sym, ap, ◌∙◌, subst, inl, inr, ◌⊎◌, arith}
use Rattle.std.specs.Option.{option_or}
use Rattle.std.specs.Ordering.{match_ordering}
use Rattle.std.specs.List.{list_any}
use Rattle.std.specs.Str.{bytes_eq}
use Rattle.std.specs.BTreeSet.{insert_key}
use Rattle.std.specs.declared.cmp.Ordering.{Ordering}
use Rattle.std.specs.declared.cmp.Ordering.TheVariants.{Less, Equal, Greater}
use Rattle.std.proofs.lemmas.Bool.{or_cases, or_left, or_right, and_parts, and_from}
use Rattle.std.proofs.lemmas.List.Elements.{Contains-append_right}
use Rattle.ck_base.specs.declared.value.Value.{Value as AttributeValue}
use Rattle.ck_base.specs.Entries.{name_cmp}
use Rattle.ck_base.proofs.Places.{same_name as same_by_order}
use Rattle.item_definitions.specs.Item.{Item, Items, Attributes, element}
use Rattle.item_definitions.specs.Children.{item_at}
use Rattle.schema_definitions.specs.Names.{has, in_order, in_order_among}
use Rattle.schema_definitions.specs.Allowed.{Rules, registrations, registered, is_registered}
use Rattle.schema_definitions.specs.Compiled.{first_repeated, first_unknown, first_bad_check, refusal}
use Rattle.schema_definitions.proofs.Members.{itself, same_name}
use Rattle.schema_definitions.proofs.Known.{all_pass, standing_is_known}
use Rattle.breach_definitions.specs.Breach.{breach}
use Rattle.breach_definitions.specs.Obeys.{ancestors_at}
use Rattle.breach_definitions.proofs.Broken.{obeys_iff}
use Rattle.breach_definitions.proofs.Placed.{first}
use Rattle.view_definitions.specs.Node.{ViewAttributes}
use Rattle.converter_definitions.specs.declared.facts.Facts.{Facts}
use Rattle.converter_definitions.specs.declared.facts.Key.TheVariants.{Insert}
use Rattle.converter_definitions.specs.declared.part.Part.TheVariants.{Shape}
use Rattle.converter_definitions.specs.declared.stock.StockConverter.{StockConverter}
use Rattle.converter_definitions.specs.declared.stock.StockConverter.TheVariants.{ElementToElement, ElementToStructure, AttributeToElement}
use Rattle.converter_definitions.specs.declared.stock.StockConverter.TheVariants.{AttributeToAttribute, MarkerToHighlight, MarkerToElement}
use Rattle.converter_definitions.specs.Form.{Form}
use Rattle.converter_definitions.specs.Shape.{form_with}
use Rattle.converter_definitions.specs.Gives.{part, stock, Conversion, gift_if, filled_in, element_form, shape_gift, stock_gift, gift, converted, is_named}
use Rattle.converter_definitions.specs.declared.plan.ConverterPlan.{ConverterPlan}
use Rattle.converter_definitions.specs.declared.plan.PlanEntry.{PlanEntry}
use Rattle.converter_definitions.specs.declared.plan.PlanEntry.TheVariants.{Stock, Boxed}
use Rattle.converter_definitions.specs.PlanNames.{is_bare, is_unconditional, converts, first_without_converter}
use Rattle.ck_base.specs.Name.{is_generic}
use Rattle.json_forms.specs.declared.fault.FormFault.{FormFault}
use Rattle.settings_definitions.specs.declared.fault.SettingsFault.{SettingsFault}
use Rattle.settings_definitions.specs.declared.fault.SettingsFault.TheVariants.{TwiceRegistered, UnknownItem, BadCheck, UnknownCustom, NoConverter}
use Rattle.settings_definitions.specs.Settings.{Form as FileForm, rules_of, items_of, unknown_start, first_unknown_of_plans, first_unknown_custom_plan}
use Rattle.settings_definitions.specs.Settings.{refusal_of, Settings, settings_in, unless_refused, settings_from, form_of, settings_of}
use Rattle.settings_definitions.specs.Converting.{Serves, AllConverted}
use Rattle.settings_definitions.proofs.Shaped.{shaped}

-- names in order are the same names
or_swap : (a b c : Bool) → (a || (b || c)) ≡ (b || (a || c))
or_swap true true c = refl
or_swap true false c = refl
or_swap false true c = refl
or_swap false false c = refl

or_twice : (a b : Bool) → (a || b) ≡ (a || (a || b))
or_twice true b = refl
or_twice false b = refl

has-insert : (names : List (List ℕ)) (new name : List ℕ) → has (insert_key name_cmp names new) name ≡ (bytes_eq new name || has names name)
has-insert [] new name = refl
has-insert (x ∷ names) new name = go (has-insert names new name) (name_cmp new x) refl
  where
    go : has (insert_key name_cmp names new) name ≡ (bytes_eq new name || has names name) → (o : Ordering) → name_cmp new x ≡ o
        → has (match_ordering o (new ∷ x ∷ names) (x ∷ names) (x ∷ insert_key name_cmp names new)) name ≡ (bytes_eq new name || has (x ∷ names) name)
    go rest Less e = refl
    go rest Equal e = subst (λ y. (bytes_eq y name || has names name) ≡ (bytes_eq new name || (bytes_eq y name || has names name)))
        (same_by_order new x e) (or_twice (bytes_eq new name) (has names name))
    go rest Greater e = ap (λ b. bytes_eq x name || b) rest ∙ or_swap (bytes_eq x name) (bytes_eq new name) (has names name)

has-among : (others names : List (List ℕ)) (name : List ℕ) → has (in_order_among others names) name ≡ (has names name || has others name)
has-among others [] name = refl
has-among others (x ∷ names) name =
    has-among (insert_key name_cmp others x) names name ∙ ap (λ b. has names name || b) (has-insert others x name)
    ∙ or_swap (has names name) (bytes_eq x name) (has others name) ∙ assoc (bytes_eq x name) (has names name) (has others name)
  where
    assoc : (a b c : Bool) → (a || (b || c)) ≡ ((a || b) || c)
    assoc true b c = refl
    assoc false b c = refl

registered_in_order : (rules : Rules) (name : List ℕ) → is_registered rules name ≡ true → has (registered rules) name ≡ true
unfolding registered
registered_in_order rules name h = has-among [] (registrations rules.entries) name ∙ or_left (has (registrations rules.entries) name) false h

-- why nothing is refused
record Accepted (form : FileForm) : Type 0 where
  known : first_unknown (rules_of form) ≡ None
  converted : first_without_converter form.converters (registered (rules_of form)) ≡ None

accepted : (converters fixers : List (List ℕ)) (form : FileForm) → refusal_of converters fixers form ≡ None → Accepted form
unfolding refusal_of
accepted converters fixers form e =
    go (option_map TwiceRegistered (first_repeated [] (items_of form))) (option_map UnknownItem (unknown_start (items_of form) form.start))
    (first_unknown (rules_of form))
    (option_map UnknownItem (first_unknown_of_plans (items_of form) form)) (option_map BadCheck (first_bad_check form.checks))
    (option_map UnknownCustom (first_unknown_custom_plan converters fixers form)) (first_without_converter form.converters (registered (rules_of form)))
    refl refl e
  where
    go : (twice start : Option SettingsFault) (unknown : Option (List ℕ)) (item check custom : Option SettingsFault) (missing : Option (List ℕ))
        → first_unknown (rules_of form) ≡ unknown → first_without_converter form.converters (registered (rules_of form)) ≡ missing
        → option_or twice (option_or start
        (option_or (option_map UnknownItem unknown) (option_or item (option_or check (option_or custom (option_map NoConverter missing)))))) ≡ None
        → Accepted form
    go None None None None None None None u m f = record { known = u; converted = m }
    go None None None None None None (Some name) u m f = cc
    go None None None None None (Some fault) missing u m f = cc
    go None None None None (Some fault) custom missing u m f = cc
    go None None None (Some fault) check custom missing u m f = cc
    go None None (Some name) item check custom missing u m f = cc
    go None (Some fault) unknown item check custom missing u m f = cc
    go (Some fault) start unknown item check custom missing u m f = cc

-- a converter without conditions, among plans
record Unconditional (plans : List ConverterPlan) (name : List ℕ) : Type 0 where
  plan : ConverterPlan
  there : Contains plans plan
  fits : is_unconditional plan.entry name ≡ true

found : (plans : List ConverterPlan) (name : List ℕ) → converts plans name ≡ true → Unconditional plans name
found [] name h = cc
found (plan ∷ plans) name h =
    elim (or_cases (is_unconditional plan.entry name) (converts plans name) h) [
      | inl here ↦ record { plan = plan; there = first plan plans; fits = here }
      | inr later ↦ (let rest = found plans name later
          in record { plan = rest.plan; there = Contains-append_right (plan ∷ []) plans rest.plan rest.there; fits = rest.fits })
    ]

-- what it gives an element of this name
module _ (objects : List (List ℕ)) (name : List ℕ) (attributes : Attributes) (parent : List ℕ) (index : Option ℕ) where
  abbrev facts : Facts
  facts = record { name = name; attributes = attributes; parent = parent; index = index }

  record GivesShape (entry : PlanEntry) : Type 0 where
    converter : StockConverter
    is : entry ≡ Stock converter
    form : Form ViewAttributes
    gives : stock_gift objects converter facts ≡ Some (Insert ∷ [], part (Shape form))

  same_names : (model : List ℕ) → bytes_eq model name ≡ true → bytes_eq name model ≡ true
  same_names model e = subst (λ n. bytes_eq name n ≡ true) (sym (same_name model name e)) (itself name)

  gives_shape : (entry : PlanEntry) → is_unconditional entry name ≡ true → GivesShape entry
  gives_shape (Stock (ElementToElement model [] None view)) h =
      record {
        converter = ElementToElement model [] None view;
        is = refl;
        form = form_with (filled_in facts) (element_form view);
        gives =
            ap (λ b. gift_if (b && true && true) (shape_gift facts [] (element_form view))) (same_names model h);
      }
  gives_shape (Stock (ElementToElement model [] (Some other) view)) h = cc
  gives_shape (Stock (ElementToElement model (entry ∷ asked) other view)) h = cc
  gives_shape (Stock (ElementToStructure model [] None view)) h =
      record {
        converter = ElementToStructure model [] None view;
        is = refl;
        form = form_with (filled_in facts) view;
        gives =
            ap (λ b. gift_if (b && true && true) (shape_gift facts [] view)) (same_names model h);
      }
  gives_shape (Stock (ElementToStructure model [] (Some other) view)) h = cc
  gives_shape (Stock (ElementToStructure model (entry ∷ asked) other view)) h = cc
  gives_shape (Stock (AttributeToElement model value view)) h = cc
  gives_shape (Stock (AttributeToAttribute wanted model value view)) h = cc
  gives_shape (Stock (MarkerToHighlight marker view)) h = cc
  gives_shape (Stock (MarkerToElement marker view)) h = cc
  gives_shape (Boxed custom counted) h = cc

converts_each : (form : FileForm) → Accepted form → (conversion : Conversion) → Serves form.converters conversion
    → (items : List Item) → breach (rules_of form) items ≡ None → AllConverted conversion items
converts_each form fine conversion serves items obeys path id name attributes children there free parent index =
    let allowed = (obeys_iff (rules_of form) items).0 obeys path (element id name attributes children) there in
    let known = standing_is_known (rules_of form) fine.known (ancestors_at path items) name allowed.stands in
    let passes = all_pass (λ n. is_generic n || converts form.converters n) (registered (rules_of form)) name fine.converted
    (registered_in_order (rules_of form) name known) in
    let unconditional = found form.converters name (sym (ap (λ b. b || converts form.converters name) free) ∙ passes) in
    let shape = gives_shape conversion.objects name attributes parent index unconditional.plan.entry unconditional.fits in
    shaped conversion (record { name = name; attributes = attributes; parent = parent; index = index }) (stock shape.converter) shape.form serves.lawful
    (serves.listed unconditional.plan shape.converter unconditional.there shape.is) shape.gives

pub accepted_convert : (converters fixers : List (List ℕ)) (bytes : List ℕ) (settings : Settings)
    → settings_of converters fixers bytes ≡ Ok settings
    → (conversion : Conversion) → Serves settings.converters conversion → (items : List Item) → breach settings.rules items ≡ None
    → AllConverted conversion items
unfolding settings_of
accepted_convert converters fixers bytes settings e = go (form_of bytes) e
  where
    by : (form : FileForm) (reason : Option SettingsFault) → refusal_of converters fixers form ≡ reason → unless_refused form reason ≡ Ok settings
        → (conversion : Conversion) → Serves settings.converters conversion → (items : List Item) → breach settings.rules items ≡ None
        → AllConverted conversion items
    by form None r f =
        let same : settings_in form ≡ settings = cc in
        subst (λ s. (conversion : Conversion) → Serves s.converters conversion → (items : List Item) → breach s.rules items ≡ None
        → AllConverted conversion items) same (converts_each form (accepted converters fixers form r))
    by form (Some fault) r f = cc

    go : (form : Result FileForm FormFault) → settings_from converters fixers form ≡ Ok settings
        → (conversion : Conversion) → Serves settings.converters conversion → (items : List Item) → breach settings.rules items ≡ None
        → AllConverted conversion items
    go (Err fault) f = cc
    go (Ok form) f = by form (refusal_of converters fixers form) refl f
