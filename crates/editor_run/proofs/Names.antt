-- The names of the objects that are handed in.
use Rattle.std.proofs.Common.{◌≡◌, ◌≢◌, ℕ, List, [], ◌∷◌, map, None, Result, Ok, Err, IfOk, IfErr, refl, sym, ap, ◌∙◌, subst}
use Rattle.converter_definitions.specs.PlanNames.{first_unknown_custom}
use Rattle.settings_definitions.specs.Settings.{settings_of}
use Rattle.settings_definitions.specs.FixerNames.{first_unknown_custom_fixer}
use Rattle.settings_definitions.specs.declared.fault.SettingsFault.{SettingsFault}
use Rattle.settings_definitions.specs.declared.fault.SettingsFault.TheVariants.{NoMemory}
use Rattle.config_read.specs.declared.settings.Settings.{Settings}
use Rattle.config_read.specs.Refused.{settings_view}
use Rattle.program_definitions.specs.Product.{Product, names_of}
use Rattle.program_definitions.specs.Output.{settings_in}
use Rattle.editor_core.specs.HandedIn.{named_by, AreHandedIn}
use Rattle.editor_core.specs.declared.extensions.Named.{Named}

pub names_are : {T A : Type 0} (means : T → A) (objects : List (Named T)) → names_of (named_by means objects) ≡ map (λ named. named.name) objects
names_are means [] = refl
names_are means (named ∷ objects) = ap (λ names. named.name ∷ names) (names_are means objects)

module _ {F : Type 0} (product : Product) (converters fixers : List (List ℕ)) (result : Result Settings F)
    (same : converters ≡ names_of product.converters) (alike : fixers ≡ names_of product.fixers) where
  -- what is read with the names of a product's objects is what is read for the product
  pub read_ok : (bytes : List ℕ) → IfOk result (λ settings. settings_of converters fixers bytes ≡ Ok (settings_view settings))
      → IfOk result (λ settings. settings_in product bytes ≡ Ok (settings_view settings))
  read_ok bytes ok =
      subst (λ fixers. IfOk result (λ settings. settings_of (names_of product.converters) fixers bytes ≡ Ok (settings_view settings))) alike
      (subst (λ converters. IfOk result (λ settings. settings_of converters fixers bytes ≡ Ok (settings_view settings))) same ok)

  -- and its objects are handed in
  pub read_handed_in : IfOk result (λ settings. first_unknown_custom converters settings.converters.items ≡ None)
      → IfOk result (λ settings. first_unknown_custom_fixer fixers settings.fixers.items ≡ None)
      → IfOk result (λ settings. AreHandedIn settings.converters.items settings.fixers.items product)
  read_handed_in known fixers_known = go result known fixers_known
    where
      go : (result : Result Settings F) → IfOk result (λ settings. first_unknown_custom converters settings.converters.items ≡ None)
          → IfOk result (λ settings. first_unknown_custom_fixer fixers settings.fixers.items ≡ None)
          → IfOk result (λ settings. AreHandedIn settings.converters.items settings.fixers.items product)
      go (Ok settings) known fixers_known = record {
        converters_known = subst (λ names. first_unknown_custom names settings.converters.items ≡ None) same known;
        fixers_known = subst (λ names. first_unknown_custom_fixer names settings.fixers.items ≡ None) alike fixers_known;
      }
      go (Err fault) known fixers_known = tt

-- and so is why it is refused
pub read_err : (product : Product) (converters fixers : List (List ℕ)) (bytes : List ℕ) (result : Result Settings SettingsFault)
    → converters ≡ names_of product.converters → fixers ≡ names_of product.fixers
    → IfErr result (λ fault. fault ≢ NoMemory → settings_of converters fixers bytes ≡ Err fault)
    → IfErr result (λ fault. fault ≢ NoMemory → settings_in product bytes ≡ Err fault)
read_err product converters fixers bytes result same alike refused =
    subst (λ fixers. IfErr result (λ fault. fault ≢ NoMemory → settings_of (names_of product.converters) fixers bytes ≡ Err fault)) alike
    (subst (λ converters. IfErr result (λ fault. fault ≢ NoMemory → settings_of converters fixers bytes ≡ Err fault)) same refused)

-- the names of objects that were read off a slice
pub names_read : {T A : Type 0} (means : T → A) (names of : List (List ℕ)) (slice objects : List (Named T)) → names ≡ of → of ≡ map (λ named. named.name) slice
    → slice ≡ objects → names ≡ names_of (named_by means objects)
names_read {T} means names of slice objects n o s = n ∙ o ∙ ap (map (λ (named : Named T). named.name)) s ∙ sym (names_are means objects)
