-- What a product hands in, by the names of its objects.
use Rattle.std.specs.Prelude.{◌≡◌, ◌≢◌, ℕ, suc, List, [], ◌∷◌, map, Option, Some, None, if◌then◌else◌}
use Rattle.std.specs.Global.{Global}
use Rattle.std.specs.declared.dyn_box.DynBox.{DynBox}
use Rattle.std.specs.Str.{bytes_eq}
use Rattle.converter_definitions.specs.Gives.{Giving}
use Rattle.converter_definitions.specs.declared.plan.PlanEntry.{PlanEntry}
use Rattle.converter_definitions.specs.declared.plan.PlanEntry.TheVariants.{Stock, Boxed}
use Rattle.converter_definitions.specs.declared.plan.ConverterPlan.{ConverterPlan}
use Rattle.converter_definitions.specs.PlanNames.{first_unknown_custom}
use Rattle.fix_definitions.specs.Fixes.{Fixing}
use Rattle.fix_definitions.specs.declared.plan.FixerPlan.{FixerPlan}
use Rattle.fix_definitions.specs.declared.plan.FixerPlan.TheVariants as fixer_plan
use Rattle.settings_definitions.specs.FixerNames.{first_unknown_custom_fixer}
use Rattle.program_definitions.specs.Product.{Product, first_named, names_of}
use Rattle.editor_core.specs.declared.extensions.Named.{Named}
use Rattle.editor_core.specs.declared.extensions.Extensions.{Extensions}

-- the place of the first object of a name among these, of which the first has this place: None where there is none
abbrev pub place_from : {T : Type 0} → ℕ → List ℕ → List (Named T) → Option ℕ
place_from place name [] = None
place_from place name (first ∷ objects) = if bytes_eq first.name name then Some place else place_from (suc place) name objects

-- the first object of a name
abbrev pub first_of : {T : Type 0} → List ℕ → List (Named T) → Option (Named T)
first_of name [] = None
first_of name (first ∷ objects) = if bytes_eq first.name name then Some first else first_of name objects

-- the objects but the first one of a name
abbrev pub without_first : {T : Type 0} → List ℕ → List (Named T) → List (Named T)
without_first name [] = []
without_first name (first ∷ objects) = if bytes_eq first.name name then objects else first ∷ without_first name objects

-- objects by their names, each as what it means
abbrev pub named_by : {T A : Type 0} → (T → A) → List (Named T) → List (List ℕ × A)
named_by means objects = map (λ named. (named.name, means named.object)) objects

-- What the objects of a product mean: what its converters give, and what its fixers plan
pub record Meanings (X Z : Type 0) (Y : X → Type 0) (W : Z → Type 0) : Type 0 where
  pub gives : DynBox X Global Y → Giving
  pub fixes : DynBox Z Global W → Fixing

-- the two together
abbrev pub meanings : {X Z : Type 0} {Y : X → Type 0} {W : Z → Type 0} → (DynBox X Global Y → Giving) → (DynBox Z Global W → Fixing) → Meanings X Z Y W
meanings gives fixes = record { gives = gives; fixes = fixes }

-- what is handed in, by names and meanings
abbrev pub product_of : {X Z : Type 0} {Y : X → Type 0} {W : Z → Type 0} → Meanings X Z Y W → Extensions X Z Y W → Product
product_of meanings extensions = record {
  converters = named_by meanings.gives extensions.converters.items;
  fixers = named_by meanings.fixes extensions.fixers.items;
}

-- a product's converter that settings name was handed in
abbrev pub IsThere : PlanEntry → List (List ℕ × Giving) → Type 0
IsThere (Stock converter) handed_in = Unit {0}
IsThere (Boxed name index) handed_in = first_named handed_in name ≢ None

-- a product's fixer that settings name was handed in
abbrev pub IsFixerThere : FixerPlan → List (List ℕ × Fixing) → Type 0
IsFixerThere (fixer_plan.Stock fixer) handed_in = Unit {0}
IsFixerThere (fixer_plan.Boxed name) handed_in = first_named handed_in name ≢ None

-- each object of a product that settings name was handed in, and is named once
pub record AreHandedIn (converters : List ConverterPlan) (fixers : List FixerPlan) (product : Product) : Type 0 where
  pub converters_known : first_unknown_custom (names_of product.converters) converters ≡ None
  pub fixers_known : first_unknown_custom_fixer (names_of product.fixers) fixers ≡ None
