-- The converters of settings, one after the other, where each of a product is taken out of those that are handed in; and the fixers likewise.
use Rattle.std.proofs.Common.{◌≡◌, ◌≢◌, ℕ, ℤ, List, [], ◌∷◌, ◌++◌, Bool, true, false, ◌&&◌, ◌||◌, not, if◌then◌else◌, Option, Some, None, refl, sym, ap, ◌∙◌}
use Rattle.std.proofs.Common.{subst, map}
use Rattle.std.specs.Prelude.{unwrap_or}
use Rattle.std.specs.List.{list_any}
use Rattle.std.specs.Option.{option_or}
use Rattle.std.specs.Str.{bytes_eq}
use Rattle.schema_definitions.specs.Names.{has}
use Rattle.converter_definitions.specs.Gives.{Giving, Converter, boxed}
use Rattle.converter_definitions.specs.declared.plan.ConverterPlan.{ConverterPlan}
use Rattle.converter_definitions.specs.declared.plan.PlanEntry.{PlanEntry}
use Rattle.converter_definitions.specs.declared.plan.PlanEntry.TheVariants.{Stock, Boxed}
use Rattle.converter_definitions.specs.PlanNames.{is_custom, unknown_custom, unknown_custom_from}
use Rattle.converter_definitions.specs.Priority.{added}
use Rattle.fix_definitions.specs.Fixes.{Fixing, Fixer, boxed as boxed_fixer}
use Rattle.fix_definitions.specs.declared.plan.FixerPlan.{FixerPlan}
use Rattle.fix_definitions.specs.declared.plan.FixerPlan.TheVariants as fixer_plan
use Rattle.settings_definitions.specs.FixerNames.{is_custom_fixer, unknown_custom_fixer, unknown_custom_fixer_from}
use Rattle.program_definitions.specs.Product.{first_named, names_of}
use Rattle.program_definitions.specs.Converters.{converter_of, all_added}
use Rattle.program_definitions.specs.Fixers.{fixer_by}
use Rattle.editor_core.specs.HandedIn.{IsThere, IsFixerThere}

-- That of these plans some were added already, and the objects that they don't name are still handed in
pub record Partway {P A : Type 0} (custom : P → List ℕ → Bool) (unknown_from : List P → List P → Option (List ℕ)) (all now : List (List ℕ × A))
    (rest : List P) : Type 0 where
  pub before : List P
  pub known : unknown_from before rest ≡ None
  pub stays : (name : List ℕ) → list_any (λ plan. custom plan name) before ≡ false → first_named now name ≡ first_named all name

first-none : (a b : Option (List ℕ)) → option_or a b ≡ None → a ≡ None
first-none None b e = refl
first-none (Some x) b e = e

second-none : (a b : Option (List ℕ)) → option_or a b ≡ None → b ≡ None
second-none None b e = e
second-none (Some x) b e = cc

kept : (a b : Bool) (name : List ℕ) → (if a && not b then None else Some name) ≡ None → (a ≡ true) × (b ≡ false)
kept true true name e = cc
kept true false name e = (refl, refl)
kept false b name e = cc

there : {A : Type 0} (entries : List (List ℕ × A)) (name : List ℕ) → has (names_of entries) name ≡ true → first_named entries name ≢ None
there [] name h = λ e. cc
there (first ∷ rest) name h = go (bytes_eq first.0 name) h (there rest name)
  where
    go : (t : Bool) → (t || has (names_of rest) name) ≡ true → (has (names_of rest) name ≡ true → first_named rest name ≢ None)
        → (if t then Some first.1 else first_named rest name) ≢ None
    go true h rest = λ e. cc
    go false h rest = rest h

uses-more : {P : Type 0} (custom : P → List ℕ → Bool) (before : List P) (plan : P) (name : List ℕ)
    → list_any (λ plan. custom plan name) (before ++ plan ∷ []) ≡ false → (list_any (λ plan. custom plan name) before ≡ false) × (custom plan name ≡ false)
uses-more custom [] plan name e = (refl, go (custom plan name) e)
  where
    go : (t : Bool) → (t || false) ≡ false → t ≡ false
    go true e = cc
    go false e = refl
uses-more custom (first ∷ before) plan name e = go (custom first name) e (uses-more custom before plan name)
  where
    go : (t : Bool) → (t || list_any (λ plan. custom plan name) (before ++ plan ∷ [])) ≡ false
        → (list_any (λ plan. custom plan name) (before ++ plan ∷ []) ≡ false
        → (list_any (λ plan. custom plan name) before ≡ false) × (custom plan name ≡ false))
        → ((t || list_any (λ plan. custom plan name) before) ≡ false) × (custom plan name ≡ false)
    go true e rest = cc
    go false e rest = rest e

-- the way goes on behind a plan
way-on : {P A : Type 0} (custom : P → List ℕ → Bool) (unknown_from : List P → List P → Option (List ℕ)) (all now later : List (List ℕ × A)) (plan : P)
    (rest : List P) (p : Partway custom unknown_from all now (plan ∷ rest)) → unknown_from (p.before ++ plan ∷ []) rest ≡ None
    → ((other : List ℕ) → custom plan other ≡ false → first_named later other ≡ first_named now other) → Partway custom unknown_from all later rest
way-on custom unknown_from all now later plan rest p known stays = record {
  before = p.before ++ plan ∷ [];
  known = known;
  stays = λ name u. (let k = uses-more custom p.before plan name u in stays name k.1 ∙ p.stays name k.0);
}

-- ---- converters

-- the way through the converters of settings
abbrev pub ConvertersPartway : List (List ℕ × Giving) → List (List ℕ × Giving) → List ConverterPlan → Type 0
ConvertersPartway all now rest = Partway (λ (plan : ConverterPlan). is_custom plan.entry) (unknown_custom_from (names_of all)) all now rest

pub at-start : (all : List (List ℕ × Giving)) (plans : List ConverterPlan) → unknown_custom_from (names_of all) [] plans ≡ None
    → ConvertersPartway all all plans
at-start all plans e = record { before = []; known = e; stays = λ name u. refl }

module _ (all now : List (List ℕ × Giving)) (plan : ConverterPlan) (rest left : List ConverterPlan) (split : left ≡ plan ∷ rest)
    (way : ConvertersPartway all now left) where
  p : ConvertersPartway all now (plan ∷ rest)
  p = subst (ConvertersPartway all now) split way

  now_known : unknown_custom (names_of all) p.before plan.entry ≡ None
  now_known = first-none (unknown_custom (names_of all) p.before plan.entry) _ p.known

  -- the next plan's converter is handed in,
  pub next-there : IsThere plan.entry now
  next-there = go plan.entry now_known
    where
      go : (entry : PlanEntry) → unknown_custom (names_of all) p.before entry ≡ None → IsThere entry now
      go (Stock converter) e = tt
      go (Boxed name index) e =
          let k = kept (has (names_of all) name) (list_any (λ (plan : ConverterPlan). is_custom plan.entry name) p.before) name e in
          λ none. there all name k.0 (sym (p.stays name k.1) ∙ none)

  -- and is the one that is meant
  pub next-is : converter_of now plan.entry ≡ converter_of all plan.entry
  next-is = go plan.entry now_known
    where
      go : (entry : PlanEntry) → unknown_custom (names_of all) p.before entry ≡ None → converter_of now entry ≡ converter_of all entry
      go (Stock converter) e = refl
      go (Boxed name index) e =
          let k = kept (has (names_of all) name) (list_any (λ (plan : ConverterPlan). is_custom plan.entry name) p.before) name e in
          ap (λ giving. boxed (unwrap_or giving (λ facts. None))) (p.stays name k.1)

  -- so that the list with it is on the way to the list with all
  pub next-added : (made new wanted : List (ℤ × Converter)) → all_added all made left ≡ wanted
      → new ≡ added (plan.priority, converter_of now plan.entry) made → all_added all new rest ≡ wanted
  next-added made new wanted e is =
      ap (λ list. all_added all list rest) (is ∙ ap (λ converter. added (plan.priority, converter) made) next-is)
      ∙ sym (ap (all_added all made) split)
      ∙ e

  -- behind it
  pub next-way : (later : List (List ℕ × Giving)) → ((other : List ℕ) → is_custom plan.entry other ≡ false → first_named later other ≡ first_named now other)
      → ConvertersPartway all later rest
  next-way later stays =
      way-on (λ (plan : ConverterPlan). is_custom plan.entry) (unknown_custom_from (names_of all)) all now later plan rest p
      (second-none (unknown_custom (names_of all) p.before plan.entry) _ p.known) stays

-- ---- fixers

-- the way through the fixers of settings
abbrev pub FixersPartway : List (List ℕ × Fixing) → List (List ℕ × Fixing) → List FixerPlan → Type 0
FixersPartway all now rest = Partway is_custom_fixer (unknown_custom_fixer_from (names_of all)) all now rest

pub fixers-at-start : (all : List (List ℕ × Fixing)) (plans : List FixerPlan) → unknown_custom_fixer_from (names_of all) [] plans ≡ None
    → FixersPartway all all plans
fixers-at-start all plans e = record { before = []; known = e; stays = λ name u. refl }

module _ (all now : List (List ℕ × Fixing)) (plan : FixerPlan) (rest left : List FixerPlan) (split : left ≡ plan ∷ rest)
    (way : FixersPartway all now left) where
  f : FixersPartway all now (plan ∷ rest)
  f = subst (FixersPartway all now) split way

  fixer_known : unknown_custom_fixer (names_of all) f.before plan ≡ None
  fixer_known = first-none (unknown_custom_fixer (names_of all) f.before plan) _ f.known

  -- the next plan's fixer is handed in,
  pub next-fixer-there : IsFixerThere plan now
  next-fixer-there = go plan fixer_known
    where
      go : (plan : FixerPlan) → unknown_custom_fixer (names_of all) f.before plan ≡ None → IsFixerThere plan now
      go (fixer_plan.Stock fixer) e = tt
      go (fixer_plan.Boxed name) e =
          let k = kept (has (names_of all) name) (list_any (λ plan. is_custom_fixer plan name) f.before) name e in
          λ none. there all name k.0 (sym (f.stays name k.1) ∙ none)

  -- and is the one that is meant
  pub next-fixer-is : fixer_by now plan ≡ fixer_by all plan
  next-fixer-is = go plan fixer_known
    where
      go : (plan : FixerPlan) → unknown_custom_fixer (names_of all) f.before plan ≡ None → fixer_by now plan ≡ fixer_by all plan
      go (fixer_plan.Stock fixer) e = refl
      go (fixer_plan.Boxed name) e =
          let k = kept (has (names_of all) name) (list_any (λ plan. is_custom_fixer plan name) f.before) name e in
          ap (λ fixing. boxed_fixer (unwrap_or fixing (λ items markers selection. []))) (f.stays name k.1)

  -- so that the list with it is on the way to the list with all
  pub next-fixer-added : (made new wanted : List Fixer) → made ++ map (fixer_by all) left ≡ wanted → new ≡ made ++ fixer_by now plan ∷ []
      → new ++ map (fixer_by all) rest ≡ wanted
  next-fixer-added made new wanted e is =
      ap (λ list. list ++ map (fixer_by all) rest) (is ∙ ap (λ fixer. made ++ fixer ∷ []) next-fixer-is)
      ∙ joined made
      ∙ sym (ap (λ plans. made ++ map (fixer_by all) plans) split)
      ∙ e
    where
      joined : (made : List Fixer) → (made ++ fixer_by all plan ∷ []) ++ map (fixer_by all) rest ≡ made ++ map (fixer_by all) (plan ∷ rest)
      joined [] = refl
      joined (first ∷ made) = ap (λ list. first ∷ list) (joined made)

  -- behind it
  pub next-fixer-way : (later : List (List ℕ × Fixing))
      → ((other : List ℕ) → is_custom_fixer plan other ≡ false → first_named later other ≡ first_named now other)
      → FixersPartway all later rest
  next-fixer-way later stays =
      way-on is_custom_fixer (unknown_custom_fixer_from (names_of all)) all now later plan rest f
      (second-none (unknown_custom_fixer (names_of all) f.before plan) _ f.known) stays
