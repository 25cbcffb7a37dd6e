-- A list of converters, from what was added to an empty one.
use Rattle.std.proofs.Common.{◌≡◌, ℕ, ℤ, List, [], ◌∷◌, map, Bool, Result, Ok, Err, IfOk, refl, ap, ◌∙◌}
use Rattle.std.specs.Global.{Global}
use Rattle.std.specs.declared.dyn_box.DynBox.{DynBox}
use Rattle.converter_definitions.specs.Gives.{Converter, Conversion}
use Rattle.converter_definitions.specs.Gives.{Giving}
use Rattle.conv_rules.specs.declared.list.Listed.{Listed}
use Rattle.conv_rules.specs.declared.list.ConverterList.{ConverterList}
use Rattle.conv_rules.specs.Listed.{converter_of, converters_of, conversion_of, listed, listed_of}

module _ {X : Type 0} {Y : X → Type 0} (gives : DynBox X Global Y → Giving) where
  none-listed : (entries : List (Listed X Y)) → converters_of gives entries ≡ [] → listed gives entries ≡ []
  none-listed [] e = refl
  none-listed (first ∷ entries) e = cc

  of-listed : (entries : List (Listed X Y)) → converters_of gives entries ≡ map (λ entry. entry.1) (listed gives entries)
  of-listed [] = refl
  of-listed (first ∷ entries) = ap (λ converters. converter_of gives first.entry ∷ converters) (of-listed entries)

  -- a list that was empty, with what was added to it, and nothing else of it changed
  pub list-is : (new made : ConverterList X Y) (objects wanted indexed : List (List ℕ)) (joined : Bool) (all : List (ℤ × Converter)
      → List (ℤ × Converter)) → objects ≡ wanted
      → conversion_of gives new ≡ record { converters = []; objects = objects; joined = joined; indexed = indexed }
      → listed_of gives made ≡ all (listed_of gives new)
      → record (conversion_of gives made) { converters = [] } ≡ record (conversion_of gives new) { converters = [] }
      → conversion_of gives made ≡ record { converters = map (λ entry. entry.1) (all []); objects = wanted; joined = joined; indexed = indexed }
  list-is new made objects wanted indexed joined all same empty adds others =
      let none = none-listed new.entries.items (ap (λ (conversion : Conversion). conversion.converters) empty) in
      let converters = of-listed made.entries.items ∙ ap (map (λ (entry : ℤ × Converter). entry.1)) (adds ∙ ap all none) in
      let rest = others ∙ ap (λ (conversion : Conversion). record conversion { converters = [] }) empty in
      λ i. record {
        converters = converters i;
        objects = ((ap (λ (conversion : Conversion). conversion.objects) rest) ∙ same) i;
        joined =
            (rest i).joined;
        indexed = (rest i).indexed;
      }

  pub made-is : {F : Type 0} (new : ConverterList X Y) (made : Result (ConverterList X Y) F) (objects wanted indexed : List (List ℕ)) (joined : Bool)
      (all : List (ℤ × Converter) → List (ℤ × Converter)) → objects ≡ wanted
      → conversion_of gives new ≡ record { converters = []; objects = objects; joined = joined; indexed = indexed }
      → IfOk made (λ made. listed_of gives made ≡ all (listed_of gives new))
      → IfOk made (λ made. record (conversion_of gives made) { converters = [] } ≡ record (conversion_of gives new) { converters = [] })
      → IfOk made (λ made. conversion_of gives made
      ≡ record { converters = map (λ entry. entry.1) (all []); objects = wanted; joined = joined; indexed = indexed })
  made-is new (Err fault) objects wanted indexed joined all same empty adds others = adds
  made-is new (Ok made) objects wanted indexed joined all same empty adds others = list-is new made objects wanted indexed joined all same empty adds others
