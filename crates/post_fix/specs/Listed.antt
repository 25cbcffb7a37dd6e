-- The fixers of a list.
use Rattle.std.specs.Prelude.{List, map}
use Rattle.std.specs.Global.{Global}
use Rattle.std.specs.declared.dyn_box.DynBox.{DynBox}
use Rattle.schema_definitions.specs.Allowed.{Rules}
use Rattle.fix_definitions.specs.Fixes.{Fixing, Fixer, stock, boxed, fixing_of}
use Rattle.post_fix.specs.declared.list.FixerEntry.{FixerEntry}
use Rattle.post_fix.specs.declared.list.FixerEntry.TheVariants as entry
use Rattle.post_fix.specs.declared.list.FixerList.{FixerList}

-- a fixer as the definitions have it, by what the product's ones plan
abbrev pub fixer_of : {X : Type 0} {Y : X → Type 0} → (DynBox X Global Y → Fixing) → FixerEntry X Y → Fixer
fixer_of plans (entry.Stock fixer) = stock fixer
fixer_of plans (entry.Boxed object) = boxed (plans object)

-- the fixers of a list
abbrev pub fixers_of : {X : Type 0} {Y : X → Type 0} → (DynBox X Global Y → Fixing) → FixerList X Y → List Fixer
fixers_of plans list = map (fixer_of plans) list.entries.items

-- what entries plan, under the rules of a schema
abbrev pub fixings_in : {X : Type 0} {Y : X → Type 0} → Rules → (DynBox X Global Y → Fixing) → List (FixerEntry X Y) → List Fixing
fixings_in rules plans entries = map (λ entry. fixing_of rules (fixer_of plans entry)) entries

-- what the fixers of a list plan, under the rules of a schema
abbrev pub fixings_of : {X : Type 0} {Y : X → Type 0} → Rules → (DynBox X Global Y → Fixing) → FixerList X Y → List Fixing
fixings_of rules plans list = fixings_in rules plans list.entries.items
