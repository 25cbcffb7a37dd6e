-- The items of a document that are tested, and the first breach among them.
use Rattle.std.specs.Prelude.{◌≡◌, ℕ, ◌<◌, ◌≤◌, ◌+◌, ◌^◌, length, List, [], ◌∷◌, ◌++◌, Bool, true, false, drop, if◌then◌else◌, Option, Some, None, reverse}
use Rattle.std.specs.Prelude.{codes}
use Rattle.std.specs.List.{list_any}
use Rattle.ck_base.specs.declared.faults.Rule.{Rule}
use Rattle.item_definitions.specs.Item.{Attributes, Item, element, none, items_of, count_of, depth_of}
use Rattle.schema_definitions.specs.Allowed.{Rules, passes}
use Rattle.breach_definitions.specs.Breach.{Placed, placed_inner, broken_rule, breach_of, first_some}
use Rattle.breach_definitions.specs.Spots.{is_in_run, is_within}
use Rattle.schema_rules.specs.declared.chosen.Chosen.{Chosen}
use Rattle.schema_rules.specs.declared.chosen.Chosen.TheVariants.{All, Listed}
use Rattle.schema_rules.specs.declared.chosen.Near.{Near}
use Rattle.schema_rules.specs.declared.chosen.Near.TheVariants.{Run, Subtree}

-- whether a spot, as it is seen from an element, lists the item to which a path leads from there
abbrev pub lists_near : Near → List ℕ → Bool
lists_near (Run parent start end) path = is_in_run parent.now start end path
lists_near (Subtree outer) path = is_within outer.now path

-- the same, where there may be no spot
abbrev pub lists_narrowed : Option Near → List ℕ → Bool
lists_narrowed None path = false
lists_narrowed (Some near) path = lists_near near path

-- whether the item to which a path leads from an element is tested
abbrev pub is_chosen : Chosen → List ℕ → Bool
is_chosen All path = true
is_chosen (Listed nears) path = list_any (λ near. lists_near near path) nears.items

-- what is tested inside the item at an index
abbrev pub IsBelow : Chosen → Chosen → ℕ → Type 0
IsBelow chosen below index = (next : ℕ) (rest : List ℕ) → is_chosen below (next ∷ rest) ≡ is_chosen chosen (index ∷ next ∷ rest)

-- where a walk is: the names of the ancestors, from the root on, and the path of the last of them
pub record Standing : Type 0 where
  pub names : List (List ℕ)
  pub path : List ℕ

-- where the items of a document stand: in the root, at the empty path
abbrev pub root : Standing
root = record { names = codes "$root" ∷ []; path = [] }

-- items of the last ancestor, the first of which has this index there, are those of a tree: their paths are no longer than paths may be
pub record AreThere (above : Standing) (index : ℕ) (items : List Item) : Type 0 where
  pub named : 0 < length above.names
  pub few : index + count_of items < 2 ^ 32
  pub flat : length above.path + depth_of items ≤ 65

-- inside the element of this name at an index there
abbrev pub inside : Standing → List ℕ → ℕ → Standing
inside above name index = record { names = above.names ++ name ∷ []; path = above.path ++ index ∷ [] }

-- whether the last of some ancestors, the innermost first, may stand behind the others; the root may
abbrev pub first_passes : Rules → List (List ℕ) → Bool
first_passes rules [] = true
first_passes rules (parent ∷ above) = passes rules parent above

-- whether the last of some ancestors may stand behind the others; the root may
abbrev pub last_passes : Rules → List (List ℕ) → Bool
last_passes rules names = first_passes rules (reverse names)

-- the rule that an item of this name and these attributes breaks first behind these ancestors
abbrev pub broken : Rules → List (List ℕ) → List ℕ → Attributes → Option Rule
broken rules names name attributes = broken_rule rules (record { ancestors = names; path = []; item = element 0 name attributes none })

-- the breach of an item that is tested, as that is seen from the element at a path
abbrev pub chosen_breach : Rules → Chosen → List ℕ → Placed → Option (Rule × List ℕ)
chosen_breach rules chosen path placed = if is_chosen chosen (drop (length path) placed.path) then breach_of rules placed else None

-- the first breach among items of one element and all that is in them; the first of these items has this index there
unfoldable pub breach_from : Rules → Chosen → Standing → ℕ → List Item → Option (Rule × List ℕ)
breach_from rules chosen above index items = first_some (chosen_breach rules chosen above.path) (placed_inner above.names above.path index (items_of items))
