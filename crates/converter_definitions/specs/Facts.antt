-- What a converter looks at, and what it consumes.
use Rattle.std.specs.Prelude.{List, ◌∷◌, Bool, true, false, not, map}
use Rattle.std.specs.List.{list_any, list_all, filter}
use Rattle.std.specs.Str.{bytes_eq}
use Rattle.std.specs.Map.{keys_of}
use Rattle.item_definitions.specs.Item.{Attributes}
use Rattle.converter_definitions.specs.declared.facts.Key.{Key}
use Rattle.converter_definitions.specs.declared.facts.Key.TheVariants.{Insert, Attribute}

-- whether two keys are one
abbrev pub same_key : Key → Key → Bool
same_key Insert Insert = true
same_key Insert (Attribute name) = false
same_key (Attribute name) Insert = false
same_key (Attribute name) (Attribute other) = bytes_eq name other

-- a key for each of these attributes
abbrev pub attribute_keys : Attributes → List Key
attribute_keys attributes = map Attribute (keys_of attributes)

-- what is there to consume of an element with these attributes
abbrev pub all_keys : Attributes → List Key
all_keys attributes = Insert ∷ attribute_keys attributes

-- whether a key is left
abbrev pub is_left : List Key → Key → Bool
is_left left key = list_any (same_key key) left

-- whether all of these keys are left
abbrev pub are_left : List Key → List Key → Bool
are_left left keys = list_all (is_left left) keys

-- what is left without a key, and without these keys
abbrev pub left_without : Key → List Key → List Key
left_without key left = filter (λ other. not (same_key key other)) left

-- what is left without these keys
abbrev pub left_without_all : List Key → List Key → List Key
left_without_all keys left = filter (λ other. not (is_left keys other)) left
