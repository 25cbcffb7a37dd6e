-- Where a layer goes among others.
use Rattle.std.specs.Prelude.{ℕ, List, ◌∷◌, ◌++◌, take, drop, Option, Some, None}
use Rattle.view_definitions.specs.Layer.{Layer}

-- the layers with one more at this place, if there is one
abbrev pub placed : Layer → Option ℕ → List Layer → List Layer
placed layer None layers = layers
placed layer (Some place) layers = take place layers ++ (layer ∷ drop place layers)
