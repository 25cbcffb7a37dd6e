-- The bindings of a document's elements, whose view elements are numbered as they are made: each one behind all that are in it.
use Rattle.std.specs.Prelude.{◌≡◌, ℕ, ◌+◌, ◌<◌, List, [], ◌∷◌, ◌++◌, fold, All, Some}
use Rattle.item_definitions.specs.Item.{Item, Items, character, element, none, more}
use Rattle.converter_definitions.specs.Gives.{Conversion}
use Rattle.downcast_definitions.specs.Scene.{Numbers}
use Rattle.downcast_definitions.specs.Rows.{elements_in, shape_at}
use Rattle.pos_mapper.specs.Bindings.{Binding, Mapper, with_binding}
use Rattle.pos_mapper.specs.Mapped.{slot_of}

abbrev mutual
  -- how many elements an item is, with those in it
  pub elements_of : Item → ℕ
  elements_of (character scalar attributes) = 0
  elements_of (element id name attributes children) = elements_among children + 1

  -- how many elements are among items and in them
  pub elements_among : Items → ℕ
  elements_among none = 0
  elements_among (more item rest) = elements_of item + elements_among rest

abbrev mutual
  -- the bindings of an item in this parent, before which this many elements stand in it, where so many numbers were drawn
  pub bindings_of : Conversion → List ℕ → ℕ → ℕ → Item → List Binding
  bindings_of conversion parent before drawn (character scalar attributes) = []
  bindings_of conversion parent before drawn (element id name attributes children) =
      bindings_among conversion name 0 drawn children
      ++ (record { id = id; number = drawn + elements_among children; slot = slot_of (shape_at conversion parent before name attributes).form } ∷ [])

  -- the bindings of items of this parent
  pub bindings_among : Conversion → List ℕ → ℕ → ℕ → Items → List Binding
  bindings_among conversion parent before drawn none = []
  bindings_among conversion parent before drawn (more item rest) =
      bindings_of conversion parent before drawn item
      ++ bindings_among conversion parent (before + elements_in item) (drawn + elements_of item) rest

-- whether view elements have the numbers that are bound
abbrev pub Agree : Numbers → List Binding → Type 0
Agree numbers bindings = All (λ binding. numbers binding.id ≡ Some binding.number) bindings

-- a mapper with these bindings more
abbrev pub with_bindings : List Binding → Mapper → Mapper
with_bindings bindings mapper = fold (λ made binding. with_binding binding made) mapper bindings

-- each number that an element has is below this one
abbrev pub AreBelow : ℕ → Numbers → Type 0
AreBelow drawn numbers = (id number : ℕ) → numbers id ≡ Some number → number < drawn
