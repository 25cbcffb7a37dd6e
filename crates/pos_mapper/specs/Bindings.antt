-- What a mapper keeps: which view element shows an element of the document, where the element's content stands in it, and where the caret is
-- seen. (After `Mapper` of CKEditor 5.)
use Rattle.std.specs.Prelude.{ℕ, ◌==◌, List, [], ◌∷◌, ◌++◌, ◌||◌, Option, is_some, option_map, if◌then◌else◌}
use Rattle.std.specs.List.{find}
use Rattle.downcast_definitions.specs.Scene.{Numbers}

-- where an element's content stands in its view element: the indices of children that lead to it, the last of them where it begins in its
-- list, and how many nodes of the shape stand behind it in this list
pub record Slot : Type 0 where
  pub place : List ℕ
  pub behind : ℕ

-- the view element of an element of the document: the element's id, the number of its view element, and the slot, if the shape has one
pub record Binding : Type 0 where
  pub id : ℕ
  pub number : ℕ
  pub slot : Option Slot

-- the caret's position, and where it is seen in the content of its parent
pub record CaretPlace : Type 0 where
  pub at : List ℕ
  pub place : List ℕ

-- all bindings in the order in which they were made, and the place of the caret, if there is one
pub record Mapper : Type 0 where
  pub bindings : List Binding
  pub caret : Option CaretPlace

-- the binding of the element with an id
abbrev pub bound_id : ℕ → Mapper → Option Binding
bound_id id mapper = find (λ binding. binding.id == id) mapper.bindings

-- the binding of the view element with a number
abbrev pub bound_number : ℕ → Mapper → Option Binding
bound_number number mapper = find (λ binding. binding.number == number) mapper.bindings

-- the numbers of the view elements
abbrev pub numbers_of : Mapper → Numbers
numbers_of mapper id = option_map (λ binding. binding.number) (bound_id id mapper)

-- with a binding more; an element that is bound, and a view element that shows one, stay as they are
abbrev pub with_binding : Binding → Mapper → Mapper
with_binding binding mapper =
    if is_some (bound_id binding.id mapper) || is_some (bound_number binding.number mapper) then mapper
    else record mapper { bindings = mapper.bindings ++ binding ∷ [] }
