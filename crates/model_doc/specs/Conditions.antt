-- What operations on a document may bring.
use Rattle.std.specs.Prelude.{◌≡◌, ◌<◌, ◌^◌, List, [], ◌∷◌, length, Ok}
use Rattle.operation_definitions.specs.Operation.{Operation, insert}
use Rattle.document_definitions.specs.Document.{State, applied}
use Rattle.document_definitions.specs.Sound.{IsWelcome}

-- each of some operations is welcome in the state that those before it make
abbrev pub AreWelcome : List Operation → State → Type 0
AreWelcome [] state = Unit {0}
AreWelcome (operation ∷ operations) state =
    IsWelcome operation state × ((made : State) → applied operation state ≡ Ok made → AreWelcome operations made)

-- fewer than 2^32 items come in
abbrev pub IsFew : Operation → Type 0
IsFew (insert position new) = length new < 2 ^ 32
IsFew operation = Unit {0}
