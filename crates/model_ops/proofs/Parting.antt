-- What a split with an element from a cell plans.
use Rattle.std.proofs.Common.{◌≡◌, ◌≢◌, ℕ, ◌≤◌, Bool, true, false, nat_le, ◌==◌, List, [], ◌∷◌, length, set, Option, Some, None, option_and_then, slice_get}
use Rattle.std.proofs.Common.{ok_or, Result, Ok, Err, refl, sym, ap, ◌∙◌, arith}
use Rattle.std.specs.Prelude.{is_some}
use Rattle.item_definitions.specs.Item.{Item, character, element, none, more, list_of}
use Rattle.item_definitions.specs.Children.{parent_of, offset_of, children_at, at}
use Rattle.operation_definitions.specs.Level.{split_at}
use Rattle.operation_definitions.specs.Operation as meant
use Rattle.operation_definitions.specs.Operation.{split, from_cell, no_place, cell_state}
use Rattle.operation_definitions.specs.After.{◌>>=◌, check, effect, room_at, shell_of, in_cell_at, fill}
use Rattle.operation_definitions.proofs.Levels.{most}
use Rattle.model_tree.specs.Places.{Gives}
use Rattle.model_tree.specs.Limits.{changed, split_path, split_with}
use Rattle.model_tree.specs.declared.fault.TreeFault.{TreeFault}
use Rattle.model_tree.specs.declared.fault.TreeFault.TheVariants as tree_fault
use Rattle.model_ops.specs.declared.fault.OpFault.{OpFault}
use Rattle.model_ops.specs.declared.fault.OpFault.TheVariants.{NoPlace, CellState, NoMemory}
use Rattle.model_ops.specs.Effects.{State, refusal, fault_of}
use Rattle.model_ops.proofs.InCells.{inside, within, get-past, none-past, fill_there}

-- a list is one element without children exactly where it has one item, and that is an element without children
pub shell_none : (items : List Item) → None ≡ children_at (0 ∷ []) items → false ≡ is_some (shell_of items)
shell_none [] e = refl
shell_none (character scalar attributes ∷ []) e = refl
shell_none (element id name attributes children ∷ items) e = absurd cc
shell_none (character scalar attributes ∷ next ∷ rest) e = refl

pub shell_long : (items : List Item) → length items ≢ 1 → false ≡ is_some (shell_of items)
shell_long [] e = refl
shell_long (item ∷ []) e = absurd (e refl)
shell_long (item ∷ next ∷ rest) e = refl

pub shell_one : (items children : List Item) (empty : Bool) → length items ≡ 1 → Some children ≡ children_at (0 ∷ []) items
    → (length children ≡ 0 → empty ≡ true) → (length children ≢ 0 → empty ≡ false) → empty ≡ is_some (shell_of items)
shell_one [] children empty one e full bare = absurd (omega (arith, one))
shell_one (character scalar attributes ∷ []) children empty one e full bare = absurd cc
shell_one (element id name attributes none ∷ []) children empty one e full bare =
    let same : ◌≡◌ {A = List Item} [] children = cc in
    full (sym (ap length same))
shell_one (element id name attributes (more item items) ∷ []) children empty one e full bare =
    let same : item ∷ list_of items ≡ children = cc in
    bare (λ zero. let long = ap length same in omega (arith, long, zero))
shell_one (item ∷ next ∷ rest) children empty one e full bare = absurd (omega (arith, one))

pub not_empty : (path : List ℕ) → false ≡ (length path == 0) → path ≢ []
not_empty path e root = (let f = ap (λ p. length p == 0) root in cc)

-- a refusal in other words
pub same_fault : (wanted : Option OpFault) (given : OpFault) (fault : TreeFault) → given ≡ fault_of fault
    → (fault_of fault ≢ NoMemory → wanted ≡ Some (fault_of fault)) → given ≢ NoMemory → wanted ≡ Some given
same_fault wanted given fault e h some = h (λ memory. some (e ∙ memory)) ∙ ap Some (sym e)

module _ (position path : List ℕ) (offset number : ℕ) (xs : List Item) (cells : List (List Item)) (above : path ≡ parent_of position) (at_end : offset
    ≡ offset_of position) where
  abbrev rest : List Item × Item → Result State meant.Fault
  rest made = Ok (made.0, set cells number [])

  abbrev next : Item → Result State meant.Fault
  next shell = ok_or (at (parent_of (parent_of position)) (split_at (offset_of (parent_of position)) (offset_of position) (λ _. shell)) xs) no_place >>= rest

  abbrev held : Option Item → Result State meant.Fault
  held shell = ok_or shell (cell_state number) >>= next

  abbrev steps : Bool → Option (List Item × Unit {0}) → Option Item → Result State meant.Fault
  steps long there shell = check long no_place >>= (λ _. ok_or there no_place >>= (λ _. held shell))

  long : (position : List ℕ) → parent_of position ≢ [] → nat_le 2 (length position) ≡ true
  long [] some = absurd (some refl)
  long (x ∷ []) some = absurd (some refl)
  long (x ∷ y ∷ rest) some = most 2 (length (x ∷ y ∷ rest)) (omega arith)

  module _ (some : path ≢ []) (there : is_some (room_at xs position) ≡ true) where
    placed-held : effect xs cells (split position (from_cell number)) ≡ held (shell_of (in_cell_at cells number))
    placed-held =
        ap (λ t. steps t (room_at xs position) (shell_of (in_cell_at cells number))) (long position (λ e. some (above ∙ e)))
        ∙ go (room_at xs position) there
      where
        go : (o : Option (List Item × Unit {0})) → is_some o ≡ true → steps true o (shell_of (in_cell_at cells number))
            ≡ held (shell_of (in_cell_at cells number))
        go None e = absurd cc
        go (Some made) e = refl

    -- the cell isn't there, or holds something else
    pub split_no_cell : None ≡ slice_get cells number → refusal (effect xs cells (split position (from_cell number))) ≡ Some (CellState number)
    split_no_cell e = ap refusal (placed-held ∙ ap (λ items. held (shell_of items)) (get-past cells number [] (none-past cells number e)))

    pub split_no_shell : (shells : List Item) → Some shells ≡ slice_get cells number → is_some (shell_of shells) ≡ false
        → refusal (effect xs cells (split position (from_cell number))) ≡ Some (CellState number)
    split_no_shell shells e differs = ap refusal (placed-held ∙ ap (λ items. held (shell_of items)) (inside cells number shells e))
        ∙ go (shell_of shells) differs
      where
        go : (o : Option Item) → is_some o ≡ false → refusal (held o) ≡ Some (CellState number)
        go None e = refl
        go (Some shell) e = absurd cc

    module _ (shells : List Item) (cell : Some shells ≡ slice_get cells number) (one : is_some (shell_of shells) ≡ true) where
      -- the split is made
      tried : effect xs cells (split position (from_cell number)) ≡ (ok_or (split_with path offset shells xs) no_place >>= rest)
      tried =
          placed-held ∙ ap (λ items. held (shell_of items)) (inside cells number shells cell)
          ∙ shell_at (shell_of shells) refl one
          ∙ (λ i. ok_or (split_with (sym above i) (sym at_end i) shells xs) no_place >>= rest)
        where
          on_path : (p : List ℕ) → p ≢ [] → (shell : Item)
              → (ok_or (at (parent_of p) (split_at (offset_of p) (offset_of position) (λ _. shell)) xs) no_place >>= rest)
              ≡ (ok_or (split_path p (offset_of position) shell xs) no_place >>= rest)
          on_path [] some shell = absurd (some refl)
          on_path (index ∷ p) some shell = refl

          shell_at : (o : Option Item) → shell_of shells ≡ o → is_some o ≡ true
              → held o ≡ (ok_or (split_with (parent_of position) (offset_of position) shells xs) no_place >>= rest)
          shell_at None e h = absurd cc
          shell_at (Some shell) e h = on_path (parent_of position) (λ root. some (above ∙ root)) shell
              ∙ ap (λ o. ok_or (option_and_then (λ shell. split_path (parent_of position) (offset_of position) shell xs) o) no_place >>= rest) (sym e)

      pub split_made : (made : List Item) → changed (split_with path offset shells xs) ≡ Some made → effect xs cells (split position (from_cell number))
          ≡ Ok (made, fill cells number [])
      split_made made e = tried ∙ go (split_with path offset shells xs) e
        where
          go : (o : Option (List Item × Item)) → changed o ≡ Some made → (ok_or o no_place >>= rest) ≡ Ok (made, fill cells number [])
          go None e = absurd cc
          go (Some both) e = (let same : both.0 ≡ made = cc in (λ i. Ok (same i, fill_there cells number [] (within cells number shells cell) i)))

      pub split_fault : (fault : TreeFault) → Gives {A = List Item} (changed (split_with path offset shells xs)) (Err fault) → fault_of fault ≢ NoMemory
          → refusal (effect xs cells (split position (from_cell number))) ≡ Some (fault_of fault)
      split_fault fault g some = ap refusal tried ∙ go fault (split_with path offset shells xs) g some
        where
          go : (fault : TreeFault) (o : Option (List Item × Item)) → Gives {A = List Item} (changed o) (Err fault) → fault_of fault ≢ NoMemory
              → refusal (ok_or o no_place >>= rest) ≡ Some (fault_of fault)
          go tree_fault.NoPlace None g some = refl
          go tree_fault.NoPlace (Some both) g some = absurd cc
          go tree_fault.NoMemory o g some = absurd (some refl)

      pub split_room : number ≤ length cells
      split_room = omega (arith, within cells number shells cell)
