-- The places that are there behind a split, and those of an element that comes in.
use Rattle.std.proofs.Common.{◌≡◌, ℕ, suc, ◌+◌, ◌≤◌, Bool, true, false, ◌&&◌, ◌||◌, ◌==◌, nat_le, if◌then◌else◌, List, [], ◌∷◌, ◌++◌, length, take, drop}
use Rattle.std.proofs.Common.{Option, Some, is_some, option_and_then, Ok, refl, sym, ap, subst, ◌∙◌, arith}
use Rattle.std.proofs.lemmas.Bool.Decides.{nat_tests}
use Rattle.item_definitions.specs.Item.{Item, inner, with_inner}
use Rattle.item_definitions.specs.Children.{parent_of, offset_of, children_at}
use Rattle.item_definitions.specs.Position.{behind}
use Rattle.item_definitions.proofs.Paths.{path-joined}
use Rattle.operation_definitions.specs.Operation.{fresh, split}
use Rattle.operation_definitions.specs.After.{like}
use Rattle.operation_definitions.proofs.Lifting.{inner-with_inner}
use Rattle.schema_definitions.specs.Allowed.{Rules, is_inline_object}
use Rattle.document_definitions.specs.Document.{State}
use Rattle.edit_definitions.specs.declared.edit.Edit.{Edit}
use Rattle.edit_definitions.specs.declared.edit.Edit.TheVariants.{InsertElement, Split}
use Rattle.edit_definitions.specs.Places.{is_there, is_element}
use Rattle.edit_definitions.specs.Performed.{performed, all_performed}
use Rattle.edit_definitions.proofs.Reached.{found, children-below}
use Rattle.edit_definitions.proofs.Stay.{there-from}
use Rattle.command_definitions.specs.Places.{is_plain_block_at, allows}
use Rattle.command_definitions.specs.Deleting.{item_selected, when}
use Rattle.command_definitions.specs.Placing.{placed_here, is_at_end, placed_beside, placed}
use Rattle.command_definitions.specs.Finding.{FindsPlaces}
use Rattle.command_definitions.proofs.Applying.{one-applied}
use Rattle.command_definitions.proofs.Performing.{split-made}
use Rattle.command_definitions.proofs.Returning.{parts-of, bare}
use Rattle.command_definitions.proofs.Finding.{edits-find, last-finds, element-finds, split-finds}
use Rattle.command_definitions.proofs.AtCaret.{element-position, next-position, placed-finds}

-- a position in an element other than the root has two numbers
pub inside-element : (items : List Item) (position : List ℕ) → is_element items (parent_of position) ≡ true → nat_le 2 (length position) ≡ true
inside-element items [] e = absurd cc
inside-element items (offset ∷ []) e = absurd cc
inside-element items (index ∷ next ∷ path) e = more (length path)
  where
    more : (n : ℕ) → nat_le 2 (suc (suc n)) ≡ true
    more n = grind (arith, nat_tests)

-- what is there behind a split
pub record Behind (position : List ℕ) (new : State) : Type 0 where
  pub block : is_element new.document.items (parent_of position) ≡ true
  pub caret : is_there new.document.items (behind (parent_of position) ++ 0 ∷ []) ≡ true

pub split-behind : (registered : List ℕ → Bool) (number : ℕ) (position : List ℕ) (state new : State)
    → performed registered number (Split position) state ≡ Ok new → Behind position new
split-behind registered number position state new e =
    let s = split-made registered number position state new e in
    let a = one-applied (split position (fresh state.document.next_id)) state new s.applied in
    let h = (parts-of state.document.items state.cells position state.document.next_id a.made (at-least (length position) s.inside) a.effect).0 in
    let block = parent_of position in
    let next = behind block in
    let left_holds = inner-with_inner h.item h.kids (take (offset_of position) h.kids) h.holds in
    let right_holds = inner-with_inner (like state.document.next_id h.item) [] (drop (offset_of position) h.kids)
    (bare state.document.next_id h.item h.kids h.holds) in
    let r = found next a.made.0 (with_inner (drop (offset_of position) h.kids) (like state.document.next_id h.item)) h.right in
    let kids : children_at next a.made.0 ≡ Some (drop (offset_of position) h.kids) =
    ap (λ p. children_at p a.made.0) (path-joined next r.some)
    ∙ children-below (parent_of next) (offset_of next) a.made.0 r.level (drop (offset_of position) h.kids)
    (with_inner (drop (offset_of position) h.kids) (like state.document.next_id h.item)) r.there r.here right_holds in
    record {
      block = ap (λ (s : State). is_element s.document.items block) (sym a.result) ∙ ap (λ o. is_some (option_and_then inner o)) h.left ∙ ap is_some left_holds;
      caret = ap (λ (s : State). is_there s.document.items (next ++ 0 ∷ [])) (sym a.result)
          ∙ there-from a.made.0 next 0 (drop (offset_of position) h.kids) kids (omega arith);
    }
  where
    at-least : (n : ℕ) → nat_le 2 n ≡ true → 2 ≤ n
    at-least n e = grind (arith, nat_tests)

-- an element finds its place in a document where the position is there, and where the element that this is in is one
pub object-finds : (registered : List ℕ → Bool) (number : ℕ) (rules : Rules) (items : List Item) (name at : List ℕ) (edits : List Edit) (state : State)
    → placed rules items name at ≡ Some edits
    → is_there state.document.items at ≡ true → (is_plain_block_at rules items (parent_of at) ≡ true → is_element state.document.items (parent_of at) ≡ true)
    → FindsPlaces (all_performed registered number edits state)
object-finds registered number rules items name at edits state e there block = go (allows rules items at name) e
  where
    here : (inline : Bool) → FindsPlaces (all_performed registered number (InsertElement at name [] ∷ (if inline then [] else item_selected at ∷ [])) state)
    here true = last-finds registered number (InsertElement at name []) state (element-finds registered number state at name [] there)
    here false = placed-finds registered number at name state there

    first : (a b : Bool) → (a && b) ≡ true → a ≡ true
    first true b e = refl
    first false b e = e

    spot : (items : List Item) → is_element items (parent_of at) ≡ true → (t : Bool) → is_there items (if t then parent_of at else behind (parent_of at)) ≡ true
    spot items e true = element-position items (parent_of at) e
    spot items e false = next-position items (parent_of at) e

    nearby : is_element state.document.items (parent_of at) ≡ true → (start end : Bool) → (offset_of at == 0) ≡ start
        → FindsPlaces (all_performed registered number ((if start || end then [] else Split at ∷ []) ++
        (InsertElement (if start then parent_of at else behind (parent_of at)) name []
        ∷ item_selected (if start then parent_of at else behind (parent_of at)) ∷ [])) state)
    nearby h true end s = placed-finds registered number (parent_of at) name state (spot state.document.items h true)
    nearby h false true s = placed-finds registered number (behind (parent_of at)) name state (spot state.document.items h false)
    nearby h false false s =
        edits-find registered number (Split at) (InsertElement (behind (parent_of at)) name [] ∷ item_selected (behind (parent_of at)) ∷ []) state
        (split-finds registered number state at there (inside-element state.document.items at h))
        (λ next e. placed-finds registered (number + 1) (behind (parent_of at)) name next
        (spot next.document.items (split-behind registered number at state next e).block false))

    same : (a b : List Edit) → ◌≡◌ {A = Option (List Edit)} (Some a) (Some b) → a ≡ b
    same a b e = cc

    when-some : (t : Bool) (made : List Edit) → when t made ≡ Some edits → (t ≡ true) × (made ≡ edits)
    when-some true made e = (refl, same made edits e)
    when-some false made e = absurd cc

    go : (t : Bool) → (if t then Some (placed_here rules name at) else when
        (is_plain_block_at rules items (parent_of at) && allows rules items (parent_of at) name) (placed_beside items name at)) ≡ Some edits
        → FindsPlaces (all_performed registered number edits state)
    go true e = subst (λ edits. FindsPlaces (all_performed registered number edits state)) (same (placed_here rules name at) edits e)
        (here (is_inline_object rules name))
    go false e =
        let w = when-some (is_plain_block_at rules items (parent_of at) && allows rules items (parent_of at) name) (placed_beside items name at) e in
        subst (λ edits. FindsPlaces (all_performed registered number edits state)) w.1
        (nearby (block (first (is_plain_block_at rules items (parent_of at)) (allows rules items (parent_of at) name) w.0)) (offset_of at == 0)
        (is_at_end items at) refl)
