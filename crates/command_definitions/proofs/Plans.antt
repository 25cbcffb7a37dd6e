-- The edits of each command that can be executed find their places.
use Rattle.std.proofs.Common.{◌≡◌, ℕ, ◌+◌, Bool, true, false, not, ◌&&◌, ◌||◌, if◌then◌else◌, List, [], ◌∷◌, ◌++◌, map, Option, Some, None, is_some}
use Rattle.std.proofs.Common.{unwrap_or, slice_get, Result, Ok, Err, refl, sym, ap, subst, ◌∙◌}
use Rattle.ck_base.specs.declared.value.Value.{Value as AttributeValue}
use Rattle.item_definitions.specs.Item.{Item}
use Rattle.item_definitions.specs.Children.{parent_of, offset_of}
use Rattle.item_definitions.specs.Position.{behind}
use Rattle.item_definitions.proofs.Paths.{path-joined}
use Rattle.operation_definitions.proofs.Names.{same_numbers, numbers_same}
use Rattle.schema_definitions.specs.Allowed.{Rules, is_registered, is_block, is_limit}
use Rattle.document_definitions.specs.Selection.{is_collapsed}
use Rattle.document_definitions.specs.Document.{Document, State}
use Rattle.document_definitions.specs.Sound.{IsSound}
use Rattle.edit_definitions.specs.declared.edit.Edit.{Edit}
use Rattle.edit_definitions.specs.declared.edit.Edit.TheVariants.{InsertText, Remove, Split, Unwrap, SelectionAttribute}
use Rattle.edit_definitions.specs.Places.{is_there, is_range, is_element, are_in_one}
use Rattle.edit_definitions.specs.Performed.{all_performed, apart, edits_made}
use Rattle.edit_definitions.proofs.Reached.{has-room}
use Rattle.edit_definitions.proofs.Stay.{place-there}
use Rattle.command_definitions.specs.declared.command.Command.{Command}
use Rattle.command_definitions.specs.declared.command.Command.TheVariants.{Toggle, Block, Enter, DeleteBackward, DeleteForward, TypeText, Object, Wrap}
use Rattle.command_definitions.specs.declared.command.CommandFault.{CommandFault}
use Rattle.command_definitions.specs.declared.command.CommandFault.TheVariants.{BadArgument, Disabled}
use Rattle.command_definitions.specs.Places.{is_plain_block_at}
use Rattle.command_definitions.specs.Clusters.{HaveScalars}
use Rattle.command_definitions.specs.Blocks.{may_be_wrapped}
use Rattle.command_definitions.specs.Deleting.{joins_blocks, content_deleted, caret_at, deleted_backward, deleted_forward, deletion}
use Rattle.command_definitions.specs.Table.{given, toggled_value, toggled_runs, blocks_of, typed_attributes, object_placed, wrap_is_on, blocks_wrapped}
use Rattle.command_definitions.specs.Table.{is_enabled, edits_of, is_fitting_argument, plan}
use Rattle.command_definitions.specs.Finding.{FindsPlaces}
use Rattle.command_definitions.proofs.Finding.{edits-find, last-finds, text-finds, remove-finds, split-finds, select-finds, document-finds}
use Rattle.command_definitions.proofs.AtCaret.{named-element, caret-range}
use Rattle.command_definitions.proofs.Carets.{CaseFinds, backward-finds, forward-finds}
use Rattle.command_definitions.proofs.Splitting.{inside-element, split-behind, object-finds}
use Rattle.command_definitions.proofs.Still.{still-edits-find}
use Rattle.command_definitions.proofs.Selected.{runs-still, blocks-still, wrapped-finds, unwrapped-finds}
use Rattle.command_definitions.proofs.Deleted.{parent-element, plain-some, start-there, end-there, deleted-finds}

module _ (rules : Rules) (document : Document) (sound : IsSound (apart document)) where
  registered : List ℕ → Bool
  registered = is_registered rules

  abbrev state : State
  state = apart document

  abbrev start : List ℕ
  start = document.selection.range.start

  abbrev end : List ℕ
  end = document.selection.range.end

  start-is : is_there document.items start ≡ true
  start-is = place-there document.items start sound.selection.0.0

  range-is : is_range document.items start end ≡ true
  range-is = (λ t. start-is t && place-there document.items end sound.selection.0.1 t && sound.selection.0.2 t)

  -- the start of the selection in a document in which it is there still
  block-is : (new : State) → is_there new.document.items start ≡ true → is_plain_block_at rules document.items (parent_of start) ≡ true
      → is_element new.document.items (parent_of start) ≡ true
  block-is new there plain =
      let r = has-room document.items start start-is in
      parent-element new.document.items (parent_of start) (offset_of start) (plain-some rules document.items (parent_of start) plain)
      (ap (is_there new.document.items) (sym (path-joined start r.some)) ∙ there)

  caret-finds : (number : ℕ) (new : State) (caret : List ℕ) → is_there new.document.items caret ≡ true
      → FindsPlaces (all_performed (is_registered rules) number (caret_at caret ∷ []) new)
  caret-finds number new caret there = last-finds (is_registered rules) number (caret_at caret) new
      (select-finds (is_registered rules) number new caret caret false (caret-range new.document.items caret there))

  toggled : (key : List ℕ) (value : Option AttributeValue) (t : Bool)
      → FindsPlaces (all_performed (is_registered rules) 1 (if t then SelectionAttribute key value ∷ [] else map (given key value)
      (toggled_runs rules key document)) state)
  toggled key value true = tt
  toggled key value false =
      still-edits-find (is_registered rules) 1 (map (given key value) (toggled_runs rules key document)) state
      (runs-still rules key document.items document.selection.range value)

  -- ---- enter

  first-of : (a b : Bool) → (a && b) ≡ true → (a ≡ true) × (b ≡ true)
  first-of true b e = (refl, e)
  first-of false b e = absurd cc

  other-of : (a b : Bool) → (a || b) ≡ true → a ≡ false → b ≡ true
  other-of true b e f = absurd cc
  other-of false b e f = e

  entered-rest : (number : ℕ) (new : State) → is_plain_block_at rules document.items (parent_of start) ≡ true → is_there new.document.items start ≡ true
      → (one : Bool)
      → (one ≡ false → is_there new.document.items (behind (parent_of start) ++ 0 ∷ []) ≡ true)
      → FindsPlaces (all_performed (is_registered rules) number
      ((if one then Split start ∷ [] else []) ++ (caret_at (behind (parent_of start) ++ 0 ∷ []) ∷ [])) new)
  entered-rest number new plain there true next =
      edits-find (is_registered rules) number (Split start) (caret_at (behind (parent_of start) ++ 0 ∷ []) ∷ []) new
      (split-finds (is_registered rules) number new start there
      (inside-element document.items start (named-element (λ name. is_block rules name && not (is_limit rules name)) document.items (parent_of start) plain)))
      (λ split e. caret-finds (number + 1) split (behind (parent_of start) ++ 0 ∷ []) (split-behind (is_registered rules) number start new split e).caret)
  entered-rest number new plain there false next = caret-finds number new (behind (parent_of start) ++ 0 ∷ []) (next refl)

  entered : (t one : Bool) → is_collapsed document.selection.range ≡ t → are_in_one start end ≡ one
      → (is_plain_block_at rules document.items (parent_of start) && (one || joins_blocks rules document.items document.selection.range)) ≡ true
      → FindsPlaces (all_performed (is_registered rules) 1 ((if t then [] else Remove start end ∷ [])
      ++ ((if one then Split start ∷ [] else []) ++ (caret_at (behind (parent_of start) ++ 0 ∷ []) ∷ []))) state)
  entered true one t u e =
      let on = first-of (is_plain_block_at rules document.items (parent_of start)) (one || joins_blocks rules document.items document.selection.range) e in
      let same : are_in_one start end ≡ true = numbers_same (parent_of start) (parent_of end) (ap parent_of (same_numbers start end t)) in
      entered-rest 1 state on.0 start-is one (λ f. absurd (no (sym same ∙ u ∙ f)))
    where
      no : true ≡ false → ⊥
      no e = absurd cc
  entered false one t u e =
      let on = first-of (is_plain_block_at rules document.items (parent_of start)) (one || joins_blocks rules document.items document.selection.range) e in
      edits-find (is_registered rules) 1 (Remove start end) ((if one then Split start ∷ [] else []) ++ (caret_at (behind (parent_of start) ++ 0 ∷ []) ∷ []))
      state
      (remove-finds (is_registered rules) 1 state start end range-is)
      (λ new f. entered-rest 2 new on.0 (start-there (is_registered rules) state start end range-is 1 new f) one
      (λ g. end-there (is_registered rules) state start end range-is 1 rules new
      (other-of one (joins_blocks rules document.items document.selection.range) on.1 g) f))

  -- ---- deletion

  case-finds : (o : Option (List Edit)) → CaseFinds (is_registered rules) state o → FindsPlaces (all_performed (is_registered rules) 1 (unwrap_or o []) state)
  case-finds None h = tt
  case-finds (Some edits) h = h

  deletion-finds : (at_caret : Rules → List Item → List ℕ → Option (List Edit)) → CaseFinds (is_registered rules) state (at_caret rules document.items start)
      → (t : Bool)
      → CaseFinds (is_registered rules) state (if t then at_caret rules document.items start else Some
      (content_deleted rules document.items document.selection.range ++ caret_at start ∷ []))
  deletion-finds at_caret h true = h
  deletion-finds at_caret h false = deleted-finds (is_registered rules) state start end range-is rules (caret_at start ∷ [])
      (λ number new there. caret-finds number new start there)

  -- ---- what takes the place of the selected content

  replaced-finds : (rest : List Edit) → ((number : ℕ) (new : State) → is_there new.document.items start ≡ true
      → FindsPlaces (all_performed (is_registered rules) number rest new)) → (t : Bool)
      → FindsPlaces (all_performed (is_registered rules) 1 ((if t then [] else content_deleted rules document.items document.selection.range) ++ rest) state)
  replaced-finds rest k true = k 1 state start-is
  replaced-finds rest k false = deleted-finds (is_registered rules) state start end range-is rules rest k

  object-rest : (name : List ℕ) (o : Option (List Edit)) → object_placed rules name document ≡ o → is_some o ≡ true → (number : ℕ) (new : State)
      → is_there new.document.items start ≡ true
      → FindsPlaces (all_performed (is_registered rules) number (unwrap_or o []) new)
  object-rest name None e h number new there = absurd cc
  object-rest name (Some edits) e h number new there = object-finds (is_registered rules) number rules document.items name start edits new e there
      (block-is new there)

  -- ---- wrapping

  wrapped : (name : List ℕ) (on : Bool) → wrap_is_on rules name document ≡ on
      → (on || may_be_wrapped rules document.items name (blocks_of rules document)) ≡ true
      → FindsPlaces (all_performed (is_registered rules) 1 (if on then Unwrap (parent_of (unwrap_or (slice_get (blocks_of rules document) 0) [])) ∷ [] else
      blocks_wrapped name (blocks_of rules document)) state)
  wrapped name true e h = unwrapped-finds (is_registered rules) 1 state name (blocks_of rules document) e
  wrapped name false e h = wrapped-finds (is_registered rules) 1 state rules document.selection.range name h

  -- each command
  commands-find : HaveScalars document.items → (command : Command) (text : List ℕ) → is_enabled rules command document ≡ true
      → FindsPlaces (all_performed (is_registered rules) 1 (edits_of rules command text document) state)
  commands-find scalars (Toggle key value) text e = toggled key (toggled_value rules key value document) (is_collapsed document.selection.range)
  commands-find scalars (Block name attributes) text e =
      still-edits-find (is_registered rules) 1 (edits_of rules (Block name attributes) text document) state
      (blocks-still rules document.items document.selection.range name attributes)
  commands-find scalars Enter text e = entered (is_collapsed document.selection.range) (are_in_one start end) refl refl e
  commands-find scalars DeleteBackward text e =
      case-finds (deletion deleted_backward rules document.items document.selection.range)
      (deletion-finds deleted_backward (backward-finds (is_registered rules) state rules start start-is) (is_collapsed document.selection.range))
  commands-find scalars DeleteForward text e =
      case-finds (deletion deleted_forward rules document.items document.selection.range)
      (deletion-finds deleted_forward (forward-finds (is_registered rules) state rules start scalars start-is) (is_collapsed document.selection.range))
  commands-find scalars TypeText text e =
      replaced-finds (InsertText start text (typed_attributes rules document) ∷ [])
      (λ number new there. last-finds (is_registered rules) number (InsertText start text (typed_attributes rules document)) new
      (text-finds (is_registered rules) number new start text (typed_attributes rules document) there)) (is_collapsed document.selection.range)
  commands-find scalars (Object name) text e =
      replaced-finds (unwrap_or (object_placed rules name document) []) (object-rest name (object_placed rules name document) refl e)
      (is_collapsed document.selection.range)
  commands-find scalars (Wrap name) text e = wrapped name (wrap_is_on rules name document) refl e

-- what is planned is what the command makes, and it can be executed
pub planned : (rules : Rules) (command : Command) (text : Option (List ℕ)) (document : Document) (edits : List Edit)
    → plan rules command text document ≡ Ok edits
    → (is_enabled rules command document ≡ true) × (edits_of rules command (unwrap_or text []) document ≡ edits)
planned rules command text document edits e = go (not (is_fitting_argument command text)) (is_enabled rules command document) refl e
  where
    same : (a b : List Edit) → ◌≡◌ {A = Result (List Edit) CommandFault} (Ok a) (Ok b) → a ≡ b
    same a b e = cc

    go : (t on : Bool) → is_enabled rules command document ≡ on
        → ◌≡◌ {A = Result (List Edit) CommandFault} (if t then Err BadArgument else
        (if on then Ok (edits_of rules command (unwrap_or text []) document) else Err Disabled)) (Ok edits)
        → (is_enabled rules command document ≡ true) × (edits_of rules command (unwrap_or text []) document ≡ edits)
    go true on h e = absurd cc
    go false true h e = (h, same (edits_of rules command (unwrap_or text []) document) edits e)
    go false false h e = absurd cc

pub plans-find : (rules : Rules) (command : Command) (text : Option (List ℕ)) (document : Document) (edits : List Edit) → IsSound (apart document)
    → HaveScalars document.items
    → plan rules command text document ≡ Ok edits → FindsPlaces (edits_made (is_registered rules) edits document)
plans-find rules command text document edits sound scalars e =
    let p = planned rules command text document edits e in
    document-finds (all_performed (is_registered rules) 1 edits (apart document))
    (subst (λ edits. FindsPlaces (all_performed (is_registered rules) 1 edits (apart document))) p.1
    (commands-find rules document sound scalars command (unwrap_or text []) p.0))
