-- What edits make of a document doesn't hang on the cells beside it.
use Rattle.std.proofs.Common.{◌≡◌, ℕ, ◌+◌, Bool, List, [], ◌∷◌, length, Result, Ok, Err, refl, sym, ap, ◌∙◌}
use Rattle.ck_base.specs.declared.faults.EditFault.{EditFault}
use Rattle.item_definitions.specs.Item.{Item}
use Rattle.operation_definitions.specs.Operation.{Fault, Operation}
use Rattle.document_definitions.specs.Document.{Document, State, all_applied}
use Rattle.edit_definitions.specs.declared.edit.Edit.{Edit}
use Rattle.edit_definitions.specs.declared.edit.Edit.TheVariants.{InsertText, InsertElement, Remove, Move, SetAttribute, RemoveAttribute, Rename, Split, Merge}
use Rattle.edit_definitions.specs.declared.edit.Edit.TheVariants.{Wrap, Unwrap, AddMarker, UpdateMarker, RemoveMarker, Select, SelectionAttribute, InsertItems}
use Rattle.edit_definitions.specs.Planned.{◌>>=◌, operations_of}
use Rattle.edit_definitions.specs.Performed.{limit_fault, as_step, selecting, performed, all_performed, apart, document_made, edits_made}
use Rattle.edit_definitions.proofs.Cells.{AreTwins, plans-twins}
use Rattle.edit_definitions.proofs.Alike.{document_in, all-same}

-- what an edit makes of the selection hangs on the document alone
selecting-alone : (edit : Edit) (state : State) → (selecting edit state).document ≡ (selecting edit (apart state.document)).document
selecting-alone (Select start end backward) state = refl
selecting-alone (SelectionAttribute key value) state = refl
selecting-alone (InsertText at text attributes) state = refl
selecting-alone (InsertElement at name attributes) state = refl
selecting-alone (Remove start end) state = refl
selecting-alone (Move start end to) state = refl
selecting-alone (SetAttribute target key value) state = refl
selecting-alone (RemoveAttribute target key) state = refl
selecting-alone (Rename path name) state = refl
selecting-alone (Split at) state = refl
selecting-alone (Merge at) state = refl
selecting-alone (Wrap start end name attributes) state = refl
selecting-alone (Unwrap path) state = refl
selecting-alone (AddMarker name start end) state = refl
selecting-alone (UpdateMarker name start end) state = refl
selecting-alone (RemoveMarker name) state = refl
selecting-alone (InsertItems at items) state = refl

made-same : (edit : Edit) (number : ℕ) (r twin : Result State Fault) → document_in r ≡ document_in twin
    → document_made (as_step number r >>= (λ made. Ok (selecting edit made))) ≡ document_made (as_step number twin >>= (λ made. Ok (selecting edit made)))
made-same edit number (Ok state) (Ok twin) e =
    let same : state.document ≡ twin.document = cc in
    ap Ok (selecting-alone edit state ∙ ap (λ document. (selecting edit (apart document)).document) same ∙ sym (selecting-alone edit twin))
made-same edit number (Ok state) (Err fault) e = absurd cc
made-same edit number (Err fault) (Ok twin) e = absurd cc
made-same edit number (Err fault) (Err same) e = (let equal : fault ≡ same = cc in ap (λ fault. Err (limit_fault number fault)) equal)

planned-same : (edit : Edit) (number : ℕ) (document : Document) (cells others : List (List Item)) (p twin : Result (List Operation) EditFault)
    → AreTwins (length cells) (length others) p twin
    → document_made (p >>= (λ operations. as_step number (all_applied operations record { document = document; cells = cells })
    >>= (λ made. Ok (selecting edit made))))
    ≡ document_made (twin >>= (λ operations. as_step number (all_applied operations record { document = document; cells = others })
    >>= (λ made. Ok (selecting edit made))))
planned-same edit number document cells others (Err fault) (Err same) h = ap Err h
planned-same edit number document cells others (Ok operations) (Err fault) h = absurd h
planned-same edit number document cells others (Err fault) (Ok twins) h = absurd h
planned-same edit number document cells others (Ok operations) (Ok twins) h =
    made-same edit number (all_applied operations record { document = document; cells = cells })
    (all_applied twins record { document = document; cells = others })
    (ap (λ os. document_in (all_applied os record { document = document; cells = cells })) h.these
    ∙ all-same operations h.outward (length cells) (length others) document cells others refl refl
    ∙ ap (λ os. document_in (all_applied os record { document = document; cells = others })) (sym h.those))

performed-same : (registered : List ℕ → Bool) (number : ℕ) (edit : Edit) (document : Document) (cells others : List (List Item))
    → document_made (performed registered number edit record { document = document; cells = cells })
    ≡ document_made (performed registered number edit record { document = document; cells = others })
performed-same registered number edit document cells others =
    planned-same edit number document cells others (operations_of registered number edit record { document = document; cells = cells })
    (operations_of registered number edit record { document = document; cells = others })
    (plans-twins registered number edit document cells others)

rest-same : (r twin : Result State EditFault) (next : State → Result State EditFault) → document_made r ≡ document_made twin
    → ((state other : State) → state.document ≡ other.document → document_made (next state) ≡ document_made (next other)) → document_made (r >>= next)
    ≡ document_made (twin >>= next)
rest-same (Ok state) (Ok twin) next e h = (let same : state.document ≡ twin.document = cc in h state twin same)
rest-same (Ok state) (Err fault) next e h = absurd cc
rest-same (Err fault) (Ok twin) next e h = absurd cc
rest-same (Err fault) (Err same) next e h = e

-- over two states of one document
pub alike : (registered : List ℕ → Bool) (number : ℕ) (edits : List Edit) (state other : State) → state.document ≡ other.document
    → document_made (all_performed registered number edits state) ≡ document_made (all_performed registered number edits other)
alike registered number [] state other e = ap Ok e
alike registered number (edit ∷ edits) state other e =
    rest-same (performed registered number edit state) (performed registered number edit other) (all_performed registered (number + 1) edits)
    (ap (λ document. document_made (performed registered number edit record { document = document; cells = state.cells })) e
    ∙ performed-same registered number edit other.document state.cells other.cells)
    (alike registered (number + 1) edits)

pub read_no_cells : (registered : List ℕ → Bool) (number : ℕ) (edits : List Edit) (state : State)
    → document_made (all_performed registered number edits state) ≡ document_made (all_performed registered number edits (apart state.document))
read_no_cells registered number edits state = alike registered number edits state (apart state.document) refl

-- what the edits of a change make of a state is, but for the cells, what they make of its document
pub made_alone : (registered : List ℕ → Bool) (edits : List Edit) (state : State)
    → document_made (all_performed registered 1 edits state) ≡ edits_made registered edits state.document
made_alone registered edits state = read_no_cells registered 1 edits state

pub edits-ok : (registered : List ℕ → Bool) (edits : List Edit) (state new : State) → all_performed registered 1 edits state ≡ Ok new
    → edits_made registered edits state.document ≡ Ok new.document
edits-ok registered edits state new e = sym (made_alone registered edits state) ∙ ap document_made e

pub edits-err : (registered : List ℕ → Bool) (edits : List Edit) (state : State) (fault : EditFault) → all_performed registered 1 edits state ≡ Err fault
    → edits_made registered edits state.document ≡ Err fault
edits-err registered edits state fault e = sym (made_alone registered edits state) ∙ ap document_made e
