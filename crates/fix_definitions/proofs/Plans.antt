-- When a list of edits that was joined, arranged or tested is empty.
use Rattle.std.proofs.Common.{◌≡◌, List, [], ◌∷◌, ◌++◌, reverse, Bool, true, false, All, ◌↔◌, refl, sym, ap, ◌∙◌, map}
use Rattle.std.specs.List.{flat_map}
use Rattle.std.proofs.lemmas.List.{reverse-reverse}
use Rattle.std.proofs.lemmas.List.Elements.{All-nil, All-cons, All-head, All-tail}
use Rattle.item_definitions.specs.Item.{Item}
use Rattle.document_definitions.specs.Markers.{Markers}
use Rattle.document_definitions.specs.Selection.{Selection}
use Rattle.schema_definitions.specs.Allowed.{Rules}
use Rattle.edit_definitions.specs.declared.edit.Edit.{Edit}
use Rattle.fix_definitions.specs.declared.stock.StockFixer.{StockFixer}
use Rattle.fix_definitions.specs.declared.stock.StockFixer.TheVariants.{DropAttributes, Fill, JoinNeighbours, RemoveEmpty, Require, SelectionPlace}
use Rattle.fix_definitions.specs.Wanted.{edit_if, wanted}
use Rattle.fix_definitions.specs.Places.{places}
use Rattle.fix_definitions.specs.Selecting.{selection_wanted}
use Rattle.fix_definitions.specs.Fixes.{arranged, fixes}

pub both_empty : {A : Type 0} (xs ys : List A) → xs ++ ys ≡ [] → (xs ≡ []) × (ys ≡ [])
both_empty [] ys e = (refl, e)
both_empty (x ∷ xs) ys e = absurd cc

pub empty_both : {A : Type 0} (xs ys : List A) → xs ≡ [] → ys ≡ [] → xs ++ ys ≡ []
empty_both xs ys e f = ap (λ t. t ++ ys) e ∙ f

module _ {A B : Type 0} (f : A → List B) where
  pub none_wanted : (xs : List A) → flat_map f xs ≡ [] → All (λ x. f x ≡ []) xs
  none_wanted [] e = All-nil (λ x. f x ≡ [])
  none_wanted (x ∷ xs) e =
      let parts = both_empty (f x) (flat_map f xs) e in
      All-cons (λ x. f x ≡ []) x xs parts.0 (none_wanted xs parts.1)

  pub wanted_none : (xs : List A) → All (λ x. f x ≡ []) xs → flat_map f xs ≡ []
  wanted_none [] h = refl
  wanted_none (x ∷ xs) h =
      empty_both (f x) (flat_map f xs) (All-head (λ x. f x ≡ []) x xs h) (wanted_none xs (All-tail (λ x. f x ≡ []) x xs h))

turned_empty : {A : Type 0} (xs : List A) → reverse xs ≡ [] → xs ≡ []
turned_empty xs e = sym (reverse-reverse xs) ∙ ap reverse e

pub arranged_empty : (fixer : StockFixer) (edits : List Edit) → arranged fixer edits ≡ [] → edits ≡ []
arranged_empty DropAttributes edits e = e
arranged_empty (Fill parent child) edits e = e
arranged_empty (JoinNeighbours name) edits e = turned_empty edits e
arranged_empty (RemoveEmpty name) edits e = turned_empty edits e
arranged_empty (Require parent child) edits e = e
arranged_empty SelectionPlace edits e = e

pub empty_arranged : (fixer : StockFixer) (edits : List Edit) → edits ≡ [] → arranged fixer edits ≡ []
empty_arranged fixer edits e = ap (arranged fixer) e ∙ nothing fixer
  where
    nothing : (fixer : StockFixer) → arranged fixer [] ≡ []
    nothing DropAttributes = refl
    nothing (Fill parent child) = refl
    nothing (JoinNeighbours name) = refl
    nothing (RemoveEmpty name) = refl
    nothing (Require parent child) = refl
    nothing SelectionPlace = refl

pub no_edit : (test : Bool) (edit : Edit) → edit_if test edit ≡ [] → test ≡ false
no_edit true edit e = absurd cc
no_edit false edit e = refl

pub not_tested : (test : Bool) (edit : Edit) → test ≡ false → edit_if test edit ≡ []
not_tested test edit e = ap (λ b. edit_if b edit) e

pub empty_map : {A B : Type 0} (f : A → B) (xs : List A) → map f xs ≡ [] → xs ≡ []
empty_map f [] e = refl
empty_map f (x ∷ xs) e = absurd cc

pub nothing_wanted : (rules : Rules) (fixer : StockFixer) (items : List Item) (markers : Markers) (selection : Selection)
    → (fixes rules fixer items markers selection ≡ [])
    ↔ (All (λ place. wanted rules fixer place ≡ []) (places items) × (selection_wanted rules fixer items selection ≡ []))
nothing_wanted rules fixer items markers selection = (there, back)
  where
    there : fixes rules fixer items markers selection ≡ []
        → All (λ place. wanted rules fixer place ≡ []) (places items) × (selection_wanted rules fixer items selection ≡ [])
    there e =
        let parts = both_empty (arranged fixer (flat_map (wanted rules fixer) (places items))) (selection_wanted rules fixer items selection) e in
        (none_wanted (wanted rules fixer) (places items) (arranged_empty fixer (flat_map (wanted rules fixer) (places items)) parts.0), parts.1)

    back : All (λ place. wanted rules fixer place ≡ []) (places items) × (selection_wanted rules fixer items selection ≡ [])
        → fixes rules fixer items markers selection ≡ []
    back h =
        empty_both (arranged fixer (flat_map (wanted rules fixer) (places items))) (selection_wanted rules fixer items selection)
        (empty_arranged fixer (flat_map (wanted rules fixer) (places items)) (wanted_none (wanted rules fixer) (places items) h.0)) h.1
