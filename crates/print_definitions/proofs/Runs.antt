-- What is printed of items is what is printed of their longest runs and their elements.
use Rattle.std.proofs.Common.{◌≡◌, ◌≢◌, ℕ, suc, ◌+◌, List, [], ◌∷◌, ◌++◌, map, length, Bool, true, false, nat_eq, ◌&&◌, Option, Some, None, refl, sym, ap, ◌∙◌}
use Rattle.std.proofs.Common.{append_assoc, append-nil, arith}
use Rattle.std.specs.Cmp.Lexicographic.{pointwise}
use Rattle.std.specs.List.{flat_map}
use Rattle.ck_base.specs.declared.value.Value.{Value as AttributeValue}
use Rattle.operation_definitions.specs.After.{same_value}
use Rattle.operation_definitions.proofs.Values.{same_value-own, same_value-true}
use Rattle.operation_definitions.proofs.Names.{numbers_same, same_numbers}
use Rattle.item_definitions.specs.Item.{Item, Items, Attributes, character, element, none, more, list_of}
use Rattle.machine_definitions.specs.Texts.{printed_scalar}
use Rattle.print_definitions.specs.Marks.{Ends, wanted, inside, outer_marks, marked}
use Rattle.print_definitions.specs.Values.{attributes_text, open_tag, close_tag}
use Rattle.print_definitions.specs.ModelText.{same_attributes, goes_on, before_character, run_start, run_end, run_of, item_text, inner_items_text, items_text}
use Rattle.print_definitions.specs.ModelText.{model_text}
use Rattle.print_definitions.specs.Runs.{Piece, run, tagged, items_of_piece, IsNoLonger, AreApart, AreRuns, in_text, pieces_text}

-- ---- equal attributes

both : (a b c : Bool) → a ≡ true → b ≡ true → c ≡ true → (a && b && c) ≡ true
both a b c p q r = λ i. p i && q i && r i

pub own_attributes : (attributes : Attributes) → same_attributes attributes attributes ≡ true
own_attributes [] = refl
own_attributes (entry ∷ attributes) = both _ _ _ (numbers_same entry.0 entry.0 refl) (same_value-own (Some entry.1)) (own_attributes attributes)

parts : (a b c : Bool) → (a && b && c) ≡ true → (a ≡ true) × (b ≡ true) × (c ≡ true)
parts true true true e = (refl, refl, refl)
parts true true false e = absurd cc
parts true false c e = absurd cc
parts false b c e = absurd cc

value_in : AttributeValue → Option AttributeValue → AttributeValue
value_in other None = other
value_in other (Some value) = value

pub equal_attributes : (attributes others : Attributes) → same_attributes attributes others ≡ true → attributes ≡ others
unfolding value_in
equal_attributes [] [] e = refl
equal_attributes [] (entry ∷ others) e = absurd cc
equal_attributes (entry ∷ attributes) [] e = absurd cc
equal_attributes (entry ∷ attributes) (other ∷ others) e =
    let p = parts (pointwise nat_eq entry.0 other.0) (same_value (Some entry.1) (Some other.1)) (same_attributes attributes others) e in
    λ i. (same_numbers entry.0 other.0 p.0 i, ap (value_in entry.1) (same_value-true (Some entry.1) (Some other.1) p.1) i)
    ∷ equal_attributes attributes others p.2 i

-- attributes that aren't equal don't go on
other_attributes : (attributes others : Attributes) → attributes ≢ others → same_attributes attributes others ≡ false
other_attributes attributes others d = go (same_attributes attributes others) refl
  where
    go : (t : Bool) → same_attributes attributes others ≡ t → t ≡ false
    go true e = absurd (d (equal_attributes attributes others e))
    go false e = refl

-- ---- the printed text

inner_is : (ends : Ends) (offset : ℕ) (before : Option Attributes) (items : Items) → inner_items_text ends offset before items
    ≡ items_text ends offset before (list_of items)
inner_is ends offset before none = refl
inner_is ends offset before (more item items) = ap (λ t. item_text ends offset before item ++ t) (inner_is ends (offset + 1) (run_of item) items)

-- characters that go on a run
pub going : (ends : Ends) (offset : ℕ) (attributes : Attributes) (scalars : List ℕ) (rest : List Item)
    → items_text ends offset (Some attributes) (map (λ scalar. character scalar attributes) scalars ++ rest) ≡ marked (outer_marks ends) offset scalars
    ++ items_text ends (offset + length scalars) (Some attributes) rest
going ends offset attributes [] rest = ap (λ at. items_text ends at (Some attributes) rest) (omega arith)
going ends offset attributes (scalar ∷ scalars) rest =
    ap (λ test. (before_character test (Some attributes) attributes (outer_marks ends offset) ++ printed_scalar scalar)
    ++ items_text ends (offset + 1) (Some attributes) (map (λ scalar. character scalar attributes) scalars ++ rest)) (own_attributes attributes)
    ∙ ap (λ t. (outer_marks ends offset ++ printed_scalar scalar) ++ t) (going ends (offset + 1) attributes scalars rest)
    ∙ ap (λ at. (outer_marks ends offset ++ printed_scalar scalar)
    ++ (marked (outer_marks ends) (offset + 1) scalars ++ items_text ends at (Some attributes) rest)) (omega arith)
    ∙ append_assoc (outer_marks ends offset) (printed_scalar scalar) _
    ∙ ap (λ t. outer_marks ends offset ++ t) (sym (append_assoc (printed_scalar scalar) (marked (outer_marks ends) (offset + 1) scalars) _))
    ∙ sym (append_assoc (outer_marks ends offset) (printed_scalar scalar ++ marked (outer_marks ends) (offset + 1) scalars) _)

tagged_is : (attributes : Attributes) (content : List ℕ) → in_text attributes content ≡ run_start attributes ++ (content ++ run_end (Some attributes))
tagged_is [] content = sym (append-nil content)
tagged_is (entry ∷ attributes) content = refl

-- what is closed, marks, what is opened, a character, more of them, what is closed behind them, and the rest
regrouped : (closed marks opened one others behind rest : List ℕ)
    → ((closed ++ (marks ++ opened)) ++ one) ++ (others ++ (behind ++ rest)) ≡ closed ++ ((marks ++ (opened ++ ((one ++ others) ++ behind))) ++ rest)
regrouped closed marks opened one others behind rest =
    append_assoc (closed ++ (marks ++ opened)) one (others ++ (behind ++ rest))
    ∙ append_assoc closed (marks ++ opened) (one ++ (others ++ (behind ++ rest)))
    ∙ ap (λ t. closed ++ t) (append_assoc marks opened (one ++ (others ++ (behind ++ rest)))
    ∙ ap (λ t. marks ++ (opened ++ t)) (sym (append_assoc one others (behind ++ rest)) ∙ sym (append_assoc (one ++ others) behind rest))
    ∙ ap (λ t. marks ++ t) (sym (append_assoc opened ((one ++ others) ++ behind) rest))
    ∙ sym (append_assoc marks (opened ++ ((one ++ others) ++ behind)) rest))

-- the first piece doesn't go on the run before it
abbrev IsNew : Option Attributes → List Piece → Type 0
IsNew None pieces = Unit {0}
IsNew (Some before) pieces = IsNoLonger before pieces

not_on : (before : Option Attributes) (attributes : Attributes) (scalar : ℕ) (scalars : List ℕ) (pieces : List Piece)
    → IsNew before (run attributes scalar scalars ∷ pieces) → goes_on before attributes ≡ false
not_on None attributes scalar scalars pieces h = refl
not_on (Some before) attributes scalar scalars pieces h = other_attributes before attributes h

pub length_run : (attributes : Attributes) (scalars : List ℕ) → length (map (λ scalar. character scalar attributes) scalars) ≡ length scalars
length_run attributes [] = refl
length_run attributes (scalar ∷ scalars) = ap suc (length_run attributes scalars)

printed_from : (ends : Ends) (offset : ℕ) (before : Option Attributes) (pieces : List Piece) → IsNew before pieces → AreApart pieces
    → items_text ends offset before (flat_map items_of_piece pieces) ≡ run_end before ++ pieces_text ends offset pieces
printed_from ends offset before [] new h = refl
printed_from ends offset before (tagged id name attributes children ∷ pieces) new h =
    let body : List ℕ = open_tag name (attributes_text attributes) ++ (items_text (inside offset ends) 0 None (list_of children) ++ close_tag name) in
    ap (λ t. (run_end before ++ (outer_marks ends offset ++ (open_tag name (attributes_text attributes) ++ (t ++ close_tag name))))
    ++ items_text ends (offset + 1) None (flat_map items_of_piece pieces)) (inner_is (inside offset ends) 0 None children)
    ∙ ap (λ t. (run_end before ++ (outer_marks ends offset ++ body)) ++ t) (printed_from ends (offset + 1) None pieces tt h)
    ∙ append_assoc (run_end before) (outer_marks ends offset ++ body) (pieces_text ends (offset + 1) pieces)
printed_from ends offset before (run attributes scalar scalars ∷ pieces) new h =
    let marks = outer_marks ends offset in
    let others = marked (outer_marks ends) (offset + 1) scalars in
    let after : List Item = flat_map items_of_piece pieces in
    let count : (offset + 1) + length scalars ≡ offset + length (items_of_piece (run attributes scalar scalars)) =
    omega (arith, length_run attributes scalars) in
    let later = printed_from ends (offset + length (items_of_piece (run attributes scalar scalars))) (Some attributes) pieces h.0 h.1 in
    ap (λ test. (before_character test before attributes marks ++ printed_scalar scalar) ++ items_text ends (offset + 1) (Some attributes)
    (map (λ scalar. character scalar attributes) scalars ++ after)) (not_on before attributes scalar scalars pieces new)
    ∙ ap (λ t. ((run_end before ++ (marks ++ run_start attributes)) ++ printed_scalar scalar) ++ t) (going ends (offset + 1) attributes scalars after
    ∙ ap (λ at. others ++ items_text ends at (Some attributes) after) count ∙ ap (λ t. others ++ t) later)
    ∙ regrouped (run_end before) marks (run_start attributes) (printed_scalar scalar) others (run_end (Some attributes))
    (pieces_text ends (offset + length (items_of_piece (run attributes scalar scalars))) pieces)
    ∙ ap (λ t. run_end before ++ ((marks ++ t) ++ pieces_text ends (offset + length (items_of_piece (run attributes scalar scalars))) pieces))
    (sym (tagged_is attributes (printed_scalar scalar ++ others)))

pub printed_runs : (ends : Option Ends) (items : List Item) (pieces : List Piece) → AreRuns items pieces → model_text ends items
    ≡ pieces_text (wanted ends) 0 pieces
printed_runs ends items pieces h = ap (items_text (wanted ends) 0 None) (sym h.whole) ∙ printed_from (wanted ends) 0 None pieces tt h.apart

-- ---- each list has its runs

runs_with : (scalar : ℕ) (attributes : Attributes) (items : List Item) (pieces : List Piece) → AreRuns items pieces → (more : List Piece)
    × AreRuns (character scalar attributes ∷ items) more
runs_with scalar attributes items [] h =
    (run attributes scalar [] ∷ [], record { whole = ap (λ others. character scalar attributes ∷ others) h.whole; apart = (tt, tt) })
runs_with scalar attributes items (tagged id name others children ∷ pieces) h = (
  run attributes scalar [] ∷ tagged id name others children ∷ pieces,
  record { whole = ap (λ others. character scalar attributes ∷ others) h.whole; apart = (tt, h.apart) },
)
runs_with scalar attributes items (run others next scalars ∷ pieces) h = go (same_attributes attributes others) refl
  where
    go : (t : Bool) → same_attributes attributes others ≡ t → (more : List Piece) × AreRuns (character scalar attributes ∷ items) more
    go true e =
        (let same : attributes ≡ others = equal_attributes attributes others e in
        (run others scalar (next ∷ scalars) ∷ pieces, record { whole = (λ i. character scalar (sym same i) ∷ h.whole i); apart = h.apart }))
    go false e = (
      run attributes scalar [] ∷ run others next scalars ∷ pieces,
      record {
        whole = ap (λ others. character scalar attributes ∷ others) h.whole;
        apart =
            ((λ same. differs (sym e ∙ ap (same_attributes attributes) (sym same) ∙ own_attributes attributes)), h.apart);
      },
    )
      where
        differs : false ≡ true → ⊥
        differs e = cc

pub some_runs : (items : List Item) → (pieces : List Piece) × AreRuns items pieces
some_runs [] = ([], record { whole = refl; apart = tt })
some_runs (character scalar attributes ∷ items) = let later = some_runs items in runs_with scalar attributes items later.0 later.1
some_runs (element id name attributes children ∷ items) =
    let later = some_runs items in (
      tagged id name attributes children ∷ later.0,
      record {
        whole = ap (λ others. element id name attributes children ∷ others) later.1.whole;
        apart =
            later.1.apart;
      },
    )
