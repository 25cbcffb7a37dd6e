-- What a selection is like of which its fixer wants nothing.
use Rattle.std.proofs.Common.{◌≡◌, ℕ, List, [], ◌∷◌, reverse, Bool, true, false, cond, not, ◌&&◌, if◌then◌else◌, All, Contains, ◌↔◌, inl, inr, Option, Some}
use Rattle.std.proofs.Common.{None, find, refl, sym, ap, ◌∙◌, subst}
use Rattle.std.specs.Option.{option_or, option_map_or}
use Rattle.std.proofs.lemmas.Bool.{or_cases, or_left, or_right, and_parts, and_from}
use Rattle.std.proofs.lemmas.List.{reverse-append}
use Rattle.std.proofs.lemmas.List.Elements.{All-nil, All-cons, All-contains, Contains-append_left, Contains-append_right, Contains-append_cases}
use Rattle.item_definitions.specs.Item.{Item}
use Rattle.item_definitions.specs.Children.{item_at}
use Rattle.item_definitions.specs.Position.{Range, behind, not_after, is_before}
use Rattle.operation_definitions.proofs.Names.{same_numbers, numbers_same}
use Rattle.document_definitions.specs.Selection.{same_position}
use Rattle.breach_definitions.proofs.Placed.{first}
use Rattle.schema_definitions.specs.Allowed.{Rules}
use Rattle.edit_definitions.specs.declared.edit.Edit.{Edit}
use Rattle.fix_definitions.specs.Selecting.{positions, may_hold_text, is_selectable_item, is_round_selectable, may_be_selected, nearest_text, selecting_at}
use Rattle.fix_definitions.specs.Selecting.{selection_placed}
use Rattle.fix_definitions.specs.AtRest.{IsRoundOne, HasNoText, IsWellSelected}
use Rattle.fix_definitions.proofs.Positions.{members}

-- ---- searches

module _ {X : Type 0} (test : X → Bool) where
  none_found : (xs : List X) → find test xs ≡ None → All (λ x. test x ≡ false) xs
  none_found [] e = All-nil (λ x. test x ≡ false)
  none_found (x ∷ xs) e = go (none_found xs) (test x) refl e
    where
      go : (find test xs ≡ None → All (λ x. test x ≡ false) xs) → (b : Bool) → test x ≡ b → cond b (Some x) (find test xs) ≡ None
          → All (λ x. test x ≡ false) (x ∷ xs)
      go rest true t e = absurd cc
      go rest false t e = All-cons (λ x. test x ≡ false) x xs t (rest e)

  found_none : (xs : List X) → ((x : X) → Contains xs x → test x ≡ false) → find test xs ≡ None
  found_none [] h = refl
  found_none (x ∷ xs) h =
      ap (λ b. cond b (Some x) (find test xs)) (h x (first x xs)) ∙ found_none xs (λ y c. h y (Contains-append_right (x ∷ []) xs y c))

turned : {X : Type 0} (xs : List X) (x : X) → Contains xs x → Contains (reverse xs) x
turned [] x c = c
turned (y ∷ xs) x c =
    subst (λ ys. Contains ys x) (sym (reverse-append (y ∷ []) xs))
    (elim (Contains-append_cases (y ∷ []) xs x c) [
      | inl d ↦ Contains-append_right (reverse xs) (y ∷ []) x d
      | inr d ↦ Contains-append_left (reverse xs) (y ∷ []) x (turned xs x d)
    ])

turned_back : {X : Type 0} (xs : List X) (x : X) → Contains (reverse xs) x → Contains xs x
turned_back [] x c = c
turned_back (y ∷ xs) x c =
    elim (Contains-append_cases (reverse xs) (y ∷ []) x (subst (λ ys. Contains ys x) (reverse-append (y ∷ []) xs) c)) [
      | inl d ↦ Contains-append_right (y ∷ []) xs x (turned_back xs x d)
      | inr d ↦ Contains-append_left (y ∷ []) xs x d
    ]

both_none : {X : Type 0} (o p : Option X) → option_or o p ≡ None → (o ≡ None) × (p ≡ None)
both_none None p e = (refl, e)
both_none (Some x) p e = absurd cc

-- text is found neither from a position on nor before it
neither : (a b : Bool) → (a && b) ≡ false → (a && not b) ≡ false → a ≡ false
neither true true e f = absurd cc
neither true false e f = absurd cc
neither false b e f = refl

fails : (a b : Bool) → a ≡ false → (a && b) ≡ false
fails a b e = ap (λ c. c && b) e

module _ (rules : Rules) (items : List Item) where
  nowhere : (start : List ℕ) → nearest_text rules items start ≡ None → HasNoText rules items
  nowhere start e position at =
      let parts = both_none (find (λ position. may_hold_text rules items position && not_after start position) (positions items))
      (find (λ position. may_hold_text rules items position && is_before position start) (reverse (positions items))) e in
      let there = (members items position).1 at in
      neither (may_hold_text rules items position) (not_after start position)
      (All-contains (λ position. (may_hold_text rules items position && not_after start position) ≡ false) (positions items) position
      (none_found (λ position. may_hold_text rules items position && not_after start position) (positions items) parts.0) there)
      (All-contains (λ position. (may_hold_text rules items position && is_before position start) ≡ false) (reverse (positions items)) position
      (none_found (λ position. may_hold_text rules items position && is_before position start) (reverse (positions items)) parts.1)
      (turned (positions items) position there))

  no_nearest : (start : List ℕ) → HasNoText rules items → nearest_text rules items start ≡ None
  no_nearest start h =
      ap (λ o. option_or o (find (λ position. may_hold_text rules items position && is_before position start) (reverse (positions items))))
      (found_none (λ position. may_hold_text rules items position && not_after start position) (positions items)
      (λ position c. fails (may_hold_text rules items position) (not_after start position) (h position ((members items position).0 c))))
      ∙ found_none (λ position. may_hold_text rules items position && is_before position start) (reverse (positions items))
      (λ position c. fails (may_hold_text rules items position) (is_before position start)
      (h position ((members items position).0 (turned_back (positions items) position c))))

  round_one : (range : Range) → is_round_selectable rules items range ≡ true → IsRoundOne rules items range
  round_one range e =
      let parts = and_parts (same_position range.end (behind range.start)) (option_map_or (is_selectable_item rules) (item_at range.start items) false) e in
      go (item_at range.start items) refl parts.1 (same_numbers range.end (behind range.start) parts.0)
    where
      go : (o : Option Item) → item_at range.start items ≡ o → option_map_or (is_selectable_item rules) o false ≡ true → range.end ≡ behind range.start
          → IsRoundOne rules items range
      go None f s same = absurd cc
      go (Some item) f s same = (item, f, s, same)

  is_round_one : (range : Range) → IsRoundOne rules items range → is_round_selectable rules items range ≡ true
  is_round_one range h =
      and_from (same_position range.end (behind range.start)) (option_map_or (is_selectable_item rules) (item_at range.start items) false)
      (numbers_same range.end (behind range.start) h.3) (ap (λ o. option_map_or (is_selectable_item rules) o false) h.1 ∙ h.2)

  placed_by : (range : Range) → Bool → List Edit
  placed_by range b = if b then [] else selecting_at (nearest_text rules items range.start)

  pub well_selected : (range : Range) → (selection_placed rules items range ≡ []) ↔ IsWellSelected rules items range
  unfolding placed_by
  well_selected range = (there, back)
    where
      in_text : Bool
      in_text = may_hold_text rules items range.start && may_hold_text rules items range.end

      not_selecting : (o : Option (List ℕ)) → selecting_at o ≡ [] → o ≡ None
      not_selecting None e = refl
      not_selecting (Some position) e = absurd cc

      there : selection_placed rules items range ≡ [] → IsWellSelected rules items range
      there e = go (may_be_selected rules items range) refl e
        where
          go : (b : Bool) → may_be_selected rules items range ≡ b → placed_by range b ≡ [] → IsWellSelected rules items range
          go true m e = elim (or_cases in_text (is_round_selectable rules items range) m) [
            | inl text ↦ (let parts = and_parts (may_hold_text rules items range.start) (may_hold_text rules items range.end) text in inl (parts.0, parts.1))
            | inr round ↦ inr (inl (round_one range round))
          ]
          go false m e = inr (inr (nowhere range.start (not_selecting (nearest_text rules items range.start) e)))

      chosen : may_be_selected rules items range ≡ true → selection_placed rules items range ≡ []
      chosen m = ap (placed_by range) m

      back : IsWellSelected rules items range → selection_placed rules items range ≡ []
      back (inl text) =
          chosen (or_left in_text (is_round_selectable rules items range)
          (and_from (may_hold_text rules items range.start) (may_hold_text rules items range.end) text.0 text.1))
      back (inr (inl round)) = chosen (or_right in_text (is_round_selectable rules items range) (is_round_one range round))
      back (inr (inr none)) = go (may_be_selected rules items range)
        where
          go : (b : Bool) → placed_by range b ≡ []
          go true = refl
          go false = ap selecting_at (no_nearest range.start none)
