-- An empty document is sound, and it stays sound where the selection gets an override.
use Rattle.std.proofs.Common.{◌≡◌, ℕ, ◌≤◌, ◌^◌, List, [], ◌∷◌, Option, Result, Ok, Err, OnOk, OnErr, refl, sym, subst, false, arith}
use Rattle.std.specs.List.{IsDistinct}
use Rattle.std.specs.declared.alloc.AllocError.{AllocError}
use Rattle.ck_base.specs.declared.value.Value.{Value as AttributeValue}
use Rattle.ck_base.proofs.Ordered.{ordered_with_value}
use Rattle.item_definitions.specs.Item.{Item}
use Rattle.item_definitions.specs.Position.{between}
use Rattle.document_definitions.specs.Markers.{Markers}
use Rattle.document_definitions.specs.Selection.{Selection, selected, with_override}
use Rattle.document_definitions.specs.Document.{empty_state}
use Rattle.document_definitions.specs.Sound.{IsSound}
use Rattle.model_doc.specs.Parts.{state_of}

empty_itself : (first_id : ℕ) → 1 ≤ first_id → first_id ≤ 2 ^ 63 → IsSound (empty_state first_id)
unfolding IsDistinct
empty_itself first_id least most = record {
  distinct = tt;
  drawn = λ k d less. absurd (omega (arith, less));
  next = most;
  some = least;
  markers = λ k d less. absurd (omega (arith, less));
  named = refl;
  selection = ((((λ e. cc), omega arith), ((λ e. cc), omega arith), refl), λ _. refl);
  keyed = refl;
  limited = (omega arith, omega arith);
}

pub empty_sound : (items : List Item) (cells : List (List Item)) (markers : Markers) (selection : Selection) (first_id : ℕ) → items ≡ [] → cells ≡ []
    → markers ≡ []
    → selection ≡ selected (between (0 ∷ []) (0 ∷ [])) false → 1 ≤ first_id → first_id ≤ 2 ^ 63 → IsSound (state_of items cells markers selection first_id)
empty_sound items cells markers selection first_id no_items no_cells no_markers start least most =
    subst IsSound (sym (λ i. state_of (no_items i) (no_cells i) (no_markers i) (start i) first_id)) (empty_itself first_id least most)

overridden_sound : (items : List Item) (cells : List (List Item)) (markers : Markers) (selection : Selection) (next_id : ℕ) (key : List ℕ)
    (value : Option AttributeValue)
    → IsSound (state_of items cells markers selection next_id) → IsSound (state_of items cells markers (with_override key value selection) next_id)
overridden_sound items cells markers selection next_id key value sound = record {
  distinct = sound.distinct;
  drawn = sound.drawn;
  next = sound.next;
  some = sound.some;
  markers = sound.markers;
  named = sound.named;
  selection = sound.selection;
  keyed = ordered_with_value key value selection.overrides sound.keyed;
  limited = sound.limited;
}

pub override_keeps : (items : List Item) (cells : List (List Item)) (markers : Markers) (selection other : Selection) (next_id : ℕ) (key : List ℕ)
    (value : Option AttributeValue) (result : Result (Unit {0}) AllocError)
    → IsSound (state_of items cells markers selection next_id) → OnOk result (other ≡ with_override key value selection)
    → OnErr result (other ≡ selection) → IsSound (state_of items cells markers other next_id)
override_keeps items cells markers selection other next_id key value (Ok u) sound ok err =
    subst (λ s. IsSound (state_of items cells markers s next_id)) (sym ok)
    (overridden_sound items cells markers selection next_id key value sound)
override_keeps items cells markers selection other next_id key value (Err fault) sound ok err =
    subst (λ s. IsSound (state_of items cells markers s next_id)) (sym err) sound
