-- What a document is like of which the fixer of attributes wants nothing.
use Rattle.std.proofs.Common.{◌≡◌, ℕ, zero, suc, ◌+◌, List, [], ◌∷◌, ◌++◌, map, filter, cond, Bool, true, false, not, if◌then◌else◌, All, ◌↔◌, Option, Some}
use Rattle.std.proofs.Common.{None, refl, sym, ap, ◌∙◌, subst, arith}
use Rattle.std.specs.Option.{option_map_or}
use Rattle.std.specs.List.{prefix_len}
use Rattle.std.specs.Map.{keys_of}
use Rattle.std.proofs.lemmas.List.Elements.{All-nil, All-cons, All-head, All-tail}
use Rattle.ck_base.specs.declared.value.Value.{Value as AttributeValue}
use Rattle.item_definitions.specs.Item.{Item, Attributes, character, element, attributes_of}
use Rattle.item_definitions.specs.Children.{item_at, parent_of, offset_of}
use Rattle.item_definitions.specs.Shift.{forward}
use Rattle.item_definitions.proofs.Paths.{path-joined}
use Rattle.edit_definitions.specs.declared.edit.Edit.{Edit}
use Rattle.edit_definitions.specs.declared.edit.Edit.TheVariants.{RemoveAttribute}
use Rattle.edit_definitions.specs.declared.edit.Target.{Target}
use Rattle.edit_definitions.specs.declared.edit.Target.TheVariants.{Range as InRange, Element as OfElement}
use Rattle.edit_definitions.proofs.Reached.{found}
use Rattle.print_definitions.proofs.Runs.{equal_attributes}
use Rattle.schema_definitions.specs.Allowed.{Rules, check_attribute}
use Rattle.breach_definitions.specs.Breach.{item_name}
use Rattle.breach_definitions.specs.Obeys.{ancestors_at, MayHaveAll}
use Rattle.fix_definitions.specs.declared.stock.StockFixer.TheVariants.{DropAttributes}
use Rattle.fix_definitions.specs.Places.{left_of, right_of, places}
use Rattle.fix_definitions.specs.Wanted.{denied_keys, is_alike, target_at, dropped, wanted}
use Rattle.fix_definitions.specs.AtRest.{place_at, MayHaveTheirs}
use Rattle.fix_definitions.proofs.Plans.{empty_map}
use Rattle.fix_definitions.proofs.Found.{everywhere, at_all}
use Rattle.fix_definitions.proofs.Neighbours.{left_is, no_left, ancestors_same}

-- ---- denied keys

module _ (test : List ℕ → Bool) where
  abbrev Passes : (List ℕ × AttributeValue) → Type 0
  Passes entry = test entry.0 ≡ true

  passing : (attributes : Attributes) → filter (λ key. not (test key)) (keys_of attributes) ≡ [] → All Passes attributes
  passing [] e = All-nil Passes
  passing (entry ∷ attributes) e = go (passing attributes) (test entry.0) refl e
    where
      go : (filter (λ key. not (test key)) (keys_of attributes) ≡ [] → All Passes attributes) → (b : Bool) → test entry.0 ≡ b
          → cond (not b) (entry.0 ∷ filter (λ key. not (test key)) (keys_of attributes)) (filter (λ key. not (test key)) (keys_of attributes)) ≡ []
          → All Passes (entry ∷ attributes)
      go rest true t e = All-cons Passes entry attributes t (rest e)
      go rest false t e = absurd cc

  passed : (attributes : Attributes) → All Passes attributes → filter (λ key. not (test key)) (keys_of attributes) ≡ []
  passed [] h = refl
  passed (entry ∷ attributes) h =
      ap (λ b. cond (not b) (entry.0 ∷ filter (λ key. not (test key)) (keys_of attributes)) (filter (λ key. not (test key)) (keys_of attributes)))
      (All-head Passes entry attributes h)
      ∙ passed attributes (All-tail Passes entry attributes h)

module _ (rules : Rules) (items : List Item) where
  abbrev MayHave : List ℕ → Item → Type 0
  MayHave path item = MayHaveAll rules (ancestors_at path items) item (attributes_of item)

  none_denied : (path : List ℕ) (item : Item) → denied_keys rules (ancestors_at path items) item ≡ [] → MayHave path item
  none_denied path item e = passing (check_attribute rules (ancestors_at path items) (item_name item)) (attributes_of item) e

  -- ---- an item that isn't asked has the attributes of the character before it

  alike_has : (path : List ℕ) (scalar : ℕ) (attributes : Attributes) (left : Item) → is_alike attributes left ≡ true → MayHave path left
      → MayHave path (character scalar attributes)
  alike_has path scalar attributes (character other others) a h =
      subst (MayHaveAll rules (ancestors_at path items) (character scalar attributes)) (equal_attributes others attributes a) h
  alike_has path scalar attributes (element id name others children) a h = absurd cc

  -- what is dropped of a character behind another item
  abbrev dropped_behind : Attributes → List (List ℕ) → Target → Option Item → List Edit
  dropped_behind attributes keys target left =
      option_map_or (λ target. map (RemoveAttribute target) keys) (if option_map_or (is_alike attributes) left false then None else Some target) []

  asked : (path : List ℕ) (item : Item) (o : Option Item) → left_of items path ≡ o → dropped rules (place_at items path item) ≡ []
      → ((left : Item) → o ≡ Some left → MayHave path left) → MayHave path item
  asked path (element id name attributes children) o l w h =
      none_denied path (element id name attributes children)
      (empty_map (RemoveAttribute (OfElement path)) (denied_keys rules (ancestors_at path items) (element id name attributes children)) w)
  asked path (character scalar attributes) o l w h = go o (sym (ap (dropped_behind attributes keys target) l) ∙ w) h
    where
      keys : List (List ℕ)
      keys = denied_keys rules (ancestors_at path items) (character scalar attributes)

      target : Target
      target = InRange path (forward (1 + prefix_len (is_alike attributes) (right_of items path)) path)

      none : map (RemoveAttribute target) keys ≡ [] → MayHave path (character scalar attributes)
      none e = none_denied path (character scalar attributes) (empty_map (RemoveAttribute target) keys e)

      behind : (left : Item) (b : Bool) → is_alike attributes left ≡ b
          → option_map_or (λ target. map (RemoveAttribute target) keys) (if b then None else Some target) [] ≡ [] → MayHave path left
          → MayHave path (character scalar attributes)
      behind left true a e h = alike_has path scalar attributes left a h
      behind left false a e h = none e

      go : (o : Option Item) → dropped_behind attributes keys target o ≡ [] → ((left : Item) → o ≡ Some left → MayHave path left)
          → MayHave path (character scalar attributes)
      go None w h = none w
      go (Some left) w h = behind left (is_alike attributes left) refl w (h left refl)

  -- from the first item of a parent on
  along : ((path : List ℕ) (item : Item) → item_at path items ≡ Some item → dropped rules (place_at items path item) ≡ [])
      → (parent : List ℕ) (offset : ℕ) (item : Item) → item_at (parent ++ offset ∷ []) items ≡ Some item → MayHave (parent ++ offset ∷ []) item
  along w parent zero item e =
      asked (parent ++ 0 ∷ []) item None (no_left items parent) (w (parent ++ 0 ∷ []) item e) (λ left f. absurd cc)
  along w parent (suc offset) item e =
      let next : offset + 1 ≡ suc offset = omega arith in
      asked (parent ++ suc offset ∷ []) item (item_at (parent ++ offset ∷ []) items)
      (ap (λ n. left_of items (parent ++ n ∷ [])) (sym next) ∙ left_is items parent offset) (w (parent ++ suc offset ∷ []) item e)
      (λ left f. subst (λ names. MayHaveAll rules names left (attributes_of left)) (ancestors_same parent offset (suc offset) items)
      (along w parent offset left f))

  nothing_dropped : (keys : List (List ℕ)) (target : Option Target) → keys ≡ [] → option_map_or (λ target. map (RemoveAttribute target) keys) target [] ≡ []
  nothing_dropped keys None e = refl
  nothing_dropped keys (Some target) e = ap (map (RemoveAttribute target)) e

  pub allowed : All (λ place. wanted rules DropAttributes place ≡ []) (places items) ↔ MayHaveTheirs rules items
  allowed = (there, back)
    where
      there : All (λ place. wanted rules DropAttributes place ≡ []) (places items) → MayHaveTheirs rules items
      there h path item e =
          let joined = path-joined path (found path items item e).some in
          subst (λ path. MayHave path item) (sym joined)
          (along (everywhere (λ place. wanted rules DropAttributes place ≡ []) items h).1 (parent_of path) (offset_of path) item
          (sym (ap (λ path. item_at path items) joined) ∙ e))

      back : MayHaveTheirs rules items → All (λ place. wanted rules DropAttributes place ≡ []) (places items)
      back h =
          at_all (λ place. wanted rules DropAttributes place ≡ []) items (
            refl,
            λ path item e. nothing_dropped (denied_keys rules (ancestors_at path items) item) (target_at (place_at items path item) item)
                (passed (check_attribute rules (ancestors_at path items) (item_name item)) (attributes_of item) (h path item e)),
          )
