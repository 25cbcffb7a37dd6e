-- What the fixer of attributes wants: the longest runs are the texts of a tree.
use Rattle.std.proofs.Common.{◌≡◌, ◌≢◌, ℕ, suc, ◌+◌, ◌<◌, List, [], ◌∷◌, ◌++◌, map, length, cond, Bool, true, false, if◌then◌else◌, Option}
use Rattle.std.proofs.Common.{Some, None, codes, refl, sym, ap, ◌∙◌, arith, append_assoc}
use Rattle.std.specs.List.{prefix_len}
use Rattle.std.specs.Option.{option_map_or}
use Rattle.item_definitions.specs.Item.{Item, Items, Attributes, character, element, list_of, items_of}
use Rattle.item_definitions.specs.Shift.{forward}
use Rattle.operation_definitions.proofs.Lifting.{list_of-items_of}
use Rattle.operation_definitions.proofs.Moves.{forward-is}
use Rattle.model_tree.specs.declared.items.Node.{Node}
use Rattle.model_tree.specs.declared.items.Node.TheVariants.{Run, Element}
use Rattle.model_tree.specs.Parts.{TextParts}
use Rattle.model_tree.specs.Nodes.{items_in, IsNormal, IsApart}
use Rattle.print_definitions.specs.ModelText.{same_attributes}
use Rattle.print_definitions.proofs.Runs.{own_attributes, equal_attributes}
use Rattle.schema_definitions.specs.Allowed.{Rules}
use Rattle.edit_definitions.specs.declared.edit.Edit.{Edit}
use Rattle.edit_definitions.specs.declared.edit.Target.{Target}
use Rattle.edit_definitions.specs.declared.edit.Target.TheVariants.{Range as InRange, Element as OfElement}
use Rattle.fix_definitions.specs.Wanted.{is_alike, dropped}
use Rattle.post_fix.specs.Dropped.{keys_dropped, standing, dropped_from, run_target, node_dropped, nodes_dropped}

-- a character before an item that isn't of these attributes
abbrev pub IsOther : Attributes → Option Item → Type 0
IsOther attributes left = option_map_or (is_alike attributes) left false ≡ false

-- what is before nodes isn't a character that goes on in them
abbrev pub IsBefore : Option Item → List Node → Type 0
IsBefore left [] = Unit {0}
IsBefore left (Run text ∷ nodes) = IsOther text.attributes left
IsBefore left (Element head children ∷ nodes) = Unit {0}

other_attributes : (attributes others : Attributes) → (attributes ≢ others) → same_attributes attributes others ≡ false
other_attributes attributes others d = go (same_attributes attributes others) refl
  where
    go : (b : Bool) → same_attributes attributes others ≡ b → b ≡ false
    go true e = absurd (d (equal_attributes attributes others e))
    go false e = refl

-- no more characters of these attributes stand at the front of nodes that are apart
none_alike : (text : TextParts) (nodes : List Node) → IsApart (Run text) nodes → IsNormal nodes → prefix_len (is_alike text.attributes) (items_in nodes) ≡ 0
none_alike text [] a h = refl
none_alike text (Run next ∷ nodes) a h = go next.scalars h.0
  where
    go : (scalars : List ℕ) → 0 < length (map (λ scalar. character scalar next.attributes) scalars)
        → prefix_len (is_alike text.attributes) (map (λ scalar. character scalar next.attributes) scalars ++ items_in nodes) ≡ 0
    go [] some = absurd (omega (arith, some))
    go (scalar ∷ scalars) some =
        ap (λ b. cond b (1 + prefix_len (is_alike text.attributes) (map (λ scalar. character scalar next.attributes) scalars ++ items_in nodes)) 0)
        (other_attributes next.attributes text.attributes (λ e. a (sym e)))
none_alike text (Element head children ∷ nodes) a h = refl

-- all characters of a text are alike
all_alike : (attributes : Attributes) (scalars : List ℕ) (rest : List Item) → prefix_len (is_alike attributes) rest ≡ 0
    → prefix_len (is_alike attributes) (map (λ scalar. character scalar attributes) scalars ++ rest) ≡ length scalars
all_alike attributes [] rest e = e
all_alike attributes (scalar ∷ scalars) rest e =
    ap (λ b. cond b (1 + prefix_len (is_alike attributes) (map (λ scalar. character scalar attributes) scalars ++ rest)) 0) (own_attributes attributes)
    ∙ ap (λ n. 1 + n) (all_alike attributes scalars rest e) ∙ omega arith

module _ (rules : Rules) (names : List (List ℕ)) (path : List ℕ) where
  -- what is dropped at a character, by the item before it
  abbrev drop_if : Attributes → Target → Bool → List Edit
  drop_if attributes target alike =
      option_map_or (λ target. keys_dropped rules names (codes "$text") attributes target) (if alike then None else Some target) []

  before_next : (text : TextParts) (nodes : List Node) (scalar : ℕ) → IsApart (Run text) nodes → IsBefore (Some (character scalar text.attributes)) nodes
  before_next text [] scalar a = tt
  before_next text (Run next ∷ nodes) scalar a = other_attributes text.attributes next.attributes a
  before_next text (Element head children ∷ nodes) scalar a = tt

  before_behind : (id : ℕ) (name : List ℕ) (attributes : Attributes) (children : Items) (nodes : List Node)
      → IsBefore (Some (element id name attributes children)) nodes
  before_behind id name attributes children [] = tt
  before_behind id name attributes children (Run next ∷ nodes) = refl
  before_behind id name attributes children (Element head kids ∷ nodes) = tt

  -- characters behind one of the same attributes aren't asked
  run_on : (attributes : Attributes) (rest : List Item) (wanted : ℕ → List Edit)
      → ((offset scalar : ℕ) → dropped_from rules names path offset (Some (character scalar attributes)) (items_of rest) ≡ wanted offset)
      → (scalars : List ℕ) (offset scalar : ℕ)
      → dropped_from rules names path offset (Some (character scalar attributes)) (items_of (map (λ scalar. character scalar attributes) scalars ++ rest))
      ≡ wanted (offset + length scalars)
  run_on attributes rest wanted h [] offset scalar = h offset scalar ∙ (let same : offset ≡ offset + 0 = omega arith in ap wanted same)
  run_on attributes rest wanted h (next ∷ scalars) offset scalar =
      ap (λ b. drop_if attributes
      (InRange (path ++ offset ∷ []) (forward
      (1 + prefix_len (is_alike attributes) (list_of (items_of (map (λ scalar. character scalar attributes) scalars ++ rest)))) (path ++ offset ∷ []))) b
      ++ dropped_from rules names path (offset + 1) (Some (character next attributes))
      (items_of (map (λ scalar. character scalar attributes) scalars ++ rest))) (own_attributes attributes)
      ∙ run_on attributes rest wanted h scalars (offset + 1) next
      ∙ (let same : offset + 1 + length scalars ≡ offset + length (next ∷ scalars) = omega arith in ap wanted same)

  first_of_run : (text : TextParts) (offset : ℕ) (left : Option Item) (scalar : ℕ) (scalars : List ℕ) (nodes : List Node)
      → text.scalars ≡ scalar ∷ scalars → IsOther text.attributes left → IsApart (Run text) nodes → IsNormal nodes
      → dropped rules (standing names (path ++ offset ∷ []) left (character scalar text.attributes)
      (list_of (items_of (map (λ scalar. character scalar text.attributes) scalars ++ items_in nodes))))
      ≡ keys_dropped rules names (codes "$text") text.attributes (run_target path offset text)
  first_of_run text offset left scalar scalars nodes whole other a h =
      let attributes = text.attributes in
      let count : prefix_len (is_alike attributes) (list_of (items_of (map (λ scalar. character scalar attributes) scalars ++ items_in nodes)))
      ≡ length scalars =
      ap (prefix_len (is_alike attributes)) (list_of-items_of (map (λ scalar. character scalar attributes) scalars ++ items_in nodes))
      ∙ all_alike attributes scalars (items_in nodes) (none_alike text nodes a h) in
      let long : offset + (1 + length scalars) ≡ offset + length text.scalars = omega (arith, ap length whole) in
      ap (λ b. drop_if attributes (InRange (path ++ offset ∷ [])
      (forward (1 + prefix_len (is_alike attributes) (list_of (items_of (map (λ scalar. character scalar attributes) scalars ++ items_in nodes))))
      (path ++ offset ∷ []))) b) other
      ∙ ap (λ n. keys_dropped rules names (codes "$text") attributes (InRange (path ++ offset ∷ []) (forward (1 + n) (path ++ offset ∷ [])))) count
      ∙ ap (λ end. keys_dropped rules names (codes "$text") attributes (InRange (path ++ offset ∷ []) end))
      (forward-is (1 + length scalars) path offset ∙ ap (λ n. path ++ n ∷ []) long)

  pub nodes_are : (nodes : List Node) (offset : ℕ) (left : Option Item) → IsNormal nodes → IsBefore left nodes
      → dropped_from rules names path offset left (items_of (items_in nodes)) ≡ nodes_dropped rules names path offset nodes
  nodes_are [] offset left h b = refl
  nodes_are (Element head children ∷ nodes) offset left h b =
      append_assoc (keys_dropped rules names head.name head.attributes (OfElement (path ++ offset ∷ [])))
      (dropped_from rules (names ++ head.name ∷ []) (path ++ offset ∷ []) 0 None (items_of children)) _
      ∙ sym (append_assoc (keys_dropped rules names head.name head.attributes (OfElement (path ++ offset ∷ [])))
      (dropped_from rules (names ++ head.name ∷ []) (path ++ offset ∷ []) 0 None (items_of children)) _)
      ∙ ap (λ t. node_dropped rules names path offset (Element head children) ++ t)
      (nodes_are nodes (offset + 1) (Some (element head.id head.name head.attributes (items_of children))) h.2
      (before_behind head.id head.name head.attributes (items_of children) nodes))
  nodes_are (Run text ∷ nodes) offset left h b =
      go text.scalars refl h.0 (λ offset scalar. nodes_are nodes offset (Some (character scalar text.attributes)) h.2 (before_next text nodes scalar h.1))
    where
      go : (scalars : List ℕ) → text.scalars ≡ scalars → 0 < length (map (λ scalar. character scalar text.attributes) text.scalars)
          → ((offset scalar : ℕ) → dropped_from rules names path offset (Some (character scalar text.attributes)) (items_of (items_in nodes))
          ≡ nodes_dropped rules names path offset nodes)
          → dropped_from rules names path offset left (items_of (map (λ scalar. character scalar text.attributes) scalars ++ items_in nodes))
          ≡ keys_dropped rules names (codes "$text") text.attributes (run_target path offset text)
          ++ nodes_dropped rules names path (offset + length (map (λ scalar. character scalar text.attributes) scalars)) nodes
      go [] whole some rest = absurd (omega (arith, some, ap (λ scalars. length (map (λ scalar. character scalar text.attributes) scalars)) whole))
      go (scalar ∷ scalars) whole some rest =
          let same : offset + 1 + length scalars ≡ offset + length (map (λ scalar. character scalar text.attributes) (scalar ∷ scalars)) = omega
          (arith, long scalars) in
          λ i. first_of_run text offset left scalar scalars nodes whole b h.1 h.2 i
          ++ (run_on text.attributes (items_in nodes) (λ offset. nodes_dropped rules names path offset nodes) rest scalars (offset + 1) scalar
          ∙ ap (λ n. nodes_dropped rules names path n nodes) same) i
        where
          long : (scalars : List ℕ) → length (map (λ scalar. character scalar text.attributes) scalars) ≡ length scalars
          long [] = refl
          long (scalar ∷ scalars) = ap suc (long scalars)
