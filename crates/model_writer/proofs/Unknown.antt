-- The first name of items that is unknown.
use Rattle.std.proofs.Common.{◌≡◌, ℕ, ◌+◌, ◌<◌, ◌≤◌, Bool, true, false, not, List, [], ◌∷◌, ◌++◌, map, drop, length, get_or, find, Option, Some, None}
use Rattle.std.proofs.Common.{option_and_then, if◌then◌else◌, refl, sym, ap, ◌∙◌}
use Rattle.std.proofs.lemmas.List.{drop_more, drop_all}
use Rattle.std.specs.Option.{option_or}
use Rattle.std.specs.List.{flat_map, enumerate_from}
use Rattle.item_definitions.specs.Item.{Item, Items, Attributes, character, element, none, more, items_of}
use Rattle.item_definitions.specs.Children.{walk_item, walk_inner}
use Rattle.edit_definitions.specs.Places.{is_known}
use Rattle.edit_definitions.specs.Planned.{name_of, is_unknown, unknown_in}
use Rattle.model_tree.specs.declared.items.Node.TheVariants.{Run, Element}
use Rattle.model_tree.specs.Parts.{TextParts, HeadParts}
use Rattle.model_tree.specs.declared.items.Node.{Node}
use Rattle.model_tree.specs.Nodes.{characters, items_at, items_in}

module _ (registered : List ℕ → Bool) where
  -- the unknown name of an item itself
  abbrev own : Item → Option (List ℕ)
  own (character scalar attributes) = None
  own (element id name attributes children) = if not (is_known registered name) then Some name else None

  -- the first unknown name of items with their paths
  abbrev pick : List (List ℕ × Item) → Option (List ℕ)
  pick entries = option_and_then (λ entry. name_of entry.1) (find (λ entry. is_unknown registered (name_of entry.1)) entries)

  pick-cons : (path : List ℕ) (item : Item) (entries : List (List ℕ × Item)) → pick ((path, item) ∷ entries) ≡ option_or (own item) (pick entries)
  pick-cons path (character scalar attributes) entries = refl
  pick-cons path (element id name attributes children) entries = go (not (is_known registered name))
    where
      go : (t : Bool) → option_and_then (λ (entry : List ℕ × Item). name_of entry.1) (if t then Some (path, element id name attributes children)
          else find (λ (entry : List ℕ × Item). is_unknown registered (name_of entry.1)) entries)
          ≡ option_or (if t then Some name else None) (pick entries)
      go true = refl
      go false = refl

  or-assoc : {A : Type 0} (a b c : Option A) → option_or (option_or a b) c ≡ option_or a (option_or b c)
  or-assoc None b c = refl
  or-assoc (Some a) b c = refl

  pick-append : (front back : List (List ℕ × Item)) → pick (front ++ back) ≡ option_or (pick front) (pick back)
  pick-append [] back = refl
  pick-append (entry ∷ front) back =
      pick-cons entry.0 entry.1 (front ++ back) ∙ ap (option_or (own entry.1)) (pick-append front back)
      ∙ sym (ap (λ o. option_or o (pick back)) (pick-cons entry.0 entry.1 front) ∙ or-assoc (own entry.1) (pick front) (pick back))

  abbrev mutual
    -- the first unknown name of an item and all that is in it
    first_item : Item → Option (List ℕ)
    first_item (character scalar attributes) = None
    first_item (element id name attributes children) = option_or (if not (is_known registered name) then Some name else None) (first_inner children)

    first_inner : Items → Option (List ℕ)
    first_inner none = None
    first_inner (more item items) = option_or (first_item item) (first_inner items)

  abbrev first_in : List Item → Option (List ℕ)
  first_in [] = None
  first_in (item ∷ items) = option_or (first_item item) (first_in items)

  mutual
    walked-item : (path : List ℕ) (item : Item) → pick (walk_item path item) ≡ first_item item
    walked-item path (character scalar attributes) = refl
    walked-item path (element id name attributes children) =
        pick-cons path (element id name attributes children) (walk_inner path 0 children)
        ∙ ap (option_or (own (element id name attributes children))) (walked-inner path 0 children)

    walked-inner : (path : List ℕ) (index : ℕ) (items : Items) → pick (walk_inner path index items) ≡ first_inner items
    walked-inner path index none = refl
    walked-inner path index (more item items) =
        pick-append (walk_item (path ++ index ∷ []) item) (walk_inner path (index + 1) items)
        ∙ (λ i. option_or (walked-item (path ++ index ∷ []) item i) (walked-inner path (index + 1) items i))

  walked : (index : ℕ) (items : List Item) → pick (flat_map (λ entry. walk_item (entry.0 ∷ []) entry.1) (enumerate_from index items)) ≡ first_in items
  walked index [] = refl
  walked index (item ∷ items) =
      pick-append (walk_item (index ∷ []) item) (flat_map (λ entry. walk_item (entry.0 ∷ []) entry.1) (enumerate_from (index + 1) items))
      ∙ (λ i. option_or (walked-item (index ∷ []) item i) (walked (index + 1) items i))

  pub unknown-first : (items : List Item) → unknown_in registered items ≡ first_in items
  unknown-first items = walked 0 items

  first-append : (front back : List Item) → first_in (front ++ back) ≡ option_or (first_in front) (first_in back)
  first-append [] back = refl
  first-append (item ∷ front) back = ap (option_or (first_item item)) (first-append front back)
      ∙ sym (or-assoc (first_item item) (first_in front) (first_in back))

  unknown-append : (front back : List Item) → unknown_in registered (front ++ back) ≡ option_or (unknown_in registered front) (unknown_in registered back)
  unknown-append front back = unknown-first (front ++ back) ∙ first-append front back ∙ sym (λ i. option_or (unknown-first front i) (unknown-first back i))

  inner-first : (items : List Item) → first_inner (items_of items) ≡ first_in items
  inner-first [] = refl
  inner-first (item ∷ items) = ap (option_or (first_item item)) (inner-first items)

  pub text_names : (node : Node) (text : TextParts) → node ≡ Run text → unknown_in registered (items_at node) ≡ None
  text_names node text is = ap (λ n. unknown_in registered (items_at n)) is ∙ unknown-first (characters text) ∙ go text.scalars
    where
      go : (scalars : List ℕ) → first_in (map (λ scalar. character scalar text.attributes) scalars) ≡ None
      go [] = refl
      go (scalar ∷ scalars) = go scalars

  or-none : {A : Type 0} (o : Option A) → option_or o None ≡ o
  or-none None = refl
  or-none (Some x) = refl

  element-first : (id : ℕ) (name : List ℕ) (attributes : Attributes) (children : List Item)
      → unknown_in registered (element id name attributes (items_of children) ∷ [])
      ≡ option_or (if not (is_known registered name) then Some name else None) (unknown_in registered children)
  element-first id name attributes children =
      unknown-first (element id name attributes (items_of children) ∷ [])
      ∙ or-none (option_or (if not (is_known registered name) then Some name else None) (first_inner (items_of children)))
      ∙ ap (option_or (if not (is_known registered name) then Some name else None)) (inner-first children ∙ sym (unknown-first children))

  pub unknown_element : (node : Node) (head : HeadParts) (children : List Item) → node ≡ Element head children → is_known registered head.name ≡ false
      → unknown_in registered (items_at node) ≡ Some head.name
  unknown_element node head children is e =
      ap (λ n. unknown_in registered (items_at n)) is ∙ element-first head.id head.name head.attributes children
      ∙ ap (λ t. option_or (if not t then Some head.name else None) (unknown_in registered children)) e

  pub known_element : (node : Node) (head : HeadParts) (children among : List Item) → node ≡ Element head children → is_known registered head.name
      ≡ true → among ≡ children
      → unknown_in registered (items_at node) ≡ unknown_in registered among
  known_element node head children among is e same =
      ap (λ n. unknown_in registered (items_at n)) is ∙ element-first head.id head.name head.attributes children
      ∙ ap (λ t. option_or (if not t then Some head.name else None) (unknown_in registered children)) e ∙ ap (unknown_in registered) (sym same)

  at-index : (nodes : List Node) (index : ℕ) (node : Node) → index < length nodes → node ≡ get_or nodes index node → items_in (drop index nodes)
      ≡ items_at node ++ items_in (drop (index + 1) nodes)
  at-index nodes index node less here = ap items_in (drop_more nodes index node less ∙ ap (λ n. n ∷ drop (index + 1) nodes) (sym here))

  pub found_first : (nodes : List Node) (index : ℕ) (node : Node) (name : List ℕ) → index < length nodes → node ≡ get_or nodes index node
      → Some name ≡ unknown_in registered (items_at node)
      → Some name ≡ unknown_in registered (items_in (drop index nodes))
  found_first nodes index node name less here found =
      sym (ap (unknown_in registered) (at-index nodes index node less here) ∙ unknown-append (items_at node) (items_in (drop (index + 1) nodes))
      ∙ ap (λ o. option_or o (unknown_in registered (items_in (drop (index + 1) nodes)))) (sym found))

  pub passed_over : (nodes : List Node) (index : ℕ) (node : Node) → index < length nodes → node ≡ get_or nodes index node
      → None ≡ unknown_in registered (items_at node)
      → unknown_in registered (items_in (drop index nodes)) ≡ unknown_in registered (items_in (drop (index + 1) nodes))
  passed_over nodes index node less here nothing =
      ap (unknown_in registered) (at-index nodes index node less here) ∙ unknown-append (items_at node) (items_in (drop (index + 1) nodes))
      ∙ ap (λ o. option_or o (unknown_in registered (items_in (drop (index + 1) nodes)))) (sym nothing)

  -- nothing is left
  pub all_passed : (nodes : List Node) (index : ℕ) → length nodes ≤ index → unknown_in registered (items_in (drop index nodes)) ≡ None
  all_passed nodes index past = ap (λ xs. unknown_in registered (items_in xs)) (drop_all index nodes past)
