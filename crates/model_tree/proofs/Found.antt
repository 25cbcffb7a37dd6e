-- Reading an item, and the list of items at a path.
use Rattle.std.proofs.Common.{◌≡◌, ℕ, zero, suc, ◌+◌, ◌-◌, ◌<◌, ◌≤◌, true, false, nat_le, if◌then◌else◌, List, [], ◌∷◌, ◌++◌, map, length, take, drop, Option}
use Rattle.std.proofs.Common.{Some, None, option_map, option_and_then, slice_get, slice_set, refl, sym, ap, ◌∙◌, arith, Err}
use Rattle.std.specs.Prelude.{is_some}
use Rattle.std.proofs.lemmas.Bool.Decides.{nat_tests}
use Rattle.item_definitions.specs.Item.{Attributes, Item, character, element, list_of, items_of, inner, with_inner}
use Rattle.item_definitions.specs.Children.{Change, children_at, at, in_item}
use Rattle.operation_definitions.specs.Level.{replace}
use Rattle.operation_definitions.proofs.Lifting.{list_of-items_of}
use Rattle.operation_definitions.proofs.Levels.{most}
use Rattle.model_tree.specs.Parts.{TextParts, HeadParts}
use Rattle.model_tree.specs.Nodes.{characters}
use Rattle.model_tree.specs.Places.{parts_of, only, put_run, Gives}
use Rattle.model_tree.specs.declared.fault.TreeFault.{TreeFault}
use Rattle.model_tree.specs.declared.fault.TreeFault.TheVariants.{NoPlace, NoMemory}
use Rattle.model_tree.proofs.AtPaths.{at-nowhere}

-- no character is an element
pub no_element : (text : TextParts) (index : ℕ) → None ≡ option_and_then parts_of (slice_get (characters text) index)
no_element text index = go text.scalars index
  where
    go : (scalars : List ℕ) (index : ℕ) → None ≡ option_and_then parts_of (slice_get (map (λ scalar. character scalar text.attributes) scalars) index)
    go [] index = refl
    go (scalar ∷ scalars) zero = refl
    go (scalar ∷ scalars) (suc index) = go scalars index

-- an element alone in a list
pub one_element : (id : ℕ) (name : List ℕ) (attributes : Attributes) (children : List Item) (index : ℕ) → index < 1
    → Some (record { id = id; name = name; attributes = attributes }, children)
    ≡ option_and_then parts_of (slice_get (element id name attributes (items_of children) ∷ []) index)
one_element id name attributes children zero less = ap (λ kids. Some (record { id = id; name = name; attributes = attributes }, kids))
    (sym (list_of-items_of children))
one_element id name attributes children (suc index) less = absurd (omega arith)

module _ {X : Type 0} where
  pub get-front : (front back : List X) (index : ℕ) → index < length front → slice_get (front ++ back) index ≡ slice_get front index
  get-front [] back index less = absurd (omega arith)
  get-front (x ∷ front) back zero less = refl
  get-front (x ∷ front) back (suc index) less = get-front front back index (omega arith)

  pub get-back : (front back : List X) (index : ℕ) → length front ≤ index → slice_get (front ++ back) index ≡ slice_get back (index - length front)
  get-back [] back index most = (let same : index ≡ index - 0 = omega arith in ap (slice_get back) same)
  get-back (x ∷ front) back zero most = absurd (omega arith)
  get-back (x ∷ front) back (suc index) most = (let same : index - length front ≡ suc index - suc (length front) = omega arith
      in get-back front back index (omega arith) ∙ ap (slice_get back) same)

  -- an item that is read at an index in what is left of a list
  pub found_in : (first rest left all : List X) (index offset : ℕ) → left ≡ first ++ rest → index < length first → slice_get left index
      ≡ slice_get all offset → slice_get first index ≡ slice_get all offset
  found_in first rest left all index offset e less h = sym (ap (λ xs. slice_get xs index) e ∙ get-front first rest index less) ∙ h

  pub found_behind : (first rest left all : List X) (index offset : ℕ) → left ≡ first ++ rest → length first ≤ index → slice_get left index
      ≡ slice_get all offset
      → slice_get rest (index - length first) ≡ slice_get all offset
  found_behind first rest left all index offset e most h = sym (ap (λ xs. slice_get xs index) e ∙ get-back first rest index most) ∙ h

  pub not_found : (left all : List X) (index offset : ℕ) → left ≡ [] → slice_get left index ≡ slice_get all offset → None ≡ slice_get all offset
  not_found left all index offset e h = sym (ap (λ xs. slice_get xs index) e) ∙ h

  set-is : (xs : List X) (index : ℕ) (x new : X) → slice_get xs index ≡ Some x → slice_set xs index new ≡ take index xs ++ (new ∷ drop (index + 1) xs)
  set-is [] index x new e = absurd cc
  set-is (y ∷ xs) zero x new e = refl
  set-is (y ∷ xs) (suc index) x new e = (let same : suc (index + 1) ≡ suc index + 1 = omega arith in ap (λ zs. y ∷ zs) (set-is xs index x new e)
      ∙ ap (λ n. y ∷ (take index xs ++ (new ∷ drop n (y ∷ xs)))) same)

-- what the parts of an element say of it
record IsElement (item : Item) (head : HeadParts) (children : List Item) : Type 0 where
  inner_is : inner item ≡ Some children
  with_is : (new : List Item) → with_inner new item ≡ element head.id head.name head.attributes (items_of new)

is_element : (item : Item) (head : HeadParts) (children : List Item) → Some (head, children) ≡ parts_of item → IsElement item head children
is_element (character scalar attributes) head children e = absurd cc
is_element (element id name attributes kids) head children e =
    let p : (head, children) ≡ (record { id = id; name = name; attributes = attributes }, list_of kids) = cc in
    record {
      inner_is = ap (λ (q : HeadParts × List Item). Some q.1) (sym p);
      with_is = λ new. ap (λ (q : HeadParts × List Item). element q.0.id q.0.name q.0.attributes (items_of new)) (sym p);
    }

-- where no element stands at the first index of a path, none stands at the path
pub nowhere : (first : ℕ) (rest path : List ℕ) (items : List Item) → path ≡ first ∷ rest → None ≡ option_and_then parts_of (slice_get items first)
    → children_at path items ≡ None
nowhere first rest path items is e = ap (λ p. children_at p items) is ∙ go (slice_get items first) e
  where
    at_item : (item : Item) → None ≡ parts_of item → option_and_then (children_at rest) (inner item) ≡ None
    at_item (character scalar attributes) e = refl
    at_item (element id name attributes children) e = absurd cc

    go : (o : Option Item) → None ≡ option_and_then parts_of o → option_and_then (λ item. option_and_then (children_at rest) (inner item)) o ≡ None
    go None e = refl
    go (Some item) e = at_item item e

-- the item that was read
pub record Read (items : List Item) (index : ℕ) (head : HeadParts) (children : List Item) : Type 0 where
  item : Item
  there : slice_get items index ≡ Some item
  is : IsElement item head children

read : (items : List Item) (index : ℕ) (head : HeadParts) (children : List Item) → Some (head, children)
    ≡ option_and_then parts_of (slice_get items index) → Read items index head children
read items index head children e = go (slice_get items index) refl e
  where
    go : (o : Option Item) → slice_get items index ≡ o → Some (head, children) ≡ option_and_then parts_of o → Read items index head children
    go None s e = absurd cc
    go (Some item) s e = record { item = item; there = s; is = is_element item head children e }

-- the items at a path are those behind its first index in the element there
pub lower : (first : ℕ) (rest path : List ℕ) (items : List Item) (head : HeadParts) (children : List Item) (found : Option (List Item)) → path ≡ first ∷ rest
    → Some (head, children) ≡ option_and_then parts_of (slice_get items first) → found ≡ children_at rest children → found ≡ children_at path items
lower first rest path items head children found is e h =
    let r = read items first head children e in
    h ∙ sym (ap (λ p. children_at p items) is ∙ ap (option_and_then (λ item. option_and_then (children_at rest) (inner item))) r.there
    ∙ ap (option_and_then (children_at rest)) r.is.inner_is)

-- a run of the list itself
pub replaced : (offset count : ℕ) (new items made : List Item) → offset + count ≤ length items
    → made ≡ take offset items ++ (new ++ drop (offset + count) items) → put_run [] offset count new items ≡ Some made
replaced offset count new items made fits e =
    ap (λ t. option_map (λ (made : List Item × Unit {0}). made.0) (if t then Some (take offset items ++ (new ++ drop (offset + count) items), tt)
    else None)) (most (offset + count) (length items) fits) ∙ ap Some (sym e)

pub there : (offset count : ℕ) (new items : List Item) → offset + count ≤ length items → is_some (put_run [] offset count new items) ≡ true
there offset count new items fits = ap is_some (replaced offset count new items _ fits refl)

pub not_replaced : (offset count : ℕ) (new items : List Item) → length items < offset + count → put_run [] offset count new items ≡ None
not_replaced offset count new items less =
    let no : nat_le (offset + count) (length items) ≡ false = grind (arith, nat_tests) in
    ap (λ t. option_map (λ (made : List Item × Unit {0}). made.0) (if t then Some (take offset items ++ (new ++ drop (offset + count) items), tt) else None)) no

pub replaced_nowhere : (first : ℕ) (rest path : List ℕ) (offset count : ℕ) (new items : List Item) → path ≡ first ∷ rest
    → None ≡ option_and_then parts_of (slice_get items first) → put_run path offset count new items ≡ None
replaced_nowhere first rest path offset count new items is e =
    ap (option_map (λ (made : List Item × Unit {0}). made.0)) (at-nowhere (replace offset count (only new)) path items (nowhere first rest path items is e))

-- a run in the element at the first index of a path
put-lower : (first : ℕ) (rest path : List ℕ) (offset count : ℕ) (new items : List Item) (head : HeadParts) (children : List Item) → path ≡ first ∷ rest
    → Some (head, children) ≡ option_and_then parts_of (slice_get items first)
    → put_run path offset count new items
    ≡ option_map (λ made. take first items ++ (element head.id head.name head.attributes (items_of made) ∷ drop (first + 1) items))
    (put_run rest offset count new children)
put-lower first rest path offset count new items head children is e =
    let r = read items first head children e in
    let g : Change (Unit {0}) = replace offset count (only new) in
    ap (λ p. put_run p offset count new items) is
    ∙ ap (λ o. option_map (λ (made : List Item × Unit {0}). made.0)
    (option_and_then (λ item. option_map (λ (made : Item × Unit {0}). (slice_set items first made.0, made.1)) (in_item (at rest g) item)) o)) r.there
    ∙ ap (λ o. option_map (λ (made : List Item × Unit {0}). made.0) (option_map (λ (made : Item × Unit {0}). (slice_set items first made.0, made.1))
    (option_and_then (λ xs. option_map (λ (made : List Item × Unit {0}). (with_inner made.0 r.item, made.1)) (at rest g xs)) o))) r.is.inner_is
    ∙ go r (at rest g children)
  where
    go : (r : Read items first head children) (o : Option (List Item × Unit {0}))
        → option_map (λ (made : List Item × Unit {0}). made.0) (option_map (λ (made : Item × Unit {0}). (slice_set items first made.0, made.1))
        (option_map (λ (made : List Item × Unit {0}). (with_inner made.0 r.item, made.1)) o))
        ≡ option_map (λ made. take first items ++ (element head.id head.name head.attributes (items_of made) ∷ drop (first + 1) items))
        (option_map (λ (made : List Item × Unit {0}). made.0) o)
    go r None = refl
    go r (Some made) = ap Some (set-is items first r.item (with_inner made.0 r.item) r.there
        ∙ ap (λ x. take first items ++ (x ∷ drop (first + 1) items)) (r.is.with_is made.0))

pub replaced_lower : (first : ℕ) (rest path : List ℕ) (offset count : ℕ) (new items : List Item) (head : HeadParts) (children inside made : List Item)
    → path ≡ first ∷ rest
    → Some (head, children) ≡ option_and_then parts_of (slice_get items first) → put_run rest offset count new children ≡ Some inside
    → made ≡ take first items ++ ((element head.id head.name head.attributes (items_of inside) ∷ []) ++ drop (first + 1) items)
    → put_run path offset count new items ≡ Some made
replaced_lower first rest path offset count new items head children inside made is e h m =
    put-lower first rest path offset count new items head children is e
    ∙ ap (option_map (λ made. take first items ++ (element head.id head.name head.attributes (items_of made) ∷ drop (first + 1) items))) h ∙ ap Some (sym m)

pub fault_lower : (first : ℕ) (rest path : List ℕ) (offset count : ℕ) (new items : List Item) (head : HeadParts) (children : List Item)
    (fault : TreeFault) → path ≡ first ∷ rest
    → Some (head, children) ≡ option_and_then parts_of (slice_get items first) → Gives (put_run rest offset count new children) (Err fault)
    → Gives (put_run path offset count new items) (Err fault)
fault_lower first rest path offset count new items head children NoPlace is e h =
    put-lower first rest path offset count new items head children is e
    ∙ ap (option_map (λ made. take first items ++ (element head.id head.name head.attributes (items_of made) ∷ drop (first + 1) items))) h
fault_lower first rest path offset count new items head children NoMemory is e h =
    ap is_some (put-lower first rest path offset count new items head children is e) ∙ is-map _ (put_run rest offset count new children) ∙ h
  where
    is-map : {X Y : Type 0} (f : X → Y) (o : Option X) → is_some (option_map f o) ≡ is_some o
    is-map f None = refl
    is-map f (Some x) = refl

-- memory ran out with the items at hand
pub memory_lower : (first : ℕ) (rest path : List ℕ) (offset count : ℕ) (new items : List Item) (head : HeadParts) (children inside : List Item)
    → path ≡ first ∷ rest
    → Some (head, children) ≡ option_and_then parts_of (slice_get items first) → put_run rest offset count new children ≡ Some inside
    → is_some (put_run path offset count new items) ≡ true
memory_lower first rest path offset count new items head children inside is e h =
    ap is_some (replaced_lower first rest path offset count new items head children inside _ is e h refl)
