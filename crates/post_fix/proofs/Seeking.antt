-- The steps of the searches for the nearest position.
use Rattle.std.proofs.Common.{◌≡◌, ℕ, zero, suc, ◌+◌, ◌-◌, ◌<◌, ◌≤◌, ◌^◌, ◌==◌, List, [], ◌∷◌, ◌++◌, map, length, take, Bool, true, false, Option, Some, None}
use Rattle.std.proofs.Common.{if◌then◌else◌, get_or, nat_lt, nat_le, cond, refl, sym, ap, ◌∙◌, subst, arith}
use Rattle.std.specs.Option.{option_or}
use Rattle.std.proofs.lemmas.Bool.Decides.{nat_tests}
use Rattle.item_definitions.specs.Item.{Item, character, element, list_of, items_of, count_of, depth_of}
use Rattle.operation_definitions.proofs.Lifting.{list_of-items_of, items_of-list_of}
use Rattle.model_tree.specs.Parts.{TextParts, HeadParts}
use Rattle.model_tree.specs.declared.items.Node.{Node}
use Rattle.model_tree.specs.declared.items.Node.TheVariants.{Run, Element}
use Rattle.model_tree.specs.Nodes.{items_at, items_in}
use Rattle.model_tree.proofs.Counts.{count-append, depth-append, count-inner, depth-inner}
use Rattle.item_definitions.proofs.Sizes.{length-count}
use Rattle.model_tree.proofs.Steps.{up_to}
use Rattle.std.proofs.lemmas.List.{length_push, length-append}
use Rattle.schema_definitions.specs.Allowed.{Rules}
use Rattle.post_fix.specs.Nearest.{element_parts, Stands, first_in, first_behind, last_in, last_ahead, last_here}
use Rattle.post_fix.specs.Walked.{AreBelow}

-- ---- into the element at an index

same_parts : {A : Type 0} (x y : A) → Some x ≡ Some y → x ≡ y
same_parts x y e = cc

pub stands_inside : (position rest : List ℕ) (index : ℕ) (items read : List Item) (parts : HeadParts × List Item) → position ≡ index ∷ rest
    → false ≡ (length rest == 0) → read ≡ items → Some parts ≡ element_parts read index → Stands position items → Stands rest parts.1
stands_inside position rest index items read parts e some r p h = go rest some (subst (λ position. Stands position items) e h)
  where
    go : (rest : List ℕ) → false ≡ (length rest == 0) → Stands (index ∷ rest) items → Stands rest parts.1
    go [] some h = absurd cc
    go (next ∷ rest) some h =
        subst (λ (p : HeadParts × List Item). Stands (next ∷ rest) p.1)
        (same_parts h.0 parts (sym h.1 ∙ ap (λ items. element_parts items index) (sym r) ∙ sym p)) h.2

inside_sizes : (items : List Item) (index : ℕ) (parts : HeadParts × List Item) → Some parts ≡ element_parts items index
    → (index < length items) × (count_of parts.1 ≤ count_of items) × (1 + depth_of parts.1 ≤ depth_of items)
inside_sizes [] index parts e = absurd cc
inside_sizes (character scalar attributes ∷ items) zero parts e = absurd cc
inside_sizes (element id name attributes children ∷ items) zero parts e =
    let same = same_parts parts (record { id = id; name = name; attributes = attributes }, list_of children) e in
    let whole : children ≡ items_of parts.1 = sym (items_of-list_of children) ∙ ap (λ (p : HeadParts × List Item). items_of p.1) (sym same) in (
      omega arith,
      omega (
        arith,
        count-append (element id name attributes children ∷ []) items,
        ap (λ c. count_of (element id name attributes c ∷ [])) whole,
        count-inner parts.1,
      ),
      omega (
        arith,
        depth-append (element id name attributes children ∷ []) items,
        ap (λ c. depth_of (element id name attributes c ∷ [])) whole,
        depth-inner parts.1,
      ),
    )
inside_sizes (item ∷ items) (suc index) parts e =
    let later = inside_sizes items index parts e in
    let long = later.0 in let few = later.1 in let flat = later.2 in
    (omega (arith, long), omega (arith, few, count-append (item ∷ []) items), omega (arith, flat, depth-append (item ∷ []) items))

pub below_element : (path here : List ℕ) (index : ℕ) (items read : List Item) (parts : HeadParts × List Item) → read ≡ items
    → here ≡ path ++ index ∷ [] → Some parts ≡ element_parts read index → AreBelow path 0 items → AreBelow here 0 parts.1
below_element path here index items read parts r w p h =
    let sizes = inside_sizes read index parts p in
    let few = sizes.1 in let flat = sizes.2 in let all = h.few in let deep = h.flat in
    record {
      few = omega (arith, few, all, ap count_of r);
      flat = omega (arith, flat, deep, ap depth_of r, ap length w, length_push path index);
    }

pub next_fits : (path : List ℕ) (index : ℕ) (items read : List Item) (parts : HeadParts × List Item) → read ≡ items
    → Some parts ≡ element_parts read index → 0 + length items < 2 ^ 32 → index + 1 < 2 ^ 32
next_fits path index items read parts r p few = (let sizes = inside_sizes read index parts p in let long = sizes.0 in omega (arith, long, few, ap length r))

-- ---- options

or_assoc : {A : Type 0} (a b c : Option A) → option_or (option_or a b) c ≡ option_or a (option_or b c)
or_assoc None b c = refl
or_assoc (Some x) b c = refl

or_none : {A : Type 0} (o : Option A) → option_or o None ≡ o
or_none None = refl
or_none (Some x) = refl

-- no position
abbrev never : Option (List ℕ)
never = None

-- ---- one node back

taken : (n : ℕ) (nodes : List Node)
    → (count_of (items_in (take n nodes)) ≤ count_of (items_in nodes)) × (depth_of (items_in (take n nodes)) ≤ depth_of (items_in nodes))
taken zero nodes = (omega arith, omega arith)
taken (suc n) [] = (omega arith, omega arith)
taken (suc n) (node ∷ nodes) =
    let rest = taken n nodes in
    let few = rest.0 in let flat = rest.1 in (
      omega (arith, few, count-append (items_at node) (items_in (take n nodes)), count-append (items_at node) (items_in nodes)),
      omega (arith, flat, depth-append (items_at node) (items_in (take n nodes)), depth-append (items_at node) (items_in nodes)),
    )

pub back_one : (nodes : List Node) (left : ℕ) (node : Node) → 0 < left → left ≤ length nodes → node ≡ get_or nodes (left - 1) node
    → items_in (take (left - 1) nodes) ++ items_at node ≡ items_in (take left nodes)
back_one nodes left node some most is =
    up_to nodes (left - 1) node (omega (arith, some, most)) is
    ∙ (let same : left - 1 + 1 ≡ left = omega (arith, some) in ap (λ n. items_in (take n nodes)) same)

pub offset_back : (offset long : ℕ) (xs ys items : List Item) → xs ++ ys ≡ items → offset ≡ length items → long ≡ length ys → offset - long ≡ length xs
offset_back offset long xs ys items e o l = omega (arith, o, l, ap length e, length-append xs ys)

pub depth_back : (nodes : List Node) (left : ℕ) (node : Node) (items : List Item) → 0 < left → left ≤ length nodes → node ≡ get_or nodes (left - 1) node
    → items_in nodes ≡ items → depth_of (items_at node) ≤ depth_of items
depth_back nodes left node items some most is e =
    let flat = (taken left nodes).1 in
    omega (arith, flat, ap depth_of e, ap depth_of (back_one nodes left node some most is), depth-append (items_in (take (left - 1) nodes)) (items_at node))

pub below_back : (path : List ℕ) (nodes : List Node) (left offset long : ℕ) (node : Node) (items : List Item) → 0 < left → left ≤ length nodes
    → node ≡ get_or nodes (left - 1) node → offset ≡ length (items_in (take left nodes)) → long ≡ length (items_at node) → items_in nodes ≡ items
    → AreBelow path 0 items → AreBelow path (offset - long) (items_at node)
below_back path nodes left offset long node items some most is o l e h =
    let back = back_one nodes left node some most is in
    let sizes = taken left nodes in
    let few = sizes.0 in let all = h.few in let deep = h.flat in
    record {
      few = omega (
        arith,
        few,
        all,
        ap count_of e,
        ap count_of back,
        count-append (items_in (take (left - 1) nodes)) (items_at node),
        offset_back offset long (items_in (take (left - 1) nodes)) (items_at node) (items_in (take left nodes)) back o l,
        length-count (items_in (take (left - 1) nodes)),
      );
      flat = omega (arith, deep, depth_back nodes left node items some most is e);
    }

-- ---- from node to node

module _ (rules : Rules) (names : List (List ℕ)) (path : List ℕ) where
  first-append : (from offset : ℕ) (xs ys : List Item) → first_behind rules names path from offset (items_of (xs ++ ys))
      ≡ option_or (first_behind rules names path from offset (items_of xs)) (first_behind rules names path from (offset + length xs) (items_of ys))
  first-append from offset [] ys = (let same : offset ≡ offset + 0 = omega arith in ap (λ n. first_behind rules names path from n (items_of ys)) same)
  first-append from offset (x ∷ xs) ys =
      ap (option_or (if nat_le from offset then first_in rules names (path ++ offset ∷ []) x else None)) (first-append from (offset + 1) xs ys
      ∙ (let same : offset + 1 + length xs ≡ offset + suc (length xs) = omega arith in
      ap (λ n. option_or (first_behind rules names path from (offset + 1) (items_of xs)) (first_behind rules names path from n (items_of ys))) same))
      ∙ sym (or_assoc (if nat_le from offset then first_in rules names (path ++ offset ∷ []) x else None)
      (first_behind rules names path from (offset + 1) (items_of xs)) (first_behind rules names path from (offset + suc (length xs)) (items_of ys)))

  last-append : (upto offset : ℕ) (xs ys : List Item) → last_ahead rules names path upto offset (items_of (xs ++ ys))
      ≡ option_or (last_ahead rules names path upto (offset + length xs) (items_of ys)) (last_ahead rules names path upto offset (items_of xs))
  last-append upto offset [] ys =
      (let same : offset ≡ offset + 0 = omega arith in ap (λ n. last_ahead rules names path upto n (items_of ys)) same)
      ∙ sym (or_none (last_ahead rules names path upto (offset + 0) (items_of ys)))
  last-append upto offset (x ∷ xs) ys =
      ap (λ o. option_or o (if nat_lt offset upto then last_in rules names (path ++ offset ∷ []) x else None)) (last-append upto (offset + 1) xs ys
      ∙ (let same : offset + 1 + length xs ≡ offset + suc (length xs) = omega arith in
      ap (λ n. option_or (last_ahead rules names path upto n (items_of ys)) (last_ahead rules names path upto (offset + 1) (items_of xs))) same))
      ∙ or_assoc (last_ahead rules names path upto (offset + suc (length xs)) (items_of ys)) (last_ahead rules names path upto (offset + 1) (items_of xs))
      (if nat_lt offset upto then last_in rules names (path ++ offset ∷ []) x else None)

  pub first_next : (from offset next : ℕ) (items xs ys : List Item) (found all : Option (List ℕ)) → items ≡ xs ++ ys → next ≡ offset + length xs
      → found ≡ first_behind rules names path from offset (items_of xs) → first_behind rules names path from offset (items_of items) ≡ all
      → option_or found (first_behind rules names path from next (items_of ys)) ≡ all
  first_next from offset next items xs ys found all e n f h =
      (λ i. option_or (f i) (first_behind rules names path from (n i) (items_of ys)))
      ∙ sym (first-append from offset xs ys) ∙ ap (λ items. first_behind rules names path from offset (items_of items)) (sym e) ∙ h

  pub last_next : (upto offset : ℕ) (items xs ys : List Item) (found all : Option (List ℕ)) → xs ++ ys ≡ items → offset ≡ length xs
      → found ≡ last_ahead rules names path upto offset (items_of ys) → last_ahead rules names path upto 0 (items_of items) ≡ all
      → option_or found (last_ahead rules names path upto 0 (items_of xs)) ≡ all
  last_next upto offset items xs ys found all e n f h =
      (let same : offset ≡ 0 + length xs = omega (arith, n) in
      λ i. option_or ((f ∙ ap (λ n. last_ahead rules names path upto n (items_of ys)) same) i) (last_ahead rules names path upto 0 (items_of xs)))
      ∙ sym (last-append upto 0 xs ys) ∙ ap (λ items. last_ahead rules names path upto 0 (items_of items)) e ∙ h

  -- no position is in a character

  pub first_in_run : (from offset : ℕ) (text : TextParts) (node : Node) → node ≡ Run text
      → None ≡ first_behind rules names path from offset (items_of (items_at node))
  first_in_run from offset text node e =
      go text.scalars offset ∙ ap (λ node. first_behind rules names path from offset (items_of (items_at node))) (sym e)
    where
      nothing : (b : Bool) → never ≡ (if b then never else never)
      nothing true = refl
      nothing false = refl

      go : (scalars : List ℕ) (offset : ℕ)
          → None ≡ first_behind rules names path from offset (items_of (map (λ scalar. character scalar text.attributes) scalars))
      go [] offset = refl
      go (scalar ∷ scalars) offset = λ i. option_or (nothing (nat_le from offset) i) (go scalars (offset + 1) i)

  pub last_in_run : (upto offset : ℕ) (text : TextParts) (node : Node) → node ≡ Run text
      → None ≡ last_ahead rules names path upto offset (items_of (items_at node))
  last_in_run upto offset text node e =
      go text.scalars offset ∙ ap (λ node. last_ahead rules names path upto offset (items_of (items_at node))) (sym e)
    where
      nothing : (b : Bool) → never ≡ (if b then never else never)
      nothing true = refl
      nothing false = refl

      go : (scalars : List ℕ) (offset : ℕ)
          → None ≡ last_ahead rules names path upto offset (items_of (map (λ scalar. character scalar text.attributes) scalars))
      go [] offset = refl
      go (scalar ∷ scalars) offset = λ i. option_or (go scalars (offset + 1) i) (nothing (nat_lt offset upto) i)

  -- the last position in an element whose items are all before the offset
  pub last_in_element : (upto offset long : ℕ) (node : Node) (head : HeadParts) (children : List Item) (under : List (List ℕ)) (here : List ℕ)
      (found : Option (List ℕ)) → node ≡ Element head children → offset < upto → long ≡ length children → under ≡ names ++ head.name ∷ []
      → here ≡ path ++ offset ∷ [] → found ≡ last_here rules under here long children
      → found ≡ last_ahead rules names path upto offset (items_of (items_at node))
  last_in_element upto offset long node head children under here found e less l u w f =
      f ∙ (λ i. last_here rules (u i) (w i) (l i) children)
      ∙ ap (λ kids. last_here rules (names ++ head.name ∷ []) (path ++ offset ∷ []) (length kids) children) (sym (list_of-items_of children))
      ∙ ap (λ b. cond b (last_in rules names (path ++ offset ∷ []) (element head.id head.name head.attributes (items_of children))) None)
      (sym (step offset upto less))
      ∙ ap (λ node. last_ahead rules names path upto offset (items_of (items_at node))) (sym e)
    where
      step : (i k : ℕ) → i < k → nat_lt i k ≡ true
      step i k less = grind (arith, nat_tests)
