-- Which counts a change of a list raises.
use Rattle.std.proofs.Common.{◌≡◌, ◌≢◌, ℕ, zero, suc, List, [], ◌∷◌, ◌++◌, Bool, true, false, ◌||◌, if◌then◌else◌, Option, Some, None, refl, sym, ap, ◌∙◌}
use Rattle.std.proofs.Common.{subst, arith}
use Rattle.std.proofs.lemmas.Bool.Decides.{nat_tests}
use Rattle.std.specs.Prelude.{IsSomeAnd, nat_eq, is_some, option_map, option_and_then, option_to_list, slice_get, slice_set}
use Rattle.std.specs.Option.{option_eq, option_or, option_map_or}
use Rattle.std.specs.List.{IsDistinct, AllByRecursion, list_any}
use Rattle.view_definitions.specs.Node.{Head, ViewNode, ViewNodes, text, element, none, more, list_of, nodes_of, children_of}
use Rattle.view_definitions.specs.NodeCode.{list_of-nodes_of}
use Rattle.view_definitions.specs.Place.{list_at, at_index, with_inner, put_at, nearest_in, nearest, numbered_or, numbered_on, one_more, counting, counted_in}
use Rattle.view_definitions.specs.Place.{counted, changed, changes_in, changes_inner, changes_of, numbers_in, numbers_inner, numbers_of}

pub at_index-suc : (index : ℕ) (change : ViewNode → ViewNode) (node : ViewNode) (nodes : List ViewNode) → at_index (suc index) change (node ∷ nodes)
    ≡ node ∷ at_index index change nodes
at_index-suc index change node nodes =
    elim (slice_get nodes index) as (λ o. option_map_or (λ n. node ∷ slice_set nodes index (change n)) o (node ∷ nodes)
    ≡ node ∷ option_map_or (λ n. slice_set nodes index (change n)) o nodes) [
      | None ↦ refl
      | Some n ↦ refl
    ]

pub at_index-twice : (index : ℕ) (change again : ViewNode → ViewNode) (nodes : List ViewNode) → at_index index again (at_index index change nodes)
    ≡ at_index index (λ node. again (change node)) nodes
at_index-twice index change again [] = refl
at_index-twice zero change again (node ∷ nodes) = refl
at_index-twice (suc index) change again (node ∷ nodes) =
    ap (at_index (suc index) again) (at_index-suc index change node nodes)
    ∙ at_index-suc index again node (at_index index change nodes)
    ∙ ap (λ list. node ∷ list) (at_index-twice index change again nodes)
    ∙ sym (at_index-suc index (λ n. again (change n)) node nodes)

-- what stands at the index of a change
get-at : (index : ℕ) (change : ViewNode → ViewNode) (nodes : List ViewNode) → slice_get (at_index index change nodes) index
    ≡ option_map change (slice_get nodes index)
get-at index change [] = refl
get-at zero change (node ∷ nodes) = refl
get-at (suc index) change (node ∷ nodes) = ap (λ list. slice_get list (suc index)) (at_index-suc index change node nodes) ∙ get-at index change nodes

-- whether an element on a path has a number doesn't hang on the list at the path
numbered-put : (path : List ℕ) (new nodes : List ViewNode) → numbered_on path (put_at path new nodes) ≡ numbered_on path nodes
numbered-put [] new nodes = refl
numbered-put (index ∷ path) new nodes =
    ap (λ node. option_map_or (numbered_or (numbered_on path)) node false) (get-at index (with_inner (put_at path new)) nodes)
    ∙ go (slice_get nodes index) (numbered-put path new)
  where
    go : (node : Option ViewNode) → ((inner : List ViewNode) → numbered_on path (put_at path new inner) ≡ numbered_on path inner)
        → option_map_or (numbered_or (numbered_on path)) (option_map (with_inner (put_at path new)) node) false
        ≡ option_map_or (numbered_or (numbered_on path)) node false
    go None ih = refl
    go (Some (text scalars)) ih = refl
    go (Some (element head children)) ih =
        ap (λ b. b || is_some head.number) (ap (numbered_on path) (list_of-nodes_of (put_at path new (list_of children))) ∙ ih (list_of children))

-- a number is on a path where there is a nearest one
numbered-nearest : (path : List ℕ) (nodes : List ViewNode) → numbered_on path nodes ≡ is_some (nearest path nodes)
numbered-nearest [] nodes = refl
numbered-nearest (index ∷ path) nodes = go (slice_get nodes index) (numbered-nearest path)
  where
    either : (own below : Option ℕ) → (is_some below || is_some own) ≡ is_some (option_or below own)
    either own None = refl
    either own (Some number) = refl

    go : (node : Option ViewNode) → ((inner : List ViewNode) → numbered_on path inner ≡ is_some (nearest path inner))
        → option_map_or (numbered_or (numbered_on path)) node false ≡ is_some (option_and_then (nearest_in (nearest path)) node)
    go None ih = refl
    go (Some (text scalars)) ih = refl
    go (Some (element head children)) ih =
        ap (λ b. b || is_some head.number) (ih (list_of children)) ∙ either head.number (nearest path (list_of children))

-- one node on the way to a change
abbrev changed_in : List ℕ → List ViewNode → ViewNode → ViewNode
changed_in path new (text scalars) = text scalars
changed_in path new (element head children) =
    element (if is_some (nearest path (list_of children)) then head else counting head) (nodes_of (changed path new (list_of children)))

changed-in : (path : List ℕ) (new : List ViewNode) (node : ViewNode) → counted_in (numbered_on path) (counted path) (with_inner (put_at path new) node)
    ≡ changed_in path new node
changed-in path new (text scalars) = refl
changed-in path new (element head children) =
    let inner = list_of-nodes_of (put_at path new (list_of children)) in
    λ i. element (if (ap (numbered_on path) inner ∙ numbered-put path new (list_of children) ∙ numbered-nearest path (list_of children)) i then head
    else counting head) (nodes_of (counted path (inner i)))

changed-step : (index : ℕ) (path : List ℕ) (new nodes : List ViewNode) → changed (index ∷ path) new nodes ≡ at_index index (changed_in path new) nodes
changed-step index path new nodes =
    at_index-twice index (with_inner (put_at path new)) (counted_in (numbered_on path) (counted path)) nodes
    ∙ (λ i. at_index index (λ node. changed-in path new node i) nodes)

-- the counts and numbers of children are those of their list
inner-changes : (number : ℕ) (nodes : ViewNodes) → changes_inner number nodes ≡ changes_of number (list_of nodes)
inner-changes number none = refl
inner-changes number (more node nodes) = ap (option_or (changes_in number node)) (inner-changes number nodes)

listed-changes : (number : ℕ) (nodes : List ViewNode) → changes_inner number (nodes_of nodes) ≡ changes_of number nodes
listed-changes number nodes = inner-changes number (nodes_of nodes) ∙ ap (changes_of number) (list_of-nodes_of nodes)

inner-numbers : (nodes : ViewNodes) → numbers_inner nodes ≡ numbers_of (list_of nodes)
inner-numbers none = refl
inner-numbers (more node nodes) = ap (λ rest. numbers_in node ++ rest) (inner-numbers nodes)

-- whether a number is among these
abbrev has : ℕ → List ℕ → Bool
has number numbers = list_any (λ other. nat_eq other number) numbers

has-append : (number : ℕ) (front back : List ℕ) → has number (front ++ back) ≡ (has number front || has number back)
has-append number [] back = refl
has-append number (other ∷ front) back =
    ap (λ b. nat_eq other number || b) (has-append number front back) ∙ sym (or-assoc (nat_eq other number) (has number front) (has number back))
  where
    or-assoc : (a b c : Bool) → ((a || b) || c) ≡ (a || (b || c))
    or-assoc true b c = refl
    or-assoc false b c = refl

-- a number is among those of nodes where it has a count
count-there : (own : Option ℕ) (number changes : ℕ) (below : Option ℕ) → (has number (option_to_list own) || is_some below)
    ≡ is_some (if option_eq nat_eq own (Some number) then Some changes else below)
count-there None number changes below = refl
count-there (Some other) number changes below =
    elim (nat_eq other number) as (λ b. ((b || false) || is_some below) ≡ is_some (if b then Some changes else below)) [ true ↦ refl | false ↦ refl ]

either-there : (a b : Option ℕ) → (is_some a || is_some b) ≡ is_some (option_or a b)
either-there None b = refl
either-there (Some count) b = refl

mutual
  node-there : (number : ℕ) (node : ViewNode) → has number (numbers_in node) ≡ is_some (changes_in number node)
  node-there number (text scalars) = refl
  node-there number (element head children) =
      has-append number (option_to_list head.number) (numbers_inner children)
      ∙ ap (λ b. has number (option_to_list head.number) || b) (inner-there number children)
      ∙ count-there head.number number head.changes (changes_inner number children)

  inner-there : (number : ℕ) (nodes : ViewNodes) → has number (numbers_inner nodes) ≡ is_some (changes_inner number nodes)
  inner-there number none = refl
  inner-there number (more node nodes) =
      has-append number (numbers_in node) (numbers_inner nodes)
      ∙ (λ i. node-there number node i || inner-there number nodes i)
      ∙ either-there (changes_in number node) (changes_inner number nodes)

there : (number : ℕ) (nodes : List ViewNode) → has number (numbers_of nodes) ≡ is_some (changes_of number nodes)
there number nodes =
    ap (has number) (ap numbers_of (sym (list_of-nodes_of nodes)) ∙ sym (inner-numbers (nodes_of nodes)))
    ∙ inner-there number (nodes_of nodes) ∙ ap is_some (listed-changes number nodes)

-- of two lists of numbers without repetition, a number of the second is not in the first
none-among : (number : ℕ) (front back : List ℕ) → AllByRecursion (λ other. nat_eq number other ≡ false) (front ++ back) → has number back ≡ false
none-among number (other ∷ front) back h = none-among number front back h.1
none-among number [] [] h = refl
none-among number [] (other ∷ back) h =
    let first : nat_eq other number ≡ false = grind (arith, nat_tests, h.0) in
    rw first (none-among number [] back h.1)

apart : (number : ℕ) (front back : List ℕ) → IsDistinct nat_eq (front ++ back) → has number back ≡ true → has number front ≡ false
unfolding IsDistinct
apart number [] back d h = refl
apart number (other ∷ front) back d h =
    elim (nat_eq other number) as (λ b. nat_eq other number ≡ b → (b || has number front) ≡ false) [
      | true ↦ λ e.
          let same : other ≡ number = grind (arith, nat_tests, e) in
          absurd (is-both (has number back) h (subst (λ n. has n back ≡ false) same (none-among other front back d.0)))
      | false ↦ λ e. apart number front back d.1 h
    ] refl
  where
    is-both : (b : Bool) → b ≡ true → b ≡ false → ⊥
    is-both true e f = cc
    is-both false e f = cc

distinct-front : (front back : List ℕ) → IsDistinct nat_eq (front ++ back) → IsDistinct nat_eq front
unfolding IsDistinct
distinct-front [] back d = tt
distinct-front (number ∷ front) back d = (all-front front d.0, distinct-front front back d.1)
  where
    all-front : (list : List ℕ) → AllByRecursion (λ other. nat_eq number other ≡ false) (list ++ back)
        → AllByRecursion (λ other. nat_eq number other ≡ false) list
    all-front [] h = tt
    all-front (other ∷ list) h = (h.0, all-front list h.1)

distinct-back : (front back : List ℕ) → IsDistinct nat_eq (front ++ back) → IsDistinct nat_eq back
unfolding IsDistinct
distinct-back [] back d = d
distinct-back (number ∷ front) back d = distinct-back front back d.1

-- ---- a change that keeps a count

same-at : (number index : ℕ) (change : ViewNode → ViewNode) (nodes : List ViewNode) (node : ViewNode) → slice_get nodes index ≡ Some node
    → changes_in number (change node) ≡ changes_in number node → changes_of number (at_index index change nodes) ≡ changes_of number nodes
same-at number index change [] node e h = cc
same-at number zero change (first ∷ nodes) node e h =
    let same : node ≡ first = cc in
    ap (λ count. option_or count (changes_of number nodes)) (subst (λ n. changes_in number (change n) ≡ changes_in number n) same h)
same-at number (suc index) change (first ∷ nodes) node e h =
    ap (changes_of number) (at_index-suc index change first nodes) ∙ ap (option_or (changes_in number first)) (same-at number index change nodes node e h)

-- the head of an element that isn't the nearest one to a change has the same count
head-same : (number : ℕ) (head : Head) (near below : Option ℕ) → option_or near head.number ≢ Some number
    → (if option_eq nat_eq (if is_some near then head else counting head).number (Some number)
    then Some (if is_some near then head else counting head).changes else below)
    ≡ (if option_eq nat_eq head.number (Some number) then Some head.changes else below)
head-same number head (Some other) below h = refl
head-same number head None below h = go head.number refl
  where
    go : (own : Option ℕ) → head.number ≡ own
        → (if option_eq nat_eq (counting head).number (Some number) then Some (counting head).changes else below)
        ≡ (if option_eq nat_eq head.number (Some number) then Some head.changes else below)
    go None e = rw e refl
    go (Some other) e =
        let other_one : nat_eq other number ≡ false = grind (arith, nat_tests, h) in
        rw e (rw other_one refl)

-- the count of an element whose children are changed
changed-element : (number : ℕ) (path : List ℕ) (new : List ViewNode) (head : Head) (children : ViewNodes) (after : Option ℕ)
    → changes_of number (changed path new (list_of children)) ≡ after
    → changes_in number (changed_in path new (element head children))
    ≡ (if option_eq nat_eq (if is_some (nearest path (list_of children)) then head else counting head).number (Some number)
    then Some (if is_some (nearest path (list_of children)) then head else counting head).changes else after)
changed-element number path new head children after h =
    ap (λ below. if option_eq nat_eq (if is_some (nearest path (list_of children)) then head else counting head).number (Some number)
    then Some (if is_some (nearest path (list_of children)) then head else counting head).changes else below)
    (listed-changes number (changed path new (list_of children)) ∙ h)

pub others-keep : (path : List ℕ) (new old nodes : List ViewNode) (number : ℕ) → list_at path nodes ≡ Some old → nearest path nodes ≢ Some number
    → changes_of number new ≡ changes_of number old → changes_of number (changed path new nodes) ≡ changes_of number nodes
others-keep [] new old nodes number e n h = let same : nodes ≡ old = cc in h ∙ ap (changes_of number) (sym same)
others-keep (index ∷ path) new old nodes number e n h =
    ap (changes_of number) (changed-step index path new nodes)
    ∙ go (slice_get nodes index) refl e n (λ inner l m. others-keep path new old inner number l m h)
  where
    go : (node : Option ViewNode) → slice_get nodes index ≡ node → option_and_then (λ node. option_and_then (list_at path) (children_of node)) node ≡ Some old
        → option_and_then (nearest_in (nearest path)) node ≢ Some number
        → ((inner : List ViewNode) → list_at path inner ≡ Some old → nearest path inner ≢ Some number → changes_of number (changed path new inner)
        ≡ changes_of number inner)
        → changes_of number (at_index index (changed_in path new) nodes) ≡ changes_of number nodes
    go None s l m ih = cc
    go (Some (text scalars)) s l m ih = cc
    go (Some (element head children)) s l m ih =
        same-at number index (changed_in path new) nodes (element head children) s
        (changed-element number path new head children (changes_inner number children)
        (ih (list_of children) l (λ near. m (ap (λ found. option_or found head.number) near)) ∙ sym (inner-changes number children))
        ∙ head-same number head (nearest path (list_of children)) (changes_inner number children) m)

-- ---- the change of the nearest element

-- that a count is there, and is one more afterwards
abbrev Raises : Option ℕ → Option ℕ → Type 0
Raises before after = IsSomeAnd before (λ count. after ≡ Some (one_more count))

raises-some : (before after : Option ℕ) → Raises before after → is_some before ≡ true
raises-some None after h = absurd h
raises-some (Some count) after h = refl

raises-or : (before after rest : Option ℕ) → Raises before after → Raises (option_or before rest) (option_or after rest)
raises-or None after rest h = absurd h
raises-or (Some count) after rest h = ap (λ found. option_or found rest) h

not-own : (number : ℕ) (own : Option ℕ) → has number (option_to_list own) ≡ false → option_eq nat_eq own (Some number) ≡ false
not-own number None h = refl
not-own number (Some other) h = go (nat_eq other number) h
  where
    go : (b : Bool) → (b || false) ≡ false → b ≡ false
    go true e = e
    go false e = refl

-- a number that has no count among nodes behind others has one there alone
none-before : (number : ℕ) (node : ViewNode) (nodes : List ViewNode) → IsDistinct nat_eq (numbers_in node ++ numbers_of nodes)
    → is_some (changes_of number nodes) ≡ true → changes_in number node ≡ None
none-before number node nodes d h =
    go (changes_in number node) (sym (node-there number node) ∙ apart number (numbers_in node) (numbers_of nodes) d (there number nodes ∙ h))
  where
    go : (count : Option ℕ) → is_some count ≡ false → count ≡ None
    go None e = refl
    go (Some count) e = cc

more-at : (number index : ℕ) (change : ViewNode → ViewNode) (nodes : List ViewNode) (node : ViewNode) → IsDistinct nat_eq (numbers_of nodes)
    → slice_get nodes index ≡ Some node
    → (IsDistinct nat_eq (numbers_in node) → Raises (changes_in number node) (changes_in number (change node)))
    → Raises (changes_of number nodes) (changes_of number (at_index index change nodes))
more-at number index change [] node d e h = cc
more-at number zero change (first ∷ nodes) node d e h =
    let same : node ≡ first = cc in
    raises-or (changes_in number first) (changes_in number (change first)) (changes_of number nodes)
    (subst (λ n. IsDistinct nat_eq (numbers_in n) → Raises (changes_in number n) (changes_in number (change n))) same h
    (distinct-front (numbers_in first) (numbers_of nodes) d))
more-at number (suc index) change (first ∷ nodes) node d e h =
    let rest = more-at number index change nodes node (distinct-back (numbers_in first) (numbers_of nodes) d) e h in
    let none_here = none-before number first nodes d (raises-some (changes_of number nodes) (changes_of number (at_index index change nodes)) rest) in
    subst (λ list. Raises (changes_of number (first ∷ nodes)) (changes_of number list)) (sym (at_index-suc index change first nodes))
    (subst (λ count. Raises (option_or count (changes_of number nodes)) (option_or count (changes_of number (at_index index change nodes))))
    (sym none_here) rest)

head-more : (number : ℕ) (head : Head) (near below after : Option ℕ) → option_or near head.number ≡ Some number
    → (near ≡ Some number → Raises below after × (has number (option_to_list head.number) ≡ false))
    → Raises (if option_eq nat_eq head.number (Some number) then Some head.changes else below)
    (if option_eq nat_eq (if is_some near then head else counting head).number (Some number)
    then Some (if is_some near then head else counting head).changes else after)
head-more number head (Some other) below after e h =
    let found = h e in
    subst (λ b. Raises (if b then Some head.changes else below) (if b then Some head.changes else after)) (sym (not-own number head.number found.1)) found.0
head-more number head None below after e h =
    let same : nat_eq number number ≡ true = grind (arith, nat_tests) in
    rw e (rw same refl)

pub nearest-counts : (path : List ℕ) (new nodes : List ViewNode) (number : ℕ) → IsDistinct nat_eq (numbers_of nodes) → nearest path nodes ≡ Some number
    → IsSomeAnd (changes_of number nodes) (λ count. changes_of number (changed path new nodes) ≡ Some (one_more count))
nearest-counts [] new nodes number d e = cc
nearest-counts (index ∷ path) new nodes number d e =
    subst (λ list. Raises (changes_of number nodes) (changes_of number list)) (sym (changed-step index path new nodes))
    (go (slice_get nodes index) refl e (λ inner a m. nearest-counts path new inner number a m))
  where
    go : (node : Option ViewNode) → slice_get nodes index ≡ node → option_and_then (nearest_in (nearest path)) node ≡ Some number
        → ((inner : List ViewNode) → IsDistinct nat_eq (numbers_of inner) → nearest path inner ≡ Some number
        → Raises (changes_of number inner) (changes_of number (changed path new inner)))
        → Raises (changes_of number nodes) (changes_of number (at_index index (changed_in path new) nodes))
    go None s m ih = cc
    go (Some (text scalars)) s m ih = cc
    go (Some (element head children)) s m ih =
        more-at number index (changed_in path new) nodes (element head children) d s
        (λ a.
        let kids = list_of children in
        let own = option_to_list head.number in
        let inner = subst (λ list. IsDistinct nat_eq (own ++ list)) (inner-numbers children) a in
        subst (Raises (changes_in number (element head children)))
        (sym (changed-element number path new head children (changes_of number (changed path new kids)) refl))
        (head-more number head (nearest path kids) (changes_inner number children) (changes_of number (changed path new kids)) m
        (λ near.
        let raises = ih kids (distinct-back own (numbers_of kids) inner) near in (
          subst (λ count. Raises count (changes_of number (changed path new kids))) (sym (inner-changes number children)) raises,
          apart number own (numbers_of kids) inner (there number kids ∙ raises-some (changes_of number kids) (changes_of number (changed path new kids))
              raises),
        ))))

-- ---- what a list brings

head-number : (b : Bool) (head : Head) → (if b then head else counting head).number ≡ head.number
head-number true head = refl
head-number false head = go (is_some head.number)
  where
    go : (b : Bool) → (if b then record head { changes = one_more head.changes } else head).number ≡ head.number
    go true = refl
    go false = refl

none-of-both : (a b : Option ℕ) → option_or a b ≡ None → (a ≡ None) × (b ≡ None)
none-of-both None b e = (refl, e)
none-of-both (Some count) b e = cc

head-none : (number : ℕ) (head new_head : Head) (below after : Option ℕ) → new_head.number ≡ head.number
    → (if option_eq nat_eq head.number (Some number) then Some head.changes else below) ≡ None
    → (below ≡ None) × ((if option_eq nat_eq new_head.number (Some number) then Some new_head.changes else after) ≡ after)
head-none number head new_head below after same e = go (option_eq nat_eq head.number (Some number)) refl e
  where
    go : (b : Bool) → option_eq nat_eq head.number (Some number) ≡ b → (if b then Some head.changes else below) ≡ None
        → (below ≡ None) × ((if option_eq nat_eq new_head.number (Some number) then Some new_head.changes else after) ≡ after)
    go true t f = cc
    go false t f = (f, ap (λ b. if b then Some new_head.changes else after) (ap (λ own. option_eq nat_eq own (Some number)) same ∙ t))

new-at : (number index : ℕ) (change : ViewNode → ViewNode) (nodes : List ViewNode) (node : ViewNode) (count : Option ℕ) → slice_get nodes index
    ≡ Some node → changes_of number nodes ≡ None
    → (changes_in number node ≡ None → changes_in number (change node) ≡ count) → changes_of number (at_index index change nodes) ≡ count
new-at number index change [] node count s e h = cc
new-at number zero change (first ∷ nodes) node count s e h =
    let same : node ≡ first = cc in
    let both = none-of-both (changes_in number first) (changes_of number nodes) e in
    (λ i. option_or (subst (λ n. changes_in number n ≡ None → changes_in number (change n) ≡ count) same h both.0 i) (both.1 i)) ∙ alone count
  where
    alone : (count : Option ℕ) → option_or count None ≡ count
    alone None = refl
    alone (Some found) = refl
new-at number (suc index) change (first ∷ nodes) node count s e h =
    let both = none-of-both (changes_in number first) (changes_of number nodes) e in
    ap (changes_of number) (at_index-suc index change first nodes)
    ∙ (λ i. option_or (both.0 i) (new-at number index change nodes node count s both.1 h i))

pub new-bring : (path : List ℕ) (new old nodes : List ViewNode) (number : ℕ) → list_at path nodes ≡ Some old → changes_of number nodes ≡ None
    → changes_of number (changed path new nodes) ≡ changes_of number new
new-bring [] new old nodes number e n = refl
new-bring (index ∷ path) new old nodes number e n =
    ap (changes_of number) (changed-step index path new nodes)
    ∙ go (slice_get nodes index) refl e (λ inner l m. new-bring path new old inner number l m)
  where
    go : (node : Option ViewNode) → slice_get nodes index ≡ node → option_and_then (λ node. option_and_then (list_at path) (children_of node)) node ≡ Some old
        → ((inner : List ViewNode) → list_at path inner ≡ Some old → changes_of number inner ≡ None → changes_of number (changed path new inner)
        ≡ changes_of number new)
        → changes_of number (at_index index (changed_in path new) nodes) ≡ changes_of number new
    go None s l ih = cc
    go (Some (text scalars)) s l ih = cc
    go (Some (element head children)) s l ih =
        new-at number index (changed_in path new) nodes (element head children) (changes_of number new) s n
        (λ none_here.
        let kids = list_of children in
        let near = is_some (nearest path kids) in
        let own = head-none number head (if near then head else counting head) (changes_inner number children) (changes_of number new)
        (head-number near head) none_here in
        changed-element number path new head children (changes_of number new) (ih kids l (sym (inner-changes number children) ∙ own.0)) ∙ own.1)
