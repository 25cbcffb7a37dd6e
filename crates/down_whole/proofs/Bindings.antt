-- The bindings of a document's elements: each id and each number is bound once.
use Rattle.std.proofs.Common.{◌≡◌, ℕ, ◌+◌, ◌≤◌, ◌==◌, nat_lt, nat_le, ◌&&◌, List, [], ◌∷◌, ◌++◌, inl, inr, Bool, true, false, if◌then◌else◌, Option, Some, None}
use Rattle.std.proofs.Common.{refl, sym, ap, ◌∙◌, subst, append_assoc, append-nil, arith}
use Rattle.std.proofs.lemmas.Bool.Decides.{nat_tests}
use Rattle.std.proofs.lemmas.List.Elements.{All-nil, All-cons, All-head, All-tail}
use Rattle.std.specs.Prelude.{nat_eq, ◌||◌, All, IsSomeAnd, is_some, option_map, cond}
use Rattle.std.specs.List.{find, IsDistinct, AllByRecursion}
use Rattle.item_definitions.specs.Item.{Item, Items, character, element, none, more, items_of}
use Rattle.item_definitions.proofs.Distinct.{Among, among-left, among-right}
use Rattle.document_definitions.specs.Document.{ids_of, ids_of_item, ids_of_inner}
use Rattle.converter_definitions.specs.Gives.{Conversion}
use Rattle.downcast_definitions.specs.Scene.{Numbers, Scene}
use Rattle.downcast_definitions.specs.Rows.{elements_in, shape_at}
use Rattle.pos_mapper.specs.Bindings.{Binding, CaretPlace, Mapper, bound_id, bound_number, numbers_of, with_binding}
use Rattle.pos_mapper.specs.Mapped.{slot_of, IsBound, AreBound}
use Rattle.down_whole.specs.Bound.{elements_of, elements_among, bindings_of, bindings_among, Agree, with_bindings}
use Rattle.down_whole.specs.Front.{elements_within}

-- ---- lists one behind the other

pub among-more : (xs ys : List Item) → elements_among (items_of (xs ++ ys)) ≡ elements_among (items_of xs) + elements_among (items_of ys)
among-more [] ys = omega arith
among-more (item ∷ xs) ys = omega (arith, among-more xs ys)

-- the bindings of two lists of items
pub bindings-append : (conversion : Conversion) (parent : List ℕ) (before drawn : ℕ) (xs ys : List Item)
    → bindings_among conversion parent before drawn (items_of (xs ++ ys))
    ≡ bindings_among conversion parent before drawn (items_of xs)
    ++ bindings_among conversion parent (before + elements_within xs) (drawn + elements_among (items_of xs)) (items_of ys)
bindings-append conversion parent before drawn [] ys =
    let n : before ≡ before + 0 = omega arith in
    let m : drawn ≡ drawn + 0 = omega arith in
    λ i. bindings_among conversion parent (n i) (m i) (items_of ys)
bindings-append conversion parent before drawn (item ∷ xs) ys =
    let n : before + elements_in item + elements_within xs ≡ before + elements_within (item ∷ xs) = omega arith in
    let m : drawn + elements_of item + elements_among (items_of xs) ≡ drawn + elements_among (items_of (item ∷ xs)) = omega arith in
    ap (λ made. bindings_of conversion parent before drawn item ++ made)
    (bindings-append conversion parent (before + elements_in item) (drawn + elements_of item) xs ys
    ∙ (λ i. bindings_among conversion parent (before + elements_in item) (drawn + elements_of item) (items_of xs) ++ bindings_among conversion parent
    (n i) (m i) (items_of ys)))
    ∙ sym (append_assoc (bindings_of conversion parent before drawn item)
    (bindings_among conversion parent (before + elements_in item) (drawn + elements_of item) (items_of xs)) _)

pub agree-front : (numbers : Numbers) (xs ys : List Binding) → Agree numbers (xs ++ ys) → Agree numbers xs
agree-front numbers [] ys h = All-nil (λ binding. numbers binding.id ≡ Some binding.number)
agree-front numbers (binding ∷ xs) ys h =
    All-cons (λ binding. numbers binding.id ≡ Some binding.number) binding xs
    (All-head (λ binding. numbers binding.id ≡ Some binding.number) binding (xs ++ ys) h)
    (agree-front numbers xs ys (All-tail (λ binding. numbers binding.id ≡ Some binding.number) binding (xs ++ ys) h))

pub agree-behind : (numbers : Numbers) (xs ys : List Binding) → Agree numbers (xs ++ ys) → Agree numbers ys
agree-behind numbers [] ys h = h
agree-behind numbers (binding ∷ xs) ys h = agree-behind numbers xs ys (All-tail (λ binding. numbers binding.id ≡ Some binding.number) binding (xs ++ ys) h)

-- two lists of bindings more
pub with_bindings-append : (xs ys : List Binding) (mapper : Mapper) → with_bindings (xs ++ ys) mapper ≡ with_bindings ys (with_bindings xs mapper)
with_bindings-append [] ys mapper = refl
with_bindings-append (binding ∷ xs) ys mapper = with_bindings-append xs ys (with_binding binding mapper)

-- ---- how often a key is held

own : (n : ℕ) → (n == n) ≡ true
own n = grind (arith, nat_tests)

pub flipped : (n m : ℕ) → (n == m) ≡ (m == n)
flipped n m = grind (arith, nat_tests)

none_some : (a : Option Binding) → a ≡ None → is_some a ≡ false
none_some a e = ap is_some e

module _ (key : Binding → ℕ) where
  -- how many bindings have this key
  abbrev pub held : ℕ → List Binding → ℕ
  held n [] = 0
  held n (binding ∷ bindings) = (if key binding == n then 1 else 0) + held n bindings

  held-append : (n : ℕ) (xs ys : List Binding) → held n (xs ++ ys) ≡ held n xs + held n ys
  held-append n [] ys = omega arith
  held-append n (binding ∷ xs) ys = omega (arith, held-append n xs ys)

  absent : (n : ℕ) (bindings : List Binding) → held n bindings ≡ 0 → find (λ binding. key binding == n) bindings ≡ None
  absent n [] h = refl
  absent n (binding ∷ bindings) h = go (key binding == n) h (absent n bindings)
    where
      go : (t : Bool) → (if t then 1 else 0) + held n bindings ≡ 0 → (held n bindings ≡ 0 → find (λ binding. key binding == n) bindings ≡ None)
          → cond t (Some binding) (find (λ binding. key binding == n) bindings) ≡ None
      go true h rest = absurd (omega (arith, h))
      go false h rest = rest (omega (arith, h))

  present : (binding : Binding) (bindings : List Binding) → Among binding bindings → 1 ≤ held (key binding) bindings
  present binding [] h = absurd h
  present binding (other ∷ bindings) (inl e) =
      let one : (key other == key binding) ≡ true = ap (λ b. key other == key b) e ∙ own (key other) in
      let all : held (key binding) (other ∷ bindings) ≡ 1 + held (key binding) bindings = ap (λ t. (if t then 1 else 0) + held (key binding) bindings) one in
      omega (arith, all)
  present binding (other ∷ bindings) (inr m) = omega (arith, present binding bindings m)

  -- a binding whose key is held once is found by it
  pub found : (binding : Binding) (bindings : List Binding) → Among binding bindings → held (key binding) bindings ≤ 1
      → find (λ other. key other == key binding) bindings ≡ Some binding
  found binding [] h o = absurd h
  found binding (other ∷ bindings) (inl e) o =
      ap (λ t. cond t (Some other) (find (λ other. key other == key binding) bindings)) (ap (λ b. key other == key b) e ∙ own (key other)) ∙ ap Some (sym e)
  found binding (other ∷ bindings) (inr m) o = go (key other == key binding) o (present binding bindings m) (found binding bindings m)
    where
      go : (t : Bool) → (if t then 1 else 0) + held (key binding) bindings ≤ 1 → 1 ≤ held (key binding) bindings
          → (held (key binding) bindings ≤ 1 → find (λ other. key other == key binding) bindings ≡ Some binding)
          → cond t (Some other) (find (λ other. key other == key binding) bindings) ≡ Some binding
      go true o p rest = absurd (omega (arith, o, p))
      go false o p rest = rest (omega (arith, o))

  -- what comes behind others is not among them
  new : (binding : Binding) (xs ys : List Binding) → held (key binding) (xs ++ binding ∷ ys) ≤ 1 → find (λ other. key other == key binding) xs ≡ None
  new binding xs ys o =
      let all : held (key binding) (xs ++ binding ∷ ys) ≡ held (key binding) xs + held (key binding) (binding ∷ ys) = held-append (key binding) xs
      (binding ∷ ys) in
      let one : held (key binding) (binding ∷ ys) ≡ 1 + held (key binding) ys = ap (λ t. (if t then 1 else 0) + held (key binding) ys) (own (key binding)) in
      absent (key binding) xs (omega (arith, o, all, one))

-- ---- each id and each number once

abbrev pub Once : List Binding → Type 0
Once bindings = ((id : ℕ) → held (λ binding. binding.id) id bindings ≤ 1) × ((number : ℕ) → held (λ binding. binding.number) number bindings ≤ 1)

added : (mapper made : Mapper) (one other : Bool) → one ≡ false → other ≡ false → (if one || other then mapper else made) ≡ made
added mapper made true other e f = absurd cc
added mapper made false true e f = absurd cc
added mapper made false false e f = refl

bound-behind : (xs ys : List Binding) (caret : Option CaretPlace) → Once (xs ++ ys) → with_bindings ys (record { bindings = xs; caret = caret })
    ≡ record { bindings = xs ++ ys; caret = caret }
bound-behind xs [] caret o = ap (λ bindings. record { bindings = bindings; caret = caret }) (sym (append-nil xs))
bound-behind xs (binding ∷ ys) caret o =
    let same : (xs ++ binding ∷ []) ++ ys ≡ xs ++ binding ∷ ys = append_assoc xs (binding ∷ []) ys in
    ap (with_bindings ys) (added (record { bindings = xs; caret = caret }) (record { bindings = xs ++ binding ∷ []; caret = caret }) _ _
    (none_some _ (new (λ binding. binding.id) binding xs ys (o.0 binding.id)))
    (none_some _ (new (λ binding. binding.number) binding xs ys (o.1 binding.number))))
    ∙ bound-behind (xs ++ binding ∷ []) ys caret (subst Once (sym same) o)
    ∙ ap (λ bindings. record { bindings = bindings; caret = caret }) same

-- how often a number stands in a list
abbrev pub times : ℕ → List ℕ → ℕ
times id [] = 0
times id (other ∷ ids) = (if id == other then 1 else 0) + times id ids

times-append : (id : ℕ) (xs ys : List ℕ) → times id (xs ++ ys) ≡ times id xs + times id ys
times-append id [] ys = omega arith
times-append id (x ∷ xs) ys = (let rest = times-append id xs ys in omega (arith, rest))

abbrev one_if : Bool → ℕ
one_if t = if t then 1 else 0

-- the ids are those of the items, in another order
mutual
  id_times : (id : ℕ) (conversion : Conversion) (parent : List ℕ) (before drawn : ℕ) (item : Item)
      → held (λ binding. binding.id) id (bindings_of conversion parent before drawn item) ≡ times id (ids_of_item item)
  id_times id conversion parent before drawn (character scalar attributes) = refl
  id_times id conversion parent before drawn (element own_id name attributes children) =
      let last : Binding = record {
        id = own_id;
        number = drawn + elements_among children;
        slot =
            slot_of (shape_at conversion parent before name attributes).form;
      } in
      let all : held (λ binding. binding.id) id (bindings_of conversion parent before drawn (element own_id name attributes children))
      ≡ held (λ binding. binding.id) id (bindings_among conversion name 0 drawn children) + (one_if (own_id == id) + 0) =
      held-append (λ binding. binding.id) id (bindings_among conversion name 0 drawn children) (last ∷ []) in
      let rest : held (λ binding. binding.id) id (bindings_among conversion name 0 drawn children)
      ≡ times id (ids_of_inner children) = ids_times id conversion name 0 drawn children in
      let flip : one_if (own_id == id) ≡ one_if (id == own_id) = ap one_if (flipped own_id id) in
      omega (arith, all, rest, flip)

  pub ids_times : (id : ℕ) (conversion : Conversion) (parent : List ℕ) (before drawn : ℕ) (list : Items)
      → held (λ binding. binding.id) id (bindings_among conversion parent before drawn list) ≡ times id (ids_of_inner list)
  ids_times id conversion parent before drawn none = refl
  ids_times id conversion parent before drawn (more item rest) =
      held-append (λ binding. binding.id) id (bindings_of conversion parent before drawn item)
      (bindings_among conversion parent (before + elements_in item) (drawn + elements_of item) rest)
      ∙ (λ i. id_times id conversion parent before drawn item i + ids_times id conversion parent (before + elements_in item) (drawn + elements_of item) rest i)
      ∙ sym (times-append id (ids_of_item item) (ids_of_inner rest))

-- the numbers are those from the first one on
abbrev in_range : ℕ → ℕ → ℕ → ℕ
in_range from count n = if nat_le from n && nat_lt n (from + count) then 1 else 0

range-append : (from a b n : ℕ) → in_range from (a + b) n ≡ in_range from a n + in_range (from + a) b n
range-append from a b n = grind (arith, nat_tests)

range-none : (from n : ℕ) → 0 ≡ in_range from 0 n
range-none from n = grind (arith, nat_tests)

range-one : (from n : ℕ) → (if from == n then 1 else 0) + 0 ≡ in_range from 1 n
range-one from n = grind (arith, nat_tests)

range-once : (from count n : ℕ) → in_range from count n ≤ 1
range-once from count n = go (nat_le from n && nat_lt n (from + count))
  where
    go : (t : Bool) → (if t then 1 else 0) ≤ 1
    go true = omega arith
    go false = omega arith

mutual
  number_held : (n : ℕ) (conversion : Conversion) (parent : List ℕ) (before drawn : ℕ) (item : Item)
      → held (λ binding. binding.number) n (bindings_of conversion parent before drawn item) ≡ in_range drawn (elements_of item) n
  number_held n conversion parent before drawn (character scalar attributes) = range-none drawn n
  number_held n conversion parent before drawn (element id name attributes children) =
      held-append (λ binding. binding.number) n (bindings_among conversion name 0 drawn children) _
      ∙ (λ i. numbers_held n conversion name 0 drawn children i + range-one (drawn + elements_among children) n i)
      ∙ sym (range-append drawn (elements_among children) 1 n)

  numbers_held : (n : ℕ) (conversion : Conversion) (parent : List ℕ) (before drawn : ℕ) (list : Items)
      → held (λ binding. binding.number) n (bindings_among conversion parent before drawn list) ≡ in_range drawn (elements_among list) n
  numbers_held n conversion parent before drawn none = range-none drawn n
  numbers_held n conversion parent before drawn (more item rest) =
      held-append (λ binding. binding.number) n (bindings_of conversion parent before drawn item)
      (bindings_among conversion parent (before + elements_in item) (drawn + elements_of item) rest)
      ∙ (λ i. number_held n conversion parent before drawn item i + numbers_held n conversion parent (before + elements_in item)
      (drawn + elements_of item) rest i)
      ∙ sym (range-append drawn (elements_of item) (elements_among rest) n)

-- ids that differ stand at most once
none-times : (id : ℕ) (ids : List ℕ) → AllByRecursion (λ other. nat_eq id other ≡ false) ids → times id ids ≡ 0
none-times id [] h = refl
none-times id (other ∷ ids) h = ap (λ t. (if t then 1 else 0) + times id ids) h.0 ∙ omega (arith, none-times id ids h.1)

pub equal : (n m : ℕ) → (n == m) ≡ true → n ≡ m
equal n m e = grind (arith, nat_tests)

once-times : (ids : List ℕ) → IsDistinct nat_eq ids → (id : ℕ) → times id ids ≤ 1
unfolding IsDistinct
once-times [] h id = omega arith
once-times (other ∷ ids) h id = go (id == other) refl (none-times other ids h.0) (once-times ids h.1 id)
  where
    go : (t : Bool) → (id == other) ≡ t → times other ids ≡ 0 → times id ids ≤ 1 → (if t then 1 else 0) + times id ids ≤ 1
    go true t n rest = (let none_here : times id ids ≡ 0 = ap (λ v. times v ids) (equal id other t) ∙ n in omega (arith, none_here))
    go false t n rest = omega (arith, rest)

pub same-ids : (list : List Item) → ids_of_inner (items_of list) ≡ ids_of list
same-ids [] = refl
same-ids (item ∷ list) = ap (λ ids. ids_of_item item ++ ids) (same-ids list)

pub once : (conversion : Conversion) (parent : List ℕ) (before drawn : ℕ) (list : List Item) → IsDistinct nat_eq (ids_of list)
    → Once (bindings_among conversion parent before drawn (items_of list))
once conversion parent before drawn list d = (
  λ id. subst (λ n. n ≤ 1) (sym (ids_times id conversion parent before drawn (items_of list) ∙ ap (times id) (same-ids list))) (once-times (ids_of list) d id),
  λ n. subst (λ m. m ≤ 1) (sym (numbers_held n conversion parent before drawn (items_of list))) (range-once drawn (elements_among (items_of list)) n),
)

-- ---- the mapper of a document

-- the bindings of a document's elements are kept as they come
pub mapper-bound : (conversion : Conversion) (parent : List ℕ) (before drawn : ℕ) (list : List Item) (caret : Option CaretPlace)
    → IsDistinct nat_eq (ids_of list)
    → with_bindings (bindings_among conversion parent before drawn (items_of list)) (record { bindings = []; caret = caret })
    ≡ record { bindings = bindings_among conversion parent before drawn (items_of list); caret = caret }
mapper-bound conversion parent before drawn list caret d = bound-behind [] (bindings_among conversion parent before drawn (items_of list)) caret
    (once conversion parent before drawn list d)

all-of : {X : Type 0} (P : X → Type 0) (xs : List X) → ((x : X) → Among x xs → P x) → All P xs
all-of P [] h = All-nil P
all-of P (x ∷ xs) h = All-cons P x xs (h x (inl refl)) (all-of P xs (λ y m. h y (inr m)))

-- the numbers that the mapper knows are those of the bindings
pub numbers-agree : (conversion : Conversion) (parent : List ℕ) (before drawn : ℕ) (list : List Item) (mapper : Mapper) → IsDistinct nat_eq (ids_of list)
    → mapper.bindings ≡ bindings_among conversion parent before drawn (items_of list)
    → Agree (numbers_of mapper) (bindings_among conversion parent before drawn (items_of list))
numbers-agree conversion parent before drawn list mapper d e =
    let bindings = bindings_among conversion parent before drawn (items_of list) in
    all-of (λ binding. numbers_of mapper binding.id ≡ Some binding.number) bindings
    (λ binding m.
    ap (λ all. option_map (λ binding. binding.number) (find (λ other. other.id == binding.id) all)) e
    ∙ ap (option_map (λ binding. binding.number))
    (found (λ binding. binding.id) binding bindings m ((once conversion parent before drawn list d).0 binding.id)))

module _ (mapper : Mapper) (scene : Scene) (o : Once mapper.bindings) where
  mutual
    bound_item : (parent : List ℕ) (before drawn : ℕ) (item : Item)
        → ((binding : Binding) → Among binding (bindings_of scene.conversion parent before drawn item) → Among binding mapper.bindings)
        → IsBound mapper scene parent before item
    bound_item parent before drawn (character scalar attributes) h = tt
    bound_item parent before drawn (element id name attributes children) h =
        let last : Binding = record {
          id = id;
          number = drawn + elements_among children;
          slot =
              slot_of (shape_at scene.conversion parent before name attributes).form;
        } in
        let here : Among last mapper.bindings = h last (among-right last (bindings_among scene.conversion name 0 drawn children) (last ∷ []) (inl refl)) in
        let by_id : bound_id id mapper ≡ Some last = found (λ binding. binding.id) last mapper.bindings here (o.0 id) in
        let by_number : bound_number (drawn + elements_among children) mapper
        ≡ Some last = found (λ binding. binding.number) last mapper.bindings here (o.1 (drawn + elements_among children)) in (
          subst (λ at. IsSomeAnd at (λ binding. option_map (λ bound. bound.slot) (bound_number binding.number mapper)
              ≡ Some (slot_of (shape_at scene.conversion parent before name attributes).form)))
              (sym by_id) (ap (option_map (λ bound. bound.slot)) by_number),
          bound_items name 0 drawn children (λ binding m. h binding (among-left binding (bindings_among scene.conversion name 0 drawn children) (last ∷ []) m)),
        )

    bound_items : (parent : List ℕ) (before drawn : ℕ) (list : Items)
        → ((binding : Binding) → Among binding (bindings_among scene.conversion parent before drawn list) → Among binding mapper.bindings)
        → AreBound mapper scene parent before list
    bound_items parent before drawn none h = tt
    bound_items parent before drawn (more item rest) h =
        let one = bindings_of scene.conversion parent before drawn item in
        let others = bindings_among scene.conversion parent (before + elements_in item) (drawn + elements_of item) rest in (
          bound_item parent before drawn item (λ binding m. h binding (among-left binding one others m)),
          bound_items parent (before + elements_in item) (drawn + elements_of item) rest (λ binding m. h binding (among-right binding one others m)),
        )

-- each element is bound to a view element with the slot of its shape
pub all-bound : (conversion : Conversion) (parent : List ℕ) (before drawn : ℕ) (list : List Item) (mapper : Mapper) (scene : Scene)
    → IsDistinct nat_eq (ids_of list)
    → mapper.bindings ≡ bindings_among conversion parent before drawn (items_of list) → scene.conversion ≡ conversion
    → AreBound mapper scene parent before (items_of list)
all-bound conversion parent before drawn list mapper scene d e s =
    let same : bindings_among scene.conversion parent before drawn (items_of list) ≡ mapper.bindings =
    ap (λ c. bindings_among c parent before drawn (items_of list)) s ∙ sym e in
    bound_items mapper scene (subst Once (sym e) (once conversion parent before drawn list d)) parent before drawn (items_of list)
    (λ binding m. subst (Among binding) same m)
