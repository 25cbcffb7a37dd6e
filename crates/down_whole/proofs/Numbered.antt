-- Exactly the elements of a document are bound, and no two to one view element.
use Rattle.std.proofs.Common.{◌≡◌, ℕ, ◌+◌, ◌*◌, ◌<◌, ◌≤◌, ◌==◌, nat_lt, ◌||◌, List, [], ◌∷◌, length, length-append, inl, inr, Bool, true, false, if◌then◌else◌}
use Rattle.std.proofs.Common.{Option, Some, None, refl, sym, ap, ◌∙◌, subst, arith}
use Rattle.std.proofs.lemmas.Bool.Decides.{nat_tests}
use Rattle.std.specs.Prelude.{is_some, option_map, cond, codes}
use Rattle.std.specs.List.{find, list_any}
use Rattle.item_definitions.specs.Item.{Item, Items, character, element, none, more, items_of}
use Rattle.item_definitions.proofs.Distinct.{Among, among-join}
use Rattle.document_definitions.specs.Document.{State, ids_of, ids_of_item, ids_of_inner}
use Rattle.document_definitions.specs.Sound.{IsSound}
use Rattle.view_definitions.specs.Node.{ViewNode}
use Rattle.converter_definitions.specs.Gives.{Conversion}
use Rattle.pos_mapper.specs.Bindings.{Binding, Mapper, numbers_of}
use Rattle.pos_mapper.specs.Mapped.{slot_of}
use Rattle.downcast_definitions.specs.Rows.{elements_in, shape_at}
use Rattle.down_whole.specs.Bound.{elements_of, elements_among, bindings_of, bindings_among, AreBelow}
use Rattle.downcast_definitions.specs.Numbered.{AreNumbered}
use Rattle.down_whole.proofs.Bindings.{held, found, times, ids_times, same-ids, once, Once, flipped, equal}
use Rattle.down_whole.proofs.Mapping.{AllMade, mapper-bindings, items-distinct}

some_more : (n : ℕ) → nat_lt 0 (1 + n) ≡ true
some_more n = grind (arith, nat_tests)

none_more : (n : ℕ) → nat_lt 0 (0 + n) ≡ nat_lt 0 n
none_more n = ap (nat_lt 0) (omega arith)

-- an id is bound where a binding has it
bound : (id : ℕ) (bindings : List Binding) → is_some (find (λ binding. binding.id == id) bindings) ≡ nat_lt 0 (held (λ binding. binding.id) id bindings)
bound id [] = refl
bound id (binding ∷ bindings) = go (binding.id == id) (bound id bindings)
  where
    go : (t : Bool) → is_some (find (λ binding. binding.id == id) bindings) ≡ nat_lt 0 (held (λ binding. binding.id) id bindings)
        → is_some (cond t (Some binding) (find (λ binding. binding.id == id) bindings))
        ≡ nat_lt 0 ((if t then 1 else 0) + held (λ binding. binding.id) id bindings)
    go true rest = sym (some_more (held (λ binding. binding.id) id bindings))
    go false rest = rest ∙ sym (none_more (held (λ binding. binding.id) id bindings))

-- an id stands in a list
stands : (id : ℕ) (ids : List ℕ) → list_any (λ other. other == id) ids ≡ nat_lt 0 (times id ids)
stands id [] = refl
stands id (other ∷ ids) = ap (λ t. t || list_any (λ other. other == id) ids) (flipped other id) ∙ go (id == other) (stands id ids)
  where
    go : (t : Bool) → list_any (λ other. other == id) ids ≡ nat_lt 0 (times id ids) → (t || list_any (λ other. other == id) ids)
        ≡ nat_lt 0 ((if t then 1 else 0) + times id ids)
    go true rest = sym (some_more (times id ids))
    go false rest = rest ∙ sym (none_more (times id ids))

-- that a binding of these has this id and this number
record IsBoundSo (bindings : List Binding) (id number : ℕ) : Type 0 where
  binding : Binding
  among : Among binding bindings
  has_id : binding.id ≡ id
  has_number : binding.number ≡ number

bound-so : (bindings : List Binding) (id number : ℕ) → option_map (λ binding. binding.number) (find (λ binding. binding.id == id) bindings)
    ≡ Some number → IsBoundSo bindings id number
bound-so [] id number e = cc
bound-so (first ∷ bindings) id number e = go (first.id == id) refl e (bound-so bindings id number)
  where
    go : (t : Bool) → (first.id == id) ≡ t → option_map (λ binding. binding.number) (cond t (Some first) (find (λ binding. binding.id == id) bindings))
        ≡ Some number
        → (option_map (λ binding. binding.number) (find (λ binding. binding.id == id) bindings) ≡ Some number → IsBoundSo bindings id number)
        → IsBoundSo (first ∷ bindings) id number
    go true t f rest = record { binding = first; among = inl refl; has_id = equal first.id id t; has_number = cc }
    go false t f rest = (let b = rest f in record { binding = b.binding; among = inr b.among; has_id = b.has_id; has_number = b.has_number })

-- one number is bound to one id
one-id : (bindings : List Binding) → Once bindings → (id other number : ℕ) → IsBoundSo bindings id number → IsBoundSo bindings other number → id ≡ other
one-id bindings o id other number a b =
    let same : a.binding.number ≡ b.binding.number = a.has_number ∙ sym b.has_number in
    let twice : Some a.binding ≡ Some b.binding =
    sym (found (λ binding. binding.number) a.binding bindings a.among (o.1 a.binding.number))
    ∙ ap (λ n. find (λ binding. binding.number == n) bindings) same
    ∙ found (λ binding. binding.number) b.binding bindings b.among (o.1 b.binding.number) in
    let equals : a.binding ≡ b.binding = cc in
    sym a.has_id ∙ ap (λ (binding : Binding). binding.id) equals ∙ b.has_id

mutual
  below-of : (conversion : Conversion) (parent : List ℕ) (before drawn : ℕ) (item : Item) (binding : Binding)
      → Among binding (bindings_of conversion parent before drawn item) → binding.number < drawn + elements_of item
  below-of conversion parent before drawn (character scalar attributes) binding a = absurd a
  below-of conversion parent before drawn (element id name attributes children) binding a =
      let inside = bindings_among conversion name 0 drawn children in
      let last : Binding = record {
        id = id;
        number = drawn + elements_among children;
        slot =
            slot_of (shape_at conversion parent before name attributes).form;
      } in
      elim (among-join binding inside (last ∷ []) a) [
        | inl b ↦ (let n = below-among conversion name 0 drawn children binding b in omega (arith, n))
        | inr b ↦ elim b [
          | inl e ↦ (let n : binding.number ≡ drawn + elements_among children = ap (λ (b : Binding). b.number) e in omega (arith, n))
          | inr none_left ↦ absurd none_left
        ]
      ]

  below-among : (conversion : Conversion) (parent : List ℕ) (before drawn : ℕ) (list : Items) (binding : Binding)
      → Among binding (bindings_among conversion parent before drawn list) → binding.number < drawn + elements_among list
  below-among conversion parent before drawn none binding a = absurd a
  below-among conversion parent before drawn (more item rest) binding a =
      elim (among-join binding (bindings_of conversion parent before drawn item)
      (bindings_among conversion parent (before + elements_in item) (drawn + elements_of item) rest) a) [
        | inl b ↦ (let n = below-of conversion parent before drawn item binding b in omega (arith, n))
        | inr b ↦ (let n = below-among conversion parent (before + elements_in item) (drawn + elements_of item) rest binding b in omega (arith, n))
      ]

-- the mapper of a document numbers exactly its elements, each by a number of its own
pub numbered_is : (conversion : Conversion) (state : State) (nodes : List ViewNode) (new : Mapper) → IsSound state → AllMade conversion state.document nodes new
    → AreNumbered (numbers_of new) (ids_of state.document.items)
numbered_is conversion state nodes new s m =
    let d = items-distinct state s in
    let is = mapper-bindings conversion state.document nodes new m d in
    let bindings = bindings_among conversion (codes "$root") 0 0 (items_of state.document.items) in
    let o : Once bindings = once conversion (codes "$root") 0 0 state.document.items d in
    record {
      each = λ id.
          ap (λ all. is_some (option_map (λ (binding : Binding). binding.number) (find (λ binding. binding.id == id) all))) is
          ∙ kept (find (λ binding. binding.id == id) bindings)
          ∙ bound id bindings
          ∙ ap (nat_lt 0) (ids_times id conversion (codes "$root") 0 0 (items_of state.document.items) ∙ ap (times id) (same-ids state.document.items))
          ∙ sym (stands id (ids_of state.document.items));
      apart = λ id other number e f.
          let found_in : (id : ℕ) → numbers_of new id ≡ Some number → IsBoundSo bindings id number = λ id e.
          bound-so bindings id number (ap (λ all. option_map (λ (binding : Binding). binding.number) (find (λ binding. binding.id == id) all)) (sym is) ∙ e) in
          one-id bindings o id other number (found_in id e) (found_in other f);
    }
  where
    kept : (o : Option Binding) → is_some (option_map (λ binding. binding.number) o) ≡ is_some o
    kept None = refl
    kept (Some binding) = refl

-- each number that is bound was drawn
pub below_is : (conversion : Conversion) (state : State) (nodes : List ViewNode) (new : Mapper) (drawn : ℕ) → IsSound state
    → AllMade conversion state.document nodes new
    → drawn ≡ elements_among (items_of state.document.items) → AreBelow drawn (numbers_of new)
below_is conversion state nodes new drawn s m d = λ id number e.
    let items = items_of state.document.items in
    let is = mapper-bindings conversion state.document nodes new m (items-distinct state s) in
    let b = bound-so (bindings_among conversion (codes "$root") 0 0 items) id number
    (ap (λ all. option_map (λ (binding : Binding). binding.number) (find (λ binding. binding.id == id) all)) (sym is) ∙ e) in
    let less = below-among conversion (codes "$root") 0 0 items b.binding b.among in
    omega (arith, b.has_number)

-- there are as many elements as ids
mutual
  elements-ids-of : (item : Item) → elements_of item ≡ length (ids_of_item item)
  elements-ids-of (character scalar attributes) = refl
  elements-ids-of (element id name attributes children) = omega (arith, elements-ids-among children)

  elements-ids-among : (list : Items) → elements_among list ≡ length (ids_of_inner list)
  elements-ids-among none = refl
  elements-ids-among (more item rest) = omega (arith, elements-ids-of item, elements-ids-among rest, length-append (ids_of_item item) (ids_of_inner rest))

pub elements_ids : (list : List Item) → elements_among (items_of list) ≡ length (ids_of list)
elements_ids list = elements-ids-among (items_of list) ∙ ap length (same-ids list)

pub calls_ids : (each start now : ℕ) (list : List Item) → now ≤ start + each * elements_among (items_of list) → now ≤ start + each * length (ids_of list)
calls_ids each start now list h = subst (λ n. now ≤ start + each * n) (elements_ids list) h
