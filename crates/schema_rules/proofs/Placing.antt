-- The first breach of items and of all that is in them.
use Rattle.std.proofs.Common.{◌≡◌, ℕ, suc, ◌+◌, ◌-◌, ◌<◌, ◌≤◌, ◌^◌, List, [], ◌∷◌, ◌++◌, Bool, true, false, if◌then◌else◌, Option, Some, None, cond, codes}
use Rattle.std.proofs.Common.{zero, option_map, map, length, take, drop, refl, sym, ap, ◌∙◌, arith, append_assoc}
use Rattle.std.specs.Option.{option_or}
use Rattle.std.specs.List.{filter, find, list_any}
use Rattle.std.proofs.lemmas.List.{length_push}
use Rattle.std.proofs.Math.Seq.{take-append_seam, drop-append_seam}
use Rattle.ck_base.specs.declared.faults.Rule.{Rule}
use Rattle.item_definitions.specs.Item.{Attributes, Item, Items, character, element, none, more, items_of, count_of, depth_of}
use Rattle.item_definitions.proofs.Sizes.{length-count}
use Rattle.model_tree.specs.Parts.{TextParts, HeadParts}
use Rattle.model_tree.specs.declared.items.Node.{Node}
use Rattle.model_tree.specs.Nodes.{characters, items_at, items_in}
use Rattle.model_tree.proofs.Counts.{count-append, depth-append, count-inner, depth-inner, count-characters, depth-characters}
use Rattle.schema_definitions.specs.Allowed.{Rules}
use Rattle.breach_definitions.specs.declared.spot.Spot.{Spot}
use Rattle.breach_definitions.specs.Breach.{Placed, placed_item, placed_inner, placed_items, broken_rule, breach_of, first_some, breach, last_name}
use Rattle.breach_definitions.specs.Spots.{lists_path, is_listed, breach_at}
use Rattle.schema_rules.specs.declared.chosen.Chosen.{Chosen}
use Rattle.schema_rules.specs.declared.chosen.Chosen.TheVariants.{All}
use Rattle.schema_rules.specs.Chosen.{is_chosen, Standing, root, AreThere, inside, IsBelow, broken, chosen_breach, breach_from}

or-assoc : {A : Type 0} (a b c : Option A) → option_or (option_or a b) c ≡ option_or a (option_or b c)
or-assoc None b c = refl
or-assoc (Some a) b c = refl

first_some-append : {A B : Type 0} (f : A → Option B) (xs ys : List A) → first_some f (xs ++ ys) ≡ option_or (first_some f xs) (first_some f ys)
first_some-append f [] ys = refl
first_some-append f (x ∷ xs) ys = ap (option_or (f x)) (first_some-append f xs ys) ∙ sym (or-assoc (f x) (first_some f xs) (first_some f ys))

placed-append : (names : List (List ℕ)) (path : List ℕ) (index : ℕ) (xs ys : List Item)
    → placed_inner names path index (items_of (xs ++ ys)) ≡ placed_inner names path index (items_of xs) ++ placed_inner names path (index + length xs)
    (items_of ys)
placed-append names path index [] ys = (let same : index ≡ index + length {A = Item} [] = omega arith in ap (λ n. placed_inner names path n (items_of ys)) same)
placed-append names path index (x ∷ xs) ys =
    let same : index + 1 + length xs ≡ index + length (x ∷ xs) = omega arith in
    ap (λ placed. placed_item names (path ++ index ∷ []) x ++ placed) (placed-append names path (index + 1) xs ys
    ∙ ap (λ n. placed_inner names path (index + 1) (items_of xs) ++ placed_inner names path n (items_of ys)) same)
    ∙ sym (append_assoc (placed_item names (path ++ index ∷ []) x) (placed_inner names path (index + 1) (items_of xs))
    (placed_inner names path (index + length (x ∷ xs)) (items_of ys)))

-- the first breach of two lists of items, one behind the other
from_append : (rules : Rules) (chosen : Chosen) (above : Standing) (index : ℕ) (xs ys : List Item)
    → breach_from rules chosen above index (xs ++ ys)
    ≡ option_or (breach_from rules chosen above index xs) (breach_from rules chosen above (index + length xs) ys)
unfolding breach_from
from_append rules chosen above index xs ys =
    ap (first_some (chosen_breach rules chosen above.path)) (placed-append above.names above.path index xs ys)
    ∙ first_some-append (chosen_breach rules chosen above.path) (placed_inner above.names above.path index (items_of xs))
    (placed_inner above.names above.path (index + length xs) (items_of ys))

pub found_here : (rules : Rules) (chosen : Chosen) (above : Standing) (index : ℕ) (left xs ys : List Item) (found : Rule × List ℕ) → left ≡ xs ++ ys
    → Some found ≡ breach_from rules chosen above index xs
    → Some found ≡ breach_from rules chosen above index left
found_here rules chosen above index left xs ys found e h =
    ap (λ o. option_or o (breach_from rules chosen above (index + length xs) ys)) h ∙ sym (from_append rules chosen above index xs ys)
    ∙ ap (breach_from rules chosen above index) (sym e)

pub found_behind : (rules : Rules) (chosen : Chosen) (above : Standing) (index next : ℕ) (left xs ys : List Item) → left ≡ xs ++ ys
    → None ≡ breach_from rules chosen above index xs → next ≡ index + length xs
    → breach_from rules chosen above next ys ≡ breach_from rules chosen above index left
found_behind rules chosen above index next left xs ys e h n =
    ap (λ i. breach_from rules chosen above i ys) n
    ∙ ap (λ o. option_or o (breach_from rules chosen above (index + length xs) ys)) h
    ∙ sym (from_append rules chosen above index xs ys)
    ∙ ap (breach_from rules chosen above index) (sym e)

pub found_nowhere : (rules : Rules) (chosen : Chosen) (above : Standing) (index : ℕ) (left : List Item) → left ≡ []
    → None ≡ breach_from rules chosen above index left
unfolding breach_from
found_nowhere rules chosen above index left e =
    ap (λ xs. first_some (chosen_breach rules chosen above.path) (placed_inner above.names above.path index (items_of xs))) (sym e)

-- items that are there, and those behind them
pub there_front : (above : Standing) (index : ℕ) (left xs ys : List Item) → left ≡ xs ++ ys → AreThere above index left → AreThere above index xs
there_front above index left xs ys e h =
    record {
      named = h.named;
      few = omega (arith, h.few, ap count_of e, count-append xs ys);
      flat = omega (arith, h.flat, ap depth_of e, depth-append xs ys);
    }

pub there_long : (above : Standing) (index : ℕ) (items : List Item) → AreThere above index items → index + length items < 2 ^ 32
there_long above index items h = omega (arith, h.few, length-count items)

pub there_behind : (above : Standing) (index next : ℕ) (left xs ys : List Item) → left ≡ xs ++ ys → AreThere above index left → next ≡ index + length xs
    → AreThere above next ys
there_behind above index next left xs ys e h n =
    record {
      named = h.named;
      few = omega (arith, n, h.few, ap count_of e, count-append xs ys, length-count xs);
      flat = omega (arith, h.flat, ap depth_of e, depth-append xs ys);
    }

pub dropped : (n : ℕ) (nodes : List Node) → depth_of (items_in (drop n nodes)) ≤ depth_of (items_in nodes)
dropped zero nodes = omega arith
dropped (suc n) [] = omega arith
dropped (suc n) (node ∷ nodes) = omega (arith, dropped n nodes, depth-append (items_at node) (items_in nodes))

pub there_inside : (above : Standing) (index id : ℕ) (name : List ℕ) (attributes : Attributes) (children : List Item)
    → AreThere above index (element id name attributes (items_of children) ∷ [])
    → AreThere (inside above name index) 0 children
there_inside above index id name attributes children h =
    record {
      named = omega (arith, length_push above.names name);
      few = omega (arith, h.few, count-inner children);
      flat = omega (arith, h.flat, depth-inner children, length_push above.path index);
    }

pub text_fits : (above : Standing) (index : ℕ) (parts : TextParts) → AreThere above index (characters parts) → index + length parts.scalars < 2 ^ 32
text_fits above index parts h = omega (arith, h.few, count-characters parts.attributes parts.scalars)

pub text_short : (above : Standing) (index : ℕ) (parts : TextParts) → AreThere above index (characters parts) → 0 < length parts.scalars
    → length above.path < 65
text_short above index parts h some = omega (arith, h.flat, depth-characters parts.attributes parts.scalars)

-- going back out of an element
pub left : {A : Type 0} (old new xs : List A) (x : A) → new ≡ take (length old - 1) old → old ≡ xs ++ x ∷ [] → new ≡ xs
left old new xs x e f =
    e ∙ ap (λ zs. take (length zs - 1) zs) f ∙ (let same : length (xs ++ x ∷ []) - 1 ≡ length xs = omega (arith, length_push xs x)
    in ap (λ n. take n (xs ++ x ∷ [])) same ∙ take-append_seam xs (x ∷ []))

-- a path as it is seen from the end of the one that it goes on from
seam : (path rest : List ℕ) → drop (length path) (path ++ rest) ≡ rest
seam path rest = drop-append_seam path rest

-- characters of equal attributes break the same rule
abbrev at_text : Rules → Standing → Attributes → ℕ → Option (Rule × List ℕ)
at_text rules above attributes index = option_map (λ rule. (rule, above.path ++ index ∷ [])) (broken rules above.names (codes "$text") attributes)

abbrev text : Attributes → List ℕ → List Item
text attributes scalars = map (λ scalar. character scalar attributes) scalars

text-more : (rules : Rules) (chosen : Chosen) (above : Standing) (attributes : Attributes) (index scalar : ℕ) (scalars : List ℕ)
    → breach_from rules chosen above index (text attributes (scalar ∷ scalars))
    ≡ option_or (if is_chosen chosen (index ∷ []) then at_text rules above attributes index else None)
    (breach_from rules chosen above (index + 1) (text attributes scalars))
unfolding breach_from broken_rule
text-more rules chosen above attributes index scalar scalars =
    ap (λ path. option_or (if is_chosen chosen path then at_text rules above attributes index else None)
    (breach_from rules chosen above (index + 1) (text attributes scalars))) (seam above.path (index ∷ []))

text-obeys : (rules : Rules) (chosen : Chosen) (above : Standing) (attributes : Attributes) (index : ℕ) (scalars : List ℕ)
    → broken rules above.names (codes "$text") attributes ≡ None
    → breach_from rules chosen above index (text attributes scalars) ≡ None
unfolding breach_from
text-obeys rules chosen above attributes index [] obeys = refl
text-obeys rules chosen above attributes index (scalar ∷ scalars) obeys =
    text-more rules chosen above attributes index scalar scalars
    ∙ ap (option_or (if is_chosen chosen (index ∷ []) then at_text rules above attributes index else None))
    (text-obeys rules chosen above attributes (index + 1) scalars obeys)
    ∙ ap (λ (o : Option Rule). option_or {T = Rule × List ℕ} (if is_chosen chosen (index ∷ [])
    then option_map (λ rule. (rule, above.path ++ index ∷ [])) o else None) None) obeys
    ∙ go (is_chosen chosen (index ∷ []))
  where
    go : (b : Bool) → option_or {T = Rule × List ℕ} (if b then None else None) None ≡ None
    go true = refl
    go false = refl

text-passed : (rules : Rules) (chosen : Chosen) (above : Standing) (attributes : Attributes) (index scalar : ℕ) (scalars : List ℕ)
    → is_chosen chosen (index ∷ []) ≡ false
    → breach_from rules chosen above index (text attributes (scalar ∷ scalars)) ≡ breach_from rules chosen above (index + 1) (text attributes scalars)
text-passed rules chosen above attributes index scalar scalars e =
    text-more rules chosen above attributes index scalar scalars
    ∙ ap (λ b. option_or (if b then at_text rules above attributes index else None) (breach_from rules chosen above (index + 1) (text attributes scalars))) e

text-untested : (rules : Rules) (chosen : Chosen) (above : Standing) (attributes : Attributes) (index : ℕ) (scalars : List ℕ)
    → ((i : ℕ) → index ≤ i → i < index + length scalars → is_chosen chosen (i ∷ []) ≡ false)
    → breach_from rules chosen above index (text attributes scalars) ≡ None
unfolding breach_from
text-untested rules chosen above attributes index [] before = refl
text-untested rules chosen above attributes index (scalar ∷ scalars) before =
    text-passed rules chosen above attributes index scalar scalars (before index (omega arith) (omega arith))
    ∙ text-untested rules chosen above attributes (index + 1) scalars (λ i from to. before i (omega arith) (omega arith))

text-first : (rules : Rules) (chosen : Chosen) (above : Standing) (attributes : Attributes) (index : ℕ) (scalars : List ℕ) (gap first : ℕ)
    → first ≡ index + gap → gap < length scalars
    → ((i : ℕ) → index ≤ i → i < first → is_chosen chosen (i ∷ []) ≡ false) → is_chosen chosen (first ∷ []) ≡ true
    → breach_from rules chosen above index (text attributes scalars) ≡ at_text rules above attributes first
text-first rules chosen above attributes index [] gap first e less before there = absurd (omega arith)
text-first rules chosen above attributes index (scalar ∷ scalars) zero first e less before there =
    let same : index ≡ first = omega arith in
    text-more rules chosen above attributes index scalar scalars
    ∙ ap (λ i. option_or (if is_chosen chosen (i ∷ []) then at_text rules above attributes i else None)
    (breach_from rules chosen above (index + 1) (text attributes scalars))) same
    ∙ ap (λ b. option_or (if b then at_text rules above attributes first else None)
    (breach_from rules chosen above (index + 1) (text attributes scalars))) there
    ∙ go (broken rules above.names (codes "$text") attributes) refl
  where
    go : (o : Option Rule) → broken rules above.names (codes "$text") attributes ≡ o
        → option_or (option_map (λ rule. (rule, above.path ++ first ∷ [])) o) (breach_from rules chosen above (index + 1) (text attributes scalars))
        ≡ option_map (λ rule. (rule, above.path ++ first ∷ [])) o
    go None obeys = text-obeys rules chosen above attributes (index + 1) scalars obeys
    go (Some rule) some = refl
text-first rules chosen above attributes index (scalar ∷ scalars) (suc gap) first e less before there =
    text-passed rules chosen above attributes index scalar scalars (before index (omega arith) (omega arith))
    ∙ text-first rules chosen above attributes (index + 1) scalars gap first (omega arith) (omega arith) (λ i from to. before i (omega arith) to) there

pub text_untested : (rules : Rules) (chosen : Chosen) (above : Standing) (index end : ℕ) (parts : TextParts) → end ≡ index + length parts.scalars
    → ((i : ℕ) → index ≤ i → i < end → is_chosen chosen (i ∷ []) ≡ false) → None ≡ breach_from rules chosen above index (characters parts)
text_untested rules chosen above index end parts e before =
    sym (text-untested rules chosen above parts.attributes index parts.scalars (λ i from to. before i from (omega arith)))

pub text_tested : (rules : Rules) (chosen : Chosen) (above : Standing) (index end first : ℕ) (parts : TextParts) (name : List ℕ)
    (attributes : Attributes) → name ≡ codes "$text" → attributes ≡ parts.attributes
    → end ≡ index + length parts.scalars → index ≤ first → first < end → ((i : ℕ) → index ≤ i → i < first → is_chosen chosen (i ∷ []) ≡ false)
    → is_chosen chosen (first ∷ []) ≡ true
    → option_map (λ rule. (rule, above.path ++ first ∷ [])) (broken rules above.names name attributes) ≡ breach_from rules chosen above index (characters parts)
text_tested rules chosen above index end first parts name attributes named given e from to before there =
    ap (λ n. option_map (λ (rule : Rule). (rule, above.path ++ first ∷ [])) (broken rules above.names n attributes)) named
    ∙ ap (λ a. at_text rules above a first) given
    ∙ sym (text-first rules chosen above parts.attributes index parts.scalars (first - index) first (omega arith) (omega arith) before there)

-- an element, and then what is in it
append-none : {A : Type 0} (xs : List A) → xs ++ [] ≡ xs
append-none [] = refl
append-none (x ∷ xs) = ap (λ ys. x ∷ ys) (append-none xs)

element-first : (rules : Rules) (chosen : Chosen) (above : Standing) (index id : ℕ) (name : List ℕ) (attributes : Attributes) (children : List Item)
    → breach_from rules chosen above index (element id name attributes (items_of children) ∷ [])
    ≡ option_or (if is_chosen chosen (index ∷ []) then option_map (λ rule. (rule, above.path ++ index ∷ [])) (broken rules above.names name attributes)
    else None)
    (first_some (chosen_breach rules chosen above.path) (placed_inner (above.names ++ name ∷ []) (above.path ++ index ∷ []) 0 (items_of children)))
unfolding breach_from broken_rule
element-first rules chosen above index id name attributes children =
    let inner = placed_inner (above.names ++ name ∷ []) (above.path ++ index ∷ []) 0 (items_of children) in
    ap
    (λ path. option_or (if is_chosen chosen path then option_map (λ rule. (rule, above.path ++ index ∷ [])) (broken rules above.names name attributes)
    else None) (first_some (chosen_breach rules chosen above.path) (inner ++ [])))
    (seam above.path (index ∷ []))
    ∙ ap
    (λ placed. option_or (if is_chosen chosen (index ∷ [])
    then option_map (λ rule. (rule, above.path ++ index ∷ [])) (broken rules above.names name attributes) else None)
    (first_some (chosen_breach rules chosen above.path) placed))
    (append-none inner)

-- two functions that give the same wherever a path goes on from here
mutual
  under-item : {B : Type 0} (f g : Placed → Option B) (names : List (List ℕ)) (path : List ℕ) (item : Item)
      → ((rest : List ℕ) (placed : Placed) → placed.path ≡ path ++ rest → f placed ≡ g placed)
      → first_some f (placed_item names path item) ≡ first_some g (placed_item names path item)
  under-item f g names path (character scalar attributes) same =
      let placed : Placed = record { ancestors = names; path = path; item = character scalar attributes }
      in ap (λ o. option_or o None) (same [] placed (sym (append-none path)))
  under-item f g names path (element id name attributes children) same =
      let placed : Placed = record { ancestors = names; path = path; item = element id name attributes children } in
      (λ i. option_or (same [] placed (sym (append-none path)) i)
      (under-inner f g (names ++ name ∷ []) path 0 children (λ number rest placed e. same (number ∷ rest) placed e) i))

  under-inner : {B : Type 0} (f g : Placed → Option B) (names : List (List ℕ)) (path : List ℕ) (index : ℕ) (items : Items)
      → ((number : ℕ) (rest : List ℕ) (placed : Placed) → placed.path ≡ path ++ number ∷ rest → f placed ≡ g placed)
      → first_some f (placed_inner names path index items) ≡ first_some g (placed_inner names path index items)
  under-inner f g names path index none same = refl
  under-inner f g names path index (more item items) same =
      first_some-append f (placed_item names (path ++ index ∷ []) item) (placed_inner names path (index + 1) items)
      ∙ (λ i. option_or (under-item f g names (path ++ index ∷ []) item
      (λ rest placed e. same index rest placed (e ∙ append_assoc path (index ∷ []) rest)) i) (under-inner f g names path (index + 1) items same i))
      ∙ sym (first_some-append g (placed_item names (path ++ index ∷ []) item) (placed_inner names path (index + 1) items))

-- what is tested inside an element
below-is : (rules : Rules) (chosen below : Chosen) (above : Standing) (name : List ℕ) (index : ℕ) (children : List Item) → IsBelow chosen below index
    → breach_from rules below (inside above name index) 0 children
    ≡ first_some (chosen_breach rules chosen above.path) (placed_inner (above.names ++ name ∷ []) (above.path ++ index ∷ []) 0 (items_of children))
unfolding breach_from
below-is rules chosen below above name index children same =
    under-inner (chosen_breach rules below (above.path ++ index ∷ [])) (chosen_breach rules chosen above.path) (above.names ++ name ∷ [])
    (above.path ++ index ∷ []) 0 (items_of children)
    (λ number rest placed e. ap (λ b. if b then breach_of rules placed else None) (
    ap (λ path. is_chosen below (drop (length (above.path ++ index ∷ [])) path)) e
    ∙ ap (is_chosen below) (seam (above.path ++ index ∷ []) (number ∷ rest))
    ∙ same number rest
    ∙ ap (is_chosen chosen) (sym (ap (drop (length above.path)) (e ∙ append_assoc above.path (index ∷ []) (number ∷ rest))
    ∙ seam above.path (index ∷ number ∷ rest)))
    ))

pub element_is : (rules : Rules) (chosen below : Chosen) (above : Standing) (index : ℕ) (head : HeadParts) (name : List ℕ) (children : List Item)
    (tested : Bool) (own : Option (Rule × List ℕ)) → name ≡ head.name
    → own ≡ (if tested then option_map (λ rule. (rule, above.path ++ index ∷ [])) (broken rules above.names head.name head.attributes) else None)
    → tested ≡ is_chosen chosen (index ∷ []) → IsBelow chosen below index
    → option_or own (breach_from rules below (inside above name index) 0 children)
    ≡ breach_from rules chosen above index (element head.id head.name head.attributes (items_of children) ∷ [])
element_is rules chosen below above index head name children tested own named owned is same =
    ap (λ n. option_or own (breach_from rules below (inside above n index) 0 children)) named
    ∙ ap (λ first. option_or first (breach_from rules below (inside above head.name index) 0 children)) owned
    ∙ ap
    (λ b. option_or (if b then option_map (λ rule. (rule, above.path ++ index ∷ [])) (broken rules above.names head.name head.attributes) else None)
    (breach_from rules below (inside above head.name index) 0 children))
    is
    ∙ ap
    (option_or (if is_chosen chosen (index ∷ [])
    then option_map (λ rule. (rule, above.path ++ index ∷ [])) (broken rules above.names head.name head.attributes) else None))
    (below-is rules chosen below above head.name index children same)
    ∙ sym (element-first rules chosen above index head.id head.name head.attributes children)

-- no item is tested
unchosen : (rules : Rules) (chosen : Chosen) (path : List ℕ) → ((path : List ℕ) → is_chosen chosen path ≡ false) → (xs : List Placed)
    → None ≡ first_some (chosen_breach rules chosen path) xs
unchosen rules chosen path untold [] = refl
unchosen rules chosen path untold (x ∷ xs) =
    unchosen rules chosen path untold xs
    ∙ ap (λ b. option_or (if b then breach_of rules x else None) (first_some (chosen_breach rules chosen path) xs)) (sym (untold (drop (length path) x.path)))

pub none_chosen : (rules : Rules) (chosen : Chosen) (above : Standing) (index : ℕ) (items : List Item)
    → ((path : List ℕ) → is_chosen chosen path ≡ false) → None ≡ breach_from rules chosen above index items
unfolding breach_from
none_chosen rules chosen above index items untold = unchosen rules chosen above.path untold (placed_inner above.names above.path index (items_of items))

-- all items, and those that spots list
pub all_is : (rules : Rules) (items : List Item) → breach_from rules All root 0 items ≡ breach rules items
unfolding breach_from breach
all_is rules items = refl

filtered : (rules : Rules) (chosen : Chosen) (spots : List Spot)
    → ((path : List ℕ) → is_chosen chosen path ≡ list_any (λ spot. lists_path spot path) spots) → (xs : List Placed)
    → first_some (chosen_breach rules chosen []) xs ≡ first_some (breach_of rules) (filter (is_listed spots) xs)
filtered rules chosen spots same [] = refl
filtered rules chosen spots same (x ∷ xs) =
    ap (λ b. option_or (if b then breach_of rules x else None) (first_some (chosen_breach rules chosen []) xs)) (same x.path)
    ∙ elim (is_listed spots x) as (λ b. option_or (if b then breach_of rules x else None) (first_some (chosen_breach rules chosen []) xs)
    ≡ first_some (breach_of rules) (cond b (x ∷ filter (is_listed spots) xs) (filter (is_listed spots) xs))) [
      | true ↦ ap (option_or (breach_of rules x)) (filtered rules chosen spots same xs)
      | false ↦ filtered rules chosen spots same xs
    ]

pub listed_is : (rules : Rules) (chosen : Chosen) (spots : List Spot) (items : List Item)
    → ((path : List ℕ) → is_chosen chosen path ≡ list_any (λ spot. lists_path spot path) spots)
    → breach_from rules chosen root 0 items ≡ breach_at rules items spots
unfolding breach_from breach_at
listed_is rules chosen spots items same = filtered rules chosen spots same (placed_items items)

-- the last of some names, and the first of what is made of entries
pub last_is : (names above : List (List ℕ)) (parent : List ℕ) → names ≡ above ++ parent ∷ [] → parent ≡ last_name names
last_is names above parent e = sym (ap last_name e ∙ go above)
  where
    go : (above : List (List ℕ)) → last_name (above ++ parent ∷ []) ≡ parent
    go [] = refl
    go (name ∷ []) = refl
    go (name ∷ next ∷ above) = go (next ∷ above)

pub find_made : {A B : Type 0} (f : A → B) (test : B → Bool) (xs : List A) → option_map f (find (λ x. test (f x)) xs) ≡ find test (map f xs)
find_made f test [] = refl
find_made f test (x ∷ xs) = go (test (f x)) (find_made f test xs)
  where
    go : (b : Bool) → option_map f (find (λ x. test (f x)) xs) ≡ find test (map f xs) → option_map f (if b then Some x else find (λ x. test (f x)) xs)
        ≡ (if b then Some (f x) else find test (map f xs))
    go true h = refl
    go false h = h
