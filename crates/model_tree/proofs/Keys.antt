-- Values of keys given to items.
use Rattle.std.proofs.Common.{◌≡◌, ℕ, zero, suc, ◌+◌, ◌<◌, ◌≤◌, true, List, [], ◌∷◌, ◌++◌, map, length, get_or, take, drop, Option, Some, None, refl, sym, ap}
use Rattle.std.proofs.Common.{◌∙◌, subst, arith, Result}
use Rattle.std.specs.Prelude.{is_some}
use Rattle.std.proofs.lemmas.List.{map-append}
use Rattle.ck_base.specs.declared.value.Value.{Value as AttributeValue}
use Rattle.item_definitions.specs.Item.{Attributes, Item, character, element, items_of, attributes_of, with_attributes}
use Rattle.item_definitions.specs.Children.{children_at, at}
use Rattle.operation_definitions.specs.Level.{with_key, given, give}
use Rattle.model_tree.specs.Parts.{TextParts, HeadParts}
use Rattle.model_tree.specs.declared.items.Node.{Node}
use Rattle.model_tree.specs.Nodes.{characters, items_at, items_in, IsNormal}
use Rattle.model_tree.specs.Places.{put_run, Gives}
use Rattle.model_tree.specs.Limits.{changed}
use Rattle.model_tree.specs.declared.fault.TreeFault.{TreeFault}
use Rattle.model_tree.proofs.Puts.{nowhere, short, memory, changed_gives}
use Rattle.model_tree.proofs.Steps.{up_to}

given-characters : (key : List ℕ) (value : Option AttributeValue) (attributes : Attributes) (scalars : List ℕ)
    → map (λ scalar. character scalar (with_key key value attributes)) scalars ≡ given key value (map (λ scalar. character scalar attributes) scalars)
given-characters key value attributes [] = refl
given-characters key value attributes (scalar ∷ scalars) = ap (λ items. character scalar (with_key key value attributes) ∷ items)
    (given-characters key value attributes scalars)

pub text_given : (key : List ℕ) (value : Option AttributeValue) (text made : TextParts) → made.scalars ≡ text.scalars
    → made.attributes ≡ with_key key value text.attributes → characters made ≡ given key value (characters text)
text_given key value text made s a = (λ i. map (λ scalar. character scalar (a i)) (s i)) ∙ given-characters key value text.attributes text.scalars

pub element_given : (key : List ℕ) (value : Option AttributeValue) (head made : HeadParts) (children same : List Item) → made.id ≡ head.id
    → made.name ≡ head.name → made.attributes ≡ with_key key value head.attributes → same ≡ children
    → element made.id made.name made.attributes (items_of same) ∷ [] ≡ given key value (element head.id head.name head.attributes (items_of children) ∷ [])
element_given key value head made children same i n a c = λ t. element (i t) (n t) (a t) (items_of (c t)) ∷ []

-- no node of a list in normal form is empty
pub full_at : (nodes : List Node) (index : ℕ) (node : Node) → IsNormal nodes → index < length nodes → node ≡ get_or nodes index node
    → 0 < length (items_at node)
full_at [] index node h less is = absurd (omega arith)
full_at (x ∷ nodes) zero node h less is = subst (λ n. 0 < length (items_at n)) (sym is) h.0
full_at (x ∷ nodes) (suc index) node h less is = full_at nodes index node h.2 (omega arith) is

pub full_given : (key : List ℕ) (value : Option AttributeValue) (read nodes : List Node) (index : ℕ) (node made : Node) → read ≡ nodes → IsNormal nodes
    → index < length nodes → node ≡ get_or read index node
    → items_at made ≡ given key value (items_at node) → 0 < length (items_at made)
full_given key value read nodes index node made same h less is e =
    omega (arith, full_at nodes index node h less (is ∙ ap (λ xs. get_or xs index node) same), ap length e, length-given (items_at node))
  where
    length-given : (items : List Item) → length (given key value items) ≡ length items
    length-given [] = refl
    length-given (item ∷ items) = ap suc (length-given items)

-- a value given to a run at a path
module _ (path : List ℕ) (offset count : ℕ) (key : List ℕ) (value : Option AttributeValue) (xs : List Item) where
  pub give_nowhere : children_at path xs ≡ None → changed (at path (give offset count key value) xs) ≡ None
  give_nowhere e = ap changed (nowhere (λ run. Some (given key value run, run)) path offset count xs e)

  pub give_short : (level : List Item) → children_at path xs ≡ Some level → length level < offset + count
      → changed (at path (give offset count key value) xs) ≡ None
  give_short level e less = ap changed (short (λ run. Some (given key value run, run)) path offset count xs level e less)

  pub give_there : (level : List Item) → children_at path xs ≡ Some level → offset + count ≤ length level
      → is_some (changed (at path (give offset count key value) xs)) ≡ true
  give_there level e fits =
      let run = take count (drop offset level) in
      changed_some (at path (give offset count key value) xs)
      (memory (λ run. Some (given key value run, run)) path offset count xs level (given key value run) run e fits refl)
    where
      changed_some : (o : Option (List Item × List Item)) → is_some o ≡ true → is_some (changed o) ≡ true
      changed_some None e = e
      changed_some (Some made) e = refl

  pub give_gives : (level new run : List Item) (result : Result (List Item) TreeFault) → children_at path xs ≡ Some level
      → run ≡ take count (drop offset level) → new ≡ given key value run
      → Gives (put_run path offset count new xs) result → Gives (changed (at path (give offset count key value) xs)) result
  give_gives level new run result e r n h =
      changed_gives (λ run. Some (given key value run, run)) path offset count xs level new run result e (ap (λ s. Some (given key value s, s)) (sym r)
      ∙ ap (λ made. Some (made, run)) (sym n)) h
