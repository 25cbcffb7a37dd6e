-- A converter without conditions gives each element of its name a shape, if no converter before it has.
use Rattle.std.proofs.Common.{◌≡◌, ℕ, List, [], ◌∷◌, ◌++◌, Bool, true, false, cond, not, ◌&&◌, ◌||◌, All, Contains, Option, Some, None, IsSome, is_some}
use Rattle.std.proofs.Common.{option_map, fold, filter, ◌⊎◌, inl, inr, refl, sym, ap, ◌∙◌, subst, arith}
use Rattle.std.specs.Bool.{⊤}
use Rattle.std.specs.List.{list_any}
use Rattle.std.specs.Str.{bytes_eq}
use Rattle.std.proofs.lemmas.Bool.{or_cases, or_left, or_right, and_from}
use Rattle.std.proofs.lemmas.List.Elements.{All-head, All-tail, Contains-append_cases, Contains-push_cases}
use Rattle.ck_base.specs.declared.value.Value.{Value as AttributeValue}
use Rattle.item_definitions.specs.Item.{Attributes}
use Rattle.view_definitions.specs.Node.{ViewAttributes}
use Rattle.converter_definitions.specs.declared.facts.Facts.{Facts}
use Rattle.converter_definitions.specs.declared.facts.Key.{Key}
use Rattle.converter_definitions.specs.declared.facts.Key.TheVariants.{Insert, Attribute}
use Rattle.converter_definitions.specs.declared.part.Part.{Part}
use Rattle.converter_definitions.specs.declared.part.Part.TheVariants.{Shape, Extra}
use Rattle.converter_definitions.specs.declared.stock.StockConverter.{StockConverter}
use Rattle.converter_definitions.specs.declared.stock.StockConverter.TheVariants.{ElementToElement, ElementToStructure, AttributeToElement}
use Rattle.converter_definitions.specs.declared.stock.StockConverter.TheVariants.{AttributeToAttribute, MarkerToHighlight, MarkerToElement}
use Rattle.converter_definitions.specs.Form.{Form}
use Rattle.converter_definitions.specs.Facts.{same_key, all_keys, attribute_keys, is_left, are_left, left_without_all}
use Rattle.converter_definitions.specs.Gives.{Given, part, layer, Gift, gift_if, Converter, stock, boxed, Conversion, stock_gift, gift, Collected, with_given}
use Rattle.converter_definitions.specs.Gives.{with_gift, collected, converted_of, converted}
use Rattle.breach_definitions.proofs.Placed.{only}
use Rattle.settings_definitions.specs.Converting.{LeavesElement, LeavesElements}

-- a gift without a shape doesn't consume the element
abbrev Leaves : Option Gift → Type 0
Leaves None = ⊤
Leaves (Some (keys, part (Shape form))) = ⊤
Leaves (Some (keys, part (Extra attributes))) = is_left keys Insert ≡ false
Leaves (Some (keys, layer outer)) = is_left keys Insert ≡ false

-- the element is still to be converted, or has its shape
abbrev IsOpen : Collected → Type 0
IsOpen made = (is_left made.left Insert ≡ true) ⊎ IsSome made.form

insert_stays : (keys left : List Key) → is_left keys Insert ≡ false → is_left left Insert ≡ true → is_left (left_without_all keys left) Insert ≡ true
insert_stays keys [] apart there = cc
insert_stays keys (Insert ∷ left) apart there = ap (λ b. is_left (cond (not b) (Insert ∷ left_without_all keys left) (left_without_all keys left)) Insert) apart
insert_stays keys (Attribute name ∷ left) apart there = go (insert_stays keys left apart there) (is_left keys (Attribute name))
  where
    go : is_left (left_without_all keys left) Insert ≡ true → (b : Bool)
        → is_left (cond (not b) (Attribute name ∷ left_without_all keys left) (left_without_all keys left)) Insert ≡ true
    go rest true = rest
    go rest false = rest

stays_open : (made : Collected) (given : Option Gift) → Leaves given → IsOpen made → IsOpen (with_gift made given)
stays_open made None leaves open_still = open_still
stays_open made (Some (keys, part (Shape form))) leaves open_still = go (are_left made.left keys)
  where
    go : (b : Bool) → IsOpen (cond b (with_given (part (Shape form)) (record made { left = left_without_all keys made.left })) made)
    go true = inr refl
    go false = open_still
stays_open made (Some (keys, part (Extra attributes))) leaves open_still = go (are_left made.left keys)
  where
    go : (b : Bool) → IsOpen (cond b (with_given (part (Extra attributes)) (record made { left = left_without_all keys made.left })) made)
    go true = elim open_still [ inl there ↦ inl (insert_stays keys made.left leaves there) | inr done ↦ inr done ]
    go false = open_still
stays_open made (Some (keys, layer outer)) leaves open_still = go (are_left made.left keys)
  where
    go : (b : Bool) → IsOpen (cond b (with_given (layer outer) (record made { left = left_without_all keys made.left })) made)
    go true = elim open_still [ inl there ↦ inl (insert_stays keys made.left leaves there) | inr done ↦ inr done ]
    go false = open_still

stays_shaped : (made : Collected) (given : Option Gift) → IsSome made.form → IsSome (with_gift made given).form
stays_shaped made None shaped = shaped
stays_shaped made (Some (keys, part (Shape form))) shaped = go (are_left made.left keys)
  where
    go : (b : Bool) → IsSome (cond b (with_given (part (Shape form)) (record made { left = left_without_all keys made.left })) made).form
    go true = refl
    go false = shaped
stays_shaped made (Some (keys, part (Extra attributes))) shaped = go (are_left made.left keys)
  where
    go : (b : Bool) → IsSome (cond b (with_given (part (Extra attributes)) (record made { left = left_without_all keys made.left })) made).form
    go true = shaped
    go false = shaped
stays_shaped made (Some (keys, layer outer)) shaped = go (are_left made.left keys)
  where
    go : (b : Bool) → IsSome (cond b (with_given (layer outer) (record made { left = left_without_all keys made.left })) made).form
    go true = shaped
    go false = shaped

-- what gives a shape for the element alone gives it where the element is open
shaped_now : (made : Collected) (form : Form ViewAttributes) → IsOpen made → IsSome (with_gift made (Some (Insert ∷ [], part (Shape form)))).form
shaped_now made form open_still = go (is_left made.left Insert) open_still
  where
    go : (b : Bool) → (b ≡ true) ⊎ IsSome made.form
        → IsSome (cond (b && true) (with_given (part (Shape form)) (record made { left = left_without_all (Insert ∷ []) made.left })) made).form
    go true h = refl
    go false h = elim h [ inl e ↦ cc | inr done ↦ done ]

module _ (objects : List (List ℕ)) (facts : Facts) where
  if_shape : (b : Bool) (keys : List Key) (form : Form ViewAttributes) → Leaves (gift_if b (keys, part (Shape form)))
  if_shape true keys form = tt
  if_shape false keys form = tt

  if_layer : (b : Bool) (model : List ℕ) (given : Given) → Leaves (Some (Attribute model ∷ [], given)) → Leaves (gift_if b (Attribute model ∷ [], given))
  if_layer true model given h = h
  if_layer false model given h = tt

  leaves_of : (converter : Converter) → LeavesElements converter → Leaves (gift objects facts converter)
  leaves_of (stock (ElementToElement model attributes parent view)) h = if_shape _ _ _
  leaves_of (stock (ElementToStructure model attributes parent view)) h = if_shape _ _ _
  leaves_of (stock (AttributeToElement model value view)) h = if_layer _ model _ refl
  leaves_of (stock (AttributeToAttribute wanted model value view)) h = if_layer _ model _ refl
  leaves_of (stock (MarkerToHighlight marker view)) h = tt
  leaves_of (stock (MarkerToElement marker view)) h = tt
  leaves_of (boxed gives) h = go (gives facts) (h facts)
    where
      go : (given : Option (List Key × Part)) → LeavesElement given → Leaves (option_map (λ pair. (pair.0, part pair.1)) given)
      go None l = tt
      go (Some (keys, Shape form)) l = tt
      go (Some (keys, Extra attributes)) l = l

  all_shaped : (converters : List Converter) (made : Collected) → IsSome made.form
      → IsSome (fold (λ made converter. with_gift made (gift objects facts converter)) made converters).form
  all_shaped [] made shaped = shaped
  all_shaped (converter ∷ converters) made shaped = all_shaped converters (with_gift made (gift objects facts converter))
      (stays_shaped made (gift objects facts converter) shaped)

  -- a converter among them that gives a shape for the element alone
  shaped_by : (converters : List Converter) (made : Collected) (target : Converter) (form : Form ViewAttributes) → All LeavesElements converters
      → Contains converters target
      → gift objects facts target ≡ Some (Insert ∷ [], part (Shape form)) → IsOpen made
      → IsSome (fold (λ made converter. with_gift made (gift objects facts converter)) made converters).form
  shaped_by [] made target form lawful there gives open_still = absurd (let lt = there.1 in omega (arith, lt))
  shaped_by (converter ∷ converters) made target form lawful there gives open_still =
      elim (Contains-append_cases (converter ∷ []) converters target there) [
        | inl here ↦ (let same : converter ≡ target = only converter target here in
            all_shaped converters (with_gift made (gift objects facts converter))
            (subst (λ given. IsSome (with_gift made given).form) (sym gives ∙ ap (gift objects facts) (sym same)) (shaped_now made form open_still)))
        | inr later ↦ shaped_by converters (with_gift made (gift objects facts converter)) target form
            (All-tail LeavesElements converter converters lawful) later gives
            (stays_open made (gift objects facts converter) (leaves_of converter (All-head LeavesElements converter converters lawful)) open_still)
      ]

pub shaped : (conversion : Conversion) (facts : Facts) (target : Converter) (form : Form ViewAttributes) → All LeavesElements conversion.converters
    → Contains conversion.converters target
    → gift conversion.objects facts target ≡ Some (Insert ∷ [], part (Shape form)) → IsSome (converted conversion facts)
shaped conversion facts target form lawful there gives =
    go (collected (gift conversion.objects facts) conversion.converters (all_keys facts.attributes))
    (shaped_by conversion.objects facts conversion.converters (record { left = all_keys facts.attributes; form = None; extras = []; layers = [] })
    target form lawful there gives (inl refl))
  where
    some : {A B : Type 0} (f : A → B) (o : Option A) → IsSome o → IsSome (option_map f o)
    some f None h = cc
    some f (Some x) h = refl

    go : (made : Collected) → IsSome made.form → IsSome (converted_of made)
    go made h = some _ made.form h
