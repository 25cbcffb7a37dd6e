-- What the rules place fits where it is placed.
use Rattle.std.proofs.Common.{◌≡◌, ℕ, ◌+◌, ◌-◌, ◌<◌, ◌≤◌, List, [], ◌∷◌, ◌++◌, map, take, length, reverse, Bool, true, false, ◌&&◌, if◌then◌else◌, IsTrue}
use Rattle.std.proofs.Common.{Option, Some, None, option_map, fold, refl, sym, ap, ◌∙◌, subst, arith}
use Rattle.std.specs.Option.{option_or, option_map_or}
use Rattle.std.specs.Str.{bytes_eq}
use Rattle.std.proofs.lemmas.List.{take-append-le, length-reverse, reverse-append, reverse-reverse}
use Rattle.std.proofs.Math.Seq.{take-length}
use Rattle.ck_base.specs.declared.value.Value.{Value as AttributeValue}
use Rattle.view_definitions.specs.Node.{ViewAttributes}
use Rattle.schema_definitions.specs.Allowed.{Rules, check_child, is_limit, allowed_above, allowed_parent}
use Rattle.schema_definitions.specs.Names.{has}
use Rattle.upcast_definitions.specs.declared.rule.UpcastRule.{UpcastRule}
use Rattle.upcast_definitions.specs.declared.rule.UpcastRule.TheVariants.{Element, Key, Attribute}
use Rattle.upcast_definitions.specs.Places.{Place, staying, in_paragraph, paragraph_helps, place_of}
use Rattle.upcast_definitions.specs.Taking.{Sources, Made, passed, placed, keyed, Taken, untaken, is_passed, has_with, value_from, text_at, making, adding}
use Rattle.upcast_definitions.specs.Taking.{tried, taken_by}

-- an ancestor that allows an item: those up to it
record Remain (rules : Rules) (item : List ℕ) (names : List (List ℕ)) (count : ℕ) : Type 0 where
  within : count ≤ length names
  some : 0 < count
  allows : IsTrue (check_child rules (take count (reverse names)) item)

above : (rules : Rules) (item : List ℕ) (names : List (List ℕ)) (count : ℕ) → allowed_above rules item names ≡ Some count → Remain rules item names count
above rules item [] count e = cc
above rules item (parent ∷ names) count e =
    go (check_child rules (reverse (parent ∷ names)) item) refl (is_limit rules parent) e (above rules item names count)
  where
    go : (b : Bool) → check_child rules (reverse (parent ∷ names)) item ≡ b → (limit : Bool)
        → (if b then Some (length (parent ∷ names)) else (if limit then None else allowed_above rules item names)) ≡ Some count
        → (allowed_above rules item names ≡ Some count → Remain rules item names count) → Remain rules item (parent ∷ names) count
    go true t limit f further =
        let all : length (parent ∷ names) ≡ count = cc in
        subst (Remain rules item (parent ∷ names)) all (record {
          within = omega arith;
          some = omega arith;
          allows = ap (λ names. check_child rules names item)
              (ap (λ n. take n (reverse (parent ∷ names))) (sym (length-reverse (parent ∷ names))) ∙ take-length (reverse (parent ∷ names))) ∙ t;
        })
    go false t true f further = cc
    go false t false f further =
        let rest = further f in
        let in_front : count ≤ length (reverse names) = subst (λ n. count ≤ n) (sym (length-reverse names)) rest.within in
        record {
          within = (let w = rest.within in omega (arith, w));
          some = rest.some;
          allows = ap (λ front. check_child rules front item)
              (ap (take count) (reverse-append (parent ∷ []) names) ∙ take-append-le count (reverse names) (parent ∷ []) in_front) ∙ rest.allows;
        }

-- room at a place allows an element
abbrev pub RoomFor : Rules → List (List ℕ) → List ℕ → Place → Type 0
RoomFor rules names item (staying count) = IsTrue (check_child rules (take (count + 1) names) item)
RoomFor rules names item in_paragraph = IsTrue (paragraph_helps rules names item)

allowed-room : (rules : Rules) (names : List (List ℕ)) (item : List ℕ) (count : ℕ) → allowed_parent rules names item ≡ Some count
    → RoomFor rules names item (staying (count - 1))
unfolding allowed_parent
allowed-room rules names item count e =
    let found = above rules item (reverse names) count e in
    let same : count ≡ count - 1 + 1 = (let s = found.some in omega (arith, s)) in
    subst (λ n. IsTrue (check_child rules (take n names) item)) same
    (subst (λ all. IsTrue (check_child rules (take count all) item)) (reverse-reverse names) found.allows)

-- a place has room
pub place-room : (rules : Rules) (names : List (List ℕ)) (item : List ℕ) (place : Place) → place_of rules names item ≡ Some place
    → RoomFor rules names item place
unfolding place_of
place-room rules names item place e = go (allowed_parent rules names item) refl (paragraph_helps rules names item) refl e
  where
    go : (found : Option ℕ) → allowed_parent rules names item ≡ found → (helps : Bool) → paragraph_helps rules names item ≡ helps
        → option_or (option_map (λ count. staying (count - 1)) found) (if helps then Some in_paragraph else None) ≡ Some place
        → RoomFor rules names item place
    go (Some count) f helps h k =
        let same : staying (count - 1) ≡ place = cc in subst (RoomFor rules names item) same (allowed-room rules names item count f)
    go None f true h k = let same : in_paragraph ≡ place = cc in subst (RoomFor rules names item) same h
    go None f false h k = cc

-- where an element is placed there is room for it
abbrev pub HasRoom : Rules → List (List ℕ) → Made → Type 0
HasRoom rules names passed = Unit {0}
HasRoom rules names (placed place name set) = RoomFor rules names name place
HasRoom rules names (keyed key value) = Unit {0}

module _ (rules : Rules) (names : List (List ℕ)) where
  place-made : (element : List ℕ) (set : Sources) (with : ViewAttributes) (taken : Taken) → HasRoom rules names taken.made
      → HasRoom rules names (making (option_map_or (λ place. Some (placed place element set)) (place_of rules names element) None) with taken).made
  place-made element set with taken h = go (place_of rules names element) refl
    where
      go : (found : Option Place) → place_of rules names element ≡ found
          → HasRoom rules names (making (option_map_or (λ place. Some (placed place element set)) found None) with taken).made
      go None e = h
      go (Some place) e = place-room rules names element place e

  key-made : (key : List ℕ) (found : Option AttributeValue) (with : ViewAttributes) (taken : Taken) → HasRoom rules names taken.made
      → HasRoom rules names (making (option_map_or (λ value. Some (keyed key value)) found None) with taken).made
  key-made key None with taken h = h
  key-made key (Some value) with taken h = tt

  added-made : (found : Option AttributeValue) (attribute key : List ℕ) (taken : Taken) → HasRoom rules names taken.made
      → HasRoom rules names (adding found attribute key taken).made
  added-made None attribute key taken h = h
  added-made (Some value) attribute key taken h = h

  if-made : (b : Bool) (one other : Taken) → HasRoom rules names one.made → HasRoom rules names other.made → HasRoom rules names (if b then one else other).made
  if-made true one other h k = h
  if-made false one other h k = k

  tried-room : (name : List ℕ) (attributes : ViewAttributes) (taken : Taken) (rule : UpcastRule) → HasRoom rules names taken.made
      → HasRoom rules names (tried rules names name attributes taken rule).made
  unfolding tried
  tried-room name attributes taken (Element view with element set priority) h =
      if-made (is_passed taken.made && (bytes_eq view name && has_with attributes taken.left with)) _ taken (place-made element set with taken h) h
  tried-room name attributes taken (Key view with key value priority) h =
      if-made (is_passed taken.made && (bytes_eq view name && has_with attributes taken.left with)) _ taken
      (key-made key (value_from attributes value) with taken h) h
  tried-room name attributes taken (Attribute attribute view key priority) h =
      if-made (option_map_or (λ only. bytes_eq only name) view true && has taken.left attribute) _ taken
      (added-made (text_at attributes attribute) attribute key taken h) h

  all-tried : (name : List ℕ) (attributes : ViewAttributes) (upcast : List UpcastRule) (taken : Taken) → HasRoom rules names taken.made
      → HasRoom rules names (fold (tried rules names name attributes) taken upcast).made
  all-tried name attributes [] taken h = h
  all-tried name attributes (rule ∷ upcast) taken h =
      all-tried name attributes upcast (tried rules names name attributes taken rule) (tried-room name attributes taken rule h)

  -- what the rules make of an element has room
  pub taken-room : (upcast : List UpcastRule) (name : List ℕ) (attributes : ViewAttributes)
      → HasRoom rules names (taken_by rules upcast names name attributes).made
  taken-room upcast name attributes = all-tried name attributes upcast (untaken attributes) tt
