-- Moving a run.
use Rattle.std.proofs.Common.{◌≡◌, ℕ, ◌≤◌, true, false, List, [], ◌∷◌, ◌++◌, length, Option, Some, None, option_and_then, refl, sym, ap, ◌∙◌, subst, arith}
use Rattle.std.proofs.Common.{Result, Err}
use Rattle.std.specs.Prelude.{is_some, IfSome, IsErrOf}
use Rattle.item_definitions.specs.Item.{Item, count_of, depth_of}
use Rattle.item_definitions.specs.Children.{parent_of, offset_of, at}
use Rattle.item_definitions.specs.Shift.{carry_remove, rule_remove, within}
use Rattle.item_definitions.proofs.Paths.{parent_of-push, offset_of-push, push-some}
use Rattle.operation_definitions.specs.Level.{put_in, take_out}
use Rattle.operation_definitions.specs.After.{room_at}
use Rattle.operation_definitions.proofs.Lifting.{map-some, then-some, at-also}
use Rattle.operation_definitions.proofs.Moves.{cut, cut-some}
use Rattle.operation_definitions.proofs.Stays.{Is, put_in-room, put_in-fits}
use Rattle.model_tree.specs.Places.{Gives}
use Rattle.model_tree.specs.Limits.{IsTree, changed, moved}
use Rattle.model_tree.specs.declared.fault.TreeFault.{TreeFault}
use Rattle.model_tree.specs.declared.fault.TreeFault.TheVariants.{NoPlace, NoMemory}
use Rattle.model_tree.proofs.Removed.{carried_in}
use Rattle.model_tree.proofs.Room.{put_in_count}
use Rattle.model_tree.proofs.Limited.{take_out_counts}

-- what a move gives whose target is known
abbrev put_there : List ℕ → List Item × List Item → Option (List Item)
put_there target taken = changed (at (parent_of target) (put_in (offset_of target) taken.1) taken.0)

abbrev there_too : List ℕ → ℕ → List ℕ → List Item → List Item × List Item → Option (List Item)
there_too from count to xs taken = option_and_then (λ _. put_there (carry_remove from count to) taken) (room_at xs to)

module _ (parent : List ℕ) (offset count : ℕ) (to : List ℕ) (to_offset : ℕ) (xs : List Item) where
  from-is : moved (parent ++ offset ∷ []) count (to ++ to_offset ∷ []) xs
      ≡ option_and_then (there_too (parent ++ offset ∷ []) count (to ++ to_offset ∷ []) xs) (at parent (take_out offset count) xs)
  from-is = λ i. option_and_then (there_too (parent ++ offset ∷ []) count (to ++ to_offset ∷ []) xs)
      (at (parent_of-push parent offset i) (take_out (offset_of-push parent offset i) count) xs)

  -- no target
  pub no_target : is_some (room_at xs (to ++ to_offset ∷ [])) ≡ false → moved (parent ++ offset ∷ []) count (to ++ to_offset ∷ []) xs ≡ None
  no_target e = from-is ∙ go (at parent (take_out offset count) xs) (room_at xs (to ++ to_offset ∷ [])) e
    where
      go : (o : Option (List Item × List Item)) (there : Option (List Item × Unit {0})) → is_some there ≡ false
          → option_and_then (λ taken. option_and_then (λ _. put_there (carry_remove (parent ++ offset ∷ []) count (to ++ to_offset ∷ [])) taken) there) o ≡ None
      go None there e = refl
      go (Some taken) None e = refl
      go (Some taken) (Some made) e = absurd cc

  -- no run
  no_run : at parent (take_out offset count) xs ≡ None → moved (parent ++ offset ∷ []) count (to ++ to_offset ∷ []) xs ≡ None
  no_run e = from-is ∙ ap (option_and_then (there_too (parent ++ offset ∷ []) count (to ++ to_offset ∷ []) xs)) e

  moved-is : (taken : List Item × List Item) → at parent (take_out offset count) xs ≡ Some taken → is_some (room_at xs (to ++ to_offset ∷ [])) ≡ true
      → moved (parent ++ offset ∷ []) count (to ++ to_offset ∷ []) xs ≡ put_there (carry_remove (parent ++ offset ∷ []) count (to ++ to_offset ∷ [])) taken
  moved-is taken e h = from-is ∙ ap (option_and_then (there_too (parent ++ offset ∷ []) count (to ++ to_offset ∷ []) xs)) e
      ∙ go (room_at xs (to ++ to_offset ∷ [])) h
    where
      go : (there : Option (List Item × Unit {0})) → is_some there ≡ true
          → option_and_then (λ _. put_there (carry_remove (parent ++ offset ∷ []) count (to ++ to_offset ∷ [])) taken) there
          ≡ put_there (carry_remove (parent ++ offset ∷ []) count (to ++ to_offset ∷ [])) taken
      go None h = absurd cc
      go (Some made) h = refl

  -- the target is not the empty path
  pub target_some : (target : List ℕ) → target ≡ carry_remove (parent ++ offset ∷ []) count (to ++ to_offset ∷ []) → length target ≡ 0 → ⊥
  target_some [] e none = cut-some (parent_of (parent ++ offset ∷ [])) (offset_of (parent ++ offset ∷ [])) count (to ++ to_offset ∷ [])
      (push-some to to_offset) (sym e)
  target_some (number ∷ target) e none = absurd (omega arith)

  -- with the run out, the rest is as the items put in at the target
  pub move_gives : (rest run : List Item) (target path : List ℕ) (last : ℕ) (result : Result (List Item) TreeFault)
      → at parent (take_out offset count) xs ≡ Some (rest, run)
      → is_some (room_at xs (to ++ to_offset ∷ [])) ≡ true → target ≡ carry_remove (parent ++ offset ∷ []) count (to ++ to_offset ∷ [])
      → target ≡ path ++ last ∷ []
      → Gives (changed (at path (put_in last run) rest)) result → Gives (moved (parent ++ offset ∷ []) count (to ++ to_offset ∷ []) xs) result
  move_gives rest run target path last result e h t is g =
      let same : moved (parent ++ offset ∷ []) count (to ++ to_offset ∷ []) xs ≡ changed (at path (put_in last run) rest) =
      moved-is (rest, run) e h ∙ ap (λ p. put_there p (rest, run)) (sym t ∙ is)
      ∙ (λ i. changed (at (parent_of-push path last i) (put_in (offset_of-push path last i) run) rest)) in
      subst (λ o. Gives o result) (sym same) g

  -- a run and a target that are there are enough
  pub move_there : is_some (at parent (take_out offset count) xs) ≡ true → is_some (room_at xs (to ++ to_offset ∷ [])) ≡ true
      → is_some (moved (parent ++ offset ∷ []) count (to ++ to_offset ∷ []) xs) ≡ true
  move_there e h = go (at parent (take_out offset count) xs) (room_at xs (to ++ to_offset ∷ [])) refl refl e h
    where
      also-full : (offset : ℕ) (run : List Item) (xs ys : List Item) (r : Unit {0}) → put_in offset [] xs ≡ Some (ys, r) → (made : List Item × Unit {0})
          × (put_in offset run xs ≡ Some made)
      also-full offset run xs ys r e = put_in-room offset run xs (put_in-fits offset [] xs ((ys, r), e))

      go : (o : Option (List Item × List Item)) (there : Option (List Item × Unit {0})) → at parent (take_out offset count) xs ≡ o
          → room_at xs (to ++ to_offset ∷ []) ≡ there → is_some o ≡ true → is_some there ≡ true
          → is_some (moved (parent ++ offset ∷ []) count (to ++ to_offset ∷ []) xs) ≡ true
      go None there a b e h = absurd cc
      go (Some taken) None a b e h = absurd cc
      go (Some taken) (Some made) a b e h =
          let stays = carried_in parent offset count xs taken.0 taken.1 (to ++ to_offset ∷ []) a (made, b) in
          let target = carry_remove (parent ++ offset ∷ []) count (to ++ to_offset ∷ []) in
          let here : cut parent offset count (to ++ to_offset ∷ [])
          ≡ target = λ i. within (sym (parent_of-push parent offset) i) (rule_remove (sym (offset_of-push parent offset) i) count) (to ++ to_offset ∷ []) in
          let stood = subst (λ p. Is (room_at taken.0 p)) here stays in
          let full = at-also (put_in (offset_of target) []) (put_in (offset_of target) taken.1) (also-full (offset_of target) taken.1)
          (parent_of target) taken.0 stood.0.0 stood.0.1 stood.1 in
          ap is_some (moved-is taken a (ap is_some b) ∙ ap changed full.1)

-- the run could not be taken out
pub run_fault : (parent : List ℕ) (offset count : ℕ) (to : List ℕ) (to_offset : ℕ) (xs : List Item) (fault : TreeFault)
    → is_some (room_at xs (to ++ to_offset ∷ [])) ≡ true
    → Gives {A = List Item × List Item} (at parent (take_out offset count) xs) (Err fault)
    → Gives {A = List Item} (moved (parent ++ offset ∷ []) count (to ++ to_offset ∷ []) xs) (Err fault)
run_fault parent offset count to to_offset xs NoPlace h g = no_run parent offset count to to_offset xs g
run_fault parent offset count to to_offset xs NoMemory h g = move_there parent offset count to to_offset xs g h

-- as many items as before
pub move_stays : (from : List ℕ) (count : ℕ) (to : List ℕ) (xs ys : List Item) → moved from count to xs ≡ Some ys
    → IfSome (moved from count to xs) (λ made. depth_of made ≤ 64) → IsTree xs → IsTree ys
move_stays from count to xs ys e flat t =
    let a = then-some (there_too from count to xs) (at (parent_of from) (take_out (offset_of from) count) xs) ys e in
    let b = then-some (λ (there : List Item × Unit {0}). put_there (carry_remove from count to) a.0) (room_at xs to) ys a.2 in
    let target = carry_remove from count to in
    let c = map-some (λ (both : List Item × Unit {0}). both.0) (at (parent_of target) (put_in (offset_of target) a.0.1) a.0.0) ys b.2 in
    let out = take_out_counts (parent_of from) (offset_of from) count xs a.0.0 a.0.1 a.1 in
    let came = put_in_count (parent_of target) (offset_of target) a.0.1 a.0.0 c.0.0 c.0.1 c.1 in
    record { few = omega (arith, t.few, out, came, ap count_of c.2); flat = subst (λ (o : Option (List Item)). IfSome o (λ made. depth_of made ≤ 64)) e flat }

-- a refused move is `NoPlace` exactly where nothing is wanted
pub no_place_is : {A T : Type 0} (wanted : Option A) (fault : TreeFault) → Gives {A = A} wanted (Err fault)
    → (IsErrOf {T = T} (Err fault) NoPlace → wanted ≡ None) × (wanted ≡ None → IsErrOf {T = T} (Err fault) NoPlace)
no_place_is wanted NoPlace g = (λ _. g, λ _. refl)
no_place_is wanted NoMemory g = (λ e. absurd cc, λ e. absurd (let f = ap is_some e in cc))

-- the same move, read elsewhere
pub same_move : (read parent : List ℕ) (offset count : ℕ) (read_to to : List ℕ) (to_offset : ℕ) (inside xs : List Item)
    (result : Result (List Item) TreeFault) → read ≡ parent → read_to ≡ to → inside ≡ xs
    → Gives (moved (read ++ offset ∷ []) count (read_to ++ to_offset ∷ []) inside) result
    → Gives (moved (parent ++ offset ∷ []) count (to ++ to_offset ∷ []) xs) result
same_move read parent offset count read_to to to_offset inside xs result p t x g =
    subst (λ o. Gives o result) (λ i. moved (p i ++ offset ∷ []) count (t i ++ to_offset ∷ []) (x i)) g
