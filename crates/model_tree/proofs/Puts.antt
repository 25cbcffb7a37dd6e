-- What changes of a run at a path give, by the items that stand in its place then.
use Rattle.std.proofs.Common.{Bool, ◌≡◌, ℕ, ◌+◌, ◌<◌, ◌≤◌, true, false, nat_le, if◌then◌else◌, List, [], ◌∷◌, ◌++◌, length, take, drop, Option, Some, None}
use Rattle.std.proofs.Common.{option_map, refl, sym, ap, subst, ◌∙◌, arith, append-nil, Result, Err}
use Rattle.std.specs.Prelude.{is_some}
use Rattle.std.proofs.lemmas.Bool.Decides.{nat_tests}
use Rattle.item_definitions.specs.Item.{Item}
use Rattle.item_definitions.specs.Children.{Change, children_at, at}
use Rattle.operation_definitions.specs.Level.{replace, put_in, take_out}
use Rattle.operation_definitions.proofs.Levels.{most}
use Rattle.model_tree.specs.Places.{only, put_run, Gives}
use Rattle.model_tree.specs.Limits.{changed}
use Rattle.model_tree.specs.declared.fault.TreeFault.{TreeFault}
use Rattle.model_tree.specs.declared.fault.TreeFault.TheVariants.{NoPlace, NoMemory}
use Rattle.model_tree.proofs.AtPaths.{set_in, with_in, through, at-through, at-nowhere, at-fails, at-run}

pub is-map : {X Y : Type 0} (f : X → Y) (o : Option X) → is_some (option_map f o) ≡ is_some o
is-map f None = refl
is-map f (Some x) = refl

-- a run that is there can be replaced
pub there : (path : List ℕ) (offset count : ℕ) (xs level new : List Item) → children_at path xs ≡ Some level → offset + count ≤ length level
    → is_some (put_run path offset count new xs) ≡ true
there [] offset count xs level new e fits =
    let same : level ≡ xs = cc in
    let yes : nat_le (offset + count) (length xs) ≡ true = most (offset + count) (length xs) (subst (λ l. offset + count ≤ length l) same fits) in
    let made : List Item × Unit {0} = (take offset xs ++ (new ++ drop (offset + count) xs), tt) in
    ap (λ t. is_some (changed (if t then Some made else None))) yes
there (index ∷ path) offset count xs level new e fits =
    let t = through xs index path level e in
    ap (λ o. is_some (changed o)) (at-through (at path (replace offset count (only new))) xs index t.item t.children t.there t.here)
    ∙ is-map _ (option_map (set_in xs index) (option_map (with_in t.item) (at path (replace offset count (only new)) t.children)))
    ∙ is-map (set_in xs index) (option_map (with_in t.item) (at path (replace offset count (only new)) t.children))
    ∙ is-map (with_in t.item) (at path (replace offset count (only new)) t.children)
    ∙ sym (is-map _ (at path (replace offset count (only new)) t.children))
    ∙ there path offset count t.children level new t.below fits

module _ {R : Type 0} (f : Change R) (path : List ℕ) (offset count : ℕ) (xs : List Item) where
  pub nowhere : children_at path xs ≡ None → at path (replace offset count f) xs ≡ None
  nowhere e = at-nowhere (replace offset count f) path xs e

  pub short : (level : List Item) → children_at path xs ≡ Some level → length level < offset + count → at path (replace offset count f) xs ≡ None
  short level e less =
      let no : nat_le (offset + count) (length level) ≡ false = grind (arith, nat_tests) in
      at-fails (replace offset count f) path xs level e
      (ap (λ t. if t then option_map (λ (made : List Item × R). (take offset level ++ (made.0 ++ drop (offset + count) level), made.1))
      (f (take count (drop offset level))) else None) no)

  pub made : (level new ys : List Item) (r : R) → children_at path xs ≡ Some level → f (take count (drop offset level)) ≡ Some (new, r)
      → put_run path offset count new xs ≡ Some ys
      → at path (replace offset count f) xs ≡ Some (ys, r)
  made level new ys r e h p = at-run f offset count path xs level new r e h ∙ ap (option_map (λ ys. (ys, r))) p

  pub fault : (level new : List Item) (r : R) (fault : TreeFault) → children_at path xs ≡ Some level → f (take count (drop offset level)) ≡ Some (new, r)
      → Gives {A = List Item} (put_run path offset count new xs) (Err fault) → Gives {A = List Item × R} (at path (replace offset count f) xs) (Err fault)
  fault level new r NoPlace e h p = at-run f offset count path xs level new r e h ∙ ap (option_map (λ ys. (ys, r))) p
  fault level new r NoMemory e h p = ap is_some (at-run f offset count path xs level new r e h) ∙ is-map (λ ys. (ys, r)) (put_run path offset count new xs) ∙ p

  pub memory : (level new : List Item) (r : R) → children_at path xs ≡ Some level → offset + count ≤ length level → f (take count (drop offset level))
      ≡ Some (new, r)
      → is_some (at path (replace offset count f) xs) ≡ true
  memory level new r e fits h = fault level new r NoMemory e h (there path offset count xs level new e fits)

-- items put in
put_in-is : (path : List ℕ) (offset : ℕ) (new xs : List Item) → changed (at path (put_in offset new) xs) ≡ put_run path offset 0 new xs
put_in-is path offset new xs = go (children_at path xs) refl
  where
    unit : Unit {0}
    unit = tt

    back : (u : Unit {0}) (o : Option (List Item)) → changed (option_map (λ ys. (ys, u)) o) ≡ o
    back u None = refl
    back u (Some ys) = refl

    go : (o : Option (List Item)) → children_at path xs ≡ o → changed (at path (put_in offset new) xs) ≡ put_run path offset 0 new xs
    go None e = ap changed (at-nowhere (put_in offset new) path xs e) ∙ sym (ap changed (at-nowhere (replace offset 0 (only new)) path xs e))
    go (Some level) e =
        ap changed (at-run (λ items. Some (new ++ items, unit)) offset 0 path xs level (new ++ []) unit e refl)
        ∙ back unit (put_run path offset 0 (new ++ []) xs) ∙ ap (λ n. put_run path offset 0 n xs) (append-nil new)

pub put_in_gives : (path : List ℕ) (offset : ℕ) (new xs : List Item) (result : Result (List Item) TreeFault)
    → Gives (put_run path offset 0 new xs) result → Gives (changed (at path (put_in offset new) xs)) result
put_in_gives path offset new xs result h = subst (λ o. Gives o result) (sym (put_in-is path offset new xs)) h

-- items taken out
module _ (path : List ℕ) (offset count : ℕ) (xs : List Item) where
  pub out_nowhere : children_at path xs ≡ None → at path (take_out offset count) xs ≡ None
  out_nowhere e = nowhere (λ run. Some ([], run)) path offset count xs e

  pub out_short : (level : List Item) → children_at path xs ≡ Some level → length level < offset + count → at path (take_out offset count) xs ≡ None
  out_short level e less = short (λ run. Some ([], run)) path offset count xs level e less

  pub out_there : (level : List Item) → children_at path xs ≡ Some level → offset + count ≤ length level → is_some (at path (take_out offset count) xs) ≡ true
  out_there level e fits = memory (λ run. Some ([], run)) path offset count xs level [] (take count (drop offset level)) e fits refl

  pub out_made : (level ys run none : List Item) → children_at path xs ≡ Some level → run ≡ take count (drop offset level) → none ≡ []
      → put_run path offset count none xs ≡ Some ys
      → at path (take_out offset count) xs ≡ Some (ys, run)
  out_made level ys run none e h n p =
      made (λ run. Some ([], run)) path offset count xs level [] ys run e (ap (λ r. Some ([], r)) (sym h))
      (ap (λ new. put_run path offset count new xs) (sym n) ∙ p)

  pub out_fault : (level none : List Item) (f : TreeFault) → children_at path xs ≡ Some level → none ≡ []
      → Gives {A = List Item} (put_run path offset count none xs) (Err f)
      → Gives {A = List Item × List Item} (at path (take_out offset count) xs) (Err f)
  out_fault level none f e n p =
      fault (λ run. Some ([], run)) path offset count xs level [] (take count (drop offset level)) f e refl
      (subst (λ new. Gives {A = List Item} (put_run path offset count new xs) (Err f)) n p)

-- what a change leaves is there where the replacement is
pub changed_gives : {R : Type 0} (f : Change R) (path : List ℕ) (offset count : ℕ) (xs level new : List Item) (r : R)
    (result : Result (List Item) TreeFault) → children_at path xs ≡ Some level
    → f (take count (drop offset level)) ≡ Some (new, r) → Gives (put_run path offset count new xs) result
    → Gives (changed (at path (replace offset count f) xs)) result
changed_gives {R = R} f path offset count xs level new r result e h g =
    subst (λ o. Gives o result) (sym (ap changed (at-run f offset count path xs level new r e h) ∙ back (put_run path offset count new xs))) g
  where
    back : (o : Option (List Item)) → changed (option_map (λ ys. (ys, r)) o) ≡ o
    back None = refl
    back (Some ys) = refl

-- what stands in place of a run, between what is before it and behind it
abbrev in_place : {R : Type 0} → ℕ → ℕ → List Item → List Item × R → List Item × R
in_place offset count level made = (take offset level ++ (made.0 ++ drop (offset + count) level), made.1)

-- a change of a list whose run can't be changed
pub run-fails : {R : Type 0} (f : Change R) (offset count : ℕ) (level : List Item) → f (take count (drop offset level)) ≡ None
    → replace offset count f level ≡ None
run-fails {R = R} f offset count level e = go (nat_le (offset + count) (length level))
  where
    go : (t : Bool) → (if t then option_map (in_place offset count level) (f (take count (drop offset level))) else None) ≡ None
    go true = ap (option_map (in_place offset count level)) e
    go false = refl
