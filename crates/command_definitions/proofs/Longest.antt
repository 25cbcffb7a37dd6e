-- The runs of a toggle are as long as they can be.
use Rattle.std.proofs.Common.{◌≡◌, ℕ, zero, suc, ◌+◌, ◌-◌, ◌<◌, ◌≤◌, Bool, true, false, not, ◌==◌, cond, List, [], ◌∷◌, ◌++◌, map, filter, length, Option}
use Rattle.std.proofs.Common.{Some, None, is_some, unwrap_or, option_map, All, refl, sym, ap, ◌∙◌, arith}
use Rattle.std.proofs.lemmas.Bool.Decides.{nat_tests}
use Rattle.std.proofs.lemmas.List.Elements.{All-nil, All-cons}
use Rattle.std.specs.List.{range_with_len, prefix_len}
use Rattle.item_definitions.specs.Item.{Item}
use Rattle.item_definitions.specs.Children.{parent_of, offset_of, child_count, item_at, walk}
use Rattle.item_definitions.specs.Position.{Range}
use Rattle.item_definitions.specs.Shift.{forward}
use Rattle.item_definitions.proofs.Paths.{parent_of-push, offset_of-push, path-joined}
use Rattle.schema_definitions.specs.Allowed.{Rules}
use Rattle.edit_definitions.proofs.Reached.{found, one-there}
use Rattle.command_definitions.specs.Places.{is_before_it}
use Rattle.command_definitions.specs.Fitting.{fits, fitting, from_here_on, run_from, longest_runs, IsLongest}
use Rattle.command_definitions.proofs.Carets.{forward-is}
use Rattle.command_definitions.proofs.Selected.{Each, Stands, fit-stands, each-passes, each-also}

-- how far a test passes among numbers from one on
record Passes (test : ℕ → Bool) (first many count : ℕ) : Type 0 where
  each : (number : ℕ) → first ≤ number → number < first + count → test number ≡ true
  behind : count < many → test (first + count) ≡ false

passes : (test : List ℕ → Bool) (path : ℕ → List ℕ) (first many : ℕ)
    → Passes (λ number. test (path number)) first many (prefix_len test (map path (range_with_len first many)))
passes test path first zero = record { each = λ number low high. absurd (omega (arith, low, high)); behind = λ less. absurd (omega (arith, less)) }
passes test path first (suc many) = go (test (path first)) refl (passes test path (first + 1) many)
  where
    go : (t : Bool) → test (path first) ≡ t → Passes (λ number. test (path number)) (first + 1) many
        (prefix_len test (map path (range_with_len (first + 1) many)))
        → Passes (λ number. test (path number)) first (suc many) (cond t (1 + prefix_len test (map path (range_with_len (first + 1) many))) 0)
    go true e rest =
        let count = prefix_len test (map path (range_with_len (first + 1) many)) in
        record {
          each = λ number low high. pick number (number == first) refl low high;
          behind = λ less. ap (λ n. test (path n)) (next first count) ∙ rest.behind (omega (arith, less));
        }
      where
        next : (a b : ℕ) → a + (1 + b) ≡ a + 1 + b
        next a b = omega arith

        same : (a b : ℕ) → (a == b) ≡ true → a ≡ b
        same a b e = grind (arith, nat_tests)

        later : (a b : ℕ) → (b == a) ≡ false → a ≤ b → a + 1 ≤ b
        later a b e less = grind (arith, nat_tests)

        pick : (number : ℕ) (u : Bool) → (number == first) ≡ u → first ≤ number
            → number < first + (1 + prefix_len test (map path (range_with_len (first + 1) many))) → test (path number) ≡ true
        pick number true u low high = ap (λ n. test (path n)) (same number first u) ∙ e
        pick number false u low high = rest.each number (later first number u low) (omega (arith, high))
    go false e rest = record {
      each = λ number low high. absurd (omega (arith, low, high));
      behind = λ less. ap (λ n. test (path n)) (nothing first) ∙ e;
    }
      where
        nothing : (n : ℕ) → n + 0 ≡ n
        nothing n = omega arith

module _ (test : List ℕ → Bool) (items : List Item) where
  -- a passing item that stands there, with none before it
  record Begins (path : List ℕ) : Type 0 where
    stands : Stands items path
    own : test path ≡ true
    alone : is_before_it test path ≡ false

  longest : (path : List ℕ) → Begins path → IsLongest test items (run_from test items path)
  longest path h = go (item_at path items) refl h.stands
    where
      whole : (item : Item) → item_at path items ≡ Some item → IsLongest test items (run_from test items path)
      whole item here =
          let f = found path items item here in
          let parent = parent_of path in
          let offset = offset_of path in
          let joined = path-joined path f.some in
          let count = prefix_len test (from_here_on items path) in
          let room = (one-there offset f.level item f.here).0 in
          let children = unwrap_or (child_count items parent) 0 in
          let long : children ≡ length f.level = ap (λ (o : Option (List Item)). unwrap_or (option_map length o) 0) f.there in
          let p = passes test (λ number. parent ++ number ∷ []) offset (children - offset) in
          let end : forward count path ≡ parent ++ (offset + count) ∷ [] = ap (forward count) joined ∙ forward-is count parent offset in
          let last : offset_of (forward count path) ≡ offset + count = ap offset_of end ∙ offset_of-push parent (offset + count) in
          let more : 0 < count = some count (λ none. no (sym (ap test joined ∙ ap (λ n. test (parent ++ n ∷ [])) (at none)) ∙ h.own)
          (p.behind (omega (arith, none, room, long)))) in
          record {
            flat = ap parent_of end ∙ parent_of-push parent (offset + count);
            some = omega (arith, last, more);
            each = λ number low high. p.each number low (omega (arith, high, last));
            before = h.alone;
            behind = λ less. ap test end ∙ p.behind (omega (arith, less, last));
          }
        where
          no : {t : Bool} → t ≡ true → t ≡ false → ⊥
          no e f = absurd cc

          some : (n : ℕ) → (n ≡ 0 → ⊥) → 0 < n
          some zero f = absurd (f refl)
          some (suc n) f = omega arith

          at : {a b : ℕ} → b ≡ 0 → a ≡ a + b
          at e = omega (arith, e)

      go : (o : Option Item) → item_at path items ≡ o → is_some o ≡ true → IsLongest test items (run_from test items path)
      go None e f = absurd cc
      go (Some item) e f = whole item e

  all-longest : (paths : List (List ℕ)) → Each Begins paths → All (IsLongest test items) (map (run_from test items) paths)
  all-longest [] h = All-nil (IsLongest test items)
  all-longest (path ∷ paths) h = All-cons (IsLongest test items) (run_from test items path) (map (run_from test items) paths) (longest path h.0)
      (all-longest paths h.1)

pub runs-longest : (rules : Rules) (key : List ℕ) (items : List Item) (range : Range)
    → All (IsLongest (fits rules key items range) items) (longest_runs (fits rules key items range) items (fitting rules key items range))
runs-longest rules key items range =
    let test = fits rules key items range in
    all-longest test items (filter (λ path. not (is_before_it test path)) (fitting rules key items range))
    (each-also (λ path. test path ≡ true) (Begins test items) (λ path. not (is_before_it test path))
    (λ path own alone. record { stands = fit-stands rules key items range path own; own = own; alone = is-false (is_before_it test path) alone })
    (fitting rules key items range) (each-passes (λ path. test path ≡ true) test (λ path e. e) (map (λ entry. entry.0) (walk items))))
  where
    is-false : (b : Bool) → not b ≡ true → b ≡ false
    is-false false e = refl
    is-false true e = absurd cc
