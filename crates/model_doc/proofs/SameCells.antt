-- Cells that hold the same, where one that isn't there counts as an empty one, have operations make the same.
use Rattle.std.proofs.Common.{◌≡◌, ℕ, zero, suc, ◌-◌, ◌<◌, ◌≤◌, Bool, true, false, ◌&&◌, nat_eq, nat_lt, nat_le, not, ◌==◌, if◌then◌else◌, List, [], ◌∷◌, ◌++◌}
use Rattle.std.proofs.Common.{length, set, ok_or, Result, Ok, Err, refl, sym, ap, ◌∙◌, subst, arith, length-set, length-append}
use Rattle.std.specs.Cmp.Lexicographic.{pointwise}
use Rattle.std.proofs.lemmas.Bool.Decides.{nat_tests}
use Rattle.ck_base.proofs.Common.{first_and_second}
use Rattle.item_definitions.specs.Item.{Item}
use Rattle.item_definitions.specs.Children.{Change, parent_of, offset_of, at}
use Rattle.item_definitions.specs.Shift.{carry_remove}
use Rattle.operation_definitions.specs.Level.{put_in, take_out, give, rename_at, split_at, merge_at}
use Rattle.operation_definitions.specs.Operation.{Operation, Fault, in_tree, in_cell, fresh, from_cell, insert, move, attribute, rename, split, merge, marker}
use Rattle.operation_definitions.specs.Operation.{no_place, not_flat, into_itself, old_differs, not_neighbours, cell_state, found_name}
use Rattle.operation_definitions.specs.After.{◌>>=◌, check, after, effect, limited, in_cell_at, is_empty, is_free, fill, holds_count, shell_of, like, room_at}
use Rattle.operation_definitions.specs.After.{is_in_run, have_value}
use Rattle.operation_definitions.specs.Reversed.{IsLimited}
use Rattle.operation_definitions.proofs.Simple.{State, limited-ok, after-effect, pair-first, pair-second}
use Rattle.operation_definitions.proofs.Steps.{step}
use Rattle.operation_definitions.proofs.Cells.{fill-at, free-empty, free-room}

-- what both make of one step
par : {A B : Type 0} (r : Result A Fault) (f g : A → Result B Fault) (b b' : B) → (r >>= f) ≡ Ok b → (r >>= g) ≡ Ok b' → (a : A) × (f a ≡ Ok b) × (g a ≡ Ok b')
par (Ok a) f g b b' e h = (a, e, h)
par (Err fault) f g b b' e h = absurd cc

passed : {B : Type 0} (t : Bool) (fault : Fault) (next : Unit {0} → Result B Fault) (b : B) → (check t fault >>= next) ≡ Ok b → (t ≡ true) × (next tt ≡ Ok b)
passed true fault next b e = (refl, e)
passed false fault next b e = absurd cc

-- an emptied cell is empty, and the others are as before
pub emptied : (cells : List (List Item)) (n k : ℕ) → in_cell_at (set cells n []) k ≡ (if k == n then [] else in_cell_at cells k)
emptied [] n k = go (k == n)
  where
    go : (t : Bool) → ◌≡◌ {A = List Item} [] (if t then [] else [])
    go true = refl
    go false = refl
emptied (cell ∷ cells) zero zero = refl
emptied (cell ∷ cells) zero (suc k) = sym (other (suc k) 0 (in_cell_at cells k) (grind (arith, nat_tests)))
  where
    other : (k n : ℕ) (a : List Item) → (k == n) ≡ false → (if k == n then [] else a) ≡ a
    other k n a e = ap (λ t. if t then [] else a) e
emptied (cell ∷ cells) (suc n) zero = sym (other 0 (suc n) cell (grind (arith, nat_tests)))
  where
    other : (k n : ℕ) (a : List Item) → (k == n) ≡ false → (if k == n then [] else a) ≡ a
    other k n a e = ap (λ t. if t then [] else a) e
emptied (cell ∷ cells) (suc n) (suc k) = emptied cells n k ∙ ap (λ t. if t then [] else in_cell_at cells k) (same k n)
  where
    same : (k n : ℕ) → (k == n) ≡ (suc k == suc n)
    same k n = grind (arith, nat_tests)

module _ (c d : List (List Item)) (same : (n : ℕ) → in_cell_at d n ≡ in_cell_at c n) where
  -- the same items, and cells that hold the same; and no cell goes
  abbrev pub Match : State → State → Type 0
  Match m1 m2 = (m2.0 ≡ m1.0) × ((n : ℕ) → in_cell_at m2.1 n ≡ in_cell_at m1.1 n) × (length d ≤ length m2.1)

  finish : (x : List Item) (u v : List (List Item)) (m1 m2 : State) → ◌≡◌ {A = Result State Fault} (Ok (x, u)) (Ok m1)
      → ◌≡◌ {A = Result State Fault} (Ok (x, v)) (Ok m2)
      → ((n : ℕ) → in_cell_at v n ≡ in_cell_at u n) → length d ≤ length v → Match m1 m2
  finish x u v m1 m2 e h cells long = (
    sym (pair-first (x, v) m2 h) ∙ pair-first (x, u) m1 e,
    (λ n. sym (ap (λ w. in_cell_at w n) (pair-second (x, v) m2 h)) ∙ cells n ∙ ap (λ w. in_cell_at w n) (pair-second (x, u) m1 e)),
    subst (λ w. length d ≤ length w) (pair-second (x, v) m2 h) long,
  )

  set-same : (n k : ℕ) → in_cell_at (set d n []) k ≡ in_cell_at (set c n []) k
  set-same n k = emptied d n k ∙ ap (λ cell. if k == n then [] else cell) (same k) ∙ sym (emptied c n k)

  set-long : (n : ℕ) → length d ≤ length (set d n [])
  set-long n = omega (arith, length-set d n [])

  fill-same : (n : ℕ) (items : List Item) → is_free c n ≡ true → is_free d n ≡ true → (k : ℕ) → in_cell_at (fill d n items) k ≡ in_cell_at (fill c n items) k
  fill-same n items e h k = fill-at d n k items (free-room d n h) ∙ ap (λ cell. if k == n then items else cell) (same k)
      ∙ sym (fill-at c n k items (free-room c n e))

  fill-long : (n : ℕ) (items : List Item) → length d ≤ length (fill d n items)
  fill-long n items = go (nat_lt n (length d))
    where
      go : (t : Bool) → length d ≤ length (if t then set d n items else d ++ items ∷ [])
      go true = omega (arith, length-set d n items)
      go false = omega (arith, length-append d (items ∷ []))

  module _ (items : List Item) (m1 m2 : State) where
    pub effect-same : (operation : Operation) → effect items c operation ≡ Ok m1 → effect items d operation ≡ Ok m2 → Match m1 m2
    effect-same (insert position new) e h =
        let p = par (ok_or (at (parent_of position) (put_in (offset_of position) new) items) no_place) (λ (m : List Item × Unit {0}). Ok (m.0, c))
        (λ (m : List Item × Unit {0}). Ok (m.0, d)) m1 m2 e h in
        finish p.0.0 c d m1 m2 p.1 p.2 same (omega arith)
    effect-same (move (in_tree from) count (in_tree to)) e h =
        let target = carry_remove from count to in
        let last : List (List Item) → List Item × List Item
        → Result State Fault = λ cells taken. ok_or (at (parent_of target) (put_in (offset_of target) taken.1) taken.0) no_place >>= (λ m. Ok (m.0, cells)) in
        let next : List (List Item) → List Item × List Item → Result State Fault = λ cells taken. ok_or (room_at items to) no_place
        >>= (λ _. check (not (is_in_run from count to)) into_itself >>= (λ _. last cells taken)) in
        let p = par (ok_or (at (parent_of from) (take_out (offset_of from) count) items) no_place) (next c) (next d) m1 m2 e h in
        let q = par (ok_or (room_at items to) no_place) (λ _. check (not (is_in_run from count to)) into_itself >>= (λ _. last c p.0))
        (λ _. check (not (is_in_run from count to)) into_itself >>= (λ _. last d p.0)) m1 m2 p.1 p.2 in
        let r = par (check (not (is_in_run from count to)) into_itself) (λ _. last c p.0) (λ _. last d p.0) m1 m2 q.1 q.2 in
        let s = par (ok_or (at (parent_of target) (put_in (offset_of target) p.0.1) p.0.0) no_place) (λ (m : List Item × Unit {0}). Ok (m.0, c))
        (λ (m : List Item × Unit {0}). Ok (m.0, d)) m1 m2 r.1 r.2 in
        finish s.0.0 c d m1 m2 s.1 s.2 same (omega arith)
    effect-same (move (in_tree from) count (in_cell n)) e h =
        let next : List (List Item) → List Item × List Item → Result State Fault = λ cells taken. check (is_free cells n) (cell_state n)
        >>= (λ _. Ok (taken.0, fill cells n taken.1)) in
        let p = par (ok_or (at (parent_of from) (take_out (offset_of from) count) items) no_place) (next c) (next d) m1 m2 e h in
        let q = passed (is_free c n) (cell_state n) (λ _. Ok (p.0.0, fill c n p.0.1)) m1 p.1 in
        let r = passed (is_free d n) (cell_state n) (λ _. Ok (p.0.0, fill d n p.0.1)) m2 p.2 in
        finish p.0.0 (fill c n p.0.1) (fill d n p.0.1) m1 m2 q.1 r.1 (fill-same n p.0.1 q.0 r.0) (fill-long n p.0.1)
    effect-same (move (in_cell n) count (in_tree to)) e h =
        let next : List (List Item) → List Item → Result State Fault = λ cells run. ok_or (at (parent_of to) (put_in (offset_of to) run) items) no_place
        >>= (λ m. Ok (m.0, set cells n [])) in
        let q = passed (holds_count c n count) (cell_state n) (λ _. next c (in_cell_at c n)) m1 e in
        let r = passed (holds_count d n count) (cell_state n) (λ _. next d (in_cell_at d n)) m2 h in
        let there : next d (in_cell_at c n) ≡ Ok m2 = subst (λ run. next d run ≡ Ok m2) (same n) r.1 in
        let p = par (ok_or (at (parent_of to) (put_in (offset_of to) (in_cell_at c n)) items) no_place)
        (λ (m : List Item × Unit {0}). Ok (m.0, set c n [])) (λ (m : List Item × Unit {0}). Ok (m.0, set d n [])) m1 m2 q.1 there in
        finish p.0.0 (set c n []) (set d n []) m1 m2 p.1 p.2 (set-same n) (set-long n)
    effect-same (move (in_cell n) count (in_cell other)) e h = absurd cc
    effect-same (attribute range key old new) e h =
        let path = parent_of range.start in
        let change = give (offset_of range.start) (offset_of range.end - offset_of range.start) key new in
        let flat_test = pointwise nat_eq path (parent_of range.end) in
        let tail : List (List Item) → List Item × List Item → Result State Fault = λ cells m. have_value key old m.1 >>= (λ _. Ok (m.0, cells)) in
        let p = par (check flat_test not_flat) (λ _. ok_or (at path change items) no_place >>= tail c)
        (λ _. ok_or (at path change items) no_place >>= tail d) m1 m2 e h in
        let q = par (ok_or (at path change items) no_place) (tail c) (tail d) m1 m2 p.1 p.2 in
        let r = par (have_value key old q.0.1) (λ _. Ok (q.0.0, c)) (λ _. Ok (q.0.0, d)) m1 m2 q.1 q.2 in
        finish q.0.0 c d m1 m2 r.1 r.2 same (omega arith)
    effect-same (rename path old new) e h =
        let change = rename_at (offset_of path) new in
        let tail : List (List Item) → List Item × List ℕ
        → Result State Fault = λ cells m. check (pointwise nat_eq m.1 old) (old_differs (found_name m.1)) >>= (λ _. Ok (m.0, cells)) in
        let p = par (check (nat_le 1 (length path)) no_place) (λ _. ok_or (at (parent_of path) change items) no_place >>= tail c)
        (λ _. ok_or (at (parent_of path) change items) no_place >>= tail d) m1 m2 e h in
        let q = par (ok_or (at (parent_of path) change items) no_place) (tail c) (tail d) m1 m2 p.1 p.2 in
        let r = par (check (pointwise nat_eq q.0.1 old) (old_differs (found_name q.0.1))) (λ _. Ok (q.0.0, c)) (λ _. Ok (q.0.0, d)) m1 m2 q.1 q.2 in
        finish q.0.0 c d m1 m2 r.1 r.2 same (omega arith)
    effect-same (split position (fresh id)) e h =
        let above = parent_of (parent_of position) in
        let change = split_at (offset_of (parent_of position)) (offset_of position) (like id) in
        let tail : List (List Item) → List Item × Item → Result State Fault = λ cells m. Ok (m.0, cells) in
        let p = par (check (nat_le 2 (length position)) no_place) (λ _. ok_or (at above change items) no_place >>= tail c)
        (λ _. ok_or (at above change items) no_place >>= tail d) m1 m2 e h in
        let q = par (ok_or (at above change items) no_place) (tail c) (tail d) m1 m2 p.1 p.2 in
        finish q.0.0 c d m1 m2 q.1 q.2 same (omega arith)
    effect-same (split position (from_cell n)) e h =
        let above = parent_of (parent_of position) in
        let change : Item → Change Item = λ shell. split_at (offset_of (parent_of position)) (offset_of position) (λ _. shell) in
        let last : List (List Item) → List Item × Item → Result State Fault = λ cells m. Ok (m.0, set cells n []) in
        let next : List (List Item) → Item → Result State Fault = λ cells shell. ok_or (at above (change shell) items) no_place >>= last cells in
        let first : List (List Item) → List Item → Result State Fault = λ cells held. ok_or (shell_of held) (cell_state n) >>= next cells in
        let p = par (check (nat_le 2 (length position)) no_place) (λ _. ok_or (room_at items position) no_place >>= (λ _. first c (in_cell_at c n)))
        (λ _. ok_or (room_at items position) no_place >>= (λ _. first d (in_cell_at d n))) m1 m2 e h in
        let q = par (ok_or (room_at items position) no_place) (λ _. first c (in_cell_at c n)) (λ _. first d (in_cell_at d n)) m1 m2 p.1 p.2 in
        let there : first d (in_cell_at c n) ≡ Ok m2 = subst (λ held. first d held ≡ Ok m2) (same n) q.2 in
        let r = par (ok_or (shell_of (in_cell_at c n)) (cell_state n)) (next c) (next d) m1 m2 q.1 there in
        let s = par (ok_or (at above (change r.0) items) no_place) (last c) (last d) m1 m2 r.1 r.2 in
        finish s.0.0 (set c n []) (set d n []) m1 m2 s.1 s.2 (set-same n) (set-long n)
    effect-same (merge right target n) e h =
        let change = merge_at (offset_of right) in
        let above = parent_of right in
        let last : List (List Item) → List Item × (Item × ℕ) → Result State Fault = λ cells m. check (is_free cells n) (cell_state n)
        >>= (λ _. Ok (m.0, fill cells n (m.1.0 ∷ []))) in
        let next : List (List Item) → List Item × (Item × ℕ)
        → Result State Fault = λ cells m. check (pointwise nat_eq target (above ++ (offset_of right - 1) ∷ m.1.1 ∷ [])) not_neighbours
        >>= (λ _. last cells m) in
        let p = par (check (nat_lt 0 (offset_of right)) not_neighbours) (λ _. ok_or (at above change items) not_neighbours >>= next c)
        (λ _. ok_or (at above change items) not_neighbours >>= next d) m1 m2 e h in
        let q = par (ok_or (at above change items) not_neighbours) (next c) (next d) m1 m2 p.1 p.2 in
        let r = par (check (pointwise nat_eq target (above ++ (offset_of right - 1) ∷ q.0.1.1 ∷ [])) not_neighbours) (λ _. last c q.0) (λ _. last d q.0)
        m1 m2 q.1 q.2 in
        let s = passed (is_free c n) (cell_state n) (λ _. Ok (q.0.0, fill c n (q.0.1.0 ∷ []))) m1 r.1 in
        let t = passed (is_free d n) (cell_state n) (λ _. Ok (q.0.0, fill d n (q.0.1.0 ∷ []))) m2 r.2 in
        finish q.0.0 (fill c n (q.0.1.0 ∷ [])) (fill d n (q.0.1.0 ∷ [])) m1 m2 s.1 t.1 (fill-same n (q.0.1.0 ∷ []) s.0 t.0) (fill-long n (q.0.1.0 ∷ []))
    effect-same (marker name old new) e h = finish items c d m1 m2 e h same (omega arith)

-- a result is there, with the same items as another one
abbrev pub There : Result State Fault → State → Type 0
There r made = (other : State) × (r ≡ Ok other) × (other.0 ≡ made.0)

goes : {A : Type 0} (r : Result A Fault) (f g : A → Result State Fault) (made : State) → (r >>= f) ≡ Ok made
    → ((a : A) → f a ≡ Ok made → There (g a) made) → There (r >>= g) made
goes (Ok a) f g made e k = k a e
goes (Err fault) f g made e k = absurd cc

goes-check : (t u : Bool) (fault : Fault) (f g : Unit {0} → Result State Fault) (made : State) → (check t fault >>= f) ≡ Ok made → (t ≡ true → u ≡ true)
    → (t ≡ true → f tt ≡ Ok made → There (g tt) made)
    → There (check u fault >>= g) made
goes-check t u fault f g made e more k = (let p = passed t fault f made e
    in subst (λ (u : Bool). There (check u fault >>= g) made) (sym (more p.0)) (k p.0 p.1))

ends : (x : List Item) (u v : List (List Item)) (made : State) → ◌≡◌ {A = Result State Fault} (Ok (x, u)) (Ok made) → There (Ok (x, v)) made
ends x u v made e = ((x, v), refl, pair-first (x, u) made e)

and-true : (a b : Bool) → a ≡ true → b ≡ true → (a && b) ≡ true
and-true true b e f = f
and-true false b e f = absurd cc

less-true : (a b : ℕ) → a < b → nat_lt a b ≡ true
less-true a b h = grind (arith, nat_tests)

most-true : (a b : ℕ) → a ≤ b → nat_le a b ≡ true
most-true a b h = grind (arith, nat_tests)

true-less : (a b : ℕ) → nat_lt a b ≡ true → a < b
true-less a b e = grind (arith, nat_tests)

-- Where cells hold the same, and there are no fewer of them, no operation is refused that isn't refused with the others.
module _ (c d : List (List Item)) (same : (n : ℕ) → in_cell_at d n ≡ in_cell_at c n) (long : length c ≤ length d) where
  free-more : (n : ℕ) → is_free c n ≡ true → is_free d n ≡ true
  free-more n e =
      let room = free-room c n e in
      and-true (nat_le n (length d)) (is_empty (in_cell_at d n)) (most-true n (length d) (omega (arith, room, long))) (ap is_empty (same n ∙ free-empty c n e))

  holds-more : (n count : ℕ) → holds_count c n count ≡ true → holds_count d n count ≡ true
  holds-more n count e =
      let p = first_and_second (nat_lt n (length c)) (length (in_cell_at c n) == count) e in
      let less = true-less n (length c) p.0 in
      and-true (nat_lt n (length d)) (length (in_cell_at d n) == count) (less-true n (length d) (omega (arith, less, long)))
      (ap (λ (cell : List Item). length cell == count) (same n) ∙ p.1)

  module _ (items : List Item) (made : State) where
    effect-there : (operation : Operation) → effect items c operation ≡ Ok made → There (effect items d operation) made
    effect-there (insert position new) e =
        goes (ok_or (at (parent_of position) (put_in (offset_of position) new) items) no_place) (λ (m : List Item × Unit {0}). Ok (m.0, c))
        (λ (m : List Item × Unit {0}). Ok (m.0, d)) made e (λ m f. ends m.0 c d made f)
    effect-there (move (in_tree from) count (in_tree to)) e =
        let target = carry_remove from count to in
        let last : List (List Item) → List Item × List Item
        → Result State Fault = λ cells taken. ok_or (at (parent_of target) (put_in (offset_of target) taken.1) taken.0) no_place >>= (λ m. Ok (m.0, cells)) in
        let next : List (List Item) → List Item × List Item → Result State Fault = λ cells taken. ok_or (room_at items to) no_place
        >>= (λ _. check (not (is_in_run from count to)) into_itself >>= (λ _. last cells taken)) in
        goes (ok_or (at (parent_of from) (take_out (offset_of from) count) items) no_place) (next c) (next d) made e (λ taken f.
        goes (ok_or (room_at items to) no_place) (λ _. check (not (is_in_run from count to)) into_itself >>= (λ _. last c taken))
        (λ _. check (not (is_in_run from count to)) into_itself >>= (λ _. last d taken)) made f (λ _ g.
        goes (check (not (is_in_run from count to)) into_itself) (λ _. last c taken) (λ _. last d taken) made g (λ _ h.
        goes (ok_or (at (parent_of target) (put_in (offset_of target) taken.1) taken.0) no_place) (λ (m : List Item × Unit {0}). Ok (m.0, c))
        (λ (m : List Item × Unit {0}). Ok (m.0, d)) made h (λ m k. ends m.0 c d made k))))
    effect-there (move (in_tree from) count (in_cell n)) e =
        let next : List (List Item) → List Item × List Item → Result State Fault = λ cells taken. check (is_free cells n) (cell_state n)
        >>= (λ _. Ok (taken.0, fill cells n taken.1)) in
        goes (ok_or (at (parent_of from) (take_out (offset_of from) count) items) no_place) (next c) (next d) made e (λ taken f.
        goes-check (is_free c n) (is_free d n) (cell_state n) (λ _. Ok (taken.0, fill c n taken.1)) (λ _. Ok (taken.0, fill d n taken.1)) made f
        (free-more n) (λ _ g. ends taken.0 (fill c n taken.1) (fill d n taken.1) made g))
    effect-there (move (in_cell n) count (in_tree to)) e =
        let next : List (List Item) → List Item → Result State Fault = λ cells run. ok_or (at (parent_of to) (put_in (offset_of to) run) items) no_place
        >>= (λ m. Ok (m.0, set cells n [])) in
        goes-check (holds_count c n count) (holds_count d n count) (cell_state n) (λ _. next c (in_cell_at c n)) (λ _. next d (in_cell_at d n)) made e
        (holds-more n count) (λ _ f.
        subst (λ (run : List Item). There (next d run) made) (sym (same n))
        (goes (ok_or (at (parent_of to) (put_in (offset_of to) (in_cell_at c n)) items) no_place) (λ (m : List Item × Unit {0}). Ok (m.0, set c n []))
        (λ (m : List Item × Unit {0}). Ok (m.0, set d n [])) made f
        (λ m g. ends m.0 (set c n []) (set d n []) made g)))
    effect-there (move (in_cell n) count (in_cell other)) e = absurd cc
    effect-there (attribute range key old new) e =
        let path = parent_of range.start in
        let change = give (offset_of range.start) (offset_of range.end - offset_of range.start) key new in
        let flat_test = pointwise nat_eq path (parent_of range.end) in
        let tail : List (List Item) → List Item × List Item → Result State Fault = λ cells m. have_value key old m.1 >>= (λ _. Ok (m.0, cells)) in
        goes (check flat_test not_flat) (λ _. ok_or (at path change items) no_place >>= tail c) (λ _. ok_or (at path change items) no_place >>= tail d)
        made e (λ _ f.
        goes (ok_or (at path change items) no_place) (tail c) (tail d) made f (λ m g.
        goes (have_value key old m.1) (λ _. Ok (m.0, c)) (λ _. Ok (m.0, d)) made g (λ _ h. ends m.0 c d made h)))
    effect-there (rename path old new) e =
        let change = rename_at (offset_of path) new in
        let tail : List (List Item) → List Item × List ℕ
        → Result State Fault = λ cells m. check (pointwise nat_eq m.1 old) (old_differs (found_name m.1)) >>= (λ _. Ok (m.0, cells)) in
        goes (check (nat_le 1 (length path)) no_place) (λ _. ok_or (at (parent_of path) change items) no_place >>= tail c)
        (λ _. ok_or (at (parent_of path) change items) no_place >>= tail d) made e (λ _ f.
        goes (ok_or (at (parent_of path) change items) no_place) (tail c) (tail d) made f (λ m g.
        goes (check (pointwise nat_eq m.1 old) (old_differs (found_name m.1))) (λ _. Ok (m.0, c)) (λ _. Ok (m.0, d)) made g (λ _ h. ends m.0 c d made h)))
    effect-there (split position (fresh id)) e =
        let above = parent_of (parent_of position) in
        let change = split_at (offset_of (parent_of position)) (offset_of position) (like id) in
        let tail : List (List Item) → List Item × Item → Result State Fault = λ cells m. Ok (m.0, cells) in
        goes (check (nat_le 2 (length position)) no_place) (λ _. ok_or (at above change items) no_place >>= tail c)
        (λ _. ok_or (at above change items) no_place >>= tail d) made e (λ _ f.
        goes (ok_or (at above change items) no_place) (tail c) (tail d) made f (λ m g. ends m.0 c d made g))
    effect-there (split position (from_cell n)) e =
        let above = parent_of (parent_of position) in
        let change : Item → Change Item = λ shell. split_at (offset_of (parent_of position)) (offset_of position) (λ _. shell) in
        let last : List (List Item) → List Item × Item → Result State Fault = λ cells m. Ok (m.0, set cells n []) in
        let next : List (List Item) → Item → Result State Fault = λ cells shell. ok_or (at above (change shell) items) no_place >>= last cells in
        let first : List (List Item) → List Item → Result State Fault = λ cells held. ok_or (shell_of held) (cell_state n) >>= next cells in
        goes (check (nat_le 2 (length position)) no_place) (λ _. ok_or (room_at items position) no_place >>= (λ _. first c (in_cell_at c n)))
        (λ _. ok_or (room_at items position) no_place >>= (λ _. first d (in_cell_at d n))) made e (λ _ f.
        goes (ok_or (room_at items position) no_place) (λ _. first c (in_cell_at c n)) (λ _. first d (in_cell_at d n)) made f (λ _ g.
        subst (λ (held : List Item). There (first d held) made) (sym (same n))
        (goes (ok_or (shell_of (in_cell_at c n)) (cell_state n)) (next c) (next d) made g (λ shell h.
        goes (ok_or (at above (change shell) items) no_place) (last c) (last d) made h (λ m k. ends m.0 (set c n []) (set d n []) made k)))))
    effect-there (merge right target n) e =
        let change = merge_at (offset_of right) in
        let above = parent_of right in
        let last : List (List Item) → List Item × (Item × ℕ) → Result State Fault = λ cells m. check (is_free cells n) (cell_state n)
        >>= (λ _. Ok (m.0, fill cells n (m.1.0 ∷ []))) in
        let next : List (List Item) → List Item × (Item × ℕ)
        → Result State Fault = λ cells m. check (pointwise nat_eq target (above ++ (offset_of right - 1) ∷ m.1.1 ∷ [])) not_neighbours
        >>= (λ _. last cells m) in
        goes (check (nat_lt 0 (offset_of right)) not_neighbours) (λ _. ok_or (at above change items) not_neighbours >>= next c)
        (λ _. ok_or (at above change items) not_neighbours >>= next d) made e (λ _ f.
        goes (ok_or (at above change items) not_neighbours) (next c) (next d) made f (λ m g.
        goes (check (pointwise nat_eq target (above ++ (offset_of right - 1) ∷ m.1.1 ∷ [])) not_neighbours) (λ _. last c m) (λ _. last d m) made g (λ _ h.
        goes-check (is_free c n) (is_free d n) (cell_state n) (λ _. Ok (m.0, fill c n (m.1.0 ∷ []))) (λ _. Ok (m.0, fill d n (m.1.0 ∷ []))) made h (free-more n)
        (λ _ k. ends m.0 (fill c n (m.1.0 ∷ [])) (fill d n (m.1.0 ∷ [])) made k))))
    effect-there (marker name old new) e = ends items c d made e

    -- nor do the limits on the tree refuse it
    pub after-there : (operation : Operation) → IsLimited made.0 → after items c operation ≡ Ok made → (other : State) × (after items d operation ≡ Ok other)
    after-there operation limits e =
        let t = effect-there operation (after-effect items c operation made e) in
        (t.0, step (effect items d operation) limited t.0 (Ok t.0) t.1 (limited-ok t.0.0 t.0.1 (subst IsLimited (sym t.2) limits)))
