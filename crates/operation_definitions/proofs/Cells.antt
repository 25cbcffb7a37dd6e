-- What is in the cells after one is filled or emptied.
use Rattle.std.proofs.Common.{◌≡◌, ◌≢◌, ℕ, zero, suc, ◌<◌, ◌≤◌, Bool, true, false, ◌&&◌, nat_lt, nat_le, ◌==◌, if◌then◌else◌, List, [], ◌∷◌, ◌++◌, length}
use Rattle.std.proofs.Common.{get_or, set, refl, sym, ap, ◌∙◌, arith, length-append, length-set}
use Rattle.std.proofs.lemmas.Bool.Decides.{nat_tests}
use Rattle.ck_base.proofs.Common.{first, second}
use Rattle.item_definitions.specs.Item.{Item}
use Rattle.operation_definitions.specs.After.{in_cell_at, is_empty, is_free, fill, holds_count}

none-if_empty : (xs : List Item) → is_empty xs ≡ true → xs ≡ []
none-if_empty [] e = refl
none-if_empty (x ∷ xs) e = absurd cc

pub free-empty : (cells : List (List Item)) (n : ℕ) → is_free cells n ≡ true → in_cell_at cells n ≡ []
free-empty cells n e = none-if_empty (in_cell_at cells n) (second (nat_le n (length cells)) (is_empty (in_cell_at cells n)) e)

pub free-room : (cells : List (List Item)) (n : ℕ) → is_free cells n ≡ true → n ≤ length cells
free-room cells n e = let t = first (nat_le n (length cells)) (is_empty (in_cell_at cells n)) e in grind (arith, nat_tests)

pub if-same : {X : Type 0} (k n : ℕ) (a b : X) → k ≡ n → (if k == n then a else b) ≡ a
if-same k n a b e = ap (λ t. if t then a else b) (yes k n e)
  where
    yes : (k n : ℕ) → k ≡ n → (k == n) ≡ true
    yes k n e = grind (arith, nat_tests)

pub if-other : {X : Type 0} (k n : ℕ) (a b : X) → k ≢ n → (if k == n then a else b) ≡ b
if-other k n a b e = ap (λ t. if t then a else b) (no k n e)
  where
    no : (k n : ℕ) → k ≢ n → (k == n) ≡ false
    no k n e = grind (arith, nat_tests)

if-more : {X : Type 0} (k n : ℕ) (a b : X) → (if suc k == suc n then a else b) ≡ (if k == n then a else b)
if-more k n a b = ap (λ t. if t then a else b) (same k n)
  where
    same : (k n : ℕ) → (suc k == suc n) ≡ (k == n)
    same k n = grind (arith, nat_tests)

get-set : (cells : List (List Item)) (n k : ℕ) (items : List Item) → n < length cells → get_or (set cells n items) k []
    ≡ (if k == n then items else get_or cells k [])
get-set [] n k items less = absurd (omega arith)
get-set (cell ∷ cells) zero zero items less = refl
get-set (cell ∷ cells) zero (suc k) items less = sym (if-other (suc k) 0 items (get_or cells k []) (λ e. absurd (omega arith)))
get-set (cell ∷ cells) (suc n) zero items less = sym (if-other 0 (suc n) items cell (λ e. absurd (omega arith)))
get-set (cell ∷ cells) (suc n) (suc k) items less = get-set cells n k items (omega arith) ∙ sym (if-more k n items (get_or cells k []))

get-push : (cells : List (List Item)) (k : ℕ) (items : List Item) → get_or (cells ++ items ∷ []) k [] ≡ (if k == length cells then items else get_or cells k [])
get-push [] zero items = refl
get-push [] (suc k) items = sym (if-other (suc k) 0 items [] (λ e. absurd (omega arith)))
get-push (cell ∷ cells) zero items = sym (if-other 0 (length (cell ∷ cells)) items cell (λ e. absurd (omega arith)))
get-push (cell ∷ cells) (suc k) items = get-push cells k items ∙ sym (if-more k (length cells) items (get_or cells k []))

-- a cell that was filled has what it was filled with, and the others have what they had
pub fill-at : (cells : List (List Item)) (n k : ℕ) (items : List Item) → n ≤ length cells → in_cell_at (fill cells n items) k
    ≡ (if k == n then items else in_cell_at cells k)
fill-at cells n k items room = go (nat_lt n (length cells)) refl
  where
    go : (t : Bool) → t ≡ nat_lt n (length cells) → get_or (if t then set cells n items else cells ++ items ∷ []) k []
        ≡ (if k == n then items else get_or cells k [])
    go true t = (let less : n < length cells = grind (arith, nat_tests) in get-set cells n k items less)
    go false t = (let last : length cells ≡ n = grind (arith, nat_tests) in get-push cells k items ∙ ap (λ m. if k == m then items else get_or cells k []) last)

fill-room : (cells : List (List Item)) (n : ℕ) (items : List Item) → n ≤ length cells → n < length (fill cells n items)
fill-room cells n items room = go (nat_lt n (length cells)) refl
  where
    go : (t : Bool) → t ≡ nat_lt n (length cells) → n < length (if t then set cells n items else cells ++ items ∷ [])
    go true t = (let less : n < length cells = grind (arith, nat_tests) in omega (arith, less, length-set cells n items))
    go false t = (let last : length cells ≡ n = grind (arith, nat_tests) in omega (arith, last, length-append cells (items ∷ [])))

-- it is full, and can be emptied
pub fill-holds : (cells : List (List Item)) (n : ℕ) (items : List Item) → is_free cells n ≡ true → holds_count (fill cells n items) n (length items) ≡ true
fill-holds cells n items free =
    let room = free-room cells n free in
    let less = fill-room cells n items room in
    let same = ap length (fill-at cells n n items room ∙ if-same n n items (in_cell_at cells n) refl) in
    both n (length (fill cells n items)) (length (in_cell_at (fill cells n items) n)) (length items) less same
  where
    both : (n m a b : ℕ) → n < m → a ≡ b → (nat_lt n m && a == b) ≡ true
    both n m a b less same = grind (arith, nat_tests)

pub emptied-at : (cells : List (List Item)) (n k : ℕ) (items : List Item) → is_free cells n ≡ true → in_cell_at (set (fill cells n items) n []) k
    ≡ in_cell_at cells k
emptied-at cells n k items free =
    let room = free-room cells n free in
    get-set (fill cells n items) n k [] (fill-room cells n items room)
    ∙ ap (λ cell. if k == n then [] else cell) (fill-at cells n k items room)
    ∙ go (k == n) refl
  where
    go : (t : Bool) → t ≡ (k == n) → (if t then [] else (if t then items else in_cell_at cells k)) ≡ in_cell_at cells k
    go true t = (let same : k ≡ n = grind (arith, nat_tests) in sym (ap (in_cell_at cells) same ∙ free-empty cells n free))
    go false t = refl

pub holds-room : (cells : List (List Item)) (n count : ℕ) → holds_count cells n count ≡ true → n < length cells
holds-room cells n count e = let t = first (nat_lt n (length cells)) (length (in_cell_at cells n) == count) e in grind (arith, nat_tests)

pub holds-long : (cells : List (List Item)) (n count : ℕ) → holds_count cells n count ≡ true → length (in_cell_at cells n) ≡ count
holds-long cells n count e = let t = second (nat_lt n (length cells)) (length (in_cell_at cells n) == count) e in grind (arith, nat_tests)

-- a cell that was emptied is free, and filled again it has what it had
pub emptied-free : (cells : List (List Item)) (n : ℕ) → n < length cells → is_free (set cells n []) n ≡ true
emptied-free cells n less =
    both n (length (set cells n [])) (is_empty (in_cell_at (set cells n []) n)) (omega (arith, less, length-set cells n []))
    (ap is_empty (get-set cells n n [] less ∙ if-same n n [] (in_cell_at cells n) refl))
  where
    both : (n m : ℕ) (b : Bool) → n ≤ m → b ≡ true → (nat_le n m && b) ≡ true
    both n m b less e = grind (arith, nat_tests)

pub refilled-at : (cells : List (List Item)) (n k : ℕ) → n < length cells → in_cell_at (fill (set cells n []) n (in_cell_at cells n)) k ≡ in_cell_at cells k
refilled-at cells n k less =
    fill-at (set cells n []) n k (in_cell_at cells n) (omega (arith, less, length-set cells n []))
    ∙ ap (λ cell. if k == n then in_cell_at cells n else cell) (get-set cells n k [] less)
    ∙ go (k == n) refl
  where
    go : (t : Bool) → t ≡ (k == n) → (if t then in_cell_at cells n else (if t then [] else in_cell_at cells k)) ≡ in_cell_at cells k
    go true t = (let same : k ≡ n = grind (arith, nat_tests) in sym (ap (in_cell_at cells) same))
    go false t = refl
