-- Where a boundary of a document's row is seen, where the caret doesn't stand there.
use Rattle.std.proofs.Common.{◌≡◌, ℕ, zero, suc, ◌+◌, ◌<◌, ◌≤◌, List, [], ◌∷◌, ◌++◌, take, length, Bool, true, false, Option, Some, None, refl, sym, ap, ◌∙◌}
use Rattle.std.proofs.Common.{subst, append-nil, arith, length-append}
use Rattle.std.proofs.lemmas.Option.{slice_get_past}
use Rattle.std.specs.Prelude.{slice_get, option_map, option_and_then, if◌then◌else◌}
use Rattle.std.specs.List.{filter_map, cons_option}
use Rattle.item_definitions.specs.Position.{Range}
use Rattle.item_definitions.specs.Item.{Item, items_of}
use Rattle.item_definitions.specs.Item as items
use Rattle.document_definitions.specs.Markers.{Markers}
use Rattle.view_definitions.specs.Node.{ViewNode, text, element, nodes_of}
use Rattle.view_definitions.specs.Layer.{Layer}
use Rattle.view_definitions.specs.Change.{IsBareLeaf}
use Rattle.view_definitions.specs.Row.{Content, Entry, nest, is_item_kind, is_element}
use Rattle.converter_definitions.specs.declared.stock.Leaf.{Leaf}
use Rattle.converter_definitions.specs.Gives.{Converter}
use Rattle.converter_definitions.specs.Layers.{leaf_of}
use Rattle.downcast_definitions.specs.Scene.{Scene, Caret, leaves, leaf_entry, ends_at, starts_at, has_caret, carets, caret_entry, boundary}
use Rattle.downcast_definitions.specs.Rows.{elements_in, shape_at, element_node, entry_of, inner_row, row_of}
use Rattle.downcast_definitions.specs.Place.{as_place}
use Rattle.downcast_definitions.specs.Seen.{entries_before, of_character, character_before, character_layers_at, between, mark_at, place_of, elements_before}
use Rattle.downcast_definitions.specs.Seen.{boundary_place}
use Rattle.downcast_definitions.specs.Shown.{HasShape, HaveShapes}
use Rattle.downcast_definitions.proofs.Entries.{AllStand, items_in, contents_of, items-append, get-front, get-rest, take-rest}
use Rattle.downcast_definitions.proofs.Items.{contents-append, Around, around, boundary-quiet, entry-stands, row-stands, shape-at, contents-length}
use Rattle.downcast_definitions.specs.Among.{item_among, is_character, seen_among}
use Rattle.downcast_definitions.specs.Rule.{IsNoCharacter}
use Rattle.downcast_definitions.proofs.Apart.{IsNode, NodeBefore}
use Rattle.downcast_definitions.proofs.Fits.{IsElement, ElementNext, Between}
use Rattle.downcast_definitions.proofs.ShownBoundaries.{shown-behind, shown-before, shown-between}
use Rattle.downcast_definitions.proofs.RowItems.{item-element, item-none}

-- ---- the entries before a boundary and behind it

-- an entry that is an element, or a leaf without layers
abbrev BareNode : Option Entry → Type 0
BareNode None = ⊥
BareNode (Some entry) = IsNode entry.content × IsBareLeaf entry.content entry.layers

-- that there is none before a number, or such a one
abbrev BareBefore : List Entry → ℕ → Type 0
BareBefore row zero = Unit {0}
BareBefore row (suc number) = BareNode (slice_get row number)

abbrev NextElement : Option Entry → Type 0
NextElement None = Unit {0}
NextElement (Some entry) = IsElement entry.content

node-before : (row : List Entry) (number : ℕ) → BareBefore row number → NodeBefore row number
node-before row zero b = tt
node-before [] (suc number) b = b
node-before (entry ∷ row) (suc zero) b = b.0
node-before (entry ∷ row) (suc (suc number)) b = node-before row (suc number) b

element-next : (row : List Entry) → NextElement (slice_get row 0) → ElementNext row
element-next [] n = tt
element-next (entry ∷ row) n = n

between-nodes : (row : List Entry) (number : ℕ) → BareBefore row number → NextElement (slice_get row number) → Between row number
between-nodes row zero b n = element-next row n
between-nodes [] (suc number) b n = b
between-nodes (entry ∷ row) (suc zero) b n = (b.0, b.1, element-next row n)
between-nodes (entry ∷ row) (suc (suc number)) b n = between-nodes row (suc number) b n

-- ---- what stands at a position where the caret doesn't

abbrev AllBare : List Entry → Type 0
AllBare [] = Unit {0}
AllBare (entry ∷ row) = BareNode (Some entry) × AllBare row

bare-append : (row other : List Entry) → AllBare row → AllBare other → AllBare (row ++ other)
bare-append [] other b c = c
bare-append (entry ∷ row) other b c = (b.0, bare-append row other b.1 c)

bare-at : (row : List Entry) (number : ℕ) → AllBare row → number < length row → BareNode (slice_get row number)
bare-at [] number b h = absurd (omega (arith, h))
bare-at (entry ∷ row) zero b h = b.0
bare-at (entry ∷ row) (suc number) b h = bare-at row number b.1 (omega (arith, h))

leaf-bare : (test : Bool) (view : Option Leaf) (row : List Entry) → AllBare row → AllBare (cons_option (if test then option_map leaf_entry view else None) row)
leaf-bare true None row b = b
leaf-bare true (Some view) row b = ((tt, refl), b)
leaf-bare false view row b = b

leaves-bare : (converters : List Converter) (test : Range → Bool) (markers : Markers)
    → AllBare (filter_map (λ marker. if test marker.1 then option_map leaf_entry (leaf_of converters marker.0) else None) markers)
leaves-bare converters test [] = tt
leaves-bare converters test (marker ∷ markers) = leaf-bare (test marker.1) (leaf_of converters marker.0) _ (leaves-bare converters test markers)

carets-bare : (there : Option Caret) (position : List ℕ) → has_caret there position ≡ false → AllBare (carets there position)
carets-bare None position e = tt
carets-bare (Some here) position e = subst (λ b. AllBare (if b then caret_entry here ∷ [] else [])) (sym e) tt

boundary-bare : (scene : Scene) (position : List ℕ) → has_caret scene.caret position ≡ false → AllBare (boundary scene position)
boundary-bare scene position e =
    bare-append (leaves scene (ends_at position)) (leaves scene (starts_at position) ++ carets scene.caret position)
    (leaves-bare scene.conversion.converters (ends_at position) scene.markers)
    (bare-append (leaves scene (starts_at position)) (carets scene.caret position)
    (leaves-bare scene.conversion.converters (starts_at position) scene.markers) (carets-bare scene.caret position e))

-- behind it as before it
bare-behind : (row front here behind : List Entry) (start end : ℕ) → row ≡ front ++ (here ++ behind) → start ≡ length front → end ≡ start + length here
    → AllBare here → BareBefore row start → BareBefore row end
bare-behind row front [] behind start end e a b all before =
    let same : start ≡ end = omega (arith, b) in
    subst (BareBefore row) same before
bare-behind row front (entry ∷ here) behind start end e a b all before =
    let last : end ≡ suc (start + length here) = omega (arith, b) in
    let there : slice_get row (start + length here) ≡ slice_get (entry ∷ here) (length here) =
    (ap (λ r. slice_get r (start + length here)) e
    ∙ get-rest front ((entry ∷ here) ++ behind) (length here) (start + length here) (ap (λ n. n + length here) a)
    ∙ get-front (entry ∷ here) behind (length here) (omega arith)) in
    subst (BareBefore row) (sym last) (subst BareNode (sym there) (bare-at (entry ∷ here) (length here) all (omega arith)))

-- ---- the entry of an item

past-end : {A : Type 0} → (xs : List A) (number : ℕ) → slice_get xs number ≡ None → length xs ≤ number
past-end [] number e = omega arith
past-end (x ∷ xs) zero e = cc
past-end (x ∷ xs) (suc number) e = let below = past-end xs number e in omega (arith, below)

row-length : (scene : Scene) (parent path : List ℕ) (list : List Item) (from before last : ℕ) → last ≡ from + length list
    → length (inner_row scene parent path from before (items_of list)) + entries_before scene path from
    ≡ entries_before scene path last + length (boundary scene (path ++ last ∷ []))
row-length scene parent path [] from before last e =
    let same : from ≡ last = omega (arith, e) in
    let turned : length (boundary scene (path ++ from ∷ [])) + entries_before scene path from
    ≡ entries_before scene path from + length (boundary scene (path ++ from ∷ [])) = omega arith in
    turned ∙ ap (λ n. entries_before scene path n + length (boundary scene (path ++ n ∷ []))) same
row-length scene parent path (next ∷ list) from before last e =
    let row = inner_row scene parent path (from + 1) (before + elements_in next) (items_of list) in
    let entry = entry_of scene parent (path ++ from ∷ []) before next in
    let long : length (boundary scene (path ++ from ∷ []) ++ (entry ∷ row)) ≡ length (boundary scene (path ++ from ∷ [])) + suc (length row) =
    length-append (boundary scene (path ++ from ∷ [])) (entry ∷ row) in
    let more : entries_before scene path (from + 1) ≡ entries_before scene path from + length (boundary scene (path ++ from ∷ [])) + 1 =
    ap (entries_before scene path) (let k : from + 1 ≡ suc from = omega arith in k) in
    let rest = row-length scene parent path list (from + 1) (before + elements_in next) last (omega (arith, e)) in
    omega (arith, long, more, rest)

module _ (scene : Scene) (parent path : List ℕ) (list : List Item) where
  abbrev row : List Entry
  row = row_of scene parent path list

  abbrev here : ℕ → List Entry
  here index = boundary scene (path ++ index ∷ [])

  abbrev start_of : ℕ → ℕ
  start_of index = entries_before scene path index

  abbrev end_of : ℕ → ℕ
  end_of index = entries_before scene path index + length (boundary scene (path ++ index ∷ []))

  start-is : (index : ℕ) (a : Around scene parent path 0 0 list index index) → entries_before scene path index ≡ length a.front
  start-is index a = let k : entries_before scene path index ≡ 0 + length a.front = a.entries_are in omega (arith, k)

  row-size : (index : ℕ) (a : Around scene parent path 0 0 list index index) → length row ≡ length a.front + (length (here index) + length a.behind)
  row-size index a = ap length a.row_is ∙ length-append a.front (here index ++ a.behind) ∙ ap (λ n. length a.front + n) (length-append (here index) a.behind)

  next-entry : (index : ℕ) (a : Around scene parent path 0 0 list index index) (of : Option Item) → index ≤ length list → slice_get list index ≡ of
      → slice_get a.behind 0 ≡ option_map (λ next. entry_of scene parent (path ++ index ∷ []) (elements_before list index) next) of
  next-entry index a None h e =
      let last = past-end list index e in
      let all : length row + 0 ≡ end_of index = row-length scene parent path list 0 0 index (omega (arith, h, last)) in
      let size = row-size index a in
      let start = start-is index a in
      slice_get_past a.behind 0 (omega (arith, all, size, start))
  next-entry index a (Some of) h e =
      let z : 0 + elements_before list index ≡ elements_before list index = omega arith in
      let lead = a.item_is of e in
      ap (λ r. slice_get r 0) lead.is ∙ ap (λ n. Some (entry_of scene parent (path ++ index ∷ []) n of)) z

  -- behind a boundary stands the entry of the item there
  entry-there : (index : ℕ) (of : Option Item) → index ≤ length list → slice_get list index ≡ of
      → slice_get row (end_of index) ≡ option_map (λ next. entry_of scene parent (path ++ index ∷ []) (elements_before list index) next) of
  entry-there index of h e =
      let a = around scene parent path list 0 0 index index (omega arith) h in
      ap (λ r. slice_get r (end_of index)) a.row_is
      ∙ get-rest a.front (here index ++ a.behind) (length (here index)) (end_of index) (ap (λ n. n + length (here index)) (start-is index a))
      ∙ get-rest (here index) a.behind 0 (length (here index)) (omega arith)
      ∙ next-entry index a of h e

  no-layers : (index : ℕ) (of : Option Item) → index ≤ length list → slice_get list index ≡ of → character_layers_at row (end_of index) ≡ None
      → IsNoCharacter of
  no-layers index None h e n = tt
  no-layers index (Some (items.character scalar attributes)) h e n =
      let there : Some (entry_of scene parent (path ++ index ∷ []) (elements_before list index) (items.character scalar attributes)).layers ≡ None =
      (sym (ap (λ (entry : Option Entry). option_and_then (λ (entry : Entry). of_character entry.content entry.layers) entry)
      (entry-there index (Some (items.character scalar attributes)) h e)) ∙ n) in
      cc
  no-layers index (Some (items.element id name attributes children)) h e n = tt

  -- no character is found there
  pub no-character : (index : ℕ) (of : Option Item) → HaveShapes scene.conversion parent 0 (items_of list) → slice_get list index ≡ of
      → IsNoCharacter of → is_character (item_among (nodes_of (nest row)) index) ≡ false
  no-character index None s e n = ap is_character (item-none scene parent path list index s e)
  no-character index (Some (items.character scalar attributes)) s e n = absurd n
  no-character index (Some (items.element id name attributes children)) s e n =
      let z : 0 + elements_before list index ≡ elements_before list index = omega arith in
      ap is_character (item-element scene parent path list index id name attributes children s e)
      ∙ not-text (element_node (scene.numbers id) (shape_at scene.conversion parent (elements_before list index) name attributes)
      (inner_row scene name (path ++ index ∷ []) 0 0 children))
      (entry-stands scene parent (path ++ index ∷ []) (elements_before list index) (items.element id name attributes children)
      (subst (λ n. HasShape scene.conversion parent n (items.element id name attributes children)) z
      (shape-at scene.conversion parent list 0 index (items.element id name attributes children) s e)))
    where
      not-text : (node : ViewNode) → is_element is_item_kind node ≡ true → is_character (Some node) ≡ false
      not-text (text scalars) e = cc
      not-text (element head children) e = refl

  next-element : (index : ℕ) (of : Option Item) → index ≤ length list → slice_get list index ≡ of → IsNoCharacter of
      → NextElement (slice_get row (end_of index))
  next-element index None h e n = subst NextElement (sym (entry-there index None h e)) tt
  next-element index (Some (items.character scalar attributes)) h e n = absurd n
  next-element index (Some (items.element id name attributes children)) h e n =
      subst NextElement (sym (entry-there index (Some (items.element id name attributes children)) h e)) tt

  bare-item : (index : ℕ) (of : Option Item) → index < length list → slice_get list index ≡ of → IsNoCharacter of → BareNode (slice_get row (end_of index))
  bare-item index None h e n = let past = past-end list index e in absurd (omega (arith, h, past))
  bare-item index (Some (items.character scalar attributes)) h e n = absurd n
  bare-item index (Some (items.element id name attributes children)) h e n =
      subst BareNode (sym (entry-there index (Some (items.element id name attributes children)) (omega (arith, h)) e)) (tt, tt)

  -- where no character stands before a boundary, the item before it is none
  none-before : (offset one_less : ℕ) → offset ≡ suc one_less → offset ≤ length list → character_before row (start_of offset) ≡ None
      → IsNoCharacter (slice_get list one_less)
  none-before offset one_less k h e =
      let last : end_of one_less + 1 ≡ suc (end_of one_less) = omega arith in
      no-layers one_less (slice_get list one_less) (omega (arith, h, k)) refl
      (subst (λ n. character_before row n ≡ None) (ap (entries_before scene path) k ∙ last) e)

  bare-start : (offset : ℕ) → offset ≤ length list → character_before row (start_of offset) ≡ None → BareBefore row (start_of offset)
  bare-start zero h e = tt
  bare-start (suc offset) h e =
      let last : end_of offset + 1 ≡ suc (end_of offset) = omega arith in
      subst (BareBefore row) (sym last) (bare-item offset (slice_get list offset) (omega (arith, h)) refl (none-before (suc offset) offset refl h e))

-- ---- the place

-- where no caret stands at a boundary
seen-between : (row : List Entry) (start end number : ℕ) (before behind : Option (List Layer)) → AllStand (contents_of row) → start ≤ length row
    → end ≤ length row
    → items_in (take start (contents_of row)) ≡ number → items_in (take end (contents_of row)) ≡ number → character_before row start ≡ before
    → character_layers_at row end ≡ behind
    → (before ≡ None → BareBefore row end) → (behind ≡ None → NextElement (slice_get row end))
    → (before ≡ None → (one_less : ℕ) → number ≡ suc one_less → is_character (item_among (nodes_of (nest row)) one_less) ≡ false)
    → (behind ≡ None → is_character (item_among (nodes_of (nest row)) number) ≡ false)
    → seen_among (nodes_of (nest row)) number 0 ≡ place_of as_place (between row start end before behind)
seen-between row start end number (Some layers) behind s m n i j e h bare next kind kind_behind = shown-behind row start number layers s m i e
seen-between row start end number None (Some layers) s m n i j e h bare next kind kind_behind =
    shown-before row end number layers s n j h (node-before row end (bare refl)) (kind refl)
seen-between row start end number None None s m n i j e h bare next kind kind_behind =
    shown-between row end number s n j (node-before row end (bare refl)) (between-nodes row end (bare refl) (next refl)) (kind refl) (kind_behind refl)

items-at-start : (all before here behind : List Content) (start : ℕ) → all ≡ before ++ (here ++ behind) → start ≡ length before
    → items_in (take start all) ≡ items_in before
items-at-start all before here behind start e a =
    ap (λ list. items_in (take start list)) e ∙ ap items_in (take-rest before (here ++ behind) 0 start (omega (arith, a)) ∙ append-nil before)

items-at-end : (all before here behind : List Content) (end : ℕ) → all ≡ before ++ (here ++ behind) → end ≡ length before + length here
    → items_in here ≡ 0 → items_in (take end all) ≡ items_in before
items-at-end all before here behind end e b z =
    let quiet : items_in before + items_in here ≡ items_in before = omega (arith, z) in
    ap (λ list. items_in (take end list)) e
    ∙ ap items_in (take-rest before (here ++ behind) (length here) end b)
    ∙ ap (λ list. items_in (before ++ list)) (take-rest here behind 0 (length here) (omega arith) ∙ append-nil here)
    ∙ items-append before here ∙ quiet

-- a boundary without the caret is seen where the nodes say
pub boundary-shown : (scene : Scene) (parent path : List ℕ) (list : List Item) (offset : ℕ) → HaveShapes scene.conversion parent 0 (items_of list)
    → offset ≤ length list
    → has_caret scene.caret (path ++ offset ∷ []) ≡ false
    → seen_among (nodes_of (nest (row_of scene parent path list))) offset 0 ≡ boundary_place scene parent path list offset
boundary-shown scene parent path list offset s h has =
    let a = around scene parent path list 0 0 offset offset (omega arith) h in
    let here = boundary scene (path ++ offset ∷ []) in
    let start = entries_before scene path offset in
    let end = entries_before scene path offset + length (boundary scene (path ++ offset ∷ [])) in
    let size = row-size scene parent path list offset a in
    let begins = start-is scene parent path list offset a in
    let counts : items_in (contents_of a.front) ≡ offset = a.items_are in
    let all : contents_of (row_of scene parent path list) ≡ contents_of a.front ++ (contents_of here ++ contents_of a.behind) =
    (ap contents_of a.row_is ∙ contents-append a.front (here ++ a.behind) ∙ ap (λ list. contents_of a.front ++ list) (contents-append here a.behind)) in
    let long : start ≡ length (contents_of a.front) = begins ∙ sym (contents-length a.front) in
    let long_here : length (contents_of here) ≡ length here = contents-length here in
    seen-between (row_of scene parent path list) start end offset (character_before (row_of scene parent path list) start)
    (character_layers_at (row_of scene parent path list) end)
    (row-stands scene parent path 0 0 (items_of list) s)
    (omega (arith, size, begins)) (omega (arith, size, begins))
    (items-at-start _ (contents_of a.front) (contents_of here) (contents_of a.behind) start all long ∙ counts)
    (items-at-end _ (contents_of a.front) (contents_of here) (contents_of a.behind) end all (λ i. long i + sym long_here i)
    (boundary-quiet scene (path ++ offset ∷ [])).1 ∙ counts)
    refl refl
    (λ n. bare-behind (row_of scene parent path list) a.front here a.behind start end a.row_is begins refl
    (boundary-bare scene (path ++ offset ∷ []) has) (bare-start scene parent path list offset h n))
    (λ n. next-element scene parent path list offset (slice_get list offset) h refl (no-layers scene parent path list offset (slice_get list offset) h refl n))
    (λ n one_less k. no-character scene parent path list one_less (slice_get list one_less) s refl (none-before scene parent path list offset one_less k h n))
    (λ n. no-character scene parent path list offset (slice_get list offset) s refl (no-layers scene parent path list offset (slice_get list offset) h refl n))
    ∙ ap (λ b. place_of as_place (mark_at (row_of scene parent path list) start end b)) (sym has)
