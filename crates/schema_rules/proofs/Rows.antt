-- The rows of the tables are what the relations tell of each name.
use Rattle.std.proofs.Common.{◌≡◌, ℕ, ◌<◌, ◌+◌, List, [], ◌∷◌, ◌++◌, Bool, true, false, ◌==◌, length, map, take, All, refl, sym, ap, ◌∙◌, subst, arith}
use Rattle.std.specs.List.{filter}
use Rattle.std.proofs.lemmas.Bool.{or_left, or_right, eq-eqb}
use Rattle.std.proofs.lemmas.List.{ext_get_or, get_or-map, length-map, map_more}
use Rattle.std.proofs.lemmas.List.Elements.{All-nil, All-cons}
use Rattle.schema_definitions.specs.declared.file.Entry.{Entry}
use Rattle.schema_definitions.specs.declared.file.Property.TheVariants.{AllowAttributes, AllowWhere, AllowContentOf, AllowAttributesOf}
use Rattle.schema_definitions.specs.declared.file.Flag.{Flag}
use Rattle.schema_definitions.specs.Names.{leads, turned, targets}
use Rattle.schema_definitions.specs.Reachable.{reachable}
use Rattle.schema_definitions.specs.Entries.{item_of, pairs, writes_yes, sets}
use Rattle.schema_definitions.specs.Rules.{placements, children_of, stands_in, keys_of, may_have, open_pairs, items_with, has_flag}
use Rattle.schema_definitions.proofs.Pairs.{has-writers}
use Rattle.schema_rules.specs.Graph.{among, is_marked, targets_below, AreReached}
use Rattle.schema_rules.specs.Numbering.{named, AreDistinct}
use Rattle.schema_rules.specs.Drawn.{IsDrawn, AreNumbers}
use Rattle.schema_rules.specs.Tables.{AreKnown, flag_row}
use Rattle.schema_rules.proofs.Named.{reached_names, targets_numbers, one_number}
use Rattle.schema_rules.proofs.Drawing.{within_along, within_placing, within_open, sets_item}
use Rattle.schema_rules.specs.declared.steps.Direction.TheVariants.{FromItem, ToItem}

-- a fact of each number among nodes is one of all nodes
pub all_from_among : (P : ℕ → Type 0) (nodes : List ℕ) → ((node : ℕ) → among nodes node ≡ true → P node) → All P nodes
all_from_among P [] h = All-nil P
all_from_among P (n ∷ ns) h = All-cons P n ns (h n (or_left (n == n) (among ns n) (eq-eqb n n refl)))
    (all_from_among P ns (λ node a. h node (or_right (n == node) (among ns node) a)))

-- marks that tell a test of each name
pub marks_row : (names : List (List ℕ)) (marks : List Bool) (test : List ℕ → Bool) → length marks ≡ length names
    → ((node : ℕ) → node < length names → is_marked marks node ≡ test (named names node)) → marks ≡ map test names
marks_row names marks test size same = ext_get_or false marks (map test names) (size ∙ sym (length-map names test)) (λ node inside. let within : node
    < length names = omega (arith, inside, size) in same node within ∙ sym (get_or-map test names node [] false within))

module _ (names : List (List ℕ)) (entries : List Entry) (known : AreKnown names entries) (distinct : AreDistinct names) where
  one : (node : ℕ) → node < length names → AreNumbers names (node ∷ []) (named names node ∷ [])
  one node inside = one_number names node inside (λ other o. distinct node other inside o)

  module _ (content placed standing : List (List ℕ)) (content_drawn : IsDrawn names content (leads (pairs entries AllowContentOf)))
      (placed_drawn : IsDrawn names placed (leads (placements entries)))
      (standing_drawn : IsDrawn names standing (leads (turned (pairs entries AllowWhere)))) (parent : ℕ) (inside : parent < length names)
      (parents : List Bool) (reached : AreReached content (parent ∷ []) parents) where
    there_numbers : AreNumbers names (targets_below placed parents (length placed))
        (targets (placements entries) (reachable (pairs entries AllowContentOf) (named names parent ∷ [])))
    there_numbers = targets_numbers names (placements entries) placed parents (reachable (pairs entries AllowContentOf) (named names parent ∷ []))
        placed_drawn (within_placing names entries known)
        (reached_names names (pairs entries AllowContentOf) content content_drawn (within_along names entries known FromItem AllowContentOf)
        (parent ∷ []) (named names parent ∷ []) (one parent inside) parents reached)

    pub there_inside : (there : List ℕ) → there ≡ targets_below placed parents (length placed) → All (λ node. node < length standing) there
    there_inside there is = subst (λ nodes. All (λ node. node < length standing) nodes) (sym is)
        (all_from_among (λ node. node < length standing) (targets_below placed parents (length placed))
        (λ node h. omega (arith, there_numbers.inside node h, standing_drawn.size)))

    pub children_row : (there : List ℕ) (row : List Bool) → there ≡ targets_below placed parents (length placed) → AreReached standing there row
        → row ≡ map (λ item. stands_in entries item (named names parent)) names
    unfolding children_of
    children_row there row is found = marks_row names row (λ item. stands_in entries item (named names parent)) (found.size ∙ standing_drawn.size)
        (reached_names names (turned (pairs entries AllowWhere)) standing standing_drawn (within_along names entries known ToItem AllowWhere)
        (targets_below placed parents (length placed))
        (targets (placements entries) (reachable (pairs entries AllowContentOf) (named names parent ∷ []))) there_numbers row
        (subst (λ nodes. AreReached standing nodes row) is found))

  module _ (sources allowed : List (List ℕ)) (sources_drawn : IsDrawn names sources (leads (pairs entries AllowAttributesOf)))
      (allowed_drawn : IsDrawn names allowed (leads (pairs entries AllowAttributes))) (item : ℕ) (inside : item < length names) (items : List Bool)
      (reached : AreReached sources (item ∷ []) items) where
    keys_numbers : AreNumbers names (targets_below allowed items (length allowed))
        (targets (pairs entries AllowAttributes) (reachable (pairs entries AllowAttributesOf) (named names item ∷ [])))
    keys_numbers = targets_numbers names (pairs entries AllowAttributes) allowed items
        (reachable (pairs entries AllowAttributesOf) (named names item ∷ [])) allowed_drawn (within_along names entries known FromItem AllowAttributes)
        (reached_names names (pairs entries AllowAttributesOf) sources sources_drawn (within_along names entries known FromItem AllowAttributesOf)
        (item ∷ []) (named names item ∷ []) (one item inside) items reached)

    pub keys_inside : (keys : List ℕ) (count : ℕ) → count ≡ length names → keys ≡ targets_below allowed items (length allowed) → All (λ node. node < count) keys
    keys_inside keys count size is = subst (λ nodes. All (λ node. node < count) nodes) (sym is)
        (all_from_among (λ node. node < count) (targets_below allowed items (length allowed)) (λ node h. omega (arith, keys_numbers.inside node h, size)))

    pub keys_row : (keys : List ℕ) (row : List Bool) (count : ℕ) → count ≡ length names → keys ≡ targets_below allowed items (length allowed)
        → length row ≡ count → ((node : ℕ) → is_marked row node ≡ among keys node) → row ≡ map (λ key. may_have entries key (named names item)) names
    unfolding keys_of
    keys_row keys row count counted is size marked = marks_row names row (λ key. may_have entries key (named names item)) (size ∙ counted)
        (λ node n. marked node ∙ ap (λ nodes. among nodes node) is ∙ keys_numbers.same node n)

module _ (names : List (List ℕ)) (entries : List Entry) (known : AreKnown names entries) where
  module _ (flag : Flag) (steps : List (List ℕ)) (drawn : IsDrawn names steps (leads (turned (open_pairs entries flag)))) (writers : List ℕ)
      (writers_inside : (node : ℕ) → among writers node ≡ true → node < length names) (writing : (node : ℕ) → node < length names → among writers node
      ≡ sets entries flag (named names node)) where
    writers_numbers : AreNumbers names writers (map item_of (filter (writes_yes flag) entries))
    writers_numbers = record {
      inside = writers_inside;
      same = λ node n. writing node n ∙ sym (has-writers entries flag (named names node));
      known = λ name h. known.items name (sets_item names entries flag name (sym (has-writers entries flag name) ∙ h));
    }

    pub writers_within : All (λ node. node < length steps) writers
    writers_within = all_from_among (λ node. node < length steps) writers (λ node h. omega (arith, writers_inside node h, drawn.size))

    pub flags_row : (row : List Bool) → AreReached steps writers row → row ≡ flag_row names entries flag
    unfolding items_with
    flags_row row found = marks_row names row (λ item. has_flag entries flag item) (found.size ∙ drawn.size)
        (reached_names names (turned (open_pairs entries flag)) steps drawn (within_open names entries known flag) writers
        (map item_of (filter (writes_yes flag) entries)) writers_numbers row found)

-- one row more
pub rows_more : (f : List ℕ → List Bool) (names : List (List ℕ)) (rows made : List (List Bool)) (row : List Bool) (node : ℕ) → node < length names
    → rows ≡ map f (take node names) → row ≡ f (named names node) → made ≡ rows ++ row ∷ [] → made ≡ map f (take (node + 1) names)
rows_more f names rows made row node inside before is m = m ∙ ap (λ xs. xs ++ row ∷ []) before ∙ ap (λ x. map f (take node names) ++ x ∷ []) is
    ∙ sym (map_more f names node [] inside)
