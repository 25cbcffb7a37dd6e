-- A place in a text that means a position is the place of the character there.
use Rattle.std.proofs.Common.{◌≡◌, ℕ, zero, suc, ◌+◌, ◌-◌, ◌<◌, ◌≤◌, List, [], ◌∷◌, length, Bool, true, false, Some, None, refl, sym, ap, ◌∙◌, subst, arith}
use Rattle.std.proofs.lemmas.Bool.Decides.{nat_tests}
use Rattle.std.specs.Prelude.{nat_lt, nat_le, if◌then◌else◌}
use Rattle.view_definitions.specs.Node.{Kind, container, attribute, empty, ui, Head, ViewNode, ViewNodes, text, element, none, more, nodes_of}
use Rattle.view_definitions.specs.Row.{Content, leaf, item, character, caret, Entry, Piece, Pieces, nothing, first, bare, wrapped, pieces_of, character_before}
use Rattle.view_definitions.specs.Row.{content_before, shown, nest, is_leaf_kind, is_item_kind}
use Rattle.downcast_definitions.specs.Meant.{length_by_kind, model_length, inner_length, Inners, in_text, in_item, by_kind, meant_in, meant_in_node}
use Rattle.downcast_definitions.proofs.Entries.{may_stand, AllStand, contents, contents_of, contents-row, stand-front, stand-rest, piece_contents}
use Rattle.ck_base.proofs.Common.{below, above}
use Rattle.downcast_definitions.specs.Among.{by_around, place_in, place_among, item_in, item_among, is_character}
use Rattle.downcast_definitions.specs.Rule.{kind_in, kind_at}

-- ---- no text is empty

abbrev HasScalars : List ℕ → Type 0
HasScalars [] = ⊥
HasScalars (scalar ∷ scalars) = Unit {0}

abbrev AroundFull : Kind → Type 0 → Type 0
AroundFull container Inner = Unit {0}
AroundFull (attribute priority id) Inner = Inner
AroundFull empty Inner = Unit {0}
AroundFull ui Inner = Unit {0}

abbrev mutual
  pub FullNode : ViewNode → Type 0
  FullNode (text scalars) = HasScalars scalars
  FullNode (element head children) = AroundFull head.kind (Full children)

  -- that no text is empty, in the list and in its attribute elements
  pub Full : ViewNodes → Type 0
  Full none = Unit {0}
  Full (more node nodes) = FullNode node × Full nodes

full-character : (scalar : ℕ) (nodes : List ViewNode) → Full (nodes_of nodes) → Full (nodes_of (character_before scalar nodes))
full-character scalar [] h = (tt, tt)
full-character scalar (text scalars ∷ nodes) h = (tt, h.1)
full-character scalar (element head children ∷ nodes) h = (tt, h)

leaf-full : (kind : Kind) (Inner : Type 0) → is_leaf_kind kind ≡ true → AroundFull kind Inner
leaf-full container Inner e = cc
leaf-full (attribute priority id) Inner e = cc
leaf-full empty Inner e = cc
leaf-full ui Inner e = tt

item-full : (kind : Kind) (Inner : Type 0) → is_item_kind kind ≡ true → AroundFull kind Inner
item-full container Inner e = tt
item-full (attribute priority id) Inner e = cc
item-full empty Inner e = tt
item-full ui Inner e = cc

full-content : (content : Content) (nodes : List ViewNode) → may_stand content ≡ true → Full (nodes_of nodes) → Full (nodes_of (content_before content nodes))
full-content (leaf (text scalars)) nodes e h = cc
full-content (leaf (element head children)) nodes e h = (leaf-full head.kind _ e, h)
full-content (item (text scalars)) nodes e h = cc
full-content (item (element head children)) nodes e h = (item-full head.kind _ e, h)
full-content (character scalar) nodes e h = full-character scalar nodes h
full-content caret nodes e h = h

mutual
  full-piece : (piece : Piece) (pieces : Pieces) → Full (nodes_of (shown pieces)) → AllStand (contents (first piece pieces))
      → Full (nodes_of (shown (first piece pieces)))
  full-piece (bare content) pieces h s = full-content content (shown pieces) s.0 h
  full-piece (wrapped layer inner) pieces h s = (full-shown inner (stand-front (contents inner) (contents pieces) s), h)

  full-shown : (pieces : Pieces) → AllStand (contents pieces) → Full (nodes_of (shown pieces))
  full-shown nothing s = tt
  full-shown (first piece pieces) s = full-piece piece pieces (full-shown pieces (stand-rest (piece_contents piece) (contents pieces) s)) s

-- the nodes of a row have no empty text
pub full-nest : (row : List Entry) → AllStand (contents_of row) → Full (nodes_of (nest row))
full-nest row s = full-shown (pieces_of row) (subst AllStand (sym (contents-row row)) s)

-- ---- the character at a place in a text

is_within : (x y : ℕ) → nat_le x y ≡ true → x ≤ y
is_within x y h = grind (arith, nat_tests)

-- how many characters further the place is
abbrev pub further_of : Bool → ℕ
further_of true = 1
further_of false = 0

pub record TextPlaced (nodes : ViewNodes) (offset base index : ℕ) (rest : List ℕ) (meant : ℕ) (behind : Bool) : Type 0 where
  pub number : ℕ
  pub is : meant ≡ offset + number + further_of behind
  pub below : number < inner_length nodes
  pub place : place_among (further_of behind) nodes number base ≡ (base + index) ∷ rest
  pub one : is_character (item_among nodes number) ≡ true

nowhere : {behind : Bool} → (kind : Kind) (children : ViewNodes) → by_around kind (kind_at children []) None ≡ Some behind → ⊥
nowhere container children e = cc
nowhere (attribute priority id) none e = cc
nowhere (attribute priority id) (more node nodes) e = cc
nowhere empty children e = cc
nowhere ui children e = cc

module _ (inners : Inners) where
  first-placed : (node : ViewNode) (nodes : ViewNodes) (offset base number : ℕ) (rest : List ℕ) (meant : ℕ) (behind : Bool)
      → meant ≡ offset + number + further_of behind → number < model_length node
      → place_in (further_of behind) node number ≡ rest → is_character (item_in node number) ≡ true
      → TextPlaced (more node nodes) offset base 0 rest meant behind
  first-placed node nodes offset base number rest meant behind e b p c = record {
    number = number;
    is = e;
    below = omega (arith, b);
    place =
        ap (λ t. if t then base ∷ place_in (further_of behind) node number
        else place_among (further_of behind) nodes (number - model_length node) (base + 1)) (below number (model_length node) b)
        ∙ (let z : base ≡ base + 0 = omega arith in λ i. z i ∷ p i);
    one = ap (λ t. is_character (if t then item_in node number else item_among nodes (number - model_length node))) (below number (model_length node) b) ∙ c;
  }

  text-behind : (scalars : List ℕ) (nodes : ViewNodes) (offset base last meant : ℕ) (behind : Bool) → HasScalars scalars → nat_lt 0 last ≡ behind
      → (inside : Bool) → nat_le last (length scalars) ≡ inside
      → (if inside then Some ((offset + last) ∷ []) else None) ≡ Some (meant ∷ [])
      → TextPlaced (more (text scalars) nodes) offset base 0 (last ∷ []) meant behind
  text-behind scalars nodes offset base last meant behind full b false i e = cc
  text-behind [] nodes offset base last meant behind full b true i e = absurd full
  text-behind (scalar ∷ scalars) nodes offset base zero meant false full b true i e =
      let m : offset + 0 ≡ meant = cc in
      first-placed (text (scalar ∷ scalars)) nodes offset base 0 (0 ∷ []) meant false (sym m ∙ omega arith) (omega arith) refl refl
  text-behind (scalar ∷ scalars) nodes offset base zero meant true full b true i e = cc
  text-behind (scalar ∷ scalars) nodes offset base (suc last) meant true full b true i e =
      let m : offset + suc last ≡ meant = cc in
      let w : suc last ≤ length (scalar ∷ scalars) = is_within (suc last) (length (scalar ∷ scalars)) i in
      let l : last + 1 ≡ suc last = omega arith in
      first-placed (text (scalar ∷ scalars)) nodes offset base last (suc last ∷ []) meant true (sym m ∙ omega arith) (omega (arith, w))
      (ap (λ n. n ∷ []) l) refl
  text-behind (scalar ∷ scalars) nodes offset base (suc last) meant false full b true i e = absurd (never last b)
    where
      never : (n : ℕ) → nat_lt 0 (suc n) ≡ false → ⊥
      never n h = grind (arith, nat_tests)

  in_one_text : (scalars : List ℕ) (nodes : ViewNodes) (offset base : ℕ) (place : List ℕ) (meant : ℕ) (behind : Bool) → HasScalars scalars
      → kind_in (text scalars) place ≡ Some behind
      → in_text offset (length scalars) place ≡ Some (meant ∷ []) → TextPlaced (more (text scalars) nodes) offset base 0 place meant behind
  in_one_text scalars nodes offset base [] meant behind full k e = cc
  in_one_text scalars nodes offset base (last ∷ []) meant behind full k e =
      text-behind scalars nodes offset base last meant behind full (let f : Some (nat_lt 0 last) ≡ Some behind = k in cc) (nat_le last (length scalars)) refl e
  in_one_text scalars nodes offset base (index ∷ next ∷ rest) meant behind full k e = cc

  in_kind : (head : Head) (kind : Kind) → head.kind ≡ kind
      → (children nodes : ViewNodes) (offset base : ℕ) (start : ℕ) (rest : List ℕ) (meant : ℕ) (behind : Bool)
      → AroundFull kind (Full children) → by_around kind (kind_at children (start ∷ rest)) None ≡ Some behind
      → by_kind kind (meant_in inners offset children (start ∷ rest)) (in_item inners offset (start ∷ rest)) ≡ Some (meant ∷ [])
      → (Full children → kind_at children (start ∷ rest) ≡ Some behind → meant_in inners offset children (start ∷ rest) ≡ Some (meant ∷ [])
      → TextPlaced children offset 0 start rest meant behind)
      → TextPlaced (more (element head children) nodes) offset base 0 (start ∷ rest) meant behind
  in_kind head container k children nodes offset base start rest meant behind full f e ih = cc
  in_kind head (attribute priority id) k children nodes offset base start rest meant behind full f e ih =
      let p = ih full f e in
      let z : 0 + start ≡ start = omega arith in
      first-placed (element head children) nodes offset base p.number (start ∷ rest) meant behind p.is
      (subst (λ kind. p.number < length_by_kind kind (inner_length children)) (sym k) p.below)
      (ap (λ kind. by_around kind (place_among (further_of behind) children p.number 0) []) k ∙ p.place ∙ ap (λ n. n ∷ rest) z)
      (ap (λ kind. is_character (by_around kind (item_among children p.number) (Some (element head children)))) k ∙ p.one)
  in_kind head empty k children nodes offset base start rest meant behind full f e ih = cc
  in_kind head ui k children nodes offset base start rest meant behind full f e ih = cc

  mutual
    in_node : (node : ViewNode) (nodes : ViewNodes) (offset base : ℕ) (start : ℕ) (rest : List ℕ) (meant : ℕ) (behind : Bool) → FullNode node
        → kind_in node (start ∷ rest) ≡ Some behind
        → meant_in_node inners offset node (start ∷ rest) ≡ Some (meant ∷ []) → TextPlaced (more node nodes) offset base 0 (start ∷ rest) meant behind
    in_node (text scalars) nodes offset base start rest meant behind full k e = in_one_text scalars nodes offset base (start ∷ rest) meant behind full k e
    in_node (element head children) nodes offset base start rest meant behind full k e =
        in_kind head head.kind refl children nodes offset base start rest meant behind full k e
        (λ full k e. text-placed children offset 0 start rest meant behind full k e)

    -- the character before a place in a text, or behind the text's start
    pub text-placed : (nodes : ViewNodes) (offset base index : ℕ) (rest : List ℕ) (meant : ℕ) (behind : Bool) → Full nodes
        → kind_at nodes (index ∷ rest) ≡ Some behind
        → meant_in inners offset nodes (index ∷ rest) ≡ Some (meant ∷ []) → TextPlaced nodes offset base index rest meant behind
    text-placed none offset base index rest meant behind full k e = cc
    text-placed (more (text scalars) nodes) offset base zero [] meant behind full k e = cc
    text-placed (more (element head children) nodes) offset base zero [] meant behind full k e = absurd (nowhere head.kind children k)
    text-placed (more node nodes) offset base zero (start ∷ rest) meant behind full k e = in_node node nodes offset base start rest meant behind full.0 k e
    text-placed (more node nodes) offset base (suc index) rest meant behind full k e =
        let p = text-placed nodes (offset + model_length node) (base + 1) index rest meant behind full.1 k e in
        let is = p.is in
        let below = p.below in
        let less : model_length node + p.number - model_length node ≡ p.number = omega arith in
        let far : base + 1 + index ≡ base + suc index = omega arith in
        let past : nat_lt (model_length node + p.number) (model_length node) ≡ false = above (model_length node + p.number) (model_length node) (omega arith) in
        record {
          number = model_length node + p.number;
          is = is ∙ omega arith;
          below = omega (arith, below);
          place =
              ap (λ t. if t then base ∷ place_in (further_of behind) node (model_length node + p.number)
              else place_among (further_of behind) nodes (model_length node + p.number - model_length node) (base + 1)) past
              ∙ ap (λ n. place_among (further_of behind) nodes n (base + 1)) less
              ∙ p.place
              ∙ ap (λ n. n ∷ rest) far;
          one =
              ap (λ t. is_character (if t then item_in node (model_length node + p.number)
              else item_among nodes (model_length node + p.number - model_length node))) past
              ∙ ap (λ n. is_character (item_among nodes n)) less
              ∙ p.one;
        }
