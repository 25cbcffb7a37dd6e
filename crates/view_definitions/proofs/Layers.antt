-- The order of layers is total, and layers that tie are equal.
use Rattle.std.proofs.Common.{◌≡◌, ℕ, List, [], ◌∷◌, ◌++◌, true, Option, Some, None, refl, sym, ap, ◌∙◌}
use Rattle.std.specs.Ordering.{int_cmp, ordering_then, is_eq}
use Rattle.std.specs.declared.cmp.Ordering.{Ordering}
use Rattle.std.specs.declared.cmp.Ordering.TheVariants.{Less, Equal, Greater}
use Rattle.std.specs.Option.{option_cmp}
use Rattle.std.specs.List.{flat_map}
use Rattle.std.specs.Cmp.{IsTotalOrder, int_cmp_total, on_total, then_total, tied_itself}
use Rattle.std.specs.Cmp.Lexicographic.{nat_list_cmp_total, lists_total, options_total}
use Rattle.std.specs.FinMap.{IsAntisymmetric, slice_cmp-IsAntisymmetric, nat_cmp-IsAntisymmetric, int_cmp-IsAntisymmetric}
use Rattle.std.proofs.lemmas.List.{append_cancel_right}
use Rattle.ck_base.specs.Entries.{name_cmp}
use Rattle.view_definitions.specs.Layer.{Layer, identity_text, pair_cmp, layer_cmp, same_layer}

pub layer_cmp-total : IsTotalOrder layer_cmp
layer_cmp-total =
    then_total (on_total (λ (l : Layer). l.priority) int_cmp_total)
    (then_total (on_total identity_text nat_list_cmp_total)
    (then_total (on_total (λ (l : Layer). l.id) (options_total nat_list_cmp_total))
    (on_total (λ (l : Layer). l.attrs)
    (lists_total (then_total (on_total (λ (p : List ℕ × List ℕ). p.0) nat_list_cmp_total) (on_total (λ (p : List ℕ × List ℕ). p.1) nat_list_cmp_total))))))

then-first : (o p : Ordering) → ordering_then o p ≡ Equal → o ≡ Equal
then-first Less p e = e
then-first Equal p e = refl
then-first Greater p e = e

then-second : (o p : Ordering) → ordering_then o p ≡ Equal → p ≡ Equal
then-second Less p e = cc
then-second Equal p e = e
then-second Greater p e = cc

same_name : IsAntisymmetric name_cmp
same_name = slice_cmp-IsAntisymmetric nat_cmp-IsAntisymmetric

same_id : (id other : Option (List ℕ)) → option_cmp name_cmp id other ≡ Equal → id ≡ other
same_id None None e = refl
same_id None (Some y) e = cc
same_id (Some x) None e = cc
same_id (Some x) (Some y) e = ap Some (same_name x y e)

same_pair : IsAntisymmetric pair_cmp
same_pair p q e =
    let keys : p.0 ≡ q.0 = same_name p.0 q.0 (then-first _ _ e) in
    let texts : p.1 ≡ q.1 = same_name p.1 q.1 (then-second _ _ e) in
    λ i. (keys i, texts i)

-- layers that tie are equal
pub tied_layers : (layer other : Layer) → layer_cmp layer other ≡ Equal → layer ≡ other
tied_layers layer other e =
    let e1 = then-second (int_cmp layer.priority other.priority) _ e in
    let e2 = then-second (name_cmp (identity_text layer) (identity_text other)) _ e1 in
    let priorities : layer.priority ≡ other.priority = int_cmp-IsAntisymmetric layer.priority other.priority (then-first _ _ e) in
    let texts : identity_text layer ≡ identity_text other = same_name _ _ (then-first _ _ e1) in
    let ids : layer.id ≡ other.id = same_id layer.id other.id (then-first _ _ e2) in
    let attributes : layer.attrs ≡ other.attrs = slice_cmp-IsAntisymmetric same_pair layer.attrs other.attrs
    (then-second (option_cmp name_cmp layer.id other.id) _ e2) in
    let behind = λ (attrs : List (List ℕ × List ℕ)). flat_map (λ (entry : List ℕ × List ℕ). 32 ∷ (entry.0 ++ 61 ∷ 34 ∷ (entry.1 ++ 34 ∷ []))) attrs in
    let names : layer.name ≡ other.name = append_cancel_right layer.name other.name (behind layer.attrs) (texts
    ∙ ap (λ attrs. other.name ++ behind attrs) (sym attributes)) in
    λ i. record { name = names i; attrs = attributes i; priority = priorities i; id = ids i }

is_eq-Equal : (o : Ordering) → is_eq o ≡ true → o ≡ Equal
is_eq-Equal Less e = cc
is_eq-Equal Equal e = refl
is_eq-Equal Greater e = cc

-- what the test of equality says
pub same_layer-true : (layer other : Layer) → same_layer layer other ≡ true → layer ≡ other
same_layer-true layer other e = tied_layers layer other (is_eq-Equal _ e)

pub same_layer-itself : (layer : Layer) → same_layer layer layer ≡ true
same_layer-itself layer = ap is_eq (tied_itself layer_cmp-total layer)
