-- What a product's converter writes in its turn is its gift.
use Rattle.std.specs.Prelude.{◌≡◌, List, Bool, true, false, Option, Some, None, if◌then◌else◌}
use Rattle.std.proofs.Common.{refl, sym, ap, ◌∙◌}
use Rattle.converter_definitions.specs.declared.facts.Key.{Key}
use Rattle.converter_definitions.specs.declared.part.Part.{Part}
use Rattle.converter_definitions.specs.Facts.{are_left, left_without_all}
use Rattle.converter_definitions.specs.Gives.{Collected, with_gift, with_given, part}
use Rattle.conv_rules.specs.Turn.{turn, turn_if, boxed_gift, with_written}

by_test : (test : Bool) (keys : List Key) (written : Part) (made : Collected)
    → with_written (turn_if test keys written made.left).1 (turn_if test keys written made.left).0 made
    ≡ (if test then with_given (part written) (record made { left = left_without_all keys made.left }) else made)
by_test true keys written made = refl
by_test false keys written made = refl

turn_given : (given : Option (List Key × Part)) (made : Collected)
    → with_written (turn given made.left).1 (turn given made.left).0 made ≡ with_gift made (boxed_gift given)
turn_given None made = refl
turn_given (Some (keys, written)) made = by_test (are_left made.left keys) keys written made

pub nothing_written : (given : Option (List Key × Part)) (made : Collected) (left : List Key) (written : Option Part)
    → (left, written) ≡ turn given made.left → written ≡ None → record made { left = left } ≡ with_gift made (boxed_gift given)
nothing_written given made left written e none =
    ap (λ w. with_written w left made) (sym none) ∙ ap (λ (r : List Key × Option Part). with_written r.1 r.0 made) e ∙ turn_given given made

pub part_written : (given : Option (List Key × Part)) (made : Collected) (left : List Key) (written : Option Part) (one : Part)
    → (left, written) ≡ turn given made.left → written ≡ Some one → with_given (part one) (record made { left = left }) ≡ with_gift made (boxed_gift given)
part_written given made left written one e some =
    ap (λ w. with_written w left made) (sym some) ∙ ap (λ (r : List Key × Option Part). with_written r.1 r.0 made) e ∙ turn_given given made
