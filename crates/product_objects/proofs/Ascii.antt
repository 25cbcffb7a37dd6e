-- Words of ASCII characters, whose bytes are their Unicode scalar values.
use Rattle.std.proofs.Common.{◌≡◌, codes, refl}
use Rattle.std.specs.Str.{chars}

pub mention : chars (codes "mention") ≡ codes "mention"
unfolding chars
mention = refl

pub nothing : chars (codes "") ≡ codes ""
unfolding chars
nothing = refl

pub at_sign : chars (codes "@") ≡ codes "@"
unfolding chars
at_sign = refl

pub checkbox : chars (codes "checkbox") ≡ codes "checkbox"
unfolding chars
checkbox = refl

pub checked : chars (codes "checked") ≡ codes "checked"
unfolding chars
checked = refl

pub anchor : chars (codes "anchor-") ≡ codes "anchor-"
unfolding chars
anchor = refl
