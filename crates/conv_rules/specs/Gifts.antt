-- What converters give in the program, as the definitions have it.
use Rattle.std.specs.Prelude.{Option, option_map}
use Rattle.converter_definitions.specs.Gives as meant
use Rattle.conv_rules.specs.declared.gift.Given.{Given}
use Rattle.conv_rules.specs.declared.gift.Given.TheVariants as given
use Rattle.conv_rules.specs.declared.gift.Gift.{Gift}
use Rattle.conv_rules.specs.declared.gift.Collected.{Collected}

-- what a converter writes, as the definitions have it
abbrev pub given_view : Given → meant.Given
given_view (given.Part part) = meant.part part
given_view (given.Around outer) = meant.layer outer

-- and with the keys that it consumes
abbrev pub gift_view : Gift → meant.Gift
gift_view gift = (gift.keys.items, given_view gift.given)

-- that of a converter that may give nothing
abbrev pub gift_viewed : Option Gift → Option meant.Gift
gift_viewed gift = option_map gift_view gift

-- what all converters gave so far
abbrev pub made_view : Collected → meant.Collected
made_view made = record { left = made.left; form = made.form; extras = made.extras.items; layers = made.layers.items }
