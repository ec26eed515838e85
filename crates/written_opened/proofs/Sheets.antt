-- The worked gates, by computation. Assumes nothing.
use mathlib.Core.Path.{refl}
use Rattle.rounding.specs.Rounding.{round_div, to_units}
use Rattle.chance.specs.Number.{chance_scale, whole_chance}
use Rattle.flips.specs.Written.{units_kind}
use Rattle.written_opened.specs.Sheets.{KeepingsHold}

pub keepings-hold : KeepingsHold
unfolding chance_scale whole_chance round_div to_units units_kind
keepings-hold = refl
