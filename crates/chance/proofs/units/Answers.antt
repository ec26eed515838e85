-- `chance::units` meets its contract: the float that is converted is the flip's chance (`exact_chance`). Assumes nothing.
use mathlib.Core.Path.{ap, ◌∙◌}
use Rattle.rounding.specs.Rounding.{units_in_one, to_units}
use Rattle.chance.specs.Number.{chance_scale}
use Rattle.chance.proofs.units.Goals as goal

pub returns : goal.returns
returns c = c.nearest_units.ensures ∙ ap (to_units units_in_one chance_scale) c.exact_chance.ensures.1
