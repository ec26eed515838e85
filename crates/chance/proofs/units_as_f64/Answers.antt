-- `chance::units_as_f64` meets its contract: a whole number of 32 bits is exact as a float, and so is its product with 2^-30. Assumes nothing.
use lib.Ieee.{of_bits}
use Rattle.chance.proofs.Exact.{scaled_exact}
use Rattle.chance.proofs.units_as_f64.Goals as goal

pub returns : goal.returns
unfolding of_bits
returns c = scaled_exact c.args.units c.ranges.units.fits
