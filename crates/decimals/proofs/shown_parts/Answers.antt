-- `decimals::shown_parts` meets its contract: equal fractions round alike. Assumes nothing.
use Prim.Native.Nat.{◌*◌}
use mathlib.Core.Path.{◌∙◌}
use native.Mathlib.Omega.{arith}
use Rattle.rounding.specs.Rounding.{units_in_one}
use Rattle.rounding.proofs.Laws.{near, same-fraction}
use Rattle.decimals.specs.Decimals.{parts_in_one, shown_parts}
use Rattle.decimals.proofs.shown_parts.Goals as goal

pub returns : goal.returns
unfolding shown_parts
returns c =
    let units = c.args.units in
    let fits = c.ranges.units.fits in
    let close = near (2 * units * 9_765_625) 2_097_152 (omega arith) in (
      c.rounded.ensures
          ∙ same-fraction (2 * units * 9_765_625) 2_097_152 (units * parts_in_one) units_in_one (omega arith) (omega arith) (omega arith),
      omega (arith, c.rounded.ensures, close.up, fits),
    )
