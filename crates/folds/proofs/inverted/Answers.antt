-- `folds::inverted` meets its contract. Assumes nothing.
use mathlib.Core.Path.{◌≡◌}
use native.Mathlib.Omega.{arith}
use lib.ListN.{length}
use Rattle.signals.proofs.Answers.{pins-inverted}
use Rattle.folds.proofs.inverted.Goals as goal

pub returns : goal.returns
returns c l count less used =
    let four : length c.args.pins ≡ 4 = c.well_formed.0.1.0.1 in
    pins-inverted l less count c.args.number c.args.pins used (omega (arith, c.requires))
