-- `signals::sensitive_word` meets its contract: the answers with the pin inverted and as it is differ. Assumes nothing.
use mathlib.Core.Path.{◌≡◌}
use native.Mathlib.Omega.{arith}
use lib.ListN.{length}
use Rattle.signals.proofs.Answers.{sensitive-lane}
use Rattle.signals.proofs.sensitive_word.Goals as goal

pub returns : goal.returns
returns c l less =
    let four : length c.args.pins ≡ 4 = c.well_formed.1.1.0.1.0.1 in
    sensitive-lane l c.args.table c.args.count c.args.pin c.answer.result c.args.right c.args.pins less
    c.requires.count_le_most_pins.1
    (omega (arith, c.requires.count_le_most_pins.0, c.requires.count_le_most_pins.1))
    (c.answer.ensures l less)
    (c.requires.in_each_lane l less)
