-- `folds::wrong_lanes` meets its contract. Assumes nothing.
use Prim.Native.Nat.{◌+◌}
use mathlib.Core.Bool.{Bool}
use mathlib.Core.Path.{ap, ◌∙◌}
use native.Mathlib.Omega.{arith}
use lib.Bits.{bit_xor}
use Rattle.area.specs.Layout.{table, pin_count}
use Rattle.figure.specs.Figure.{answer, invert_if}
use Rattle.signals.proofs.Answers.{differs}
use Rattle.signals.proofs.Lanes.{lane_xor}
use Rattle.signals.specs.Signals.{lane, pin_lanes}
use Rattle.rows.proofs.Lanes.{half-lane}
use Rattle.folds.proofs.wrong_lanes.Goals as goal

pub returns : goal.returns
returns c l less =
    let at = c.args.shift + l in
    let found = c.gate_answer.result in
    half-lane c.args.shift l (bit_xor found c.args.right) less
    ∙ lane_xor at found c.args.right
    ∙ ap (λ (b : Bool). invert_if b (lane at c.args.right)) (c.gate_answer.ensures at (omega (arith, c.requires.2)))
    ∙ differs (answer (table c.args.area.now c.args.gate) (pin_lanes at (pin_count c.args.area.now c.args.gate) c.args.pins))
    (lane at c.args.right)
