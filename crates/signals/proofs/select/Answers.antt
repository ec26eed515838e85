-- `signals::select` meets its contract: in each lane one of the two values is chosen. Assumes nothing.
use mathlib.Core.Bool.{Bool, true, false, cond, ◌&&◌}
use mathlib.Core.Path.{◌≡◌, refl, ap, ◌∙◌}
use lib.Bits.{bit_and, bit_xor}
use Rattle.figure.specs.Figure.{invert_if}
use Rattle.signals.specs.Signals.{lane}
use Rattle.signals.proofs.Lanes.{lane_xor, lane_and}
use Rattle.signals.proofs.select.Goals as goal

chosen : (by one zero : Bool) → invert_if zero (invert_if zero one && by) ≡ cond by one zero
chosen true true true = refl
chosen true true false = refl
chosen true false true = refl
chosen true false false = refl
chosen false true true = refl
chosen false true false = refl
chosen false false true = refl
chosen false false false = refl

pub returns : goal.returns
returns c l less =
    let zero = c.args.zero in
    let one = c.args.one in
    let by = c.args.by in
    lane_xor l zero (bit_and (bit_xor zero one) by)
    ∙ ap (invert_if (lane l zero)) (lane_and l (bit_xor zero one) by ∙ ap (λ (x : Bool). x && lane l by) (lane_xor l zero one))
    ∙ chosen (lane l by) (lane l one) (lane l zero)
