-- `figure::word_of` meets its contract. Assumes nothing.
use Prim.Native.Nat.{◌≤◌}
use native.Mathlib.Omega.{arith}
use Rattle.rounding.specs.Rounding.{units_in_one}
use Rattle.figure.proofs.Laws.{gate-step-at-most}
use Rattle.figure.proofs.word_of.Goals.{After-gate_step}
use Rattle.figure.proofs.word_of.Goals as goal

failure-fits : (c : After-gate_step) → c.gate_step.result ≤ units_in_one
failure-fits c =
    let fits = c.requires in
    rw c.gate_step.ensures (gate-step-at-most units_in_one (omega arith) _ _ fits.0 fits.1)

pub overflow_mul-result : goal.overflow_mul-result
overflow_mul-result c = omega (arith, failure-fits c)

pub overflow_add-result : goal.overflow_add-result
overflow_add-result c = omega (arith, failure-fits c)
