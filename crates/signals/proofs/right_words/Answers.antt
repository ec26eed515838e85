-- `signals::right_words` meets its contract: the inputs and the gates passed have their words. Assumes nothing.
use Prim.Native.Nat.{◌<◌}
use native.Mathlib.Nat.{add-zero}
use native.Mathlib.Omega.{arith}
use Rattle.area.specs.Layout as layout
use Rattle.signals.proofs.Held.{first-held, gate-held}
use Rattle.signals.proofs.right_words.Goals.{In-loop-gate}
use Rattle.signals.proofs.right_words.Goals as goal

pub loop-gate-init : goal.loop-gate-init
loop-gate-init c =
    let a = c.args in
    let ws = a.area.now in
    let start = first-held ws a.patterns.now c.requires.0 c.input_words-words.result (rw c.inputs.ensures at c.input_words-words.ensures) in
    (rw (add-zero (layout.inputs ws)) start)

-- a turn's gate
module _ (c : In-loop-gate) where
  inside : c.loop-gate.gate < layout.gates c.args.area.now
  inside = omega (arith, c.gates-gates.ensures)

pub loop-gate-preserved : goal.loop-gate-preserved
loop-gate-preserved c =
    let l = c.loop-gate in
    let a = c.args in
    (gate-held a.area.now a.patterns.now c.requires.0 l.words _ l.gate (inside (goal.at.loop-gate-preserved c).In-loop-gate) c.work_word.ensures l.invariant)
