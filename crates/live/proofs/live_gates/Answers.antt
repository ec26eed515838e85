-- `live::live_gates` meets its contract: what was counted and what is left come to the whole. Assumes nothing.
use Prim.Native.Nat.{◌+◌, ◌<◌}
use mathlib.Core.Path.{◌≡◌}
use native.Mathlib.Nat.{zero-add, add-zero, sub-zero}
use native.Mathlib.Omega.{arith}
use Rattle.live.proofs.Counted.{live_more, live_same, live_end}
use Rattle.live.proofs.live_gates.Goals.{then-readers-inputs-gt0, else-readers-inputs-gt0}
use Rattle.live.proofs.live_gates.Goals as goal

pub loop-gate-init : goal.loop-gate-init
loop-gate-init c = (omega arith, simp (zero-add, add-zero, sub-zero))

pub loop-gate-preserved : goal.loop-gate-preserved
loop-gate-preserved c =
    let l = c.loop-gate in
    let a = c.args in
    let inside : l.gate < a.gates = omega arith in
    elim c.if-readers-inputs-gt0.branch [
      | then-readers-inputs-gt0 w ↦
          let more = live_more a.readers.now a.inputs l.gate a.gates inside (omega (arith, w.if-readers-inputs-gt0.true)) in
          (omega arith, omega (arith, w.live-is))
      | else-readers-inputs-gt0 w ↦
          let same = live_same a.readers.now a.inputs l.gate a.gates inside (omega (arith, w.if-readers-inputs-gt0.false)) in
          (omega arith, omega (arith, w.live-is))
    ]

pub returns : goal.returns
returns c =
    let l = c.loop-gate in
    let a = c.args in
    let end : l.gate ≡ a.gates = omega arith in
    omega (arith, rw end at l.invariant.1, live_end a.readers.now (a.inputs + a.gates) a.gates)
