-- `work::work_gates` meets its contract: what is left to work out comes to the same, and the area stays workable. Assumes nothing.
use Prim.Native.Nat.{◌<◌}
use mathlib.Core.Path.{◌∙◌}
use native.Mathlib.Omega.{arith}
use Rattle.area.specs.Layout.{gates}
use Rattle.work.proofs.Frame.{same_gates, same-work-gate}
use Rattle.work.proofs.Sound.{workable-work-gate}
use Rattle.work.proofs.Loops.{gates-turn}
use Rattle.work.proofs.work_gates.Goals as goal

pub loop-gate-preserved : goal.loop-gate-preserved
loop-gate-preserved c =
    let l = c.loop-gate in
    let e = c.work_gate.ensures in
    let below : l.gate < gates l.area = omega (arith, l.invariant.0) in
    let same = same-work-gate l.area l.gate below in (
      rw e (same_gates l.area _ same ∙ l.invariant.0),
      rw e (workable-work-gate l.area l.invariant.1 l.gate below),
      gates-turn l.area c.work_gate.new.area l.gate _ (omega arith) e l.invariant.2,
      rw e same.size ∙ l.invariant.3,
    )
