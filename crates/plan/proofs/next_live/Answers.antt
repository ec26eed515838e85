-- `plan::next_live` meets its contract: from the gate reached on, each has the lowest live one after it. Assumes nothing.
use Prim.Native.Nat.{◌+◌, ◌-◌}
use mathlib.Core.Path.{◌≡◌, subst}
use native.Mathlib.Nat.{le_refl}
use native.Mathlib.Omega.{arith}
use Rattle.area.specs.Layout.{gates}
use Rattle.plan.specs.Plan.{NextLive}
use Rattle.plan.proofs.Laws.{next-none, next_more}
use Rattle.plan.proofs.next_live.Goals.{In-loop-gate}
use Rattle.plan.proofs.next_live.Goals as goal

pub loop-gate-init : goal.loop-gate-init
loop-gate-init c =
    rw c.gates-count.ensures (le_refl (gates c.args.area.now), next-none c.args.area.now (omega (arith, c.requires.gates_fit)))

pub loop-gate-preserved : goal.loop-gate-preserved
loop-gate-preserved c =
    let l = c.loop-gate in
    let ws = c.args.area.now in
    let counted = c.count_readers-readers in
    let after : l.gate ≡ l.gate - 1 + 1 = omega arith in
    let made = rw c.inputs-inputs.ensures at c.next_from.ensures in (
      omega (arith, l.invariant.0),
      next_more ws (l.gate - 1) (omega (arith, l.invariant.0)) l.next counted.result c.next_from.result c.requires counted.ensures
          (subst (NextLive ws l.next) after l.invariant.1)
          made.value
          made.value_2,
    )
