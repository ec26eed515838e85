use Prim.Native.Nat.{◌≤◌}
use Rattle.area.specs.Layout.{gates}
use Rattle.plan.specs.Plan.{NextLive}
use Rattle.plan.proofs.next_live.Given as goal

abbrev pub invariant-loop-gate : goal.invariant-loop-gate
invariant-loop-gate l = (l.gate ≤ gates l.area) × NextLive l.area l.next l.gate
