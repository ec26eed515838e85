use Prim.Native.Nat.{◌-◌}
use mathlib.Core.Path.{◌≡◌}
use lib.ListN.{length}
use Rattle.area.specs.Layout.{gates}
use Rattle.area.specs.Rules.{Workable}
use Rattle.work.specs.Work.{work_gates}
use Rattle.work.proofs.work_gates.Given as goal

abbrev pub invariant-loop-gate : goal.invariant-loop-gate
invariant-loop-gate l =
    (gates l.area ≡ l.count) × Workable l.area × (work_gates l.area l.gate (l.count - l.gate) ≡ work_gates l.initial.area 0 (gates l.initial.area))
    × (length l.area ≡ length l.initial.area)
