use Prim.Native.Nat.{◌+◌, ◌-◌, ◌≤◌, ◌<◌}
use lib.ListN.{get_or}
use Rattle.area.specs.Layout.{inputs, gates}
use Rattle.sets.specs.Branches.{WorkedTo}
use Rattle.sets.proofs.Marked.work_to_shared.Given as goal

abbrev pub invariant-loop-gate : goal.invariant-loop-gate
invariant-loop-gate l =
    (l.from ≤ l.gate) × (l.gate ≤ gates l.initial.area) × (l.gate < gates l.initial.area → 0 < get_or l.self.marks.now (inputs l.initial.area + l.gate) 0) × WorkedTo l.initial.area l.self.marks.now l.area l.from l.gate

abbrev pub decreases-loop-gate : goal.decreases-loop-gate
decreases-loop-gate l = l.count - l.gate
