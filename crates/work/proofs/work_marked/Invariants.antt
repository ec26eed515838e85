use Prim.Native.Nat.{◌-◌}
use mathlib.Core.Path.{◌≡◌}
use lib.ListN.{length}
use Rattle.area.specs.Layout.{most_sources, inputs, gates}
use Rattle.area.specs.Rules.{Workable}
use Rattle.work.specs.Work.{work_marked}
use Rattle.work.proofs.work_marked.Given as goal

abbrev pub invariant-loop-gate : goal.invariant-loop-gate
invariant-loop-gate l =
    (gates l.area ≡ l.count) × (inputs l.area ≡ l.n) × Workable l.area × (length l.area ≡ length l.initial.area) × (length l.marks ≡ most_sources)
    × (work_marked l.area l.marks l.gate (l.count - l.gate) ≡ work_marked l.initial.area l.initial.marks l.from (gates l.initial.area - l.from))
