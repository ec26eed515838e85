use Prim.Native.Nat.{◌+◌, ◌-◌}
use mathlib.Core.Path.{◌≡◌}
use Rattle.placing.specs.Placing.{passed, sources_of}
use Rattle.placing.proofs.Sources.next.Given as goal

abbrev pub invariant-loop-gate : goal.invariant-loop-gate
invariant-loop-gate l =
    l.gate + passed (sources_of l.self.pins.now l.self.counts.now) l.self.inputs l.place l.gate (l.gates - l.gate)
    ≡ passed (sources_of l.self.pins.now l.self.counts.now) l.self.inputs l.place 0 l.gates
