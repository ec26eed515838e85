use Prim.Native.Nat.{◌+◌, ◌-◌, ◌≤◌}
use mathlib.Core.Path.{◌≡◌}
use Rattle.live.specs.Counted.{live_counted}
use Rattle.live.proofs.live_gates.Given as goal

abbrev pub invariant-loop-gate : goal.invariant-loop-gate
invariant-loop-gate l =
    (l.live ≤ l.gate) × (l.live + live_counted l.readers (l.inputs + l.gate) (l.gates - l.gate) ≡ live_counted l.readers l.inputs l.gates)
