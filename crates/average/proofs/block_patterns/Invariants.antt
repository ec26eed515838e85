use Prim.Native.Nat.{ℕ, ◌+◌, ◌%◌, ◌^◌}
use Rattle.rows.proofs.Fill.{Filled}
use Rattle.signals.specs.Signals.{lane_count}
use Rattle.average.proofs.block_patterns.Given as goal

abbrev pub invariant-loop-l : goal.invariant-loop-l
invariant-loop-l l =
    Filled lane_count (λ (k : ℕ). (l.first + k) % 2 ^ l.inputs) l.pattern-items l.l
