use Prim.Native.Nat.{ℕ, ◌≤◌, ◌<◌}
use lib.ListN.{get_or}
use Rattle.area.specs.Layout.{pin}
use Rattle.plan.specs.Plan.{row_bits}
use Rattle.plan.proofs.gate_bits.Given as goal

abbrev pub invariant-loop-i : goal.invariant-loop-i
invariant-loop-i l =
    (l.bits ≤ row_bits) × ((k : ℕ) → k < l.i → l.bits ≤ get_or l.unseen (pin l.area l.gate k) 0)
